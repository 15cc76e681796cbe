use Rattle.std.proofs.Common.{◌≡◌, ◌∙◌, ◌++◌, [], unwrap_or, sym, ap}
use Rattle.nego_base.specs.Appending.{Appends}
use Rattle.nego_data.specs.Data.{split}
use Rattle.nego_cli.specs.Refusals.{value_words}
use Rattle.nego_cli.proofs.JointTexts.{appends_values}
use Rattle.nego_cli.proofs.NamedPlaces.{then_ok}
use Rattle.nego_cli.proofs.joint_texts.JointTexts.add.Goals as goal

pub returns-clause-added : goal.returns-clause-added
returns-clause-added c =
    let old = c.args.text.now in
    let new = c.extend_from_slice.new.self in
    let words = c.as_slice.result.now in
    let values = split c.args.self.now.sizes.now c.args.d in
    let are : words ≡ value_words values [] = c.as_slice.ensures ∙ ap (λ o. unwrap_or o []) (sym c.index.ensures ∙ c.in_ok-make.ensures.made) in
    then_ok c.extend_from_slice.result (new ≡ old ++ words) (Appends old new (value_words values)) (λ e. appends_values old new words values e are) c.extend_from_slice.ensures.ok
