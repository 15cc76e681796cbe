use Rattle.std.proofs.Common.{◌≡◌, ◌∙◌, length, take, ap, subst}
use Rattle.std.specs.Prelude.{OnOk}
use Rattle.nego_data.specs.Data.{split}
use Rattle.nego_base.specs.Appending.{Appends}
use Rattle.nego_cli.specs.Refusals.{value_words}
use Rattle.nego_cli.proofs.NamedPlaces.{front_values}
use Rattle.nego_cli.proofs.joint_text.add_joint.Goals as goal

pub returns : goal.returns
returns c =
    let sizes = c.args.sizes.now in
    let d = c.args.d in
    let are : take c.count.result c.split-values.result ≡ split sizes d =
    ap (λ n. take n c.split-values.result) c.count.ensures.value ∙ (ap (take (length sizes)) c.split-values.ensures.value ∙ front_values sizes d) in
    subst (λ vs. OnOk c.add_numbers.result (Appends c.args.text.now c.add_numbers.new.text (value_words vs))) are c.add_numbers.ensures
