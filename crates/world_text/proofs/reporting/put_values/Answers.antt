use Rattle.std.proofs.Common.{◌≡◌, ◌∙◌, ◌++◌, length, take, ap, subst}
use Rattle.std.specs.Prelude.{OnOk}
use Rattle.nego_data.specs.Data.{split}
use Rattle.nego_data.specs.Sizes.{tuple_of}
use Rattle.world_text.specs.ReportText.{number_words}
use Rattle.world_text.proofs.Fronts.{front_values}
use Rattle.world_text.proofs.reporting.put_values.Goals as goal

pub returns : goal.returns
returns c =
    let sizes = c.args.d.now.sizes in
    let values = c.split-values.result in
    let d = c.args.joint in
    let count : c.count.result ≡ length sizes = c.count.ensures.value ∙ ap length c.sizes-2.ensures in
    let are : take c.count.result values ≡ split sizes d = ap (λ n. take n values) count ∙ (ap (take (length sizes)) c.split-values.ensures.value ∙ (ap (λ s. take (length sizes) (tuple_of s d)) c.sizes.ensures ∙ front_values sizes d)) in
    subst (λ vs. OnOk c.put_numbers.result (c.put_numbers.new.text ≡ c.args.text.now ++ number_words vs)) are c.put_numbers.ensures
