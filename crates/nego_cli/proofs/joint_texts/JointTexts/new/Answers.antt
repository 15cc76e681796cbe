use Rattle.std.proofs.Common.{◌≡◌, ◌∙◌, [], ◌∷◌, ◌++◌, ℕ, List, length, ap, subst, sym, arith}
use Rattle.std.proofs.lemmas.List.{length-append}
use Rattle.nego_data.specs.Data.{data_count}
use Rattle.nego_cli.proofs.JointTexts.{AreEmpty, empty-more, none_made}
use Rattle.nego_cli.proofs.joint_texts.JointTexts.new.Goals as goal

pub loop-d-preserved : goal.loop-d-preserved
loop-d-preserved c =
    let texts = c.loop-d.texts in
    let pushed = c.in_ok-push.ensures.ok ∙ ap (λ (text : List ℕ). texts ++ text ∷ []) c.new.ensures in
    let counted = ap length pushed ∙ length-append texts ([] ∷ []) in
    let long = c.loop-d.invariant.long in
    record {
      long = omega (arith, counted, long);
      empty = subst AreEmpty (sym pushed) (empty-more texts c.loop-d.invariant.empty);
    }

pub returns-clause-texts : goal.returns-clause-texts
returns-clause-texts c =
    let long = c.loop-d.invariant.long in
    let all = c.all-d-end.ensures.value in
    let as_many : length c.loop-d.texts ≡ data_count c.args.sizes.now = omega (arith, long, all) in
    none_made c.args.sizes.now c.loop-d.texts as_many c.loop-d.invariant.empty
