use Rattle.std.proofs.Common.{◌≡◌, ◌∙◌, [], ◌∷◌, length, replicate, ap}
use Rattle.nego_base.specs.Members.{with_member}
use Rattle.nego_model.proofs.occurrence.MarkingArrays.{same_kept}
use Rattle.nego_model.proofs.marking.Marking.opening.Goals as goal

pub returns : goal.returns
returns c =
    let first : c.with-first.result ≡ c.args.d.now.first ∷ [] =
    c.with-first.ensures.value ∙ (ap (with_member c.first.result.0) c.none.ensures.value ∙ ap (λ n. n ∷ []) c.first.ensures.value) in
    record {
      value = same_kept (length c.args.d.now.agents) c.with-first.result (c.args.d.now.first ∷ []) c.first.ensures.limits.few_agents first;
      entries = ap (λ here. replicate 16 here) first;
    }
