use Rattle.std.proofs.Common.{◌≡◌, ◌<◌, ◌∷◌, ◌++◌, List, ℕ, All, length, map, sym, ap, subst, ◌∙◌}
use Rattle.std.specs.List.{flat_map}
use Rattle.std.proofs.lemmas.List.Elements.{All-tail}
use Rattle.agent_msg.specs.Records.{share}
use Rattle.world_text.specs.ReportText.{share_words}
use Rattle.world_text.proofs.Putting.{line_more}
use Rattle.world_text.proofs.reporting.put_shares.Goals as goal

pub loop-a-preserved : goal.loop-a-preserved
loop-a-preserved c =
    let d = c.args.d.now in
    let a = c.in-Some.a.0 in
    let rest = c.without-left.result in
    let of = share c.args.visits.now c.args.afters.now in
    let is : c.loop-a.left ≡ a ∷ rest = c.in-Some.ensures.rest ∙ ap (λ (xs : List ℕ). a ∷ xs) (sym c.without-left.ensures.value) in (
      line_more (share_words d) (map of c.loop-a.left) (map of rest) (of a) c.loop-a.text c.put_share.new.text (c.args.text.now ++ flat_map (share_words d) (map of c.args.parties)) (ap (map of) is) c.in_ok-put_share.ensures c.loop-a.invariant.0,
      All-tail (λ a. a < length d.agents) a rest (subst (λ (xs : List ℕ). All (λ a. a < length d.agents) xs) is c.loop-a.invariant.1),
    )
