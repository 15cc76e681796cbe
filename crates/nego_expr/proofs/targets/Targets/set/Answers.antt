use Rattle.std.proofs.Common.{◌≡◌, ◌≤◌, ◌∙◌, ℕ, suc, ◌+◌, Some, length, map, set, take, refl, subst, sym, ap, ap₂, arith}
use Rattle.std.proofs.lemmas.List.{length-map, length-take, map-set}
use Rattle.std.proofs.Math.Nat.{min-le_left}
use Rattle.std.proofs.Math.Seq.{take-set-lt}
use Rattle.nego_expr.specs.Targets.{target_of}
use Rattle.nego_expr.proofs.targets.Targets.set.Goals as goal

-- what is kept of an atom
kept_is : (n : ℕ) → target_of (n + 1) ≡ Some n
kept_is n = subst (λ k. target_of k ≡ Some n) {x = suc n} {y = n + 1} (omega arith) refl

pub returns : goal.returns
returns c =
    let kept = c.self.inside.entries in
    let agents = c.self.inside.agents in
    let a = c.args.a.0 in
    let long : length c.args.self.now ≤ agents = subst (λ n. n ≤ agents) (sym (ap length (sym c.self.view_is) ∙ (length-map (take agents kept) target_of ∙ length-take agents kept))) (min-le_left agents (length kept)) in
    ap (map target_of) (take-set-lt agents kept a (c.args.n.0 + 1) (omega (arith, c.requires.agent, long)))
    ∙ (map-set target_of (take agents kept) a (c.args.n.0 + 1) ∙ ap₂ (λ xs t. set xs a t) c.self.view_is (kept_is c.args.n.0))
