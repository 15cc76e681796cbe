use Rattle.std.proofs.Common.{◌≡◌, ◌≤◌, ⊎_elim, ℕ, ◌+◌, ◌==◌, ◌&&◌, ◌||◌, not, nat_lt, Bool, true, false, List, [], ◌∷◌, Option, Some, None, get_or, length, take, refl, sym, subst, ap, ap₂, ◌∙◌, arith}
use Rattle.std.specs.List.{list_any}
use Rattle.std.proofs.Math.ListN.{get_or-eq_default}
use Rattle.std.proofs.Math.Nat.{min-le_left}
use Rattle.std.proofs.lemmas.Bool.{cases_lt}
use Rattle.std.proofs.lemmas.List.{length-map, length-take, take_all, take_more}
use Rattle.std.proofs.lemmas.List.Folds.{list_any-append}
use Rattle.nego_expr.specs.Targets.{target_of}
use Rattle.nego_expr.specs.Use.{same_target}
use Rattle.nego_expr.proofs.targets.Targets.others.Goals as goal

-- what both ask is asked of either
spread : (l n a t : Bool) → ((l && (n && a)) || (l && (n && t))) ≡ (l && (n && (a || (t || false))))
spread false n a t = refl
spread true false a t = refl
spread true true true t = refl
spread true true false true = refl
spread true true false false = refl

or_nothing : (b : Bool) → b ≡ (b || (false || false))
or_nothing true = refl
or_nothing false = refl

-- some target of one agent more, where past the end each has none
any_more : (is : Option ℕ → Bool) → is None ≡ false → (ts : List (Option ℕ)) (a : ℕ) → list_any is (take (a + 1) ts) ≡ (list_any is (take a ts) || (is (get_or ts a None) || false))
any_more is none ts a = ⊎_elim
    (λ l. ap (list_any is) (take_more ts a None l) ∙ list_any-append is (take a ts) (get_or ts a None ∷ []))
    (λ l.
    let all : take a ts ≡ ts = take_all a ts (omega (arith, l)) in
    let more : take (a + 1) ts ≡ ts = take_all (a + 1) ts (omega (arith, l)) in
    let past : is (get_or ts a None) ≡ false = ap is (get_or-eq_default ts None (omega (arith, l))) ∙ none in
    ap (list_any is) (more ∙ sym all) ∙ (or_nothing (list_any is (take a ts)) ∙ ap (λ b. list_any is (take a ts) || (b || false)) (sym past)))
    (cases_lt a (length ts))

pub loop-a-preserved : goal.loop-a-preserved
loop-a-preserved c m =
    let is = λ (target : Option ℕ). same_target target (Some m) in
    let a = c.loop-a.a in
    let ts = c.args.self.now in
    c.with_other-atoms.ensures m
    ∙ (ap₂ (λ b t. b || (nat_lt m 64 && (not (c.args.n.0 == m) && is t))) (c.loop-a.invariant m) c.entry.ensures.value
    ∙ (spread (nat_lt m 64) (not (c.args.n.0 == m)) (list_any is (take a ts)) (is (get_or ts a None)) ∙ ap (λ b. nat_lt m 64 && (not (c.args.n.0 == m) && b)) (sym (any_more is refl ts a))))

pub returns : goal.returns
returns c m =
    let kept = c.self.inside.entries in
    let agents = c.self.inside.agents in
    let seen : length c.args.self.now ≤ agents = subst (λ n. n ≤ agents) (sym (ap length (sym c.self.view_is) ∙ (length-map (take agents kept) target_of ∙ length-take agents kept))) (min-le_left agents (length kept)) in
    let all : take c.loop-a.a c.args.self.now ≡ c.args.self.now = take_all c.loop-a.a c.args.self.now (omega (arith, seen, c.self.invariant, c.loop-a-test.false)) in
    c.loop-a.invariant m ∙ ap (λ (ts : List (Option ℕ)). nat_lt m 64 && (not (c.args.n.0 == m) && list_any (λ target. same_target target (Some m)) ts)) all
