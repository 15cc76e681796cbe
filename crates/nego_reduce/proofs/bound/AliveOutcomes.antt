-- The alive outcomes of the works to which the order's uses lead: no more than the diagram's, and of its numbers.
use Rattle.std.proofs.Common.{◌≡◌, ℕ, false, List, [], ◌∷◌, length, refl, sym, subst, ap, ◌∙◌, arith}
use Rattle.std.specs.Option.{option_map_or}
use Rattle.std.proofs.lemmas.Bool.{cond_both}
use Rattle.nego_model.specs.Diagram.{PlainDiagram}
use Rattle.nego_expr.specs.Work.{WorkOutcome, PlainWork, outcome_at, outcomes_at}
use Rattle.nego_expr.specs.Use.{PlainUse, Merge, Iterate, Shortcut, Close, after_use, merges, iterates, entered, gone_through, without_unentered, is_entered, closes, opening_outcome}
use Rattle.nego_expr.specs.Edits.{without_atom}
use Rattle.nego_expr.specs.Fresh.{fresh_work}
use Rattle.nego_expr.specs.Lead.{Lead}
use Rattle.nego_expr.proofs.EditCalls.{allowed_at}
use Rattle.nego_merge.proofs.MergeKeeps.{merged-pair}
use Rattle.nego_iterate.proofs.IterateKeeps.{iterated-one}
use Rattle.nego_shortcut.proofs.ShortShows.{shortcut_is}
use Rattle.nego_shortcut.proofs.CloseKeeps.{closed-one}
use Rattle.nego_reduce.specs.Order.{IsNextUse}
use Rattle.nego_reduce.specs.Laws.{AliveAreOfTheDiagram}
use Rattle.nego_reduce.proofs.bound.NextUsesLower.{shortcut_parts}
use Rattle.nego_reduce.proofs.bound.FewUses.{few_alive}

-- a shortcut into an atom of one outcome makes no number
numbers-entered : (work : PlainWork) (x y : WorkOutcome) (n : ℕ) → outcomes_at work n ≡ y ∷ [] → (entered work x n).numbers ≡ work.numbers
numbers-entered work x y n one =
    let gone = gone_through work n x (y ∷ []) in
    let kept : gone.numbers ≡ work.numbers = omega arith in
    subst (λ ys. (without_unentered n (gone_through work n x ys)).numbers ≡ work.numbers) (sym one)
    (cond_both (is_entered gone n) gone (without_atom n gone) (λ w. w.numbers ≡ work.numbers) (λ e. kept) (λ e. kept))

-- no next use makes one
pub numbers-after : (work : PlainWork) (next : PlainUse) → IsNextUse work next → (after_use work next).numbers ≡ work.numbers
numbers-after work (Merge o1 o2) h =
    let x = allowed_at (λ z. option_map_or (merges work z) (outcome_at work o2) false) (outcome_at work o1) h.allowed in
    let y = allowed_at (merges work x.0) (outcome_at work o2) x.2 in
    ap (λ w. w.numbers) (merged-pair work o1 o2 x.0 y.0 x.1 y.1)
numbers-after work (Iterate o) h = let x = allowed_at (iterates work) (outcome_at work o) h.1.allowed in ap (λ w. w.numbers) (iterated-one work o x.0 x.1)
numbers-after work (Shortcut o n) h =
    let k = shortcut_parts work o n h.2.taken in
    ap (λ w. w.numbers) (shortcut_is work o n k.outcome k.found) ∙ numbers-entered work k.outcome k.through n k.one
numbers-after work Close h = let x = allowed_at (closes work) (opening_outcome work) h.3 in ap (λ w. w.numbers) (closed-one work x.0 x.1)

numbers-led : (work end : PlainWork) (uses : List PlainUse) → Lead IsNextUse work uses end → end.numbers ≡ work.numbers
numbers-led work end [] leads = ap (λ w. w.numbers) (sym leads)
numbers-led work end (next ∷ uses) leads = numbers-led (after_use work next) end uses leads.2 ∙ numbers-after work next leads.0

fresh_numbers : (diagram : PlainDiagram) → (fresh_work diagram).numbers ≡ length diagram.outcomes
unfolding fresh_work
fresh_numbers diagram = refl

-- the alive outcomes are of the diagram
pub alive_are_of_the_diagram : AliveAreOfTheDiagram
alive_are_of_the_diagram diagram work end uses fresh leads =
    (few_alive diagram work end uses fresh leads, numbers-led work end uses leads ∙ (ap (λ w. w.numbers) fresh.fresh ∙ fresh_numbers diagram))
