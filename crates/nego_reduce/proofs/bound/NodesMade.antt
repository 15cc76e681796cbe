-- How many nodes each next use makes.
use Rattle.std.proofs.Common.{◌≡◌, ℕ, ◌+◌, false, [], ◌∷◌, length, sym, subst, ap, ◌∙◌}
use Rattle.std.specs.Option.{option_map_or}
use Rattle.std.proofs.lemmas.Bool.{cond_both}
use Rattle.std.proofs.lemmas.List.{length-append}
use Rattle.nego_model.specs.Expression.{Join}
use Rattle.nego_expr.specs.Work.{WorkOutcome, PlainWork, IsWork, outcome_at, outcomes_at}
use Rattle.nego_expr.specs.Use.{PlainUse, Merge, Iterate, Shortcut, Close, after_use, merges, iterates, entered, gone_through, without_unentered, is_entered, closes, opening_outcome}
use Rattle.nego_expr.specs.Edits.{nodes_then, without_atom}
use Rattle.nego_expr.proofs.EditCalls.{allowed_at, found_itself}
use Rattle.nego_merge.proofs.MergeKeeps.{merged-pair}
use Rattle.nego_iterate.proofs.IterateKeeps.{iterated-one, nodes-iterated}
use Rattle.nego_shortcut.proofs.ShortShows.{shortcut_is}
use Rattle.nego_shortcut.proofs.CloseKeeps.{closes_parts, closed-one, nodes-closed}
use Rattle.nego_reduce.specs.Order.{IsNextUse}
use Rattle.nego_reduce.proofs.bound.NextUsesLower.{shortcut_parts}

-- how many nodes a use of the order makes: an iteration one for each outcome of the atom, a closing one for each outcome
-- of the last atom, any other use one
abbrev pub nodes_made : PlainWork → PlainUse → ℕ
nodes_made work (Merge o1 o2) = 1
nodes_made work (Iterate o) = option_map_or (λ x. length (outcomes_at work x.atom)) (outcome_at work o) 0
nodes_made work (Shortcut o n) = 1
nodes_made work Close = length (outcomes_at work work.last)

-- a shortcut into an atom of one outcome makes one
nodes-entered : (work : PlainWork) (x y : WorkOutcome) (n : ℕ) → outcomes_at work n ≡ y ∷ [] → length (entered work x n).nodes ≡ length work.nodes + 1
nodes-entered work x y n one =
    let gone = gone_through work n x (y ∷ []) in
    let grown : length gone.nodes ≡ length work.nodes + 1 = length-append work.nodes (nodes_then x.node (y ∷ [])) in
    subst (λ ys. length (without_unentered n (gone_through work n x ys)).nodes ≡ length work.nodes + 1) (sym one)
    (cond_both (is_entered gone n) gone (without_atom n gone) (λ w. length w.nodes ≡ length work.nodes + 1) (λ e. grown) (λ e. grown))

-- each next use makes its nodes
pub nodes-after : (work : PlainWork) (next : PlainUse) → IsWork work → IsNextUse work next → length (after_use work next).nodes ≡ length work.nodes + nodes_made work next
nodes-after work (Merge o1 o2) ok h =
    let x = allowed_at (λ z. option_map_or (merges work z) (outcome_at work o2) false) (outcome_at work o1) h.allowed in
    let y = allowed_at (merges work x.0) (outcome_at work o2) x.2 in
    ap (λ w. length w.nodes) (merged-pair work o1 o2 x.0 y.0 x.1 y.1) ∙ length-append work.nodes (Join x.0.node y.0.node ∷ [])
nodes-after work (Iterate o) ok h =
    let x = allowed_at (iterates work) (outcome_at work o) h.1.allowed in
    ap (λ w. length w.nodes) (iterated-one work o x.0 x.1)
    ∙ (nodes-iterated work x.0 ok (found_itself work o x.0 x.1)
    ∙ ap (λ found. length work.nodes + option_map_or (λ z. length (outcomes_at work z.atom)) found 0) (sym x.1))
nodes-after work (Shortcut o n) ok h =
    let k = shortcut_parts work o n h.2.taken in
    ap (λ w. length w.nodes) (shortcut_is work o n k.outcome k.found) ∙ nodes-entered work k.outcome k.through n k.one
nodes-after work Close ok h =
    let x = allowed_at (closes work) (opening_outcome work) h.3 in
    ap (λ w. length w.nodes) (closed-one work x.0 x.1) ∙ nodes-closed work x.0 (closes_parts work x.0 x.1 x.2).apart
