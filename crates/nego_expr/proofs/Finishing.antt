-- How the final outcomes of a work of one atom are made, one by one.
use Rattle.std.proofs.Common.{◌≡◌, ◌∙◌, ℕ, ◌+◌, ◌<◌, Bool, true, ◌==◌, List, [], ◌∷◌, ◌++◌, length, map, filter, drop, get_or, IsTrue, ap, sym, refl, arith, eq-eqb}
use Rattle.std.specs.List.{All}
use Rattle.std.proofs.lemmas.Bool.{cond-true}
use Rattle.std.proofs.lemmas.List.{append_assoc, map-append, get_or-map, length-map, length_push, drop_more}
use Rattle.std.proofs.lemmas.List.Elements.{All-head, All-tail, All-weaker}
use Rattle.nego_base.specs.Members.{is_in}
use Rattle.nego_model.specs.Summary.{PlainFinal}
use Rattle.nego_expr.specs.declared.summary.Final.{Final}
use Rattle.nego_expr.specs.declared.outcome.Outcome.{Outcome}
use Rattle.nego_expr.specs.Work.{PlainWork, IsWork, outcomes_at}
use Rattle.nego_expr.specs.Finish.{finals_of}
use Rattle.nego_expr.specs.SummaryText.{plain_final}
use Rattle.nego_expr.specs.WorkView.{plain_outcome}
use Rattle.nego_expr.proofs.OneAtomLeft.{only_last}

-- a filter that all items pass keeps all
filter-all : {A : Type 0} (test : A → Bool) (xs : List A) → All (λ x. test x ≡ true) xs → filter test xs ≡ xs
filter-all test [] h = refl
filter-all test (x ∷ xs) h =
    cond-true (test x) (x ∷ filter test xs) (filter test xs) (All-head (λ y. test y ≡ true) x xs h) ∙ ap (λ ys. x ∷ ys) (filter-all test xs (All-tail (λ y. test y ≡ true) x xs h))

-- all outcomes of a work of one atom are of the last atom
pub all_at_last : (work : PlainWork) → IsWork work → length work.atoms ≡ 1 → outcomes_at work work.last ≡ work.outcomes
all_at_last work ok one =
    filter-all (λ outcome. outcome.atom == work.last) work.outcomes
    (All-weaker (λ outcome. IsTrue (is_in outcome.atom (map (λ atom. atom.number) work.atoms))) (λ outcome. (outcome.atom == work.last) ≡ true) (λ outcome there. eq-eqb outcome.atom work.last (only_last work ok one outcome.atom there)) work.outcomes ok.own_atom)

-- one final outcome more: the next name, with the node of the outcome at its place
pub next_final : (finals more : List Final) (name : List ℕ) (names : List (List ℕ)) (outcomes : List Outcome) (d x : Outcome) →
    length finals < length outcomes → get_or outcomes (length finals) d ≡ x → more ≡ finals ++ record { name = name; node = x.node } ∷ [] →
    map plain_final more ++ finals_of names (drop (length more) (map plain_outcome outcomes)) ≡ map plain_final finals ++ finals_of (name ∷ names) (drop (length finals) (map plain_outcome outcomes))
next_final finals more name names outcomes d x within here e =
    let seen = map plain_outcome outcomes in
    let i = length finals in
    let made : PlainFinal = record { name = name; node = x.node.0 } in
    let count : length more ≡ i + 1 = ap length e ∙ length_push finals (record { name = name; node = x.node }) in
    let at : get_or seen i (plain_outcome x) ≡ plain_outcome x = get_or-map plain_outcome outcomes i d (plain_outcome x) within ∙ ap plain_outcome here in
    let left : drop i seen ≡ plain_outcome x ∷ drop (i + 1) seen =
    drop_more seen i (plain_outcome x) (omega (arith, within, length-map outcomes plain_outcome)) ∙ ap (λ y. y ∷ drop (i + 1) seen) at in
    ap (λ k. map plain_final more ++ finals_of names (drop k seen)) count
    ∙ ap (λ xs. xs ++ finals_of names (drop (i + 1) seen)) (ap (map plain_final) e ∙ map-append plain_final finals (record { name = name; node = x.node } ∷ []))
    ∙ append_assoc (map plain_final finals) (made ∷ []) (finals_of names (drop (i + 1) seen))
    ∙ ap (λ xs. map plain_final finals ++ finals_of (name ∷ names) xs) (sym left)
