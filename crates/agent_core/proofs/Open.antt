-- The open outcomes of an atom, and what is picked among them.
use Rattle.std.proofs.Common.{◌≡◌, ℕ, zero, suc, ◌<◌, ◌%◌, ◌&&◌, false, List, [], ◌∷◌, length, slice_get, slice_index, slice_index_or, nat_lt, Option, Some, None, IsTrue, refl, sym, ap, ◌∙◌, arith, lt-ltb, ltb-true}
use Rattle.std.proofs.lemmas.Bool.{false≢true}
use Rattle.std.specs.Option.{IsSome, option_map_or}
use Rattle.nego_base.specs.Members.{is_in}
use Rattle.nego_base.proofs.Members.{is_in-filter, is_in-head, is_in-tail, some_member}
use Rattle.nego_data.specs.Data.{data_count}
use Rattle.nego_model.specs.Diagram.{PlainOutcome, PlainDiagram, IsDiagram, relation_of, outcomes_from}
use Rattle.nego_model.proofs.diagrams.Negotiations.{atom_from_below}
use Rattle.agent_core.specs.Deciding.{related_by, open_outcomes, picked}
use Rattle.agent_core.proofs.Given.{both}

-- an item at a place is one of the list
pub index-member : (xs : List ℕ) (k : ℕ) → k < length xs → IsTrue (is_in (slice_index xs k) xs)
index-member [] k h = absurd (omega (arith, h))
index-member (x ∷ xs) zero h = is_in-head x xs
index-member (x ∷ xs) (suc k) h = is_in-tail (slice_index xs k) x xs (index-member xs k (omega (arith, h)))

-- what is picked is an item
pub picked-member : (items : List ℕ) (k : ℕ) → 0 < length items → IsTrue (is_in (picked items k) items)
picked-member items k some = index-member items (k % length items) (omega (arith, some))

-- a list with a member has an item
pub length_from_member : (x : ℕ) (xs : List ℕ) → IsTrue (is_in x xs) → 0 < length xs
length_from_member x [] h = absurd (false≢true h)
length_from_member x (y ∷ ys) h = omega arith

-- an outcome relates the data in its row
pub related-row : (diagram : PlainDiagram) (o d e : ℕ) → relation_of diagram o d e ≡ is_in e (related_by diagram o d)
related-row diagram o d e = go (slice_get diagram.outcomes o)
  where
    go : (outcome : Option PlainOutcome) →
        option_map_or (λ x. is_in e (slice_index_or x.table d [])) outcome false ≡ is_in e (slice_index_or (option_map_or (λ x. x.table) outcome []) d [])
    go None = refl
    go (Some outcome) = refl

-- an open outcome is one of the atom's, and relates the data to some
pub open-outcome : (diagram : PlainDiagram) (n d o : ℕ) → IsTrue (is_in o (open_outcomes diagram n d)) → (0 < length (related_by diagram o d)) × IsTrue (is_in o (outcomes_from 0 diagram.outcomes n))
open-outcome diagram n d o h =
    let two = both (nat_lt 0 (length (related_by diagram o d))) (is_in o (outcomes_from 0 diagram.outcomes n)) (sym (is_in-filter (λ p. nat_lt 0 (length (related_by diagram p d))) o (outcomes_from 0 diagram.outcomes n)) ∙ h) in
    (ltb-true 0 (length (related_by diagram o d)) two.0, two.1)

-- some outcome of an atom is open
pub some_open : (diagram : PlainDiagram) (n d : ℕ) → IsDiagram diagram → n < length diagram.atoms → d < data_count diagram.sizes → 0 < length (open_outcomes diagram n d)
some_open diagram n d ok atom inside =
    let there = atom_from_below diagram n atom in
    let some = some_member (outcomes_from 0 diagram.outcomes n) (ok.form.some_outcome n there) in
    let leads = ok.total n some.0 d (there, some.1) inside in
    let row = length_from_member leads.0 (related_by diagram some.0 d) (sym (related-row diagram some.0 d leads.0) ∙ leads.1) in
    length_from_member some.0 (open_outcomes diagram n d)
    (is_in-filter (λ p. nat_lt 0 (length (related_by diagram p d))) some.0 (outcomes_from 0 diagram.outcomes n) ∙ (ap (λ b. b && is_in some.0 (outcomes_from 0 diagram.outcomes n)) (lt-ltb 0 (length (related_by diagram some.0 d)) row) ∙ some.1))

-- an item at a place
pub some_at : {A : Type 0} (xs : List A) (k : ℕ) → k < length xs → IsSome (slice_get xs k)
some_at [] k h = absurd (omega (arith, h))
some_at (x ∷ xs) zero h = refl
some_at (x ∷ xs) (suc k) h = some_at xs k (omega (arith, h))
