-- What a diagram's conditions say of what its readers read.
use Rattle.std.proofs.Common.{◌≡◌, ◌≢◌, ℕ, zero, suc, ◌+◌, ◌<◌, ◌≤◌, List, [], ◌∷◌, length, map, slice_get, Some, IsTrue, refl, sym, subst, ◌∙◌, arith}
use Rattle.std.proofs.lemmas.Option.{none-some, same_Some, slice_get_within, get_or_from_slice_get}
use Rattle.std.proofs.lemmas.Bool.Decides.{nat_tests}
use Rattle.std.proofs.lemmas.List.{get_or-take}
use Rattle.std.specs.List.{All, range_with_len}
use Rattle.nego_base.specs.Members.{is_in, IsRising}
use Rattle.nego_base.specs.Name.{is_name}
use Rattle.nego_data.specs.Data.{data_count}
use Rattle.nego_data.specs.Tables.{IsTable}
use Rattle.nego_base.proofs.Members.{is_in-head, is_in-range, All-members, head-least}
use Rattle.nego_base.proofs.ListLaws.{All-at, mapped_at}
use Rattle.nego_model.specs.declared.parts.AtomPart.{AtomPart}
use Rattle.nego_model.specs.declared.parts.OutcomePart.{OutcomePart}
use Rattle.nego_model.specs.declared.parts.Parts.{Parts}
use Rattle.nego_model.specs.Negotiation.{IsOutcome}
use Rattle.nego_model.specs.Diagram.{PlainOutcome, PlainDiagram, IsDiagram, negotiation_of, parties_of, outcomes_from, nexts_of}
use Rattle.nego_model.specs.Parts.{plain_atom, plain_outcome, plain_of, AreParts}
use Rattle.nego_model.proofs.diagrams.Negotiations.{atom-below, atom_from_below, outcome_at, IsOutcome_from_at, nexts_of-at, parties_of-at}

module _ (diagram : PlainDiagram) (ok : IsDiagram diagram) where
  -- parties are agents
  pub parties-below : (n : ℕ) → n < length diagram.atoms → All (λ a. a < length diagram.agents) (parties_of diagram n)
  parties-below n h = All-members (λ a. a < length diagram.agents) (parties_of diagram n) (λ a m. ok.form.party_below n a (atom_from_below diagram n h) m)

  -- the outcome at a place is one of its atom
  pub own_outcome : (o : ℕ) (outcome : PlainOutcome) → slice_get diagram.outcomes o ≡ Some outcome → IsOutcome (negotiation_of diagram) outcome.atom o
  own_outcome o outcome at =
      IsOutcome_from_at diagram outcome.atom o (All-at (λ x. x.atom < length diagram.atoms) diagram.outcomes o outcome ok.own_atom at)
      (record { outcome = outcome; at = at; of_atom = refl })

  -- next atoms are atoms
  pub nexts-below : (o a : ℕ) (outcome : PlainOutcome) → slice_get diagram.outcomes o ≡ Some outcome → All (λ n. n < length diagram.atoms) (nexts_of diagram o a)
  nexts-below o a outcome at =
      All-members (λ n. n < length diagram.atoms) (nexts_of diagram o a) (λ m q. atom-below diagram m (ok.form.next_party outcome.atom o a m (own_outcome o outcome at) q).0)

  -- an atom has an outcome
  pub some_number : (n start count : ℕ) → n < length diagram.atoms → range_with_len start count ≡ outcomes_from 0 diagram.outcomes n → 0 < count
  some_number n start zero h e = absurd (ok.form.some_outcome n (atom_from_below diagram n h) (sym e))
  some_number n start (suc count) h e = omega arith

  -- the numbers of an atom's outcomes are numbers of outcomes
  pub numbers-below : (n start count : ℕ) → n < length diagram.atoms → range_with_len start count ≡ outcomes_from 0 diagram.outcomes n → start + count ≤ length diagram.outcomes
  numbers-below n start zero h e = let no : 0 < 0 = some_number n start 0 h e in absurd (omega (arith, no))
  numbers-below n start (suc count) h e =
      let highest : IsTrue (is_in (start + count) (range_with_len start (suc count))) = is_in-range (start + count) start (suc count) ∙ grind (arith, nat_tests) in
      let there = outcome_at diagram n (start + count) (atom_from_below diagram n h, subst (λ os. IsTrue (is_in (start + count) os)) e highest) in
      let below = slice_get_within diagram.outcomes (start + count) there.outcome there.at in
      omega (arith, below)

-- the first member of a rising list is a member
pub first_member : (xs : List ℕ) (x : ℕ) → slice_get xs 0 ≡ Some x → IsTrue (is_in x xs)
first_member [] x h = absurd (none-some x h)
first_member (y ∷ ys) x h = let e : y ≡ x = same_Some y x h in subst (λ z. IsTrue (is_in z (y ∷ ys))) e (is_in-head y ys)

-- the first member of a rising list is the least
pub first_least : (xs : List ℕ) (x : ℕ) → IsRising xs → slice_get xs 0 ≡ Some x → All (λ y. x ≤ y) xs
first_least [] x r h = absurd (none-some x h)
first_least (y ∷ ys) x r h =
    let e : y ≡ x = same_Some y x h in
    All-members (λ z. x ≤ z) (y ∷ ys) (λ z m. subst (λ w. w ≤ z) e (head-least y z ys r.1 m))

-- the name of an atom is a name
pub atom_named : (parts : Parts) (n : ℕ) (part : AtomPart) → AreParts parts → slice_get parts.atoms n ≡ Some part → IsTrue (is_name part.name)
atom_named parts n part ok at =
    All-at (λ atom. IsTrue (is_name atom.name)) (map plain_atom parts.atoms) n (plain_atom part) ok.names.atoms (mapped_at plain_atom parts.atoms n part at)

module _ (parts : Parts) (ok : AreParts parts) where
  -- the outcome of a part
  pub outcome_part-at : (o : ℕ) (part : OutcomePart) → slice_get parts.outcomes o ≡ Some part → slice_get (plain_of parts).outcomes o ≡ Some (plain_outcome (length parts.agents) part)
  outcome_part-at o part at = mapped_at (plain_outcome (length parts.agents)) parts.outcomes o part at

  -- the name of an outcome is a name
  pub outcome_named : (o : ℕ) (part : OutcomePart) → slice_get parts.outcomes o ≡ Some part → IsTrue (is_name part.name)
  outcome_named o part at =
      All-at (λ outcome. IsTrue (is_name outcome.name)) (plain_of parts).outcomes o (plain_outcome (length parts.agents) part) ok.names.outcomes (outcome_part-at o part at)

  -- an outcome is of its part's atom
  pub outcome_part-own : (o : ℕ) (part : OutcomePart) → slice_get parts.outcomes o ≡ Some part → IsOutcome (negotiation_of (plain_of parts)) part.atom.0 o
  outcome_part-own o part at = own_outcome (plain_of parts) ok.diagram o (plain_outcome (length parts.agents) part) (outcome_part-at o part at)

  -- the next atoms of an agent in a part
  pub nexts_part-below : (o a : ℕ) (part : OutcomePart) (next : List ℕ) → slice_get parts.outcomes o ≡ Some part → a < length parts.agents → slice_get part.nexts a ≡ Some next → All (λ n. n < length (plain_of parts).atoms) next
  nexts_part-below o a part next at below at_agent =
      let is_next : nexts_of (plain_of parts) o a ≡ next =
      nexts_of-at (plain_of parts) o a (plain_outcome (length parts.agents) part) (outcome_part-at o part at)
      ∙ (get_or-take (length parts.agents) part.nexts a [] below ∙ get_or_from_slice_get part.nexts a next [] at_agent) in
      subst (λ xs. All (λ n. n < length (plain_of parts).atoms) xs) is_next
      (nexts-below (plain_of parts) ok.diagram o a (plain_outcome (length parts.agents) part) (outcome_part-at o part at))

  -- an atom of a part is an atom
  pub atom_part-below : (n : ℕ) (part : AtomPart) → slice_get parts.atoms n ≡ Some part → n < length (plain_of parts).atoms
  atom_part-below n part at = slice_get_within (plain_of parts).atoms n (plain_atom part) (mapped_at plain_atom parts.atoms n part at)

  -- an atom of a part has parties
  pub parties_part-some : (n : ℕ) (part : AtomPart) → slice_get parts.atoms n ≡ Some part → part.parties ≢ []
  parties_part-some n part at =
      subst (λ xs. xs ≢ []) (parties_of-at (plain_of parts) n (plain_atom part) (mapped_at plain_atom parts.atoms n part at))
      (ok.diagram.form.some_party n (atom_from_below (plain_of parts) n (atom_part-below n part at)))

  -- the parties of an atom of a part are agents
  pub parties_part-below : (n : ℕ) (part : AtomPart) → slice_get parts.atoms n ≡ Some part → All (λ a. a < length parts.agents) part.parties
  parties_part-below n part at =
      subst (λ xs. All (λ a. a < length parts.agents) xs) (parties_of-at (plain_of parts) n (plain_atom part) (mapped_at plain_atom parts.atoms n part at))
      (parties-below (plain_of parts) ok.diagram n (atom_part-below n part at))

  -- an atom of a part has an outcome
  pub some_number_part : (n : ℕ) (part : AtomPart) → slice_get parts.atoms n ≡ Some part → 0 < part.count
  some_number_part n part at = some_number (plain_of parts) ok.diagram n part.start part.count (atom_part-below n part at) (ok.numbers n part at)

  -- the numbers of its outcomes are numbers of outcomes
  pub numbers_part-below : (n : ℕ) (part : AtomPart) → slice_get parts.atoms n ≡ Some part → part.start + part.count ≤ length (plain_of parts).outcomes
  numbers_part-below n part at = numbers-below (plain_of parts) ok.diagram n part.start part.count (atom_part-below n part at) (ok.numbers n part at)

  -- the table of an outcome of a part is one
  pub table_part-ok : (o : ℕ) (part : OutcomePart) → slice_get parts.outcomes o ≡ Some part → IsTable (data_count parts.sizes) part.table
  table_part-ok o part at =
      All-at (λ outcome. IsTable (data_count parts.sizes) outcome.table) (plain_of parts).outcomes o (plain_outcome (length parts.agents) part) ok.diagram.tables (outcome_part-at o part at)
