-- How a negotiation differs from another in which an outcome that leads its parties back is put before the others.
use Rattle.std.specs.Prelude.{◌≡◌, ◌≢◌, ◌↔◌, ℕ, List, [], ◌∷◌, IsTrue}
use Rattle.nego_base.specs.Members.{is_in}
use Rattle.nego_model.specs.Negotiation.{Negotiation, IsOutcome}
use Rattle.nego_model.specs.Joining.{Relation}
use Rattle.nego_model.specs.Expression.{IsPath}

-- The second negotiation is the first without an outcome o of the atom n that sends every party of n to n; each other
-- outcome of n relates what o does, any number of times, and then the outcome did; all else is the same.
pub record Iterates (one two : Negotiation) (relation relation' : Relation) (n o : ℕ) : Type 0 where
  pub agents : one.agents ≡ two.agents
  pub first : one.first ≡ two.first
  pub last : one.last ≡ two.last
  pub atoms : (p : ℕ) → is_in p one.atoms ≡ is_in p two.atoms
  pub parties : (p : ℕ) → IsTrue (is_in p one.atoms) → one.parties p ≡ two.parties p
  pub own : IsOutcome one n o
  pub not_last : n ≢ one.last
  pub back : (a : ℕ) → IsTrue (is_in a (one.parties n)) → one.next o a ≡ n ∷ []
  -- an outcome of the one but for o is an outcome of the other, and the other has no more
  pub kept : (p q : ℕ) → IsOutcome one p q → q ≢ o → IsOutcome two p q
  pub only : (p q : ℕ) → IsOutcome two p q → IsOutcome one p q × (q ≢ o)
  pub next : (p q a : ℕ) → IsOutcome one p q → q ≢ o → IsTrue (is_in a (one.parties p)) → one.next q a ≡ two.next q a
  -- what the outcomes relate
  pub same : (p q d e : ℕ) → IsOutcome one p q → p ≢ n → relation q d e ↔ relation' q d e
  pub again : (q d e : ℕ) → IsOutcome one n q → q ≢ o → relation' q d e ↔ ((c : ℕ) × ((path : List ℕ) × IsPath (relation o) d path c) × relation q c e)
