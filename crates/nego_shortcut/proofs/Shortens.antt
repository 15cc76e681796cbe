-- How a negotiation differs from another in which an outcome has become itself and then the outcomes of an atom that it
-- enters.
use Rattle.std.specs.Prelude.{◌≡◌, ◌≢◌, ◌⊎◌, ◌↔◌, ℕ, if◌then◌else◌, [], ◌∷◌, IsTrue}
use Rattle.nego_base.specs.Members.{is_in}
use Rattle.nego_model.specs.Negotiation.{Negotiation, IsOutcome}
use Rattle.nego_model.specs.Joining.{Relation}

-- An outcome o of the atom m enters the atom n: the parties of n are parties of m, and o sends each of them to n, which is
-- neither m nor the first nor the last atom. In the second negotiation each outcome x of n has made an outcome of m, which
-- is `behind x`: it sends the parties of n where x does and the other parties of m where o does, and relates what o and then
-- x relate. The outcome o of the first is gone, and n may be, but only where nothing leads to it; where it stays, an outcome
-- of another atom leads to it. All else is the same. (The number o may be that of one of the new outcomes.)
pub record Shortens (one two : Negotiation) (relation relation' : Relation) (m n o : ℕ) (behind : ℕ → ℕ) : Type 0 where
  pub agents : one.agents ≡ two.agents
  pub first : one.first ≡ two.first
  pub last : one.last ≡ two.last
  pub own : IsOutcome one m o
  pub atom : IsTrue (is_in n one.atoms)
  pub apart : m ≢ n
  pub not_first : n ≢ one.first
  pub not_last : n ≢ one.last
  pub within : (a : ℕ) → IsTrue (is_in a (one.parties n)) → IsTrue (is_in a (one.parties m))
  pub enters : (a : ℕ) → IsTrue (is_in a (one.parties n)) → one.next o a ≡ n ∷ []
  -- the atoms
  pub atoms_kept : (p : ℕ) → IsTrue (is_in p one.atoms) → p ≢ n → IsTrue (is_in p two.atoms)
  pub atoms_only : (p : ℕ) → IsTrue (is_in p two.atoms) → IsTrue (is_in p one.atoms)
  pub parties : (p : ℕ) → IsTrue (is_in p two.atoms) → one.parties p ≡ two.parties p
  pub gone : ¬ IsTrue (is_in n two.atoms) → (p q a : ℕ) → IsOutcome two p q → ¬ IsTrue (is_in n (two.next q a))
  pub stays : IsTrue (is_in n two.atoms) → (p : ℕ) × (q : ℕ) × (a : ℕ) × (p ≢ n) × IsOutcome two p q × IsTrue (is_in n (two.next q a))
  -- the outcomes
  pub kept : (p q : ℕ) → IsOutcome one p q → q ≢ o → IsTrue (is_in p two.atoms) → IsOutcome two p q
  pub made : (x : ℕ) → IsOutcome one n x → IsOutcome two m (behind x)
  pub only : (p q : ℕ) → IsOutcome two p q → (IsOutcome one p q × (q ≢ o)) ⊎ ((p ≡ m) × ((x : ℕ) × IsOutcome one n x × (q ≡ behind x)))
  pub next : (p q a : ℕ) → IsOutcome one p q → q ≢ o → IsTrue (is_in p two.atoms) → IsTrue (is_in a (one.parties p)) → one.next q a ≡ two.next q a
  pub next_behind : (x a : ℕ) → IsOutcome one n x → IsTrue (is_in a (one.parties m)) → two.next (behind x) a ≡ (if is_in a (one.parties n) then one.next x a else one.next o a)
  -- what they relate
  pub same : (p q d e : ℕ) → IsOutcome one p q → q ≢ o → IsTrue (is_in p two.atoms) → relation q d e ↔ relation' q d e
  pub composed : (x d e : ℕ) → IsOutcome one n x → relation' (behind x) d e ↔ ((c : ℕ) × relation o d c × relation x c e)
