-- Negotiations of which nothing merges, enters or iterates, and what is left of them where they are sound.
use Rattle.std.specs.Prelude.{◌≡◌, ◌≢◌, ◌⊎◌, ℕ, ◌<◌, [], ◌∷◌, IsTrue}
use Rattle.nego_base.specs.Members.{is_in}
use Rattle.nego_model.specs.Negotiation.{Negotiation, IsOutcome}
use Rattle.nego_model.specs.Acyclic.{IsEdge}

-- Each two outcomes of the atom are one.
abbrev pub HasOne : Negotiation → ℕ → Type 0
HasOne nego n = (x y : ℕ) → IsTrue (is_in x (nego.outcomes n)) → IsTrue (is_in y (nego.outcomes n)) → x ≡ y

-- Two outcomes send each party of their atom to the same next atoms.
abbrev pub SendAlike : Negotiation → (n x y : ℕ) → Type 0
SendAlike nego n x y = (a : ℕ) → IsTrue (is_in a (nego.parties n)) → nego.next x a ≡ nego.next y a

-- An outcome of an atom enters another: each party of the other is a party of the one, and is sent there alone.
abbrev pub Enters : Negotiation → (n x p : ℕ) → Type 0
Enters nego n x p = (a : ℕ) → IsTrue (is_in a (nego.parties p)) → IsTrue (is_in a (nego.parties n)) × (nego.next x a ≡ p ∷ [])

-- An outcome of an atom enters no atom.
abbrev pub EntersNone : Negotiation → (n x : ℕ) → Type 0
EntersNone nego n x = (p : ℕ) → IsTrue (is_in p nego.atoms) → ¬ Enters nego n x p

-- No two outcomes of an atom but the last send alike, and no outcome enters another atom that has one outcome and is
-- neither the first nor the last.
pub record IsReduced (nego : Negotiation) : Type 0 where
  pub no_merge : (n x y : ℕ) → n ≢ nego.last → IsOutcome nego n x → IsOutcome nego n y → x ≢ y → ¬ SendAlike nego n x y
  pub no_shortcut : (n x p : ℕ) → IsOutcome nego n x → IsTrue (is_in p nego.atoms) → n ≢ p → p ≢ nego.first → p ≢ nego.last → HasOne nego p → ¬ Enters nego n x p

-- The first atom has one outcome, which sends everyone to the last, and there are no other atoms.
pub record IsClosable (nego : Negotiation) : Type 0 where
  pub outcome : ℕ
  pub own : IsOutcome nego nego.first outcome
  pub one : HasOne nego nego.first
  pub sends : (a : ℕ) → a < nego.agents → nego.next outcome a ≡ nego.last ∷ []
  pub atoms : (n : ℕ) → IsTrue (is_in n nego.atoms) → (n ≡ nego.first) ⊎ (n ≡ nego.last)

-- No outcome of an atom that isn't the last and has another outcome sends all of the atom's parties back.
abbrev pub IteratesNone : Negotiation → Type 0
IteratesNone nego = (n x y : ℕ) → n ≢ nego.last → IsOutcome nego n x → IsOutcome nego n y → x ≢ y → ¬ Enters nego n x n

-- An atom may be swept: it is neither the first nor the last; none of its outcomes sends anyone back to it; an edge leads to
-- it from another atom; and each outcome of another atom that leads to it enters it.
pub record IsSweepable (nego : Negotiation) (n : ℕ) : Type 0 where
  pub atom : IsTrue (is_in n nego.atoms)
  pub not_first : n ≢ nego.first
  pub not_last : n ≢ nego.last
  pub none_back : ¬ IsEdge nego n n
  pub from_another : (m : ℕ) × (m ≢ n) × IsEdge nego m n
  pub entered : (m o a : ℕ) → m ≢ n → IsOutcome nego m o → IsTrue (is_in n (nego.next o a)) → Enters nego m o n
