-- A negotiation: what may be asked of its form. Agents are the numbers below a count. Atoms and outcomes have
-- numbers of their own, so that a negotiation from which some were taken is one too.
use Rattle.std.specs.Prelude.{◌≡◌, ◌≢◌, ◌⊎◌, ℕ, ◌<◌, List, [], IsTrue}
use Rattle.nego_base.specs.Members.{is_in, IsRising}

-- the count of agents; the atoms' numbers; an atom's parties; the numbers of an atom's outcomes, in their order;
-- the next atoms of an agent after an outcome; the first and the last atom
pub record Negotiation : Type 0 where
  pub agents : ℕ
  pub atoms : List ℕ
  pub parties : ℕ → List ℕ
  pub outcomes : ℕ → List ℕ
  pub next : ℕ → ℕ → List ℕ
  pub first : ℕ
  pub last : ℕ

-- n is an atom, and o one of its outcomes.
abbrev pub IsOutcome : Negotiation → ℕ → ℕ → Type 0
IsOutcome nego n o = IsTrue (is_in n nego.atoms) × IsTrue (is_in o (nego.outcomes n))

-- The first and the last atom are atoms. Atoms, parties, an atom's outcomes and next atoms are rising lists, so that
-- equal sets are equal lists; no outcome is of two atoms, and parties are agents. Each atom has a party and an
-- outcome; every agent is a party of the first and of the last atom. The next atoms after an outcome of the last atom
-- are none, those of a party after another outcome are some, and those of an agent that is no party are none. A next
-- atom of an agent is an atom that has this agent as a party.
pub record IsNegotiation (nego : Negotiation) : Type 0 where
  pub first_there : IsTrue (is_in nego.first nego.atoms)
  pub last_there : IsTrue (is_in nego.last nego.atoms)
  pub atoms_rise : IsRising nego.atoms
  pub parties_rise : (n : ℕ) → IsTrue (is_in n nego.atoms) → IsRising (nego.parties n)
  pub outcomes_rise : (n : ℕ) → IsTrue (is_in n nego.atoms) → IsRising (nego.outcomes n)
  pub next_rise : (n o a : ℕ) → IsOutcome nego n o → IsRising (nego.next o a)
  pub one_atom : (m n o : ℕ) → IsOutcome nego m o → IsOutcome nego n o → m ≡ n
  pub party_below : (n a : ℕ) → IsTrue (is_in n nego.atoms) → IsTrue (is_in a (nego.parties n)) → a < nego.agents
  pub some_party : (n : ℕ) → IsTrue (is_in n nego.atoms) → nego.parties n ≢ []
  pub some_outcome : (n : ℕ) → IsTrue (is_in n nego.atoms) → nego.outcomes n ≢ []
  pub all_begin : (a : ℕ) → a < nego.agents → IsTrue (is_in a (nego.parties nego.first))
  pub all_end : (a : ℕ) → a < nego.agents → IsTrue (is_in a (nego.parties nego.last))
  pub last_ends : (o a : ℕ) → IsOutcome nego nego.last o → nego.next o a ≡ []
  pub others_lead : (n o a : ℕ) → IsOutcome nego n o → n ≢ nego.last → IsTrue (is_in a (nego.parties n)) → nego.next o a ≢ []
  pub strangers_stay : (n o a : ℕ) → IsOutcome nego n o → IsTrue (is_in a (nego.parties n)) ⊎ (nego.next o a ≡ [])
  pub next_party : (n o a m : ℕ) → IsOutcome nego n o → IsTrue (is_in m (nego.next o a)) → IsTrue (is_in m nego.atoms) × IsTrue (is_in a (nego.parties m))

-- Nowhere are there two next atoms.
abbrev pub IsDeterministic : Negotiation → Type 0
IsDeterministic nego = (n o a m p : ℕ) → IsOutcome nego n o → IsTrue (is_in m (nego.next o a)) → IsTrue (is_in p (nego.next o a)) → m ≡ p
