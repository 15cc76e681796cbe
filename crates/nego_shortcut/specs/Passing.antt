-- An outcome that enters an atom, and then one outcome of the atom.
use Rattle.std.specs.Prelude.{◌≡◌, ◌≢◌, ℕ, ◌+◌, ◌<◌, Bool, if◌then◌else◌, [], ◌∷◌, ◌++◌, length, map, Some, None, IsTrue}
use Rattle.nego_base.specs.Members.{is_in}
use Rattle.nego_model.specs.Expression.{Then}
use Rattle.nego_expr.specs.Work.{WorkOutcome, PlainWork, outcome_at, work_parties, sent_to}
use Rattle.nego_expr.specs.Edits.{with_outcome}
use Rattle.nego_expr.specs.Use.{through}

-- The work in which an outcome has become itself and then one of the atom, where this is the first; or else there is one
-- more outcome, which is the outcome and then the one.
abbrev pub passed_one : PlainWork → ℕ → WorkOutcome → WorkOutcome → Bool → PlainWork
passed_one work n x y first =
    if first
    then record work {
      nodes = work.nodes ++ Then x.node y.node ∷ [];
      outcomes = with_outcome (through work n x y x.number (length work.nodes)) work.outcomes;
    }
    else record work {
      nodes = work.nodes ++ Then x.node y.node ∷ [];
      numbers = work.numbers + 1;
      outcomes = work.outcomes ++ through work n x y work.numbers (length work.nodes) ∷ [];
    }

-- What is asked of the work and the two: the atom and the first one's atom are left, both nodes are there, there is an
-- alive outcome of the first's number and atom, it has one target for each agent, and the second sends each party of the
-- atom.
pub record MayPass (work : PlainWork) (n : ℕ) (x y : WorkOutcome) : Type 0 where
  pub left : IsTrue (is_in n (map (λ atom. atom.number) work.atoms))
  pub own_left : IsTrue (is_in x.atom (map (λ atom. atom.number) work.atoms))
  pub there : x.node < length work.nodes
  pub other_there : y.node < length work.nodes
  pub alive : (z : WorkOutcome) × (outcome_at work x.number ≡ Some z) × (z.atom ≡ x.atom)
  pub fit : length x.targets ≡ work.agents
  pub leads : (a : ℕ) → IsTrue (is_in a (work_parties work n)) → sent_to y a ≢ None
