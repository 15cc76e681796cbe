-- An allowed shortcut leaves a work, and keeps soundness and what the runs relate.
use Rattle.std.proofs.Common.{◌≡◌, ℕ, false, [], Some, IsTrue, sym, subst}
use Rattle.nego_model.specs.Joining.{RelationTest}
use Rattle.nego_model.specs.Negotiation.{Negotiation}
use Rattle.nego_expr.specs.Work.{WorkOutcome, PlainWork, outcome_at, negotiation_of_work, ByWork, IsWork}
use Rattle.nego_expr.specs.Use.{enters, entered}
use Rattle.nego_expr.proofs.EditCalls.{allowed_at, found_itself}
use Rattle.nego_expr.specs.Keeps.{Keeps}
use Rattle.nego_expr.proofs.LocalWorks.{works_local}
use Rattle.nego_expr.proofs.WorkForm.{work-deterministic}
use Rattle.nego_shortcut.specs.Law.{ShortcutsKeep}
use Rattle.nego_shortcut.proofs.Shortens.{Shortens}
use Rattle.nego_shortcut.proofs.ShortForward.{short_forward}
use Rattle.nego_shortcut.proofs.ShortBackward.{short_backward}
use Rattle.nego_shortcut.proofs.ShortKeeps.{Full, Full-local, Shortens-full, short_runs, short_sound}
use Rattle.nego_shortcut.proofs.ShortShows.{behind_shortcut, shortcut_work, shortcut_shortens, shortcut_finals, shortcut_names, shortcut_bases, shortcut_is}

module _ (work : PlainWork) (n : ℕ) (x : WorkOutcome) (ok : IsWork work) (alive : outcome_at work x.number ≡ Some x) (guard : IsTrue (enters work x n)) where
  abbrev new : PlainWork
  new = entered work x n

  abbrev before : Negotiation
  before = negotiation_of_work work

  abbrev behind : Negotiation
  behind = negotiation_of_work new

  abbrev number : ℕ → ℕ
  number = behind_shortcut work n x

  left : IsWork new
  left = shortcut_work work n x ok alive guard

  short : (test : RelationTest) → Shortens before behind (ByWork test work) (ByWork test new) x.atom n x.number number
  short test = shortcut_shortens work n x ok alive guard test

  -- the test by which nothing is related
  abbrev nothing : RelationTest
  nothing o d e = false

  full : Shortens before behind Full Full x.atom n x.number number
  full = Shortens-full before behind (ByWork nothing work) (ByWork nothing new) x.atom n x.number number (short nothing)

  shortcut_keeps : Keeps work new
  shortcut_keeps = record {
    sound = short_sound before behind (ByWork nothing work) (ByWork nothing new) x.atom n x.number number (short nothing) ok.form left.form (work-deterministic work) (work-deterministic new)
        (short_forward before behind Full Full x.atom n x.number number [] full ok.form (work-deterministic work) (Full-local before))
        (short_backward before behind Full Full x.atom n x.number number full);
    names = shortcut_names work n x ok alive guard;
    bases = shortcut_bases work n x ok alive guard;
    finals = shortcut_finals work n x ok alive guard;
    runs = λ sizes test f d e acts below h.
        short_runs before behind (ByWork test work) (ByWork test new) x.atom n x.number number (short test) ok.form left.form (work-deterministic work) (work-deterministic new) sizes
        (short_forward before behind (ByWork test work) (ByWork test new) x.atom n x.number number sizes (short test) ok.form (work-deterministic work) (works_local work sizes test ok acts))
        (short_backward before behind (ByWork test work) (ByWork test new) x.atom n x.number number (short test)) f d e below;
  }

-- An allowed shortcut leaves a work, and keeps.
pub shortcuts_keep : ShortcutsKeep
shortcuts_keep o n work ok allowed =
    let k = allowed_at (λ x. enters work x n) (outcome_at work o) allowed in
    let alive = found_itself work o k.0 k.1 in
    let P : PlainWork → Type 0 = λ w. IsWork w × Keeps work w in
    subst P (sym (shortcut_is work o n k.0 k.1)) (left work n k.0 ok alive k.2, shortcut_keeps work n k.0 ok alive k.2)
