-- The contract of a use of a rule, from what its parts answer.
use Rattle.std.proofs.Common.{◌≡◌, ◌≢◌, ◌↔◌, ℕ, ◌+◌, ◌<◌, length, Result, Ok, Err, IsTrue, sym, subst, ◌∙◌}
use Rattle.std.proofs.lemmas.Bool.{true≢false}
use Rattle.nego_expr.specs.declared.uses.RuleFault.{RuleFault}
use Rattle.nego_expr.specs.declared.uses.RuleFault.TheVariants.{Guard, Nodes}
use Rattle.nego_expr.specs.Work.{PlainWork, IsWork}
use Rattle.nego_expr.specs.Use.{PlainUse, allows, after_use, most_nodes}
use Rattle.nego_expr.specs.Keeps.{Keeps, IsKeeping}
use Rattle.nego_expr.specs.Made.{IsMade}

abbrev Answer : Type 0
Answer = Result (Unit {0}) RuleFault

module _ (next : PlainUse) (old new : PlainWork) (count : ℕ) (ok : IsWork old) (allowed : IsTrue (allows old next)) (added : length (after_use old next).nodes ≡ length old.nodes + count) where
  -- a use for which there is no room is refused
  pub refused_room : (e : RuleFault) → ◌≢◌ {A = Answer} (Err e) (Err Guard) → ◌≡◌ {A = Answer} (Err e) (Err Nodes) ↔ (most_nodes < length old.nodes + count) → new ≡ old → IsMade next old new (Err e)
  refused_room e never nodes same = record {
    guard = (λ h. absurd (never h), λ h. absurd (true≢false (sym allowed ∙ h)));
    nodes = (λ h. (allowed, subst (λ n. most_nodes < n) (sym added) (nodes.0 h)), λ h. nodes.1 (subst (λ n. most_nodes < n) added h.1));
    made = tt;
    keeps = tt;
    err = same;
    work = subst IsWork (sym same) ok;
  }

  -- a use for which there is room is made
  pub made_use : IsKeeping next → (most_nodes < length old.nodes + count → ⊥) → new ≡ after_use old next → IsMade next old new (Ok tt)
  made_use keeping fits made = let k = keeping old ok allowed in record {
    guard = (λ h. cc, λ h. absurd (true≢false (sym allowed ∙ h)));
    nodes = (λ h. cc, λ h. absurd (fits (subst (λ n. most_nodes < n) added h.1)));
    made = made;
    keeps = subst (Keeps old) (sym made) k.1;
    err = tt;
    work = subst IsWork (sym made) k.0;
  }
