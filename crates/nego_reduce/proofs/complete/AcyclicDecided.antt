-- Of an acyclic diagram one atom is left exactly where it is sound.
use Rattle.std.proofs.Common.{◌≡◌, inl, inr, ⊎_elim, ℕ, ◌<◌, ◌==◌, ◌&&◌, false, not, List, length, IsTrue, sym, subst, ◌∙◌, arith, eq-eqb, eqb-true}
use Rattle.std.proofs.lemmas.Bool.{and_from, and_parts, not_from_false, true≢false}
use Rattle.nego_model.specs.Occurring.{IsSound}
use Rattle.nego_model.specs.Acyclic.{IsRankedBy}
use Rattle.nego_model.proofs.completeness.Ranks.{order-ranks}
use Rattle.nego_expr.specs.Work.{PlainWork, IsWork, outcomes_at, negotiation_of_work}
use Rattle.nego_expr.specs.Use.{Shortcut, Close, allows}
use Rattle.nego_expr.specs.Lead.{Allowed}
use Rattle.nego_expr.specs.StandsFor.{StandsFor}
use Rattle.nego_expr.proofs.FreshWorks.{fresh_works, has_form}
use Rattle.nego_expr.proofs.Leading.{Lead-weaker, leading_stands}
use Rattle.nego_expr.proofs.OneAtomLeft.{one_atom_works}
use Rattle.nego_reduce.specs.Order.{IsNextUse, HasNoMerge, HasNoShortcut, has_passed}
use Rattle.nego_reduce.specs.Laws.{AcyclicIsDecided, GoesOn, SoundAcyclicWorksGoOn}
use Rattle.nego_reduce.proofs.NextUses.{next_allowed}
use Rattle.nego_reduce.proofs.UsesLead.{uses_keep}
use Rattle.nego_reduce.proofs.complete.AcyclicWorks.{not_passed, acyclic_works}
use Rattle.nego_reduce.proofs.complete.GoingForward.{IsForward, forward-ranked, ranked_iterates_none}
use Rattle.nego_reduce.proofs.complete.LeastUses.{least_merge, some_shortcut, none_left}
use Rattle.nego_reduce.proofs.complete.ReducedWorks.{one_or_closing}

-- where outcomes go forward, a shortcut into an atom of one outcome is one that the order takes
no_shortcut_left : (order : List ℕ) (work : PlainWork) → IsWork work → IsForward order work → HasNoShortcut work → (o n : ℕ) → IsTrue (allows work (Shortcut o n)) → length (outcomes_at work n) ≡ 1 → ⊥
no_shortcut_left order work ok forward none o n allowed one =
    true≢false (sym (and_from (allows work (Shortcut o n)) ((length (outcomes_at work n) == 1) && not (has_passed work o n)) allowed
    (and_from (length (outcomes_at work n) == 1) (not (has_passed work o n)) (eq-eqb (length (outcomes_at work n)) 1 one) (not_from_false (has_passed work o n) (not_passed order work o n ok forward allowed))))
    ∙ none o n)

-- ---- the diagram

-- Where no use is the next one, one atom is left exactly where the diagram is sound.
pub acyclic_is_decided : AcyclicIsDecided
acyclic_is_decided diagram work end uses fresh (order, goes) leads none = (
  λ one. stands.sound.1 (one_atom_works end stands.is_work one).0,
  λ sound. ⊎_elim
      (λ one. one)
      (λ closes. absurd (true≢false (sym closes ∙ left.2)))
      (one_or_closing end ok left.0 (no_shortcut_left order end ok forward left.1) order ranks (stands.sound.0 sound)),
)
  where
    both : IsWork end × IsForward order end
    both = acyclic_works diagram order work end uses fresh goes leads

    ok : IsWork end
    ok = both.0

    forward : IsForward order end
    forward = both.1

    ranks : IsRankedBy (negotiation_of_work end) order
    ranks = forward-ranked order end ok forward

    left : HasNoMerge end × HasNoShortcut end × (allows end Close ≡ false)
    left = none_left end ok (ranked_iterates_none order end ok ranks) none

    stands : StandsFor end diagram
    stands = leading_stands work end uses diagram uses_keep
        (subst (λ w. StandsFor w diagram) (sym fresh.fresh) (fresh_works diagram (has_form diagram fresh.diagram_read) fresh.determined))
        (Lead-weaker IsNextUse Allowed next_allowed work end uses leads)

-- ---- any work

-- A sound acyclic work with more than one atom goes on.
pub sound_acyclic_works_go_on : SoundAcyclicWorksGoOn
sound_acyclic_works_go_on work ok (order, goes) = (ranked_iterates_none order work ok ranks, go_on)
  where
    ranks : IsRankedBy (negotiation_of_work work) order
    ranks = order-ranks (negotiation_of_work work) order ok.form goes

    go_on : IsSound (negotiation_of_work work) → 1 < length work.atoms → GoesOn work
    go_on sound more = ⊎_elim
        (λ k. inl (k.0, k.1, k.2.allowed))
        (λ no_merge. ⊎_elim
        (λ k. let h = and_parts (allows work (Shortcut k.0 k.1)) (length (outcomes_at work k.1) == 1) k.2 in inr (inl (k.0, k.1, h.0, eqb-true (length (outcomes_at work k.1)) 1 h.1)))
        (λ none. inr (inr (⊎_elim (λ one. absurd (let no_more : ⊥ = omega (arith, one, more) in no_more)) (λ closes. closes)
        (one_or_closing work ok no_merge
        (λ o n allowed one. true≢false (sym (and_from (allows work (Shortcut o n)) (length (outcomes_at work n) == 1) allowed (eq-eqb (length (outcomes_at work n)) 1 one)) ∙ none o n))
        order ranks sound))))
        (some_shortcut work ok))
        (least_merge work ok)
