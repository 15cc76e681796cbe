-- Laws of the markings that occur: their lists rise, have only atoms of their agent, and where no two next atoms
-- are given, at most one.
use Rattle.std.proofs.Common.{◌≡◌, ⊎_elim, ℕ, ◌<◌, List, [], ◌∷◌, length, Some, IsTrue, sym, subst, ◌∙◌, arith}
use Rattle.std.proofs.lemmas.Bool.{cases_Bool, true≢false}
use Rattle.std.proofs.lemmas.List.{length-replicate}
use Rattle.std.proofs.lemmas.Option.{same_Some}
use Rattle.nego_base.specs.Members.{is_in}
use Rattle.nego_base.specs.Members.{IsRising}
use Rattle.nego_model.specs.Negotiation.{Negotiation, IsNegotiation, IsDeterministic, IsOutcome}
use Rattle.nego_model.specs.Occurring.{PlainMarking, Occurrence, ready, enables, after, leaves, opening_marking}
use Rattle.nego_base.proofs.Members.{is_in_single, rising-single}
use Rattle.nego_model.proofs.occurrence.Markings.{ready-moved_party, ready-moved_other, ready-replicate, enables-atom, enables-party}
use Rattle.nego_model.proofs.occurrence.Steps.{after-some, after-outcome, length-after, leaves-first}

-- Each agent has a rising list of atoms of which it is a party.
pub record IsProper (nego : Negotiation) (marking : PlainMarking) : Type 0 where
  pub as_many : length marking ≡ nego.agents
  pub rise : (a : ℕ) → a < nego.agents → IsRising (ready marking a)
  pub atoms : (a m : ℕ) → a < nego.agents → IsTrue (is_in m (ready marking a)) → IsTrue (is_in m nego.atoms) × IsTrue (is_in a (nego.parties m))

-- Each agent is ready for one atom at most.
abbrev pub IsSingle : Negotiation → PlainMarking → Type 0
IsSingle nego marking = (a m p : ℕ) → a < nego.agents → IsTrue (is_in m (ready marking a)) → IsTrue (is_in p (ready marking a)) → m ≡ p

-- what holds of what each agent is ready for holds after an occurrence, where it holds of next atoms
pub ready_after : (nego : Negotiation) (P : ℕ → List ℕ → Type 0) (marking left : PlainMarking) (step : Occurrence) → length marking ≡ nego.agents →
    ((a : ℕ) → a < nego.agents → P a (ready marking a)) → ((a : ℕ) → a < nego.agents → IsOutcome nego step.0 step.1 → IsTrue (is_in a (nego.parties step.0)) → P a (nego.next step.1 a)) →
    after nego marking step ≡ Some left → (a : ℕ) → a < nego.agents → P a (ready left a)
ready_after nego P marking left step l here next e a h =
    let k = after-some nego marking step left e in
    let below = subst (λ n. a < n) (sym l) h in
    subst (λ m. P a (ready m a)) k.2
    (⊎_elim
    (λ party. subst (P a) (sym (ready-moved_party (nego.parties step.0) (nego.next step.1) marking a below party)) (next a h (after-outcome nego marking step left e) party))
    (λ other. subst (P a) (sym (ready-moved_other (nego.parties step.0) (nego.next step.1) marking a below (λ party. true≢false (sym party ∙ other)))) (here a h))
    (cases_Bool (is_in a (nego.parties step.0))))

-- what holds of what each agent is ready for holds after occurrences, where it holds of all next atoms
pub ready_leaves : (nego : Negotiation) (P : ℕ → List ℕ → Type 0) (steps : List Occurrence) (marking left : PlainMarking) → length marking ≡ nego.agents →
    ((a : ℕ) → a < nego.agents → P a (ready marking a)) → ((n o a : ℕ) → a < nego.agents → IsOutcome nego n o → IsTrue (is_in a (nego.parties n)) → P a (nego.next o a)) →
    leaves nego marking steps ≡ Some left → (a : ℕ) → a < nego.agents → P a (ready left a)
ready_leaves nego P [] marking left l here next e a h = subst (λ m. P a (ready m a)) (same_Some marking left e) (here a h)
ready_leaves nego P (step ∷ steps) marking left l here next e a h =
    let k = leaves-first nego marking step steps left e in
    ready_leaves nego P steps k.0 left (length-after nego marking step k.0 k.1 ∙ l)
    (ready_after nego P marking k.0 step l here (λ b m o party. next step.0 step.1 b m o party) k.1) next k.2 a h

-- the opening marking is proper
pub opening-proper : (nego : Negotiation) → IsNegotiation nego → IsProper nego (opening_marking nego)
opening-proper nego ok = record {
  as_many = length-replicate nego.agents (nego.first ∷ []);
  rise = λ a h. subst IsRising (sym (ready-replicate nego.agents a (nego.first ∷ []) h)) (omega arith, tt);
  atoms = λ a m h k.
      let e : m ≡ nego.first = is_in_single m nego.first (subst (λ xs. IsTrue (is_in m xs)) (ready-replicate nego.agents a (nego.first ∷ []) h) k) in
      subst (λ n. IsTrue (is_in n nego.atoms) × IsTrue (is_in a (nego.parties n))) (sym e) (ok.first_there, ok.all_begin a h);
}

-- in the opening marking each agent is ready for one atom
pub opening-single : (nego : Negotiation) → IsSingle nego (opening_marking nego)
opening-single nego a m p h k l =
    let at : (n : ℕ) → IsTrue (is_in n (ready (opening_marking nego) a)) → n ≡ nego.first =
    λ n q. is_in_single n nego.first (subst (λ xs. IsTrue (is_in n xs)) (ready-replicate nego.agents a (nego.first ∷ []) h) q) in
    at m k ∙ sym (at p l)

-- an occurrence leaves a proper marking
pub after-proper : (nego : Negotiation) → IsNegotiation nego → (marking left : PlainMarking) (step : Occurrence) → IsProper nego marking → after nego marking step ≡ Some left → IsProper nego left
after-proper nego ok marking left step proper e = record {
  as_many = length-after nego marking step left e ∙ proper.as_many;
  rise = ready_after nego (λ a xs. IsRising xs) marking left step proper.as_many proper.rise (λ a h o party. ok.next_rise step.0 step.1 a o) e;
  atoms = λ a m h. ready_after nego (λ b xs. IsTrue (is_in m xs) → IsTrue (is_in m nego.atoms) × IsTrue (is_in b (nego.parties m))) marking left step proper.as_many
      (λ b k. proper.atoms b m k) (λ b k o party. ok.next_party step.0 step.1 b m o) e a h;
}

-- an occurrence leaves each agent ready for one atom at most
pub after-single : (nego : Negotiation) → IsDeterministic nego → (marking left : PlainMarking) (step : Occurrence) → length marking ≡ nego.agents → IsSingle nego marking → after nego marking step ≡ Some left → IsSingle nego left
after-single nego one marking left step l single e a m p h =
    ready_after nego (λ b xs. IsTrue (is_in m xs) → IsTrue (is_in p xs) → m ≡ p) marking left step l
    (λ b k. single b m p k) (λ b k o party. one step.0 step.1 b m p o) e a h

-- occurrences leave a proper marking
pub leaves-proper : (nego : Negotiation) → IsNegotiation nego → (marking left : PlainMarking) (steps : List Occurrence) → IsProper nego marking → leaves nego marking steps ≡ Some left → IsProper nego left
leaves-proper nego ok marking left [] proper e = subst (IsProper nego) (same_Some marking left e) proper
leaves-proper nego ok marking left (step ∷ steps) proper e =
    let h = leaves-first nego marking step steps left e in
    leaves-proper nego ok h.0 left steps (after-proper nego ok marking h.0 step proper h.1) h.2

-- occurrences leave each agent ready for one atom at most
pub leaves-single : (nego : Negotiation) → IsDeterministic nego → (marking left : PlainMarking) (steps : List Occurrence) → length marking ≡ nego.agents → IsSingle nego marking → leaves nego marking steps ≡ Some left →
    IsSingle nego left
leaves-single nego one marking left [] l single e = subst (IsSingle nego) (same_Some marking left e) single
leaves-single nego one marking left (step ∷ steps) l single e =
    let h = leaves-first nego marking step steps left e in
    leaves-single nego one h.0 left steps (length-after nego marking step h.0 h.1 ∙ l) (after-single nego one marking h.0 step l single h.1) h.2

-- who is ready for one atom at most, and for this one, is ready for it alone
pub ready_alone : (nego : Negotiation) (marking : PlainMarking) (a n : ℕ) → IsProper nego marking → IsSingle nego marking → a < nego.agents → IsTrue (is_in n (ready marking a)) → ready marking a ≡ n ∷ []
ready_alone nego marking a n proper single h k = rising-single (ready marking a) n (proper.rise a h) k (λ m l. single a m n h l k)

-- two enabled atoms with a common party are one, where each agent is ready for one atom at most
pub same_enabled : (nego : Negotiation) → IsNegotiation nego → (marking : PlainMarking) (m n a : ℕ) → IsSingle nego marking → IsTrue (enables nego marking m) → IsTrue (enables nego marking n) →
    IsTrue (is_in a (nego.parties m)) → IsTrue (is_in a (nego.parties n)) → m ≡ n
same_enabled nego ok marking m n a single h k p q =
    single a m n (ok.party_below m a (enables-atom nego marking m h) p) (enables-party nego marking m a h p) (enables-party nego marking n a k q)
