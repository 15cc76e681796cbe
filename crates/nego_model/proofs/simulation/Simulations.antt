-- Where one negotiation can do what another does: what is reached in the other is reached in the one, both are sound
-- alike, and their complete runs relate the same.
use Rattle.std.proofs.Common.{◌≡◌, ℕ, List, [], ◌∷◌, replicate, Some, IsTrue, sym, subst, ap, ap₂, ◌∙◌}
use Rattle.std.proofs.lemmas.Option.{same_Some}
use Rattle.nego_base.specs.Members.{is_in}
use Rattle.nego_model.specs.Negotiation.{Negotiation, IsNegotiation, IsDeterministic, IsOutcome}
use Rattle.nego_model.specs.Occurring.{PlainMarking, Occurrence, moved, enables, after, leaves, opening_marking, final_marking, IsSound}
use Rattle.nego_model.specs.Joining.{Relation, Runs}
use Rattle.nego_model.specs.Reaching.{all_at_last, Reaches, EndsAtLast}
use Rattle.nego_model.proofs.occurrence.Markings.{enables-atom, enables-party, enables_from}
use Rattle.nego_model.proofs.occurrence.Steps.{after-some, after-outcome, after_from, leaves-first}
use Rattle.nego_model.proofs.occurrence.Reached.{Leads, Leads-itself, Leads_through, Reaches-itself, Reaches_one, Reaches_through, reached_by_last}
use Rattle.nego_model.proofs.simulation.Alike.{AreAlike, moved-same, IsOutcome-alike, after-alike}
use Rattle.nego_model.proofs.occurrence.Ways.{runs_pass_all_at_last, Runs-from_all_at_last, sound_leads, Sound_from_leads}

-- ---- one atom in two negotiations

module _ (one two : Negotiation) where
  -- an atom that has the same parties in both is enabled in the other where it is in the one
  pub as-enabled : (marking : PlainMarking) (n : ℕ) → IsTrue (enables one marking n) → IsTrue (is_in n two.atoms) → one.parties n ≡ two.parties n → IsTrue (enables two marking n)
  as-enabled marking n h there same =
      enables_from two marking n there (λ a k. enables-party one marking n a h (subst (λ xs. IsTrue (is_in a xs)) (sym same) k))

  -- where it has an outcome in the one and an outcome in the other that send its parties to the same atoms, what the one
  -- leaves the other leaves
  pub as-after : (from to : PlainMarking) (n o p : ℕ) → after one from (n, o) ≡ Some to → IsTrue (is_in n two.atoms) → one.parties n ≡ two.parties n → IsTrue (is_in p (two.outcomes n)) →
      ((a : ℕ) → IsTrue (is_in a (one.parties n)) → one.next o a ≡ two.next p a) → after two from (n, p) ≡ Some to
  as-after from to n o p h there same k next =
      let s = after-some one from (n, o) to h in
      after_from two from (n, p) (as-enabled from n s.0 there same) k
      ∙ ap (λ m. Some m) (ap (λ xs. moved 0 xs (two.next p) from) (sym same) ∙ (sym (moved-same (one.parties n) (one.next o) (two.next p) from next) ∙ s.2))

-- ---- negotiations with the same atoms

-- The same agents, atoms, parties of each atom, first and last atom.
pub record SameAtoms (one two : Negotiation) : Type 0 where
  pub agents : one.agents ≡ two.agents
  pub atoms : (n : ℕ) → is_in n one.atoms ≡ is_in n two.atoms
  pub parties : (n : ℕ) → IsTrue (is_in n one.atoms) → one.parties n ≡ two.parties n
  pub first : one.first ≡ two.first
  pub last : one.last ≡ two.last

pub SameAtoms-turned : (one two : Negotiation) → SameAtoms one two → SameAtoms two one
SameAtoms-turned one two same = record {
  agents = sym same.agents;
  atoms = λ n. sym (same.atoms n);
  parties = λ n h. sym (same.parties n (same.atoms n ∙ h));
  first = sym same.first;
  last = sym same.last;
}

module _ (one two : Negotiation) (same : SameAtoms one two) where
  -- an atom of the one is an atom of the other
  pub same-atom : (n : ℕ) → IsTrue (is_in n one.atoms) → IsTrue (is_in n two.atoms)
  same-atom n h = sym (same.atoms n) ∙ h

  pub same-opening : opening_marking one ≡ opening_marking two
  same-opening = ap₂ (λ count n. replicate count (n ∷ [])) same.agents same.first

  pub same-final : final_marking one ≡ final_marking two
  same-final = ap (λ count. replicate count []) same.agents

  pub same-all_at_last : all_at_last one ≡ all_at_last two
  same-all_at_last = ap₂ (λ count n. replicate count (n ∷ [])) same.agents same.last

  -- the same atoms are enabled
  pub same-enables : (marking : PlainMarking) (n : ℕ) → IsTrue (enables one marking n) → IsTrue (enables two marking n)
  same-enables marking n h =
      let there = enables-atom one marking n h in
      as-enabled one two marking n h (same-atom n there) (same.parties n there)

  -- where an outcome of the one and an outcome of the other send the parties of their atom to the same atoms, what the
  -- one leaves the other leaves
  pub same-after : (from to : PlainMarking) (n o p : ℕ) → after one from (n, o) ≡ Some to → IsTrue (is_in p (two.outcomes n)) →
      ((a : ℕ) → IsTrue (is_in a (one.parties n)) → one.next o a ≡ two.next p a) → after two from (n, p) ≡ Some to
  same-after from to n o p h k next =
      let there = (after-outcome one from (n, o) to h).0 in
      as-after one two from to n o p h (same-atom n there) (same.parties n there) k next

-- ---- what one occurrence shows, shown of all that is reached

-- of any marking
abbrev pub Anywhere : PlainMarking → Type 0
Anywhere m = Unit {0}

-- What holds of a marking holds of what an occurrence leaves.
abbrev pub Lasts : Negotiation → (PlainMarking → Type 0) → Type 0
Lasts nego P = (from to : PlainMarking) (step : Occurrence) → P from → after nego from step ≡ Some to → P to

-- Where P holds, to what an occurrence of the one leads, occurrences of the other lead.
abbrev pub StepsLed : (one two : Negotiation) → (PlainMarking → Type 0) → Type 0
StepsLed one two P = (from to : PlainMarking) (step : Occurrence) → P from → after one from step ≡ Some to → Leads two from to

-- Where P holds, what an occurrence of the one reaches, occurrences of the other reach.
abbrev pub StepsReached : (one : Negotiation) → Relation → (two : Negotiation) → Relation → (PlainMarking → Type 0) → Type 0
StepsReached one relation two relation' P =
    (from to : PlainMarking) (d e : ℕ) (step : Occurrence) → P from → after one from step ≡ Some to → relation step.1 d e → Reaches two relation' from d to e

-- what lasts holds of what a marking leads to
pub Lasts-led : (nego : Negotiation) (P : PlainMarking → Type 0) → Lasts nego P → (from to : PlainMarking) → P from → Leads nego from to → P to
Lasts-led nego P lasts from to p h = go h.steps from p h.leads
  where
    go : (steps : List Occurrence) (from' : PlainMarking) → P from' → leaves nego from' steps ≡ Some to → P to
    go [] from' q l = subst P (same_Some from' to l) q
    go (step ∷ steps) from' q l =
        let k = leaves-first nego from' step steps to l in
        go steps k.0 (lasts from' k.0 step q k.1) k.2

-- to what the one leads, the other leads, where it does in each single occurrence
pub Leads-in : (one two : Negotiation) (P : PlainMarking → Type 0) → Lasts one P → StepsLed one two P → (from to : PlainMarking) → P from → Leads one from to → Leads two from to
Leads-in one two P lasts led from to p h = go h.steps from p h.leads
  where
    go : (steps : List Occurrence) (from' : PlainMarking) → P from' → leaves one from' steps ≡ Some to → Leads two from' to
    go [] from' q l = subst (Leads two from') (same_Some from' to l) (Leads-itself two from')
    go (step ∷ steps) from' q l =
        let k = leaves-first one from' step steps to l in
        Leads_through two from' k.0 to (led from' k.0 step q k.1) (go steps k.0 (lasts from' k.0 step q k.1) k.2)

-- what is reached in the one is reached in the other, where it is in each single occurrence
pub Reaches-in : (one : Negotiation) (relation : Relation) (two : Negotiation) (relation' : Relation) (P : PlainMarking → Type 0) → Lasts one P → StepsReached one relation two relation' P →
    (from : PlainMarking) (d : ℕ) (to : PlainMarking) (e : ℕ) → P from → Reaches one relation from d to e → Reaches two relation' from d to e
Reaches-in one relation two relation' P lasts reached from d to e p h =
    (reached_by_last one relation from d (λ m c. P m × Reaches two relation' from d m c) (p, Reaches-itself two relation' from d)
    (λ between c m b step before q s r. (
      lasts between m step q.0 s,
      Reaches_through two relation' from d between c m b q.1 (reached between m c b step q.0 s r),
    )) to e h).1

-- ---- soundness and complete runs

-- Of two negotiations of the same atoms, where to what an occurrence of either leads, occurrences of the other lead, the
-- one is sound where the other is.
pub Sound-same : (one two : Negotiation) (P Q : PlainMarking → Type 0) → SameAtoms one two → P (opening_marking one) → Q (opening_marking two) → Lasts one P → Lasts two Q → StepsLed one two P → StepsLed two one Q →
    IsSound one → IsSound two
Sound-same one two P Q same p q lasts lasts' led led' sound = Sound_from_leads two alive completes
  where
    opening : opening_marking one ≡ opening_marking two
    opening = same-opening one two same

    here : (m : PlainMarking) → Leads one (opening_marking one) m → Leads two (opening_marking two) m
    here m h = subst (λ from. Leads two from m) opening (Leads-in one two P lasts led (opening_marking one) m p h)

    there : (m : PlainMarking) → Leads two (opening_marking two) m → Leads one (opening_marking one) m
    there m h = subst (λ from. Leads one from m) (sym opening) (Leads-in two one Q lasts' led' (opening_marking two) m q h)

    alive : (n : ℕ) → IsTrue (is_in n two.atoms) → (m : PlainMarking) × Leads two (opening_marking two) m × IsTrue (enables two m n)
    alive n h =
        let k = sound.alive n (same-atom two one (SameAtoms-turned one two same) n h) in
        (k.marking, here k.marking (record { steps = k.run; leads = k.leads }), same-enables one two same k.marking n k.enabled)

    completes : (m : PlainMarking) → Leads two (opening_marking two) m → Leads two m (final_marking two)
    completes m h =
        let k = there m h in
        subst (Leads two m) (same-final one two same)
        (Leads-in one two P lasts led m (final_marking one) (Lasts-led one P lasts (opening_marking one) m p k) (sound_leads one sound m k))

-- Of two negotiations of the same atoms, what the complete runs of the one with a final outcome relate, the complete runs
-- of the other with it relate, where each way to everyone at the last atom is one in the other.
pub Runs-from_ways : (one : Negotiation) (relation : Relation) (two : Negotiation) (relation' : Relation) → SameAtoms one two → IsNegotiation one → IsDeterministic one → IsNegotiation two → (f : ℕ) →
    (IsOutcome one one.last f → IsTrue (is_in f (two.outcomes two.last))) → ((d e : ℕ) → relation f d e → relation' f d e) →
    ((d c : ℕ) → Reaches one relation (opening_marking one) d (all_at_last one) c → Reaches two relation' (opening_marking one) d (all_at_last one) c) → (d e : ℕ) → Runs one relation f d e → Runs two relation' f d e
Runs-from_ways one relation two relation' same ok single ok' f final related ways d e h =
    Runs-from_all_at_last two relation' f d e ok' (record {
      before = k.before;
      way = subst (λ to. Reaches two relation' (opening_marking two) d to k.before) (same-all_at_last one two same)
          (subst (λ from. Reaches two relation' from d (all_at_last one) k.before) (same-opening one two same) (ways d k.before k.way));
      last = related k.before e k.last;
      outcome = (ok'.last_there, final k.outcome);
    })
  where
    k : EndsAtLast one relation f d e
    k = runs_pass_all_at_last one relation f d e ok single h

-- The same where what an occurrence of the one reaches, occurrences of the other reach.
pub Runs-same : (one : Negotiation) (relation : Relation) (two : Negotiation) (relation' : Relation) (P : PlainMarking → Type 0) → SameAtoms one two → IsNegotiation one → IsDeterministic one → IsNegotiation two →
    P (opening_marking one) → Lasts one P → StepsReached one relation two relation' P → (f : ℕ) → (IsOutcome one one.last f → IsTrue (is_in f (two.outcomes two.last))) →
    ((d e : ℕ) → relation f d e → relation' f d e) → (d e : ℕ) → Runs one relation f d e → Runs two relation' f d e
Runs-same one relation two relation' P same ok single ok' p lasts reached f final related =
    Runs-from_ways one relation two relation' same ok single ok' f final related
    (λ d c. Reaches-in one relation two relation' P lasts reached (opening_marking one) d (all_at_last one) c p)

-- ---- negotiations alike

-- negotiations alike have the same atoms
pub SameAtoms-alike : (one two : Negotiation) → AreAlike one two → SameAtoms one two
SameAtoms-alike one two alike = record { agents = alike.agents; atoms = alike.atoms; parties = alike.parties; first = alike.first; last = alike.last }

-- Complete runs of negotiations alike relate the same, where each outcome of an atom does.
pub Runs-alike_outcomes : (one : Negotiation) (relation : Relation) (two : Negotiation) (relation' : Relation) → AreAlike one two → IsNegotiation one → IsDeterministic one → IsNegotiation two →
    ((n o d e : ℕ) → IsOutcome one n o → relation o d e → relation' o d e) → (f d e : ℕ) → IsTrue (is_in f (one.outcomes one.last)) → Runs one relation f d e → Runs two relation' f d e
Runs-alike_outcomes one relation two relation' alike ok single ok' related f d e final =
    Runs-same one relation two relation' Anywhere (SameAtoms-alike one two alike) ok single ok' tt (λ from to step p h. tt)
    (λ from to c b step p h r.
    Reaches_one two relation' from c to b step (after-alike one two alike from to step h) (related step.0 step.1 c b (after-outcome one from step to h) r))
    f (λ h. subst (λ n. IsTrue (is_in f (two.outcomes n))) alike.last (IsOutcome-alike one two alike one.last f h).1)
    (λ c b r. related one.last f c b (ok.last_there, final) r) d e
