-- What keeps an agent valid.
use Rattle.std.proofs.Common.{◌≡◌, ◌≢◌, ◌⊎◌, ℕ, zero, suc, ◌<◌, ◌≤◌, List, [], ◌∷◌, ◌++◌, length, take, fold, replicate, slice_get, slice_set, slice_index_or, Option, Some, None, refl, sym, ap, ◌∙◌, subst, inl, inr, ⊎_elim, arith, append-nil, append_assoc}
use Rattle.std.proofs.lemmas.List.Sums.{fold-append}
use Rattle.std.proofs.lemmas.List.Elements.{All-contains}
use Rattle.std.proofs.lemmas.List.{take-append-le, get_or-set_same, get_or-set_other, get_or_past, length-set, length-map}
use Rattle.std.proofs.Math.ListN.{get_or-map}
use Rattle.nego_base.specs.Members.{is_in}
use Rattle.nego_base.proofs.Cases.{chosen}
use Rattle.agent_core.specs.Deciding.{unless_from, without_from}
use Rattle.std.proofs.lemmas.Bool.{cases_lt}
use Rattle.std.proofs.lemmas.Option.{same_Some, none-some}
use Rattle.std.proofs.Math.Seq.{take-append_seam}
use Rattle.agent_msg.specs.Messages.{ReadyMessage}
use Rattle.agent_msg.specs.Records.{Share, PlainRecord, Moved, Decided}
use Rattle.nego_model.specs.Diagram.{PlainDiagram, nexts_of}
use Rattle.std.specs.Option.{option_map, option_map_or}
use Rattle.agent_core.proofs.Shares.{found_share}
use Rattle.agent_core.specs.Agents.{PlainAgent, size_of, share_of, value_after, held_from, nothing_held, record_outcome, recorded, beginning, left_by, IsStep, AreSteps, IsForAgent, IsLeftByRecords, IsValid}

-- what records leave, and one more
pub left_by-push : (diagram : PlainDiagram) (a start : ℕ) (records : List PlainRecord) (r : PlainRecord) → left_by diagram a start (records ++ r ∷ []) ≡ recorded diagram (left_by diagram a start records) r
left_by-push diagram a start records r = fold-append (recorded diagram) (beginning diagram a start) records (r ∷ [])

-- what an agent holds says nothing of its steps
pub step_holding : (diagram : PlainDiagram) (agent : PlainAgent) (held : List (Option ReadyMessage)) (r : PlainRecord) → IsStep diagram (record agent { held = held }) r → IsStep diagram agent r
step_holding diagram agent held (Moved n o after) s = record { at = s.at; outcome = s.outcome; led = s.led; below = s.below }
step_holding diagram agent held (Decided n o shares) s = record { at = s.at; outcome = s.outcome; leads = s.leads; parties = s.parties; below = s.below; visit = s.visit }

-- an agent that its records leave, and one more record
pub left-recorded : (diagram : PlainDiagram) (agent : PlainAgent) (r : PlainRecord) → IsLeftByRecords diagram agent → IsLeftByRecords diagram (recorded diagram agent r)
left-recorded diagram agent r e =
    ap (λ g. recorded diagram g r) e ∙ ap {A = PlainAgent} (λ g. record g { held = agent.held }) (sym (left_by-push diagram agent.id agent.start agent.records r))

-- an item of a list with one more is one of the list, or the one
pub pushed_at : {A : Type 0} (xs : List A) (x y : A) (i : ℕ) → slice_get (xs ++ x ∷ []) i ≡ Some y → ((i < length xs) × (slice_get xs i ≡ Some y)) ⊎ ((i ≡ length xs) × (x ≡ y))
pushed_at [] x y zero h = inr (refl, same_Some x y h)
pushed_at [] x y (suc i) h = absurd (none-some y h)
pushed_at (z ∷ zs) x y zero h = inl (omega arith, h)
pushed_at (z ∷ zs) x y (suc i) h =
    ⊎_elim (λ k. inl (omega (arith, k.0), k.1)) (λ k. inr (omega (arith, k.0), k.1)) (pushed_at zs x y i h)

-- steps, and one more
pub steps-push : (diagram : PlainDiagram) (a start : ℕ) (records : List PlainRecord) (r : PlainRecord) → AreSteps diagram a start records → IsStep diagram (left_by diagram a start records) r → AreSteps diagram a start (records ++ r ∷ [])
steps-push diagram a start records r steps step i x at =
    ⊎_elim before last (pushed_at records r x i at)
  where
    before : (i < length records) × (slice_get records i ≡ Some x) → IsStep diagram (left_by diagram a start (take i (records ++ r ∷ []))) x
    before h = let le : i ≤ length records = omega (arith, h.0) in subst (λ xs. IsStep diagram (left_by diagram a start xs) x) (sym (take-append-le i records (r ∷ []) le)) (steps i x h.1)

    last : (i ≡ length records) × (r ≡ x) → IsStep diagram (left_by diagram a start (take i (records ++ r ∷ []))) x
    last h =
        let front : records ≡ take i (records ++ r ∷ []) = sym (ap (λ k. take k (records ++ r ∷ [])) h.0 ∙ take-append_seam records (r ∷ [])) in
        subst (λ xs. IsStep diagram (left_by diagram a start xs) x) front (subst (λ y. IsStep diagram (left_by diagram a start records) y) h.1 step)

-- the value after a step is below the agent's size
pub value_after-below : (diagram : PlainDiagram) (agent : PlainAgent) (r : PlainRecord) → IsStep diagram agent r → value_after agent.id r < size_of diagram agent.id
value_after-below diagram agent (Moved n o after) s = s.below
value_after-below diagram agent (Decided n o shares) s = go (share_of agent.id shares) refl s.visit
  where
    go : (o : Option Share) → share_of agent.id shares ≡ o → option_map (λ s. s.visit) o ≡ Some (length agent.records) → option_map_or (λ s. s.after) (share_of agent.id shares) 0 < size_of diagram agent.id
    go None e h = absurd (none-some (length agent.records) h)
    go (Some share) e h =
        let found = found_share agent.id shares share e in
        subst (λ o. option_map_or (λ s. s.after) o 0 < size_of diagram agent.id) (sym e)
        (subst (λ a. share.after < size_of diagram a) found.1 (All-contains (λ s. s.after < size_of diagram s.agent) shares share s.below found.0))

-- an agent that records a step stays valid
pub valid-recorded : (diagram : PlainDiagram) (agent : PlainAgent) (r : PlainRecord) → IsValid diagram agent → IsStep diagram agent r →
    ((n : ℕ) → slice_get (nexts_of diagram (record_outcome r) agent.id) 0 ≡ Some n → n < length diagram.atoms) → IsValid diagram (recorded diagram agent r)
valid-recorded diagram agent r ok step place = record {
  known = ok.known;
  place = place;
  value = value_after-below diagram agent r step;
  steps = steps-push diagram agent.id agent.start agent.records r ok.steps (step_holding diagram (left_by diagram agent.id agent.start agent.records) agent.held r (subst (λ g. IsStep diagram g r) ok.left step));
  left = left-recorded diagram agent r ok.left;
  room = ok.room;
  held = ok.held;
}

-- two numbers are equal or not
pub same_or_not : (m n : ℕ) → (m ≡ n) ⊎ (m ≢ n)
same_or_not m n =
    ⊎_elim (λ below. inr (λ (e : m ≡ n). omega (arith, below, e))) (λ above. ⊎_elim (λ below. inr (λ (e : m ≡ n). omega (arith, below, e))) (λ le. inl (omega (arith, above, le))) (cases_lt n m)) (cases_lt m n)

-- the Ready that is held once another was
pub held-with : (agent : PlainAgent) (from p : ℕ) (ready other : ReadyMessage) → held_from (record agent { held = slice_set agent.held from (Some other) }) p ≡ Some ready →
    ((p ≡ from) × (other ≡ ready)) ⊎ (held_from agent p ≡ Some ready)
held-with agent from p ready other h =
    ⊎_elim (λ same. inl (same, same_there same)) (λ differ. inr (sym (get_or-set_other agent.held from p (Some other) None differ) ∙ h)) (same_or_not p from)
  where
    same_there : p ≡ from → other ≡ ready
    same_there e =
        ⊎_elim (λ below. same_Some other ready (sym (get_or-set_same agent.held from (Some other) None below) ∙ subst (λ k. slice_index_or (slice_set agent.held from (Some other)) k None ≡ Some ready) e h))
        (λ past. absurd (none-some ready (sym (get_or_past (slice_set agent.held from (Some other)) from None (omega (arith, past, length-set agent.held from (Some other)))) ∙ subst (λ k. slice_index_or (slice_set agent.held from (Some other)) k None ≡ Some ready) e h)))
        (cases_lt from (length agent.held))

-- an agent that holds a Ready for it stays valid
pub valid-held : (diagram : PlainDiagram) (agent : PlainAgent) (ready : ReadyMessage) → IsValid diagram agent → IsForAgent diagram agent.id ready →
    IsValid diagram (record agent { held = slice_set agent.held ready.from (Some ready) })
valid-held diagram agent ready ok own = record {
  known = ok.known;
  place = ok.place;
  value = ok.value;
  steps = ok.steps;
  left = ap {A = PlainAgent} (λ g. record g { held = slice_set agent.held ready.from (Some ready) }) ok.left;
  room = length-set agent.held ready.from (Some ready) ∙ ok.room;
  held = λ p other h. ⊎_elim
      (λ k. let P : ReadyMessage → Type 0 = λ r. (r.from ≡ p) × IsForAgent diagram agent.id r in subst P k.1 (sym k.0, own))
      (λ k. ok.held p other k)
      (held-with agent ready.from p other ready h);
}

-- the agent that records leave has them, its number, and its value at the start
pub left_by-same : (diagram : PlainDiagram) (agent : PlainAgent) (records : List PlainRecord) →
    ((fold (recorded diagram) agent records).id ≡ agent.id) × ((fold (recorded diagram) agent records).start ≡ agent.start) × ((fold (recorded diagram) agent records).records ≡ agent.records ++ records) × ((fold (recorded diagram) agent records).held ≡ agent.held)
left_by-same diagram agent [] = (refl, refl, sym (append-nil agent.records), refl)
left_by-same diagram agent (r ∷ records) =
    let later = left_by-same diagram (recorded diagram agent r) records in (later.0, later.1, later.2 ∙ append_assoc agent.records (r ∷ []) records, later.3)

pub left_by-records : (diagram : PlainDiagram) (a start : ℕ) (records : List PlainRecord) → (left_by diagram a start records).records ≡ records
left_by-records diagram a start records = (left_by-same diagram (beginning diagram a start) records).2

-- a valid agent that records leave has them as its steps
pub valid_left : (diagram : PlainDiagram) (a start : ℕ) (records : List PlainRecord) → IsValid diagram (left_by diagram a start records) → AreSteps diagram a start records
valid_left diagram a start records ok =
    let same = left_by-same diagram (beginning diagram a start) records in
    subst (λ xs. AreSteps diagram a start xs) same.2
    (subst (λ b. AreSteps diagram a b (left_by diagram a start records).records) same.1
    (subst (λ b. AreSteps diagram b (left_by diagram a start records).start (left_by diagram a start records).records) same.0 ok.steps))

-- a Ready that isn't dropped was held
pub unless_from-some : (agents : List ℕ) (slot : Option ReadyMessage) (ready : ReadyMessage) → unless_from agents slot ≡ Some ready → slot ≡ Some ready
unless_from-some agents None ready h = h
unless_from-some agents (Some other) ready h =
    ⊎_elim (λ k. absurd (none-some ready k.1)) (λ k. k.1) (chosen (is_in other.from agents) None (Some other) (Some ready) h)

-- an agent that drops what is from some agents stays valid
pub valid-dropped : (diagram : PlainDiagram) (agent : PlainAgent) (agents : List ℕ) → IsValid diagram agent → IsValid diagram (record agent { held = without_from agents agent.held })
valid-dropped diagram agent agents ok = record {
  known = ok.known;
  place = ok.place;
  value = ok.value;
  steps = ok.steps;
  left = ap {A = PlainAgent} (λ g. record g { held = without_from agents agent.held }) ok.left;
  room = length-map agent.held (unless_from agents) ∙ ok.room;
  held = λ p ready h. ok.held p ready (unless_from-some agents (held_from agent p) ready (sym (get_or-map (unless_from agents) agent.held p None) ∙ h));
}

-- every item of a list of one item many times is this one
pub get_or-alike : {A : Type 0} (n k : ℕ) (x : A) → slice_index_or (replicate n x) k x ≡ x
get_or-alike zero k x = refl
get_or-alike (suc n) zero x = refl
get_or-alike (suc n) (suc k) x = get_or-alike n k x

-- an agent that holds nothing holds no Ready
pub none-held : (p : ℕ) (ready : ReadyMessage) → slice_index_or nothing_held p None ≡ Some ready → ⊥
none-held p ready h = none-some ready (sym (get_or-alike 16 p None) ∙ h)

-- an agent that drops all that it holds stays valid
pub valid-forgot : (diagram : PlainDiagram) (agent : PlainAgent) → IsValid diagram agent → IsValid diagram (record agent { held = nothing_held })
valid-forgot diagram agent ok = record {
  known = ok.known;
  place = ok.place;
  value = ok.value;
  steps = ok.steps;
  left = ap {A = PlainAgent} (λ g. record g { held = nothing_held }) ok.left;
  room = refl;
  held = λ p ready h. absurd (none-held p ready h);
}
