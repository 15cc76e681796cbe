-- An agent that the refusal of an event names is one of the diagram's.
use Rattle.std.proofs.Common.{◌≡◌, ℕ, ◌<◌, cond, not, List, [], ◌∷◌, length, slice_get, Option, Some, None, Result, Ok, Err, refl, ap, subst, ⊎_elim, arith}
use Rattle.std.specs.List.{Contains}
use Rattle.std.specs.Option.{option_map_or, is_some}
use Rattle.std.specs.Result.{result_map_both}
use Rattle.std.proofs.lemmas.Bool.{cases_lt}
use Rattle.std.proofs.lemmas.Option.{slice_get_past}
use Rattle.nego_base.specs.Results.{◌>>=◌}
use Rattle.nego_base.proofs.Cases.{same_Err, ok-err, chosen, bind_err}
use Rattle.nego_model.specs.Diagram.{PlainDiagram, IsDiagram, parties_of}
use Rattle.nego_model.proofs.diagrams.Readers.{parties-below}
use Rattle.agent_msg.specs.Messages.{Message}
use Rattle.agent_core.specs.Agents.{PlainAgent}
use Rattle.agent_core.specs.Acts.{is_leader, telling}
use Rattle.agent_core.specs.Deciding.{Undecided, Finished, NotLeader, Waits, waits_for, atom_to_decide, deciding, known_of}
use Rattle.agent_core.specs.Worlds.{PlainWorld, PlainEvent, Tell, Give, Decide, Stop, GoesOn, Refusal, NoMessage, NoDecision, Deed, agent_of, addressee, deed_by, given_act, stopping, deed_of, after_deed, step, plays}
use Rattle.agent_core.proofs.Shares.{found}
use Rattle.nego_world.specs.Events.{RefusalNamesAgent}

module _ (diagram : PlainDiagram) (ok : IsDiagram diagram) where
  -- a party is an agent
  party-known : (n p : ℕ) → Contains (parties_of diagram n) p → p < length diagram.agents
  party-known n p there = ⊎_elim
      (λ within. subst (λ a. a < length diagram.agents) there.2 (parties-below diagram ok n within there.0 p there.1))
      (λ past.
      let none : parties_of diagram n ≡ [] = ap (λ o. option_map_or (λ atom. atom.parties) o []) (slice_get_past diagram.atoms n past) in
      let never : ⊥ = omega (arith, there.1, ap length none) in
      absurd never)
      (cases_lt n (length diagram.atoms))

  -- so is the agent that is waited for
  awaited-known : (agent : PlainAgent) (n : ℕ) (o : Option ℕ) (why : Undecided) → waits_for diagram agent n ≡ o → option_map_or (λ p. Err (Waits p)) o (Ok n) ≡ Err why → RefusalNamesAgent diagram (NoDecision why)
  awaited-known agent n None why e h = absurd (ok-err n why h)
  awaited-known agent n (Some p) why e h =
      subst (λ w. RefusalNamesAgent diagram (NoDecision w)) (same_Err {T = ℕ} (Waits p) why h)
      (party-known n p (found (λ q. not (is_some (known_of diagram agent n q))) (parties_of diagram n) p e).0)

  undecided-known : (agent : PlainAgent) (why : Undecided) → atom_to_decide diagram agent ≡ Err why → RefusalNamesAgent diagram (NoDecision why)
  undecided-known agent why h = go agent.at h
    where
      go : (at : Option ℕ) → option_map_or (λ n. cond (is_leader diagram agent.id n) (option_map_or (λ p. Err (Waits p)) (waits_for diagram agent n) (Ok n)) (Err NotLeader)) at (Err Finished) ≡ Err why →
          RefusalNamesAgent diagram (NoDecision why)
      go None k = subst (λ w. RefusalNamesAgent diagram (NoDecision w)) (same_Err {T = ℕ} Finished why k) tt
      go (Some n) k =
          ⊎_elim (λ l. awaited-known agent n (waits_for diagram agent n) why refl l.1) (λ r. subst (λ w. RefusalNamesAgent diagram (NoDecision w)) (same_Err {T = ℕ} NotLeader why r.1) tt)
          (chosen (is_leader diagram agent.id n) (option_map_or (λ p. Err (Waits p)) (waits_for diagram agent n) (Ok n)) (Err NotLeader) (Err why) k)

  deed-refused : (world : PlainWorld) (event : PlainEvent) (why : Refusal) → deed_of diagram world event ≡ Err why → RefusalNamesAgent diagram why
  deed-refused world (Tell a) why h = absurd (ok-err (deed_by a GoesOn (telling diagram (agent_of diagram world a))) why h)
  deed-refused world (Stop a) why h = absurd (ok-err (deed_by a GoesOn stopping) why h)
  deed-refused world (Give i ending) why h = go (slice_get world.sent i) h
    where
      go : (o : Option Message) → option_map_or (λ m. Ok (deed_by (addressee m) ending (given_act diagram world m))) o (Err (NoMessage i)) ≡ Err why → RefusalNamesAgent diagram why
      go None k = subst (RefusalNamesAgent diagram) (same_Err {T = Deed} (NoMessage i) why k) tt
      go (Some m) k = absurd (ok-err (deed_by (addressee m) ending (given_act diagram world m)) why k)
  deed-refused world (Decide a choice ending) why h = go (atom_to_decide diagram (agent_of diagram world a)) refl h
    where
      go : (r : Result ℕ Undecided) → atom_to_decide diagram (agent_of diagram world a) ≡ r →
          result_map_both (deed_by a ending) NoDecision (r >>= λ n. Ok (deciding diagram (agent_of diagram world a) n choice)) ≡ Err why → RefusalNamesAgent diagram why
      go (Err u) e k = subst (RefusalNamesAgent diagram) (same_Err {T = Deed} (NoDecision u) why k) (undecided-known (agent_of diagram world a) u e)
      go (Ok n) e k = absurd (ok-err (deed_by a ending (deciding diagram (agent_of diagram world a) n choice)) why k)

  step-refused : (world : PlainWorld) (event : PlainEvent) (why : Refusal) → step diagram world event ≡ Err why → RefusalNamesAgent diagram why
  step-refused world event why h = ⊎_elim (λ l. deed-refused world event why l) (λ r. absurd (ok-err (after_deed diagram world r.0) why r.2))
      (bind_err (deed_of diagram world event) (λ deed. Ok (after_deed diagram world deed)) why h)

  pub plays-refused : (lines : List (ℕ × PlainEvent)) (world : PlainWorld) (line : ℕ) (why : Refusal) → plays diagram world lines ≡ Err (line, why) → RefusalNamesAgent diagram why
  plays-refused [] world line why h = absurd (ok-err world (line, why) h)
  plays-refused (item ∷ rest) world line why h = go (step diagram world item.1) refl h (λ next k. plays-refused rest next line why k)
    where
      go : (r : Result PlainWorld Refusal) → step diagram world item.1 ≡ r → (result_map_both (λ next. next) (λ w. (item.0, w)) r >>= λ next. plays diagram next rest) ≡ Err (line, why) →
          ((next : PlainWorld) → plays diagram next rest ≡ Err (line, why) → RefusalNamesAgent diagram why) → RefusalNamesAgent diagram why
      go (Err w) e k later =
          let same : (item.0, w) ≡ (line, why) = same_Err {T = PlainWorld} (item.0, w) (line, why) k in
          subst (RefusalNamesAgent diagram) (ap (λ (p : ℕ × Refusal). p.1) same) (step-refused world item.1 w e)
      go (Ok next) e k later = later next k
