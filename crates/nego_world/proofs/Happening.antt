-- Whatever happens, a consistent world stays so.
use Rattle.std.proofs.Common.{◌≡◌, ℕ, zero, suc, List, [], ◌∷◌, slice_get, Option, Some, None, Result, Ok, Err, IfOk, refl, sym, ap, subst, arith}
use Rattle.std.proofs.lemmas.Option.{same_Some, none-some}
use Rattle.std.proofs.lemmas.List.Elements.{All-head, All-tail}
use Rattle.std.specs.List.{Contains}
use Rattle.std.specs.Option.{option_map_or}
use Rattle.std.specs.Result.{result_map_both}
use Rattle.nego_base.specs.Results.{◌>>=◌}
use Rattle.nego_base.proofs.Cases.{same_Ok, ok-err, bind_ok}
use Rattle.nego_model.specs.Negotiation.{IsDeterministic}
use Rattle.nego_model.specs.Diagram.{PlainDiagram, IsDiagram, negotiation_of}
use Rattle.agent_msg.specs.Messages.{Message}
use Rattle.agent_core.specs.Acts.{telling}
use Rattle.agent_core.specs.Deciding.{Undecided, atom_to_decide, deciding}
use Rattle.agent_core.specs.Worlds.{PlainWorld, PlainEvent, Tell, Give, Decide, Stop, GoesOn, Refusal, NoMessage, NoDecision, Deed, agent_of, addressee, deed_by, given_act, stopping, deed_of, after_deed, step, plays}
use Rattle.agent_core.specs.Consistency.{IsConsistent}
use Rattle.agent_core.proofs.Decisions.{may_decide}
use Rattle.agent_core.proofs.Shares.{Contains-tail}
use Rattle.nego_world.specs.Events.{NamesAgent, NamesAgents}
use Rattle.nego_world.proofs.Keeping.{IsAllowed, consistent-after}
use Rattle.nego_world.proofs.Deeds.{stopping-allowed, telling-allowed}
use Rattle.nego_world.proofs.Moves.{giving-allowed}
use Rattle.nego_world.proofs.Deciding.{deciding-allowed}

-- an item at a place is one of the list
pub Contains_at : {A : Type 0} (xs : List A) (i : ℕ) (x : A) → slice_get xs i ≡ Some x → Contains xs x
Contains_at [] i x h = absurd (none-some x h)
Contains_at (y ∷ ys) zero x h = (0, omega arith, same_Some y x h)
Contains_at (y ∷ ys) (suc i) x h = Contains-tail y ys x (Contains_at ys i x h)

-- what follows where there is a result
pub if_ok : {T E : Type 0} (P : T → Type 0) (r : Result T E) → ((x : T) → r ≡ Ok x → P x) → IfOk r P
if_ok P (Ok x) h = h x refl
if_ok P (Err e) h = tt

module _ (diagram : PlainDiagram) (ok : IsDiagram diagram) (single : IsDeterministic (negotiation_of diagram)) where
  -- what is done in an event is allowed
  pub deed-allowed : (world : PlainWorld) → IsConsistent diagram world → (event : PlainEvent) → NamesAgent diagram event → (deed : Deed) → deed_of diagram world event ≡ Ok deed → IsAllowed diagram world deed
  deed-allowed world was (Tell a) known deed h = subst (λ x. IsAllowed diagram world x) (same_Ok (deed_by a GoesOn (telling diagram (agent_of diagram world a))) deed h) (telling-allowed diagram world a was known)
  deed-allowed world was (Stop a) known deed h = subst (λ x. IsAllowed diagram world x) (same_Ok (deed_by a GoesOn stopping) deed h) (stopping-allowed diagram world a was known)
  deed-allowed world was (Give i ending) known deed h = go (slice_get world.sent i) refl h
    where
      go : (o : Option Message) → slice_get world.sent i ≡ o → option_map_or (λ m. Ok (deed_by (addressee m) ending (given_act diagram world m))) o (Err (NoMessage i)) ≡ Ok deed → IsAllowed diagram world deed
      go None e k = absurd (ok-err deed (NoMessage i) (sym k))
      go (Some m) e k =
          subst (λ x. IsAllowed diagram world x) (same_Ok (deed_by (addressee m) ending (given_act diagram world m)) deed k) (giving-allowed diagram ok single world was m ending (Contains_at world.sent i m e))
  deed-allowed world was (Decide a choice ending) known deed h = go (atom_to_decide diagram (agent_of diagram world a)) refl h
    where
      go : (r : Result ℕ Undecided) → atom_to_decide diagram (agent_of diagram world a) ≡ r →
          result_map_both (deed_by a ending) NoDecision (r >>= λ n. Ok (deciding diagram (agent_of diagram world a) n choice)) ≡ Ok deed → IsAllowed diagram world deed
      go (Err why) e k = absurd (ok-err deed (NoDecision why) (sym k))
      go (Ok n) e k =
          subst (λ x. IsAllowed diagram world x) (same_Ok (deed_by a ending (deciding diagram (agent_of diagram world a) n choice)) deed k)
          (deciding-allowed diagram ok single world was a n known (may_decide diagram (agent_of diagram world a) n e) choice ending)

  -- after an event a consistent world is consistent
  pub step-consistent : (world next : PlainWorld) → IsConsistent diagram world → (event : PlainEvent) → NamesAgent diagram event → step diagram world event ≡ Ok next → IsConsistent diagram next
  step-consistent world next was event known h =
      let b = bind_ok (deed_of diagram world event) (λ deed. Ok (after_deed diagram world deed)) next h in
      subst (λ w. IsConsistent diagram w) (same_Ok (after_deed diagram world b.0) next b.2) (consistent-after diagram world b.0 was (deed-allowed world was event known b.0 b.1))

  -- and after events
  pub plays-consistent : (lines : List (ℕ × PlainEvent)) (world last : PlainWorld) → IsConsistent diagram world → NamesAgents diagram lines → plays diagram world lines ≡ Ok last → IsConsistent diagram last
  plays-consistent [] world last was known h = subst (λ w. IsConsistent diagram w) (same_Ok world last h) was
  plays-consistent (item ∷ rest) world last was known h =
      go (step diagram world item.1) refl h (λ next is_next k. plays-consistent rest next last is_next (All-tail (λ x. NamesAgent diagram x.1) item rest known) k)
    where
      go : (r : Result PlainWorld Refusal) → step diagram world item.1 ≡ r → (result_map_both (λ next. next) (λ why. (item.0, why)) r >>= λ next. plays diagram next rest) ≡ Ok last →
          ((next : PlainWorld) → IsConsistent diagram next → plays diagram next rest ≡ Ok last → IsConsistent diagram last) → IsConsistent diagram last
      go (Err why) e k later = absurd (ok-err last (item.0, why) (sym k))
      go (Ok next) e k later = later next (step-consistent world next was item.1 (All-head (λ x. NamesAgent diagram x.1) item rest known) e) k

-- events leave the start as it is
pub plays-start : (diagram : PlainDiagram) (lines : List (ℕ × PlainEvent)) (world last : PlainWorld) → plays diagram world lines ≡ Ok last → last.start ≡ world.start
plays-start diagram [] world last h = ap (λ (w : PlainWorld). w.start) (sym (same_Ok world last h))
plays-start diagram (item ∷ rest) world last h = go (deed_of diagram world item.1) h (λ next k. plays-start diagram rest next last k)
  where
    go : (r : Result Deed Refusal) → (result_map_both (λ next. next) (λ why. (item.0, why)) (r >>= λ deed. Ok (after_deed diagram world deed)) >>= λ next. plays diagram next rest) ≡ Ok last →
        ((next : PlainWorld) → plays diagram next rest ≡ Ok last → last.start ≡ next.start) → last.start ≡ world.start
    go (Err why) k later = absurd (ok-err last (item.0, why) (sym k))
    go (Ok deed) k later = later (after_deed diagram world deed) k
