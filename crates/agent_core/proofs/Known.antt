-- What a leader knows, as joint data.
use Rattle.std.proofs.Common.{◌≡◌, ℕ, suc, ◌+◌, ◌*◌, ◌<◌, ◌≤◌, ◌==◌, Bool, true, false, cond, List, [], ◌∷◌, length, slice_index, Option, Some, None, refl, sym, ap, ◌∙◌, subst, arith, eqb-true}
use Rattle.std.proofs.lemmas.Option.{same_Some}
use Rattle.std.specs.Option.{option_map_or}
use Rattle.nego_base.proofs.Cases.{guard, bind_some}
use Rattle.nego_data.specs.Data.{data_count, joint}
use Rattle.nego_model.specs.Diagram.{PlainDiagram}
use Rattle.agent_msg.specs.Messages.{ReadyMessage}
use Rattle.agent_core.specs.Agents.{PlainAgent, size_of, held_from, IsValid}
use Rattle.agent_core.specs.Acts.{own_ready}
use Rattle.agent_core.specs.Deciding.{held_for, known_of}

-- joint data hang on the agents' values alone
pub joint-same : (sizes xs ys : List ℕ) → length sizes ≤ length xs → length sizes ≤ length ys → ((a : ℕ) → a < length sizes → slice_index xs a ≡ slice_index ys a) → joint sizes xs ≡ joint sizes ys
joint-same [] xs ys h k same = refl
joint-same (size ∷ sizes) [] ys h k same = absurd (omega (arith, h))
joint-same (size ∷ sizes) (x ∷ xs) [] h k same = absurd (omega (arith, k))
joint-same (size ∷ sizes) (x ∷ xs) (y ∷ ys) h k same =
    ap (λ v. v * data_count sizes + joint sizes xs) (same 0 (omega arith))
    ∙ ap (λ v. y * data_count sizes + v) (joint-same sizes xs ys (omega (arith, h)) (omega (arith, k)) (λ a below. same (suc a) (omega (arith, below))))

-- a Ready that is held for an atom is held, and for that atom
pub held_for-some : (agent : PlainAgent) (n p : ℕ) (ready : ReadyMessage) → held_for agent n p ≡ Some ready → (held_from agent p ≡ Some ready) × (ready.atom ≡ n)
held_for-some agent n p ready h =
    let b = bind_some (held_from agent p) (λ r. cond (r.atom == n) (Some r) None) ready h in
    let t = guard (b.0.atom == n) (Some b.0) ready b.2 in
    let same : b.0 ≡ ready = same_Some b.0 ready t.1 in
    (b.1 ∙ t.1, subst (λ r. r.atom ≡ n) same (eqb-true b.0.atom n t.0))

-- what is known of an agent is that its value is below its size
pub known-below : (diagram : PlainDiagram) (agent : PlainAgent) (n p : ℕ) → IsValid diagram agent → 0 < size_of diagram p → option_map_or (λ ready. ready.value) (known_of diagram agent n p) 0 < size_of diagram p
known-below diagram agent n p ok some = go (p == agent.id) refl
  where
    other : (o : Option ReadyMessage) → held_for agent n p ≡ o → option_map_or (λ ready. ready.value) o 0 < size_of diagram p
    other None e = some
    other (Some ready) e =
        let held = ok.held p ready (held_for-some agent n p ready e).0 in
        subst (λ a. ready.value < size_of diagram a) held.0 held.1.below

    go : (b : Bool) → (p == agent.id) ≡ b → option_map_or (λ ready. ready.value) (cond b (Some (own_ready diagram agent n)) (held_for agent n p)) 0 < size_of diagram p
    go true e = subst (λ a. agent.value < size_of diagram a) (sym (eqb-true p agent.id e)) ok.value
    go false e = other (held_for agent n p) refl
