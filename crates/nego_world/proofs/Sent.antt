-- The messages that were sent, and the agents after a deed.
use Rattle.std.proofs.Common.{◌≡◌, ◌≢◌, ◌⊎◌, ⊎_elim, ℕ, zero, suc, ◌<◌, ◌==◌, ◌&&◌, ◌||◌, Bool, true, false, List, [], ◌∷◌, ◌++◌, length, fold, cond, slice_get, Some, refl, sym, ap, subst, ◌∙◌, inl, inr, arith, eq-eqb, get_or-set_same, get_or-set_other, length-append}
use Rattle.std.proofs.lemmas.List.{get_or_append_left}
use Rattle.std.proofs.lemmas.Bool.{false≢true}
use Rattle.std.proofs.lemmas.Option.{same_Some, none-some}
use Rattle.std.proofs.Math.Bool.{or-true}
use Rattle.std.specs.List.{Contains, list_any}
use Rattle.nego_model.specs.Diagram.{PlainDiagram}
use Rattle.agent_msg.specs.Messages.{ReadyMessage, DecideMessage, Message, ReadyOf, DecideOf}
use Rattle.agent_core.specs.Agents.{beginning}
use Rattle.agent_core.specs.Acts.{after_act}
use Rattle.agent_core.specs.Worlds.{PlainWorld, Deed, start_of, agent_of, is_same_ready, is_same_decide, is_same, with_message, after_deed}
use Rattle.agent_core.proofs.Shares.{Contains-tail}
use Rattle.agent_core.proofs.Valid.{pushed_at}

-- an item of a list stays one when others are put behind
pub Contains-front : {A : Type 0} (xs ys : List A) (x : A) → Contains xs x → Contains (xs ++ ys) x
Contains-front xs ys x c = (c.0, omega (arith, c.1, length-append xs ys), get_or_append_left xs ys x c.0 c.1 ∙ c.2)

-- an item put behind is one of the list
pub Contains-last : {A : Type 0} (xs : List A) (x : A) → Contains (xs ++ x ∷ []) x
Contains-last [] x = (0, omega arith, refl)
Contains-last (y ∷ ys) x = Contains-tail y (ys ++ x ∷ []) x (Contains-last ys x)

-- an item of a list with one more is of the list, or the one
pub Contains-push : {A : Type 0} (xs : List A) (y x : A) → Contains (xs ++ y ∷ []) x → Contains xs x ⊎ (y ≡ x)
Contains-push [] y x (zero, lt, e) = inr e
Contains-push [] y x (suc k, lt, e) = absurd (omega (arith, lt))
Contains-push (z ∷ zs) y x (zero, lt, e) = inl (0, omega arith, e)
Contains-push (z ∷ zs) y x (suc k, lt, e) = ⊎_elim (λ c. inl (Contains-tail z zs x c)) (λ same. inr same) (Contains-push zs y x (k, omega (arith, lt), e))

-- what was sent before stays sent
pub sent-kept : (sends sent : List Message) (m : Message) → Contains sent m → Contains (fold with_message sent sends) m
sent-kept [] sent m c = c
sent-kept (x ∷ xs) sent m c =
    sent-kept xs (with_message sent x) m (elim (list_any (is_same x) sent) as (λ b. Contains (cond b sent (sent ++ x ∷ [])) m) [ true ↦ c | false ↦ Contains-front sent (x ∷ []) m c ])

-- what was sent was sent before, or is sent now
pub sent-from : (sends sent : List Message) (m : Message) → Contains (fold with_message sent sends) m → Contains sent m ⊎ Contains sends m
sent-from [] sent m c = inl c
sent-from (x ∷ xs) sent m c =
    ⊎_elim (λ k. one (list_any (is_same x) sent) k) (λ k. inr (Contains-tail x xs m k)) (sent-from xs (with_message sent x) m c)
  where
    one : (b : Bool) → Contains (cond b sent (sent ++ x ∷ [])) m → Contains sent m ⊎ Contains (x ∷ xs) m
    one true k = inl k
    one false k = ⊎_elim (λ before. inl before) (λ (same : x ≡ m). inr (0, omega arith, same)) (Contains-push sent x m k)

-- both hold together
and-both : (a b : Bool) → a ≡ true → b ≡ true → (a && b) ≡ true
and-both a b h k = ap (λ x. x && b) h ∙ k

-- a Ready is the same as itself
same_ready : (r : ReadyMessage) → is_same_ready r r ≡ true
same_ready r =
    and-both (r.from == r.from && r.to == r.to && r.atom == r.atom && r.visit == r.visit) (r.value == r.value)
    (and-both (r.from == r.from && r.to == r.to && r.atom == r.atom) (r.visit == r.visit)
    (and-both (r.from == r.from && r.to == r.to) (r.atom == r.atom) (and-both (r.from == r.from) (r.to == r.to) (eq-eqb r.from r.from refl) (eq-eqb r.to r.to refl)) (eq-eqb r.atom r.atom refl)) (eq-eqb r.visit r.visit refl)) (eq-eqb r.value r.value refl)

-- a Decide is the same as itself
same_decide : (r : DecideMessage) → is_same_decide r r ≡ true
same_decide r =
    and-both (r.from == r.from && r.to == r.to && r.atom == r.atom && r.outcome == r.outcome && r.visit == r.visit) (r.after == r.after)
    (and-both (r.from == r.from && r.to == r.to && r.atom == r.atom && r.outcome == r.outcome) (r.visit == r.visit)
    (and-both (r.from == r.from && r.to == r.to && r.atom == r.atom) (r.outcome == r.outcome)
    (and-both (r.from == r.from && r.to == r.to) (r.atom == r.atom) (and-both (r.from == r.from) (r.to == r.to) (eq-eqb r.from r.from refl) (eq-eqb r.to r.to refl)) (eq-eqb r.atom r.atom refl)) (eq-eqb r.outcome r.outcome refl))
    (eq-eqb r.visit r.visit refl)) (eq-eqb r.after r.after refl)

-- a message is the same as itself
pub same_message : (m : Message) → is_same m m ≡ true
same_message (ReadyOf r) = same_ready r
same_message (DecideOf r) = same_decide r

-- Each message stands at one place.
abbrev pub IsOnce : List Message → Type 0
IsOnce sent = (i j : ℕ) (m : Message) → slice_get sent i ≡ Some m → slice_get sent j ≡ Some m → i ≡ j

-- a message that stands somewhere is found
pub any_there : (sent : List Message) (m : Message) (i : ℕ) → slice_get sent i ≡ Some m → list_any (is_same m) sent ≡ true
any_there [] m i h = absurd (none-some m h)
any_there (x ∷ xs) m zero h = ap (λ b. b || list_any (is_same m) xs) (subst (λ y. is_same m y ≡ true) (sym (same_Some x m h)) (same_message m))
any_there (x ∷ xs) m (suc i) h = ap (λ b. is_same m x || b) (any_there xs m i h) ∙ or-true (is_same m x)

-- messages each at one place, and one that wasn't there
once-push : (sent : List Message) (x : Message) → IsOnce sent → list_any (is_same x) sent ≡ false → IsOnce (sent ++ x ∷ [])
once-push sent x once new i j m h k =
    ⊎_elim
    (λ a. ⊎_elim (λ b. once i j m a.1 b.1) (λ b. absurd (twice i a.1 b.1)) (pushed_at sent x m j k))
    (λ a. ⊎_elim (λ b. absurd (twice j b.1 a.1)) (λ b. a.0 ∙ sym b.0) (pushed_at sent x m j k))
    (pushed_at sent x m i h)
  where
    twice : (p : ℕ) → slice_get sent p ≡ Some m → x ≡ m → ⊥
    twice p there same = false≢true (sym new ∙ any_there sent x p (there ∙ ap (λ y. Some y) (sym same)))

-- what is sent is put where it isn't yet
pub once-kept : (sends sent : List Message) → IsOnce sent → IsOnce (fold with_message sent sends)
once-kept [] sent once = once
once-kept (x ∷ xs) sent once = once-kept xs (with_message sent x) (one (list_any (is_same x) sent) refl)
  where
    one : (b : Bool) → list_any (is_same x) sent ≡ b → IsOnce (cond b sent (sent ++ x ∷ []))
    one true e = once
    one false e = once-push sent x once e

module _ (diagram : PlainDiagram) (world : PlainWorld) (deed : Deed) where
  -- the agent of a deed is after its act
  pub agent-after : deed.agent < length world.agents → agent_of diagram (after_deed diagram world deed) deed.agent ≡ after_act diagram (agent_of diagram world deed.agent) deed.act
  agent-after known = get_or-set_same world.agents deed.agent (after_act diagram (agent_of diagram world deed.agent) deed.act) (beginning diagram deed.agent (start_of diagram world deed.agent)) known

  -- every other agent stays
  pub others-after : (b : ℕ) → b ≢ deed.agent → agent_of diagram (after_deed diagram world deed) b ≡ agent_of diagram world b
  others-after b other = get_or-set_other world.agents deed.agent b (after_act diagram (agent_of diagram world deed.agent) deed.act) (beginning diagram b (start_of diagram world b)) other
