-- The program's equality of messages is that of plain messages.
use Rattle.std.proofs.Common.{◌≡◌, ℕ, ◌==◌, ◌&&◌, ◌||◌, Bool, true, false, cond, List, [], ◌∷◌, ◌++◌, map, slice_get, slice_index_or, position, Some, refl, sym, ap, subst, ◌∙◌, eqb-true}
use Rattle.std.proofs.lemmas.Bool.{false≢true}
use Rattle.std.proofs.lemmas.Option.{slice_get-map, slice_get-get_or}
use Rattle.std.proofs.lemmas.List.{map-append}
use Rattle.std.proofs.lemmas.List.Quantifiers.{position-Some}
use Rattle.std.proofs.Math.Bool.{and_assoc}
use Rattle.std.specs.List.{Contains, list_any}
use Rattle.std.specs.Option.{option_map}
use Rattle.indexmap.specs.IndexSet.{insert_key}
use Rattle.agent_msg.specs.declared.msg.Msg.{Msg}
use Rattle.agent_msg.specs.declared.msg.Msg.TheVariants as told
use Rattle.agent_msg.specs.contracts.msg.MsgPartialEq.TheImpl as program
use Rattle.agent_msg.specs.Messages.{ReadyMessage, DecideMessage, Message, ReadyOf, DecideOf, message}
use Rattle.agent_core.specs.Worlds.{is_same_ready, is_same_decide, is_same, with_message}
use Rattle.agent_core.proofs.Given.{both}
use Rattle.nego_world.proofs.Sent.{any_there}

-- whether the program takes two messages as equal
abbrev pub equal : Msg → Msg → Bool
equal = program.eq-value.it

five_in_line : (a b c d e : Bool) → (a && b && c && d && e) ≡ (a && (b && (c && (d && e))))
five_in_line a b c d e = and_assoc (a && b && c) d e ∙ (and_assoc (a && b) c (d && e) ∙ and_assoc a b (c && (d && e)))

six_in_line : (a b c d e f : Bool) → (a && b && c && d && e && f) ≡ (a && (b && (c && (d && (e && f)))))
six_in_line a b c d e f = and_assoc (a && b && c && d) e f ∙ five_in_line a b c d (e && f)

pub equal-plain : (m k : Msg) → equal m k ≡ is_same (message m) (message k)
equal-plain (told.Ready r) (told.Ready s) = sym (five_in_line (r.from.0 == s.from.0) (r.to.0 == s.to.0) (r.atom.0 == s.atom.0) (r.visit == s.visit) (r.value == s.value))
equal-plain (told.Ready r) (told.Decide s) = refl
equal-plain (told.Decide r) (told.Ready s) = refl
equal-plain (told.Decide r) (told.Decide s) = sym (six_in_line (r.from.0 == s.from.0) (r.to.0 == s.to.0) (r.atom.0 == s.atom.0) (r.outcome.0 == s.outcome.0) (r.visit == s.visit) (r.after == s.after))

any-plain : (m : Msg) (keys : List Msg) → list_any (equal m) keys ≡ list_any (is_same (message m)) (map message keys)
any-plain m [] = refl
any-plain m (k ∷ keys) = ap (λ b. b || list_any (equal m) keys) (equal-plain m k) ∙ ap (λ b. is_same (message m) (message k) || b) (any-plain m keys)

-- a message is put in among messages
pub put-plain : (keys : List Msg) (m : Msg) → map message (insert_key equal keys m) ≡ with_message (map message keys) (message m)
put-plain keys m =
    subst (λ b. map message (insert_key equal keys m) ≡ cond b (map message keys) (map message keys ++ message m ∷ [])) (any-plain m keys) (one (list_any (equal m) keys))
  where
    one : (b : Bool) → map message (cond b keys (keys ++ m ∷ [])) ≡ cond b (map message keys) (map message keys ++ message m ∷ [])
    one true = refl
    one false = map-append message keys (m ∷ [])

-- Readies that are the same are equal
ready_is : (r s : ReadyMessage) → is_same_ready r s ≡ true → r ≡ s
ready_is r s h =
    let five = both (r.from == s.from && r.to == s.to && r.atom == s.atom && r.visit == s.visit) (r.value == s.value) h in
    let four = both (r.from == s.from && r.to == s.to && r.atom == s.atom) (r.visit == s.visit) five.0 in
    let three = both (r.from == s.from && r.to == s.to) (r.atom == s.atom) four.0 in
    let two = both (r.from == s.from) (r.to == s.to) three.0 in
    ap {B = ReadyMessage} (λ x. record { from = x; to = r.to; atom = r.atom; visit = r.visit; value = r.value }) (eqb-true r.from s.from two.0)
    ∙ (ap {B = ReadyMessage} (λ x. record { from = s.from; to = x; atom = r.atom; visit = r.visit; value = r.value }) (eqb-true r.to s.to two.1)
    ∙ (ap {B = ReadyMessage} (λ x. record { from = s.from; to = s.to; atom = x; visit = r.visit; value = r.value }) (eqb-true r.atom s.atom three.1)
    ∙ (ap {B = ReadyMessage} (λ x. record { from = s.from; to = s.to; atom = s.atom; visit = x; value = r.value }) (eqb-true r.visit s.visit four.1)
    ∙ ap {B = ReadyMessage} (λ x. record { from = s.from; to = s.to; atom = s.atom; visit = s.visit; value = x }) (eqb-true r.value s.value five.1))))

-- and so are Decides
decide_is : (r s : DecideMessage) → is_same_decide r s ≡ true → r ≡ s
decide_is r s h =
    let six = both (r.from == s.from && r.to == s.to && r.atom == s.atom && r.outcome == s.outcome && r.visit == s.visit) (r.after == s.after) h in
    let five = both (r.from == s.from && r.to == s.to && r.atom == s.atom && r.outcome == s.outcome) (r.visit == s.visit) six.0 in
    let four = both (r.from == s.from && r.to == s.to && r.atom == s.atom) (r.outcome == s.outcome) five.0 in
    let three = both (r.from == s.from && r.to == s.to) (r.atom == s.atom) four.0 in
    let two = both (r.from == s.from) (r.to == s.to) three.0 in
    ap {B = DecideMessage} (λ x. record { from = x; to = r.to; atom = r.atom; outcome = r.outcome; visit = r.visit; after = r.after }) (eqb-true r.from s.from two.0)
    ∙ (ap {B = DecideMessage} (λ x. record { from = s.from; to = x; atom = r.atom; outcome = r.outcome; visit = r.visit; after = r.after }) (eqb-true r.to s.to two.1)
    ∙ (ap {B = DecideMessage} (λ x. record { from = s.from; to = s.to; atom = x; outcome = r.outcome; visit = r.visit; after = r.after }) (eqb-true r.atom s.atom three.1)
    ∙ (ap {B = DecideMessage} (λ x. record { from = s.from; to = s.to; atom = s.atom; outcome = x; visit = r.visit; after = r.after }) (eqb-true r.outcome s.outcome four.1)
    ∙ (ap {B = DecideMessage} (λ x. record { from = s.from; to = s.to; atom = s.atom; outcome = s.outcome; visit = x; after = r.after }) (eqb-true r.visit s.visit five.1)
    ∙ ap {B = DecideMessage} (λ x. record { from = s.from; to = s.to; atom = s.atom; outcome = s.outcome; visit = s.visit; after = x }) (eqb-true r.after s.after six.1)))))

-- messages that are the same are equal
pub message_is : (m k : Message) → is_same m k ≡ true → m ≡ k
message_is (ReadyOf r) (ReadyOf s) h = ap (λ x. ReadyOf x) (ready_is r s h)
message_is (ReadyOf r) (DecideOf s) h = absurd (false≢true h)
message_is (DecideOf r) (ReadyOf s) h = absurd (false≢true h)
message_is (DecideOf r) (DecideOf s) h = ap (λ x. DecideOf x) (decide_is r s h)

-- the number of a message is one at which it stands
pub number-there : (keys : List Msg) (m : Msg) (i : ℕ) → position (equal m) keys ≡ Some i → slice_get (map message keys) i ≡ Some (message m)
number-there keys m i h =
    let there = position-Some (equal m) keys i m h in
    let key = slice_index_or keys i m in
    slice_get-map message keys i ∙ (ap (option_map message) (slice_get-get_or keys i m there.0) ∙ ap (λ x. Some x) (sym (message_is (message m) (message key) (sym (equal-plain m key) ∙ there.1))))

-- a message that isn't found isn't there
pub number-absent : (keys : List Msg) (m : Msg) → list_any (equal m) keys ≡ false → ¬ Contains (map message keys) (message m)
number-absent keys m none c =
    false≢true (sym none ∙ (any-plain m keys ∙ any_there (map message keys) (message m) c.0 (slice_get-get_or (map message keys) c.0 (message m) c.1 ∙ ap (λ x. Some x) c.2)))
