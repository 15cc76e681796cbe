-- What a leader knows that may decide: where its atom's parties are, how often they took part, and their values.
use Rattle.std.proofs.Common.{◌≡◌, ◌≢◌, ⊎_elim, ℕ, ◌<◌, ◌≤◌, ◌==◌, Bool, true, false, not, cond, List, [], ◌∷◌, length, take, find, slice_get, Option, Some, None, refl, sym, ap, subst, ◌∙◌, arith, eqb-true, eq-eqb}
use Rattle.std.proofs.lemmas.Bool.{false≢true}
use Rattle.std.proofs.lemmas.Option.{same_Some, none-some}
use Rattle.std.proofs.lemmas.List.{take_all}
use Rattle.std.proofs.Math.Seq.{take-append_seam}
use Rattle.std.specs.Option.{is_some}
use Rattle.nego_base.specs.Members.{is_in}
use Rattle.nego_base.proofs.Cases.{chosen}
use Rattle.nego_base.proofs.Members.{is_in-cases, All-member}
use Rattle.nego_model.specs.Negotiation.{IsDeterministic}
use Rattle.nego_model.specs.Occurring.{ready}
use Rattle.nego_model.specs.Joining.{joint_after}
use Rattle.nego_model.specs.Diagram.{PlainDiagram, IsDiagram, negotiation_of, parties_of, leader_of}
use Rattle.nego_model.proofs.diagrams.Readers.{parties-below}
use Rattle.agent_msg.specs.Messages.{ReadyMessage}
use Rattle.agent_msg.specs.Records.{Moved}
use Rattle.agent_core.specs.Agents.{PlainAgent, left_by, beginning, IsStep}
use Rattle.agent_core.specs.Acts.{own_ready}
use Rattle.agent_core.specs.Deciding.{value_in, held_for, known_of}
use Rattle.agent_core.specs.Worlds.{PlainWorld, start_of, agent_of}
use Rattle.agent_core.specs.Agreement.{visits, journal_of}
use Rattle.agent_core.specs.Consistency.{IsConsistent}
use Rattle.agent_core.proofs.Decisions.{MayDecide}
use Rattle.agent_core.proofs.Given.{unequal}
use Rattle.agent_core.proofs.Known.{held_for-some}
use Rattle.agent_core.proofs.Valid.{left_by-same}
use Rattle.nego_world.proofs.Journals.{length-records}
use Rattle.nego_world.proofs.Left.{left-history}
use Rattle.nego_world.proofs.Standing.{stands}
use Rattle.nego_world.proofs.Steps.{at_seam, journal-steps}
use Rattle.nego_world.proofs.Agents.{telling_of, agrees-each, valid-each, id-each}

-- where none is found, each fails
pub none-found : (test : ℕ → Bool) (xs : List ℕ) (x : ℕ) → find test xs ≡ None → is_in x xs ≡ true → test x ≡ false
none-found test [] x h m = absurd (false≢true m)
none-found test (y ∷ ys) x h m =
    ⊎_elim (λ k. absurd (none-some y (sym k.1))) (λ k. ⊎_elim (λ (e : x ≡ y). ap test e ∙ k.0) (λ later. none-found test ys x k.1 later) (is_in-cases x y ys m))
    (chosen (test y) (Some y) (find test ys) None h)

-- What the leader of an atom knows of a party: a Ready with how often it took part, and with its value; and that it is
-- at the atom, with all records that the history gives it.
pub record Knows (diagram : PlainDiagram) (world : PlainWorld) (agent : PlainAgent) (n p : ℕ) : Type 0 where
  pub ready : ReadyMessage
  pub known : known_of diagram agent n p ≡ Some ready
  pub visit : ready.visit ≡ visits diagram p world.history
  pub value : ready.value ≡ value_in diagram (joint_after world.start world.history) p
  pub whole : (agent_of diagram world p).records ≡ journal_of diagram world.history p
  pub at : (left_by diagram p (start_of diagram world p) (journal_of diagram world.history p)).at ≡ Some n

module _ (diagram : PlainDiagram) (ok : IsDiagram diagram) (single : IsDeterministic (negotiation_of diagram)) (world : PlainWorld) (was : IsConsistent diagram world) where
  -- an agent whose journal lacks nothing has its value in the last data
  last-value : (p : ℕ) → p < length diagram.agents → (left_by diagram p (start_of diagram world p) (journal_of diagram world.history p)).value ≡ value_in diagram (joint_after world.start world.history) p
  last-value p known = (left-history diagram ok world.start was.start p known world.history was.journals.run).2.value

  -- an agent at an atom that it leads lacks no record
  pub leader-whole : (l n : ℕ) → l < length diagram.agents → (agent_of diagram world l).at ≡ Some n → leader_of diagram n ≡ l → (agent_of diagram world l).records ≡ journal_of diagram world.history l
  leader-whole l n known at leads =
      ⊎_elim (λ same. same)
      (λ more.
      let records = (agent_of diagram world l).records in
      let move = Moved more.0 more.1 more.2 in
      let journal = journal_of diagram world.history l in
      let there : slice_get journal (length records) ≡ Some move = ap (λ rs. slice_get rs (length records)) (sym more.3) ∙ at_seam records [] move in
      let front : take (length records) journal ≡ records = ap (take (length records)) (sym more.3) ∙ take-append_seam records (move ∷ []) in
      let step : IsStep diagram (left_by diagram l (start_of diagram world l) records) move =
      subst (λ rs. IsStep diagram (left_by diagram l (start_of diagram world l) rs) move) front (journal-steps diagram ok single world.start was.start l known world.history was.journals.run (length records) move there) in
      let id : (left_by diagram l (start_of diagram world l) records).id ≡ l = (left_by-same diagram (beginning diagram l (start_of diagram world l)) records).0 in
      let here : (left_by diagram l (start_of diagram world l) records).at ≡ Some n = sym (ap (λ g. g.at) (was.agents l known).left) ∙ at in
      let same : more.0 ≡ n = same_Some more.0 n (sym step.at ∙ here) in
      absurd (step.led (ap (leader_of diagram) same ∙ (leads ∙ sym id))))
      (agrees-each diagram ok single world was l known)

  module _ (l n : ℕ) (known : l < length diagram.agents) (may : MayDecide diagram (agent_of diagram world l) n) where
    abbrev leader : PlainAgent
    leader = agent_of diagram world l

    leads : leader_of diagram n ≡ l
    leads = may.leads ∙ id-each diagram ok single world was l known

    -- of itself
    pub knows-itself : Knows diagram world leader n l
    knows-itself =
        let whole = leader-whole l n known may.at leads in
        let left : leader ≡ record (left_by diagram l (start_of diagram world l) leader.records) { held = leader.held } = (was.agents l known).left in
        record {
          ready = own_ready diagram leader n;
          known = ap (λ b. cond b (Some (own_ready diagram leader n)) (held_for leader n l)) (eq-eqb l leader.id (sym (id-each diagram ok single world was l known)));
          visit = ap length whole ∙ length-records diagram l [] world.history;
          value = ap (λ g. g.value) left ∙ (ap (λ rs. (left_by diagram l (start_of diagram world l) rs).value) whole ∙ last-value l known);
          whole = whole;
          at = ap (λ rs. (left_by diagram l (start_of diagram world l) rs).at) (sym whole) ∙ (sym (ap (λ g. g.at) left) ∙ may.at);
        }

    -- of another, of which it holds a Ready
    knows-held : (p : ℕ) → p < length diagram.agents → p ≢ l → (ready : ReadyMessage) → held_for leader n p ≡ Some ready → Knows diagram world leader n p
    knows-held p below other ready h =
        let held = held_for-some leader n p ready h in
        let is = was.held l p ready known held.0 in
        let told = was.readies ready is.sent in
        let t = telling_of diagram world ready told in
        let records = (agent_of diagram world p).records in
        let le : ready.visit ≤ length records = subst (λ q. ready.visit ≤ length (agent_of diagram world q).records) is.from told.visit in
        let at : (left_by diagram p (start_of diagram world p) (take ready.visit records)).at ≡ Some n =
        subst (λ q. (left_by diagram q (start_of diagram world q) (take ready.visit (agent_of diagram world q).records)).at ≡ Some n) is.from (t.at ∙ ap (λ m. Some m) held.1) in
        let value : (left_by diagram p (start_of diagram world p) (take ready.visit records)).value ≡ ready.value =
        subst (λ q. (left_by diagram q (start_of diagram world q) (take ready.visit (agent_of diagram world q).records)).value ≡ ready.value) is.from t.value in
        let s = stands diagram ok single world.start was.start world.history records leader.records p l n ready.visit below was.journals.run (agrees-each diagram ok single world was p below) (agrees-each diagram ok single world was l known) le at leads is.undecided in
        let all : take ready.visit records ≡ journal_of diagram world.history p = take_all ready.visit records (omega (arith, s.1)) ∙ s.0 in
        record {
          ready = ready;
          known = ap (λ b. cond b (Some (own_ready diagram leader n)) (held_for leader n p)) (differ (p == leader.id) refl) ∙ h;
          visit = s.1 ∙ (ap length s.0 ∙ length-records diagram p [] world.history);
          value = sym value ∙ (ap (λ rs. (left_by diagram p (start_of diagram world p) rs).value) all ∙ last-value p below);
          whole = s.0;
          at = ap (λ rs. (left_by diagram p (start_of diagram world p) rs).at) (sym all) ∙ at;
        }
      where
        differ : (b : Bool) → (p == leader.id) ≡ b → b ≡ false
        differ true e = absurd (other (eqb-true p leader.id e ∙ id-each diagram ok single world was l known))
        differ false e = refl

    -- of each party
    pub knows-party : (p : ℕ) → is_in p (parties_of diagram n) ≡ true → Knows diagram world leader n p
    knows-party p party = go (p == leader.id) refl (known_of diagram leader n p) refl (none-found (λ q. not (is_some (known_of diagram leader n q))) (parties_of diagram n) p may.all_known party)
      where
        below : p < length diagram.agents
        below = All-member (λ a. a < length diagram.agents) p (parties_of diagram n) (parties-below diagram ok n ((valid-each diagram ok single world was l known).place n may.at)) party

        go : (b : Bool) → (p == leader.id) ≡ b → (o : Option ReadyMessage) → known_of diagram leader n p ≡ o → not (is_some (known_of diagram leader n p)) ≡ false → Knows diagram world leader n p
        go true e o k some = subst (λ q. Knows diagram world leader n q) (sym (eqb-true p leader.id e ∙ id-each diagram ok single world was l known)) knows-itself
        go false e None k some = absurd (false≢true (sym some ∙ ap (λ x. not (is_some x)) k))
        go false e (Some ready) k some =
            knows-held p below (λ same. unequal p leader.id e (same ∙ sym (id-each diagram ok single world was l known))) ready (sym (ap (λ b. cond b (Some (own_ready diagram leader n)) (held_for leader n p)) e) ∙ k)
