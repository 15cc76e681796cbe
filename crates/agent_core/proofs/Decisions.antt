-- When a record that was read is a decision of an agent.
use Rattle.std.proofs.Common.{◌≡◌, ℕ, ◌<◌, List, [], ◌∷◌, length, map, slice_index, Option, Some, None, Ok, Err, cond, IsTrue, refl, sym, ap, ◌∙◌, subst, ⊎_elim, eqb-true}
use Rattle.std.proofs.lemmas.Option.{same_Some}
use Rattle.std.proofs.lemmas.List.Elements.{All-nil, All-cons, All-map, All-head, All-tail}
use Rattle.std.specs.Option.{option_map, option_map_or}
use Rattle.std.specs.List.{All}
use Rattle.nego_base.specs.Members.{is_in}
use Rattle.nego_model.specs.Negotiation.{IsOutcome}
use Rattle.nego_model.specs.Diagram.{PlainDiagram, negotiation_of, parties_of, leader_of}
use Rattle.agent_msg.specs.Records.{share}
use Rattle.agent_core.specs.Agents.{PlainAgent, size_of, IsDecisionOf}
use Rattle.nego_base.proofs.Cases.{same_Ok, ok-err, chosen}
use Rattle.nego_base.proofs.Members.{is_in-head, is_in-tail}
use Rattle.agent_core.specs.Acts.{is_leader}
use Rattle.agent_core.specs.Deciding.{Finished, NotLeader, Waits, waits_for, atom_to_decide}
use Rattle.agent_core.proofs.Shares.{share_of-party}

-- what is asked of a decision whose parties have visits and values in two lists
pub record AreParts (diagram : PlainDiagram) (agent : PlainAgent) (n o : ℕ) (parties visits afters : List ℕ) : Type 0 where
  pub at : agent.at ≡ Some n
  pub outcome : IsOutcome (negotiation_of diagram) n o
  pub leads : leader_of diagram n ≡ agent.id
  pub all : parties ≡ parties_of diagram n
  pub visit : slice_index visits agent.id ≡ length agent.records
  pub below : All (λ p. slice_index afters p < size_of diagram p) parties

-- the agents of shares
pub agents_of : (visits afters parties : List ℕ) → map (λ s. s.agent) (map (share visits afters) parties) ≡ parties
agents_of visits afters [] = refl
agents_of visits afters (p ∷ parties) = ap (λ ps. p ∷ ps) (agents_of visits afters parties)

-- what all items of a mapped list have
pub All_from_map : {A B : Type 0} (P : B → Type 0) (f : A → B) (xs : List A) → All P (map f xs) → All (λ x. P (f x)) xs
All_from_map P f [] h = All-nil (λ x. P (f x))
All_from_map P f (x ∷ xs) h = All-cons (λ y. P (f y)) x xs (All-head P (f x) (map f xs) h) (All_from_map P f xs (All-tail P (f x) (map f xs) h))

module _ (diagram : PlainDiagram) (agent : PlainAgent) (n o : ℕ) (parties visits afters : List ℕ) (leader : IsTrue (is_in (leader_of diagram n) (parties_of diagram n))) where
  -- parts make a decision
  pub decision_of_parts : AreParts diagram agent n o parties visits afters → IsDecisionOf diagram agent n o (map (share visits afters) parties)
  decision_of_parts k = record {
    at = k.at;
    outcome = k.outcome;
    leads = k.leads;
    parties = agents_of visits afters parties ∙ k.all;
    below = All-map (λ s. s.after < size_of diagram s.agent) (share visits afters) parties k.below;
    visit = ap (option_map (λ s. s.visit)) (share_of-party visits afters agent.id parties (own k)) ∙ ap (λ v. Some v) k.visit;
  }
    where
      own : AreParts diagram agent n o parties visits afters → IsTrue (is_in agent.id parties)
      own k = subst (λ ps. IsTrue (is_in agent.id ps)) (sym k.all) (subst (λ a. IsTrue (is_in a (parties_of diagram n))) k.leads leader)

  -- a decision has its parts
  pub parts_of_decision : IsDecisionOf diagram agent n o (map (share visits afters) parties) → AreParts diagram agent n o parties visits afters
  parts_of_decision s =
      let same : parties ≡ parties_of diagram n = sym (agents_of visits afters parties) ∙ s.parties in
      let own : IsTrue (is_in agent.id parties) = subst (λ ps. IsTrue (is_in agent.id ps)) (sym same) (subst (λ a. IsTrue (is_in a (parties_of diagram n))) s.leads leader) in
      record {
        at = s.at;
        outcome = s.outcome;
        leads = s.leads;
        all = same;
        visit = same_Some (slice_index visits agent.id) (length agent.records) (sym (ap (option_map (λ s. s.visit)) (share_of-party visits afters agent.id parties own)) ∙ s.visit);
        below = All_from_map (λ s. s.after < size_of diagram s.agent) (share visits afters) parties s.below;
      }

-- lists of what two functions give agree where the functions do
pub map-members : {A : Type 0} (f g : ℕ → A) (xs : List ℕ) → ((x : ℕ) → IsTrue (is_in x xs) → f x ≡ g x) → map f xs ≡ map g xs
map-members f g [] h = refl
map-members f g (x ∷ xs) h =
    ap (λ y. y ∷ map f xs) (h x (is_in-head x xs)) ∙ ap (λ ys. g x ∷ ys) (map-members f g xs (λ y m. h y (is_in-tail y x xs m)))

-- what the atom that an agent may decide says of it
pub record MayDecide (diagram : PlainDiagram) (agent : PlainAgent) (n : ℕ) : Type 0 where
  pub at : agent.at ≡ Some n
  pub leads : leader_of diagram n ≡ agent.id
  pub all_known : waits_for diagram agent n ≡ None

-- where none is waited for, the atom is decided
pub decided_unless : (o : Option ℕ) (m n : ℕ) → option_map_or (λ p. Err (Waits p)) o (Ok m) ≡ Ok n → (m ≡ n) × (o ≡ None)
decided_unless None m n h = (same_Ok m n h, refl)
decided_unless (Some p) m n h = absurd (ok-err n (Waits p) (sym h))

-- the atom that an agent may decide is its own, it leads it, and something is known of each party
pub may_decide : (diagram : PlainDiagram) (agent : PlainAgent) (n : ℕ) → atom_to_decide diagram agent ≡ Ok n → MayDecide diagram agent n
may_decide diagram agent n h = go agent.at refl h
  where
    go : (at : Option ℕ) → agent.at ≡ at →
        option_map_or (λ m. cond (is_leader diagram agent.id m) (option_map_or (λ p. Err (Waits p)) (waits_for diagram agent m) (Ok m)) (Err NotLeader)) at (Err Finished) ≡ Ok n → MayDecide diagram agent n
    go None e k = absurd (ok-err n Finished (sym k))
    go (Some m) e k =
        ⊎_elim
        (λ l.
        let d = decided_unless (waits_for diagram agent m) m n l.1 in
        record {
          at = e ∙ ap (λ x. Some x) d.0;
          leads = ap (leader_of diagram) (sym d.0) ∙ eqb-true _ _ l.0;
          all_known = ap (waits_for diagram agent) (sym d.0) ∙ d.1;
        })
        (λ l. absurd (ok-err n NotLeader (sym l.1)))
        (chosen (is_leader diagram agent.id m) (option_map_or (λ p. Err (Waits p)) (waits_for diagram agent m) (Ok m)) (Err NotLeader) (Ok n) k)
