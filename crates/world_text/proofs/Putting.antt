-- Lines that are put behind a text one after another.
use Rattle.std.proofs.Common.{◌≡◌, ℕ, suc, ◌+◌, ◌-◌, ◌<◌, List, ◌∷◌, ◌++◌, length, map, drop, get_or, Some, option_map, slice_get, refl, sym, ap, subst, ◌∙◌, append_assoc, arith}
use Rattle.std.specs.List.{flat_map, range_with_len, All}
use Rattle.std.proofs.lemmas.List.{get_or-map, length-map}
use Rattle.std.proofs.lemmas.Option.{same_Some, slice_get-get_or, get_or_from_slice_get}
use Rattle.nego_base.specs.declared.ids.AtomId.{AtomId}
use Rattle.nego_base.specs.declared.ids.OutcomeId.{OutcomeId}
use Rattle.nego_base.proofs.LineLoops.{cut_at}
use Rattle.nego_model.specs.Followed.{occurrences}
use Rattle.nego_model.specs.Joining.{steps_of}
use Rattle.nego_model.specs.Joining as model
use Rattle.nego_model.specs.Diagram.{PlainDiagram}
use Rattle.agent_msg.specs.Records.{Share, share}
use Rattle.agent_core.specs.Agents.{PlainAgent, beginning}
use Rattle.agent_core.specs.Worlds.{PlainWorld, agent_of, start_of}
use Rattle.world_text.specs.Named.{IsNamedEntry}

-- ---- lists of lines

-- one item more
pub line_more : {A : Type 0} (f : A → List ℕ) (all rest : List A) (x : A) (text new total : List ℕ) → all ≡ x ∷ rest → new ≡ text ++ f x → text ++ flat_map f all ≡ total → new ++ flat_map f rest ≡ total
line_more f all rest x text new total is put so_far =
    ap (λ (t : List ℕ). t ++ flat_map f rest) put ∙ (append_assoc text (f x) (flat_map f rest) ∙ (ap (λ ys. text ++ flat_map f ys) (sym is) ∙ so_far))

-- the numbers of a range from one on
pub range_next : (a n : ℕ) → a < n → range_with_len a (n - a) ≡ a ∷ range_with_len (a + 1) (n - (a + 1))
range_next a n below = let e : n - a ≡ suc (n - (a + 1)) = omega (arith, below) in rw e refl

-- what all items of a list have, an item has that one of them is made of
pub made_at : {A B : Type 0} (P : B → Type 0) (f : A → B) (xs : List A) (i : ℕ) (x : A) → All P (map f xs) → i < length xs → x ≡ get_or xs i x → P (f x)
made_at P f xs i x all within is =
    let inside : i < length (map f xs) = omega (arith, within, length-map xs f) in
    subst P (get_or-map f xs i x (f x) within ∙ ap f (sym is)) (all i (f x) inside)

-- ---- the history

module _ (diagram : PlainDiagram) where
  -- an entry of a history by its occurrence and its data
  pub record EntryAt (history : List model.Entry) (i : ℕ) (step : AtomId × OutcomeId) (joint : ℕ) : Type 0 where
    pub within : i < length history
    pub is : record { step = (step.0.0, step.1.0); joint = joint } ≡ get_or history i (record { step = (step.0.0, step.1.0); joint = joint })

  entry_is : (entry : model.Entry) (n o joint : ℕ) → entry.step ≡ (n, o) → entry.joint ≡ joint → record { step = (n, o); joint = joint } ≡ entry
  entry_is entry n o joint e f = rw (← e, ← f) refl

  pub entry_at : (run : List (AtomId × OutcomeId)) (history : List model.Entry) (i : ℕ) (step : AtomId × OutcomeId) (joint : ℕ) → occurrences run ≡ steps_of history → i < length run → step ≡ get_or run i step →
      option_map (λ entry. entry.joint) (slice_get history i) ≡ Some joint → EntryAt history i step joint
  entry_at run history i step joint same within is at =
      let long : length run ≡ length history = sym (length-map run (λ (s : AtomId × OutcomeId). (s.0.0, s.1.0))) ∙ (ap length same ∙ length-map history (λ (entry : model.Entry). entry.step)) in
      let inside : i < length history = omega (arith, within, long) in
      let other : model.Entry = record { step = (step.0.0, step.1.0); joint = joint } in
      let entry = get_or history i other in
      let there : slice_get history i ≡ Some entry = slice_get-get_or history i other inside in
      let after : entry.joint ≡ joint = same_Some entry.joint joint (sym (ap (option_map (λ (e : model.Entry). e.joint)) there) ∙ at) in
      let here : get_or (occurrences run) i (step.0.0, step.1.0) ≡ (step.0.0, step.1.0) = get_or-map (λ (s : AtomId × OutcomeId). (s.0.0, s.1.0)) run i step (step.0.0, step.1.0) within ∙ ap (λ (s : AtomId × OutcomeId). (s.0.0, s.1.0)) (sym is) in
      let occurs : entry.step ≡ (step.0.0, step.1.0) = sym (get_or-map (λ (e : model.Entry). e.step) history i other (step.0.0, step.1.0) inside) ∙ (ap (λ (steps : List (ℕ × ℕ)). get_or steps i (step.0.0, step.1.0)) (sym same) ∙ here) in
      record { within = inside; is = entry_is entry step.0.0 step.1.0 joint occurs after }

  pub entry_named : (history : List model.Entry) (i : ℕ) (step : AtomId × OutcomeId) (joint : ℕ) → EntryAt history i step joint → All (IsNamedEntry diagram) history → IsNamedEntry diagram (record { step = (step.0.0, step.1.0); joint = joint })
  entry_named history i step joint at all =
      let other : model.Entry = record { step = (step.0.0, step.1.0); joint = joint } in
      subst (IsNamedEntry diagram) (sym at.is) (all i other at.within)

  pub entry_next : (history : List model.Entry) (i : ℕ) (step : AtomId × OutcomeId) (joint : ℕ) → EntryAt history i step joint → drop i history ≡ record { step = (step.0.0, step.1.0); joint = joint } ∷ drop (i + 1) history
  entry_next history i step joint at = cut_at history i (record { step = (step.0.0, step.1.0); joint = joint }) at.within at.is

  -- ---- agents

  pub agent_is : (world : PlainWorld) (a : ℕ) (agent : PlainAgent) → slice_get world.agents a ≡ Some agent → agent_of diagram world a ≡ agent
  agent_is world a agent h = get_or_from_slice_get world.agents a agent (beginning diagram a (start_of diagram world a)) h

  -- the parties of a decision are agents
  pub parties_named : (visits afters parties : List ℕ) → All (λ s. s.agent < length diagram.agents) (map (share visits afters) parties) → All (λ a. a < length diagram.agents) parties
  parties_named visits afters parties all k d within =
      let a = get_or parties k d in
      let inside : k < length (map (share visits afters) parties) = omega (arith, within, length-map parties (share visits afters)) in
      subst (λ (s : Share). s.agent < length diagram.agents) (get_or-map (share visits afters) parties k d (share visits afters d) within) (all k (share visits afters d) inside)
