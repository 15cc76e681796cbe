-- A history kept as occurrences and joint data.
use Rattle.std.proofs.Common.{◌≡◌, ℕ, zero, suc, ◌-◌, ◌<◌, List, [], ◌∷◌, ◌++◌, All, true, false, cond, length, map, slice_get, Option, Some, None, refl, ap, subst, arith}
use Rattle.std.proofs.lemmas.Option.{same_Some, none-some, slice_get_within}
use Rattle.std.specs.List.{filter}
use Rattle.std.specs.Option.{option_map, option_map_or, is_none}
use Rattle.nego_base.proofs.ListLaws.{none_at}
use Rattle.nego_base.specs.declared.ids.AtomId.{AtomId}
use Rattle.nego_base.specs.declared.ids.OutcomeId.{OutcomeId}
use Rattle.nego_model.specs.Joining.{steps_of, joint_after}
use Rattle.nego_model.specs.Followed.{occurrences}
use Rattle.nego_model.specs.Diagram.{PlainDiagram}
use Rattle.agent_msg.specs.Records.{Share}
use Rattle.agent_core.specs.Agents.{size_of, share_of}
use Rattle.agent_core.specs.Roomy.{RoomyAgent}
use Rattle.agent_core.specs.Deciding.{value_in}
use Rattle.agent_core.proofs.Shares.{found_share}
use Rattle.nego_world.specs.Stepping.{value_after_in}
use Rattle.nego_world.specs.WorldView.{entries_of}

-- the occurrences of the entries
pub steps-entries : (steps : List (AtomId × OutcomeId)) (joints : List ℕ) → length joints ≡ length steps → steps_of (entries_of steps joints) ≡ occurrences steps
steps-entries [] joints h = refl
steps-entries (step ∷ steps) [] h = absurd (omega (arith, h))
steps-entries (step ∷ steps) (joint ∷ joints) h = ap (λ xs. (step.0.0, step.1.0) ∷ xs) (steps-entries steps joints (omega (arith, h)))

-- there are as many
pub length-entries : (steps : List (AtomId × OutcomeId)) (joints : List ℕ) → length joints ≡ length steps → length (entries_of steps joints) ≡ length joints
length-entries [] [] h = refl
length-entries [] (joint ∷ joints) h = absurd (omega (arith, h))
length-entries (step ∷ steps) [] h = absurd (omega (arith, h))
length-entries (step ∷ steps) (joint ∷ joints) h = ap suc (length-entries steps joints (omega (arith, h)))

-- the data after the entry of a place
pub joint-entries : (steps : List (AtomId × OutcomeId)) (joints : List ℕ) (i : ℕ) (joint : ℕ) → length joints ≡ length steps → slice_get joints i ≡ Some joint → option_map (λ entry. entry.joint) (slice_get (entries_of steps joints) i) ≡ Some joint
joint-entries [] [] i joint h k = absurd (none-some joint k)
joint-entries [] (x ∷ joints) i joint h k = absurd (omega (arith, h))
joint-entries (step ∷ steps) [] i joint h k = absurd (omega (arith, h))
joint-entries (step ∷ steps) (x ∷ joints) zero joint h k = k
joint-entries (step ∷ steps) (x ∷ joints) (suc i) joint h k = joint-entries steps joints i joint (omega (arith, h)) k

-- the data after the entry of the last place
last-at : (start : ℕ) (steps : List (AtomId × OutcomeId)) (joints : List ℕ) (i joint : ℕ) → length joints ≡ length steps → suc i ≡ length joints → slice_get joints i ≡ Some joint → joint_after start (entries_of steps joints) ≡ joint
last-at start steps [] i joint h e k = absurd (none-some joint k)
last-at start [] (x ∷ joints) i joint h e k = absurd (omega (arith, h))
last-at start (step ∷ []) (x ∷ []) zero joint h e k = same_Some x joint k
last-at start (step ∷ next ∷ steps) (x ∷ []) zero joint h e k = absurd (omega (arith, h))
last-at start (step ∷ steps) (x ∷ y ∷ joints) zero joint h e k = absurd (omega (arith, e))
last-at start (step ∷ steps) (x ∷ joints) (suc i) joint h e k = last-at x steps joints i joint (omega (arith, h)) (omega (arith, e)) k

-- the data after the last entry
pub last-entry : (start : ℕ) (steps : List (AtomId × OutcomeId)) (joints : List ℕ) (joint : ℕ) → length joints ≡ length steps → slice_get joints (length joints - 1) ≡ Some joint → joint_after start (entries_of steps joints) ≡ joint
last-entry start steps joints joint h k =
    let there = slice_get_within joints (length joints - 1) joint k in
    last-at start steps joints (length joints - 1) joint h (omega (arith, there)) k

-- where there is no entry the data are those at the start
pub no-entry : (start : ℕ) (steps : List (AtomId × OutcomeId)) (joints : List ℕ) → length joints ≡ length steps → slice_get joints (length joints - 1) ≡ None → joint_after start (entries_of steps joints) ≡ start
no-entry start [] joints h k = refl
no-entry start (step ∷ steps) [] h k = refl
no-entry start (step ∷ steps) (x ∷ joints) h k = absurd (omega (arith, none_at (x ∷ joints) (length (x ∷ joints) - 1) k))

-- one more entry
pub entries-push : (steps : List (AtomId × OutcomeId)) (joints : List ℕ) (step : AtomId × OutcomeId) (joint : ℕ) → length joints ≡ length steps →
    entries_of (steps ++ step ∷ []) (joints ++ joint ∷ []) ≡ entries_of steps joints ++ record { step = (step.0.0, step.1.0); joint = joint } ∷ []
entries-push [] [] step joint h = refl
entries-push [] (x ∷ joints) step joint h = absurd (omega (arith, h))
entries-push (s ∷ steps) [] step joint h = absurd (omega (arith, h))
entries-push (s ∷ steps) (x ∷ joints) step joint h = ap (λ es. record { step = (s.0.0, s.1.0); joint = x } ∷ es) (entries-push steps joints step joint (omega (arith, h)))

-- the value of an agent behind a decision is below its size
pub value-after-below : (diagram : PlainDiagram) (d : ℕ) (shares : List Share) (a : ℕ) → All (λ s. s.after < size_of diagram s.agent) shares → value_in diagram d a < size_of diagram a → value_after_in diagram d shares a < size_of diagram a
value-after-below diagram d shares a all before = go (share_of a shares) refl
  where
    go : (o : Option Share) → share_of a shares ≡ o → option_map_or (λ s. s.after) o (value_in diagram d a) < size_of diagram a
    go None e = before
    go (Some s) e =
        let there = found_share a shares s e in
        let below : s.after < size_of diagram s.agent = subst (λ x. x.after < size_of diagram x.agent) there.0.2 (all there.0.0 s there.0.1) in
        subst (λ b. s.after < size_of diagram b) there.1 below

-- as many agents are finished as there are plain ones
pub count-plain : (agents : List RoomyAgent) → length (filter (λ g. is_none g.plain.at) agents) ≡ length (filter (λ agent. is_none agent.at) (map (λ g. g.plain) agents))
count-plain [] = refl
count-plain (g ∷ agents) =
    elim (is_none g.plain.at) as (λ b. length (cond b (g ∷ filter (λ x. is_none x.plain.at) agents) (filter (λ x. is_none x.plain.at) agents)) ≡ length (cond b (g.plain ∷ filter (λ agent. is_none agent.at) (map (λ x. x.plain) agents)) (filter (λ agent. is_none agent.at) (map (λ x. x.plain) agents)))) [ true ↦ ap suc (count-plain agents) | false ↦ count-plain agents ]
