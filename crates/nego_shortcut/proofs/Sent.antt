-- Parties are sent where another outcome sends them, agent by agent: those below one are as they are to be, the others as
-- they were.
use Rattle.std.proofs.Common.{◌≡◌, ℕ, ◌<◌, ◌≤◌, cond, List, length, map, slice_index_or, Option, None, sym, ◌∙◌, arith}
use Rattle.std.proofs.lemmas.List.{same_lists, get_or_default}
use Rattle.std.proofs.lemmas.List.FromFn.{length-map-range_with_len, get_or-map-range_with_len}
use Rattle.std.specs.List.{range_with_len}
use Rattle.nego_base.specs.Members.{is_in}
use Rattle.nego_expr.specs.Work.{WorkOutcome, sent_to}

-- where an agent is sent, who was sent by the targets: a party where the outcome sends it
abbrev pub goes : List (Option ℕ) → List ℕ → WorkOutcome → ℕ → Option ℕ
goes old parties y a = cond (is_in a parties) (sent_to y a) (slice_index_or old a None)

-- the agents below a are sent so, the others as they were
pub record SentBelow (old : List (Option ℕ)) (parties : List ℕ) (y : WorkOutcome) (a : ℕ) (targets : List (Option ℕ)) : Type 0 where
  pub fit : length targets ≡ length old
  pub below : (b : ℕ) → b < a → slice_index_or targets b None ≡ goes old parties y b
  pub above : (b : ℕ) → a ≤ b → slice_index_or targets b None ≡ slice_index_or old b None

-- where none is left, all have their targets
pub sent_all : (old : List (Option ℕ)) (parties : List ℕ) (y : WorkOutcome) (a agents : ℕ) (targets : List (Option ℕ)) → SentBelow old parties y a targets → length old ≡ agents → agents ≤ a →
    targets ≡ map (goes old parties y) (range_with_len 0 agents)
sent_all old parties y a agents targets h e l = same_lists targets (map (goes old parties y) (range_with_len 0 agents)) (h.fit ∙ (e ∙ sym (length-map-range_with_len (goes old parties y) 0 agents))) (λ b d k.
    let within : b < agents = omega (arith, k, h.fit, e) in
    get_or_default targets b d None k ∙ (h.below b (omega (arith, within, l)) ∙ sym (get_or-map-range_with_len (goes old parties y) 0 agents b b d within (omega arith))))
