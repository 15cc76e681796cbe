-- Agents by their names.
use Rattle.std.proofs.Common.{◌≡◌, ℕ, ◌+◌, ◌<◌, ◌≤◌, true, false, List, [], length, get_or, Some, None, refl, sym, ◌∙◌, arith}
use Rattle.std.specs.List.{Contains}
use Rattle.std.specs.Str.{bytes_eq}
use Rattle.std.proofs.lemmas.Bool.{false≢true, false_from_ne_true}
use Rattle.std.proofs.lemmas.List.{get_or_default}
use Rattle.std.proofs.lemmas.Slice.Eq.{bytes_eq-Decides}
use Rattle.nego_base.proofs.Firsts.{found_in_range, none_found, first_in_range, none_in_range}
use Rattle.nego_model.specs.Diagram.{PlainDiagram, agent_name}
use Rattle.nego_model.specs.Limits.{HasNames}
use Rattle.world_text.specs.ScheduleReading.{agent_named}

module _ (diagram : PlainDiagram) where
  pub named_is : (name : List ℕ) (a : ℕ) → agent_named diagram name ≡ Some a → (a < length diagram.agents) × (agent_name diagram a ≡ name)
  unfolding agent_named
  named_is name a h =
      let found = found_in_range (λ e. bytes_eq (agent_name diagram e) name) 0 (length diagram.agents) a h in
      (omega (arith, found.1), (bytes_eq-Decides (agent_name diagram a) name).0 found.2)

  -- an agent of a name, by its place among the names
  pub named_there : (name : List ℕ) (a : ℕ) → a < length diagram.agents → agent_name diagram a ≡ name → Contains diagram.agents name
  named_there name a known is = (a, known, sym (get_or_default diagram.agents a [] name known) ∙ is)

  pub none_named : (name : List ℕ) → agent_named diagram name ≡ None → Contains diagram.agents name → ⊥
  unfolding agent_named
  none_named name h there =
      let fails = none_found (λ e. bytes_eq (agent_name diagram e) name) 0 (length diagram.agents) h there.0 (omega arith) (omega (arith, there.1)) in
      let same : agent_name diagram there.0 ≡ name = get_or_default diagram.agents there.0 [] name there.1 ∙ there.2 in
      false≢true (sym fails ∙ (bytes_eq-Decides (agent_name diagram there.0) name).1 same)

  -- the first agent of a name
  pub named_first : (name : List ℕ) (a : ℕ) → a < length diagram.agents → ((e : ℕ) → e < a → bytes_eq (agent_name diagram e) name ≡ false) → bytes_eq (agent_name diagram a) name ≡ true → Some a ≡ agent_named diagram name
  unfolding agent_named
  named_first name a known before is =
      sym (first_in_range (λ e. bytes_eq (agent_name diagram e) name) 0 (length diagram.agents) a (omega arith) (omega (arith, known)) (λ e low under. before e under) is)

  -- no agent has the name
  pub named_nowhere : (name : List ℕ) → ((e : ℕ) → e < length diagram.agents → bytes_eq (agent_name diagram e) name ≡ false) → None ≡ agent_named diagram name
  unfolding agent_named
  named_nowhere name fails = sym (none_in_range (λ e. bytes_eq (agent_name diagram e) name) 0 (length diagram.agents) (λ e low under. fails e (omega (arith, under))))

  -- each agent is the first of its name
  pub named_again : HasNames diagram → (a : ℕ) → a < length diagram.agents → agent_named diagram (agent_name diagram a) ≡ Some a
  unfolding agent_named
  named_again names a known =
      let name = agent_name diagram a in
      first_in_range (λ e. bytes_eq (agent_name diagram e) name) 0 (length diagram.agents) a (omega arith) (omega (arith, known))
      (λ e low before. false_from_ne_true (bytes_eq (agent_name diagram e) name) (λ is. names.agents_differ e a [] before known ((bytes_eq-Decides (agent_name diagram e) name).0 is)))
      ((bytes_eq-Decides name name).1 refl)
