-- The form of what has the shape.
use Rattle.std.proofs.Common.{◌≡◌, ◌<◌, ◌≤◌, length, sym, subst, lit<}
use Rattle.std.proofs.lemmas.List.{length-map}
use Rattle.nego_reader.specs.Content.{Content, AgentContent}
use Rattle.nego_shape.specs.FirstFault.{Met}
use Rattle.nego_shape.specs.Naming.{sizes_in}
use Rattle.nego_shape.specs.Conditions.{SomeAgent, FewAgents, FewAtoms, FewOutcomes, NamedOnce, AllDeclared, SomeParty, SomeOutcome, AllBegin, AllEnd, AllSent, NoStranger, LastEnds, PartiesAlone, NoZeroSize, NoLargeSize, NoLargeJoint, NoLargeValue, AllCovered, Holds, HasShape, IsFormed}

pub sizes-count : (c : Content) → length (sizes_in c) ≡ length c.agents
sizes-count c = length-map c.agents (λ (agent : AgentContent). agent.size)

-- a content that meets the conditions before the last has the form
pub met_form : (c : Content) → Met c 18 → IsFormed c
met_form c met = record {
  some_agent = met SomeAgent (lit< tt);
  few_agents = met FewAgents (lit< tt);
  few_atoms = met FewAtoms (lit< tt);
  few_outcomes = met FewOutcomes (lit< tt);
  named_once = met NamedOnce (lit< tt);
  declared = met AllDeclared (lit< tt);
  some_party = met SomeParty (lit< tt);
  some_outcome = met SomeOutcome (lit< tt);
  all_begin = met AllBegin (lit< tt);
  all_end = met AllEnd (lit< tt);
  all_sent = met AllSent (lit< tt);
  no_stranger = met NoStranger (lit< tt);
  last_ends = met LastEnds (lit< tt);
  parties_alone = met PartiesAlone (lit< tt);
  sizes = record {
    some_agent = subst (λ n. 0 < n) (sym (sizes-count c)) (met SomeAgent (lit< tt));
    few_agents = subst (λ n. n ≤ 16) (sym (sizes-count c)) (met FewAgents (lit< tt));
    each = λ k d l. (met NoZeroSize (lit< tt) k d l, met NoLargeSize (lit< tt) k d l);
    together = met NoLargeJoint (lit< tt);
  };
  below = met NoLargeValue (lit< tt);
}

pub shape_form : (c : Content) → HasShape c → IsFormed c
shape_form c h = met_form c (λ other less. h other)

pub form_shape : (c : Content) → IsFormed c → Holds AllCovered c → HasShape c
form_shape c form covered SomeAgent = form.some_agent
form_shape c form covered FewAgents = form.few_agents
form_shape c form covered FewAtoms = form.few_atoms
form_shape c form covered FewOutcomes = form.few_outcomes
form_shape c form covered NamedOnce = form.named_once
form_shape c form covered AllDeclared = form.declared
form_shape c form covered SomeParty = form.some_party
form_shape c form covered SomeOutcome = form.some_outcome
form_shape c form covered AllBegin = form.all_begin
form_shape c form covered AllEnd = form.all_end
form_shape c form covered AllSent = form.all_sent
form_shape c form covered NoStranger = form.no_stranger
form_shape c form covered LastEnds = form.last_ends
form_shape c form covered PartiesAlone = form.parties_alone
form_shape c form covered NoZeroSize = λ k d l. (form.sizes.each k d l).0
form_shape c form covered NoLargeSize = λ k d l. (form.sizes.each k d l).1
form_shape c form covered NoLargeJoint = form.sizes.together
form_shape c form covered NoLargeValue = form.below
form_shape c form covered AllCovered = covered
