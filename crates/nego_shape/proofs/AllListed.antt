-- What is known of the list of each condition's faults.
use Rattle.nego_reader.specs.declared.parsed.Parsed.{Parsed}
use Rattle.nego_shape.specs.Conditions.{Condition, SomeAgent, FewAgents, FewAtoms, FewOutcomes, NamedOnce, AllDeclared, SomeParty, SomeOutcome, AllBegin, AllEnd, AllSent, NoStranger, LastEnds, PartiesAlone, NoZeroSize, NoLargeSize, NoLargeJoint, NoLargeValue, AllCovered}
use Rattle.nego_shape.proofs.CountsListed.{some_agent, few_agents, few_atoms}
use Rattle.nego_shape.proofs.DeclaredListed.{declared_listed}
use Rattle.nego_shape.proofs.OutsListed.{few_outcomes_listed, all_sent_listed, no_stranger_listed, last_ends_listed, parties_alone_listed, no_large_value_listed, all_covered_listed}
use Rattle.nego_shape.proofs.PartiesListed.{some_party, some_outcome, all_begin, all_end}
use Rattle.nego_shape.proofs.Search.{IsListed}
use Rattle.nego_shape.proofs.SizesListed.{no_zero_size, no_large_size, no_large_joint}
use Rattle.nego_shape.proofs.TwiceListed.{named_listed}

pub listed : (p : Parsed) (condition : Condition) → IsListed p condition
listed p SomeAgent = some_agent p
listed p FewAgents = few_agents p
listed p FewAtoms = few_atoms p
listed p FewOutcomes = few_outcomes_listed p
listed p NamedOnce = named_listed p
listed p AllDeclared = declared_listed p
listed p SomeParty = some_party p
listed p SomeOutcome = some_outcome p
listed p AllBegin = all_begin p
listed p AllEnd = all_end p
listed p AllSent = all_sent_listed p
listed p NoStranger = no_stranger_listed p
listed p LastEnds = last_ends_listed p
listed p PartiesAlone = parties_alone_listed p
listed p NoZeroSize = no_zero_size p
listed p NoLargeSize = no_large_size p
listed p NoLargeJoint = no_large_joint p
listed p NoLargeValue = no_large_value_listed p
listed p AllCovered = all_covered_listed p
