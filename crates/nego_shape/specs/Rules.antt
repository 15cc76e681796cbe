-- The rules of outcomes, and what an outcome, a next line and a case give of a rule's faults.
use Rattle.std.specs.Prelude.{ℕ, ◌==◌, Bool, false, nat_le, if◌then◌else◌, List, [], ◌∷◌}
use Rattle.std.specs.List.{flat_map}
use Rattle.nego_data.specs.declared.cases.Set.{Set}
use Rattle.nego_data.specs.declared.cases.Term.{Term}
use Rattle.nego_data.specs.declared.cases.Term.TheVariants as terms
use Rattle.nego_data.specs.Places.{value_of}
use Rattle.nego_reader.specs.declared.parsed.POut.{POut}
use Rattle.nego_reader.specs.declared.parsed.PNext.{PNext}
use Rattle.nego_reader.specs.declared.parsed.PCase.{PCase}
use Rattle.nego_reader.specs.Content.{Content}
use Rattle.nego_shape.specs.declared.checks.outcomes.Rule.{Rule}
use Rattle.nego_shape.specs.declared.checks.outcomes.Rule.TheVariants as rules
use Rattle.nego_shape.specs.declared.fault.ShapeKind.TheVariants as kinds
use Rattle.nego_shape.specs.Faults.{Spot, spot_if, missing, strangers, outsiders, overfull}
use Rattle.nego_shape.specs.Conditions.{Condition, AllSent, NoStranger, LastEnds, PartiesAlone, NoLargeValue}
use Rattle.nego_shape.specs.Shaped.{last_number}

-- the condition that says the rule
abbrev pub condition_by : Rule → Condition
condition_by rules.AllSent = AllSent
condition_by rules.NoStranger = NoStranger
condition_by rules.LastEnds = LastEnds
condition_by rules.PartiesAlone = PartiesAlone
condition_by rules.NoLargeValue = NoLargeValue

-- what a next line of outcome o, which is one of atom n, gives of a rule on next lines
abbrev pub next_faults : Rule → Content → ℕ → ℕ → PNext → List Spot
next_faults rules.LastEnds c n o next = spot_if (n == last_number c) next.atom.line (kinds.LastLeads (record { 0 = o }))
next_faults rule c n o next = strangers c n o next

-- what a case of outcome o, which is one of atom n, gives of a rule on cases
abbrev pub case_faults : Rule → Content → ℕ → ℕ → PCase → List Spot
case_faults rules.NoLargeValue c n o case = overfull c o case
case_faults rule c n o case = outsiders c n o case

-- what outcome o, which is one of atom n, gives
abbrev pub out_faults : Rule → Content → ℕ → ℕ → POut → List Spot
out_faults rules.AllSent c n o out = missing c n o out
out_faults rules.NoStranger c n o out = flat_map (next_faults rules.NoStranger c n o) out.nexts
out_faults rules.LastEnds c n o out = flat_map (next_faults rules.LastEnds c n o) out.nexts
out_faults rules.PartiesAlone c n o out = flat_map (case_faults rules.PartiesAlone c n o) out.cases
out_faults rules.NoLargeValue c n o out = flat_map (case_faults rules.NoLargeValue c n o) out.cases

-- the term is a number that isn't below the size
abbrev pub exceeds : ℕ → Term → Bool
exceeds size terms.Any = false
exceeds size (terms.Number n) = nat_le size n
exceeds size (terms.Plus b n) = false
exceeds size (terms.Minus b n) = false

-- the agent whom the assignment gives such a number for its size
abbrev pub over_agents : List ℕ → Set → List ℕ
over_agents sizes set = if exceeds (value_of set.agent sizes) set.term then set.agent.0 ∷ [] else []
