use Rattle.std.proofs.Common.{◌≡◌, map, take, drop}
use Rattle.std.specs.List.{flat_map}
use Rattle.nego_reader.specs.Content.{content_of, case_content}
use Rattle.nego_reader.specs.Rows.{CaseRow}
use Rattle.nego_shape.specs.Faults.{undeclared_in}
use Rattle.nego_shape.specs.Naming.{case_in}
use Rattle.nego_shape.proofs.numbers.cases_of.Given as goal

abbrev pub invariant-loop-case : goal.invariant-loop-case
invariant-loop-case l = record {
  made : l.made ≡ map (λ case. case_in (content_of l.p) (case_content case)) (take l.case-index l.cases);
  declared : flat_map (λ case. undeclared_in (content_of l.p) (CaseRow case)) l.cases ≡ flat_map (λ case. undeclared_in (content_of l.p) (CaseRow case)) (drop l.case-index l.cases);
}
