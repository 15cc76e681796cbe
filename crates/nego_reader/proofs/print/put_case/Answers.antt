use Rattle.std.proofs.Common.{◌≡◌, List, ℕ, OnOk, map, subst}
use Rattle.nego_reader.specs.Printing.{test_text, set_text}
use Rattle.nego_reader.proofs.PutLines.{case_put}
use Rattle.nego_reader.proofs.print.put_case.Goals as goal

pub returns : goal.returns
returns c =
    let line = case_put c.args.text.now c.extend_from_slice.new.self c.put_tests.new.text c.extend_from_slice-2.new.self c.put_sets.new.text (map test_text c.args.case.now.tests) (map set_text c.args.case.now.sets)
    c.in_ok-extend_from_slice.ensures.ok (rw c.as_slice.ensures at c.in_ok-put_tests.ensures) c.in_ok-extend_from_slice-2.ensures.ok (rw c.as_slice-2.ensures at c.in_ok-put_sets.ensures) in
    subst (λ (t : List ℕ). OnOk c.push.result (c.push.new.self ≡ t)) line c.push.ensures.ok
