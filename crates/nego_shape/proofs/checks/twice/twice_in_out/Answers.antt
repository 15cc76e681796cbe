use Rattle.std.proofs.Common.{◌≡◌, List, ◌++◌, Some, None, slice_get, take, sym, ap, ◌∙◌}
use Rattle.std.specs.List.{flat_map}
use Rattle.std.specs.Option.{option_copied}
use Rattle.nego_base.specs.Firsts.{first_among, first_numbered}
use Rattle.nego_base.specs.declared.line.Word.{Word}
use Rattle.nego_reader.specs.declared.parsed.PCase.{PCase}
use Rattle.nego_reader.specs.declared.parsed.PNext.{PNext}
use Rattle.nego_reader.specs.declared.parsed.POut.{POut}
use Rattle.nego_reader.specs.declared.parsed.PSet.{PSet}
use Rattle.nego_shape.specs.Faults.{numbered, again, repeated, sent_again}
use Rattle.nego_shape.proofs.Numbered.{head-flat, head-numbered, head_front, head_back}
use Rattle.nego_shape.proofs.checks.twice.twice_in_out.Goals as goal

-- the words that stand twice in a case, and those on next lines
abbrev in_case : PCase → List Word
in_case case = repeated (λ (set : PSet). set.agent) case.sets

abbrev names : List POut → POut → List Word
names before out = again (λ (other : POut). other.name) before out

abbrev on_nexts : List PNext → List Word
on_nexts nexts = numbered (λ k next. sent_again (take k nexts) next) 0 nexts

pub returns-in-Some : goal.returns-in-Some
returns-in-Some c =
    let out = c.args.out.now in
    sym (head_front (names c.args.before.now out) (flat_map in_case out.cases ++ on_nexts out.nexts) c.in-Some.word.now (sym c.again.ensures ∙ ap option_copied c.in-Some.is))

pub returns-in-Some-twice_in_cases : goal.returns-in-Some-twice_in_cases
returns-in-Some-twice_in_cases c =
    let out = c.args.out.now in
    let cases : slice_get (flat_map in_case out.cases) 0 ≡ Some c.in-Some-twice_in_cases.word.now =
    head-flat in_case out.cases ∙ (ap (first_among (λ case. slice_get (in_case case) 0)) (sym c.as_slice.ensures) ∙ (sym c.twice_in_cases.ensures ∙ ap option_copied c.in-Some-twice_in_cases.is)) in
    sym (head_back (names c.args.before.now out) (flat_map in_case out.cases ++ on_nexts out.nexts) (sym c.again.ensures ∙ ap option_copied c.in_default.is)
    ∙ head_front (flat_map in_case out.cases) (on_nexts out.nexts) c.in-Some-twice_in_cases.word.now cases)

pub returns : goal.returns
returns c =
    let out = c.args.out.now in
    let cases : slice_get (flat_map in_case out.cases) 0 ≡ None =
    head-flat in_case out.cases ∙ (ap (first_among (λ case. slice_get (in_case case) 0)) (sym c.as_slice.ensures) ∙ (sym c.twice_in_cases.ensures ∙ ap option_copied c.in_default-twice_in_cases.is)) in
    let found : List PNext → _ = λ nexts. first_numbered (λ k next. slice_get (sent_again (take k nexts) next) 0) 0 nexts in
    c.twice_on_nexts.ensures ∙ (ap found c.as_slice-2.ensures ∙ sym (head_back (names c.args.before.now out) (flat_map in_case out.cases ++ on_nexts out.nexts) (sym c.again.ensures ∙ ap option_copied c.in_default.is)
    ∙ (head_back (flat_map in_case out.cases) (on_nexts out.nexts) cases ∙ head-numbered (λ k next. sent_again (take k out.nexts) next) 0 out.nexts)))
