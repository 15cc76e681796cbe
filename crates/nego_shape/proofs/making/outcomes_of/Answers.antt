use Rattle.std.proofs.Common.{◌≡◌, ◌+◌, ◌<◌, ◌≤◌, ◌++◌, List, [], Option, Some, length, map, drop, get_or, sym, ap, subst, ◌∙◌}
use Rattle.std.specs.List.{All, Contains}
use Rattle.std.specs.Option.{option_map_or}
use Rattle.std.proofs.lemmas.Option.{slice_get-get_or}
use Rattle.nego_base.proofs.ListLaws.{mapped_at}
use Rattle.nego_shape.specs.declared.numbers.AtomNumbers.{AtomNumbers}
use Rattle.nego_shape.proofs.Gathering.{made_at}
use Rattle.std.proofs.lemmas.Result.{err_from_is_err_and}
use Rattle.nego_model.specs.Parts.{plain_outcome}
use Rattle.nego_reader.specs.declared.parsed.Parsed.{Parsed}
use Rattle.nego_reader.specs.declared.parsed.PAtom.{PAtom}
use Rattle.nego_reader.specs.declared.parsed.POut.{POut}
use Rattle.nego_reader.specs.Content.{AtomContent, content_of, atom_content, out_content}
use Rattle.nego_shape.specs.Answer.{Tells}
use Rattle.nego_shape.specs.Faults.{numbered, each_out, uncovered, faults, first_of}
use Rattle.nego_shape.specs.Conditions.{AllCovered}
use Rattle.nego_shape.specs.Naming.{all_outs, outcome_in, parties_in}
use Rattle.nego_shape.specs.Made.{placed_at, out_numbers, atom_numbers}
use Rattle.nego_shape.proofs.PartsMade.{outs_are_placed, outs_cut, few_made, more_made}
use Rattle.nego_shape.proofs.Telling.{outs_told, outs_go_on, outs_done}
use Rattle.nego_shape.proofs.making.outcomes_of.Goals as goal

pub add_outcomes-requires-clause-outs : goal.add_outcomes-requires-clause-outs
add_outcomes-requires-clause-outs c =
    let p = c.args.p.now in
    let same = c.as_slice-atoms.ensures ∙ ap (λ (q : Parsed). q.atoms) c.text.ensures in
    let below : c.loop-n.n < length p.atoms = subst (λ (atoms : List PAtom). c.loop-n.n < length atoms) same c.loop-n-test.true in
    let is : c.index-atoms-n.result ≡ get_or p.atoms c.loop-n.n c.index-atoms-n.result = subst (λ (atoms : List PAtom). c.index-atoms-n.result ≡ get_or atoms c.loop-n.n c.index-atoms-n.result) same c.index-atoms-n.is in
    subst (All (λ (out : POut). Contains (all_outs (content_of p)) (placed_at c.loop-n.n (out_content out)))) (sym c.as_slice.ensures) (outs_are_placed p c.loop-n.n c.index-atoms-n.result below is)

pub add_outcomes-requires-clause-few : goal.add_outcomes-requires-clause-few
add_outcomes-requires-clause-few c =
    let p = c.args.p.now in
    let n = c.loop-n.n in
    let atom = c.index-atoms-n.result in
    let same = c.as_slice-atoms.ensures ∙ ap (λ (q : Parsed). q.atoms) c.text.ensures in
    let below : n < length p.atoms = subst (λ (atoms : List PAtom). n < length atoms) same c.loop-n-test.true in
    let is : atom ≡ get_or p.atoms n atom = subst (λ (atoms : List PAtom). atom ≡ get_or atoms n atom) same c.index-atoms-n.is in
    subst (λ (outs : List POut). length c.loop-n.outcomes + length outs ≤ 256) (sym c.as_slice.ensures)
    (few_made p n (length p.agents) atom c.loop-n.outcomes below is c.requires.shaped.few_outcomes c.loop-n.invariant.parts)

pub loop-n-preserved : goal.loop-n-preserved
loop-n-preserved c =
    let p = c.args.p.now in
    let n = c.loop-n.n in
    let atom = c.index-atoms-n.result in
    let same = c.as_slice-atoms.ensures ∙ ap (λ (q : Parsed). q.atoms) c.text.ensures in
    let below : n < length p.atoms = subst (λ (atoms : List PAtom). n < length atoms) same c.loop-n-test.true in
    let is : atom ≡ get_or p.atoms n atom = subst (λ (atoms : List PAtom). atom ≡ get_or atoms n atom) same c.index-atoms-n.is in
    let plain = map (plain_outcome (length p.agents)) in
    let put : plain c.add_outcomes.new.outcomes ≡ plain c.loop-n.outcomes ++ map (λ out. outcome_in (content_of p) (placed_at n (out_content out))) atom.outs =
    c.in_ok-add_outcomes.ensures.parts ∙ ap (λ (outs : List POut). plain c.loop-n.outcomes ++ map (λ out. outcome_in (content_of p) (placed_at n (out_content out))) outs) c.as_slice.ensures in
    let more = more_made (plain_outcome (length p.agents)) (λ (out : POut). outcome_in (content_of p) (placed_at n (out_content out))) c.loop-n.outcomes c.add_outcomes.new.outcomes atom.outs put in
    record {
      parts = outs_cut p n atom (plain c.loop-n.outcomes) (plain c.add_outcomes.new.outcomes) (map (outcome_in (content_of p)) (all_outs (content_of p))) below is put c.loop-n.invariant.parts;
      total = ap (λ k. each_out (λ m o out. uncovered (content_of p) o out) (n + 1) k (drop (n + 1) p.atoms)) more
          ∙ outs_go_on (λ m o out. uncovered (content_of p) o out) p.atoms n (length c.loop-n.outcomes) atom (faults AllCovered p) below is (sym (ap (numbered (uncovered (content_of p)) (length c.loop-n.outcomes)) c.as_slice.ensures) ∙ c.in_ok-add_outcomes.ensures.total) c.loop-n.invariant.total;
    }

pub returns-in_err-add_outcomes-clause-err : goal.returns-in_err-add_outcomes-clause-err
returns-in_err-add_outcomes-clause-err c =
    let p = c.args.p.now in
    let n = c.loop-n.n in
    let atom = c.index-atoms-n.result in
    let o = length c.loop-n.outcomes in
    let e = c.in_err-add_outcomes.field-0.0 in
    let same = c.as_slice-atoms.ensures ∙ ap (λ (q : Parsed). q.atoms) c.text.ensures in
    let below : n < length p.atoms = subst (λ (atoms : List PAtom). n < length atoms) same c.loop-n-test.true in
    let is : atom ≡ get_or p.atoms n atom = subst (λ (atoms : List PAtom). atom ≡ get_or atoms n atom) same c.index-atoms-n.is in
    let told = err_from_is_err_and c.from_residual.result c.from_residual.ensures.1 in
    rw (told.1, told.2) (outs_told (λ m k out. uncovered (content_of p) k out) e p.atoms n o atom (faults AllCovered p) below is (subst (λ (outs : List POut). Tells e (first_of (numbered (uncovered (content_of p)) o outs))) c.as_slice.ensures c.in_err-add_outcomes.ensures.err) c.loop-n.invariant.total)

pub returns-clause-total : goal.returns-clause-total
returns-clause-total c =
    let p = c.args.p.now in
    let n = c.loop-n.n in
    let same = c.as_slice-atoms.ensures ∙ ap (λ (q : Parsed). q.atoms) c.text.ensures in
    outs_done (λ m o out. uncovered (content_of p) o out) p.atoms n (length c.loop-n.outcomes) (faults AllCovered p) (subst (λ (atoms : List PAtom). length atoms ≤ n) same c.loop-n-test.false) c.loop-n.invariant.total

pub add_outcomes-requires-clause-parties : goal.add_outcomes-requires-clause-parties
add_outcomes-requires-clause-parties c =
    let p = c.args.p.now in
    let c0 = content_of p in
    let atom = c.index-atoms-n.result in
    let same = c.as_slice-atoms.ensures ∙ ap (λ (q : Parsed). q.atoms) c.text.ensures in
    let below : c.loop-n.n < length p.atoms = subst (λ (atoms : List PAtom). c.loop-n.n < length atoms) same c.loop-n-test.true in
    let is : atom ≡ get_or p.atoms c.loop-n.n atom = subst (λ (atoms : List PAtom). atom ≡ get_or atoms c.loop-n.n atom) same c.index-atoms-n.is in
    let numbers = made_at (atom_numbers c0) p.atoms c.args.numbers.now c.loop-n.n atom c.index-numbers-n.result c.requires.numbers below is c.index-numbers-n.is in
    let here = mapped_at atom_content p.atoms c.loop-n.n atom (slice_get-get_or p.atoms c.loop-n.n atom below ∙ ap (λ (x : PAtom). Some x) (sym is)) in
    ap (λ (x : AtomNumbers). x.parties) numbers ∙ sym (ap (λ (o : Option AtomContent). option_map_or (λ (x : AtomContent). parties_in c0 x.parties) o []) here)

pub add_outcomes-requires-clause-numbers : goal.add_outcomes-requires-clause-numbers
add_outcomes-requires-clause-numbers c =
    let p = c.args.p.now in
    let c0 = content_of p in
    let atom = c.index-atoms-n.result in
    let same = c.as_slice-atoms.ensures ∙ ap (λ (q : Parsed). q.atoms) c.text.ensures in
    let below : c.loop-n.n < length p.atoms = subst (λ (atoms : List PAtom). c.loop-n.n < length atoms) same c.loop-n-test.true in
    let is : atom ≡ get_or p.atoms c.loop-n.n atom = subst (λ (atoms : List PAtom). atom ≡ get_or atoms c.loop-n.n atom) same c.index-atoms-n.is in
    let numbers = made_at (atom_numbers c0) p.atoms c.args.numbers.now c.loop-n.n atom c.index-numbers-n.result c.requires.numbers below is c.index-numbers-n.is in
    ap (λ (x : AtomNumbers). x.outs) numbers ∙ ap (map (out_numbers c0)) (sym c.as_slice.ensures)
