use Rattle.std.proofs.Common.{◌≡◌, List, ◌++◌, Some, None, slice_get, take, sym, ap, ◌∙◌}
use Rattle.std.specs.Option.{option_copied}
use Rattle.nego_base.specs.Firsts.{first_numbered}
use Rattle.nego_base.specs.declared.line.Word.{Word}
use Rattle.nego_reader.specs.declared.parsed.PAtom.{PAtom}
use Rattle.nego_reader.specs.declared.parsed.POut.{POut}
use Rattle.nego_shape.specs.Faults.{numbered, again, repeated, twice_in_out}
use Rattle.nego_shape.proofs.Numbered.{head-numbered, head_front, head_back}
use Rattle.nego_shape.proofs.checks.twice.twice_in_atom.Goals as goal

abbrev names : List PAtom → PAtom → List Word
names before atom = again (λ (other : PAtom). other.name) before atom

-- the parties of an atom that stand twice
abbrev parties : List Word → List Word
parties words = repeated (λ (party : Word). party) words

abbrev in_outs : List POut → List Word
in_outs outs = numbered (λ i out. twice_in_out (take i outs) out) 0 outs

pub returns-in-Some : goal.returns-in-Some
returns-in-Some c =
    let atom = c.args.atom.now in
    sym (head_front (names c.args.before.now atom) (parties atom.parties ++ in_outs atom.outs) c.in-Some.word.now (sym c.again.ensures ∙ ap option_copied c.in-Some.is))

pub returns-in-Some-repeated : goal.returns-in-Some-repeated
returns-in-Some-repeated c =
    let atom = c.args.atom.now in
    let some : slice_get (parties atom.parties) 0 ≡ Some c.in-Some-repeated.word.now =
    ap (λ words. slice_get (parties words) 0) (sym c.as_slice.ensures) ∙ (sym c.repeated.ensures ∙ ap option_copied c.in-Some-repeated.is) in
    sym (head_back (names c.args.before.now atom) (parties atom.parties ++ in_outs atom.outs) (sym c.again.ensures ∙ ap option_copied c.in_default.is)
    ∙ head_front (parties atom.parties) (in_outs atom.outs) c.in-Some-repeated.word.now some)

pub returns : goal.returns
returns c =
    let atom = c.args.atom.now in
    let none : slice_get (parties atom.parties) 0 ≡ None =
    ap (λ words. slice_get (parties words) 0) (sym c.as_slice.ensures) ∙ (sym c.repeated.ensures ∙ ap option_copied c.in_default-repeated.is) in
    let found : List POut → _ = λ outs. first_numbered (λ i out. slice_get (twice_in_out (take i outs) out) 0) 0 outs in
    c.twice_in_outs.ensures ∙ (ap found c.as_slice-2.ensures ∙ sym (head_back (names c.args.before.now atom) (parties atom.parties ++ in_outs atom.outs) (sym c.again.ensures ∙ ap option_copied c.in_default.is)
    ∙ (head_back (parties atom.parties) (in_outs atom.outs) none ∙ head-numbered (λ i out. twice_in_out (take i atom.outs) out) 0 atom.outs)))
