use Rattle.std.proofs.Common.{◌≡◌, ◌+◌, ◌-◌, not, [], length, sym, ◌∙◌, ap, arith}
use Rattle.std.proofs.lemmas.List.{take_rest}
use Rattle.nego_base.specs.Lines.{is_blank}
use Rattle.nego_base.specs.Scan.{words_at}
use Rattle.nego_base.proofs.Places.{first_place, no_place}
use Rattle.nego_base.proofs.Cuts.{blanks_before, blanks_alone, blanks_cut, blanks_all, begins_word}
use Rattle.nego_base.proofs.splitting.from_word.Goals as goal

pub returns-in-Some-clause-same : goal.returns-in-Some-clause-same
returns-in-Some-clause-same c =
    let bytes = c.args.bytes.now in
    rw (take_rest bytes c.in-Some.i) (blanks_before bytes c.in-Some.i (first_place (λ b. not (is_blank b)) bytes c.in-Some.i (sym c.in-Some.ensures.place)))

pub returns-in-None-clause-same : goal.returns-in-None-clause-same
returns-in-None-clause-same c =
    let bytes = c.args.bytes.now in
    blanks_alone bytes (no_place (λ b. not (is_blank b)) bytes (sym c.in-None.ensures.place))

pub returns-in-Some-clause-places : goal.returns-in-Some-clause-places
returns-in-Some-clause-places c =
    let bytes = c.args.bytes.now in
    rw (take_rest bytes c.in-Some.i) (blanks_cut bytes c.in-Some.i (first_place (λ b. not (is_blank b)) bytes c.in-Some.i (sym c.in-Some.ensures.place)))

pub returns-in-Some-clause-begins : goal.returns-in-Some-clause-begins
returns-in-Some-clause-begins c =
    let bytes = c.args.bytes.now in
    rw (take_rest bytes c.in-Some.i) (begins_word bytes c.in-Some.i (first_place (λ b. not (is_blank b)) bytes c.in-Some.i (sym c.in-Some.ensures.place)))

pub returns-in-None-clause-places : goal.returns-in-None-clause-places
returns-in-None-clause-places c =
    let bytes = c.args.bytes.now in
    let all : length bytes ≡ length bytes - 0 = omega arith in
    λ number column. blanks_all bytes (no_place (λ b. not (is_blank b)) bytes (sym c.in-None.ensures.place)) number column ∙ ap (λ n. words_at number (column + n) []) all
