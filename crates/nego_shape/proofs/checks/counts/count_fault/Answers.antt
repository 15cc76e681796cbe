use Rattle.std.proofs.Common.{refl, ap, sym, ◌∙◌}
use Rattle.std.specs.Option.{option_copied}
use Rattle.nego_shape.proofs.CountsListed.{counts_first, line_past}
use Rattle.nego_shape.proofs.checks.counts.count_fault.Goals as goal

pub returns-then-is_empty : goal.returns-then-is_empty
returns-then-is_empty c = rw (counts_first c.args.p.now, sym c.is_empty.ensures ∙ c.if-is_empty.true) refl

pub returns-in-Some : goal.returns-in-Some
returns-in-Some c =
    rw (counts_first c.args.p.now, sym c.is_empty.ensures ∙ c.if-is_empty.false, sym c.get.ensures ∙ ap option_copied c.in-Some.is, c.too_many.ensures) refl

pub returns-in-Some-get : goal.returns-in-Some-get
returns-in-Some-get c =
    rw (
      counts_first c.args.p.now,
      sym c.is_empty.ensures ∙ c.if-is_empty.false,
      sym c.get.ensures ∙ ap option_copied c.in_default.is,
      sym c.get-2.ensures ∙ ap option_copied c.in-Some-get.is,
      c.too_many-in-Some-get.ensures,
    ) refl

pub returns-in_err-line : goal.returns-in_err-line
returns-in_err-line c =
    rw (
      counts_first c.args.p.now,
      sym c.is_empty.ensures ∙ c.if-is_empty.false,
      sym c.get.ensures ∙ ap option_copied c.in_default.is,
      sym c.get-2.ensures ∙ ap option_copied c.in_default-get.is,
      sym (c.out_line.ensures ∙ ap line_past c.as_slice.ensures) ∙ c.in_err-line.was,
      c.from_residual.ensures,
    ) refl

pub returns : goal.returns
returns c =
    rw (
      counts_first c.args.p.now,
      sym c.is_empty.ensures ∙ c.if-is_empty.false,
      sym c.get.ensures ∙ ap option_copied c.in_default.is,
      sym c.get-2.ensures ∙ ap option_copied c.in_default-get.is,
      sym (c.out_line.ensures ∙ ap line_past c.as_slice.ensures) ∙ c.in_ok-line.was,
      c.too_many-2.ensures,
    ) refl
