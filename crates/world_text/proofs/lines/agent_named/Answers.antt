use Rattle.std.proofs.Common.{◌≡◌, ℕ, List, true, sym, subst, ◌∙◌, arith}
use Rattle.std.specs.Str.{bytes_eq}
use Rattle.world_text.proofs.Naming.{named_first, named_nowhere}
use Rattle.world_text.proofs.lines.agent_named.Goals as goal

pub returns-then-eq : goal.returns-then-eq
returns-then-eq c =
    named_first c.args.d.now c.args.name.now c.loop-a.a (omega (arith, c.loop-a-test.true, c.agents-a-end.ensures.value)) c.loop-a.invariant
    (subst (λ (t : List ℕ). bytes_eq t c.args.name.now ≡ true) c.agent_name.ensures.value (sym c.eq.ensures ∙ c.if-eq.true))

pub returns : goal.returns
returns c = named_nowhere c.args.d.now c.args.name.now (λ e known. c.loop-a.invariant e (omega (arith, known, c.loop-a-test.false, c.agents-a-end.ensures.value)))
