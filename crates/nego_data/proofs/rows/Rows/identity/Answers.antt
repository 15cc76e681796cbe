use Rattle.std.proofs.Common.{◌≡◌, ℕ, ◌+◌, ◌&&◌, ◌||◌, ◌==◌, nat_lt, ◌∙◌, subst, ap, arith}
use Rattle.std.proofs.lemmas.Bool.Decides.{nat_tests}
use Rattle.nego_data.specs.Tables.{IsTable}
use Rattle.nego_data.proofs.rows.Rows.identity.Goals as goal

one_more : (c d e : ℕ) → ((nat_lt c d && c == e) || (c == d && e == d)) ≡ (nat_lt c (d + 1) && c == e)
one_more c d e = grind (arith, nat_tests)

pub loop-d-preserved : goal.loop-d-preserved
loop-d-preserved c =
    let all = c.args.all in
    let long = c.loop-d.invariant.table.rows in
    record {
      table = subst (λ n. IsTable n c.relate.new.self) long c.relate.ensures.table;
      related = λ b e h k.
          c.relate.ensures.related b e (omega (arith, h, long)) (omega (arith, k, long))
          ∙ ap (λ x. x || (b == c.loop-d.d && e == c.loop-d.d)) (c.loop-d.invariant.related b e h k)
          ∙ one_more b c.loop-d.d e;
    }
