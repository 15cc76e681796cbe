use Rattle.std.proofs.Common.{◌∙◌, ◌-◌, ◌%◌, ◌/◌, ◌^◌, ◌==◌, ap, arith}
use Rattle.std.proofs.lemmas.List.{get_or-replicate}
use Rattle.std.proofs.lemmas.Nat.Bits.{bit_at_ones}
use Rattle.std.specs.Int.{bit_at}
use Rattle.nego_data.proofs.bit_row.BitRow.all.Goals as goal

pub returns : goal.returns
returns c e h =
    ap (λ w. bit_at w (e % 64) == 1) (get_or-replicate 16 (e / 64) (2 ^ 64 - 1) 0 (omega (arith, h)))
    ∙ ap (λ b. b == 1) (bit_at_ones 64 (e % 64) (omega arith))
