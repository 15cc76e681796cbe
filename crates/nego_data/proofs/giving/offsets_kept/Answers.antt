use Rattle.std.proofs.Common.{◌∙◌, sym, subst}
use Rattle.std.specs.Cmp.Lexicographic.{bytes_decides}
use Rattle.nego_data.specs.Makers.{AreOffsets, HasOffsets}
use Rattle.nego_data.proofs.giving.offsets_kept.Goals as goal

pub returns-then-eq : goal.returns-then-eq
returns-then-eq c sizes all =
    let item = c.one-item.result in
    subst (λ free. AreOffsets sizes free item.those.words) ((bytes_decides item.free c.args.free).0 (sym c.eq.ensures ∙ c.if-eq.true))
    (subst (HasOffsets sizes) (sym c.one-item.is) (all c.loop-one.one-index item c.loop-one-test.true))
