use Rattle.std.proofs.Common.{ℕ, ◌*◌, List, length, take, drop, sym, ◌∙◌, ap, subst, refl}
use Rattle.std.proofs.lemmas.Option.{none-some}
use Rattle.agent_msg.specs.Records.{entry}
use Rattle.agent_msg.specs.Bytes.{SpellsRecord}
use Rattle.agent_journal.proofs.FileLaws.{slot-read}
use Rattle.agent_journal.proofs.slots.read_slot.Goals as goal

pub returns-in-Some-clause-ok : goal.returns-in-Some-clause-ok
returns-in-Some-clause-ok g c = λ told.
    let rest = drop (128 * c.args.k) ((g.D.Disks.told c.args.disks.now).content c.args.i) in
    let bytes = c.in_ok-n.ensures.bytes told ∙ ap (λ (n : ℕ). take (length c.read.new.buf) (drop n ((g.D.Disks.told c.args.disks.now).content c.args.i))) c.gate.ensures in
    let read = slot-read c.read.new.buf rest c.in_ok-n.n c.read.auto.buf bytes c.if-n-lt129.false c.if-slot-ne-OPEN.false in
    (read.0, subst (λ (xs : List ℕ). SpellsRecord xs (entry c.in-Some.record)) read.1 ((c.in-Some.ensures.entry (entry c.in-Some.record)).0 refl))

pub returns-in-None-clause-err : goal.returns-in-None-clause-err
returns-in-None-clause-err g c = (
  refl,
  (
    c.in_ok-n.ensures.cause.stayed,
    λ told.
        let rest = drop (128 * c.args.k) ((g.D.Disks.told c.args.disks.now).content c.args.i) in
        let bytes = c.in_ok-n.ensures.bytes told ∙ ap (λ (n : ℕ). take (length c.read.new.buf) (drop n ((g.D.Disks.told c.args.disks.now).content c.args.i))) c.gate.ensures in
        let read = slot-read c.read.new.buf rest c.in_ok-n.n c.read.auto.buf bytes c.if-n-lt129.false c.if-slot-ne-OPEN.false in
        record { counts = read.0; none = λ e spells. none-some e ((c.in-None.ensures.entry e).1 (subst (λ (xs : List ℕ). SpellsRecord xs e) (sym read.1) spells)) },
  ),
)
