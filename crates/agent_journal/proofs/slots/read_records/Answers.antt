use Rattle.std.proofs.Common.{drop, ◌*◌, subst, Option, IfSome}
use Rattle.std.proofs.lemmas.Result.{err_from_is_err_and}
use Rattle.nego_io.proofs.CallLaws.{read-then}
use Rattle.agent_msg.specs.declared.record.Record.{Record}
use Rattle.agent_msg.specs.Records.{IsTidy}
use Rattle.agent_journal.specs.Slots.{SaysFirst}
use Rattle.agent_journal.proofs.LoadLaws.{loading-more, loading-ends, loading-full, loading-fails, only-read}
use Rattle.agent_journal.proofs.slots.read_records.Goals as goal

pub returns-in_err-record-clause-read : goal.returns-in_err-record-clause-read
returns-in_err-record-clause-read g c = read-then c.args.i _ (g.D.Disks.told c.loop-k.disks) _ c.loop-k.invariant.read c.read_slot.ensures.read

pub returns-in_err-record-clause-err : goal.returns-in_err-record-clause-err
returns-in_err-record-clause-err g c =
    let p = err_from_is_err_and c.from_residual.result c.from_residual.ensures.1 in
    rw (p.1, p.2)
    (loading-fails c.args.i _ (g.D.Disks.told c.loop-k.disks) _ c.loop-k.k c.loop-k.records c.loop-k.invariant c.read_slot.ensures.read c.loop-k-test.true _ c.in_err-record.ensures.err)

pub returns-in_default-clause-read : goal.returns-in_default-clause-read
returns-in_default-clause-read g c = read-then c.args.i _ (g.D.Disks.told c.loop-k.disks) _ c.loop-k.invariant.read c.read_slot.ensures.read

pub returns-in_default-clause-records : goal.returns-in_default-clause-records
returns-in_default-clause-records g c =
    loading-ends c.args.i _ (g.D.Disks.told c.loop-k.disks) _ c.loop-k.k c.loop-k.records c.loop-k.invariant c.read_slot.ensures.read c.loop-k-test.true
    (λ told. subst (λ (slot : Option Record). SaysFirst (drop (128 * c.loop-k.k) ((g.D.Disks.told c.loop-k.disks).content c.args.i)) slot) c.in_default.is (c.in_ok-record.ensures.ok told))

pub returns-in_err-push-clause-read : goal.returns-in_err-push-clause-read
returns-in_err-push-clause-read g c = read-then c.args.i _ (g.D.Disks.told c.loop-k.disks) _ c.loop-k.invariant.read c.read_slot.ensures.read

pub loop-k-preserved : goal.loop-k-preserved
loop-k-preserved g c =
    rw (c.in_ok-push.ensures.ok)
    (loading-more c.args.i _ (g.D.Disks.told c.loop-k.disks) _ c.loop-k.k c.loop-k.records c.loop-k.invariant c.read_slot.ensures.read c.loop-k-test.true c.in-Some.record c.in_ok-record.ensures.stayed
    (λ told. subst (λ (slot : Option Record). SaysFirst (drop (128 * c.loop-k.k) ((g.D.Disks.told c.loop-k.disks).content c.args.i)) slot) c.in-Some.is (c.in_ok-record.ensures.ok told))
    (subst (λ (slot : Option Record). IfSome slot IsTidy) c.in-Some.is c.in_ok-record.ensures.tidy))

pub returns-clause-records : goal.returns-clause-records
returns-clause-records g c = loading-full c.args.i _ (g.D.Disks.told c.loop-k.disks) c.loop-k.k c.loop-k.records c.loop-k.invariant c.loop-k-test.false

pub returns-in_err-push-clause-err : goal.returns-in_err-push-clause-err
returns-in_err-push-clause-err g c =
    let p = err_from_is_err_and c.from_residual-in_err-push.result c.from_residual-in_err-push.ensures.1 in
    rw (p.1, p.2)
    (only-read c.args.i _ (g.D.Disks.told c.loop-k.disks) _ c.loop-k.k c.loop-k.records c.loop-k.invariant c.read_slot.ensures.read c.loop-k-test.true c.in_ok-record.ensures.stayed)
