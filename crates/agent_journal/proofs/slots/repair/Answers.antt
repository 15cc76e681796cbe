use Rattle.std.proofs.Common.{ℕ, ◌+◌, ap}
use Rattle.std.proofs.lemmas.Result.{on_ok_weaker}
use Rattle.nego_io.proofs.CallLaws.{calls-then, leaves-then}
use Rattle.agent_journal.specs.Slots.{kept}
use Rattle.agent_journal.specs.Journal.{KeepsAll}
use Rattle.agent_journal.proofs.PutLaws.{on_ok}
use Rattle.agent_journal.proofs.RepairCalls.{images-cut, place-cut, images-close, kept-close, settled-close, content-close}
use Rattle.agent_journal.proofs.slots.repair.Goals as goal

pub returns-clause-calls : goal.returns-clause-calls
returns-clause-calls g c = calls-then c.args.i _ (g.D.Disks.told c.shorten.new.disks) _ c.shorten.ensures.calls c.close.ensures.calls

pub returns-in_err-shorten-clause-images : goal.returns-in_err-shorten-clause-images
returns-in_err-shorten-clause-images g c =
    images-cut (g.D.Disks.told c.args.disks.now) (g.D.Disks.told c.shorten.new.disks) c.args.i c.args.count c.shorten.ensures.calls c.requires.all _ (ap (λ (n : ℕ). n + 1) c.gate.ensures) c.shorten.ensures.images

pub close-requires-clause-within : goal.close-requires-clause-within
close-requires-clause-within g c =
    place-cut (g.D.Disks.told c.args.disks.now) (g.D.Disks.told c.shorten.new.disks) c.args.i c.args.count c.shorten.ensures.calls c.requires.all _ (ap (λ (n : ℕ). n + 1) c.gate.ensures) c.in_ok-shorten.ensures.content c.gate-2.result c.gate-2.ensures

pub returns-clause-images : goal.returns-clause-images
returns-clause-images g c =
    let a = g.D.Disks.told c.args.disks.now in
    let b = g.D.Disks.told c.shorten.new.disks in
    let d = g.D.Disks.told c.close.new.disks in
    let at = ap (λ (n : ℕ). n + 1) c.gate.ensures in
    leaves-then (KeepsAll (kept (a.content c.args.i))) c.args.i a b d c.close.ensures.calls
    (images-cut a b c.args.i c.args.count c.shorten.ensures.calls c.requires.all _ at c.shorten.ensures.images)
    (images-close a b c.args.i c.args.count c.shorten.ensures.calls c.requires.all _ at c.in_ok-shorten.ensures.content d c.close.ensures.calls c.gate-2.result c.gate-2.ensures c.close.ensures.images)

pub returns-clause-kept : goal.returns-clause-kept
returns-clause-kept g c =
    on_ok_weaker c.close.result
    (λ closes. kept-close (g.D.Disks.told c.args.disks.now) (g.D.Disks.told c.shorten.new.disks) c.args.i c.args.count c.shorten.ensures.calls c.requires.all _ (ap (λ (n : ℕ). n + 1) c.gate.ensures) c.in_ok-shorten.ensures.content
    (g.D.Disks.told c.close.new.disks) c.close.ensures.calls c.gate-2.result c.gate-2.ensures closes)
    c.close.ensures.closes

pub returns-clause-settled : goal.returns-clause-settled
returns-clause-settled g c =
    on_ok c.close.result
    (λ closes synced. settled-close (g.D.Disks.told c.args.disks.now) (g.D.Disks.told c.shorten.new.disks) c.args.i c.args.count c.shorten.ensures.calls c.requires.all _ (ap (λ (n : ℕ). n + 1) c.gate.ensures) c.in_ok-shorten.ensures.content
    (g.D.Disks.told c.close.new.disks) c.close.ensures.calls c.gate-2.result c.gate-2.ensures closes synced)
    c.close.ensures.closes c.close.ensures.synced

pub returns-clause-content : goal.returns-clause-content
returns-clause-content g c =
    on_ok_weaker c.close.result
    (content-close (g.D.Disks.told c.args.disks.now) (g.D.Disks.told c.shorten.new.disks) c.args.i c.args.count c.shorten.ensures.calls c.requires.all _ (ap (λ (n : ℕ). n + 1) c.gate.ensures) c.in_ok-shorten.ensures.content
    (g.D.Disks.told c.close.new.disks) c.close.ensures.calls c.gate-2.result c.gate-2.ensures)
    c.close.ensures.content
