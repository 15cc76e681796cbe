use Rattle.std.proofs.Common.{ℕ, ◌+◌, ap}
use Rattle.std.proofs.lemmas.Result.{on_ok_weaker}
use Rattle.nego_io.proofs.CallLaws.{calls-then, leaves-then}
use Rattle.agent_msg.specs.Records.{entry}
use Rattle.agent_journal.specs.Slots.{kept}
use Rattle.agent_journal.specs.Journal.{KeepsOrAdds}
use Rattle.agent_journal.proofs.PutLaws.{on_ok}
use Rattle.agent_journal.proofs.PutCalls.{images-record, content-record, place-gate-now, images-gate, settled-gate, added-gate, content-both}
use Rattle.agent_journal.proofs.slots.put.Goals as goal

pub returns-clause-calls : goal.returns-clause-calls
returns-clause-calls g c = calls-then c.args.i _ (g.D.Disks.told c.write_through.new.disks) _ c.write_through.ensures.calls c.write_through-2.ensures.calls

pub returns-in_err-write_through-clause-images : goal.returns-in_err-write_through-clause-images
returns-in_err-write_through-clause-images g c =
    let a = g.D.Disks.told c.args.disks.now in
    let b = g.D.Disks.told c.write_through.new.disks in
    images-record a b c.args.i c.args.count (entry c.args.r.now) c.write_through.ensures.calls c.requires.settled c.closed_behind.result _ (ap (λ (k : ℕ). k + 1) c.gate.ensures) c.write_through.ensures.images

pub write_through-requires-2-clause-within : goal.write_through-requires-2-clause-within
write_through-requires-2-clause-within g c =
    let a = g.D.Disks.told c.args.disks.now in
    let b = g.D.Disks.told c.write_through.new.disks in
    let e = entry c.args.r.now in
    let has = content-record a b c.args.i c.args.count e c.write_through.ensures.calls c.requires.settled c.closed_behind.result _ c.closed_behind.ensures.whole (ap (λ (k : ℕ). k + 1) c.gate.ensures) c.closed_behind.ensures.value c.in_ok-write_through.ensures.content in
    place-gate-now a b c.args.i c.args.count e c.write_through.ensures.calls c.requires.settled has c.gate-2.result c.gate-2.ensures

pub returns-clause-images : goal.returns-clause-images
returns-clause-images g c =
    let i = c.args.i in
    let n = c.args.count in
    let a = g.D.Disks.told c.args.disks.now in
    let b = g.D.Disks.told c.write_through.new.disks in
    let d = g.D.Disks.told c.write_through-2.new.disks in
    let e = entry c.args.r.now in
    let calls = c.write_through.ensures.calls in
    let gate = ap (λ (k : ℕ). k + 1) c.gate.ensures in
    let has = content-record a b i n e calls c.requires.settled c.closed_behind.result _ c.closed_behind.ensures.whole gate c.closed_behind.ensures.value c.in_ok-write_through.ensures.content in
    let first = images-record a b i n e calls c.requires.settled c.closed_behind.result _ gate c.write_through.ensures.images in
    let second = images-gate a b i n e calls c.requires.settled d c.write_through-2.ensures.calls c.closed_behind.ensures.whole c.requires.place c.gate-2.result c.gate-2.ensures has c.write_through-2.ensures.images in
    leaves-then (λ image. KeepsOrAdds (kept (a.content i)) e image) i a b d c.write_through-2.ensures.calls first second

pub returns-clause-settled : goal.returns-clause-settled
returns-clause-settled g c =
    let i = c.args.i in
    let n = c.args.count in
    let a = g.D.Disks.told c.args.disks.now in
    let b = g.D.Disks.told c.write_through.new.disks in
    let d = g.D.Disks.told c.write_through-2.new.disks in
    let e = entry c.args.r.now in
    let calls = c.write_through.ensures.calls in
    let has = content-record a b i n e calls c.requires.settled c.closed_behind.result _ c.closed_behind.ensures.whole (ap (λ (k : ℕ). k + 1) c.gate.ensures) c.closed_behind.ensures.value c.in_ok-write_through.ensures.content in
    on_ok c.write_through-2.result
    (λ now synced. settled-gate a b i n e calls c.requires.settled d c.write_through-2.ensures.calls c.closed_behind.ensures.whole c.requires.place c.gate-2.result c.gate-2.ensures has now synced)
    c.write_through-2.ensures.content c.write_through-2.ensures.synced

pub returns-clause-added : goal.returns-clause-added
returns-clause-added g c =
    let i = c.args.i in
    let n = c.args.count in
    let a = g.D.Disks.told c.args.disks.now in
    let b = g.D.Disks.told c.write_through.new.disks in
    let d = g.D.Disks.told c.write_through-2.new.disks in
    let e = entry c.args.r.now in
    let calls = c.write_through.ensures.calls in
    let has = content-record a b i n e calls c.requires.settled c.closed_behind.result _ c.closed_behind.ensures.whole (ap (λ (k : ℕ). k + 1) c.gate.ensures) c.closed_behind.ensures.value c.in_ok-write_through.ensures.content in
    on_ok c.write_through-2.result
    (λ now synced told. added-gate a b i n e calls c.requires.settled d c.write_through-2.ensures.calls c.closed_behind.ensures.whole c.requires.place c.gate-2.result c.gate-2.ensures has now told)
    c.write_through-2.ensures.content c.write_through-2.ensures.synced

pub returns-clause-content : goal.returns-clause-content
returns-clause-content g c =
    let a = g.D.Disks.told c.args.disks.now in
    let b = g.D.Disks.told c.write_through.new.disks in
    let d = g.D.Disks.told c.write_through-2.new.disks in
    on_ok_weaker c.write_through-2.result
    (content-both a b c.args.i c.args.count (entry c.args.r.now) c.write_through.ensures.calls c.requires.settled c.closed_behind.result c.closed_behind.ensures.value _ (ap (λ (k : ℕ). k + 1) c.gate.ensures) c.in_ok-write_through.ensures.content
    d c.write_through-2.ensures.calls c.gate-2.result c.gate-2.ensures)
    c.write_through-2.ensures.content
