use Rattle.std.proofs.Common.{ℕ, List, sym, ◌∙◌, subst}
use Rattle.agent_journal.specs.Slots.{Closes}
use Rattle.nego_io.proofs.CallLaws.{calls-then}
use Rattle.agent_journal.proofs.FileLaws.{closes-already, closed-again}
use Rattle.agent_journal.proofs.slots.close.Goals as goal

pub returns-then-n-eq0-clause-calls : goal.returns-then-n-eq0-clause-calls
returns-then-n-eq0-clause-calls g c = calls-then c.args.i _ (g.D.Disks.told c.read.new.self) _ c.read.ensures.read.calls c.write_through.ensures.calls

pub returns-clause-closes : goal.returns-clause-closes
returns-clause-closes g c = λ told.
    let file = (g.D.Disks.told c.args.disks.now).content c.args.i in
    let closes = closes-already c.args.at file c.read.new.buf c.in_ok-n.n (c.in_ok-n.ensures.bytes told) c.if-n-eq0.false c.in_ok-n.ensures.count c.if-found-ne-CLOSED.false in
    subst (λ (now : List ℕ). Closes c.args.at file now) (sym (c.read.ensures.read.content told)) closes

pub returns-clause-content : goal.returns-clause-content
returns-clause-content g c = λ told.
    let file = (g.D.Disks.told c.args.disks.now).content c.args.i in
    let closes = closes-already c.args.at file c.read.new.buf c.in_ok-n.n (c.in_ok-n.ensures.bytes told) c.if-n-eq0.false c.in_ok-n.ensures.count c.if-found-ne-CLOSED.false in
    c.read.ensures.read.content told ∙ sym (closed-again c.args.at file closes.closed)
