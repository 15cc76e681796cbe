use Rattle.std.proofs.Common.{◌∙◌, Err, ap, refl, subst, sym}
use Rattle.std.proofs.lemmas.Result.{err_from_is_err_and}
use Rattle.nego_cli.specs.declared.command.Command.TheVariants as commands
use Rattle.nego_cli.specs.Effect.{effect}
use Rattle.nego_cli.specs.Check.{CheckTurn, CheckText}
use Rattle.nego_cli.specs.Reduce.{ReduceTurn, ReduceText}
use Rattle.nego_cli.specs.Ask.{AskTurn, AskText}
use Rattle.nego_cli.specs.Make.{MakeTurn, MakeText, HasSize}
use Rattle.nego_cli.specs.Replay.{ReplayTurn, ReplayText}
use Rattle.nego_cli.specs.Run.{RunTurn, RunText}
use Rattle.nego_cli.specs.Loading.{SpellsDiagram, IsNoDiagram, IsDiagramOf}
use Rattle.nego_cli.specs.Turn.{TurnOverDiagram, TextOverDiagram}
use Rattle.nego_cli.specs.Dispatch.{IsAnswer}
use Rattle.nego_cli.proofs.AnswersBehind.{command_answer, over_answer, over_none, unread_answer}
use Rattle.nego_cli.proofs.Turns.{answered}
use Rattle.nego_cli.proofs.dispatch.answer.Goals as goal

pub returns-in_ok-load-in-Check-clause-found : goal.returns-in_ok-load-in-Check-clause-found
returns-in_ok-load-in-Check-clause-found g c =
    let source = effect g.S.Source.left g.S.Source.faults c.args.source.now c.load.new.source in
    subst (λ command. IsAnswer command source c.check-in-Check.result) (sym c.in-Check.is)
    (answered commands.Check CheckTurn CheckText (λ reads turn h. h) (λ reads status text h. h) refl source c.in_ok-load-in-Check.field-0 c.check-in-Check.result
    c.in_ok-load-in-Check.ensures.ok c.check-in-Check.ensures.turn c.check-in-Check.ensures.ok c.check-in-Check.ensures.err)

pub returns-in_ok-load-in-Reduce-clause-found : goal.returns-in_ok-load-in-Reduce-clause-found
returns-in_ok-load-in-Reduce-clause-found g c =
    let source = effect g.S.Source.left g.S.Source.faults c.args.source.now c.load-in-Reduce.new.source in
    subst (λ command. IsAnswer command source c.reduce.result) (sym c.in-Reduce.is)
    (answered commands.Reduce ReduceTurn ReduceText (λ reads turn h. h) (λ reads status text h. h) refl source c.in_ok-load-in-Reduce.field-0 c.reduce.result
    c.in_ok-load-in-Reduce.ensures.ok c.reduce.ensures.turn c.reduce.ensures.ok c.reduce.ensures.err)

pub returns-in_ok-load-in-Ask-clause-found : goal.returns-in_ok-load-in-Ask-clause-found
returns-in_ok-load-in-Ask-clause-found g c =
    let source = effect g.S.Source.left g.S.Source.faults c.args.source.now c.load-in-Ask.new.source in
    let values = c.as_slice.result.now in
    let answer : IsAnswer (commands.Ask values) source c.ask.result =
    answered (commands.Ask values) (AskTurn values) (AskText values) (λ reads turn h. h) (λ reads status text h. h) refl source c.in_ok-load-in-Ask.field-0 c.ask.result
    c.in_ok-load-in-Ask.ensures.ok c.ask.ensures.turn c.ask.ensures.ok c.ask.ensures.err in
    subst (λ command. IsAnswer command source c.ask.result) (sym c.in-Ask.is) (subst (λ v. IsAnswer (commands.Ask v) source c.ask.result) c.as_slice.ensures answer)

pub returns-in_ok-d-in-Replay-clause-found : goal.returns-in_ok-d-in-Replay-clause-found
returns-in_ok-d-in-Replay-clause-found g c =
    let source = effect g.S.Source.left g.S.Source.faults c.args.source.now c.replay.new.source in
    subst (λ command. IsAnswer command source c.replay.result) (sym c.in-Replay.is)
    (command_answer commands.Replay (TurnOverDiagram ReplayTurn) (TextOverDiagram ReplayText) 2 (λ reads turn h. h) (λ reads status text h. h) refl source c.replay.result
    (over_answer SpellsDiagram IsDiagramOf IsNoDiagram ReplayTurn ReplayText (λ text d h. h.0) 1 g.S.Source.left g.S.Source.faults c.args.source.now c.load-in-Replay.new.source c.replay.new.source
    c.in_ok-d-in-Replay.d c.replay.result c.in_ok-d-in-Replay.ensures.ok c.replay.ensures.found))

pub returns-in_err-d-in-Replay-clause-found : goal.returns-in_err-d-in-Replay-clause-found
returns-in_err-d-in-Replay-clause-found g c =
    let source = effect g.S.Source.left g.S.Source.faults c.args.source.now c.load-in-Replay.new.source in
    let why = c.in_err-d-in-Replay.field-0.0 in
    let p = err_from_is_err_and c.from_residual-in_err-d-in-Replay.result c.from_residual-in_err-d-in-Replay.ensures.1 in
    let answered : IsAnswer commands.Replay source (Err why) =
    command_answer commands.Replay (TurnOverDiagram ReplayTurn) (TextOverDiagram ReplayText) 2 (λ reads turn h. h) (λ reads status text h. h) refl source (Err why)
    (over_none SpellsDiagram IsDiagramOf IsNoDiagram ReplayTurn ReplayText 1 source why c.in_err-d-in-Replay.ensures.err) in
    subst (λ command. IsAnswer command source c.from_residual-in_err-d-in-Replay.result) (sym c.in-Replay.is) (subst (IsAnswer commands.Replay source) (sym (p.1 ∙ ap Err p.2)) answered)

pub returns-in_ok-d-in-Run-clause-found : goal.returns-in_ok-d-in-Run-clause-found
returns-in_ok-d-in-Run-clause-found g c =
    let source = effect g.S.Source.left g.S.Source.faults c.args.source.now c.run.new.source in
    let values = c.as_slice-in-Run.result.now in
    let answered : IsAnswer (commands.Run values) source c.run.result =
    command_answer (commands.Run values) (TurnOverDiagram (RunTurn values)) (TextOverDiagram (RunText values)) 2 (λ reads turn h. h) (λ reads status text h. h) refl source c.run.result
    (over_answer SpellsDiagram IsDiagramOf IsNoDiagram (RunTurn values) (RunText values) (λ text d h. h.0) 1 g.S.Source.left g.S.Source.faults c.args.source.now c.load-in-Run.new.source c.run.new.source
    c.in_ok-d-in-Run.d c.run.result c.in_ok-d-in-Run.ensures.ok c.run.ensures.found) in
    subst (λ command. IsAnswer command source c.run.result) (sym c.in-Run.is) (subst (λ v. IsAnswer (commands.Run v) source c.run.result) c.as_slice-in-Run.ensures answered)

pub returns-in_err-d-in-Run-clause-found : goal.returns-in_err-d-in-Run-clause-found
returns-in_err-d-in-Run-clause-found g c =
    let source = effect g.S.Source.left g.S.Source.faults c.args.source.now c.load-in-Run.new.source in
    let values = c.in-Run.values in
    let why = c.in_err-d-in-Run.field-0.0 in
    let p = err_from_is_err_and c.from_residual-in_err-d-in-Run.result c.from_residual-in_err-d-in-Run.ensures.1 in
    let answered : IsAnswer (commands.Run values) source (Err why) =
    command_answer (commands.Run values) (TurnOverDiagram (RunTurn values)) (TextOverDiagram (RunText values)) 2 (λ reads turn h. h) (λ reads status text h. h) refl source (Err why)
    (over_none SpellsDiagram IsDiagramOf IsNoDiagram (RunTurn values) (RunText values) 1 source why c.in_err-d-in-Run.ensures.err) in
    subst (λ command. IsAnswer command source c.from_residual-in_err-d-in-Run.result) (sym c.in-Run.is) (subst (IsAnswer (commands.Run values) source) (sym (p.1 ∙ ap Err p.2)) answered)

pub returns-in-Make-clause-found : goal.returns-in-Make-clause-found
returns-in-Make-clause-found g c =
    let source = effect g.S.Source.left g.S.Source.faults c.args.source.now c.args.source.now in
    let n = c.in-Make.n in
    subst (λ command. IsAnswer command source c.make.result) (sym c.in-Make.is)
    (unread_answer (commands.Make n) MakeTurn (MakeText n) (λ reads turn h. h) (λ reads status text h. h) refl g.S.Source.left g.S.Source.faults c.args.source.now c.make.result
    c.make.ensures.turn c.make.ensures.ok c.make.ensures.err)

pub make-requires-clause-some : goal.make-requires-clause-some
make-requires-clause-some g c = (subst HasSize c.in-Make.is c.requires).0

pub make-requires-clause-few : goal.make-requires-clause-few
make-requires-clause-few g c = (subst HasSize c.in-Make.is c.requires).1
