use Rattle.std.proofs.Common.{◌≡◌, ◌∙◌, length, map, ap, sym}
use Rattle.std.proofs.lemmas.List.{length-map}
use Rattle.nego_expr.specs.Work.{outcomes_at}
use Rattle.nego_expr.specs.Finish.{finals_of}
use Rattle.nego_expr.specs.WorkView.{plain_outcome}
use Rattle.nego_expr.proofs.Finished.{names_as_many}
use Rattle.nego_expr.proofs.Finishing.{all_at_last}
use Rattle.nego_expr.proofs.work.Work.finish.Goals as goal
use Rattle.nego_expr.proofs.work.Work.finish.Goals.{After-as_slice}

-- the outcomes of the last atom are those that the fields have
outcomes_seen : (c : After-as_slice) → outcomes_at c.args.self.plain c.args.self.plain.last ≡ map plain_outcome c.as_slice.result.now
outcomes_seen c =
    all_at_last c.args.self.plain c.requires.work c.requires.one ∙ ap (λ w. w.plain.outcomes) (sym c.self.view_is) ∙ ap (map plain_outcome) (sym c.as_slice.ensures)

pub finals_of-requires : goal.finals_of-requires
finals_of-requires c =
    let work = c.args.self.plain in
    ap (λ w. length w.plain.names) c.self.view_is ∙ names_as_many work c.requires.work ∙ ap length (outcomes_seen c) ∙ length-map c.as_slice.result.now plain_outcome

pub returns : goal.returns
returns c =
    let before = (goal.at.returns c).After-as_slice in
    let work = c.args.self.plain in
    ap (λ finals. record { nodes = c.self.inside.nodes.nodes; finals = finals }) (c.in_ok-finals.ensures ∙ ap (finals_of c.self.inside.names) (sym (outcomes_seen before)))
    ∙ ap (λ w. record { nodes = w.plain.nodes; finals = finals_of w.plain.names (outcomes_at work work.last) }) c.self.view_is
