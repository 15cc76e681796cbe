use Rattle.std.proofs.Common.{◌<◌, length, arith, sym, subst}
use Rattle.std.proofs.lemmas.Option.{slice_get_read}
use Rattle.std.specs.List.{All}
use Rattle.nego_model.specs.Diagram.{PlainDiagram}
use Rattle.nego_model.proofs.diagrams.Readers.{nexts_part-below}
use Rattle.nego_model.proofs.diagram.Diagram.nexts.Goals as goal

pub returns-clause-in_range : goal.returns-clause-in_range
returns-clause-in_range c =
    let below : c.args.a.0 < length c.self.inside.parts.agents = subst (λ (d : PlainDiagram). c.args.a.0 < length d.agents) (sym c.self.view_is) c.requires.agent in
    let few = c.self.invariant.limits.few_agents in
    let at = slice_get_read c.index.result.now.nexts 16 c.args.a.0 c.index-index-a.result (omega arith) (omega (arith, below, few)) c.index-index-a.is in
    let here = nexts_part-below c.self.inside.parts c.self.invariant c.args.o.0 c.args.a.0 c.index.result.now c.index-index-a.result c.index.ensures below at in
    subst (λ xs. All (λ n. n < length c.args.self.now.atoms) xs) c.index-index-a.is
    (subst (λ (d : PlainDiagram). All (λ n. n < length d.atoms) c.index-index-a.result) c.self.view_is here)
