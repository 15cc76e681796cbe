use Rattle.std.proofs.Common.{◌<◌, ◌∙◌, [], length, sym, IsTrue}
use Rattle.std.proofs.lemmas.Option.{get_or_from_slice_get}
use Rattle.nego_base.specs.Members.{is_in}
use Rattle.nego_base.proofs.Members.{All-member}
use Rattle.nego_expr.proofs.UsableWorks.{left_there, parties-atoms}
use Rattle.nego_expr.proofs.work.Work.parties.Goals as goal

pub index-requires : goal.index-requires
index-requires c =
    All-member (λ n. n < length c.self.inside.parties) c.args.n.0 c.self.inside.left c.self.invariant.left_below
    (left_there c.self.inside c.args.self.now c.args.n.0 c.self.view_is c.requires.left)

pub returns : goal.returns
returns c =
    let there : IsTrue (is_in c.args.n.0 c.self.inside.left) = left_there c.self.inside c.args.self.now c.args.n.0 c.self.view_is c.requires.left in
    rw (← c.self.view_is) (sym (parties-atoms c.self.inside.parties c.self.inside.left c.args.n.0 there
    ∙ get_or_from_slice_get c.self.inside.parties c.args.n.0 c.index.result.now [] c.index.ensures))
