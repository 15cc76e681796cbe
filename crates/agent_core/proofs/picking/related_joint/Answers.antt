use Rattle.std.proofs.Common.{◌≡◌, [], Some, slice_index_or, slice_get, IsTrue, sym, ap, subst, ◌∙◌}
use Rattle.std.proofs.lemmas.Option.{get_or_from_slice_get}
use Rattle.nego_base.specs.Members.{is_in}
use Rattle.agent_core.specs.Deciding.{related_by}
use Rattle.agent_core.proofs.Open.{index-member}
use Rattle.agent_core.proofs.picking.related_joint.Goals as goal

pub returns-clause-related : goal.returns-clause-related
returns-clause-related c =
    let row = related_by c.args.d.now c.args.o.0 c.args.joint in
    let at : slice_get row c.args.k ≡ Some c.unwrap.result = ap (λ t. slice_get (slice_index_or t c.args.joint []) c.args.k) (sym c.table-table.ensures.value) ∙ (sym c.nth.ensures.value ∙ c.unwrap.ensures) in
    subst (λ e. IsTrue (is_in e row)) (get_or_from_slice_get row c.args.k c.unwrap.result 0 at) (index-member row c.args.k c.requires.place)
