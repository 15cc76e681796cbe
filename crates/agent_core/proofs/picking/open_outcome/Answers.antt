use Rattle.std.proofs.Common.{◌≡◌, slice_index, IsTrue, sym, subst, ◌∙◌}
use Rattle.std.proofs.lemmas.Option.{get_or_from_slice_get}
use Rattle.nego_base.specs.Members.{is_in}
use Rattle.agent_core.specs.Deciding.{open_outcomes}
use Rattle.agent_core.proofs.Open.{index-member}
use Rattle.agent_core.proofs.picking.open_outcome.Goals as goal

pub returns-clause-open : goal.returns-clause-open
returns-clause-open c =
    let open_ones = open_outcomes c.args.d.now c.args.n.0 c.args.joint in
    let there : slice_index open_ones c.args.k ≡ c.unwrap.result = get_or_from_slice_get open_ones c.args.k c.unwrap.result 0 (sym c.nth_open.ensures ∙ c.unwrap.ensures) in
    subst (λ o. IsTrue (is_in o open_ones)) there (index-member open_ones c.args.k c.requires.place)
