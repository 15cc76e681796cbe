use Rattle.std.proofs.Common.{◌≡◌, ◌<◌, ◌≢◌, length, map, None, refl, sym, ap, ◌∙◌, below_more, arith, get_or-set_other, get_or-set_same}
use Rattle.std.proofs.lemmas.List.{ext_get_or, length-set, length-map}
use Rattle.std.proofs.Math.ListN.{get_or-map}
use Rattle.std.specs.Option.{option_map}
use Rattle.agent_msg.specs.Messages.{ready_message}
use Rattle.agent_core.specs.Deciding.{unless_from}
use Rattle.agent_core.proofs.deciding.held_without.Goals as goal

pub loop-p-init : goal.loop-p-init
loop-p-init c = record { long = refl; done = λ k h. absurd (omega (arith, h)) }

pub loop-p-preserved : goal.loop-p-preserved
loop-p-preserved c = record {
  long = length-set c.loop-p.left c.loop-p.p c.unless_from.result ∙ c.loop-p.invariant.long;
  done = below_more _ _
      (λ k h. let ne : k ≢ c.loop-p.p = omega arith in ap (option_map ready_message) (get_or-set_other c.loop-p.left c.loop-p.p k c.unless_from.result None ne) ∙ c.loop-p.invariant.done k h)
      (let lt : c.loop-p.p < length c.loop-p.left = omega (arith, c.loop-p.invariant.long, c.loop-p-test.true) in ap (option_map ready_message) (get_or-set_same c.loop-p.left c.loop-p.p c.unless_from.result None lt) ∙ c.unless_from.ensures);
}

pub returns : goal.returns
returns c =
    let seen = option_map ready_message in
    let unless = unless_from c.args.agents in
    let sixteen : length c.args.held.now ≡ 16 = omega arith in
    let long : length (map seen c.loop-p.left) ≡ length (map unless (map seen c.args.held.now)) =
    length-map c.loop-p.left seen ∙ (c.loop-p.invariant.long ∙ sym (length-map (map seen c.args.held.now) unless ∙ (length-map c.args.held.now seen ∙ sixteen))) in
    ext_get_or None (map seen c.loop-p.left) (map unless (map seen c.args.held.now)) long (λ i below.
    let lt : i < c.loop-p.p = omega (arith, below, length-map c.loop-p.left seen, c.loop-p.invariant.long, c.loop-p-test.false) in
    get_or-map seen c.loop-p.left i None ∙ (c.loop-p.invariant.done i lt ∙ sym (get_or-map unless (map seen c.args.held.now) i None ∙ ap unless (get_or-map seen c.args.held.now i None))))
