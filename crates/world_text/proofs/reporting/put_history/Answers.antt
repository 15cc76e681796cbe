use Rattle.std.proofs.Common.{◌≡◌, ◌+◌, ◌++◌, length, drop, get_or, sym, ap, ◌∙◌, subst}
use Rattle.std.specs.List.{flat_map}
use Rattle.std.proofs.lemmas.List.{get_or_default}
use Rattle.nego_model.specs.Followed.{occurrences}
use Rattle.nego_model.specs.Joining.{steps_of}
use Rattle.world_text.specs.ReportText.{entry_line}
use Rattle.world_text.proofs.Putting.{entry_at, entry_named, entry_next, line_more}
use Rattle.world_text.proofs.reporting.put_history.Goals as goal

pub put_entry-requires-clause-step : goal.put_entry-requires-clause-step
put_entry-requires-clause-step c =
    let step = get_or c.as_slice-steps.result.now c.loop-i.i (record { 0 = 0 }, record { 0 = 0 }) in
    let at = entry_at c.args.d.now c.as_slice-steps.result.now c.args.w.now.history c.loop-i.i step c.joint_after.result (ap occurrences c.as_slice-steps.ensures ∙ c.history.ensures) c.loop-i-test.true
    (get_or_default c.as_slice-steps.result.now c.loop-i.i (record { 0 = 0 }, record { 0 = 0 }) step c.loop-i-test.true) c.joint_after.ensures in
    (entry_named c.args.d.now c.args.w.now.history c.loop-i.i step c.joint_after.result at c.requires).step

pub put_entry-requires-clause-joint : goal.put_entry-requires-clause-joint
put_entry-requires-clause-joint c =
    let step = get_or c.as_slice-steps.result.now c.loop-i.i (record { 0 = 0 }, record { 0 = 0 }) in
    let at = entry_at c.args.d.now c.as_slice-steps.result.now c.args.w.now.history c.loop-i.i step c.joint_after.result (ap occurrences c.as_slice-steps.ensures ∙ c.history.ensures) c.loop-i-test.true
    (get_or_default c.as_slice-steps.result.now c.loop-i.i (record { 0 = 0 }, record { 0 = 0 }) step c.loop-i-test.true) c.joint_after.ensures in
    (entry_named c.args.d.now c.args.w.now.history c.loop-i.i step c.joint_after.result at c.requires).joint

pub loop-i-preserved : goal.loop-i-preserved
loop-i-preserved c =
    let history = c.args.w.now.history in
    let step = get_or c.as_slice-steps.result.now c.loop-i.i (record { 0 = 0 }, record { 0 = 0 }) in
    let at = entry_at c.args.d.now c.as_slice-steps.result.now history c.loop-i.i step c.joint_after.result (ap occurrences c.as_slice-steps.ensures ∙ c.history.ensures) c.loop-i-test.true
    (get_or_default c.as_slice-steps.result.now c.loop-i.i (record { 0 = 0 }, record { 0 = 0 }) step c.loop-i-test.true) c.joint_after.ensures in
    line_more (entry_line c.args.d.now) (drop c.loop-i.i history) (drop (c.loop-i.i + 1) history) (record { step = (step.0.0, step.1.0); joint = c.joint_after.result }) c.loop-i.text c.put_entry.new.text
    (c.args.text.now ++ flat_map (entry_line c.args.d.now) history) (entry_next c.args.d.now history c.loop-i.i step c.joint_after.result at) c.in_ok-put_entry.ensures c.loop-i.invariant
