use Rattle.std.proofs.Common.{◌≡◌, ◌<◌, ◌≤◌, ◌+◌, [], ◌∷◌, ◌++◌, length, map, take, slice_index_or, refl, sym, ap, subst, ◌∙◌, arith}
use Rattle.std.proofs.lemmas.Bool.{false≢true}
use Rattle.std.proofs.lemmas.List.{take_more, take_all, length-map, length-take-le}
use Rattle.std.proofs.lemmas.List.{get_or-map}
use Rattle.std.proofs.lemmas.Option.{slice_get_read, slice_get-map}
use Rattle.std.specs.Option.{option_map}
use Rattle.agent_msg.specs.Records.{entry}
use Rattle.agent_core.specs.Agents.{left_by, recorded, IsStep, IsValid}
use Rattle.agent_core.proofs.Valid.{left_by-push, left_by-records, valid_left}
use Rattle.agent_core.proofs.agent.Agent.load.Goals as goal

pub loop-i-init : goal.loop-i-init
loop-i-init c = record { left = c.in_ok-agent.ensures.agent; spare = omega (arith, c.in_ok-agent.ensures.spare); valid = c.in_ok-agent.ensures.valid }

pub is_step-requires : goal.is_step-requires
is_step-requires c = record { valid = c.loop-i.invariant.valid }

pub returns-then-not-is_step-clause-err : goal.returns-then-not-is_step-clause-err
returns-then-not-is_step-clause-err c =
    let journal = c.args.journal.now in
    let r = c.index-journal-i.result in
    let front = take c.loop-i.i (map entry journal) in
    let at = slice_get_read journal (length journal) c.loop-i.i r refl c.loop-i-test.true c.index-journal-i.is in
    record {
      wrong = entry r;
      there = slice_get-map entry journal c.loop-i.i ∙ ap (option_map entry) at;
      before = valid_left c.args.d.now c.args.id.0 c.args.start front (subst (λ g. IsValid c.args.d.now g) c.loop-i.invariant.left c.loop-i.invariant.valid);
      no_step = λ s. false≢true (sym c.if-not-is_step.true ∙ c.is_step.ensures.1 (subst (λ g. IsStep c.args.d.now g (entry r)) (sym c.loop-i.invariant.left) s));
    }

pub record-requires-clause-valid : goal.record-requires-clause-valid
record-requires-clause-valid c = c.loop-i.invariant.valid

pub record-requires-clause-room : goal.record-requires-clause-room
record-requires-clause-room c = omega (arith, c.loop-i.invariant.spare, c.loop-i-test.true)

pub record-requires-clause-few : goal.record-requires-clause-few
record-requires-clause-few c =
    let journal = c.args.journal.now in
    let front = take c.loop-i.i (map entry journal) in
    let le : c.loop-i.i ≤ length (map entry journal) = omega (arith, c.loop-i-test.true, length-map journal entry) in
    let count = ap (λ g. length g.records) c.loop-i.invariant.left ∙ (ap length (left_by-records c.args.d.now c.args.id.0 c.args.start front) ∙ length-take-le c.loop-i.i (map entry journal) le) in
    omega (arith, count, c.loop-i-test.true, c.requires.few)

pub loop-i-preserved : goal.loop-i-preserved
loop-i-preserved c =
    let journal = c.args.journal.now in
    let r = c.index-journal-i.result in
    let front = take c.loop-i.i (map entry journal) in
    let lt : c.loop-i.i < length (map entry journal) = omega (arith, c.loop-i-test.true, length-map journal entry) in
    let item : slice_index_or (map entry journal) c.loop-i.i (entry r) ≡ entry r = get_or-map entry journal c.loop-i.i r (entry r) c.loop-i-test.true ∙ ap entry (sym c.index-journal-i.is) in
    let more : take (c.loop-i.i + 1) (map entry journal) ≡ front ++ entry r ∷ [] = take_more (map entry journal) c.loop-i.i (entry r) lt ∙ ap (λ x. front ++ x ∷ []) item in
    record {
      left = c.record.ensures.agent
          ∙ (ap (λ g. recorded c.args.d.now g (entry r)) c.loop-i.invariant.left
          ∙ (sym (left_by-push c.args.d.now c.args.id.0 c.args.start front (entry r)) ∙ ap (left_by c.args.d.now c.args.id.0 c.args.start) (sym more)));
      spare = omega (arith, c.record.ensures.spare, c.loop-i.invariant.spare, c.loop-i-test.true);
      valid = c.record.ensures.valid;
    }

pub returns-clause-agent : goal.returns-clause-agent
returns-clause-agent c =
    let journal = c.args.journal.now in
    let past : length (map entry journal) ≤ c.loop-i.i = omega (arith, c.loop-i-test.false, length-map journal entry) in
    c.loop-i.invariant.left ∙ ap (left_by c.args.d.now c.args.id.0 c.args.start) (take_all c.loop-i.i (map entry journal) past)

pub returns-clause-valid : goal.returns-clause-valid
returns-clause-valid c = c.loop-i.invariant.valid
