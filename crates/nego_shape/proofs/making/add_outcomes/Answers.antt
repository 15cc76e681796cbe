use Rattle.std.proofs.Common.{◌≡◌, ◌+◌, ◌<◌, [], length, drop, sym, ap, subst, ◌∙◌, arith, length-append}
use Rattle.std.specs.List.{All, Contains}
use Rattle.std.proofs.lemmas.List.{length-map}
use Rattle.std.proofs.lemmas.Result.{err_from_is_err_and}
use Rattle.nego_data.specs.Makers.{MakerState}
use Rattle.nego_model.specs.declared.parts.OutcomePart.{OutcomePart}
use Rattle.nego_model.specs.Parts.{plain_outcome}
use Rattle.nego_reader.specs.declared.parsed.POut.{POut}
use Rattle.nego_reader.specs.Content.{content_of, out_content}
use Rattle.nego_shape.specs.Answer.{Tells}
use Rattle.nego_shape.specs.Faults.{numbered, uncovered, first_of}
use Rattle.nego_shape.specs.Naming.{all_outs, outcome_in, parties_at}
use Rattle.nego_shape.specs.Made.{placed_at, out_numbers}
use Rattle.std.proofs.lemmas.Option.{get_or_from_slice_get}
use Rattle.nego_shape.proofs.Gathering.{made_at}
use Rattle.nego_shape.proofs.PartsMade.{one_more_made}
use Rattle.nego_shape.proofs.Telling.{items_go_on, items_done, items_told}
use Rattle.nego_shape.proofs.Places.{parties_at-below}
use Rattle.nego_shape.proofs.making.add_outcomes.Goals as goal

pub outcome_part-requires-clause-out : goal.outcome_part-requires-clause-out
outcome_part-requires-clause-out c =
    subst (λ out. Contains (all_outs (content_of c.args.p.now)) (placed_at c.args.n (out_content out))) (sym c.index-outs-i.is) (c.requires.outs c.loop-i.i c.index-outs-i.result c.loop-i-test.true)

pub returns-in_err-outcome_part-clause-err : goal.returns-in_err-outcome_part-clause-err
returns-in_err-outcome_part-clause-err c =
    let p = c.args.p.now in
    let base = length c.args.outcomes.now in
    let i = c.loop-i.i in
    let e = c.in_err-outcome_part.field-0.0 in
    let told = err_from_is_err_and c.from_residual.result c.from_residual.ensures.1 in
    rw (told.1, told.2)
    (items_told (uncovered (content_of p)) e c.args.outs.now i (length c.loop-i.outcomes) c.index-outs-i.result (numbered (uncovered (content_of p)) base c.args.outs.now) c.loop-i-test.true c.index-outs-i.is
    (subst (λ o. Tells e (first_of (uncovered (content_of p) o c.index-outs-i.result))) c.len.ensures c.in_err-outcome_part.ensures.err) c.loop-i.invariant.total)

pub loop-i-preserved : goal.loop-i-preserved
loop-i-preserved c =
    let p = c.args.p.now in
    let base = length c.args.outcomes.now in
    let i = c.loop-i.i in
    let put = c.in_ok-push.ensures.ok in
    let long = ap length put in
    let before = c.loop-i.invariant.count in
    record {
      parts = one_more_made (plain_outcome (length p.agents)) (λ (out : POut). outcome_in (content_of p) (placed_at c.args.n (out_content out))) c.args.outcomes.now c.loop-i.outcomes c.push.new.self c.args.outs.now i _ c.index-outs-i.result
          c.loop-i-test.true c.index-outs-i.is c.in_ok-outcome_part.ensures.part put c.loop-i.invariant.parts;
      count = omega (arith, long, before, length-append {A = OutcomePart});
      sizes = ap (λ (m : MakerState). m.sizes) c.outcome_part.ensures.maker ∙ c.loop-i.invariant.sizes;
      parties = ap (λ (m : MakerState). m.parties) c.outcome_part.ensures.maker ∙ c.loop-i.invariant.parties;
      total = (let more : length c.push.new.self ≡ length c.loop-i.outcomes + 1 = omega (arith, long, length-append {A = OutcomePart}) in
          subst (λ o. numbered (uncovered (content_of p)) o (drop (i + 1) c.args.outs.now) ≡ numbered (uncovered (content_of p)) base c.args.outs.now) (sym more)
          (items_go_on (uncovered (content_of p)) c.args.outs.now i (length c.loop-i.outcomes) c.index-outs-i.result (numbered (uncovered (content_of p)) base c.args.outs.now) c.loop-i-test.true c.index-outs-i.is
          (subst (λ o. uncovered (content_of p) o c.index-outs-i.result ≡ []) c.len.ensures c.in_ok-outcome_part.ensures.total) c.loop-i.invariant.total));
    }

pub returns-clause-total : goal.returns-clause-total
returns-clause-total c =
    let p = c.args.p.now in
    let base = length c.args.outcomes.now in
    let i = c.loop-i.i in
    items_done (uncovered (content_of p)) c.args.outs.now i (length c.loop-i.outcomes) (numbered (uncovered (content_of p)) base c.args.outs.now) c.loop-i-test.false c.loop-i.invariant.total

pub outcome_part-requires-clause-numbers : goal.outcome_part-requires-clause-numbers
outcome_part-requires-clause-numbers c =
    made_at (out_numbers (content_of c.args.p.now)) c.args.outs.now c.args.numbers.now.outs c.loop-i.i c.index-outs-i.result c.index.result.now c.requires.numbers c.loop-i-test.true c.index-outs-i.is (sym (get_or_from_slice_get c.args.numbers.now.outs c.loop-i.i c.index.result.now c.index.result.now c.index.ensures))

pub new-maker-requires : goal.new-maker-requires
new-maker-requires c =
    let c0 = content_of c.args.p.now in
    let count : length c.args.sizes.now ≡ length c0.agents = ap length c.requires.sizes ∙ length-map c0.agents (λ agent. agent.size) in
    subst (All (λ a. a < length c.args.sizes.now)) (sym c.requires.parties) (subst (λ n. All (λ a. a < n) (parties_at c0 c.args.n)) (sym count) (parties_at-below c0 c.args.n))
