use Rattle.std.proofs.Common.{◌≡◌, ◌+◌, ◌<◌, List, [], ◌∷◌, length, take, sym, ap, subst, ◌∙◌, arith}
use Rattle.std.proofs.lemmas.List.{take_all}
use Rattle.std.proofs.lemmas.List.Elements.{All-weaker}
use Rattle.std.proofs.lemmas.Result.{err_from_is_err_and}
use Rattle.nego_base.specs.declared.ids.AgentId.{AgentId}
use Rattle.nego_base.specs.declared.line.Word.{Word}
use Rattle.nego_base.specs.Members.{is_in}
use Rattle.nego_reader.specs.Content.{content_of, texts}
use Rattle.nego_shape.specs.Faults.{others}
use Rattle.nego_shape.specs.Answer.{Tells}
use Rattle.nego_shape.specs.Naming.{places_of, agent_names}
use Rattle.nego_shape.specs.Undeclared.{first_unknown}
use Rattle.nego_shape.proofs.DeclaredParts.{none_all, none_more, told_here, others_each, all_declared}
use Rattle.nego_shape.proofs.Gathering.{one_more_place, set_is_parties}
use Rattle.nego_shape.proofs.ShapedDiagrams.{agents-count}
use Rattle.nego_shape.proofs.numbers.party_set.Goals as goal

pub with-set-requires : goal.with-set-requires
with-set-requires c = c.in_ok-declared_agent.ensures.below

pub loop-name-preserved : goal.loop-name-preserved
loop-name-preserved c =
    let names = agent_names (content_of c.args.p.now) in
    let word = c.name-item.result in
    record {
      rising = c.with-set.ensures.rising;
      members = λ a. ap (is_in a) c.with-set.ensures.value
          ∙ one_more_place names c.args.names.now c.loop-name.name-index word c.loop-name.set c.in_ok-declared_agent.field-0.0 c.loop-name-test.true c.name-item.is (ap (λ (a : AgentId). a.0) c.in_ok-declared_agent.ensures.agent) c.loop-name.invariant.members a;
      declared = none_more (λ (w : Word). others names (w ∷ [])) c.args.names.now c.loop-name.name-index c.loop-name.invariant.declared word c.loop-name-test.true c.name-item.is c.in_ok-declared_agent.ensures.declared;
    }

pub returns-in_err-declared_agent-clause-declared : goal.returns-in_err-declared_agent-clause-declared
returns-in_err-declared_agent-clause-declared c =
    let names = agent_names (content_of c.args.p.now) in
    let e = c.in_err-declared_agent.field-0.0 in
    let told = err_from_is_err_and c.from_residual.result c.from_residual.ensures.1 in
    rw (told.1, told.2)
    (subst (λ ws. Tells e (first_unknown ws)) (sym (others_each names c.args.names.now))
    (told_here (λ (w : Word). others names (w ∷ [])) c.args.names.now c.loop-name.name-index c.loop-name.invariant.declared c.name-item.result c.loop-name-test.true c.name-item.is e c.in_err-declared_agent.ensures.declared))

pub returns-clause-declared : goal.returns-clause-declared
returns-clause-declared c =
    let names = agent_names (content_of c.args.p.now) in
    others_each names c.args.names.now ∙ none_all (λ (w : Word). others names (w ∷ [])) c.args.names.now c.loop-name.name-index c.loop-name.invariant.declared c.loop-name-test.false

pub returns-clause-numbers : goal.returns-clause-numbers
returns-clause-numbers c =
    let c0 = content_of c.args.p.now in
    let words = c.args.names.now in
    let all : take c.loop-name.name-index words ≡ words = take_all c.loop-name.name-index words c.loop-name-test.false in
    let rising = c.loop-name.invariant.rising in
    set_is_parties c0 (16 + length c0.agents) (texts words) c.loop-name.set (record { rising = rising.rising; below = All-weaker (λ a. a < 16) (λ a. a < 16 + length c0.agents) (λ a h. omega (arith, h)) c.loop-name.set rising.below }) (omega arith) (agents-count c0)
    (all_declared (agent_names c0) words (returns-clause-declared c))
    (λ a. c.loop-name.invariant.members a ∙ ap (λ (ws : List Word). is_in a (places_of (texts ws) (agent_names c0))) all)
