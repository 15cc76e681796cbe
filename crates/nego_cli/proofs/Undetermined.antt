-- Why a diagram isn't deterministic: the first place with two next atoms.
use Rattle.std.proofs.Common.{◌≡◌, ◌∙◌, ⊎_elim, inl, inr, ℕ, ◌<◌, ◌≤◌, length, sym, ap, ap₂, subst, arith}
use Rattle.std.proofs.lemmas.Bool.{cases_lt}
use Rattle.nego_base.specs.declared.ids.AgentId.{AgentId}
use Rattle.nego_base.specs.declared.ids.OutcomeId.{OutcomeId}
use Rattle.nego_model.specs.Negotiation.{IsDeterministic}
use Rattle.nego_model.specs.Diagram.{PlainDiagram, IsDiagram, negotiation_of, nexts_of}
use Rattle.nego_model.specs.Undetermined.{IsFirstUndetermined}
use Rattle.nego_model.proofs.diagrams.Undetermined.{undetermined}
use Rattle.nego_reduce.specs.Order.{IsPairBelow}
use Rattle.nego_cli.specs.declared.failure.Refusal.{Refusal}
use Rattle.nego_cli.specs.declared.failure.Refusal.TheVariants as refusals
use Rattle.nego_cli.specs.Reduce.{IsUndetermined}
use Rattle.nego_cli.specs.Refusals.{IsNamed}

-- it isn't behind another such place
not_behind : (d : PlainDiagram) (o a p b : ℕ) → IsFirstUndetermined d o a → IsFirstUndetermined d p b → IsPairBelow o a p b → ⊥
not_behind d o a p b first other below =
    let few : length (nexts_of d o a) ≤ 1 = other.least o a first.outcome first.agent below in
    let two : 1 < length (nexts_of d o a) = first.two in
    let no_more : ⊥ = omega (arith, few, two) in
    no_more

-- numbers of which neither is below the other are the same
pub neither_below : (m n : ℕ) → (m < n → ⊥) → (n < m → ⊥) → m ≡ n
neither_below m n low high =
    ⊎_elim (λ l. absurd (low l)) (λ from. ⊎_elim (λ l. absurd (high l)) (λ to. omega (arith, from, to)) (cases_lt n m)) (cases_lt m n)

-- it is one
first_once : (d : PlainDiagram) (o a p b : ℕ) → IsFirstUndetermined d o a → IsFirstUndetermined d p b → (o ≡ p) × (a ≡ b)
first_once d o a p b first other =
    let outcome : o ≡ p = neither_below o p (λ l. not_behind d o a p b first other (inl l)) (λ l. not_behind d p b o a other first (inl l)) in
    (outcome, neither_below a b (λ l. not_behind d o a p b first other (inr (outcome, l))) (λ l. not_behind d p b o a other first (inr (sym outcome, l))))

undetermined_same : (d : PlainDiagram) (o p : OutcomeId) (a b : AgentId) → (o.0 ≡ p.0) × (a.0 ≡ b.0) → refusals.Undetermined d o a ≡ refusals.Undetermined d p b
undetermined_same d o p a b same =
    let outcome : o ≡ p = ap (λ (n : ℕ). record { 0 = n }) same.0 in
    let agent : a ≡ b = ap (λ (n : ℕ). record { 0 = n }) same.1 in
    ap₂ (refusals.Undetermined d) outcome agent

-- why a diagram isn't deterministic is one
pub undetermined_once : (d : PlainDiagram) (why other : Refusal) → IsUndetermined d why → IsUndetermined d other → why ≡ other
undetermined_once d why other (o, a, is, first) (p, b, is', first') = is ∙ (undetermined_same d o p a b (first_once d o.0 a.0 p.0 b.0 first first') ∙ sym is')

pub undetermined_named : (d : PlainDiagram) (why : Refusal) → IsUndetermined d why → IsNamed why
undetermined_named d why (o, a, is, first) = subst IsNamed (sym is) (first.outcome, first.agent)

-- a deterministic diagram has no such place
pub undetermined_apart : (d : PlainDiagram) (why : Refusal) → IsDiagram d → IsDeterministic (negotiation_of d) → IsUndetermined d why → ⊥
undetermined_apart d why diagram determined (o, a, is, first) = undetermined d diagram o.0 a.0 first.outcome first.two determined
