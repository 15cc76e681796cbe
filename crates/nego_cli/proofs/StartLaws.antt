-- Start values are told in one way: as joint data, or as a fault.
use Rattle.std.proofs.Common.{◌≡◌, ◌∙◌, inl, inr, ℕ, ◌<◌, ◌≤◌, List, length, Result, Ok, Err, sym, ap, subst, slice_index, arith}
use Rattle.nego_base.specs.declared.ids.AgentId.{AgentId}
use Rattle.nego_model.specs.Diagram.{PlainDiagram, IsDiagram}
use Rattle.nego_cli.specs.declared.failure.StartFault.{StartFault}
use Rattle.nego_cli.specs.declared.failure.StartFault.TheVariants.{StartCount, StartTooLarge}
use Rattle.nego_cli.specs.declared.failure.Refusal.{Refusal}
use Rattle.nego_cli.specs.declared.failure.Refusal.TheVariants.{NoStart}
use Rattle.nego_cli.specs.Refusals.{IsNamed, IsAgentNamed}
use Rattle.nego_cli.specs.Starts.{IsFirstPast, StartsAt, CanStart, CannotStart}
use Rattle.nego_cli.proofs.Undetermined.{neither_below, undetermined_apart, undetermined_once, undetermined_named}

module _ (d : PlainDiagram) (values : List ℕ) where
  -- no agent before the first whose value is too large is one
  not_before : (a b : ℕ) → IsFirstPast d values a → IsFirstPast d values b → a < b → ⊥
  not_before a b first other below =
      let low : slice_index values a < slice_index d.sizes a = other.before a below in
      let high : slice_index d.sizes a ≤ slice_index values a = first.past in
      let never : ⊥ = omega (arith, low, high) in
      never

  -- values are one start
  pub same_start : (start other : ℕ) → StartsAt d values (Ok start) → StartsAt d values (Ok other) → start ≡ other
  same_start start other h k = h.2 ∙ sym k.2

  module _ (diagram : IsDiagram d) where
    -- no value of joint data is too large
    not_past : (start : ℕ) (a : AgentId) → StartsAt d values (Ok start) → StartsAt d values (Err (StartTooLarge a)) → ⊥
    not_past start a h k =
        let there : a.0 < length d.sizes = subst (λ n. a.0 < n) (sym diagram.sized) k.1.there in
        let low : slice_index values a.0 < slice_index d.sizes a.0 = h.1 a.0 there in
        let high : slice_index d.sizes a.0 ≤ slice_index values a.0 = k.1.past in
        let never : ⊥ = omega (arith, low, high) in
        never

    one_start : (r s : Result ℕ StartFault) → StartsAt d values r → StartsAt d values s → r ≡ s
    one_start (Ok m) (Ok n) h k = ap Ok (h.2 ∙ sym k.2)
    one_start (Ok m) (Err (StartCount given)) h k = absurd (k.0 h.0)
    one_start (Ok m) (Err (StartTooLarge a)) h k = absurd (not_past m a h k)
    one_start (Err (StartCount given)) (Ok n) h k = absurd (h.0 k.0)
    one_start (Err (StartCount given)) (Err (StartCount other)) h k = ap (λ n. Err (StartCount n)) (h.1 ∙ sym k.1)
    one_start (Err (StartCount given)) (Err (StartTooLarge a)) h k = absurd (h.0 k.0)
    one_start (Err (StartTooLarge a)) (Ok n) h k = absurd (not_past n a k h)
    one_start (Err (StartTooLarge a)) (Err (StartCount given)) h k = absurd (k.0 h.0)
    one_start (Err (StartTooLarge a)) (Err (StartTooLarge b)) h k =
        ap (λ (n : ℕ). Err (StartTooLarge (record { 0 = n }))) (neither_below a.0 b.0 (not_before a.0 b.0 h.1 k.1) (not_before b.0 a.0 k.1 h.1))

    -- agents that can start have no reason why they can't
    pub can_or_cannot : (why : Refusal) → CanStart d values → CannotStart d values why → ⊥
    can_or_cannot why can (inl h) = undetermined_apart d why diagram can.0 h
    can_or_cannot why can (inr (determined, (fault, is, none))) =
        let never : Ok can.1.0 ≡ Err fault = one_start (Ok can.1.0) (Err fault) can.1.1 none in
        cc

    same_fault : (fault other : StartFault) → StartsAt d values (Err fault) → StartsAt d values (Err other) → fault ≡ other
    same_fault fault other h k = let same : ◌≡◌ {A = Result ℕ StartFault} (Err fault) (Err other) = one_start (Err fault) (Err other) h k in cc

    -- the reason why they can't is one
    pub cannot_once : (why other : Refusal) → CannotStart d values why → CannotStart d values other → why ≡ other
    cannot_once why other (inl h) (inl k) = undetermined_once d why other h k
    cannot_once why other (inl h) (inr k) = absurd (undetermined_apart d why diagram k.0 h)
    cannot_once why other (inr h) (inl k) = absurd (undetermined_apart d other diagram h.0 k)
    cannot_once why other (inr (determined, (fault, is, none))) (inr (determined', (fault', is', none'))) = is ∙ (ap (NoStart d) (same_fault fault fault' none none') ∙ sym is')

  named_there : (fault : StartFault) → StartsAt d values (Err fault) → IsAgentNamed d fault
  named_there (StartCount given) h = tt
  named_there (StartTooLarge a) h = h.1.there

  -- what it names is there
  pub cannot_named : (why : Refusal) → CannotStart d values why → IsNamed why
  cannot_named why (inl h) = undetermined_named d why h
  cannot_named why (inr (determined, (fault, is, none))) = subst IsNamed (sym is) (named_there fault none)
