-- What sets lack, when they grow.
use Rattle.std.proofs.Common.{◌≡◌, inl, inr, ℕ, ◌+◌, ◌<◌, Bool, true, false, not, List, refl, sym, subst, ap, ◌∙◌, arith}
use Rattle.std.specs.List.{range_with_len}
use Rattle.std.proofs.lemmas.Bool.{cases_eq, cases_lt, lt-ltb}
use Rattle.nego_base.specs.Members.{is_in}
use Rattle.nego_base.proofs.Members.{is_in-range_zero}
use Rattle.nego_data.specs.DataSets.{IsNoneBesides, IsLeastBesides}
use Rattle.nego_eval.specs.Rows.{lacked}
use Rattle.nego_eval.proofs.Counts.{count_by-fewer}

-- a greater set lacks fewer numbers
pub lacked-fewer : (set more : List ℕ) (y : ℕ) → ((e : ℕ) → is_in e set ≡ true → is_in e more ≡ true) → y < 1024 → is_in y set ≡ false → is_in y more ≡ true → lacked more < lacked set
unfolding lacked
lacked-fewer set more y grows below out within =
    count_by-fewer (λ e. not (is_in e set)) (λ e. not (is_in e more)) (range_with_len 0 1024) y
    (λ e h. lacks (is_in e set) (is_in e more) (grows e) h)
    (is_in-range_zero y 1024 ∙ lt-ltb y 1024 below) (ap not out) (ap not within)
  where
    lacks : (s t : Bool) → (s ≡ true → t ≡ true) → not t ≡ true → not s ≡ true
    lacks true t h k = sym (ap not (h refl)) ∙ k
    lacks false t h k = refl

-- what is followed of a set, where more is: the least of those that weren't is
pub followed_more : (set old new : List ℕ) (low from y : ℕ) → IsNoneBesides (λ e. is_in e set) (λ e. is_in e old) low from → IsLeastBesides (λ e. is_in e set) (λ e. is_in e old) from 1024 y →
    is_in y new ≡ true → ((e : ℕ) → is_in e old ≡ true → is_in e new ≡ true) → IsNoneBesides (λ e. is_in e set) (λ e. is_in e new) low (y + 1)
followed_more set old new low from y before found here grows e least less is = elim (cases_eq y e) [
  | inl same ↦ subst (λ z. is_in z new ≡ true) same here
  | inr other ↦ grows e (elim (cases_lt e from) [
    | inl sooner ↦ before e least sooner is
    | inr later ↦ found.least e later (omega (arith, less, other)) is
  ])
]

-- all of a set from a number on was followed, where it was up to a later one and none is left from there on
pub followed_all : (set followed : List ℕ) (low from : ℕ) → IsNoneBesides (λ e. is_in e set) (λ e. is_in e followed) low from → IsNoneBesides (λ e. is_in e set) (λ e. is_in e followed) from 1024 →
    IsNoneBesides (λ e. is_in e set) (λ e. is_in e followed) low 1024
followed_all set followed low from before after e least less is = elim (cases_lt e from) [
  | inl sooner ↦ before e least sooner is
  | inr later ↦ after e later less is
]
