-- The stages of the search over numbers, one behind the other.
use Rattle.std.proofs.Common.{◌≡◌, List, [], ◌∷◌, ◌++◌, Option, Some, None, refl, sym, ap, ◌∙◌}
use Rattle.std.specs.Option.{option_or}
use Rattle.nego_base.specs.Firsts.{first_among}
use Rattle.nego_reader.specs.declared.parsed.Parsed.{Parsed}
use Rattle.nego_shape.specs.declared.fault.ShapeFault.{ShapeFault}
use Rattle.nego_shape.specs.declared.checks.outcomes.Rule.TheVariants as rules
use Rattle.nego_shape.specs.Rules.{condition_by}
use Rattle.nego_shape.specs.Faults.{faults, first_of, first_fault, inner}
use Rattle.nego_shape.specs.Conditions.{Condition, SomeParty, SomeOutcome, AllBegin, AllEnd, AllSent, NoStranger, LastEnds, PartiesAlone, NoZeroSize, NoLargeSize, NoLargeJoint, NoLargeValue}

or_together : {A : Type 0} (one two three : Option A) → option_or (option_or one two) three ≡ option_or one (option_or two three)
or_together None two three = refl
or_together (Some x) two three = refl

module _ (p : Parsed) where
  stages : (xs ys : List Condition) → first_fault (xs ++ ys) p ≡ option_or (first_fault xs p) (first_fault ys p)
  unfolding first_among
  stages [] ys = refl
  stages (x ∷ xs) ys = ap (option_or (first_of (faults x p))) (stages xs ys) ∙ sym (or_together (first_of (faults x p)) (first_fault xs p) (first_fault ys p))

  abbrev pub parties : List Condition
  parties = SomeParty ∷ SomeOutcome ∷ AllBegin ∷ AllEnd ∷ []

  abbrev pub outcomes : List Condition
  outcomes = AllSent ∷ NoStranger ∷ LastEnds ∷ PartiesAlone ∷ []

  abbrev pub sizes : List Condition
  sizes = NoZeroSize ∷ NoLargeSize ∷ NoLargeJoint ∷ []

  -- the search by rules is that by their conditions
  pub by_rules : first_among (λ rule. first_of (faults (condition_by rule) p)) (rules.AllSent ∷ rules.NoStranger ∷ rules.LastEnds ∷ rules.PartiesAlone ∷ []) ≡ first_fault outcomes p
  unfolding first_among
  by_rules = refl

  last_one : first_fault (NoLargeValue ∷ []) p ≡ first_of (faults NoLargeValue p)
  unfolding first_among
  last_one = or_none_behind (first_of (faults NoLargeValue p))
    where
      or_none_behind : (o : Option ShapeFault) → option_or o None ≡ o
      or_none_behind None = refl
      or_none_behind (Some x) = refl

  by_stages : first_fault inner p ≡ option_or (first_fault parties p) (option_or (first_fault outcomes p) (option_or (first_fault sizes p) (first_of (faults NoLargeValue p))))
  by_stages =
      stages parties (outcomes ++ sizes ++ NoLargeValue ∷ [])
      ∙ ap (option_or (first_fault parties p)) (stages outcomes (sizes ++ NoLargeValue ∷ [])
      ∙ ap (option_or (first_fault outcomes p)) (stages sizes (NoLargeValue ∷ [])
      ∙ ap (option_or (first_fault sizes p)) last_one))

  module _ (fault : ShapeFault) where
    pub in_parties : first_fault parties p ≡ Some fault → Some fault ≡ first_fault inner p
    in_parties h = sym (by_stages ∙ found)
      where
        found : option_or (first_fault parties p) (option_or (first_fault outcomes p) (option_or (first_fault sizes p) (first_of (faults NoLargeValue p)))) ≡ Some fault
        found = rw h refl

    pub in_outcomes : first_fault parties p ≡ None → first_fault outcomes p ≡ Some fault → Some fault ≡ first_fault inner p
    in_outcomes h k = sym (by_stages ∙ found)
      where
        found : option_or (first_fault parties p) (option_or (first_fault outcomes p) (option_or (first_fault sizes p) (first_of (faults NoLargeValue p)))) ≡ Some fault
        found = rw (h, k) refl

    pub in_sizes : first_fault parties p ≡ None → first_fault outcomes p ≡ None → first_fault sizes p ≡ Some fault → Some fault ≡ first_fault inner p
    in_sizes h k l = sym (by_stages ∙ found)
      where
        found : option_or (first_fault parties p) (option_or (first_fault outcomes p) (option_or (first_fault sizes p) (first_of (faults NoLargeValue p)))) ≡ Some fault
        found = rw (h, k, l) refl

  pub in_values : first_fault parties p ≡ None → first_fault outcomes p ≡ None → first_fault sizes p ≡ None → (found : Option ShapeFault) → found ≡ first_of (faults NoLargeValue p) → found ≡ first_fault inner p
  in_values h k l found is = is ∙ sym (by_stages ∙ none)
    where
      none : option_or (first_fault parties p) (option_or (first_fault outcomes p) (option_or (first_fault sizes p) (first_of (faults NoLargeValue p)))) ≡ first_of (faults NoLargeValue p)
      none = rw (h, k, l) refl
