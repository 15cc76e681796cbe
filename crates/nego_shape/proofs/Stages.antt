-- The stages of the search: what is known where nothing is found, and what is told where something is.
use Rattle.std.proofs.Common.{◌≡◌, ℕ, ◌+◌, ◌⊎◌, inl, inr, [], ◌∷◌, Option, Some, None, slice_get, refl, sym, subst, ap, ◌∙◌, arith}
use Rattle.std.proofs.lemmas.Option.{slice_get_within, same_Some}
use Rattle.std.proofs.lemmas.Bool.{cases_lt}
use Rattle.std.proofs.lemmas.List.Elements.{All-contains}
use Rattle.std.specs.List.{Contains}
use Rattle.nego_base.specs.Firsts.{first_among}
use Rattle.nego_base.proofs.OptionLaws.{map_none}
use Rattle.nego_reader.specs.declared.parsed.Parsed.{Parsed}
use Rattle.nego_reader.specs.Content.{Content, content_of}
use Rattle.nego_reader.specs.Rising.{HasRisingWords}
use Rattle.nego_shape.specs.declared.fault.ShapeAnswer.{ShapeAnswer}
use Rattle.nego_shape.specs.declared.fault.ShapeAnswer.TheVariants as answers
use Rattle.nego_shape.specs.declared.fault.ShapeFault.{ShapeFault}
use Rattle.nego_shape.specs.Answer.{Tells, HasCause}
use Rattle.nego_shape.specs.Conditions.{Condition, conditions, HasShape, SomeAgent, FewAgents, FewAtoms, FewOutcomes, NamedOnce, AllDeclared, SomeParty, SomeOutcome, AllBegin, AllEnd, AllSent, NoStranger, LastEnds, PartiesAlone, NoZeroSize, NoLargeSize, NoLargeJoint, NoLargeValue, AllCovered}
use Rattle.nego_shape.specs.Faults.{Spot, counts, inner, faults, first_of, first_fault, IsAhead}
use Rattle.nego_shape.specs.FirstFault.{place, Met, IsFirstBroken, IsFirstFault}
use Rattle.nego_shape.proofs.AllListed.{listed}
use Rattle.nego_shape.proofs.Numbered.{head, head-none}
use Rattle.nego_shape.proofs.Search.{Placed, search_none, search_some, one_of_both}

-- ---- the order

at_place : (condition : Condition) → slice_get conditions (place condition) ≡ Some condition
at_place SomeAgent = refl
at_place FewAgents = refl
at_place FewAtoms = refl
at_place FewOutcomes = refl
at_place NamedOnce = refl
at_place AllDeclared = refl
at_place SomeParty = refl
at_place SomeOutcome = refl
at_place AllBegin = refl
at_place AllEnd = refl
at_place AllSent = refl
at_place NoStranger = refl
at_place LastEnds = refl
at_place PartiesAlone = refl
at_place NoZeroSize = refl
at_place NoLargeSize = refl
at_place NoLargeJoint = refl
at_place NoLargeValue = refl
at_place AllCovered = refl

-- each place is that of one condition
pub only_at : (one other : Condition) → place other ≡ place one → other ≡ one
only_at one other same = same_Some other one (sym (at_place other) ∙ (ap (slice_get conditions) same ∙ at_place one))

-- a content that meets the conditions before the end has the shape
pub met_all : (c : Content) → Met c 19 → HasShape c
met_all c met condition = met condition (slice_get_within conditions (place condition) condition (at_place condition))

-- ---- the stages

counts_placed : Placed 0 counts
counts_placed = (refl, only_at SomeAgent, (refl, only_at FewAgents, (refl, only_at FewAtoms, (refl, only_at FewOutcomes, tt))))

inner_placed : Placed 6 inner
inner_placed = (refl, only_at SomeParty, (refl, only_at SomeOutcome, (refl, only_at AllBegin, (refl, only_at AllEnd, (refl, only_at AllSent, (refl, only_at NoStranger, (refl, only_at LastEnds, (refl, only_at PartiesAlone, (refl, only_at NoZeroSize, (refl, only_at NoLargeSize, (refl, only_at NoLargeJoint, (refl, only_at NoLargeValue, tt))))))))))))

all_placed : Placed 0 conditions
all_placed = (refl, only_at SomeAgent, (refl, only_at FewAgents, (refl, only_at FewAtoms, (refl, only_at FewOutcomes, (refl, only_at NamedOnce, (refl, only_at AllDeclared, (refl, only_at SomeParty, (refl, only_at SomeOutcome, (refl, only_at AllBegin, (refl, only_at AllEnd, (refl, only_at AllSent, (refl, only_at NoStranger, (refl, only_at LastEnds, (refl, only_at PartiesAlone, (refl, only_at NoZeroSize, (refl, only_at NoLargeSize, (refl, only_at NoLargeJoint, (refl, only_at NoLargeValue, (refl, only_at AllCovered, tt)))))))))))))))))))

module _ (p : Parsed) where
  none_before : Met (content_of p) 0
  none_before other less = absurd (omega (arith, less))

  pub counts_met : first_fault counts p ≡ None → Met (content_of p) 4
  counts_met = search_none p (listed p) 0 counts counts_placed none_before

  pub counts_told : (fault : ShapeFault) → first_fault counts p ≡ Some fault → IsFirstFault p fault
  counts_told = search_some p (listed p) 0 counts counts_placed none_before

  pub inner_met : Met (content_of p) 6 → first_fault inner p ≡ None → Met (content_of p) 18
  inner_met = search_none p (listed p) 6 inner inner_placed

  pub inner_told : Met (content_of p) 6 → (fault : ShapeFault) → first_fault inner p ≡ Some fault → IsFirstFault p fault
  inner_told = search_some p (listed p) 6 inner inner_placed

  pub none_first : (condition : Condition) → first_of (faults condition p) ≡ None → faults condition p ≡ []
  none_first condition h = head-none (faults condition p) (map_none (λ (s : Spot). s.fault) (head (faults condition p)) h)

  -- a stage of one condition
  module _ (condition : Condition) (met : Met (content_of p) (place condition)) where
    pub own_met : faults condition p ≡ [] → Met (content_of p) (place condition + 1)
    unfolding first_among
    own_met clear = search_none p (listed p) (place condition) (condition ∷ []) (refl, only_at condition, tt) met (own_none clear)
      where
        own_none : faults condition p ≡ [] → first_fault (condition ∷ []) p ≡ None
        own_none h = rw h refl

    pub own_told : (e : ShapeAnswer) → Tells e (first_of (faults condition p)) → HasCause e p
    unfolding first_among
    own_told answers.Memory h = tt
    own_told (answers.Off fault) h = search_some p (listed p) (place condition) (condition ∷ []) (refl, only_at condition, tt) met fault (own_some h)
      where
        own_some : first_of (faults condition p) ≡ Some fault → first_fault (condition ∷ []) p ≡ Some fault
        own_some k = rw k refl

-- every text has a first fault or the shape
pub either_way : (p : Parsed) → (first : Option ShapeFault) → first_fault conditions p ≡ first → HasShape (content_of p) ⊎ ((fault : ShapeFault) × IsFirstFault p fault)
either_way p None h = inl (met_all (content_of p) (search_none p (listed p) 0 conditions all_placed (none_before p) h))
either_way p (Some fault) h = inr (fault, search_some p (listed p) 0 conditions all_placed (none_before p) fault h)

-- never both
pub never_both : (p : Parsed) (fault : ShapeFault) → HasShape (content_of p) → IsFirstFault p fault → ⊥
never_both p fault shaped first = first.first.broken (shaped first.condition)

-- two conditions that are the first to be broken are one
one_condition : (p : Parsed) (one two : Condition) → IsFirstBroken (content_of p) one → IsFirstBroken (content_of p) two → two ≡ one
one_condition p one two h k = elim (cases_lt (place one) (place two)) [
  | inl less ↦ absurd (h.broken (k.met one less))
  | inr other ↦ elim (cases_lt (place two) (place one)) [
    | inl more ↦ absurd (k.broken (h.met two more))
    | inr same ↦ only_at one two (omega (arith, other, same))
  ]
]

-- two first faults of a text whose words rise are one
pub one_fault : (p : Parsed) → HasRisingWords p → (one two : ShapeFault) → IsFirstFault p one → IsFirstFault p two → one ≡ two
one_fault p rising one two h k =
    let same : k.condition ≡ h.condition = one_condition p h.condition k.condition h.first k.first in
    let spot_one = spot_of one h.number in
    let spot_two = spot_of two k.number in
    let there = subst (λ condition. Contains (faults condition p) spot_two) same k.stands in
    let here = subst (λ condition. Contains (faults condition p) spot_one) (sym same) h.stands in
    ap (λ (s : Spot). s.fault) (one_of_both spot_one spot_two
    (All-contains (λ other. (other ≡ spot_one) ⊎ IsAhead spot_one other) (faults h.condition p) spot_two (h.least rising) there)
    (All-contains (λ other. (other ≡ spot_two) ⊎ IsAhead spot_two other) (faults k.condition p) spot_one (k.least rising) here))
  where
    spot_of : ShapeFault → ℕ → Spot
    spot_of fault number = record { fault = fault; number = number }
