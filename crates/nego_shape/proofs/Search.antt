-- The search for the first fault, condition by condition.
use Rattle.std.proofs.Common.{◌≡◌, ◌⊎◌, inl, inr, ℕ, ◌+◌, List, [], ◌∷◌, length, Some, None, refl, sym, subst, ◌∙◌, arith}
use Rattle.std.proofs.lemmas.Bool.{cases_lt}
use Rattle.std.proofs.lemmas.Option.{none-some, same_Some}
use Rattle.std.proofs.lemmas.List.Elements.{All-cons, All-weaker}
use Rattle.std.specs.List.{All, AllPairs, Contains}
use Rattle.nego_base.specs.Firsts.{first_among}
use Rattle.nego_base.proofs.OptionLaws.{or_none, or_some, map_none}
use Rattle.nego_base.proofs.PairLaws.{AllPairs-head}
use Rattle.nego_reader.specs.declared.parsed.Parsed.{Parsed}
use Rattle.nego_reader.specs.Content.{content_of}
use Rattle.nego_reader.specs.Rising.{HasRisingWords}
use Rattle.nego_shape.specs.declared.fault.ShapeFault.{ShapeFault}
use Rattle.nego_shape.specs.Conditions.{Condition, Holds}
use Rattle.nego_shape.specs.Faults.{Spot, faults, first_of, first_fault, IsAhead}
use Rattle.nego_shape.specs.FirstFault.{place, Met, IsFirstFault}
use Rattle.nego_shape.proofs.Numbered.{head, head-none}

-- the conditions have the places from n on, and no others have them
abbrev pub Placed : ℕ → List Condition → Type 0
Placed n [] = Unit {0}
Placed n (condition ∷ rest) = (place condition ≡ n) × ((other : Condition) → place other ≡ n → other ≡ condition) × Placed (n + 1) rest

module _ (p : Parsed) where
  -- what is known of the list of a condition's faults, where the conditions before it are met
  pub record IsListed (condition : Condition) : Type 0 where
    pub clear : Met (content_of p) (place condition) → faults condition p ≡ [] → Holds condition (content_of p)
    pub empty : Met (content_of p) (place condition) → Holds condition (content_of p) → faults condition p ≡ []
    pub rises : HasRisingWords p → AllPairs IsAhead (faults condition p)

  met_more : (n : ℕ) (condition : Condition) → ((other : Condition) → place other ≡ n → other ≡ condition) → Met (content_of p) n → Holds condition (content_of p) → Met (content_of p) (n + 1)
  met_more n condition only met holds other less = elim (cases_lt (place other) n) [
    | inl sooner ↦ met other sooner
    | inr later ↦ (let same : place other ≡ n = omega (arith, less, later) in subst (λ one. Holds one (content_of p)) (sym (only other same)) holds)
  ]

  -- the first of a list stands there, and the others behind it
  first_stands : (condition : Condition) → IsListed condition → Met (content_of p) (place condition) → (spots : List Spot) → faults condition p ≡ spots → (fault : ShapeFault) → first_of spots ≡ Some fault → IsFirstFault p fault
  first_stands condition listed met [] is fault found = absurd (none-some fault found)
  first_stands condition listed met (one ∷ rest) is fault found =
      let same : one.fault ≡ fault = same_Some one.fault fault found in
      subst (IsFirstFault p) same
      (record {
        condition = condition;
        first = record { met = met; broken = λ holds. (let none : one ∷ rest ≡ [] = sym is ∙ listed.empty met holds in let never : ⊥ = cc in never) };
        number = one.number;
        stands = subst (λ spots. Contains spots one) (sym is) (0, omega arith, refl);
        least = λ rising. subst (All (λ other. (other ≡ one) ⊎ IsAhead one other)) (sym is)
            (All-cons (λ other. (other ≡ one) ⊎ IsAhead one other) one rest (inl refl) (All-weaker (IsAhead one) (λ other. (other ≡ one) ⊎ IsAhead one other) (λ other ahead. inr ahead) rest (AllPairs-head IsAhead one rest (subst (AllPairs IsAhead) is (listed.rises rising)))));
      })

  module _ (listed : (condition : Condition) → IsListed condition) where
    -- where nothing is found all conditions of the stage are met
    pub search_none : (n : ℕ) (stage : List Condition) → Placed n stage → Met (content_of p) n → first_fault stage p ≡ None → Met (content_of p) (n + length stage)
    unfolding first_among
    search_none n [] placed met found = let same : n ≡ n + 0 = omega arith in subst (Met (content_of p)) same met
    search_none n (condition ∷ rest) placed met found =
        let two = or_none (first_of (faults condition p)) (first_fault rest p) found in
        let clear = head-none (faults condition p) (map_none (λ (s : Spot). s.fault) (head (faults condition p)) two.0) in
        let here = placed.0 in
        let holds = (listed condition).clear (subst (Met (content_of p)) (sym here) met) clear in
        let more : n + 1 + length rest ≡ n + length (condition ∷ rest) = omega arith in
        subst (Met (content_of p)) more (search_none (n + 1) rest placed.2 (met_more n condition placed.1 met holds) two.1)

    -- what is found is the first fault
    pub search_some : (n : ℕ) (stage : List Condition) → Placed n stage → Met (content_of p) n → (fault : ShapeFault) → first_fault stage p ≡ Some fault → IsFirstFault p fault
    unfolding first_among
    search_some n [] placed met fault found = absurd (none-some fault found)
    search_some n (condition ∷ rest) placed met fault found =
        let met' = subst (Met (content_of p)) (sym placed.0) met in
        elim (or_some (first_of (faults condition p)) (first_fault rest p) fault found) [
          | inl here ↦ first_stands condition (listed condition) met' (faults condition p) refl fault here
          | inr later ↦
              let clear = head-none (faults condition p) (map_none (λ (s : Spot). s.fault) (head (faults condition p)) later.0) in
              search_some (n + 1) rest placed.2 (met_more n condition placed.1 met ((listed condition).clear met' clear)) fault later.1
        ]

-- ---- one first fault

-- of two faults of one condition, each at or behind the other
pub one_of_both : (one two : Spot) → (two ≡ one) ⊎ IsAhead one two → (one ≡ two) ⊎ IsAhead two one → one ≡ two
one_of_both one two (inl same) other = sym same
one_of_both one two (inr ahead) (inl same) = same
one_of_both one two (inr (inl less)) (inr (inl more)) = absurd (omega (arith, less, more))
one_of_both one two (inr (inl less)) (inr (inr (same, more))) = absurd (omega (arith, less, same))
one_of_both one two (inr (inr (same, less))) (inr (inl more)) = absurd (omega (arith, same, more))
one_of_both one two (inr (inr (same, less))) (inr (inr (same', more))) = absurd (omega (arith, less, more))
