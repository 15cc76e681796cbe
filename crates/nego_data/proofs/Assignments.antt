-- Laws of assignments that were applied to joint data.
use Rattle.std.proofs.Common.{◌≡◌, inl, inr, ℕ, ◌<◌, ◌≤◌, Bool, true, false, ◌&&◌, ◌||◌, ◌==◌, nat_lt, List, [], ◌∷◌, ◌++◌, length, get_or, set, Result, Ok, Err, refl, sym, subst, ap, ap₂, ◌∙◌, eqb-true, lt-ltb, arith}
use Rattle.std.proofs.lemmas.Bool.{and_parts, cases_Bool, cases_eq, false≢true, or_cases, or_left, or_right}
use Rattle.std.proofs.lemmas.List.{get_or-set_same, get_or-set_other, length-set}
use Rattle.std.proofs.lemmas.List.Elements.{All-append, All-cons, All-nil}
use Rattle.std.specs.List.{All}
use Rattle.std.specs.Result.{OnOk, OnErr}
use Rattle.std.specs.Cmp.Lexicographic.{pointwise}
use Rattle.nego_base.specs.declared.ids.AgentId.{AgentId}
use Rattle.nego_data.specs.declared.applied.Applied.{Applied}
use Rattle.nego_data.specs.declared.cases.Case.{Case}
use Rattle.nego_data.specs.declared.cases.Set.{Set}
use Rattle.nego_data.specs.declared.cases.Term.{Term}
use Rattle.nego_data.specs.declared.cases.Term.TheVariants as terms
use Rattle.nego_data.specs.contracts.cases.TermPartialEq.TheImpl as of_terms
use Rattle.nego_data.specs.contracts.cases.SetPartialEq.TheImpl as of_sets
use Rattle.nego_data.specs.Assignments.{IsApplied, IsAppliedTo}
use Rattle.nego_data.specs.BitRows.{is_set}
use Rattle.nego_data.specs.Cases.{agents_follow, covers, relates}
use Rattle.nego_data.specs.Data.{data_count, split}
use Rattle.nego_data.specs.Sizes.{tuple_of}
use Rattle.nego_data.specs.Covered.{AreThose, AreAmongThose}
use Rattle.nego_data.specs.Tables.{is_related}
use Rattle.nego_data.proofs.Additions.{tuple_covers}

-- ---- assignments that are equal are the same

same_agent : (a b : AgentId) → (a.0 == b.0) ≡ true → a ≡ b
same_agent a b h = ap {B = AgentId} (λ n. record { 0 = n }) (eqb-true a.0 b.0 h)

same_term : (s t : Term) → of_terms.eq-value.it s t ≡ true → s ≡ t
same_term terms.Any terms.Any h = refl
same_term (terms.Number n) (terms.Number m) h = ap (λ k. terms.Number k) (eqb-true n m h)
same_term (terms.Plus a n) (terms.Plus b m) h =
    let p = and_parts (a.0 == b.0) (n == m) h in
    ap₂ (λ c k. terms.Plus c k) (same_agent a b p.0) (eqb-true n m p.1)
same_term (terms.Minus a n) (terms.Minus b m) h =
    let p = and_parts (a.0 == b.0) (n == m) h in
    ap₂ (λ c k. terms.Minus c k) (same_agent a b p.0) (eqb-true n m p.1)
same_term terms.Any (terms.Number m) h = absurd (false≢true h)
same_term terms.Any (terms.Plus b m) h = absurd (false≢true h)
same_term terms.Any (terms.Minus b m) h = absurd (false≢true h)
same_term (terms.Number n) terms.Any h = absurd (false≢true h)
same_term (terms.Number n) (terms.Plus b m) h = absurd (false≢true h)
same_term (terms.Number n) (terms.Minus b m) h = absurd (false≢true h)
same_term (terms.Plus a n) terms.Any h = absurd (false≢true h)
same_term (terms.Plus a n) (terms.Number m) h = absurd (false≢true h)
same_term (terms.Plus a n) (terms.Minus b m) h = absurd (false≢true h)
same_term (terms.Minus a n) terms.Any h = absurd (false≢true h)
same_term (terms.Minus a n) (terms.Number m) h = absurd (false≢true h)
same_term (terms.Minus a n) (terms.Plus b m) h = absurd (false≢true h)

same_set : (s t : Set) → of_sets.eq-value.it s t ≡ true → s ≡ t
same_set s t h =
    let p = and_parts (s.agent.0 == t.agent.0) (of_terms.eq-value.it s.term t.term) h in
    ap₂ {C = Set} (λ a x. record { agent = a; term = x }) (same_agent s.agent t.agent p.0) (same_term s.term t.term p.1)

-- lists of assignments that are equal are the same
pub same_sets : (xs ys : List Set) → pointwise of_sets.eq-value.it xs ys ≡ true → xs ≡ ys
same_sets [] [] h = refl
same_sets [] (y ∷ ys) h = absurd (false≢true h)
same_sets (x ∷ xs) [] h = absurd (false≢true h)
same_sets (x ∷ xs) (y ∷ ys) h =
    let p = and_parts (of_sets.eq-value.it x y) (pointwise of_sets.eq-value.it xs ys) h in
    ap₂ ◌∷◌ (same_set x y p.0) (same_sets xs ys p.1)

-- ---- what is kept of assignments

module _ (sizes : List ℕ) (table : List (List ℕ)) where
  -- assignments that are applied to joint data and to others are applied to all of them
  pub applied_more : (sets : List Set) (one two all : List ℕ) → data_count sizes ≤ 1024 → ((e : ℕ) → e < 1024 → is_set all e ≡ (is_set one e || is_set two e)) →
      IsAppliedTo sizes table sets one → IsAppliedTo sizes table sets two → IsAppliedTo sizes table sets all
  applied_more sets one two all few joined here there d e h k m follows = elim (or_cases (is_set one d) (is_set two d) (sym (joined d (omega (arith, h, few))) ∙ m)) [
    | inl p ↦ here d e h k p follows
    | inr p ↦ there d e h k p follows
  ]

-- what holds of each item holds of each once one more is put behind them, or isn't for want of memory
pub All-pushed : {X T E : Type 0} (P : X → Type 0) (result : Result T E) (old new : List X) (x : X) → OnOk result (new ≡ old ++ x ∷ []) → OnErr result (new ≡ old) → All P old → P x → All P new
All-pushed P (Ok t) old new x ok err all one = subst (All P) (sym ok) (All-append P old (x ∷ []) all (All-cons P x [] one (All-nil P)))
All-pushed P (Err e) old new x ok err all one = subst (All P) (sym err) all

-- what holds of each item holds of each once one is replaced
pub All-set : {X : Type 0} (P : X → Type 0) (xs : List X) (i : ℕ) (x : X) → All P xs → P x → All P (set xs i x)
All-set P xs i x all here k d l = elim (cases_eq k i) [
  | inl same ↦ subst P (sym (ap (λ n. get_or (set xs i x) n d) same ∙ get_or-set_same xs i x d (subst (λ n. n < length xs) same below))) here
  | inr other ↦ subst P (sym (get_or-set_other xs i k x d other)) (all k d below)
]
  where
    below : k < length xs
    below = subst (λ n. k < n) (length-set xs i x) l

module _ (sizes : List ℕ) (case : Case) where
  -- what a case relates: to joint data that it covers those that follow its assignments
  case_parts : (d e : ℕ) → relates sizes (case ∷ []) d e ≡ true → (covers case (tuple_of sizes d) ≡ true) × (agents_follow 0 sizes case.sets (split sizes d) (split sizes e) ≡ true)
  case_parts d e r = (tuple_covers sizes case d (tuple_of sizes d) refl ∙ parts.0, parts.1)
    where
      only : (s t c f : Bool) → (s && (t && ((c && f) || false))) ≡ true → (c ≡ true) × (f ≡ true)
      only true true true true p = (refl, refl)
      only true true true false p = absurd (false≢true p)
      only true true false f p = absurd (false≢true p)
      only true false c f p = absurd (false≢true p)
      only false t c f p = absurd (false≢true p)

      parts : (covers case (split sizes d) ≡ true) × (agents_follow 0 sizes case.sets (split sizes d) (split sizes e) ≡ true)
      parts = only (nat_lt d (data_count sizes)) (nat_lt e (data_count sizes)) (covers case (split sizes d)) (agents_follow 0 sizes case.sets (split sizes d) (split sizes e)) r

  or_none : (b : Bool) → (b || false) ≡ b
  or_none true = refl
  or_none false = refl

  module _ (done : List ℕ) (within : AreAmongThose sizes (covers case) done) where
    -- a case whose assignments were applied to all that it covers relates nothing new
    pub nothing_new : (table : List (List ℕ)) → IsAppliedTo sizes table case.sets done →
        (d e : ℕ) → d < data_count sizes → e < data_count sizes → is_related table d e ≡ (is_related table d e || relates sizes (case ∷ []) d e)
    nothing_new table applied d e h k = elim (cases_Bool (relates sizes (case ∷ []) d e)) [
      | inl r ↦
          let p = case_parts d e r in
          let there = applied d e h k (within d h p.0) p.1 in
          there ∙ sym (or_left (is_related table d e) (relates sizes (case ∷ []) d e) there)
      | inr r ↦ sym (ap (λ b. is_related table d e || b) r ∙ or_none (is_related table d e))
    ]

    -- and it covers nothing new, where all those were covered
    pub nothing_more : (covered : List ℕ) (d : ℕ) → d < data_count sizes → (is_set done d ≡ true → is_set covered d ≡ true) → is_set covered d ≡ (is_set covered d || covers case (tuple_of sizes d))
    nothing_more covered d h was = elim (cases_Bool (covers case (tuple_of sizes d))) [
      | inl c ↦ let there = was (within d h c) in there ∙ sym (or_left (is_set covered d) (covers case (tuple_of sizes d)) there)
      | inr c ↦ sym (ap (λ b. is_set covered d || b) c ∙ or_none (is_set covered d))
    ]

module _ (sizes : List ℕ) (case : Case) (those : List ℕ) (covered : AreThose sizes (covers case) those) where
  case_from : (d e : ℕ) → d < data_count sizes → e < data_count sizes → is_set those d ≡ true → agents_follow 0 sizes case.sets (split sizes d) (split sizes e) ≡ true → relates sizes (case ∷ []) d e ≡ true
  case_from d e h k m follows =
      all (nat_lt d (data_count sizes)) (nat_lt e (data_count sizes)) (covers case (split sizes d)) (agents_follow 0 sizes case.sets (split sizes d) (split sizes e))
      (lt-ltb d (data_count sizes) h) (lt-ltb e (data_count sizes) k) (sym (covered d h ∙ tuple_covers sizes case d (tuple_of sizes d) refl) ∙ m) follows
    where
      all : (s t c f : Bool) → s ≡ true → t ≡ true → c ≡ true → f ≡ true → (s && (t && ((c && f) || false))) ≡ true
      all s t c f p q r g = rw (p, q, r, g) refl

  module _ (old new : List (List ℕ)) (more : (d e : ℕ) → d < data_count sizes → e < data_count sizes → is_related new d e ≡ (is_related old d e || relates sizes (case ∷ []) d e)) where
    -- what was applied is so once a case is added
    pub still_applied : (applied : List Applied) → All (IsApplied sizes old) applied → All (IsApplied sizes new) applied
    still_applied applied all i one l d e h k m follows = more d e h k ∙ or_left (is_related old d e) (relates sizes (case ∷ []) d e) (all i one l d e h k m follows)

    -- the assignments of a case that was added are applied to what it covers
    pub now_applied : IsAppliedTo sizes new case.sets those
    now_applied d e h k m follows = more d e h k ∙ or_right (is_related old d e) (relates sizes (case ∷ []) d e) (case_from d e h k m follows)
