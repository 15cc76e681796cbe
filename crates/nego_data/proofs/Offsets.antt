-- What a case relates, by the least values and the offsets of its free agents.
use Rattle.std.proofs.Common.{◌≡◌, inl, inr, ℕ, ◌+◌, ◌-◌, ◌<◌, ◌≤◌, Bool, true, false, cond, ◌&&◌, ◌||◌, ◌==◌, nat_lt, nat_le, List, [], ◌∷◌, length, take, map, slice_index, Option, Some, None, refl, sym, subst, ap, ◌∙◌, arith, eqb-true, eq-eqb, lt-ltb, ltb-true}
use Rattle.std.proofs.lemmas.Bool.{and_parts, and_from, or_cases, or_left, or_right, cases_lt, cases_Bool, cond-true, cond-false, false≢true, true≢false, leb-true, le-leb}
use Rattle.std.proofs.lemmas.List.{length-take-le, get_or-take, get_or_past}
use Rattle.std.proofs.lemmas.List.FromFn.{length-map-range_with_len, get_or-map-range_with_len}
use Rattle.std.specs.List.{list_any, range_with_len}
use Rattle.nego_base.specs.Members.{is_in}
use Rattle.nego_base.proofs.Members.{any_at, any_from, is_in-filter, is_in-range_zero, all_at, all_from}
use Rattle.nego_base.proofs.BoolLaws.{same_tests}
use Rattle.nego_data.specs.declared.cases.Term.{Term}
use Rattle.nego_data.specs.declared.cases.Term.TheVariants as terms
use Rattle.nego_data.specs.declared.cases.Case.{Case}
use Rattle.nego_data.specs.BitRows.{is_set, is_moved}
use Rattle.nego_data.specs.Data.{data_count, split, joint}
use Rattle.nego_data.specs.Sizes.{AreSizes, tuple_of}
use Rattle.nego_data.specs.Cases.{term_for, covers, agent_follows, agents_follow, relates}
use Rattle.nego_data.specs.CaseForm.{AssignsBelow}
use Rattle.nego_data.specs.Given.{offsets_of, least_after, is_free, is_offset}
use Rattle.nego_data.proofs.JointData.{AreValues, length-split, split-below, joint-split, joint-below, split-joint, joint-sum}
use Rattle.nego_data.proofs.Counts.{joint-front}
use Rattle.nego_data.proofs.Tuples.{at-tuple_of}
use Rattle.nego_data.proofs.Assigned.{follow-at, follow_from, term_for-fits, least_after-follows, least_after-below}

-- who may have any value has at least 0
free-least : (o : Option Term) (size : ℕ) (values : List ℕ) (old : ℕ) → is_free o ≡ true → least_after o size values old ≡ 0
free-least None size values old h = absurd (false≢true h)
free-least (Some terms.Any) size values old h = refl
free-least (Some (terms.Number n)) size values old h = absurd (false≢true h)
free-least (Some (terms.Plus b n)) size values old h = absurd (false≢true h)
free-least (Some (terms.Minus b n)) size values old h = absurd (false≢true h)

-- who may have any value may have each below the size
free-follows : (o : Option Term) (size : ℕ) (values : List ℕ) (old new : ℕ) → is_free o ≡ true → new < size → agent_follows o size values old new ≡ true
free-follows None size values old new h k = absurd (false≢true h)
free-follows (Some terms.Any) size values old new h k = lt-ltb new size k
free-follows (Some (terms.Number n)) size values old new h k = absurd (false≢true h)
free-follows (Some (terms.Plus b n)) size values old new h k = absurd (false≢true h)
free-follows (Some (terms.Minus b n)) size values old new h k = absurd (false≢true h)

-- who may not have any value has the least
fixed-least : (o : Option Term) (size : ℕ) (values : List ℕ) (old new : ℕ) → is_free o ≡ false → agent_follows o size values old new ≡ true → new ≡ least_after o size values old
fixed-least None size values old new h k = eqb-true new old k
fixed-least (Some terms.Any) size values old new h k = absurd (true≢false h)
fixed-least (Some (terms.Number n)) size values old new h k = eqb-true new n k
fixed-least (Some (terms.Plus b n)) size values old new h k = eqb-true new (least_after (Some (terms.Plus b n)) size values old) k
fixed-least (Some (terms.Minus b n)) size values old new h k = eqb-true new (least_after (Some (terms.Minus b n)) size values old) k

module _ (sizes : List ℕ) (case : Case) (free : List ℕ) (ok : AreSizes sizes) (fits : AssignsBelow sizes case) (frees : (a : ℕ) → is_in a free ≡ is_free (term_for case.sets a)) where
  -- what is assigned to an agent
  abbrev assigned : ℕ → Option Term
  assigned a = term_for case.sets a

  size_pos : (a : ℕ) → a < length sizes → 0 < slice_index sizes a
  size_pos a h = (ok.each a 0 h).0

  -- an offset is joint data in which agents that aren't free have 0
  offset_parts : (o : ℕ) → is_in o (offsets_of sizes free) ≡ true → (o < data_count sizes) × ((a : ℕ) → a < length sizes → is_free (assigned a) ≡ false → slice_index (split sizes o) a ≡ 0)
  offset_parts o m = (ltb-true o (data_count sizes) (sym (is_in-range_zero o (data_count sizes)) ∙ parts.1), zero)
    where
      test : ℕ → Bool
      test a = slice_index (tuple_of sizes o) a == 0 || is_in a free

      parts : (is_offset free (tuple_of sizes o) ≡ true) × (is_in o (range_with_len 0 (data_count sizes)) ≡ true)
      parts = and_parts (is_offset free (tuple_of sizes o)) (is_in o (range_with_len 0 (data_count sizes)))
          (sym (is_in-filter (λ n. is_offset free (tuple_of sizes n)) o (range_with_len 0 (data_count sizes))) ∙ m)

      zero : (a : ℕ) → a < length sizes → is_free (assigned a) ≡ false → slice_index (split sizes o) a ≡ 0
      zero a h fixed = elim (or_cases (slice_index (tuple_of sizes o) a == 0) (is_in a free)
          (all_at test (range_with_len 0 16) a parts.0 (is_in-range_zero a 16 ∙ lt-ltb a 16 (let few = ok.few_agents in omega (arith, h, few))))) [
            | inl e ↦ sym (at-tuple_of sizes o a) ∙ eqb-true (slice_index (tuple_of sizes o) a) 0 e
            | inr m ↦ absurd (true≢false (sym m ∙ frees a ∙ fixed))
          ]

  -- joint data in which agents that aren't free have 0 are an offset
  offset_from : (o : ℕ) → o < data_count sizes → ((a : ℕ) → a < length sizes → is_free (assigned a) ≡ false → slice_index (split sizes o) a ≡ 0) → is_in o (offsets_of sizes free) ≡ true
  offset_from o h zero =
      is_in-filter (λ n. is_offset free (tuple_of sizes n)) o (range_with_len 0 (data_count sizes))
      ∙ and_from (is_offset free (tuple_of sizes o)) (is_in o (range_with_len 0 (data_count sizes))) (all_from test (range_with_len 0 16) (λ a m. each a))
      (is_in-range_zero o (data_count sizes) ∙ lt-ltb o (data_count sizes) h)
    where
      test : ℕ → Bool
      test a = slice_index (tuple_of sizes o) a == 0 || is_in a free

      by_zero : (a : ℕ) → slice_index (split sizes o) a ≡ 0 → test a ≡ true
      by_zero a e = or_left (slice_index (tuple_of sizes o) a == 0) (is_in a free) (eq-eqb (slice_index (tuple_of sizes o) a) 0 (at-tuple_of sizes o a ∙ e))

      each : (a : ℕ) → test a ≡ true
      each a = elim (cases_lt a (length sizes)) [
        | inl l ↦ elim (cases_Bool (is_free (assigned a))) [
          | inl e ↦ or_right (slice_index (tuple_of sizes o) a == 0) (is_in a free) (frees a ∙ e)
          | inr e ↦ by_zero a (zero a l e)
        ]
        | inr past ↦ by_zero a (get_or_past (split sizes o) a 0 (subst (λ n. n ≤ a) (sym (length-split sizes o)) past))
      ]

  module _ (d : ℕ) (new : List ℕ) (h : d < data_count sizes) (enough : length sizes ≤ length new)
      (least : (a : ℕ) → a < length sizes → slice_index new a ≡ least_after (assigned a) (slice_index sizes a) (split sizes d) (slice_index (split sizes d) a)) where
    -- the values of the agents in d
    abbrev old : List ℕ
    old = split sizes d

    -- the least values of the agents
    abbrev front : List ℕ
    front = take (length sizes) new

    front-length : length front ≡ length sizes
    front-length = length-take-le (length sizes) new enough

    at-front : (a : ℕ) → a < length sizes → slice_index front a ≡ least_after (assigned a) (slice_index sizes a) old (slice_index old a)
    at-front a k = get_or-take (length sizes) new a 0 k ∙ least a k

    -- an agent's value, and what it is above the least
    abbrev value_of : (ℕ → ℕ) → List ℕ
    value_of f = map f (range_with_len 0 (length sizes))

    at-value_of : (f : ℕ → ℕ) (a : ℕ) → a < length sizes → slice_index (value_of f) a ≡ f a
    at-value_of f a k = get_or-map-range_with_len f 0 (length sizes) a a 0 k (omega arith)

    value_of-values : (f : ℕ → ℕ) → ((a : ℕ) → a < length sizes → f a < slice_index sizes a) → AreValues sizes (value_of f)
    value_of-values f below = record {
      as_many = length-map-range_with_len f 0 (length sizes);
      below = λ a k. subst (λ n. n < slice_index sizes a) (sym (at-value_of f a k)) (below a k);
    }

    -- values that are the least and more are those of a sum
    joint-more : (more values : List ℕ) → length more ≡ length sizes → length values ≡ length sizes →
        ((a : ℕ) → a < length sizes → slice_index values a ≡ slice_index front a + slice_index more a) → joint sizes values ≡ joint sizes new + joint sizes more
    joint-more more values l m sum = joint-sum sizes front more values front-length l m sum ∙ ap (λ n. n + joint sizes more) (joint-front sizes new)

    -- the values of the least and an offset
    abbrev moved : ℕ → ℕ → ℕ
    moved o a = slice_index front a + slice_index (split sizes o) a

    moved-follows : (o : ℕ) → is_in o (offsets_of sizes free) ≡ true → (a : ℕ) → a < length sizes →
        (agent_follows (assigned a) (slice_index sizes a) old (slice_index old a) (moved o a) ≡ true) × (moved o a < slice_index sizes a)
    moved-follows o m a k = elim (cases_Bool (is_free (assigned a))) [
      | inl e ↦
          let zero : slice_index front a ≡ 0 = at-front a k ∙ free-least (assigned a) (slice_index sizes a) old (slice_index old a) e in
          let below : slice_index (split sizes o) a < slice_index sizes a = split-below sizes o a (offset_parts o m).0 k in
          let small : moved o a < slice_index sizes a = omega (arith, zero, below) in
          (free-follows (assigned a) (slice_index sizes a) old (slice_index old a) (moved o a) e small, small)
      | inr e ↦
          let zero : slice_index (split sizes o) a ≡ 0 = (offset_parts o m).1 a k e in
          let sum : moved o a ≡ slice_index front a = omega (arith, zero) in
          let is : moved o a ≡ least_after (assigned a) (slice_index sizes a) old (slice_index old a) = sum ∙ at-front a k in
          let fit = term_for-fits sizes case a fits in
          let below = split-below sizes d a h k in (
            subst (λ n. agent_follows (assigned a) (slice_index sizes a) old (slice_index old a) n ≡ true) (sym is) (least_after-follows (assigned a) (slice_index sizes a) old (slice_index old a) below fit),
            subst (λ n. n < slice_index sizes a) (sym is) (least_after-below (assigned a) (slice_index sizes a) old (slice_index old a) below fit),
          )
    ]

    moved-values : (o : ℕ) → is_in o (offsets_of sizes free) ≡ true → AreValues sizes (value_of (moved o))
    moved-values o m = value_of-values (moved o) (λ a k. (moved-follows o m a k).1)

    moved-joint : (o : ℕ) → is_in o (offsets_of sizes free) ≡ true → joint sizes (value_of (moved o)) ≡ joint sizes new + o
    moved-joint o m =
        joint-more (split sizes o) (value_of (moved o)) (length-split sizes o) (length-map-range_with_len (moved o) 0 (length sizes)) (λ a k. at-value_of (moved o) a k)
        ∙ ap (λ n. joint sizes new + n) (joint-split sizes o (offset_parts o m).0)

    -- the joint data that the least values and an offset make follow the assignments
    offset_follows : (o : ℕ) → is_in o (offsets_of sizes free) ≡ true → agents_follow 0 sizes case.sets old (split sizes (joint sizes new + o)) ≡ true
    offset_follows o m =
        let is : split sizes (joint sizes new + o) ≡ value_of (moved o) = ap (split sizes) (sym (moved-joint o m)) ∙ split-joint sizes (value_of (moved o)) (moved-values o m) in
        subst (λ values. agents_follow 0 sizes case.sets old values ≡ true) (sym is) (follow_from sizes case.sets old (value_of (moved o)) (λ a k.
        subst (λ n. agent_follows (assigned a) (slice_index sizes a) old (slice_index old a) n ≡ true) (sym (at-value_of (moved o) a k)) (moved-follows o m a k).0))

    -- what free agents have in e
    abbrev freed : ℕ → ℕ → ℕ
    freed e a = cond (is_free (assigned a)) (slice_index (split sizes e) a) 0

    freed-below : (e : ℕ) → e < data_count sizes → (a : ℕ) → a < length sizes → freed e a < slice_index sizes a
    freed-below e k a l = elim (cases_Bool (is_free (assigned a))) [
      | inl q ↦ subst (λ n. n < slice_index sizes a) (sym (cond-true (is_free (assigned a)) (slice_index (split sizes e) a) 0 q)) (split-below sizes e a k l)
      | inr q ↦ subst (λ n. n < slice_index sizes a) (sym (cond-false (is_free (assigned a)) (slice_index (split sizes e) a) 0 q)) (size_pos a l)
    ]

    -- joint data that follow the assignments are the least values and an offset
    follows-offset : (e : ℕ) → e < data_count sizes → agents_follow 0 sizes case.sets old (split sizes e) ≡ true → (o : ℕ) × (is_in o (offsets_of sizes free) ≡ true) × (joint sizes new + o ≡ e)
    follows-offset e k follows = (o, offset_from o below zero, sym (sym (joint-split sizes e k) ∙ sum))
      where
        values : AreValues sizes (value_of (freed e))
        values = value_of-values (freed e) (freed-below e k)

        o : ℕ
        o = joint sizes (value_of (freed e))

        below : o < data_count sizes
        below = joint-below sizes (value_of (freed e)) values

        zero : (a : ℕ) → a < length sizes → is_free (assigned a) ≡ false → slice_index (split sizes o) a ≡ 0
        zero a l q =
            ap (λ xs. slice_index xs a) (split-joint sizes (value_of (freed e)) values) ∙ at-value_of (freed e) a l
            ∙ cond-false (is_free (assigned a)) (slice_index (split sizes e) a) 0 q

        each : (a : ℕ) → a < length sizes → slice_index (split sizes e) a ≡ slice_index front a + slice_index (value_of (freed e)) a
        each a l = elim (cases_Bool (is_free (assigned a))) [
          | inl q ↦
              let least_zero : slice_index front a ≡ 0 = at-front a l ∙ free-least (assigned a) (slice_index sizes a) old (slice_index old a) q in
              let more : slice_index (value_of (freed e)) a ≡ slice_index (split sizes e) a =
              at-value_of (freed e) a l ∙ cond-true (is_free (assigned a)) (slice_index (split sizes e) a) 0 q in
              omega (arith, least_zero, more)
          | inr q ↦
              let is : slice_index (split sizes e) a ≡ slice_index front a =
              fixed-least (assigned a) (slice_index sizes a) old (slice_index old a) (slice_index (split sizes e) a) q (follow-at sizes case.sets old (split sizes e) follows a l) ∙ sym (at-front a l) in
              let none : slice_index (value_of (freed e)) a ≡ 0 =
              at-value_of (freed e) a l ∙ cond-false (is_free (assigned a)) (slice_index (split sizes e) a) 0 q in
              omega (arith, is, none)
        ]

        sum : joint sizes (split sizes e) ≡ joint sizes new + o
        sum = joint-more (value_of (freed e)) (split sizes e) (length-map-range_with_len (freed e) 0 (length sizes)) (length-split sizes e) each

    -- what the case relates to d, which it covers or not
    pub relates_by_offsets : (e : ℕ) → e < data_count sizes →
        relates sizes (case ∷ []) d e ≡ (covers case (split sizes d) && list_any (λ o. joint sizes new + o == e) (offsets_of sizes free))
    relates_by_offsets e k =
        inside (nat_lt d (data_count sizes)) (nat_lt e (data_count sizes)) (covers case old) (agents_follow 0 sizes case.sets old (split sizes e)) (list_any (λ o. joint sizes new + o == e) (offsets_of sizes free))
        (lt-ltb d (data_count sizes) h) (lt-ltb e (data_count sizes) k)
        (same_tests (agents_follow 0 sizes case.sets old (split sizes e)) (list_any (λ o. joint sizes new + o == e) (offsets_of sizes free)) there back)
      where
        there : agents_follow 0 sizes case.sets old (split sizes e) ≡ true → list_any (λ o. joint sizes new + o == e) (offsets_of sizes free) ≡ true
        there follows =
            let p = follows-offset e k follows in
            any_from (λ o. joint sizes new + o == e) (offsets_of sizes free) p.0 p.1 (eq-eqb (joint sizes new + p.0) e p.2)

        back : list_any (λ o. joint sizes new + o == e) (offsets_of sizes free) ≡ true → agents_follow 0 sizes case.sets old (split sizes e) ≡ true
        back some =
            let p = any_at (λ o. joint sizes new + o == e) (offsets_of sizes free) some in
            subst (λ n. agents_follow 0 sizes case.sets old (split sizes n) ≡ true) (eqb-true (joint sizes new + p.0) e p.2) (offset_follows p.0 p.1)

        inside : (s t c f g : Bool) → s ≡ true → t ≡ true → f ≡ g → (s && (t && ((c && f) || false))) ≡ (c && g)
        inside s t true true g p q r = rw (p, q) r
        inside s t true false g p q r = rw (p, q) r
        inside s t false f g p q r = rw (p, q) refl

-- the numbers that are above the least by an offset are the offsets' bits moved up
pub moved_offsets : (sizes free row : List ℕ) (least e : ℕ) → ((o : ℕ) → is_set row o ≡ (is_offset free (tuple_of sizes o) && nat_lt o (data_count sizes))) →
    is_moved row least e ≡ list_any (λ o. least + o == e) (offsets_of sizes free)
moved_offsets sizes free row least e bits = same_tests (is_moved row least e) (list_any (λ o. least + o == e) (offsets_of sizes free)) there back
  where
    members : (o : ℕ) → is_set row o ≡ is_in o (offsets_of sizes free)
    members o =
        bits o ∙ ap (λ b. is_offset free (tuple_of sizes o) && b) (sym (is_in-range_zero o (data_count sizes)))
        ∙ sym (is_in-filter (λ n. is_offset free (tuple_of sizes n)) o (range_with_len 0 (data_count sizes)))

    there : is_moved row least e ≡ true → list_any (λ o. least + o == e) (offsets_of sizes free) ≡ true
    there h =
        let p = and_parts (nat_le least e) (is_set row (e - least)) h in
        let above : least ≤ e = leb-true least e p.0 in
        any_from (λ o. least + o == e) (offsets_of sizes free) (e - least) (sym (members (e - least)) ∙ p.1) (eq-eqb (least + (e - least)) e (omega arith))

    back : list_any (λ o. least + o == e) (offsets_of sizes free) ≡ true → is_moved row least e ≡ true
    back h =
        let p = any_at (λ o. least + o == e) (offsets_of sizes free) h in
        let sum : least + p.0 ≡ e = eqb-true (least + p.0) e p.2 in
        let rest : p.0 ≡ e - least = omega (arith, sum) in
        and_from (nat_le least e) (is_set row (e - least)) (le-leb least e (omega (arith, sum))) (ap (is_set row) (sym rest) ∙ members p.0 ∙ p.1)
