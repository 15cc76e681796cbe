-- Every condition of the shape of a diagram holds of what is made.
use Rattle.std.proofs.Common.{◌≡◌, ◌≢◌, ◌∙◌, ⊎_elim, ℕ, ◌+◌, ◌-◌, ◌<◌, ◌≤◌, ◌==◌, ◌%◌, Bool, true, false, cond, List, [], ◌∷◌, ◌++◌, map, get_or, slice_index, codes, ap, sym, subst, refl, arith, ◌||◌, lt-ltb}
use Rattle.std.proofs.lemmas.Bool.{cond_both, and_from, cases_Bool, false_from_ne_true}
use Rattle.std.proofs.lemmas.List.{append-nil}
use Rattle.std.proofs.lemmas.List.Elements.{All-nil, All-map, All-head, All-tail, All-weaker}
use Rattle.std.proofs.lemmas.Slice.Eq.{bytes_eq-Decides}
use Rattle.std.specs.List.{All, flat_map, filter, list_any, range_with_len}
use Rattle.std.specs.Str.{bytes_eq}
use Rattle.nego_base.specs.Members.{is_in, RisesFrom}
use Rattle.nego_base.proofs.Members.{All-member, All-members, any_from, is_in-filter, is_in-range_zero, member_from, rises-filter, rises-range}
use Rattle.nego_base.proofs.PairLaws.{AllPairs-nil, AllPairs-cons}
use Rattle.nego_data.specs.CaseForm.{AssignsBelow, FitsSize}
use Rattle.nego_data.specs.Places.{value_of}
use Rattle.nego_data.specs.declared.cases.Set.{Set}
use Rattle.nego_reader.specs.Content.{AgentContent, NumberTerm, PlusTerm, NextContent, OutContent, Content}
use Rattle.nego_shape.specs.Naming.{place_of, places_of, agent_names, atom_names, sizes_in, parties_at, set_in, case_in, cases_in}
use Rattle.nego_shape.specs.Shaped.{AreDifferent, IsDeclared, AreNamedOnce, AreAllDeclared, IsParty, IsNamedParty, IsSent, SendsAll, HasNoStranger, EndsLast, NamesParties, IsAllCovered, case_names, assigned_names, sent_names, first_number, last_number}
use Rattle.nego_shape.specs.Conditions.{HasShape, SomeAgent, FewAgents, FewAtoms, FewOutcomes, NamedOnce, AllDeclared, SomeParty, SomeOutcome, AllBegin, AllEnd, AllSent, NoStranger, LastEnds, PartiesAlone, NoZeroSize, NoLargeSize, NoLargeJoint, NoLargeValue, AllCovered}
use Rattle.nego_make.specs.Generated.{agent_name, atom_name, everyone, by_turns, parties, is_next, movers, next_numbers, next_line, next_lines, outcome, outcomes, agent, generated}
use Rattle.nego_make.proofs.Names.{AreBelow, names_differ, parties_have, parties_rise, parties_below, range_below, agents_differ, agent_place, agent_declared, places, atom_count, atoms_differ, atom_place, atom_declared, parties_are}
use Rattle.nego_make.proofs.Moves.{next_party, mover_party, movers_below, next_behind, next_from_mover, everyone_last, some_next}
use Rattle.nego_make.proofs.OutcomeKinds.{one, two, both_ways, both_endings, each_atom, each_placed, lists_have, nexts_have, cases_have, outcomes_few}

abbrev Other : List ℕ → List ℕ → Type 0
Other a b = a ≢ b

differ_one : (a : List ℕ) → AreDifferent (a ∷ [])
differ_one a = AllPairs-cons Other a [] (All-nil (Other a)) (AllPairs-nil Other)

differ_two : (a b : List ℕ) → a ≢ b → AreDifferent (a ∷ b ∷ [])
differ_two a b other = AllPairs-cons Other a (b ∷ []) (one (Other a) b other) (differ_one b)

wide : (xs : List ℕ) → AreBelow 4 xs → AreBelow 64 xs
wide xs h = All-weaker (λ x. x < 4) (λ x. x < 64) (λ x l. omega (arith, l)) xs h

-- ---- an agent stands once on the next lines for one atom

module _ (n i : ℕ) (name : List ℕ) where
  abbrev sent : List ℕ → List (List ℕ)
  sent numbers = sent_names (map (next_line n i) numbers) name

  -- whether the first line is for the atom
  sent_first : (j : ℕ) (numbers : List ℕ) (b : Bool) → bytes_eq (atom_name j) name ≡ b →
      sent (j ∷ numbers) ≡ flat_map (λ (next : NextContent). next.agents) (cond b (next_line n i j ∷ filter (λ next. bytes_eq next.atom name) (map (next_line n i) numbers)) (filter (λ next. bytes_eq next.atom name) (map (next_line n i) numbers)))
  sent_first j numbers b h =
      ap (λ t. flat_map (λ (next : NextContent). next.agents) (cond t (next_line n i j ∷ filter (λ next. bytes_eq next.atom name) (map (next_line n i) numbers)) (filter (λ next. bytes_eq next.atom name) (map (next_line n i) numbers)))) h

  none_sent : (numbers : List ℕ) → All (λ j. bytes_eq (atom_name j) name ≡ false) numbers → sent numbers ≡ []
  none_sent [] h = refl
  none_sent (j ∷ numbers) h =
      sent_first j numbers false (All-head (λ k. bytes_eq (atom_name k) name ≡ false) j numbers h)
      ∙ none_sent numbers (All-tail (λ k. bytes_eq (atom_name k) name ≡ false) j numbers h)

  -- names of other numbers aren't this one
  others : (j : ℕ) (numbers : List ℕ) → RisesFrom j (j ∷ numbers) → AreBelow 64 (j ∷ numbers) → bytes_eq (atom_name j) name ≡ true → All (λ k. bytes_eq (atom_name k) name ≡ false) numbers
  others j numbers r below t =
      All-members (λ k. bytes_eq (atom_name k) name ≡ false) numbers (λ k m. false_from_ne_true (bytes_eq (atom_name k) name) (λ u.
      let small = All-member (λ x. x < 64) k numbers (All-tail (λ x. x < 64) j numbers below) m in
      let up : j + 1 ≤ k = member_from (j + 1) k numbers r.1 m in
      let same : atom_name j ≡ atom_name k = (bytes_eq-Decides (atom_name j) name).0 t ∙ sym ((bytes_eq-Decides (atom_name k) name).0 u) in
      names_differ 109 j (j ∷ k ∷ []) (omega arith, (omega (arith, up), tt)) (two (λ x. x < 64) j k (All-head (λ x. x < 64) j numbers below) small) 0 1 [] (omega arith) (omega arith) same))

  sent_once : (low : ℕ) (numbers : List ℕ) → RisesFrom low numbers → AreBelow 64 numbers → AreDifferent (sent numbers)
  sent_once low [] r below = AllPairs-nil Other
  sent_once low (j ∷ numbers) r below =
      ⊎_elim
      (λ t. subst AreDifferent (sym (sent_first j numbers true t ∙ (ap (λ names. map agent_name (movers n i j) ++ names) (none_sent numbers (others j numbers (omega arith, r.1) below t)) ∙ append-nil (map agent_name (movers n i j)))))
      (names_differ 97 0 (movers n i j) (rises-filter (is_next n i j) 0 (parties n i) (parties_rise n i)) (wide (movers n i j) (movers_below n i j))))
      (λ f. subst AreDifferent (sym (sent_first j numbers false f)) (sent_once (j + 1) numbers r.1 (All-tail (λ x. x < 64) j numbers below)))
      (cases_Bool (bytes_eq (atom_name j) name))

-- ---- the conditions

module _ (n : ℕ) (some : 2 ≤ n) (few : n ≤ 64) where
  abbrev made : Content
  made = generated n

  next_below : (i : ℕ) → i < n → AreBelow 64 (next_numbers n i)
  next_below i l = All-members (λ j. j < 64) (next_numbers n i) (λ j m. let b = (next_behind n i j l m).1 in omega (arith, b, few))

  -- the last atom
  last_is : last_number made ≡ n - 1
  last_is = atom_place n few (n - 1) (omega (arith, some))

  at_last : (i : ℕ) → i + 1 ≡ n → i ≡ last_number made
  at_last i e = let l = last_is in omega (arith, e, l, some)

  from_last : (i : ℕ) → i ≡ last_number made → i + 1 ≡ n
  from_last i e = let l = last_is in omega (arith, e, l, some)

  names_of_outs : (i : ℕ) → AreDifferent (map (λ (out : OutContent). out.name) (outcomes n i))
  names_of_outs i =
      lists_have (λ outs. AreDifferent (map (λ (out : OutContent). out.name) outs)) n i
      (λ _. differ_one (codes "go"))
      (λ _ _. differ_two (codes "good") (codes "bad") (λ e. let no : 103 ≡ 98 = ap (λ xs. get_or xs 0 0) e in omega (arith, no)))
      (λ _ _. differ_two (codes "x") (codes "y") (λ e. let no : 120 ≡ 121 = ap (λ xs. get_or xs 0 0) e in omega (arith, no)))

  named_once : AreNamedOnce made
  named_once = record {
    agents = agents_differ n;
    atoms = atoms_differ n few;
    outcomes = each_atom (λ x. AreDifferent (map (λ (out : OutContent). out.name) x.outs)) n (λ i l. names_of_outs i);
    parties = each_atom (λ x. AreDifferent x.parties) n (λ i l. names_differ 97 0 (parties n i) (parties_rise n i) (wide (parties n i) (parties_below n i)));
    assigned = each_placed (λ placed. All (λ case. AreDifferent (assigned_names case)) placed.out.cases) n
        (λ i l. cases_have (λ case. AreDifferent (assigned_names case)) n i (AllPairs-nil Other) (λ _. differ_one (agent_name 0)) (λ p q k _ _. differ_one (agent_name p)));
    sent = each_placed (λ placed. (name : List ℕ) → AreDifferent (sent_names placed.out.nexts name)) n
        (λ i l. nexts_have (λ nexts. (name : List ℕ) → AreDifferent (sent_names nexts name)) n i some (λ _ _. AllPairs-nil Other)
        (λ _ name. sent_once n i name (i + 1) (next_numbers n i) (rises-filter _ (i + 1) (range_with_len (i + 1) (n - (i + 1))) (rises-range (i + 1) (n - (i + 1)))) (next_below i l)));
  }

  all_declared : (xs : List ℕ) → AreBelow 4 xs → All (IsDeclared (agent_names made)) (map agent_name xs)
  all_declared xs below = All-map (IsDeclared (agent_names made)) agent_name xs (All-weaker (λ a. a < 4) (λ a. IsDeclared (agent_names made) (agent_name a)) (agent_declared n) xs below)

  -- a party is one of the agents
  party_below : (i a : ℕ) → is_in a (parties n i) ≡ true → a < 4
  party_below i a m = All-member (λ b. b < 4) a (parties n i) (parties_below n i) m

  -- what the next line of each number has, all next lines have
  pub lines_have : (P : NextContent → Type 0) (i : ℕ) → i < n → ((j : ℕ) → i < j → j < n → P (next_line n i j)) → All P (next_lines n i)
  lines_have P i l h =
      All-map P (next_line n i) (next_numbers n i) (All-members (λ j. P (next_line n i j)) (next_numbers n i) (λ j m. let b = next_behind n i j l m in h j b.0 b.1))

  declared : AreAllDeclared made
  declared = record {
    parties = each_atom (λ x. All (IsDeclared (agent_names made)) x.parties) n (λ i l. all_declared (parties n i) (parties_below n i));
    cases = each_placed (λ placed. All (λ case. All (IsDeclared (agent_names made)) (case_names case)) placed.out.cases) n
        (λ i l. cases_have (λ case. All (IsDeclared (agent_names made)) (case_names case)) n i (All-nil (IsDeclared (agent_names made))) (λ _. one (IsDeclared (agent_names made)) (agent_name 0) (agent_declared n 0 (omega arith)))
        (λ p q k mp mq. two (IsDeclared (agent_names made)) (agent_name p) (agent_name q) (agent_declared n p (party_below i p mp)) (agent_declared n q (party_below i q mq))));
    next_atoms = each_placed (λ placed. All (λ next. IsDeclared (atom_names made) next.atom) placed.out.nexts) n
        (λ i l. nexts_have (λ nexts. All (λ next. IsDeclared (atom_names made) next.atom) nexts) n i some (λ _. All-nil (λ (next : NextContent). IsDeclared (atom_names made) next.atom))
        (λ _. lines_have (λ next. IsDeclared (atom_names made) next.atom) i l (λ j _ b. atom_declared n few j b)));
    next_agents = each_placed (λ placed. All (λ next. All (IsDeclared (agent_names made)) next.agents) placed.out.nexts) n
        (λ i l. nexts_have (λ nexts. All (λ next. All (IsDeclared (agent_names made)) next.agents) nexts) n i some (λ _. All-nil (λ (next : NextContent). All (IsDeclared (agent_names made)) next.agents))
        (λ _. lines_have (λ next. All (IsDeclared (agent_names made)) next.agents) i l (λ j _ _. all_declared (movers n i j) (movers_below n i j))));
    first = atom_declared n few 0 (omega (arith, some));
    last = atom_declared n few (n - 1) (omega (arith, some));
  }

  -- a party by its name
  named_party : (i a : ℕ) → i < n → is_in a (parties n i) ≡ true → IsNamedParty made i (agent_name a)
  named_party i a l m = ap (λ k. is_in k (parties_at made i)) (agent_place n a (party_below i a m)) ∙ (ap (is_in a) (parties_are n i l) ∙ m)

  from_party : (i a : ℕ) → i < n → IsParty made i a → is_in a (parties n i) ≡ true
  from_party i a l m = ap (is_in a) (sym (parties_are n i l)) ∙ m

  all_begin : (a : ℕ) → a < 4 → IsParty made (first_number made) a
  all_begin a agent =
      ap (λ k. is_in a (parties_at made k)) (atom_place n few 0 (omega (arith, some)))
      ∙ (ap (is_in a) (parties_are n 0 (omega (arith, some)))
      ∙ cond_both (0 + 1 == n) everyone (by_turns (0 % 3)) (λ xs. is_in a xs ≡ true) (λ _. is_in-range_zero a 4 ∙ lt-ltb a 4 agent) (λ _. is_in-range_zero a 4 ∙ lt-ltb a 4 agent))

  all_end : (a : ℕ) → a < 4 → IsParty made (last_number made) a
  all_end a agent =
      ap (λ k. is_in a (parties_at made k)) last_is
      ∙ (ap (is_in a) (parties_are n (n - 1) (omega (arith, some))) ∙ everyone_last n (n - 1) a (n - 1) agent (omega (arith, some)))

  any_line : (test : NextContent → Bool) (i : ℕ) (numbers : List ℕ) → list_any test (map (next_line n i) numbers) ≡ list_any (λ j. test (next_line n i j)) numbers
  any_line test i [] = refl
  any_line test i (j ∷ numbers) = ap (λ b. test (next_line n i j) || b) (any_line test i numbers)

  all_sent : (i a : ℕ) → i < n → i + 1 ≢ n → IsParty made i a → IsSent made (next_lines n i) a
  all_sent i a l other m =
      let party = from_party i a l m in
      let agent = party_below i a party in
      let next = some_next n i a agent (omega (arith, l, other)) in
      let j = next.0 in
      let mover : is_in a (movers n i j) ≡ true = is_in-filter (is_next n i j) a (parties n i) ∙ and_from (is_next n i j a) (is_in a (parties n i)) next.3 party in
      let test : NextContent → Bool = λ line. is_in a (places_of line.agents (agent_names made)) in
      any_line test i (next_numbers n i)
      ∙ any_from (λ k. test (next_line n i k)) (next_numbers n i) j (next_from_mover n i j a next.1 next.2 mover) (ap (is_in a) (places n (movers n i j) (movers_below n i j)) ∙ mover)

  no_stranger : (i j : ℕ) → i < n → j < n → HasNoStranger made i (next_line n i j)
  no_stranger i j l b =
      All-map (λ name. IsNamedParty made i name × IsNamedParty made (place_of (atom_name j) (atom_names made)) name) agent_name (movers n i j)
      (All-members (λ a. IsNamedParty made i (agent_name a) × IsNamedParty made (place_of (atom_name j) (atom_names made)) (agent_name a)) (movers n i j)
      (λ a m. let h = mover_party n i j a m in
      (named_party i a l h.1, subst (λ k. IsNamedParty made k (agent_name a)) (sym (atom_place n few j b)) (named_party j a b (next_party n i j a h.0)))))

  below_size : 0 < slice_index (sizes_in made) (place_of (agent_name 0) (agent_names made))
  below_size = subst (λ k. 0 < slice_index (sizes_in made) k) (sym (agent_place n 0 (omega arith))) (omega arith)

  assigns_below : (i : ℕ) → All (λ out. All (λ case. AssignsBelow (sizes_in made) (case_in made case)) out.cases) (outcomes n i)
  assigns_below i = cases_have (λ case. AssignsBelow (sizes_in made) (case_in made case)) n i (All-nil Fits)
      (λ _. one Fits (set_in made (record { agent = agent_name 0; term = NumberTerm 0 })) below_size)
      (λ p q k _ _. one Fits (set_in made (record { agent = agent_name p; term = PlusTerm (agent_name q) k })) tt)
    where
      Fits : Set → Type 0
      Fits set = FitsSize set.term (value_of set.agent (sizes_in made))

  pub shaped : HasShape made
  shaped SomeAgent = omega arith
  shaped FewAgents = omega arith
  shaped FewAtoms = let c = atom_count n in omega (arith, c, few)
  shaped FewOutcomes = let c = outcomes_few n in omega (arith, c, few)
  shaped NamedOnce = named_once
  shaped AllDeclared = declared
  shaped SomeParty = each_atom (λ x. x.parties ≢ []) n (λ i l. parties_have (λ xs. map agent_name xs ≢ []) (λ e. cc) (λ e. cc) (λ e. cc) n i)
  shaped SomeOutcome = each_atom (λ x. x.outs ≢ []) n (λ i l. lists_have (λ outs. outs ≢ []) n i (λ _ e. cc) (λ _ _ e. cc) (λ _ _ e. cc))
  shaped AllBegin = all_begin
  shaped AllEnd = all_end
  shaped AllSent = each_placed (λ placed. SendsAll made placed.atom placed.out) n
      (λ i l. nexts_have (λ nexts. i ≢ last_number made → (a : ℕ) → IsParty made i a → IsSent made nexts a) n i some (λ last other. absurd (other (at_last i last))) (λ other _ a m. all_sent i a l other m))
  shaped NoStranger = each_placed (λ placed. All (HasNoStranger made placed.atom) placed.out.nexts) n
      (λ i l. nexts_have (λ nexts. All (HasNoStranger made i) nexts) n i some (λ _. All-nil (HasNoStranger made i)) (λ _. lines_have (HasNoStranger made i) i l (λ j _ b. no_stranger i j l b)))
  shaped LastEnds = each_placed (λ placed. EndsLast made placed.atom placed.out) n
      (λ i l. nexts_have (λ nexts. i ≡ last_number made → nexts ≡ []) n i some (λ _ _. refl) (λ other last. absurd (other (from_last i last))))
  shaped PartiesAlone = each_placed (λ placed. All (NamesParties made placed.atom) placed.out.cases) n
      (λ i l. cases_have (NamesParties made i) n i (All-nil (IsNamedParty made i))
      (λ last. one (IsNamedParty made i) (agent_name 0) (named_party i 0 l (everyone_last n i 0 i (omega arith) last)))
      (λ p q k mp mq. two (IsNamedParty made i) (agent_name p) (agent_name q) (named_party i p l mp) (named_party i q l mq)))
  shaped NoZeroSize = All-map (λ size. 0 < size) (λ (x : AgentContent). x.size) made.agents (All-map (λ (x : AgentContent). 0 < x.size) agent everyone (All-weaker (λ a. a < 4) (λ a. 0 < 4) (λ a l. omega arith) everyone (range_below 0 4 4 (omega arith))))
  shaped NoLargeSize = All-map (λ size. size ≤ 64) (λ (x : AgentContent). x.size) made.agents (All-map (λ (x : AgentContent). x.size ≤ 64) agent everyone (All-weaker (λ a. a < 4) (λ a. 4 ≤ 64) (λ a l. omega arith) everyone (range_below 0 4 4 (omega arith))))
  shaped NoLargeJoint = omega arith
  shaped NoLargeValue = each_placed (λ placed. All (AssignsBelow (sizes_in made)) (cases_in made placed.out)) n
      (λ i l. All-weaker (λ out. All (λ case. AssignsBelow (sizes_in made) (case_in made case)) out.cases) (λ out. All (AssignsBelow (sizes_in made)) (cases_in made out)) (λ out h. All-map (AssignsBelow (sizes_in made)) (case_in made) out.cases h) (outcomes n i) (assigns_below i))
  shaped AllCovered = each_placed (λ placed. IsAllCovered made placed.out) n
      (λ i l. lists_have (All (IsAllCovered made)) n i (λ _. one (IsAllCovered made) (outcome (codes "go") [] (next_lines n 0)) (λ d b. refl)) (λ _ _. both_endings (IsAllCovered made) (λ d b. refl) (λ d b. refl))
      (λ _ _. both_ways (IsAllCovered made) (slice_index (parties n i) 0) (slice_index (parties n i) 1) (next_lines n i) (λ d b. refl) (λ d b. refl)))
