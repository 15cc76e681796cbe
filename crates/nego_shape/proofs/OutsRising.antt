-- The faults of outcomes stand in the order of the text, where its words rise.
use Rattle.std.proofs.Common.{◌≡◌, inl, inr, ℕ, ◌+◌, ◌<◌, ◌==◌, Bool, true, false, not, ◌&&◌, cond, List, [], ◌∷◌, ◌++◌, length, map, get_or, Option, Some, None, slice_get, refl, sym, subst, ap, ap₂, ◌∙◌, arith}
use Rattle.std.proofs.lemmas.List.Elements.{All-nil, All-cons, All-head, All-tail, All-map, All-contains, All-contains_itself}
use Rattle.std.specs.List.{All, AllPairs, Contains, list_any, flat_map, filter, range_with_len}
use Rattle.std.specs.Option.{option_map_or}
use Rattle.nego_base.specs.declared.line.Word.{Word}
use Rattle.nego_base.specs.Members.{is_in, RisesFrom, IsRising}
use Rattle.nego_base.proofs.Members.{All-members, is_in-filter, nil_from_none, rises-filter, rises-range, member_from}
use Rattle.nego_base.proofs.ListLaws.{All-front, All-back, All-unmap, All-each, All-flat}
use Rattle.nego_base.proofs.PairLaws.{AllPairs-nil, AllPairs-cons, AllPairs-front, AllPairs-back, AllPairs-tail, AllPairs-unmap}
use Rattle.nego_data.specs.Cases.{covers}
use Rattle.nego_data.specs.Data.{data_count, split}
use Rattle.nego_reader.specs.declared.parsed.Parsed.{Parsed}
use Rattle.nego_reader.specs.declared.parsed.PAtom.{PAtom}
use Rattle.nego_reader.specs.declared.parsed.POut.{POut}
use Rattle.nego_reader.specs.declared.parsed.PNext.{PNext}
use Rattle.nego_reader.specs.declared.parsed.PCase.{PCase}
use Rattle.nego_reader.specs.declared.parsed.PTest.{PTest}
use Rattle.nego_reader.specs.declared.parsed.PSet.{PSet}
use Rattle.nego_reader.specs.Content.{Content, AtomContent, content_of, out_content, case_content, test_content, set_content, texts}
use Rattle.nego_reader.specs.Rows.{Row, AtomRow, OutRow, CaseRow, NextRow, out_rows, atom_rows}
use Rattle.nego_reader.specs.Rising.{words_in, case_words, test_words, set_words, IsAbove, HasRisingWords}
use Rattle.nego_shape.specs.declared.fault.ShapeKind.{ShapeKind}
use Rattle.nego_shape.specs.declared.fault.ShapeKind.TheVariants as kinds
use Rattle.nego_shape.specs.declared.fault.Many.TheVariants as many
use Rattle.nego_shape.specs.Naming.{place_of, places_of, agent_names, atom_names, sizes_in, cases_in, parties_in, parties_at}
use Rattle.nego_shape.specs.Shaped.{last_number, case_names, test_names, set_names}
use Rattle.nego_shape.specs.Conditions.{FewOutcomes, AllSent, NoStranger, LastEnds, PartiesAlone, NoLargeValue, AllCovered}
use Rattle.nego_shape.specs.Faults.{Spot, spot, spot_if, of_agents, each_out, faults, is_sent, missing, strangers, case_line, outsiders, is_overfull, overfull, uncovered, IsAhead}
use Rattle.nego_shape.proofs.FlatPairs.{AllBetween, pairs_of_pieces, pairs_inside, pairs_of_all}
use Rattle.nego_shape.proofs.Numbered.{empty_parts}
use Rattle.nego_shape.proofs.RisingText.{atoms_lines}
use Rattle.nego_shape.proofs.Places.{parties_in-rises}
use Rattle.nego_shape.proofs.OutLists.{outs_in, pairs-each_out}

-- ---- the lines of outcomes

-- each line of the one outcome stands above each of the other
abbrev pub IsOver : POut → POut → Type 0
IsOver one two = AllBetween IsAbove (out_rows one) (out_rows two)

-- the lines of the outcome stand one above the other
abbrev pub HasRisingRows : POut → Type 0
HasRisingRows out = AllPairs IsAbove (out_rows out)

module _ (p : Parsed) (rises : HasRisingWords p) where
  -- the outcomes of two atoms
  outs_between : (one two : PAtom) → AllBetween IsAbove (atom_rows one) (atom_rows two) → AllBetween IsOver one.outs two.outs
  unfolding atom_rows
  outs_between one two h k d l m e n i f q =
      let rows = All-each (λ row. All (IsAbove row) (atom_rows two)) out_rows one.outs (All-tail (λ row. All (IsAbove row) (atom_rows two)) (AtomRow one.name one.parties) (flat_map out_rows one.outs) h) k d l i f q in
      All-each (IsAbove (get_or (out_rows (get_or one.outs k d)) i f)) out_rows two.outs
      (All-tail (IsAbove (get_or (out_rows (get_or one.outs k d)) i f)) (AtomRow two.name two.parties) (flat_map out_rows two.outs) rows) m e n

  outs_lines : (atom : PAtom) → AllPairs IsAbove (atom_rows atom) → AllPairs IsAbove (flat_map out_rows atom.outs)
  unfolding atom_rows
  outs_lines atom h = AllPairs-tail IsAbove (AtomRow atom.name atom.parties) (flat_map out_rows atom.outs) h

  pub outs_over : AllPairs IsOver (outs_in p.atoms)
  outs_over =
      pairs_of_all IsOver (λ (atom : PAtom). atom.outs) p.atoms
      (λ i j d l m. outs_between (get_or p.atoms i d) (get_or p.atoms j d) (pairs_of_pieces IsAbove atom_rows p.atoms (atoms_lines p rises) i j d l m))
      (λ k d l. pairs_of_pieces IsAbove out_rows (get_or p.atoms k d).outs (outs_lines (get_or p.atoms k d) (pairs_inside IsAbove atom_rows p.atoms (atoms_lines p rises) k d l)))

  pub outs_rise : All HasRisingRows (outs_in p.atoms)
  outs_rise =
      All-flat HasRisingRows (λ (atom : PAtom). atom.outs) p.atoms
      (λ k d l. pairs_inside IsAbove out_rows (get_or p.atoms k d).outs (outs_lines (get_or p.atoms k d) (pairs_inside IsAbove atom_rows p.atoms (atoms_lines p rises) k d l)))

-- what the rows of an outcome have
module _ (P : Row → Type 0) (out : POut) (h : All P (out_rows out)) where
  behind_name : All P (map CaseRow out.cases ++ map NextRow out.nexts)
  unfolding out_rows
  behind_name = All-tail P (OutRow out.name) (map CaseRow out.cases ++ map NextRow out.nexts) h

  on_name : P (OutRow out.name)
  unfolding out_rows
  on_name = All-head P (OutRow out.name) (map CaseRow out.cases ++ map NextRow out.nexts) h

  on_cases : All (λ case. P (CaseRow case)) out.cases
  on_cases = All-unmap P CaseRow out.cases (All-front P (map CaseRow out.cases) (map NextRow out.nexts) behind_name)

  on_nexts : All (λ next. P (NextRow next)) out.nexts
  on_nexts = All-unmap P NextRow out.nexts (All-back P (map CaseRow out.cases) (map NextRow out.nexts) behind_name)

-- those behind its name rise
module _ (out : POut) (h : HasRisingRows out) where
  rows_rise : AllPairs IsAbove (map CaseRow out.cases ++ map NextRow out.nexts)
  unfolding out_rows
  rows_rise = AllPairs-tail IsAbove (OutRow out.name) (map CaseRow out.cases ++ map NextRow out.nexts) h

  cases_rise : AllPairs (λ one two. IsAbove (CaseRow one) (CaseRow two)) out.cases
  cases_rise = AllPairs-unmap IsAbove CaseRow out.cases (AllPairs-front IsAbove (map CaseRow out.cases) (map NextRow out.nexts) rows_rise)

  nexts_rise : AllPairs (λ one two. IsAbove (NextRow one) (NextRow two)) out.nexts
  nexts_rise = AllPairs-unmap IsAbove NextRow out.nexts (AllPairs-back IsAbove (map CaseRow out.cases) (map NextRow out.nexts) rows_rise)

-- ---- where faults stand

-- the fault stands on the line of a name in this row
abbrev pub OnRow : Row → Spot → Type 0
OnRow row spot = (word : Word) × Contains (words_in row) word × (word.line ≡ spot.fault.line)

-- the fault stands in a row of the outcome
abbrev pub OnOut : POut → Spot → Type 0
OnOut out spot = (row : Row) × Contains (out_rows out) row × OnRow row spot

rows_apart : (row below : Row) (one two : Spot) → IsAbove row below → OnRow row one → OnRow below two → IsAhead one two
rows_apart row below one two above on on' =
    let line : on.0.line < on'.0.line = All-contains (λ (w : Word). on.0.line < w.line) (words_in below) on'.0 (All-contains (λ (w : Word). All (λ (v : Word). w.line < v.line) (words_in below)) (words_in row) on.0 above on.1) on'.1 in
    inl (subst (λ n. n < two.fault.line) on.2 (subst (λ n. on.0.line < n) on'.2 line))

outs_apart : (x y : POut) (one two : Spot) → IsOver x y → OnOut x one → OnOut y two → IsAhead one two
outs_apart x y one two over on on' =
    rows_apart on.0 on'.0 one two (All-contains (IsAbove on.0) (out_rows y) on'.0 (All-contains (λ row. All (IsAbove row) (out_rows y)) (out_rows x) on.0 over on.1) on'.1) on.2 on'.2

-- ---- faults of one row

-- on the line of a name, with rising numbers
module _ (line : ℕ) (kind : ℕ → ShapeKind) where
  numbers_rise : (low : ℕ) (xs : List ℕ) → RisesFrom low xs → AllPairs IsAhead (map (λ a. spot line a (kind a)) xs)
  numbers_rise low [] h = AllPairs-nil IsAhead
  numbers_rise low (x ∷ xs) h =
      AllPairs-cons IsAhead (spot line x (kind x)) (map (λ a. spot line a (kind a)) xs)
      (All-map (IsAhead (spot line x (kind x))) (λ a. spot line a (kind a)) xs (λ k d l. inr (refl, behind k d l)))
      (numbers_rise (x + 1) xs h.1)
    where
      behind : All (λ y. x < y) xs
      behind = All-members (λ y. x < y) xs (λ y m. let above = member_from (x + 1) y xs h.1 m in omega (arith, above))

  on_row : (row : Row) (word : Word) (xs : List ℕ) → Contains (words_in row) word → word.line ≡ line → All (OnRow row) (map (λ a. spot line a (kind a)) xs)
  on_row row word xs inside is = All-map (OnRow row) (λ a. spot line a (kind a)) xs (λ k d l. (word, inside, is))

-- on the line of the first name of a case, which names somebody where there is a fault
on_case : (case : PCase) (kind : ℕ → ShapeKind) (xs : List ℕ) → (case_words case ≡ [] → xs ≡ []) → All (OnRow (CaseRow case)) (map (λ a. spot (case_line case) a (kind a)) xs)
on_case case kind xs named = go (case_words case) refl
  where
    go : (words : List Word) → case_words case ≡ words → All (OnRow (CaseRow case)) (map (λ a. spot (case_line case) a (kind a)) xs)
    go [] e = subst (λ ys. All (OnRow (CaseRow case)) (map (λ a. spot (case_line case) a (kind a)) ys)) (sym (named e)) (All-nil (OnRow (CaseRow case)))
    go (word ∷ words) e =
        on_row (case_line case) kind (CaseRow case) word xs (subst (λ ws. Contains ws word) (sym e) (0, omega arith, refl)) (ap (λ ws. option_map_or (λ (w : Word). w.line) (slice_get ws 0) 0) (sym e))

-- where a test holds
if_rises : (test : Bool) (line : ℕ) (kind : ShapeKind) → AllPairs IsAhead (spot_if test line kind)
if_rises true line kind = AllPairs-cons IsAhead (spot line 0 kind) [] (All-nil (IsAhead (spot line 0 kind))) (AllPairs-nil IsAhead)
if_rises false line kind = AllPairs-nil IsAhead

if_on : (row : Row) (word : Word) (words : List Word) → words_in row ≡ word ∷ words → (test : Bool) (kind : ShapeKind) → All (OnRow row) (spot_if test word.line kind)
if_on row word words is true kind = All-cons (OnRow row) (spot word.line 0 kind) [] (word, subst (λ ws. Contains ws word) (sym is) (0, omega arith, refl), refl) (All-nil (OnRow row))
if_on row word words is false kind = All-nil (OnRow row)

-- ---- faults of the rows of an outcome

module _ {A : Type 0} (row : A → Row) (f : A → List Spot) (each : (x : A) → All (OnRow (row x)) (f x)) (xs : List A) where
  pieces_on : (out : POut) → All (λ x. Contains (out_rows out) (row x)) xs → All (OnOut out) (flat_map f xs)
  pieces_on out inside = All-flat (OnOut out) f xs (λ k d l i e m. (row (get_or xs k d), inside k d l, each (get_or xs k d) i e m))

  pieces_rise : ((x : A) → AllPairs IsAhead (f x)) → AllPairs (λ x y. IsAbove (row x) (row y)) xs → AllPairs IsAhead (flat_map f xs)
  pieces_rise line above =
      pairs_of_all IsAhead f xs
      (λ i j d before within k e l m g q. rows_apart (row (get_or xs i d)) (row (get_or xs j d)) (get_or (f (get_or xs i d)) k e) (get_or (f (get_or xs j d)) m g) (above i j d before within) (each (get_or xs i d) k e l) (each (get_or xs j d) m g q))
      (λ k d l. line (get_or xs k d))

module _ (out : POut) where
  cases_inside : All (λ case. Contains (out_rows out) (CaseRow case)) out.cases
  cases_inside = on_cases (Contains (out_rows out)) out (All-contains_itself (out_rows out))

  nexts_inside : All (λ next. Contains (out_rows out) (NextRow next)) out.nexts
  nexts_inside = on_nexts (Contains (out_rows out)) out (All-contains_itself (out_rows out))

  name_on : (spots : List Spot) → All (OnRow (OutRow out.name)) spots → All (OnOut out) spots
  name_on spots h k d l = (OutRow out.name, on_name (Contains (out_rows out)) out (All-contains_itself (out_rows out)), h k d l)

-- ---- who stands in a fault

none_kept : (test : ℕ → Bool) (xs : List ℕ) → ((a : ℕ) → test a ≡ false) → filter test xs ≡ []
none_kept test xs h = nil_from_none (filter test xs) (λ a. is_in-filter test a xs ∙ ap (λ b. b && is_in a xs) (h a))

no_tests : (tests : List PTest) → flat_map test_words tests ≡ [] → tests ≡ []
no_tests [] h = refl
no_tests (test ∷ tests) h = absurd cc

no_sets : (sets : List PSet) → flat_map set_words sets ≡ [] → sets ≡ []
no_sets [] h = refl
no_sets (set ∷ sets) h = absurd cc

module _ (c : Content) where
  parties_rise : (n : ℕ) → IsRising (parties_at c n)
  parties_rise n = go (slice_get c.atoms n)
    where
      go : (o : Option AtomContent) → IsRising (option_map_or (λ (atom : AtomContent). parties_in c atom.parties) o [])
      go None = tt
      go (Some atom) = (parties_in-rises c atom.parties).rising

  range_rises : (test : ℕ → Bool) (n : ℕ) → IsRising (filter test (range_with_len 0 n))
  range_rises test n = rises-filter test 0 (range_with_len 0 n) (rises-range 0 n)

  -- a case without names names no party, and assigns nothing
  no_name : (case : PCase) (names : List (List ℕ)) → case_words case ≡ [] → case_names (case_content case) ≡ names → names ≡ []
  no_name case names h is =
      let two = empty_parts (flat_map test_words case.tests) (flat_map set_words case.sets) h in
      sym is ∙ ap₂ (λ (tests : List PTest) (sets : List PSet). flat_map test_names (map test_content tests) ++ flat_map set_names (map set_content sets)) (no_tests case.tests two.0) (no_sets case.sets two.1)

  no_outsider : (case : PCase) (test : ℕ → Bool) → case_words case ≡ [] → filter test (parties_in c (case_names (case_content case))) ≡ []
  no_outsider case test h =
      ap (λ names. filter test (parties_in c names)) (no_name case (case_names (case_content case)) h refl)
      ∙ ap (filter test) (none_kept (λ a. is_in a (places_of [] (agent_names c))) (range_with_len 0 (length c.agents)) (λ a. refl))

  no_overfull : (case : PCase) → case_words case ≡ [] → filter (is_overfull c (case_content case)) (range_with_len 0 (length c.agents)) ≡ []
  no_overfull case h =
      none_kept (is_overfull c (case_content case)) (range_with_len 0 (length c.agents))
      (λ a. ap (λ (sets : List PSet). is_overfull c (record { tests = map test_content case.tests; sets = map set_content sets }) a)
      (no_sets case.sets (empty_parts (flat_map test_words case.tests) (flat_map set_words case.sets) h).1))

  -- who stands in the faults of an outcome, a next line, a case
  abbrev unsent : ℕ → POut → List ℕ
  unsent n out = filter (λ a. not (is_sent c (out_content out).nexts a)) (parties_at c n)

  abbrev bare : POut → List ℕ
  bare out = filter (λ d. not (list_any (λ case. covers case (split (sizes_in c) d)) (cases_in c (out_content out)))) (range_with_len 0 (data_count (sizes_in c)))

  abbrev is_strange : ℕ → PNext → ℕ → Bool
  is_strange n next a = not (is_in a (parties_at c n) && is_in a (parties_at c (place_of next.atom.text (atom_names c))))

  abbrev strange : ℕ → PNext → List ℕ
  strange n next = filter (is_strange n next) (parties_in c (texts next.agents))

  abbrev outside : ℕ → PCase → List ℕ
  outside n case = filter (λ a. not (is_in a (parties_at c n))) (parties_in c (case_names (case_content case)))

  abbrev over : PCase → List ℕ
  over case = filter (is_overfull c (case_content case)) (range_with_len 0 (length c.agents))

-- ---- each condition

module _ (p : Parsed) (rises : HasRisingWords p) where
  abbrev c : Content
  c = content_of p

  -- what outcomes give rises, where what each gives does
  outs_give : (f : ℕ → ℕ → POut → List Spot) → ((n o : ℕ) (out : POut) → All (OnOut out) (f n o out)) → ((n o : ℕ) (out : POut) → HasRisingRows out → AllPairs IsAhead (f n o out)) → AllPairs IsAhead (each_out f 0 0 p.atoms)
  outs_give f each inside = pairs-each_out IsAhead IsOver HasRisingRows OnOut outs_apart f each inside 0 0 p.atoms (outs_over p rises) (outs_rise p rises)

  pub rising_few_outcomes : AllPairs IsAhead (faults FewOutcomes p)
  rising_few_outcomes =
      outs_give (λ n o out. spot_if (o == 256) out.name.line (kinds.TooMany many.Outcomes))
      (λ n o out. name_on out (spot_if (o == 256) out.name.line (kinds.TooMany many.Outcomes)) (if_on (OutRow out.name) out.name [] refl (o == 256) (kinds.TooMany many.Outcomes)))
      (λ n o out h. if_rises (o == 256) out.name.line (kinds.TooMany many.Outcomes))

  pub rising_all_sent : AllPairs IsAhead (faults AllSent p)
  rising_all_sent = outs_give (missing c) (λ n o out. name_on out (missing c n o out) (on n o out (n == last_number c))) (λ n o out h. rise n o out (n == last_number c))
    where
      on : (n o : ℕ) (out : POut) (b : Bool) → All (OnRow (OutRow out.name)) (cond b [] (of_agents out.name.line (kinds.NextMissing (record { 0 = o })) (unsent c n out)))
      on n o out true = All-nil (OnRow (OutRow out.name))
      on n o out false = on_row out.name.line (λ a. kinds.NextMissing (record { 0 = o }) (record { 0 = a })) (OutRow out.name) out.name (unsent c n out) (0, omega arith, refl) refl

      rise : (n o : ℕ) (out : POut) (b : Bool) → AllPairs IsAhead (cond b [] (of_agents out.name.line (kinds.NextMissing (record { 0 = o })) (unsent c n out)))
      rise n o out true = AllPairs-nil IsAhead
      rise n o out false = numbers_rise out.name.line (λ a. kinds.NextMissing (record { 0 = o }) (record { 0 = a })) 0 (unsent c n out) (rises-filter (λ a. not (is_sent c (out_content out).nexts a)) 0 (parties_at c n) (parties_rise c n))

  pub rising_all_covered : AllPairs IsAhead (faults AllCovered p)
  rising_all_covered = outs_give (λ n o out. uncovered c o out)
      (λ n o out. name_on out (uncovered c o out) (on_row out.name.line (λ d. kinds.NotTotal (record { 0 = o }) d) (OutRow out.name) out.name (bare c out) (0, omega arith, refl) refl))
      (λ n o out h. numbers_rise out.name.line (λ d. kinds.NotTotal (record { 0 = o }) d) 0 (bare c out) (range_rises c (λ d. not (list_any (λ case. covers case (split (sizes_in c) d)) (cases_in c (out_content out)))) (data_count (sizes_in c))))

  -- what the next lines give, and what the cases do
  nexts_give : (f : ℕ → ℕ → PNext → List Spot) → ((n o : ℕ) (next : PNext) → All (OnRow (NextRow next)) (f n o next)) → ((n o : ℕ) (next : PNext) → AllPairs IsAhead (f n o next)) → AllPairs IsAhead (each_out (λ n o out. flat_map (f n o) out.nexts) 0 0 p.atoms)
  nexts_give f each line =
      outs_give (λ n o out. flat_map (f n o) out.nexts) (λ n o out. pieces_on NextRow (f n o) (each n o) out.nexts out (nexts_inside out)) (λ n o out h. pieces_rise NextRow (f n o) (each n o) out.nexts (line n o) (nexts_rise out h))

  cases_give : (f : ℕ → ℕ → PCase → List Spot) → ((n o : ℕ) (case : PCase) → All (OnRow (CaseRow case)) (f n o case)) → ((n o : ℕ) (case : PCase) → AllPairs IsAhead (f n o case)) → AllPairs IsAhead (each_out (λ n o out. flat_map (f n o) out.cases) 0 0 p.atoms)
  cases_give f each line =
      outs_give (λ n o out. flat_map (f n o) out.cases) (λ n o out. pieces_on CaseRow (f n o) (each n o) out.cases out (cases_inside out)) (λ n o out h. pieces_rise CaseRow (f n o) (each n o) out.cases (line n o) (cases_rise out h))

  pub rising_no_stranger : AllPairs IsAhead (faults NoStranger p)
  rising_no_stranger = nexts_give (strangers c)
      (λ n o next. on_row next.atom.line (λ a. kinds.NextStranger (record { 0 = o }) (record { 0 = a }) (record { 0 = place_of next.atom.text (atom_names c) })) (NextRow next) next.atom (strange c n next) (0, omega arith, refl) refl)
      (λ n o next. numbers_rise next.atom.line (λ a. kinds.NextStranger (record { 0 = o }) (record { 0 = a }) (record { 0 = place_of next.atom.text (atom_names c) })) 0 (strange c n next)
      (rises-filter (is_strange c n next) 0 (parties_in c (texts next.agents)) (parties_in-rises c (texts next.agents)).rising))

  pub rising_last_ends : AllPairs IsAhead (faults LastEnds p)
  rising_last_ends = nexts_give (λ n o next. spot_if (n == last_number c) next.atom.line (kinds.LastLeads (record { 0 = o })))
      (λ n o next. if_on (NextRow next) next.atom next.agents refl (n == last_number c) (kinds.LastLeads (record { 0 = o })))
      (λ n o next. if_rises (n == last_number c) next.atom.line (kinds.LastLeads (record { 0 = o })))

  pub rising_parties_alone : AllPairs IsAhead (faults PartiesAlone p)
  rising_parties_alone = cases_give (outsiders c)
      (λ n o case. on_case case (λ a. kinds.NotParty (record { 0 = o }) (record { 0 = a })) (outside c n case) (no_outsider c case (λ a. not (is_in a (parties_at c n)))))
      (λ n o case. numbers_rise (case_line case) (λ a. kinds.NotParty (record { 0 = o }) (record { 0 = a })) 0 (outside c n case)
      (rises-filter (λ a. not (is_in a (parties_at c n))) 0 (parties_in c (case_names (case_content case))) (parties_in-rises c (case_names (case_content case))).rising))

  pub rising_no_large_value : AllPairs IsAhead (faults NoLargeValue p)
  rising_no_large_value = cases_give (λ n o case. overfull c o case)
      (λ n o case. on_case case (λ a. kinds.ValueTooLarge (record { 0 = o }) (record { 0 = a })) (over c case) (no_overfull c case))
      (λ n o case. numbers_rise (case_line case) (λ a. kinds.ValueTooLarge (record { 0 = o }) (record { 0 = a })) 0 (over c case) (range_rises c (is_overfull c (case_content case)) (length c.agents)))
