-- The faults of outcomes and what their conditions say: a list of faults is empty exactly where its condition holds.
use Rattle.std.proofs.Common.{◌≡◌, ℕ, ◌+◌, ◌<◌, ◌≤◌, ◌==◌, Bool, true, false, not, ◌&&◌, cond, nat_le, List, [], ◌∷◌, length, map, get_or, slice_index, refl, sym, subst, ap, ◌∙◌, arith, eqb-true, eq-eqb}
use Rattle.std.proofs.lemmas.Bool.{and_parts, and_from, ltb-true, lt-ltb, false_from_ne_true}
use Rattle.std.proofs.lemmas.Bool.Decides.{nat_tests}
use Rattle.std.proofs.lemmas.List.{length-map, length-append}
use Rattle.std.proofs.lemmas.List.Elements.{All-head, All-tail, All-map}
use Rattle.std.specs.Bool.{⊤}
use Rattle.std.specs.List.{All, list_any, flat_map, filter, range_with_len}
use Rattle.nego_base.specs.Members.{is_in}
use Rattle.nego_base.proofs.BoolLaws.{not_not, not_true, not_both, both_false, any_none}
use Rattle.nego_base.proofs.ListLaws.{All-unmap, All-each, All-back}
use Rattle.nego_base.proofs.Members.{is_in-filter, is_in-range_zero, All-member, All-members, nil_from_none}
use Rattle.nego_data.specs.declared.cases.Set.{Set}
use Rattle.nego_data.specs.CaseForm.{AssignsBelow, FitsSize}
use Rattle.nego_data.specs.Cases.{covers}
use Rattle.nego_data.specs.Data.{data_count, split}
use Rattle.nego_reader.specs.declared.parsed.Parsed.{Parsed}
use Rattle.nego_reader.specs.declared.parsed.PAtom.{PAtom}
use Rattle.nego_reader.specs.declared.parsed.POut.{POut}
use Rattle.nego_reader.specs.declared.parsed.PNext.{PNext}
use Rattle.nego_reader.specs.declared.parsed.PCase.{PCase}
use Rattle.nego_reader.specs.Content.{Content, CaseContent, SetContent, TermContent, AnyTerm, NumberTerm, PlusTerm, MinusTerm, content_of, atom_content, out_content, next_content, case_content, texts}
use Rattle.nego_shape.specs.declared.fault.ShapeKind.TheVariants as kinds
use Rattle.nego_shape.specs.declared.fault.Many.TheVariants as many
use Rattle.nego_shape.specs.Naming.{PlacedOut, place_of, places_of, agent_names, atom_names, sizes_in, outs_from, all_outs, parties_in, parties_at, set_in, case_in, cases_in, term_in}
use Rattle.nego_shape.specs.Made.{placed_at}
use Rattle.nego_shape.specs.Shaped.{AreAllDeclared, IsDeclared, IsParty, SendsAll, HasNoStranger, EndsLast, NamesParties, IsAllCovered, last_number, case_names, test_names, set_names, term_names}
use Rattle.nego_shape.specs.Conditions.{Holds, FewOutcomes, AllSent, NoStranger, LastEnds, PartiesAlone, NoLargeValue, AllCovered}
use Rattle.nego_shape.specs.Faults.{Spot, spot, spot_if, of_agents, faults, is_sent, missing, strangers, case_line, outsiders, is_too_large, is_overfull, overfull, uncovered}
use Rattle.nego_shape.proofs.Numbered.{empty_map, clear-flat, empty-flat}
use Rattle.nego_shape.proofs.OutLists.{outs_in, clear-each_out, empty-each_out}
use Rattle.nego_shape.proofs.Places.{in_parties_in}
use Rattle.nego_shape.proofs.ShapedDiagrams.{agents-count}
use Rattle.nego_shape.proofs.SpotLists.{few-past, past-few, each_out-flat}

none_any : {X : Type 0} (test : X → Bool) (xs : List X) → All (λ x. test x ≡ false) xs → list_any test xs ≡ false
none_any test [] h = refl
none_any test (x ∷ xs) h = rw (All-head (λ y. test y ≡ false) x xs h) (none_any test xs (All-tail (λ y. test y ≡ false) x xs h))

-- ---- numbers that pass a test

first_false : (s t : Bool) → (s && t) ≡ false → t ≡ true → s ≡ false
first_false true t h k = sym k ∙ h
first_false false t h k = refl

absent : (s t : Bool) → (t ≡ true → s ≡ false) → (s && t) ≡ false
absent false t h = refl
absent true true h = h refl
absent true false h = refl

module _ {B : Type 0} (f : ℕ → B) (test : ℕ → Bool) (xs : List ℕ) where
  pub none_passes : map f (filter test xs) ≡ [] → (a : ℕ) → is_in a xs ≡ true → test a ≡ false
  none_passes h a m = first_false (test a) (is_in a xs) (sym (is_in-filter test a xs) ∙ ap (is_in a) (empty_map f (filter test xs) h)) m

  pub passes_none : ((a : ℕ) → is_in a xs ≡ true → test a ≡ false) → map f (filter test xs) ≡ []
  passes_none h = ap (map f) (nil_from_none (filter test xs) (λ a. is_in-filter test a xs ∙ absent (test a) (is_in a xs) (h a)))

-- what holds of each agent that these names name, holds of the place of each name, and the way back
module _ (c : Content) (Q : ℕ → Type 0) (names : List (List ℕ)) where
  named_all : All (IsDeclared (agent_names c)) names → ((a : ℕ) → is_in a (parties_in c names) ≡ true → Q a) → All (λ name. Q (place_of name (agent_names c))) names
  named_all declared h =
      let below = All-map (λ a. a < length (agent_names c)) (λ name. place_of name (agent_names c)) names declared in
      All-unmap Q (λ name. place_of name (agent_names c)) names (All-members Q (places_of names (agent_names c)) (λ a m.
      h a (in_parties_in c a names (subst (λ n. a < n) (agents-count c) (All-member (λ b. b < length (agent_names c)) a (places_of names (agent_names c)) below m)) m)))

  all_named : All (λ name. Q (place_of name (agent_names c))) names → (a : ℕ) → is_in a (parties_in c names) ≡ true → Q a
  all_named h a m =
      All-member Q a (places_of names (agent_names c)) (All-map Q (λ name. place_of name (agent_names c)) names h)
      (and_parts (is_in a (places_of names (agent_names c))) (is_in a (range_with_len 0 (length c.agents))) (sym (is_in-filter (λ x. is_in x (places_of names (agent_names c))) a (range_with_len 0 (length c.agents))) ∙ m)).0

-- ---- pieces of outcomes that give nothing

module _ {A B C : Type 0} (f : A → List B) (g : A → C) (xs : List A) where
  clear_pieces : (D P : C → Type 0) → ((x : A) → D (g x) → f x ≡ [] → P (g x)) → All D (map g xs) → flat_map f xs ≡ [] → All P (map g xs)
  clear_pieces D P each d h = let none = clear-flat f xs h in All-map P g xs (λ k e l. each (get_or xs k e) (All-unmap D g xs d k e l) (none k e l))

  empty_pieces : (P : C → Type 0) → ((x : A) → P (g x) → f x ≡ []) → All P (map g xs) → flat_map f xs ≡ []
  empty_pieces P each h = empty-flat f xs (λ k e l. each (get_or xs k e) (All-unmap P g xs h k e l))

-- ---- each rule at an outcome

module _ (c : Content) (n o : ℕ) where
  clear_missing : (out : POut) → missing c n o out ≡ [] → SendsAll c n (out_content out)
  clear_missing out h other a party =
      let off = false_from_ne_true (n == last_number c) (λ t. other (eqb-true n (last_number c) t)) in
      let k : of_agents out.name.line (kinds.NextMissing (record { 0 = o })) (filter (λ b. not (is_sent c (out_content out).nexts b)) (parties_at c n)) ≡ [] = rw off at h in
      not_not (is_sent c (out_content out).nexts a) (none_passes (λ b. spot out.name.line b (kinds.NextMissing (record { 0 = o }) (record { 0 = b }))) (λ b. not (is_sent c (out_content out).nexts b)) (parties_at c n) k a party)

  empty_missing : (out : POut) → SendsAll c n (out_content out) → missing c n o out ≡ []
  empty_missing out h = go (n == last_number c) refl
    where
      go : (b : Bool) → (n == last_number c) ≡ b → cond b [] (of_agents out.name.line (kinds.NextMissing (record { 0 = o })) (filter (λ a. not (is_sent c (out_content out).nexts a)) (parties_at c n))) ≡ []
      go true e = refl
      go false e =
          passes_none (λ b. spot out.name.line b (kinds.NextMissing (record { 0 = o }) (record { 0 = b }))) (λ b. not (is_sent c (out_content out).nexts b)) (parties_at c n)
          (λ a m. not_true (is_sent c (out_content out).nexts a) (h (λ same. absurd (cc (eq-eqb n (last_number c) same))) a m))

  -- who stands on a next line
  module _ (next : PNext) where
    abbrev both : ℕ → Bool
    both a = is_in a (parties_at c n) && is_in a (parties_at c (place_of next.atom.text (atom_names c)))

    abbrev strange : ℕ → Spot
    strange a = spot next.atom.line a (kinds.NextStranger (record { 0 = o }) (record { 0 = a }) (record { 0 = place_of next.atom.text (atom_names c) }))

    clear_strangers : All (IsDeclared (agent_names c)) (next_content next).agents → strangers c n o next ≡ [] → HasNoStranger c n (next_content next)
    clear_strangers declared h =
        named_all c (λ a. IsParty c n a × IsParty c (place_of next.atom.text (atom_names c)) a) (texts next.agents) declared
        (λ a m. and_parts (is_in a (parties_at c n)) (is_in a (parties_at c (place_of next.atom.text (atom_names c)))) (not_not (both a) (none_passes strange (λ b. not (both b)) (parties_in c (texts next.agents)) h a m)))

    empty_strangers : HasNoStranger c n (next_content next) → strangers c n o next ≡ []
    empty_strangers h =
        passes_none strange (λ b. not (both b)) (parties_in c (texts next.agents)) (λ a m.
        let two = all_named c (λ b. IsParty c n b × IsParty c (place_of next.atom.text (atom_names c)) b) (texts next.agents) h a m in
        not_true (both a) (and_from (is_in a (parties_at c n)) (is_in a (parties_at c (place_of next.atom.text (atom_names c)))) two.0 two.1))

  -- whom a case names
  module _ (case : PCase) where
    abbrev outside : ℕ → Spot
    outside a = spot (case_line case) a (kinds.NotParty (record { 0 = o }) (record { 0 = a }))

    clear_outsiders : All (IsDeclared (agent_names c)) (case_names (case_content case)) → outsiders c n o case ≡ [] → NamesParties c n (case_content case)
    clear_outsiders declared h =
        named_all c (IsParty c n) (case_names (case_content case)) declared
        (λ a m. not_not (is_in a (parties_at c n)) (none_passes outside (λ b. not (is_in b (parties_at c n))) (parties_in c (case_names (case_content case))) h a m))

    empty_outsiders : NamesParties c n (case_content case) → outsiders c n o case ≡ []
    empty_outsiders h =
        passes_none outside (λ b. not (is_in b (parties_at c n))) (parties_in c (case_names (case_content case)))
        (λ a m. not_true (is_in a (parties_at c n)) (all_named c (IsParty c n) (case_names (case_content case)) h a m))

  abbrev leading : Bool → List PNext → List Spot
  leading b nexts = flat_map (λ (next : PNext). spot_if b next.atom.line (kinds.LastLeads (record { 0 = o }))) nexts

  clear_leading : (nexts : List PNext) → leading (n == last_number c) nexts ≡ [] → n ≡ last_number c → map next_content nexts ≡ []
  clear_leading [] h same = refl
  clear_leading (next ∷ nexts) h same = absurd (let k : leading true (next ∷ nexts) ≡ [] = subst (λ b. leading b (next ∷ nexts) ≡ []) (eq-eqb n (last_number c) same) h in let none : ⊥ = cc in none)

  empty_leading : (nexts : List PNext) → (n ≡ last_number c → map next_content nexts ≡ []) → leading (n == last_number c) nexts ≡ []
  empty_leading nexts h = go (n == last_number c) refl
    where
      go : (b : Bool) → (n == last_number c) ≡ b → leading b nexts ≡ []
      go true e = ap (leading true) (empty_map next_content nexts (h (eqb-true n (last_number c) e)))
      go false e = empty-flat (λ (next : PNext). spot_if false next.atom.line (kinds.LastLeads (record { 0 = o }))) nexts (λ k d l. refl)

-- a number that is too large for a size
module _ (c : Content) where
  above : (s m : ℕ) → nat_le s m ≡ false → m < s
  above s m k = grind (arith, nat_tests)

  not_below : (s m : ℕ) → m < s → nat_le s m ≡ false
  not_below s m k = grind (arith, nat_tests)

  fits : (term : TermContent) (size : ℕ) → is_too_large size term ≡ false → FitsSize (term_in c term) size
  fits AnyTerm size h = tt
  fits (NumberTerm n) size h = above size n h
  fits (PlusTerm name n) size h = tt
  fits (MinusTerm name n) size h = tt

  none_too_large : (term : TermContent) (size : ℕ) → FitsSize (term_in c term) size → is_too_large size term ≡ false
  none_too_large AnyTerm size h = refl
  none_too_large (NumberTerm n) size h = not_below size n h
  none_too_large (PlusTerm name n) size h = refl
  none_too_large (MinusTerm name n) size h = refl

  module _ (o : ℕ) (case : PCase) where
    abbrev too_large_for : ℕ → SetContent → Bool
    too_large_for a set = (place_of set.agent (agent_names c) == a) && is_too_large (slice_index (sizes_in c) a) set.term

    abbrev over : ℕ → Spot
    over a = spot (case_line case) a (kinds.ValueTooLarge (record { 0 = o }) (record { 0 = a }))

    clear_overfull : All (IsDeclared (agent_names c)) (case_names (case_content case)) → overfull c o case ≡ [] → AssignsBelow (sizes_in c) (case_in c (case_content case))
    clear_overfull declared h =
        All-map (λ (set : Set). FitsSize set.term (slice_index (sizes_in c) set.agent.0)) (set_in c) (case_content case).sets (λ j d l.
        let set = get_or (case_content case).sets j d in
        let a = place_of set.agent (agent_names c) in
        let below : a < length c.agents = subst (λ n. a < n) (agents-count c) (assigned_declared j d l) in
        let none = any_none (too_large_for a) (case_content case).sets (none_passes over (is_overfull c (case_content case)) (range_with_len 0 (length c.agents)) h a (is_in-range_zero a (length c.agents) ∙ lt-ltb a (length c.agents) below)) in
        fits set.term (slice_index (sizes_in c) a) (not_both (a == a) (is_too_large (slice_index (sizes_in c) a) set.term) (none j d l) (eq-eqb a a refl)))
      where
        assigned_declared : (j : ℕ) (d : SetContent) → j < length (case_content case).sets → IsDeclared (agent_names c) (get_or (case_content case).sets j d).agent
        assigned_declared j d l =
            All-head (IsDeclared (agent_names c)) (get_or (case_content case).sets j d).agent (term_names (get_or (case_content case).sets j d).term)
            (All-each (IsDeclared (agent_names c)) set_names (case_content case).sets (All-back (IsDeclared (agent_names c)) (flat_map test_names (case_content case).tests) (flat_map set_names (case_content case).sets) declared) j d l)

    empty_overfull : AssignsBelow (sizes_in c) (case_in c (case_content case)) → overfull c o case ≡ []
    empty_overfull h =
        passes_none over (is_overfull c (case_content case)) (range_with_len 0 (length c.agents)) (λ a m. none_any (too_large_for a) (case_content case).sets (λ j d l.
        let set = get_or (case_content case).sets j d in
        both_false (place_of set.agent (agent_names c) == a) (is_too_large (slice_index (sizes_in c) a) set.term) (λ t.
        none_too_large set.term (slice_index (sizes_in c) a) (subst (λ b. FitsSize (term_in c set.term) (slice_index (sizes_in c) b)) (eqb-true (place_of set.agent (agent_names c)) a t)
        (All-unmap (λ (s : Set). FitsSize s.term (slice_index (sizes_in c) s.agent.0)) (set_in c) (case_content case).sets h j d l)))))

module _ (c : Content) where
  -- joint data that no case of an outcome covers
  module _ (o : ℕ) (out : POut) where
    abbrev is_covered : ℕ → Bool
    is_covered d = list_any (λ case. covers case (split (sizes_in c) d)) (cases_in c (out_content out))

    abbrev bare : ℕ → Spot
    bare d = spot out.name.line d (kinds.NotTotal (record { 0 = o }) d)

    clear_uncovered : uncovered c o out ≡ [] → IsAllCovered c (out_content out)
    clear_uncovered h d l =
        not_not (is_covered d) (none_passes bare (λ e. not (is_covered e)) (range_with_len 0 (data_count (sizes_in c))) h d (is_in-range_zero d (data_count (sizes_in c)) ∙ lt-ltb d (data_count (sizes_in c)) l))

    pub empty_uncovered : IsAllCovered c (out_content out) → uncovered c o out ≡ []
    empty_uncovered h =
        passes_none bare (λ e. not (is_covered e)) (range_with_len 0 (data_count (sizes_in c)))
        (λ d m. not_true (is_covered d) (h d (ltb-true d (data_count (sizes_in c)) (sym (is_in-range_zero d (data_count (sizes_in c))) ∙ m))))

-- ---- outcomes by their own numbers

pub outs-count : (n : ℕ) (atoms : List PAtom) → length (outs_from n (map atom_content atoms)) ≡ length (outs_in atoms)
outs-count n [] = refl
outs-count n (atom ∷ atoms) =
    length-append (map (placed_at n) (map out_content atom.outs)) (outs_from (n + 1) (map atom_content atoms))
    ∙ (ap (λ k. k + length (outs_from (n + 1) (map atom_content atoms))) (length-map (map out_content atom.outs) (placed_at n) ∙ length-map atom.outs out_content)
    ∙ (ap (λ k. length atom.outs + k) (outs-count (n + 1) atoms) ∙ sym (length-append atom.outs (outs_in atoms))))

-- ---- each condition

module _ (p : Parsed) where
  pub clear_few_outcomes : faults FewOutcomes p ≡ [] → Holds FewOutcomes (content_of p)
  clear_few_outcomes h =
      subst (λ n. n ≤ 256) (sym (outs-count 0 p.atoms))
      (few-past (λ (out : POut). out.name.line) (kinds.TooMany many.Outcomes) 256 (outs_in p.atoms) (sym (each_out-flat (λ o out. spot_if (o == 256) out.name.line (kinds.TooMany many.Outcomes)) 0 0 p.atoms) ∙ h))

  pub empty_few_outcomes : Holds FewOutcomes (content_of p) → faults FewOutcomes p ≡ []
  empty_few_outcomes h =
      each_out-flat (λ o out. spot_if (o == 256) out.name.line (kinds.TooMany many.Outcomes)) 0 0 p.atoms
      ∙ past-few (λ (out : POut). out.name.line) (kinds.TooMany many.Outcomes) 256 (outs_in p.atoms) (subst (λ n. n ≤ 256) (outs-count 0 p.atoms) h)

  abbrev c : Content
  c = content_of p

  -- of outcomes that need nothing else
  any_out : All (λ (placed : PlacedOut). ⊤) (all_outs c)
  any_out k d l = tt

  pub clear_all_sent : faults AllSent p ≡ [] → Holds AllSent c
  clear_all_sent = clear-each_out (missing c) (λ placed. ⊤) (λ placed. SendsAll c placed.atom placed.out) (λ n o out d h. clear_missing c n o out h) 0 0 p.atoms any_out

  pub empty_all_sent : Holds AllSent c → faults AllSent p ≡ []
  empty_all_sent = empty-each_out (missing c) (λ placed. SendsAll c placed.atom placed.out) (λ n o out h. empty_missing c n o out h) 0 0 p.atoms

  pub clear_no_stranger : AreAllDeclared c → faults NoStranger p ≡ [] → Holds NoStranger c
  clear_no_stranger declared =
      clear-each_out (λ n o out. flat_map (strangers c n o) out.nexts) (λ placed. All (λ next. All (IsDeclared (agent_names c)) next.agents) placed.out.nexts) (λ placed. All (HasNoStranger c placed.atom) placed.out.nexts)
      (λ n o out d h. clear_pieces (strangers c n o) next_content out.nexts (λ next. All (IsDeclared (agent_names c)) next.agents) (HasNoStranger c n) (clear_strangers c n o) d h) 0 0 p.atoms declared.next_agents

  pub empty_no_stranger : Holds NoStranger c → faults NoStranger p ≡ []
  empty_no_stranger =
      empty-each_out (λ n o out. flat_map (strangers c n o) out.nexts) (λ placed. All (HasNoStranger c placed.atom) placed.out.nexts)
      (λ n o out h. empty_pieces (strangers c n o) next_content out.nexts (HasNoStranger c n) (empty_strangers c n o) h) 0 0 p.atoms

  pub clear_last_ends : faults LastEnds p ≡ [] → Holds LastEnds c
  clear_last_ends =
      clear-each_out (λ n o out. leading c n o (n == last_number c) out.nexts) (λ placed. ⊤) (λ placed. EndsLast c placed.atom placed.out) (λ n o out d h. clear_leading c n o out.nexts h) 0 0 p.atoms any_out

  pub empty_last_ends : Holds LastEnds c → faults LastEnds p ≡ []
  empty_last_ends = empty-each_out (λ n o out. leading c n o (n == last_number c) out.nexts) (λ placed. EndsLast c placed.atom placed.out) (λ n o out h. empty_leading c n o out.nexts h) 0 0 p.atoms

  pub clear_parties_alone : AreAllDeclared c → faults PartiesAlone p ≡ [] → Holds PartiesAlone c
  clear_parties_alone declared =
      clear-each_out (λ n o out. flat_map (outsiders c n o) out.cases) (λ placed. All (λ case. All (IsDeclared (agent_names c)) (case_names case)) placed.out.cases) (λ placed. All (NamesParties c placed.atom) placed.out.cases)
      (λ n o out d h. clear_pieces (outsiders c n o) case_content out.cases (λ case. All (IsDeclared (agent_names c)) (case_names case)) (NamesParties c n) (clear_outsiders c n o) d h) 0 0 p.atoms declared.cases

  pub empty_parties_alone : Holds PartiesAlone c → faults PartiesAlone p ≡ []
  empty_parties_alone =
      empty-each_out (λ n o out. flat_map (outsiders c n o) out.cases) (λ placed. All (NamesParties c placed.atom) placed.out.cases)
      (λ n o out h. empty_pieces (outsiders c n o) case_content out.cases (NamesParties c n) (empty_outsiders c n o) h) 0 0 p.atoms

  -- the case assigns numbers below the sizes
  abbrev Below : CaseContent → Type 0
  Below case = AssignsBelow (sizes_in c) (case_in c case)

  pub clear_no_large_value : AreAllDeclared c → faults NoLargeValue p ≡ [] → Holds NoLargeValue c
  clear_no_large_value declared =
      clear-each_out (λ n o out. flat_map (overfull c o) out.cases) (λ placed. All (λ case. All (IsDeclared (agent_names c)) (case_names case)) placed.out.cases) (λ placed. All (AssignsBelow (sizes_in c)) (cases_in c placed.out))
      (λ n o out d h. All-map (AssignsBelow (sizes_in c)) (case_in c) (map case_content out.cases) (clear_pieces (overfull c o) case_content out.cases (λ case. All (IsDeclared (agent_names c)) (case_names case)) Below (clear_overfull c o) d h))
      0 0 p.atoms declared.cases

  pub empty_no_large_value : Holds NoLargeValue c → faults NoLargeValue p ≡ []
  empty_no_large_value =
      empty-each_out (λ n o out. flat_map (overfull c o) out.cases) (λ placed. All (AssignsBelow (sizes_in c)) (cases_in c placed.out))
      (λ n o out h. empty_pieces (overfull c o) case_content out.cases Below (empty_overfull c o) (All-unmap (AssignsBelow (sizes_in c)) (case_in c) (map case_content out.cases) h)) 0 0 p.atoms

  pub clear_all_covered : faults AllCovered p ≡ [] → Holds AllCovered c
  clear_all_covered = clear-each_out (λ n o out. uncovered c o out) (λ placed. ⊤) (λ placed. IsAllCovered c placed.out) (λ n o out d h. clear_uncovered c o out h) 0 0 p.atoms any_out

  pub empty_all_covered : Holds AllCovered c → faults AllCovered p ≡ []
  empty_all_covered = empty-each_out (λ n o out. uncovered c o out) (λ placed. IsAllCovered c placed.out) (λ n o out h. empty_uncovered c o out h) 0 0 p.atoms
