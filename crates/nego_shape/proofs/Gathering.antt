-- Sets of agents and atoms that are gathered name by name.
use Rattle.std.proofs.Common.{◌≡◌, ℕ, ◌+◌, ◌<◌, ◌≤◌, ◌==◌, ◌||◌, ◌&&◌, Bool, true, false, List, [], ◌∷◌, length, map, take, get_or, refl, sym, ap, subst, ◌∙◌, arith, ltb-true, lt-ltb, eqb-true}
use Rattle.std.proofs.lemmas.Bool.{and_parts, and_from}
use Rattle.std.proofs.lemmas.List.{length-map, get_or-map}
use Rattle.std.proofs.lemmas.List.Folds.{list_any_more}
use Rattle.std.specs.List.{All, list_any, filter, range_with_len}
use Rattle.nego_base.specs.declared.line.Word.{Word}
use Rattle.nego_base.specs.Members.{is_in, with_member, IsRisingBelow}
use Rattle.nego_base.proofs.Members.{is_in-with, is_in-filter, is_in-range_zero, same_below, All-members, rises-filter, rises-range}
use Rattle.nego_base.proofs.BoolLaws.{same_tests, passing_item}
use Rattle.nego_reader.specs.declared.parsed.PNext.{PNext}
use Rattle.nego_reader.specs.Content.{Content, OutContent, next_content, texts}
use Rattle.nego_shape.specs.Naming.{place_of, places_of, agent_names, atom_names, parties_in, leads_to, next_atoms}
use Rattle.nego_shape.specs.Shaped.{IsDeclared}
use Rattle.nego_shape.specs.declared.numbers.NextNumbers.{NextNumbers}
use Rattle.nego_shape.specs.Made.{next_numbers}
use Rattle.nego_shape.proofs.Places.{named_place}
use Rattle.nego_shape.proofs.Sought.{places-any}

or_swap : (s t : Bool) → (s || t) ≡ (t || s)
or_swap true true = refl
or_swap true false = refl
or_swap false true = refl
or_swap false false = refl

or_none : (s t : Bool) → t ≡ false → s ≡ (s || t)
or_none true t h = refl
or_none false t h = sym h

and_true : (s t : Bool) → t ≡ true → s ≡ (s && t)
and_true true t h = sym h
and_true false t h = refl

and_false : (s t : Bool) → t ≡ false → (s && t) ≡ false
and_false true t h = h
and_false false t h = refl

-- what holds of all mapped items holds of what one is mapped to
pub at_item : {X Y : Type 0} (P : Y → Type 0) (f : X → Y) (xs : List X) (i : ℕ) (x : X) → All P (map f xs) → i < length xs → x ≡ get_or xs i x → P (f x)
at_item P f xs i x h below is =
    let long : length (map f xs) ≡ length xs = length-map xs f in
    subst P (get_or-map f xs i x (f x) below ∙ ap f (sym is)) (h i (f x) (omega (arith, long, below)))

-- one more place
pub one_more_place : (all : List (List ℕ)) (words : List Word) (i : ℕ) (word : Word) (set : List ℕ) (place : ℕ) → i < length words → word ≡ get_or words i word → place ≡ place_of word.text all →
    ((a : ℕ) → is_in a set ≡ is_in a (places_of (texts (take i words)) all)) → (a : ℕ) → is_in a (with_member place set) ≡ is_in a (places_of (texts (take (i + 1) words)) all)
one_more_place all words i word set place below is at so_far a =
    is_in-with a place set
    ∙ (ap (λ b. (place == a) || b) (so_far a ∙ places-any all a (take i words))
    ∙ (or_swap (place == a) (list_any (λ w. place_of w.text all == a) (take i words))
    ∙ (ap (λ n. list_any (λ w. place_of w.text all == a) (take i words) || (n == a)) (at ∙ ap (λ (w : Word). place_of w.text all) is)
    ∙ sym (places-any all a (take (i + 1) words) ∙ list_any_more (λ w. place_of w.text all == a) words i word below))))

-- a set of the numbers that pass a test, which only numbers below the count do
pub set_is_filter : (test : ℕ → Bool) (count width : ℕ) (set : List ℕ) → IsRisingBelow width set → count ≤ width → ((a : ℕ) → is_in a set ≡ test a) → ((a : ℕ) → test a ≡ true → a < count) → set ≡ filter test (range_with_len 0 count)
set_is_filter test count width set rises few same inside =
    let all = range_with_len 0 count in
    same_below width set (filter test all) rises
    (record { rising = rises-filter test 0 all (rises-range 0 count); below = All-members (λ a. a < width) (filter test all) (λ a m. let less = ltb-true a count (sym (is_in-range_zero a count) ∙ (parts a m).1) in omega (arith, less, few)) })
    (λ a h. same_tests (is_in a set) (is_in a (filter test all))
    (λ m. let t : test a ≡ true = sym (same a) ∙ m in is_in-filter test a all ∙ and_from (test a) (is_in a all) t (is_in-range_zero a count ∙ lt-ltb a count (inside a t)))
    (λ m. same a ∙ (parts a m).0))
  where
    parts : (a : ℕ) → is_in a (filter test (range_with_len 0 count)) ≡ true → (test a ≡ true) × (is_in a (range_with_len 0 count) ≡ true)
    parts a m = and_parts (test a) (is_in a (range_with_len 0 count)) (sym (is_in-filter test a (range_with_len 0 count)) ∙ m)

-- the set of the places of declared agents is their parties
pub set_is_parties : (c : Content) (width : ℕ) (names : List (List ℕ)) (set : List ℕ) → IsRisingBelow width set → length c.agents ≤ width → length (agent_names c) ≡ length c.agents →
    All (IsDeclared (agent_names c)) names → ((a : ℕ) → is_in a set ≡ is_in a (places_of names (agent_names c))) → set ≡ parties_in c names
set_is_parties c width names set rises few count declared same =
    set_is_filter (λ a. is_in a (places_of names (agent_names c))) (length c.agents) width set rises few same (λ a k.
    let named = named_place (IsDeclared (agent_names c)) a names (agent_names c) declared k in
    subst (λ n. a < n) count (subst (λ b. b < length (agent_names c)) named.1 named.2))

-- the next line is one for atom m, and the agent stands on it
abbrev pub leads_on : ℕ → ℕ → NextNumbers → Bool
leads_on a m next = (next.atom.0 == m) && is_in a next.agents

-- a next line on which the agent stands
pub one_more_line : (a : ℕ) (nexts : List NextNumbers) (i : ℕ) (next : NextNumbers) (set : List ℕ) → i < length nexts → next ≡ get_or nexts i next → is_in a next.agents ≡ true →
    ((m : ℕ) → is_in m set ≡ list_any (leads_on a m) (take i nexts)) → (m : ℕ) → is_in m (with_member next.atom.0 set) ≡ list_any (leads_on a m) (take (i + 1) nexts)
one_more_line a nexts i next set below is on so_far m =
    is_in-with m next.atom.0 set
    ∙ (ap (λ b. (next.atom.0 == m) || b) (so_far m)
    ∙ (or_swap (next.atom.0 == m) (list_any (leads_on a m) (take i nexts))
    ∙ (ap (λ b. list_any (leads_on a m) (take i nexts) || b) (and_true (next.atom.0 == m) (is_in a next.agents) on ∙ ap (leads_on a m) is)
    ∙ sym (list_any_more (leads_on a m) nexts i next below))))

-- a next line on which the agent doesn't stand
pub no_more_line : (a : ℕ) (nexts : List NextNumbers) (i : ℕ) (next : NextNumbers) (set : List ℕ) → i < length nexts → next ≡ get_or nexts i next → is_in a next.agents ≡ false →
    ((m : ℕ) → is_in m set ≡ list_any (leads_on a m) (take i nexts)) → (m : ℕ) → is_in m set ≡ list_any (leads_on a m) (take (i + 1) nexts)
no_more_line a nexts i next set below is off so_far m =
    so_far m
    ∙ (or_none (list_any (leads_on a m) (take i nexts)) (leads_on a m (get_or nexts i next)) (ap (leads_on a m) (sym is) ∙ and_false (next.atom.0 == m) (is_in a next.agents) off)
    ∙ sym (list_any_more (leads_on a m) nexts i next below))

-- an agent stands on a next line by number as in the content
pub stands_on : (c : Content) (a : ℕ) (names : List (List ℕ)) → a < length c.agents → is_in a (parties_in c names) ≡ is_in a (places_of names (agent_names c))
stands_on c a names below =
    is_in-filter (λ x. is_in x (places_of names (agent_names c))) a (range_with_len 0 (length c.agents))
    ∙ sym (and_true (is_in a (places_of names (agent_names c))) (is_in a (range_with_len 0 (length c.agents))) (is_in-range_zero a (length c.agents) ∙ lt-ltb a (length c.agents) below))

-- whether some line leads to an atom, line by line of the content
pub lines_lead : (c : Content) (a m : ℕ) (nexts : List PNext) → a < length c.agents → list_any (leads_on a m) (map (next_numbers c) nexts) ≡ list_any (leads_to c a m) (map next_content nexts)
lines_lead c a m [] below = refl
lines_lead c a m (next ∷ nexts) below =
    ap (λ b. ((place_of next.atom.text (atom_names c) == m) && b) || list_any (leads_on a m) (map (next_numbers c) nexts)) (stands_on c a (texts next.agents) below)
    ∙ ap (λ b. leads_to c a m (next_content next) || b) (lines_lead c a m nexts below)

-- the set of the atoms on whose next lines the agent stands
pub set_is_next : (c : Content) (width a : ℕ) (out : OutContent) (set : List ℕ) → IsRisingBelow width set → length c.atoms ≤ width → length (atom_names c) ≡ length c.atoms →
    All (λ next. IsDeclared (atom_names c) next.atom) out.nexts → ((m : ℕ) → is_in m set ≡ list_any (leads_to c a m) out.nexts) → set ≡ next_atoms c out a
set_is_next c width a out set rises few count declared same =
    set_is_filter (λ n. list_any (leads_to c a n) out.nexts) (length c.atoms) width set rises few same (λ m k.
    let line = passing_item (leads_to c a m) (λ next. IsDeclared (atom_names c) next.atom) out.nexts k declared in
    let here = eqb-true (place_of line.0.atom (atom_names c)) m (and_parts (place_of line.0.atom (atom_names c) == m) (is_in a (places_of line.0.agents (agent_names c))) line.1).0 in
    subst (λ n. m < n) count (subst (λ b. b < length (atom_names c)) here line.2))

-- what is made of the item at a place
pub made_at : {A B : Type 0} (f : A → B) (xs : List A) (ys : List B) (i : ℕ) (x : A) (y : B) → ys ≡ map f xs → i < length xs → x ≡ get_or xs i x → y ≡ get_or ys i y → y ≡ f x
made_at {A} {B} f xs ys i x y made below is there = there ∙ (ap (λ (zs : List B). get_or zs i y) made ∙ (get_or-map f xs i x y below ∙ ap f (sym is)))
