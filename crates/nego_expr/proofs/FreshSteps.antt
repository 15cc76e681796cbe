-- How the lists of a fresh work grow, item by item, and what they are in the end.
use Rattle.std.proofs.Common.{◌≡◌, ◌∙◌, ℕ, suc, ◌+◌, ◌-◌, ◌<◌, ◌≤◌, List, [], ◌∷◌, ◌++◌, length, map, replicate, slice_get, slice_set, slice_index_or, Option, None, Some, ap, sym, refl, arith, ltb-true}
use Rattle.std.specs.List.{range_with_len}
use Rattle.std.specs.Option.{option_map_or}
use Rattle.std.proofs.lemmas.List.{append_assoc, set_at, length-append, length-replicate}
use Rattle.std.proofs.lemmas.List.FromFn.{map-range_with_len_more, length-map-range_with_len}
use Rattle.nego_base.specs.Members.{with_member}
use Rattle.nego_base.specs.Bits.{range-suc}
use Rattle.nego_base.proofs.Members.{with-last, All-members, is_in-range_zero}
use Rattle.nego_model.specs.Diagram.{PlainAtom, PlainOutcome, PlainDiagram, atom_of}
use Rattle.nego_expr.specs.Work.{WorkOutcome}
use Rattle.nego_expr.specs.Fresh.{atoms_from, fresh_at, outcomes_of}
use Rattle.nego_expr.specs.WorkView.{atom_among}

-- the numbers below n, with n
pub with-range : (n : ℕ) → with_member n (range_with_len 0 n) ≡ range_with_len 0 (n + 1)
with-range n =
    with-last n (range_with_len 0 n) (All-members (λ y. y < n) (range_with_len 0 n) (λ y m. ltb-true y n (sym (is_in-range_zero y n) ∙ m)))
    ∙ ap (λ k. range_with_len 0 n ++ k ∷ []) (let e : n ≡ 0 + n = omega arith in e)
    ∙ sym (range-suc 0 n)
    ∙ ap (range_with_len 0) (let e : suc n ≡ n + 1 = omega arith in e)

-- one item more, of what a function gives for the numbers from a on
pub pushed : {A : Type 0} (f : ℕ → A) (a n : ℕ) (old items : List A) (x : A) → items ≡ old ++ x ∷ [] → old ≡ map f (range_with_len a n) → x ≡ f (a + n) → items ≡ map f (range_with_len a (n + 1))
pushed f a n old items x e so_far at =
    e ∙ ap (λ xs. xs ++ x ∷ []) so_far ∙ ap (λ y. map f (range_with_len a n) ++ y ∷ []) at ∙ sym (map-range_with_len_more f a n (a + n) refl)

-- what a function gives for the places of a list is what another gives for its items
pub map-places : {A B : Type 0} (f : ℕ → B) (g : A → B) (n : ℕ) (xs : List A) → ((k : ℕ) (x : A) → slice_get xs k ≡ Some x → f (n + k) ≡ g x) → map f (range_with_len n (length xs)) ≡ map g xs
map-places f g n [] same = refl
map-places f g n (x ∷ xs) same =
    ap (λ y. y ∷ map f (range_with_len (n + 1) (length xs))) (ap f (let e : n ≡ n + 0 = omega arith in e) ∙ same 0 x refl)
    ∙ ap (λ ys. g x ∷ ys) (map-places f g (n + 1) xs (λ k y at. ap f (let e : (n + 1) + k ≡ n + suc k = omega arith in e) ∙ same (suc k) y at))

-- the atoms of these numbers, whose parties these are
pub atoms_among-from : (parties : List (List ℕ)) (n : ℕ) (atoms : List PlainAtom) → ((k : ℕ) (x : PlainAtom) → slice_get atoms k ≡ Some x → slice_index_or parties (n + k) [] ≡ x.parties) →
    map (atom_among parties) (range_with_len n (length atoms)) ≡ atoms_from n atoms
atoms_among-from parties n [] same = refl
atoms_among-from parties n (x ∷ xs) same =
    let first : slice_index_or parties n [] ≡ x.parties = ap (λ i. slice_index_or parties i []) (let e : n ≡ n + 0 = omega arith in e) ∙ same 0 x refl in
    ap (λ ps. record { number = n; parties = ps } ∷ map (atom_among parties) (range_with_len (n + 1) (length xs))) first
    ∙ ap (λ ys. record { number = n; parties = x.parties } ∷ ys)
    (atoms_among-from parties (n + 1) xs (λ k y at. ap (λ i. slice_index_or parties i []) (let e : (n + 1) + k ≡ n + suc k = omega arith in e) ∙ same (suc k) y at))

-- the alive outcomes of these numbers are those of the outcomes at these places
pub fresh-from : (diagram : PlainDiagram) (n : ℕ) (outcomes : List PlainOutcome) → ((k : ℕ) (x : PlainOutcome) → slice_get outcomes k ≡ Some x → slice_get diagram.outcomes (n + k) ≡ Some x) →
    map (fresh_at diagram) (range_with_len n (length outcomes)) ≡ outcomes_of diagram n outcomes
fresh-from diagram n [] there = refl
fresh-from diagram n (x ∷ xs) there =
    let first : atom_of diagram n ≡ x.atom = ap (λ i. atom_of diagram i) (let e : n ≡ n + 0 = omega arith in e) ∙ ap (λ o. option_map_or (λ outcome. outcome.atom) o 0) (there 0 x refl) in
    ap (λ m. at m ∷ map (fresh_at diagram) (range_with_len (n + 1) (length xs))) first
    ∙ ap (λ ys. at x.atom ∷ ys)
    (fresh-from diagram (n + 1) xs (λ k y found. ap (slice_get diagram.outcomes) (let e : (n + 1) + k ≡ n + suc k = omega arith in e) ∙ there (suc k) y found))
  where
    at : ℕ → WorkOutcome
    at m = record (fresh_at diagram n) { atom = m }

-- the targets of the agents below a, and nothing for the others
abbrev pub sent_so_far : (ℕ → Option ℕ) → ℕ → ℕ → List (Option ℕ)
sent_so_far f count a = map f (range_with_len 0 a) ++ replicate (count - a) None

-- it is as long as there are agents
pub length-sent_so_far : (f : ℕ → Option ℕ) (count a : ℕ) → a ≤ count → length (sent_so_far f count a) ≡ count
length-sent_so_far f count a within =
    let nothing : List (Option ℕ) = replicate (count - a) None in
    omega (arith, within, length-append (map f (range_with_len 0 a)) nothing, length-map-range_with_len f 0 a, length-replicate {A = Option ℕ} (count - a) None)

-- one agent's target more, before nothing for the others
pub sent_next : (f : ℕ → Option ℕ) (count a : ℕ) (x : Option ℕ) → a < count → f a ≡ x → map f (range_with_len 0 a) ++ x ∷ replicate (count - (a + 1)) None ≡ sent_so_far f count (a + 1)
sent_next f count a x within e =
    let nothing : List (Option ℕ) = replicate (count - (a + 1)) None in
    sym (append_assoc (map f (range_with_len 0 a)) (x ∷ []) nothing)
    ∙ ap (λ xs. xs ++ nothing) (pushed f 0 a (map f (range_with_len 0 a)) (map f (range_with_len 0 a) ++ x ∷ []) x refl refl (sym e ∙ ap f (let z : a ≡ 0 + a = omega arith in z)))

-- there is one agent more that is sent nowhere so far
pub nothing_next : (count a : ℕ) → a < count → ◌≡◌ {A = List (Option ℕ)} (replicate (count - a) None) (None ∷ replicate (count - (a + 1)) None)
nothing_next count a within = ap (λ k. replicate k None) (let e : count - a ≡ suc (count - (a + 1)) = omega (arith, within) in e)

-- one agent's target more
pub sent_more : (f : ℕ → Option ℕ) (count a : ℕ) (x : Option ℕ) → a < count → f a ≡ x → slice_set (sent_so_far f count a) a x ≡ sent_so_far f count (a + 1)
sent_more f count a x within e =
    let front : List (Option ℕ) = map f (range_with_len 0 a) in
    ap (λ xs. slice_set (front ++ xs) a x) (nothing_next count a within)
    ∙ set_at front None (replicate (count - (a + 1)) None) x a (length-map-range_with_len f 0 a)
    ∙ sent_next f count a x within e

-- one agent more that is sent nowhere
pub sent_nowhere : (f : ℕ → Option ℕ) (count a : ℕ) → a < count → f a ≡ None → sent_so_far f count a ≡ sent_so_far f count (a + 1)
sent_nowhere f count a within e =
    ap (λ xs. map f (range_with_len 0 a) ++ xs) (nothing_next count a within) ∙ sent_next f count a None within e
