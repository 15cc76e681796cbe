-- How many outcomes of other atoms lead to each atom, after an edit of the outcomes.
use Rattle.std.proofs.Common.{Bool, true, false, not, ◌≡◌, ℕ, ◌+◌, ◌<◌, ◌≤◌, ◌&&◌, nat_lt, cond, List, [], ◌∷◌, ◌++◌, length, get_or, slice_get, Some, IsTrue, sym, ap, ◌∙◌, arith, lt-ltb, ltb-true}
use Rattle.std.specs.Prelude.{slice_index}
use Rattle.std.specs.List.{count_by, remove}
use Rattle.std.proofs.Math.ListN.{set}
use Rattle.std.proofs.lemmas.Bool.{and_parts, cond-true, not-true}
use Rattle.std.proofs.lemmas.List.Edits.{length-remove}
use Rattle.std.proofs.lemmas.List.Sums.{count_by-le-length, get_or-le-sum_by, sum_by_push, sum_by-remove, sum_by-set}
use Rattle.std.proofs.lemmas.Option.{slice_get_within, get_or_from_slice_get}
use Rattle.nego_base.specs.Members.{is_in, difference}
use Rattle.nego_base.proofs.Members.{is_in-difference}
use Rattle.nego_expr.specs.Counts.{AreEntered, AreEntriesOf}
use Rattle.nego_expr.specs.Use.{leads_in}
use Rattle.nego_expr.specs.Work.{WorkOutcome}
use Rattle.nego_expr.proofs.WorkEdits.{with_node}

-- what an outcome counts for at an atom
abbrev pub entry : ℕ → WorkOutcome → ℕ
entry m x = cond (leads_in m x) 1 0

-- it counts for one at those that it enters
pub entry_of : (x : WorkOutcome) (atoms : List ℕ) → AreEntered x atoms → (m : ℕ) → m < 64 → cond (is_in m atoms) 1 0 ≡ entry m x
entry_of x atoms led m l = ap (λ b. cond b 1 0) (led m ∙ ap (λ b. b && leads_in m x) (lt-ltb m 64 l))

-- those are atoms that a set may have
entered_below : (x : WorkOutcome) (atoms : List ℕ) → AreEntered x atoms → (m : ℕ) → IsTrue (is_in m atoms) → m < 64
entered_below x atoms led m h = ltb-true m 64 (and_parts (nat_lt m 64) (leads_in m x) (sym (led m) ∙ h)).0

-- what leaves the one and doesn't enter the other goes, and what enters the other alone comes
moved : (a b : Bool) (old mid new : ℕ) → old ≡ mid + cond (not b && a) 1 0 → new ≡ mid + cond (not a && b) 1 0 → new + cond a 1 0 ≡ old + cond b 1 0
moved true true old mid new h k = let g : old ≡ mid + 0 = h in let l : new ≡ mid + 0 = k in let e : new + 1 ≡ old + 1 = omega (arith, g, l) in e
moved true false old mid new h k = let g : old ≡ mid + 1 = h in let l : new ≡ mid + 0 = k in let e : new + 1 ≡ old + 0 = omega (arith, g, l) in e
moved false true old mid new h k = let g : old ≡ mid + 0 = h in let l : new ≡ mid + 1 = k in let e : new + 0 ≡ old + 1 = omega (arith, g, l) in e
moved false false old mid new h k = let g : old ≡ mid + 0 = h in let l : new ≡ mid + 0 = k in let e : new + 0 ≡ old + 0 = omega (arith, g, l) in e

module _ (x : WorkOutcome) (atoms : List ℕ) (led : AreEntered x atoms) where
  module _ (xs : List WorkOutcome) (old : List ℕ) (are : AreEntriesOf xs old) where
    -- no more are counted than there are outcomes
    pub entries_few : (m : ℕ) → IsTrue (is_in m atoms) → slice_index old m ≤ length xs
    entries_few m h =
        let here : slice_index old m ≡ count_by (leads_in m) xs = are m (entered_below x atoms led m h) in
        let few : count_by (leads_in m) xs ≤ length xs = count_by-le-length (leads_in m) xs in
        omega (arith, here, few)

    -- one that is there is counted
    pub entries_some : (i : ℕ) → slice_get xs i ≡ Some x → (m : ℕ) → IsTrue (is_in m atoms) → 0 < slice_index old m
    entries_some i at m h =
        let l = entered_below x atoms led m h in
        let here : slice_index old m ≡ count_by (leads_in m) xs = are m l in
        let one : entry m x ≡ 1 = sym (entry_of x atoms led m l) ∙ cond-true (is_in m atoms) 1 0 h in
        let there : entry m (get_or xs i x) ≤ count_by (leads_in m) xs = get_or-le-sum_by (entry m) xs i x (slice_get_within xs i x at) in
        let is : entry m (get_or xs i x) ≡ entry m x = ap (entry m) (get_or_from_slice_get xs i x x at) in
        omega (arith, here, one, there, is)

    -- with it
    pub entries-add : (new : List ℕ) → ((m : ℕ) → slice_index new m ≡ slice_index old m + cond (is_in m atoms) 1 0) → AreEntriesOf (xs ++ x ∷ []) new
    entries-add new h m l =
        let here : slice_index old m ≡ count_by (leads_in m) xs = are m l in
        let more : count_by (leads_in m) (xs ++ x ∷ []) ≡ count_by (leads_in m) xs + entry m x = sum_by_push (entry m) xs x in
        let changed = h m in
        let one = entry_of x atoms led m l in
        omega (arith, here, more, changed, one)

    -- without it
    pub entries-remove : (i : ℕ) → slice_get xs i ≡ Some x → (new : List ℕ) → ((m : ℕ) → slice_index old m ≡ slice_index new m + cond (is_in m atoms) 1 0) → AreEntriesOf (remove xs i) new
    entries-remove i at new h m l =
        let here : slice_index old m ≡ count_by (leads_in m) xs = are m l in
        let less : count_by (leads_in m) (remove xs i) + entry m (get_or xs i x) ≡ count_by (leads_in m) xs = sum_by-remove (entry m) xs i x (slice_get_within xs i x at) in
        let is : entry m (get_or xs i x) ≡ entry m x = ap (entry m) (get_or_from_slice_get xs i x x at) in
        let changed = h m in
        let one = entry_of x atoms led m l in
        omega (arith, here, less, is, changed, one)

    -- with another in its place: only atoms that one of the two enters and the other doesn't count otherwise
    module _ (i : ℕ) (at : slice_get xs i ≡ Some x) (y : WorkOutcome) (others : List ℕ) (led_too : AreEntered y others) (mid : List ℕ) (gone : (m : ℕ) → slice_index old m ≡ slice_index mid m + cond (is_in m (difference atoms others)) 1 0) where
      -- there is room for the other
      pub entries_room : (m : ℕ) → IsTrue (is_in m (difference others atoms)) → slice_index mid m < length xs
      entries_room m h =
          let parts = and_parts (not (is_in m atoms)) (is_in m others) (sym (is_in-difference m others atoms) ∙ h) in
          let l = entered_below y others led_too m parts.1 in
          let here : slice_index old m ≡ count_by (leads_in m) xs = are m l in
          let fewer = gone m in
          let none : entry m x ≡ 0 = sym (entry_of x atoms led m l) ∙ ap (λ b. cond b 1 0) (not-true (is_in m atoms) parts.0) in
          let less : count_by (leads_in m) (remove xs i) + entry m (get_or xs i x) ≡ count_by (leads_in m) xs = sum_by-remove (entry m) xs i x (slice_get_within xs i x at) in
          let is : entry m (get_or xs i x) ≡ entry m x = ap (entry m) (get_or_from_slice_get xs i x x at) in
          let few : count_by (leads_in m) (remove xs i) ≤ length (remove xs i) = count_by-le-length (leads_in m) (remove xs i) in
          let one = length-remove xs i (slice_get_within xs i x at) in
          omega (arith, here, fewer, none, less, is, few, one)

      pub entries-set : (new : List ℕ) → ((m : ℕ) → slice_index new m ≡ slice_index mid m + cond (is_in m (difference others atoms)) 1 0) → AreEntriesOf (set xs i y) new
      entries-set new h m l =
          let here : slice_index old m ≡ count_by (leads_in m) xs = are m l in
          let swapped : count_by (leads_in m) (set xs i y) + entry m (get_or xs i x) ≡ count_by (leads_in m) xs + entry m y = sum_by-set (entry m) xs i y x (slice_get_within xs i x at) in
          let is : entry m (get_or xs i x) ≡ entry m x = ap (entry m) (get_or_from_slice_get xs i x x at) in
          let changed = moved (is_in m atoms) (is_in m others) (slice_index old m) (slice_index mid m) (slice_index new m)
          (gone m ∙ ap (λ b. slice_index mid m + cond b 1 0) (is_in-difference m atoms others)) (h m ∙ ap (λ b. slice_index mid m + cond b 1 0) (is_in-difference m others atoms)) in
          let one = entry_of x atoms led m l in
          let two = entry_of y others led_too m l in
          omega (arith, here, swapped, is, changed, one, two)

-- with another node an outcome counts for the same
pub entries-with_node : (xs : List WorkOutcome) (counts : List ℕ) → AreEntriesOf xs counts → (i : ℕ) (x : WorkOutcome) → slice_get xs i ≡ Some x → (node : ℕ) → AreEntriesOf (set xs i (with_node node x)) counts
entries-with_node xs counts are i x at node m l =
    let here : slice_index counts m ≡ count_by (leads_in m) xs = are m l in
    let swapped : count_by (leads_in m) (set xs i (with_node node x)) + entry m (get_or xs i x) ≡ count_by (leads_in m) xs + entry m x = sum_by-set (entry m) xs i (with_node node x) x (slice_get_within xs i x at) in
    let is : entry m (get_or xs i x) ≡ entry m x = ap (entry m) (get_or_from_slice_get xs i x x at) in
    omega (arith, here, swapped, is)
