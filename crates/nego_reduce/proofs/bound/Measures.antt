-- Measures of works that no next use raises: how many more atoms the alive outcomes may pass, how many of them are alive,
-- and whether a closing may come.
use Rattle.std.proofs.Common.{Bool, ◌≡◌, ◌≢◌, ℕ, ◌+◌, ◌-◌, ◌<◌, ◌≤◌, false, not, ◌==◌, cond, List, [], ◌∷◌, ◌++◌, length, map, Some, IsTrue, refl, sym, subst, ap, ◌∙◌, arith, eq-eqb, ne_eqb}
use Rattle.std.specs.List.{All, filter, sum_by}
use Rattle.std.proofs.lemmas.Bool.{and_parts, cond_both, cond-false}
use Rattle.std.proofs.lemmas.List.{length-map, append-nil}
use Rattle.std.proofs.lemmas.List.Elements.{All-nil, All-append, All-filter, All-weaker}
use Rattle.std.proofs.lemmas.Option.{none-some}
use Rattle.nego_base.specs.Members.{is_in, united, IsRising}
use Rattle.nego_base.proofs.Members.{is_in-filter, length-with, length-without, some_member}
use Rattle.nego_base.proofs.BoolLaws.{length-filter_le}
use Rattle.nego_model.specs.Expression.{Star}
use Rattle.nego_expr.specs.Work.{WorkAtom, WorkOutcome, PlainWork, IsWork, outcome_among, outcome_at, outcomes_at, work_parties}
use Rattle.nego_expr.specs.Use.{PlainUse, Merge, Iterate, Shortcut, Close, merged, iterated, closed, entered, gone_through, through, is_entered, without_unentered}
use Rattle.nego_expr.specs.Edits.{with_outcome, without_outcome, without_atom, with_nodes_at}
use Rattle.nego_expr.proofs.EditCalls.{only_found}
use Rattle.nego_expr.proofs.NodesAt.{of_atom, numbers-with_nodes_at, All-with_nodes_at}
use Rattle.nego_expr.proofs.WorkEdits.{numbers_of, with_node, All-found, All-at_place, All-with_outcome, All-without_outcome, atoms-filter, numbers-without_outcome, there_found}
use Rattle.nego_expr.proofs.WorkForm.{OutcomeFits, fits_from_work}
use Rattle.nego_merge.proofs.MergeKeeps.{Merges}
use Rattle.nego_shortcut.proofs.ShortWorks.{IsEntry}
use Rattle.nego_reduce.specs.Bound.{is_shortcut, is_closing, takes_away}
use Rattle.nego_reduce.proofs.bound.CountedUses.{one_where}
use Rattle.nego_reduce.proofs.bound.SummedOutcomes.{sum-filter_le, sum-with_nodes_at, sum-with_outcome_le, sum-with_outcome_lt}
use Rattle.nego_reduce.proofs.bound.PassedSets.{HasPassed, passed_few, passed-with, passed-united, length-united}

-- the numbers of the atoms that are left
abbrev pub atoms_left : PlainWork → List ℕ
atoms_left work = map (λ atom. atom.number) work.atoms

-- The atoms that are left are below the count, and the outcomes passed atoms below it.
pub record HasRoom (count : ℕ) (work : PlainWork) : Type 0 where
  pub below : (m : ℕ) → IsTrue (is_in m (atoms_left work)) → m < count
  pub passed : All (HasPassed count work.last) work.outcomes

-- how many more atoms an outcome may pass
abbrev pub room_of : ℕ → WorkOutcome → ℕ
room_of count x = count - 2 - length x.passed

-- how many more all alive outcomes may pass
abbrev pub room : ℕ → PlainWork → ℕ
room count work = sum_by (room_of count) work.outcomes

-- an amount while the first atom isn't the last, and nothing once it is
abbrev pub while_open : ℕ → PlainWork → ℕ
while_open amount work = cond (work.first == work.last) 0 amount

-- What a use makes of the measures: shortcuts lower the room, what takes outcomes away their number, and a closing comes once.
pub record Lowers (count : ℕ) (old : PlainWork) (next : PlainUse) (new : PlainWork) : Type 0 where
  pub rooms : HasRoom count new
  pub passing : room count new + one_where (is_shortcut next) ≤ room count old
  pub alive : length new.outcomes + one_where (takes_away next) ≤ length old.outcomes
  pub closing : (amount : ℕ) → while_open amount new + cond (is_closing next) amount 0 ≤ while_open amount old

-- ---- what edits leave

-- atoms of the work without one are atoms of the work
atoms-without : (n m : ℕ) (atoms : List WorkAtom) → IsTrue (is_in m (map (λ atom. atom.number) (filter (λ atom. not (atom.number == n)) atoms))) → IsTrue (is_in m (map (λ atom. atom.number) atoms))
atoms-without n m atoms h =
    let numbers = map (λ atom. atom.number) atoms in
    let e = sym (ap (is_in m) (atoms-filter (λ k. not (k == n)) atoms) ∙ is_in-filter (λ k. not (k == n)) m numbers) in
    (and_parts (not (m == n)) (is_in m numbers) (e ∙ h)).1

-- one outcome fewer
length-without_outcome : (outcomes : List WorkOutcome) (o : ℕ) (x : WorkOutcome) → IsRising (numbers_of outcomes) → outcome_among outcomes o ≡ Some x → length (without_outcome o outcomes) + 1 ≡ length outcomes
length-without_outcome outcomes o x rise h =
    let left = length-map (without_outcome o outcomes) (λ z. z.number) in
    let all = length-map outcomes (λ z. z.number) in
    let same = ap length (numbers-without_outcome o outcomes) in
    let fewer = length-without 0 o (numbers_of outcomes) rise (there_found outcomes o x h) in
    omega (arith, left, all, same, fewer)

-- as many with other nodes
length-with_nodes_at : (n i : ℕ) (outcomes : List WorkOutcome) → length (with_nodes_at n i outcomes) ≡ length outcomes
length-with_nodes_at n i outcomes =
    sym (length-map (with_nodes_at n i outcomes) (λ z. z.number)) ∙ (ap length (numbers-with_nodes_at n i outcomes) ∙ length-map outcomes (λ z. z.number))

-- they passed what they had
passed-with_nodes_at : (count last n i : ℕ) (outcomes : List WorkOutcome) → All (HasPassed count last) outcomes → All (HasPassed count last) (with_nodes_at n i outcomes)
passed-with_nodes_at count last n i outcomes h = All-with_nodes_at (HasPassed count last) n i outcomes
    (All-weaker (HasPassed count last) (λ y. y.atom ≢ n → HasPassed count last y) (λ y p other. p) outcomes h)
    (λ k y e. noded (i + k) y (All-at_place (HasPassed count last) (of_atom n outcomes) k y (All-filter (λ z. z.atom == n) (HasPassed count last) outcomes h) e))
  where
    noded : (j : ℕ) (y : WorkOutcome) → HasPassed count last y → HasPassed count last (with_node j y)
    noded j y p = record { set = p.set; not_own = p.not_own; not_last = p.not_last }

-- those that pass a test, with other nodes, have no more room
room-with_nodes_at : (count n i : ℕ) (test : WorkOutcome → Bool) (outcomes : List WorkOutcome) → sum_by (room_of count) (with_nodes_at n i (filter test outcomes)) ≤ sum_by (room_of count) outcomes
room-with_nodes_at count n i test outcomes =
    let same = sum-with_nodes_at (room_of count) (λ j x. refl) n i (filter test outcomes) in
    let fewer = sum-filter_le (room_of count) test outcomes in
    omega (arith, same, fewer)

-- what holds of the outcome of a number holds of each of this number
of_number : (P : WorkOutcome → Type 0) (work : PlainWork) (x : WorkOutcome) → IsWork work → outcome_at work x.number ≡ Some x → P x → All (λ z. z.number ≡ x.number → P z) work.outcomes
of_number P work x ok found p =
    All-weaker (λ z. z.number ≡ x.number → z ≡ x) (λ z. z.number ≡ x.number → P z) (λ z one e. subst P (sym (one e)) p) work.outcomes
    (only_found work.outcomes x.number x ok.numbers_rise found)

-- ---- merges

module _ (count : ℕ) (work : PlainWork) (x y : WorkOutcome) (o1 o2 : ℕ) (ok : IsWork work) (rooms : HasRoom count work) (two : Merges work x y) where
  abbrev joined : WorkOutcome
  joined = record x { node = length work.nodes; passed = united x.passed y.passed }

  abbrev others : List WorkOutcome
  others = without_outcome y.number work.outcomes

  passed_x : HasPassed count work.last x
  passed_x = All-found (HasPassed count work.last) work.outcomes x.number x rooms.passed two.first

  passed_y : HasPassed count work.last y
  passed_y = All-found (HasPassed count work.last) work.outcomes y.number y rooms.passed two.second

  pub merge_lowers : Lowers count work (Merge o1 o2) (merged work x y)
  merge_lowers = record {
    rooms = record {
      below = rooms.below;
      passed = All-with_outcome (HasPassed count work.last) joined others (passed-united count work.last x y joined refl two.one_atom refl passed_x passed_y)
          (All-without_outcome (HasPassed count work.last) y.number work.outcomes rooms.passed);
    };
    passing =
        let more = length-united count x.passed y.passed passed_x.set passed_y.set in
        let here = of_number (λ z. room_of count joined ≤ room_of count z) work x ok two.first (omega (arith, more)) in
        let less = sum-with_outcome_le (room_of count) joined others (All-without_outcome (λ z. z.number ≡ x.number → room_of count joined ≤ room_of count z) y.number work.outcomes here) in
        let fewer = sum-filter_le (room_of count) (λ z. not (z.number == y.number)) work.outcomes in
        omega (arith, less, fewer);
    alive =
        let fewer = length-without_outcome work.outcomes y.number y ok.numbers_rise two.second in
        let same = length-map others (λ z. cond (z.number == joined.number) joined z) in
        omega (arith, fewer, same);
    closing = λ amount. omega arith;
  }

-- ---- iterations

module _ (count : ℕ) (work : PlainWork) (x : WorkOutcome) (o : ℕ) (ok : IsWork work) (rooms : HasRoom count work) (found : outcome_at work x.number ≡ Some x) where
  pub iteration_lowers : Lowers count work (Iterate o) (iterated work x)
  iteration_lowers =
      let others = without_outcome x.number work.outcomes in
      let i = length (work.nodes ++ Star x.node ∷ []) in
      record {
        rooms = record {
          below = rooms.below;
          passed = passed-with_nodes_at count work.last x.atom i others (All-without_outcome (HasPassed count work.last) x.number work.outcomes rooms.passed);
        };
        passing = let less = room-with_nodes_at count x.atom i (λ z. not (z.number == x.number)) work.outcomes in omega (arith, less);
        alive =
            let same = length-with_nodes_at x.atom i others in
            let fewer = length-without_outcome work.outcomes x.number x ok.numbers_rise found in
            omega (arith, same, fewer);
        closing = λ amount. omega arith;
      }

-- ---- shortcuts into an atom of one outcome

module _ (count : ℕ) (work : PlainWork) (x y : WorkOutcome) (o n : ℕ) (ok : IsWork work) (rooms : HasRoom count work) (entry : IsEntry work x n) (fresh : is_in n x.passed ≡ false) where
  fits : OutcomeFits work x
  fits = All-found (OutcomeFits work) work.outcomes x.number x (fits_from_work work ok) entry.alive

  -- an outcome of the last atom enters none
  apart : x.atom ≢ work.last
  apart e =
      let party = some_member (work_parties work n) (ok.form.some_party n entry.there) in
      none-some n (sym (fits.ends e party.0) ∙ entry.sends party.0 party.1)

  abbrev new : WorkOutcome
  new = through work n x y x.number (length work.nodes)

  passed_new : HasPassed count work.last new
  passed_new = passed-with count work.last n x new refl refl (rooms.below n entry.there) (λ e. entry.apart (sym e)) entry.not_last
      (All-found (HasPassed count work.last) work.outcomes x.number x rooms.passed entry.alive)

  less_room : room_of count new + 1 ≤ room_of count x
  less_room =
      let few : length new.passed ≤ count - 2 = passed_few count work.last new passed_new apart (rooms.below x.atom fits.there) (rooms.below work.last ok.form.last_there) in
      let more = length-with n x.passed fresh in
      omega (arith, few, more)

  abbrev gone : PlainWork
  gone = gone_through work n x (y ∷ [])

  gone_lowers : Lowers count work (Shortcut o n) gone
  gone_lowers =
      let outcomes = with_outcome new work.outcomes in
      let end = append-nil outcomes in
      record {
        rooms = record {
          below = rooms.below;
          passed = All-append (HasPassed count work.last) outcomes [] (All-with_outcome (HasPassed count work.last) new work.outcomes passed_new rooms.passed) (All-nil (HasPassed count work.last));
        };
        passing =
            let here = of_number (λ z. room_of count new + 1 ≤ room_of count z) work x ok entry.alive less_room in
            let less = sum-with_outcome_lt (room_of count) new work.outcomes here (there_found work.outcomes x.number x entry.alive) in
            let same = ap (sum_by (room_of count)) end in
            omega (arith, less, same);
        alive =
            let same = ap length end in
            let all = length-map work.outcomes (λ z. cond (z.number == new.number) new z) in
            omega (arith, same, all);
        closing = λ amount. omega arith;
      }

  left_lowers : Lowers count work (Shortcut o n) (without_atom n gone)
  left_lowers =
      let made = gone_lowers in
      record {
        rooms = record {
          below = λ m h. made.rooms.below m (atoms-without n m work.atoms h);
          passed = All-filter (λ z. not (z.atom == n)) (HasPassed count work.last) gone.outcomes made.rooms.passed;
        };
        passing = let fewer = sum-filter_le (room_of count) (λ z. not (z.atom == n)) gone.outcomes in let h = made.passing in omega (arith, fewer, h);
        alive = let fewer = length-filter_le (λ z. not (z.atom == n)) gone.outcomes in let h = made.alive in omega (arith, fewer, h);
        closing = made.closing;
      }

  pub shortcut_lowers : outcomes_at work n ≡ y ∷ [] → Lowers count work (Shortcut o n) (entered work x n)
  shortcut_lowers one = subst (λ ys. Lowers count work (Shortcut o n) (without_unentered n (gone_through work n x ys))) (sym one)
      (cond_both (is_entered gone n) gone (without_atom n gone) (Lowers count work (Shortcut o n)) (λ e. gone_lowers) (λ e. left_lowers))

-- ---- closings

module _ (count : ℕ) (work : PlainWork) (x : WorkOutcome) (rooms : HasRoom count work) (apart : work.first ≢ work.last) where
  pub closing_lowers : Lowers count work Close (closed work x)
  closing_lowers =
      let others = filter (λ z. not (z.atom == work.first)) work.outcomes in
      let i = length work.nodes in
      record {
        rooms = record {
          below = λ m h. rooms.below m (atoms-without work.first m work.atoms h);
          passed = passed-with_nodes_at count work.last work.last i others (All-filter (λ z. not (z.atom == work.first)) (HasPassed count work.last) work.outcomes rooms.passed);
        };
        passing = let less = room-with_nodes_at count work.last i (λ z. not (z.atom == work.first)) work.outcomes in omega (arith, less);
        alive =
            let same = length-with_nodes_at work.last i others in
            let fewer = length-filter_le (λ z. not (z.atom == work.first)) work.outcomes in
            omega (arith, same, fewer);
        closing = λ amount.
            let before : while_open amount work ≡ amount = cond-false (work.first == work.last) 0 amount (ne_eqb work.first work.last apart) in
            let behind : while_open amount (closed work x) ≡ 0 = ap (λ b. cond b 0 amount) (eq-eqb work.last work.last refl) in
            omega (arith, before, behind);
      }
