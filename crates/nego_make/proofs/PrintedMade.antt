-- What is made is printed in short lines of names and small numbers.
use Rattle.std.proofs.Common.{◌≡◌, ℕ, suc, ◌+◌, ◌-◌, ◌*◌, ◌<◌, ◌≤◌, ◌==◌, not, List, [], ◌∷◌, length, map, slice_index, codes, refl, ap, arith}
use Rattle.std.proofs.lemmas.Fmt.{decimal_digit}
use Rattle.std.proofs.lemmas.List.{length-map, length-append}
use Rattle.std.proofs.lemmas.List.Elements.{All-nil, All-cons, All-map, All-head, All-tail, All-weaker}
use Rattle.std.proofs.lemmas.List.FromFn.{length-range_with_len}
use Rattle.std.specs.List.{All, range_with_len}
use Rattle.nego_base.specs.Printed.{printed_line}
use Rattle.nego_base.proofs.Members.{All-members}
use Rattle.nego_base.proofs.BoolLaws.{length-filter_le}
use Rattle.nego_reader.specs.Content.{AgentContent, NumberTerm, PlusTerm, SetContent, NextContent}
use Rattle.nego_reader.specs.PrintedLines.{behind_blanks}
use Rattle.nego_reader.proofs.PutLines.{words_behind}
use Rattle.nego_make.specs.Generated.{agent_name, atom_name, everyone, agent, parties, is_next, movers, next_numbers, next_line, next_lines, outcome, assign, outcomes, atom, generated}
use Rattle.nego_make.proofs.Names.{AreBelow, range_below, parties_have, parties_below, atom_count}
use Rattle.nego_make.proofs.Moves.{movers_below, next_behind, some_mover}
use Rattle.nego_make.proofs.OutcomeKinds.{one, two, both_ways, both_endings, each_atom, lists_have, plain}
use Rattle.nego_make.proofs.NameWords.{decimal_short, agent_named, atom_named, literals}
use Rattle.nego_make.proofs.GoodLines.{IsNameText, IsGoodCase, IsGoodSet, IsGoodNext, IsGoodOut, IsGoodAtom, IsGoodContent}

agent_short : (a : ℕ) → a < 4 → length (agent_name a) ≡ 2
agent_short a h = ap (λ xs. suc (length xs)) (decimal_digit a (omega (arith, h)))

agents_behind : (xs : List ℕ) → AreBelow 4 xs → length (behind_blanks (map agent_name xs)) ≡ 3 * length xs
agents_behind [] below = refl
agents_behind (x ∷ xs) below =
    let here = agent_short x (All-head (λ y. y < 4) x xs below) in
    let rest = agents_behind xs (All-tail (λ y. y < 4) x xs below) in
    omega (arith, here, rest, length-append (32 ∷ agent_name x) (behind_blanks (map agent_name xs)))

-- a line of an atom and of some agents
names_line : (keyword : List ℕ) (j : ℕ) (xs : List ℕ) → length keyword ≤ 4 → j < 64 → AreBelow 4 xs → length xs ≤ 4 → length (printed_line (keyword ∷ atom_name j ∷ map agent_name xs)) ≤ 20
names_line keyword j xs word small below few =
    let whole = ap length (words_behind keyword (atom_name j ∷ map agent_name xs)) in
    let d = decimal_short j small in
    omega (arith, word, few, whole, d, agents_behind xs below, length-append keyword (behind_blanks (atom_name j ∷ map agent_name xs)), length-append (32 ∷ atom_name j) (behind_blanks (map agent_name xs)))

names_of : (xs : List ℕ) → AreBelow 4 xs → All IsNameText (map agent_name xs)
names_of xs below = All-map IsNameText agent_name xs (All-weaker (λ a. a < 4) (λ a. IsNameText (agent_name a)) agent_named xs below)

-- ---- cases

good_nothing : IsGoodCase (plain [])
good_nothing = record { demands_nothing = refl; sets = All-nil IsGoodSet; few = omega arith }

good_zero : IsGoodCase (plain (assign 0 (NumberTerm 0)))
good_zero = record {
  demands_nothing = refl;
  sets = one IsGoodSet (record { agent = agent_name 0; term = NumberTerm 0 }) (record { name = agent_named 0 (omega arith); short = (let s = agent_short 0 (omega arith) in omega (arith, s)); term = omega arith });
  few = omega arith;
}

good_sum : (p q k : ℕ) → p < 4 → q < 4 → k ≤ 1 → IsGoodCase (plain (assign p (PlusTerm (agent_name q) k)))
good_sum p q k hp hq hk = record {
  demands_nothing = refl;
  sets = one IsGoodSet (record { agent = agent_name p; term = PlusTerm (agent_name q) k }) (record {
    name = agent_named p hp;
    short = (let s = agent_short p hp in omega (arith, s));
    term = (agent_named q hq, (let s = agent_short q hq in omega (arith, s)), hk);
  });
  few = omega arith;
}

good_out : (name : List ℕ) (sets : List SetContent) (nexts : List NextContent) → IsNameText name → length name ≤ 4 → IsGoodCase (plain sets) → All IsGoodNext nexts → length nexts ≤ 64 → IsGoodOut (outcome name sets nexts)
good_out name sets nexts named short case good few = record {
  name = named;
  short = short;
  cases = one IsGoodCase (plain sets) case;
  nexts = good;
  one_case = omega arith;
  few_nexts = few;
}

-- ---- the parts of what is made

module _ (n : ℕ) (some : 2 ≤ n) (few : n ≤ 64) where
  parties_few : (i : ℕ) → length (parties n i) ≤ 4
  parties_few i = parties_have (λ xs. length xs ≤ 4) (omega arith) (omega arith) (omega arith) n i

  good_next : (i j : ℕ) → j < n → 0 < length (movers n i j) → IsGoodNext (next_line n i j)
  good_next i j below there = record {
    names = All-cons IsNameText (atom_name j) (map agent_name (movers n i j)) (atom_named j (omega (arith, below, few))) (names_of (movers n i j) (movers_below n i j));
    some = omega (arith, there, length-map (movers n i j) agent_name);
    short = names_line (codes "next") j (movers n i j) (omega arith) (omega (arith, below, few)) (movers_below n i j) (let s = length-filter_le (is_next n i j) (parties n i) in let m = parties_few i in omega (arith, s, m));
  }

  good_nexts : (i : ℕ) → i < n → All IsGoodNext (next_lines n i)
  good_nexts i l =
      All-map IsGoodNext (next_line n i) (next_numbers n i)
      (All-members (λ j. IsGoodNext (next_line n i j)) (next_numbers n i) (λ j m. good_next i j (next_behind n i j l m).1 (some_mover n i j m)))

  nexts_few : (i : ℕ) → length (next_lines n i) ≤ 64
  nexts_few i =
      let s = length-filter_le (λ j. not (length (movers n i j) == 0)) (range_with_len (i + 1) (n - (i + 1))) in
      omega (arith, few, s, length-range_with_len (i + 1) (n - (i + 1)), length-map (next_numbers n i) (next_line n i))

  good_outs : (i : ℕ) → i < n → All IsGoodOut (outcomes n i)
  good_outs i l =
      lists_have (All IsGoodOut) n i
      (λ _. one IsGoodOut (outcome (codes "go") [] (next_lines n 0)) (good_out (codes "go") [] (next_lines n 0) literals.0 (omega arith) good_nothing (good_nexts 0 (omega (arith, some))) (nexts_few 0)))
      (λ _ _. both_endings IsGoodOut (good_out (codes "good") [] [] literals.1 (omega arith) good_nothing (All-nil IsGoodNext) (omega arith))
      (good_out (codes "bad") (assign 0 (NumberTerm 0)) [] literals.2 (omega arith) good_zero (All-nil IsGoodNext) (omega arith)))
      (λ _ _. let p = slice_index (parties n i) 0 in let q = slice_index (parties n i) 1 in
      both_ways IsGoodOut p q (next_lines n i)
      (good_out (codes "x") (assign p (PlusTerm (agent_name p) 1)) (next_lines n i) literals.3 (omega arith) (good_sum p p 1 first first (omega arith)) (good_nexts i l) (nexts_few i))
      (good_out (codes "y") (assign p (PlusTerm (agent_name q) 0)) (next_lines n i) literals.4 (omega arith) (good_sum p q 0 first second (omega arith)) (good_nexts i l) (nexts_few i)))
    where
      first : slice_index (parties n i) 0 < 4
      first = parties_have (λ xs. slice_index xs 0 < 4) (omega arith) (omega arith) (omega arith) n i

      second : slice_index (parties n i) 1 < 4
      second = parties_have (λ xs. slice_index xs 1 < 4) (omega arith) (omega arith) (omega arith) n i

  good_atom : (i : ℕ) → i < n → IsGoodAtom (atom n i)
  good_atom i l = record {
    names = All-cons IsNameText (atom_name i) (map agent_name (parties n i)) (atom_named i (omega (arith, l, few))) (names_of (parties n i) (parties_below n i));
    short = names_line (codes "atom") i (parties n i) (omega arith) (omega (arith, l, few)) (parties_below n i) (parties_few i);
    outs = good_outs i l;
    few_outs = lists_have (λ outs. length outs ≤ 2) n i (λ _. omega arith) (λ _ _. omega arith) (λ _ _. omega arith);
  }

  good_end : (i : ℕ) → i < n → IsNameText (atom_name i) × (length (atom_name i) ≤ 3)
  good_end i l = (atom_named i (omega (arith, l, few)), let d = decimal_short i (omega (arith, l, few)) in omega (arith, d))

  pub good_made : IsGoodContent (generated n)
  good_made = record {
    agents = All-map (λ (x : AgentContent). IsNameText x.name × (length x.name ≤ 2) × (x.size ≤ 9)) agent everyone
        (All-weaker (λ a. a < 4) (λ a. IsNameText (agent_name a) × (length (agent_name a) ≤ 2) × (4 ≤ 9)) (λ a l. (agent_named a l, (let s = agent_short a l in omega (arith, s)), omega arith)) everyone (range_below 0 4 4 (omega arith)));
    atoms = each_atom IsGoodAtom n good_atom;
    ends = two (λ name. IsNameText name × (length name ≤ 3)) (atom_name 0) (atom_name (n - 1)) (good_end 0 (omega (arith, some))) (good_end (n - 1) (omega (arith, some)));
    few_agents = omega arith;
    few_atoms = (let c = atom_count n in omega (arith, c, few));
  }
