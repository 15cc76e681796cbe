-- The uses of the order are few.
use Rattle.std.proofs.Common.{ap, ◌∙◌, ◌≡◌, ◌≢◌, ℕ, ◌+◌, ◌-◌, ◌*◌, ◌≤◌, List, [], ◌∷◌, length, ◌==◌, sym, subst, arith}
use Rattle.std.specs.List.{filter}
use Rattle.std.proofs.lemmas.Bool.{cond_both}
use Rattle.std.proofs.lemmas.List.{length-map}
use Rattle.nego_base.proofs.BoolLaws.{length-filter_le}
use Rattle.nego_model.specs.Diagram.{PlainDiagram}
use Rattle.nego_expr.specs.Work.{PlainWork, IsWork, outcomes_at, work_outcomes}
use Rattle.nego_expr.specs.Use.{PlainUse, Merge, Iterate, Shortcut, Close, after_use}
use Rattle.nego_expr.specs.Lead.{Lead}
use Rattle.nego_expr.specs.StandsFor.{IsFresh}
use Rattle.nego_expr.proofs.FreshWorks.{fresh_stands, has_form}
use Rattle.nego_reduce.specs.Order.{IsNextUse}
use Rattle.nego_reduce.specs.Bound.{is_shortcut, is_closing, takes_away, AreFew}
use Rattle.nego_reduce.specs.Laws.{UsesAreFew}
use Rattle.nego_reduce.proofs.bound.CountedUses.{Lead-keeps, uses-counted}
use Rattle.nego_reduce.proofs.bound.Measures.{Lowers, room, while_open}
use Rattle.nego_reduce.proofs.bound.NextUsesLower.{IsRoomy, next_lowers, next_roomy, fresh_rooms, fresh_alive, room_most}

-- each use is of one kind
pub kinds : (uses : List PlainUse) → length uses ≡ length (filter is_shortcut uses) + length (filter takes_away uses) + length (filter is_closing uses)
kinds [] = omega arith
kinds (Merge o1 o2 ∷ uses) = let rest = kinds uses in omega (arith, rest)
kinds (Iterate o ∷ uses) = let rest = kinds uses in omega (arith, rest)
kinds (Shortcut o n ∷ uses) = let rest = kinds uses in omega (arith, rest)
kinds (Close ∷ uses) = let rest = kinds uses in omega (arith, rest)

-- an outcome of the last atom is alive in each work
pub some_alive : (work : PlainWork) → IsWork work → 1 ≤ length work.outcomes
some_alive work ok =
    let some = some_length (work_outcomes work work.last) (ok.form.some_outcome work.last ok.form.last_there) in
    let same = length-map (outcomes_at work work.last) (λ x. x.number) in
    let within = length-filter_le (λ x. x.atom == work.last) work.outcomes in
    omega (arith, some, same, within)
  where
    some_length : (xs : List ℕ) → xs ≢ [] → 1 ≤ length xs
    some_length [] other = absurd (other (λ _. []))
    some_length (x ∷ xs) other = omega arith

-- the fresh work of a diagram is roomy
pub fresh_roomy : (diagram : PlainDiagram) (work : PlainWork) → IsFresh work diagram → IsRoomy (length diagram.atoms) work
fresh_roomy diagram work fresh =
    subst (IsRoomy (length diagram.atoms)) (sym fresh.fresh) ((fresh_stands diagram (has_form diagram fresh.diagram_read) fresh.determined).is_work, fresh_rooms diagram)

-- a diagram has an outcome
pub some_outcome : (diagram : PlainDiagram) (work : PlainWork) → IsFresh work diagram → 1 ≤ length diagram.outcomes
some_outcome diagram work fresh =
    let some = some_alive work (fresh_roomy diagram work fresh).0 in
    let same = ap (λ w. length w.outcomes) fresh.fresh ∙ fresh_alive diagram in
    omega (arith, some, same)

-- the amount that may stand while the work may close
pub while_open_most : (amount : ℕ) (work : PlainWork) → while_open amount work ≤ amount
while_open_most amount work = cond_both (work.first == work.last) 0 amount (λ n. n ≤ amount) (λ e. omega arith) (λ e. omega arith)

module _ (diagram : PlainDiagram) (work end : PlainWork) (uses : List PlainUse) (fresh : IsFresh work diagram) (leads : Lead IsNextUse work uses end) where
  abbrev count : ℕ
  count = length diagram.atoms

  abbrev lowers : (next_work : PlainWork) (next : PlainUse) → IsRoomy count next_work → IsNextUse next_work next → Lowers count next_work next (after_use next_work next)
  lowers next_work next roomy is_next = next_lowers count next_work next roomy.0 roomy.1 is_next

  roomy : IsRoomy count work
  roomy = fresh_roomy diagram work fresh

  as_many : length work.outcomes ≡ length diagram.outcomes
  as_many = ap (λ w. length w.outcomes) fresh.fresh ∙ fresh_alive diagram

  -- shortcuts are no more than the room
  passing : room count end + length (filter is_shortcut uses) ≤ room count work
  passing = uses-counted IsNextUse (IsRoomy count) (next_roomy count) is_shortcut (room count) (λ w next r n. (lowers w next r n).passing) work end uses roomy leads

  -- what takes outcomes away comes no more often than there are outcomes
  alive : length end.outcomes + length (filter takes_away uses) ≤ length work.outcomes
  alive = uses-counted IsNextUse (IsRoomy count) (next_roomy count) takes_away (λ w. length w.outcomes) (λ w next r n. (lowers w next r n).alive) work end uses roomy leads

  -- so there are no more than the diagram has
  pub few_alive : length end.outcomes ≤ length diagram.outcomes
  few_alive = let less = alive in let all = as_many in omega (arith, less, all)

  -- a closing comes once
  closing : while_open 1 end + length (filter is_closing uses) ≤ while_open 1 work
  closing = uses-counted IsNextUse (IsRoomy count) (next_roomy count) is_closing (while_open 1) (λ w next r n. (lowers w next r n).closing 1) work end uses roomy leads

  -- an outcome is left
  left : 1 ≤ length end.outcomes
  left = some_alive end (Lead-keeps IsNextUse (IsRoomy count) (next_roomy count) work end uses roomy leads).0

  -- the room, where each outcome may pass so many atoms
  most : (each : ℕ) → count - 2 ≤ each → room count work ≤ length diagram.outcomes * each
  most each few = subst (λ l. room count work ≤ l * each) as_many (room_most count each work few)

  few : AreFew diagram uses
  few = record {
    shortcuts = let pass = passing in let room = most (count - 2) (omega arith) in omega (arith, pass, room);
    taken_away = let less = alive in let some = left in let all = as_many in omega (arith, less, some, all);
    closings = let close = closing in let one = while_open_most 1 work in omega (arith, close, one);
    all =
        let each = kinds uses in
        let pass = passing in let room = most count (omega arith) in
        let less = alive in let all = as_many in
        let close = closing in let one = while_open_most 1 work in
        omega (arith, each, pass, room, less, all, close, one);
  }

-- the uses that are made of a fresh work are few
pub uses_are_few : UsesAreFew
uses_are_few diagram work end uses fresh leads = few diagram work end uses fresh leads
