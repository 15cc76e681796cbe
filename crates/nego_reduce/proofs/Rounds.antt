-- How many guards are tested in all rounds.
use Rattle.std.proofs.Common.{◌≡◌, ℕ, ◌+◌, ◌-◌, ◌*◌, ◌≤◌, List, length, map, sym, subst, arith}
use Rattle.std.proofs.lemmas.List.{length-map}
use Rattle.nego_model.specs.Diagram.{PlainDiagram}
use Rattle.nego_expr.specs.Work.{PlainWork}
use Rattle.nego_expr.specs.declared.uses.Use.{Use}
use Rattle.nego_expr.specs.UseView.{plain_use}
use Rattle.nego_expr.specs.Lead.{Lead}
use Rattle.nego_expr.specs.StandsFor.{IsFresh}
use Rattle.nego_reduce.specs.Order.{IsNextUse}
use Rattle.nego_reduce.specs.Bound.{most_tests}
use Rattle.nego_reduce.proofs.bound.FewUses.{uses_are_few, few_alive, kinds, some_outcome}
use Rattle.nego_reduce.proofs.FewTests.{one_atom, rounds_fit}

-- one more of so many each
pub one_round_more : (n each : ℕ) → (n + 1) * each ≡ n * each + each
one_round_more n each = search arith

module _ (diagram : PlainDiagram) (work end : PlainWork) (uses : List Use) (fresh : IsFresh work diagram) (leads : Lead IsNextUse work (map plain_use uses) end) where
  -- what is tested at most in a round
  abbrev each : ℕ
  each = 17 * length diagram.outcomes + 3

  -- a round tests few guards
  pub round_few : (before after : ℕ) → after ≤ before + (17 * length end.outcomes + 2) → after ≤ before + each
  round_few before after h = let few = few_alive diagram work end (map plain_use uses) fresh leads in omega (arith, h, few)

  -- a diagram of one outcome has one use at most: it has one atom, so that no shortcut is made
  single : length diagram.outcomes ≡ 1 → length uses ≤ 1
  single one =
      let few = uses_are_few diagram work end (map plain_use uses) fresh leads in
      let atoms = one_atom diagram fresh.diagram_read.form one in
      let each = kinds (map plain_use uses) in
      let none : length diagram.outcomes * (length diagram.atoms - 2) ≤ 0 = subst (λ n. n * (length diagram.atoms - 2) ≤ 0) (sym one) (omega (arith, atoms)) in
      let shortcuts = few.shortcuts in let taken = few.taken_away in let closings = few.closings in
      let same = length-map uses plain_use in
      omega (arith, each, none, shortcuts, taken, closings, same, one)

  -- all rounds, and one more
  pub rounds_few : (start before after : ℕ) → before ≤ start + length uses * each → after ≤ before + (17 * length end.outcomes + 2) → after ≤ start + most_tests diagram
  rounds_few start before after h k =
      let few = uses_are_few diagram work end (map plain_use uses) fresh leads in
      let all = few.all in let same = length-map uses plain_use in
      let least = some_outcome diagram work fresh in
      let most : (length uses + 1) * each ≤ most_tests diagram = rounds_fit (length diagram.outcomes) (length diagram.atoms) (length uses) least single (omega (arith, all, same)) in
      let one = one_round_more (length uses) each in
      let last = round_few before after k in
      omega (arith, h, last, one, most)
