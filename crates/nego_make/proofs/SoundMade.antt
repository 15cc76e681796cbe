-- What is made is sound, since each agent goes through its atoms in their order.
use Rattle.std.proofs.Common.{◌≡◌, ◌∙◌, ℕ, ◌-◌, ◌<◌, ◌≤◌, length, IsTrue, ap, sym, subst, arith, ltb-true}
use Rattle.std.proofs.lemmas.List.{length-map}
use Rattle.nego_base.specs.Members.{is_in}
use Rattle.nego_base.proofs.Members.{is_in-range_zero}
use Rattle.nego_model.specs.Negotiation.{Negotiation, IsNegotiation}
use Rattle.nego_model.specs.Occurring.{IsSound}
use Rattle.nego_model.specs.Diagram.{PlainDiagram, negotiation_of}
use Rattle.nego_shape.specs.Naming.{atom_in, diagram_in}
use Rattle.nego_shape.proofs.ShapedDiagrams.{parties-same, shaped-diagram}
use Rattle.nego_make.specs.Generated.{parties, generated}
use Rattle.nego_make.proofs.Names.{atom_count, atom_place, parties_are}
use Rattle.nego_make.proofs.Moves.{no_party}
use Rattle.nego_make.proofs.Conditions.{shaped}
use Rattle.nego_make.proofs.Edges.{leads, deterministic}
use Rattle.nego_make.proofs.Lanes.{IsLane, IsEnclosed, lanes_sound}

module _ (n : ℕ) (some : 2 ≤ n) (few : n ≤ 64) where
  abbrev diagram : PlainDiagram
  diagram = diagram_in (generated n)

  abbrev nego : Negotiation
  nego = negotiation_of (diagram_in (generated n))

  form : IsNegotiation nego
  form = (shaped-diagram (generated n) (shaped n some few)).form

  same_parties : (j : ℕ) → j < n → nego.parties j ≡ parties n j
  same_parties j below = parties-same (generated n) j ∙ parties_are n j below

  atom_below : (k : ℕ) → IsTrue (is_in k nego.atoms) → k < n
  atom_below k there =
      let count : length diagram.atoms ≡ n = length-map (generated n).atoms (atom_in (generated n)) ∙ atom_count n in
      subst (λ c. k < c) count (ltb-true k (length diagram.atoms) (sym (is_in-range_zero k (length diagram.atoms)) ∙ there))

  lane : IsLane nego
  lane m o a k own h =
      let next = leads n some few m o a k own h in
      let below = atom_below k (form.next_party m o a k own h).0 in
      (next.0, λ j up under party. no_party n m k a j next.1 up under (ap (is_in a) (sym (same_parties j (omega (arith, under, below)))) ∙ party))

  enclosed : IsEnclosed nego
  enclosed = record {
    least = λ k there. let first : nego.first ≡ 0 = atom_place n few 0 (omega (arith, some)) in omega (arith, first);
    greatest = λ k there. let last : nego.last ≡ n - 1 = atom_place n few (n - 1) (omega (arith, some)) in let below = atom_below k there in omega (arith, last, below);
  }

  pub sound : IsSound nego
  sound = lanes_sound nego form (deterministic n some few) lane enclosed
