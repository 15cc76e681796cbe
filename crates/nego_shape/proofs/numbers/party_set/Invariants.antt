use Rattle.std.proofs.Common.{◌≡◌, ℕ, [], ◌∷◌, take, drop}
use Rattle.std.specs.List.{flat_map}
use Rattle.nego_base.specs.Members.{is_in, IsRisingBelow}
use Rattle.nego_reader.specs.Content.{content_of, texts}
use Rattle.nego_shape.specs.Faults.{others}
use Rattle.nego_shape.specs.Naming.{places_of, agent_names}
use Rattle.nego_shape.proofs.numbers.party_set.Given as goal

abbrev pub invariant-loop-name : goal.invariant-loop-name
invariant-loop-name l =
    let undeclared = flat_map (λ word. others (agent_names (content_of l.p)) (word ∷ [])) in
    record {
      rising : IsRisingBelow 16 l.set;
      members : (a : ℕ) → is_in a l.set ≡ is_in a (places_of (texts (take l.name-index l.names)) (agent_names (content_of l.p)));
      declared : undeclared l.names ≡ undeclared (drop l.name-index l.names);
    }
