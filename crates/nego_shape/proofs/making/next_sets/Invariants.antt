use Rattle.std.proofs.Common.{◌≡◌, ◌<◌, ℕ, [], length, slice_index_or}
use Rattle.nego_reader.specs.Content.{content_of, out_content}
use Rattle.nego_shape.specs.Naming.{next_atoms}
use Rattle.nego_shape.proofs.making.next_sets.Given as goal

abbrev pub invariant-loop-a : goal.invariant-loop-a
invariant-loop-a l = (length l.sets ≡ 16) × ((k : ℕ) → k < l.a → slice_index_or l.sets k [] ≡ next_atoms (content_of l.p) (out_content l.out) k)
