-- Lines of agents and atoms, where the words of the text rise.
use Rattle.std.proofs.Common.{◌≡◌, ℕ, ◌<◌, List, [], ◌∷◌, ◌++◌, map, Some, slice_get, refl, subst}
use Rattle.std.proofs.lemmas.List.Elements.{All-head}
use Rattle.std.specs.List.{All, AllPairs, flat_map}
use Rattle.nego_base.specs.declared.line.Word.{Word}
use Rattle.nego_base.proofs.PairLaws.{AllPairs-tail, AllPairs-front, AllPairs-back, AllPairs-unmap}
use Rattle.nego_reader.specs.declared.parsed.Parsed.{Parsed}
use Rattle.nego_reader.specs.declared.parsed.PAgent.{PAgent}
use Rattle.nego_reader.specs.declared.parsed.PAtom.{PAtom}
use Rattle.nego_reader.specs.Rows.{Row, HeaderRow, AgentRow, AtomRow, FirstRow, LastRow, EndRow, out_rows, atom_rows, rows_of}
use Rattle.nego_reader.specs.Rising.{words_in, IsAbove, HasRisingWords}
use Rattle.nego_shape.proofs.FlatPairs.{AllBetween, pairs_of_pieces, pair_at}

-- the first words of two lines
first_above : (row below : Row) (word other : Word) (words others : List Word) → words_in row ≡ word ∷ words → words_in below ≡ other ∷ others → IsAbove row below → word.line < other.line
first_above row below word other words others is is' h =
    let one : All (λ w. All (λ v. w.line < v.line) (words_in below)) (word ∷ words) = subst (All (λ w. All (λ v. w.line < v.line) (words_in below))) is h in
    let two : All (λ v. word.line < v.line) (other ∷ others) = subst (All (λ (v : Word). word.line < v.line)) is' (All-head (λ (w : Word). All (λ (v : Word). w.line < v.line) (words_in below)) word words one) in
    All-head (λ (v : Word). word.line < v.line) other others two

module _ (p : Parsed) (rises : HasRisingWords p) where
  abbrev ends : List Row
  ends = FirstRow p.first ∷ LastRow p.last ∷ EndRow ∷ []

  behind_header : AllPairs IsAbove (map AgentRow p.agents ++ flat_map atom_rows p.atoms ++ ends)
  unfolding rows_of
  behind_header = AllPairs-tail IsAbove HeaderRow (map AgentRow p.agents ++ flat_map atom_rows p.atoms ++ ends) rises.lines

  agents_and_atoms : AllPairs IsAbove (map AgentRow p.agents ++ flat_map atom_rows p.atoms)
  agents_and_atoms = AllPairs-front IsAbove (map AgentRow p.agents ++ flat_map atom_rows p.atoms) ends behind_header

  pub agents_rise : (i j : ℕ) (agent other : PAgent) → i < j → slice_get p.agents i ≡ Some agent → slice_get p.agents j ≡ Some other → agent.name.line < other.name.line
  agents_rise i j agent other l at at' =
      first_above (AgentRow agent) (AgentRow other) agent.name other.name [] [] refl refl
      (pair_at (λ (a b : PAgent). IsAbove (AgentRow a) (AgentRow b)) p.agents i j agent other
      (AllPairs-unmap IsAbove AgentRow p.agents (AllPairs-front IsAbove (map AgentRow p.agents) (flat_map atom_rows p.atoms) agents_and_atoms)) l at at')

  pub atoms_lines : AllPairs IsAbove (flat_map atom_rows p.atoms)
  atoms_lines = AllPairs-back IsAbove (map AgentRow p.agents) (flat_map atom_rows p.atoms) agents_and_atoms

  pub atoms_rise : (i j : ℕ) (atom other : PAtom) → i < j → slice_get p.atoms i ≡ Some atom → slice_get p.atoms j ≡ Some other → atom.name.line < other.name.line
  unfolding atom_rows
  atoms_rise i j atom other l at at' =
      first_above (AtomRow atom.name atom.parties) (AtomRow other.name other.parties) atom.name other.name atom.parties other.parties refl refl
      (All-head (IsAbove (AtomRow atom.name atom.parties)) (AtomRow other.name other.parties) (flat_map out_rows other.outs)
      (All-head (λ row. All (IsAbove row) (atom_rows other)) (AtomRow atom.name atom.parties) (flat_map out_rows atom.outs)
      (pair_at (λ (a b : PAtom). AllBetween IsAbove (atom_rows a) (atom_rows b)) p.atoms i j atom other (pairs_of_pieces IsAbove atom_rows p.atoms atoms_lines) l at at')))
