-- What a line of each kind says, by the function that reads it.
use Rattle.std.proofs.Common.{◌≡◌, List, Ok, refl}
use Rattle.nego_base.specs.declared.line.Line.{Line}
use Rattle.nego_base.specs.declared.line.Word.{Word}
use Rattle.nego_base.specs.Results.{◌>>=◌}
use Rattle.nego_reader.specs.Rows.{Row, Agent, Atom, Out, Case, Next, AgentRow, AtomRow, OutRow, CaseRow, NextRow}
use Rattle.nego_reader.specs.Reading.{agent_in, names_in, named_in, case_in, next_in, row_of}

pub agent_line : (line : Line) → row_of Agent line ≡ (agent_in line >>= λ agent. Ok (AgentRow agent))
unfolding row_of
agent_line line = refl

-- an atom's line, from its name and its parties
abbrev pub atom_row : Word × List Word → Row
atom_row names = AtomRow names.0 names.1

pub atom_line : (line : Line) → row_of Atom line ≡ (names_in 2 line >>= λ names. Ok (atom_row names))
unfolding row_of
atom_line line = refl

pub out_line : (line : Line) → row_of Out line ≡ (named_in line >>= λ name. Ok (OutRow name))
unfolding row_of
out_line line = refl

pub case_line : (line : Line) → row_of Case line ≡ (case_in line >>= λ c. Ok (CaseRow c))
unfolding row_of
case_line line = refl

pub next_line : (line : Line) → row_of Next line ≡ (next_in line >>= λ next. Ok (NextRow next))
unfolding row_of
next_line line = refl
