-- The words of a text's parts that aren't declared, and what is answered where there are some.
use Rattle.std.specs.Prelude.{◌≡◌, List, [], ◌++◌, Option, Result}
use Rattle.std.specs.List.{flat_map}
use Rattle.std.specs.Result.{MatchResult}
use Rattle.nego_base.specs.declared.line.Word.{Word}
use Rattle.nego_reader.specs.declared.parsed.PAtom.{PAtom}
use Rattle.nego_reader.specs.declared.parsed.POut.{POut}
use Rattle.nego_reader.specs.Content.{Content}
use Rattle.nego_reader.specs.Rows.{CaseRow, NextRow}
use Rattle.nego_shape.specs.declared.fault.ShapeAnswer.{ShapeAnswer}
use Rattle.nego_shape.specs.declared.fault.ShapeFault.{ShapeFault}
use Rattle.nego_shape.specs.declared.fault.ShapeKind.TheVariants as kinds
use Rattle.nego_shape.specs.Faults.{others, undeclared_in, of_words, first_of}
use Rattle.nego_shape.specs.Answer.{Tells}
use Rattle.nego_shape.specs.Naming.{agent_names}

-- the words of an outcome's lines
abbrev pub undeclared_in_out : Content → POut → List Word
undeclared_in_out c out = flat_map (λ case. undeclared_in c (CaseRow case)) out.cases ++ flat_map (λ next. undeclared_in c (NextRow next)) out.nexts

-- the words of an atom's lines
abbrev pub undeclared_in_atom : Content → PAtom → List Word
undeclared_in_atom c atom = others (agent_names c) atom.parties ++ flat_map (undeclared_in_out c) atom.outs

-- the fault of the first of these words
abbrev pub first_unknown : List Word → Option ShapeFault
first_unknown words = first_of (of_words kinds.Unknown words)

-- There are none of these words; an error tells the first of them.
abbrev pub Declares : {X : Type 0} → Result X ShapeAnswer → List Word → Type 0
Declares result words = MatchResult result (λ _. words ≡ []) (λ e. Tells e (first_unknown words))
