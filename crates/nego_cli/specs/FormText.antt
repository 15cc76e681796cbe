-- The text that tells the form of a diagram. Every line ends with a newline.
use Rattle.std.specs.Prelude.{ℕ, ◌<◌, List, [], ◌∷◌, ◌++◌, length, Option, Some, None, codes, decimal, All}
use Rattle.std.specs.Option.{option_map}
use Rattle.nego_base.specs.declared.ids.AgentId.{AgentId}
use Rattle.nego_base.specs.declared.ids.AtomId.{AtomId}
use Rattle.nego_base.specs.declared.ids.OutcomeId.{OutcomeId}
use Rattle.nego_data.specs.Data.{data_count}
use Rattle.nego_model.specs.Diagram.{PlainDiagram, atom_name}
use Rattle.nego_shape.specs.declared.answer.Order.{Order}
use Rattle.nego_shape.specs.declared.answer.Order.TheVariants as orders
use Rattle.nego_cli.specs.Refusals.{choice_words}

-- a number behind its name, on a line
abbrev pub count_line : List ℕ → ℕ → List ℕ → List ℕ
count_line name n rest = name ++ (codes " " ++ (decimal n ++ (codes "\n" ++ rest)))

-- the numbers of an outcome and an agent
abbrev pub choice_numbers : Option (OutcomeId × AgentId) → Option (ℕ × ℕ)
choice_numbers choice = option_map (λ pair. (pair.0.0, pair.1.0)) choice

-- whether the diagram is deterministic, or where not
abbrev pub choice_line : PlainDiagram → Option (ℕ × ℕ) → List ℕ → List ℕ
choice_line d None rest = codes "deterministic\n" ++ rest
choice_line d (Some pair) rest = codes "not deterministic " ++ choice_words d pair.0 pair.1 (codes "\n" ++ rest)

-- the names of atoms, each behind a blank
abbrev pub atom_words : PlainDiagram → List AtomId → List ℕ → List ℕ
atom_words d [] rest = rest
atom_words d (n ∷ ns) rest = codes " " ++ (atom_name d n.0 ++ atom_words d ns rest)

-- The atoms of the order, or of the cycle, are atoms of the diagram.
abbrev pub AreAtoms : PlainDiagram → Order → Type 0
AreAtoms d (orders.Acyclic ns) = All (λ n. n.0 < length d.atoms) ns
AreAtoms d (orders.Cycle ns) = All (λ n. n.0 < length d.atoms) ns

-- the order of the atoms, or a cycle
abbrev pub order_line : PlainDiagram → Order → List ℕ → List ℕ
order_line d (orders.Acyclic ns) rest = codes "acyclic" ++ atom_words d ns (codes "\n" ++ rest)
order_line d (orders.Cycle ns) rest = codes "cyclic" ++ atom_words d ns (codes "\n" ++ rest)

-- the six lines
abbrev pub form_text : PlainDiagram → Option (ℕ × ℕ) → Order → List ℕ
form_text d choice order =
    count_line (codes "agents") (length d.agents) (count_line (codes "atoms") (length d.atoms) (count_line (codes "outcomes") (length d.outcomes)
    (count_line (codes "joint") (data_count d.sizes) (choice_line d choice (order_line d order [])))))
