-- The faults of shape: for each condition the list of all that break it, in the order of the text. The list is empty where
-- the condition holds.
use Rattle.std.specs.Prelude.{◌≡◌, ◌⊎◌, ℕ, ◌+◌, ◌<◌, Bool, false, nat_lt, nat_le, ◌==◌, ◌||◌, ◌&&◌, not, if◌then◌else◌, List, [], ◌∷◌, ◌++◌, length, map, take, slice_get, slice_index, Option}
use Rattle.std.specs.List.{list_any, flat_map, filter, range_with_len}
use Rattle.std.specs.Option.{option_map, option_map_or}
use Rattle.std.specs.Str.{bytes_eq}
use Rattle.nego_base.specs.declared.line.Word.{Word}
use Rattle.nego_base.specs.declared.ids.AgentId.{AgentId}
use Rattle.nego_base.specs.Firsts.{first_among}
use Rattle.nego_base.specs.Members.{is_in}
use Rattle.nego_data.specs.Cases.{covers}
use Rattle.nego_data.specs.Data.{data_count, split}
use Rattle.nego_reader.specs.declared.parsed.Parsed.{Parsed}
use Rattle.nego_reader.specs.declared.parsed.PAgent.{PAgent}
use Rattle.nego_reader.specs.declared.parsed.PAtom.{PAtom}
use Rattle.nego_reader.specs.declared.parsed.POut.{POut}
use Rattle.nego_reader.specs.declared.parsed.PNext.{PNext}
use Rattle.nego_reader.specs.declared.parsed.PCase.{PCase}
use Rattle.nego_reader.specs.declared.parsed.PSet.{PSet}
use Rattle.nego_reader.specs.Content.{Content, NextContent, CaseContent, TermContent, AnyTerm, NumberTerm, PlusTerm, MinusTerm, content_of, out_content, next_content, case_content}
use Rattle.nego_reader.specs.Rising.{case_words}
use Rattle.nego_reader.specs.Rows.{Row, HeaderRow, AgentRow, AtomRow, OutRow, CaseRow, NextRow, FirstRow, LastRow, EndRow, rows_of}
use Rattle.nego_shape.specs.declared.fault.Many.TheVariants as many
use Rattle.nego_shape.specs.declared.fault.ShapeFault.{ShapeFault}
use Rattle.nego_shape.specs.declared.fault.ShapeKind.{ShapeKind}
use Rattle.nego_shape.specs.declared.fault.ShapeKind.TheVariants as kinds
use Rattle.nego_shape.specs.Conditions.{Condition, SomeAgent, FewAgents, FewAtoms, FewOutcomes, NamedOnce, AllDeclared, SomeParty, SomeOutcome, AllBegin, AllEnd, AllSent, NoStranger, LastEnds, PartiesAlone, NoZeroSize, NoLargeSize, NoLargeJoint, NoLargeValue, AllCovered}
use Rattle.nego_shape.specs.Naming.{place_of, places_of, agent_names, atom_names, sizes_in, parties_in, parties_at, cases_in}
use Rattle.nego_shape.specs.Shaped.{last_number, case_names}

-- A fault, and how far behind it stands on its line: by its agent's number, that of its joint data, or its word's column.
pub record Spot : Type 0 where
  pub fault : ShapeFault
  pub number : ℕ

abbrev pub spot : ℕ → ℕ → ShapeKind → Spot
spot line number kind = record { fault = record { line = line; kind = kind }; number = number }

-- the fault, where this holds
abbrev pub spot_if : Bool → ℕ → ShapeKind → List Spot
spot_if test line kind = if test then spot line 0 kind ∷ [] else []

-- a fault of each of these agents
abbrev pub of_agents : ℕ → (AgentId → ShapeKind) → List ℕ → List Spot
of_agents line kind agents = map (λ a. spot line a (kind (record { 0 = a }))) agents

-- what the items give, numbered from n on
unfoldable pub numbered : {A B : Type 0} → (ℕ → A → List B) → ℕ → List A → List B
numbered f n [] = []
numbered f n (x ∷ xs) = f n x ++ numbered f (n + 1) xs

-- what the outcomes give by the number of their atom and their own, where atoms are numbered from n on, and outcomes from o on
unfoldable pub each_out : {B : Type 0} → (ℕ → ℕ → POut → List B) → ℕ → ℕ → List PAtom → List B
each_out f n o [] = []
each_out f n o (atom ∷ atoms) = numbered (f n) o atom.outs ++ each_out f (n + 1) (o + length atom.outs) atoms

-- ---- names

-- the word stands among these
abbrev pub stands_in : List Word → Word → Bool
stands_in words word = list_any (λ other. bytes_eq other.text word.text) words

abbrev pub word_if : Bool → Word → List Word
word_if test word = if test then word ∷ [] else []

-- the name of the item, where one before it has this name too
abbrev pub again : {A : Type 0} → (A → Word) → List A → A → List Word
again name before item = word_if (list_any (λ other. bytes_eq (name other).text (name item).text) before) (name item)

abbrev pub repeated : {A : Type 0} → (A → Word) → List A → List Word
repeated name items = numbered (λ i item. again name (take i items) item) 0 items

-- the agent stands on one of these lines, which is for this atom
abbrev pub is_led : List PNext → Word → Word → Bool
is_led nexts atom agent = list_any (λ next. bytes_eq next.atom.text atom.text && stands_in next.agents agent) nexts

-- the agents of a next line who stand on it before, or on an earlier line for the same atom
abbrev pub sent_again : List PNext → PNext → List Word
sent_again earlier next = numbered (λ i agent. word_if (stands_in (take i next.agents) agent || is_led earlier next.atom agent) agent) 0 next.agents

-- the words of an outcome that stand for a second time: its name, agents in a case, and agents on next lines
abbrev pub twice_in_out : List POut → POut → List Word
twice_in_out before out = again (λ (other : POut). other.name) before out ++ (flat_map (λ case. repeated (λ (set : PSet). set.agent) case.sets) out.cases ++ numbered (λ k next. sent_again (take k out.nexts) next) 0 out.nexts)

abbrev pub twice_in_atom : List PAtom → PAtom → List Word
twice_in_atom before atom = again (λ (other : PAtom). other.name) before atom ++ (repeated (λ (party : Word). party) atom.parties ++ numbered (λ i out. twice_in_out (take i atom.outs) out) 0 atom.outs)

-- each word that is the second of its name: among the agents' names, the atoms', the parties of an atom, the names of its
-- outcomes, the agents that a case assigns, or those on the next lines of an outcome for one atom
abbrev pub twice_words : Parsed → List Word
twice_words p = repeated (λ (agent : PAgent). agent.name) p.agents ++ numbered (λ n atom. twice_in_atom (take n p.atoms) atom) 0 p.atoms

-- those of the words that are none of these names
abbrev pub others : List (List ℕ) → List Word → List Word
others names words = filter (λ word. not (nat_lt (place_of word.text names) (length names))) words

-- the words of a line that name agents who aren't declared, or atoms that aren't
abbrev pub undeclared_in : Content → Row → List Word
undeclared_in c HeaderRow = []
undeclared_in c (AgentRow a) = []
undeclared_in c (AtomRow name parties) = others (agent_names c) parties
undeclared_in c (OutRow name) = []
undeclared_in c (CaseRow case) = others (agent_names c) (case_words case)
undeclared_in c (NextRow next) = others (atom_names c) (next.atom ∷ []) ++ others (agent_names c) next.agents
undeclared_in c (FirstRow name) = others (atom_names c) (name ∷ [])
undeclared_in c (LastRow name) = others (atom_names c) (name ∷ [])
undeclared_in c EndRow = []

abbrev pub undeclared_words : Parsed → List Word
undeclared_words p = flat_map (undeclared_in (content_of p)) (rows_of p)

abbrev pub of_words : (List ℕ → ShapeKind) → List Word → List Spot
of_words kind words = map (λ word. spot word.line word.column (kind word.text)) words

-- ---- atoms and agents

-- the agents who are no party of the atom that the word names
abbrev pub lacking : Content → (AgentId → ShapeKind) → Word → List Spot
lacking c kind word = of_agents word.line kind (filter (λ a. not (is_in a (parties_at c (place_of word.text (atom_names c))))) (range_with_len 0 (length c.agents)))

-- with this agent's size the product of those up to it is the first above 1,024
abbrev pub passes_joint : List ℕ → ℕ → Bool
passes_joint sizes a = nat_le (data_count (take a sizes)) 1024 && nat_lt 1024 (data_count (take (a + 1) sizes))

-- ---- outcomes

-- agent a stands on one of the next lines
abbrev pub is_sent : Content → List NextContent → ℕ → Bool
is_sent c nexts a = list_any (λ next. is_in a (places_of next.agents (agent_names c))) nexts

-- the parties of another atom than the last who stand on no next line of its outcome
abbrev pub missing : Content → ℕ → ℕ → POut → List Spot
missing c n o out = if n == last_number c then [] else of_agents out.name.line (kinds.NextMissing (record { 0 = o })) (filter (λ a. not (is_sent c (out_content out).nexts a)) (parties_at c n))

-- the agents on a next line who are no party of the outcome's atom, or of the next atom
abbrev pub strangers : Content → ℕ → ℕ → PNext → List Spot
strangers c n o next =
    let m = place_of next.atom.text (atom_names c) in
    of_agents next.atom.line (λ a. kinds.NextStranger (record { 0 = o }) a (record { 0 = m })) (filter (λ a. not (is_in a (parties_at c n) && is_in a (parties_at c m))) (parties_in c (next_content next).agents))

-- the line of the first name in a case
abbrev pub case_line : PCase → ℕ
case_line case = option_map_or (λ (word : Word). word.line) (slice_get (case_words case) 0) 0

-- the agents of a case who are no party of the outcome's atom
abbrev pub outsiders : Content → ℕ → ℕ → PCase → List Spot
outsiders c n o case = of_agents (case_line case) (kinds.NotParty (record { 0 = o })) (filter (λ a. not (is_in a (parties_at c n))) (parties_in c (case_names (case_content case))))

-- the term is a number that isn't below the size
abbrev pub is_too_large : ℕ → TermContent → Bool
is_too_large size AnyTerm = false
is_too_large size (NumberTerm n) = nat_le size n
is_too_large size (PlusTerm name n) = false
is_too_large size (MinusTerm name n) = false

-- the case assigns the agent such a number
abbrev pub is_overfull : Content → CaseContent → ℕ → Bool
is_overfull c case a = list_any (λ set. (place_of set.agent (agent_names c) == a) && is_too_large (slice_index (sizes_in c) a) set.term) case.sets

abbrev pub overfull : Content → ℕ → PCase → List Spot
overfull c o case = of_agents (case_line case) (kinds.ValueTooLarge (record { 0 = o })) (filter (is_overfull c (case_content case)) (range_with_len 0 (length c.agents)))

-- the joint data that no case of the outcome covers
abbrev pub uncovered : Content → ℕ → POut → List Spot
uncovered c o out =
    map (λ d. spot out.name.line d (kinds.NotTotal (record { 0 = o }) d)) (filter (λ d. not (list_any (λ case. covers case (split (sizes_in c) d)) (cases_in c (out_content out)))) (range_with_len 0 (data_count (sizes_in c))))

-- ---- each condition

abbrev pub faults : Condition → Parsed → List Spot
faults SomeAgent p = spot_if (length p.agents == 0) 1 kinds.NoAgent
faults FewAgents p = numbered (λ i agent. spot_if (i == 16) agent.name.line (kinds.TooMany many.Agents)) 0 p.agents
faults FewAtoms p = numbered (λ i atom. spot_if (i == 64) atom.name.line (kinds.TooMany many.Atoms)) 0 p.atoms
faults FewOutcomes p = each_out (λ n o out. spot_if (o == 256) out.name.line (kinds.TooMany many.Outcomes)) 0 0 p.atoms
faults NamedOnce p = of_words kinds.Twice (twice_words p)
faults AllDeclared p = of_words kinds.Unknown (undeclared_words p)
faults SomeParty p = numbered (λ n atom. spot_if (length atom.parties == 0) atom.name.line (kinds.NoParty (record { 0 = n }))) 0 p.atoms
faults SomeOutcome p = numbered (λ n atom. spot_if (length atom.outs == 0) atom.name.line (kinds.NoOutcome (record { 0 = n }))) 0 p.atoms
faults AllBegin p = lacking (content_of p) kinds.FirstLacks p.first
faults AllEnd p = lacking (content_of p) kinds.LastLacks p.last
faults AllSent p = each_out (missing (content_of p)) 0 0 p.atoms
faults NoStranger p = each_out (λ n o out. flat_map (strangers (content_of p) n o) out.nexts) 0 0 p.atoms
faults LastEnds p = each_out (λ n o out. flat_map (λ (next : PNext). spot_if (n == last_number (content_of p)) next.atom.line (kinds.LastLeads (record { 0 = o }))) out.nexts) 0 0 p.atoms
faults PartiesAlone p = each_out (λ n o out. flat_map (outsiders (content_of p) n o) out.cases) 0 0 p.atoms
faults NoZeroSize p = numbered (λ a agent. spot_if (agent.size == 0) agent.name.line (kinds.ZeroSize (record { 0 = a }))) 0 p.agents
faults NoLargeSize p = numbered (λ a agent. spot_if (nat_lt 64 agent.size) agent.name.line (kinds.SizeTooLarge (record { 0 = a }))) 0 p.agents
faults NoLargeJoint p = numbered (λ a agent. spot_if (passes_joint (sizes_in (content_of p)) a) agent.name.line (kinds.JointTooLarge (record { 0 = a }))) 0 p.agents
faults NoLargeValue p = each_out (λ n o out. flat_map (overfull (content_of p) o) out.cases) 0 0 p.atoms
faults AllCovered p = each_out (λ n o out. uncovered (content_of p) o out) 0 0 p.atoms

-- the first of these
abbrev pub first_of : List Spot → Option ShapeFault
first_of spots = option_map (λ (s : Spot). s.fault) (slice_get spots 0)

-- the first fault of the first of these conditions that has any
abbrev pub first_fault : List Condition → Parsed → Option ShapeFault
first_fault conditions p = first_among (λ condition. first_of (faults condition p)) conditions

-- The one stands before the other: on an earlier line, or on the same with a lesser number.
abbrev pub IsAhead : Spot → Spot → Type 0
IsAhead one two = (one.fault.line < two.fault.line) ⊎ ((one.fault.line ≡ two.fault.line) × (one.number < two.number))

-- the conditions that are tested before any name is looked up
abbrev pub counts : List Condition
counts = SomeAgent ∷ FewAgents ∷ FewAtoms ∷ FewOutcomes ∷ []

-- those that are tested over the numbers of names
abbrev pub inner : List Condition
inner = SomeParty ∷ SomeOutcome ∷ AllBegin ∷ AllEnd ∷ AllSent ∷ NoStranger ∷ LastEnds ∷ PartiesAlone ∷ NoZeroSize ∷ NoLargeSize ∷ NoLargeJoint ∷ NoLargeValue ∷ []
