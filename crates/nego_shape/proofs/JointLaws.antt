-- Joint data that a first fault tells are joint data of the text's sizes.
use Rattle.std.proofs.Common.{◌≡◌, ℕ, ◌==◌, Bool, true, false, not, ◌&&◌, nat_lt, List, [], ◌∷◌, length, get_or, if◌then◌else◌, refl, sym, subst, ◌∙◌}
use Rattle.std.specs.List.{All, list_any, filter, flat_map, range_with_len}
use Rattle.std.proofs.lemmas.Bool.{ltb-true}
use Rattle.std.proofs.lemmas.List.Elements.{All-nil, All-cons, All-map, All-filter, All-contains}
use Rattle.nego_base.specs.declared.ids.AgentId.{AgentId}
use Rattle.nego_base.specs.declared.line.Word.{Word}
use Rattle.nego_base.specs.Members.{is_in}
use Rattle.nego_base.proofs.ListLaws.{All-flat}
use Rattle.nego_base.proofs.Members.{All-members, is_in-range_zero}
use Rattle.nego_data.specs.Cases.{covers}
use Rattle.nego_data.specs.Data.{data_count, split}
use Rattle.nego_data.specs.Sizes.{AreSizes}
use Rattle.nego_reader.specs.declared.parsed.Parsed.{Parsed}
use Rattle.nego_reader.specs.declared.parsed.POut.{POut}
use Rattle.nego_reader.specs.declared.parsed.PNext.{PNext}
use Rattle.nego_reader.specs.declared.parsed.PAgent.{PAgent}
use Rattle.nego_reader.specs.declared.parsed.PAtom.{PAtom}
use Rattle.nego_reader.specs.declared.parsed.PCase.{PCase}
use Rattle.nego_reader.specs.Content.{Content, content_of, out_content, next_content, case_content}
use Rattle.nego_shape.specs.declared.fault.Many.TheVariants as many
use Rattle.nego_shape.specs.declared.fault.ShapeAnswer.{ShapeAnswer}
use Rattle.nego_shape.specs.declared.fault.ShapeAnswer.TheVariants as answers
use Rattle.nego_shape.specs.declared.fault.ShapeFault.{ShapeFault}
use Rattle.nego_shape.specs.declared.fault.ShapeKind.{ShapeKind}
use Rattle.nego_shape.specs.declared.fault.ShapeKind.TheVariants as kinds
use Rattle.nego_shape.specs.Answer.{AreJointIn, HasCause, HasJoint, LacksShape}
use Rattle.nego_shape.specs.Faults.{Spot, spot, spot_if, of_agents, of_words, missing, strangers, outsiders, overfull, uncovered, passes_joint, is_sent, is_overfull, case_line, twice_words, undeclared_words, faults}
use Rattle.nego_shape.specs.Conditions.{Condition, SomeAgent, FewAgents, FewAtoms, FewOutcomes, NamedOnce, AllDeclared, SomeParty, SomeOutcome, AllBegin, AllEnd, AllSent, NoStranger, LastEnds, PartiesAlone, NoZeroSize, NoLargeSize, NoLargeJoint, NoLargeValue, AllCovered}
use Rattle.nego_shape.specs.FirstFault.{place, Met, IsFirstFault}
use Rattle.nego_shape.specs.Naming.{place_of, atom_names, sizes_in, parties_in, parties_at, cases_in}
use Rattle.nego_shape.specs.Shaped.{last_number, case_names}
use Rattle.nego_shape.proofs.FormLaws.{met_form}
use Rattle.nego_shape.proofs.Numbered.{All-numbered, All-each_out}
use Rattle.nego_shape.proofs.Stages.{never_both}

-- what holds of all faults that may stand in a list holds of those in it
module _ (Q : Spot → Type 0) where
  each_if : (test : Bool) (line : ℕ) (kind : ShapeKind) → Q (spot line 0 kind) → All Q (spot_if test line kind)
  each_if true line kind h = All-cons Q (spot line 0 kind) [] h (All-nil Q)
  each_if false line kind h = All-nil Q

  each_agent : (line : ℕ) (kind : AgentId → ShapeKind) (agents : List ℕ) → ((a : ℕ) → Q (spot line a (kind (record { 0 = a })))) → All Q (of_agents line kind agents)
  each_agent line kind agents h = All-map Q (λ a. spot line a (kind (record { 0 = a }))) agents (All-members (λ a. Q (spot line a (kind (record { 0 = a })))) agents (λ a m. h a))

  each_word : (kind : List ℕ → ShapeKind) (words : List Word) → ((word : Word) → Q (spot word.line word.column (kind word.text))) → All Q (of_words kind words)
  each_word kind [] h = All-nil Q
  each_word kind (word ∷ words) h = All-cons Q (spot word.line word.column (kind word.text)) (of_words kind words) (h word) (each_word kind words h)

  each_flat : {A : Type 0} (f : A → List Spot) (xs : List A) → ((x : A) → All Q (f x)) → All Q (flat_map f xs)
  each_flat f xs h = All-flat Q f xs (λ k d l. h (get_or xs k d))

module _ (p : Parsed) where
  abbrev Joint : Spot → Type 0
  Joint s = AreJointIn p s.fault.kind

  abbrev c : Content
  c = content_of p

  covered_joint : AreSizes (sizes_in c) → (o : ℕ) (out : POut) → All Joint (uncovered c o out)
  covered_joint sizes o out =
      let fails : ℕ → Bool = λ d. not (list_any (λ case. covers case (split (sizes_in c) d)) (cases_in c (out_content out))) in
      let bare : ℕ → Spot = λ d. spot out.name.line d (kinds.NotTotal (record { 0 = o }) d) in
      All-map Joint bare (filter fails (range_with_len 0 (data_count (sizes_in c)))) (All-filter fails (λ d. Joint (bare d)) (range_with_len 0 (data_count (sizes_in c)))
      (All-members (λ d. Joint (bare d)) (range_with_len 0 (data_count (sizes_in c))) (λ d m. (sizes, ltb-true d (data_count (sizes_in c)) (sym (is_in-range_zero d (data_count (sizes_in c))) ∙ m)))))

  -- the faults of agents on one line
  agents_joint : (line : ℕ) (kind : AgentId → ShapeKind) → ((a : ℕ) → AreJointIn p (kind (record { 0 = a }))) → (agents : List ℕ) → All Joint (of_agents line kind agents)
  agents_joint line kind h agents = each_agent Joint line kind agents h

  missing_joint : (n o : ℕ) (out : POut) → All Joint (missing c n o out)
  missing_joint n o out = by_last (n == last_number c)
    where
      by_last : (b : Bool) → All Joint (if b then [] else of_agents out.name.line (kinds.NextMissing (record { 0 = o })) (filter (λ a. not (is_sent c (out_content out).nexts a)) (parties_at c n)))
      by_last true = All-nil Joint
      by_last false = agents_joint out.name.line (kinds.NextMissing (record { 0 = o })) (λ a. tt) (filter (λ a. not (is_sent c (out_content out).nexts a)) (parties_at c n))

  strangers_joint : (n o : ℕ) (next : PNext) → All Joint (strangers c n o next)
  strangers_joint n o next =
      let m = place_of next.atom.text (atom_names c) in
      agents_joint next.atom.line (λ a. kinds.NextStranger (record { 0 = o }) a (record { 0 = m })) (λ a. tt) (filter (λ a. not (is_in a (parties_at c n) && is_in a (parties_at c m))) (parties_in c (next_content next).agents))

  outsiders_joint : (n o : ℕ) (case : PCase) → All Joint (outsiders c n o case)
  outsiders_joint n o case = agents_joint (case_line case) (kinds.NotParty (record { 0 = o })) (λ a. tt) (filter (λ a. not (is_in a (parties_at c n))) (parties_in c (case_names (case_content case))))

  overfull_joint : (o : ℕ) (case : PCase) → All Joint (overfull c o case)
  overfull_joint o case = agents_joint (case_line case) (kinds.ValueTooLarge (record { 0 = o })) (λ a. tt) (filter (is_overfull c (case_content case)) (range_with_len 0 (length c.agents)))

  all_joint : (condition : Condition) → (condition ≡ AllCovered → AreSizes (sizes_in c)) → All Joint (faults condition p)
  all_joint SomeAgent h = each_if Joint (length p.agents == 0) 1 kinds.NoAgent tt
  all_joint FewAgents h = All-numbered Joint (λ i (agent : PAgent). spot_if (i == 16) agent.name.line (kinds.TooMany many.Agents)) (λ i agent. each_if Joint (i == 16) agent.name.line (kinds.TooMany many.Agents) tt) 0 p.agents
  all_joint FewAtoms h = All-numbered Joint (λ i (atom : PAtom). spot_if (i == 64) atom.name.line (kinds.TooMany many.Atoms)) (λ i atom. each_if Joint (i == 64) atom.name.line (kinds.TooMany many.Atoms) tt) 0 p.atoms
  all_joint FewOutcomes h = All-each_out Joint (λ n o out. spot_if (o == 256) out.name.line (kinds.TooMany many.Outcomes)) (λ n o out. each_if Joint (o == 256) out.name.line (kinds.TooMany many.Outcomes) tt) 0 0 p.atoms
  all_joint NamedOnce h = each_word Joint kinds.Twice (twice_words p) (λ word. tt)
  all_joint AllDeclared h = each_word Joint kinds.Unknown (undeclared_words p) (λ word. tt)
  all_joint SomeParty h = All-numbered Joint (λ i (atom : PAtom). spot_if (length atom.parties == 0) atom.name.line (kinds.NoParty (record { 0 = i }))) (λ i atom. each_if Joint (length atom.parties == 0) atom.name.line (kinds.NoParty (record { 0 = i })) tt) 0 p.atoms
  all_joint SomeOutcome h = All-numbered Joint (λ i (atom : PAtom). spot_if (length atom.outs == 0) atom.name.line (kinds.NoOutcome (record { 0 = i }))) (λ i atom. each_if Joint (length atom.outs == 0) atom.name.line (kinds.NoOutcome (record { 0 = i })) tt) 0 p.atoms
  all_joint AllBegin h = each_agent Joint p.first.line kinds.FirstLacks (filter (λ a. not (is_in a (parties_at c (place_of p.first.text (atom_names c))))) (range_with_len 0 (length c.agents))) (λ a. tt)
  all_joint AllEnd h = each_agent Joint p.last.line kinds.LastLacks (filter (λ a. not (is_in a (parties_at c (place_of p.last.text (atom_names c))))) (range_with_len 0 (length c.agents))) (λ a. tt)
  all_joint AllSent h = All-each_out Joint (missing c) missing_joint 0 0 p.atoms
  all_joint NoStranger h = All-each_out Joint (λ n o out. flat_map (strangers c n o) out.nexts) (λ n o out. each_flat Joint (strangers c n o) out.nexts (strangers_joint n o)) 0 0 p.atoms
  all_joint LastEnds h = All-each_out Joint (λ n o out. flat_map (λ (next : PNext). spot_if (n == last_number c) next.atom.line (kinds.LastLeads (record { 0 = o }))) out.nexts) (λ n o out. each_flat Joint (λ (next : PNext). spot_if (n == last_number c) next.atom.line (kinds.LastLeads (record { 0 = o }))) out.nexts (λ (next : PNext). each_if Joint (n == last_number c) next.atom.line (kinds.LastLeads (record { 0 = o })) tt)) 0 0 p.atoms
  all_joint PartiesAlone h = All-each_out Joint (λ n o out. flat_map (outsiders c n o) out.cases) (λ n o out. each_flat Joint (outsiders c n o) out.cases (outsiders_joint n o)) 0 0 p.atoms
  all_joint NoZeroSize h = All-numbered Joint (λ i (agent : PAgent). spot_if (agent.size == 0) agent.name.line (kinds.ZeroSize (record { 0 = i }))) (λ i agent. each_if Joint (agent.size == 0) agent.name.line (kinds.ZeroSize (record { 0 = i })) tt) 0 p.agents
  all_joint NoLargeSize h = All-numbered Joint (λ i (agent : PAgent). spot_if (nat_lt 64 agent.size) agent.name.line (kinds.SizeTooLarge (record { 0 = i }))) (λ i agent. each_if Joint (nat_lt 64 agent.size) agent.name.line (kinds.SizeTooLarge (record { 0 = i })) tt) 0 p.agents
  all_joint NoLargeJoint h = All-numbered Joint (λ i (agent : PAgent). spot_if (passes_joint (sizes_in c) i) agent.name.line (kinds.JointTooLarge (record { 0 = i }))) (λ i agent. each_if Joint (passes_joint (sizes_in c) i) agent.name.line (kinds.JointTooLarge (record { 0 = i })) tt) 0 p.agents
  all_joint NoLargeValue h = All-each_out Joint (λ n o out. flat_map (overfull c o) out.cases) (λ n o out. each_flat Joint (overfull c o) out.cases (overfull_joint o)) 0 0 p.atoms
  all_joint AllCovered h = All-each_out Joint (λ n o out. uncovered c o out) (λ n o out. covered_joint (h refl) o out) 0 0 p.atoms

  pub first_joint : (fault : ShapeFault) → IsFirstFault p fault → AreJointIn p fault.kind
  first_joint fault h =
      All-contains Joint (faults h.condition p) (record { fault = fault; number = h.number })
      (all_joint h.condition (λ same. (met_form c (subst (λ condition. Met c (place condition)) same h.first.met)).sizes)) h.stands

  -- an answer that tells the first fault tells its joint data, and that the content hasn't the shape
  pub caused_joint : (e : ShapeAnswer) → HasCause e p → HasJoint e p
  caused_joint answers.Memory h = tt
  caused_joint (answers.Off fault) h = first_joint fault h

  pub caused_lacks : (e : ShapeAnswer) → HasCause e p → LacksShape e p
  caused_lacks answers.Memory h = tt
  caused_lacks (answers.Off fault) h = λ shaped. never_both p fault shaped h
