-- Each line of a schedule is read by what it is asked.
use Rattle.std.proofs.Common.{◌≡◌, ℕ, ◌+◌, ◌<◌, Bool, true, false, cond, ltb, List, [], ◌∷◌, ◌++◌, length, map, take, drop, get_or, Option, Some, None, Result, Ok, Err, inl, inr, refl, sym, ap, ◌∙◌, arith}
use Rattle.std.specs.Prelude.{slice_get, codes}
use Rattle.std.specs.Option.{option_map_or}
use Rattle.std.specs.Str.{bytes_eq}
use Rattle.std.proofs.lemmas.Bool.{false≢true, ltb-true, lt-ltb}
use Rattle.std.proofs.lemmas.List.{get_or_default}
use Rattle.std.proofs.lemmas.Option.{slice_get-get_or}
use Rattle.nego_base.specs.declared.fault.FaultKind.TheVariants as fault_kinds
use Rattle.nego_base.specs.declared.fault.Fault.{Fault}
use Rattle.nego_base.specs.declared.line.Word.{Word}
use Rattle.nego_base.specs.declared.line.Line.{Line}
use Rattle.nego_base.specs.Grammar.{at_word, exact_words, name_word, number_word}
use Rattle.nego_base.specs.LineGrammar.{Demand, Words, Version, Name, Number, Own, word_number}
use Rattle.nego_base.specs.LineWalk.{word_in, Answers}
use Rattle.nego_base.specs.Results.{◌>>=◌}
use Rattle.nego_base.proofs.Cases.{bind_ok}
use Rattle.nego_base.proofs.GrammarLaws.{exact_ok}
use Rattle.nego_base.proofs.LineDemands.{exact_answers, name_answers, number_answers, version_answers, place_answers}
use Rattle.nego_base.proofs.LineFaults.{answers_then, answers_last}
use Rattle.nego_base.proofs.LineLoops.{cut_at}
use Rattle.nego_model.specs.Diagram.{PlainDiagram, agent_name}
use Rattle.agent_core.specs.declared.choice.Choice.{Choice}
use Rattle.agent_core.specs.Worlds.{Tell, Give, Decide, Stop}
use Rattle.world_text.specs.ScheduleText.{most_events, Row, HeaderRow, EndRow}
use Rattle.world_text.specs.ScheduleTable.{Kind, Header, Tells, Gives, Decides, Stops, End, Known, events_before, Asked, RoomBehind, AgentName, IsAsAsked, of_event, of_agent, demands}
use Rattle.world_text.specs.ScheduleReading.{agent_named, agent_of, agent_at, number_at, event_begins, agent_in, number_in, decision_in, header_in, event_row, row_of}
use Rattle.world_text.proofs.Naming.{named_is, named_there, none_named}

-- the word of a list at a place within it
word_there : (words : List Word) (i : ℕ) → i < length words → (word : Word) × (slice_get words i ≡ Some word) × (take 1 (drop i words) ≡ word ∷ [])
word_there [] i within = absurd (omega arith)
word_there (word ∷ words) i within =
    let at = get_or (word ∷ words) i word in
    (at, slice_get-get_or (word ∷ words) i word within, ap (take 1) (cut_at (word ∷ words) i at within (get_or_default (word ∷ words) i word at within)))

module _ (diagram : PlainDiagram) (line : Line) where
  abbrev By : {Y : Type 0} → List (Demand Asked) → Result Y Fault → Type 0
  By asked r = Answers (IsAsAsked diagram) line asked r

  -- ---- agents

  known_by : (word : Word) → By (Own AgentName fault_kinds.Agent word ∷ []) (option_map_or (λ a. Ok a) (agent_named diagram word.text) (Err (at_word fault_kinds.Agent word)))
  known_by word = by_agent (agent_named diagram word.text) refl
    where
      by_agent : (o : Option ℕ) → agent_named diagram word.text ≡ o → By (Own AgentName fault_kinds.Agent word ∷ []) (option_map_or (λ a. Ok a) o (Err (at_word fault_kinds.Agent word)))
      by_agent (Some a) h = let found = named_is diagram word.text a h in (named_there diagram word.text a found.0 found.1, tt)
      by_agent None h = inl (none_named diagram word.text h, refl)

  agent_by : (word : Word) → By (Name word ∷ Own AgentName fault_kinds.Agent word ∷ []) (agent_of diagram word)
  unfolding agent_of
  agent_by word =
      answers_then (IsAsAsked diagram) line (Name word ∷ []) (Own AgentName fault_kinds.Agent word ∷ []) (name_word word) (λ _. option_map_or (λ a. Ok a) (agent_named diagram word.text) (Err (at_word fault_kinds.Agent word)))
      (name_answers (IsAsAsked diagram) line word) (λ _ _. known_by word)

  agent_at_by : (i : ℕ) → i < length line.words → By (of_agent i line) (agent_at diagram i line)
  unfolding agent_at word_in
  agent_at_by i within = let at = word_there line.words i within in rw (at.2, at.1) (agent_by at.0)

  number_at_by : (i : ℕ) → i < length line.words → By (map Number (word_number i line)) (number_at i line)
  unfolding number_at
  number_at_by i within = place_answers (IsAsAsked diagram) line i (λ w. Number w) number_word within (number_answers (IsAsAsked diagram) line)

  -- ---- events

  room_by : (n : ℕ) (word : Word) → By {Y = Unit {0}} (Own (RoomBehind n) fault_kinds.Many word ∷ []) (cond (ltb n most_events) (Ok tt) (Err (at_word fault_kinds.Many word)))
  room_by n word = by_test (ltb n most_events) refl
    where
      by_test : (t : Bool) → ltb n most_events ≡ t → By {Y = Unit {0}} (Own (RoomBehind n) fault_kinds.Many word ∷ []) (cond t (Ok tt) (Err (at_word fault_kinds.Many word)))
      by_test true h = (ltb-true n most_events h, tt)
      by_test false h = inl (λ room. false≢true (sym h ∙ lt-ltb n most_events room), refl)

  begins_by : (count : ℕ) (known : Known) → 0 < count → By (of_event count known line) (event_begins count (events_before known) line)
  unfolding event_begins
  begins_by count known some =
      let n = events_before known in
      answers_then (IsAsAsked diagram) line (Words count ∷ []) (map (Own (RoomBehind n) fault_kinds.Many) (word_number 0 line)) (exact_words count line)
      (λ _. word_in line 0 >>= λ first. cond (ltb n most_events) (Ok tt) (Err (at_word fault_kinds.Many first))) (exact_answers (IsAsAsked diagram) line count)
      (λ _ is. place_answers (IsAsAsked diagram) line 0 (λ w. Own (RoomBehind n) fault_kinds.Many w) (λ first. cond (ltb n most_events) (Ok tt) (Err (at_word fault_kinds.Many first)))
      (let so_many = exact_ok count line is in omega (arith, so_many, some)) (room_by n))

  pub begins_count : (count n : ℕ) → event_begins count n line ≡ Ok tt → length line.words ≡ count
  unfolding event_begins
  begins_count count n h =
      let a = bind_ok (exact_words count line) (λ _. word_in line 0 >>= λ first. cond (ltb n most_events) (Ok tt) (Err (at_word fault_kinds.Many first))) tt h in
      exact_ok count line a.1

  agent_in_by : (known : Known) → By (of_event 2 known line ++ of_agent 1 line) (agent_in diagram (events_before known) line)
  unfolding agent_in
  agent_in_by known =
      answers_then (IsAsAsked diagram) line (of_event 2 known line) (of_agent 1 line) (event_begins 2 (events_before known) line) (λ _. agent_at diagram 1 line) (begins_by 2 known (omega arith))
      (λ _ is. agent_at_by 1 (let two = begins_count 2 (events_before known) is in omega (arith, two)))

  number_in_by : (known : Known) → By (of_event 2 known line ++ map Number (word_number 1 line)) (number_in (events_before known) line)
  unfolding number_in
  number_in_by known =
      answers_then (IsAsAsked diagram) line (of_event 2 known line) (map Number (word_number 1 line)) (event_begins 2 (events_before known) line) (λ _. number_at 1 line) (begins_by 2 known (omega arith))
      (λ _ is. number_at_by 1 (let two = begins_count 2 (events_before known) is in omega (arith, two)))

  decision_in_by : (known : Known) → By (of_event 4 known line ++ (of_agent 1 line ++ (map Number (word_number 2 line) ++ map Number (word_number 3 line)))) (decision_in diagram (events_before known) line)
  unfolding decision_in
  decision_in_by known =
      let n = events_before known in
      let second = map Number (word_number 2 line) in
      let third = map Number (word_number 3 line) in
      answers_then (IsAsAsked diagram) line (of_event 4 known line) (of_agent 1 line ++ (second ++ third)) (event_begins 4 n line)
      (λ _. agent_at diagram 1 line >>= λ a. number_at 2 line >>= λ outcome. number_at 3 line >>= λ pick. Ok (a, record { outcome = outcome; pick = pick })) (begins_by 4 known (omega arith))
      (λ _ is. let four : length line.words ≡ 4 = begins_count 4 n is in
      answers_then (IsAsAsked diagram) line (of_agent 1 line) (second ++ third) (agent_at diagram 1 line) (λ a. number_at 2 line >>= λ outcome. number_at 3 line >>= λ pick. Ok (a, record { outcome = outcome; pick = pick }))
      (agent_at_by 1 (omega (arith, four)))
      (λ a _. answers_then (IsAsAsked diagram) line second third (number_at 2 line) (λ outcome. number_at 3 line >>= λ pick. Ok (a, record { outcome = outcome; pick = pick })) (number_at_by 2 (omega (arith, four)))
      (λ outcome _. answers_last (IsAsAsked diagram) line third (number_at 3 line) (λ pick. (a, record { outcome = outcome; pick = pick })) (number_at_by 3 (omega (arith, four))))))

  -- ---- lines of all kinds

  header_by : (known : Known) → By (demands known Header line) (header_in line)
  unfolding header_in
  header_by known =
      answers_then (IsAsAsked diagram) line (Words 2 ∷ []) (map (Version (codes "1")) (word_number 1 line)) (exact_words 2 line)
      (λ _. word_in line 1 >>= λ version. cond (bytes_eq version.text (codes "1")) (Ok tt) (Err (at_word fault_kinds.Version version))) (exact_answers (IsAsAsked diagram) line 2)
      (λ _ is. place_answers (IsAsAsked diagram) line 1 (λ w. Version (codes "1") w) (λ version. cond (bytes_eq version.text (codes "1")) (Ok tt) (Err (at_word fault_kinds.Version version)))
      (let two = exact_ok 2 line is in omega (arith, two)) (version_answers (IsAsAsked diagram) line (codes "1")))

  pub row_by : (known : Known) (kind : Kind) → By (demands known kind line) (row_of diagram known kind line)
  unfolding row_of
  row_by known Header = answers_last (IsAsAsked diagram) line (demands known Header line) (header_in line) (λ _. HeaderRow) (header_by known)
  row_by known Tells = answers_last (IsAsAsked diagram) line (demands known Tells line) (agent_in diagram (events_before known) line) (λ a. event_row line (Tell a)) (agent_in_by known)
  row_by known (Gives ending) = answers_last (IsAsAsked diagram) line (demands known (Gives ending) line) (number_in (events_before known) line) (λ i. event_row line (Give i ending)) (number_in_by known)
  row_by known (Decides ending) = answers_last (IsAsAsked diagram) line (demands known (Decides ending) line) (decision_in diagram (events_before known) line) (λ x. event_row line (Decide x.0 x.1 ending)) (decision_in_by known)
  row_by known Stops = answers_last (IsAsAsked diagram) line (demands known Stops line) (agent_in diagram (events_before known) line) (λ a. event_row line (Stop a)) (agent_in_by known)
  row_by known End = answers_last (IsAsAsked diagram) line (demands known End line) (exact_words 1 line) (λ _. EndRow) (exact_answers (IsAsAsked diagram) line 1)
