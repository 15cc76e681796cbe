-- Reading the lines of a schedule one after the other.
use Rattle.std.proofs.Common.{◌≡◌, ℕ, ◌+◌, ◌<◌, ◌≤◌, List, [], ◌∷◌, ◌++◌, length, map, drop, get_or, Option, Some, None, Result, Ok, Err, inl, inr, refl, sym, ap, subst, ◌∙◌, arith}
use Rattle.std.specs.Prelude.{find}
use Rattle.std.specs.Option.{option_map_or}
use Rattle.std.specs.Str.{bytes_eq}
use Rattle.std.proofs.lemmas.List.{drop_all, map_push, length-append, append-nil}
use Rattle.nego_base.specs.declared.fault.Fault.{Fault}
use Rattle.nego_base.specs.declared.fault.FaultKind.TheVariants as fault_kinds
use Rattle.nego_base.specs.declared.fault.ReadFaults.{ReadFaults}
use Rattle.nego_base.specs.declared.fault.ReadFaults.TheVariants as faults
use Rattle.nego_base.specs.declared.line.Line.{Line}
use Rattle.nego_base.specs.declared.line.Word.{Word}
use Rattle.nego_base.specs.Grammar.{at_word, exact_words}
use Rattle.nego_base.specs.LineAnswers.{onto, Fails}
use Rattle.nego_base.specs.LineWalk.{word_in, kind_of_line, walk_lines}
use Rattle.nego_base.specs.Results.{◌>>=◌}
use Rattle.nego_base.proofs.Cases.{bind_ok, bind_err, same_Ok}
use Rattle.nego_base.proofs.LineLoops.{onto_nil, cut_at, walk_goes_on, walk_strays, walk_stops}
use Rattle.nego_model.specs.Diagram.{PlainDiagram}
use Rattle.agent_core.specs.Worlds.{PlainEvent, Tell, Give, Decide, Stop}
use Rattle.nego_world.specs.declared.event.Event.{Event}
use Rattle.nego_world.specs.declared.event.EventLine.{EventLine}
use Rattle.nego_world.specs.Events.{plain_event}
use Rattle.world_text.specs.ScheduleText.{Row, HeaderRow, EventRow, EndRow}
use Rattle.world_text.specs.ScheduleTable.{Kind, Header, Tells, Gives, Decides, Stops, End, Known, Begin, Behind, Over, events_before, behind, schedule_lines}
use Rattle.world_text.specs.ScheduleReading.{agent_in, number_in, decision_in, header_in, event_row, row_of, row_in, walk, said_in, plain_items}

module _ (diagram : PlainDiagram) where
  -- what is known behind a row
  abbrev pub row_next : Known → Row → Known
  row_next known HeaderRow = Behind 0
  row_next known (EventRow item) = Behind (events_before known + 1)
  row_next known EndRow = Over

  row_behind : (known : Known) (kind : Kind) (line : Line) (row : Row) → row_of diagram known kind line ≡ Ok row → behind known kind ≡ row_next known row
  unfolding row_of
  row_behind known Header line row h =
      let a = bind_ok (header_in line) (λ _. Ok HeaderRow) row h in
      ap (row_next known) (same_Ok {E = Fault} HeaderRow row a.2)
  row_behind known Tells line row h =
      let a = bind_ok (agent_in diagram (events_before known) line) (λ a. Ok (event_row line (Tell a))) row h in
      ap (row_next known) (same_Ok {E = Fault} (event_row line (Tell a.0)) row a.2)
  row_behind known (Gives ending) line row h =
      let a = bind_ok (number_in (events_before known) line) (λ i. Ok (event_row line (Give i ending))) row h in
      ap (row_next known) (same_Ok {E = Fault} (event_row line (Give a.0 ending)) row a.2)
  row_behind known (Decides ending) line row h =
      let a = bind_ok (decision_in diagram (events_before known) line) (λ x. Ok (event_row line (Decide x.0 x.1 ending))) row h in
      ap (row_next known) (same_Ok {E = Fault} (event_row line (Decide a.0.0 a.0.1 ending)) row a.2)
  row_behind known Stops line row h =
      let a = bind_ok (agent_in diagram (events_before known) line) (λ a. Ok (event_row line (Stop a))) row h in
      ap (row_next known) (same_Ok {E = Fault} (event_row line (Stop a.0)) row a.2)
  row_behind known End line row h =
      let a = bind_ok (exact_words 1 line) (λ _. Ok EndRow) row h in
      ap (row_next known) (same_Ok {E = Fault} EndRow row a.2)

  row_in_parts : (known : Known) (line : Line) (row : Row) → row_in diagram known line ≡ Ok row → (kind : Kind) × (kind_of_line (schedule_lines diagram) (row_of diagram) known line ≡ Ok kind) × (row_of diagram known kind line ≡ Ok row)
  unfolding row_in
  row_in_parts known line row h = bind_ok (kind_of_line (schedule_lines diagram) (row_of diagram) known line) (λ kind. row_of diagram known kind line) row h

  module _ (missing : Fault) (total : Result (List Row) Fault) where
    -- one line more
    goes_on : (rows : List Row) (known : Known) (line : Line) (after : List Line) (row : Row) → row_in diagram known line ≡ Ok row → onto rows (walk diagram missing known (line ∷ after)) ≡ total →
        onto (rows ++ row ∷ []) (walk diagram missing (row_next known row) after) ≡ total
    goes_on rows known line after row h so_far =
        let k = row_in_parts known line row h in
        subst (λ (next : Known). onto (rows ++ row ∷ []) (walk diagram missing next after) ≡ total) (row_behind known k.0 line row k.2)
        (walk_goes_on (schedule_lines diagram) (row_of diagram) missing total rows known line after k.0 row k.1 k.2 so_far)

    -- a line with a fault
    stops : (e : ReadFaults) (rows : List Row) (known : Known) (line : Line) (after : List Line) → Fails e (row_in diagram known line) → onto rows (walk diagram missing known (line ∷ after)) ≡ total → Fails e total
    unfolding row_in
    stops faults.Memory rows known line after h so_far = tt
    stops (faults.Off fault) rows known line after h so_far = elim (bind_err (kind_of_line (schedule_lines diagram) (row_of diagram) known line) (λ kind. row_of diagram known kind line) fault h) [
      | inl stray ↦ walk_strays (schedule_lines diagram) (row_of diagram) missing total (faults.Off fault) rows known line after stray so_far
      | inr (kind, is, short) ↦ walk_stops (schedule_lines diagram) (row_of diagram) missing total (faults.Off fault) rows known line after kind is short so_far
    ]

    -- ---- in a loop over the lines

    pub event_on : (items : List (ℕ × PlainEvent)) (lines : List Line) (i : ℕ) (line : Line) (item : ℕ × PlainEvent) → i < length lines → line ≡ get_or lines i line → row_in diagram (Behind i) line ≡ Ok (EventRow item) →
        onto (map EventRow items) (walk diagram missing (Behind i) (drop i lines)) ≡ total → onto (map EventRow (items ++ item ∷ [])) (walk diagram missing (Behind (i + 1)) (drop (i + 1) lines)) ≡ total
    event_on items lines i line item inside is h so_far =
        let here = subst (λ (ls : List Line). onto (map EventRow items) (walk diagram missing (Behind i) ls) ≡ total) (cut_at lines i line inside is) so_far in
        subst (λ (rows : List Row). onto rows (walk diagram missing (Behind (i + 1)) (drop (i + 1) lines)) ≡ total) (sym (map_push EventRow items item))
        (goes_on (map EventRow items) (Behind i) line (drop (i + 1) lines) (EventRow item) h here)

    pub event_stops : (e : ReadFaults) (items : List (ℕ × PlainEvent)) (lines : List Line) (i : ℕ) (line : Line) → i < length lines → line ≡ get_or lines i line → Fails e (row_in diagram (Behind i) line) →
        onto (map EventRow items) (walk diagram missing (Behind i) (drop i lines)) ≡ total → Fails e total
    event_stops e items lines i line inside is h so_far =
        stops e (map EventRow items) (Behind i) line (drop (i + 1) lines) h (subst (λ (ls : List Line). onto (map EventRow items) (walk diagram missing (Behind i) ls) ≡ total) (cut_at lines i line inside is) so_far)

    -- the line is the end
    pub end_on : (items : List (ℕ × PlainEvent)) (lines : List Line) (i : ℕ) (line : Line) → i < length lines → line ≡ get_or lines i line → row_in diagram (Behind i) line ≡ Ok EndRow →
        onto (map EventRow items) (walk diagram missing (Behind i) (drop i lines)) ≡ total → onto (map EventRow items ++ EndRow ∷ []) (walk diagram missing Over (drop (i + 1) lines)) ≡ total
    end_on items lines i line inside is h so_far =
        goes_on (map EventRow items) (Behind i) line (drop (i + 1) lines) EndRow h (subst (λ (ls : List Line). onto (map EventRow items) (walk diagram missing (Behind i) ls) ≡ total) (cut_at lines i line inside is) so_far)

    -- an event more, as it is kept
    pub event_more : (events : List EventLine) (lines : List Line) (i n : ℕ) (line : Line) (said : Option Event) (event : Event) → i < length lines → line ≡ get_or lines i line → n ≡ length events → said ≡ Some event →
        row_in diagram (Behind n) line ≡ Ok (said_in line said) → (length events ≡ i) × (onto (map EventRow (plain_items events)) (walk diagram missing (Behind i) (drop i lines)) ≡ total) →
        let more = events ++ record { line = line.number; event = event } ∷ [] in
        (length more ≡ i + 1) × (onto (map EventRow (plain_items more)) (walk diagram missing (Behind (i + 1)) (drop (i + 1) lines)) ≡ total)
    event_more events lines i n line said event inside is counted some h so_far =
        let new : EventLine = record { line = line.number; event = event } in
        let row : row_in diagram (Behind i) line ≡ Ok (event_row line (plain_event event)) =
        subst (λ (m : ℕ). row_in diagram (Behind m) line ≡ Ok (event_row line (plain_event event))) (counted ∙ so_far.0) (h ∙ ap (λ (o : Option Event). Ok (said_in line o)) some) in
        let longer : length (events ++ new ∷ []) ≡ i + 1 = length-append events (new ∷ []) ∙ ap (λ (m : ℕ). m + 1) so_far.0 in (
          longer,
          subst (λ (items : List (ℕ × PlainEvent)). onto (map EventRow items) (walk diagram missing (Behind (i + 1)) (drop (i + 1) lines)) ≡ total)
              (sym (map_push (λ (item : EventLine). (item.line, plain_event item.event)) events new)) (event_on (plain_items events) lines i line (line.number, plain_event event) inside is row so_far.1),
        )

    -- the line is the end, and none is behind it
    pub end_only : (events : List EventLine) (lines : List Line) (i n m : ℕ) (line : Line) (said : Option Event) (behind : Result (List Row) Fault) → i < length lines → line ≡ get_or lines i line → n ≡ length events → m ≡ length events → said ≡ None →
        row_in diagram (Behind n) line ≡ Ok (said_in line said) → walk diagram missing Over (drop (m + 1) lines) ≡ behind →
        (length events ≡ i) × (onto (map EventRow (plain_items events)) (walk diagram missing (Behind i) (drop i lines)) ≡ total) → onto (map EventRow (plain_items events) ++ EndRow ∷ []) behind ≡ total
    end_only events lines i n m line said behind inside is counted counted' none h walked so_far =
        let row : row_in diagram (Behind i) line ≡ Ok EndRow = subst (λ (k : ℕ). row_in diagram (Behind k) line ≡ Ok EndRow) (counted ∙ so_far.0) (h ∙ ap (λ (o : Option Event). Ok (said_in line o)) none) in
        let over : walk diagram missing Over (drop (i + 1) lines) ≡ behind = subst (λ (k : ℕ). walk diagram missing Over (drop (k + 1) lines) ≡ behind) (counted' ∙ so_far.0) walked in
        subst (λ (r : Result (List Row) Fault). onto (map EventRow (plain_items events) ++ EndRow ∷ []) r ≡ total) over (end_on (plain_items events) lines i line inside is row so_far.1)

    -- all that the lines say, where the end is the last
    pub end_ok : (front : List Row) → onto front (Ok []) ≡ total → total ≡ Ok front
    end_ok front h = sym h ∙ ap (λ (rows : List Row). Ok rows) (append-nil front)

    -- the fault of a line that stands at the number of the events before it
    pub event_fault : (events : List EventLine) (lines : List Line) (i n : ℕ) (line : Line) (fault : Fault) → i < length lines → line ≡ get_or lines i line → n ≡ length events → row_in diagram (Behind n) line ≡ Err fault →
        (length events ≡ i) × (onto (map EventRow (plain_items events)) (walk diagram missing (Behind i) (drop i lines)) ≡ total) → total ≡ Err fault
    event_fault events lines i n line fault inside is counted h so_far =
        event_stops (faults.Off fault) (plain_items events) lines i line inside is (subst (λ (m : ℕ). row_in diagram (Behind m) line ≡ Err fault) (counted ∙ so_far.0) h) so_far.1

    -- no line is left before the end
    pub end_missing : (items : List (ℕ × PlainEvent)) (lines : List Line) (i : ℕ) → length lines ≤ i → onto (map EventRow items) (walk diagram missing (Behind i) (drop i lines)) ≡ total → total ≡ Err missing
    unfolding walk_lines
    end_missing items lines i past so_far = sym (subst (λ (ls : List Line). onto (map EventRow items) (walk diagram missing (Behind i) ls) ≡ total) (drop_all i lines past) so_far)

    -- ---- the header

    header_there : (lines : List Line) (line : Line) → 0 < length lines → line ≡ get_or lines 0 line → walk diagram missing Begin lines ≡ total → onto [] (walk diagram missing Begin (line ∷ drop 1 lines)) ≡ total
    header_there lines line inside is so_far = onto_nil (walk diagram missing Begin (line ∷ drop 1 lines)) ∙ (ap (walk diagram missing Begin) (sym (cut_at lines 0 line inside is)) ∙ so_far)

    pub header_on : (lines : List Line) (line : Line) → 0 < length lines → line ≡ get_or lines 0 line → row_in diagram Begin line ≡ Ok HeaderRow → walk diagram missing Begin lines ≡ total →
        onto (HeaderRow ∷ []) (walk diagram missing (Behind 0) (drop 1 lines)) ≡ total
    header_on lines line inside is h so_far = goes_on [] Begin line (drop 1 lines) HeaderRow h (header_there lines line inside is so_far)

    pub header_fault : (lines : List Line) (line : Line) (fault : Fault) → 0 < length lines → line ≡ get_or lines 0 line → row_in diagram Begin line ≡ Err fault → walk diagram missing Begin lines ≡ total → total ≡ Err fault
    header_fault lines line fault inside is h so_far = stops (faults.Off fault) [] Begin line (drop 1 lines) h (header_there lines line inside is so_far)

  -- there is no header
  pub header_missing : (missing : Fault) (lines : List Line) → length lines ≤ 0 → walk diagram missing Begin lines ≡ Err missing
  unfolding walk_lines
  header_missing missing lines none = ap (walk diagram missing Begin) (drop_all 0 lines none)

  -- ---- behind the end

  pub over_none : (missing : Fault) (lines : List Line) (i : ℕ) → length lines ≤ i → walk diagram missing Over (drop i lines) ≡ Ok []
  unfolding walk_lines
  over_none missing lines i past = ap (walk diagram missing Over) (drop_all i lines past)

  -- the fault of a line there
  abbrev stray : Result Word Fault → Result (List Row) Fault
  stray first = first >>= λ word. Err (at_word fault_kinds.Word word)

  stray_first : {Y : Type 0} (first : Result Word Fault) (f : Y → Result (List Row) Fault) → ((first >>= λ word. Err (at_word fault_kinds.Word word)) >>= f) ≡ stray first
  stray_first (Ok word) f = refl
  stray_first (Err fault) f = refl

  over_line : (missing : Fault) (line : Line) (after : List Line) → walk diagram missing Over (line ∷ after) ≡ stray (word_in line 0)
  unfolding walk_lines kind_of_line
  over_line missing line after =
      stray_first {Y = Kind} (word_in line 0) (λ kind. row_of diagram Over kind line >>= λ row. walk_lines (schedule_lines diagram) (row_of diagram) missing (behind Over kind) after >>= λ rows. Ok (row ∷ rows))

  over_some : (missing : Fault) (lines : List Line) (i : ℕ) (line : Line) → i < length lines → line ≡ get_or lines i line → walk diagram missing Over (drop i lines) ≡ stray (word_in line 0)
  over_some missing lines i line inside is = ap (walk diagram missing Over) (cut_at lines i line inside is) ∙ over_line missing line (drop (i + 1) lines)

  pub over_some_word : (missing : Fault) (lines : List Line) (i : ℕ) (line : Line) (word : Word) → i < length lines → line ≡ get_or lines i line → word_in line 0 ≡ Ok word → walk diagram missing Over (drop i lines) ≡ Err (at_word fault_kinds.Word word)
  over_some_word missing lines i line word inside is at = over_some missing lines i line inside is ∙ ap stray at

  pub over_some_fault : (missing : Fault) (lines : List Line) (i : ℕ) (line : Line) (fault : Fault) → i < length lines → line ≡ get_or lines i line → word_in line 0 ≡ Err fault → walk diagram missing Over (drop i lines) ≡ Err fault
  over_some_fault missing lines i line fault inside is at = over_some missing lines i line inside is ∙ ap stray at
