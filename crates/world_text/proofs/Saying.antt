-- What is read of a line of a schedule is what it says, and what it says is read.
use Rattle.std.proofs.Common.{◌≡◌, ℕ, ◌+◌, ◌<◌, ◌≤◌, Bool, true, false, cond, ltb, List, [], ◌∷◌, length, map, Option, Some, None, Result, Ok, Err, refl, sym, ap, subst, ◌∙◌, arith}
use Rattle.std.specs.Prelude.{slice_get, codes, decimal, find, option_map}
use Rattle.std.specs.List.{All}
use Rattle.std.specs.Option.{option_map_or}
use Rattle.std.specs.Str.{bytes_eq}
use Rattle.std.proofs.lemmas.Bool.{ltb-true, lt-ltb, cond-true}
use Rattle.std.proofs.lemmas.List.{length-map}
use Rattle.std.proofs.lemmas.Option.{same_Some, slice_get-map}
use Rattle.std.proofs.lemmas.Slice.Eq.{bytes_eq-Decides}
use Rattle.nego_base.specs.declared.fault.FaultKind.TheVariants as fault_kinds
use Rattle.nego_base.specs.declared.fault.Fault.{Fault}
use Rattle.nego_base.specs.declared.line.Word.{Word}
use Rattle.nego_base.specs.declared.line.Line.{Line}
use Rattle.nego_base.specs.Grammar.{at_word, past_line, exact_words, name_word, number_word}
use Rattle.nego_base.specs.LineWalk.{word_in}
use Rattle.nego_base.specs.Name.{is_name}
use Rattle.nego_base.specs.Results.{◌>>=◌}
use Rattle.nego_base.proofs.Cases.{bind_ok, same_Ok}
use Rattle.nego_base.proofs.GrammarLaws.{exact_ok, exact_words-ok, name_word-ok, number_ok, number_word-ok}
use Rattle.nego_base.proofs.LineFaults.{Reads}
use Rattle.nego_model.specs.Diagram.{PlainDiagram, agent_name}
use Rattle.nego_model.specs.Limits.{HasNames}
use Rattle.agent_core.specs.declared.choice.Choice.{Choice}
use Rattle.agent_core.specs.Worlds.{PlainEvent, Tell, Give, Decide, Stop, Ending, GoesOn, StopsBefore, StopsAfter}
use Rattle.nego_world.specs.Events.{NamesAgent}
use Rattle.world_text.specs.ScheduleText.{give_word, decide_word, event_words, HasShortNumbers, most_events, Row, HeaderRow, EventRow, EndRow, row_words}
use Rattle.world_text.specs.ScheduleTable.{Kind, Header, Tells, Gives, Decides, Stops, End, keyword, kind_of, event_kind, Known, events_before, IsEventOf, IsRowOf, Says, kinds_behind, schedule_lines}
use Rattle.world_text.specs.ScheduleReading.{agent_named, agent_of, agent_at, number_at, event_begins, agent_in, number_in, decision_in, header_in, event_row, row_of}
use Rattle.world_text.proofs.Naming.{named_is, named_again}
use Rattle.world_text.proofs.Asking.{row_by, begins_count}

abbrev pub texts : Line → List (List ℕ)
texts line = map (λ w. w.text) line.words

-- ---- the words of a line

word_in_ok : (line : Line) (i : ℕ) (word : Word) → word_in line i ≡ Ok word → slice_get line.words i ≡ Some word
unfolding word_in
word_in_ok line i word h = by_word (slice_get line.words i) h
  where
    by_word : (o : Option Word) → ◌≡◌ {A = Result Word Fault} (option_map_or (λ w. Ok w) o (Err (past_line fault_kinds.Count line))) (Ok word) → o ≡ Some word
    by_word None h = absurd cc
    by_word (Some w) h = ap (λ (v : Word). Some v) (same_Ok {E = Fault} w word h)

word_in_again : (line : Line) (i : ℕ) (word : Word) → slice_get line.words i ≡ Some word → word_in line i ≡ Ok word
unfolding word_in
word_in_again line i word h = rw h refl

-- the words of a line that has two, and of one that has four
two_texts : (words : List Word) (a b : Word) → length words ≡ 2 → slice_get words 0 ≡ Some a → slice_get words 1 ≡ Some b → map (λ w. w.text) words ≡ a.text ∷ b.text ∷ []
two_texts [] a b n h k = absurd (omega (arith, n))
two_texts (w ∷ []) a b n h k = absurd (omega (arith, n))
two_texts (w ∷ x ∷ []) a b n h k = let e = same_Some w a h in let f = same_Some x b k in rw (e, f) refl
two_texts (w ∷ x ∷ y ∷ words) a b n h k = absurd (omega (arith, n))

four_texts : (words : List Word) (a b c d : Word) → length words ≡ 4 → slice_get words 0 ≡ Some a → slice_get words 1 ≡ Some b → slice_get words 2 ≡ Some c → slice_get words 3 ≡ Some d →
    map (λ w. w.text) words ≡ a.text ∷ b.text ∷ c.text ∷ d.text ∷ []
four_texts [] a b c d n h k l m = absurd (omega (arith, n))
four_texts (v ∷ []) a b c d n h k l m = absurd (omega (arith, n))
four_texts (v ∷ w ∷ []) a b c d n h k l m = absurd (omega (arith, n))
four_texts (v ∷ w ∷ x ∷ []) a b c d n h k l m = absurd (omega (arith, n))
four_texts (v ∷ w ∷ x ∷ y ∷ []) a b c d n h k l m =
    let e = same_Some v a h in let f = same_Some w b k in let g = same_Some x c l in let i = same_Some y d m in rw (e, f, g, i) refl
four_texts (v ∷ w ∷ x ∷ y ∷ z ∷ words) a b c d n h k l m = absurd (omega (arith, n))

-- a word of a line by its text
text_there : (line : Line) (those : List (List ℕ)) (i : ℕ) (text : List ℕ) → texts line ≡ those → slice_get those i ≡ Some text → (word : Word) × (slice_get line.words i ≡ Some word) × (word.text ≡ text)
text_there line those i text is h = by_word (slice_get line.words i) refl (sym (slice_get-map (λ (w : Word). w.text) line.words i) ∙ (ap (λ (ts : List (List ℕ)). slice_get ts i) is ∙ h))
  where
    by_word : (o : Option Word) → slice_get line.words i ≡ o → option_map (λ w. w.text) o ≡ Some text → (word : Word) × (slice_get line.words i ≡ Some word) × (word.text ≡ text)
    by_word None e at = absurd cc
    by_word (Some word) e at = (word, e, same_Some word.text text at)

-- how many words a line has by their texts
texts_count : (line : Line) (those : List (List ℕ)) → texts line ≡ those → length line.words ≡ length those
texts_count line those is = sym (length-map line.words (λ (w : Word). w.text)) ∙ ap length is

-- ---- the pieces of a line

module _ (diagram : PlainDiagram) where
  -- what is known of an agent that a line names
  record NamesAt (line : Line) (i a : ℕ) : Type 0 where
    pub word : Word
    pub there : slice_get line.words i ≡ Some word
    pub known : a < length diagram.agents
    pub text : word.text ≡ agent_name diagram a

  agent_at_ok : (line : Line) (i a : ℕ) → agent_at diagram i line ≡ Ok a → NamesAt line i a
  unfolding agent_at agent_of
  agent_at_ok line i a h =
      let w = bind_ok (word_in line i) (agent_of diagram) a h in
      let word = w.0 in
      let named = bind_ok (name_word word) (λ _. option_map_or (λ a. Ok a) (agent_named diagram word.text) (Err (at_word fault_kinds.Agent word))) a w.2 in
      by_agent word (word_in_ok line i word w.1) (agent_named diagram word.text) refl named.2
    where
      by_agent : (word : Word) → slice_get line.words i ≡ Some word → (o : Option ℕ) → agent_named diagram word.text ≡ o → ◌≡◌ {A = Result ℕ Fault} (option_map_or (λ a. Ok a) o (Err (at_word fault_kinds.Agent word))) (Ok a) → NamesAt line i a
      by_agent word there None e at = absurd cc
      by_agent word there (Some b) e at =
          let same : b ≡ a = same_Ok {E = Fault} b a at in
          let found = named_is diagram word.text a (e ∙ ap (λ (n : ℕ). Some n) same) in
          record { word = word; there = there; known = found.0; text = sym found.1 }

  agent_at_again : HasNames diagram → (line : Line) (i a : ℕ) (word : Word) → slice_get line.words i ≡ Some word → word.text ≡ agent_name diagram a → a < length diagram.agents → agent_at diagram i line ≡ Ok a
  unfolding agent_at agent_of
  agent_at_again names line i a word there text known =
      let name : is_name word.text ≡ true = ap is_name text ∙ names.agents a [] known in
      rw (word_in_again line i word there, name_word-ok word name, text, named_again diagram names a known) refl

  number_at_ok : (line : Line) (i n : ℕ) → number_at i line ≡ Ok n → (word : Word) × (slice_get line.words i ≡ Some word) × (word.text ≡ decimal n) × (n ≤ 999999)
  unfolding number_at
  number_at_ok line i n h =
      let w = bind_ok (word_in line i) number_word n h in
      let number = number_ok w.0 n w.2 in
      (w.0, word_in_ok line i w.0 w.1, number.0, number.1)

  number_at_again : (line : Line) (i n : ℕ) (word : Word) → slice_get line.words i ≡ Some word → word.text ≡ decimal n → n ≤ 999999 → number_at i line ≡ Ok n
  unfolding number_at
  number_at_again line i n word there text short = rw (word_in_again line i word there) (number_word-ok word n text short)

  begins_room : (line : Line) (count n : ℕ) → event_begins count n line ≡ Ok tt → n < most_events
  unfolding event_begins
  begins_room line count n h =
      let a = bind_ok (exact_words count line) (λ _. word_in line 0 >>= λ first. cond (ltb n most_events) (Ok tt) (Err (at_word fault_kinds.Many first))) tt h in
      let b = bind_ok (word_in line 0) (λ first. cond (ltb n most_events) (Ok tt) (Err (at_word fault_kinds.Many first))) tt a.2 in
      by_test b.0 (ltb n most_events) refl b.2
    where
      by_test : (first : Word) (t : Bool) → ltb n most_events ≡ t → ◌≡◌ {A = Result (Unit {0}) Fault} (cond t (Ok tt) (Err (at_word fault_kinds.Many first))) (Ok tt) → n < most_events
      by_test first true e at = ltb-true n most_events e
      by_test first false e at = absurd cc

  begins_again : (line : Line) (count n : ℕ) (first : Word) → length line.words ≡ count → slice_get line.words 0 ≡ Some first → n < most_events → event_begins count n line ≡ Ok tt
  unfolding event_begins
  begins_again line count n first counted there room = rw (exact_words-ok count line counted, word_in_again line 0 first there, lt-ltb n most_events room) refl

  -- ---- what is read is said

  -- what is known of the line of an event with an agent, a number, or both
  agent_says : (line : Line) (first : Word) (n a : ℕ) → slice_get line.words 0 ≡ Some first → agent_in diagram n line ≡ Ok a → (texts line ≡ first.text ∷ agent_name diagram a ∷ []) × (n < most_events) × (a < length diagram.agents)
  unfolding agent_in
  agent_says line first n a at h =
      let b = bind_ok (event_begins 2 n line) (λ _. agent_at diagram 1 line) a h in
      let c = agent_at_ok line 1 a b.2 in
      (two_texts line.words first c.word (begins_count diagram line 2 n b.1) at c.there ∙ ap (λ (t : List ℕ). first.text ∷ t ∷ []) c.text, begins_room line 2 n b.1, c.known)

  number_says : (line : Line) (first : Word) (n i : ℕ) → slice_get line.words 0 ≡ Some first → number_in n line ≡ Ok i → (texts line ≡ first.text ∷ decimal i ∷ []) × (n < most_events) × (i ≤ 999999)
  unfolding number_in
  number_says line first n i at h =
      let b = bind_ok (event_begins 2 n line) (λ _. number_at 1 line) i h in
      let c = number_at_ok line 1 i b.2 in
      (two_texts line.words first c.0 (begins_count diagram line 2 n b.1) at c.1 ∙ ap (λ (t : List ℕ). first.text ∷ t ∷ []) c.2, begins_room line 2 n b.1, c.3)

  decision_says : (line : Line) (first : Word) (n : ℕ) (x : ℕ × Choice) → slice_get line.words 0 ≡ Some first → decision_in diagram n line ≡ Ok x →
      (texts line ≡ first.text ∷ agent_name diagram x.0 ∷ decimal x.1.outcome ∷ decimal x.1.pick ∷ []) × (n < most_events) × (x.0 < length diagram.agents) × (x.1.outcome ≤ 999999) × (x.1.pick ≤ 999999)
  unfolding decision_in
  decision_says line first n x at h =
      let b = bind_ok (event_begins 4 n line) (λ _. agent_at diagram 1 line >>= λ a. number_at 2 line >>= λ outcome. number_at 3 line >>= λ pick. Ok (a, record { outcome = outcome; pick = pick })) x h in
      let c = bind_ok (agent_at diagram 1 line) (λ a. number_at 2 line >>= λ outcome. number_at 3 line >>= λ pick. Ok (a, record { outcome = outcome; pick = pick })) x b.2 in
      let d = bind_ok (number_at 2 line) (λ outcome. number_at 3 line >>= λ pick. Ok (c.0, record { outcome = outcome; pick = pick })) x c.2 in
      let e = bind_ok (number_at 3 line) (λ pick. Ok (c.0, record { outcome = d.0; pick = pick })) x d.2 in
      let y : ℕ × Choice = (c.0, record { outcome = d.0; pick = e.0 }) in
      let agent = agent_at_ok line 1 c.0 c.1 in
      let outcome = number_at_ok line 2 d.0 d.1 in
      let pick = number_at_ok line 3 e.0 e.1 in
      let words : texts line ≡ first.text ∷ agent_name diagram y.0 ∷ decimal y.1.outcome ∷ decimal y.1.pick ∷ [] =
      four_texts line.words first agent.word outcome.0 pick.0 (begins_count diagram line 4 n b.1) at agent.there outcome.1 pick.1 ∙ rw (agent.text, outcome.2, pick.2) refl in
      let P : ℕ × Choice → Type 0 =
      λ x. (texts line ≡ first.text ∷ agent_name diagram x.0 ∷ decimal x.1.outcome ∷ decimal x.1.pick ∷ []) × (n < most_events) × (x.0 < length diagram.agents) × (x.1.outcome ≤ 999999) × (x.1.pick ≤ 999999) in
      subst P (same_Ok {E = Fault} y x e.2) (words, begins_room line 4 n b.1, agent.known, outcome.3, pick.3)

  header_says : (line : Line) (first : Word) → slice_get line.words 0 ≡ Some first → first.text ≡ codes "schedule" → header_in line ≡ Ok tt → texts line ≡ codes "schedule" ∷ codes "1" ∷ []
  unfolding header_in
  header_says line first at keyword h =
      let a = bind_ok (exact_words 2 line) (λ _. word_in line 1 >>= λ version. cond (bytes_eq version.text (codes "1")) (Ok tt) (Err (at_word fault_kinds.Version version))) tt h in
      let b = bind_ok (word_in line 1) (λ version. cond (bytes_eq version.text (codes "1")) (Ok tt) (Err (at_word fault_kinds.Version version))) tt a.2 in
      two_texts line.words first b.0 (exact_ok 2 line a.1) at (word_in_ok line 1 b.0 b.1) ∙ rw (keyword, by_test b.0 (bytes_eq b.0.text (codes "1")) refl b.2) refl
    where
      by_test : (version : Word) (t : Bool) → bytes_eq version.text (codes "1") ≡ t → ◌≡◌ {A = Result (Unit {0}) Fault} (cond t (Ok tt) (Err (at_word fault_kinds.Version version))) (Ok tt) → version.text ≡ codes "1"
      by_test version true e at = (bytes_eq-Decides version.text (codes "1")).0 e
      by_test version false e at = absurd cc

  end_says : (words : List Word) (first : Word) → length words ≡ 1 → slice_get words 0 ≡ Some first → map (λ w. w.text) words ≡ first.text ∷ []
  end_says [] first n at = absurd (omega (arith, n))
  end_says (w ∷ []) first n at = let e = same_Some w first at in rw e refl
  end_says (w ∷ x ∷ words) first n at = absurd (omega (arith, n))

  abbrev Taken : Known → Kind → Line → Row → Type 0
  Taken known kind line row = Says diagram known line row × (kind_of row ≡ kind)

  pub row_takes : (known : Known) (kind : Kind) (line : Line) (first : Word) (row : Row) → slice_get line.words 0 ≡ Some first → first.text ≡ keyword kind → row_of diagram known kind line ≡ Ok row → Taken known kind line row
  unfolding row_of
  row_takes known Header line first row at keyword h =
      let a = bind_ok (header_in line) (λ _. Ok HeaderRow) row h in
      subst (Taken known Header line) (same_Ok {E = Fault} HeaderRow row a.2) ((header_says line first at keyword a.1, tt), refl)
  row_takes known Tells line first row at keyword h =
      let a = bind_ok (agent_in diagram (events_before known) line) (λ a. Ok (event_row line (Tell a))) row h in
      let b = agent_says line first (events_before known) a.0 at a.1 in
      let words = b.0 ∙ ap (λ (t : List ℕ). t ∷ agent_name diagram a.0 ∷ []) keyword in
      subst (Taken known Tells line) (same_Ok {E = Fault} (event_row line (Tell a.0)) row a.2) ((words, record { number = refl; room = b.1; agent = b.2; numbers = tt }), refl)
  row_takes known (Gives ending) line first row at keyword h =
      let a = bind_ok (number_in (events_before known) line) (λ i. Ok (event_row line (Give i ending))) row h in
      let b = number_says line first (events_before known) a.0 at a.1 in
      let words = b.0 ∙ ap (λ (t : List ℕ). t ∷ decimal a.0 ∷ []) keyword in
      subst (Taken known (Gives ending) line) (same_Ok {E = Fault} (event_row line (Give a.0 ending)) row a.2) ((words, record { number = refl; room = b.1; agent = tt; numbers = b.2 }), refl)
  row_takes known (Decides ending) line first row at keyword h =
      let a = bind_ok (decision_in diagram (events_before known) line) (λ x. Ok (event_row line (Decide x.0 x.1 ending))) row h in
      let b = decision_says line first (events_before known) a.0 at a.1 in
      let words = b.0 ∙ ap (λ (t : List ℕ). t ∷ agent_name diagram a.0.0 ∷ decimal a.0.1.outcome ∷ decimal a.0.1.pick ∷ []) keyword in
      subst (Taken known (Decides ending) line) (same_Ok {E = Fault} (event_row line (Decide a.0.0 a.0.1 ending)) row a.2) ((words, record { number = refl; room = b.1; agent = b.2; numbers = (b.3, b.4) }), refl)
  row_takes known Stops line first row at keyword h =
      let a = bind_ok (agent_in diagram (events_before known) line) (λ a. Ok (event_row line (Stop a))) row h in
      let b = agent_says line first (events_before known) a.0 at a.1 in
      let words = b.0 ∙ ap (λ (t : List ℕ). t ∷ agent_name diagram a.0 ∷ []) keyword in
      subst (Taken known Stops line) (same_Ok {E = Fault} (event_row line (Stop a.0)) row a.2) ((words, record { number = refl; room = b.1; agent = b.2; numbers = tt }), refl)
  row_takes known End line first row at keyword h =
      let a = bind_ok (exact_words 1 line) (λ _. Ok EndRow) row h in
      subst (Taken known End line) (same_Ok {E = Fault} EndRow row a.2) ((end_says line.words first (exact_ok 1 line a.1) at ∙ ap (λ (t : List ℕ). t ∷ []) keyword, tt), refl)

  -- ---- what is said is read

  agent_again : HasNames diagram → (line : Line) (keyword : List ℕ) (n a : ℕ) → texts line ≡ keyword ∷ agent_name diagram a ∷ [] → n < most_events → a < length diagram.agents → agent_in diagram n line ≡ Ok a
  unfolding agent_in
  agent_again names line keyword n a words room known =
      let first = text_there line (keyword ∷ agent_name diagram a ∷ []) 0 keyword words refl in
      let second = text_there line (keyword ∷ agent_name diagram a ∷ []) 1 (agent_name diagram a) words refl in
      rw (begins_again line 2 n first.0 (texts_count line (keyword ∷ agent_name diagram a ∷ []) words) first.1 room) (agent_at_again names line 1 a second.0 second.1 second.2 known)

  number_again : (line : Line) (keyword : List ℕ) (n i : ℕ) → texts line ≡ keyword ∷ decimal i ∷ [] → n < most_events → i ≤ 999999 → number_in n line ≡ Ok i
  unfolding number_in
  number_again line keyword n i words room short =
      let first = text_there line (keyword ∷ decimal i ∷ []) 0 keyword words refl in
      let second = text_there line (keyword ∷ decimal i ∷ []) 1 (decimal i) words refl in
      rw (begins_again line 2 n first.0 (texts_count line (keyword ∷ decimal i ∷ []) words) first.1 room) (number_at_again line 1 i second.0 second.1 second.2 short)

  decision_again : HasNames diagram → (line : Line) (keyword : List ℕ) (n a : ℕ) (choice : Choice) → texts line ≡ keyword ∷ agent_name diagram a ∷ decimal choice.outcome ∷ decimal choice.pick ∷ [] → n < most_events →
      a < length diagram.agents → choice.outcome ≤ 999999 → choice.pick ≤ 999999 → decision_in diagram n line ≡ Ok (a, choice)
  unfolding decision_in
  decision_again names line keyword n a choice words room known outcome pick =
      let those = keyword ∷ agent_name diagram a ∷ decimal choice.outcome ∷ decimal choice.pick ∷ [] in
      let first = text_there line those 0 keyword words refl in
      let second = text_there line those 1 (agent_name diagram a) words refl in
      let third = text_there line those 2 (decimal choice.outcome) words refl in
      let fourth = text_there line those 3 (decimal choice.pick) words refl in
      rw (
        begins_again line 4 n first.0 (texts_count line those words) first.1 room,
        agent_at_again names line 1 a second.0 second.1 second.2 known,
        number_at_again line 2 choice.outcome third.0 third.1 third.2 outcome,
        number_at_again line 3 choice.pick fourth.0 fourth.1 fourth.2 pick,
      ) refl

  header_again : (line : Line) → texts line ≡ codes "schedule" ∷ codes "1" ∷ [] → header_in line ≡ Ok tt
  unfolding header_in
  header_again line words =
      let those = codes "schedule" ∷ codes "1" ∷ [] in
      let version = text_there line those 1 (codes "1") words refl in
      rw (exact_words-ok 2 line (texts_count line those words), word_in_again line 1 version.0 version.1, (bytes_eq-Decides version.0.text (codes "1")).1 version.2) refl

  pub row_again : HasNames diagram → (known : Known) (line : Line) (row : Row) → Says diagram known line row → row_of diagram known (kind_of row) line ≡ Ok row
  unfolding row_of
  row_again names known line HeaderRow says = rw (header_again line says.0) refl
  row_again names known line (EventRow (number, Tell a)) says =
      rw (agent_again names line (codes "tell") (events_before known) a says.0 says.1.room says.1.agent) (ap (λ (i : ℕ). Ok (EventRow (i, Tell a))) (sym says.1.number))
  row_again names known line (EventRow (number, Give i ending)) says =
      rw (number_again line (give_word ending) (events_before known) i says.0 says.1.room says.1.numbers) (ap (λ (j : ℕ). Ok (EventRow (j, Give i ending))) (sym says.1.number))
  row_again names known line (EventRow (number, Decide a choice ending)) says =
      rw (decision_again names line (decide_word ending) (events_before known) a choice says.0 says.1.room says.1.agent says.1.numbers.0 says.1.numbers.1) (ap (λ (j : ℕ). Ok (EventRow (j, Decide a choice ending))) (sym says.1.number))
  row_again names known line (EventRow (number, Stop a)) says =
      rw (agent_again names line (codes "stop") (events_before known) a says.0 says.1.room says.1.agent) (ap (λ (i : ℕ). Ok (EventRow (i, Stop a))) (sym says.1.number))
  row_again names known line EndRow says = rw (exact_words-ok 1 line (texts_count line (codes "end" ∷ []) says.0)) refl

  -- the first word of a line that says a row
  first_again : (known : Known) (line : Line) (row : Row) → Says diagram known line row → (first : Word) × (slice_get line.words 0 ≡ Some first) × (first.text ≡ keyword (kind_of row))
  first_again known line HeaderRow says = text_there line (codes "schedule" ∷ codes "1" ∷ []) 0 (codes "schedule") says.0 refl
  first_again known line (EventRow (number, Tell a)) says = text_there line (event_words diagram (Tell a)) 0 (codes "tell") says.0 refl
  first_again known line (EventRow (number, Give i ending)) says = text_there line (event_words diagram (Give i ending)) 0 (give_word ending) says.0 refl
  first_again known line (EventRow (number, Decide a choice ending)) says = text_there line (event_words diagram (Decide a choice ending)) 0 (decide_word ending) says.0 refl
  first_again known line (EventRow (number, Stop a)) says = text_there line (event_words diagram (Stop a)) 0 (codes "stop") says.0 refl
  first_again known line EndRow says = text_there line (codes "end" ∷ []) 0 (codes "end") says.0 refl

-- ---- schedules are read by their grammar

-- the kind of a first word
kind_by : List ℕ → Option Kind
kind_by text = find (λ kind. bytes_eq text (keyword kind)) (Header ∷ kinds_behind)

kind_back : (kind : Kind) → kind_by (keyword kind) ≡ Some kind
unfolding kind_by
kind_back Header = refl
kind_back Tells = refl
kind_back (Gives GoesOn) = refl
kind_back (Gives StopsBefore) = refl
kind_back (Gives StopsAfter) = refl
kind_back (Decides GoesOn) = refl
kind_back (Decides StopsBefore) = refl
kind_back (Decides StopsAfter) = refl
kind_back Stops = refl
kind_back End = refl

-- two kinds have two first words
same_kind : (one two : Kind) → keyword one ≡ keyword two → one ≡ two
same_kind one two h = same_Some one two (sym (kind_back one) ∙ (ap kind_by h ∙ kind_back two))

pub reads : (diagram : PlainDiagram) → HasNames diagram → Reads (schedule_lines diagram) (row_of diagram)
reads diagram names = record {
  apart = same_kind;
  answers = λ known kind line. row_by diagram line known kind;
  takes = row_takes diagram;
  again = row_again diagram names;
  begins = first_again diagram;
}
