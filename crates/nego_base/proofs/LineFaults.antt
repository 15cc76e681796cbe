-- Reading a text of lines by its grammar finds its first fault, and a text has one at most.
use Rattle.std.proofs.Common.{◌≡◌, ◌≢◌, ℕ, zero, suc, ◌<◌, Bool, true, false, cond, List, [], ◌∷◌, ◌++◌, length, All, Option, Some, None, Result, Ok, Err, ◌⊎◌, inl, inr, refl, sym, ap, subst, ◌∙◌, arith}
use Rattle.std.specs.Prelude.{find, slice_get}
use Rattle.std.specs.List.{Contains}
use Rattle.std.specs.Option.{option_map_or}
use Rattle.std.specs.Str.{bytes_eq}
use Rattle.std.proofs.lemmas.List.Elements.{All-nil, All-cons, All-head, All-tail, All-weaker}
use Rattle.std.proofs.lemmas.Bool.{false≢true}
use Rattle.std.proofs.lemmas.Option.{same_Some, none-some, slice_get_cases}
use Rattle.std.proofs.lemmas.Slice.Eq.{bytes_eq-Decides}
use Rattle.nego_base.specs.declared.fault.FaultKind.TheVariants as kinds
use Rattle.nego_base.specs.declared.fault.Fault.{Fault}
use Rattle.nego_base.specs.declared.line.Word.{Word}
use Rattle.nego_base.specs.declared.line.Line.{Line}
use Rattle.nego_base.specs.Grammar.{at_word, past_line}
use Rattle.nego_base.specs.LineGrammar.{LineGrammar, Demand, IsFirstUnmet, behind_row, behind_rows, Say, MayNotStand, IsFaultHere, IsFirstAmong, IsFirstFaultOf, IsTextOf, missing_end}
use Rattle.nego_base.specs.LineWalk.{word_in, kind_of_line, ended, walk_lines, AreMet, Answers}
use Rattle.nego_base.specs.Results.{◌>>=◌}
use Rattle.nego_base.specs.Scan.{scan_fault, scanned, count_lines}
use Rattle.nego_base.proofs.ScanLaws.{IsInBounds, lines_in_bounds}
use Rattle.nego_base.proofs.Cases.{bind_ok, bind_err, same_Ok, same_Err, ok-err}

-- ---- the demands on a line

module _ {X : Type 0} (Is : X → Word → Type 0) (line : Line) where
  -- a line has one first demand that it doesn't meet, at most
  pub unmet_once : (demands : List (Demand X)) (one two : Fault) → IsFirstUnmet Is line demands one → IsFirstUnmet Is line demands two → one ≡ two
  unmet_once [] one two h k = absurd h
  unmet_once (demand ∷ demands) one two (inl h) (inl k) = h.1 ∙ sym k.1
  unmet_once (demand ∷ demands) one two (inl h) (inr k) = absurd (h.0 k.0)
  unmet_once (demand ∷ demands) one two (inr h) (inl k) = absurd (k.0 h.0)
  unmet_once (demand ∷ demands) one two (inr h) (inr k) = unmet_once demands one two h.1 k.1

  -- and none where it meets them all
  pub met_none : (demands : List (Demand X)) (fault : Fault) → AreMet Is line demands → IsFirstUnmet Is line demands fault → ⊥
  met_none [] fault met h = h
  met_none (demand ∷ demands) fault met (inl h) = h.0 met.0
  met_none (demand ∷ demands) fault met (inr h) = met_none demands fault met.1 h.1

  unmet_before : (demands more : List (Demand X)) (fault : Fault) → IsFirstUnmet Is line demands fault → IsFirstUnmet Is line (demands ++ more) fault
  unmet_before [] more fault h = absurd h
  unmet_before (demand ∷ demands) more fault (inl h) = inl h
  unmet_before (demand ∷ demands) more fault (inr h) = inr (h.0, unmet_before demands more fault h.1)

  unmet_behind : (demands more : List (Demand X)) (fault : Fault) → AreMet Is line demands → IsFirstUnmet Is line more fault → IsFirstUnmet Is line (demands ++ more) fault
  unmet_behind [] more fault met h = h
  unmet_behind (demand ∷ demands) more fault met h = inr (met.0, unmet_behind demands more fault met.1 h)

  met_both : (demands more : List (Demand X)) → AreMet Is line demands → AreMet Is line more → AreMet Is line (demands ++ more)
  met_both [] more met h = h
  met_both (demand ∷ demands) more met h = (met.0, met_both demands more met.1 h)

  answers_behind : {Y : Type 0} (demands more : List (Demand X)) (r : Result Y Fault) → AreMet Is line demands → Answers Is line more r → Answers Is line (demands ++ more) r
  answers_behind demands more (Ok y) met h = met_both demands more met h
  answers_behind demands more (Err fault) met h = unmet_behind demands more fault met h

  -- steps one behind the other are by their demands one behind the other
  pub answers_then : {Y Z : Type 0} (demands more : List (Demand X)) (r : Result Y Fault) (f : Y → Result Z Fault) → Answers Is line demands r → ((y : Y) → r ≡ Ok y → Answers Is line more (f y)) →
      Answers Is line (demands ++ more) (r >>= f)
  answers_then demands more (Ok y) f h k = answers_behind demands more (f y) h (k y refl)
  answers_then demands more (Err fault) f h k = unmet_before demands more fault h

  -- a step that can't fail
  pub answers_last : {Y Z : Type 0} (demands : List (Demand X)) (r : Result Y Fault) (f : Y → Z) → Answers Is line demands r → Answers Is line demands (r >>= λ y. Ok (f y))
  answers_last demands (Ok y) f h = h
  answers_last demands (Err fault) f h = h

-- ---- the lines of a text

same_text : (a b : List ℕ) → bytes_eq a b ≡ true → a ≡ b
same_text a b h = (bytes_eq-Decides a b).0 h

module _ {Known Kind Row Own : Type 0} (G : LineGrammar Known Kind Row Own) (row_of : Known → Kind → Line → Result Row Fault) where
  -- What is shown of each grammar: two kinds have two keywords; a line is read by what it is asked; what is read of a line
  -- of a kind is a row of that kind that it says; and what a line says is read of it.
  pub record Reads : Type 0 where
    pub apart : (one two : Kind) → G.keyword one ≡ G.keyword two → one ≡ two
    pub answers : (known : Known) (kind : Kind) (line : Line) → Answers G.Is line (G.demands known kind line) (row_of known kind line)
    pub takes : (known : Known) (kind : Kind) (line : Line) (first : Word) (row : Row) → slice_get line.words 0 ≡ Some first → first.text ≡ G.keyword kind → row_of known kind line ≡ Ok row →
        G.Says known line row × (G.kind_of row ≡ kind)
    pub again : (known : Known) (line : Line) (row : Row) → G.Says known line row → row_of known (G.kind_of row) line ≡ Ok row
    pub begins : (known : Known) (line : Line) (row : Row) → G.Says known line row → (first : Word) × (slice_get line.words 0 ≡ Some first) × (first.text ≡ G.keyword (G.kind_of row))

-- ---- the kind of a line

Contains-cons : {A : Type 0} (head x : A) (rest : List A) → Contains rest x → Contains (head ∷ rest) x
Contains-cons head x rest h = let lt = h.1 in (suc h.0, omega arith, h.2)

Contains-cons_cases : {A : Type 0} (head x : A) (rest : List A) → Contains (head ∷ rest) x → (head ≡ x) ⊎ Contains rest x
Contains-cons_cases head x rest (zero, lt, is) = inl is
Contains-cons_cases head x rest (suc i, lt, is) = inr (i, omega arith, is)

-- the first of these kinds whose keyword the text is
module _ {Kind : Type 0} (keyword : Kind → List ℕ) (text : List ℕ) where
  abbrev pub named : List Kind → Option Kind
  named kinds = find (λ kind. bytes_eq text (keyword kind)) kinds

  by_head : (P : Option Kind → Type 0) (kind : Kind) (rest : Option Kind) (t : Bool) → (t ≡ true → P (Some kind)) → (t ≡ false → P rest) → P (cond t (Some kind) rest)
  by_head P kind rest true first later = first refl
  by_head P kind rest false first later = later refl

  not_named : (kind : Kind) → bytes_eq text (keyword kind) ≡ false → text ≢ keyword kind
  not_named kind h same = false≢true (sym h ∙ (bytes_eq-Decides text (keyword kind)).1 same)

  pub named_is : (kinds : List Kind) (kind : Kind) → named kinds ≡ Some kind → Contains kinds kind × (text ≡ keyword kind)
  named_is [] kind h = absurd cc
  named_is (k ∷ kinds) kind h =
      by_head (λ o. o ≡ Some kind → Contains (k ∷ kinds) kind × (text ≡ keyword kind)) k (named kinds) (bytes_eq text (keyword k))
      (λ e is. let same = same_Some k kind is in ((0, omega arith, same), same_text text (keyword k) e ∙ ap keyword same))
      (λ e later. let x = named_is kinds kind later in (Contains-cons k kind kinds x.0, x.1)) h

  pub none_named : (kinds : List Kind) → named kinds ≡ None → All (λ kind. text ≢ keyword kind) kinds
  none_named [] h = All-nil (λ kind. text ≢ keyword kind)
  none_named (k ∷ kinds) h =
      by_head (λ o. o ≡ None → All (λ kind. text ≢ keyword kind) (k ∷ kinds)) k (named kinds) (bytes_eq text (keyword k))
      (λ e is. absurd cc) (λ e later. All-cons (λ kind. text ≢ keyword kind) k kinds (not_named k e) (none_named kinds later)) h

  pub named_none : (kinds : List Kind) → All (λ kind. text ≢ keyword kind) kinds → named kinds ≡ None
  named_none [] h = refl
  named_none (k ∷ kinds) h =
      by_head (λ o. o ≡ None) k (named kinds) (bytes_eq text (keyword k))
      (λ e. absurd (All-head (λ kind. text ≢ keyword kind) k kinds h (same_text text (keyword k) e)))
      (λ e. named_none kinds (All-tail (λ kind. text ≢ keyword kind) k kinds h))

  pub named_again : ((one two : Kind) → keyword one ≡ keyword two → one ≡ two) → (kinds : List Kind) (kind : Kind) → Contains kinds kind → text ≡ keyword kind → named kinds ≡ Some kind
  named_again apart [] kind there same = absurd (let lt = there.1 in omega arith)
  named_again apart (k ∷ kinds) kind there same =
      by_head (λ o. o ≡ Some kind) k (named kinds) (bytes_eq text (keyword k))
      (λ e. ap (λ (x : Kind). Some x) (apart k kind (sym (same_text text (keyword k) e) ∙ same)))
      (λ e. elim (Contains-cons_cases k kind kinds there) [
        | inl is ↦ absurd (not_named k e (same ∙ ap keyword (sym is)))
        | inr later ↦ named_again apart kinds kind later same
      ])

module _ {Known Kind Row Own : Type 0} (G : LineGrammar Known Kind Row Own) (row_of : Known → Kind → Line → Result Row Fault) where
  -- the kind of a line with this first word
  abbrev kind_by : Known → Line → Option Word → Result Kind Fault
  kind_by known line o =
      option_map_or (λ word. Ok word) o (Err (past_line kinds.Count line)) >>= λ first. option_map_or (λ kind. Ok kind) (named G.keyword first.text (G.may_stand known)) (Err (at_word kinds.Word first))

  kind_is : (known : Known) (line : Line) → kind_of_line G row_of known line ≡ kind_by known line (slice_get line.words 0)
  unfolding kind_of_line word_in
  kind_is known line = refl

  kind_found : (known : Known) (line : Line) (first : Word) → slice_get line.words 0 ≡ Some first →
      kind_of_line G row_of known line ≡ option_map_or (λ kind. Ok kind) (named G.keyword first.text (G.may_stand known)) (Err (at_word kinds.Word first))
  kind_found known line first h = kind_is known line ∙ rw h refl

  kind_answer : (known : Known) (line : Line) (first : Word) (o : Option Kind) → slice_get line.words 0 ≡ Some first → named G.keyword first.text (G.may_stand known) ≡ o →
      kind_of_line G row_of known line ≡ option_map_or (λ kind. Ok kind) o (Err (at_word kinds.Word first))
  kind_answer known line first o h e = kind_found known line first h ∙ ap (λ (x : Option Kind). option_map_or (λ kind. Ok kind) x (Err (at_word kinds.Word first))) e

-- ---- the lines of a text

module _ {Known Kind Row Own : Type 0} (G : LineGrammar Known Kind Row Own) (row_of : Known → Kind → Line → Result Row Fault) (reads : Reads G row_of) where
  -- the kind of a line, and its first word
  kind_ok : (known : Known) (line : Line) (kind : Kind) (first : Word) → slice_get line.words 0 ≡ Some first → kind_of_line G row_of known line ≡ Ok kind → Contains (G.may_stand known) kind × (first.text ≡ G.keyword kind)
  kind_ok known line kind first h is = by_kind (named G.keyword first.text (G.may_stand known)) refl
    where
      by_kind : (o : Option Kind) → named G.keyword first.text (G.may_stand known) ≡ o → Contains (G.may_stand known) kind × (first.text ≡ G.keyword kind)
      by_kind None e = absurd (ok-err {E = Fault} kind (at_word kinds.Word first) (sym is ∙ kind_answer G row_of known line first None h e))
      by_kind (Some k) e =
          let same : k ≡ kind = same_Ok {E = Fault} k kind (sym (kind_answer G row_of known line first (Some k) h e) ∙ is) in
          named_is G.keyword first.text (G.may_stand known) kind (e ∙ ap (λ (x : Kind). Some x) same)

  kind_err : (known : Known) (line : Line) (first : Word) (fault : Fault) → slice_get line.words 0 ≡ Some first → kind_of_line G row_of known line ≡ Err fault → MayNotStand G known first fault
  kind_err known line first fault h is = by_kind (named G.keyword first.text (G.may_stand known)) refl
    where
      by_kind : (o : Option Kind) → named G.keyword first.text (G.may_stand known) ≡ o → MayNotStand G known first fault
      by_kind None e = (none_named G.keyword first.text (G.may_stand known) e, same_Err {T = Kind} fault (at_word kinds.Word first) (sym is ∙ kind_answer G row_of known line first None h e))
      by_kind (Some k) e = absurd (ok-err {E = Fault} k fault (sym (kind_answer G row_of known line first (Some k) h e) ∙ is))

  kind_again : (known : Known) (line : Line) (kind : Kind) (first : Word) → slice_get line.words 0 ≡ Some first → first.text ≡ G.keyword kind → Contains (G.may_stand known) kind → kind_of_line G row_of known line ≡ Ok kind
  kind_again known line kind first h keyword may = kind_answer G row_of known line first (Some kind) h (named_again G.keyword first.text reads.apart (G.may_stand known) kind may keyword)

  stranger_again : (known : Known) (line : Line) (first : Word) (fault : Fault) → slice_get line.words 0 ≡ Some first → MayNotStand G known first fault → kind_of_line G row_of known line ≡ Err fault
  stranger_again known line first fault h none = kind_answer G row_of known line first None h (named_none G.keyword first.text (G.may_stand known) none.0) ∙ ap (λ (f : Fault). Err f) (sym none.1)

  -- the first word of a line that has one
  first_of : (line : Line) → 0 < length line.words → (first : Word) × (slice_get line.words 0 ≡ Some first)
  first_of line some = elim (slice_get_cases line.words 0).1 [
    | inl (word, within, there, is) ↦ (word, there)
    | inr past ↦ absurd (let none = past.0 in omega arith)
  ]

  -- ---- what is read stands so

  abbrev pub Filled : List Line → Type 0
  Filled lines = All (λ line. 0 < length line.words) lines

  one_more : (missing : Fault) (known : Known) (line : Line) (lines : List Line) (row : Row) (fault : Fault) → Contains (G.may_stand known) (G.kind_of row) → G.Says known line row →
      IsFirstAmong G missing (behind_row G known row) lines fault → IsFirstAmong G missing known (line ∷ lines) fault
  one_more missing known line lines row fault may says h =
      record { before = line ∷ h.before; rows = row ∷ h.rows; left = h.left; parts = ap (λ (ls : List Line). line ∷ ls) h.parts; say = (may, says, h.say); here = h.here }

  at_first : (missing : Fault) (known : Known) (lines : List Line) (fault : Fault) → IsFaultHere G missing known lines fault → IsFirstAmong G missing known lines fault
  at_first missing known lines fault h = record { before = []; rows = []; left = lines; parts = refl; say = tt; here = h }

  no_kind : (k : Kind) (ks : List Kind) → k ∷ ks ≡ [] → ⊥
  no_kind k ks h = cc

  pub walk_finds : (missing : Fault) (known : Known) (lines : List Line) (fault : Fault) → Filled lines → walk_lines G row_of missing known lines ≡ Err fault → IsFirstAmong G missing known lines fault
  unfolding walk_lines
  walk_finds missing known [] fault filled h = at_first missing known [] fault (by_kinds (G.may_stand known) refl h)
    where
      by_kinds : (ks : List Kind) → G.may_stand known ≡ ks → ended G row_of missing ks ≡ Err fault → IsFaultHere G missing known [] fault
      by_kinds [] e h = absurd (ok-err {E = Fault} [] fault h)
      by_kinds (k ∷ ks) e h = (λ none. no_kind k ks (sym e ∙ none), same_Err {T = List Row} fault missing (sym h))
  walk_finds missing known (line ∷ lines) fault filled h =
      let first = first_of line (All-head (λ l. 0 < length l.words) line lines filled) in
      elim (bind_err (kind_of_line G row_of known line) (λ kind. row_of known kind line >>= λ row. walk_lines G row_of missing (G.behind known kind row) lines >>= λ rows. Ok (row ∷ rows)) fault h) [
        | inl stranger ↦ at_first missing known (line ∷ lines) fault (first.0, first.1, inl (kind_err known line first.0 fault first.1 stranger))
        | inr (kind, is, h') ↦ (
            let stands = kind_ok known line kind first.0 first.1 is in
            elim (bind_err (row_of known kind line) (λ row. walk_lines G row_of missing (G.behind known kind row) lines >>= λ rows. Ok (row ∷ rows)) fault h') [
              | inl short ↦ at_first missing known (line ∷ lines) fault (first.0, first.1, inr (kind, stands.0, stands.1, subst (Answers G.Is line (G.demands known kind line)) short (reads.answers known kind line)))
              | inr (row, row_is, h'') ↦ (
                  let says = reads.takes known kind line first.0 row first.1 stands.1 row_is in
                  elim (bind_err (walk_lines G row_of missing (G.behind known kind row) lines) (λ rows. Ok (row ∷ rows)) fault h'') [
                    | inl later ↦ one_more missing known line lines row fault (subst (Contains (G.may_stand known)) (sym says.1) stands.0) says.0
                        (walk_finds missing (behind_row G known row) lines fault (All-tail (λ l. 0 < length l.words) line lines filled)
                        (subst (λ (k : Kind). walk_lines G row_of missing (G.behind known k row) lines ≡ Err fault) (sym says.1) later))
                    | inr (rows, rows_are, over) ↦ absurd (ok-err {E = Fault} (row ∷ rows) fault over)
                  ])
            ])
      ]

  pub walk_says : (missing : Fault) (known : Known) (lines : List Line) (rows : List Row) → Filled lines → walk_lines G row_of missing known lines ≡ Ok rows →
      Say G known lines rows × (G.may_stand (behind_rows G known rows) ≡ [])
  unfolding walk_lines
  walk_says missing known [] rows filled h = by_kinds (G.may_stand known) refl h
    where
      by_kinds : (ks : List Kind) → G.may_stand known ≡ ks → ended G row_of missing ks ≡ Ok rows → Say G known [] rows × (G.may_stand (behind_rows G known rows) ≡ [])
      by_kinds [] e h = subst (λ (rs : List Row). Say G known [] rs × (G.may_stand (behind_rows G known rs) ≡ [])) (same_Ok {E = Fault} [] rows h) (tt, e)
      by_kinds (k ∷ ks) e h = absurd (ok-err {E = Fault} rows missing (sym h))
  walk_says missing known (line ∷ lines) rows filled h =
      let first = first_of line (All-head (λ l. 0 < length l.words) line lines filled) in
      let a = bind_ok (kind_of_line G row_of known line) (λ kind. row_of known kind line >>= λ row. walk_lines G row_of missing (G.behind known kind row) lines >>= λ rows. Ok (row ∷ rows)) rows h in
      let b = bind_ok (row_of known a.0 line) (λ row. walk_lines G row_of missing (G.behind known a.0 row) lines >>= λ rows. Ok (row ∷ rows)) rows a.2 in
      let c = bind_ok (walk_lines G row_of missing (G.behind known a.0 b.0) lines) (λ rows. Ok (b.0 ∷ rows)) rows b.2 in
      let stands = kind_ok known line a.0 first.0 first.1 a.1 in
      let says = reads.takes known a.0 line first.0 b.0 first.1 stands.1 b.1 in
      let later = walk_says missing (behind_row G known b.0) lines c.0 (All-tail (λ l. 0 < length l.words) line lines filled)
      (subst (λ (k : Kind). walk_lines G row_of missing (G.behind known k b.0) lines ≡ Ok c.0) (sym says.1) c.1) in
      subst (λ (rs : List Row). Say G known (line ∷ lines) rs × (G.may_stand (behind_rows G known rs) ≡ [])) (same_Ok {E = Fault} (b.0 ∷ c.0) rows c.2)
      ((subst (Contains (G.may_stand known)) (sym says.1) stands.0, says.0, later.0), later.1)

  -- ---- what stands so is read

  -- a line that says a row, before others
  pub walk_row : (missing : Fault) (known : Known) (line : Line) (lines : List Line) (row : Row) → Contains (G.may_stand known) (G.kind_of row) → G.Says known line row →
      walk_lines G row_of missing known (line ∷ lines) ≡ (walk_lines G row_of missing (behind_row G known row) lines >>= λ rows. Ok (row ∷ rows))
  unfolding walk_lines
  walk_row missing known line lines row may says =
      let first = reads.begins known line row says in
      rw (kind_again known line (G.kind_of row) first.0 first.1 first.2 may, reads.again known line row says) refl

  pub say_walks : (missing : Fault) (known : Known) (lines : List Line) (rows : List Row) → Say G known lines rows → G.may_stand (behind_rows G known rows) ≡ [] → walk_lines G row_of missing known lines ≡ Ok rows
  unfolding walk_lines
  say_walks missing known [] [] h ends = ap (ended G row_of missing) ends
  say_walks missing known [] (row ∷ rows) h ends = absurd h
  say_walks missing known (line ∷ lines) [] h ends = absurd h
  say_walks missing known (line ∷ lines) (row ∷ rows) h ends =
      walk_row missing known line lines row h.0 h.1 ∙ ap (λ (r : Result (List Row) Fault). r >>= λ rows. Ok (row ∷ rows)) (say_walks missing (behind_row G known row) lines rows h.2 ends)

  -- a fault behind lines that say rows
  fault_behind : (missing : Fault) (known : Known) (lines : List Line) (rows : List Row) (left : List Line) (fault : Fault) → Say G known lines rows →
      walk_lines G row_of missing (behind_rows G known rows) left ≡ Err fault → walk_lines G row_of missing known (lines ++ left) ≡ Err fault
  fault_behind missing known [] [] left fault h is = is
  fault_behind missing known [] (row ∷ rows) left fault h is = absurd h
  fault_behind missing known (line ∷ lines) [] left fault h is = absurd h
  fault_behind missing known (line ∷ lines) (row ∷ rows) left fault h is =
      walk_row missing known line (lines ++ left) row h.0 h.1 ∙ ap (λ (r : Result (List Row) Fault). r >>= λ rows. Ok (row ∷ rows)) (fault_behind missing (behind_row G known row) lines rows left fault h.2 is)

  -- what is read of a line that falls short
  short_again : (known : Known) (kind : Kind) (line : Line) (fault : Fault) → IsFirstUnmet G.Is line (G.demands known kind line) fault → row_of known kind line ≡ Err fault
  short_again known kind line fault h = by_answer (row_of known kind line) (reads.answers known kind line)
    where
      by_answer : (r : Result Row Fault) → Answers G.Is line (G.demands known kind line) r → r ≡ Err fault
      by_answer (Ok row) met = absurd (met_none G.Is line (G.demands known kind line) fault met h)
      by_answer (Err f) short = ap (λ (f : Fault). Err f) (unmet_once G.Is line (G.demands known kind line) f fault short h)

  here_walks : (missing : Fault) (known : Known) (left : List Line) (fault : Fault) → IsFaultHere G missing known left fault → walk_lines G row_of missing known left ≡ Err fault
  unfolding walk_lines
  here_walks missing known [] fault h = by_kinds (G.may_stand known) refl
    where
      by_kinds : (ks : List Kind) → G.may_stand known ≡ ks → ended G row_of missing ks ≡ Err fault
      by_kinds [] e = absurd (h.0 e)
      by_kinds (k ∷ ks) e = ap (λ (f : Fault). Err f) (sym h.1)
  here_walks missing known (line ∷ lines) fault (first, is, inl stranger) = rw (stranger_again known line first fault is stranger) refl
  here_walks missing known (line ∷ lines) fault (first, is, inr (kind, may, keyword, short)) =
      rw (kind_again known line kind first is keyword may, short_again known kind line fault short) refl

  pub first_walks : (missing : Fault) (known : Known) (lines : List Line) (fault : Fault) → IsFirstAmong G missing known lines fault → walk_lines G row_of missing known lines ≡ Err fault
  first_walks missing known lines fault h =
      ap (walk_lines G row_of missing known) h.parts ∙ fault_behind missing known h.before h.rows h.left fault h.say (here_walks missing (behind_rows G known h.rows) h.left fault h.here)

-- ---- texts

filled : (bytes : List ℕ) → scan_fault bytes ≡ None → All (λ line. 0 < length line.words) (scanned bytes)
filled bytes h = All-weaker IsInBounds (λ line. 0 < length line.words) (λ line bounds. bounds.filled) (scanned bytes) (lines_in_bounds bytes h)

module _ {Known Kind Row Own : Type 0} (G : LineGrammar Known Kind Row Own) (row_of : Known → Kind → Line → Result Row Fault) (reads : Reads G row_of) where
  -- what the lines of a text say, or their first fault
  abbrev pub text_rows : List ℕ → Result (List Row) Fault
  text_rows bytes = walk_lines G row_of (missing_end (count_lines bytes)) G.begin (scanned bytes)

  pub fault_read : (bytes : List ℕ) (fault : Fault) → scan_fault bytes ≡ None → text_rows bytes ≡ Err fault → IsFirstFaultOf G bytes fault
  fault_read bytes fault scans h = inr (scans, walk_finds G row_of reads (missing_end (count_lines bytes)) G.begin (scanned bytes) fault (filled bytes scans) h)

  pub fault_again : (bytes : List ℕ) (fault : Fault) → IsFirstFaultOf G bytes fault → (scan_fault bytes ≡ Some fault) ⊎ ((scan_fault bytes ≡ None) × (text_rows bytes ≡ Err fault))
  fault_again bytes fault (inl h) = inl h
  fault_again bytes fault (inr h) = inr (h.0, first_walks G row_of reads (missing_end (count_lines bytes)) G.begin (scanned bytes) fault h.1)

  pub text_read : (bytes : List ℕ) (rows : List Row) → scan_fault bytes ≡ None → text_rows bytes ≡ Ok rows → IsTextOf G bytes rows
  text_read bytes rows scans h =
      let says = walk_says G row_of reads (missing_end (count_lines bytes)) G.begin (scanned bytes) rows (filled bytes scans) h in
      record { scans = scans; say = says.0; ends = says.1 }

  pub text_again : (bytes : List ℕ) (rows : List Row) → IsTextOf G bytes rows → text_rows bytes ≡ Ok rows
  text_again bytes rows h = say_walks G row_of reads (missing_end (count_lines bytes)) G.begin (scanned bytes) rows h.say h.ends

  -- a text has at most one first fault
  pub fault_once : (bytes : List ℕ) (one two : Fault) → IsFirstFaultOf G bytes one → IsFirstFaultOf G bytes two → one ≡ two
  fault_once bytes one two h k = by_cases (fault_again bytes one h) (fault_again bytes two k)
    where
      Read : Fault → Type 0
      Read fault = (scan_fault bytes ≡ Some fault) ⊎ ((scan_fault bytes ≡ None) × (text_rows bytes ≡ Err fault))

      by_cases : Read one → Read two → one ≡ two
      by_cases (inl h) (inl k) = same_Some one two (sym h ∙ k)
      by_cases (inl h) (inr k) = absurd (none-some one (sym k.0 ∙ h))
      by_cases (inr h) (inl k) = absurd (none-some two (sym h.0 ∙ k))
      by_cases (inr h) (inr k) = same_Err {T = List Row} one two (sym h.1 ∙ k.1)

  -- and none where it says rows
  pub fault_or_text : (bytes : List ℕ) (rows : List Row) (fault : Fault) → IsTextOf G bytes rows → IsFirstFaultOf G bytes fault → ⊥
  fault_or_text bytes rows fault h k = elim (fault_again bytes fault k) [
    | inl scans ↦ none-some fault (sym h.scans ∙ scans)
    | inr said ↦ ok-err {E = Fault} rows fault (sym (text_again bytes rows h) ∙ said.1)
  ]

  -- each text has the one or the other
  pub fault_else_text : (bytes : List ℕ) → ((rows : List Row) × IsTextOf G bytes rows) ⊎ ((fault : Fault) × IsFirstFaultOf G bytes fault)
  fault_else_text bytes = by_scan (scan_fault bytes) refl
    where
      by_rows : (r : Result (List Row) Fault) → scan_fault bytes ≡ None → text_rows bytes ≡ r → ((rows : List Row) × IsTextOf G bytes rows) ⊎ ((fault : Fault) × IsFirstFaultOf G bytes fault)
      by_rows (Ok rows) scans is = inl (rows, text_read bytes rows scans is)
      by_rows (Err fault) scans is = inr (fault, fault_read bytes fault scans is)

      by_scan : (o : Option Fault) → scan_fault bytes ≡ o → ((rows : List Row) × IsTextOf G bytes rows) ⊎ ((fault : Fault) × IsFirstFaultOf G bytes fault)
      by_scan (Some fault) is = inr (fault, inl is)
      by_scan None is = by_rows (text_rows bytes) is refl
