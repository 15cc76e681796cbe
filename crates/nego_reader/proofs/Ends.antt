-- The first line and the last lines, each by the function that reads it.
use Rattle.std.proofs.Common.{◌≡◌, Bool, true, false, cond, List, [], ◌∷◌, ◌++◌, Option, Some, None, Result, Ok, Err, refl, sym, ap, ◌∙◌}
use Rattle.std.specs.Prelude.{slice_get, find, codes}
use Rattle.std.specs.Option.{option_map_or}
use Rattle.std.specs.Str.{bytes_eq}
use Rattle.nego_base.specs.LineWalk.{word_in, walk_lines, kind_of_line}
use Rattle.nego_base.specs.declared.fault.FaultKind.TheVariants as fault_kinds
use Rattle.nego_base.specs.declared.fault.Fault.{Fault}
use Rattle.nego_base.specs.declared.line.Word.{Word}
use Rattle.nego_base.specs.declared.line.Line.{Line}
use Rattle.nego_base.specs.Grammar.{at_word, past_line, exact_words}
use Rattle.nego_base.specs.Results.{◌>>=◌}
use Rattle.nego_reader.specs.Rows.{Kind, Nego, First, Last, End, Row, HeaderRow, FirstRow, LastRow, EndRow, keyword, followers}
use Rattle.nego_reader.specs.Reading.{header_in, named_in, row_of, walk, line_at, header_at, nothing_at, end_at, last_at, ends_at}
use Rattle.nego_base.specs.LineAnswers.{onto}

-- ---- chains of steps

pub chain : {A B C : Type 0} (r : Result A Fault) (f : A → Result B Fault) (g : B → Result C Fault) (h : A → Result C Fault) → ((x : A) → (f x >>= g) ≡ h x) → ((r >>= f) >>= g) ≡ (r >>= h)
chain (Ok x) f g h same = same x
chain (Err fault) f g h same = refl

pub bind_same : {A B : Type 0} (r : Result A Fault) (f g : A → Result B Fault) → ((x : A) → f x ≡ g x) → (r >>= f) ≡ (r >>= g)
bind_same (Ok x) f g same = same x
bind_same (Err fault) f g same = refl

-- ---- a line of one kind

by_kind : {C : Type 0} (kind : Kind) (line : Line) (lines : List Line) (F : Kind → Result C Fault) (G : Line × List Line → Result C Fault) (t : Bool) (fault : Fault) → F kind ≡ G (line, lines) →
    (option_map_or (λ k. Ok k) (cond t (Some kind) None) (Err fault) >>= F) ≡ (cond t (Ok (line, lines)) (Err fault) >>= G)
by_kind kind line lines F G true fault same = same
by_kind kind line lines F G false fault same = refl

by_word : {C : Type 0} (kind : Kind) (line : Line) (lines : List Line) (F : Kind → Result C Fault) (G : Line × List Line → Result C Fault) (o : Option Word) → F kind ≡ G (line, lines) →
    ((option_map_or (λ word. Ok word) o (Err (past_line fault_kinds.Count line)) >>= λ first. option_map_or (λ k. Ok k) (find (λ k. bytes_eq first.text (keyword k)) (kind ∷ [])) (Err (at_word fault_kinds.Word first))) >>= F)
    ≡ ((option_map_or (λ word. Ok word) o (Err (past_line fault_kinds.Count line)) >>= λ first. cond (bytes_eq first.text (keyword kind)) (Ok (line, lines)) (Err (at_word fault_kinds.Word first))) >>= G)
by_word kind line lines F G None same = refl
by_word kind line lines F G (Some word) same = by_kind kind line lines F G (bytes_eq word.text (keyword kind)) (at_word fault_kinds.Word word) same

pub walk_at : (missing : Fault) (kind : Kind) (lines : List Line) →
    walk missing (kind ∷ []) lines ≡ (line_at (keyword kind) missing lines >>= λ x. row_of kind x.0 >>= λ row. onto (row ∷ []) (walk missing (followers kind) x.1))
unfolding walk_lines line_at kind_of_line word_in
walk_at missing kind [] = refl
walk_at missing kind (line ∷ lines) =
    by_word kind line lines (λ k. row_of k line >>= λ row. walk missing (followers k) lines >>= λ rows. Ok (row ∷ rows))
    (λ x. row_of kind x.0 >>= λ row. onto (row ∷ []) (walk missing (followers kind) x.1)) (slice_get line.words 0) refl

-- ---- the last lines

module _ {X Y : Type 0} (row : X → Row) (found : Line → Result X Fault) (kind : Kind) (same : (line : Line) → row_of kind line ≡ (found line >>= λ x. Ok (row x)))
    (missing : Fault) (next : List Line → Result Y Fault) (rows : Y → List Row) (next_is : (lines : List Line) → walk missing (followers kind) lines ≡ (next lines >>= λ y. Ok (rows y))) where
  line_is : (lines : List Line) → walk missing (kind ∷ []) lines ≡ (line_at (keyword kind) missing lines >>= λ l. found l.0 >>= λ x. next l.1 >>= λ y. Ok (row x ∷ rows y))
  line_is lines =
      walk_at missing kind lines ∙
      bind_same (line_at (keyword kind) missing lines) (λ l. row_of kind l.0 >>= λ r. onto (r ∷ []) (walk missing (followers kind) l.1)) (λ l. found l.0 >>= λ x. next l.1 >>= λ y. Ok (row x ∷ rows y))
      (λ l. ap (λ (r : Result Row Fault). r >>= λ r. onto (r ∷ []) (walk missing (followers kind) l.1)) (same l.0) ∙
      chain (found l.0) (λ x. Ok (row x)) (λ r. onto (r ∷ []) (walk missing (followers kind) l.1)) (λ x. next l.1 >>= λ y. Ok (row x ∷ rows y))
      (λ x. ap (onto (row x ∷ [])) (next_is l.1) ∙ chain (next l.1) (λ y. Ok (rows y)) (λ rest. Ok ((row x ∷ []) ++ rest)) (λ y. Ok (row x ∷ rows y)) (λ y. refl)))

three : {A B C D E : Type 0} (r : Result A Fault) (f : A → Result B Fault) (g : A → Result C Fault) (k : B → C → D) (K : D → Result E Fault) →
    ((r >>= λ l. f l >>= λ x. g l >>= λ y. Ok (k x y)) >>= K) ≡ (r >>= λ l. f l >>= λ x. g l >>= λ y. K (k x y))
three r f g k K =
    chain r (λ l. f l >>= λ x. g l >>= λ y. Ok (k x y)) K (λ l. f l >>= λ x. g l >>= λ y. K (k x y))
    (λ l. chain (f l) (λ x. g l >>= λ y. Ok (k x y)) K (λ x. g l >>= λ y. K (k x y)) (λ x. chain (g l) (λ y. Ok (k x y)) K (λ y. K (k x y)) (λ y. refl)))

abbrev no_kind : Word → Result Kind Fault
no_kind first = Err (at_word fault_kinds.Word first)

abbrev no_line : Word → Result (Unit {0}) Fault
no_line first = Err (at_word fault_kinds.Word first)

by_none : {C : Type 0} (r : Result Word Fault) (F : Kind → Result C Fault) (G : Unit {0} → Result C Fault) → ((r >>= no_kind) >>= F) ≡ ((r >>= no_line) >>= G)
by_none (Ok first) F G = refl
by_none (Err fault) F G = refl

nothing_is : (missing : Fault) (lines : List Line) → walk missing [] lines ≡ (nothing_at lines >>= λ _. Ok [])
unfolding walk_lines nothing_at kind_of_line
nothing_is missing [] = refl
nothing_is missing (line ∷ lines) = by_none (word_in line 0) (λ k. row_of k line >>= λ row. walk missing (followers k) lines >>= λ rows. Ok (row ∷ rows)) (λ _. Ok [])

end_line : (line : Line) → row_of End line ≡ (exact_words 1 line >>= λ _. Ok EndRow)
unfolding row_of
end_line line = refl

last_line : (line : Line) → row_of Last line ≡ (named_in line >>= λ name. Ok (LastRow name))
unfolding row_of
last_line line = refl

first_line : (line : Line) → row_of First line ≡ (named_in line >>= λ name. Ok (FirstRow name))
unfolding row_of
first_line line = refl

end_is : (missing : Fault) (lines : List Line) → walk missing (End ∷ []) lines ≡ (end_at missing lines >>= λ _. Ok (EndRow ∷ []))
unfolding end_at
end_is missing lines =
    line_is (λ _. EndRow) (exact_words 1) End end_line missing nothing_at (λ _. []) (nothing_is missing) lines ∙
    sym (three (line_at (codes "end") missing lines) (λ l. exact_words 1 l.0) (λ l. nothing_at l.1) (λ _ _. tt) (λ _. Ok (EndRow ∷ [])))

last_is : (missing : Fault) (lines : List Line) → walk missing (Last ∷ []) lines ≡ (last_at missing lines >>= λ last. Ok (LastRow last ∷ EndRow ∷ []))
unfolding last_at
last_is missing lines =
    line_is (λ name. LastRow name) named_in Last last_line missing (end_at missing) (λ _. EndRow ∷ []) (end_is missing) lines ∙
    sym (three (line_at (codes "last") missing lines) (λ l. named_in l.0) (λ l. end_at missing l.1) (λ last _. last) (λ last. Ok (LastRow last ∷ EndRow ∷ [])))

pub ends_is : (missing : Fault) (lines : List Line) → walk missing (First ∷ []) lines ≡ (ends_at missing lines >>= λ names. Ok (FirstRow names.0 ∷ LastRow names.1 ∷ EndRow ∷ []))
unfolding ends_at
ends_is missing lines =
    line_is (λ name. FirstRow name) named_in First first_line missing (last_at missing) (λ last. LastRow last ∷ EndRow ∷ []) (last_is missing) lines ∙
    sym (three (line_at (codes "first") missing lines) (λ l. named_in l.0) (λ l. last_at missing l.1) (λ first last. (first, last)) (λ names. Ok (FirstRow names.0 ∷ LastRow names.1 ∷ EndRow ∷ [])))

-- ---- the first line

header_line : (line : Line) → row_of Nego line ≡ (header_in line >>= λ _. Ok HeaderRow)
unfolding row_of
header_line line = refl

pub header_is : (missing : Fault) (lines : List Line) → walk missing (Nego ∷ []) lines ≡ (header_at missing lines >>= λ rest. onto (HeaderRow ∷ []) (walk missing (followers Nego) rest))
unfolding header_at
header_is missing lines =
    walk_at missing Nego lines ∙
    (bind_same (line_at (keyword Nego) missing lines) (λ l. row_of Nego l.0 >>= λ r. onto (r ∷ []) (walk missing (followers Nego) l.1)) (λ l. header_in l.0 >>= λ _. onto (HeaderRow ∷ []) (walk missing (followers Nego) l.1))
    (λ l. ap (λ (r : Result Row Fault). r >>= λ r. onto (r ∷ []) (walk missing (followers Nego) l.1)) (header_line l.0) ∙
    chain (header_in l.0) (λ _. Ok HeaderRow) (λ r. onto (r ∷ []) (walk missing (followers Nego) l.1)) (λ _. onto (HeaderRow ∷ []) (walk missing (followers Nego) l.1)) (λ _. refl)) ∙
    sym (chain (line_at (codes "nego") missing lines) (λ l. header_in l.0 >>= λ _. Ok l.1) (λ rest. onto (HeaderRow ∷ []) (walk missing (followers Nego) rest)) (λ l. header_in l.0 >>= λ _. onto (HeaderRow ∷ []) (walk missing (followers Nego) l.1))
    (λ l. chain (header_in l.0) (λ _. Ok l.1) (λ rest. onto (HeaderRow ∷ []) (walk missing (followers Nego) rest)) (λ _. onto (HeaderRow ∷ []) (walk missing (followers Nego) l.1)) (λ _. refl))))
