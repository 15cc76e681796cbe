-- Reading lines one after the other: a line at a time, and a piece at a time.
use Rattle.std.proofs.Common.{◌≡◌, ℕ, true, false, List, [], ◌∷◌, ◌++◌, All, map, Option, Some, None, Result, Ok, Err, refl, sym, ap, subst, ◌∙◌, arith}
use Rattle.std.specs.Prelude.{slice_get, find}
use Rattle.std.specs.List.{flat_map}
use Rattle.std.specs.Option.{option_map_or}
use Rattle.std.specs.Str.{bytes_eq}
use Rattle.std.proofs.lemmas.List.{map_push, append-nil}
use Rattle.std.proofs.lemmas.Grind.{flat_map-append}
use Rattle.nego_base.specs.LineWalk.{word_in, walk_lines, kind_of_line}
use Rattle.nego_base.specs.declared.fault.FaultKind.TheVariants as fault_kinds
use Rattle.nego_base.specs.declared.fault.Fault.{Fault}
use Rattle.nego_base.specs.declared.fault.ReadFaults.{ReadFaults}
use Rattle.nego_base.specs.declared.fault.ReadFaults.TheVariants as faults
use Rattle.nego_base.specs.declared.line.Word.{Word}
use Rattle.nego_base.specs.declared.line.Line.{Line}
use Rattle.nego_base.specs.Grammar.{at_word, past_line}
use Rattle.nego_base.specs.Results.{◌>>=◌}
use Rattle.nego_reader.specs.Rows.{Kind, Row, keyword, followers}
use Rattle.nego_reader.specs.Reading.{kind_in, row_of, walk}
use Rattle.nego_base.specs.LineAnswers.{onto, Fails, FitsLine}
use Rattle.nego_reader.specs.Answer.{begins, ReadsTo}
use Rattle.nego_base.proofs.LineLoops.{onto_onto, onto_nil, fails_onto}

-- ---- one line

-- the kind of a line with this first word
abbrev kind_by : List Kind → Line → Option Word → Result Kind Fault
kind_by kinds line o =
    option_map_or (λ word. Ok word) o (Err (past_line fault_kinds.Count line)) >>= λ first. option_map_or (λ kind. Ok kind) (find (λ kind. bytes_eq first.text (keyword kind)) kinds) (Err (at_word fault_kinds.Word first))

kind_is : (kinds : List Kind) (line : Line) → kind_in kinds line ≡ kind_by kinds line (slice_get line.words 0)
unfolding kind_of_line word_in
kind_is kinds line = refl

begins_is : (text : List ℕ) (line : Line) (lines : List Line) → begins text (line ∷ lines) ≡ option_map_or (λ word. bytes_eq word.text text) (slice_get line.words 0) false
unfolding begins
begins_is text line lines = refl

by_first : (kind : Kind) (kinds : List Kind) (line : Line) (o : Option Word) → option_map_or (λ word. bytes_eq word.text (keyword kind)) o false ≡ true → kind_by (kind ∷ kinds) line o ≡ Ok kind
by_first kind kinds line None h = absurd cc
by_first kind kinds line (Some word) h = rw h refl

by_others : (kind : Kind) (kinds : List Kind) (line : Line) (o : Option Word) → option_map_or (λ word. bytes_eq word.text (keyword kind)) o false ≡ false → kind_by (kind ∷ kinds) line o ≡ kind_by kinds line o
by_others kind kinds line None h = refl
by_others kind kinds line (Some word) h = rw h refl

pub kind_first : (kind : Kind) (kinds : List Kind) (line : Line) (lines : List Line) → begins (keyword kind) (line ∷ lines) ≡ true → kind_in (kind ∷ kinds) line ≡ Ok kind
kind_first kind kinds line lines h = kind_is (kind ∷ kinds) line ∙ by_first kind kinds line (slice_get line.words 0) (sym (begins_is (keyword kind) line lines) ∙ h)

kind_others : (kind : Kind) (kinds : List Kind) (line : Line) (lines : List Line) → begins (keyword kind) (line ∷ lines) ≡ false → kind_in (kind ∷ kinds) line ≡ kind_in kinds line
kind_others kind kinds line lines h =
    kind_is (kind ∷ kinds) line ∙ (by_others kind kinds line (slice_get line.words 0) (sym (begins_is (keyword kind) line lines) ∙ h) ∙ sym (kind_is kinds line))

pub walk_line : (missing : Fault) (kind : Kind) (kinds : List Kind) (line : Line) (lines : List Line) → kind_in kinds line ≡ Ok kind →
    walk missing kinds (line ∷ lines) ≡ (row_of kind line >>= λ row. walk missing (followers kind) lines >>= λ rows. Ok (row ∷ rows))
unfolding walk_lines
walk_line missing kind kinds line lines h = rw h refl

-- a kind that the line isn't of may be left out
pub walk_others : (missing : Fault) (kind kind' : Kind) (kinds : List Kind) (lines : List Line) → begins (keyword kind) lines ≡ false → walk missing (kind ∷ kind' ∷ kinds) lines ≡ walk missing (kind' ∷ kinds) lines
unfolding walk_lines
walk_others missing kind kind' kinds [] h = refl
walk_others missing kind kind' kinds (line ∷ lines) h = rw (kind_others kind (kind' ∷ kinds) line lines h) refl

-- ---- pieces

pub begin : (kinds : List Kind) (lines : List Line) → All FitsLine lines → ReadsTo kinds lines [] kinds lines
begin kinds lines fits = record { says = λ m. sym (onto_nil (walk m kinds lines)); fits = fits; shorter = omega arith }

pub then : (kinds : List Kind) (lines : List Line) (a : List Row) (kinds' : List Kind) (mid : List Line) (b : List Row) (kinds'' : List Kind) (rest : List Line) →
    ReadsTo kinds lines a kinds' mid → ReadsTo kinds' mid b kinds'' rest → ReadsTo kinds lines (a ++ b) kinds'' rest
then kinds lines a kinds' mid b kinds'' rest p q = record {
  says = λ m. p.says m ∙ (ap (onto a) (q.says m) ∙ onto_onto a b (walk m kinds'' rest));
  fits = q.fits;
  shorter = let x = p.shorter in let y = q.shorter in omega arith;
}

pub then_fails : (e : ReadFaults) (kinds : List Kind) (lines : List Line) (a : List Row) (kinds' : List Kind) (mid : List Line) → ReadsTo kinds lines a kinds' mid →
    ((missing : Fault) → Fails e (walk missing kinds' mid)) → (missing : Fault) → Fails e (walk missing kinds lines)
then_fails e kinds lines a kinds' mid p h missing = subst (λ (r : Result (List Row) Fault). Fails e r) (sym (p.says missing)) (fails_onto e a (walk missing kinds' mid) (h missing))

-- no further line begins so
pub over : (kind kind' : Kind) (kinds ks : List Kind) (lines : List Line) (rows : List Row) (rest : List Line) → begins (keyword kind) rest ≡ false →
    ReadsTo ks lines rows (kind ∷ kind' ∷ kinds) rest → ReadsTo ks lines rows (kind' ∷ kinds) rest
over kind kind' kinds ks lines rows rest none p = record {
  says = λ m. p.says m ∙ ap (onto rows) (walk_others m kind kind' kinds rest none);
  fits = p.fits;
  shorter = p.shorter;
}

-- ---- a line as a piece

module _ {X : Type 0} (row : X → Row) (found : Line → Result X Fault) (kind : Kind) (kinds : List Kind) (same : (line : Line) → row_of kind line ≡ (found line >>= λ x. Ok (row x))) where
  row_found : (line : Line) (x : X) → found line ≡ Ok x → row_of kind line ≡ Ok (row x)
  row_found line x h = same line ∙ rw h refl

  row_fails : (e : ReadFaults) (line : Line) → Fails e (found line) → Fails e (row_of kind line)
  row_fails faults.Memory line h = tt
  row_fails (faults.Off fault) line h = same line ∙ rw h refl

  walk_row : (missing : Fault) (line : Line) (lines : List Line) (x : X) → begins (keyword kind) (line ∷ lines) ≡ true → found line ≡ Ok x →
      walk missing (kind ∷ kinds) (line ∷ lines) ≡ onto (row x ∷ []) (walk missing (followers kind) lines)
  walk_row missing line lines x first h = walk_line missing kind (kind ∷ kinds) line lines (kind_first kind kinds line lines first) ∙ rw (row_found line x h) refl

  fails_bind : {Y : Type 0} (e : ReadFaults) (r : Result Row Fault) (f : Row → Result Y Fault) → Fails e r → Fails e (r >>= f)
  fails_bind faults.Memory r f h = tt
  fails_bind (faults.Off fault) r f h = rw h refl

  pub one : (line : Line) (after : List Line) (x : X) → begins (keyword kind) (line ∷ after) ≡ true → found line ≡ Ok x → All FitsLine after →
      ReadsTo (kind ∷ kinds) (line ∷ after) (row x ∷ []) (followers kind) after
  one line after x first h fits = record { says = λ m. walk_row m line after x first h; fits = fits; shorter = omega arith }

  pub one_fails : (e : ReadFaults) (line : Line) (after : List Line) → begins (keyword kind) (line ∷ after) ≡ true → Fails e (found line) → (missing : Fault) → Fails e (walk missing (kind ∷ kinds) (line ∷ after))
  one_fails e line after first h missing =
      subst (λ (r : Result (List Row) Fault). Fails e r) (sym (walk_line missing kind (kind ∷ kinds) line after (kind_first kind kinds line after first)))
      (fails_bind e (row_of kind line) (λ row. walk missing (followers kind) after >>= λ rows. Ok (row ∷ rows)) (row_fails e line h))

  -- one line more of those that may stand one behind the other
  pub more : (again : followers kind ≡ kind ∷ kinds) (lines : List Line) (xs : List X) (rest : List Line) (line : Line) (after : List Line) (x : X) →
      rest ≡ line ∷ after → begins (keyword kind) rest ≡ true → found line ≡ Ok x → All FitsLine after →
      ReadsTo (kind ∷ kinds) lines (map row xs) (kind ∷ kinds) rest → ReadsTo (kind ∷ kinds) lines (map row (xs ++ x ∷ [])) (kind ∷ kinds) after
  more again lines xs rest line after x is first h fits p =
      let first' : begins (keyword kind) (line ∷ after) ≡ true = subst (λ (ls : List Line). begins (keyword kind) ls ≡ true) is first in
      let p' = subst (λ (ls : List Line). ReadsTo (kind ∷ kinds) lines (map row xs) (kind ∷ kinds) ls) is p in
      let q = subst (λ (ks : List Kind). ReadsTo (kind ∷ kinds) (line ∷ after) (row x ∷ []) ks after) again (one line after x first' h fits) in
      subst (λ (rows : List Row). ReadsTo (kind ∷ kinds) lines rows (kind ∷ kinds) after) (sym (map_push row xs x))
      (then (kind ∷ kinds) lines (map row xs) (kind ∷ kinds) (line ∷ after) (row x ∷ []) (kind ∷ kinds) after p' q)

  pub stops : (e : ReadFaults) (lines : List Line) (rows : List Row) (rest : List Line) (line : Line) (after : List Line) → rest ≡ line ∷ after → begins (keyword kind) rest ≡ true →
      Fails e (found line) → ReadsTo (kind ∷ kinds) lines rows (kind ∷ kinds) rest → (missing : Fault) → Fails e (walk missing (kind ∷ kinds) lines)
  stops e lines rows rest line after is first h p =
      let first' : begins (keyword kind) (line ∷ after) ≡ true = subst (λ (ls : List Line). begins (keyword kind) ls ≡ true) is first in
      then_fails e (kind ∷ kinds) lines rows (kind ∷ kinds) rest p
      (subst (λ (ls : List Line). (missing : Fault) → Fails e (walk missing (kind ∷ kinds) ls)) (sym is) (one_fails e line after first' h))

-- ---- a piece of several lines

module _ {X : Type 0} (rows : X → List Row) (kinds : List Kind) where
  pub more_lines : (lines : List Line) (xs : List X) (rest : List Line) (line : Line) (after rest' : List Line) (x : X) → rest ≡ line ∷ after →
      ReadsTo kinds (line ∷ after) (rows x) kinds rest' → ReadsTo kinds lines (flat_map rows xs) kinds rest → ReadsTo kinds lines (flat_map rows (xs ++ x ∷ [])) kinds rest'
  more_lines lines xs rest line after rest' x is q p =
      let all : flat_map rows (xs ++ x ∷ []) ≡ flat_map rows xs ++ rows x = flat_map-append rows xs (x ∷ []) ∙ ap (λ (rs : List Row). flat_map rows xs ++ rs) (append-nil (rows x)) in
      subst (λ (rs : List Row). ReadsTo kinds lines rs kinds rest') (sym all)
      (then kinds lines (flat_map rows xs) kinds rest (rows x) kinds rest' p (subst (λ (ls : List Line). ReadsTo kinds ls (rows x) kinds rest') (sym is) q))

  pub stops_in : (e : ReadFaults) (lines : List Line) (said : List Row) (rest : List Line) (line : Line) (after : List Line) → rest ≡ line ∷ after →
      ((missing : Fault) → Fails e (walk missing kinds (line ∷ after))) → ReadsTo kinds lines said kinds rest → (missing : Fault) → Fails e (walk missing kinds lines)
  stops_in e lines said rest line after is h p =
      then_fails e kinds lines said kinds rest p (subst (λ (ls : List Line). (missing : Fault) → Fails e (walk missing kinds ls)) (sym is) h)
