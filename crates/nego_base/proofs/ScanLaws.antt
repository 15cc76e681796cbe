-- Laws of the lines of a text and of its first fault.
use Rattle.std.proofs.Common.{◌≡◌, ℕ, ◌+◌, ◌<◌, ◌≤◌, Bool, true, false, ◌==◌, cond, ltb, Some, None, Option, List, [], ◌∷◌, ◌++◌, length, map, All, refl, sym, ◌∙◌, ap, append_assoc, arith}
use Rattle.std.specs.List.{onto_first}
use Rattle.std.specs.Option.{option_or, option_map_or, is_some}
use Rattle.std.proofs.lemmas.Bool.{cond_both, eqb-true, ltb-false, or_parts, false≢true}
use Rattle.std.proofs.lemmas.List.{append-nil}
use Rattle.std.proofs.lemmas.List.Elements.{All-nil, All-cons, All-append, All-weaker}
use Rattle.nego_base.specs.declared.fault.Fault.{Fault}
use Rattle.nego_base.specs.declared.fault.FaultKind.TheVariants as kinds
use Rattle.nego_base.specs.declared.line.Line.{Line}
use Rattle.nego_base.specs.declared.line.Word.{Word}
use Rattle.nego_base.specs.Lines.{is_newline, lines, without_end, words}
use Rattle.nego_base.specs.Scan.{bad_byte, fault_at, long_fault, line_fault, faults_from, scan_fault, words_at, is_passed, line_at, line_if_kept, scanned_from, scanned, StandsIn}
use Rattle.nego_base.proofs.OptionLaws.{or_none}
use Rattle.nego_base.proofs.LineLaws.{words_none}
use Rattle.nego_base.proofs.WordLaws.{texts_at, words_stand}

pub no_item : {X : Type 0} (xs : List X) → (length xs == 0) ≡ true → xs ≡ []
no_item [] h = refl
no_item (x ∷ xs) h = let e : length (x ∷ xs) ≡ 0 = eqb-true _ 0 h in absurd (omega arith)

or_some : {X : Type 0} (o p : Option X) → is_some o ≡ true → option_or o p ≡ o
or_some None p h = absurd (false≢true h)
or_some (Some x) p h = refl

goes_on : {X : Type 0} (o p : Option X) → is_some o ≡ false → option_or o p ≡ p
goes_on None p h = refl
goes_on (Some x) p h = absurd (false≢true (sym h))

-- What is left of a text begins with this line, which has this body and this first fault.
pub record IsNext (number : ℕ) (rest line after body : List ℕ) : Type 0 where
  pub cut : lines rest ≡ line ∷ lines after
  pub ended : body ≡ without_end line

module _ (number : ℕ) (rest line after body : List ℕ) (next : IsNext number rest line after body) where
  fault_step : faults_from number (lines rest) ≡ option_or (line_fault number body) (faults_from (number + 1) (lines after))
  unfolding faults_from
  fault_step = rw next.ended (ap (faults_from number) next.cut)

  pub fault_here : (bytes : List ℕ) (fault : Option Fault) → faults_from number (lines rest) ≡ scan_fault bytes → fault ≡ line_fault number body → is_some fault ≡ true → fault ≡ scan_fault bytes
  fault_here bytes fault same is some =
      sym (or_some fault (faults_from (number + 1) (lines after)) some)
      ∙ (ap (λ o. option_or o (faults_from (number + 1) (lines after))) is ∙ (sym fault_step ∙ same))

  pub fault_later : (bytes : List ℕ) (fault : Option Fault) → faults_from number (lines rest) ≡ scan_fault bytes → fault ≡ line_fault number body → is_some fault ≡ false → faults_from (number + 1) (lines after) ≡ scan_fault bytes
  fault_later bytes fault same is none =
      sym (goes_on fault (faults_from (number + 1) (lines after)) none)
      ∙ (ap (λ o. option_or o (faults_from (number + 1) (lines after))) is ∙ (sym fault_step ∙ same))

  pub lines_later : (bytes : List ℕ) (front back : List Line) → front ++ scanned_from number (lines rest) ≡ scanned bytes → back ≡ front ++ line_if_kept number body → back ++ scanned_from (number + 1) (lines after) ≡ scanned bytes
  unfolding scanned_from
  lines_later bytes front back same put =
      let first : scanned_from number (lines rest) ≡ line_if_kept number body ++ scanned_from (number + 1) (lines after) = rw next.ended (ap (scanned_from number) next.cut) in
      ap (λ ls. ls ++ scanned_from (number + 1) (lines after)) put
      ∙ (append_assoc front (line_if_kept number body) (scanned_from (number + 1) (lines after)) ∙ (ap (λ ls. front ++ ls) (sym first) ∙ same))

-- no line, no fault
pub no_fault : (number : ℕ) (bytes rest : List ℕ) → faults_from number (lines rest) ≡ scan_fault bytes → rest ≡ [] → None ≡ scan_fault bytes
unfolding faults_from
no_fault number bytes rest same none = sym (ap (λ t. faults_from number (lines t)) none) ∙ same

pub no_line : (number : ℕ) (bytes rest : List ℕ) (front : List Line) → front ++ scanned_from number (lines rest) ≡ scanned bytes → rest ≡ [] → front ≡ scanned bytes
unfolding scanned_from
no_line number bytes rest front same none = sym (append-nil front) ∙ (sym (ap (λ t. front ++ scanned_from number (lines t)) none) ∙ same)

pub no_word : (number column : ℕ) (line rest : List ℕ) (front : List Word) → front ++ words_at number column rest ≡ words_at number 1 line → rest ≡ [] → front ≡ words_at number 1 line
unfolding words_at
no_word number column line rest front same none = sym (append-nil front) ∙ (sym (ap (λ t. front ++ words_at number column t) none) ∙ same)

-- a line without a fault has at most 1,024 bytes
pub short_line : (number : ℕ) (line : List ℕ) → line_fault number line ≡ None → length line ≤ 1024
unfolding line_fault
short_line number line h = by_byte (bad_byte line) h
  where
    by_length : (b : Bool) → (ltb 1024 (length line) ≡ b) → cond b (Some (fault_at number 1025 kinds.Line)) None ≡ None → length line ≤ 1024
    by_length true is h = cc
    by_length false is h = ltb-false 1024 (length line) is

    by_byte : (o : Option ℕ) → option_map_or (λ i. Some (fault_at number (i + 1) kinds.Byte)) o (long_fault number line) ≡ None → length line ≤ 1024
    by_byte None h = by_length (ltb 1024 (length line)) refl h
    by_byte (Some i) h = cc

-- what is known of a line that isn't passed over, in a text without a fault
pub record IsInBounds (line : Line) : Type 0 where
  pub filled : 0 < length line.words
  pub short : line.length ≤ 1024
  pub within : All (λ word. word.column + length word.text ≤ 1025) line.words

some_word : (line : List ℕ) (ws : List Word) → map (λ w. w.text) ws ≡ words line → is_passed line ≡ false → 0 < length ws
some_word line [] texts kept = absurd (false≢true (sym (or_parts _ _ kept).0 ∙ words_none line (sym texts)))
some_word line (w ∷ ws) texts kept = omega arith

line_in_bounds : (number : ℕ) (line : List ℕ) → line_fault number line ≡ None → is_passed line ≡ false → IsInBounds (line_at number line)
line_in_bounds number line none kept =
    let short = short_line number line none in
    record {
      filled = some_word line (words_at number 1 line) (texts_at number 1 line) kept;
      short = short;
      within = All-weaker (StandsIn number 1 line) (λ word. word.column + length word.text ≤ 1025) (λ word at. let within = at.within in omega arith) (words_at number 1 line) (words_stand number 1 line);
    }

in_bounds_from : (number : ℕ) (texts : List (List ℕ)) → faults_from number texts ≡ None → All IsInBounds (scanned_from number texts)
unfolding faults_from scanned_from
in_bounds_from number [] h = All-nil IsInBounds
in_bounds_from number (line ∷ rest) h =
    let body = without_end line in
    let none = or_none (line_fault number body) (faults_from (number + 1) rest) h in
    All-append IsInBounds (line_if_kept number body) (scanned_from (number + 1) rest)
    (cond_both (is_passed body) [] (line_at number body ∷ []) (All IsInBounds) (λ _. All-nil IsInBounds)
    (λ kept. All-cons IsInBounds (line_at number body) [] (line_in_bounds number body none.0 kept) (All-nil IsInBounds)))
    (in_bounds_from (number + 1) rest none.1)

-- the lines of a text without a fault are in bounds
pub lines_in_bounds : (bytes : List ℕ) → scan_fault bytes ≡ None → All IsInBounds (scanned bytes)
unfolding scan_fault scanned
lines_in_bounds bytes h = in_bounds_from 1 (lines bytes) h

length-onto_first : (b : ℕ) (xs : List (List ℕ)) → length (onto_first b xs) ≤ length xs + 1
length-onto_first b [] = omega arith
length-onto_first b (x ∷ xs) = omega arith

-- a text has no more lines than bytes
pub few_lines : (bytes : List ℕ) → length (lines bytes) ≤ length bytes
few_lines [] = omega arith
few_lines (b ∷ bs) =
    let more = few_lines bs in
    cond_both (is_newline b) ((b ∷ []) ∷ lines bs) (onto_first b (lines bs)) (λ ls. length ls ≤ length (b ∷ bs)) (λ _. omega arith) (λ _. omega (arith, length-onto_first b (lines bs)))
