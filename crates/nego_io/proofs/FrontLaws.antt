-- Laws of the bytes that were read of a part that has not come to its end.
use Rattle.std.proofs.Common.{◌≡◌, ℕ, ◌+◌, ◌≤◌, Bool, true, false, cond, List, [], ◌∷◌, ◌++◌, length, take, drop, Option, Some, None, option_map, refl, sym, ◌∙◌, ap, append_assoc, zero-le, arith}
use Rattle.std.specs.List.{list_any}
use Rattle.std.proofs.lemmas.Bool.{or_from, or_parts, cond-true, cond-false}
use Rattle.std.proofs.lemmas.List.{length-append, take-append-drop, take-append-le, drop-append-le, take_all, drop_all}
use Rattle.std.proofs.lemmas.List.Folds.{list_any-append}
use Rattle.std.proofs.lemmas.List.Sums.{sum_by-append}
use Rattle.nego_base.specs.Lines.{is_newline}
use Rattle.nego_base.proofs.LineLaws.{HasNoNewline}
use Rattle.nego_base.proofs.OptionLaws.{map_some}
use Rattle.nego_io.specs.Part.{is_end_line, part_of, newlines}
use Rattle.nego_io.specs.Front.{IsOpen, IsClosed}
use Rattle.nego_io.proofs.PartLaws.{part_whole, part_last, part_long}

-- what follows these bytes has the part that it would have alone, behind them
abbrev Passes : List ℕ → Type 0
Passes front = (rest : List ℕ) → part_of (front ++ rest) ≡ option_map (λ part. front ++ part) (part_of rest)

same_option : (o : Option (List ℕ)) → o ≡ option_map (λ part. part) o
same_option None = refl
same_option (Some part) = refl

behind_two : (front line : List ℕ) (o : Option (List ℕ)) → option_map (λ part. front ++ part) (option_map (λ part. line ++ part) o) ≡ option_map (λ part. (front ++ line) ++ part) o
behind_two front line None = refl
behind_two front line (Some part) = ap Some (sym (append_assoc front line part))

free_append : (front back : List ℕ) → HasNoNewline front → HasNoNewline back → HasNoNewline (front ++ back)
free_append front back free more = list_any-append is_newline front back ∙ or_from _ _ free more

one : (b : ℕ) → newlines (b ∷ []) ≡ cond (is_newline b) 1 0
one b = grind arith

newlines-push : (bytes : List ℕ) (b : ℕ) → newlines (bytes ++ b ∷ []) ≡ newlines bytes + cond (is_newline b) 1 0
newlines-push bytes b = sum_by-append (λ x. cond (is_newline x) 1 0) bytes (b ∷ []) ∙ ap (λ n. newlines bytes + n) (one b)

newlines-none : (bytes : List ℕ) → HasNoNewline bytes → newlines bytes ≡ 0
newlines-none [] free = refl
newlines-none (b ∷ bs) free =
    let parts = or_parts (is_newline b) (list_any is_newline bs) free in
    sum_by-append (λ x. cond (is_newline x) 1 0) (b ∷ []) bs ∙ rw (newlines-none bs parts.1, one b, parts.0) refl

-- nothing was read
pub open_empty : IsOpen [] 0 0
open_empty = record { within = zero-le; passes = λ rest. same_option (part_of rest); unfinished = refl; counted = refl }

-- more bytes of the present line
pub open_more : (bytes : List ℕ) (start lines : ℕ) (next : List ℕ) → IsOpen bytes start lines → HasNoNewline next → IsOpen (bytes ++ next) start lines
open_more bytes start lines next before free =
    let within : start ≤ length bytes = before.within in
    let counts : newlines (bytes ++ next) ≡ newlines bytes + newlines next = sum_by-append (λ x. cond (is_newline x) 1 0) bytes next in
    record {
      within = omega (arith, length-append bytes next);
      passes = rw take-append-le before.passes;
      unfinished = ap (list_any is_newline) (drop-append-le start bytes next within) ∙ free_append (drop start bytes) next before.unfinished free;
      counted = omega (arith, before.counted, counts, newlines-none next free);
    }

-- one more byte of the present line
pub open_push : (bytes : List ℕ) (start lines b : ℕ) → IsOpen bytes start lines → is_newline b ≡ false → IsOpen (bytes ++ b ∷ []) start lines
open_push bytes start lines b before h = open_more bytes start lines (b ∷ []) before (or_from _ _ h refl)

-- the present line with its newline stands behind the lines before it
present : (bytes : List ℕ) (start : ℕ) → bytes ++ 10 ∷ [] ≡ take start bytes ++ (drop start bytes ++ 10 ∷ [])
present bytes start = sym (ap (λ t. t ++ 10 ∷ []) (take-append-drop start bytes)) ∙ append_assoc (take start bytes) (drop start bytes) (10 ∷ [])

-- the part of these bytes with a newline, and of what follows
behind_line : (bytes : List ℕ) (start lines : ℕ) (rest : List ℕ) → IsOpen bytes start lines →
    let line = drop start bytes ++ 10 ∷ [] in
    part_of ((bytes ++ 10 ∷ []) ++ rest) ≡ option_map (λ part. take start bytes ++ part) (cond (is_end_line line) (Some line) (option_map (λ part. line ++ part) (part_of rest)))
behind_line bytes start lines rest before =
    let line = drop start bytes ++ 10 ∷ [] in
    ap (λ t. part_of (t ++ rest)) (present bytes start) ∙ (ap part_of (append_assoc (take start bytes) line rest) ∙ (before.passes (line ++ rest)
    ∙ ap (option_map (λ part. take start bytes ++ part)) (part_whole (drop start bytes) rest before.unfinished)))

-- a newline that ends the part
pub closed_line : (bytes : List ℕ) (start lines : ℕ) → IsOpen bytes start lines → is_end_line (drop start bytes ++ 10 ∷ []) ≡ true → IsClosed (bytes ++ 10 ∷ [])
closed_line bytes start lines before ends = λ rest.
    behind_line bytes start lines rest before ∙ (ap (option_map (λ part. take start bytes ++ part)) (cond-true _ _ _ ends) ∙ ap Some (sym (present bytes start)))

-- a newline that ends another line
pub open_line : (bytes : List ℕ) (start lines : ℕ) → IsOpen bytes start lines → is_end_line (drop start bytes ++ 10 ∷ []) ≡ false →
    IsOpen (bytes ++ 10 ∷ []) (length (bytes ++ 10 ∷ [])) (lines + 1)
open_line bytes start lines before goes_on =
    let all = bytes ++ 10 ∷ [] in
    let line = drop start bytes ++ 10 ∷ [] in
    record {
      within = omega arith;
      passes = λ rest. rw (take_all (length all) all (omega arith)) (behind_line bytes start lines rest before ∙ (ap (option_map (λ part. take start bytes ++ part)) (cond-false _ _ _ goes_on)
          ∙ (behind_two (take start bytes) line (part_of rest) ∙ ap (λ t. option_map (λ part. t ++ part) (part_of rest)) (sym (present bytes start)))));
      unfinished = ap (list_any is_newline) (drop_all (length all) all (omega arith));
      counted = omega (arith, before.counted, newlines-push bytes 10);
    }

-- the present line of these bytes with a newline
line_of : (bytes new : List ℕ) (start lines b : ℕ) → IsOpen bytes start lines → b ≡ 10 → new ≡ bytes ++ b ∷ [] → (new ≡ bytes ++ 10 ∷ []) × (drop start new ≡ drop start bytes ++ 10 ∷ [])
line_of bytes new start lines b before newline is =
    let all : new ≡ bytes ++ 10 ∷ [] = is ∙ ap (λ n. bytes ++ n ∷ []) newline in
    (all, ap (drop start) all ∙ drop-append-le start bytes (10 ∷ []) before.within)

-- a newline was put that ends the part
pub closed_at : (bytes new : List ℕ) (start lines b : ℕ) → IsOpen bytes start lines → b ≡ 10 → new ≡ bytes ++ b ∷ [] → is_end_line (drop start new) ≡ true → IsClosed new
closed_at bytes new start lines b before newline is ends =
    let at = line_of bytes new start lines b before newline is in
    let closed : IsClosed (bytes ++ 10 ∷ []) = closed_line bytes start lines before (ap is_end_line (sym at.1) ∙ ends) in
    rw at.0 closed

-- a newline was put that ends another line
pub open_at : (bytes new : List ℕ) (start lines b : ℕ) → IsOpen bytes start lines → b ≡ 10 → new ≡ bytes ++ b ∷ [] → is_end_line (drop start new) ≡ false → IsOpen new (length new) (lines + 1)
open_at bytes new start lines b before newline is goes_on =
    let at = line_of bytes new start lines b before newline is in
    let next : IsOpen (bytes ++ 10 ∷ []) (length (bytes ++ 10 ∷ [])) (lines + 1) = open_line bytes start lines before (ap is_end_line (sym at.1) ∙ goes_on) in
    rw at.0 next

at_end : (front line : List ℕ) (ends : Bool) → option_map (λ part. front ++ part) (cond ends (Some line) None) ≡ cond ends (Some (front ++ line)) None
at_end front line true = refl
at_end front line false = refl

-- the part of these bytes where nothing follows
pub part_here : (bytes : List ℕ) (start lines : ℕ) → IsOpen bytes start lines → part_of bytes ≡ cond (is_end_line (drop start bytes)) (Some bytes) None
part_here bytes start lines before =
    let front = take start bytes in
    let line = drop start bytes in
    ap part_of (sym (take-append-drop start bytes)) ∙ (before.passes line ∙ (ap (option_map (λ part. front ++ part)) (part_last line before.unfinished)
    ∙ at_end front line (is_end_line line) ∙ ap (λ t. cond (is_end_line line) (Some t) None) (take-append-drop start bytes)))

-- the part of these bytes and more is as much longer than they are as that of the present line and more is
pub part_beyond_by : (bytes : List ℕ) (start lines c : ℕ) (rest part : List ℕ) (n : ℕ) → IsOpen bytes start lines →
    ((found : List ℕ) → part_of (drop start bytes ++ c ∷ rest) ≡ Some found → length (drop start bytes) + n ≤ length found) →
    part_of (bytes ++ c ∷ rest) ≡ Some part → length bytes + n ≤ length part
part_beyond_by bytes start lines c rest part n before beyond h =
    let front = take start bytes in
    let line = drop start bytes in
    let all : front ++ (line ++ c ∷ rest) ≡ bytes ++ c ∷ rest = sym (append_assoc front line (c ∷ rest)) ∙ ap (λ t. t ++ c ∷ rest) (take-append-drop start bytes) in
    let found = map_some (λ part. front ++ part) (part_of (line ++ c ∷ rest)) part (sym (before.passes (line ++ c ∷ rest)) ∙ (ap part_of all ∙ h)) in
    let longer : length line + n ≤ length found.0 = beyond found.0 found.1 in
    let size : length part ≡ length front + length found.0 = ap length (sym found.2) ∙ length-append front found.0 in
    let whole : length front + length line ≡ length bytes = sym (length-append front line) ∙ ap length (take-append-drop start bytes) in
    omega arith

-- the part of these bytes and more is longer than they are
pub part_beyond : (bytes : List ℕ) (start lines c : ℕ) (rest part : List ℕ) → IsOpen bytes start lines → part_of (bytes ++ c ∷ rest) ≡ Some part → length bytes + 1 ≤ length part
part_beyond bytes start lines c rest part before h =
    let line = drop start bytes in
    part_beyond_by bytes start lines c rest part 1 before (λ found e. omega (arith, part_long line c rest found before.unfinished e)) h
