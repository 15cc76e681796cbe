-- Reading lines, or other items, one after the other, as a loop does: what was read is put before what is still read.
use Rattle.std.proofs.Common.{◌≡◌, ℕ, ◌+◌, ◌<◌, ◌≤◌, List, [], ◌∷◌, ◌++◌, length, drop, get_or, Result, Ok, Err, refl, sym, ap, subst, ◌∙◌, append_assoc, add-one}
use Rattle.std.proofs.Math.Seq.{drop-cons}
use Rattle.std.proofs.lemmas.List.{append-nil, drop_all}
use Rattle.nego_base.specs.declared.fault.Fault.{Fault}
use Rattle.nego_base.specs.declared.fault.ReadFaults.{ReadFaults}
use Rattle.nego_base.specs.declared.fault.ReadFaults.TheVariants as faults
use Rattle.nego_base.specs.declared.line.Line.{Line}
use Rattle.nego_base.specs.LineAnswers.{onto, Fails}
use Rattle.nego_base.specs.LineGrammar.{LineGrammar}
use Rattle.nego_base.specs.LineWalk.{each, kind_of_line, ended, walk_lines}
use Rattle.nego_base.specs.Results.{◌>>=◌}

module _ {A : Type 0} where
  pub onto_onto : (front more : List A) (found : Result (List A) Fault) → onto front (onto more found) ≡ onto (front ++ more) found
  onto_onto front more (Ok rest) = ap (λ (xs : List A). Ok xs) (sym (append_assoc front more rest))
  onto_onto front more (Err fault) = refl

  pub onto_nil : (found : Result (List A) Fault) → onto [] found ≡ found
  onto_nil (Ok rest) = refl
  onto_nil (Err fault) = refl

  pub fails_onto : (e : ReadFaults) (front : List A) (found : Result (List A) Fault) → Fails e found → Fails e (onto front found)
  fails_onto faults.Memory front found h = tt
  fails_onto (faults.Off fault) front found h = rw h refl

  -- an item, and those behind it
  pub cut_at : (xs : List A) (i : ℕ) (x : A) → i < length xs → x ≡ get_or xs i x → drop i xs ≡ x ∷ drop (i + 1) xs
  cut_at xs i x inside is =
      let cut : drop i xs ≡ get_or xs i x ∷ drop (i + 1) xs = rw add-one (drop-cons xs i x inside) in
      cut ∙ ap (λ (y : A). y ∷ drop (i + 1) xs) (sym is)

module _ {A B : Type 0} (f : A → Result B Fault) where
  each_first : (x : A) (y : B) (xs : List A) → f x ≡ Ok y → each f (x ∷ xs) ≡ onto (y ∷ []) (each f xs)
  unfolding each
  each_first x y xs h = rw h refl

  pub each_goes_on : (front : List B) (xs : List A) (i : ℕ) (x : A) (y : B) (total : Result (List B) Fault) → i < length xs → x ≡ get_or xs i x → f x ≡ Ok y →
      onto front (each f (drop i xs)) ≡ total → onto (front ++ y ∷ []) (each f (drop (i + 1) xs)) ≡ total
  each_goes_on front xs i x y total inside is h so_far =
      sym (onto_onto front (y ∷ []) (each f (drop (i + 1) xs))) ∙ (ap (onto front) (sym (ap (each f) (cut_at xs i x inside is) ∙ each_first x y (drop (i + 1) xs) h)) ∙ so_far)

  fails_first : (e : ReadFaults) (x : A) (xs : List A) → Fails e (f x) → Fails e (each f (x ∷ xs))
  unfolding each
  fails_first faults.Memory x xs h = tt
  fails_first (faults.Off fault) x xs h = rw h refl

  pub each_stops : (e : ReadFaults) (front : List B) (xs : List A) (i : ℕ) (x : A) (total : Result (List B) Fault) → i < length xs → x ≡ get_or xs i x → Fails e (f x) →
      onto front (each f (drop i xs)) ≡ total → Fails e total
  each_stops e front xs i x total inside is h so_far =
      let P : Result (List B) Fault → Type 0 = λ r. Fails e r in
      subst P so_far (fails_onto e front (each f (drop i xs)) (subst (λ (ys : List A). Fails e (each f ys)) (sym (cut_at xs i x inside is)) (fails_first e x (drop (i + 1) xs) h)))

  pub each_done : (front : List B) (xs : List A) (i : ℕ) (total : Result (List B) Fault) → length xs ≤ i → onto front (each f (drop i xs)) ≡ total → total ≡ Ok front
  unfolding each
  each_done front xs i total past so_far =
      let none : drop i xs ≡ [] = drop_all i xs past in
      sym so_far ∙ (ap (λ (ys : List A). onto front (each f ys)) none ∙ ap (λ (ys : List B). Ok ys) (append-nil front))

-- ---- the lines of a text

module _ {Known Kind Row Own : Type 0} (G : LineGrammar Known Kind Row Own) (row_of : Known → Kind → Line → Result Row Fault) (missing : Fault) (total : Result (List Row) Fault) where
  -- a fault of the next line is that of all
  fails_bind : {Y Z : Type 0} (e : ReadFaults) (r : Result Y Fault) (f : Y → Result Z Fault) → Fails e r → Fails e (r >>= f)
  fails_bind faults.Memory r f h = tt
  fails_bind (faults.Off fault) r f h = rw h refl

  -- one line more
  pub walk_goes_on : (rows : List Row) (known : Known) (line : Line) (after : List Line) (kind : Kind) (row : Row) → kind_of_line G row_of known line ≡ Ok kind → row_of known kind line ≡ Ok row →
      onto rows (walk_lines G row_of missing known (line ∷ after)) ≡ total → onto (rows ++ row ∷ []) (walk_lines G row_of missing (G.behind known kind row) after) ≡ total
  unfolding walk_lines
  walk_goes_on rows known line after kind row is read so_far =
      let next : walk_lines G row_of missing known (line ∷ after) ≡ onto (row ∷ []) (walk_lines G row_of missing (G.behind known kind row) after) = rw (is, read) refl in
      sym (onto_onto rows (row ∷ []) (walk_lines G row_of missing (G.behind known kind row) after)) ∙ (ap (onto rows) (sym next) ∙ so_far)

  -- a line that may not stand there
  pub walk_strays : (e : ReadFaults) (rows : List Row) (known : Known) (line : Line) (after : List Line) → Fails e (kind_of_line G row_of known line) →
      onto rows (walk_lines G row_of missing known (line ∷ after)) ≡ total → Fails e total
  unfolding walk_lines
  walk_strays e rows known line after h so_far =
      let P : Result (List Row) Fault → Type 0 = λ r. Fails e r in
      subst P so_far (fails_onto e rows (walk_lines G row_of missing known (line ∷ after)) (fails_bind e (kind_of_line G row_of known line) (λ kind. row_of known kind line >>= λ row. walk_lines G row_of missing (G.behind known kind row) after >>= λ rest. Ok (row ∷ rest)) h))

  -- a line that falls short
  pub walk_stops : (e : ReadFaults) (rows : List Row) (known : Known) (line : Line) (after : List Line) (kind : Kind) → kind_of_line G row_of known line ≡ Ok kind → Fails e (row_of known kind line) →
      onto rows (walk_lines G row_of missing known (line ∷ after)) ≡ total → Fails e total
  unfolding walk_lines
  walk_stops e rows known line after kind is h so_far =
      let P : Result (List Row) Fault → Type 0 = λ r. Fails e r in
      let rest : Row → Result (List Row) Fault = λ row. walk_lines G row_of missing (G.behind known kind row) after >>= λ rows. Ok (row ∷ rows) in
      let next : walk_lines G row_of missing known (line ∷ after) ≡ (row_of known kind line >>= rest) = rw is refl in
      subst P so_far (fails_onto e rows (walk_lines G row_of missing known (line ∷ after)) (subst P (sym next) (fails_bind e (row_of known kind line) rest h)))

  -- no line is left
  pub walk_ends : (rows : List Row) (known : Known) → onto rows (walk_lines G row_of missing known []) ≡ total → onto rows (ended G row_of missing (G.may_stand known)) ≡ total
  unfolding walk_lines
  walk_ends rows known so_far = so_far
