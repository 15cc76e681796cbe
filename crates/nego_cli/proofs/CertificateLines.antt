-- The text of a reduction: its certificate, and the lines of atoms that are left, appended one by one.
use Rattle.std.proofs.Common.{◌≡◌, ◌∙◌, ℕ, ◌+◌, Bool, true, false, if◌then◌else◌, List, [], ◌∷◌, ◌++◌, length, map, ap, refl, sym, add-one, zero-add}
use Rattle.std.specs.List.{range_with_len}
use Rattle.std.proofs.lemmas.List.{length-map}
use Rattle.nego_base.specs.Appending.{Appends}
use Rattle.nego_base.specs.Bits.{range-suc}
use Rattle.nego_base.specs.Members.{is_in}
use Rattle.nego_model.specs.Diagram.{PlainDiagram}
use Rattle.nego_expr.specs.UseView.{plain_use}
use Rattle.nego_expr.specs.declared.uses.Use.{Use}
use Rattle.nego_cli.specs.declared.verdict.Verdict.{Verdict}
use Rattle.nego_cli.specs.Verdict.{verdict_line}
use Rattle.nego_cert.specs.CertificateText.{certificate_text}
use Rattle.nego_cli.specs.Certificate.{left_line, left_among}

either : (b : Bool) (x y x' y' : List ℕ) → x ≡ x' → y ≡ y' → (if b then x else y) ≡ (if b then x' else y')
either true x y x' y' e f = e
either false x y x' y' e f = f

-- the lines of the atoms among some and one more
left_among-more : (d : PlainDiagram) (left ns : List ℕ) (n : ℕ) (rest : List ℕ) → left_among d left (ns ++ n ∷ []) rest ≡ left_among d left ns (left_among d left (n ∷ []) rest)
left_among-more d left [] n rest = refl
left_among-more d left (m ∷ ns) n rest =
    let behind = left_among-more d left ns n rest in
    either (is_in m left) (left_line d m (left_among d left (ns ++ n ∷ []) rest)) (left_among d left (ns ++ n ∷ []) rest)
    (left_line d m (left_among d left ns (left_among d left (n ∷ []) rest))) (left_among d left ns (left_among d left (n ∷ []) rest)) (ap (left_line d m) behind) behind

-- the line of one atom
left_here : (d : PlainDiagram) (left : List ℕ) (n : ℕ) (rest : List ℕ) → is_in n left ≡ true → left_among d left (n ∷ []) rest ≡ left_line d n rest
left_here d left n rest is = ap (λ b. if b then left_line d n rest else rest) is

left_away : (d : PlainDiagram) (left : List ℕ) (n : ℕ) (rest : List ℕ) → is_in n left ≡ false → left_among d left (n ∷ []) rest ≡ rest
left_away d left n rest is = ap (λ b. if b then left_line d n rest else rest) is

-- the lines of the atoms below n + 1
below_more : (d : PlainDiagram) (left : List ℕ) (n : ℕ) (rest : List ℕ) → left_among d left (range_with_len 0 (n + 1)) rest ≡ left_among d left (range_with_len 0 n) (left_among d left (n ∷ []) rest)
below_more d left n rest = ap (λ ns. left_among d left ns rest) (ap (λ k. range_with_len 0 k) (add-one n) ∙ (range-suc 0 n ∙ ap (λ k. range_with_len 0 n ++ k ∷ []) (zero-add n))) ∙ left_among-more d left (range_with_len 0 n) n rest

-- the line of an atom that is left is appended
pub left_added : (d : PlainDiagram) (left old mid new : List ℕ) (n : ℕ) → Appends old mid (left_among d left (range_with_len 0 n)) → is_in n left ≡ true → Appends mid new (left_line d n) → Appends old new (left_among d left (range_with_len 0 (n + 1)))
left_added d left old mid new n before is adds rest =
    adds rest ∙ (before (left_line d n rest) ∙ ap (λ t. old ++ t) (ap (left_among d left (range_with_len 0 n)) (sym (left_here d left n rest is)) ∙ sym (below_more d left n rest)))

-- and none where the atom isn't left
pub left_skipped : (d : PlainDiagram) (left old mid : List ℕ) (n : ℕ) → Appends old mid (left_among d left (range_with_len 0 n)) → is_in n left ≡ false → Appends old mid (left_among d left (range_with_len 0 (n + 1)))
left_skipped d left old mid n before is rest =
    before rest ∙ ap (λ t. old ++ t) (ap (left_among d left (range_with_len 0 n)) (sym (left_away d left n rest is)) ∙ sym (below_more d left n rest))

-- the certificate, the verdict, and what is said of what is left
pub printed : (uses : List Use) (verdict : Verdict) (text whole said : List ℕ) → Appends [] text (λ rest. certificate_text (map plain_use uses) ++ verdict_line verdict (length uses) rest) → whole ≡ text ++ said →
    whole ≡ certificate_text (map plain_use uses) ++ verdict_line verdict (length (map plain_use uses)) said
printed uses verdict text whole said text_is whole_is =
    whole_is ∙ (text_is said ∙ ap (λ n. certificate_text (map plain_use uses) ++ verdict_line verdict n said) (sym (length-map uses plain_use)))
