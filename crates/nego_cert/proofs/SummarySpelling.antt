-- What is read of a line of a summary is what it says, and what it says is read.
use Rattle.std.proofs.Common.{◌≡◌, ◌≢◌, ℕ, ◌≤◌, ◌<◌, ◌==◌, ◌&&◌, ltb, Bool, true, false, cond, List, [], ◌∷◌, length, map, All, Some, Result, Ok, Err, refl, sym, ap, subst, ◌∙◌, arith}
use Rattle.std.specs.Prelude.{slice_get, codes, decimal}
use Rattle.std.specs.List.{list_any}
use Rattle.std.specs.Str.{bytes_eq}
use Rattle.std.proofs.lemmas.Bool.{and_parts, and_from, eqb-true, eq-eqb, ltb-true, lt-ltb}
use Rattle.std.proofs.lemmas.List.{length-map}
use Rattle.std.proofs.lemmas.List.Elements.{All-nil, All-cons}
use Rattle.std.proofs.lemmas.Option.{same_Some}
use Rattle.nego_base.specs.declared.fault.FaultKind.TheVariants as fault_kinds
use Rattle.nego_base.specs.declared.fault.Fault.{Fault}
use Rattle.nego_base.specs.declared.line.Word.{Word}
use Rattle.nego_base.specs.declared.line.Line.{Line}
use Rattle.nego_base.specs.Grammar.{at_word, least_words, exact_words, name_word}
use Rattle.nego_base.specs.Name.{is_name}
use Rattle.nego_base.specs.LineWalk.{word_in}
use Rattle.nego_base.specs.Results.{◌>>=◌}
use Rattle.nego_base.proofs.Cases.{bind_ok, same_Ok}
use Rattle.nego_base.proofs.GrammarLaws.{least_words-ok, name_ok, name_word-ok}
use Rattle.nego_base.proofs.LineFaults.{Reads}
use Rattle.nego_model.specs.Expression.{PlainNode, Base, Join, Then, Star, children}
use Rattle.nego_model.specs.Summary.{PlainFinal}
use Rattle.nego_expr.specs.Use.{most_nodes}
use Rattle.nego_cert.specs.declared.summary_row.Form.{Form}
use Rattle.nego_cert.specs.declared.summary_row.Form.TheVariants as forms
use Rattle.nego_cert.specs.declared.summary_row.SummaryKind.{SummaryKind}
use Rattle.nego_cert.specs.declared.summary_row.SummaryKind.TheVariants as kinds
use Rattle.nego_cert.specs.Table.{word_texts}
use Rattle.nego_cert.specs.Reading.{number_in, header_in}
use Rattle.nego_cert.specs.SummaryLines.{keyword, form_word, form_words, form_of, numbers_of_node, node_line_words, final_line_words}
use Rattle.nego_cert.specs.SummaryTable.{SummaryLine, HeaderLine, NodeLine, FinalLine, EndLine, kind_of, Known, IsNodeAt, SpellsSummaryLine, summary_lines}
use Rattle.nego_cert.specs.SummaryReading.{number_if, form_word_of, new_word, place_in, below_in, two_below, made_of, node_in, final_in, said_by, line_in}
use Rattle.nego_cert.proofs.LineTexts.{triple, text_at, text_read, text_again, first_again, count_read, count_again, number_read, number_again, header_read, header_again, word_read, word_again}
use Rattle.nego_cert.proofs.SummaryRows.{same_kind, form_read, form_word_again, if_read, if_again, none_is, is_none, line_by}

module _ {A : Type 0} where
  four : (xs : List A) (x y z w : A) → length xs ≡ 4 → slice_get xs 0 ≡ Some x → slice_get xs 1 ≡ Some y → slice_get xs 2 ≡ Some z → slice_get xs 3 ≡ Some w → xs ≡ x ∷ y ∷ z ∷ w ∷ []
  four [] x y z w size h k l m = absurd (omega arith)
  four (a ∷ rest) x y z w size h k l m = ap (λ b. b ∷ rest) (same_Some a x h) ∙ ap (λ zs. x ∷ zs) (triple rest y z w (omega arith) k l m)

  five : (xs : List A) (x y z w v : A) → length xs ≡ 5 → slice_get xs 0 ≡ Some x → slice_get xs 1 ≡ Some y → slice_get xs 2 ≡ Some z → slice_get xs 3 ≡ Some w → slice_get xs 4 ≡ Some v → xs ≡ x ∷ y ∷ z ∷ w ∷ v ∷ []
  five [] x y z w v size h k l m n = absurd (omega arith)
  five (a ∷ rest) x y z w v size h k l m n = ap (λ b. b ∷ rest) (same_Some a x h) ∙ ap (λ zs. x ∷ zs) (four rest y z w v (omega arith) k l m n)

-- ---- numbers

below_read : (nodes : ℕ) (line : Line) (i n : ℕ) → below_in nodes line i ≡ Ok n → (slice_get (word_texts line) i ≡ Some (decimal n)) × (n < nodes) × (n ≤ 999999)
unfolding below_in
below_read nodes line i n h =
    let a = bind_ok (word_in line i) (λ word. number_if (λ k. ltb k nodes) word) n h in
    let b = if_read (λ k. ltb k nodes) a.0 n a.2 in
    (text_read line i a.0 a.1 ∙ ap (λ (t : List ℕ). Some t) b.0, ltb-true n nodes b.2, b.1)

below_again : (nodes : ℕ) (line : Line) (i n : ℕ) → n ≤ 999999 → slice_get (word_texts line) i ≡ Some (decimal n) → n < nodes → below_in nodes line i ≡ Ok n
unfolding below_in
below_again nodes line i n few h below =
    let word = text_again line i (decimal n) h in
    rw word.1 (if_again (λ k. ltb k nodes) word.0 n word.2 few (lt-ltb n nodes below))

place_read : (i : ℕ) (line : Line) (n : ℕ) → place_in i line ≡ Ok n → (slice_get (word_texts line) 1 ≡ Some (decimal i)) × (i < most_nodes)
unfolding place_in
place_read i line n h =
    let test : ℕ → Bool = λ k. k == i && ltb i most_nodes in
    let a = bind_ok (word_in line 1) (λ word. number_if (λ k. k == i && ltb i most_nodes) word) n h in
    let b = if_read (λ k. k == i && ltb i most_nodes) a.0 n a.2 in
    let c = and_parts (n == i) (ltb i most_nodes) b.2 in
    (text_read line 1 a.0 a.1 ∙ ap (λ (t : List ℕ). Some t) (b.0 ∙ ap decimal (eqb-true n i c.0)), ltb-true i most_nodes c.1)

place_again : (i : ℕ) (line : Line) → slice_get (word_texts line) 1 ≡ Some (decimal i) → i < most_nodes → place_in i line ≡ Ok i
unfolding place_in
place_again i line h below =
    let word = text_again line 1 (decimal i) h in
    rw word.1 (if_again (λ k. k == i && ltb i most_nodes) word.0 i word.2 (omega arith) (and_from (i == i) (ltb i most_nodes) (eq-eqb i i refl) (lt-ltb i most_nodes below)))

two_read : (nodes : ℕ) (line : Line) (xy : ℕ × ℕ) → two_below nodes line ≡ Ok xy → (slice_get (word_texts line) 3 ≡ Some (decimal xy.0)) × (slice_get (word_texts line) 4 ≡ Some (decimal xy.1)) × (xy.0 < nodes) × (xy.1 < nodes)
unfolding two_below
two_read nodes line xy h =
    let a = bind_ok (below_in nodes line 3) (λ x. below_in nodes line 4 >>= λ y. Ok (x, y)) xy h in
    let b = bind_ok (below_in nodes line 4) (λ y. Ok (a.0, y)) xy a.2 in
    let x = below_read nodes line 3 a.0 a.1 in
    let y = below_read nodes line 4 b.0 b.1 in
    let made : ℕ × ℕ = (a.0, b.0) in
    subst (λ (z : ℕ × ℕ). (slice_get (word_texts line) 3 ≡ Some (decimal z.0)) × (slice_get (word_texts line) 4 ≡ Some (decimal z.1)) × (z.0 < nodes) × (z.1 < nodes)) (same_Ok {E = Fault} made xy b.2) (x.0, y.0, x.1, y.1)

-- ---- nodes

module _ (nodes : ℕ) (line : Line) (first : slice_get (word_texts line) 0 ≡ Some (codes "node")) (place : slice_get (word_texts line) 1 ≡ Some (decimal nodes)) (few : nodes < most_nodes) where
  made_read : (form : Form) (node : PlainNode) → slice_get (word_texts line) 2 ≡ Some (form_word form) → length (word_texts line) ≡ form_words form → made_of form nodes line ≡ Ok node → (word_texts line ≡ node_line_words nodes node) × IsNodeAt nodes node
  unfolding made_of
  made_read forms.Base node third size h =
      let a = bind_ok (number_in line 3) (λ o. Ok (Base o)) node h in
      let b = number_read line 3 a.0 a.1 in
      subst (λ n. (word_texts line ≡ node_line_words nodes n) × IsNodeAt nodes n) (same_Ok {E = Fault} (Base a.0) node a.2)
      (four (word_texts line) (codes "node") (decimal nodes) (codes "base") (decimal a.0) size first place third b.0, (few, b.1))
  made_read forms.Join node third size h =
      let a = bind_ok (two_below nodes line) (λ xy. Ok (Join xy.0 xy.1)) node h in
      let b = two_read nodes line a.0 a.1 in
      subst (λ n. (word_texts line ≡ node_line_words nodes n) × IsNodeAt nodes n) (same_Ok {E = Fault} (Join a.0.0 a.0.1) node a.2)
      (five (word_texts line) (codes "node") (decimal nodes) (codes "join") (decimal a.0.0) (decimal a.0.1) size first place third b.0 b.1, (few, b.2, b.3))
  made_read forms.Then node third size h =
      let a = bind_ok (two_below nodes line) (λ xy. Ok (Then xy.0 xy.1)) node h in
      let b = two_read nodes line a.0 a.1 in
      subst (λ n. (word_texts line ≡ node_line_words nodes n) × IsNodeAt nodes n) (same_Ok {E = Fault} (Then a.0.0 a.0.1) node a.2)
      (five (word_texts line) (codes "node") (decimal nodes) (codes "then") (decimal a.0.0) (decimal a.0.1) size first place third b.0 b.1, (few, b.2, b.3))
  made_read forms.Star node third size h =
      let a = bind_ok (below_in nodes line 3) (λ x. Ok (Star x)) node h in
      let b = below_read nodes line 3 a.0 a.1 in
      subst (λ n. (word_texts line ≡ node_line_words nodes n) × IsNodeAt nodes n) (same_Ok {E = Fault} (Star a.0) node a.2)
      (four (word_texts line) (codes "node") (decimal nodes) (codes "star") (decimal a.0) size first place third b.0, (few, b.1))

node_read : (nodes : ℕ) (line : Line) (node : PlainNode) → slice_get (word_texts line) 0 ≡ Some (codes "node") → node_in nodes line ≡ Ok node → (word_texts line ≡ node_line_words nodes node) × IsNodeAt nodes node
unfolding node_in
node_read nodes line node first h =
    let a = bind_ok (least_words 3 line) (λ _. word_in line 2 >>= λ word. form_word_of word >>= λ form. exact_words (form_words form) line >>= λ sized. place_in nodes line >>= λ place. made_of form nodes line) node h in
    let b = bind_ok (word_in line 2) (λ word. form_word_of word >>= λ form. exact_words (form_words form) line >>= λ sized. place_in nodes line >>= λ place. made_of form nodes line) node a.2 in
    let c = bind_ok (form_word_of b.0) (λ form. exact_words (form_words form) line >>= λ sized. place_in nodes line >>= λ place. made_of form nodes line) node b.2 in
    let d = bind_ok (exact_words (form_words c.0) line) (λ sized. place_in nodes line >>= λ place. made_of c.0 nodes line) node c.2 in
    let e = bind_ok (place_in nodes line) (λ place. made_of c.0 nodes line) node d.2 in
    let place = place_read nodes line e.0 e.1 in
    made_read nodes line first place.0 place.1 c.0 node (text_read line 2 b.0 b.1 ∙ ap (λ (t : List ℕ). Some t) (form_read b.0 c.0 c.1)) (count_read line (form_words c.0) d.1) e.2

made_again : (nodes : ℕ) (line : Line) (node : PlainNode) → word_texts line ≡ node_line_words nodes node → IsNodeAt nodes node → made_of (form_of node) nodes line ≡ Ok node
unfolding made_of two_below
made_again nodes line (Base o) h is = rw (number_again line 3 o (ap (λ ts. slice_get ts 3) h) is.1) refl
made_again nodes line (Join x y) h is =
    let few = is.0 in
    let below = is.1 in
    let below' = is.2 in
    rw (below_again nodes line 3 x (omega arith) (ap (λ ts. slice_get ts 3) h) is.1, below_again nodes line 4 y (omega arith) (ap (λ ts. slice_get ts 4) h) is.2) refl
made_again nodes line (Then x y) h is =
    let few = is.0 in
    let below = is.1 in
    let below' = is.2 in
    rw (below_again nodes line 3 x (omega arith) (ap (λ ts. slice_get ts 3) h) is.1, below_again nodes line 4 y (omega arith) (ap (λ ts. slice_get ts 4) h) is.2) refl
made_again nodes line (Star x) h is = let few = is.0 in let below = is.1 in rw (below_again nodes line 3 x (omega arith) (ap (λ ts. slice_get ts 3) h) is.1) refl

node_fits : (nodes : ℕ) (node : PlainNode) → IsNodeAt nodes node → (nodes < most_nodes) × (length (node_line_words nodes node) ≡ form_words (form_of node)) × (3 ≤ length (node_line_words nodes node))
node_fits nodes (Base o) is = (is.0, refl, omega arith)
node_fits nodes (Join x y) is = (is.0, refl, omega arith)
node_fits nodes (Then x y) is = (is.0, refl, omega arith)
node_fits nodes (Star x) is = (is.0, refl, omega arith)

node_again : (nodes : ℕ) (line : Line) (node : PlainNode) → word_texts line ≡ node_line_words nodes node → IsNodeAt nodes node → node_in nodes line ≡ Ok node
unfolding node_in
node_again nodes line node h is =
    let fits = node_fits nodes node is in
    let word = text_again line 2 (form_word (form_of node)) (ap (λ ts. slice_get ts 2) h) in
    let size : length (word_texts line) ≡ form_words (form_of node) = ap length h ∙ fits.1 in
    let enough : 3 ≤ length line.words = (let e = length-map line.words (λ (w : Word). w.text) in let f = ap length h in let g = fits.2 in omega arith) in
    rw (least_words-ok 3 line enough, word.1, form_word_again word.0 (form_of node) word.2, count_again line (form_words (form_of node)) size, place_again nodes line (ap (λ ts. slice_get ts 1) h) fits.0) (made_again nodes line node h is)

-- ---- final outcomes

new_read : (names : List (List ℕ)) (word : Word) (name : List ℕ) → new_word names word ≡ Ok name → (name ≡ word.text) × All (λ n. n ≢ word.text) names
unfolding new_word
new_read names word name h = by_test (list_any (λ n. bytes_eq n word.text) names) refl h
  where
    by_test : (t : Bool) → list_any (λ n. bytes_eq n word.text) names ≡ t → ◌≡◌ {A = Result (List ℕ) Fault} (cond t (Err (at_word fault_kinds.Name word)) (Ok word.text)) (Ok name) → (name ≡ word.text) × All (λ n. n ≢ word.text) names
    by_test true e h = absurd cc
    by_test false e h = (sym (same_Ok {E = Fault} word.text name h), none_is names word.text e)

new_again : (names : List (List ℕ)) (word : Word) → All (λ n. n ≢ word.text) names → new_word names word ≡ Ok word.text
unfolding new_word
new_again names word h = rw (is_none names word.text h) refl

abbrev IsFinalAt : ℕ → List (List ℕ) → Line → PlainFinal → Type 0
IsFinalAt nodes names line outcome = (word_texts line ≡ final_line_words outcome.name outcome.node) × (is_name outcome.name ≡ true) × All (λ name. name ≢ outcome.name) names × (outcome.node < nodes) × (outcome.node ≤ 999999)

final_read : (nodes : ℕ) (names : List (List ℕ)) (line : Line) (outcome : PlainFinal) → slice_get (word_texts line) 0 ≡ Some (codes "final") → final_in nodes names line ≡ Ok outcome → IsFinalAt nodes names line outcome
unfolding final_in
final_read nodes names line outcome first h =
    let a = bind_ok (exact_words 3 line) (λ _. word_in line 1 >>= λ word. name_word word >>= λ named. new_word names word >>= λ name. below_in nodes line 2 >>= λ node. Ok (record { name = name; node = node })) outcome h in
    let b = bind_ok (word_in line 1) (λ word. name_word word >>= λ named. new_word names word >>= λ name. below_in nodes line 2 >>= λ node. Ok (record { name = name; node = node })) outcome a.2 in
    let c = bind_ok (name_word b.0) (λ named. new_word names b.0 >>= λ name. below_in nodes line 2 >>= λ node. Ok (record { name = name; node = node })) outcome b.2 in
    let d = bind_ok (new_word names b.0) (λ name. below_in nodes line 2 >>= λ node. Ok (record { name = name; node = node })) outcome c.2 in
    let e = bind_ok (below_in nodes line 2) (λ node. Ok (record { name = d.0; node = node })) outcome d.2 in
    let new = new_read names b.0 d.0 d.1 in
    let node = below_read nodes line 2 e.0 e.1 in
    let made : PlainFinal = record { name = b.0.text; node = e.0 } in
    let same : made ≡ outcome = ap (λ (t : List ℕ). record { name = t; node = e.0 }) (sym new.0) ∙ same_Ok {E = Fault} (record { name = d.0; node = e.0 }) outcome e.2 in
    subst (IsFinalAt nodes names line) same (triple (word_texts line) (codes "final") b.0.text (decimal e.0) (count_read line 3 a.1) first (text_read line 1 b.0 b.1) node.0, name_ok b.0 c.1, new.1, node.1, node.2)

final_again : (nodes : ℕ) (names : List (List ℕ)) (line : Line) (outcome : PlainFinal) → IsFinalAt nodes names line outcome → final_in nodes names line ≡ Ok outcome
unfolding final_in
final_again nodes names line outcome h =
    let word = text_again line 1 outcome.name (ap (λ ts. slice_get ts 1) h.0) in
    let same = word.2 in
    rw (count_again line 3 (ap length h.0), word.1, name_word-ok word.0 (ap is_name same ∙ h.1), new_again names word.0 (subst (λ (t : List ℕ). All (λ n. n ≢ t) names) (sym same) h.2), below_again nodes line 2 outcome.node h.4 (ap (λ ts. slice_get ts 2) h.0) h.3)
    (ap (λ (t : List ℕ). Ok (record { name = t; node = outcome.node })) same)

-- ---- lines of all kinds

line_takes : (known : Known) (kind : SummaryKind) (line : Line) (first : Word) (said : SummaryLine) → slice_get line.words 0 ≡ Some first → first.text ≡ keyword kind → line_in known kind line ≡ Ok said → SpellsSummaryLine known line said × (kind_of said ≡ kind)
unfolding said_by
line_takes known kinds.Header line first said at word h =
    let a = bind_ok (header_in line) (λ _. Ok HeaderLine) said h in
    subst (λ r. SpellsSummaryLine known line r × (kind_of r ≡ kinds.Header)) (same_Ok {E = Fault} HeaderLine said a.2) (header_read line (codes "summary") (text_at line 0 first at ∙ ap (λ (t : List ℕ). Some t) word) a.1, refl)
line_takes known kinds.Node line first said at word h =
    let a = bind_ok (node_in known.nodes line) (λ node. Ok (NodeLine node)) said h in
    subst (λ r. SpellsSummaryLine known line r × (kind_of r ≡ kinds.Node)) (same_Ok {E = Fault} (NodeLine a.0) said a.2) (node_read known.nodes line a.0 (text_at line 0 first at ∙ ap (λ (t : List ℕ). Some t) word) a.1, refl)
line_takes known kinds.Final line first said at word h =
    let a = bind_ok (final_in known.nodes known.names line) (λ outcome. Ok (FinalLine outcome)) said h in
    subst (λ r. SpellsSummaryLine known line r × (kind_of r ≡ kinds.Final)) (same_Ok {E = Fault} (FinalLine a.0) said a.2) (final_read known.nodes known.names line a.0 (text_at line 0 first at ∙ ap (λ (t : List ℕ). Some t) word) a.1, refl)
line_takes known kinds.End line first said at word h =
    let a = bind_ok (exact_words 1 line) (λ _. Ok EndLine) said h in
    subst (λ r. SpellsSummaryLine known line r × (kind_of r ≡ kinds.End)) (same_Ok {E = Fault} EndLine said a.2) (word_read line (codes "end") (text_at line 0 first at ∙ ap (λ (t : List ℕ). Some t) word) a.1, refl)

line_again : (known : Known) (line : Line) (said : SummaryLine) → SpellsSummaryLine known line said → line_in known (kind_of said) line ≡ Ok said
unfolding said_by
line_again known line HeaderLine h = rw (header_again line (codes "summary") h) refl
line_again known line (NodeLine node) h = rw (node_again known.nodes line node h.0 h.1) refl
line_again known line (FinalLine outcome) h = rw (final_again known.nodes known.names line outcome h) refl
line_again known line EndLine h = rw (word_again line (codes "end") h) refl

line_begins : (known : Known) (line : Line) (said : SummaryLine) → SpellsSummaryLine known line said → (first : Word) × (slice_get line.words 0 ≡ Some first) × (first.text ≡ keyword (kind_of said))
line_begins known line HeaderLine h = first_again line (codes "summary") (codes "1" ∷ []) h
line_begins known line (NodeLine node) h = first_again line (codes "node") (decimal known.nodes ∷ form_word (form_of node) ∷ map decimal (numbers_of_node node)) h.0
line_begins known line (FinalLine outcome) h = first_again line (codes "final") (outcome.name ∷ decimal outcome.node ∷ []) h.0
line_begins known line EndLine h = first_again line (codes "end") [] h

-- summaries are read by their grammar
pub reads : Reads summary_lines line_in
reads = record { apart = same_kind; answers = line_by; takes = line_takes; again = line_again; begins = line_begins }

-- ---- what is known of a node that was read

pub node_below : (nodes : ℕ) (line : Line) (node : PlainNode) → node_in nodes line ≡ Ok node → IsNodeAt nodes node
unfolding node_in made_of
node_below nodes line node h =
    let a = bind_ok (least_words 3 line) (λ _. word_in line 2 >>= λ word. form_word_of word >>= λ form. exact_words (form_words form) line >>= λ sized. place_in nodes line >>= λ place. made_of form nodes line) node h in
    let b = bind_ok (word_in line 2) (λ word. form_word_of word >>= λ form. exact_words (form_words form) line >>= λ sized. place_in nodes line >>= λ place. made_of form nodes line) node a.2 in
    let c = bind_ok (form_word_of b.0) (λ form. exact_words (form_words form) line >>= λ sized. place_in nodes line >>= λ place. made_of form nodes line) node b.2 in
    let d = bind_ok (exact_words (form_words c.0) line) (λ sized. place_in nodes line >>= λ place. made_of c.0 nodes line) node c.2 in
    let e = bind_ok (place_in nodes line) (λ place. made_of c.0 nodes line) node d.2 in
    by_form c.0 (place_read nodes line e.0 e.1).1 e.2
  where
    by_form : (form : Form) → nodes < most_nodes → made_of form nodes line ≡ Ok node → IsNodeAt nodes node
    by_form forms.Base few h =
        let x = bind_ok (number_in line 3) (λ o. Ok (Base o)) node h in
        subst (IsNodeAt nodes) (same_Ok {E = Fault} (Base x.0) node x.2) (few, (number_read line 3 x.0 x.1).1)
    by_form forms.Join few h =
        let x = bind_ok (two_below nodes line) (λ xy. Ok (Join xy.0 xy.1)) node h in
        let y = two_read nodes line x.0 x.1 in
        subst (IsNodeAt nodes) (same_Ok {E = Fault} (Join x.0.0 x.0.1) node x.2) (few, y.2, y.3)
    by_form forms.Then few h =
        let x = bind_ok (two_below nodes line) (λ xy. Ok (Then xy.0 xy.1)) node h in
        let y = two_read nodes line x.0 x.1 in
        subst (IsNodeAt nodes) (same_Ok {E = Fault} (Then x.0.0 x.0.1) node x.2) (few, y.2, y.3)
    by_form forms.Star few h =
        let x = bind_ok (below_in nodes line 3) (λ x. Ok (Star x)) node h in
        subst (IsNodeAt nodes) (same_Ok {E = Fault} (Star x.0) node x.2) (few, (below_read nodes line 3 x.0 x.1).1)

pub few_nodes : (nodes : ℕ) (node : PlainNode) → IsNodeAt nodes node → nodes < most_nodes
few_nodes nodes node is = (node_fits nodes node is).0

pub children_below : (nodes : ℕ) (node : PlainNode) → IsNodeAt nodes node → All (λ child. child < nodes) (children node)
children_below nodes (Base o) is = All-nil (λ child. child < nodes)
children_below nodes (Join x y) is = All-cons (λ child. child < nodes) x (y ∷ []) is.1 (All-cons (λ child. child < nodes) y [] is.2 (All-nil (λ child. child < nodes)))
children_below nodes (Then x y) is = All-cons (λ child. child < nodes) x (y ∷ []) is.1 (All-cons (λ child. child < nodes) y [] is.2 (All-nil (λ child. child < nodes)))
children_below nodes (Star x) is = All-cons (λ child. child < nodes) x [] is.1 (All-nil (λ child. child < nodes))

-- ---- what a line of a kind says

pub said_node : (nodes : ℕ) (names : List (List ℕ)) (line : Line) (node : PlainNode) → node_in nodes line ≡ Ok node → said_by nodes names kinds.Node line ≡ Ok (NodeLine node)
unfolding said_by
said_node nodes names line node h = rw h refl

pub said_final : (nodes : ℕ) (names : List (List ℕ)) (line : Line) (outcome : PlainFinal) → final_in nodes names line ≡ Ok outcome → said_by nodes names kinds.Final line ≡ Ok (FinalLine outcome)
unfolding said_by
said_final nodes names line outcome h = rw h refl

pub said_kind : (nodes : ℕ) (names : List (List ℕ)) (kind : SummaryKind) (line : Line) (said : SummaryLine) → said_by nodes names kind line ≡ Ok said → kind_of said ≡ kind
unfolding said_by
said_kind nodes names kinds.Header line said h = ap kind_of (sym (same_Ok {E = Fault} HeaderLine said (bind_ok (header_in line) (λ _. Ok HeaderLine) said h).2))
said_kind nodes names kinds.Node line said h = let a = bind_ok (node_in nodes line) (λ node. Ok (NodeLine node)) said h in ap kind_of (sym (same_Ok {E = Fault} (NodeLine a.0) said a.2))
said_kind nodes names kinds.Final line said h = let a = bind_ok (final_in nodes names line) (λ outcome. Ok (FinalLine outcome)) said h in ap kind_of (sym (same_Ok {E = Fault} (FinalLine a.0) said a.2))
said_kind nodes names kinds.End line said h = ap kind_of (sym (same_Ok {E = Fault} EndLine said (bind_ok (exact_words 1 line) (λ _. Ok EndLine) said h).2))
