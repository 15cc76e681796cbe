-- Summaries are read by their grammar: a line is read by what it is asked, what is read of it is what it says, and what it
-- says is read.
use Rattle.std.proofs.Common.{◌≡◌, ◌≢◌, ℕ, ◌≤◌, ◌<◌, ◌==◌, ◌&&◌, ◌||◌, ltb, Bool, true, false, cond, List, [], ◌∷◌, ◌++◌, length, map, take, drop, zero, suc, inl, All, Option, Some, None, Result, Ok, Err, refl, sym, ap, subst, ◌∙◌, arith}
use Rattle.std.specs.Prelude.{slice_get, codes, decimal}
use Rattle.std.specs.List.{list_any}
use Rattle.std.specs.Option.{option_map_or}
use Rattle.std.specs.Str.{bytes_eq}
use Rattle.std.proofs.lemmas.Bool.{and_parts, and_from, eqb-true, eq-eqb, ltb-true, lt-ltb, false≢true}
use Rattle.std.proofs.lemmas.List.Elements.{All-nil, All-cons, All-head, All-tail}
use Rattle.std.proofs.lemmas.Slice.Eq.{bytes_eq-Decides}
use Rattle.nego_base.specs.declared.fault.FaultKind.TheVariants as fault_kinds
use Rattle.nego_base.specs.declared.fault.Fault.{Fault}
use Rattle.nego_base.specs.declared.line.Word.{Word}
use Rattle.nego_base.specs.declared.line.Line.{Line}
use Rattle.nego_base.specs.Number.{number_of}
use Rattle.nego_base.specs.Grammar.{at_word, past_line, least_words, exact_words, name_word, number_word}
use Rattle.nego_base.specs.LineGrammar.{Demand, Words, LeastWords, Version, Name, Number, Own, word_number}
use Rattle.nego_base.specs.LineWalk.{word_in, Answers}
use Rattle.nego_base.specs.Results.{◌>>=◌}
use Rattle.nego_base.proofs.Cases.{bind_ok, same_Ok, same_Err, ok-err}
use Rattle.nego_base.proofs.GrammarLaws.{least_ok, exact_ok, number_ok, number_word-ok}
use Rattle.nego_base.proofs.LineFaults.{answers_then, answers_last}
use Rattle.nego_base.proofs.LineDemands.{one_answer, least_answers, exact_answers, name_answers, number_answers, version_answers, place_answers}
use Rattle.nego_model.specs.Expression.{PlainNode, Base, Join, Then, Star}
use Rattle.nego_model.specs.Summary.{PlainFinal}
use Rattle.nego_expr.specs.Use.{most_nodes}
use Rattle.nego_cert.specs.declared.summary_row.Form.{Form}
use Rattle.nego_cert.specs.declared.summary_row.Form.TheVariants as forms
use Rattle.nego_cert.specs.declared.summary_row.SummaryKind.{SummaryKind}
use Rattle.nego_cert.specs.declared.summary_row.SummaryKind.TheVariants as kinds
use Rattle.nego_cert.specs.Reading.{number_in, header_in}
use Rattle.nego_cert.specs.SummaryLines.{keyword, form_word, form_words}
use Rattle.nego_cert.specs.SummaryTable.{HeaderLine, NodeLine, FinalLine, EndLine, Known, SummaryDemand, OfForm, IsPlace, IsBelow, IsNew, IsAsAsked, has_two, own_number, asked_numbers, demands}
use Rattle.nego_cert.specs.SummaryReading.{number_if, form_named, form_word_of, new_word, place_in, below_in, two_below, made_of, node_in, final_in, said_by, line_in}

-- ---- kinds

-- the kind that the text is the keyword of
abbrev kind_named : List ℕ → SummaryKind
kind_named text = cond (bytes_eq text (codes "summary")) kinds.Header (cond (bytes_eq text (codes "node")) kinds.Node (cond (bytes_eq text (codes "final")) kinds.Final kinds.End))

keyword_named : (kind : SummaryKind) → kind_named (keyword kind) ≡ kind
keyword_named kinds.Header = refl
keyword_named kinds.Node = refl
keyword_named kinds.Final = refl
keyword_named kinds.End = refl

pub same_kind : (k k' : SummaryKind) → keyword k ≡ keyword k' → k ≡ k'
same_kind k k' h = sym (keyword_named k) ∙ (ap kind_named h ∙ keyword_named k')

-- ---- words

same_bytes : (a b : List ℕ) → bytes_eq a b ≡ true → a ≡ b
same_bytes a b h = (bytes_eq-Decides a b).0 h

pub guard_ok : {A : Type 0} (t : Bool) (x y : A) (fault : Fault) → ◌≡◌ {A = Result A Fault} (cond t (Ok x) (Err fault)) (Ok y) → (t ≡ true) × (x ≡ y)
guard_ok true x y fault h = (refl, same_Ok {E = Fault} x y h)
guard_ok false x y fault h = absurd cc

guard_err : {A : Type 0} (t : Bool) (x : A) (fault found : Fault) → ◌≡◌ {A = Result A Fault} (cond t (Ok x) (Err fault)) (Err found) → (t ≡ false) × (found ≡ fault)
guard_err {A} true x fault found h = absurd (ok-err {T = A} x found h)
guard_err {A} false x fault found h = (refl, same_Err {T = A} found fault (sym h))

-- the form that a text says
form_ok : (text : List ℕ) (form : Form) → form_named text ≡ Some form → text ≡ form_word form
unfolding form_named
form_ok text form h = by_base (bytes_eq text (codes "base")) refl h
  where
    by_star : (t : Bool) → bytes_eq text (codes "star") ≡ t → cond t (Some forms.Star) None ≡ Some form → text ≡ form_word form
    by_star true e h = same_bytes text (codes "star") e ∙ ap form_word (let s : forms.Star ≡ form = cc in s)
    by_star false e h = absurd cc

    by_then : (t : Bool) → bytes_eq text (codes "then") ≡ t → cond t (Some forms.Then) (cond (bytes_eq text (codes "star")) (Some forms.Star) None) ≡ Some form → text ≡ form_word form
    by_then true e h = same_bytes text (codes "then") e ∙ ap form_word (let s : forms.Then ≡ form = cc in s)
    by_then false e h = by_star (bytes_eq text (codes "star")) refl h

    by_join : (t : Bool) → bytes_eq text (codes "join") ≡ t → cond t (Some forms.Join) (cond (bytes_eq text (codes "then")) (Some forms.Then) (cond (bytes_eq text (codes "star")) (Some forms.Star) None)) ≡ Some form → text ≡ form_word form
    by_join true e h = same_bytes text (codes "join") e ∙ ap form_word (let s : forms.Join ≡ form = cc in s)
    by_join false e h = by_then (bytes_eq text (codes "then")) refl h

    by_base : (t : Bool) → bytes_eq text (codes "base") ≡ t →
        cond t (Some forms.Base) (cond (bytes_eq text (codes "join")) (Some forms.Join) (cond (bytes_eq text (codes "then")) (Some forms.Then) (cond (bytes_eq text (codes "star")) (Some forms.Star) None))) ≡ Some form → text ≡ form_word form
    by_base true e h = same_bytes text (codes "base") e ∙ ap form_word (let s : forms.Base ≡ form = cc in s)
    by_base false e h = by_join (bytes_eq text (codes "join")) refl h

form_again : (form : Form) → form_named (form_word form) ≡ Some form
unfolding form_named
form_again forms.Base = refl
form_again forms.Join = refl
form_again forms.Then = refl
form_again forms.Star = refl

pub form_read : (word : Word) (form : Form) → form_word_of word ≡ Ok form → word.text ≡ form_word form
unfolding form_word_of
form_read word form h = by_form (form_named word.text) refl h
  where
    by_form : (o : Option Form) → form_named word.text ≡ o → ◌≡◌ {A = Result Form Fault} (option_map_or (λ f. Ok f) o (Err (at_word fault_kinds.Word word))) (Ok form) → word.text ≡ form_word form
    by_form None is h = absurd cc
    by_form (Some f) is h = form_ok word.text form (is ∙ ap (λ (x : Form). Some x) (same_Ok {E = Fault} f form h))

pub form_word_again : (word : Word) (form : Form) → word.text ≡ form_word form → form_word_of word ≡ Ok form
unfolding form_word_of
form_word_again word form h = ap (λ (o : Option Form). option_map_or (λ f. Ok f) o (Err (at_word fault_kinds.Word word))) (ap form_named h ∙ form_again form)

form_fault : (word : Word) (fault : Fault) → form_word_of word ≡ Err fault → fault ≡ at_word fault_kinds.Word word
unfolding form_word_of
form_fault word fault h = by_form (form_named word.text) h
  where
    by_form : (o : Option Form) → ◌≡◌ {A = Result Form Fault} (option_map_or (λ f. Ok f) o (Err (at_word fault_kinds.Word word))) (Err fault) → fault ≡ at_word fault_kinds.Word word
    by_form None h = same_Err {T = Form} fault (at_word fault_kinds.Word word) (sym h)
    by_form (Some f) h = absurd (ok-err {E = Fault} f fault h)

-- numbers that pass a test
pub if_read : (test : ℕ → Bool) (word : Word) (n : ℕ) → number_if test word ≡ Ok n → (word.text ≡ decimal n) × (n ≤ 999999) × (test n ≡ true)
unfolding number_if
if_read test word n h =
    let a = bind_ok (number_word word) (λ k. cond (test k) (Ok k) (Err (at_word fault_kinds.Number word))) n h in
    let b = guard_ok (test a.0) a.0 n (at_word fault_kinds.Number word) a.2 in
    let c = number_ok word a.0 a.1 in
    subst (λ k. (word.text ≡ decimal k) × (k ≤ 999999) × (test k ≡ true)) b.1 (c.0, c.1, b.0)

pub if_again : (test : ℕ → Bool) (word : Word) (n : ℕ) → word.text ≡ decimal n → n ≤ 999999 → test n ≡ true → number_if test word ≡ Ok n
unfolding number_if
if_again test word n h few passes = rw (number_word-ok word n h few, passes) refl

number_fault : (word : Word) (fault : Fault) → number_word word ≡ Err fault → fault ≡ at_word fault_kinds.Number word
unfolding number_word
number_fault word fault h = by_option (number_of word.text) h
  where
    by_option : (o : Option ℕ) → ◌≡◌ {A = Result ℕ Fault} (option_map_or (λ n. Ok n) o (Err (at_word fault_kinds.Number word))) (Err fault) → fault ≡ at_word fault_kinds.Number word
    by_option (Some n) h = absurd (ok-err {E = Fault} n fault h)
    by_option None h = same_Err {T = ℕ} fault (at_word fault_kinds.Number word) (sym h)

if_fault : (test : ℕ → Bool) (word : Word) (fault : Fault) → number_if test word ≡ Err fault → fault ≡ at_word fault_kinds.Number word
unfolding number_if
if_fault test word fault h = by_number (number_word word) refl h
  where
    by_number : (r : Result ℕ Fault) → number_word word ≡ r → (r >>= λ k. cond (test k) (Ok k) (Err (at_word fault_kinds.Number word))) ≡ Err fault → fault ≡ at_word fault_kinds.Number word
    by_number (Ok k) is h = (guard_err (test k) k (at_word fault_kinds.Number word) fault h).1
    by_number (Err f) is h = same_Err {T = ℕ} fault f (sym h) ∙ number_fault word f is

-- new names
abbrev stands_in : List ℕ → List (List ℕ) → Bool
stands_in text names = list_any (λ name. bytes_eq name text) names

pub none_is : (names : List (List ℕ)) (text : List ℕ) → stands_in text names ≡ false → All (λ name. name ≢ text) names
none_is [] text h = All-nil (λ name. name ≢ text)
none_is (name ∷ names) text h = by_test (bytes_eq name text) refl (none_is names text) h
  where
    by_test : (t : Bool) → bytes_eq name text ≡ t → (stands_in text names ≡ false → All (λ name. name ≢ text) names) → (t || stands_in text names) ≡ false → All (λ name. name ≢ text) (name ∷ names)
    by_test true e later h = absurd (false≢true (sym h))
    by_test false e later h = All-cons (λ name. name ≢ text) name names (λ same. false≢true (sym e ∙ (bytes_eq-Decides name text).1 same)) (later h)

pub is_none : (names : List (List ℕ)) (text : List ℕ) → All (λ name. name ≢ text) names → stands_in text names ≡ false
is_none [] text h = refl
is_none (name ∷ names) text h = by_test (bytes_eq name text) refl (is_none names text (All-tail (λ name. name ≢ text) name names h))
  where
    by_test : (t : Bool) → bytes_eq name text ≡ t → stands_in text names ≡ false → (t || stands_in text names) ≡ false
    by_test true e later = absurd (All-head (λ name. name ≢ text) name names h (same_bytes name text e))
    by_test false e later = later

-- ---- what a line is asked

module _ (line : Line) where
  abbrev By : {Y : Type 0} → List (Demand SummaryDemand) → Result Y Fault → Type 0
  By asked r = Answers IsAsAsked line asked r

  number_by : (i : ℕ) → i < length line.words → By (map Number (word_number i line)) (number_in line i)
  unfolding number_in
  number_by i within = place_answers IsAsAsked line i (λ w. Number w) (λ word. number_word word) within (number_answers IsAsAsked line)

  header_by : By (demands (record { may = []; nodes = 0; names = [] }) kinds.Header line) (header_in line)
  unfolding header_in
  header_by =
      answers_then IsAsAsked line (Words 2 ∷ []) (map (Version (codes "1")) (word_number 1 line)) (exact_words 2 line) (λ _. word_in line 1 >>= λ version. cond (bytes_eq version.text (codes "1")) (Ok tt) (Err (at_word fault_kinds.Version version)))
      (exact_answers IsAsAsked line 2)
      (λ _ is. place_answers IsAsAsked line 1 (λ w. Version (codes "1") w) (λ version. cond (bytes_eq version.text (codes "1")) (Ok tt) (Err (at_word fault_kinds.Version version))) (let two = exact_ok 2 line is in omega arith)
      (version_answers IsAsAsked line (codes "1")))

  below_word : (nodes : ℕ) (word : Word) → By (Own (IsBelow nodes) fault_kinds.Number word ∷ []) (number_if (λ n. ltb n nodes) word)
  below_word nodes word =
      one_answer IsAsAsked line (Own (IsBelow nodes) fault_kinds.Number word) (number_if (λ n. ltb n nodes) word)
      (λ n h. let a = if_read (λ n. ltb n nodes) word n h in (n, (a.0, a.1), ltb-true n nodes a.2))
      (λ fault h. (λ is. ok-err {E = Fault} is.0 fault (sym (if_again (λ n. ltb n nodes) word is.0 is.1.0 is.1.1 (lt-ltb is.0 nodes is.2)) ∙ h), if_fault (λ n. ltb n nodes) word fault h))

  below_by : (nodes i : ℕ) → i < length line.words → By (own_number (IsBelow nodes) i line) (below_in nodes line i)
  unfolding below_in
  below_by nodes i within = place_answers IsAsAsked line i (λ w. Own (IsBelow nodes) fault_kinds.Number w) (λ word. number_if (λ n. ltb n nodes) word) within (below_word nodes)

  place_word : (i : ℕ) (word : Word) → By (Own (IsPlace i) fault_kinds.Number word ∷ []) (number_if (λ n. n == i && ltb i most_nodes) word)
  place_word i word =
      one_answer IsAsAsked line (Own (IsPlace i) fault_kinds.Number word) (number_if (λ n. n == i && ltb i most_nodes) word)
      (λ n h.
      let a = if_read (λ n. n == i && ltb i most_nodes) word n h in
      let b = and_parts (n == i) (ltb i most_nodes) a.2 in
      (a.0 ∙ ap decimal (eqb-true n i b.0), ltb-true i most_nodes b.1))
      (λ fault h. (λ is. ok-err {E = Fault} i fault (sym (if_again (λ n. n == i && ltb i most_nodes) word i is.0 (let below = is.1 in omega arith) (and_from (i == i) (ltb i most_nodes) (eq-eqb i i refl) (lt-ltb i most_nodes is.1))) ∙ h), if_fault (λ n. n == i && ltb i most_nodes) word fault h))

  place_by : (i : ℕ) → 1 < length line.words → By (own_number (IsPlace i) 1 line) (place_in i line)
  unfolding place_in
  place_by i within = place_answers IsAsAsked line 1 (λ w. Own (IsPlace i) fault_kinds.Number w) (λ word. number_if (λ n. n == i && ltb i most_nodes) word) within (place_word i)

  two_by : (nodes : ℕ) → length line.words ≡ 5 → By (own_number (IsBelow nodes) 3 line ++ own_number (IsBelow nodes) 4 line) (two_below nodes line)
  unfolding two_below
  two_by nodes five =
      answers_then IsAsAsked line (own_number (IsBelow nodes) 3 line) (own_number (IsBelow nodes) 4 line) (below_in nodes line 3) (λ x. below_in nodes line 4 >>= λ y. Ok (x, y)) (below_by nodes 3 (omega arith))
      (λ x _. answers_last IsAsAsked line (own_number (IsBelow nodes) 4 line) (below_in nodes line 4) (λ y. (x, y)) (below_by nodes 4 (omega arith)))

  form_by : (word : Word) → By (Own OfForm fault_kinds.Word word ∷ []) (form_word_of word)
  form_by word =
      one_answer IsAsAsked line (Own OfForm fault_kinds.Word word) (form_word_of word) (λ form h. (form, form_read word form h))
      (λ fault h. (λ is. ok-err {E = Fault} is.0 fault (sym (form_word_again word is.0 is.1) ∙ h), form_fault word fault h))

  -- the numbers that are asked behind a form
  abbrev numbers_asked : ℕ → Form → List (Demand SummaryDemand)
  numbers_asked nodes forms.Base = map Number (word_number 3 line)
  numbers_asked nodes forms.Join = own_number (IsBelow nodes) 3 line ++ own_number (IsBelow nodes) 4 line
  numbers_asked nodes forms.Then = own_number (IsBelow nodes) 3 line ++ own_number (IsBelow nodes) 4 line
  numbers_asked nodes forms.Star = own_number (IsBelow nodes) 3 line

  -- what is asked behind the third word, and what it is where this is a form
  abbrev behind_form : ℕ → List (Demand SummaryDemand)
  behind_form nodes = Words (cond (has_two line) 5 4) ∷ (own_number (IsPlace nodes) 1 line ++ asked_numbers nodes line)

  behind_is : (nodes : ℕ) (form : Form) (word : Word) → slice_get line.words 2 ≡ Some word → word.text ≡ form_word form → behind_form nodes ≡ Words (form_words form) ∷ (own_number (IsPlace nodes) 1 line ++ numbers_asked nodes form)
  behind_is nodes forms.Base word h t = rw (h, t) refl
  behind_is nodes forms.Join word h t = rw (h, t) refl
  behind_is nodes forms.Then word h t = rw (h, t) refl
  behind_is nodes forms.Star word h t = rw (h, t) refl

  made_by : (nodes : ℕ) (form : Form) → length line.words ≡ form_words form → By (numbers_asked nodes form) (made_of form nodes line)
  unfolding made_of
  made_by nodes forms.Base size = answers_last IsAsAsked line (map Number (word_number 3 line)) (number_in line 3) (λ o. Base o) (number_by 3 (omega arith))
  made_by nodes forms.Join size = answers_last IsAsAsked line (own_number (IsBelow nodes) 3 line ++ own_number (IsBelow nodes) 4 line) (two_below nodes line) (λ xy. Join xy.0 xy.1) (two_by nodes size)
  made_by nodes forms.Then size = answers_last IsAsAsked line (own_number (IsBelow nodes) 3 line ++ own_number (IsBelow nodes) 4 line) (two_below nodes line) (λ xy. Then xy.0 xy.1) (two_by nodes size)
  made_by nodes forms.Star size = answers_last IsAsAsked line (own_number (IsBelow nodes) 3 line) (below_in nodes line 3) (λ x. Star x) (below_by nodes 3 (omega arith))

  many_words : (form : Form) → 1 < form_words form
  many_words forms.Base = omega arith
  many_words forms.Join = omega arith
  many_words forms.Then = omega arith
  many_words forms.Star = omega arith

  abbrev after_form : ℕ → Form → Result PlainNode Fault
  after_form nodes form = exact_words (form_words form) line >>= λ sized. place_in nodes line >>= λ place. made_of form nodes line

  after_by : (nodes : ℕ) (form : Form) → By (Words (form_words form) ∷ (own_number (IsPlace nodes) 1 line ++ numbers_asked nodes form)) (after_form nodes form)
  after_by nodes form =
      answers_then IsAsAsked line (Words (form_words form) ∷ []) (own_number (IsPlace nodes) 1 line ++ numbers_asked nodes form) (exact_words (form_words form) line) (λ sized. place_in nodes line >>= λ place. made_of form nodes line)
      (exact_answers IsAsAsked line (form_words form))
      (λ _ is. let size : length line.words ≡ form_words form = exact_ok (form_words form) line is in let many = many_words form in
      answers_then IsAsAsked line (own_number (IsPlace nodes) 1 line) (numbers_asked nodes form) (place_in nodes line) (λ place. made_of form nodes line) (place_by nodes (omega arith)) (λ _ _. made_by nodes form size))

  -- the word at a place of the line
  word_there : (words : List Word) (i : ℕ) → i < length words → (word : Word) × (slice_get words i ≡ Some word) × (take 1 (drop i words) ≡ word ∷ [])
  word_there [] i within = absurd (omega arith)
  word_there (word ∷ words) zero within = (word, refl, refl)
  word_there (word ∷ words) (suc i) within = let later = word_there words i (omega arith) in (later.0, later.1, later.2)

  place_known : {Y : Type 0} (i : ℕ) (demand : Word → Demand SummaryDemand) (more : List (Demand SummaryDemand)) (f : Word → Result Y Fault) → i < length line.words →
      ((word : Word) → slice_get line.words i ≡ Some word → word_number i line ≡ word ∷ [] → By (demand word ∷ more) (f word)) → By (map demand (word_number i line) ++ more) (word_in line i >>= f)
  unfolding word_in
  place_known i demand more f within one =
      let at = word_there line.words i within in
      let is : word_number i line ≡ at.0 ∷ [] = at.2 in
      subst (λ ws. By (map demand ws ++ more) (option_map_or (λ word. Ok word) (slice_get line.words i) (Err (past_line fault_kinds.Count line)) >>= f)) (sym is)
      (subst (λ (o : Option Word). By (demand at.0 ∷ more) (option_map_or (λ word. Ok word) o (Err (past_line fault_kinds.Count line)) >>= f)) (sym at.1) (one at.0 at.1 is))

  node_by : (nodes : ℕ) → By (LeastWords 3 ∷ (map (Own OfForm fault_kinds.Word) (word_number 2 line) ++ behind_form nodes)) (node_in nodes line)
  unfolding node_in
  node_by nodes =
      answers_then IsAsAsked line (LeastWords 3 ∷ []) (map (Own OfForm fault_kinds.Word) (word_number 2 line) ++ behind_form nodes) (least_words 3 line) (λ _. word_in line 2 >>= λ word. form_word_of word >>= λ form. after_form nodes form)
      (least_answers IsAsAsked line 3)
      (λ _ is. place_known 2 (λ w. Own OfForm fault_kinds.Word w) (behind_form nodes) (λ word. form_word_of word >>= λ form. after_form nodes form) (let enough = least_ok 3 line is in omega arith)
      (λ word at only. answers_then IsAsAsked line (Own OfForm fault_kinds.Word word ∷ []) (behind_form nodes) (form_word_of word) (λ form. after_form nodes form) (form_by word)
      (λ form read. subst (λ asked. By asked (after_form nodes form)) (sym (behind_is nodes form word at (form_read word form read))) (after_by nodes form))))

  -- ---- final outcomes

  new_by : (names : List (List ℕ)) (word : Word) → By (Own (IsNew names) fault_kinds.Name word ∷ []) (new_word names word)
  unfolding new_word
  new_by names word = by_test (list_any (λ name. bytes_eq name word.text) names) refl
    where
      by_test : (t : Bool) → list_any (λ name. bytes_eq name word.text) names ≡ t → By (Own (IsNew names) fault_kinds.Name word ∷ []) (cond t (Err (at_word fault_kinds.Name word)) (Ok word.text))
      by_test true e = inl (λ new. false≢true (sym (is_none names word.text new) ∙ e), refl)
      by_test false e = (none_is names word.text e, tt)

  final_by : (nodes : ℕ) (names : List (List ℕ)) → By (Words 3 ∷ (map Name (word_number 1 line) ++ (map (Own (IsNew names) fault_kinds.Name) (word_number 1 line) ++ own_number (IsBelow nodes) 2 line))) (final_in nodes names line)
  unfolding final_in
  final_by nodes names =
      let rest : List (Demand SummaryDemand) = map (Own (IsNew names) fault_kinds.Name) (word_number 1 line) ++ own_number (IsBelow nodes) 2 line in
      answers_then IsAsAsked line (Words 3 ∷ []) (map Name (word_number 1 line) ++ rest) (exact_words 3 line)
      (λ _. word_in line 1 >>= λ word. name_word word >>= λ named. new_word names word >>= λ name. below_in nodes line 2 >>= λ node. Ok (record { name = name; node = node })) (exact_answers IsAsAsked line 3)
      (λ _ is. let three : length line.words ≡ 3 = exact_ok 3 line is in
      place_known 1 (λ w. Name w) rest (λ word. name_word word >>= λ named. new_word names word >>= λ name. below_in nodes line 2 >>= λ node. Ok (record { name = name; node = node })) (omega arith)
      (λ word at only. subst (λ ws. By {Y = PlainFinal} (Name word ∷ (map (Own (IsNew names) fault_kinds.Name) ws ++ own_number (IsBelow nodes) 2 line)) (name_word word >>= λ named. new_word names word >>= λ name. below_in nodes line 2 >>= λ node. Ok (record { name = name; node = node }))) (sym only)
      (answers_then IsAsAsked line (Name word ∷ []) (Own (IsNew names) fault_kinds.Name word ∷ own_number (IsBelow nodes) 2 line) (name_word word) (λ named. new_word names word >>= λ name. below_in nodes line 2 >>= λ node. Ok (record { name = name; node = node })) (name_answers IsAsAsked line word)
      (λ _ _. answers_then IsAsAsked line (Own (IsNew names) fault_kinds.Name word ∷ []) (own_number (IsBelow nodes) 2 line) (new_word names word) (λ name. below_in nodes line 2 >>= λ node. Ok (record { name = name; node = node })) (new_by names word)
      (λ name _. answers_last IsAsAsked line (own_number (IsBelow nodes) 2 line) (below_in nodes line 2) (λ node. record { name = name; node = node }) (below_by nodes 2 (omega arith)))))))

pub line_by : (known : Known) (kind : SummaryKind) (line : Line) → Answers IsAsAsked line (demands known kind line) (line_in known kind line)
unfolding said_by
line_by known kinds.Header line = answers_last IsAsAsked line (demands known kinds.Header line) (header_in line) (λ _. HeaderLine) (header_by line)
line_by known kinds.Node line = answers_last IsAsAsked line (demands known kinds.Node line) (node_in known.nodes line) (λ node. NodeLine node) (node_by line known.nodes)
line_by known kinds.Final line = answers_last IsAsAsked line (demands known kinds.Final line) (final_in known.nodes known.names line) (λ outcome. FinalLine outcome) (final_by line known.nodes known.names)
line_by known kinds.End line = answers_last IsAsAsked line (Words 1 ∷ []) (exact_words 1 line) (λ _. EndLine) (exact_answers IsAsAsked line 1)
