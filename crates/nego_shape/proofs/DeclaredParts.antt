-- What is undeclared in the parts of a text, one after the other.
use Rattle.std.proofs.Common.{◌≡◌, ℕ, ◌+◌, ◌<◌, ◌≤◌, Bool, true, false, not, cond, nat_lt, List, [], ◌∷◌, ◌++◌, length, map, drop, get_or, refl, sym, subst, ap, ap₂, ◌∙◌, ltb-true, lt-ltb}
use Rattle.std.proofs.lemmas.List.{drop_all}
use Rattle.std.proofs.lemmas.Option.{none-some}
use Rattle.std.proofs.lemmas.List.Elements.{All-nil, All-cons, All-head, All-tail, filter-append}
use Rattle.std.proofs.lemmas.Grind.{flat_map-append}
use Rattle.std.proofs.lemmas.List.Folds.{flat_map-map}
use Rattle.std.specs.List.{All, flat_map}
use Rattle.nego_base.specs.declared.line.Word.{Word}
use Rattle.nego_base.proofs.ListLaws.{cut_at}
use Rattle.nego_shape.specs.declared.fault.ShapeAnswer.{ShapeAnswer}
use Rattle.nego_shape.specs.declared.fault.ShapeAnswer.TheVariants as answers
use Rattle.nego_reader.specs.declared.parsed.Parsed.{Parsed}
use Rattle.nego_reader.specs.declared.parsed.PAtom.{PAtom}
use Rattle.nego_reader.specs.declared.parsed.POut.{POut}
use Rattle.nego_reader.specs.declared.parsed.PCase.{PCase}
use Rattle.nego_reader.specs.Content.{content_of, texts}
use Rattle.nego_reader.specs.Rows.{Row, AgentRow, CaseRow, NextRow, FirstRow, LastRow, EndRow, out_rows, atom_rows, rows_of}
use Rattle.nego_reader.specs.Rising.{test_words, set_words, case_words}
use Rattle.nego_shape.specs.Faults.{others, undeclared_in, undeclared_words}
use Rattle.nego_shape.specs.Answer.{Tells}
use Rattle.nego_shape.specs.Naming.{place_of, agent_names, atom_names}
use Rattle.nego_shape.specs.Shaped.{IsDeclared}
use Rattle.nego_shape.specs.Undeclared.{undeclared_in_out, undeclared_in_atom, first_unknown}
use Rattle.nego_shape.proofs.Numbered.{empty_parts, empty-flat}
use Rattle.nego_shape.proofs.TextWords.{alike, twice_flat}

-- the first of two parts is that of the former where it has one, and else that of the latter
pub told_front : (e : ShapeAnswer) (xs ys : List Word) → Tells e (first_unknown xs) → Tells e (first_unknown (xs ++ ys))
told_front answers.Memory xs ys h = tt
told_front (answers.Off fault) [] ys h = absurd (none-some fault h)
told_front (answers.Off fault) (x ∷ xs) ys h = h

pub told_behind : (e : ShapeAnswer) (xs ys : List Word) → xs ≡ [] → Tells e (first_unknown ys) → Tells e (first_unknown (xs ++ ys))
told_behind e xs ys none h = subst (λ zs. Tells e (first_unknown (zs ++ ys))) (sym none) h

-- a loop over parts, where those so far have none
module _ {X : Type 0} (f : X → List Word) (xs : List X) (i : ℕ) (so_far : flat_map f xs ≡ flat_map f (drop i xs)) where
  pub none_all : length xs ≤ i → flat_map f xs ≡ []
  none_all done = so_far ∙ ap (flat_map f) (drop_all i xs done)

  module _ (x : X) (below : i < length xs) (is : x ≡ get_or xs i x) where
    cut : flat_map f xs ≡ f x ++ flat_map f (drop (i + 1) xs)
    cut = so_far ∙ ap (flat_map f) (cut_at xs i x below is)

    pub none_more : f x ≡ [] → flat_map f xs ≡ flat_map f (drop (i + 1) xs)
    none_more none = cut ∙ ap (λ ws. ws ++ flat_map f (drop (i + 1) xs)) none

    pub told_here : (e : ShapeAnswer) → Tells e (first_unknown (f x)) → Tells e (first_unknown (flat_map f xs))
    told_here e h = subst (λ ws. Tells e (first_unknown ws)) (sym cut) (told_front e (f x) (flat_map f (drop (i + 1) xs)) h)

-- ---- words and their names

module _ (names : List (List ℕ)) where
  abbrev pub is_other : Word → Bool
  is_other word = not (nat_lt (place_of word.text names) (length names))

  others-cons : (word : Word) (words : List Word) → others names (word ∷ words) ≡ others names (word ∷ []) ++ others names words
  others-cons word words = filter-append is_other (word ∷ []) words

  -- those of each word
  pub others_each : (words : List Word) → others names words ≡ flat_map (λ word. others names (word ∷ [])) words
  others_each [] = refl
  others_each (word ∷ words) = others-cons word words ∙ ap (λ ws. others names (word ∷ []) ++ ws) (others_each words)

  -- those of parts
  pub others_flat : {X : Type 0} (f : X → List Word) (xs : List X) → others names (flat_map f xs) ≡ flat_map (λ x. others names (f x)) xs
  others_flat f [] = refl
  others_flat f (x ∷ xs) = filter-append is_other (f x) (flat_map f xs) ∙ ap (λ ws. others names (f x) ++ ws) (others_flat f xs)

  -- those of a case
  pub others_case : (case : PCase) → others names (case_words case) ≡ flat_map (λ test. others names (test_words test)) case.tests ++ flat_map (λ set. others names (set_words set)) case.sets
  others_case case =
      filter-append is_other (flat_map test_words case.tests) (flat_map set_words case.sets)
      ∙ ap₂ (λ xs ys. xs ++ ys) (others_flat test_words case.tests) (others_flat set_words case.sets)

  pub one_declared : (word : Word) → others names (word ∷ []) ≡ [] → IsDeclared names word.text
  one_declared word h = go (nat_lt (place_of word.text names) (length names)) refl h
    where
      go : (b : Bool) → nat_lt (place_of word.text names) (length names) ≡ b → cond (not b) (word ∷ []) [] ≡ [] → IsDeclared names word.text
      go true q h = ltb-true (place_of word.text names) (length names) q
      go false q h = absurd cc

  -- there are none where all words are declared, and only there
  pub all_declared : (words : List Word) → others names words ≡ [] → All (IsDeclared names) (texts words)
  all_declared [] h = All-nil (IsDeclared names)
  all_declared (word ∷ words) h =
      let two = empty_parts (others names (word ∷ [])) (others names words) (sym (others-cons word words) ∙ h) in
      All-cons (IsDeclared names) word.text (texts words) (one_declared word two.0) (all_declared words two.1)

  pub none_other : (words : List Word) → All (IsDeclared names) (texts words) → others names words ≡ []
  none_other [] h = refl
  none_other (word ∷ words) h =
      ap (λ b. cond (not b) (word ∷ others names words) (others names words)) (lt-ltb (place_of word.text names) (length names) (All-head (IsDeclared names) word.text (texts words) h))
      ∙ none_other words (All-tail (IsDeclared names) word.text (texts words) h)

-- ---- the whole text

module _ (p : Parsed) where
  abbrev of_row : Row → List Word
  of_row = undeclared_in (content_of p)

  out_is : (out : POut) → flat_map of_row (out_rows out) ≡ undeclared_in_out (content_of p) out
  unfolding out_rows
  out_is out =
      flat_map-append of_row (map CaseRow out.cases) (map NextRow out.nexts)
      ∙ ap₂ (λ xs ys. xs ++ ys) (flat_map-map of_row CaseRow out.cases) (flat_map-map of_row NextRow out.nexts)

  atom_is : (atom : PAtom) → flat_map of_row (atom_rows atom) ≡ undeclared_in_atom (content_of p) atom
  unfolding atom_rows
  atom_is atom =
      ap (λ ws. others (agent_names (content_of p)) atom.parties ++ ws) (twice_flat of_row out_rows atom.outs ∙ alike (λ out. flat_map of_row (out_rows out)) (undeclared_in_out (content_of p)) atom.outs out_is)

  -- those of the lines `first` and `last`
  abbrev pub of_ends : List Word
  of_ends = others (atom_names (content_of p)) (p.first ∷ []) ++ (others (atom_names (content_of p)) (p.last ∷ []) ++ [])

  pub text_is : undeclared_words p ≡ flat_map (undeclared_in_atom (content_of p)) p.atoms ++ of_ends
  unfolding rows_of
  text_is =
      flat_map-append of_row (map AgentRow p.agents ++ flat_map atom_rows p.atoms) (FirstRow p.first ∷ LastRow p.last ∷ EndRow ∷ [])
      ∙ ap (λ ws. ws ++ of_ends) (flat_map-append of_row (map AgentRow p.agents) (flat_map atom_rows p.atoms)
      ∙ ap₂ (λ xs ys. xs ++ ys) (flat_map-map of_row AgentRow p.agents ∙ empty-flat (λ agent. []) p.agents (λ k d l. refl))
      (twice_flat of_row atom_rows p.atoms ∙ alike (λ atom. flat_map of_row (atom_rows atom)) (undeclared_in_atom (content_of p)) p.atoms atom_is))

  -- what is told of the atoms, and of the ends where the atoms have none
  pub atoms_told : (e : ShapeAnswer) → Tells e (first_unknown (flat_map (undeclared_in_atom (content_of p)) p.atoms)) → Tells e (first_unknown (undeclared_words p))
  atoms_told e told = subst (λ ws. Tells e (first_unknown ws)) (sym text_is) (told_front e (flat_map (undeclared_in_atom (content_of p)) p.atoms) of_ends told)

  pub ends_told : (e : ShapeAnswer) → flat_map (undeclared_in_atom (content_of p)) p.atoms ≡ [] → Tells e (first_unknown of_ends) → Tells e (first_unknown (undeclared_words p))
  ends_told e none told = subst (λ ws. Tells e (first_unknown ws)) (sym text_is) (told_behind e (flat_map (undeclared_in_atom (content_of p)) p.atoms) of_ends none told)

  pub none_of_text : flat_map (undeclared_in_atom (content_of p)) p.atoms ≡ [] → others (atom_names (content_of p)) (p.first ∷ []) ≡ [] → others (atom_names (content_of p)) (p.last ∷ []) ≡ [] → undeclared_words p ≡ []
  none_of_text atoms first last = text_is ∙ rw (atoms, first, last) refl
