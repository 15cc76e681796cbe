-- The words of a text as those of its pieces, and that they rise.
use Rattle.std.proofs.Common.{◌≡◌, ◌⊎◌, inl, inr, ◌<◌, List, [], ◌∷◌, ◌++◌, map, refl, sym, subst, ap, ap₂, ◌∙◌}
use Rattle.std.proofs.lemmas.Grind.{flat_map-append}
use Rattle.std.proofs.lemmas.List.Folds.{flat_map-map}
use Rattle.std.specs.List.{AllPairs, flat_map}
use Rattle.nego_base.specs.declared.line.Word.{Word}
use Rattle.nego_base.proofs.PairLaws.{AllPairs-front}
use Rattle.nego_reader.specs.declared.parsed.Parsed.{Parsed}
use Rattle.nego_reader.specs.declared.parsed.PAgent.{PAgent}
use Rattle.nego_reader.specs.declared.parsed.PAtom.{PAtom}
use Rattle.nego_reader.specs.declared.parsed.POut.{POut}
use Rattle.nego_reader.specs.declared.parsed.PNext.{PNext}
use Rattle.nego_reader.specs.Rows.{AgentRow, CaseRow, NextRow, FirstRow, LastRow, EndRow, out_rows, atom_rows, rows_of}
use Rattle.nego_reader.specs.Rising.{case_words, words_in, IsLeftOf, HasRisingWords}
use Rattle.nego_shape.proofs.FlatPairs.{pairs_of_all}

-- the one word stands before the other
abbrev pub IsBefore : Word → Word → Type 0
IsBefore word other = (word.line < other.line) ⊎ IsLeftOf word other

-- a word alone
abbrev pub single : Word → List Word
single word = word ∷ []

abbrev pub next_words : PNext → List Word
next_words next = (next.atom ∷ []) ++ flat_map single next.agents

abbrev pub out_words : POut → List Word
out_words out = (out.name ∷ []) ++ (flat_map case_words out.cases ++ flat_map next_words out.nexts)

abbrev pub atom_words : PAtom → List Word
atom_words atom = (atom.name ∷ []) ++ (flat_map single atom.parties ++ flat_map out_words atom.outs)

-- but for those of the lines `first` and `last`
abbrev pub text_words : Parsed → List Word
text_words p = flat_map (λ (agent : PAgent). agent.name ∷ []) p.agents ++ flat_map atom_words p.atoms

pub singles : (words : List Word) → flat_map single words ≡ words
singles [] = refl
singles (word ∷ words) = ap (λ ws. word ∷ ws) (singles words)

module _ {A X : Type 0} where
  pub alike : (f g : A → List X) (xs : List A) → ((x : A) → f x ≡ g x) → flat_map f xs ≡ flat_map g xs
  alike f g [] h = refl
  alike f g (x ∷ xs) h = ap₂ (λ ys zs. ys ++ zs) (h x) (alike f g xs h)

  pub twice_flat : {B : Type 0} (f : B → List X) (g : A → List B) (xs : List A) → flat_map f (flat_map g xs) ≡ flat_map (λ x. flat_map f (g x)) xs
  twice_flat f g [] = refl
  twice_flat f g (x ∷ xs) = flat_map-append f (g x) (flat_map g xs) ∙ ap (λ ys. flat_map f (g x) ++ ys) (twice_flat f g xs)

next_is : (next : PNext) → words_in (NextRow next) ≡ next_words next
next_is next = ap (λ ws. next.atom ∷ ws) (sym (singles next.agents))

out_is : (out : POut) → flat_map words_in (out_rows out) ≡ out_words out
unfolding out_rows
out_is out =
    ap (λ ws. out.name ∷ ws) (flat_map-append words_in (map CaseRow out.cases) (map NextRow out.nexts)
    ∙ ap₂ (λ ys zs. ys ++ zs) (flat_map-map words_in CaseRow out.cases) (flat_map-map words_in NextRow out.nexts ∙ alike (λ next. words_in (NextRow next)) next_words out.nexts next_is))

atom_is : (atom : PAtom) → flat_map words_in (atom_rows atom) ≡ atom_words atom
unfolding atom_rows
atom_is atom = ap₂ (λ ys zs. atom.name ∷ (ys ++ zs)) (sym (singles atom.parties)) (twice_flat words_in out_rows atom.outs ∙ alike (λ out. flat_map words_in (out_rows out)) out_words atom.outs out_is)

text_is : (p : Parsed) → flat_map words_in (rows_of p) ≡ text_words p ++ (p.first ∷ p.last ∷ [])
unfolding rows_of
text_is p =
    flat_map-append words_in (map AgentRow p.agents ++ flat_map atom_rows p.atoms) (FirstRow p.first ∷ LastRow p.last ∷ EndRow ∷ [])
    ∙ ap (λ ws. ws ++ (p.first ∷ p.last ∷ [])) (flat_map-append words_in (map AgentRow p.agents) (flat_map atom_rows p.atoms)
    ∙ ap₂ (λ ys zs. ys ++ zs) (flat_map-map words_in AgentRow p.agents) (twice_flat words_in atom_rows p.atoms ∙ alike (λ atom. flat_map words_in (atom_rows atom)) atom_words p.atoms atom_is))

module _ (p : Parsed) (rises : HasRisingWords p) where
  pub rows_words_rise : AllPairs IsBefore (flat_map words_in (rows_of p))
  rows_words_rise = pairs_of_all IsBefore words_in (rows_of p) (λ i j d l m k e q n f r. inl (rises.lines i j d l m k e q n f r)) (λ k d l i j e m n. inr (rises.columns k d l i j e m n))

  pub text_words_rise : AllPairs IsBefore (text_words p)
  text_words_rise = AllPairs-front IsBefore (text_words p) (p.first ∷ p.last ∷ []) (subst (AllPairs IsBefore) (text_is p) rows_words_rise)
