-- The words that stand twice stand in the order of the text.
use Rattle.std.proofs.Common.{◌≡◌, ◌⊎◌, inl, inr, ℕ, ◌+◌, ◌||◌, Bool, true, false, List, [], ◌∷◌, ◌++◌, take, refl, sym, subst, ap}
use Rattle.std.proofs.lemmas.List.Elements.{All-nil, All-cons, All-head, All-tail}
use Rattle.std.specs.List.{All, AllPairs, list_any, flat_map}
use Rattle.std.specs.Str.{bytes_eq}
use Rattle.nego_base.specs.declared.line.Word.{Word}
use Rattle.nego_base.proofs.PairLaws.{AllPairs-nil, AllPairs-cons, AllPairs-head, AllPairs-tail, AllPairs-map}
use Rattle.nego_reader.specs.declared.parsed.Parsed.{Parsed}
use Rattle.nego_reader.specs.declared.parsed.PAgent.{PAgent}
use Rattle.nego_reader.specs.declared.parsed.PAtom.{PAtom}
use Rattle.nego_reader.specs.declared.parsed.POut.{POut}
use Rattle.nego_reader.specs.declared.parsed.PNext.{PNext}
use Rattle.nego_reader.specs.declared.parsed.PCase.{PCase}
use Rattle.nego_reader.specs.declared.parsed.PSet.{PSet}
use Rattle.nego_reader.specs.Rising.{test_words, term_words, set_words, case_words}
use Rattle.nego_shape.specs.declared.fault.ShapeKind.TheVariants as kinds
use Rattle.nego_shape.specs.Faults.{Spot, spot, stands_in, word_if, numbered, again, is_led, sent_again, twice_in_out, twice_in_atom, twice_words, of_words, IsAhead}
use Rattle.nego_shape.specs.Conditions.{NamedOnce}
use Rattle.nego_shape.proofs.Numbered.{empty_map}
use Rattle.nego_shape.proofs.Search.{IsListed}
use Rattle.nego_shape.proofs.TextWords.{IsBefore, single, next_words, out_words, atom_words, text_words, text_words_rise}
use Rattle.nego_shape.proofs.TwiceNames.{in_case, on_nexts, out_name, atom_name, of_parties, in_outs, in_agents, in_atoms, named_once, none_again_in}

-- the words are some of the others, in their order
abbrev IsPart : List Word → List Word → Type 0
IsPart [] ys = Unit {0}
IsPart (x ∷ xs) [] = ⊥
IsPart (x ∷ xs) (y ∷ ys) = ((x ≡ y) × IsPart xs ys) ⊎ IsPart (x ∷ xs) ys

part_of_all : (R : Word → Type 0) (xs ys : List Word) → IsPart xs ys → All R ys → All R xs
part_of_all R [] ys h all = All-nil R
part_of_all R (x ∷ xs) [] h all = absurd h
part_of_all R (x ∷ xs) (y ∷ ys) (inl here) all = All-cons R x xs (subst R (sym here.0) (All-head R y ys all)) (part_of_all R xs ys here.1 (All-tail R y ys all))
part_of_all R (x ∷ xs) (y ∷ ys) (inr later) all = part_of_all R (x ∷ xs) ys later (All-tail R y ys all)

part_of_pairs : (R : Word → Word → Type 0) (xs ys : List Word) → IsPart xs ys → AllPairs R ys → AllPairs R xs
part_of_pairs R [] ys h pairs = AllPairs-nil R
part_of_pairs R (x ∷ xs) [] h pairs = absurd h
part_of_pairs R (x ∷ xs) (y ∷ ys) (inl here) pairs =
    AllPairs-cons R x xs (subst (λ z. All (R z) xs) (sym here.0) (part_of_all (R y) xs ys here.1 (AllPairs-head R y ys pairs))) (part_of_pairs R xs ys here.1 (AllPairs-tail R y ys pairs))
part_of_pairs R (x ∷ xs) (y ∷ ys) (inr later) pairs = part_of_pairs R (x ∷ xs) ys later (AllPairs-tail R y ys pairs)

-- behind others
part_behind : (xs ys zs : List Word) → IsPart xs zs → IsPart xs (ys ++ zs)
part_behind [] ys zs h = tt
part_behind (x ∷ xs) [] zs h = h
part_behind (x ∷ xs) (y ∷ ys) zs h = inr (part_behind (x ∷ xs) ys zs h)

part_both : (xs ys xs' ys' : List Word) → IsPart xs ys → IsPart xs' ys' → IsPart (xs ++ xs') (ys ++ ys')
part_both [] ys xs' ys' h k = part_behind xs' ys ys' k
part_both (x ∷ xs) [] xs' ys' h k = absurd h
part_both (x ∷ xs) (y ∷ ys) xs' ys' (inl here) k = inl (here.0, part_both xs ys xs' ys' here.1 k)
part_both (x ∷ xs) (y ∷ ys) xs' ys' (inr later) k = inr (part_both (x ∷ xs) ys xs' ys' later k)

part_if : (test : Bool) (word : Word) (words : List Word) → IsPart (word_if test word) (word ∷ words)
part_if true word words = inl (refl, tt)
part_if false word words = tt

module _ {A : Type 0} (words : A → List Word) where
  part_numbered : (f : ℕ → A → List Word) → ((n : ℕ) (x : A) → IsPart (f n x) (words x)) → (n : ℕ) (xs : List A) → IsPart (numbered f n xs) (flat_map words xs)
  unfolding numbered
  part_numbered f each n [] = tt
  part_numbered f each n (x ∷ xs) = part_both (f n x) (words x) (numbered f (n + 1) xs) (flat_map words xs) (each n x) (part_numbered f each (n + 1) xs)

  part_flat : (f : A → List Word) → ((x : A) → IsPart (f x) (words x)) → (xs : List A) → IsPart (flat_map f xs) (flat_map words xs)
  part_flat f each [] = tt
  part_flat f each (x ∷ xs) = part_both (f x) (words x) (flat_map f xs) (flat_map words xs) (each x) (part_flat f each xs)

part_again : {A : Type 0} (name : A → Word) (before : List A) (item : A) (words : List Word) → IsPart (again name before item) (name item ∷ words)
part_again name before item words = part_if (list_any (λ other. bytes_eq (name other).text (name item).text) before) (name item) words

case_part : (case : PCase) → IsPart (in_case case) (case_words case)
case_part case =
    part_behind (in_case case) (flat_map test_words case.tests) (flat_map set_words case.sets)
    (part_numbered set_words (λ i set. again (λ (other : PSet). other.agent) (take i case.sets) set) (λ i set. part_again (λ (other : PSet). other.agent) (take i case.sets) set (term_words set.term)) 0 case.sets)

next_part : (earlier : List PNext) (next : PNext) → IsPart (sent_again earlier next) (next_words next)
next_part earlier next =
    part_behind (sent_again earlier next) (next.atom ∷ []) (flat_map single next.agents)
    (part_numbered single (λ i agent. word_if (stands_in (take i next.agents) agent || is_led earlier next.atom agent) agent) (λ i agent. part_if (stands_in (take i next.agents) agent || is_led earlier next.atom agent) agent []) 0 next.agents)

out_part : (before : List POut) (out : POut) → IsPart (twice_in_out before out) (out_words out)
out_part before out =
    part_both (again out_name before out) (out.name ∷ []) (flat_map in_case out.cases ++ on_nexts out.nexts) (flat_map case_words out.cases ++ flat_map next_words out.nexts) (part_again out_name before out [])
    (part_both (flat_map in_case out.cases) (flat_map case_words out.cases) (on_nexts out.nexts) (flat_map next_words out.nexts)
    (part_flat case_words in_case case_part out.cases)
    (part_numbered next_words (λ k next. sent_again (take k out.nexts) next) (λ k next. next_part (take k out.nexts) next) 0 out.nexts))

atom_part : (before : List PAtom) (atom : PAtom) → IsPart (twice_in_atom before atom) (atom_words atom)
atom_part before atom =
    part_both (again atom_name before atom) (atom.name ∷ []) (of_parties atom.parties ++ in_outs atom.outs) (flat_map single atom.parties ++ flat_map out_words atom.outs) (part_again atom_name before atom [])
    (part_both (of_parties atom.parties) (flat_map single atom.parties) (in_outs atom.outs) (flat_map out_words atom.outs)
    (part_numbered single (λ i party. again (λ (other : Word). other) (take i atom.parties) party) (λ i party. part_again (λ (other : Word). other) (take i atom.parties) party []) 0 atom.parties)
    (part_numbered out_words (λ i out. twice_in_out (take i atom.outs) out) (λ i out. out_part (take i atom.outs) out) 0 atom.outs))

module _ (p : Parsed) where
  text_part : IsPart (twice_words p) (text_words p)
  text_part =
      part_both (in_agents p.agents) (flat_map (λ (agent : PAgent). agent.name ∷ []) p.agents) (in_atoms p.atoms) (flat_map atom_words p.atoms)
      (part_numbered (λ (agent : PAgent). agent.name ∷ []) (λ i agent. again (λ (other : PAgent). other.name) (take i p.agents) agent) (λ i agent. part_again (λ (other : PAgent). other.name) (take i p.agents) agent []) 0 p.agents)
      (part_numbered atom_words (λ n atom. twice_in_atom (take n p.atoms) atom) (λ n atom. atom_part (take n p.atoms) atom) 0 p.atoms)

  abbrev spot_of : Word → Spot
  spot_of word = spot word.line word.column (kinds.Twice word.text)

  pub named_listed : IsListed p NamedOnce
  named_listed = record {
    clear = λ met none. named_once p (empty_map spot_of (twice_words p) none);
    empty = λ met once. ap (of_words kinds.Twice) (none_again_in p once);
    rises = λ rises. AllPairs-map IsAhead spot_of (twice_words p) (part_of_pairs IsBefore (twice_words p) (text_words p) text_part (text_words_rise p rises));
  }
