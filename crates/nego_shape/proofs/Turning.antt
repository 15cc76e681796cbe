-- The cycle that a walk back closes.
use Rattle.std.proofs.Common.{◌≡◌, ◌∙◌, ℕ, ◌+◌, ◌<◌, ◌≤◌, List, [], ◌∷◌, ◌++◌, length, take, drop, reverse, get_or, ap, sym, subst, refl, arith, append_assoc}
use Rattle.std.proofs.lemmas.List.{append-nil, reverse-append, take-append-drop, take_more, length-append}
use Rattle.nego_base.proofs.Members.{All-members}
use Rattle.nego_model.specs.Negotiation.{Negotiation}
use Rattle.nego_model.specs.Expression.{IsPath}
use Rattle.nego_model.specs.Acyclic.{IsEdge}
use Rattle.nego_model.proofs.expressions.Nodes.{IsPath_through}
use Rattle.nego_shape.specs.Ordering.{IsLeastBehind, WalksBack, IsTurned, IsCycle}
use Rattle.nego_shape.proofs.ListPlaces.{place_in, reverse-cons}

-- the list behind its first item
tail_of : List ℕ → List ℕ
tail_of [] = []
tail_of (x ∷ xs) = xs

-- the part of a path from an atom on
path_from : (relation : ℕ → ℕ → Type 0) (lead : List ℕ) (d : ℕ) (path rest : List ℕ) (x e : ℕ) → d ∷ path ≡ lead ++ x ∷ rest → IsPath relation d path e → IsPath relation x rest e
unfolding tail_of
path_from relation [] d path rest x e same h =
    let head : d ≡ x = ap (λ xs. get_or xs 0 0) same in
    let behind : path ≡ rest = ap tail_of same in
    let P : ℕ → Type 0 = λ n. IsPath relation n rest e in
    subst P head (subst (λ xs. IsPath relation d xs e) behind h)
path_from relation (y ∷ lead) d [] rest x e same h =
    absurd (let size : 0 ≡ length (lead ++ x ∷ rest) = ap length (ap tail_of same) in let both = length-append lead (x ∷ rest) in let gone : ⊥ = omega (arith, size, both) in gone)
path_from relation (y ∷ lead) d (c ∷ path) rest x e same h = path_from relation lead c path rest x e (ap tail_of same) h.1

-- a path from one atom to another, turned round
path_back : (relation back : ℕ → ℕ → Type 0) → ((m n : ℕ) → relation m n → back n m) → (others : List ℕ) (a b : ℕ) → IsPath relation a (others ++ b ∷ []) b → IsPath back b (reverse others ++ a ∷ []) a
path_back relation back turn [] a b h = (turn a b h.0, refl)
path_back relation back turn (m ∷ others) a b h =
    subst (λ xs. IsPath back b (xs ++ a ∷ []) a) (sym (reverse-cons m others))
    (IsPath_through back (reverse others ++ m ∷ []) (a ∷ []) b m a (path_back relation back turn others m b h.1) (turn a m h.0, refl))

-- a cycle that begins with its second atom
rotate_one : (nego : Negotiation) (p : ℕ) (rest : List ℕ) → IsCycle nego (p ∷ rest) → IsCycle nego (rest ++ p ∷ [])
rotate_one nego p [] h = h
rotate_one nego p (q ∷ rest) h = IsPath_through (IsEdge nego) (rest ++ p ∷ []) (q ∷ []) q p q h.1 (h.0, refl)

rotate : (nego : Negotiation) (front rest : List ℕ) → IsCycle nego (front ++ rest) → IsCycle nego (rest ++ front)
rotate nego [] rest h = subst (IsCycle nego) (sym (append-nil rest)) h
rotate nego (p ∷ front) rest h =
    subst (IsCycle nego) (append_assoc rest (p ∷ []) front)
    (rotate nego front (rest ++ p ∷ []) (subst (IsCycle nego) (append_assoc front rest (p ∷ [])) (rotate_one nego p (front ++ rest) h)))

-- the found cycle is one
pub goes_round : (nego : Negotiation) (placed lead : List ℕ) (again : ℕ) (others cycle : List ℕ) → WalksBack nego placed lead again others → IsTurned (again ∷ others) cycle → IsCycle nego cycle
goes_round nego placed lead again others cycle walked turned =
    let behind : IsPath (IsLeastBehind nego placed) again (others ++ again ∷ []) again =
    path_from (IsLeastBehind nego placed) lead walked.start walked.path (others ++ again ∷ []) again again walked.walk walked.back in
    let ahead : IsCycle nego (again ∷ reverse others) = path_back (IsLeastBehind nego placed) (IsEdge nego) (λ m n step. step.edge) others again again behind in
    let round : IsCycle nego (reverse (again ∷ others)) = subst (IsCycle nego) (sym (reverse-cons again others)) (rotate_one nego again (reverse others) ahead) in
    subst (IsCycle nego) (sym turned.rotated) (rotate nego turned.front (turned.lowest ∷ turned.rest) (subst (IsCycle nego) turned.parts round))

-- turned round from the place of the least on
pub turned_from : (round : List ℕ) (j : ℕ) → j < length round → ((k : ℕ) → k < length round → get_or round j 0 ≤ get_or round k 0) →
    IsTurned round (reverse (take (j + 1) round) ++ reverse (drop (j + 1) round))
turned_from round j within least = record {
  front = reverse (drop (j + 1) round);
  lowest = get_or round j 0;
  rest = reverse (take j round);
  parts = ap reverse (sym (take-append-drop (j + 1) round)) ∙ (reverse-append (take (j + 1) round) (drop (j + 1) round) ∙ ap (λ xs. reverse (drop (j + 1) round) ++ xs) first);
  rotated = ap (λ xs. xs ++ reverse (drop (j + 1) round)) first;
  least = All-members (λ n. get_or round j 0 ≤ n) round (λ m h.
      let k = place_in m round h in
      let P : ℕ → Type 0 = λ n. get_or round j 0 ≤ n in
      subst P k.2 (least k.0 k.1));
}
  where
    first : reverse (take (j + 1) round) ≡ get_or round j 0 ∷ reverse (take j round)
    first = ap reverse (take_more round j 0 within) ∙ reverse-append (take j round) (get_or round j 0 ∷ [])
