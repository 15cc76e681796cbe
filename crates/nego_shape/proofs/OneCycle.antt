-- There is one cycle that is found.
use Rattle.std.proofs.Common.{◌≡◌, ◌≢◌, ◌∙◌, ℕ, ◌+◌, ◌-◌, ◌<◌, ◌≤◌, true, List, [], ◌∷◌, ◌++◌, length, take, drop, reverse, get_or, ap, sym, subst, refl, ⊎_elim, arith, append_assoc}
use Rattle.std.specs.List.{AllPairs}
use Rattle.std.proofs.lemmas.Bool.{cases_lt}
use Rattle.std.proofs.lemmas.List.{length-append, get_or_append_left, append-nil, get_or-reverse, length-reverse, get_or-append-add}
use Rattle.std.proofs.Math.Seq.{take-append_seam, drop-append_seam, get_or-append_seam}
use Rattle.nego_base.specs.Members.{is_in}
use Rattle.nego_base.proofs.Members.{All-member, is_in-head}
use Rattle.nego_model.specs.Negotiation.{Negotiation}
use Rattle.nego_model.specs.Expression.{IsPath}
use Rattle.nego_shape.specs.Ordering.{IsLeastBehind, WalksBack, IsTurned, IsFoundCycle}
use Rattle.nego_shape.proofs.ListPlaces.{in_right, in_reverse}
use Rattle.nego_shape.proofs.OneOrder.{one_placed_list}

-- of two paths of a relation that leads to one item alone, the longer goes on where the shorter ends
path_goes_on : (relation : ℕ → ℕ → Type 0) → ((a b c : ℕ) → relation a b → relation a c → b ≡ c) → (p q : List ℕ) (a x y : ℕ) →
    IsPath relation a p x → IsPath relation a q y → length p ≤ length q → (rest : List ℕ) × (q ≡ p ++ rest)
path_goes_on relation one [] q a x y h k l = (q, refl)
path_goes_on relation one (c ∷ p) [] a x y h k l = absurd (let gone : ⊥ = omega (arith, l) in gone)
path_goes_on relation one (c ∷ p) (d ∷ q) a x y h k l =
    let e : c ≡ d = one a c d h.0 k.0 in
    let P : ℕ → Type 0 = λ n. IsPath relation n q y in
    let more = path_goes_on relation one p q c x y h.1 (subst P (sym e) k.1) (omega (arith, l)) in
    (more.0, ap (λ n. n ∷ q) (sym e) ∙ ap (λ xs. c ∷ xs) more.1)

-- in a list of different items, equal items stand at one place
one_place : (xs : List ℕ) (i j : ℕ) → AllPairs (λ m n. m ≢ n) xs → i < length xs → j < length xs → get_or xs i 0 ≡ get_or xs j 0 → i ≡ j
one_place xs i j once within there e =
    ⊎_elim
    (λ l. absurd (once i j 0 l there e))
    (λ past. ⊎_elim (λ l. absurd (once j i 0 l within (sym e))) (λ last. omega (arith, past, last)) (cases_lt j i))
    (cases_lt i j)

-- a list of different items is cut at an item in one way
one_cut : (lead other : List ℕ) (a b : ℕ) (rest more : List ℕ) → a ≡ b → AllPairs (λ m n. m ≢ n) (lead ++ a ∷ rest) → lead ++ a ∷ rest ≡ other ++ b ∷ more → (lead ≡ other) × (a ∷ rest ≡ b ∷ more)
one_cut lead other a b rest more same once e =
    let xs = lead ++ a ∷ rest in
    let size = length-append lead (a ∷ rest) in
    let size_other : length xs ≡ length other + length (b ∷ more) = ap length e ∙ length-append other (b ∷ more) in
    let at_other : get_or xs (length other) 0 ≡ b = ap (λ ys. get_or ys (length other) 0) e ∙ get_or-append_seam other b more 0 in
    let place : length lead ≡ length other =
    one_place xs (length lead) (length other) once (omega (arith, size)) (omega (arith, size_other)) (get_or-append_seam lead a rest 0 ∙ (same ∙ sym at_other)) in (
      sym (take-append_seam lead (a ∷ rest)) ∙ (ap (λ k. take k xs) place ∙ (ap (take (length other)) e ∙ take-append_seam other (b ∷ more))),
      sym (drop-append_seam lead (a ∷ rest)) ∙ (ap (λ k. drop k xs) place ∙ (ap (drop (length other)) e ∙ drop-append_seam other (b ∷ more))),
    )

module _ (nego : Negotiation) (placed : List ℕ) where
  one_behind : (a b c : ℕ) → IsLeastBehind nego placed a b → IsLeastBehind nego placed a c → b ≡ c
  one_behind a b c h k = let l = h.least c k.edge k.left in let r = k.least b h.edge h.left in omega (arith, l, r)

  module _ (lead : List ℕ) (again : ℕ) (others : List ℕ) (lead' : List ℕ) (again' : ℕ) (others' : List ℕ) (walk : WalksBack nego placed lead again others) (walk' : WalksBack nego placed lead' again' others') where
    same_start : walk.start ≡ walk'.start
    same_start = let l = walk.begins.least walk'.start walk'.begins.left in let r = walk'.begins.least walk.start walk.begins.left in omega (arith, l, r)

    -- the walks without the second coming
    whole : walk.start ∷ walk.path ≡ (lead ++ again ∷ others) ++ again ∷ []
    whole = walk.walk ∙ sym (append_assoc lead (again ∷ others) (again ∷ []))

    whole' : walk'.start ∷ walk'.path ≡ (lead' ++ again' ∷ others') ++ again' ∷ []
    whole' = walk'.walk ∙ sym (append_assoc lead' (again' ∷ others') (again' ∷ []))

    goes_on : length walk.path ≤ length walk'.path → (rest : List ℕ) × (walk'.start ∷ walk'.path ≡ (walk.start ∷ walk.path) ++ rest)
    goes_on l =
        let P : ℕ → Type 0 = λ n. IsPath (IsLeastBehind nego placed) n walk'.path again' in
        let more = path_goes_on (IsLeastBehind nego placed) one_behind walk.path walk'.path walk.start again again' walk.back (subst P (sym same_start) walk'.back) l in
        (more.0, ap (λ n. n ∷ walk'.path) (sym same_start) ∙ ap (λ xs. walk.start ∷ xs) more.1)

    -- the other walk isn't longer
    pub no_longer : length walk.path < length walk'.path → ⊥
    no_longer l =
        let more = goes_on (omega (arith, l)) in
        let size = ap length whole in
        let size' = ap length whole' in
        let s = length-append (lead ++ again ∷ others) (again ∷ []) in
        let s' = length-append (lead' ++ again' ∷ others') (again' ∷ []) in
        let t = length-append lead (again ∷ others) in
        let i = length lead in
        let j = length (lead ++ again ∷ others) in
        let lt : i < j = omega (arith, t) in
        let within : j < length (lead' ++ again' ∷ others') = omega (arith, l, size, size', s, s') in
        walk'.once i j 0 lt within (at i again more.0 more.1 lt within (first_coming lt) ∙ sym (at' j more.0 more.1 within))
      where
        first_coming : length lead < length (lead ++ again ∷ others) → get_or ((lead ++ again ∷ others) ++ again ∷ []) (length lead) 0 ≡ again
        first_coming lt = get_or_append_left (lead ++ again ∷ others) (again ∷ []) 0 (length lead) lt ∙ get_or-append_seam lead again others 0

        read : (k : ℕ) (rest : List ℕ) → walk'.start ∷ walk'.path ≡ (walk.start ∷ walk.path) ++ rest → k < length (walk.start ∷ walk.path) → k < length (lead' ++ again' ∷ others') →
            get_or (lead' ++ again' ∷ others') k 0 ≡ get_or ((lead ++ again ∷ others) ++ again ∷ []) k 0
        read k rest e short within =
            sym (get_or_append_left (lead' ++ again' ∷ others') (again' ∷ []) 0 k within)
            ∙ (ap (λ xs. get_or xs k 0) (sym whole' ∙ e) ∙ (get_or_append_left (walk.start ∷ walk.path) rest 0 k short ∙ ap (λ xs. get_or xs k 0) whole))

        at : (k x : ℕ) (rest : List ℕ) → walk'.start ∷ walk'.path ≡ (walk.start ∷ walk.path) ++ rest → k < length (lead ++ again ∷ others) → length (lead ++ again ∷ others) < length (lead' ++ again' ∷ others') →
            get_or ((lead ++ again ∷ others) ++ again ∷ []) k 0 ≡ x → get_or (lead' ++ again' ∷ others') k 0 ≡ x
        at k x rest e below within here =
            let size = ap length whole in
            let s = length-append (lead ++ again ∷ others) (again ∷ []) in
            read k rest e (omega (arith, below, size, s)) (omega (arith, below, within)) ∙ here

        at' : (j : ℕ) (rest : List ℕ) → walk'.start ∷ walk'.path ≡ (walk.start ∷ walk.path) ++ rest → length (lead ++ again ∷ others) < length (lead' ++ again' ∷ others') →
            get_or (lead' ++ again' ∷ others') (length (lead ++ again ∷ others)) 0 ≡ again
        at' j rest e within =
            let size = ap length whole in
            let s = length-append (lead ++ again ∷ others) (again ∷ []) in
            read (length (lead ++ again ∷ others)) rest e (omega (arith, size, s)) within ∙ get_or-append_seam (lead ++ again ∷ others) again [] 0

    -- walks of one length turn at one atom, and have the same atoms behind it
    pub same_round : length walk.path ≡ length walk'.path → again ∷ others ≡ again' ∷ others'
    same_round l =
        let more = goes_on (omega (arith, l)) in
        let grown : length (walk'.start ∷ walk'.path) ≡ length (walk.start ∷ walk.path) + length more.0 = ap length more.1 ∙ length-append (walk.start ∷ walk.path) more.0 in
        let none : length more.0 ≡ 0 = omega (arith, grown, l) in
        let same : walk'.start ∷ walk'.path ≡ walk.start ∷ walk.path = more.1 ∙ (ap (λ xs. (walk.start ∷ walk.path) ++ xs) (empty more.0 none) ∙ append-nil (walk.start ∷ walk.path)) in
        let all : (lead ++ again ∷ others) ++ again ∷ [] ≡ (lead' ++ again' ∷ others') ++ again' ∷ [] = sym whole ∙ (sym same ∙ whole') in
        let s = length-append (lead ++ again ∷ others) (again ∷ []) in
        let s' = length-append (lead' ++ again' ∷ others') (again' ∷ []) in
        let e = ap length all in
        let size : length (lead ++ again ∷ others) ≡ length (lead' ++ again' ∷ others') = omega (arith, e, s, s') in
        let fronts : lead ++ again ∷ others ≡ lead' ++ again' ∷ others' =
        sym (take-append_seam (lead ++ again ∷ others) (again ∷ []))
        ∙ (ap (λ k. take k ((lead ++ again ∷ others) ++ again ∷ [])) size ∙ (ap (take (length (lead' ++ again' ∷ others'))) all ∙ take-append_seam (lead' ++ again' ∷ others') (again' ∷ []))) in
        let ends : again ≡ again' =
        sym (get_or-append_seam (lead ++ again ∷ others) again [] 0)
        ∙ (ap (λ k. get_or ((lead ++ again ∷ others) ++ again ∷ []) k 0) size ∙ (ap (λ xs. get_or xs (length (lead' ++ again' ∷ others')) 0) all ∙ get_or-append_seam (lead' ++ again' ∷ others') again' [] 0)) in
        (one_cut lead lead' again again' others others' ends walk.once fronts).1
      where
        empty : (xs : List ℕ) → length xs ≡ 0 → xs ≡ []
        empty [] h = refl
        empty (x ∷ xs) h = absurd (let gone : ⊥ = omega (arith, h) in gone)

-- a list of different items is turned in one way
one_turn : (round turned other : List ℕ) → AllPairs (λ m n. m ≢ n) (reverse round) → IsTurned round turned → IsTurned round other → turned ≡ other
one_turn round turned other once h k =
    let l : h.lowest ≤ k.lowest = All-member (λ n. h.lowest ≤ n) k.lowest round h.least (in_round k.front k.lowest k.rest k.parts) in
    let r : k.lowest ≤ h.lowest = All-member (λ n. k.lowest ≤ n) h.lowest round k.least (in_round h.front h.lowest h.rest h.parts) in
    let e : h.lowest ≡ k.lowest = omega (arith, l, r) in
    let cut = one_cut h.front k.front h.lowest k.lowest h.rest k.rest e (subst (AllPairs (λ m n. m ≢ n)) h.parts once) (sym h.parts ∙ k.parts) in
    h.rotated ∙ (ap (λ xs. xs ++ h.front) cut.1 ∙ (ap (λ xs. (k.lowest ∷ k.rest) ++ xs) cut.0 ∙ sym k.rotated))
  where
    in_round : (front : List ℕ) (x : ℕ) (rest : List ℕ) → reverse round ≡ front ++ x ∷ rest → is_in x round ≡ true
    in_round front x rest parts = in_reverse x round (ap (is_in x) parts ∙ in_right x front (x ∷ rest) (is_in-head x rest))

-- the items stay different in a list that is turned round, or behind others
different_back : (xs : List ℕ) → AllPairs (λ m n. m ≢ n) xs → AllPairs (λ m n. m ≢ n) (reverse xs)
different_back xs once i j d lt within e =
    let size = length-reverse xs in
    let there : j < length xs = omega (arith, within, size) in
    let here : i < length xs = omega (arith, lt, there) in
    once (length xs - 1 - j) (length xs - 1 - i) d (omega (arith, lt, there)) (omega (arith, here)) (sym (get_or-reverse xs j d there) ∙ (sym e ∙ get_or-reverse xs i d here))

different_behind : (lead xs : List ℕ) → AllPairs (λ m n. m ≢ n) (lead ++ xs) → AllPairs (λ m n. m ≢ n) xs
different_behind lead xs once i j d lt within e =
    let size = length-append lead xs in
    once (length lead + i) (length lead + j) d (omega (arith, lt)) (omega (arith, within, size)) (get_or-append-add lead xs i d ∙ (e ∙ sym (get_or-append-add lead xs j d)))

one_round : (nego : Negotiation) (placed lead : List ℕ) (again : ℕ) (others lead' : List ℕ) (again' : ℕ) (others' : List ℕ) → WalksBack nego placed lead again others → WalksBack nego placed lead' again' others' → again ∷ others ≡ again' ∷ others'
one_round nego placed lead again others lead' again' others' h k =
    ⊎_elim
    (λ l. absurd (no_longer nego placed lead again others lead' again' others' h k l))
    (λ past. ⊎_elim
    (λ l. absurd (no_longer nego placed lead' again' others' lead again others k h l))
    (λ last. same_round nego placed lead again others lead' again' others' h k (omega (arith, past, last)))
    (cases_lt (length k.path) (length h.path)))
    (cases_lt (length h.path) (length k.path))

pub one_cycle : (nego : Negotiation) (cycle other : List ℕ) → IsFoundCycle nego cycle → IsFoundCycle nego other → cycle ≡ other
one_cycle nego cycle other h k =
    let placed : k.placed ≡ h.placed = one_placed_list nego k.placed h.placed k.least h.least k.stuck h.stuck in
    let round : h.again ∷ h.others ≡ k.again ∷ k.others =
    one_round nego h.placed h.lead h.again h.others k.lead k.again k.others h.walk (subst (λ xs. WalksBack nego xs k.lead k.again k.others) placed k.walk) in
    one_turn (h.again ∷ h.others) cycle other (different_back (h.again ∷ h.others) (different_behind h.lead (h.again ∷ h.others) h.walk.once)) h.turned (subst (λ xs. IsTurned xs other) (sym round) k.turned)
