-- Laws of markings: what agents are ready for after others moved, and when two markings are one.
use Rattle.std.proofs.Common.{◌≡◌, ℕ, zero, suc, ◌+◌, ◌<◌, cond, List, [], ◌∷◌, length, replicate, IsTrue, refl, sym, subst, ap, ◌∙◌, arith, le_of_suc-le-suc, add-zero}
use Rattle.std.proofs.lemmas.Bool.{and_parts, and_from, cond-true, cond-false, false_from_ne_true}
use Rattle.std.proofs.lemmas.List.{ext_get_or, get_or-replicate, length-replicate}
use Rattle.std.specs.List.{list_all}
use Rattle.nego_base.specs.Members.{is_in}
use Rattle.nego_model.specs.Negotiation.{Negotiation}
use Rattle.nego_model.specs.Occurring.{PlainMarking, ready, moved, enables}
use Rattle.nego_base.proofs.Members.{all_at, all_from}

-- as many agents are there after a move as before
pub length-moved : (a : ℕ) (parties : List ℕ) (next : ℕ → List ℕ) (marking : PlainMarking) → length (moved a parties next marking) ≡ length marking
length-moved a parties next [] = refl
length-moved a parties next (here ∷ rest) = ap suc (length-moved (a + 1) parties next rest)

-- what the agent at a place is ready for after a move, where agents are numbered from n on
pub ready-moved_from : (n : ℕ) (parties : List ℕ) (next : ℕ → List ℕ) (marking : PlainMarking) (a : ℕ) → a < length marking →
    ready (moved n parties next marking) a ≡ cond (is_in (n + a) parties) (next (n + a)) (ready marking a)
ready-moved_from n parties next [] a h = absurd (let k : ⊥ = omega (arith, h) in k)
ready-moved_from n parties next (here ∷ rest) zero h = rw add-zero refl
ready-moved_from n parties next (here ∷ rest) (suc a) h =
    let e : n + 1 + a ≡ n + suc a = omega arith in
    subst (λ b. ready (moved (n + 1) parties next rest) a ≡ cond (is_in b parties) (next b) (ready rest a)) e
    (ready-moved_from (n + 1) parties next rest a (le_of_suc-le-suc h))

-- what an agent is ready for after a move
pub ready-moved : (parties : List ℕ) (next : ℕ → List ℕ) (marking : PlainMarking) (a : ℕ) → a < length marking →
    ready (moved 0 parties next marking) a ≡ cond (is_in a parties) (next a) (ready marking a)
ready-moved parties next marking a h =
    let e : 0 + a ≡ a = omega arith in
    subst (λ b. ready (moved 0 parties next marking) a ≡ cond (is_in b parties) (next b) (ready marking a)) e
    (ready-moved_from 0 parties next marking a h)

-- a party that has moved is ready for its next atoms
pub ready-moved_party : (parties : List ℕ) (next : ℕ → List ℕ) (marking : PlainMarking) (a : ℕ) → a < length marking →
    IsTrue (is_in a parties) → ready (moved 0 parties next marking) a ≡ next a
ready-moved_party parties next marking a h p =
    ready-moved parties next marking a h ∙ cond-true (is_in a parties) (next a) (ready marking a) p

-- who is no party is ready for the same as before
pub ready-moved_other : (parties : List ℕ) (next : ℕ → List ℕ) (marking : PlainMarking) (a : ℕ) → a < length marking →
    ¬ IsTrue (is_in a parties) → ready (moved 0 parties next marking) a ≡ ready marking a
ready-moved_other parties next marking a h p =
    ready-moved parties next marking a h ∙ cond-false (is_in a parties) (next a) (ready marking a) (false_from_ne_true (is_in a parties) p)

-- two markings of as many agents are one where each agent is ready for the same
pub same_markings : (one two : PlainMarking) → length one ≡ length two → ((a : ℕ) → a < length one → ready one a ≡ ready two a) → one ≡ two
same_markings one two l h = ext_get_or [] one two l h

-- what each of n agents is ready for who are ready for the same
pub ready-replicate : (n a : ℕ) (here : List ℕ) → a < n → ready (replicate n here) a ≡ here
ready-replicate n a here h = get_or-replicate n a here [] h

-- a marking in which each of n agents is ready for the same
pub same_for_all : (n : ℕ) (here : List ℕ) (marking : PlainMarking) → length marking ≡ n → ((a : ℕ) → a < n → ready marking a ≡ here) → marking ≡ replicate n here
same_for_all n here marking l h =
    same_markings marking (replicate n here) (l ∙ sym (length-replicate n here))
    (λ a k. let q : a < n = subst (λ m. a < m) l k in h a q ∙ sym (ready-replicate n a here q))

-- what is enabled is an atom
pub enables-atom : (nego : Negotiation) (marking : PlainMarking) (n : ℕ) → IsTrue (enables nego marking n) → IsTrue (is_in n nego.atoms)
enables-atom nego marking n h = (and_parts (is_in n nego.atoms) (list_all (λ a. is_in n (ready marking a)) (nego.parties n)) h).0

-- each party of what is enabled is ready for it
pub enables-party : (nego : Negotiation) (marking : PlainMarking) (n a : ℕ) → IsTrue (enables nego marking n) → IsTrue (is_in a (nego.parties n)) → IsTrue (is_in n (ready marking a))
enables-party nego marking n a h p =
    all_at (λ b. is_in n (ready marking b)) (nego.parties n) a (and_parts (is_in n nego.atoms) (list_all (λ b. is_in n (ready marking b)) (nego.parties n)) h).1 p

-- an atom is enabled where each party is ready for it
pub enables_from : (nego : Negotiation) (marking : PlainMarking) (n : ℕ) → IsTrue (is_in n nego.atoms) →
    ((a : ℕ) → IsTrue (is_in a (nego.parties n)) → IsTrue (is_in n (ready marking a))) → IsTrue (enables nego marking n)
enables_from nego marking n there h =
    and_from (is_in n nego.atoms) (list_all (λ a. is_in n (ready marking a)) (nego.parties n)) there
    (all_from (λ a. is_in n (ready marking a)) (nego.parties n) h)
