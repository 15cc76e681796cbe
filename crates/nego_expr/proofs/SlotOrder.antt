-- The order of slots: it is total, and tells slots apart.
use Rattle.std.proofs.Common.{◌≡◌, ◌≢◌, ◌↔◌, ◌⊎◌, inl, inr, ⊎_elim, ◌<◌, false, ℕ, zero, suc, List, [], ◌∷◌, map, Some, None, IsTrue, refl, sym, subst, ap, ap₂, ◌∙◌, arith}
use Rattle.std.specs.List.{Contains}
use Rattle.std.specs.Option.{option_cmp}
use Rattle.std.specs.Ordering.{MatchOrdering, nat_cmp, ordering_then, is_eq}
use Rattle.std.specs.Cmp.{IsTotalOrder, nat_cmp_is, ranked}
use Rattle.std.specs.Cmp.Derive.Mapped.{lex_map}
use Rattle.std.specs.Cmp.Lexicographic.{slice_cmp, lists_total, options_total}
use Rattle.std.specs.declared.cmp.Ordering.{Ordering}
use Rattle.std.specs.declared.cmp.Ordering.TheVariants.{Less, Equal, Greater}
use Rattle.std.proofs.lemmas.Bool.{false≢true}
use Rattle.std.proofs.lemmas.Cmp.{nat_cmp_total, on_total, then_total, tied_itself}
use Rattle.std.proofs.lemmas.Map.Lookups.{CmpEqualImpliesEq, exact_unsigned}
use Rattle.nego_expr.specs.Sorted.{PlainSlot, slot_cmp}
use Rattle.nego_expr.specs.Targets.{target_of}

pub slot_order : IsTotalOrder slot_cmp
slot_order =
    then_total (on_total (λ (s : PlainSlot). s.atom) nat_cmp_total)
    (then_total (on_total (λ (s : PlainSlot). s.targets) (lists_total (options_total nat_cmp_total))) (on_total (λ (s : PlainSlot). s.outcome) nat_cmp_total))

-- one more on either side changes no answer
shifted : (m n : ℕ) (r : Ordering) → MatchOrdering r (m < n) (m ≡ n) (n < m) → MatchOrdering r (suc m < suc n) (suc m ≡ suc n) (suc n < suc m)
shifted m n Less h = omega (arith, h)
shifted m n Equal h = ap suc h
shifted m n Greater h = omega (arith, h)

-- targets compare as the bytes that are kept of them
maybe_kept : (p q : ℕ) → nat_cmp p q ≡ option_cmp nat_cmp (target_of p) (target_of q)
maybe_kept zero zero = refl
maybe_kept zero (suc n) = sym (nat_cmp_is zero (suc n) Less (omega arith))
maybe_kept (suc m) zero = sym (nat_cmp_is (suc m) zero Greater (omega arith))
maybe_kept (suc m) (suc n) = sym (nat_cmp_is (suc m) (suc n) (nat_cmp m n) (shifted m n (nat_cmp m n) (ranked m n (nat_cmp m n) refl)))

pub targets_kept : (ps qs : List ℕ) → slice_cmp nat_cmp ps qs ≡ slice_cmp (option_cmp nat_cmp) (map target_of ps) (map target_of qs)
targets_kept ps qs = ap (λ R. slice_cmp R ps qs) (λ i p q. maybe_kept p q i) ∙ sym (lex_map target_of (option_cmp nat_cmp) ps qs)

-- ---- what compares equal is equal

then_parts : (a b : Ordering) → ordering_then a b ≡ Equal → (a ≡ Equal) × (b ≡ Equal)
then_parts Less b h = absurd (false≢true (ap is_eq h))
then_parts Equal b h = (refl, h)
then_parts Greater b h = absurd (false≢true (ap is_eq h))

exact_maybe : CmpEqualImpliesEq (option_cmp nat_cmp)
exact_maybe None None h = refl
exact_maybe None (Some n) h = absurd (false≢true (ap is_eq h))
exact_maybe (Some m) None h = absurd (false≢true (ap is_eq h))
exact_maybe (Some m) (Some n) h = ap Some (exact_unsigned m n h)

exact_lists : {X : Type 0} (R : X → X → Ordering) → CmpEqualImpliesEq R → CmpEqualImpliesEq (slice_cmp R)
exact_lists R e [] [] h = refl
exact_lists R e [] (y ∷ ys) h = absurd (false≢true (ap is_eq h))
exact_lists R e (x ∷ xs) [] h = absurd (false≢true (ap is_eq h))
exact_lists R e (x ∷ xs) (y ∷ ys) h = let k = then_parts (R x y) (slice_cmp R xs ys) h in ap₂ ◌∷◌ (e x y k.0) (exact_lists R e xs ys k.1)

pub exact_targets : CmpEqualImpliesEq (slice_cmp (option_cmp nat_cmp))
exact_targets = exact_lists (option_cmp nat_cmp) exact_maybe

pub exact_slots : CmpEqualImpliesEq slot_cmp
exact_slots s t h =
    let k = then_parts (nat_cmp s.atom t.atom) (ordering_then (slice_cmp (option_cmp nat_cmp) s.targets t.targets) (nat_cmp s.outcome t.outcome)) h in
    let l = then_parts (slice_cmp (option_cmp nat_cmp) s.targets t.targets) (nat_cmp s.outcome t.outcome) k.1 in
    λ i. record { atom = exact_unsigned s.atom t.atom k.0 i; targets = exact_targets s.targets t.targets l.0 i; outcome = exact_unsigned s.outcome t.outcome l.1 i }

pub equal_is : (r : Ordering) → IsTrue (is_eq r) → r ≡ Equal
equal_is Less h = absurd (false≢true h)
equal_is Equal h = refl
equal_is Greater h = absurd (false≢true h)

-- a slot of a list is another than the one, or the one
pub same_slots : (xs : List PlainSlot) (z : PlainSlot) → Contains xs z → (slot : PlainSlot) → Contains xs slot ↔ ((Contains xs slot × (slot ≢ z)) ⊎ (slot ≡ z))
same_slots xs z there slot = (λ c. go (slot_cmp slot z) refl c, λ h. ⊎_elim (λ k. k.0) (λ e. subst (Contains xs) (sym e) there) h)
  where
    apart : (r : Ordering) → slot_cmp slot z ≡ r → is_eq r ≡ false → slot ≢ z
    apart r e f q = false≢true (sym f ∙ ap is_eq (sym e ∙ (ap (λ s. slot_cmp s z) q ∙ tied_itself slot_order z)))

    go : (r : Ordering) → slot_cmp slot z ≡ r → Contains xs slot → (Contains xs slot × (slot ≢ z)) ⊎ (slot ≡ z)
    go Less e c = inl (c, apart Less e refl)
    go Equal e c = inr (exact_slots slot z e)
    go Greater e c = inl (c, apart Greater e refl)
