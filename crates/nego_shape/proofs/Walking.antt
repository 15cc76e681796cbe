-- Walks back along the edges.
use Rattle.std.proofs.Common.{◌≡◌, ◌≢◌, ◌∙◌, ℕ, true, false, List, [], ◌∷◌, ◌++◌, ap, sym, subst, refl, arith, append_assoc}
use Rattle.std.specs.List.{AllPairs}
use Rattle.std.proofs.lemmas.Bool.{false≢true, true_from_ne_false}
use Rattle.std.proofs.lemmas.List.Quantifiers.{all_pairs_push}
use Rattle.nego_base.specs.Members.{is_in}
use Rattle.nego_model.specs.Negotiation.{Negotiation}
use Rattle.nego_model.specs.Acyclic.{IsEdge}
use Rattle.nego_model.proofs.expressions.Nodes.{IsPath_one, IsPath_through, IsPath-wider}
use Rattle.nego_shape.specs.Ordering.{IsLeft, IsStuck, IsLeastLeft, IsLeastBehind, WalksBack}
use Rattle.nego_shape.specs.Walks.{IsWalk}
use Rattle.nego_shape.proofs.ListPlaces.{is_in_at}
use Rattle.nego_shape.proofs.PlacedAtoms.{left_same, ready_same}

module _ (nego : Negotiation) (placed : List ℕ) where
  pub walk_begins : (start : ℕ) → IsLeastLeft nego placed start → IsWalk nego placed [] start
  walk_begins start least = record {
    start = start;
    path = [];
    all = refl;
    begins = least;
    back = refl;
    once = λ i j d lt within. absurd (let gone : ⊥ = omega (arith, within) in gone);
    left = least.left;
  }

  pub walk_more : (walk : List ℕ) (here next : ℕ) → is_in here walk ≡ false → IsLeastBehind nego placed here next → IsWalk nego placed walk here → IsWalk nego placed (walk ++ here ∷ []) next
  walk_more walk here next fresh step so_far = record {
    start = so_far.start;
    path = so_far.path ++ next ∷ [];
    all = ap (λ xs. xs ++ next ∷ []) so_far.all;
    begins = so_far.begins;
    back = IsPath_through (IsLeastBehind nego placed) so_far.path (next ∷ []) so_far.start here next so_far.back (IsPath_one (IsLeastBehind nego placed) here next step);
    once = all_pairs_push (λ m n. m ≢ n) walk here so_far.once
        (λ k d l e. let P : ℕ → Type 0 = λ x. is_in x walk ≡ true in false≢true (sym fresh ∙ subst P e (is_in_at walk k d l)));
    left = step.left;
  }

  -- a left atom has a left predecessor where none can be placed
  pub some_behind : (n : ℕ) → IsStuck nego placed → IsLeft nego placed n → ((m : ℕ) → IsEdge nego m n → IsLeft nego placed m → ⊥) → ⊥
  some_behind n stuck left none =
      stuck n (record { left = left; behind = λ m edge. true_from_ne_false _ (λ unplaced. none m edge (record { atom = edge.own.0; unplaced = unplaced })) })

  pub walk_closes : (walk : List ℕ) (again : ℕ) (lead others : List ℕ) → walk ≡ lead ++ again ∷ others → IsWalk nego placed walk again → WalksBack nego placed lead again others
  walk_closes walk again lead others parts walked = record {
    start = walked.start;
    path = walked.path;
    walk = walked.all ∙ (ap (λ xs. xs ++ again ∷ []) parts ∙ append_assoc lead (again ∷ others) (again ∷ []));
    begins = walked.begins;
    back = walked.back;
    once = subst (λ xs. AllPairs (λ m n. m ≢ n) xs) parts walked.once;
  }

-- none can be placed over an equal set
pub stuck_same : (nego : Negotiation) (xs ys : List ℕ) → ((n : ℕ) → is_in n xs ≡ is_in n ys) → IsStuck nego xs → IsStuck nego ys
stuck_same nego xs ys same stuck n ready = stuck n (ready_same nego ys xs n (λ k. sym (same k)) ready)

-- the same walk over equal sets
pub walks_same : (nego : Negotiation) (xs ys lead : List ℕ) (again : ℕ) (others : List ℕ) → ((n : ℕ) → is_in n xs ≡ is_in n ys) →
    WalksBack nego xs lead again others → WalksBack nego ys lead again others
walks_same nego xs ys lead again others same walked = record {
  start = walked.start;
  path = walked.path;
  walk = walked.walk;
  begins = record { left = there walked.start walked.begins.left; least = λ m left. walked.begins.least m (back_there m left) };
  back = IsPath-wider (IsLeastBehind nego xs) (IsLeastBehind nego ys)
      (λ n m step. record { edge = step.edge; left = there m step.left; least = λ p edge left. step.least p edge (back_there p left) })
      walked.path walked.start again walked.back;
  once = walked.once;
}
  where
    there : (n : ℕ) → IsLeft nego xs n → IsLeft nego ys n
    there n = left_same nego xs ys n same

    back_there : (n : ℕ) → IsLeft nego ys n → IsLeft nego xs n
    back_there n = left_same nego ys xs n (λ k. sym (same k))
