-- The predecessors of an atom that the outcomes so far give.
use Rattle.std.proofs.Common.{◌≡◌, ◌∙◌, ◌↔◌, ◌⊎◌, ℕ, ◌+◌, ◌<◌, ◌≤◌, Bool, true, false, ◌||◌, ◌==◌, List, [], length, IsTrue, ap, sym, subst, refl, ⊎_elim, arith, eqb-true, eq-eqb, inl, inr}
use Rattle.std.proofs.lemmas.Bool.{cases_lt, true≢false}
use Rattle.nego_base.specs.Members.{is_in, with_member}
use Rattle.nego_base.proofs.Members.{is_in_none, is_in-with}
use Rattle.nego_model.specs.Negotiation.{IsOutcome}
use Rattle.nego_model.specs.Diagram.{PlainDiagram, IsDiagram, negotiation_of, nexts_of}
use Rattle.nego_model.specs.Acyclic.{IsEdge}
use Rattle.nego_model.proofs.diagrams.Negotiations.{same_atom}
use Rattle.nego_model.proofs.diagrams.Undetermined.{outcome_below, agent_below}

-- Each found atom has an edge to n; and where one of the outcomes so far leads to n, its atom is found.
pub record FoundSoFar (diagram : PlainDiagram) (n : ℕ) (found : List ℕ) (count : ℕ) : Type 0 where
  pub edges : (m : ℕ) → IsTrue (is_in m found) → IsEdge (negotiation_of diagram) m n
  pub all : (m o a : ℕ) → o < count → IsOutcome (negotiation_of diagram) m o → a < length diagram.agents → IsTrue (is_in n (nexts_of diagram o a)) → IsTrue (is_in m found)

-- the number that is added is a member, and the members stay
pub member-with : (x y : ℕ) (xs : List ℕ) → IsTrue (is_in x (with_member y xs)) → (x ≡ y) ⊎ IsTrue (is_in x xs)
member-with x y xs h = go (y == x) refl (sym (is_in-with x y xs) ∙ h)
  where
    go : (b : Bool) → (y == x) ≡ b → (b || is_in x xs) ≡ true → (x ≡ y) ⊎ IsTrue (is_in x xs)
    go true e q = inl (sym (eqb-true y x e))
    go false e q = inr q

pub added-member : (x y : ℕ) (xs : List ℕ) → x ≡ y → IsTrue (is_in x (with_member y xs))
added-member x y xs e = is_in-with x y xs ∙ ap (λ b. b || is_in x xs) (eq-eqb y x (sym e))

pub kept-member : (x y : ℕ) (xs : List ℕ) → IsTrue (is_in x xs) → IsTrue (is_in x (with_member y xs))
kept-member x y xs h = is_in-with x y xs ∙ (ap (λ b. (y == x) || b) h ∙ or-true (y == x))
  where
    or-true : (b : Bool) → (b || true) ≡ true
    or-true true = refl
    or-true false = refl

module _ (diagram : PlainDiagram) (n : ℕ) where
  pub none_found : FoundSoFar diagram n [] 0
  none_found = record {
    edges = λ m h. absurd (is_in_none m [] refl h);
    all = λ m o a l outcome below h. absurd (let gone : ⊥ = omega (arith, l) in gone);
  }

  -- the outcome leads to n from its atom
  pub found_more : (found : List ℕ) (count own : ℕ) → IsOutcome (negotiation_of diagram) own count → ((a : ℕ) × IsTrue (is_in n (nexts_of diagram count a))) →
      FoundSoFar diagram n found count → FoundSoFar diagram n (with_member own found) (count + 1)
  found_more found count own outcome leads so_far = record {
    edges = λ m h. ⊎_elim
        (λ e. record { outcome = count; agent = leads.0; own = subst (λ x. IsOutcome (negotiation_of diagram) x count) (sym e) outcome; leads = leads.1 })
        (so_far.edges m) (member-with m own found h);
    all = λ m o a l its below h. ⊎_elim
        (λ earlier. kept-member m own found (so_far.all m o a earlier its below h))
        (λ here. added-member m own found (same_atom diagram m own count (let e : o ≡ count = omega (arith, here, l) in subst (λ x. IsOutcome (negotiation_of diagram) m x) e its) outcome))
        (cases_lt o count);
  }

  -- the outcome doesn't lead to n
  pub found_nothing : (found : List ℕ) (count : ℕ) → ((a : ℕ) → a < length diagram.agents → is_in n (nexts_of diagram count a) ≡ false) →
      FoundSoFar diagram n found count → FoundSoFar diagram n found (count + 1)
  found_nothing found count none so_far = record {
    edges = so_far.edges;
    all = λ m o a l its below h. ⊎_elim
        (λ earlier. so_far.all m o a earlier its below h)
        (λ here. absurd (let e : o ≡ count = omega (arith, here, l) in let h' : IsTrue (is_in n (nexts_of diagram count a)) = subst (λ x. IsTrue (is_in n (nexts_of diagram x a))) e h in true≢false (sym h' ∙ none a below)))
        (cases_lt o count);
  }

  pub all_found : (found : List ℕ) (count : ℕ) → IsDiagram diagram → length diagram.outcomes ≤ count → FoundSoFar diagram n found count →
      (m : ℕ) → IsTrue (is_in m found) ↔ IsEdge (negotiation_of diagram) m n
  all_found found count formed enough so_far m = (
    so_far.edges m,
    λ edge. so_far.all m edge.outcome edge.agent (let l : edge.outcome < length diagram.outcomes = outcome_below diagram formed edge.outcome edge.agent n edge.leads in omega (arith, l, enough)) edge.own
        (agent_below diagram formed m edge.outcome edge.agent n edge.own edge.leads) edge.leads,
  )
