-- Laws of the edit calls: what they make of the alive outcomes, in the words of the effects of the rules.
use Rattle.std.proofs.Common.{◌≡◌, ℕ, List, Option, Some, None, is_some, false, refl, sym, ap, ◌∙◌, rules, Bool, IsTrue, subst}
use Rattle.std.proofs.lemmas.Bool.{false≢true}
use Rattle.std.proofs.lemmas.Option.{none-some, same_Some}
use Rattle.std.proofs.lemmas.List.Elements.{All-weaker}
use Rattle.std.specs.List.{All}
use Rattle.std.specs.Option.{IsSome, option_map_or}
use Rattle.nego_base.specs.Members.{IsRising}
use Rattle.nego_expr.specs.Work.{WorkOutcome, PlainWork, outcome_among, outcome_at}
use Rattle.nego_expr.proofs.Alive.{each_found}
use Rattle.nego_expr.proofs.WorkEdits.{numbers_of, found-number}

-- what is found is alive
pub alive_found : (found : Option WorkOutcome) (x : WorkOutcome) → found ≡ Some x → IsSome found
alive_found None x h = absurd (none-some x h)
alive_found (Some y) x h = search rules

-- where it finds none, there is none
pub none_found : (found : Option WorkOutcome) → is_some found ≡ false → found ≡ None
none_found None h = refl
none_found (Some x) h = absurd (false≢true (sym h))

-- where numbers rise, only what is found by a number has it
pub only_found : (outcomes : List WorkOutcome) (o : ℕ) (x : WorkOutcome) → IsRising (numbers_of outcomes) → outcome_among outcomes o ≡ Some x → All (λ z. z.number ≡ o → z ≡ x) outcomes
only_found outcomes o x rise h =
    All-weaker (λ z. outcome_among outcomes z.number ≡ Some z) (λ z. z.number ≡ o → z ≡ x)
    (λ z k e. same_Some z x (sym k ∙ (ap (outcome_among outcomes) e ∙ h))) outcomes (each_found outcomes rise)

-- where a test of what is found holds, something is found, and it passes
pub allowed_at : (test : WorkOutcome → Bool) (found : Option WorkOutcome) → IsTrue (option_map_or test found false) → (x : WorkOutcome) × (found ≡ Some x) × IsTrue (test x)
allowed_at test None h = absurd (false≢true h)
allowed_at test (Some x) h = (x, refl, h)

-- what is found is found by its number
pub found_itself : (work : PlainWork) (o : ℕ) (x : WorkOutcome) → outcome_at work o ≡ Some x → outcome_at work x.number ≡ Some x
found_itself work o x h = subst (λ p. outcome_at work p ≡ Some x) (sym (found-number work.outcomes o x h)) h

-- so is its copy, in the same work
pub found_copy : (work same : PlainWork) (o : ℕ) (x copy : WorkOutcome) → same ≡ work → copy ≡ x → outcome_at work o ≡ Some x → outcome_at same copy.number ≡ Some copy
found_copy work same o x copy e k h =
    ap (λ w. outcome_at w copy.number) e ∙ (ap (λ z. outcome_at work z.number) k ∙ (found_itself work o x h ∙ ap Some (sym k)))
