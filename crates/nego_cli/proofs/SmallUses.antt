-- The uses of the order name small numbers, and their certificate fits a part.
use Rattle.std.proofs.Common.{◌≡◌, ℕ, ◌-◌, ◌*◌, ◌<◌, ◌≤◌, false, List, [], ◌∷◌, length, Some, refl, sym, subst, arith, mul-le-mul_left}
use Rattle.std.specs.List.{All}
use Rattle.std.specs.Option.{option_map_or}
use Rattle.std.proofs.lemmas.List.Elements.{All-nil, All-cons, All-weaker}
use Rattle.nego_model.specs.Diagram.{PlainDiagram}
use Rattle.nego_model.specs.Limits.{IsWithinLimits}
use Rattle.nego_expr.specs.Work.{WorkOutcome, PlainWork, IsWork, outcome_at}
use Rattle.nego_expr.specs.Use.{PlainUse, Merge, Iterate, Shortcut, Close, after_use, merges, iterates}
use Rattle.nego_expr.specs.Lead.{Lead}
use Rattle.nego_expr.specs.Fresh.{fresh_work}
use Rattle.nego_expr.specs.StandsFor.{IsFresh}
use Rattle.nego_expr.proofs.EditCalls.{allowed_at, found_itself}
use Rattle.nego_expr.proofs.WorkEdits.{All-found, found-number}
use Rattle.nego_shortcut.proofs.ShortWorks.{entry_from}
use Rattle.nego_reduce.specs.Bound.{AreFew}
use Rattle.nego_reduce.specs.Order.{IsNextUse}
use Rattle.nego_reduce.proofs.bound.AliveOutcomes.{numbers-after, alive_are_of_the_diagram}
use Rattle.nego_reduce.proofs.bound.FewUses.{fresh_roomy, kinds}
use Rattle.nego_reduce.proofs.bound.NextUsesLower.{IsRoomy, next_roomy, shortcut_parts}
use Rattle.nego_cert.specs.CertificateText.{certificate_text}
use Rattle.nego_cert.specs.Laws.{HasSmallNumbers}
use Rattle.nego_cert.specs.Table.{HasShortNumbers}
use Rattle.nego_cert.proofs.PrintedCertificates.{printed_short}
use Rattle.nego_cli.specs.Parts.{part_limit}

-- ---- numbers

-- the number of an alive outcome
alive_small : (work : PlainWork) (o : ℕ) (x : WorkOutcome) → IsWork work → work.numbers < 1000 → outcome_at work o ≡ Some x → o < 1000
alive_small work o x ok few found =
    let used : x.number < work.numbers = All-found (λ z. z.number < work.numbers) work.outcomes o x ok.numbers_used found in
    let same : x.number ≡ o = found-number work.outcomes o x found in
    omega (arith, used, same, few)

-- the numbers of the next use
next_small : (count : ℕ) (work : PlainWork) (next : PlainUse) → IsRoomy count work → work.numbers < 1000 → count < 100 → IsNextUse work next → HasSmallNumbers next
next_small count work (Merge o1 o2) roomy few atoms h =
    let x = allowed_at (λ z. option_map_or (merges work z) (outcome_at work o2) false) (outcome_at work o1) h.allowed in
    let y = allowed_at (merges work x.0) (outcome_at work o2) x.2 in
    (alive_small work o1 x.0 roomy.0 few x.1, alive_small work o2 y.0 roomy.0 few y.1)
next_small count work (Iterate o) roomy few atoms h = let x = allowed_at (iterates work) (outcome_at work o) h.1.allowed in alive_small work o x.0 roomy.0 few x.1
next_small count work (Shortcut o n) roomy few atoms h =
    let k = shortcut_parts work o n h.2.taken in
    let entry = entry_from work k.outcome n (found_itself work o k.outcome k.found) k.enters in
    let below : n < count = roomy.1.below n entry.there in
    (alive_small work o k.outcome roomy.0 few k.found, omega (arith, below, atoms))
next_small count work Close roomy few atoms h = tt

led_small : (count : ℕ) (work end : PlainWork) (uses : List PlainUse) → IsRoomy count work → work.numbers < 1000 → count < 100 → Lead IsNextUse work uses end → All HasSmallNumbers uses
led_small count work end [] roomy few atoms leads = All-nil HasSmallNumbers
led_small count work end (next ∷ uses) roomy few atoms leads =
    All-cons HasSmallNumbers next uses (next_small count work next roomy few atoms leads.0)
    (led_small count (after_use work next) end uses (next_roomy count work next roomy leads.0) (subst (λ n. n < 1000) (sym (numbers-after work next leads.0)) few) atoms leads.2)

-- the numbers of the uses that are made of a diagram
pub uses_small : (d : PlainDiagram) (end : PlainWork) (uses : List PlainUse) → IsFresh (fresh_work d) d → Lead IsNextUse (fresh_work d) uses end → All HasSmallNumbers uses
uses_small d end uses fresh leads =
    let numbers : (fresh_work d).numbers ≡ length d.outcomes = (alive_are_of_the_diagram d (fresh_work d) (fresh_work d) [] fresh refl).1 in
    let outcomes : length d.outcomes ≤ 256 = fresh.limits.few_outcomes in
    let atoms : length d.atoms ≤ 64 = fresh.limits.few_atoms in
    led_small (length d.atoms) (fresh_work d) end uses (fresh_roomy d (fresh_work d) fresh) (omega (arith, numbers, outcomes)) (omega (arith, atoms)) leads

small_short : (what : PlainUse) → HasSmallNumbers what → HasShortNumbers what
small_short (Merge o1 o2) h = All-cons (λ n. n ≤ 999999) o1 (o2 ∷ []) (let few = h.0 in omega (arith, few)) (All-cons (λ n. n ≤ 999999) o2 [] (let few = h.1 in omega (arith, few)) (All-nil (λ n. n ≤ 999999)))
small_short (Iterate o) h = All-cons (λ n. n ≤ 999999) o [] (omega (arith, h)) (All-nil (λ n. n ≤ 999999))
small_short (Shortcut o n) h = All-cons (λ n. n ≤ 999999) o (n ∷ []) (let few = h.0 in omega (arith, few)) (All-cons (λ n. n ≤ 999999) n [] (let few = h.1 in omega (arith, few)) (All-nil (λ n. n ≤ 999999)))
small_short Close h = All-nil (λ n. n ≤ 999999)

pub uses_short : (uses : List PlainUse) → All HasSmallNumbers uses → All HasShortNumbers uses
uses_short uses h = All-weaker HasSmallNumbers HasShortNumbers small_short uses h

-- ---- length

-- the text of their certificate fits a part
pub certificate_fits : (d : PlainDiagram) (uses : List PlainUse) → IsWithinLimits d → AreFew d uses → All HasSmallNumbers uses → length (certificate_text uses) ≤ part_limit
certificate_fits d uses limits few small =
    let each = kinds uses in
    let shortcuts = few.shortcuts in
    let most : length d.outcomes * (length d.atoms - 2) ≤ length d.outcomes * 62 = mul-le-mul_left (length d.outcomes) (let atoms = limits.few_atoms in omega (arith, atoms)) in
    let others = few.taken_away in
    let closings = few.closings in
    let outcomes = limits.few_outcomes in
    let short = printed_short uses small in
    omega (arith, each, shortcuts, most, others, closings, outcomes, short)
