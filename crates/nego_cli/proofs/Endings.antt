-- Ways to end: of a command that reads nothing more, and of one over a part.
use Rattle.std.proofs.Common.{◌≡◌, ◌∙◌, inl, inr, ℕ, suc, ◌≤◌, List, [], ◌∷◌, ◌++◌, length, refl, sym, ap, subst, arith}
use Rattle.nego_cli.specs.declared.failure.Refusal.{Refusal}
use Rattle.nego_cli.specs.declared.status.Status.{Status}
use Rattle.nego_cli.specs.Parts.{Read, ReadPart, ReadTooLong, ReadNoEnd}
use Rattle.nego_cli.specs.Turn.{Turn, TellsText, Refuses, OnlyTells, TurnHere, TurnOver, TextOver}
use Rattle.nego_cli.specs.Status.{IsTelling}
use Rattle.nego_cli.specs.Refusals.{IsNamed}
use Rattle.nego_cli.proofs.Loaded.{IsKind}

-- ---- ways to end

-- Behind some parts and behind these and more the end is one, so that there are no more.
abbrev pub EndsOnce : (List Read → Turn → Type 0) → Type 0
EndsOnce ends = (reads more : List Read) (turn other : Turn) → ends reads turn → ends (reads ++ more) other → (more ≡ []) × (turn ≡ other)

-- It ends behind so many parts at most.
abbrev pub EndsWithin : ℕ → (List Read → Turn → Type 0) → Type 0
EndsWithin most ends = (reads : List Read) (turn : Turn) → ends reads turn → length reads ≤ most

-- What it names in a refusal is there.
abbrev pub Names : (List Read → Turn → Type 0) → Type 0
Names ends = (reads : List Read) (why : Refusal) → ends reads (Refuses why) → IsNamed why

-- A text is told with a status of texts.
abbrev pub Tells : (List Read → Status → List ℕ → Type 0) → Type 0
Tells tells = (reads : List Read) (status : Status) (text : List ℕ) → tells reads status text → IsTelling status

-- what ends behind nothing more
pub none_more : (reads more : List Read) → reads ≡ [] → reads ++ more ≡ [] → more ≡ []
none_more reads more none all = sym (ap (λ r. r ++ more) none) ∙ all

-- ---- a command that reads nothing more

pub here_once : (can : Type 0) (cannot : Refusal → Type 0) → ((why : Refusal) → can → cannot why → ⊥) → ((why other : Refusal) → cannot why → cannot other → why ≡ other) → EndsOnce (TurnHere can cannot)
here_once can cannot apart one reads more TellsText TellsText h k = (none_more reads more h.1 k.1, refl)
here_once can cannot apart one reads more TellsText (Refuses why) h k = absurd (apart why h.0 k.0)
here_once can cannot apart one reads more (Refuses why) TellsText h k = absurd (apart why k.0 h.0)
here_once can cannot apart one reads more (Refuses why) (Refuses other) h k = (none_more reads more h.1 k.1, ap Refuses (one why other h.0 k.0))

pub here_within : (can : Type 0) (cannot : Refusal → Type 0) → EndsWithin 0 (TurnHere can cannot)
here_within can cannot reads TellsText h = let count = ap length h.1 in omega (arith, count)
here_within can cannot reads (Refuses why) h = let count = ap length h.1 in omega (arith, count)

-- ---- a command that only tells

pub tells_once : EndsOnce OnlyTells
tells_once reads more turn other h k = (none_more reads more h.1 k.1, h.0 ∙ sym k.0)

pub tells_within : EndsWithin 0 OnlyTells
tells_within reads turn h = let count = ap length h.1 in omega (arith, count)

pub tells_named : Names OnlyTells
tells_named reads why h = let never : Refuses why ≡ TellsText = h.0 in cc

-- ---- a command over a part

pub over_once : {X : Type 0} (spells : List ℕ → X → Type 0) (is_none : Read → Refusal → Type 0) (does : X → List Read → Turn → Type 0) → IsKind spells is_none →
    ((text : List ℕ) (x : X) → spells text x → EndsOnce (does x)) → EndsOnce (TurnOver spells is_none does)
over_once spells is_none does kind once [] more turn other h k = absurd h
over_once spells is_none does kind once (read ∷ reads) more turn other (inl (why, is, none, bad)) (inl (why', is', none', bad')) =
    (none_more reads more none none', is ∙ (ap Refuses (kind.one_reason read why why' bad bad') ∙ sym is'))
over_once spells is_none does kind once (read ∷ reads) more turn other (inl (why, is, none, bad)) (inr (text, x, at, spelled, done)) =
    absurd (kind.not_both text why x (subst (λ r. is_none r why) at bad) spelled)
over_once spells is_none does kind once (read ∷ reads) more turn other (inr (text, x, at, spelled, done)) (inl (why, is, none, bad)) =
    absurd (kind.not_both text why x (subst (λ r. is_none r why) at bad) spelled)
over_once spells is_none does kind once (read ∷ reads) more turn other (inr (text, x, at, spelled, done)) (inr (text', y, at', spelled', done')) =
    let here : ReadPart text ≡ ReadPart text' = sym at ∙ at' in
    let part : text ≡ text' = cc in
    let same : y ≡ x = kind.one_value text y x (subst (λ t. spells t y) (sym part) spelled') spelled in
    once text x spelled reads more turn other done (subst (λ z. does z (reads ++ more) other) same done')

pub over_within : {X : Type 0} (spells : List ℕ → X → Type 0) (is_none : Read → Refusal → Type 0) (does : X → List Read → Turn → Type 0) (most : ℕ) →
    ((x : X) → EndsWithin most (does x)) → EndsWithin (suc most) (TurnOver spells is_none does)
over_within spells is_none does most within [] turn h = absurd h
over_within spells is_none does most within (read ∷ reads) turn (inl (why, is, none, bad)) = let count = ap length none in omega (arith, count)
over_within spells is_none does most within (read ∷ reads) turn (inr (text, x, at, spelled, done)) = let count = within x reads turn done in omega (arith, count)

pub over_named : {X : Type 0} (spells : List ℕ → X → Type 0) (is_none : Read → Refusal → Type 0) (does : X → List Read → Turn → Type 0) → IsKind spells is_none →
    ((text : List ℕ) (x : X) → spells text x → Names (does x)) → Names (TurnOver spells is_none does)
over_named spells is_none does kind named [] why h = absurd h
over_named spells is_none does kind named (read ∷ reads) why (inl (other, is, none, bad)) =
    let same : why ≡ other = cc in
    subst IsNamed (sym same) (kind.named read other bad)
over_named spells is_none does kind named (read ∷ reads) why (inr (text, x, is, spelled, done)) = named text x spelled reads why done

pub over_telling : {X : Type 0} (spells : List ℕ → X → Type 0) (tells : X → List Read → Status → List ℕ → Type 0) → ((x : X) → Tells (tells x)) → Tells (TextOver spells tells)
over_telling spells tells telling [] status text h = absurd h
over_telling spells tells telling (ReadPart part ∷ reads) status text (x, spelled, told) = telling x reads status text told
over_telling spells tells telling (ReadTooLong ∷ reads) status text h = absurd h
over_telling spells tells telling (ReadNoEnd line ∷ reads) status text h = absurd h
