-- What was read where a diagram was wanted.
use Rattle.std.proofs.Common.{◌≡◌, ◌∙◌, ℕ, List, Option, Some, None, refl, sym, ap, ap₂, subst, inl, inr}
use Rattle.nego_model.specs.Diagram.{PlainDiagram, IsDiagram}
use Rattle.nego_reader.specs.Content.{content_of}
use Rattle.nego_model.specs.Limits.{HasNames}
use Rattle.nego_shape.proofs.ShapedDiagrams.{shaped-diagram, shaped-names}
use Rattle.nego_shape.proofs.SpelledNames.{spelled-names}
use Rattle.nego_reader.specs.declared.parsed.Parsed.{Parsed}
use Rattle.nego_reader.specs.Spelling.{Spells}
use Rattle.nego_reader.proofs.RisingWords.{rising}
use Rattle.nego_reader.proofs.Said.{spelled_once, first_fault_once}
use Rattle.nego_shape.specs.declared.fault.ShapeFault.{ShapeFault}
use Rattle.nego_shape.specs.Conditions.{HasShape}
use Rattle.nego_shape.specs.FirstFault.{IsFirstFault}
use Rattle.nego_shape.proofs.JointLaws.{first_joint}
use Rattle.nego_shape.proofs.Stages.{one_fault}
use Rattle.nego_cli.specs.declared.failure.PartName.TheVariants as parts
use Rattle.nego_cli.specs.declared.failure.Refusal.{Refusal}
use Rattle.nego_cli.specs.declared.failure.Refusal.TheVariants as refusals
use Rattle.nego_cli.specs.Parts.{Read, ReadPart, ReadTooLong, ReadNoEnd}
use Rattle.nego_cli.specs.Loading.{SpellsDiagram, HasNoDiagram, IsNoDiagram}
use Rattle.nego_cli.specs.Refusals.{IsNamed, diagram_of}

-- ---- one cause

-- the diagram that a text spells is one
one_diagram : (text : List ℕ) (d e : PlainDiagram) → SpellsDiagram text d → SpellsDiagram text e → d ≡ e
one_diagram text d e s t = s.is ∙ (ap diagram_of (spelled_once text s.value t.value s.spelled t.spelled) ∙ sym t.is)

-- a value that a text spells has no fault of shape where it spells a diagram
misshapen_not : (text : List ℕ) (p : Parsed) (fault : ShapeFault) (d : PlainDiagram) → Spells text p → IsFirstFault p fault → SpellsDiagram text d → ⊥
misshapen_not text p fault d spelled faulty s =
    faulty.first.broken (subst (λ q. HasShape (content_of q)) (spelled_once text s.value p s.spelled spelled) s.shaped faulty.condition)

-- a text that has no diagram spells none
no_diagram_not : (text : List ℕ) (why : Refusal) (d : PlainDiagram) → HasNoDiagram text why → SpellsDiagram text d → ⊥
no_diagram_not text why d (inl (fault, is, off)) s = off.nothing s.value s.spelled
no_diagram_not text why d (inr (p, fault, is, spelled, first)) s = misshapen_not text p fault d spelled first s

-- the reason that a text has no diagram is one
why_once : (text : List ℕ) (why other : Refusal) → HasNoDiagram text why → HasNoDiagram text other → why ≡ other
why_once text why other (inl (fault, is, off)) (inl (fault', is', off')) = is ∙ (ap (refusals.Off parts.Diagram) (first_fault_once text fault fault' off.first off'.first) ∙ sym is')
why_once text why other (inl (fault, is, off)) (inr (p, fault', is', spelled, first')) = absurd (off.nothing p spelled)
why_once text why other (inr (p, fault', is', spelled, first')) (inl (fault, is, off)) = absurd (off.nothing p spelled)
why_once text why other (inr (p, fault, is, spelled, first)) (inr (q, fault', is', spelled', first')) =
    let same : p ≡ q = spelled_once text p q spelled spelled' in
    is ∙ (ap₂ refusals.Misshapen same (one_fault p (rising text p spelled) fault fault' first (subst (λ r. IsFirstFault r fault') (sym same) first')) ∙ sym is')

-- the reason that what was read is no diagram is one
no_diagram_once : (read : Read) (why other : Refusal) → IsNoDiagram read why → IsNoDiagram read other → why ≡ other
no_diagram_once (ReadPart text) why other h k = why_once text why other h k
no_diagram_once ReadTooLong why other h k = h ∙ sym k
no_diagram_once (ReadNoEnd line) why other h k = h ∙ sym k

-- ---- what a refusal names

named_in : (text : List ℕ) (why : Refusal) → HasNoDiagram text why → IsNamed why
named_in text why (inl (fault, is, off)) = subst IsNamed (sym is) tt
named_in text why (inr (p, fault, is, spelled, first)) = subst IsNamed (sym is) (first_joint p fault first)

-- what is named where there is no diagram is there
no_diagram_named : (read : Read) (why : Refusal) → IsNoDiagram read why → IsNamed why
no_diagram_named (ReadPart text) why h = named_in text why h
no_diagram_named ReadTooLong why h = subst IsNamed (sym h) tt
no_diagram_named (ReadNoEnd line) why h = subst IsNamed (sym h) tt

-- ---- kinds of parts

-- What is known of a kind of part: a text spells one value of the kind, or is refused for one reason; and what the reason
-- names is there.
pub record IsKind {X : Type 0} (spells : List ℕ → X → Type 0) (is_none : Read → Refusal → Type 0) : Type 0 where
  pub one_value : (text : List ℕ) (x y : X) → spells text x → spells text y → x ≡ y
  pub not_both : (text : List ℕ) (why : Refusal) (x : X) → is_none (ReadPart text) why → spells text x → ⊥
  pub one_reason : (read : Read) (why other : Refusal) → is_none read why → is_none read other → why ≡ other
  pub named : (read : Read) (why : Refusal) → is_none read why → IsNamed why

pub diagrams : IsKind SpellsDiagram IsNoDiagram
diagrams = record { one_value = one_diagram; not_both = no_diagram_not; one_reason = no_diagram_once; named = no_diagram_named }

-- what a text spells is a diagram
pub spelled_diagram : (text : List ℕ) (d : PlainDiagram) → SpellsDiagram text d → IsDiagram d
spelled_diagram text d spelled = subst IsDiagram (sym spelled.is) (shaped-diagram (content_of spelled.value) spelled.shaped)

-- and it has names
pub spelled_names : (text : List ℕ) (d : PlainDiagram) → SpellsDiagram text d → HasNames d
spelled_names text d spelled =
    subst HasNames (sym spelled.is) (shaped-names (content_of spelled.value) spelled.shaped (spelled-names text spelled.value spelled.spelled))
