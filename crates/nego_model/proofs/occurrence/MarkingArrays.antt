-- Markings as they are kept: an array of sets, of which those of the agents are read.
use Rattle.std.proofs.Common.{◌≡◌, ℕ, ◌+◌, ◌-◌, ◌<◌, ◌≤◌, ◌&&◌, Bool, true, false, not, cond, eqb, ltb, List, [], length, slice_index_or, take, drop, replicate, Some, Less, Equal, Greater, IsTrue, refl, sym, subst, ap, ap₂, ◌∙◌, arith}
use Rattle.std.proofs.lemmas.Bool.{false_from_ne_true}
use Rattle.std.proofs.lemmas.Bool.Decides.{nat_tests}
use Rattle.std.proofs.lemmas.List.{ext_get_or, get_or-take, get_or-drop, length-drop, length-take-le, take-replicate}
use Rattle.std.specs.List.{list_all, range_with_len}
use Rattle.std.specs.Ordering.{nat_cmp, is_lt, partial_le, partial_lt}
use Rattle.nego_base.specs.Members.{is_in}
use Rattle.nego_model.specs.declared.marking.Marking.{Marking}
use Rattle.nego_model.specs.Occurring.{PlainMarking, final_marking, ready, moved, enables}
use Rattle.nego_model.specs.Diagram.{PlainDiagram, IsDiagram, negotiation_of, parties_of}
use Rattle.nego_model.specs.Followed.{marking_in}
use Rattle.nego_base.proofs.Members.{is_in-range, is_in-range_zero, all_at, all_from}
use Rattle.nego_model.proofs.diagrams.Negotiations.{atom_from_below}
use Rattle.nego_model.proofs.occurrence.Markings.{length-moved, ready-moved, same_markings, same_for_all}

-- what an agent is ready for
pub ready-kept : (diagram : PlainDiagram) (marking : Marking) (a : ℕ) → a < length diagram.agents → ready (marking_in diagram marking) a ≡ slice_index_or marking.ready a []
ready-kept diagram marking a h = get_or-take (length diagram.agents) marking.ready a [] h

-- a marking has an entry for each agent
pub length-kept : (diagram : PlainDiagram) (marking : Marking) → length diagram.agents ≤ length marking.ready → length (marking_in diagram marking) ≡ length diagram.agents
length-kept diagram marking h = length-take-le (length diagram.agents) marking.ready h

-- everyone is ready for the same
pub same_kept : (n : ℕ) (here first : List ℕ) → n ≤ 16 → here ≡ first → take n (replicate 16 here) ≡ replicate n first
same_kept n here first h e = take-replicate n 16 here h ∙ ap (λ xs. replicate n xs) e

-- everyone is ready for nothing
pub final_kept : (diagram : PlainDiagram) (marking : Marking) → length diagram.agents ≤ length marking.ready → ((a : ℕ) → a < length diagram.agents → slice_index_or marking.ready a [] ≡ []) →
    marking_in diagram marking ≡ final_marking (negotiation_of diagram)
final_kept diagram marking long h =
    same_for_all (length diagram.agents) [] (marking_in diagram marking) (length-kept diagram marking long) (λ a l. ready-kept diagram marking a l ∙ h a l)

-- each party is ready for the atom
pub all_ready_kept : (diagram : PlainDiagram) (marking : Marking) (n : ℕ) → IsDiagram diagram → n < length diagram.atoms →
    ((a : ℕ) → a < length diagram.agents → IsTrue (is_in a (parties_of diagram n)) → IsTrue (is_in n (slice_index_or marking.ready a []))) →
    list_all (λ a. is_in n (ready (marking_in diagram marking) a)) (parties_of diagram n) ≡ true
all_ready_kept diagram marking n ok h each =
    all_from (λ a. is_in n (ready (marking_in diagram marking) a)) (parties_of diagram n)
    (λ a m. let below : a < length diagram.agents = ok.form.party_below n a (atom_from_below diagram n h) m in
    subst (λ xs. IsTrue (is_in n xs)) (sym (ready-kept diagram marking a below)) (each a below m))

-- a party isn't ready for the atom
pub not_ready_kept : (diagram : PlainDiagram) (marking : Marking) (n a : ℕ) → a < length diagram.agents → IsTrue (is_in a (parties_of diagram n)) → is_in n (slice_index_or marking.ready a []) ≡ false →
    list_all (λ b. is_in n (ready (marking_in diagram marking) b)) (parties_of diagram n) ≡ false
not_ready_kept diagram marking n a below m h =
    false_from_ne_true (list_all (λ b. is_in n (ready (marking_in diagram marking) b)) (parties_of diagram n)) (λ all.
    let here : is_in n (slice_index_or marking.ready a []) ≡ true = subst (λ xs. IsTrue (is_in n xs)) (ready-kept diagram marking a below) (all_at (λ b. is_in n (ready (marking_in diagram marking) b)) (parties_of diagram n) a all m) in
    let clash : true ≡ false = sym here ∙ h in cc)

-- of an atom it is asked whether each party is ready for it
pub enables-kept : (diagram : PlainDiagram) (marking : PlainMarking) (n : ℕ) → n < length diagram.atoms → enables (negotiation_of diagram) marking n ≡ list_all (λ a. is_in n (ready marking a)) (parties_of diagram n)
enables-kept diagram marking n h = ap (λ b. b && list_all (λ a. is_in n (ready marking a)) (parties_of diagram n)) (atom_from_below diagram n h)

-- what isn't an atom isn't enabled
pub enables-past : (diagram : PlainDiagram) (marking : PlainMarking) (n : ℕ) → ltb n (length diagram.atoms) ≡ false → enables (negotiation_of diagram) marking n ≡ false
enables-past diagram marking n h =
    ap (λ b. b && list_all (λ a. is_in n (ready marking a)) (parties_of diagram n)) (is_in-range_zero n (length diagram.atoms) ∙ h)

-- whether a number is below another, as a range asks it
asked-lt : (m n : ℕ) → partial_lt (λ x y. Some (nat_cmp x y)) m n ≡ ltb m n
asked-lt m n = go (ltb m n) (eqb m n)
  where
    go : (below same : Bool) → is_lt (cond below Less (cond same Equal Greater)) ≡ below
    go true same = refl
    go false true = refl
    go false false = refl

-- whether a number is not above another, as a range asks it
asked-le : (m n : ℕ) → partial_le (λ x y. Some (nat_cmp x y)) m n ≡ not (ltb n m)
asked-le m n = grind (arith, nat_tests)

-- a range holds an outcome that is in the list of its numbers, and no other
pub own-range : (o start count : ℕ) →
    (partial_le (λ x y. Some (nat_cmp x y)) start o && partial_lt (λ x y. Some (nat_cmp x y)) o (start + count)) ≡ is_in o (range_with_len start count)
own-range o start count = ap₂ ◌&&◌ (asked-le start o) (asked-lt o (start + count)) ∙ sym (is_in-range o start count)

-- the parties have moved and nobody else
pub moved_kept : (diagram : PlainDiagram) (old new : Marking) (parties : List ℕ) (next : ℕ → List ℕ) → length diagram.agents ≤ length old.ready → length diagram.agents ≤ length new.ready →
    ((a : ℕ) → a < length diagram.agents → slice_index_or new.ready a [] ≡ cond (is_in a parties) (next a) (slice_index_or old.ready a [])) →
    marking_in diagram new ≡ moved 0 parties next (marking_in diagram old)
moved_kept diagram old new parties next long long' h =
    same_markings (marking_in diagram new) (moved 0 parties next (marking_in diagram old))
    (length-kept diagram new long' ∙ sym (length-moved 0 parties next (marking_in diagram old) ∙ length-kept diagram old long))
    (λ a l. let below : a < length diagram.agents = subst (λ n. a < n) (length-kept diagram new long') l in
    let below_old : a < length (marking_in diagram old) = subst (λ n. a < n) (sym (length-kept diagram old long)) below in
    ready-kept diagram new a below ∙ (h a below
    ∙ sym (ready-moved parties next (marking_in diagram old) a below_old ∙ ap (λ here. cond (is_in a parties) (next a) here) (ready-kept diagram old a below))))

-- what stands past the agents is as before
pub rest_kept : (n : ℕ) (old new : List (List ℕ)) → length new ≡ length old → ((a : ℕ) → n ≤ a → slice_index_or new a [] ≡ slice_index_or old a []) →
    drop n new ≡ drop n old
rest_kept n old new long same =
    ext_get_or [] (drop n new) (drop n old) (length-drop n new ∙ (ap (λ k. k - n) long ∙ sym (length-drop n old)))
    (λ a below. get_or-drop n new a [] ∙ (same (n + a) (omega arith) ∙ sym (get_or-drop n old a [])))
