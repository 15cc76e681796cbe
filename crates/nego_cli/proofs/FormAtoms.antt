-- The atoms of an order, or of a cycle, are atoms of the diagram; and their names, appended to a text one by one.
use Rattle.std.proofs.Common.{◌≡◌, ◌∙◌, ℕ, ◌<◌, List, [], ◌∷◌, ◌++◌, length, ap, sym, refl, ltb-true, append-nil, subst}
use Rattle.std.specs.Prelude.{All, IsTrue, Option, Result, Ok, Err, OnOk, IfErr, MatchOption, codes}
use Rattle.std.specs.Result.{result_err}
use Rattle.std.specs.List.{range_with_len}
use Rattle.std.proofs.lemmas.List.Elements.{All-nil, All-cons, All-head, All-tail, All-weaker}
use Rattle.nego_base.specs.declared.ids.AgentId.{AgentId}
use Rattle.nego_base.specs.declared.ids.AtomId.{AtomId}
use Rattle.nego_base.specs.declared.ids.OutcomeId.{OutcomeId}
use Rattle.nego_base.specs.Members.{is_in}
use Rattle.nego_base.proofs.Members.{All-members, is_in-range_zero}
use Rattle.nego_data.specs.Data.{data_count}
use Rattle.nego_model.specs.Negotiation.{Negotiation, IsDeterministic}
use Rattle.nego_model.specs.Undetermined.{IsFirstUndetermined}
use Rattle.nego_model.specs.Diagram.{PlainDiagram, negotiation_of, atom_name}
use Rattle.nego_model.specs.Expression.{IsPath}
use Rattle.nego_model.specs.Acyclic.{IsEdge}
use Rattle.nego_shape.specs.Answers.{OrderHolds, numbers}
use Rattle.nego_shape.specs.Ordering.{IsCycle}
use Rattle.nego_shape.specs.declared.answer.Order.{Order}
use Rattle.nego_shape.specs.declared.answer.Order.TheVariants.{Acyclic, Cycle}
use Rattle.nego_base.specs.Appending.{Appends}
use Rattle.nego_cli.specs.FormText.{AreAtoms, choice_numbers, count_line, choice_line, atom_words, order_line, form_text}

-- what holds of the numbers of atoms
numbered : (P : ℕ → Type 0) (ns : List AtomId) → All P (numbers ns) → All (λ n. P n.0) ns
numbered P [] h = All-nil (λ (n : AtomId). P n.0)
numbered P (n ∷ ns) h = All-cons (λ (m : AtomId). P m.0) n ns (All-head P n.0 (numbers ns) h) (numbered P ns (All-tail P n.0 (numbers ns) h))

-- a member of the numbers below a count
below : (m k : ℕ) → IsTrue (is_in m (range_with_len 0 k)) → m < k
below m k h = ltb-true m k (sym (is_in-range_zero m k) ∙ h)

-- each of a way along edges is an atom
way_atoms : (nego : Negotiation) (n : ℕ) (ns : List ℕ) (e : ℕ) → IsPath (IsEdge nego) n (ns ++ e ∷ []) e → All (λ m. IsTrue (is_in m nego.atoms)) (n ∷ ns)
way_atoms nego n [] e p = All-cons (λ m. IsTrue (is_in m nego.atoms)) n [] p.0.own.0 (All-nil (λ m. IsTrue (is_in m nego.atoms)))
way_atoms nego n (m ∷ ns) e p = All-cons (λ k. IsTrue (is_in k nego.atoms)) n (m ∷ ns) p.0.own.0 (way_atoms nego m ns e p.1)

-- each of a cycle is an atom
cycle_atoms : (nego : Negotiation) (ns : List ℕ) → IsCycle nego ns → All (λ m. IsTrue (is_in m nego.atoms)) ns
cycle_atoms nego [] h = absurd h
cycle_atoms nego (n ∷ ns) h = way_atoms nego n ns n h

-- each of an answer is an atom
pub order_atoms : (d : PlainDiagram) (order : Order) → OrderHolds (negotiation_of d) order → AreAtoms d order
order_atoms d (Acyclic ns) h =
    numbered (λ m. m < length d.atoms) ns (All-members (λ m. m < length d.atoms) (numbers ns) (λ m there. below m (length d.atoms) (sym (h.forward.atoms m) ∙ there)))
order_atoms d (Cycle ns) h =
    numbered (λ m. m < length d.atoms) ns
    (All-weaker (λ m. IsTrue (is_in m (range_with_len 0 (length d.atoms)))) (λ m. m < length d.atoms) (λ m there. below m (length d.atoms) there) (numbers ns)
    (cycle_atoms (negotiation_of d) (numbers ns) h.goes_round))

-- the names of atoms and of one more
pub atom_words-more : (d : PlainDiagram) (ns : List AtomId) (n : AtomId) (rest : List ℕ) → atom_words d (ns ++ n ∷ []) rest ≡ atom_words d ns (codes " " ++ (atom_name d n.0 ++ rest))
atom_words-more d [] n rest = refl
atom_words-more d (first ∷ ns) n rest = ap (λ t. codes " " ++ (atom_name d first.0 ++ t)) (atom_words-more d ns n rest)

-- the text that grows by the six lines
pub form_printed : (d : PlainDiagram) (choice : Option (ℕ × ℕ)) (order : Order) (agents atoms outcomes all : ℕ) (start one two three four five whole : List ℕ) → start ≡ [] →
    agents ≡ length d.agents → atoms ≡ length d.atoms → outcomes ≡ length d.outcomes → all ≡ data_count d.sizes →
    Appends start one (count_line (codes "agents") agents) → Appends one two (count_line (codes "atoms") atoms) → Appends two three (count_line (codes "outcomes") outcomes) →
    Appends three four (count_line (codes "joint") all) → Appends four five (choice_line d choice) → Appends five whole (order_line d order) → whole ≡ form_text d choice order
form_printed d choice order agents atoms outcomes all start one two three four five whole starts is_agents is_atoms is_outcomes is_all a b c e f g =
    let lines = order_line d order [] in
    let told = choice_line d choice lines in
    let fourth = count_line (codes "joint") (data_count d.sizes) told in
    let third = count_line (codes "outcomes") (length d.outcomes) fourth in
    let second = count_line (codes "atoms") (length d.atoms) third in
    sym (append-nil whole)
    ∙ (g []
    ∙ (f lines
    ∙ (e told ∙ (ap (λ n. three ++ count_line (codes "joint") n told) is_all
    ∙ (c fourth ∙ (ap (λ n. two ++ count_line (codes "outcomes") n fourth) is_outcomes
    ∙ (b third ∙ (ap (λ n. one ++ count_line (codes "atoms") n third) is_atoms
    ∙ (a second ∙ (ap (λ n. start ++ count_line (codes "agents") n second) is_agents ∙ ap (λ t. t ++ count_line (codes "agents") (length d.agents) second) starts))))))))))

-- where the diagram isn't deterministic, as the numbers of an outcome and an agent
pub choice_holds : {U : Type 0} (d : PlainDiagram) (r : Result U (OutcomeId × AgentId)) (choice : Option (OutcomeId × AgentId)) → choice ≡ result_err r → OnOk r (IsDeterministic (negotiation_of d)) →
    IfErr r (λ pair. IsFirstUndetermined d pair.0.0 pair.1.0) → MatchOption (choice_numbers choice) (IsDeterministic (negotiation_of d)) (λ pair. IsFirstUndetermined d pair.0 pair.1)
choice_holds d (Ok u) choice is ok err = subst (λ o. MatchOption (choice_numbers o) (IsDeterministic (negotiation_of d)) (λ pair. IsFirstUndetermined d pair.0 pair.1)) (sym is) ok
choice_holds d (Err e) choice is ok err = subst (λ o. MatchOption (choice_numbers o) (IsDeterministic (negotiation_of d)) (λ pair. IsFirstUndetermined d pair.0 pair.1)) (sym is) err
