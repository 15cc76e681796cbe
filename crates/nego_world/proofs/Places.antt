-- The entry of a history at which an agent has so many records.
use Rattle.std.proofs.Common.{◌≡◌, ⊎_elim, ℕ, zero, suc, ◌+◌, ◌<◌, true, List, [], ◌∷◌, ◌++◌, length, refl, ap, subst, ◌∙◌, arith}
use Rattle.nego_base.specs.Members.{is_in}
use Rattle.nego_base.proofs.Members.{in_or_not}
use Rattle.nego_model.specs.Joining.{Entry}
use Rattle.nego_model.specs.Diagram.{PlainDiagram, negotiation_of, parties_of}
use Rattle.nego_model.proofs.occurrence.Histories.{own_entries-party, own_entries-other}
use Rattle.agent_core.specs.Agreement.{visits}

-- an entry of an agent's own, and as many of its own before it as this
pub record OwnAt (diagram : PlainDiagram) (a v : ℕ) (history : List Entry) : Type 0 where
  pub front : List Entry
  pub entry : Entry
  pub rest : List Entry
  pub there : history ≡ front ++ entry ∷ rest
  pub party : is_in a (parties_of diagram entry.step.0) ≡ true
  pub count : visits diagram a front ≡ v

-- an entry is there for each number below the count
pub own_at : (diagram : PlainDiagram) (a v : ℕ) (history : List Entry) → v < visits diagram a history → OwnAt diagram a v history
own_at diagram a v [] h = absurd (omega (arith, h))
own_at diagram a v (e ∷ es) h = ⊎_elim (λ own. party own v h (λ u k. own_at diagram a u es k)) (λ absent. other absent (λ k. own_at diagram a v es k)) (in_or_not a (parties_of diagram e.step.0))
  where
    more : (is_in a (parties_of diagram e.step.0) ≡ true) → (xs : List Entry) → visits diagram a (e ∷ xs) ≡ visits diagram a xs + 1
    more own xs = ap length (own_entries-party (negotiation_of diagram) a e xs own) ∙ omega arith

    party : (is_in a (parties_of diagram e.step.0) ≡ true) → (u : ℕ) → u < visits diagram a (e ∷ es) → ((w : ℕ) → w < visits diagram a es → OwnAt diagram a w es) → OwnAt diagram a u (e ∷ es)
    party own zero k later = record { front = []; entry = e; rest = es; there = refl; party = own; count = refl }
    party own (suc u) k later =
        let at = later u (omega (arith, k, more own es)) in
        record { front = e ∷ at.front; entry = at.entry; rest = at.rest; there = ap (λ xs. e ∷ xs) at.there; party = at.party; count = omega (arith, more own at.front, at.count) }

    same : ¬ (is_in a (parties_of diagram e.step.0) ≡ true) → (xs : List Entry) → visits diagram a (e ∷ xs) ≡ visits diagram a xs
    same absent xs = ap length (own_entries-other (negotiation_of diagram) a e xs absent)

    other : ¬ (is_in a (parties_of diagram e.step.0) ≡ true) → (v < visits diagram a es → OwnAt diagram a v es) → OwnAt diagram a v (e ∷ es)
    other absent later =
        let at = later (subst (λ n. v < n) (same absent es) h) in
        record { front = e ∷ at.front; entry = at.entry; rest = at.rest; there = ap (λ xs. e ∷ xs) at.there; party = at.party; count = same absent at.front ∙ at.count }
