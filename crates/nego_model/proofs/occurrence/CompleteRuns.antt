-- What a complete run ends with.
use Rattle.std.proofs.Common.{◌≡◌, ◌≢◌, ⊎_elim, ℕ, ◌<◌, List, [], ◌∷◌, ◌++◌, length, Some, sym, subst, ap, ◌∙◌, arith}
use Rattle.std.proofs.lemmas.Bool.{cases_eq}
use Rattle.std.proofs.lemmas.Option.{same_Some}
use Rattle.nego_model.specs.Negotiation.{Negotiation, IsNegotiation}
use Rattle.nego_model.specs.Occurring.{PlainMarking, Occurrence, ready, after, opening_marking, final_marking, IsComplete}
use Rattle.nego_model.specs.Joining.{EndsWith}
use Rattle.nego_base.proofs.Members.{some_member}
use Rattle.nego_base.proofs.ListLaws.{last_item}
use Rattle.nego_model.proofs.occurrence.Markings.{ready-moved_party, ready-replicate}
use Rattle.nego_model.proofs.occurrence.Steps.{after-some, after-outcome, leaves_before, length-run}

-- a negotiation has an agent
pub some_agent : (nego : Negotiation) → IsNegotiation nego → 0 < nego.agents
some_agent nego ok =
    let p = some_member (nego.parties nego.first) (ok.some_party nego.first ok.first_there) in
    let h : p.0 < nego.agents = ok.party_below nego.first p.0 ok.first_there p.1 in
    omega (arith, h)

-- the opening marking isn't the final one
pub opening_not_final : (nego : Negotiation) → IsNegotiation nego → opening_marking nego ≢ final_marking nego
opening_not_final nego ok e =
    let h : 0 < nego.agents = some_agent nego ok in
    let q : nego.first ∷ [] ≡ [] = sym (ready-replicate nego.agents 0 (nego.first ∷ []) h) ∙ (ap (λ marking. ready marking 0) e ∙ ready-replicate nego.agents 0 [] h) in
    cc

-- an occurrence that leaves the final marking is of the last atom
pub last_from_final : (nego : Negotiation) (marking : PlainMarking) (step : Occurrence) → IsNegotiation nego → length marking ≡ nego.agents → after nego marking step ≡ Some (final_marking nego) → step.0 ≡ nego.last
last_from_final nego marking step ok l e =
    let h = after-some nego marking step (final_marking nego) e in
    let o = after-outcome nego marking step (final_marking nego) e in
    let p = some_member (nego.parties step.0) (ok.some_party step.0 o.0) in
    let below : p.0 < nego.agents = ok.party_below step.0 p.0 o.0 p.1 in
    let q : nego.next step.1 p.0 ≡ [] =
    sym (ready-moved_party (nego.parties step.0) (nego.next step.1) marking p.0 (subst (λ n. p.0 < n) (sym l) below) p.1)
    ∙ (ap (λ m. ready m p.0) h.2 ∙ ready-replicate nego.agents p.0 [] below) in
    ⊎_elim (λ same. same) (λ other. absurd (ok.others_lead step.0 step.1 p.0 o other p.1 q)) (cases_eq step.0 nego.last)

-- a complete run isn't empty, and its last entry is of the last atom
pub ends_with_the_last_atom : (nego : Negotiation) (run : List Occurrence) → IsNegotiation nego → IsComplete nego run → (o : ℕ) × EndsWith run (nego.last, o)
ends_with_the_last_atom nego run ok complete = ⊎_elim empty ended (last_item run)
  where
    empty : run ≡ [] → (o : ℕ) × EndsWith run (nego.last, o)
    empty e = absurd (opening_not_final nego ok (same_Some (opening_marking nego) (final_marking nego) (subst (IsComplete nego) e complete)))

    ended : (front : List Occurrence) × (step : Occurrence) × (run ≡ front ++ step ∷ []) → (o : ℕ) × EndsWith run (nego.last, o)
    ended h =
        let k = leaves_before nego (opening_marking nego) h.0 h.1 (final_marking nego) (subst (IsComplete nego) h.2 complete) in
        let e : h.1.0 ≡ nego.last = last_from_final nego k.0 h.1 ok (length-run nego h.0 k.0 k.1) k.2 in
        (h.1.1, (h.0, subst (λ n. run ≡ h.0 ++ (n, h.1.1) ∷ []) e h.2))
