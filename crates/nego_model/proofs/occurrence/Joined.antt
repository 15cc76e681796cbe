-- Laws of the data along runs.
use Rattle.std.proofs.Common.{◌≡◌, ℕ, List, [], ◌∷◌, ◌++◌, length, drop, slice_index_or, refl, sym, subst, ap, arith}
use Rattle.nego_model.specs.Occurring.{Occurrence}
use Rattle.nego_model.specs.Joining.{Relation, Entry, steps_of, AreRelated, joint_after, Joins}

-- related entries, and related ones behind them
pub AreRelated-append : (relation : Relation) (d : ℕ) (front rest : List Entry) → AreRelated relation d front → AreRelated relation (joint_after d front) rest → AreRelated relation d (front ++ rest)
AreRelated-append relation d [] rest h k = k
AreRelated-append relation d (entry ∷ front) rest h k = (h.0, AreRelated-append relation entry.joint front rest h.1 k)

-- what is related of entries in two lists, one after the other
pub related_parts : (relation : Relation) (d : ℕ) (front rest : List Entry) → AreRelated relation d (front ++ rest) → AreRelated relation d front × AreRelated relation (joint_after d front) rest
related_parts relation d [] rest h = (tt, h)
related_parts relation d (entry ∷ front) rest h = let k = related_parts relation entry.joint front rest h.1 in ((h.0, k.0), k.1)

-- related entries join the data before them to the data after them
pub Joins-entries : (relation : Relation) (d : ℕ) (entries : List Entry) → AreRelated relation d entries → Joins relation (steps_of entries) d (joint_after d entries)
Joins-entries relation d entries h = record { entries = entries; occurrences = refl; related = h; ends = refl }

-- nothing joins data to themselves
pub Joins-empty : (relation : Relation) (d : ℕ) → Joins relation [] d d
Joins-empty relation d = Joins-entries relation d [] tt

-- nothing joins data to no other
pub same_from_empty : (relation : Relation) (d e : ℕ) → Joins relation [] d e → d ≡ e
same_from_empty relation d e h = go h.entries h.occurrences h.ends
  where
    go : (entries : List Entry) → steps_of entries ≡ [] → joint_after d entries ≡ e → d ≡ e
    go [] o q = q
    go (entry ∷ entries) o q = absurd (let none = ap length o in omega (arith, none))

-- an occurrence that relates data to data, and steps that join these to others
pub Joins_first : (relation : Relation) (step : Occurrence) (steps : List Occurrence) (d c e : ℕ) → relation step.1 d c → Joins relation steps c e → Joins relation (step ∷ steps) d e
Joins_first relation step steps d c e h k = record {
  entries = record { step = step; joint = c } ∷ k.entries;
  occurrences = ap (λ rest. step ∷ rest) k.occurrences;
  related = (h, k.related);
  ends = k.ends;
}

-- the data after the first occurrence
pub joins_from_first : (relation : Relation) (step : Occurrence) (steps : List Occurrence) (d e : ℕ) → Joins relation (step ∷ steps) d e → (c : ℕ) × relation step.1 d c × Joins relation steps c e
joins_from_first relation step steps d e h = go h.entries h.occurrences h.related h.ends
  where
    go : (entries : List Entry) → steps_of entries ≡ step ∷ steps → AreRelated relation d entries → joint_after d entries ≡ e → (c : ℕ) × relation step.1 d c × Joins relation steps c e
    go [] o r q = absurd (let none = ap length o in omega (arith, none))
    go (entry ∷ entries) o r q =
        let same : entry.step ≡ step = ap (λ all. slice_index_or all 0 step) o in (
          entry.joint,
          subst (λ (first : Occurrence). relation first.1 d entry.joint) same r.0,
          record { entries = entries; occurrences = ap (drop 1) o; related = r.1; ends = q },
        )

-- steps that join, and then steps that join
pub Joins_through : (relation : Relation) (front rest : List Occurrence) (d c e : ℕ) → Joins relation front d c → Joins relation rest c e → Joins relation (front ++ rest) d e
Joins_through relation [] rest d c e h k = subst (λ x. Joins relation rest x e) (sym (same_from_empty relation d c h)) k
Joins_through relation (step ∷ front) rest d c e h k =
    let m = joins_from_first relation step front d c h in
    Joins_first relation step (front ++ rest) d m.0 e m.1 (Joins_through relation front rest m.0 c e m.2 k)

-- the data between steps and steps
pub joins_between : (relation : Relation) (front rest : List Occurrence) (d e : ℕ) → Joins relation (front ++ rest) d e → (c : ℕ) × Joins relation front d c × Joins relation rest c e
joins_between relation [] rest d e h = (d, Joins-empty relation d, h)
joins_between relation (step ∷ front) rest d e h =
    let m = joins_from_first relation step (front ++ rest) d e h in
    let k = joins_between relation front rest m.0 e m.2 in
    (k.0, Joins_first relation step front d m.0 k.0 m.1 k.1, k.2)

-- one occurrence joins what its outcome relates
pub Joins_one : (relation : Relation) (step : Occurrence) (d e : ℕ) → relation step.1 d e → Joins relation (step ∷ []) d e
Joins_one relation step d e h = Joins_first relation step [] d e e h (Joins-empty relation e)

-- what one occurrence joins its outcome relates
pub related_from_one : (relation : Relation) (step : Occurrence) (d e : ℕ) → Joins relation (step ∷ []) d e → relation step.1 d e
related_from_one relation step d e h =
    let k = joins_from_first relation step [] d e h in
    subst (relation step.1 d) (same_from_empty relation k.0 e k.2) k.1

-- steps that join, and an occurrence
pub Joins_then : (relation : Relation) (front : List Occurrence) (step : Occurrence) (d c e : ℕ) → Joins relation front d c → relation step.1 c e → Joins relation (front ++ step ∷ []) d e
Joins_then relation front step d c e h k = Joins_through relation front (step ∷ []) d c e h (Joins_one relation step c e k)

-- the data before the last occurrence
pub joins_before : (relation : Relation) (front : List Occurrence) (step : Occurrence) (d e : ℕ) → Joins relation (front ++ step ∷ []) d e → (c : ℕ) × Joins relation front d c × relation step.1 c e
joins_before relation front step d e h =
    let k = joins_between relation front (step ∷ []) d e h in
    (k.0, k.1, related_from_one relation step k.0 e k.2)

-- what joins by one relation joins by a wider one
pub Joins-wider : (relation wider : Relation) → ((o d e : ℕ) → relation o d e → wider o d e) → (steps : List Occurrence) (d e : ℕ) → Joins relation steps d e → Joins wider steps d e
Joins-wider relation wider h [] d e j = subst (Joins wider [] d) (same_from_empty relation d e j) (Joins-empty wider d)
Joins-wider relation wider h (step ∷ steps) d e j =
    let k = joins_from_first relation step steps d e j in
    Joins_first wider step steps d k.0 e (h step.1 d k.0 k.1) (Joins-wider relation wider h steps k.0 e k.2)
