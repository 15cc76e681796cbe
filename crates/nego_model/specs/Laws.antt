-- Laws over the definitions, each proved as the clause of a public function.
use Rattle.std.specs.Prelude.{◌≡◌, ◌≢◌, ◌↔◌, ℕ, ◌<◌, List, [], ◌∷◌, ◌++◌, length, Some, IsTrue}
use Rattle.std.specs.List.{AllPairs}
use Rattle.nego_base.specs.Members.{is_in}
use Rattle.nego_data.specs.Data.{data_count}
use Rattle.nego_data.specs.Locality.{AgreeOn}
use Rattle.nego_model.specs.Negotiation.{Negotiation, IsNegotiation, IsDeterministic, IsOutcome}
use Rattle.nego_model.specs.Occurring.{PlainMarking, Occurrence, ready, after, leaves, opening_marking, IsComplete, IsSound}
use Rattle.nego_model.specs.Joining.{Relation, RelationTest, By, Entry, steps_of, AreRelated, joint_after, IsHistory, Joins, EndsWith, Runs}
use Rattle.nego_model.specs.Projection.{AreApart, projection, own_entries, ready_behind}
use Rattle.nego_model.specs.Reaching.{EndsAtLast}
use Rattle.nego_model.specs.Acyclic.{IsForwardOrder, IsRankedBy}
use Rattle.nego_model.specs.Reduced.{SendAlike, EntersNone, IsReduced, IsClosable, IteratesNone, IsSweepable}
use Rattle.nego_model.specs.Policy.{Policy, IsCompletedBy}
use Rattle.nego_model.specs.Locality.{IsLocal}
use Rattle.nego_model.specs.Expression.{PlainNode, Means, Meaning, Relates}

-- A complete run isn't empty, and its last entry is of the last atom.
abbrev pub CompleteRunsEndWithTheLastAtom : Type 0
CompleteRunsEndWithTheLastAtom = (nego : Negotiation) (run : List Occurrence) → IsNegotiation nego → IsComplete nego run → (o : ℕ) × EndsWith run (nego.last, o)

-- Two runs, one after the other, join what they join through some data between.
abbrev pub JoinsThroughBetween : Type 0
JoinsThroughBetween = (meaning : Meaning) (front rest : List Occurrence) (d e : ℕ) →
    Joins (Relates meaning) (front ++ rest) d e ↔ ((c : ℕ) × Joins (Relates meaning) front d c × Joins (Relates meaning) rest c e)

-- A node that is added at the end changes the meaning of no other.
abbrev pub OlderNodesKeepTheirMeaning : Type 0
OlderNodesKeepTheirMeaning = (test : RelationTest) (nodes : List PlainNode) (node : PlainNode) (i d e : ℕ) → i < length nodes →
    Means (By test) (nodes ++ node ∷ []) i d e ↔ Means (By test) nodes i d e

-- In a deterministic negotiation a complete run is a way to everyone at the last atom, and one outcome of it.
abbrev pub CompleteRunsPassEveryoneAtTheLastAtom : Type 0
CompleteRunsPassEveryoneAtTheLastAtom = (nego : Negotiation) (meaning : Meaning) (f d e : ℕ) → IsNegotiation nego → IsDeterministic nego →
    Runs nego (Relates meaning) f d e ↔ EndsAtLast nego (Relates meaning) f d e

-- Two occurrences that a marking allows, of atoms without a common party, happen in each order and leave the same.
abbrev pub StepsApartCommute : Type 0
StepsApartCommute = (nego : Negotiation) (marking one two : PlainMarking) (step step' : Occurrence) → AreApart (nego.parties step.0) (nego.parties step'.0) →
    after nego marking step ≡ Some one → after nego marking step' ≡ Some two →
    (left : PlainMarking) × (leaves nego marking (step ∷ step' ∷ []) ≡ Some left) × (leaves nego marking (step' ∷ step ∷ []) ≡ Some left)

-- They join the same joint data in each order, where relations read and change their parties' values alone.
abbrev pub StepsApartJoinTheSame : Type 0
StepsApartJoinTheSame = (nego : Negotiation) (sizes : List ℕ) (meaning : Meaning) (marking one two : PlainMarking) (step step' : Occurrence) (d e : ℕ) → IsLocal nego sizes (Relates meaning) →
    AreApart (nego.parties step.0) (nego.parties step'.0) → after nego marking step ≡ Some one → after nego marking step' ≡ Some two → d < data_count sizes →
    Joins (Relates meaning) (step ∷ step' ∷ []) d e ↔ Joins (Relates meaning) (step' ∷ step ∷ []) d e

-- Two neighbours without a common party may change places: the same is left.
abbrev pub NeighboursChangePlaces : Type 0
NeighboursChangePlaces = (nego : Negotiation) (marking left : PlainMarking) (front rest : List Occurrence) (step step' : Occurrence) → AreApart (nego.parties step.0) (nego.parties step'.0) →
    leaves nego marking (front ++ step ∷ step' ∷ rest) ≡ Some left → leaves nego marking (front ++ step' ∷ step ∷ rest) ≡ Some left

-- Then what is joined stays, where relations read and change their parties' values alone.
abbrev pub NeighboursKeepJoinedData : Type 0
NeighboursKeepJoinedData = (nego : Negotiation) (sizes : List ℕ) (meaning : Meaning) (marking left : PlainMarking) (front rest : List Occurrence) (step step' : Occurrence) (d e : ℕ) → IsLocal nego sizes (Relates meaning) →
    AreApart (nego.parties step.0) (nego.parties step'.0) → d < data_count sizes → leaves nego marking (front ++ step ∷ step' ∷ rest) ≡ Some left →
    Joins (Relates meaning) (front ++ step ∷ step' ∷ rest) d e → Joins (Relates meaning) (front ++ step' ∷ step ∷ rest) d e

-- Two neighbouring entries change places: with other data between the two all stays related, and the parties of each
-- have after it what they had.
pub record ChangePlaces (nego : Negotiation) (sizes : List ℕ) (relation : Relation) (d : ℕ) (front : List Entry) (one two : Entry) (rest : List Entry) : Type 0 where
  pub between : ℕ
  pub related : AreRelated relation d (front ++ record { step = two.step; joint = between } ∷ record { step = one.step; joint = two.joint } ∷ rest)
  pub keeps_first : AgreeOn sizes (nego.parties one.step.0) one.joint two.joint
  pub keeps_second : AgreeOn sizes (nego.parties two.step.0) two.joint between

-- So do neighbours among entries that occur, whose atoms have no common party, where relations read and change their
-- parties' values alone.
abbrev pub NeighboursKeepEntries : Type 0
NeighboursKeepEntries = (nego : Negotiation) (sizes : List ℕ) (meaning : Meaning) (marking left : PlainMarking) (d : ℕ) (front rest : List Entry) (one two : Entry) → IsLocal nego sizes (Relates meaning) →
    AreApart (nego.parties one.step.0) (nego.parties two.step.0) → d < data_count sizes → leaves nego marking (steps_of (front ++ one ∷ two ∷ rest)) ≡ Some left →
    AreRelated (Relates meaning) d (front ++ one ∷ two ∷ rest) → ChangePlaces nego sizes (Relates meaning) d front one two rest

-- Each agent sees the same of two neighbours that change places.
abbrev pub NeighboursKeepProjections : Type 0
NeighboursKeepProjections = (nego : Negotiation) (front rest : List Occurrence) (step step' : Occurrence) (a : ℕ) → AreApart (nego.parties step.0) (nego.parties step'.0) →
    projection nego a (front ++ step ∷ step' ∷ rest) ≡ projection nego a (front ++ step' ∷ step ∷ rest)

-- What an agent is ready for after a run follows from the run's projection on it.
abbrev pub ReadinessFollowsFromTheProjection : Type 0
ReadinessFollowsFromTheProjection = (nego : Negotiation) (run : List Occurrence) (left : PlainMarking) (a : ℕ) → a < nego.agents → leaves nego (opening_marking nego) run ≡ Some left →
    ready left a ≡ ready_behind nego a (nego.first ∷ []) (projection nego a run)

-- Two runs with the same projection on each agent leave the same marking.
abbrev pub SameProjectionsLeaveTheSame : Type 0
SameProjectionsLeaveTheSame = (nego : Negotiation) (one two : List Occurrence) (left left' : PlainMarking) → leaves nego (opening_marking nego) one ≡ Some left → leaves nego (opening_marking nego) two ≡ Some left' →
    ((a : ℕ) → a < nego.agents → projection nego a one ≡ projection nego a two) → left ≡ left'

-- The occurrences of an agent's own entries of a history are the projection of the history's run.
abbrev pub OwnEntriesProject : Type 0
OwnEntriesProject = (nego : Negotiation) (a : ℕ) (history : List Entry) → steps_of (own_entries nego a history) ≡ projection nego a (steps_of history)

-- An agent has the same values after a history as after its own entries alone, where relations read and change their
-- parties' values alone.
abbrev pub ValuesFollowFromOwnEntries : Type 0
ValuesFollowFromOwnEntries = (nego : Negotiation) (sizes : List ℕ) (meaning : Meaning) (start : ℕ) (history : List Entry) (a : ℕ) → IsLocal nego sizes (Relates meaning) → start < data_count sizes →
    IsHistory nego (Relates meaning) start history → AgreeOn sizes (a ∷ []) (joint_after start history) (joint_after start (own_entries nego a history))

-- A forward order ranks its negotiation.
abbrev pub ForwardOrdersRank : Type 0
ForwardOrdersRank = (nego : Negotiation) (order : List ℕ) → IsNegotiation nego → IsForwardOrder nego order → IsRankedBy nego order

-- A sound negotiation whose first atom is the last has no other.
abbrev pub FirstAndLastIsAlone : Type 0
FirstAndLastIsAlone = (nego : Negotiation) → IsNegotiation nego → IsSound nego → nego.first ≡ nego.last → (n : ℕ) → IsTrue (is_in n nego.atoms) → n ≡ nego.last

-- A sound deterministic negotiation that an order ranks, and that is reduced, is closable where its first atom isn't
-- the last.
abbrev pub ReducedIsClosable : Type 0
ReducedIsClosable = (nego : Negotiation) (order : List ℕ) → IsNegotiation nego → IsDeterministic nego → IsSound nego → IsRankedBy nego order → IsReduced nego → nego.first ≢ nego.last → IsClosable nego

-- A sound deterministic negotiation has a policy.
abbrev pub PoliciesExist : Type 0
PoliciesExist = (nego : Negotiation) → IsNegotiation nego → IsDeterministic nego → IsSound nego → Policy nego

-- Occurrences by a policy lead from each marking that a run leaves to the final one.
abbrev pub PoliciesComplete : Type 0
PoliciesComplete = (nego : Negotiation) (policy : Policy nego) (run : List Occurrence) (marking : PlainMarking) → IsNegotiation nego → IsDeterministic nego → IsSound nego →
    leaves nego (opening_marking nego) run ≡ Some marking → (steps : List Occurrence) × IsCompletedBy nego policy.choice marking steps

-- In chosen occurrences from a marking that a run leaves to the final one no atom occurs twice.
abbrev pub ChosenAtomsOccurOnce : Type 0
ChosenAtomsOccurOnce = (nego : Negotiation) (choice : ℕ → ℕ) (run steps : List Occurrence) (marking : PlainMarking) → IsNegotiation nego → IsDeterministic nego →
    leaves nego (opening_marking nego) run ≡ Some marking → IsCompletedBy nego choice marking steps → AllPairs (λ one two. one.0 ≢ two.0) steps

-- What an agent sees of them follows from what it is ready for.
abbrev pub ChosenPathsDependOnThePlace : Type 0
ChosenPathsDependOnThePlace = (nego : Negotiation) (choice : ℕ → ℕ) (run run' steps steps' : List Occurrence) (marking marking' : PlainMarking) (a : ℕ) → IsNegotiation nego → IsDeterministic nego → a < nego.agents →
    leaves nego (opening_marking nego) run ≡ Some marking → leaves nego (opening_marking nego) run' ≡ Some marking' → IsCompletedBy nego choice marking steps → IsCompletedBy nego choice marking' steps' →
    ready marking a ≡ ready marking' a → projection nego a steps ≡ projection nego a steps'

-- In a sound deterministic negotiation, cyclic ones too, outcomes of an atom that enter no atom send alike.
abbrev pub OneWayOut : Type 0
OneWayOut = (nego : Negotiation) (n x y : ℕ) → IsNegotiation nego → IsDeterministic nego → IsSound nego → IsOutcome nego n x → IsOutcome nego n y → EntersNone nego n x → EntersNone nego n y → SendAlike nego n x y

-- In a sound deterministic negotiation, cyclic ones too, of which nothing iterates, some atom may be swept, where there is one
-- beside the first and the last.
abbrev pub SomeAtomMayBeSwept : Type 0
SomeAtomMayBeSwept = (nego : Negotiation) (n : ℕ) → IsNegotiation nego → IsDeterministic nego → IsSound nego → IteratesNone nego → IsTrue (is_in n nego.atoms) → n ≢ nego.first → n ≢ nego.last → (p : ℕ) × IsSweepable nego p
