-- What `ask` does with a diagram.
use Rattle.std.specs.Prelude.{◌≡◌, ◌↔◌, ℕ, ◌<◌, List, [], ◌∷◌, ◌++◌, length, slice_index, codes, Ok, AllPairs, Contains}
use Rattle.nego_data.specs.Data.{data_count, split}
use Rattle.nego_model.specs.Joining.{By, Runs}
use Rattle.nego_model.specs.Diagram.{PlainDiagram, negotiation_of, relation_of, outcome_name}
use Rattle.nego_model.specs.Summary.{final_outcomes}
use Rattle.nego_expr.specs.Work.{PlainWork}
use Rattle.nego_expr.specs.Use.{PlainUse}
use Rattle.nego_eval.specs.Answers.{ComesBefore}
use Rattle.nego_cli.specs.declared.status.Status.{Status}
use Rattle.nego_cli.specs.declared.verdict.Verdict.{Verdict}
use Rattle.nego_cli.specs.declared.verdict.Verdict.TheVariants.{Sound}
use Rattle.nego_cli.specs.Parts.{Read}
use Rattle.nego_cli.specs.Turn.{Turn, TurnHere}
use Rattle.nego_cli.specs.Refusals.{value_words}
use Rattle.nego_cli.specs.Verdict.{IsReducedTo, verdict_line, verdict_status}
use Rattle.nego_cli.specs.Starts.{StartsAt, CanStart, CannotStart}

-- It takes each deterministic diagram whose agents can start with the values.
abbrev pub AskTurn : List ℕ → PlainDiagram → List Read → Turn → Type 0
AskTurn values d reads turn = TurnHere (CanStart d values) (CannotStart d values) reads turn

-- the line of an answer: the name of the final outcome, and the values of the agents
abbrev pub answer_line : PlainDiagram → ℕ × ℕ → List ℕ → List ℕ
answer_line d answer rest = outcome_name d answer.0 ++ value_words (split d.sizes answer.1) (codes "\n" ++ rest)

-- a line for each answer, before the rest of a text
abbrev pub lines_of_answers : PlainDiagram → List (ℕ × ℕ) → List ℕ → List ℕ
lines_of_answers d [] rest = rest
lines_of_answers d (answer ∷ answers) rest = answer_line d answer (lines_of_answers d answers rest)

-- the text of answers
abbrev pub answer_lines : PlainDiagram → List (ℕ × ℕ) → List ℕ
answer_lines d answers = lines_of_answers d answers []

-- The answers to a start are exactly the outcomes f with the joint data e for which some complete run with f, which is then
-- a final outcome, joins the start to e: each once, by the number of f, and of one f by e.
pub record AreEnds (d : PlainDiagram) (start : ℕ) (answers : List (ℕ × ℕ)) : Type 0 where
  pub each : (f e : ℕ) → Contains answers (f, e) ↔ Runs (negotiation_of d) (By (relation_of d)) f start e
  pub rise : AllPairs ComesBefore answers

-- What is told of a start with this verdict, after so many uses: the answers where the diagram is sound, else the verdict.
abbrev pub IsAnswerTo : PlainDiagram → ℕ → ℕ → Verdict → List ℕ → Type 0
IsAnswerTo d start count Sound text = (answers : List (ℕ × ℕ)) × AreEnds d start answers × (text ≡ answer_lines d answers)
IsAnswerTo d start count verdict text = text ≡ verdict_line verdict count []

-- The text is the answer to the start of the values, by the verdict that the reduction of the diagram gives, and the status
-- is that of the verdict.
pub record IsAskText (values : List ℕ) (d : PlainDiagram) (status : Status) (text : List ℕ) : Type 0 where
  pub uses : List PlainUse
  pub left : PlainWork
  pub verdict : Verdict
  pub start : ℕ
  pub reduced : IsReducedTo d uses left verdict
  pub status_is : status ≡ verdict_status verdict
  pub starts : StartsAt d values (Ok start)
  pub answers : IsAnswerTo d start (length uses) verdict text

-- It tells the answer.
abbrev pub AskText : List ℕ → PlainDiagram → List Read → Status → List ℕ → Type 0
AskText values d reads status text = IsAskText values d status text

-- There is a final outcome at the place, and the joint data are some.
abbrev pub IsAnswerIn : PlainDiagram → ℕ × ℕ → Type 0
IsAnswerIn d answer = (answer.0 < length (final_outcomes d)) × (answer.1 < data_count d.sizes)

-- an answer with the number of its final outcome for the place
abbrev pub numbered : PlainDiagram → ℕ × ℕ → ℕ × ℕ
numbered d answer = (slice_index (final_outcomes d) answer.0, answer.1)
