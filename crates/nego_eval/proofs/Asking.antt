-- Laws of rows that are asked for.
use Rattle.std.proofs.Common.{◌≡◌, ◌⊎◌, List, [], ◌∷◌, ◌++◌, Option, inl, inr, sym, subst}
use Rattle.std.specs.Prelude.{IsSome, IfSome, option_to_list}
use Rattle.std.proofs.lemmas.List.Elements.{All-nil, All-cons, All-append, All-pop}
use Rattle.nego_eval.specs.declared.rows.Pair.{Pair}
use Rattle.nego_eval.specs.declared.rows.Rows.{Rows}
use Rattle.nego_eval.specs.declared.frame.Frame.{Frame}
use Rattle.nego_eval.specs.declared.making.Making.{Making}
use Rattle.nego_eval.specs.Frames.{IsPair, AreAlike, IsWanted, kept_row}
use Rattle.nego_eval.specs.Making.{AreAsked, IsAskedOf}

module _ (roots : List Pair) where
  -- a row waits no longer
  pub asked_popped : (making : Making) (rest : List Frame) (last : Option Frame) → making.waiting ≡ rest ++ option_to_list last → AreAsked roots making →
      AreAsked roots (record making { waiting = rest }) × IfSome last (λ frame. IsAskedOf making.rows roots frame.pair)
  asked_popped making rest last are asked =
      let parts = All-pop (λ frame. IsAskedOf making.rows roots frame.pair) making.waiting rest last are asked.waiting in
      (record { kept = asked.kept; waiting = parts.0 }, parts.1)

  -- one more row waits
  pub asked_pushed : (making : Making) (frame : Frame) (pair : Pair) → frame.pair ≡ pair → AreAsked roots making → IsAskedOf making.rows roots pair → AreAsked roots (record making { waiting = making.waiting ++ frame ∷ [] })
  asked_pushed making frame pair same asked here =
      let P : Frame → Type 0 = λ f. IsAskedOf making.rows roots f.pair in
      record { kept = asked.kept; waiting = All-append P making.waiting (frame ∷ []) asked.waiting (All-cons P frame [] (subst (IsAskedOf making.rows roots) (sym same) here) (All-nil P)) }

  -- what a row wants is asked for where the row is
  pub asked_wanted : (rows : Rows) (pair wanted : Pair) → IsWanted rows pair wanted → IsAskedOf rows roots pair → IsAskedOf rows roots wanted
  asked_wanted rows pair wanted wants here = (pair ∷ here.0, (wants.asked, here.1))

  -- one more row is kept
  pub asked_kept : (rows later : Rows) (waiting : List Frame) (pair : Pair) → AreAlike rows later → ((other : Pair) → IsPair rows other → IsSome (kept_row later other) → IsSome (kept_row rows other) ⊎ (other ≡ pair)) →
      AreAsked roots (record { rows = rows; waiting = waiting }) → IsAskedOf rows roots pair → AreAsked roots (record { rows = later; waiting = waiting })
  asked_kept rows later waiting pair alike only asked here =
      let P : Rows → Type 0 = λ r. (other : Pair) → IsPair rows other → IsSome (kept_row r other) → IsSome (kept_row rows other) ⊎ (other ≡ pair) in
      let only' = subst P alike only in
      subst (λ r. AreAsked roots (record { rows = r; waiting = waiting })) (sym alike)
      (record {
        kept = λ other there found.
            let there' : IsPair rows other = record { node = there.node; start = there.start } in
            elim (only' other there' found) [
              | inl before ↦ asked.kept other there' before
              | inr same ↦ subst (IsAskedOf rows roots) (sym same) here
            ];
        waiting = asked.waiting;
      })
