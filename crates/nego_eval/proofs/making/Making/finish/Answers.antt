use Rattle.std.proofs.Common.{◌≡◌, ◌⊎◌, ◌∷◌, [], ◌++◌, List, None, sym, subst, rules}
use Rattle.std.specs.Prelude.{IsSome}
use Rattle.std.proofs.lemmas.List.Elements.{All-nil, All-cons, All-append}
use Rattle.nego_base.proofs.OptionLaws.{then_ok}
use Rattle.nego_eval.specs.declared.rows.Pair.{Pair}
use Rattle.nego_eval.specs.declared.frame.Frame.{Frame}
use Rattle.nego_eval.specs.Frames.{AreRows, IsPair, IsFrame, kept_row}
use Rattle.nego_eval.specs.Making.{AreMaking, AreAsked, IsAskedOf}
use Rattle.nego_eval.proofs.Alike.{frames_alike}
use Rattle.nego_eval.proofs.Asking.{asked_pushed, asked_wanted, asked_kept}
use Rattle.nego_eval.proofs.making.Making.finish.Goals as goal

pub loop-wanted-preserved : goal.loop-wanted-preserved
loop-wanted-preserved c =
    let old = c.loop-wanted.self in
    let pair = c.loop-wanted.frame.pair in
    let invariant = c.loop-wanted.invariant in
    let frame = c.advance.new.self in
    let wants = c.in-Err.ensures.wanted in
    let pushed : c.push.new.self ≡ old.waiting ++ frame ∷ [] = c.in_ok-push.ensures.ok in
    let P : Frame → Type 0 = IsFrame old.rows in
    record {
      rows = invariant.rows;
      making = record { rows = invariant.making.rows; waiting = rw pushed (All-append P old.waiting (frame ∷ []) invariant.making.waiting (All-cons P frame [] c.in-Err.ensures.frame (All-nil P))) };
      frame = search rules;
      vacant = subst (λ p. kept_row old.rows p ≡ None) (sym c.new-frame.ensures.pair) wants.vacant;
      asked = λ roots before root.
          let asked = invariant.asked roots before root in (
            subst (λ waiting. AreAsked roots (record old { waiting = waiting })) (sym pushed) (asked_pushed roots old frame pair c.in-Err.ensures.pair asked.0 asked.1),
            subst (IsAskedOf old.rows roots) (sym c.new-frame.ensures.pair) (asked_wanted roots old.rows pair c.in-Err.wanted wants asked.1),
          );
    }

pub returns-clause-making : goal.returns-clause-making
returns-clause-making c =
    let waiting = c.loop-wanted.self.waiting in
    then_ok c.keep.result (AreRows c.keep.new.self) (AreMaking (record { rows = c.keep.new.self; waiting = waiting }))
    (λ rows. record { rows = rows; waiting = frames_alike c.loop-wanted.self.rows c.keep.new.self waiting c.keep.ensures.alike c.loop-wanted.invariant.making.waiting })
    c.keep.ensures.rows

pub returns-clause-asked : goal.returns-clause-asked
returns-clause-asked c =
    let old = c.loop-wanted.self in
    let later = c.keep.new.self in
    let pair = c.loop-wanted.frame.pair in
    let Only : Pair → Type 0 = λ p. (other : Pair) → IsPair old.rows other → IsSome (kept_row later other) → IsSome (kept_row old.rows other) ⊎ (other ≡ p) in
    then_ok c.keep.result (Only c.advance.new.self.pair) ((roots : List Pair) → AreAsked roots c.args.self.now → IsAskedOf c.args.self.now.rows roots c.args.first.pair → AreAsked roots (record { rows = later; waiting = old.waiting }))
    (λ only roots before root.
    let asked = c.loop-wanted.invariant.asked roots before root in
    asked_kept roots old.rows later old.waiting pair c.keep.ensures.alike (subst Only c.in_default.ensures.pair only) asked.0 asked.1)
    c.keep.ensures.only
