-- Uses of a certificate that are made one after the other, up to the first that can't be made.
use Rattle.std.specs.Prelude.{OnOk}
use Rattle.std.proofs.Common.{◌≡◌, ℕ, ◌+◌, ◌<◌, ◌≤◌, Bool, true, false, List, [], ◌∷◌, ◌++◌, length, take, drop, get_or, Result, Ok, Err, IsTrue, inl, inr, refl, sym, subst, ◌∙◌, add-one}
use Rattle.std.proofs.Math.Seq.{split_at}
use Rattle.std.proofs.lemmas.Bool.{cases_lt}
use Rattle.nego_expr.specs.declared.uses.RuleFault.{RuleFault}
use Rattle.nego_expr.specs.declared.uses.RuleFault.TheVariants as rule_faults
use Rattle.nego_expr.specs.Work.{PlainWork}
use Rattle.nego_expr.specs.Use.{PlainUse, allows, after_use, most_nodes}
use Rattle.nego_expr.specs.UseView.{plain_use}
use Rattle.nego_expr.specs.Lead.{Lead, Allowed}
use Rattle.nego_expr.specs.Made.{IsMade}
use Rattle.nego_expr.proofs.Leading.{Lead_then}
use Rattle.nego_expr.proofs.Seen.{map-take_more}
use Rattle.nego_base.proofs.Cases.{ok-err}
use Rattle.nego_cert.specs.declared.cert.CertLine.{CertLine}
use Rattle.nego_cert.specs.declared.verdict.RuleWhy.{RuleWhy}
use Rattle.nego_cert.specs.declared.verdict.RuleWhy.TheVariants as whys
use Rattle.nego_cert.specs.Replay.{uses_on, Fails, IsFirstFailing}

not_false : (t : Bool) → (t ≡ false → ⊥) → t ≡ true
not_false true h = refl
not_false false h = absurd (h refl)

module _ (next : PlainUse) (work new : PlainWork) (result : Result (Unit {0}) RuleFault) (made : IsMade next work new result) where
  -- what a use is that was made
  pub is_allowed : (x : Unit {0}) → result ≡ Ok x → IsTrue (allows work next)
  is_allowed x is = not_false (allows work next) (λ off. ok-err {E = RuleFault} x rule_faults.Guard (sym is ∙ made.guard.1 off))

  pub has_room : (x : Unit {0}) → result ≡ Ok x → length (after_use work next).nodes ≤ most_nodes
  has_room x is = elim (cases_lt most_nodes (length (after_use work next).nodes)) [
    | inl many ↦ absurd (ok-err {E = RuleFault} x rule_faults.Nodes (sym is ∙ made.nodes.1 (is_allowed x is, many)))
    | inr few ↦ few
  ]

  pub is_after : (x : Unit {0}) → result ≡ Ok x → new ≡ after_use work next
  is_after x is = by_result result is made.made
    where
      by_result : (r : Result (Unit {0}) RuleFault) → r ≡ Ok x → OnOk r (new ≡ after_use work next) → new ≡ after_use work next
      by_result (Ok y) is h = h
      by_result (Err e) is h = absurd cc

  -- and why one wasn't
  pub fails_guard : result ≡ Err rule_faults.Guard → Fails work next whys.Guard
  fails_guard is = made.guard.0 is

  pub fails_nodes : result ≡ Err rule_faults.Nodes → Fails work next whys.Nodes
  fails_nodes is = made.nodes.0 is

abbrev what_of : CertLine → PlainUse
what_of line = plain_use line.what

module _ (work reached : PlainWork) (lines : List CertLine) (i : ℕ) (line : CertLine) (within : i < length lines) (lead : Lead Allowed work (uses_on (take i lines)) reached) where
  -- the line fails behind those that were made
  pub first_failing : (why : RuleWhy) → Fails reached (what_of (get_or lines i line)) why → IsFirstFailing work lines (get_or lines i line).line why
  first_failing why fails = record {
    before = take i lines;
    bad = get_or lines i line;
    behind = drop (i + 1) lines;
    parts = rw add-one (split_at lines i line within);
    reached = reached;
    lead = lead;
    fails = fails;
    is = refl;
  }

  -- one use more
  pub made_more : (new : PlainWork) → IsTrue (allows reached (what_of (get_or lines i line))) → length (after_use reached (what_of (get_or lines i line))).nodes ≤ most_nodes → new ≡ after_use reached (what_of (get_or lines i line)) →
      Lead Allowed work (uses_on (take (i + 1) lines)) new
  made_more new allowed few is =
      let next = what_of (get_or lines i line) in
      let longer : Lead Allowed work (uses_on (take i lines) ++ next ∷ []) (after_use reached next) = Lead_then Allowed work reached (uses_on (take i lines)) next lead allowed few in
      subst (λ w. Lead Allowed work (uses_on (take (i + 1) lines)) w) (sym is)
      (subst (λ uses. Lead Allowed work uses (after_use reached next)) (sym (map-take_more what_of lines i line (get_or lines i line) within refl)) longer)
