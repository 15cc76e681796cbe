-- The lines of a summary, read one after the other.
use Rattle.std.proofs.Common.{◌≡◌, ℕ, ◌+◌, ◌<◌, ◌≤◌, ◌==◌, true, false, List, [], ◌∷◌, ◌++◌, length, map, drop, get_or, Result, Ok, refl, sym, ap, ap₂, subst, ◌∙◌, arith}
use Rattle.std.specs.List.{flat_map}
use Rattle.std.proofs.lemmas.Bool.{eqb-true}
use Rattle.std.proofs.lemmas.Grind.{flat_map-append}
use Rattle.std.proofs.lemmas.List.{append-nil, drop_all, length-append, map-append}
use Rattle.nego_base.specs.declared.fault.Fault.{Fault}
use Rattle.nego_base.specs.declared.fault.ReadFaults.{ReadFaults}
use Rattle.nego_base.specs.declared.fault.ReadFaults.TheVariants as faults
use Rattle.nego_base.specs.declared.line.Line.{Line}
use Rattle.nego_base.specs.LineAnswers.{onto, Fails}
use Rattle.nego_base.specs.LineWalk.{ended, kind_of_line}
use Rattle.nego_base.proofs.LineLoops.{onto_nil, cut_at, walk_goes_on, walk_strays, walk_stops, walk_ends}
use Rattle.nego_model.specs.Summary.{PlainFinal, PlainSummary}
use Rattle.nego_expr.specs.declared.summary.Summary.{Summary}
use Rattle.nego_expr.specs.SummaryText.{plain_summary}
use Rattle.nego_cert.specs.declared.summary_row.SummaryKind.{SummaryKind}
use Rattle.nego_cert.specs.SummaryLines.{followers}
use Rattle.nego_cert.specs.SummaryTable.{SummaryLine, kind_of, Known, node_of, final_of, behind, summary_lines}
use Rattle.nego_cert.specs.SummaryReading.{line_in, kind_in, walk, known_of, summary_in, with_line, ReadsSummary}

abbrev name_of : PlainFinal → List ℕ
name_of outcome = outcome.name

-- the kind of a line is that by what may stand alone
kind_same : (known : Known) (line : Line) → kind_of_line summary_lines line_in known line ≡ kind_in known.may line
unfolding kind_of_line
kind_same known line = refl

-- what is known behind a line is what is known of the summary with it
behind_is : (may : List SummaryKind) (summary : PlainSummary) (kind : SummaryKind) (said : SummaryLine) → kind_of said ≡ kind → behind (known_of may summary) said ≡ known_of (followers kind) (with_line summary said)
behind_is may summary kind said is =
    let size : length summary.nodes + length (node_of said) ≡ length (summary.nodes ++ node_of said) = sym (length-append summary.nodes (node_of said)) in
    let names : map name_of summary.finals ++ map name_of (final_of said) ≡ map name_of (summary.finals ++ final_of said) = sym (map-append name_of summary.finals (final_of said)) in
    rw (is, size, names) refl

-- The lines so far said this summary: all say these lines, and then what the lines say that are left.
pub record SoFar (left total : Result (List SummaryLine) Fault) (summary : PlainSummary) : Type 0 where
  pub found : List SummaryLine
  pub rest : onto found left ≡ total
  pub are : summary ≡ summary_in found

pub none_yet : (total : Result (List SummaryLine) Fault) → SoFar total total (record { nodes = []; finals = [] })
none_yet total = record { found = []; rest = onto_nil total; are = refl }

module _ (missing : Fault) (total : Result (List SummaryLine) Fault) (may : List SummaryKind) (lines : List Line) (i : ℕ) (summary : PlainSummary) (so_far : SoFar (walk missing (known_of may summary) (drop i lines)) total summary) where
  -- the line at the place, before the others
  with_rest : (line : Line) → i < length lines → line ≡ get_or lines i line → onto so_far.found (walk missing (known_of may summary) (line ∷ drop (i + 1) lines)) ≡ total
  with_rest line within is = subst (λ (ls : List Line). onto so_far.found (walk missing (known_of may summary) ls) ≡ total) (cut_at lines i line within is) so_far.rest

  pub goes_on : (line : Line) (kind : SummaryKind) (said : SummaryLine) (new : PlainSummary) → i < length lines → line ≡ get_or lines i line → kind_in may line ≡ Ok kind → line_in (known_of may summary) kind line ≡ Ok said → kind_of said ≡ kind →
      new ≡ with_line summary said → SoFar (walk missing (known_of (followers kind) new) (drop (i + 1) lines)) total new
  goes_on line kind said new within is kind_is said_is of_kind new_is =
      let more : summary_in (so_far.found ++ said ∷ []) ≡ with_line (summary_in so_far.found) said =
      ap₂ (λ ns fs. record { nodes = ns; finals = fs })
      (flat_map-append node_of so_far.found (said ∷ []) ∙ ap (λ ns. flat_map node_of so_far.found ++ ns) (append-nil (node_of said)))
      (flat_map-append final_of so_far.found (said ∷ []) ∙ ap (λ fs. flat_map final_of so_far.found ++ fs) (append-nil (final_of said))) in
      subst (λ s. SoFar (walk missing (known_of (followers kind) s) (drop (i + 1) lines)) total s) (sym new_is) (record {
        found = so_far.found ++ said ∷ [];
        rest = subst (λ (k : Known). onto (so_far.found ++ said ∷ []) (walk missing k (drop (i + 1) lines)) ≡ total) (behind_is may summary kind said of_kind)
            (walk_goes_on summary_lines line_in missing total so_far.found (known_of may summary) line (drop (i + 1) lines) kind said (kind_same (known_of may summary) line ∙ kind_is) said_is (with_rest line within is));
        are = ap (λ s. with_line s said) so_far.are ∙ sym more;
      })

  pub strays : (e : ReadFaults) (line : Line) → i < length lines → line ≡ get_or lines i line → Fails e (kind_in may line) → Fails e total
  strays e line within is h = walk_strays summary_lines line_in missing total e so_far.found (known_of may summary) line (drop (i + 1) lines) (subst (Fails e) (sym (kind_same (known_of may summary) line)) h) (with_rest line within is)

  pub stops : (e : ReadFaults) (line : Line) (kind : SummaryKind) → i < length lines → line ≡ get_or lines i line → kind_in may line ≡ Ok kind → Fails e (line_in (known_of may summary) kind line) → Fails e total
  stops e line kind within is kind_is h =
      walk_stops summary_lines line_in missing total e so_far.found (known_of may summary) line (drop (i + 1) lines) kind (kind_same (known_of may summary) line ∙ kind_is) h (with_rest line within is)

  -- no line is left
  at_end : length lines ≤ i → onto so_far.found (ended summary_lines line_in missing may) ≡ total
  at_end past = walk_ends summary_lines line_in missing total so_far.found (known_of may summary) (subst (λ (ls : List Line). onto so_far.found (walk missing (known_of may summary) ls) ≡ total) (drop_all i lines past) so_far.rest)

  pub complete : (answer : Summary) → plain_summary answer ≡ summary → length lines ≤ i → (length may == 0) ≡ true → ReadsSummary (Ok answer) total
  complete answer same past none = by_kinds may none (at_end past)
    where
      by_kinds : (ks : List SummaryKind) → (length ks == 0) ≡ true → onto so_far.found (ended summary_lines line_in missing ks) ≡ total → ReadsSummary (Ok answer) total
      by_kinds [] none e = (so_far.found, sym e ∙ ap (λ (rs : List SummaryLine). Ok rs) (append-nil so_far.found), same ∙ so_far.are)
      by_kinds (k ∷ ks) none e = absurd (let zero = eqb-true (length (k ∷ ks)) 0 none in omega arith)

  pub lacks_end : length lines ≤ i → (length may == 0) ≡ false → Fails (faults.Off missing) total
  lacks_end past some = by_kinds may some (at_end past)
    where
      by_kinds : (ks : List SummaryKind) → (length ks == 0) ≡ false → onto so_far.found (ended summary_lines line_in missing ks) ≡ total → Fails (faults.Off missing) total
      by_kinds [] some e = absurd cc
      by_kinds (k ∷ ks) some e = sym e
