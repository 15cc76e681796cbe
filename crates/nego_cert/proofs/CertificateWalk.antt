-- The lines of a certificate, read one after the other.
use Rattle.std.proofs.Common.{◌≡◌, ℕ, ◌+◌, ◌<◌, ◌≤◌, ◌==◌, true, false, List, [], ◌∷◌, ◌++◌, length, drop, get_or, Result, Ok, refl, sym, ap, subst, ◌∙◌, arith}
use Rattle.std.proofs.lemmas.Bool.{eqb-true}
use Rattle.std.proofs.lemmas.Grind.{flat_map-append}
use Rattle.std.proofs.lemmas.List.{append-nil, drop_all}
use Rattle.nego_base.specs.declared.fault.Fault.{Fault}
use Rattle.nego_base.specs.declared.fault.ReadFaults.{ReadFaults}
use Rattle.nego_base.specs.declared.fault.ReadFaults.TheVariants as faults
use Rattle.nego_base.specs.declared.line.Line.{Line}
use Rattle.nego_base.specs.LineAnswers.{onto, Fails}
use Rattle.nego_base.specs.LineWalk.{ended}
use Rattle.nego_base.proofs.LineLoops.{onto_nil, cut_at, walk_goes_on, walk_strays, walk_stops, walk_ends}
use Rattle.nego_cert.specs.declared.cert.CertLine.{CertLine}
use Rattle.nego_cert.specs.declared.row.Kind.{Kind}
use Rattle.nego_cert.specs.declared.row.Row.{Row}
use Rattle.nego_cert.specs.Lines.{followers}
use Rattle.nego_cert.specs.Table.{certificate_lines}
use Rattle.nego_cert.specs.Reading.{row_of, row_in, kind_in, walk, use_in, uses_in, Reads}

-- The lines so far said rows of these uses: all say these rows, and then what the lines say that are left.
pub record SoFar (left total : Result (List Row) Fault) (uses : List CertLine) : Type 0 where
  pub found : List Row
  pub rest : onto found left ≡ total
  pub are : uses ≡ uses_in found

pub none_yet : (total : Result (List Row) Fault) → SoFar total total []
none_yet total = record { found = []; rest = onto_nil total; are = refl }

module _ (missing : Fault) (total : Result (List Row) Fault) (may : List Kind) (lines : List Line) (i : ℕ) (uses : List CertLine) (so_far : SoFar (walk missing may (drop i lines)) total uses) where
  -- the line at the place, before the others
  with_line : (line : Line) → i < length lines → line ≡ get_or lines i line → onto so_far.found (walk missing may (line ∷ drop (i + 1) lines)) ≡ total
  with_line line within is = subst (λ (ls : List Line). onto so_far.found (walk missing may ls) ≡ total) (cut_at lines i line within is) so_far.rest

  pub goes_on : (line : Line) (kind : Kind) (row : Row) → i < length lines → line ≡ get_or lines i line → kind_in may line ≡ Ok kind → row_of kind line ≡ Ok row →
      SoFar (walk missing (followers kind) (drop (i + 1) lines)) total (uses ++ use_in row)
  goes_on line kind row within is kind_is row_is = record {
    found = so_far.found ++ row ∷ [];
    rest = walk_goes_on certificate_lines row_in missing total so_far.found may line (drop (i + 1) lines) kind row kind_is row_is (with_line line within is);
    are = ap (λ (us : List CertLine). us ++ use_in row) so_far.are ∙ sym (flat_map-append use_in so_far.found (row ∷ []) ∙ ap (λ (us : List CertLine). uses_in so_far.found ++ us) (append-nil (use_in row)));
  }

  pub strays : (e : ReadFaults) (line : Line) → i < length lines → line ≡ get_or lines i line → Fails e (kind_in may line) → Fails e total
  strays e line within is h = walk_strays certificate_lines row_in missing total e so_far.found may line (drop (i + 1) lines) h (with_line line within is)

  pub stops : (e : ReadFaults) (line : Line) (kind : Kind) → i < length lines → line ≡ get_or lines i line → kind_in may line ≡ Ok kind → Fails e (row_of kind line) → Fails e total
  stops e line kind within is kind_is h = walk_stops certificate_lines row_in missing total e so_far.found may line (drop (i + 1) lines) kind kind_is h (with_line line within is)

  -- no line is left
  at_end : length lines ≤ i → onto so_far.found (ended certificate_lines row_in missing may) ≡ total
  at_end past = walk_ends certificate_lines row_in missing total so_far.found may (subst (λ (ls : List Line). onto so_far.found (walk missing may ls) ≡ total) (drop_all i lines past) so_far.rest)

  pub complete : length lines ≤ i → (length may == 0) ≡ true → Reads (Ok (record { uses = uses })) total
  complete past none = by_kinds may none (at_end past)
    where
      by_kinds : (ks : List Kind) → (length ks == 0) ≡ true → onto so_far.found (ended certificate_lines row_in missing ks) ≡ total → Reads (Ok (record { uses = uses })) total
      by_kinds [] none e = (so_far.found, sym e ∙ ap (λ (rs : List Row). Ok rs) (append-nil so_far.found), so_far.are)
      by_kinds (k ∷ ks) none e = absurd (let zero = eqb-true (length (k ∷ ks)) 0 none in omega arith)

  pub lacks_end : length lines ≤ i → (length may == 0) ≡ false → Fails (faults.Off missing) total
  lacks_end past some = by_kinds may some (at_end past)
    where
      by_kinds : (ks : List Kind) → (length ks == 0) ≡ false → onto so_far.found (ended certificate_lines row_in missing ks) ≡ total → Fails (faults.Off missing) total
      by_kinds [] some e = absurd cc
      by_kinds (k ∷ ks) some e = sym e
