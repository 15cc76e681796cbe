-- The certificate that a text spells, or its first fault, from what its lines say.
use Rattle.std.proofs.Common.{◌≡◌, ℕ, List, [], ◌∷◌, ◌++◌, map, None, Result, Ok, Err, refl, sym, ap, subst, ◌∙◌, arith}
use Rattle.std.specs.Prelude.{IfOk, IfErr}
use Rattle.std.specs.List.{Contains}
use Rattle.std.proofs.lemmas.Option.{none-some}
use Rattle.nego_base.specs.declared.fault.Fault.{Fault}
use Rattle.nego_base.specs.declared.fault.ReadFaults.{ReadFaults}
use Rattle.nego_base.specs.declared.fault.ReadFaults.TheVariants as faults
use Rattle.nego_base.specs.declared.line.Line.{Line}
use Rattle.nego_base.specs.LineGrammar.{Say, behind_rows, IsTextOf, missing_end}
use Rattle.nego_base.specs.Scan.{scan_fault, scanned, count_lines}
use Rattle.nego_base.proofs.LineFaults.{named_again}
use Rattle.nego_expr.specs.declared.uses.Use.{Use}
use Rattle.nego_expr.specs.declared.uses.Use.TheVariants as the_uses
use Rattle.nego_cert.specs.declared.cert.Cert.{Cert}
use Rattle.nego_cert.specs.declared.cert.CertLine.{CertLine}
use Rattle.nego_cert.specs.declared.row.Kind.{Kind}
use Rattle.nego_cert.specs.declared.row.Kind.TheVariants as kinds
use Rattle.nego_cert.specs.declared.row.Row.{Row}
use Rattle.nego_cert.specs.declared.row.Row.TheVariants as rows
use Rattle.nego_cert.specs.Lines.{keyword, followers, kind_of_use, rows_of}
use Rattle.nego_cert.specs.Table.{certificate_lines, SpellsCertificate, IsFirstFault, ReadHasCause, SpellsNothing}
use Rattle.nego_cert.specs.Reading.{row_in, walk, uses_in, Reads}
use Rattle.nego_cert.specs.TextLaws.{SpellOneOrHaveAFault}
use Rattle.nego_cert.proofs.CertificateRows.{same_kind, reads}
use Rattle.nego_cert.proofs.TextSpelling as text_laws

-- ---- the order of lines

-- the kinds that may stand behind the header
abbrev behind_header : List Kind
behind_header = followers kinds.Header

behind_use : (what : Use) → followers (kind_of_use what) ≡ behind_header
behind_use (the_uses.Merge o1 o2) = refl
behind_use (the_uses.Iterate o) = refl
behind_use (the_uses.Shortcut o n) = refl
behind_use the_uses.Close = refl

no_second_header : Contains behind_header kinds.Header → ⊥
no_second_header h = none-some kinds.Header (named_again keyword (keyword kinds.Header) same_kind behind_header kinds.Header h refl)

no_early_use : (what : Use) → Contains (kinds.Header ∷ []) (kind_of_use what) → ⊥
no_early_use (the_uses.Merge o1 o2) h = none-some kinds.Merge (named_again keyword (keyword kinds.Merge) same_kind (kinds.Header ∷ []) kinds.Merge h refl)
no_early_use (the_uses.Iterate o) h = none-some kinds.Iterate (named_again keyword (keyword kinds.Iterate) same_kind (kinds.Header ∷ []) kinds.Iterate h refl)
no_early_use (the_uses.Shortcut o n) h = none-some kinds.Shortcut (named_again keyword (keyword kinds.Shortcut) same_kind (kinds.Header ∷ []) kinds.Shortcut h refl)
no_early_use the_uses.Close h = none-some kinds.Close (named_again keyword (keyword kinds.Close) same_kind (kinds.Header ∷ []) kinds.Close h refl)

no_early_end : Contains (kinds.Header ∷ []) kinds.End → ⊥
no_early_end h = none-some kinds.End (named_again keyword (keyword kinds.End) same_kind (kinds.Header ∷ []) kinds.End h refl)

nothing_behind : (lines : List Line) (said : List Row) → Say certificate_lines [] lines said → said ≡ []
nothing_behind lines [] h = refl
nothing_behind [] (row ∷ said) h = absurd h
nothing_behind (line ∷ lines) (row ∷ said) h = absurd (let there = h.0.1 in omega arith)

uses_then_end : (lines : List Line) (said : List Row) → Say certificate_lines behind_header lines said → behind_rows certificate_lines behind_header said ≡ [] → said ≡ map rows.Use (uses_in said) ++ rows.End ∷ []
uses_then_end [] [] h ends = absurd cc
uses_then_end [] (row ∷ said) h ends = absurd h
uses_then_end (line ∷ lines) [] h ends = absurd h
uses_then_end (line ∷ lines) (rows.Header ∷ said) h ends = absurd (no_second_header h.0)
uses_then_end (line ∷ lines) (rows.Use u ∷ said) h ends =
    let same = behind_use u.what in
    ap (λ (rs : List Row). rows.Use u ∷ rs) (uses_then_end lines said (subst (λ (ks : List Kind). Say certificate_lines ks lines said) same h.2) (subst (λ (ks : List Kind). behind_rows certificate_lines ks said ≡ []) same ends))
uses_then_end (line ∷ lines) (rows.End ∷ said) h ends =
    let none = nothing_behind lines said h.2 in
    ap (λ (rs : List Row). rows.End ∷ rs) none ∙ ap (λ (rs : List Row). map rows.Use (uses_in rs) ++ rows.End ∷ []) (sym none)

-- the lines of a text are those of a certificate of the uses among them
said_rows : (lines : List Line) (said : List Row) → Say certificate_lines (kinds.Header ∷ []) lines said → behind_rows certificate_lines (kinds.Header ∷ []) said ≡ [] → said ≡ rows_of (record { uses = uses_in said })
said_rows [] [] h ends = absurd cc
said_rows [] (row ∷ said) h ends = absurd h
said_rows (line ∷ lines) [] h ends = absurd h
said_rows (line ∷ lines) (rows.Header ∷ said) h ends = ap (λ (rs : List Row). rows.Header ∷ rs) (uses_then_end lines said h.2 ends)
said_rows (line ∷ lines) (rows.Use u ∷ said) h ends = absurd (no_early_use u.what h.0)
said_rows (line ∷ lines) (rows.End ∷ said) h ends = absurd (no_early_end h.0)

uses_of_uses : (lines : List CertLine) → uses_in (map rows.Use lines ++ rows.End ∷ []) ≡ lines
uses_of_uses [] = refl
uses_of_uses (line ∷ lines) = ap (λ (ls : List CertLine). line ∷ ls) (uses_of_uses lines)

-- ---- a text that spells a certificate

abbrev said_cert : List Row → Cert
said_cert said = record { uses = uses_in said }

said_again : (cert : Cert) → said_cert (rows_of cert) ≡ cert
said_again cert = ap (λ (us : List CertLine). record { uses = us }) (uses_of_uses cert.uses)

whole : (bytes : List ℕ) (said : List Row) → IsTextOf certificate_lines bytes said → said ≡ rows_of (said_cert said)
whole bytes said h = said_rows (scanned bytes) said h.say h.ends

pub one_or_fault : SpellOneOrHaveAFault certificate_lines rows_of
one_or_fault = text_laws.one_or_fault certificate_lines row_in reads rows_of said_cert said_again whole

pub spelled_once : (bytes : List ℕ) (one two : Cert) → SpellsCertificate bytes one → SpellsCertificate bytes two → one ≡ two
spelled_once = one_or_fault.once

pub spelled_sound : (bytes : List ℕ) (cert : Cert) (fault : Fault) → SpellsCertificate bytes cert → IsFirstFault bytes fault → ⊥
spelled_sound = one_or_fault.apart

pub first_fault_once : (bytes : List ℕ) (one two : Fault) → IsFirstFault bytes one → IsFirstFault bytes two → one ≡ two
first_fault_once = one_or_fault.fault_once

-- ---- the answers of the reader

module _ (result : Result Cert ReadFaults) (bytes : List ℕ) (lines lines' : List Line) (count : ℕ) (scans : scan_fault bytes ≡ None) (e : lines' ≡ scanned bytes) (f : count ≡ count_lines bytes) (g : lines ≡ lines') where
  pub walk_caused : Reads result (walk (missing_end count) (kinds.Header ∷ []) lines) → IfErr result (λ e. ReadHasCause e bytes)
  walk_caused h = by_answer result h
    where
      by_answer : (r : Result Cert ReadFaults) → Reads r (walk (missing_end count) (kinds.Header ∷ []) lines) → IfErr r (λ e. ReadHasCause e bytes)
      by_answer (Ok cert) h = tt
      by_answer (Err faults.Memory) h = tt
      by_answer (Err (faults.Off fault)) h = text_laws.walk_caused certificate_lines row_in reads bytes lines lines' count scans e f g fault h

  pub walk_spelled : Reads result (walk (missing_end count) (kinds.Header ∷ []) lines) → IfOk result (λ cert. SpellsCertificate bytes cert)
  walk_spelled h = by_answer result h
    where
      by_answer : (r : Result Cert ReadFaults) → Reads r (walk (missing_end count) (kinds.Header ∷ []) lines) → IfOk r (λ cert. SpellsCertificate bytes cert)
      by_answer (Ok cert) h =
          subst (λ (us : List CertLine). SpellsCertificate bytes (record { uses = us })) (sym h.2)
          (text_laws.text_value certificate_lines row_in reads rows_of said_cert said_again whole bytes h.0 (text_laws.walk_spelled certificate_lines row_in reads bytes lines lines' count scans e f g h.0 h.1))
      by_answer (Err e) h = tt

pub is_unspelled : (result : Result Cert ReadFaults) (bytes : List ℕ) → IfErr result (λ e. ReadHasCause e bytes) → IfErr result (λ e. SpellsNothing e bytes)
is_unspelled (Ok cert) bytes h = tt
is_unspelled (Err faults.Memory) bytes h = tt
is_unspelled (Err (faults.Off fault)) bytes h = λ cert spelled. spelled_sound bytes cert fault spelled h
