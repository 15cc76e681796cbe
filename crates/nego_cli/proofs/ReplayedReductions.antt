-- What `reduce` prints of a diagram is replayed behind it.
use Rattle.std.proofs.Common.{◌≡◌, ◌≢◌, ◌∙◌, inl, inr, ⊎_elim, ℕ, ◌<◌, ◌≤◌, false, not, ◌==◌, ◌&&◌, nat_lt, List, [], ◌∷◌, ◌++◌, length, map, IsTrue, refl, sym, ap, ap₂, subst, arith}
use Rattle.std.specs.Option.{option_map_or}
use Rattle.std.proofs.lemmas.Bool.{and_parts, not-true, eqb-false, cases_lt}
use Rattle.std.specs.Prelude.{◌↔◌}
use Rattle.std.proofs.lemmas.List.{length-map}
use Rattle.nego_io.specs.Part.{Whole, reading, left_over, behind}
use Rattle.nego_io.specs.Laws.{IsClosedPart}
use Rattle.nego_io.proofs.FoundLaws.{closed_parts_stand}
use Rattle.nego_io.proofs.ReadingLaws.{reading_closed}
use Rattle.nego_model.specs.Negotiation.{IsDeterministic}
use Rattle.nego_model.specs.Diagram.{PlainDiagram, negotiation_of}
use Rattle.nego_model.specs.Limits.{IsWithinLimits}
use Rattle.nego_reader.specs.Content.{content_of}
use Rattle.nego_shape.proofs.ShapedDiagrams.{shaped-limits}
use Rattle.nego_base.specs.Members.{is_in}
use Rattle.nego_base.proofs.Members.{one_member}
use Rattle.nego_expr.specs.Work.{WorkAtom, PlainWork, IsWork, outcome_at, outcomes_at, work_parties}
use Rattle.nego_expr.specs.Use.{PlainUse, Merge, Iterate, Shortcut, Close, merges, iterates, sends_all, closes, opening_outcome}
use Rattle.nego_expr.proofs.EditCalls.{allowed_at, found_itself}
use Rattle.nego_expr.proofs.WorkEdits.{All-found}
use Rattle.nego_merge.proofs.MergeKeeps.{merges_parts}
use Rattle.nego_shortcut.proofs.ShortWorks.{entry_from}
use Rattle.nego_shortcut.proofs.CloseKeeps.{closes_parts}
use Rattle.nego_expr.specs.UseView.{plain_use}
use Rattle.nego_expr.specs.Lead.{Lead, Allowed}
use Rattle.nego_expr.specs.Fresh.{fresh_work}
use Rattle.nego_expr.specs.StandsFor.{IsFresh}
use Rattle.nego_expr.proofs.Leading.{Lead-weaker}
use Rattle.nego_reduce.specs.Order.{IsNextUse}
use Rattle.nego_reduce.proofs.NextUses.{next_allowed}
use Rattle.nego_reduce.proofs.bound.CountedUses.{Lead-keeps}
use Rattle.nego_reduce.proofs.bound.FewUses.{fresh_roomy}
use Rattle.nego_reduce.proofs.bound.NextUsesLower.{IsRoomy, next_roomy, shortcut_parts}
use Rattle.nego_cert.specs.declared.cert.Cert.{Cert}
use Rattle.nego_cert.specs.declared.cert.CertLine.{CertLine}
use Rattle.nego_cert.specs.CertificateText.{certificate_text}
use Rattle.nego_cert.specs.Table.{SpellsCertificate}
use Rattle.nego_cert.specs.Replay.{PlainVerdict, IsVerdict, TellsIfAccepted, uses_on}
use Rattle.nego_cert.proofs.PrintedCertificates.{printed_spelled}
use Rattle.nego_cert.proofs.Verdicts.{verdicts_one}
use Rattle.nego_cli.specs.declared.command.Command.TheVariants as commands
use Rattle.nego_cli.specs.declared.status.Status.{Status}
use Rattle.nego_cli.specs.declared.verdict.Verdict.{Verdict}
use Rattle.nego_cli.specs.declared.verdict.Verdict.TheVariants as verdicts
use Rattle.nego_cli.specs.Parts.{Read, ReadPart, part_limit, read_of, read_at, reads_at}
use Rattle.nego_cli.specs.Loading.{SpellsDiagram, IsDiagramOf}
use Rattle.nego_cli.specs.Turn.{TellsText, Refuses}
use Rattle.nego_cli.specs.Commands.{TurnOf, TextOf}
use Rattle.nego_cli.specs.Verdict.{IsReducedTo, verdict_line}
use Rattle.nego_cli.specs.Certificate.{reduction_text, left_text}
use Rattle.nego_cli.specs.Replay.{replay_status, replay_text}
use Rattle.nego_cli.specs.ReplayLaws.{ReductionsAreReplayed, IsReplayed, replayed_verdict}
use Rattle.nego_cli.proofs.Loaded.{diagrams}
use Rattle.nego_cli.proofs.Certificates.{certificates}
use Rattle.nego_cli.proofs.CertificateParts.{certificate_closed}
use Rattle.nego_cli.proofs.SmallUses.{uses_small, uses_short, certificate_fits}
use Rattle.nego_cli.proofs.ReplayHeadlines.{taken}

-- ---- what is read

-- a part that is closed, with more behind it
pub read_closed : (part rest : List ℕ) → IsClosedPart part → length part ≤ part_limit → (read_at (part ++ rest) ≡ ReadPart part) × (behind part_limit (part ++ rest) ≡ rest)
read_closed part rest closed fits =
    let is : reading part_limit (part ++ rest) ≡ Whole part rest = reading_closed part_limit part rest (λ more. closed_parts_stand part more closed) fits in
    (ap read_of is, ap (left_over part_limit (part ++ rest)) is)

-- two, with more behind them
two_read : (part second rest : List ℕ) → IsClosedPart part → length part ≤ part_limit → IsClosedPart second → length second ≤ part_limit →
    reads_at 2 (part ++ (second ++ rest)) ≡ ReadPart part ∷ ReadPart second ∷ []
two_read part second rest closed fits closed' fits' =
    let one = read_closed part (second ++ rest) closed fits in
    let two = read_closed second rest closed' fits' in
    ap₂ (λ (r s : Read). r ∷ s ∷ []) one.0 (ap read_at one.1 ∙ two.0)

-- ---- full works

abbrev atoms_of : PlainWork → List ℕ
atoms_of work = map (λ (atom : WorkAtom). atom.number) work.atoms

-- beside an atom that isn't the last, the last one is left
beside_last : (work : PlainWork) (n : ℕ) → IsWork work → n ≢ work.last → IsTrue (is_in n (atoms_of work)) → 1 < length work.atoms
beside_last work n ok other there =
    subst (λ k. 1 < k) (length-map work.atoms (λ (atom : WorkAtom). atom.number))
    (⊎_elim (λ many. many) (λ few. absurd (other (one_member (atoms_of work) n work.last few there ok.form.last_there))) (cases_lt 1 (length (atoms_of work))))

-- where a use is the next one, more atoms than one are left
next_more : (work : PlainWork) (next : PlainUse) → IsWork work → IsNextUse work next → 1 < length work.atoms
next_more work (Merge o1 o2) ok h =
    let x = allowed_at (λ z. option_map_or (merges work z) (outcome_at work o2) false) (outcome_at work o1) h.allowed in
    let y = allowed_at (merges work x.0) (outcome_at work o2) x.2 in
    let two = merges_parts work x.0 y.0 (found_itself work o1 x.0 x.1) (found_itself work o2 y.0 y.1) y.2 in
    beside_last work x.0.atom ok two.not_last (All-found (λ z. IsTrue (is_in z.atom (atoms_of work))) work.outcomes o1 x.0 ok.own_atom x.1)
next_more work (Iterate o) ok h =
    let x = allowed_at (iterates work) (outcome_at work o) h.1.allowed in
    let parts = and_parts (not (x.0.atom == work.last)) (sends_all (work_parties work x.0.atom) x.0.atom x.0 && nat_lt 1 (length (outcomes_at work x.0.atom))) x.2 in
    beside_last work x.0.atom ok (eqb-false x.0.atom work.last (not-true (x.0.atom == work.last) parts.0))
    (All-found (λ z. IsTrue (is_in z.atom (atoms_of work))) work.outcomes o x.0 ok.own_atom x.1)
next_more work (Shortcut o n) ok h =
    let k = shortcut_parts work o n h.2.taken in
    let entry = entry_from work k.outcome n (found_itself work o k.outcome k.found) k.enters in
    beside_last work n ok entry.not_last entry.there
next_more work Close ok h =
    let x = allowed_at (closes work) (opening_outcome work) h.3 in
    let parts = closes_parts work x.0 x.1 x.2 in
    let two = parts.two in
    omega (arith, two)

-- ---- what its certificate comes to

-- more atoms than one are left where no verdict calls the diagram sound
verdict_is : (d : PlainDiagram) (uses : List PlainUse) (left : PlainWork) (verdict : Verdict) (lines : List CertLine) → uses_on lines ≡ uses → IsFresh (fresh_work d) d → IsReducedTo d uses left verdict →
    IsVerdict d lines (replayed_verdict left verdict) × TellsIfAccepted d (replayed_verdict left verdict)
verdict_is d uses left verdict lines same fresh reduced =
    let allowed : Lead Allowed (fresh_work d) (uses_on lines) left =
    subst (λ us. Lead Allowed (fresh_work d) us left) (sym same) (Lead-weaker IsNextUse Allowed next_allowed (fresh_work d) left uses reduced.leads) in
    let count = length d.atoms in
    let ok : IsWork left = (Lead-keeps IsNextUse (IsRoomy count) (next_roomy count) (fresh_work d) left uses (fresh_roomy d (fresh_work d) fresh) reduced.leads).0 in
    by_verdict verdict ok allowed reduced
  where
    by_verdict : (verdict : Verdict) → IsWork left → Lead Allowed (fresh_work d) (uses_on lines) left → IsReducedTo d uses left verdict → IsVerdict d lines (replayed_verdict left verdict) × TellsIfAccepted d (replayed_verdict left verdict)
    by_verdict verdicts.Sound ok allowed reduced = (record { end = left; lead = allowed; one = reduced.is_verdict.0.one_atom; is = refl }, reduced.is_verdict.1)
    by_verdict verdicts.Unsound ok allowed reduced = (record { end = left; lead = allowed; is = refl; more = reduced.is_verdict.0.more }, tt)
    by_verdict verdicts.Stuck ok allowed reduced = (record { end = left; lead = allowed; is = refl; more = reduced.is_verdict.0.more }, tt)
    by_verdict verdicts.NodeLimit ok allowed reduced =
        let full = reduced.is_verdict.0 in
        (record { end = left; lead = allowed; is = refl; more = next_more left full.next ok full.is_next }, tt)

-- ---- the law

-- what `replay` tells of a part and a certificate behind it
replay_tells : (part behind text : List ℕ) (d : PlainDiagram) (cert : Cert) (verdict : PlainVerdict) (count : ℕ) (status : Status) → IsDiagramOf part d → SpellsCertificate behind cert → IsVerdict d cert.uses verdict → TellsIfAccepted d verdict →
    length cert.uses ≡ count → TextOf commands.Replay (ReadPart part ∷ ReadPart behind ∷ []) status text ↔ ((status ≡ replay_status verdict) × (text ≡ replay_text count verdict))
replay_tells part behind text d cert verdict count status spelled certified is tells same = (
  λ told. tells_so told,
  λ e. (d, spelled, (cert, certified, record { verdict = verdict; is_verdict = is; tells = tells; status_is = e.0; printed = e.1 ∙ ap (λ n. replay_text n verdict) (sym same) })),
)
  where
    tells_so : TextOf commands.Replay (ReadPart part ∷ ReadPart behind ∷ []) status text → (status ≡ replay_status verdict) × (text ≡ replay_text count verdict)
    tells_so (e, other, (c, other', told)) =
        let diagram : e ≡ d = diagrams.one_value part e d other.0 spelled.0 in
        let certificate : c ≡ cert = certificates.one_value behind c cert other' certified in
        let theirs : IsVerdict d cert.uses told.verdict = subst (λ x. IsVerdict d x.uses told.verdict) certificate (subst (λ x. IsVerdict x c.uses told.verdict) diagram told.is_verdict) in
        let one : told.verdict ≡ verdict = verdicts_one d cert.uses told.verdict verdict theirs is in (
          told.status_is ∙ ap replay_status one,
          told.printed ∙ (ap (λ n. replay_text n told.verdict) (ap (λ (x : Cert). length x.uses) certificate ∙ same) ∙ ap (replay_text count) one),
        )

-- the reduction of a deterministic diagram is replayed
replayed_so : (part text : List ℕ) (d : PlainDiagram) (uses : List PlainUse) (left : PlainWork) (verdict : Verdict) → IsClosedPart part → length part ≤ part_limit → IsDiagramOf part d → IsDeterministic (negotiation_of d) →
    IsReducedTo d uses left verdict → text ≡ reduction_text d uses left verdict → IsReplayed part text
replayed_so part text d uses left verdict closed fits spelled determined reduced printed =
    let value = spelled.0.value in
    let limits : IsWithinLimits d = subst IsWithinLimits (sym spelled.0.is) (shaped-limits (content_of value) spelled.0.shaped) in
    let fresh : IsFresh (fresh_work d) d = record { diagram_read = spelled.1; limits = limits; determined = determined; fresh = refl } in
    let small = uses_small d left uses fresh reduced.leads in
    let short = uses_short uses small in
    let found = printed_spelled uses short in
    let behind = verdict_line verdict (length uses) (left_text d left verdict) in
    let reads : reads_at 2 (part ++ text) ≡ ReadPart part ∷ ReadPart (certificate_text uses) ∷ [] =
    ap (λ t. reads_at 2 (part ++ t)) printed ∙ two_read part (certificate_text uses) behind closed fits (certificate_closed uses short) (certificate_fits d uses limits reduced.few small) in
    let comes = verdict_is d uses left verdict found.0.uses found.2 fresh reduced in
    let count : length found.0.uses ≡ length uses = sym (length-map found.0.uses (λ (line : CertLine). plain_use line.what)) ∙ ap length found.2 in
    record {
      diagram = d;
      uses = uses;
      left = left;
      verdict = verdict;
      spelled = spelled.0;
      reduced = reduced;
      printed = printed;
      turn = subst (λ r. TurnOf commands.Replay r TellsText) (sym reads) (taken part (certificate_text uses) d found.0 spelled.0 determined found.1);
      told = λ status told.
          subst (λ r. TextOf commands.Replay r status told ↔ ((status ≡ replay_status (replayed_verdict left verdict)) × (told ≡ replay_text (length uses) (replayed_verdict left verdict)))) (sym reads)
          (replay_tells part (certificate_text uses) told d found.0 (replayed_verdict left verdict) (length uses) status spelled found.1 comes.0 comes.1 count);
    }

pub reductions_replayed : ReductionsAreReplayed
reductions_replayed part text status closed fits (inl (why, is, none, bad)) told = absurd (let never : TellsText ≡ Refuses why = is in cc)
reductions_replayed part text status closed fits (inr (other, e, at, spells, done)) (d, spelled, reduction) =
    let here : ReadPart part ≡ ReadPart other = at in
    let same : part ≡ other = cc in
    let one : e ≡ d = diagrams.one_value part e d (subst (λ t. SpellsDiagram t e) (sym same) spells) spelled.0 in
    replayed_so part text d reduction.uses reduction.left reduction.verdict closed fits spelled (subst (λ x. IsDeterministic (negotiation_of x)) one done.0) reduction.reduced reduction.printed
