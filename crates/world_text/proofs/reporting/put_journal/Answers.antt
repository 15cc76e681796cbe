use Rattle.std.proofs.Common.{◌≡◌, ℕ, ◌++◌, List, All, length, map, sym, ap, subst, ◌∙◌}
use Rattle.std.specs.Prelude.{OnOk}
use Rattle.std.proofs.lemmas.List.{length-map}
use Rattle.agent_msg.specs.Records.{PlainRecord, entry}
use Rattle.world_text.specs.Named.{IsNamedRecord}
use Rattle.world_text.specs.ReportText.{journal_lines}
use Rattle.world_text.proofs.reporting.put_journal.Goals as goal

pub put_counted-requires : goal.put_counted-requires
put_counted-requires c = subst (λ (rs : List PlainRecord). All (IsNamedRecord c.args.d.now) rs) (sym c.records-records.ensures) c.requires

pub returns : goal.returns
returns c =
    let count : length c.records-records.result.now ≡ length c.args.agent.now.plain.records = sym (length-map c.records-records.result.now entry) ∙ ap length c.records-records.ensures in
    let counted = subst (λ n. OnOk c.put_counted.result (c.put_counted.new.text ≡ c.args.text.now ++ journal_lines c.args.d.now n (map entry c.records-records.result.now))) count c.put_counted.ensures in
    subst (λ (rs : List PlainRecord). OnOk c.put_counted.result (c.put_counted.new.text ≡ c.args.text.now ++ journal_lines c.args.d.now (length c.args.agent.now.plain.records) rs)) c.records-records.ensures counted
