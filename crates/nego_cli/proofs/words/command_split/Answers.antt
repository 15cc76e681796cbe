use Rattle.std.proofs.Common.{◌≡◌, ◌∙◌, ap, sym, subst, refl, map}
use Rattle.clap.specs.Words.{found_of, rows_of, subcommand_rows_of}
use Rattle.nego_cli.specs.CommandLine.{command_split, numbers_in}
use Rattle.nego_cli.specs.Words.{Gives, command_with}
use Rattle.nego_cli.proofs.WordLaws.{numbers_read, split_by}
use Rattle.nego_cli.proofs.words.command_split.Goals as goal

pub returns : goal.returns
returns c =
    let found = found_of c.in-Some.behind.now in
    let split = split_by c.args.found.now c.in-Some.name.now (rows_of found) c.in-Some.ensures.name c.in-Some.ensures.rows in
    let numbers : map (λ s. s.now) c.unwrap_or.result.now ≡ numbers_in (rows_of found) =
    ap (λ words. map (λ s. s.now) words.now) c.unwrap_or.ensures ∙ numbers_read found c.get_raw.result _ refl c.get_raw.ensures in
    let command : command_with c.in-Some.name.now (map (λ s. s.now) c.unwrap_or.result.now) ≡ command_split (subcommand_rows_of c.args.found.now) =
    ap (command_with c.in-Some.name.now) numbers ∙ sym (ap command_split split) in
    subst (λ o. Gives o c.command_with.result) command c.command_with.ensures
