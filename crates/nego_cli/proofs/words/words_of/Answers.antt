use Rattle.std.proofs.Common.{◌≡◌, ◌∙◌, [], sym, ap, subst, map}
use Rattle.std.proofs.lemmas.Result.{err_from_is_err_and}
use Rattle.clap.specs.Words.{fault_of, subcommand_of, subcommand_rows_of}
use Rattle.nego_base.proofs.Cases.{same_Err}
use Rattle.nego_cli.specs.declared.command.Command.{Command}
use Rattle.nego_cli.specs.declared.command.WordsAnswer.TheVariants.{Words as BadWords}
use Rattle.nego_cli.specs.CommandLine.{command_line, command_split}
use Rattle.nego_cli.specs.Words.{Gives, command_of}
use Rattle.nego_cli.proofs.WordLaws.{command_found, gives_err, gives_ok, refused}
use Rattle.nego_cli.proofs.words.words_of.Goals as goal

pub returns-in_err-matches-clause-err : goal.returns-in_err-matches-clause-err
returns-in_err-matches-clause-err c h =
    let words : map (λ s. s.now) c.as_slice.result.now ≡ c.args.words.now = ap (map (λ s. s.now)) c.as_slice.ensures.value ∙ c.in_ok-texts.ensures.texts in
    let p = err_from_is_err_and c.from_residual-in_err-matches.result c.from_residual-in_err-matches.ensures.1 in
    let cause : c.in_err-matches.field-0.0 ≡ BadWords = sym p.2 ∙ same_Err {T = Command} p.0 BadWords (sym p.1 ∙ h) in
    refused c.args.words.now c.in_ok-texts.ensures.right (λ none. c.in_err-matches.ensures.refused cause (ap (fault_of command_line) words ∙ none))

pub returns-clause-ok : goal.returns-clause-ok
returns-clause-ok c =
    let words : map (λ s. s.now) c.as_slice.result.now ≡ c.args.words.now = ap (map (λ s. s.now)) c.as_slice.ensures.value ∙ c.in_ok-texts.ensures.texts in
    let none : fault_of command_line c.args.words.now ≡ [] = sym (ap (fault_of command_line) words) ∙ c.in_ok-matches.ensures.taken in
    let found : command_split (subcommand_rows_of c.in_ok-matches.matches) ≡ command_of c.args.words.now =
    command_found c.args.words.now c.in_ok-texts.ensures.right none _ (c.in_ok-matches.ensures.split ∙ ap (subcommand_of command_line) words) in
    gives_ok _ _ (subst (λ o. Gives o c.command_split.result) found c.command_split.ensures)

pub returns-clause-err : goal.returns-clause-err
returns-clause-err c =
    let words : map (λ s. s.now) c.as_slice.result.now ≡ c.args.words.now = ap (map (λ s. s.now)) c.as_slice.ensures.value ∙ c.in_ok-texts.ensures.texts in
    let none : fault_of command_line c.args.words.now ≡ [] = sym (ap (fault_of command_line) words) ∙ c.in_ok-matches.ensures.taken in
    let found : command_split (subcommand_rows_of c.in_ok-matches.matches) ≡ command_of c.args.words.now =
    command_found c.args.words.now c.in_ok-texts.ensures.right none _ (c.in_ok-matches.ensures.split ∙ ap (subcommand_of command_line) words) in
    gives_err _ _ (subst (λ o. Gives o c.command_split.result) found c.command_split.ensures)
