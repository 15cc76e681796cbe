use Rattle.std.proofs.Common.{◌≡◌, ◌∙◌, ap, ap₂, codes}
use Rattle.std.proofs.lemmas.Result.{IfOk-weaker}
use Rattle.clap.specs.Words.{App, app_of, with_subcommand}
use Rattle.nego_cli.specs.CommandLine.{alone, program, with_numbers}
use Rattle.nego_cli.proofs.splitting.command_line.Goals as goal

abbrev check : App
check = with_subcommand program (alone (codes "check"))

abbrev reduce : App
reduce = with_subcommand check (alone (codes "reduce"))

abbrev replay : App
replay = with_subcommand reduce (alone (codes "replay"))

abbrev ask : App
ask = with_subcommand replay (with_numbers (codes "ask") 1 16)

abbrev run : App
run = with_subcommand ask (with_numbers (codes "run") 1 16)

abbrev node : App
node = with_subcommand run (with_numbers (codes "node") 3 18)

-- the commands are added one after another
pub returns : goal.returns
returns c =
    let top = λ (a : App). a.top in
    let check_is : app_of c.in_ok-subcommand.field-0 ≡ check =
    c.in_ok-subcommand.ensures.shape c.new.ensures.local ∙ ap₂ with_subcommand c.program.ensures (ap top c.new.ensures.app) in
    let reduce_is : app_of c.in_ok-subcommand-2.field-0 ≡ reduce =
    c.in_ok-subcommand-2.ensures.shape c.new-2.ensures.local ∙ ap₂ with_subcommand check_is (ap top c.new-2.ensures.app) in
    let replay_is : app_of c.in_ok-subcommand-3.field-0 ≡ replay =
    c.in_ok-subcommand-3.ensures.shape c.new-3.ensures.local ∙ ap₂ with_subcommand reduce_is (ap top c.new-3.ensures.app) in
    let ask_is : app_of c.in_ok-subcommand-4.field-0 ≡ ask =
    c.in_ok-subcommand-4.ensures.shape c.in_ok-with_numbers.ensures.local ∙ ap₂ with_subcommand replay_is c.in_ok-with_numbers.ensures.shape in
    let run_is : app_of c.in_ok-subcommand-5.field-0 ≡ run =
    c.in_ok-subcommand-5.ensures.shape c.in_ok-with_numbers-2.ensures.local ∙ ap₂ with_subcommand ask_is c.in_ok-with_numbers-2.ensures.shape in
    let node_is : app_of c.in_ok-subcommand-6.field-0 ≡ node =
    c.in_ok-subcommand-6.ensures.shape c.in_ok-with_numbers-3.ensures.local ∙ ap₂ with_subcommand run_is c.in_ok-with_numbers-3.ensures.shape in
    IfOk-weaker c.subcommand-7.result _ _
    (λ m h. h.shape c.in_ok-with_numbers-4.ensures.local ∙ ap₂ with_subcommand node_is c.in_ok-with_numbers-4.ensures.shape) c.subcommand-7.ensures
