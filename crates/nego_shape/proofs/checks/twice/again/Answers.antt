use Rattle.std.proofs.Common.{rules}
use Rattle.std.specs.Str.{bytes_eq}
use Rattle.std.proofs.lemmas.Iterator.{YieldsList-from_slice}
use Rattle.std.proofs.lemmas.Iterator.Search.{any_from_yields_List}
use Rattle.nego_shape.proofs.checks.twice.again.Goals as goal

pub returns-else-any : goal.returns-else-any
returns-else-any g c =
    let name = g.T.Named.name_of in
    let ran = any_from_yields_List (λ other. bytes_eq (name other).text c.name-word.result.now.text) _ _ _ c.any.ensures.ran (YieldsList-from_slice c.args.before.now cc) (λ x b q k. search rules) in
    search rules
