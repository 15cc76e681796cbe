use Rattle.std.proofs.Common.{◌∙◌, ◌++◌, map, take, ap, sym, subst, slice_index_or, refl}
use Rattle.nego_expr.specs.declared.uses.Use.TheVariants.{Merge}
use Rattle.nego_base.specs.Appending.{Appends}
use Rattle.nego_expr.proofs.Printing.{appends_then}
use Rattle.nego_expr.proofs.Seen.{map-take_more}
use Rattle.nego_cert.specs.CertificateText.{use_line, use_lines}
use Rattle.nego_expr.specs.UseView.{plain_use}
use Rattle.nego_cert.proofs.UseLines.{use_lines-more}
use Rattle.nego_cert.proofs.printing.add_uses.Goals as goal

pub loop-u-preserved : goal.loop-u-preserved
loop-u-preserved c =
    let old = c.args.text.now in
    let new = c.add_use.new.text in
    let uses = c.args.uses.now in
    let i = c.loop-u.u-index in
    let nothing = Merge (record { 0 = 0 }) (record { 0 = 0 }) in
    let u = slice_index_or uses i nothing in
    let seen = map plain_use (take i uses) in
    let lines : Appends old new (λ rest. use_lines seen (use_line (plain_use u) rest)) =
    appends_then old c.loop-u.text new (use_lines seen) (use_line (plain_use u)) c.loop-u.invariant c.in_ok-add_use.ensures in
    subst (λ items. Appends old new (use_lines items)) (sym (map-take_more plain_use uses i nothing u c.loop-u-test.true refl))
    (λ rest. lines rest ∙ ap (λ words. old ++ words) (sym (use_lines-more seen (plain_use u) rest)))
