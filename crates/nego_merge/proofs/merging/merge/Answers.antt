use Rattle.std.proofs.Common.{◌≡◌, ◌∷◌, [], length, sym, ap, ap₂, ◌∙◌}
use Rattle.std.proofs.lemmas.List.{length-append}
use Rattle.nego_model.specs.Expression.{Join}
use Rattle.nego_expr.specs.Use.{Merge, merged, after_use}
use Rattle.nego_expr.specs.WorkView.{plain_outcome}
use Rattle.nego_expr.proofs.EditCalls.{found_copy}
use Rattle.nego_expr.proofs.MadeUses.{made_use}
use Rattle.nego_merge.proofs.MergeKeeps.{merging, merged-pair}
use Rattle.nego_merge.proofs.merging.merge.Goals as goal

pub join-requires-clause-first : goal.join-requires-clause-first
join-requires-clause-first c =
    found_copy c.args.w.now.plain c.room.new.self.plain c.args.o1.0 (plain_outcome c.in-Some.x.now) (plain_outcome c.copy-x.result) c.in_ok-room.ensures.plain c.copy-x.ensures c.in-Some.ensures.first

pub join-requires-clause-second : goal.join-requires-clause-second
join-requires-clause-second c =
    found_copy c.args.w.now.plain c.room.new.self.plain c.args.o2.0 (plain_outcome c.in-Some.y.now) (plain_outcome c.copy-y.result) c.in_ok-room.ensures.plain c.copy-y.ensures c.in-Some.ensures.second

pub returns : goal.returns
returns c =
    let work = c.args.w.now.plain in
    let o1 = c.args.o1.0 in
    let o2 = c.args.o2.0 in
    let x = plain_outcome c.in-Some.x.now in
    let y = plain_outcome c.in-Some.y.now in
    let is : after_use work (Merge o1 o2) ≡ merged work x y = merged-pair work o1 o2 x y c.in-Some.ensures.first c.in-Some.ensures.second in
    made_use (Merge o1 o2) work c.join.new.w.plain 1 c.requires.work (sym c.in-Some.ensures.allowed)
    (ap (λ w. length w.nodes) is ∙ length-append work.nodes (Join x.node y.node ∷ [])) (merging o1 o2) (λ l. let e = c.in_ok-room.ensures.nodes.1 l in cc)
    (c.join.ensures ∙ (ap₂ (merged c.room.new.self.plain) c.copy-x.ensures c.copy-y.ensures ∙ (ap (λ w. merged w x y) c.in_ok-room.ensures.plain ∙ sym is)))
