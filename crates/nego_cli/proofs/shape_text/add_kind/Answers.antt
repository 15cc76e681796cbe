use Rattle.std.proofs.Common.{◌++◌, sym, subst}
use Rattle.std.specs.Prelude.{OnOk, codes}
use Rattle.nego_model.specs.Diagram.{atom_name}
use Rattle.nego_shape.specs.Answer.{AreJointIn}
use Rattle.nego_base.specs.Appending.{Appends}
use Rattle.nego_expr.proofs.Printing.{appends_then}
use Rattle.nego_cli.specs.Refusals.{diagram_of, choice_words, shape_words}
use Rattle.nego_cli.proofs.NamedPlaces.{then_ok}
use Rattle.nego_cli.proofs.shape_text.add_kind.Goals as goal

pub returns-in-NextMissing : goal.returns-in-NextMissing
returns-in-NextMissing c =
    subst (λ kind. OnOk c.add_choice.result (Appends c.args.text.now c.add_choice.new.text (shape_words (diagram_of c.args.p.now) kind))) (sym c.in-NextMissing.is) c.add_choice.ensures

pub returns-in-ValueTooLarge : goal.returns-in-ValueTooLarge
returns-in-ValueTooLarge c =
    subst (λ kind. OnOk c.add_choice-in-ValueTooLarge.result (Appends c.args.text.now c.add_choice-in-ValueTooLarge.new.text (shape_words (diagram_of c.args.p.now) kind))) (sym c.in-ValueTooLarge.is) c.add_choice-in-ValueTooLarge.ensures

pub returns-in-SizeTooLarge : goal.returns-in-SizeTooLarge
returns-in-SizeTooLarge c =
    subst (λ kind. OnOk c.add_named-in-SizeTooLarge.result (Appends c.args.text.now c.add_named-in-SizeTooLarge.new.text (shape_words (diagram_of c.args.p.now) kind))) (sym c.in-SizeTooLarge.is)
    (subst (λ name. OnOk c.add_named-in-SizeTooLarge.result (Appends c.args.text.now c.add_named-in-SizeTooLarge.new.text (λ rest. codes "SizeTooLarge " ++ (name ++ rest)))) c.agent_name-in-SizeTooLarge.ensures c.add_named-in-SizeTooLarge.ensures)

pub returns-in-JointTooLarge : goal.returns-in-JointTooLarge
returns-in-JointTooLarge c =
    subst (λ kind. OnOk c.add_named-in-JointTooLarge.result (Appends c.args.text.now c.add_named-in-JointTooLarge.new.text (shape_words (diagram_of c.args.p.now) kind))) (sym c.in-JointTooLarge.is)
    (subst (λ name. OnOk c.add_named-in-JointTooLarge.result (Appends c.args.text.now c.add_named-in-JointTooLarge.new.text (λ rest. codes "JointTooLarge " ++ (name ++ rest)))) c.agent_name-in-JointTooLarge.ensures c.add_named-in-JointTooLarge.ensures)

pub returns-in_ok-add_choice-in-NextStranger : goal.returns-in_ok-add_choice-in-NextStranger
returns-in_ok-add_choice-in-NextStranger c =
    let d = diagram_of c.args.p.now in
    let old = c.args.text.now in
    let mid = c.add_choice-in-NextStranger.new.text in
    let new = c.add_named-in-NextStranger.new.text in
    let r = c.add_named-in-NextStranger.result in
    let o = c.in-NextStranger.o.0 in
    let a = c.in-NextStranger.a.0 in
    let name = atom_name d c.in-NextStranger.n.0 in
    let named : OnOk r (Appends mid new (λ rest. codes " " ++ (name ++ rest))) = subst (λ t. OnOk r (Appends mid new (λ rest. codes " " ++ (t ++ rest)))) c.atom_name-in-NextStranger.ensures c.add_named-in-NextStranger.ensures in
    subst (λ kind. OnOk r (Appends old new (shape_words d kind))) (sym c.in-NextStranger.is)
    (then_ok r (Appends mid new (λ rest. codes " " ++ (name ++ rest))) (Appends old new (λ rest. codes "NextStranger " ++ choice_words d o a (codes " " ++ (name ++ rest))))
    (λ then. appends_then old mid new (λ rest. codes "NextStranger " ++ choice_words d o a rest) (λ rest. codes " " ++ (name ++ rest)) c.in_ok-add_choice-in-NextStranger.ensures then) named)

pub add_values-requires-clause-sizes : goal.add_values-requires-clause-sizes
add_values-requires-clause-sizes c = (subst (AreJointIn c.args.p.now) c.in-NotTotal.is c.requires).0

pub add_values-requires-clause-data : goal.add_values-requires-clause-data
add_values-requires-clause-data c = (subst (AreJointIn c.args.p.now) c.in-NotTotal.is c.requires).1
