use Rattle.std.proofs.Common.{◌∙◌, ℕ, List, ◌++◌, take, ap, sym, subst, slice_index_or}
use Rattle.std.specs.Prelude.{codes}
use Rattle.std.proofs.lemmas.List.{take_more}
use Rattle.nego_base.specs.declared.ids.AtomId.{AtomId}
use Rattle.nego_model.specs.Diagram.{atom_name}
use Rattle.nego_base.specs.Appending.{Appends}
use Rattle.nego_expr.proofs.Printing.{appends_then}
use Rattle.nego_cli.specs.FormText.{atom_words}
use Rattle.nego_cli.proofs.FormAtoms.{atom_words-more}
use Rattle.nego_cli.proofs.form_text.add_atoms.Goals as goal

pub loop-n-preserved : goal.loop-n-preserved
loop-n-preserved c =
    let d = c.args.d.now in
    let old = c.args.text.now in
    let new = c.add_atom.new.text in
    let ns = c.args.atoms.now in
    let i = c.loop-n.n-index in
    let nothing : AtomId = record { 0 = 0 } in
    let n = slice_index_or ns i nothing in
    let word : List ℕ → List ℕ = λ rest. codes " " ++ (atom_name d n.0 ++ rest) in
    let lines : Appends old new (λ rest. atom_words d (take i ns) (word rest)) = appends_then old c.loop-n.text new (atom_words d (take i ns)) word c.loop-n.invariant c.in_ok-add_atom.ensures in
    subst (λ items. Appends old new (atom_words d items)) (sym (take_more ns i nothing c.loop-n-test.true))
    (λ rest. lines rest ∙ ap (λ words. old ++ words) (sym (atom_words-more d (take i ns) n rest)))
