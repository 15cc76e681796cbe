use Rattle.std.proofs.Common.{List, [], ◌∷◌, ◌++◌, sym, ap, subst, ◌∙◌}
use Rattle.std.proofs.lemmas.Result.{err_from_is_err_and}
use Rattle.std.specs.List.{flat_map}
use Rattle.nego_reader.specs.declared.parsed.Parsed.{Parsed}
use Rattle.nego_reader.specs.declared.parsed.PAtom.{PAtom}
use Rattle.nego_reader.specs.Content.{content_of}
use Rattle.nego_shape.specs.declared.fault.ShapeKind.TheVariants as kinds
use Rattle.nego_shape.specs.Faults.{of_words, others}
use Rattle.nego_shape.specs.Answer.{Tells}
use Rattle.nego_shape.specs.Naming.{atom_names}
use Rattle.nego_shape.specs.Undeclared.{undeclared_in_atom, first_unknown}
use Rattle.nego_shape.proofs.DeclaredParts.{none_all, told_front, told_behind, told_here, atoms_told, ends_told, none_of_text}
use Rattle.nego_shape.proofs.numbers.atoms_numbers.Goals as goal

pub returns-in_err-atom_of-clause-err : goal.returns-in_err-atom_of-clause-err
returns-in_err-atom_of-clause-err c =
    let p = c.args.p.now in
    let c0 = content_of p in
    let same = c.deref-atom-items.ensures ∙ ap (λ (q : Parsed). q.atoms) c.text-text.ensures in
    let e = c.in_err-atom_of.field-0.0 in
    let told = err_from_is_err_and c.from_residual.result c.from_residual.ensures.1 in
    rw (told.1, told.2)
    (atoms_told p e (subst (λ (xs : List PAtom). Tells e (first_unknown (flat_map (undeclared_in_atom c0) xs))) same
    (told_here (undeclared_in_atom c0) c.deref-atom-items.result.now c.loop-atom.atom-index c.loop-atom.invariant.declared c.atom-item.result c.loop-atom-test.true c.atom-item.is e c.in_err-atom_of.ensures.declared)))

pub returns-in_err-declared_atom-clause-err : goal.returns-in_err-declared_atom-clause-err
returns-in_err-declared_atom-clause-err c =
    let p = c.args.p.now in
    let c0 = content_of p in
    let same = c.deref-atom-items.ensures ∙ ap (λ (q : Parsed). q.atoms) c.text-text.ensures in
    let none = none_all (undeclared_in_atom c0) c.deref-atom-items.result.now c.loop-atom.atom-index c.loop-atom.invariant.declared c.loop-atom-test.false in
    let e = c.in_err-declared_atom.field-0.0 in
    let told = err_from_is_err_and c.from_residual-in_err-declared_atom.result c.from_residual-in_err-declared_atom.ensures.1 in
    rw (told.1, told.2)
    (ends_told p e (ap (flat_map (undeclared_in_atom c0)) (sym same) ∙ none)
    (told_front e (others (atom_names c0) (p.first ∷ [])) (others (atom_names c0) (p.last ∷ []) ++ [])
    (subst (λ (q : Parsed). Tells e (first_unknown (others (atom_names c0) (q.first ∷ [])))) c.text-text.ensures c.in_err-declared_atom.ensures.declared)))

pub returns-in_err-declared_atom-2-clause-err : goal.returns-in_err-declared_atom-2-clause-err
returns-in_err-declared_atom-2-clause-err c =
    let p = c.args.p.now in
    let c0 = content_of p in
    let same = c.deref-atom-items.ensures ∙ ap (λ (q : Parsed). q.atoms) c.text-text.ensures in
    let none = none_all (undeclared_in_atom c0) c.deref-atom-items.result.now c.loop-atom.atom-index c.loop-atom.invariant.declared c.loop-atom-test.false in
    let e = c.in_err-declared_atom-2.field-0.0 in
    let told = err_from_is_err_and c.from_residual-in_err-declared_atom-2.result c.from_residual-in_err-declared_atom-2.ensures.1 in
    rw (told.1, told.2)
    (ends_told p e (ap (flat_map (undeclared_in_atom c0)) (sym same) ∙ none)
    (told_behind e (others (atom_names c0) (p.first ∷ [])) (others (atom_names c0) (p.last ∷ []) ++ [])
    (ap (λ (q : Parsed). others (atom_names c0) (q.first ∷ [])) (sym c.text-text.ensures) ∙ c.in_ok-declared_atom.ensures.declared)
    (told_front e (others (atom_names c0) (p.last ∷ [])) []
    (subst (λ (q : Parsed). Tells e (first_unknown (others (atom_names c0) (q.last ∷ [])))) c.text-text.ensures c.in_err-declared_atom-2.ensures.declared))))

pub returns-clause-declared : goal.returns-clause-declared
returns-clause-declared c =
    let p = c.args.p.now in
    let c0 = content_of p in
    let same = c.deref-atom-items.ensures ∙ ap (λ (q : Parsed). q.atoms) c.text-text.ensures in
    let none = none_all (undeclared_in_atom c0) c.deref-atom-items.result.now c.loop-atom.atom-index c.loop-atom.invariant.declared c.loop-atom-test.false in
    ap (of_words kinds.Unknown)
    (none_of_text p (ap (flat_map (undeclared_in_atom c0)) (sym same) ∙ none) (ap (λ (q : Parsed). others (atom_names c0) (q.first ∷ [])) (sym c.text-text.ensures) ∙ c.in_ok-declared_atom.ensures.declared)
    (ap (λ (q : Parsed). others (atom_names c0) (q.last ∷ [])) (sym c.text-text.ensures) ∙ c.in_ok-declared_atom-2.ensures.declared))
