use Rattle.std.proofs.Common.{◌≡◌, ◌∙◌, ◌-◌, ◌≤◌, ◌+◌, ap, sym, subst, Some, None, slice_get}
use Rattle.std.specs.Option.{option_copied}
use Rattle.nego_reader.specs.Content.{out_content}
use Rattle.nego_cli.proofs.NamedPlaces.{placed, outs_of, IsBehind, behind_here, behind_next, behind_all, none_within, out_atom, out_name, none_atom, none_name}
use Rattle.nego_cli.proofs.shape_text.outcome_at.Goals as goal

pub returns-in-Some-clause-atom : goal.returns-in-Some-clause-atom
returns-in-Some-clause-atom c =
    let atoms = c.args.p.now.atoms in
    let items = c.deref-atom-items.result.now in
    let o = c.args.o in
    let n = c.loop-n.n in
    let left = c.loop-n.left in
    let same : items ≡ atoms = c.deref-atom-items.ensures in
    let so_far : IsBehind items o n left = subst (λ xs. IsBehind xs o n left) (sym same) c.loop-n.invariant in
    let out = c.in-Some.out.now in
    let there = behind_here items o n left c.atom-item.result out c.loop-n-test.true c.atom-item.is (sym c.get.ensures ∙ ap option_copied c.in-Some.is) so_far in
    let found : slice_get (outs_of 0 atoms) o ≡ Some (placed n (out_content out)) = subst (λ xs. slice_get (outs_of 0 xs) o ≡ Some (placed n (out_content out))) same there in
    out_atom c.args.p.now o (placed n (out_content out)) found

pub returns-in-Some-clause-name : goal.returns-in-Some-clause-name
returns-in-Some-clause-name c =
    let atoms = c.args.p.now.atoms in
    let items = c.deref-atom-items.result.now in
    let o = c.args.o in
    let n = c.loop-n.n in
    let left = c.loop-n.left in
    let same : items ≡ atoms = c.deref-atom-items.ensures in
    let so_far : IsBehind items o n left = subst (λ xs. IsBehind xs o n left) (sym same) c.loop-n.invariant in
    let out = c.in-Some.out.now in
    let there = behind_here items o n left c.atom-item.result out c.loop-n-test.true c.atom-item.is (sym c.get.ensures ∙ ap option_copied c.in-Some.is) so_far in
    let found : slice_get (outs_of 0 atoms) o ≡ Some (placed n (out_content out)) = subst (λ xs. slice_get (outs_of 0 xs) o ≡ Some (placed n (out_content out))) same there in
    c.as_slice.ensures ∙ out_name c.args.p.now o (placed n (out_content out)) found

pub overflow_sub-left : goal.overflow_sub-left
overflow_sub-left c =
    subst (λ k. k ≤ c.loop-n.left) (sym c.len-left.ensures) (none_within c.atom-item.result.outs c.loop-n.left (sym c.get.ensures ∙ ap option_copied c.in_default.is))

pub loop-n-preserved : goal.loop-n-preserved
loop-n-preserved c =
    let atoms = c.args.p.now.atoms in
    let items = c.deref-atom-items.result.now in
    let o = c.args.o in
    let n = c.loop-n.n in
    let left = c.loop-n.left in
    let same : items ≡ atoms = c.deref-atom-items.ensures in
    let so_far : IsBehind items o n left = subst (λ xs. IsBehind xs o n left) (sym same) c.loop-n.invariant in
    let next : IsBehind items o (n + 1) (left - c.len-left.result) = subst (λ k. IsBehind items o (n + 1) (left - k)) (sym c.len-left.ensures)
    (behind_next items o n left c.atom-item.result c.loop-n-test.true c.atom-item.is (sym c.get.ensures ∙ ap option_copied c.in_default.is) so_far) in
    subst (λ xs. IsBehind xs o (n + 1) (left - c.len-left.result)) same next

pub returns-clause-atom : goal.returns-clause-atom
returns-clause-atom c =
    let atoms = c.args.p.now.atoms in
    let items = c.deref-atom-items.result.now in
    let o = c.args.o in
    let n = c.loop-n.n in
    let left = c.loop-n.left in
    let same : items ≡ atoms = c.deref-atom-items.ensures in
    let so_far : IsBehind items o n left = subst (λ xs. IsBehind xs o n left) (sym same) c.loop-n.invariant in
    let nowhere : slice_get (outs_of 0 atoms) o ≡ None = subst (λ xs. slice_get (outs_of 0 xs) o ≡ None) same (behind_all items o n left c.loop-n-test.false so_far) in
    none_atom c.args.p.now o nowhere

pub returns-clause-name : goal.returns-clause-name
returns-clause-name c =
    let atoms = c.args.p.now.atoms in
    let items = c.deref-atom-items.result.now in
    let o = c.args.o in
    let n = c.loop-n.n in
    let left = c.loop-n.left in
    let same : items ≡ atoms = c.deref-atom-items.ensures in
    let so_far : IsBehind items o n left = subst (λ xs. IsBehind xs o n left) (sym same) c.loop-n.invariant in
    let nowhere : slice_get (outs_of 0 atoms) o ≡ None = subst (λ xs. slice_get (outs_of 0 xs) o ≡ None) same (behind_all items o n left c.loop-n-test.false so_far) in
    none_name c.args.p.now o nowhere
