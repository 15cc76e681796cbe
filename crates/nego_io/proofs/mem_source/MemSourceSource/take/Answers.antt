use Rattle.std.proofs.Common.{◌≡◌, ℕ, ◌+◌, List, ◌++◌, length, take, drop, sym, ◌∙◌, ap, arith}
use Rattle.std.proofs.lemmas.List.{length-take, take_at, take_rest, drop-drop, take-append-drop}
use Rattle.nego_io.proofs.mem_source.MemSourceSource.take.Goals as goal

-- the first n bytes from a place on, moved to the front of a buffer, and those behind them are all from that place on
moved : (bytes copied rest : List ℕ) (at n : ℕ) → copied ≡ take n (drop at bytes) → length copied ≡ n → drop at bytes ≡ take n (copied ++ rest) ++ drop (at + n) bytes
moved bytes copied rest at n is size =
    sym (take-append-drop n (drop at bytes)) ∙ (ap (λ t. t ++ drop n (drop at bytes)) (sym is ∙ sym (take_at copied rest n size))
    ∙ ap (λ t. take n (copied ++ rest) ++ t) (drop-drop n at bytes))

pub returns-clause-taken : goal.returns-clause-taken
returns-clause-taken c =
    let bytes = c.self.inside.bytes in
    let at = c.self.inside.at in
    let n = c.min-n.result in
    let copied = c.copy_from_slice.new.self in
    let slice = c.as_slice.result.now in
    let is : copied ≡ take n (drop at bytes) = c.copy_from_slice.ensures.after ∙ (ap (take n) (take_rest slice at) ∙ ap (λ t. take n (drop at t)) c.as_slice.ensures) in
    let size : length copied ≡ n = c.copy_from_slice.ensures.len ∙ (length-take n c.args.buf.now ∙ omega (arith, c.min-n.ensures)) in
    ap (λ s. s.left) (sym c.self.view_is) ∙ moved bytes copied (drop n c.args.buf.now) at n is size
