use Rattle.std.proofs.Common.{◌≡◌, List, ℕ, OnOk, subst}
use Rattle.nego_reader.specs.Content.{texts}
use Rattle.nego_reader.proofs.PutLines.{named_put}
use Rattle.nego_reader.proofs.print.put_named.Goals as goal

pub returns : goal.returns
returns c =
    let line = named_put c.args.text.now c.extend_from_slice.new.self c.push.new.self c.extend_from_slice-2.new.self c.put_words.new.text c.args.keyword.now c.args.name.now.text (texts c.args.words.now)
    c.in_ok-extend_from_slice.ensures.ok c.in_ok-push.ensures.ok (rw c.as_slice.ensures at c.in_ok-extend_from_slice-2.ensures.ok) c.in_ok-put_words.ensures in
    subst (λ (t : List ℕ). OnOk c.push-2.result (c.push-2.new.self ≡ t)) line c.push-2.ensures.ok
