use Rattle.std.proofs.Common.{◌≡◌, sym, subst, ◌∙◌}
use Rattle.std.specs.Prelude.{IfOk}
use Rattle.nego_data.specs.Sizes.{AreSizes, HasFault}
use Rattle.nego_reader.specs.Content.{content_of}
use Rattle.nego_shape.specs.Naming.{sizes_in}
use Rattle.nego_shape.proofs.SizesFit.{no_size_fault, ok_from_no_fault}
use Rattle.nego_shape.proofs.PartsMade.{sizes_read}
use Rattle.nego_shape.proofs.sizing.sizes_of.Goals as goal

pub unwrap-requires : goal.unwrap-requires
unwrap-requires c =
    let is : c.as_slice.result.now ≡ sizes_in (content_of c.args.p.now) = c.as_slice.ensures ∙ (c.in_ok-sizes.ensures ∙ sizes_read c.args.p.now.agents) in
    ok_from_no_fault (HasFault c.as_slice.result.now) c.new.result c.new.ensures.err (λ e h. no_size_fault c.as_slice.result.now e (subst AreSizes (sym is) c.requires) h)

pub returns : goal.returns
returns c =
    let is : c.as_slice.result.now ≡ sizes_in (content_of c.args.p.now) = c.as_slice.ensures ∙ (c.in_ok-sizes.ensures ∙ sizes_read c.args.p.now.agents) in
    let made : IfOk c.new.result (λ s. s ≡ c.as_slice.result.now) = c.new.ensures.ok in
    let it : c.unwrap.result ≡ c.as_slice.result.now = subst (λ r. IfOk r (λ s. s ≡ c.as_slice.result.now)) c.unwrap.ensures made in
    it ∙ is
