-- What stands for a diagram, and is kept, stands for it.
use Rattle.std.proofs.Common.{◌≡◌, ℕ, ◌<◌, List, [], length, slice_get, slice_index_or, Some, IsTrue, sym, subst, ap, ◌∙◌}
use Rattle.std.proofs.lemmas.Option.{slice_get-get_or}
use Rattle.std.proofs.lemmas.List.{length-map, get_or-map}
use Rattle.nego_base.specs.Members.{is_in}
use Rattle.nego_data.specs.Locality.{ActsOn}
use Rattle.nego_model.specs.Joining.{RelationTest, By}
use Rattle.nego_model.specs.Locality.{IsLocal}
use Rattle.nego_model.specs.Diagram.{PlainDiagram, PlainOutcome, negotiation_of, parties_of}
use Rattle.nego_expr.specs.Work.{PlainWork}
use Rattle.nego_expr.specs.Keeps.{BasesAreLocal}
use Rattle.nego_expr.specs.StandsFor.{StandsFor, KeptWorksStand}
use Rattle.nego_expr.proofs.FreshWorks.{diagram_outcome}

-- what is read past the end of a list of outcomes
nobody : PlainOutcome
nobody = record { name = []; atom = 0; nexts = []; table = [] }

-- where a diagram's outcomes act on the parties of their atoms alone, so do the outcomes that were read
pub local_bases : (work : PlainWork) (diagram : PlainDiagram) (sizes : List ℕ) (test : RelationTest) → StandsFor work diagram → IsLocal (negotiation_of diagram) sizes (By test) → BasesAreLocal work sizes test
local_bases work diagram sizes test stands local o h =
    subst (λ ps. ActsOn sizes ps (By test o)) (sym parties) (local x.atom o (diagram_outcome diagram stands.read o x at))
  where
    below : o < length diagram.outcomes
    below = subst (λ n. o < n) (ap length stands.bases ∙ length-map diagram.outcomes (λ outcome. parties_of diagram outcome.atom)) h

    x : PlainOutcome
    x = slice_index_or diagram.outcomes o nobody

    at : slice_get diagram.outcomes o ≡ Some x
    at = slice_get-get_or diagram.outcomes o nobody below

    parties : slice_index_or work.bases o [] ≡ parties_of diagram x.atom
    parties = ap (λ bases. slice_index_or bases o []) stands.bases ∙ get_or-map (λ outcome. parties_of diagram outcome.atom) diagram.outcomes o nobody [] below

-- what stands for a diagram, and is kept, stands for it
pub kept_stands : KeptWorksStand
kept_stands old new diagram stands work keeps = record {
  read = stands.read;
  is_work = work;
  bases = sym keeps.bases ∙ stands.bases;
  names = sym keeps.names ∙ stands.names;
  sound = (λ h. keeps.sound.0 (stands.sound.0 h), λ h. stands.sound.1 (keeps.sound.1 h));
  finals = stands.finals ∙ keeps.finals;
  runs = λ sizes test f d e local below final.
      let s = stands.runs sizes test f d e local below final in
      let k = keeps.runs sizes test f d e (local_bases old diagram sizes test stands local) below (subst (λ fs. IsTrue (is_in f fs)) stands.finals final) in
      (λ r. k.0 (s.0 r), λ r. s.1 (k.1 r));
}
