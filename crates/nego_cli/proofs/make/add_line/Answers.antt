use Rattle.std.proofs.Common.{◌≡◌, ◌∙◌, ℕ, List, ◌++◌, length, subst}
use Rattle.nego_base.specs.Appending.{Appends}
use Rattle.nego_reduce.specs.Reducing.{uses_of}
use Rattle.nego_cli.specs.Make.{made_line, size_words, use_words}
use Rattle.nego_cli.specs.Reduction.{nodes_of}
use Rattle.nego_cli.proofs.NamedPlaces.{then_ok}
use Rattle.nego_cli.proofs.make.add_line.Goals as goal

joined : (before between behind : List ℕ) (first second : List ℕ → List ℕ) → Appends before between first → Appends between behind second → Appends before behind (λ rest. first (second rest))
joined before between behind first second one two rest = two rest ∙ one (second rest)

pub returns : goal.returns
returns c =
    let d = c.args.d.now in
    let r = c.args.reduced.now in
    let Adds : ℕ → ℕ → ℕ → ℕ → Type 0 = λ atoms outcomes uses nodes. Appends c.args.text.now c.add_uses.new.text (λ rest. size_words atoms outcomes (use_words uses nodes rest)) in
    let named : Adds c.atoms.result c.outcomes.result c.counts-uses.result.0 c.counts-uses.result.1 → Adds (length d.atoms) (length d.outcomes) (length (uses_of r)) (length (nodes_of r)) =
    λ h. subst (λ n. Adds (length d.atoms) (length d.outcomes) (length (uses_of r)) n) c.counts-uses.ensures.nodes
    (subst (λ n. Adds (length d.atoms) (length d.outcomes) n c.counts-uses.result.1) c.counts-uses.ensures.uses
    (subst (λ n. Adds (length d.atoms) n c.counts-uses.result.0 c.counts-uses.result.1) c.outcomes.ensures.value
    (subst (λ n. Adds n c.outcomes.result c.counts-uses.result.0 c.counts-uses.result.1) c.atoms.ensures.value h))) in
    then_ok c.add_uses.result
    (Appends c.add_sizes.new.text c.add_uses.new.text (use_words c.counts-uses.result.0 c.counts-uses.result.1))
    (Adds (length d.atoms) (length d.outcomes) (length (uses_of r)) (length (nodes_of r)))
    (λ behind. named (joined c.args.text.now c.add_sizes.new.text c.add_uses.new.text (size_words c.atoms.result c.outcomes.result) (use_words c.counts-uses.result.0 c.counts-uses.result.1) c.in_ok-add_sizes.ensures behind))
    c.add_uses.ensures
