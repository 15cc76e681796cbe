-- What holds of a maker of tables that is seen so.
use Rattle.std.proofs.Common.{◌≡◌, ◌<◌, ℕ, List, length, slice_index_or, sym, subst, ap, ◌∙◌}
use Rattle.std.proofs.lemmas.List.Elements.{All-weaker}
use Rattle.std.specs.List.{All}
use Rattle.nego_data.specs.declared.cases.Case.{Case}
use Rattle.nego_data.specs.declared.covered.Known.{Known}
use Rattle.nego_data.specs.declared.giving.FreeOffsets.{FreeOffsets}
use Rattle.nego_data.specs.CaseForm.{AssignsBelow, IsNamedBelow, NamesOnly, TestBelow}
use Rattle.nego_data.specs.Makers.{IsMaker, MakerState}
use Rattle.nego_data.specs.Parts.{part_sizes}
use Rattle.nego_data.specs.Sizes.{AreSizes}
use Rattle.nego_data.proofs.Additions.{named_below, named_below_more}
use Rattle.nego_data.proofs.PartLaws.{fits-part, length-part}

module _ (parties whole part : List ℕ) (values : List (List ℕ)) (known : List Known) (offsets : List FreeOffsets) (is : IsMaker parties whole part values known offsets)
    (maker : MakerState) (seen : ◌≡◌ {A = MakerState} (record { sizes = whole; parties = parties }) maker) where
  -- the parties' sizes
  pub seen-part : part ≡ part_sizes maker.parties maker.sizes
  seen-part = is.part_is ∙ ap (λ (m : MakerState). part_sizes m.parties m.sizes) seen

  pub seen-sizes : AreSizes maker.sizes
  seen-sizes = subst (λ (m : MakerState). AreSizes m.sizes) seen is.sizes

  parties-below : All (λ a. a < length maker.sizes) maker.parties
  parties-below = subst (λ (m : MakerState). All (λ a. a < length m.sizes) m.parties) seen is.are_below

  -- who is named is below the count
  pub seen-named : (cases : List Case) → All (NamesOnly maker.parties) cases → All (IsNamedBelow (length part)) cases
  seen-named cases = All-weaker (NamesOnly maker.parties) (IsNamedBelow (length part))
      (λ case names. subst (λ n. IsNamedBelow n case) (sym (ap length seen-part ∙ length-part maker.parties maker.sizes)) (named_below maker.parties (length maker.sizes) parties-below case names)) cases

  -- and is one of 16
  pub seen-tests : (cases : List Case) → All (NamesOnly maker.parties) cases → All (λ case. All (TestBelow 16) case.tests) cases
  seen-tests cases = All-weaker (NamesOnly maker.parties) (λ case. All (TestBelow 16) case.tests)
      (λ case names. (named_below_more (length maker.sizes) 16 case seen-sizes.few_agents (named_below maker.parties (length maker.sizes) parties-below case names)).tests) cases

  -- what is assigned fits the parties' sizes
  pub seen-fits : (cases : List Case) → All (NamesOnly maker.parties) cases → All (AssignsBelow maker.sizes) cases → All (AssignsBelow part) cases
  seen-fits cases names fits k d h =
      let case = slice_index_or cases k d in
      subst (λ p. AssignsBelow p case) (sym seen-part) (fits-part maker.parties maker.sizes case parties-below (names k d h) (fits k d h))
