mod EdgeSteps
mod Forward
mod ListPlaces
mod OneCycle
mod OneOrder
mod PlacedAtoms
mod Turning
mod Walking
pub mod Gathering
pub mod Mentioned
pub mod Outs
pub mod PartsMade
pub mod Places
pub mod ShapedCases
pub mod ShapedDiagrams
pub mod SizesFit
pub mod Sought
pub mod SpelledNames
pub mod JointLaws
pub mod FlatPairs
pub mod RisingText
pub mod TextWords
pub mod Numbered
pub mod Search
mod OutLists
mod RuleLists
mod Telling
mod FirstUncovered
pub mod Stages
mod AllListed
mod FormLaws
mod InnerStage
mod DeclaredParts
pub mod DeclaredListed
pub mod OutsRising
pub mod RuleSets
pub mod FirstOuts
pub mod OutsListed
mod SpotLists
mod CountsListed
mod PartiesListed
mod SizesListed
mod TwiceNames
mod TwiceListed
