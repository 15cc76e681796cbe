pub mod PartyLaws
pub mod ReadingLaws
pub mod ShareLaws
pub mod SpellingLaws
