-- Lemmas.
pub mod ErrorLemmas
pub mod NumberLemmas
pub mod RememberLemmas
pub mod SectionLemmas
pub mod StableLemmas
pub mod TableLemmas
pub mod UniqueCies
pub mod UniqueFdes
pub mod UniqueInstructions
pub mod UniqueNumbers
pub mod UniqueRows
pub mod UniqueRuns
