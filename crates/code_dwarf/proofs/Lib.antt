-- Lemmas.
pub mod ErrorLemmas
pub mod LineHeaderLemmas
pub mod LineInstructionLemmas
pub mod LineReaderLemmas
pub mod LineRowLemmas
pub mod NumberLemmas
pub mod UnitLemmas
