pub mod Entries
pub mod Counting
pub mod VacantSlots
pub mod Sorting
pub mod LayoutRounds
pub mod SorterCalls
pub mod SorterSlots
pub mod Blocks
pub mod ParseInfoKeys
pub mod HeldLemmas
pub mod AscendingRuns
pub mod RoundRule
pub mod Steps
mod HeldRounds
mod InMemoryRounds
pub mod InMemorySteps
pub mod PerfRule
pub mod ReadRecords
pub mod StreamingCalls
pub mod StreamingSteps
pub mod StreamingBlocks
pub mod StreamingBudget
pub mod StreamingRule
pub mod StreamingRounds
pub mod StreamingEnds
