pub mod DigitLemmas
pub mod EscapeLemmas
pub mod FindLemmas
pub mod HexLemmas
pub mod NameLemmas
pub mod PartLemmas
pub mod ReadLemmas
pub mod WriteLemmas
