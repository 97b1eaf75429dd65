pub mod OpeningErrors
