-- Lemmas.
mod FoundSymbols
