-- Lemmas.
pub mod ChainLemmas
pub mod ExpressionLemmas
pub mod RegisterLemmas
