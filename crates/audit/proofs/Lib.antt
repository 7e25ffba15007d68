-- The lemmas of `audit`.
pub mod Laws
