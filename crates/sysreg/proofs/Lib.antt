-- What the proofs share.
pub mod Masks
pub mod WriteLaws
pub mod EncodingLaws
pub mod ShapeLaws
