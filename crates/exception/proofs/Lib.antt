-- What the proofs share.
pub mod EntryLaws
pub mod FieldLaws
