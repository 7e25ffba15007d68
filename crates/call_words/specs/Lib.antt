-- What the contracts of `call_words` cite.
pub mod Ops
pub mod Replies
pub mod Walk
pub mod Codes
