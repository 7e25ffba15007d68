pub mod Statuses
pub mod Told
