pub mod Cluster
pub mod Shared
pub mod Machines
pub mod Faithful
pub mod Laws
pub mod EveryCore
pub mod Worked
pub mod Rows
