pub mod Elements
pub mod Members
pub mod Paths
