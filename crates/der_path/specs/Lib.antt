pub mod Elements
pub mod Members
pub mod Paths
pub mod Texts
