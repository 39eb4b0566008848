pub mod FirstTags
pub mod Nodes
pub mod TagSets
