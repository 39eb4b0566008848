pub mod KindContents
pub mod PassedElements
pub mod Walks
