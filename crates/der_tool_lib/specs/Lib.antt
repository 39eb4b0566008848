pub mod Words
pub mod Line
pub mod Answer
pub mod Value
pub mod Reads
pub mod AlgorithmIdentifier
pub mod AlgorithmIdentifierLaws
