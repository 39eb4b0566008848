pub mod AlgorithmIdentifierReads
pub mod AlgorithmIdentifierWrites
pub mod WordsWithoutSpaces
pub mod NamedAnswers
