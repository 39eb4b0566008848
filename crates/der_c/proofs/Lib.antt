pub mod Findings
pub mod WritingLemmas
pub mod OrderLemmas
