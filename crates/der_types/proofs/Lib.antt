pub mod ContentReads
pub mod DateTimeReads
pub mod DottedLemmas
pub mod OidTexts
