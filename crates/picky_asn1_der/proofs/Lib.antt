mod AddedReads
pub mod LaterReads
pub mod LaterWrites
pub mod RawTags
mod ListContents
mod RoundTrips
mod SameEncodings
pub mod PartLemmas
