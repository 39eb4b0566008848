mod Identifiers
mod WellFormedLemmas
mod Later
mod NoValues
