mod Writable
mod Values
mod Signers
mod Lists
mod NoFloat
