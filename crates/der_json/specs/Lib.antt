pub mod Contents
pub mod Json
pub mod Laws
pub mod Numbers
pub mod Refusals
