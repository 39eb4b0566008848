pub mod Elements
pub mod Fronts
pub mod Refusals
pub mod ExactElements
pub mod ExactLater
