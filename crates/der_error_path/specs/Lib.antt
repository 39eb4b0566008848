pub mod Awaited
pub mod Contents
pub mod Inside
pub mod Names
pub mod Passed
pub mod Steps
