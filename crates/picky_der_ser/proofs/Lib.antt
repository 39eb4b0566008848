pub mod Alike
pub mod HeaderBytes
pub mod LevelEnds
pub mod LevelMarks
pub mod LevelWrites
pub mod Rooms
pub mod StateWrites
pub mod WrapWrites
pub mod EntryWrites
pub mod ListBytes
pub mod MemberWrites
mod MembersWrites
