pub mod Devices
pub mod Hexadecimal
