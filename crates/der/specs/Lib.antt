pub mod Notes
pub mod Report
pub mod Request
pub mod Write
pub mod WriteBer
