pub mod KeyUsage
