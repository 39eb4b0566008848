pub mod KeyUsageBits
