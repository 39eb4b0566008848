pub mod JiffTimes
