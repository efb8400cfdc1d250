pub mod DriveLemmas
pub mod StateLemmas
pub mod CallLemmas
pub mod CrashLemmas
pub mod ReplayLemmas
