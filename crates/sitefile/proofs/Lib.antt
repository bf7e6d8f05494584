pub mod Bodies
pub mod ReadDue
pub mod ReadKinds
pub mod ReadCalls
pub mod ReadNext
pub mod Stepping
pub mod Holding
pub mod Encoded
