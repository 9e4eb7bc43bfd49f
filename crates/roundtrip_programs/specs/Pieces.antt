pub mod Moved
pub mod Laws
pub mod Joined
pub mod Programs
pub mod Faults
