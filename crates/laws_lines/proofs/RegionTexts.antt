pub mod Numbered
pub mod Written
pub mod Placed
pub mod Joined
pub mod LineBack
pub mod Passed
pub mod AddedBack
pub mod Example
