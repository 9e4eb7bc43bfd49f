pub mod Words
pub mod Outline
pub mod Longest
pub mod Refused
pub mod Profile
pub mod Choice
pub mod Claim
