pub mod WordLemmas
pub mod LongestLemmas
pub mod ClaimLemmas
