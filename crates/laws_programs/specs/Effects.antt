pub mod Trees
pub mod Tables
pub mod Claims
pub mod Laws
pub mod Summaries
