pub use Rattle.roundtrip_programs.specs as roundtrip_programs
pub use Rattle.pipsmake_rules.specs as pipsmake_rules
pub use Rattle.pipsmake_meaning.specs as pipsmake_meaning
pub mod Modules
pub mod Sources
pub mod Joined
pub mod Changes
pub mod Places
pub mod Lists
pub mod Kept
pub mod Laws
pub mod Words
pub mod Commands
pub mod Steps
pub mod Refusals
pub mod Answers
