pub mod Names
pub mod Reads
pub mod Statement
pub mod Callee
pub mod List
pub mod Modules
