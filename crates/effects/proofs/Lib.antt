mod NameLaws
pub mod ListLaws
mod CalleeLaws
