pub mod CountLaws
pub mod SizeLaws
pub mod Example
