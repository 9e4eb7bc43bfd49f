pub mod Lists
pub mod Parts
pub mod Latin
pub mod WrittenNumbers
pub mod Items
pub mod Back
