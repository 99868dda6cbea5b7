pub mod Fronts
pub mod RowTexts
pub mod Widths
