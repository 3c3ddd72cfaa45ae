pub mod Kinds
pub mod Families
pub mod Figures
pub mod FigureLines
pub mod Page
pub mod RowTexts
