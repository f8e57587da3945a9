pub mod FirstPlaces
pub mod VariableNumbers
pub mod TermTexts
pub mod WriteResults
pub mod AppendedTexts
pub mod BindingTexts
pub mod LineCuts
