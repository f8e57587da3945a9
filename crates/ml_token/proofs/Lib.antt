pub mod DigitValues
pub mod GapLengths
pub mod NameBytes
pub mod TokensInText
pub mod ScannedRuns
pub mod ScannerComplete
pub mod ScannerTotal
pub mod SpelledNames
