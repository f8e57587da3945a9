pub mod AllowedTuples
pub mod HeadArguments
