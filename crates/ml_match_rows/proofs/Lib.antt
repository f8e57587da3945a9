pub mod HeadArguments
