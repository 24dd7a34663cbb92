pub mod DecidedFormats
mod OtherOperands
