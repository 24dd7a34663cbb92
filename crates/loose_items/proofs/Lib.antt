pub mod PlainPackings
