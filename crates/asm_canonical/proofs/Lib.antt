pub mod FieldRanges
pub mod InRange
pub mod Printed
pub mod Written
