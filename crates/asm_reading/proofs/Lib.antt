mod DataLines
mod FaultOrder
mod FaultOrderAnswers
mod FaultOrderFronts
mod FaultOrderLaws
pub mod NoMarks
pub mod SlotForms
mod LexemeLists
mod SomeAnswer
pub mod TwoPredicates
