mod WayBack
mod FirstForm
mod ItemFacts
mod CompletersBack
mod LinesBack
mod Mnemonic
pub mod OperandTexts
mod OperandsBack
mod FormsBack
mod FormFound
mod ReadsApart
mod ReadsBack
pub mod Short
pub mod SlotLines
mod Targets
pub mod Untargeted
pub mod RelationLines
