pub mod SlotTexts
