pub mod LooseParts
pub mod SoundParts
pub mod LooseTexts
pub mod LooseReading
pub mod Laws
