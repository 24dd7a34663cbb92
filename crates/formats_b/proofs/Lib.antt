pub mod TableB
pub mod WordsB
pub mod TableF
pub mod WordsF
pub mod PartsX
pub mod TableX
pub mod WordsX
