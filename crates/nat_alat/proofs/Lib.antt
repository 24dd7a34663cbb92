pub mod Spelling
pub mod Accesses
pub mod NatBits
pub mod Entries
pub mod AlatLaws
