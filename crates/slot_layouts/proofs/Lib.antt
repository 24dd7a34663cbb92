mod Tables
pub mod Facts
pub mod Families
pub mod Fillings
pub mod FirstLayouts
pub mod LaidOut
