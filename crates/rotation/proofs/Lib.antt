pub mod Indexes
mod Examples
