pub mod Words
mod Examples
