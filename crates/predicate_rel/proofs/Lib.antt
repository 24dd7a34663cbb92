pub mod BitLemmas
pub mod PairLemmas
pub mod Literals
pub mod Reached
pub mod Narrowing
pub mod Changing
pub mod OrAndcm
mod Examples
pub mod EdgeEnds
pub mod RuleLaws
pub mod Unordered
pub mod RuleTruth
pub mod TestTruth
pub mod AfterWrites
pub mod StepEdges
pub mod StepTruth
