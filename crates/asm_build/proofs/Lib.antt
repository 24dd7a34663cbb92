pub mod Marking
pub mod Soundness
pub mod Words
mod ValueFaults
pub mod Steps
mod Listed
pub mod AddressedTargets
pub mod LabelValues
mod Naming
mod Numbers
pub mod TakenLines
pub mod Entries
pub mod Finishing
pub mod OneReading
mod OneOutcome
pub mod Answering
mod TextLines
mod PrintedLines
mod PrintedNumbers
mod Taking
mod PutIn
mod LabelsSoFar
mod KeysBelow
mod EntriesSoFar
pub mod Membership
mod SortedSets
pub mod RelationSets
mod RelationsSoFar
pub mod RelationFaults
mod NamedTemplates
mod NextSlots
mod OpenBundles
mod UntargetedSlots
mod WrittenBundles
mod WrittenTexts
mod NamesPutIn
mod DataBack
mod WrittenData
mod ReadBack
mod TextLength
mod DecidedBundles
mod DecidedRuns
pub mod DecidedLines
pub mod EndFaults
pub mod SomeReading
mod SomeOutcome
pub mod SaidLines
mod SaidBundles
mod SaidLabels
pub mod SaidEntries
mod SaidRelations
mod SaidTexts
