pub mod LaneLists
pub mod LaneDigits
