pub mod Listing
pub mod CheckLaws
pub mod Settings
pub mod ReturnLaws
pub mod SaysLaws
pub mod Joined
pub mod ThresholdLaws
pub mod ProposalLaws
