pub mod Cases
pub mod RegLaws
