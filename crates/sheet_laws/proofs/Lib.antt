pub mod Reading
pub mod ReadBack
pub mod RoundTrip
pub mod LeftOut
pub mod Written
pub mod WordRecords
pub mod Size
pub mod FewRecords
