pub mod RoundTrip
pub mod LeftOut
pub mod WordRecords
pub mod Size
