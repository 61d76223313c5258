pub mod KindLaws
pub mod Laws
