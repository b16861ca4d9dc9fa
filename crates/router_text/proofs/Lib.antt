pub mod TextLemmas
pub mod HeadingLemmas
