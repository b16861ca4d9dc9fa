pub mod NumberLemmas
pub mod SeatLemmas
pub mod KeptLemmas
