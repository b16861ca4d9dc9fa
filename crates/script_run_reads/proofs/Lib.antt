pub mod OverlayLemmas
pub mod CountLemmas
pub mod MaskLemmas
pub mod RowLemmas
pub mod CountingLemmas
