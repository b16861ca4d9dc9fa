pub mod MaskLemmas
pub mod RowLemmas
