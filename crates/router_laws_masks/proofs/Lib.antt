pub mod MaskCodes
pub mod ReadMasks
