pub mod JsonContents
pub mod JsonTexts
pub mod Scripts
pub mod WholeReadings
