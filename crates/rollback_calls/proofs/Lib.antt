pub mod HandlingLemmas
pub mod CallbackLemmas
pub mod LastWordsLemmas
