pub mod Lists
mod BuiltInLemmas
