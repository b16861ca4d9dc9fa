mod PlainLemmas
mod FieldLemmas
mod LineLemmas
