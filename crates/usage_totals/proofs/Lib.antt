mod LineLemmas
mod UsageLemmas
mod TotalLemmas
