mod LinesLemmas
mod HistoryLemmas
