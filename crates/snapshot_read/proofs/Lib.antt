mod HeldLemmas
mod LoopLemmas
mod NameLemmas
mod TurnLemmas
mod WholeLemmas
