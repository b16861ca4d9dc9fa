-- What a source and a sink in memory are seen as.
use Rattle.std.specs.Prelude.{ℕ, List, ◌==◌, Bool, slice_index}

-- a source: what is left, the most that a read gives, which reads fail, and how many have
pub record SourceState : Type 0 where
  pub left : List ℕ
  pub piece : ℕ
  pub fails : List ℕ
  pub faults : ℕ

-- a sink: what it holds, which writes fail, and how many have
pub record SinkState : Type 0 where
  pub held : List ℕ
  pub fails : List ℕ
  pub faults : ℕ

-- whether the next call is to fail
abbrev pub fails_next : List ℕ → Bool
fails_next fails = slice_index fails 0 == 1
