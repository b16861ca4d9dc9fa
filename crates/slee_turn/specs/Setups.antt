-- What a run was given, as plain data.
use Rattle.std.specs.Prelude.{ℕ, List, [], Bool, false}

-- What a run was given: lists of bytes, four numbers and a truth value. A turn asks of it only whether two are the same.
pub record Setup : Type 0 where
  -- the deployment, the lines that it may take, the state that it begins from, and the side of the journal that counted when it was opened
  pub deployment : List ℕ
  pub lines : List ℕ
  pub base : List ℕ
  pub side : List ℕ
  -- the records that stood when opening began, which a journal of an older format has no longer
  pub records : List (List ℕ)
  -- the most bytes of a side of the journal, and the most entries
  pub journal : ℕ
  pub steps : ℕ
  -- the moment of the disk and its count of faults when opening began, and whether the disk was clean then
  pub moment : ℕ
  pub faults : ℕ
  pub clean : Bool

-- that of no run
abbrev pub no_setup : Setup
no_setup = record { deployment = []; lines = []; base = []; side = []; records = []; journal = 0; steps = 0; moment = 0; faults = 0; clean = false }
