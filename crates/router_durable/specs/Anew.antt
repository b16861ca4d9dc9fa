-- Sides that are written anew: with a snapshot of a state, and no records.
use Rattle.std.specs.Prelude.{◌≡◌, ℕ, ◌+◌, ◌<◌, Bool, true, false, List, length, Option, Some, None, Result, Ok, Err}
use Rattle.commit_journal.specs.declared.format.Format.{Format}
use Rattle.commit_journal.specs.declared.format.Format.TheVariants.{One, Two}
use Rattle.commit_journal.specs.declared.limits.TheConstants.{SIDE_FRAME}
use Rattle.commit_journal.specs.declared.stage.Stage.{Stage}
use Rattle.commit_journal.specs.declared.stage.Stage.TheVariants.{Found}
use Rattle.commit_journal.specs.Kept.{renewed}
use Rattle.commit_journal.specs.Reading.{Kept, Wrong}
use Rattle.commit_journal.specs.Views.{kept_first}
use Rattle.router_state.specs.Restoring.{snapshot_text}
use Rattle.router_state.specs.State.{State}
use Rattle.router_durable.specs.Choices.{written_format}

-- how many bytes a side with a snapshot of this state has, and no records
abbrev pub size_anew : List ℕ → State → ℕ
size_anew deployment s = SIDE_FRAME + length deployment + length (snapshot_text written_format s)

-- it has no room: the side, of which nothing stands yet, would be longer than the limit
abbrev pub IsFullAnew : ℕ → List ℕ → State → ℕ → ℕ → Type 0
IsFullAnew limit deployment s size adding = (size ≡ 0) × (adding ≡ size_anew deployment s) × (limit < adding)

-- a side of this format is written anew when the journal is opened
abbrev pub is_first : Format → Bool
is_first One = true
is_first Two = false

-- a side is written anew when the journal is opened: none counts yet, or one of the first format
abbrev pub is_anew : Result (Option Kept) Wrong → Bool
is_anew (Err wrong) = false
is_anew (Ok None) = true
is_anew (Ok (Some kept)) = is_first kept.head.format

-- what a side of this format leaves, once it is opened, by how far the journal has come
abbrev pub left_by : State → Stage → Kept → Format → Kept
left_by s stage kept One = renewed stage kept (snapshot_text written_format s)
left_by s stage kept Two = kept

-- What a journal keeps once it is opened, of what was recovered: a blank one has a side with the header alone, and one of the first
-- format goes on with the other side, where a snapshot of the state stands for its records.
abbrev pub kept_left : List ℕ → State → Result (Option Kept) Wrong → Kept
kept_left deployment s (Err wrong) = kept_first deployment
kept_left deployment s (Ok None) = kept_first deployment
kept_left deployment s (Ok (Some kept)) = left_by s Found kept kept.head.format
