-- What the bytes of a disk stand for, and what a run says of it.
use Rattle.std.specs.Prelude.{◌≡◌, ℕ, List, [], Result, Ok, Err, IsOk}
use Rattle.slee_disk.specs.Disk.{DiskState}
use Rattle.router_state.specs.State.{State}
use Rattle.commit_journal.specs.declared.limits.TheConstants.{SIDE_LIMIT}
use Rattle.trace_history.specs.declared.entry.Entry.{Entry}
use Rattle.router_durable.specs.Recovery.{restart}
use Rattle.commit_journal.specs.Reading.{Wrong}
use Rattle.router_durable.specs.Opening.{IsUntouched}
use Rattle.slee_run.specs.declared.status.Status.{Status}
use Rattle.slee_run.specs.Given.{Document}
use Rattle.slee_run.specs.Status.{row_of, Time, Early, Refusing, Ending, Filled, DiskFailed, WantOfMemory, WritingFailed}

-- the most bytes of a side of the journal
abbrev pub journal_limit : ℕ
journal_limit = SIDE_LIMIT

-- the state that the bytes of a disk stand for, to a deployment of this document, or why they stand for none
abbrev pub found : Document → DiskState → Result State Wrong
found x disk = restart x.start x.bytes disk.seen

-- A run comes to its end only where the bytes stand for a state. Why they stand for none is told, what is wrong with them with its
-- numbers.
abbrev pub AnswersAt : Result State Wrong → Time → Type 0
AnswersAt bytes Early = Unit {0}
AnswersAt bytes (Refusing wrong) = bytes ≡ Err wrong
AnswersAt bytes Ending = IsOk bytes
AnswersAt bytes Filled = IsOk bytes
AnswersAt bytes DiskFailed = Unit {0}
AnswersAt bytes WantOfMemory = Unit {0}
AnswersAt bytes WritingFailed = Unit {0}

abbrev pub IsAnswerTo : Result State Wrong → Status → Type 0
IsAnswerTo bytes status = AnswersAt bytes (row_of status).time

-- A run goes on from the state that the bytes stand for; where they stand for none, it has no entry.
pub record IsOpened (bytes : Result State Wrong) (base : State) (history : List Entry) (status : Status) : Type 0 where
  pub from : (state : State) → bytes ≡ Ok state → base ≡ state
  pub none : (wrong : Wrong) → bytes ≡ Err wrong → history ≡ []
  pub answer : IsAnswerTo bytes status

-- before the journal is opened, and where its bytes are refused, nothing was written
abbrev pub UntouchedAt : Time → DiskState → DiskState → Type 0
UntouchedAt Early old new = IsUntouched old new
UntouchedAt (Refusing wrong) old new = IsUntouched old new
UntouchedAt Ending old new = Unit {0}
UntouchedAt Filled old new = Unit {0}
UntouchedAt DiskFailed old new = Unit {0}
UntouchedAt WantOfMemory old new = Unit {0}
UntouchedAt WritingFailed old new = Unit {0}

abbrev pub IsUntouchedAt : Status → DiskState → DiskState → Type 0
IsUntouchedAt status old new = UntouchedAt (row_of status).time old new

-- the disk isn't touched before all words and lines are read and understood
abbrev pub IsEarlyTime : Time → Type 0
IsEarlyTime Early = Unit {0}
IsEarlyTime (Refusing wrong) = ⊥
IsEarlyTime Ending = ⊥
IsEarlyTime Filled = ⊥
IsEarlyTime DiskFailed = ⊥
IsEarlyTime WantOfMemory = ⊥
IsEarlyTime WritingFailed = ⊥

abbrev pub IsBeforeOpening : Status → Type 0
IsBeforeOpening status = IsEarlyTime (row_of status).time

-- a run on good lines and an honest journal comes to its end, or memory runs out
abbrev pub IsGoodTime : Time → Type 0
IsGoodTime Early = ⊥
IsGoodTime (Refusing wrong) = ⊥
IsGoodTime Ending = Unit {0}
IsGoodTime Filled = Unit {0}
IsGoodTime DiskFailed = ⊥
IsGoodTime WantOfMemory = Unit {0}
IsGoodTime WritingFailed = ⊥

abbrev pub IsGood : Status → Type 0
IsGood status = IsGoodTime (row_of status).time

-- a status that comes before the journal is opened, or for want of memory
abbrev pub IsEarlyOrWanting : Time → Type 0
IsEarlyOrWanting Early = Unit {0}
IsEarlyOrWanting (Refusing wrong) = ⊥
IsEarlyOrWanting Ending = ⊥
IsEarlyOrWanting Filled = ⊥
IsEarlyOrWanting DiskFailed = ⊥
IsEarlyOrWanting WantOfMemory = Unit {0}
IsEarlyOrWanting WritingFailed = ⊥

abbrev pub IsEarly : Status → Type 0
IsEarly status = IsEarlyOrWanting (row_of status).time
