-- The statuses, in one table: the number and the line of each, when it comes, and whether it is a fault.
use Rattle.std.specs.Prelude.{ℕ, Bool, true, false, List, [], ◌++◌, codes, decimal}
use Rattle.slee_disk.specs.declared.side.Side.{Side}
use Rattle.slee_disk.specs.Sides.{side_word}
use Rattle.commit_journal.specs.declared.fault.JournalBad.{JournalBad}
use Rattle.commit_journal.specs.Words.{kind_word}
use Rattle.commit_journal.specs.Reading.{Wrong, Bad, Other}
use Rattle.signal_script.specs.Words.{bad_word}
use Rattle.deploy_report.specs.Texts.{fault_text}
use Rattle.slee_run.specs.declared.status.Given.{Given}
use Rattle.slee_run.specs.declared.status.Given.TheVariants as givens
use Rattle.slee_run.specs.declared.status.Status.{Status}
use Rattle.slee_run.specs.declared.status.Status.TheVariants as statuses

-- the word for a source in messages
abbrev pub given_word : Given → List ℕ
given_word givens.Deploy = codes "deploy"
given_word givens.Signals = codes "signals"

abbrev pub is_deploy : Given → Bool
is_deploy givens.Deploy = true
is_deploy givens.Signals = false

-- two numbers, and the end of the line
abbrev pub pair_text : ℕ → ℕ → List ℕ
pair_text first second = decimal first ++ (codes " " ++ (decimal second ++ codes "\n"))

-- a side, a place in it and what is wrong there, and the end of the line
abbrev pub place_text : Side → ℕ → JournalBad → List ℕ
place_text side at kind = side_word side ++ (codes " " ++ (decimal at ++ (codes " " ++ (kind_word kind ++ codes "\n"))))

-- When a status comes.
pub data Time : Type 0 where
  -- before the journal is opened
  Early : Time
  -- when it is opened, since for this its bytes stand for no state
  Refusing : Wrong → Time
  -- when the run has come to its end
  Ending : Time
  -- when no side can be written anew, or no more records have room
  Filled : Time
  -- once the disk, memory or writing failed
  DiskFailed : Time
  WantOfMemory : Time
  WritingFailed : Time

-- a mark of the table
abbrev pub Holds : Bool → Type 0
Holds true = Unit {0}
Holds false = ⊥

-- what is true of a status in each run
pub record Row : Type 0 where
  -- the number that the process ends with
  pub code : ℕ
  -- the last line of the text; none is promised for a write fault
  pub line : List ℕ
  pub time : Time
  -- a task with the journal, which is showing or compacting it, may come to it
  pub tended : Bool
  -- checking a deployment, or generating lines for it, may come to it
  pub checked : Bool
  -- it doesn't follow from the words, the lines and the journal
  pub faulty : Bool

-- the table
abbrev pub row_of : Status → Row
row_of statuses.Ok = record { code = 0; line = codes "status 0 ok\n"; time = Ending; tended = true; checked = true; faulty = false }
row_of statuses.BadWords = record { code = 2; line = codes "status 2 bad-words\n"; time = Early; tended = false; checked = false; faulty = false }
row_of statuses.ReadFault = record { code = 3; line = codes "status 3 read-fault\n"; time = Early; tended = true; checked = true; faulty = true }
row_of (statuses.BadDeploy fault) = record { code = 4; line = codes "status 4 bad-deploy " ++ (fault_text fault ++ codes "\n"); time = Early; tended = true; checked = true; faulty = false }
row_of (statuses.BadSignals number kind) = record { code = 5; line = codes "status 5 bad-signals " ++ (decimal number ++ (codes " " ++ (bad_word kind ++ codes "\n"))); time = Early; tended = false; checked = false; faulty = false }
row_of statuses.WriteFault = record { code = 6; line = []; time = WritingFailed; tended = false; checked = false; faulty = false }
row_of statuses.DiskFault = record { code = 7; line = codes "status 7 disk-fault\n"; time = DiskFailed; tended = true; checked = false; faulty = true }
row_of (statuses.BadJournal side at kind) = record { code = 8; line = codes "status 8 bad-journal " ++ place_text side at kind; time = Refusing (Bad side at kind); tended = true; checked = false; faulty = false }
row_of (statuses.OtherDeployment kept_len place) = record { code = 9; line = codes "status 9 other-deployment " ++ pair_text kept_len place; time = Refusing (Other kept_len place); tended = true; checked = false; faulty = false }
row_of (statuses.Full size adding) = record { code = 10; line = codes "status 10 full " ++ pair_text size adding; time = Filled; tended = true; checked = false; faulty = false }
row_of (statuses.StepsSpent entries) = record { code = 11; line = codes "status 11 steps-spent " ++ (decimal entries ++ codes "\n"); time = Ending; tended = false; checked = false; faulty = false }
row_of statuses.NoMemory = record { code = 12; line = codes "status 12 no-memory\n"; time = WantOfMemory; tended = true; checked = true; faulty = true }
row_of (statuses.TooLarge what) = record { code = 13; line = codes "status 13 too-large " ++ (given_word what ++ codes "\n"); time = Early; tended = is_deploy what; checked = is_deploy what; faulty = false }

abbrev pub code_of : Status → ℕ
code_of status = (row_of status).code

abbrev pub status_line : Status → List ℕ
status_line status = (row_of status).line
