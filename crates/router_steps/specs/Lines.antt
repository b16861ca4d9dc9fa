-- The lines of a trace: headings without their numbers, and the lines below them, which begin with two spaces.
use Rattle.std.specs.Prelude.{ℕ, ℤ, List, ◌++◌, codes, decimal}
use Rattle.std.specs.Fmt.{signed_decimal}
use Rattle.script_meaning.specs.Running.{word_of}
use Rattle.script_meaning.specs.declared.outcome.Outcome.{Outcome}
use Rattle.script_meaning.specs.declared.outcome.Outcome.TheVariants as outcomes
use Rattle.router_steps.specs.declared.refusal.Refusal.{Refusal}
use Rattle.router_steps.specs.declared.refusal.Refusal.TheVariants as refusals

-- an activity and its head event, as three headings name them
abbrev pub head_words : ℕ → ℕ → List ℕ
head_words a v = codes " a" ++ (decimal a ++ (codes " v" ++ decimal v))

-- a line was taken
abbrev pub input_heading : List ℕ → List ℕ
input_heading line = codes "input " ++ line

-- a service selected a root, which is new or old
abbrev pub initial_heading : ℕ → ℕ → List ℕ → ℕ → List ℕ → List ℕ
initial_heading a v service e how =
    codes "initial" ++ (head_words a v ++ (codes " " ++ (service ++ (codes " e" ++ (decimal e ++ (codes " " ++ how))))))

-- a service selected no root
abbrev pub initial_none_heading : ℕ → ℕ → List ℕ → List ℕ
initial_none_heading a v service = codes "initial" ++ (head_words a v ++ (codes " " ++ (service ++ codes " none")))

-- the words of how a run of a script ended
abbrev pub outcome_words : Outcome → List ℕ
outcome_words outcomes.Fine = codes "fine"
outcome_words outcomes.Asked = codes "asked"
outcome_words (outcomes.Broken kind) = codes "failed " ++ word_of kind

-- an event reached an entity, whose handler ended so
abbrev pub deliver_heading : ℕ → ℕ → ℕ → Outcome → List ℕ
deliver_heading a v e outcome = codes "deliver" ++ (head_words a v ++ (codes " e" ++ (decimal e ++ (codes " " ++ outcome_words outcome))))

-- an event is done
abbrev pub finish_heading : ℕ → ℕ → List ℕ
finish_heading a v = codes "finish" ++ head_words a v

-- the word of a refusal
abbrev pub refusal_word : Refusal → List ℕ
refusal_word refusals.Exists = codes "exists"
refusal_word refusals.UnknownActivity = codes "unknown-activity"
refusal_word refusals.Ending = codes "ending"
refusal_word refusals.UnknownEvent = codes "unknown-event"
refusal_word refusals.UnknownService = codes "unknown-service"
refusal_word refusals.BadFields = codes "bad-fields"
refusal_word refusals.ClockBack = codes "clock-back"
refusal_word refusals.TooMany = codes "too-many"
refusal_word refusals.NotInactive = codes "not-inactive"
refusal_word refusals.NotActive = codes "not-active"
refusal_word refusals.UnknownTable = codes "unknown-table"
refusal_word refusals.RowExists = codes "row-exists"
refusal_word refusals.NoRow = codes "no-row"
refusal_word refusals.Duplicate = codes "duplicate"

-- a line is refused
abbrev pub refused_line : Refusal → List ℕ
refused_line why = codes "  refused " ++ refusal_word why

-- the exception callback ran
abbrev pub exception_line : Outcome → List ℕ
exception_line outcome = codes "  exception " ++ outcome_words outcome

-- the rolled-back callback ran
abbrev pub rolled_back_line : Outcome → List ℕ
rolled_back_line outcome = codes "  rolled-back " ++ outcome_words outcome

-- an activity starts, with the words for what it stands for
abbrev pub started_line : ℕ → List ℕ → List ℕ
started_line a what = codes "  started a" ++ (decimal a ++ (codes " " ++ what))

-- a service has another state, with its word
abbrev pub service_line : List ℕ → List ℕ → List ℕ
service_line key word = codes "  service " ++ (key ++ (codes " " ++ word))

-- an event waits on an activity
abbrev pub queued_line : ℕ → List ℕ → ℕ → List ℕ
queued_line v event a = codes "  queued v" ++ (decimal v ++ (codes " " ++ (event ++ (codes " a" ++ decimal a))))

-- an entity is attached to an activity
abbrev pub attached_line : ℕ → ℕ → List ℕ
attached_line e a = codes "  attached e" ++ (decimal e ++ (codes " a" ++ decimal a))

-- an entity is attached no longer
abbrev pub detached_line : ℕ → ℕ → List ℕ
detached_line e a = codes "  detached e" ++ (decimal e ++ (codes " a" ++ decimal a))

-- an entity has a new child under a relation
abbrev pub created_line : ℕ → ℕ → List ℕ → List ℕ
created_line e parent relation = codes "  created e" ++ (decimal e ++ (codes " e" ++ (decimal parent ++ (codes "." ++ relation))))

-- an entity is gone
abbrev pub removed_line : ℕ → List ℕ
removed_line e = codes "  removed e" ++ decimal e

-- an activity is Ending
abbrev pub ending_line : ℕ → List ℕ
ending_line a = codes "  ending a" ++ decimal a

-- an activity is gone
abbrev pub gone_line : ℕ → List ℕ
gone_line a = codes "  gone a" ++ decimal a

-- a timer is set
abbrev pub timer_line : ℕ → ℕ → List ℕ
timer_line t a = codes "  timer t" ++ (decimal t ++ (codes " a" ++ decimal a))

-- an amount is added to a usage count
abbrev pub usage_line : ℕ → List ℕ → ℤ → List ℕ
usage_line e name amount = codes "  usage e" ++ (decimal e ++ (codes " " ++ (name ++ (codes " " ++ signed_decimal amount))))

-- an activity's head event is suspended
abbrev pub suspended_line : ℕ → ℕ → ℕ → List ℕ
suspended_line v a until = codes "  suspended v" ++ (decimal v ++ (codes " a" ++ (decimal a ++ (codes " until " ++ decimal until))))

-- its suspension ends
abbrev pub resumed_line : ℕ → ℕ → List ℕ
resumed_line v a = codes "  resumed v" ++ (decimal v ++ (codes " a" ++ decimal a))
