-- How the callbacks of a delivery run, by the numbers of their scripts.
use Rattle.std.specs.Prelude.{ℕ, Option, Some, None}
use Rattle.slee_value.specs.declared.ids.EntityId.{EntityId}
use Rattle.slee_value.specs.declared.ids.ActivityId.{ActivityId}
use Rattle.script_meaning.specs.declared.outcome.Args.{Args}
use Rattle.script_meaning.specs.declared.outcome.Outcome.{Outcome}
use Rattle.script_meaning.specs.declared.outcome.Outcome.TheVariants as o
use Rattle.script_meaning.specs.declared.which.Part.{Part}
use Rattle.script_meaning.specs.declared.which.Part.TheVariants as part
use Rattle.script_types.specs.Program.{Program, Steps}
use Rattle.script_meaning.specs.Answers.{Answers}
use Rattle.script_meaning.specs.Meaning.{Before, nothing_before, Report, Meaning, meaning}
use Rattle.script_meaning.specs.Delivery.{Delivery, Complete, reported, outcome_of, standing, callback_args}
use Rattle.handler_run.specs.Scripts.{script_of}

-- what a script means, where it is there
abbrev pub if_there : Option Steps → Meaning → Option Meaning
if_there None m = None
if_there (Some steps) m = Some m

-- a callback of a block, which may be missing
abbrev pub callback_over : Answers → Program → ℕ → EntityId → Args → Part → Before → Option Meaning
callback_over answers program number e arguments which before = if_there (script_of program (record { block = number; part = which })) (meaning answers program (record { block = number; part = which }) e arguments before)

-- the exception callback runs where the handler failed, and not where it asked
abbrev pub exception_over : Answers → Program → ℕ → EntityId → Args → Outcome → Before → Option Meaning
exception_over answers program number e arguments (o.Broken kind) before = callback_over answers program number e arguments part.Exception before
exception_over answers program number e arguments o.Asked before = None
exception_over answers program number e arguments o.Fine before = None

-- what comes behind a callback that ran, or that is missing
abbrev pub behind_callback : Option Meaning → (Option Report → Delivery) → Delivery
behind_callback None g = g None
behind_callback (Some m) g = reported m (λ report. g (Some report))

-- the end of a delivery, by how its handler and its callbacks ended
abbrev pub ended_by : Outcome → Option Outcome → Option Report → Delivery
ended_by outcome exception rolled_back = Complete (record { outcome = outcome; exception = exception; rolled_back = outcome_of rolled_back; effects = standing rolled_back })

-- the rolled-back callback, behind which the delivery ends
abbrev pub rolled_back_over : Answers → Program → ℕ → EntityId → Args → Outcome → Option Outcome → Delivery
rolled_back_over answers program number e arguments outcome exception = behind_callback (callback_over answers program number e arguments part.RolledBack nothing_before) (ended_by outcome exception)

-- both callbacks of a handler that wasn't fine
abbrev pub called_back_over : Answers → Program → ℕ → EntityId → Args → Outcome → Before → Delivery
called_back_over answers program number e arguments outcome before =
    behind_callback (exception_over answers program number e arguments outcome before) (λ exception. rolled_back_over answers program number e arguments outcome (outcome_of exception))

-- what comes behind a handler
abbrev pub behind_handler : Answers → Program → ℕ → EntityId → ActivityId → Report → Outcome → Delivery
behind_handler answers program number e a report o.Fine = Complete (record { outcome = o.Fine; exception = None; rolled_back = None; effects = report.effects })
behind_handler answers program number e a report o.Asked = called_back_over answers program number e (callback_args a report.failure) o.Asked (record { effects = report.effects; keys = report.keys })
behind_handler answers program number e a report (o.Broken kind) = called_back_over answers program number e (callback_args a report.failure) (o.Broken kind) (record { effects = report.effects; keys = report.keys })
