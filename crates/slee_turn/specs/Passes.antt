-- What contracts see of a pass, and what the calls do to it.
use Rattle.std.specs.Prelude.{◌≡◌, ◌≢◌, ℕ, ◌≤◌, List, [], ◌∷◌, length, Bool, false}
use mathlib.Core.List.{IsPrefix}
use Rattle.atomic_table.specs.Seated.{TableId}
use Rattle.trace_history.specs.declared.choice.Choice.{Choice}
use Rattle.slee_turn.specs.Setups.{Setup}
use Rattle.slee_turn.specs.Knowledge.{Phase, free, inside, Knowledge, first_known, taken_known, told_known, freed_known}
use Rattle.slee_turn.specs.declared.turn.Turn.{Turn}
use Rattle.slee_turn.specs.declared.turn.Turn.TheVariants as turns

-- what contracts see of a pass: which turnstile it is of, what it knows, and whether the value that it last gave back was stopped
pub record PassView : Type 0 where
  pub table : TableId
  pub known : Knowledge
  pub stopped : Bool

-- the slots that a pass has in its phase; e is in the place of a value that it holds itself
abbrev pub slots_of : {S : Type 0} → S → Phase → List (ℕ × S)
slots_of e inside = (0, e) ∷ []
slots_of e _ = []

-- a pass of this turnstile that hasn't the turn, and one that has it
abbrev pub IsFreeOf : TableId → PassView → Type 0
IsFreeOf table pass = (pass.table ≡ table) × (pass.known.phase ≡ free)

abbrev pub HasTurnOf : TableId → PassView → Type 0
HasTurnOf table pass = (pass.table ≡ table) × (pass.known.phase ≡ inside)

-- the pass that comes with a turnstile, of a value with this setup and history
abbrev pub first_pass : TableId → Setup → List Choice → PassView
first_pass table setup history = record { table = table; known = first_known setup history; stopped = false }

-- a pass that knows this, and has given nothing back
abbrev pub new_pass : TableId → Knowledge → PassView
new_pass table known = record { table = table; known = known; stopped = false }

-- the pass knows this now
abbrev pub informed : PassView → Knowledge → PassView
informed pass known = record pass { known = known }

module _ {G : Type 0} (setup_of : G → Setup) (history_of : G → List Choice) where
  -- the value has the setup that is known, begins with what was seen, and has as many entries as were heard of
  pub record Continues (known : Knowledge) (value : G) : Type 0 where
    pub setup : setup_of value ≡ known.setup
    pub seen : IsPrefix known.seen (history_of value)
    pub heard : known.heard ≤ length (history_of value)

  -- the pass took the turn: it has seen the value's history now
  pub record HasTaken (before : PassView) (value : G) (after : PassView) : Type 0 where
    pub continues : Continues before.known value
    pub pass : after ≡ informed before (taken_known before.known (history_of value))

  -- the pass took the turn; or another had it, and nothing changed
  abbrev pub Tries : PassView → Turn G → PassView → Type 0
  Tries before (turns.Taken value) after = HasTaken before value after
  Tries before (turns.Busy holder) after = (after ≡ before) × (holder ≢ 0) × (holder ≢ before.known.number)

  -- the pass gave the value back: it has seen its history, in which what was added is its own
  abbrev pub given : PassView → G → Bool → PassView
  given pass value stopped = record pass { known = freed_known (told_known pass.known (history_of value)); stopped = stopped }
