-- What a script means, over any answers: a whole run, or the first key that has no answer.
use Rattle.std.specs.Prelude.{ℕ, false, List, [], map, Option, Some, None, slice_get, codes, if◌then◌else◌}
use Rattle.slee_value.specs.declared.ids.EntityId.{EntityId}
use Rattle.slee_effect.specs.declared.reference.Ref.TheVariants.{Known}
use Rattle.script_meaning.specs.declared.key.Key.{Key}
use Rattle.slee_effect.specs.declared.effect.Effect.{Effect}
use Rattle.script_meaning.specs.declared.outcome.Args.{Args}
use Rattle.script_meaning.specs.declared.outcome.Outcome.{Outcome}
use Rattle.script_meaning.specs.declared.outcome.Outcome.TheVariants as o
use Rattle.script_meaning.specs.declared.which.Part.{Part}
use Rattle.script_meaning.specs.declared.which.Part.TheVariants as part
use Rattle.script_meaning.specs.declared.which.Which.{Which}
use Rattle.script_types.specs.Program.{Program, HandlerProgram, BlockProgram, Steps}
use Rattle.script_meaning.specs.Answers.{Answers}
use Rattle.script_meaning.specs.Running.{unit_limit, Setting, State, Ending, Gave, Broke, Needs, Stays}
use Rattle.script_meaning.specs.Steps.{Flow, act_all}
use Rattle.script_meaning.specs.Calls.{call_at}

-- The effects and keys that a transaction already has.
pub record Before : Type 0 where
  pub effects : List Effect
  pub keys : List Key

abbrev pub nothing_before : Before
nothing_before = record { effects = []; keys = [] }

-- How a run ended, the text of its failure, and its own effects and keys.
pub record Report : Type 0 where
  pub outcome : Outcome
  pub failure : List ℕ
  pub effects : List Effect
  pub keys : List Key

-- What a script means. `Unchecked` is no answer to a checked program.
pub data Meaning : Type 0 where
  Done : Report → Meaning
  Need : Key → Meaning
  Unchecked : Meaning

-- a run in its setting, before its first step
abbrev pub setting_of : Answers → BlockProgram → EntityId → Args → Before → Setting
setting_of answers block e arguments before = record { answers = answers; effects = before.effects; keys = before.keys; arguments = arguments; me = Known e.0; masks = map (λ x. x.name) block.masks }

abbrev pub start : State
start = record { variables = []; left = unit_limit; asked = false; keys = []; effects = [] }

abbrev pub report_of : Outcome → List ℕ → State → Meaning
report_of outcome failure st = Done (record { outcome = outcome; failure = failure; effects = st.effects; keys = st.keys })

-- a run that went through is fine, unless rollback was asked for
abbrev pub report : Ending Flow → Meaning
report (Gave flow st) = if st.asked then report_of o.Asked (codes "asked") st else report_of o.Fine [] st
report (Broke kind text st) = report_of (o.Broken kind) text st
report (Needs key) = Need key
report Stays = Unchecked

-- what steps of a block mean for an entity
unfoldable pub meaning_in : Answers → Program → BlockProgram → Steps → EntityId → Args → Before → Meaning
meaning_in answers program block steps e arguments before =
    let s = setting_of answers block e arguments before in
    report (act_all s (call_at s program 8) steps start)

abbrev pub steps_of_handler : Option HandlerProgram → Option Steps
steps_of_handler None = None
steps_of_handler (Some handler) = Some handler.steps

-- a script of a block
abbrev pub script_in : BlockProgram → Part → Option Steps
script_in block (part.On place) = steps_of_handler (slice_get block.handlers place)
script_in block part.Exception = block.exception
script_in block part.RolledBack = block.rolled_back
script_in block part.Remove = block.remove

abbrev pub meaning_with : Answers → Program → BlockProgram → Option Steps → EntityId → Args → Before → Meaning
meaning_with answers program block None e arguments before = Unchecked
meaning_with answers program block (Some steps) e arguments before = meaning_in answers program block steps e arguments before

abbrev pub meaning_of : Answers → Program → Option BlockProgram → Part → EntityId → Args → Before → Meaning
meaning_of answers program None which e arguments before = Unchecked
meaning_of answers program (Some block) which e arguments before = meaning_with answers program block (script_in block which) e arguments before

-- what a script means for an entity
abbrev pub meaning : Answers → Program → Which → EntityId → Args → Before → Meaning
meaning answers program which e arguments before = meaning_of answers program (slice_get program which.block) which.part e arguments before
