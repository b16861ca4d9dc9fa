-- What an entity says when it is removed.
use Rattle.std.specs.Prelude.{ℕ, false, nat_le, List, [], ◌++◌, length, map, filter_map, Option, Some, None, codes, if◌then◌else◌}
use Rattle.std.specs.List.{flat_map}
use Rattle.std.specs.Fmt.{decimal}
use Rattle.slee_value.specs.Escape.{escaped}
use Rattle.slee_value.specs.declared.ids.EntityId.{EntityId}
use Rattle.slee_effect.specs.declared.effect.Effect.{Effect}
use Rattle.slee_effect.specs.declared.effect.Effect.TheVariants as ef
use Rattle.script_meaning.specs.declared.outcome.Args.{Args}
use Rattle.script_meaning.specs.declared.outcome.Outcome.{Outcome}
use Rattle.script_meaning.specs.declared.outcome.Outcome.TheVariants as o
use Rattle.script_types.specs.Program.{Program, BlockProgram, Steps}
use Rattle.script_meaning.specs.Answers.{Answers}
use Rattle.script_meaning.specs.Meaning.{nothing_before, Meaning, Done, Need, Unchecked, meaning_in}

-- a line of the trace for what an entity says
abbrev pub said : EntityId → List ℕ → List ℕ
said e text = codes "  say e" ++ (decimal e.0 ++ (codes " " ++ escaped false text))

abbrev pub text_in : Effect → Option (List ℕ)
text_in (ef.Emit entity text) = Some text
text_in other = None

abbrev pub lines_of : EntityId → List Effect → List (List ℕ)
lines_of e effects = map (said e) (filter_map text_in effects)

-- lines of more than 256 bytes are dropped
abbrev pub short_enough : List (List ℕ) → List (List ℕ)
short_enough lines = if nat_le (length (flat_map (λ line. line) lines)) 256 then lines else []

-- the lines of a run that was fine
abbrev pub lines_by : EntityId → Outcome → List Effect → List (List ℕ)
lines_by e o.Fine effects = short_enough (lines_of e effects)
lines_by e o.Asked effects = []
lines_by e (o.Broken kind) effects = []

abbrev pub lines_in : EntityId → Meaning → List (List ℕ)
lines_in e (Done report) = lines_by e report.outcome report.effects
lines_in e (Need key) = []
lines_in e Unchecked = []

-- a remove script has no activity, no fields and no failure
abbrev pub no_args : Args
no_args = record { activity = record { 0 = 0 }; fields = []; failure = [] }

abbrev pub lines_with : Answers → Program → BlockProgram → EntityId → Option Steps → List (List ℕ)
lines_with answers program block e None = []
lines_with answers program block e (Some steps) = lines_in e (meaning_in answers program block steps e no_args nothing_before)

-- the lines of an entity that is removed
abbrev pub removal_lines : Answers → Program → BlockProgram → EntityId → List (List ℕ)
removal_lines answers program block e = lines_with answers program block e block.remove
