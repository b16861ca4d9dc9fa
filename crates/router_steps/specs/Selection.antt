-- Initial event selection: the convergence name of an event, and the root that has it (JSR 240, 8.5). The four rules of custom selection are the project's own.
use Rattle.std.specs.Prelude.{ℕ, Bool, false, not, ◌&&◌, ◌==◌, nat_eq, if◌then◌else◌, List, [], codes, take, filter, take_while, Some, None, Option, option_map, option_and_then, find}
use Rattle.std.specs.List.{fold, starts_with}
use Rattle.std.specs.Option.{option_map_or, unwrap_or}
use Rattle.slee_value.specs.Name.{is_digit}
use Rattle.slee_value.specs.declared.convergence.ConvName.{ConvName}
use Rattle.slee_value.specs.declared.value.Value.{Value}
use Rattle.slee_value.specs.declared.value.Value.TheVariants as values
use Rattle.script_meaning.specs.Same.{same_name}
use Rattle.deploy_model.specs.Deployed.{Deployed, DeployedService, Handling, CustomChoice, block_event, service_at}
use Rattle.deploy_model.specs.declared.choice.SelectRule.{SelectRule}
use Rattle.deploy_model.specs.declared.choice.SelectRule.TheVariants as rules
use Rattle.deploy_model.specs.declared.choice.Variable.{Variable}
use Rattle.deploy_model.specs.declared.choice.Variable.TheVariants as variables
use Rattle.router_state.specs.State.{State}
use Rattle.router_state.specs.Profiles.{value_of}
use Rattle.router_state.specs.Trees.{entity_at, is_root_of}
use Rattle.router_state.specs.declared.rows.Event.{Event}
use Rattle.router_state.specs.declared.rows.RootName.{RootName}

-- the first three digits, fewer where there are fewer
abbrev pub three_digits : List ℕ → List ℕ
three_digits input = take 3 (filter is_digit input)

-- the bytes before the first colon, all of them where there is none
abbrev pub before_colon : List ℕ → List ℕ
before_colon input = take_while (λ b. not (b == 58)) input

-- the name that a rule gives to a text, none where the event isn't initial by it
abbrev pub custom_name : SelectRule → List ℕ → Option (List ℕ)
custom_name rules.Whole input = Some input
custom_name rules.Digits3 input = Some (three_digits input)
custom_name rules.Scheme input = Some (before_colon input)
custom_name rules.Screened input = if starts_with nat_eq input (codes "anon:") then None else Some input

-- the text of a value, and the empty text where it is none
abbrev pub text_of : Value → List ℕ
text_of (values.Int n) = []
text_of (values.Text text) = text
text_of (values.Bool b) = []
text_of (values.Activity a) = []
text_of (values.Timer t) = []

-- What a selection goes by: an activity, and an event with its number, name and fields.
pub record Candidate : Type 0 where
  pub activity : ℕ
  pub event : ℕ
  pub name : List ℕ
  pub fields : List (List ℕ × Value)

-- the text of an event's field, and the empty text where there is none
abbrev pub text_field : List (List ℕ × Value) → List ℕ → List ℕ
text_field fields name = option_map_or text_of (value_of fields name) []

-- the name of no variable
abbrev pub no_variable : ConvName
no_variable = record { activity = None; address = None; event_type = None; event = None; custom = None }

-- the name with one more variable
abbrev pub with_variable : Candidate → List ℕ → ConvName → Variable → ConvName
with_variable x custom name variables.Activity = record name { activity = Some (record { 0 = x.activity }) }
with_variable x custom name variables.Address = record name { address = Some (text_field x.fields (codes "addr")) }
with_variable x custom name variables.EventType = record name { event_type = Some x.name }
with_variable x custom name variables.Event = record name { event = Some (record { 0 = x.event }) }
with_variable x custom name variables.Custom = record name { custom = Some custom }

-- the name of the variables that the root's block declares for the event
abbrev pub name_by_variables : Handling → Candidate → List ℕ → ConvName
name_by_variables handling x custom = fold (with_variable x custom) no_variable (unwrap_or handling.initial [])

-- the text that a custom choice gives, none where the event isn't initial by it
abbrev pub custom_text : CustomChoice → Candidate → Option (List ℕ)
custom_text custom x = custom_name custom.rule (text_field x.fields custom.field)

-- the text of a custom choice, and the empty text where a block has none
abbrev pub text_by_choice : Option CustomChoice → Candidate → Option (List ℕ)
text_by_choice None x = Some []
text_by_choice (Some custom) x = custom_text custom x

-- the convergence name for roots that handle the event so, none where the event isn't initial for them
abbrev pub name_by_handling : Handling → Candidate → Option ConvName
name_by_handling handling x = option_map (name_by_variables handling x) (text_by_choice handling.custom x)

-- how the block of a service's root handles the event
abbrev pub root_handling : Deployed → ℕ → List ℕ → Option Handling
root_handling d service event = option_and_then (λ (row : DeployedService). block_event d row.root event) (service_at d service)

-- the convergence name for a service of a deployment
abbrev pub selected : Deployed → ℕ → Candidate → Option ConvName
selected d service x = option_and_then (λ handling. name_by_handling handling x) (root_handling d service x.name)

-- the convergence name of an event on an activity for a service
abbrev pub selection : State → ℕ → ℕ → Event → Option ConvName
selection s service a v = selected s.deployment service (record { activity = a; event = v.id.0; name = v.name; fields = v.fields })

-- the convergence name is this one, of a root of the service
abbrev pub is_root_named : State → ℕ → ConvName → RootName → Bool
is_root_named s service name row =
    same_name row.name name && option_map_or (λ e. is_root_of service e.stem) (entity_at s.entities row.entity.0) false

-- the root of the service that has the name
abbrev pub root_named : State → ℕ → ConvName → Option RootName
root_named s service name = find (is_root_named s service name) s.root_names
