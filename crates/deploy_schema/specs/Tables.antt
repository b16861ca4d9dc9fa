-- The tables of members of a deployment's objects, and the first fault of a document.
use Rattle.std.specs.Prelude.{ℕ, ◌&&◌, Bool, List, [], ◌∷◌, not, Option, Some, None, option_and_then, option_map, codes, bytes_eq, is_some, if◌then◌else◌}
use Rattle.serde_json.specs.Data.{Data}
use Rattle.serde_json.specs.Find.{get, as_array, as_object}
use Rattle.built_in_events.specs.declared.built_in.BuiltInEvent.TheVariants as built_in_events
use Rattle.built_in_events.specs.BuiltIn.{name_of as built_in_name}
use Rattle.slee_value.specs.declared.kind.Kind.{Kind}
use Rattle.script_tree.specs.Tree.{Bytes}
use Rattle.deploy_model.specs.declared.fault.DeployBad.TheVariants as bad
use Rattle.deploy_model.specs.Faults.{Fault, here, unless, and_then}
use Rattle.deploy_model.specs.Rules.{Numbering, fresh, known, alias, variable_word, rule_word, text_field}
use Rattle.deploy_model.specs.Tables.{IdNumbering, version as component_version, is_taken, wants_custom}
use Rattle.deploy_schema.specs.Forms.{Form, Want, need, may, list_of, map_of, named, object, name_rule, priority, flag, or_null}
use Rattle.deploy_schema.specs.Texts.{TextRule, text, label, fresh_name, reference, type_word, profile_word}
use Rattle.deploy_schema.specs.Scripts.{script}
use Rattle.deploy_schema.specs.Numbers.{items_of, items_at, numbers_from}
use Rattle.deploy_schema.specs.Ids.{text_at, id_with}
use Rattle.deploy_schema.specs.Names.{Names, names_in, attribute_kind, texts_of, is_event, event_field}

-- The version is the last of the three, where a repeated component shows.
abbrev pub version : IdNumbering → TextRule
version ids number owner s = component_version ids number (id_with owner s)

-- The members of each array's items, and what follows.
abbrev pub component : Form → IdNumbering → List Want → List Want
component key ids rest =
    need (codes "key") key
    ∷ need (codes "name") (text label)
    ∷ need (codes "vendor") (text label)
    ∷ need (codes "version") (text (version ids))
    ∷ rest

-- An object of types, each at a name.
abbrev pub fields : Form
fields = map_of (named (text type_word))

-- The key of an event type.
abbrev pub event_key : Numbering → TextRule
event_key keys number owner s = and_then (name_rule s) (and_then (unless (not (is_taken s)) bad.Repeated) (fresh (keys s) number))

abbrev pub event_members : Names → List Want
event_members all = component (text (event_key all.events)) all.event_ids (may (codes "fields") fields ∷ [])

-- The name of an attribute of the profile.
abbrev pub attribute_name : TextRule
attribute_name number owner s = known (attribute_kind owner s)

abbrev pub profile_members : Names → List Want
profile_members all =
    component (text (fresh_name all.profiles)) all.profile_ids
    (may (codes "attributes") (map_of (named (text profile_word)))
    ∷ may (codes "unique") (list_of (text attribute_name))
    ∷ [])

abbrev pub tables : Names → Form
tables all = map_of (named (text (reference all.profiles)))

-- An alias of an attribute with this type.
abbrev pub alias_name : Names → Option Kind → TextRule
alias_name all kind number owner s = and_then (name_rule s) (alias kind (all.alias_kind s))

-- An attribute and its alias.
abbrev pub alias_entry : Names → Bytes → Form
alias_entry all name number owner d = and_then (known (attribute_kind owner name)) (text (alias_name all (attribute_kind owner name)) number owner d)

abbrev pub relation : Names → Form
relation all = object (need (codes "block") (text (reference all.blocks)) ∷ may (codes "priority") priority ∷ [])

-- The event that a handler is for; a block has one handler for each.
abbrev pub event_name : Names → Numbering → TextRule
event_name all handlers number owner s = if is_event all s then fresh (handlers s) number else here bad.UnknownName

-- One of these words, that of a variable, none of which stands twice.
abbrev pub variable : List Bytes → TextRule
variable words number owner s = variable_word words number s

-- The variables of an initial event; the end of an activity never is one.
abbrev pub initial : Bytes → Form
initial event number owner d =
    if bytes_eq event (built_in_name built_in_events.ActivityEnd) && is_some (as_array d) then here bad.Range
    else list_of (text (variable (texts_of (items_of d)))) number owner d

-- Whether the event is initial by custom selection.
abbrev pub is_custom : Data → Bool
is_custom d = wants_custom (option_map texts_of (option_and_then as_array (get (codes "initial") d)))

-- The word of a rule of custom selection.
abbrev pub selection_rule : TextRule
selection_rule number owner s = rule_word s

-- The field that a custom selection reads.
abbrev pub selection_field : Names → Bytes → TextRule
selection_field all event number owner s = text_field (event_field all event s)

abbrev pub custom_rule : Names → Bytes → Form
custom_rule all event =
    object (need (codes "rule") (text selection_rule) ∷ need (codes "field") (text (selection_field all event)) ∷ [])

-- A custom selection where none is wanted.
abbrev pub unwanted : Form
unwanted number owner d = if is_some (as_object d) then here bad.Range else here bad.WrongType

-- A custom selection, where it is wanted and nowhere else.
abbrev pub custom : Names → Bytes → Bool → Form
custom all event wanted = if wanted then custom_rule all event else unwanted

abbrev pub custom_member : Names → Bytes → Bool → Want
custom_member all event wanted = record { name = codes "custom"; needed = wanted; form = custom all event wanted }

abbrev pub handler_members : Names → Numbering → Bytes → Bool → List Want
handler_members all handlers event wanted =
    need (codes "event") (text (event_name all handlers))
    ∷ may (codes "initial") (initial event)
    ∷ custom_member all event wanted
    ∷ may (codes "mask") flag
    ∷ need (codes "on") script
    ∷ []

abbrev pub handler : Names → Numbering → Form
handler all handlers number owner d = object (handler_members all handlers (text_at (codes "event") d) (is_custom d)) number owner d

-- The events that a block handles.
abbrev pub handlers : Names → Form
handlers all number owner d = list_of (handler all (numbers_from (codes "event") 0 (items_of d))) number owner d

abbrev pub parameter : Numbering → Form
parameter names = object (need (codes "name") (text (fresh_name names)) ∷ need (codes "type") (text type_word) ∷ [])

abbrev pub parameters : Form
parameters number owner d = list_of (parameter (numbers_from (codes "name") 0 (items_of d))) number owner d

abbrev pub method : Form
method =
    object (may (codes "params") parameters
    ∷ may (codes "returns") (or_null (text type_word))
    ∷ need (codes "do") script
    ∷ [])

-- The callbacks of a block.
abbrev pub callbacks : List Want
callbacks = may (codes "exception") script ∷ may (codes "rolled_back") script ∷ may (codes "remove") script ∷ []

-- The relations, events and methods of a block, and its callbacks.
abbrev pub block_parts : Names → List Want
block_parts all =
    may (codes "relations") (map_of (named (relation all)))
    ∷ may (codes "events") (handlers all)
    ∷ may (codes "methods") (map_of (named method))
    ∷ callbacks

-- The values of a block, and its parts.
abbrev pub block_values : Names → List Want
block_values all =
    may (codes "fields") fields
    ∷ may (codes "attributes") fields
    ∷ may (codes "aliases") (map_of (alias_entry all))
    ∷ block_parts all

abbrev pub block_members : Names → List Want
block_members all = component (text (fresh_name all.blocks)) all.block_ids (block_values all)

abbrev pub service_members : Names → List Want
service_members all =
    component (text (fresh_name all.services)) all.service_ids
    (need (codes "root") (text (reference all.blocks))
    ∷ may (codes "priority") priority
    ∷ may (codes "active") flag
    ∷ [])

abbrev pub top_members : Names → List Want
top_members all =
    may (codes "events") (list_of (object (event_members all)))
    ∷ may (codes "profiles") (list_of (object (profile_members all)))
    ∷ may (codes "tables") (tables all)
    ∷ may (codes "blocks") (list_of (object (block_members all)))
    ∷ may (codes "services") (list_of (object (service_members all)))
    ∷ []

-- The first fault of a document, by what the tables look up.
abbrev pub fault_by : Names → Data → Option Fault
fault_by all d = object (top_members all) 0 d d

-- The first fault of a document in the order of the walk.
abbrev pub shape_fault : Data → Option Fault
shape_fault d = fault_by (names_in d) d
