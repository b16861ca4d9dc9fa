-- Rules for the members of a deployment's objects: for each kind of member, the first fault that what stands there has.
use Rattle.std.specs.Prelude.{ℕ, ◌+◌, ◌==◌, nat_le, ◌&&◌, Bool, true, false, List, [], ◌∷◌, length, Option, Some, None, decimal, codes, bytes_eq, is_some, if◌then◌else◌}
use Rattle.std.specs.List.{position_from}
use Rattle.slee_value.specs.declared.kind.Kind.{Kind}
use Rattle.slee_value.specs.declared.kind.Kind.TheVariants as kinds
use Rattle.slee_value.specs.declared.component.ComponentId.{ComponentId}
use Rattle.script_tree.specs.Tree.{Bytes}
use Rattle.deploy_model.specs.declared.choice.Variable.{Variable}
use Rattle.deploy_model.specs.declared.choice.Variable.TheVariants as variables
use Rattle.deploy_model.specs.declared.choice.SelectRule.{SelectRule}
use Rattle.deploy_model.specs.declared.choice.SelectRule.TheVariants as rules
use Rattle.deploy_model.specs.declared.fault.DeployBad.TheVariants as bad
use Rattle.deploy_model.specs.Faults.{Fault, here, unless, under, and_then}

-- The first fault of a part, if it has one.
abbrev pub Rule : Type 0 → Type 0
Rule A = A → Option Fault

-- The members of an object, in order.
abbrev pub table : {A : Type 0} → List (Rule A) → Rule A
table [] x = None
table (rule ∷ rules) x = and_then (rule x) (table rules x)

-- A member of this name: what the object has there, and the rule for it.
abbrev pub member : {A B : Type 0} → Bytes → (A → B) → Rule B → Rule A
member name part rule x = under name (rule (part x))

-- The items of an array, each by its number, counted from n.
abbrev pub items_from : {A : Type 0} → (ℕ → Rule A) → ℕ → Rule (List A)
items_from rule n [] = None
items_from rule n (x ∷ xs) = and_then (under (decimal n) (rule n x)) (items_from rule (n + 1) xs)

-- The items of an array, each by its number, counted from 0.
abbrev pub items : {A : Type 0} → (ℕ → Rule A) → Rule (List A)
items rule xs = items_from rule 0 xs

-- The members of an object that is a map, each under its own name.
abbrev pub entries : {A : Type 0} → (A → Bytes) → Rule A → Rule (List A)
entries name rule [] = None
entries name rule (x ∷ xs) = and_then (under (name x) (rule x)) (entries name rule xs)

-- What is there, else what comes later.
abbrev pub or_later : {A : Type 0} → Option A → Option A → Option A
or_later None later = later
or_later (Some x) later = Some x

-- The most bytes of a name, vendor or version.
abbrev pub label_limit : ℕ
label_limit = 256

-- A text of 1 to 256 bytes.
abbrev pub label : Rule Bytes
label text = unless (nat_le 1 (length text) && nat_le (length text) label_limit) bad.Range

-- Which item of a list a key names: the first that has it.
abbrev pub Numbering : Type 0
Numbering = Bytes → Option ℕ

abbrev pub is_number : ℕ → Option ℕ → Bool
is_number n None = false
is_number n (Some m) = n == m

-- What is named by item n and by no earlier one.
abbrev pub fresh : Option ℕ → ℕ → Option Fault
fresh named n = unless (is_number n named) bad.Repeated

-- A name of something that there is.
abbrev pub known : {A : Type 0} → Option A → Option Fault
known found = unless (is_some found) bad.UnknownName

-- The types that a profile's attribute may have.
abbrev pub is_profile_kind : Kind → Bool
is_profile_kind kinds.Int = true
is_profile_kind kinds.Text = true
is_profile_kind kinds.Bool = true
is_profile_kind kinds.Activity = false
is_profile_kind kinds.Timer = false

-- The type of a profile's attribute.
abbrev pub profile_kind : Rule Kind
profile_kind kind = unless (is_profile_kind kind) bad.Range

-- The variable of initial event selection that a word names.
abbrev pub variable_of : Bytes → Option Variable
variable_of word =
    if bytes_eq word (codes "activity") then Some variables.Activity
    else (if bytes_eq word (codes "address") then Some variables.Address
    else (if bytes_eq word (codes "event-type") then Some variables.EventType
    else (if bytes_eq word (codes "event") then Some variables.Event
    else (if bytes_eq word (codes "custom") then Some variables.Custom
    else None))))

-- The rule of custom selection that a word names.
abbrev pub rule_of : Bytes → Option SelectRule
rule_of word =
    if bytes_eq word (codes "whole") then Some rules.Whole
    else (if bytes_eq word (codes "digits3") then Some rules.Digits3
    else (if bytes_eq word (codes "scheme") then Some rules.Scheme
    else (if bytes_eq word (codes "screened") then Some rules.Screened
    else None)))

-- The word of a variable, at place n among these words, none of which stands twice.
abbrev pub variable_word : List Bytes → ℕ → Rule Bytes
variable_word words n word = if is_some (variable_of word) then fresh (position_from (bytes_eq word) 0 words) n else here bad.Range

-- The word of a rule of custom selection.
abbrev pub rule_word : Rule Bytes
rule_word word = unless (is_some (rule_of word)) bad.Range

-- The field that a custom selection reads: one of the event, and a text.
abbrev pub text_field : Option Kind → Option Fault
text_field None = here bad.UnknownName
text_field (Some kinds.Int) = here bad.Range
text_field (Some kinds.Text) = None
text_field (Some kinds.Bool) = here bad.Range
text_field (Some kinds.Activity) = here bad.Range
text_field (Some kinds.Timer) = here bad.Range

abbrev pub is_same_kind : Kind → Kind → Bool
is_same_kind kinds.Int kinds.Int = true
is_same_kind kinds.Text kinds.Text = true
is_same_kind kinds.Bool kinds.Bool = true
is_same_kind kinds.Activity kinds.Activity = true
is_same_kind kinds.Timer kinds.Timer = true
is_same_kind _ _ = false

abbrev pub is_kind : Kind → Option Kind → Bool
is_kind kind None = false
is_kind kind (Some other) = is_same_kind kind other

-- An alias of an attribute: the attribute's type, and the type of the first attribute of any block that has this alias.
abbrev pub alias : Option Kind → Option Kind → Option Fault
alias None first = here bad.UnknownName
alias (Some kind) first = unless (is_kind kind first) bad.Alias

-- Whether two components have the same name, vendor and version.
abbrev pub is_same_id : ComponentId → ComponentId → Bool
is_same_id a b = bytes_eq a.name b.name && (bytes_eq a.vendor b.vendor && bytes_eq a.version b.version)
