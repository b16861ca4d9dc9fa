-- The key that is asked for by one whose names are lent.
use Rattle.std.specs.Prelude.{◌≡◌, ℕ, List, [], ◌∷◌, ◌++◌, Option, Some, None, Result, Ok, Err, box_value}
use Rattle.std.specs.Option.{option_copied}
use Rattle.script_meaning.specs.declared.seen.Seen.{Seen}
use Rattle.script_meaning.specs.Running.{State, Ending, Gave, Run}
use Rattle.script_run_machine.specs.Agreeing.{Stops}
use Rattle.script_run_machine.specs.Machines.{MachineState, state_of}
use Rattle.script_run_machine.specs.Numbering.{key_number, numbers_seen}
use Rattle.script_run_machine.specs.declared.observing.NewKey.{NewKey}
use Rattle.script_run_machine.specs.declared.observing.Looked.{Looked}
use Rattle.script_meaning.specs.declared.key.Key.{Key}
use Rattle.script_meaning.specs.declared.key.Key.TheVariants as k
use Rattle.script_run_machine.specs.declared.asked.Asked.{Asked}
use Rattle.script_run_machine.specs.declared.asked.Asked.TheVariants as a
use Rattle.script_run_machine.specs.declared.wanted.WantedAttribute.{WantedAttribute}
use Rattle.script_run_machine.specs.declared.wanted.WantedField.{WantedField}
use Rattle.script_run_machine.specs.declared.wanted.WantedState.{WantedState}
use Rattle.script_run_machine.specs.declared.stop.Stop.{Stop}
use Rattle.script_run_machine.specs.declared.stop.Stop.TheVariants as stop

abbrev pub key_asked : Asked → Key
key_asked (a.Field e name) = k.Field e name.now.name
key_asked (a.Children e relation) = k.Children e relation.now.name
key_asked (a.Priority e) = k.Priority e
key_asked (a.AcState x) = k.AcState x
key_asked (a.Attr x name) = k.Attr x name.now.name
key_asked (a.Attached e x) = k.Attached e x
key_asked (a.Mask e x) = k.Mask e x
key_asked (a.Named name) = k.Named name.now
key_asked (a.Timer t) = k.Timer t
key_asked (a.Profile table name) = k.Profile table.now.name name.now
key_asked a.Now = k.Now
key_asked (a.Activities e) = k.Activities e

-- the number of its name
abbrev pub asked_number : Asked → Option ℕ
asked_number (a.Field e name) = name.now.number
asked_number (a.Children e relation) = relation.now.number
asked_number (a.Attr x name) = name.now.number
asked_number (a.Profile table name) = table.now.number
asked_number _ = None

-- the keys of those with a way of their own
abbrev pub field_wanted : WantedField → Key
field_wanted x = k.Field x.entity x.name.now.name

abbrev pub attribute_wanted : WantedAttribute → Key
attribute_wanted x = k.Attr x.activity x.key.now.name

abbrev pub state_wanted : WantedState → Key
state_wanted x = k.AcState x.activity

-- it is that of the key's name
abbrev pub IsNumberedAsked : List (List ℕ) → Asked → Type 0
IsNumberedAsked names asked = asked_number asked ≡ key_number names (key_asked asked)

-- the same of what is asked for, if anything is
abbrev pub AreNumberedBy : {W : Type 0} → (List (List ℕ) → W → Type 0) → List (List ℕ) → Option W → Type 0
AreNumberedBy is_numbered names None = Unit {0}
AreNumberedBy is_numbered names (Some x) = is_numbered names x

-- a run stops for want of an answer to this key, or of memory
abbrev pub Wants : Key → Stop → Type 0
Wants key stop.NoMemory = Unit {0}
Wants key (stop.Need other) = box_value other ≡ key
Wants key _ = ⊥

-- the state with one key more, if there is a new one
abbrev pub with_key : Option Key → State → State
with_key None st = st
with_key (Some key) st = record st { keys = st.keys ++ key ∷ [] }

-- what was found under a key, which is counted then
abbrev pub noted : Option Key → Option Seen → Run (Option Seen)
noted key seen st = Gave seen (with_key key st)

-- the key of one that is new
abbrev pub new_key : Option NewKey → Option Key
new_key None = None
new_key (Some x) = Some x.key

-- a new key has the number of its name
abbrev pub IsNumberedNew : List (List ℕ) → Option NewKey → Type 0
IsNumberedNew names None = Unit {0}
IsNumberedNew names (Some x) = x.number ≡ key_number names x.key

-- what asking for a key gives, before it is counted: with the numbers of the names in it, and of that in a new key
pub record Found (names : List (List ℕ)) (ending : Ending (Option Seen)) (st : MachineState) (looked : Looked) : Type 0 where
  pub gives : ending ≡ noted (new_key looked.key) (option_copied looked.seen) (state_of st)
  pub numbers : looked.numbers.now ≡ numbers_seen names (option_copied looked.seen)
  pub new : IsNumberedNew names looked.key

abbrev pub Peeks : List (List ℕ) → Ending (Option Seen) → MachineState → Result Looked Stop → Type 0
Peeks names ending st (Ok looked) = Found names ending st looked
Peeks names ending st (Err e) = Stops ending st e
