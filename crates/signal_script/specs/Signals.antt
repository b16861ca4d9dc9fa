-- What lines say: the nine forms, the first fault of a line that has none of them, and the one line of a signal.
use Rattle.std.specs.Prelude.{ℕ, ◌+◌, Bool, true, not, ◌&&◌, ◌||◌, nat_lt, nat_le, if◌then◌else◌, List, [], ◌∷◌, ◌++◌, codes, decimal, length, map, find, Ok, Err, Some, None, Option}
use Rattle.std.specs.declared.result.Result.{Result}
use Rattle.std.specs.List.{list_any, flat_map, join_with_byte}
use Rattle.std.specs.Option.{option_map_or}
use Rattle.std.specs.Str.{bytes_eq, is_utf8}
use Rattle.std.specs.Str.Parse.{digits_value}
use Rattle.built_in_events.specs.BuiltIn.{is_built_in}
use Rattle.slee_value.specs.Name.{is_name}
use Rattle.slee_value.specs.Escape.{escaped}
use Rattle.signal_script.specs.Lines.{lines_of, words_of, cut_at, line_limit, is_control, is_line}
use Rattle.signal_script.specs.WordText.{unescaped}
use Rattle.signal_script.specs.declared.fault.SignalBad.{SignalBad}
use Rattle.signal_script.specs.declared.fault.SignalBad.TheVariants as bads
use Rattle.signal_script.specs.declared.fault.SignalFault.{SignalFault}
use Rattle.signal_script.specs.declared.fault.SignalFault.TheVariants as faults
use Rattle.signal_script.specs.declared.verb.Verb.{Verb}
use Rattle.signal_script.specs.declared.verb.Verb.TheVariants as verbs
use Rattle.signal_script.specs.declared.signal.Signal.{Signal}
use Rattle.signal_script.specs.declared.signal.Signal.TheVariants as signals

-- the latest moment of the clock
abbrev pub clock_limit : ℕ
clock_limit = 4000000000000000

-- what a part of a line says, or its first fault
abbrev pub Reading : Type 0 → Type 0
Reading A = Result A SignalBad

-- one part after another: the fault of the first that has one
abbrev pub and_then : {A B : Type 0} → Reading A → (A → Reading B) → Reading B
and_then (Ok a) more = more a
and_then (Err bad) more = Err bad

-- a word that passes a test
abbrev pub tested : (List ℕ → Bool) → SignalBad → List ℕ → Reading (List ℕ)
tested test bad word = if test word then Ok word else Err bad

abbrev pub name_of : List ℕ → Reading (List ℕ)
name_of word = tested is_name bads.Name word

-- a name that a deployment may give an event, or that of an event which every deployment has
abbrev pub is_event : List ℕ → Bool
is_event word = is_name word || is_built_in word

abbrev pub event_name_of : List ℕ → Reading (List ℕ)
event_name_of word = tested is_event bads.Name word

-- an event, and behind an at sign the service that it is for, where it is for one alone
abbrev pub event_alone : List ℕ → Reading (List ℕ × Option (List ℕ))
event_alone event = and_then (event_name_of event) (λ event. Ok (event, None))

abbrev pub event_for : List ℕ × List ℕ → Reading (List ℕ × Option (List ℕ))
event_for parts = and_then (event_name_of parts.0) (λ event. and_then (name_of parts.1) (λ service. Ok (event, Some service)))

abbrev pub event_of : List ℕ → Reading (List ℕ × Option (List ℕ))
event_of word = option_map_or event_for (cut_at 64 word) (event_alone word)

-- a decimal number without leading zeros, up to the latest moment
abbrev pub is_moment : List ℕ → Bool
is_moment word = nat_le (digits_value 10 word) clock_limit && bytes_eq word (decimal (digits_value 10 word))

abbrev pub moment_of : List ℕ → Reading ℕ
moment_of word = if is_moment word then Ok (digits_value 10 word) else Err bads.Number

-- the text that a word stands for
abbrev pub text_of : List ℕ → Reading (List ℕ)
text_of word = option_map_or Ok (unescaped true word) (Err bads.Escape)

-- the name of a row: a text that isn't empty
abbrev pub row_of : List ℕ → Reading (List ℕ)
row_of [] = Err bads.Name
row_of (b ∷ bs) = text_of (b ∷ bs)

-- one of these fields has this name
abbrev pub has_field : List (List ℕ × List ℕ) → List ℕ → Bool
has_field fields name = list_any (λ field. bytes_eq field.0 name) fields

-- the name of a field that stands behind these is a new one
abbrev pub is_new_name : List (List ℕ × List ℕ) → List ℕ → Bool
is_new_name before name = is_name name && not (has_field before name)

-- `NAME=VALUE`, behind these fields
abbrev pub field_of_parts : List (List ℕ × List ℕ) → List ℕ × List ℕ → Reading (List ℕ × List ℕ)
field_of_parts before parts =
    and_then (tested (is_new_name before) bads.Field parts.0) (λ name. and_then (text_of parts.1) (λ value. Ok (name, value)))

abbrev pub field_of : List (List ℕ × List ℕ) → List ℕ → Reading (List ℕ × List ℕ)
field_of before word = option_map_or (field_of_parts before) (cut_at 61 word) (Err bads.Field)

-- these fields, and those of the words behind them
abbrev pub fields_of : List (List ℕ × List ℕ) → List (List ℕ) → Reading (List (List ℕ × List ℕ))
fields_of before [] = Ok before
fields_of before (word ∷ words) = and_then (field_of before word) (λ field. fields_of (before ++ field ∷ []) words)

-- How many words stand behind a verb: one,
abbrev pub only_word : List (List ℕ) → Reading (List ℕ)
only_word (word ∷ []) = Ok word
only_word words = Err bads.Count

-- two,
abbrev pub only_two : List (List ℕ) → Reading (List ℕ × List ℕ)
only_two (first ∷ second ∷ []) = Ok (first, second)
only_two words = Err bads.Count

-- or two with any number behind them.
abbrev pub two_or_more : List (List ℕ) → Reading (List ℕ × List ℕ × List (List ℕ))
two_or_more (first ∷ second ∷ more) = Ok (first, second, more)
two_or_more words = Err bads.Count

-- one name
abbrev pub one_name : List (List ℕ) → Reading (List ℕ)
one_name words = and_then (only_word words) name_of

-- one moment
abbrev pub one_moment : List (List ℕ) → Reading ℕ
one_moment words = and_then (only_word words) moment_of

-- an activity's name, an event and its fields
abbrev pub event_fired : List (List ℕ) → Reading Signal
event_fired words =
    and_then (two_or_more words) (λ parts.
    and_then (name_of parts.0) (λ name.
    and_then (event_of parts.1) (λ event.
    and_then (fields_of [] parts.2) (λ fields. Ok (signals.Fire name event.0 event.1 fields)))))

-- a table, a row and its attributes
abbrev pub row_given : List (List ℕ) → Reading (List ℕ × List ℕ × List (List ℕ × List ℕ))
row_given words =
    and_then (two_or_more words) (λ parts.
    and_then (name_of parts.0) (λ table.
    and_then (row_of parts.1) (λ row.
    and_then (fields_of [] parts.2) (λ fields. Ok (table, row, fields)))))

-- a table and a row
abbrev pub row_named : List (List ℕ) → Reading (List ℕ × List ℕ)
row_named words =
    and_then (only_two words) (λ parts.
    and_then (name_of parts.0) (λ table.
    and_then (row_of parts.1) (λ row. Ok (table, row))))

-- the first words of the nine forms
abbrev pub verb_word : Verb → List ℕ
verb_word verbs.Start = codes "start"
verb_word verbs.End = codes "end"
verb_word verbs.Fire = codes "fire"
verb_word verbs.Clock = codes "clock"
verb_word verbs.Activate = codes "activate"
verb_word verbs.Deactivate = codes "deactivate"
verb_word verbs.ProfileAdd = codes "profile-add"
verb_word verbs.ProfileUpdate = codes "profile-update"
verb_word verbs.ProfileRemove = codes "profile-remove"

abbrev pub all_verbs : List Verb
all_verbs =
    verbs.Start ∷ verbs.End ∷ verbs.Fire ∷ verbs.Clock ∷ verbs.Activate ∷ verbs.Deactivate
    ∷ verbs.ProfileAdd ∷ verbs.ProfileUpdate ∷ verbs.ProfileRemove ∷ []

abbrev pub verb_of : List ℕ → Option Verb
verb_of word = find (λ verb. bytes_eq word (verb_word verb)) all_verbs

-- what a verb and the words behind it say
abbrev pub signal_of_verb : List (List ℕ) → Verb → Reading Signal
signal_of_verb words verbs.Start = and_then (one_name words) (λ name. Ok (signals.Start name))
signal_of_verb words verbs.End = and_then (one_name words) (λ name. Ok (signals.End name))
signal_of_verb words verbs.Fire = event_fired words
signal_of_verb words verbs.Clock = and_then (one_moment words) (λ to. Ok (signals.Clock to))
signal_of_verb words verbs.Activate = and_then (one_name words) (λ service. Ok (signals.Activate service))
signal_of_verb words verbs.Deactivate = and_then (one_name words) (λ service. Ok (signals.Deactivate service))
signal_of_verb words verbs.ProfileAdd = and_then (row_given words) (λ given. Ok (signals.ProfileAdd given.0 given.1 given.2))
signal_of_verb words verbs.ProfileUpdate = and_then (row_given words) (λ given. Ok (signals.ProfileUpdate given.0 given.1 given.2))
signal_of_verb words verbs.ProfileRemove = and_then (row_named words) (λ named. Ok (signals.ProfileRemove named.0 named.1))

abbrev pub signal_of_words : List (List ℕ) → Reading Signal
signal_of_words [] = Err bads.Verb
signal_of_words (verb ∷ words) = option_map_or (signal_of_verb words) (verb_of verb) (Err bads.Verb)

-- what the bytes of a line say; the empty line says nothing
abbrev pub signal_of_bytes : List ℕ → Reading Signal
signal_of_bytes [] = Err bads.Empty
signal_of_bytes (b ∷ bs) = signal_of_words (words_of (b ∷ bs))

-- what a line says, whatever its length
abbrev pub signal_unbounded : List ℕ → Reading Signal
signal_unbounded line =
    if list_any is_control line then Err bads.Control
    else (if is_utf8 line then signal_of_bytes line else Err bads.Utf8)

-- what a line says
abbrev pub signal_of : List ℕ → Reading Signal
signal_of line = if nat_le (length line) line_limit then signal_unbounded line else Err bads.Long

-- a line more: its signal, or its fault with its number
abbrev pub at_line : ℕ → Reading Signal → (Signal → Result (List Signal) SignalFault) → Result (List Signal) SignalFault
at_line number (Ok signal) more = more signal
at_line number (Err bad) more = Err (faults.At number bad)

-- these signals, and those of the lines behind them; or the first bad line, by its number from 1, and its first fault
abbrev pub signals_behind : List Signal → List (List ℕ) → Result (List Signal) SignalFault
signals_behind before [] = Ok before
signals_behind before (line ∷ lines) = at_line (length before + 1) (signal_of line) (λ signal. signals_behind (before ++ signal ∷ []) lines)

-- what a text says
abbrev pub signals_of : List ℕ → Result (List Signal) SignalFault
signals_of bytes = signals_behind [] (lines_of bytes)

-- an event with the service that it is for, where it is for one alone
abbrev pub spelled_event : List ℕ → Option (List ℕ) → List ℕ
spelled_event event None = event
spelled_event event (Some service) = event ++ 64 ∷ service

-- a field word
abbrev pub spelled_field : List ℕ × List ℕ → List ℕ
spelled_field field = field.0 ++ 61 ∷ escaped true field.1

-- field words, a space before each
abbrev pub field_words : List (List ℕ × List ℕ) → List ℕ
field_words fields = flat_map (λ field. 32 ∷ spelled_field field) fields

-- a signal's words
abbrev pub spelled_words : Signal → List (List ℕ)
spelled_words (signals.Start name) = verb_word verbs.Start ∷ name ∷ []
spelled_words (signals.End name) = verb_word verbs.End ∷ name ∷ []
spelled_words (signals.Fire name event service fields) = verb_word verbs.Fire ∷ name ∷ spelled_event event service ∷ map spelled_field fields
spelled_words (signals.Clock to) = verb_word verbs.Clock ∷ decimal to ∷ []
spelled_words (signals.Activate service) = verb_word verbs.Activate ∷ service ∷ []
spelled_words (signals.Deactivate service) = verb_word verbs.Deactivate ∷ service ∷ []
spelled_words (signals.ProfileAdd table row fields) = verb_word verbs.ProfileAdd ∷ table ∷ escaped true row ∷ map spelled_field fields
spelled_words (signals.ProfileUpdate table row fields) = verb_word verbs.ProfileUpdate ∷ table ∷ escaped true row ∷ map spelled_field fields
spelled_words (signals.ProfileRemove table row) = verb_word verbs.ProfileRemove ∷ table ∷ escaped true row ∷ []

-- a signal's one line
abbrev pub spelled : Signal → List ℕ
spelled signal = join_with_byte 32 (spelled_words signal)

-- fields whose names are names, each of which stands once
abbrev pub are_fields : List (List ℕ × List ℕ) → List (List ℕ × List ℕ) → Bool
are_fields before [] = true
are_fields before (field ∷ fields) = is_new_name before field.0 && are_fields (before ++ field ∷ []) fields

-- a name, where one is given
abbrev pub is_name_or_none : Option (List ℕ) → Bool
is_name_or_none service = option_map_or is_name service true

-- the parts are those that the form has
abbrev pub is_of_form : Signal → Bool
is_of_form (signals.Start name) = is_name name
is_of_form (signals.End name) = is_name name
is_of_form (signals.Fire name event service fields) = is_name name && (is_event event && (is_name_or_none service && are_fields [] fields))
is_of_form (signals.Clock to) = nat_le to clock_limit
is_of_form (signals.Activate service) = is_name service
is_of_form (signals.Deactivate service) = is_name service
is_of_form (signals.ProfileAdd table row fields) = is_name table && (nat_lt 0 (length row) && are_fields [] fields)
is_of_form (signals.ProfileUpdate table row fields) = is_name table && (nat_lt 0 (length row) && are_fields [] fields)
is_of_form (signals.ProfileRemove table row) = is_name table && nat_lt 0 (length row)

-- a signal that a line gives
abbrev pub is_signal : Signal → Bool
is_signal signal = is_of_form signal && is_line (spelled signal)
