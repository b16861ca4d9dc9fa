-- What the lines of a history say of events.
use Rattle.std.specs.Prelude.{ℕ, ◌&&◌, if◌then◌else◌, List, [], ◌∷◌, ◌++◌, codes, decimal, drop}
use Rattle.std.specs.List.{flat_map}
use Rattle.std.specs.Str.{bytes_eq}
use Rattle.trace_history.specs.Decimals.{decimal_value}
use Rattle.trace_history.specs.Words.{words_in}
use Rattle.trace_history.specs.declared.entry.Entry.{Entry}

-- the number behind a letter, in a list
abbrev pub number_in : List ℕ → List ℕ
number_in word = decimal_value (drop 1 word) ∷ []

-- an activity's word
abbrev pub activity_word : ℕ → List ℕ
activity_word a = codes "a" ++ decimal a

-- an event's word
abbrev pub event_word : ℕ → List ℕ
event_word v = codes "v" ++ decimal v

-- the event of the words of a line `queued vV EVENT aA`
abbrev pub queued_by : ℕ → List (List ℕ) → List ℕ
queued_by a ([] ∷ [] ∷ verb ∷ event ∷ name ∷ activity ∷ []) =
    if bytes_eq verb (codes "queued") && bytes_eq activity (activity_word a) then number_in event else []
queued_by a words = []

-- the event of the words of a heading `finish aA vV`
abbrev pub finished_by : ℕ → List (List ℕ) → List ℕ
finished_by a (verb ∷ activity ∷ event ∷ []) =
    if bytes_eq verb (codes "finish") && bytes_eq activity (activity_word a) then number_in event else []
finished_by a words = []

-- the entity of the words of a heading `deliver aA vV eE ..`
abbrev pub reached_by : ℕ → List (List ℕ) → List ℕ
reached_by v (verb ∷ activity ∷ event ∷ entity ∷ word ∷ words) =
    if bytes_eq verb (codes "deliver") && bytes_eq event (event_word v) then number_in entity else []
reached_by v words = []

-- the heading of an entry is its first line
abbrev pub heading_of : List (List ℕ) → List ℕ
heading_of [] = []
heading_of (heading ∷ lines) = heading

-- the events that were queued on an activity, in order
abbrev pub queued_in : List Entry → ℕ → List ℕ
queued_in history a = flat_map (λ (e : Entry). flat_map (λ line. queued_by a (words_in line)) e.lines) history

-- the events that were finished on an activity, in order
abbrev pub finished_in : List Entry → ℕ → List ℕ
finished_in history a = flat_map (λ (e : Entry). finished_by a (words_in (heading_of e.lines))) history

-- the entities that an event reached, in order
abbrev pub reached_in : List Entry → ℕ → List ℕ
reached_in history v = flat_map (λ (e : Entry). reached_by v (words_in (heading_of e.lines))) history
