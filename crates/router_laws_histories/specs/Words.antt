-- The words of the laws over histories.
use Rattle.std.specs.Prelude.{ℕ, ◌^◌, ◌<◌, ◌≡◌, ◌==◌, false, List, [], ◌∷◌, ◌++◌, Some}
use Rattle.std.specs.List.{All, AllByRecursion}
use Rattle.router_state.specs.State.{State}
use Rattle.router_state.specs.Paths.{path_before, path_of}
use Rattle.router_state.specs.declared.rows.Entity.{Entity}
use Rattle.router_steps.specs.Applying.{applied_in}
use Rattle.router_steps.specs.Steps.{Subject, Taking, Selecting, Delivering, Finishing, after, after_subject, subject_of, marked_entity}
use Rattle.router_steps.specs.Taking.{counted}
use Rattle.trace_history.specs.declared.choice.Choice.{Choice}
use Rattle.trace_history.specs.declared.entry.Entry.{Entry}
use Rattle.router_laws.specs.Forest.{IsIn}
use Rattle.router_laws_histories.specs.Fires.{Firing, fires_of_taken, fires_of_effects, fires_of_closing}

-- no space in a word
abbrev pub IsWord : List ℕ → Type 0
IsWord word = All (λ b. (b == 32) ≡ false) word

-- a firing whose line is read as it was written: numbers have 64 bits, and the event's name is a word
abbrev pub IsReadable : Firing → Type 0
IsReadable x = (x.0 < 2 ^ 64) × (x.1.id.0 < 2 ^ 64) × IsWord x.1.name

-- what a step fires before closing
abbrev pub fires_of_subject : Subject → State → List Firing
fires_of_subject (Taking signal action) s = fires_of_taken action (counted s)
fires_of_subject (Selecting x) s = []
fires_of_subject (Delivering x) s = fires_of_effects (applied_in x.entity.number.0 (marked_entity x s) x.delivered.effects) (marked_entity x s)
fires_of_subject (Finishing x) s = []

-- what a step fires
abbrev pub fires_of_step : State → Subject → List Firing
fires_of_step s x = fires_of_subject x s ++ fires_of_closing (after_subject x s)

-- a heading whose numbers are read as they were written
abbrev pub IsReadableSubject : Subject → Type 0
IsReadableSubject (Taking signal action) = Unit {0}
IsReadableSubject (Selecting x) = Unit {0}
IsReadableSubject (Delivering x) = (x.activity < 2 ^ 64) × (x.event.id.0 < 2 ^ 64) × (x.entity.number.0 < 2 ^ 64)
IsReadableSubject (Finishing x) = (x.activity < 2 ^ 64) × (x.event.id.0 < 2 ^ 64)

-- the choice is about something, and its heading and what its step fires are read from its lines
abbrev pub IsTold : State → Choice → Type 0
IsTold s c = (x : Subject) × (subject_of s c ≡ Some x) × AllByRecursion IsReadable (fires_of_step s x) × IsReadableSubject x

-- so it is with each choice of a history, where it stands
abbrev pub AreTold : State → List Entry → Type 0
AreTold s [] = Unit {0}
AreTold s (e ∷ es) = IsTold s e.choice × AreTold (after s e.choice) es

-- none of these stands among those before, and none twice
abbrev pub AreNew : List ℕ → List ℕ → Type 0
AreNew seen [] = Unit {0}
AreNew seen (x ∷ xs) = (IsIn x seen → ⊥) × AreNew (seen ++ x ∷ []) xs

-- no entity of the list comes before the one that was found
abbrev pub IsFirstOf : List Entity → Entity → List Entity → Type 0
IsFirstOf rows r ys = AllByRecursion (λ y. path_before (path_of rows y) (path_of rows r) ≡ false) ys

-- a step that finishes no event of the activity
abbrev pub LeavesHead : ℕ → Subject → Type 0
LeavesHead a (Finishing x) = (x.activity == a) ≡ false
LeavesHead a _ = Unit {0}
