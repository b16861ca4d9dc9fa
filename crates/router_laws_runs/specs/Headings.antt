-- What the headings of a history say, beside the state in which each stands.
use Rattle.std.specs.Prelude.{ℕ, ◌&&◌, ◌∷◌, ◌++◌, ◌≡◌, Bool, false, List, [], Some, codes, decimal}
use Rattle.std.specs.List.{AllByRecursion}
use Rattle.std.specs.Str.{bytes_eq}
use Rattle.router_laws.specs.Forest.{IsIn}
use Rattle.router_laws_histories.specs.Suspended.{names_activity}
use Rattle.router_laws_histories.specs.Words.{IsFirstOf}
use Rattle.router_state.specs.Next.{eligible}
use Rattle.router_state.specs.Queues.{head_event}
use Rattle.router_state.specs.State.{State}
use Rattle.router_state.specs.declared.rows.Entity.{Entity}
use Rattle.router_state.specs.declared.rows.Event.{Event}
use Rattle.router_steps.specs.Histories.{pending_at}
use Rattle.trace_history.specs.Reading.{activity_word, event_word, finished_in, heading_of, queued_in}
use Rattle.trace_history.specs.Words.{words_in}
use Rattle.trace_history.specs.declared.entry.Entry.{Entry}

-- the words of an entry's heading
abbrev pub heading_words : Entry → List (List ℕ)
heading_words e = words_in (heading_of e.lines)

-- the words of the heading of a delivery on the activity
abbrev pub delivers_on : ℕ → List (List ℕ) → Bool
delivers_on a (verb ∷ activity ∷ words) = bytes_eq verb (codes "deliver") && bytes_eq activity (activity_word a)
delivers_on a words = false

-- the words of a heading name, behind its verb and the activity, the event that comes behind those that the history finished there
pub record NamesNext (s : State) (history : List Entry) (a : ℕ) (words : List (List ℕ)) : Type 0 where
  pub event : ℕ
  pub verb : List ℕ
  pub more : List (List ℕ)
  pub reads : words ≡ verb ∷ activity_word a ∷ event_word event ∷ more
  pub later : List ℕ
  pub next : pending_at s a ++ queued_in history a ≡ finished_in history a ++ event ∷ later

-- the words of the heading of a delivery name the head event and an entity that may receive it, and none of those that may comes before it
pub record NamesFirst (s : State) (a : ℕ) (words : List (List ℕ)) : Type 0 where
  pub event : Event
  pub entity : Entity
  pub more : List (List ℕ)
  pub reads : words ≡ codes "deliver" ∷ activity_word a ∷ event_word event.id.0 ∷ (codes "e" ++ decimal entity.number.0) ∷ more
  pub head : head_event s.events a ≡ Some event
  pub may : IsIn entity (eligible s a event)
  pub first : IsFirstOf s.entities entity (eligible s a event)

-- no heading names the activity
abbrev pub IsUnnamed : ℕ → List Entry → Type 0
IsUnnamed a history = AllByRecursion (λ (e : Entry). names_activity a (heading_words e) ≡ false) history

-- behind an entry no heading names the activity and no line queues an event on it, and up to it the event is the last that waited or was queued there
pub record IsLast (s : State) (k rest : List Entry) (e : Entry) (a v : ℕ) : Type 0 where
  pub unnamed : IsUnnamed a rest
  pub silent : queued_in rest a ≡ []
  pub last : pending_at s a ++ queued_in (k ++ e ∷ rest) a ≡ finished_in k a ++ v ∷ []
