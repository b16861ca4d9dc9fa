-- What the laws of runs say of one history.
use Rattle.std.specs.Prelude.{◌≡◌, ℕ, ◌<◌, ◌^◌, true, List, ◌∷◌, ◌++◌, Some}
use Rattle.slee_value.specs.declared.ids.ActivityId.{ActivityId}
use Rattle.router_laws_histories.specs.Suspended.{IsLeftAlone, names_activity}
use Rattle.router_laws_histories.specs.Words.{AreNew}
use Rattle.router_laws_runs.specs.Applied.{EachApplies}
use Rattle.router_laws_runs.specs.Headings.{IsLast, NamesFirst, NamesNext, delivers_on, heading_words}
use Rattle.router_state.specs.Queues.{head_event, is_suspended}
use Rattle.router_state.specs.State.{State}
use Rattle.router_state.specs.Well.{IsWell}
use Rattle.router_state.specs.WellQueues.{is_end}
use Rattle.router_state.specs.declared.rows.Event.{Event}
use Rattle.router_steps.specs.Histories.{marked_at, pending_at, replay}
use Rattle.trace_history.specs.Reading.{finished_in, queued_in, reached_in}
use Rattle.trace_history.specs.declared.choice.Choice.TheVariants as choices
use Rattle.trace_history.specs.declared.entry.Entry.{Entry}

pub record IsOrderly (s : State) (history : List Entry) : Type 0 where
  -- the events of an activity are finished in the order in which they were fired
  pub order : (a : ℕ) → a < 2 ^ 64 → pending_at s a ++ queued_in history a ≡ finished_in history a ++ pending_at (replay s history) a
  -- no event reaches an entity twice, nor one that had received it before
  pub once : (v : ℕ) → v < 2 ^ 64 → AreNew (marked_at s v) (reached_in history v)
  -- while an event is suspended no heading names its activity
  pub suspended : (a : ℕ) → a < 2 ^ 64 → IsLeftAlone a (is_suspended s.suspensions a) history
  -- a heading names the event that comes behind those that were finished before it
  pub next : (k : List Entry) (e : Entry) (rest : List Entry) (a : ℕ) → history ≡ k ++ e ∷ rest → a < 2 ^ 64 → names_activity a (heading_words e) ≡ true → NamesNext s k a (heading_words e)
  -- the heading of a delivery names an entity that may receive the event, and none of those that may comes before it
  pub first : (k : List Entry) (e : Entry) (rest : List Entry) (a : ℕ) → history ≡ k ++ e ∷ rest → a < 2 ^ 64 → delivers_on a (heading_words e) ≡ true → NamesFirst (replay s k) a (heading_words e)
  -- behind the finish of an end no heading names the activity, no line queues an event on it, and the end was the last
  pub last : (k : List Entry) (e : Entry) (rest : List Entry) (a : ActivityId) (v : Event) → history ≡ k ++ e ∷ rest → e.choice ≡ choices.Finish a → head_event (replay s k).events a.0 ≡ Some v → is_end v ≡ true → IsLast s k rest e a.0 v.id.0
  -- each effect of each delivery applies at its turn
  pub applies : EachApplies s history

-- the same, and what the history leaves is well formed
pub record IsWellOrdered (s : State) (history : List Entry) : Type 0 where
  pub orderly : IsOrderly s history
  pub base : IsWell s
  pub left : IsWell (replay s history)
