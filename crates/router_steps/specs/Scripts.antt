-- What scripts do in a state: what they ask is answered by what is seen there.
use Rattle.std.specs.Prelude.{ℕ, List, [], Option, Some, None, slice_get}
use Rattle.std.specs.Option.{option_map_or}
use Rattle.script_meaning.specs.Answers.{Answers}
use Rattle.script_meaning.specs.Delivery.{Delivered, Delivery, Complete, Wants, NotChecked, delivered}
use Rattle.script_meaning.specs.Removal.{removal_lines}
use Rattle.router_state.specs.State.{State}
use Rattle.router_state.specs.Look.{look}
use Rattle.router_state.specs.declared.rows.Entity.{Entity}
use Rattle.router_state.specs.declared.rows.Event.{Event}

-- each key has an answer
abbrev pub answers_in : State → Answers
answers_in s key = Some (look s key)

-- what a delivery comes to; one whose scripts are checked and find every answer is complete
abbrev pub complete : Delivery → Option Delivered
complete (Complete x) = Some x
complete (Wants key) = None
complete NotChecked = None

-- what the delivery of an event on an activity to an entity comes to
abbrev pub delivered_in : State → ℕ → Event → Entity → Option Delivered
delivered_in s a v row = complete (delivered (answers_in s) s.program row.block row.number (record { 0 = a }) v.name v.fields)

-- the lines of an entity's remove script
abbrev pub last_words : State → Entity → List (List ℕ)
last_words s row = option_map_or (λ block. removal_lines (answers_in s) s.program block row.number) (slice_get s.program row.block) []
