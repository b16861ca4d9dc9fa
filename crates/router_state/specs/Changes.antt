-- One change of the state, and changes one after another.
use Rattle.std.specs.Prelude.{ℕ, ◌+◌, ℤ, List, [], ◌∷◌}
use Rattle.router_state.specs.State.{State}
use Rattle.router_state.specs.Fields.{with_field, without_fields}
use Rattle.router_state.specs.Trees.{with_entity, without_entity, with_priority, with_root_name, without_root_name}
use Rattle.router_state.specs.Contexts.{with_activity, with_end, without_activity, with_attribute, without_attributes, with_link, without_link, without_links_on, with_name, without_name, without_names_of}
use Rattle.router_state.specs.Masks.{with_masks, with_mask_set, without_masks}
use Rattle.router_state.specs.Queues.{with_event, without_head, with_service_mark, without_service_marks, with_entity_mark, without_entity_marks, with_suspension, without_suspension}
use Rattle.router_state.specs.Timers.{with_timer, without_timer, without_timers_on, advanced}
use Rattle.router_state.specs.Profiles.{with_row, without_row}
use Rattle.router_state.specs.Services.{with_service}
use Rattle.router_state.specs.declared.rows.AcKind.{AcKind}
use Rattle.router_state.specs.declared.rows.Stem.{Stem}
use Rattle.router_state.specs.declared.rows.Stem.TheVariants as stems
use Rattle.router_state.specs.declared.rows.TimerSpec.{TimerSpec}
use Rattle.router_state.specs.declared.change.Change.{Change}
use Rattle.router_state.specs.declared.change.Change.TheVariants as changes

-- a new entity, with the next number
abbrev pub after_create : State → ℕ → Stem → ℤ → State
after_create s block stem priority =
    record s { next_entity = s.next_entity + 1; entities = with_entity s.entities s.next_entity block stem priority }

-- a new activity, with the next number
abbrev pub after_start : State → AcKind → State
after_start s kind = record s { next_activity = s.next_activity + 1; activities = with_activity s.activities s.next_activity kind }

-- the activity is gone, with its attachments, attributes and names
abbrev pub after_drop : State → ℕ → State
after_drop s a = record s {
  activities = without_activity s.activities a;
  attributes = without_attributes s.attributes a;
  links = without_links_on s.links a;
  names = without_names_of s.names a;
}

-- the head event is gone, with its marks
abbrev pub after_pop : State → ℕ → State
after_pop s a = record s {
  events = without_head s.events a;
  services_done = without_service_marks s.services_done a;
  delivered = without_entity_marks s.delivered a;
}

-- a new timer, with the next number
abbrev pub after_timer : State → TimerSpec → State
after_timer s spec = record s { next_timer = s.next_timer + 1; timers = with_timer s.timers s.next_timer spec }

-- the state after one change
abbrev pub after_change : Change → State → State
after_change (changes.SetField e name value) s = record s { fields = with_field s.fields e.0 name value }
after_change (changes.ForgetFields e) s = record s { fields = without_fields s.fields e.0 }
after_change (changes.CreateRoot block service priority) s = after_create s block (stems.Root service) priority
after_change (changes.CreateChild parent relation block priority) s = after_create s block (stems.Child parent relation) priority
after_change (changes.Remove e) s = record s { entities = without_entity s.entities e.0; root_names = without_root_name s.root_names e.0 }
after_change (changes.SetPriority e priority) s = record s { entities = with_priority s.entities e.0 priority }
after_change (changes.Start kind) s = after_start s kind
after_change (changes.End a) s = record s { activities = with_end s.activities a.0 }
after_change (changes.DropContext a) s = after_drop s a.0
after_change (changes.Attach e a) s = record s { links = with_link s.links e.0 a.0 }
after_change (changes.Detach e a) s = record s { links = without_link s.links e.0 a.0 }
after_change (changes.SetAttr a key value) s = record s { attributes = with_attribute s.attributes a.0 key value }
after_change (changes.Bind name a) s = record s { names = with_name s.names name a.0 }
after_change (changes.Unbind name) s = record s { names = without_name s.names name }
after_change (changes.MaskOnAttach e a events) s = record s { masks = with_masks (without_masks s.masks e.0 a.0) e.0 a.0 events }
after_change (changes.SetMask e a event on) s = record s { masks = with_mask_set s.masks e.0 a.0 event on }
after_change (changes.ForgetMasks e a) s = record s { masks = without_masks s.masks e.0 a.0 }
after_change (changes.Push a event) s = record s { events = with_event s.events a.0 event }
after_change (changes.Pop a) s = after_pop s a.0
after_change (changes.MarkService a service) s = record s { services_done = with_service_mark s.services_done a.0 service }
after_change (changes.MarkEntity a e) s = record s { delivered = with_entity_mark s.delivered a.0 e.0 }
after_change (changes.Hold a until) s = record s { suspensions = with_suspension s.suspensions a.0 until }
after_change (changes.Release a) s = record s { suspensions = without_suspension s.suspensions a.0 }
after_change (changes.SetTimer spec) s = after_timer s spec
after_change (changes.Cancel t) s = record s { timers = without_timer s.timers t.0 }
after_change (changes.CancelAll a) s = record s { timers = without_timers_on s.timers a.0 }
after_change (changes.Advance to) s = record s { timers = advanced s.timers to }
after_change (changes.AddRow table row fields) s = record s { rows = with_row s.rows table row fields }
after_change (changes.UpdateRow table row fields) s = record s { rows = with_row s.rows table row fields }
after_change (changes.RemoveRow table row) s = record s { rows = without_row s.rows table row }
after_change (changes.Clock to) s = record s { clock = to }
after_change changes.Taken s = record s { inputs = s.inputs + 1 }
after_change (changes.Service service state a) s = record s { services = with_service s.services service state a.0 }
after_change (changes.Root e name) s = record s { root_names = with_root_name s.root_names e.0 name }
after_change changes.NextEvent s = record s { next_event = s.next_event + 1 }

-- the state after changes, the first of them first
abbrev pub after_changes : List Change → State → State
after_changes [] s = s
after_changes (c ∷ cs) s = after_changes cs (after_change c s)
