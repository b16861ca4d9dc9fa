-- When a change may be made: what the store's call that it names asks, so that the call gives no fault and every list goes on rising.
use Rattle.std.specs.Prelude.{ℕ, nat_lt, nat_le, ◌==◌, Bool, true, false, ◌&&◌, ◌||◌, not, is_some, is_none, IsTrue, List, [], ◌∷◌, length}
use Rattle.std.specs.Option.{option_map_or}
use Rattle.std.specs.List.{list_any, list_all}
use Rattle.deploy_model.specs.Deployed.{Deployed, table_attributes}
use Rattle.router_state.specs.State.{State}
use Rattle.router_state.specs.Fits.{has_next, are_declared}
use Rattle.router_state.specs.Timers.{last_moment}
use Rattle.router_state.specs.Trees.{entity_at, parent_of, is_root}
use Rattle.router_state.specs.Contexts.{activity_at, is_active, external, named_at}
use Rattle.router_state.specs.Queues.{is_waiting, is_suspended}
use Rattle.router_state.specs.Profiles.{is_row, row_at, are_unique}
use Rattle.router_state.specs.Changes.{after_change}
use Rattle.router_state.specs.declared.rows.AcKind.{AcKind}
use Rattle.router_state.specs.declared.rows.AcKind.TheVariants as kinds
use Rattle.router_state.specs.declared.rows.Activity.{Activity}
use Rattle.router_state.specs.declared.rows.Entity.{Entity}
use Rattle.router_state.specs.declared.rows.Link.{Link}
use Rattle.router_state.specs.declared.rows.Queued.{Queued}
use Rattle.router_state.specs.declared.rows.ProfileRow.{ProfileRow}
use Rattle.router_state.specs.declared.rows.TimerSpec.{TimerSpec}
use Rattle.router_state.specs.declared.change.Change.{Change}
use Rattle.router_state.specs.declared.change.Change.TheVariants as changes

-- the entity is there
abbrev pub has_entity : List Entity → ℕ → Bool
has_entity rows e = is_some (entity_at rows e)

-- the entity has no child
abbrev pub is_childless : List Entity → ℕ → Bool
is_childless rows e = not (list_any (λ row. parent_of row == e) rows)

-- the entity is attached nowhere
abbrev pub is_detached : List Link → ℕ → Bool
is_detached links e = not (list_any (λ l. l.entity.0 == e) links)

-- the entity is a root that is there
abbrev pub has_root : List Entity → ℕ → Bool
has_root rows e = option_map_or (λ row. is_root row.stem) (entity_at rows e) false

-- the activity is there
abbrev pub has_activity : List Activity → ℕ → Bool
has_activity rows a = is_some (activity_at rows a)

-- no external activity has the name of this kind
abbrev pub is_new_kind : List Activity → AcKind → Bool
is_new_kind rows (kinds.External name) = is_none (external rows name)
is_new_kind rows kinds.Null = true
is_new_kind rows (kinds.Service service) = true
is_new_kind rows (kinds.Table table) = true

-- the number is above those of all events that wait
abbrev pub is_behind : List Queued → ℕ → Bool
is_behind events v = list_all (λ q. nat_lt q.event.id.0 v) events

-- a timer that has a period or one occurrence, its numbers being moments
abbrev pub is_spec : TimerSpec → Bool
is_spec spec =
    nat_le spec.start last_moment
    && (nat_le spec.period last_moment && (nat_le spec.times last_moment && (nat_lt 0 spec.period || spec.times == 1)))

-- there is a table of this number
abbrev pub has_table : Deployed → ℕ → Bool
has_table d table = nat_lt table (length d.tables)

-- the attributes are the table's, and no other row has a unique one of the same value
abbrev pub is_fit_row : Deployed → List ProfileRow → ProfileRow → Bool
is_fit_row d rows row =
    has_table d row.table
    && (are_declared (table_attributes d row.table) row.attributes
    && list_all (λ other. is_row row.table row.row other || are_unique d row other) rows)

-- the table has the row
abbrev pub has_row : List ProfileRow → ℕ → List ℕ → Bool
has_row rows table row = is_some (row_at rows table row)

-- The change may be made. An entity is attached only while it is there, and goes only where nothing is below it and it is attached nowhere.
abbrev pub fits_change : Change → State → Bool
fits_change (changes.SetField e name value) s = true
fits_change (changes.ForgetFields e) s = true
fits_change (changes.CreateRoot block service priority) s = has_next s.next_entity
fits_change (changes.CreateChild parent relation block priority) s = has_entity s.entities parent.0 && has_next s.next_entity
fits_change (changes.Remove e) s = has_entity s.entities e.0 && (is_childless s.entities e.0 && is_detached s.links e.0)
fits_change (changes.SetPriority e priority) s = has_entity s.entities e.0
fits_change (changes.Start kind) s = is_new_kind s.activities kind && has_next s.next_activity
fits_change (changes.End a) s = is_active s.activities a.0
fits_change (changes.DropContext a) s = has_activity s.activities a.0
fits_change (changes.Attach e a) s = has_entity s.entities e.0 && has_activity s.activities a.0
fits_change (changes.Detach e a) s = has_activity s.activities a.0
fits_change (changes.SetAttr a key value) s = has_activity s.activities a.0
fits_change (changes.Bind name a) s = is_active s.activities a.0 && is_none (named_at s.names name)
fits_change (changes.Unbind name) s = is_some (named_at s.names name)
fits_change (changes.MaskOnAttach e a events) s = true
fits_change (changes.SetMask e a event on) s = true
fits_change (changes.ForgetMasks e a) s = true
fits_change (changes.Push a event) s = is_behind s.events event.id.0
fits_change (changes.Pop a) s = not (is_suspended s.suspensions a.0)
fits_change (changes.MarkService a service) s = is_waiting s.events a.0
fits_change (changes.MarkEntity a e) s = is_waiting s.events a.0
fits_change (changes.Hold a until) s = is_waiting s.events a.0
fits_change (changes.Release a) s = true
fits_change (changes.SetTimer spec) s = is_spec spec && has_next s.next_timer
fits_change (changes.Cancel t) s = true
fits_change (changes.CancelAll a) s = true
fits_change (changes.Advance to) s = true
fits_change (changes.AddRow table row fields) s =
    is_fit_row s.deployment s.rows (record { table = table; row = row; attributes = fields }) && not (has_row s.rows table row)
fits_change (changes.UpdateRow table row fields) s =
    is_fit_row s.deployment s.rows (record { table = table; row = row; attributes = fields }) && has_row s.rows table row
fits_change (changes.RemoveRow table row) s = has_table s.deployment table && has_row s.rows table row
fits_change (changes.Clock to) s = true
fits_change changes.Taken s = has_next s.inputs
fits_change (changes.Service service state a) s = nat_lt service (length s.services)
fits_change (changes.Root e name) s = has_root s.entities e.0
fits_change changes.NextEvent s = has_next s.next_event

-- the same as a statement
abbrev pub FitsChange : Change → State → Type 0
FitsChange c s = IsTrue (fits_change c s)

-- each change may be made when its turn comes
abbrev pub FitChanges : List Change → State → Type 0
FitChanges [] s = Unit {0}
FitChanges (c ∷ cs) s = FitsChange c s × FitChanges cs (after_change c s)
