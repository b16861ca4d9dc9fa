-- When the stores can make a change: no call of theirs gives a fault, and no next number runs out. Changes that fit can be made; a change that can be made need not fit.
use Rattle.std.specs.Prelude.{nat_lt, Bool, true, ◌&&◌, not, is_some, is_none, IsTrue, List, [], ◌∷◌, length}
use Rattle.router_state.specs.State.{State}
use Rattle.router_state.specs.Fits.{has_next}
use Rattle.router_state.specs.Contexts.{is_active, named_at}
use Rattle.router_state.specs.Changes.{after_change}
use Rattle.router_state.specs.Fitting.{has_entity, has_row, has_table, is_childless, is_detached, is_fit_row, is_new_kind}
use Rattle.router_state.specs.declared.change.Change.{Change}
use Rattle.router_state.specs.declared.change.Change.TheVariants as changes

-- the stores can make the change
abbrev pub can_make : Change → State → Bool
can_make (changes.CreateRoot block service priority) s = has_next s.next_entity
can_make (changes.CreateChild parent relation block priority) s = has_entity s.entities parent.0 && has_next s.next_entity
can_make (changes.Remove e) s = is_childless s.entities e.0 && is_detached s.links e.0
can_make (changes.Start kind) s = is_new_kind s.activities kind && has_next s.next_activity
can_make (changes.End a) s = is_active s.activities a.0
can_make (changes.Attach e a) s = has_entity s.entities e.0
can_make (changes.Bind name a) s = is_active s.activities a.0 && is_none (named_at s.names name)
can_make (changes.Unbind name) s = is_some (named_at s.names name)
can_make (changes.SetTimer spec) s = has_next s.next_timer
can_make (changes.AddRow table row fields) s =
    is_fit_row s.deployment s.rows (record { table = table; row = row; attributes = fields }) && not (has_row s.rows table row)
can_make (changes.UpdateRow table row fields) s =
    is_fit_row s.deployment s.rows (record { table = table; row = row; attributes = fields }) && has_row s.rows table row
can_make (changes.RemoveRow table row) s = has_table s.deployment table && has_row s.rows table row
can_make changes.Taken s = has_next s.inputs
can_make (changes.Service service state a) s = nat_lt service (length s.services)
can_make changes.NextEvent s = has_next s.next_event
can_make c s = true

-- the same as a statement
abbrev pub CanMake : Change → State → Type 0
CanMake c s = IsTrue (can_make c s)

-- each change can be made when its turn comes
abbrev pub CanMakeAll : List Change → State → Type 0
CanMakeAll [] s = Unit {0}
CanMakeAll (c ∷ cs) s = CanMake c s × CanMakeAll cs (after_change c s)
