-- What is seen at a key after a change, by what was seen there before it.
use Rattle.std.specs.Prelude.{ℕ, zero, suc, ◌+◌, ◌==◌, ◌-◌, Bool, true, false, not, ◌&&◌, ◌||◌, if◌then◌else◌, nat_lt, filter, map, drop, List, [], ◌∷◌, ◌++◌, Option, Some, None, option_map}
use Rattle.std.specs.Option.{option_map_or, option_or}
use Rattle.std.specs.Str.{bytes_eq}
use Rattle.slee_value.specs.declared.ids.ActivityId.{ActivityId}
use Rattle.slee_value.specs.declared.value.Value.{Value}
use Rattle.rows_sorted.specs.Orders.{put, same_pair, same_text}
use Rattle.router_state.specs.State.{State}
use Rattle.router_state.specs.declared.change.Change.{Change}
use Rattle.router_state.specs.declared.change.Change.TheVariants as changes
use Rattle.router_state.specs.Contexts.{is_null}
use Rattle.router_state.specs.Trees.{children, number_of}
use Rattle.router_state.specs.declared.rows.Entity.{Entity}
use Rattle.router_state.specs.declared.rows.Queued.{Queued}
use Rattle.router_draft.specs.declared.after.Drawn.{Drawn}
use Rattle.router_draft.specs.declared.after.Drawn.TheVariants as kinds

-- whether the entity is attached to the activity
abbrev pub linked_after : Change → ℕ → ℕ → Bool → Bool
linked_after (changes.Attach e' a') e a was = same_pair e'.0 a'.0 e a || was
linked_after (changes.Detach e' a') e a was = not (same_pair e'.0 a'.0 e a) && was
linked_after (changes.DropContext a') e a was = not (a'.0 == a) && was
linked_after _ e a was = was

-- the number of a kind that comes next
abbrev pub next_of : Drawn → State → ℕ
next_of kinds.Entity s = s.next_entity
next_of kinds.Activity s = s.next_activity
next_of kinds.Timer s = s.next_timer
next_of kinds.Event s = s.next_event
next_of kinds.Input s = s.inputs

abbrev pub is_entity : Drawn → Bool
is_entity kinds.Entity = true
is_entity _ = false

abbrev pub is_activity : Drawn → Bool
is_activity kinds.Activity = true
is_activity _ = false

abbrev pub is_timer : Drawn → Bool
is_timer kinds.Timer = true
is_timer _ = false

abbrev pub is_event : Drawn → Bool
is_event kinds.Event = true
is_event _ = false

abbrev pub is_input : Drawn → Bool
is_input kinds.Input = true
is_input _ = false

-- the change draws a number of this kind
abbrev pub draws : Drawn → Change → Bool
draws kind (changes.CreateRoot block service priority) = is_entity kind
draws kind (changes.CreateChild parent relation block priority) = is_entity kind
draws kind (changes.Start what) = is_activity kind
draws kind (changes.SetTimer spec) = is_timer kind
draws kind changes.NextEvent = is_event kind
draws kind changes.Taken = is_input kind
draws kind _ = false

-- the moment that the last clock line gave
abbrev pub clock_after : Change → ℕ → ℕ
clock_after (changes.Clock to) was = to
clock_after _ was = was

-- how many numbers are drawn before this one; none is, and it doesn't come any more, where it is below the next one
abbrev pub ahead_of : ℕ → ℕ → Option ℕ
ahead_of next number = if nat_lt number next then None else Some (number - next)

-- the same after one more was drawn
abbrev pub one_less : Option ℕ → Option ℕ
one_less None = None
one_less (Some zero) = None
one_less (Some (suc n)) = Some n

-- this one is drawn now
abbrev pub is_turn : Option ℕ → Bool
is_turn None = false
is_turn (Some n) = n == 0

-- Something new has the next number: how many are drawn before the number that is looked for, and what is seen there.
abbrev pub made_new : {A : Type 0} → Option ℕ × Option A → A → Option ℕ × Option A
made_new seen new = (one_less seen.0, if is_turn seen.0 then option_or seen.1 (Some new) else seen.1)

-- how many numbers are drawn before an entity's, and its block
abbrev pub block_after : Change → ℕ → Option ℕ × Option ℕ → Option ℕ × Option ℕ
block_after (changes.CreateRoot block service priority) e seen = made_new seen block
block_after (changes.CreateChild parent relation block priority) e seen = made_new seen block
block_after (changes.Remove e') e seen = if e'.0 == e then (seen.0, None) else seen
block_after _ e seen = seen

-- how many numbers are drawn before an entity's, and its parent, 0 for a root
abbrev pub parent_after : Change → ℕ → Option ℕ × Option ℕ → Option ℕ × Option ℕ
parent_after (changes.CreateRoot block service priority) e seen = made_new seen 0
parent_after (changes.CreateChild parent relation block priority) e seen = made_new seen parent.0
parent_after (changes.Remove e') e seen = if e'.0 == e then (seen.0, None) else seen
parent_after _ e seen = seen

-- how many numbers are drawn before an activity's, and whether it is a null activity and whether it is Ending
abbrev pub activity_after : Change → ℕ → Option ℕ × Option (Bool × Bool) → Option ℕ × Option (Bool × Bool)
activity_after (changes.Start kind) a seen = made_new seen (is_null kind, false)
activity_after (changes.End a') a seen = if a'.0 == a then (seen.0, option_map (λ x. (x.0, true)) seen.1) else seen
activity_after (changes.DropContext a') a seen = if a'.0 == a then (seen.0, None) else seen
activity_after _ a seen = seen

-- the activity for which a name stands
abbrev pub named_after : Change → List ℕ → Option ActivityId → Option ActivityId
named_after (changes.Bind name' a') name was = if bytes_eq name' name then Some a' else was
named_after (changes.Unbind name') name was = if bytes_eq name' name then None else was
named_after (changes.DropContext a') name was = if option_map_or (λ a. a.0 == a'.0) was false then None else was
named_after _ name was = was

-- whether no entity has received the activity's head event yet
abbrev pub undelivered_after : Change → ℕ → Bool → Bool
undelivered_after (changes.MarkEntity a' e) a was = not (a'.0 == a) && was
undelivered_after (changes.Pop a') a was = (a'.0 == a) || was
undelivered_after _ a was = was

-- the value of an entity's field
abbrev pub field_after : Change → ℕ → List ℕ → Option Value → Option Value
field_after (changes.SetField e' name' value) e name was = if same_text e'.0 name' e name then Some value else was
field_after (changes.ForgetFields e') e name was = if e'.0 == e then None else was
field_after _ e name was = was

-- the activities to which an entity is attached
abbrev pub activities_after : Change → ℕ → List ℕ → List ℕ
activities_after (changes.Attach e' a') e was = if e'.0 == e then put nat_lt a'.0 was else was
activities_after (changes.Detach e' a') e was = if e'.0 == e then filter (λ a. not (a == a'.0)) was else was
activities_after (changes.DropContext a') e was = filter (λ a. not (a == a'.0)) was
activities_after _ e was = was

-- the numbers of the events that wait on an activity, the head event first
abbrev pub waiting_on : List Queued → ℕ → List ℕ
waiting_on events a = map (λ q. q.event.id.0) (filter (λ q. q.activity.0 == a) events)

-- the same after a change
abbrev pub waiting_after : Change → ℕ → List ℕ → List ℕ
waiting_after (changes.Push a' event) a was = if a'.0 == a then put nat_lt event.id.0 was else was
waiting_after (changes.Pop a') a was = if a'.0 == a then drop 1 was else was
waiting_after _ a was = was

-- an event comes to the activity, or goes
abbrev pub moves_queue : ℕ → Change → Bool
moves_queue a (changes.Push a' event) = a'.0 == a
moves_queue a (changes.Pop a') = a'.0 == a
moves_queue a _ = false

-- the activity's head event goes
abbrev pub pops : ℕ → Change → Bool
pops a (changes.Pop a') = a'.0 == a
pops a _ = false

-- whether the activity's head event is suspended
abbrev pub suspended_after : Change → ℕ → Bool → Bool
suspended_after (changes.Hold a' until) a was = (a'.0 == a) || was
suspended_after (changes.Release a') a was = not (a'.0 == a) && was
suspended_after _ a was = was

-- the numbers of the children of an entity
abbrev pub kids : List Entity → ℕ → List ℕ
kids rows e = map number_of (children rows e)

-- an entity of this parent is created: the next number, and the children of e
abbrev pub born : ℕ → ℕ × List ℕ → ℕ → ℕ × List ℕ
born e seen parent = (seen.0 + 1, if parent == e then seen.1 ++ seen.0 ∷ [] else seen.1)

-- the next number, and the children of an entity
abbrev pub children_after : Change → ℕ → ℕ × List ℕ → ℕ × List ℕ
children_after (changes.CreateRoot block service priority) e seen = born e seen 0
children_after (changes.CreateChild parent relation block priority) e seen = born e seen parent.0
children_after (changes.Remove e') e seen = (seen.0, filter (λ n. not (n == e'.0)) seen.1)
children_after _ e seen = seen
