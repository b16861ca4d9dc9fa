-- What is seen in a state of what a run refers to: a new thing has the number that was next before the run plus its place.
use Rattle.std.specs.Prelude.{ℕ, List, Bool, map, Option, option_map}
use Rattle.slee_effect.specs.Resolving.{resolved_ref}
use Rattle.slee_effect.specs.declared.next.Next.{Next}
use Rattle.slee_effect.specs.declared.reference.Ref.{Ref}
use Rattle.slee_value.specs.declared.ids.ActivityId.{ActivityId}
use Rattle.router_state.specs.Contexts.{is_linked, named_at}
use Rattle.router_state.specs.State.{State}
use Rattle.router_steps.specs.Effects.{number_in}

-- the number of the activity for which a name stands
abbrev pub name_in : State → List ℕ → Option ℕ
name_in s name = option_map (λ (a : ActivityId). a.0) (named_at s.names name)

-- the number of the activity that a run refers to
abbrev pub numbered : Next → Option Ref → Option ℕ
numbered next r = option_map (λ r. number_in (resolved_ref next.activity r)) r

-- an entity is attached to an activity
abbrev pub linked_in : Next → State → Ref → Ref → Bool
linked_in next s e a = is_linked s.links (number_in (resolved_ref next.entity e)) (number_in (resolved_ref next.activity a))

-- the numbers of entities that a run refers to
abbrev pub numbers_of : Next → List Ref → List ℕ
numbers_of next refs = map (λ r. number_in (resolved_ref next.entity r)) refs
