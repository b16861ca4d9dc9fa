-- States in the midst of the effects of a run, and what is seen of activities there.
use Rattle.std.specs.Prelude.{ℕ, ◌+◌, ◌<◌, ◌≡◌, Option, option_map}
use Rattle.std.specs.List.{AllByRecursion}
use Rattle.script_meaning.specs.declared.seen.AcSeen.{AcSeen}
use Rattle.slee_effect.specs.Resolving.{resolved_ref}
use Rattle.slee_effect.specs.declared.effect.Effect.{Effect}
use Rattle.slee_effect.specs.declared.effect.Effect.TheVariants as effects
use Rattle.slee_effect.specs.declared.next.Next.{Next}
use Rattle.slee_effect.specs.declared.reference.Ref.{Ref}
use Rattle.slee_effect.specs.declared.reference.Ref.TheVariants.{Known, Fresh}
use Rattle.router_state.specs.State.{State}
use Rattle.router_state.specs.Contexts.{activity_at}
use Rattle.router_state.specs.Look.{seen_of}
use Rattle.router_steps.specs.Effects.{number_in}

-- a number that was drawn before the run, or a new thing
abbrev pub IsOld : ℕ → Ref → Type 0
IsOld next (Known n) = n < next
IsOld next (Fresh place) = Unit {0}

-- so it is with the activity that an effect ends
abbrev pub EndsOld : ℕ → Effect → Type 0
EndsOld next (effects.EndNull activity) = IsOld next activity
EndsOld next _ = Unit {0}

-- a state in the midst of a run's effects: so many activities are new, and no number is used again
pub record IsAmidst (next : Next) (n : ℕ) (s : State) : Type 0 where
  pub drawn : s.next_activity ≡ next.activity + n
  pub below : AllByRecursion (λ row. row.number.0 < s.next_activity) s.activities

-- what is seen of an activity in a state, a new one having the number that was next before the run plus its place
abbrev pub activity_seen : Next → State → Ref → Option AcSeen
activity_seen next s r = option_map seen_of (activity_at s.activities (number_in (resolved_ref next.activity r)))
