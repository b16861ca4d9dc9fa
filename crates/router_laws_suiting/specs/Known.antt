-- What a run is told of was drawn before it.
use Rattle.std.specs.Prelude.{ℕ, ◌<◌, ◌≤◌, ◌^◌}
use Rattle.slee_effect.specs.declared.reference.Ref.TheVariants.{Known, Fresh}
use Rattle.script_laws.specs.References.{Reference, ToActivity, ToEntity, ToTimer}
use Rattle.router_state.specs.State.{State}

-- known activities and timers were drawn before, and nothing new is known
pub record KnowsDrawn (s : State) (known : Reference → Type 0) : Type 0 where
  pub activity : (n : ℕ) → known (ToActivity (Known n)) → n < s.next_activity
  pub timer : (n : ℕ) → known (ToTimer (Known n)) → n < s.next_timer
  pub no_activity : (n : ℕ) → known (ToActivity (Fresh n)) → ⊥
  pub no_timer : (n : ℕ) → known (ToTimer (Fresh n)) → ⊥

-- it has a number, and that was drawn before
abbrev pub IsDrawn : State → Reference → Type 0
IsDrawn s (ToEntity (Known n)) = n < s.next_entity
IsDrawn s (ToActivity (Known n)) = n < s.next_activity
IsDrawn s (ToTimer (Known n)) = n < s.next_timer
IsDrawn s _ = ⊥

-- the next numbers of entities and activities are at most 2^62, as in each state that isn't used up
pub record IsSmall (s : State) : Type 0 where
  pub entities : s.next_entity ≤ 2 ^ 62
  pub activities : s.next_activity ≤ 2 ^ 62
