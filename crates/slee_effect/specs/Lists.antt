-- What reading a list of effects answers.
use Rattle.std.specs.Prelude.{◌≡◌, ℕ, ◌+◌, ◌-◌, ◌<◌, ◌≤◌, List, ◌++◌, length, take, Result, Ok, Err}
use Rattle.slee_value.specs.declared.fault.ValueBad.{ValueBad}
use Rattle.slee_effect.specs.declared.effect.Effect.{Effect}
use Rattle.slee_effect.specs.declared.fault.EffectFault.{EffectFault}
use Rattle.slee_effect.specs.declared.fault.EffectFault.TheVariants.{Bad, NoMemory}
use Rattle.slee_effect.specs.Bytes.{spelling_of_effects}
use Rattle.slee_effect.specs.Fitting.{FitEffects, AreLooseEffects}
use Rattle.slee_effect.specs.Reading.{list_of}

-- the list was read, unless memory ran out
abbrev pub IsRead : List Effect → Result (List Effect) EffectFault → Type 0
IsRead effects (Ok read) = read ≡ effects
IsRead effects (Err NoMemory) = Unit {0}
IsRead effects (Err (Bad at)) = ⊥

-- some list's bytes are these and more; the same where any name may stand behind one of the greatest length
abbrev pub BeginsList : List ℕ → Type 0
BeginsList front = (effects : List Effect) × (more : List ℕ) × FitEffects effects × (spelling_of_effects effects ≡ front ++ more)

abbrev pub BeginsLooseList : List ℕ → Type 0
BeginsLooseList front = (effects : List Effect) × (more : List ℕ) × AreLooseEffects effects × (spelling_of_effects effects ≡ front ++ more)

-- No list begins with the bytes up to and with this one. Those before it begin a list, but for names behind one
-- of the greatest length.
pub record IsFirstBad (bytes : List ℕ) (at : ℕ) : Type 0 where
  pub within : at ≤ length bytes
  pub begins : BeginsLooseList (take at bytes)
  pub ends : at < length bytes → ¬ (BeginsList (take (at + 1) bytes))

-- where the fault stands
abbrev pub StandsRight : List ℕ → EffectFault → Type 0
StandsRight bytes NoMemory = Unit {0}
StandsRight bytes (Bad at) = IsFirstBad bytes at

-- the answer is that of reading from left to right
abbrev pub Answers : List ℕ → Result (List Effect) EffectFault → Type 0
Answers bytes (Ok effects) = list_of bytes ≡ Ok effects
Answers bytes (Err NoMemory) = Unit {0}
Answers bytes (Err (Bad at)) = (kind : ValueBad) × (list_of bytes ≡ Err (record { left = length bytes - at; kind = kind }))
