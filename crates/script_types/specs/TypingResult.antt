-- What a check finds: the value that it is after, or the first fault with its kind and place.
use Rattle.std.specs.Prelude.{ℕ, Bool, true, false, Option, Some, None, Result, Ok, Err}
use Rattle.script_types.specs.declared.misuse.CheckBad.{CheckBad}
use Rattle.script_types.specs.declared.misuse.CheckBad.TheVariants as bad
use Rattle.script_types.specs.declared.misuse.Misuse.{Misuse}

abbrev pub Checked : Type 0 → Type 0
Checked A = Result A Misuse

-- one check, and where it finds no fault the next
infixl 10 ◌>>=◌
abbrev pub ◌>>=◌ : {A B : Type 0} → Checked A → (A → Checked B) → Checked B
(Ok x) >>= f = f x
(Err fault) >>= f = Err fault

abbrev pub misused : {A : Type 0} → CheckBad → ℕ → Checked A
misused kind at = Err (record { at = at; kind = kind })

-- a fault unless the test holds
abbrev pub tested : CheckBad → ℕ → Bool → Checked (Unit {0})
tested kind at true = Ok tt
tested kind at false = misused kind at

-- what a name stands for; `at` tokens stand before the name
abbrev pub known : {A : Type 0} → ℕ → Option A → Checked A
known at None = misused bad.Name at
known at (Some x) = Ok x
