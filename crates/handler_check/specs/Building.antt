-- What the check of scripts answers: what its definition builds, or that definition's fault. Want of memory alone is free.
use Rattle.std.specs.Prelude.{◌≡◌, ℕ, ◌+◌, List, [], ◌∷◌, Result, Ok, Err}
use Rattle.handler_check.specs.declared.code_fault.CodeFault.{CodeFault}
use Rattle.handler_check.specs.declared.code_fault.CodeFault.TheVariants as answers
use Rattle.script_types.specs.Programs.{Built, ◌>>=◌}

abbrev pub Refuses : {A : Type 0} → Built A → CodeFault → Type 0
Refuses found answers.NoMemory = Unit {0}
Refuses found (answers.At place misuse) = found ≡ Err (place, misuse)

abbrev pub Builds : {X A : Type 0} → (X → A) → Result X CodeFault → Built A → Type 0
Builds view (Ok x) found = found ≡ Ok (view x)
Builds view (Err fault) found = Refuses found fault

-- each item by its number, counted from n
abbrev pub each : {A B : Type 0} → (ℕ → A → Built B) → ℕ → List A → Built (List B)
each make n [] = Ok []
each make n (x ∷ xs) = do
  one ← make n x
  others ← each make (n + 1) xs
  Ok (one ∷ others)
