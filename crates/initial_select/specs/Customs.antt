-- What custom selections answer, and when a closure selects by a rule.
use Rattle.std.specs.Prelude.{◌≡◌, ◌<◌, ℕ, List, get_or, Option, Some, None, Result}
use Rattle.std.specs.Result.{ForOk}
use denote.Bor.{Bor}
use Rattle.slee_value.specs.declared.memory.NoMemory.{NoMemory}
use Rattle.deploy_model.specs.declared.choice.SelectRule.{SelectRule}
use Rattle.router_steps.specs.Selection.{custom_name}
use Rattle.initial_select.specs.declared.custom.Custom.{Custom}
use Rattle.initial_select.specs.declared.custom.Custom.TheVariants as customs

-- The text that a custom selection gives, none where the event isn't initial by it.
abbrev pub given_by : Custom → Option (List ℕ)
given_by (customs.Named text) = Some text
given_by customs.NotInitial = None

-- Each is a byte.
abbrev pub AreBytes : List ℕ → Type 0
AreBytes text = (i : ℕ) → get_or text i 0 < 256

-- Whatever text a closure is given, what it answers is what the rule gives to that text, or that it found no memory.
abbrev pub PicksBy : SelectRule → (Bor (List ℕ) → Result Custom NoMemory → Type 0) → Type 0
PicksBy rule post =
    (input : Bor (List ℕ)) (answer : Result Custom NoMemory) →
    AreBytes input.now → post input answer → ForOk answer (λ custom. given_by custom ≡ custom_name rule input.now)
