-- A history with one more entry begins with the one before.
use Rattle.std.proofs.Common.{◌≡◌, ℕ, List, [], ◌∷◌, ◌++◌, sym, ap, ◌∙◌, append-nil}
use mathlib.Core.List.{IsPrefix, map-append}
use Rattle.trace_history.specs.declared.choice.Choice.TheVariants as choices
use Rattle.test_turns.specs.Entries.{history_of}

pub grown : (old new : List ℕ) (n : ℕ) → new ≡ old ++ n ∷ [] → IsPrefix (history_of old) (history_of new)
grown old new n is = (history_of (n ∷ []), sym (ap history_of is ∙ map-append (λ k. choices.Finish (record { 0 = k })) old (n ∷ [])))

pub same : (old new : List ℕ) → new ≡ old → IsPrefix (history_of old) (history_of new)
same old new is = ([], append-nil (history_of old) ∙ sym (ap history_of is))
