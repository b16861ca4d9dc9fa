-- Where reading a list of effects first takes memory: for a text that is copied, or for an effect that goes into the list.
use Rattle.std.specs.Prelude.{ℕ, zero, suc, Bool, false, ◌||◌, ◌==◌, if◌then◌else◌, List, [], ◌∷◌, Ok, Err, is_ok}
use Rattle.std.specs.Int.{w32}
use Rattle.slee_value.specs.Reading.{Part, number_at, text_at}
use Rattle.slee_effect.specs.declared.tag.TheConstants.{SET_FIELD, SET_ATTR, CREATE, SET_MASK, FIRE, BIND, UNBIND, EMIT, USAGE}
use Rattle.slee_effect.specs.Reading.{ref_at, effect_at}

-- whether a part is read, and what stands behind it passes a test
abbrev pub passes_behind : {A : Type 0} → (List ℕ → Bool) → Part A → Bool
passes_behind test (Ok x) = test x.1
passes_behind test (Err fault) = false

-- whether a text is read, and one behind a reference
abbrev pub has_text : List ℕ → Bool
has_text bytes = is_ok (text_at bytes)

abbrev pub has_named : List ℕ → Bool
has_named bytes = passes_behind has_text (ref_at bytes)

-- of the effects with texts, whether the first text is read behind the effect's byte
abbrev pub first_texts : List (ℕ × (List ℕ → Bool))
first_texts =
    (SET_FIELD, has_named)
    ∷ (SET_ATTR, has_named)
    ∷ (CREATE, has_named)
    ∷ (SET_MASK, λ bytes. passes_behind has_named (ref_at bytes))
    ∷ (FIRE, has_named)
    ∷ (BIND, has_text)
    ∷ (UNBIND, has_text)
    ∷ (EMIT, has_named)
    ∷ (USAGE, has_named)
    ∷ []

-- whether bytes pass the test that such a table has for their first byte
abbrev pub passes : List (ℕ × (List ℕ → Bool)) → ℕ → List ℕ → Bool
passes [] tag bytes = false
passes (row ∷ rows) tag bytes = if tag == row.0 then row.1 bytes else passes rows tag bytes

-- whether the first text of an effect is read
abbrev pub has_first_text : List ℕ → Bool
has_first_text [] = false
has_first_text (tag ∷ bytes) = passes first_texts tag bytes

-- whether memory is taken for so many effects
abbrev pub items_take_memory : ℕ → List ℕ → Bool
items_take_memory zero bytes = false
items_take_memory (suc n) bytes = has_first_text bytes || is_ok (effect_at bytes)

-- whether memory is taken for a list of effects, its count first
abbrev pub takes_memory : List ℕ → Bool
takes_memory bytes = counted (number_at w32 bytes)
  where
    counted : Part ℕ → Bool
    counted (Ok n) = items_take_memory n.0 n.1
    counted (Err fault) = false
