-- What is read behind a first part, and what its fault leaves.
use Rattle.std.proofs.Common.{◌≡◌, ℕ, List, Ok, ap, ◌∙◌}
use Rattle.slee_value.specs.declared.fault.PartFault.{PartFault}
use Rattle.slee_value.specs.declared.fault.PartFault.TheVariants as parts
use Rattle.slee_value.specs.Reading.{Part, ◌>>=◌, Fails, pair, row_of, text_at}
use Rattle.slee_effect.specs.declared.reference.Ref.{Ref}
use Rattle.slee_effect.specs.declared.value.Val.{Val}
use Rattle.slee_effect.specs.declared.tag.TheConstants.{SET_ATTR}
use Rattle.slee_effect.specs.declared.effect.Effect.{Effect}
use Rattle.slee_effect.specs.declared.effect.Effect.TheVariants.{SetAttr}
use Rattle.slee_effect.specs.Reading.{ref_at, val_at, effects_by_tag}

-- an attribute that gets a value
abbrev set_attr : (Ref × (List ℕ × Val)) × List ℕ → Part Effect
set_attr x = Ok (SetAttr x.0.0 x.0.1.0 x.0.1.1, x.1)

set_attr_is : (tag : ℕ) (rest : List ℕ) → tag ≡ SET_ATTR → row_of effects_by_tag tag rest ≡ (pair ref_at (pair text_at val_at) rest >>= set_attr)
set_attr_is tag rest e = ap (λ (n : ℕ). row_of effects_by_tag n rest) e

pub set_attr_read : (tag : ℕ) (rest : List ℕ) (x : (Ref × (List ℕ × Val)) × List ℕ) → tag ≡ SET_ATTR → pair ref_at (pair text_at val_at) rest ≡ Ok x → row_of effects_by_tag tag rest ≡ set_attr x
set_attr_read tag rest x e h = set_attr_is tag rest e ∙ ap (λ (r : Part (Ref × (List ℕ × Val))). r >>= set_attr) h

pub set_attr_fails : (e : PartFault) (tag : ℕ) (rest : List ℕ) → tag ≡ SET_ATTR → Fails e (pair ref_at (pair text_at val_at) rest) → Fails e (row_of effects_by_tag tag rest)
set_attr_fails parts.NoMemory tag rest k h = tt
set_attr_fails (parts.Bad left kind) tag rest k h = set_attr_is tag rest k ∙ ap (λ (r : Part (Ref × (List ℕ × Val))). r >>= set_attr) h
