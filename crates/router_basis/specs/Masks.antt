-- The events that handlers mask, in byte order.
use Rattle.std.specs.Prelude.{ℕ, ◌+◌, List, [], ◌∷◌, if◌then◌else◌, filter, map}
use Rattle.slee_value.specs.Order.{is_below}
use Rattle.script_types.specs.declared.codes.HandlerCode.{HandlerCode}
use Rattle.deploy_model.specs.Deployed.{in_order}

-- the masked events of these handlers
abbrev pub masks : List HandlerCode → List (List ℕ)
masks handlers = in_order (map (λ h. h.event) (filter (λ h. h.mask) handlers))

-- the place of the first text before which this one stands
abbrev pub place_for : List ℕ → List (List ℕ) → ℕ
place_for text [] = 0
place_for text (other ∷ texts) = if is_below text other then 0 else place_for text texts + 1
