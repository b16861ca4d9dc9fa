-- The event masks of attachments: what is read of them, and how they change (JSR 240, 8.4).
use Rattle.std.specs.Prelude.{ℕ, Bool, ◌&&◌, not, if◌then◌else◌, List, [], ◌∷◌, filter, map}
use Rattle.std.specs.List.{list_any}
use Rattle.std.specs.Str.{bytes_eq}
use Rattle.rows_sorted.specs.Orders.{put, triple_before, same_pair}
use Rattle.router_state.specs.declared.rows.Mask.{Mask}

-- by activity, then by entity, then by event
abbrev pub mask_before : Mask → Mask → Bool
mask_before x y = triple_before x.activity.0 x.entity.0 x.event y.activity.0 y.entity.0 y.event

-- the mask is one of the entity on the activity
abbrev pub is_mask_of : ℕ → ℕ → Mask → Bool
is_mask_of e a m = same_pair m.entity.0 m.activity.0 e a

-- the mask is the one of this event there
abbrev pub is_mask : ℕ → ℕ → List ℕ → Mask → Bool
is_mask e a event m = is_mask_of e a m && bytes_eq m.event event

-- the event is masked for the entity on the activity
abbrev pub is_masked : List Mask → ℕ → ℕ → List ℕ → Bool
is_masked masks e a event = list_any (is_mask e a event) masks

-- the events that are masked for the entity on the activity, rising
abbrev pub masks_of : List Mask → ℕ → ℕ → List (List ℕ)
masks_of masks e a = map (λ m. m.event) (filter (is_mask_of e a) masks)

-- the event is masked there
abbrev pub with_mask : List Mask → ℕ → ℕ → List ℕ → List Mask
with_mask masks e a event =
    put mask_before (record { entity = record { 0 = e }; activity = record { 0 = a }; event = event }) masks

-- the event isn't masked there
abbrev pub without_mask : List Mask → ℕ → ℕ → List ℕ → List Mask
without_mask masks e a event = filter (λ m. not (is_mask e a event m)) masks

-- the event is masked there, or it isn't
abbrev pub with_mask_set : List Mask → ℕ → ℕ → List ℕ → Bool → List Mask
with_mask_set masks e a event on = if on then with_mask masks e a event else without_mask masks e a event

-- no event is masked there
abbrev pub without_masks : List Mask → ℕ → ℕ → List Mask
without_masks masks e a = filter (λ m. not (is_mask_of e a m)) masks

-- these events are masked there too
abbrev pub with_masks : List Mask → ℕ → ℕ → List (List ℕ) → List Mask
with_masks masks e a [] = masks
with_masks masks e a (event ∷ events) = with_masks (with_mask masks e a event) e a events
