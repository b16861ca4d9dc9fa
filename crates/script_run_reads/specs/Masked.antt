-- One event's mask on an attachment: none where the entity isn't attached, else whether the event is masked there.
use Rattle.std.specs.Prelude.{ℕ, Bool, true, false, ◌&&◌, List, Option, Some, None, bytes_eq, if◌then◌else◌}
use Rattle.std.specs.List.{list_any}
use Rattle.slee_effect.specs.declared.reference.Ref.{Ref}
use Rattle.slee_effect.specs.declared.effect.Effect.{Effect}
use Rattle.slee_effect.specs.declared.effect.Effect.TheVariants as ef
use Rattle.slee_effect.specs.declared.value.Val.{Val}
use Rattle.script_meaning.specs.Overlay.{same_ref}
use Rattle.script_meaning.specs.Observing as read
use Rattle.script_meaning.specs.Running.{Setting, Run, ◌>>=◌}
use Rattle.script_meaning.specs.Terms.{is_masked}

-- whether the entity, which has to be attached, masks the event on the activity
abbrev pub masked : Setting → List ℕ → Ref → Run Val
masked s event a = do
  names ← read.masks s a
  is_masked event names

-- whether an event is one of those that are masked
abbrev pub mask_in : List ℕ → Option (List (List ℕ)) → Option Bool
mask_in event None = None
mask_in event (Some names) = Some (list_any (bytes_eq event) names)

-- attaching what is attached changes no mask
abbrev pub or_first : Bool → Option Bool → Option Bool
or_first first None = Some first
or_first first (Some masked) = Some masked

-- a mask that is set, or no longer; another event's changes nothing
abbrev pub set_where : Bool → Bool → Option Bool → Option Bool
set_where same on None = None
set_where true on (Some masked) = Some on
set_where false on (Some masked) = Some masked

-- whether an effect masks the event, or no longer does so
abbrev pub mask_is_on : List ℕ → Effect → Bool
mask_is_on event (ef.SetMask entity activity other on) = bytes_eq event other
mask_is_on event other = false

-- what an effect does to it, where `first` tells whether attaching masks the event
abbrev pub mask_after : List ℕ → Bool → Ref → Ref → Effect → Option Bool → Option Bool
mask_after event first e a (ef.Attach entity activity) x = if same_ref entity e && same_ref activity a then or_first first x else x
mask_after event first e a (ef.Detach entity activity) x = if same_ref entity e && same_ref activity a then None else x
mask_after event first e a (ef.SetMask entity activity other on) x = if same_ref entity e && same_ref activity a then set_where (bytes_eq event other) on x else x
mask_after event first e a other x = x
