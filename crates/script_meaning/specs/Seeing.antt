-- Keys and what is seen at them: whether two are the same.
use Rattle.std.specs.Prelude.{◌==◌, Bool, true, false, ◌&&◌}
use Rattle.std.specs.Str.{bytes_eq}
use Rattle.slee_value.specs.declared.ids.EntityId.{EntityId}
use Rattle.slee_value.specs.declared.ids.EventId.{EventId}
use Rattle.script_meaning.specs.Same.{same_int, same_bool, same_option, same_list, same_value, same_field}
use Rattle.script_meaning.specs.declared.key.Key.{Key}
use Rattle.script_meaning.specs.declared.key.Key.TheVariants as keys
use Rattle.script_meaning.specs.declared.seen.AcSeen.{AcSeen}
use Rattle.script_meaning.specs.declared.seen.Seen.{Seen}
use Rattle.script_meaning.specs.declared.seen.Seen.TheVariants as seen

-- two keys are the same
abbrev pub same_key : Key → Key → Bool
same_key (keys.Next a) (keys.Next b) = a.0 == b.0
same_key (keys.Field e x) (keys.Field f y) = (e.0 == f.0) && bytes_eq x y
same_key (keys.Children e x) (keys.Children f y) = (e.0 == f.0) && bytes_eq x y
same_key (keys.Priority e) (keys.Priority f) = e.0 == f.0
same_key (keys.AcState a) (keys.AcState b) = a.0 == b.0
same_key (keys.Attr a x) (keys.Attr b y) = (a.0 == b.0) && bytes_eq x y
same_key (keys.Attached e a) (keys.Attached f b) = (e.0 == f.0) && (a.0 == b.0)
same_key (keys.Mask e a) (keys.Mask f b) = (e.0 == f.0) && (a.0 == b.0)
same_key (keys.Named x) (keys.Named y) = bytes_eq x y
same_key (keys.Timer t) (keys.Timer u) = t.0 == u.0
same_key (keys.Profile t x) (keys.Profile u y) = bytes_eq t u && bytes_eq x y
same_key keys.Now keys.Now = true
same_key (keys.Activities e) (keys.Activities f) = e.0 == f.0
same_key x y = false

-- two deliveries are of the same event to the same entity
abbrev pub same_delivery : EventId × EntityId → EventId × EntityId → Bool
same_delivery x y = (x.0.0 == y.0.0) && (x.1.0 == y.1.0)

-- two sights of an activity are the same
abbrev pub same_activity : AcSeen → AcSeen → Bool
same_activity x y = same_bool x.null y.null && same_bool x.ending y.ending

-- two answers are the same
abbrev pub same_seen : Seen → Seen → Bool
same_seen (seen.Next x) (seen.Next y) = same_option same_delivery x y
same_seen (seen.Held x) (seen.Held y) = same_option same_value x y
same_seen (seen.Ids x) (seen.Ids y) = same_list (λ n m. n == m) x y
same_seen (seen.Number x) (seen.Number y) = same_int x y
same_seen (seen.Ac x) (seen.Ac y) = same_option same_activity x y
same_seen (seen.Flag x) (seen.Flag y) = same_bool x y
same_seen (seen.Masks x) (seen.Masks y) = same_option (same_list bytes_eq) x y
same_seen (seen.Refers x) (seen.Refers y) = same_option (λ a b. a.0 == b.0) x y
same_seen (seen.Row x) (seen.Row y) = same_option (same_list same_field) x y
same_seen x y = false
