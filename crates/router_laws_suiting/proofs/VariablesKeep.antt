-- Terms leave the variables as they were.
use Rattle.std.proofs.Common.{◌≡◌, ℕ, zero, suc, ℤ, Bool, true, false, not, List, [], ◌∷◌, ◌++◌, ◌+◌, ◌||◌, length, inl, inr, map, sym, ◌∙◌, ap, if◌then◌else◌, Option, Some, None}
use Rattle.std.specs.Prelude.{pos, slice_get, ◌+ℤ◌, ◌-ℤ◌, ◌*ℤ◌, int_div, int_rem, neg_ℤ, nat_lt}
use Rattle.std.specs.Ordering.{int_eq}
use Rattle.slee_value.specs.declared.kind.Kind.{Kind}
use Rattle.slee_value.specs.declared.kind.Kind.TheVariants as kind
use Rattle.slee_value.specs.declared.value.Value.{Value}
use Rattle.slee_value.specs.declared.value.Value.TheVariants as v
use Rattle.slee_effect.specs.declared.effect.Effect.{Effect}
use Rattle.slee_effect.specs.declared.reference.Ref.{Ref}
use Rattle.slee_effect.specs.declared.reference.Ref.TheVariants.{Known, Fresh}
use Rattle.slee_effect.specs.declared.value.Val.{Val}
use Rattle.slee_effect.specs.declared.value.Val.TheVariants.{Plain, NewActivity, NewTimer}
use Rattle.script_types.specs.Program.{Term, Single, Ask, Compare, Combine}
use Rattle.script_types.specs.declared.term.Atom.{Atom}
use Rattle.script_types.specs.declared.term.Atom.TheVariants as a
use Rattle.script_types.specs.declared.term.Joint.{Joint}
use Rattle.script_types.specs.declared.term.Joint.TheVariants as j
use Rattle.script_types.specs.declared.term.Question.{Question}
use Rattle.script_types.specs.declared.term.Question.TheVariants as q
use Rattle.script_types.specs.declared.term.Scale.{Scale}
use Rattle.script_types.specs.declared.term.Scale.TheVariants as scale
use Rattle.script_types.specs.declared.term.Test.{Test}
use Rattle.script_types.specs.declared.term.Test.TheVariants as t
use Rattle.script_meaning.specs.Answers.{is_of}
use Rattle.script_meaning.specs.Observing as read
use Rattle.script_meaning.specs.Overlay.{is_removed}
use Rattle.script_meaning.specs.Running.{Setting, Variable, Holds, Child, Gave, Run, ◌>>=◌, give, stay, break, tested, tick_at, tick, ticked, look, effects_of, found, variable, observe, answered, key_limit}
use Rattle.script_meaning.specs.Running as running
use Rattle.script_meaning.specs.Terms.{single, is_masked, looked_up, in_row, of_row, row, ask, combine, node, eval}
use Rattle.script_meaning.specs.Values.{number, divided, two_ints, two_texts, joined, apply, decides, same_values, is_less, flagged, compare, with_int, with_text, with_flag, with_activity, with_timer}
use Rattle.script_meaning.specs.declared.key.Key.{Key}
use Rattle.script_meaning.specs.declared.outcome.FailKind.{FailKind}
use Rattle.script_meaning.specs.declared.seen.AcSeen.{AcSeen}
use Rattle.script_meaning.specs.declared.seen.Seen.{Seen}
use Rattle.router_laws_effects.proofs.GuardLemmas.{gave_parts, then_gave, tested_gave}
use Rattle.router_laws_effects.proofs.TermsKeep.{no_break, no_stay}
use Rattle.script_meaning.specs.Seeing.{same_key}
use Rattle.std.proofs.lemmas.Bool.{cases_Bool}
use Rattle.std.specs.List.{list_any}

-- what leaves the variables as they were, where it gives something
pub record Leaves {A : Type 0} (m : Run A) : Type 0 where
  pub leaves : (x : A) (st su : running.State) → m st ≡ Gave x su → su.variables ≡ st.variables

pub leaves_then : {A B : Type 0} (m : Run A) (g : A → Run B) → Leaves m → ((x : A) → Leaves (g x)) → Leaves (m >>= g)
leaves_then m g one two = record { leaves = λ x st su is. let p = then_gave (m st) g x su is in (two p.0).leaves x p.1 su p.3 ∙ one.leaves p.0 st p.1 p.2 }

pub leaves_give : {A : Type 0} (y : A) → Leaves (give y)
leaves_give y = record { leaves = λ x st su is. ap (λ (w : running.State). w.variables) (sym (gave_parts y x st su is).1) }

pub leaves_stay : {A : Type 0} → Leaves {A = A} stay
leaves_stay = record { leaves = λ x st su is. absurd (no_stay is) }

pub leaves_break : {A : Type 0} (kind : FailKind) → Leaves {A = A} (break kind)
leaves_break kind = record { leaves = λ x st su is. absurd (no_break is) }

pub leaves_tested : (kind : FailKind) (b : Bool) → Leaves (tested kind b)
leaves_tested kind b = record { leaves = λ x st su is. ap (λ (w : running.State). w.variables) (tested_gave kind b x st su is).1 }

observe_leaves : (s : Setting) (key : Key) (x : Unit {0}) (st su : running.State) → observe s key st ≡ Gave x su → su.variables ≡ st.variables
unfolding observe
observe_leaves s key x st su is = elim (cases_Bool (list_any (same_key key) s.keys || list_any (same_key key) st.keys)) [
  | inl known ↦ ap (λ (w : running.State). w.variables) (sym (gave_parts tt x st su (rw known at is)).1)
  | inr new ↦ elim (cases_Bool (nat_lt (length s.keys + length st.keys) key_limit)) [
    | inl room ↦ ap (λ (w : running.State). w.variables) (sym (gave_parts tt x (record st { keys = st.keys ++ key ∷ [] }) su (rw (new, room) at is)).1)
    | inr full ↦ (let broke = rw (new, full) at is in absurd (cc))
  ]
]

answered_leaves : (o : Option Seen) (key : Key) (x : Option Seen) (st su : running.State) → answered o key st ≡ Gave x su → su.variables ≡ st.variables
answered_leaves None key x st su is = absurd (cc)
answered_leaves (Some seen) key x st su is = ap (λ (w : running.State). w.variables) (sym (gave_parts (Some seen) x st su is).1)

look_leaves : (s : Setting) (key : Option Key) (x : Option Seen) (st su : running.State) → look s key st ≡ Gave x su → su.variables ≡ st.variables
look_leaves s None x st su is = ap (λ (w : running.State). w.variables) (sym (gave_parts None x st su is).1)
look_leaves s (Some key) x st su is =
    let first = then_gave (observe s key st) (λ _. answered (s.answers key) key) x su is in
    answered_leaves (s.answers key) key x first.1 su first.3 ∙ observe_leaves s key first.0 st first.1 first.2

pub leaves_look : (s : Setting) (key : Option Key) → Leaves (look s key)
leaves_look s key = record { leaves = λ x st su is. look_leaves s key x st su is }

pub leaves_effects_of : (s : Setting) → Leaves (effects_of s)
leaves_effects_of s = record { leaves = λ x st su is. ap (λ (w : running.State). w.variables) (sym (gave_parts (s.effects ++ st.effects) x st su is).1) }

pub leaves_tick_at : (n : ℕ) → Leaves (tick_at n)
leaves_tick_at zero = record { leaves = λ x st su is. absurd (no_break is) }
leaves_tick_at (suc n) = record { leaves = λ x st su is. ap (λ (w : running.State). w.variables) (sym (gave_parts tt x (record st { left = n }) su is).1) }

pub leaves_ticked : {A : Type 0} (m : Run A) → Leaves m → Leaves (ticked m)
leaves_ticked m one = record { leaves = λ x st su is. let p = then_gave (tick st) (λ _. m) x su is in one.leaves x p.1 su p.3 ∙ (leaves_tick_at st.left).leaves p.0 st p.1 p.2 }

pub leaves_if : {A : Type 0} (b : Bool) (m n : Run A) → Leaves m → Leaves n → Leaves (if b then m else n)
leaves_if true m n one two = one
leaves_if false m n one two = two

-- reading
pub leaves_read : {A : Type 0} (s : Setting) (key : Option Key) (g : Option Seen → Run A) → ((o : Option Seen) → Leaves (g o)) → Leaves (look s key >>= g)
leaves_read s key g each = leaves_then (look s key) g (leaves_look s key) each

leaves_laid : {A : Type 0} (s : Setting) (f : List Effect → A) → Leaves (effects_of s >>= (λ es. give (f es)))
leaves_laid s f = leaves_then (effects_of s) (λ es. give (f es)) (leaves_effects_of s) (λ es. leaves_give (f es))

pub leaves_field : (s : Setting) (name : List ℕ) (q : Kind) → Leaves (read.field s name q)
leaves_field s name q = leaves_read s _ _ (λ seen. leaves_laid s (λ x. Rattle.script_meaning.specs.Answers.fit q (Rattle.script_meaning.specs.Overlay.overlay Rattle.script_meaning.specs.Overlay.entities_by (Rattle.script_meaning.specs.Overlay.field_after s.me name) x (Rattle.script_meaning.specs.Answers.held_in q seen))))

pub leaves_now : (s : Setting) → Leaves (read.now s)
leaves_now s = leaves_read s (Some Rattle.script_meaning.specs.declared.key.Key.TheVariants.Now) _ (λ seen. leaves_give (Rattle.script_meaning.specs.Answers.number_in seen))

pub leaves_state_of : (s : Setting) (r : Ref) → Leaves (read.state_of s r)
leaves_state_of s r = leaves_read s _ _ (λ seen. leaves_laid s (λ x. Rattle.script_meaning.specs.Overlay.overlay Rattle.script_meaning.specs.Overlay.activities_by (Rattle.script_meaning.specs.Overlay.activity_after r) x (Rattle.script_meaning.specs.Answers.activity_in seen)))

leaves_there : (o : Option AcSeen) → Leaves (read.there o)
leaves_there None = leaves_break _
leaves_there (Some seen) = leaves_give seen

pub leaves_used : (s : Setting) (r : Ref) → Leaves (read.used s r)
leaves_used s r = leaves_then (read.state_of s r) read.there (leaves_state_of s r) leaves_there

pub leaves_used_active : (s : Setting) (r : Ref) → Leaves (read.used_active s r)
leaves_used_active s r = leaves_then (read.used s r) _ (leaves_used s r) (λ seen. leaves_then (tested _ (not seen.ending)) (λ _. give seen) (leaves_tested _ (not seen.ending)) (λ _. leaves_give seen))

leaves_attribute : (s : Setting) (key : List ℕ) (q : Kind) (r : Ref) → Leaves (read.attribute s key q r)
leaves_attribute s key q r = leaves_read s _ _ (λ seen. leaves_laid s (λ x. Rattle.script_meaning.specs.Answers.fit q (Rattle.script_meaning.specs.Overlay.overlay Rattle.script_meaning.specs.Overlay.activities_by (Rattle.script_meaning.specs.Overlay.attr_after r key) x (Rattle.script_meaning.specs.Answers.held_in q seen))))

pub leaves_attached : (s : Setting) (r : Ref) → Leaves (read.attached s r)
leaves_attached s r = leaves_read s _ _ (λ seen. leaves_laid s (λ x. Rattle.script_meaning.specs.Overlay.overlay Rattle.script_meaning.specs.Overlay.activities_by (Rattle.script_meaning.specs.Overlay.attached_after s.me r) x (Rattle.script_meaning.specs.Answers.flag_in seen)))

leaves_masks : (s : Setting) (r : Ref) → Leaves (read.masks s r)
leaves_masks s r = leaves_read s _ _ (λ seen. leaves_laid s (λ x. Rattle.script_meaning.specs.Overlay.overlay Rattle.script_meaning.specs.Overlay.activities_by (Rattle.script_meaning.specs.Overlay.masks_after s.masks s.me r) x (Rattle.script_meaning.specs.Answers.masks_in seen)))

pub leaves_named : (s : Setting) (name : List ℕ) → Leaves (read.named s name)
leaves_named s name = leaves_read s (Some (Rattle.script_meaning.specs.declared.key.Key.TheVariants.Named name)) _ (λ seen. leaves_laid s (λ x. Rattle.script_meaning.specs.Overlay.overlay Rattle.script_meaning.specs.Overlay.activities_by (Rattle.script_meaning.specs.Overlay.named_after name) x (Rattle.script_meaning.specs.Answers.refers_in seen)))

leaves_timer : (s : Setting) (r : Ref) → Leaves (read.timer s r)
leaves_timer s r = leaves_read s _ _ (λ seen. leaves_laid s (λ x. Rattle.script_meaning.specs.Overlay.overlay Rattle.script_meaning.specs.Overlay.timers_by (Rattle.script_meaning.specs.Overlay.timer_after r) x (Rattle.script_meaning.specs.Answers.refers_in seen)))

pub leaves_children : (s : Setting) (relation : List ℕ) → Leaves (read.children s relation)
leaves_children s relation = leaves_read s _ _ (λ seen. leaves_laid s (λ x. Rattle.script_meaning.specs.Overlay.overlay Rattle.script_meaning.specs.Overlay.entities_by (Rattle.script_meaning.specs.Overlay.children_after s.me relation) x (map {A = (denote.Struct.Field.u64-field).Value} {B = Ref} (λ x'. Known x') (Rattle.script_meaning.specs.Answers.ids_in seen))))

pub leaves_activities : (s : Setting) → Leaves (read.activities s)
leaves_activities s = leaves_read s _ _ (λ seen. leaves_laid s (λ x. Rattle.script_meaning.specs.Overlay.overlay Rattle.script_meaning.specs.Overlay.activities_by (Rattle.script_meaning.specs.Overlay.activities_after s.me) x (map {A = (denote.Struct.Field.u64-field).Value} {B = Ref} (λ x'. Known x') (Rattle.script_meaning.specs.Answers.ids_in seen))))

leaves_priority : (s : Setting) (r : Ref) → Leaves (read.priority s r)
leaves_priority s r = leaves_read s _ _ (λ seen. leaves_laid s (λ x. Rattle.script_meaning.specs.Overlay.overlay Rattle.script_meaning.specs.Overlay.entities_by (Rattle.script_meaning.specs.Overlay.priority_after r) x (Rattle.script_meaning.specs.Answers.number_in seen)))

pub leaves_found : {A : Type 0} (o : Option A) → Leaves (found o)
leaves_found None = leaves_stay
leaves_found (Some y) = leaves_give y

leaves_variable : (i : ℕ) → Leaves (variable i)
leaves_variable i = record { leaves = λ x st su is. (leaves_found (slice_get st.variables i)).leaves x st su is }

leaves_only_child : (y : Variable) → Leaves (read.only_child y)
leaves_only_child (Child e) = leaves_give e
leaves_only_child (Holds y) = leaves_stay

pub leaves_child : (s : Setting) (i : ℕ) → Leaves (read.child s i)
leaves_child s i = leaves_then (variable i) _ (leaves_variable i) (λ y. leaves_then (read.only_child y) _ (leaves_only_child y) (λ e. leaves_then (effects_of s) _ (leaves_effects_of s) (λ es. leaves_then (tested Rattle.script_meaning.specs.declared.outcome.FailKind.TheVariants.Gone (not (is_removed e es))) (λ _. give e) (leaves_tested _ (not (is_removed e es))) (λ _. leaves_give e))))

leaves_only_value : (y : Variable) → Leaves (read.only_value y)
leaves_only_value (Holds x) = leaves_give x
leaves_only_value (Child e) = leaves_stay

leaves_value : (i : ℕ) → Leaves (read.value i)
leaves_value i = leaves_then (variable i) read.only_value (leaves_variable i) leaves_only_value

-- values by their kind

pub leaves_int : {A : Type 0} (x : Val) (g : ℤ → Run A) → ((n : ℤ) → Leaves (g n)) → Leaves (with_int x g)
leaves_int (Plain (v.Int n)) g each = each n
leaves_int (Plain (v.Text y)) g each = leaves_stay
leaves_int (Plain (v.Bool y)) g each = leaves_stay
leaves_int (Plain (v.Activity y)) g each = leaves_stay
leaves_int (Plain (v.Timer y)) g each = leaves_stay
leaves_int (NewActivity n) g each = leaves_stay
leaves_int (NewTimer n) g each = leaves_stay

pub leaves_text : {A : Type 0} (x : Val) (g : List ℕ → Run A) → ((n : List ℕ) → Leaves (g n)) → Leaves (with_text x g)
leaves_text (Plain (v.Text y)) g each = each y
leaves_text (Plain (v.Int y)) g each = leaves_stay
leaves_text (Plain (v.Bool y)) g each = leaves_stay
leaves_text (Plain (v.Activity y)) g each = leaves_stay
leaves_text (Plain (v.Timer y)) g each = leaves_stay
leaves_text (NewActivity n) g each = leaves_stay
leaves_text (NewTimer n) g each = leaves_stay

pub leaves_flag : {A : Type 0} (x : Val) (g : Bool → Run A) → ((n : Bool) → Leaves (g n)) → Leaves (with_flag x g)
leaves_flag (Plain (v.Bool y)) g each = each y
leaves_flag (Plain (v.Int y)) g each = leaves_stay
leaves_flag (Plain (v.Text y)) g each = leaves_stay
leaves_flag (Plain (v.Activity y)) g each = leaves_stay
leaves_flag (Plain (v.Timer y)) g each = leaves_stay
leaves_flag (NewActivity n) g each = leaves_stay
leaves_flag (NewTimer n) g each = leaves_stay

pub leaves_activity : {A : Type 0} (x : Val) (g : Ref → Run A) → ((n : Ref) → Leaves (g n)) → Leaves (with_activity x g)
leaves_activity (Plain (v.Activity y)) g each = each (Known y.0)
leaves_activity (NewActivity n) g each = each (Fresh n)
leaves_activity (Plain (v.Int y)) g each = leaves_stay
leaves_activity (Plain (v.Text y)) g each = leaves_stay
leaves_activity (Plain (v.Bool y)) g each = leaves_stay
leaves_activity (Plain (v.Timer y)) g each = leaves_stay
leaves_activity (NewTimer n) g each = leaves_stay

pub leaves_timer_of : {A : Type 0} (x : Val) (g : Ref → Run A) → ((n : Ref) → Leaves (g n)) → Leaves (with_timer x g)
leaves_timer_of (Plain (v.Timer y)) g each = each (Known y.0)
leaves_timer_of (NewTimer n) g each = each (Fresh n)
leaves_timer_of (Plain (v.Int y)) g each = leaves_stay
leaves_timer_of (Plain (v.Text y)) g each = leaves_stay
leaves_timer_of (Plain (v.Bool y)) g each = leaves_stay
leaves_timer_of (Plain (v.Activity y)) g each = leaves_stay
leaves_timer_of (NewActivity n) g each = leaves_stay

leaves_number : (n : ℤ) → Leaves (number n)
leaves_number n = leaves_if _ _ _ (leaves_give _) (leaves_break _)

leaves_divided : (by : ℤ → ℤ → ℤ) (m n : ℤ) → Leaves (divided by m n)
leaves_divided by m n = leaves_if (int_eq n (pos 0)) _ _ (leaves_break _) (leaves_number (by m n))

leaves_two_ints : {A : Type 0} (g : ℤ → ℤ → Run A) (x y : Val) → ((m n : ℤ) → Leaves (g m n)) → Leaves (two_ints g x y)
leaves_two_ints g x y each = leaves_int x _ (λ m. leaves_int y _ (λ n. each m n))

leaves_two_texts : {A : Type 0} (g : List ℕ → List ℕ → Run A) (x y : Val) → ((m n : List ℕ) → Leaves (g m n)) → Leaves (two_texts g x y)
leaves_two_texts g x y each = leaves_text x _ (λ m. leaves_text y _ (λ n. each m n))

leaves_apply : (o : Joint) (x y : Val) → Leaves (apply o x y)
leaves_apply j.Add x y = leaves_two_ints _ x y (λ m n. leaves_number (m +ℤ n))
leaves_apply j.Subtract x y = leaves_two_ints _ x y (λ m n. leaves_number (m -ℤ n))
leaves_apply j.Multiply x y = leaves_two_ints _ x y (λ m n. leaves_number (m *ℤ n))
leaves_apply j.Divide x y = leaves_two_ints _ x y (leaves_divided int_div)
leaves_apply j.Remainder x y = leaves_two_ints _ x y (leaves_divided int_rem)
leaves_apply j.Join x y = leaves_two_texts joined x y (λ m n. leaves_if _ _ _ (leaves_give _) (leaves_break _))
leaves_apply j.Both x y = leaves_flag x _ (λ _. leaves_flag y _ (λ b. leaves_give _))
leaves_apply j.Either x y = leaves_flag x _ (λ _. leaves_flag y _ (λ b. leaves_give _))

leaves_same : (k : Kind) (x y : Val) → Leaves (same_values k x y)
leaves_same kind.Int x y = leaves_two_ints _ x y (λ m n. leaves_give _)
leaves_same kind.Text x y = leaves_two_texts _ x y (λ m n. leaves_give _)
leaves_same kind.Bool x y = leaves_flag x _ (λ b. leaves_flag y _ (λ c. leaves_give _))
leaves_same kind.Activity x y = leaves_activity x _ (λ b. leaves_activity y _ (λ c. leaves_give _))
leaves_same kind.Timer x y = leaves_timer_of x _ (λ b. leaves_timer_of y _ (λ c. leaves_give _))

leaves_less : (k : Scale) (x y : Val) → Leaves (is_less k x y)
leaves_less scale.Int x y = leaves_two_ints _ x y (λ m n. leaves_give _)
leaves_less scale.Text x y = leaves_two_texts _ x y (λ m n. leaves_give _)

leaves_flagged : (g : Bool → Bool) (m : Run Bool) → Leaves m → Leaves (flagged g m)
leaves_flagged g m one = leaves_then m _ one (λ b. leaves_give _)

leaves_compare : (test : Test) (x y : Val) → Leaves (compare test x y)
leaves_compare (t.Same k) x y = leaves_flagged _ _ (leaves_same k x y)
leaves_compare (t.Unlike k) x y = leaves_flagged _ _ (leaves_same k x y)
leaves_compare (t.Below k) x y = leaves_flagged _ _ (leaves_less k x y)
leaves_compare (t.AtMost k) x y = leaves_flagged _ _ (leaves_less k y x)
leaves_compare (t.Above k) x y = leaves_flagged _ _ (leaves_less k y x)
leaves_compare (t.AtLeast k) x y = leaves_flagged _ _ (leaves_less k x y)

-- terms

leaves_single : (s : Setting) (x : Atom) → Leaves (single s x)
leaves_single s (a.Constant x) = leaves_give _
leaves_single s a.Now = leaves_then (read.now s) _ (leaves_now s) (λ n. leaves_give _)
leaves_single s a.Activity = leaves_give _
leaves_single s a.Failure = leaves_give _
leaves_single s (a.Slot i) = leaves_value i
leaves_single s (a.Field x k) = leaves_field s x.name k
leaves_single s (a.EventField place k) = leaves_give _
leaves_single s (a.Count relation) = leaves_then (read.children s relation.name) _ (leaves_children s relation.name) (λ refs. leaves_give _)
leaves_single s (a.Priority i) = leaves_then (read.child s i) _ (leaves_child s i) (λ e. leaves_then (read.priority s e) _ (leaves_priority s e) (λ n. leaves_give _))

leaves_masked : (event : List ℕ) (o : Option (List (List ℕ))) → Leaves (is_masked event o)
leaves_masked event None = leaves_break _
leaves_masked event (Some names) = leaves_give _

leaves_looked_up : (o : Option Ref) → Leaves (looked_up o)
leaves_looked_up None = leaves_break _
leaves_looked_up (Some r) = leaves_give _

leaves_in_row : (k : Kind) (o : Option Val) → Leaves (in_row k o)
leaves_in_row k None = leaves_break _
leaves_in_row k (Some x) = leaves_if (is_of k x) _ _ (leaves_give x) (leaves_break _)

leaves_of_row : (name : List ℕ) (k : Kind) (o : Option (List (List ℕ × Value))) → Leaves (of_row name k o)
leaves_of_row name k None = leaves_break _
leaves_of_row name k (Some found) = leaves_in_row k _

leaves_row : (s : Setting) (table name : List ℕ) → Leaves (row s table name)
leaves_row s table name = leaves_read s (Some (Rattle.script_meaning.specs.declared.key.Key.TheVariants.Profile table name)) _ (λ seen. leaves_give (Rattle.script_meaning.specs.Answers.row_in seen))

leaves_ask : (s : Setting) (question : Question) (x : Val) → Leaves (ask s question x)
leaves_ask s q.Negative x = leaves_int x _ (λ n. leaves_number (neg_ℤ n))
leaves_ask s q.Not x = leaves_flag x _ (λ b. leaves_give _)
leaves_ask s q.TextOfInt x = leaves_int x _ (λ n. leaves_give _)
leaves_ask s q.TextOfBool x = leaves_flag x _ (λ b. leaves_give _)
leaves_ask s q.Len x = leaves_text x _ (λ y. leaves_give _)
leaves_ask s q.Active x = leaves_activity x _ (λ r. leaves_then (read.state_of s r) _ (leaves_state_of s r) (λ seen. leaves_give _))
leaves_ask s q.Attached x = leaves_activity x _ (λ r. leaves_then (read.used s r) _ (leaves_used s r) (λ _. leaves_then (read.attached s r) _ (leaves_attached s r) (λ b. leaves_give _)))
leaves_ask s (q.Masked event) x = leaves_activity x _ (λ r. leaves_then (read.used s r) _ (leaves_used s r) (λ _. leaves_then (read.masks s r) _ (leaves_masks s r) (λ names. leaves_masked event.name names)))
leaves_ask s (q.Attribute key k) x = leaves_activity x _ (λ r. leaves_then (read.used s r) _ (leaves_used s r) (λ _. leaves_attribute s key.name k r))
leaves_ask s q.Bound x = leaves_text x _ (λ name. leaves_then (read.named s name) _ (leaves_named s name) (λ r. leaves_give _))
leaves_ask s q.Lookup x = leaves_text x _ (λ name. leaves_then (read.named s name) _ (leaves_named s name) (λ r. leaves_looked_up r))
leaves_ask s (q.Profile table name k) x = leaves_text x _ (λ key. leaves_then (row s table.name key) _ (leaves_row s table.name key) (λ found. leaves_of_row name.name k found))
leaves_ask s (q.HasProfile table) x = leaves_text x _ (λ key. leaves_then (row s table.name key) _ (leaves_row s table.name key) (λ found. leaves_give _))
leaves_ask s q.HasTimer x = leaves_timer_of x _ (λ r. leaves_then (read.timer s r) _ (leaves_timer s r) (λ a. leaves_give _))

leaves_combine : (joint : Joint) (x : Val) (m : Run Val) → Leaves m → Leaves (combine joint x m)
leaves_combine joint x m one = leaves_if (decides joint x) _ _ (leaves_give x) (leaves_then m _ one (λ y. leaves_apply joint x y))

leaves_node : (s : Setting) (term : Term) → Leaves (node s term)
leaves_node s (Single x) = leaves_single s x
leaves_node s (Ask question b) = leaves_then (ticked (node s b)) _ (leaves_ticked (node s b) (leaves_node s b)) (λ x. leaves_ask s question x)
leaves_node s (Compare test b c) = leaves_then (ticked (node s b)) _ (leaves_ticked (node s b) (leaves_node s b)) (λ x. leaves_then (ticked (node s c)) _ (leaves_ticked (node s c) (leaves_node s c)) (λ y. leaves_compare test x y))
leaves_node s (Combine joint b c) = leaves_then (ticked (node s b)) _ (leaves_ticked (node s b) (leaves_node s b)) (λ x. leaves_combine joint x (ticked (node s c)) (leaves_ticked (node s c) (leaves_node s c)))

pub leaves_eval : (s : Setting) (term : Term) → Leaves (eval s term)
leaves_eval s term = leaves_ticked (node s term) (leaves_node s term)
