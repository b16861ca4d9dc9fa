-- Terms make no effects.
use Rattle.std.proofs.Common.{◌≡◌, ℕ, zero, suc, ℤ, Bool, true, false, not, List, ◌++◌, map, sym, ◌∙◌, ap, if◌then◌else◌, Option, Some, None}
use Rattle.std.specs.Prelude.{pos, slice_get, ◌+ℤ◌, ◌-ℤ◌, ◌*ℤ◌, int_div, int_rem, neg_ℤ}
use Rattle.std.specs.Ordering.{int_eq}
use Rattle.slee_value.specs.declared.kind.Kind.{Kind}
use Rattle.slee_value.specs.declared.kind.Kind.TheVariants as kind
use Rattle.slee_value.specs.declared.value.Value.{Value}
use Rattle.slee_value.specs.declared.value.Value.TheVariants as v
use Rattle.slee_effect.specs.declared.effect.Effect.{Effect}
use Rattle.slee_effect.specs.declared.reference.Ref.{Ref}
use Rattle.slee_effect.specs.declared.reference.Ref.TheVariants.{Known, Fresh}
use Rattle.slee_effect.specs.declared.value.Val.{Val}
use Rattle.slee_effect.specs.declared.value.Val.TheVariants.{Plain, NewActivity, NewTimer}
use Rattle.script_types.specs.Program.{Term, Single, Ask, Compare, Combine}
use Rattle.script_types.specs.declared.term.Atom.{Atom}
use Rattle.script_types.specs.declared.term.Atom.TheVariants as a
use Rattle.script_types.specs.declared.term.Joint.{Joint}
use Rattle.script_types.specs.declared.term.Joint.TheVariants as j
use Rattle.script_types.specs.declared.term.Question.{Question}
use Rattle.script_types.specs.declared.term.Question.TheVariants as q
use Rattle.script_types.specs.declared.term.Scale.{Scale}
use Rattle.script_types.specs.declared.term.Scale.TheVariants as scale
use Rattle.script_types.specs.declared.term.Test.{Test}
use Rattle.script_types.specs.declared.term.Test.TheVariants as t
use Rattle.script_meaning.specs.Answers.{is_of}
use Rattle.script_meaning.specs.Observing as read
use Rattle.script_meaning.specs.Overlay.{is_removed}
use Rattle.script_meaning.specs.Running.{Setting, Variable, Holds, Child, Ending, Gave, Broke, Needs, Stays, Run, then_run, ◌>>=◌, give, stay, break, tested, tick_at, tick, ticked, look, effects_of, found, variable}
use Rattle.script_meaning.specs.Running as running
use Rattle.script_meaning.specs.Terms.{single, is_masked, looked_up, in_row, of_row, row, ask, combine, node, eval}
use Rattle.script_meaning.specs.Values.{number, divided, two_ints, two_texts, joined, apply, decides, same_values, is_less, flagged, compare, with_int, with_text, with_flag, with_activity, with_timer}
use Rattle.script_meaning.specs.declared.key.Key.{Key}
use Rattle.script_meaning.specs.declared.outcome.FailKind.{FailKind}
use Rattle.script_meaning.specs.declared.seen.AcSeen.{AcSeen}
use Rattle.script_meaning.specs.declared.seen.Seen.{Seen}
use Rattle.router_laws_effects.proofs.GuardLemmas.{gave_parts, then_gave, tested_gave, look_gave}

-- what makes no effect, where it gives something
pub record Keeps {A : Type 0} (m : Run A) : Type 0 where
  pub keeps : (x : A) (st su : running.State) → m st ≡ Gave x su → su.effects ≡ st.effects

pub keeps_then : {A B : Type 0} (m : Run A) (g : A → Run B) → Keeps m → ((x : A) → Keeps (g x)) → Keeps (m >>= g)
keeps_then m g one two = record { keeps = λ x st su is. let p = then_gave (m st) g x su is in (two p.0).keeps x p.1 su p.3 ∙ one.keeps p.0 st p.1 p.2 }

pub keeps_give : {A : Type 0} (y : A) → Keeps (give y)
keeps_give y = record { keeps = λ x st su is. ap (λ (w : running.State). w.effects) (sym (gave_parts y x st su is).1) }

pub no_stay : {A : Type 0} {x : A} {su : running.State} → Stays ≡ Gave x su → ⊥
no_stay is = absurd (cc)

pub no_break : {A : Type 0} {x : A} {su st : running.State} {kind : FailKind} {text : List ℕ} → Broke kind text st ≡ Gave x su → ⊥
no_break is = absurd (cc)

pub keeps_stay : {A : Type 0} → Keeps {A = A} stay
keeps_stay = record { keeps = λ x st su is. absurd (no_stay is) }

pub keeps_break : {A : Type 0} (kind : FailKind) → Keeps {A = A} (break kind)
keeps_break kind = record { keeps = λ x st su is. absurd (no_break is) }

pub keeps_tested : (kind : FailKind) (b : Bool) → Keeps (tested kind b)
keeps_tested kind b = record { keeps = λ x st su is. ap (λ (w : running.State). w.effects) (tested_gave kind b x st su is).1 }

pub keeps_look : (s : Setting) (key : Option Key) → Keeps (look s key)
keeps_look s key = record { keeps = λ x st su is. (look_gave s key x st su is).1 }

pub keeps_effects_of : (s : Setting) → Keeps (effects_of s)
keeps_effects_of s = record { keeps = λ x st su is. ap (λ (w : running.State). w.effects) (sym (gave_parts (s.effects ++ st.effects) x st su is).1) }

pub keeps_tick_at : (n : ℕ) → Keeps (tick_at n)
keeps_tick_at zero = record { keeps = λ x st su is. absurd (no_break is) }
keeps_tick_at (suc n) = record { keeps = λ x st su is. ap (λ (w : running.State). w.effects) (sym (gave_parts tt x (record st { left = n }) su is).1) }

pub keeps_ticked : {A : Type 0} (m : Run A) → Keeps m → Keeps (ticked m)
keeps_ticked m one = record { keeps = λ x st su is. let p = then_gave (tick st) (λ _. m) x su is in one.keeps x p.1 su p.3 ∙ (keeps_tick_at st.left).keeps p.0 st p.1 p.2 }

pub keeps_if : {A : Type 0} (b : Bool) (m n : Run A) → Keeps m → Keeps n → Keeps (if b then m else n)
keeps_if true m n one two = one
keeps_if false m n one two = two

-- reading
pub keeps_read : {A : Type 0} (s : Setting) (key : Option Key) (g : Option Seen → Run A) → ((o : Option Seen) → Keeps (g o)) → Keeps (look s key >>= g)
keeps_read s key g each = keeps_then (look s key) g (keeps_look s key) each

keeps_laid : {A : Type 0} (s : Setting) (f : List Effect → A) → Keeps (effects_of s >>= (λ es. give (f es)))
keeps_laid s f = keeps_then (effects_of s) (λ es. give (f es)) (keeps_effects_of s) (λ es. keeps_give (f es))

pub keeps_field : (s : Setting) (name : List ℕ) (q : Kind) → Keeps (read.field s name q)
keeps_field s name q = keeps_read s _ _ (λ seen. keeps_laid s (λ x. Rattle.script_meaning.specs.Answers.fit q (Rattle.script_meaning.specs.Overlay.overlay Rattle.script_meaning.specs.Overlay.entities_by (Rattle.script_meaning.specs.Overlay.field_after s.me name) x (Rattle.script_meaning.specs.Answers.held_in q seen))))

pub keeps_now : (s : Setting) → Keeps (read.now s)
keeps_now s = keeps_read s (Some Rattle.script_meaning.specs.declared.key.Key.TheVariants.Now) _ (λ seen. keeps_give (Rattle.script_meaning.specs.Answers.number_in seen))

pub keeps_state_of : (s : Setting) (r : Ref) → Keeps (read.state_of s r)
keeps_state_of s r = keeps_read s _ _ (λ seen. keeps_laid s (λ x. Rattle.script_meaning.specs.Overlay.overlay Rattle.script_meaning.specs.Overlay.activities_by (Rattle.script_meaning.specs.Overlay.activity_after r) x (Rattle.script_meaning.specs.Answers.activity_in seen)))

keeps_there : (o : Option AcSeen) → Keeps (read.there o)
keeps_there None = keeps_break _
keeps_there (Some seen) = keeps_give seen

pub keeps_used : (s : Setting) (r : Ref) → Keeps (read.used s r)
keeps_used s r = keeps_then (read.state_of s r) read.there (keeps_state_of s r) keeps_there

pub keeps_used_active : (s : Setting) (r : Ref) → Keeps (read.used_active s r)
keeps_used_active s r = keeps_then (read.used s r) _ (keeps_used s r) (λ seen. keeps_then (tested _ (not seen.ending)) (λ _. give seen) (keeps_tested _ (not seen.ending)) (λ _. keeps_give seen))

keeps_attribute : (s : Setting) (key : List ℕ) (q : Kind) (r : Ref) → Keeps (read.attribute s key q r)
keeps_attribute s key q r = keeps_read s _ _ (λ seen. keeps_laid s (λ x. Rattle.script_meaning.specs.Answers.fit q (Rattle.script_meaning.specs.Overlay.overlay Rattle.script_meaning.specs.Overlay.activities_by (Rattle.script_meaning.specs.Overlay.attr_after r key) x (Rattle.script_meaning.specs.Answers.held_in q seen))))

pub keeps_attached : (s : Setting) (r : Ref) → Keeps (read.attached s r)
keeps_attached s r = keeps_read s _ _ (λ seen. keeps_laid s (λ x. Rattle.script_meaning.specs.Overlay.overlay Rattle.script_meaning.specs.Overlay.activities_by (Rattle.script_meaning.specs.Overlay.attached_after s.me r) x (Rattle.script_meaning.specs.Answers.flag_in seen)))

keeps_masks : (s : Setting) (r : Ref) → Keeps (read.masks s r)
keeps_masks s r = keeps_read s _ _ (λ seen. keeps_laid s (λ x. Rattle.script_meaning.specs.Overlay.overlay Rattle.script_meaning.specs.Overlay.activities_by (Rattle.script_meaning.specs.Overlay.masks_after s.masks s.me r) x (Rattle.script_meaning.specs.Answers.masks_in seen)))

pub keeps_named : (s : Setting) (name : List ℕ) → Keeps (read.named s name)
keeps_named s name = keeps_read s (Some (Rattle.script_meaning.specs.declared.key.Key.TheVariants.Named name)) _ (λ seen. keeps_laid s (λ x. Rattle.script_meaning.specs.Overlay.overlay Rattle.script_meaning.specs.Overlay.activities_by (Rattle.script_meaning.specs.Overlay.named_after name) x (Rattle.script_meaning.specs.Answers.refers_in seen)))

keeps_timer : (s : Setting) (r : Ref) → Keeps (read.timer s r)
keeps_timer s r = keeps_read s _ _ (λ seen. keeps_laid s (λ x. Rattle.script_meaning.specs.Overlay.overlay Rattle.script_meaning.specs.Overlay.timers_by (Rattle.script_meaning.specs.Overlay.timer_after r) x (Rattle.script_meaning.specs.Answers.refers_in seen)))

pub keeps_children : (s : Setting) (relation : List ℕ) → Keeps (read.children s relation)
keeps_children s relation = keeps_read s _ _ (λ seen. keeps_laid s (λ x. Rattle.script_meaning.specs.Overlay.overlay Rattle.script_meaning.specs.Overlay.entities_by (Rattle.script_meaning.specs.Overlay.children_after s.me relation) x (map {A = (denote.Struct.Field.u64-field).Value} {B = Ref} (λ x'. Known x') (Rattle.script_meaning.specs.Answers.ids_in seen))))

pub keeps_activities : (s : Setting) → Keeps (read.activities s)
keeps_activities s = keeps_read s _ _ (λ seen. keeps_laid s (λ x. Rattle.script_meaning.specs.Overlay.overlay Rattle.script_meaning.specs.Overlay.activities_by (Rattle.script_meaning.specs.Overlay.activities_after s.me) x (map {A = (denote.Struct.Field.u64-field).Value} {B = Ref} (λ x'. Known x') (Rattle.script_meaning.specs.Answers.ids_in seen))))

keeps_priority : (s : Setting) (r : Ref) → Keeps (read.priority s r)
keeps_priority s r = keeps_read s _ _ (λ seen. keeps_laid s (λ x. Rattle.script_meaning.specs.Overlay.overlay Rattle.script_meaning.specs.Overlay.entities_by (Rattle.script_meaning.specs.Overlay.priority_after r) x (Rattle.script_meaning.specs.Answers.number_in seen)))

pub keeps_found : {A : Type 0} (o : Option A) → Keeps (found o)
keeps_found None = keeps_stay
keeps_found (Some y) = keeps_give y

keeps_variable : (i : ℕ) → Keeps (variable i)
keeps_variable i = record { keeps = λ x st su is. (keeps_found (slice_get st.variables i)).keeps x st su is }

keeps_only_child : (y : Variable) → Keeps (read.only_child y)
keeps_only_child (Child e) = keeps_give e
keeps_only_child (Holds y) = keeps_stay

pub keeps_child : (s : Setting) (i : ℕ) → Keeps (read.child s i)
keeps_child s i = keeps_then (variable i) _ (keeps_variable i) (λ y. keeps_then (read.only_child y) _ (keeps_only_child y) (λ e. keeps_then (effects_of s) _ (keeps_effects_of s) (λ es. keeps_then (tested Rattle.script_meaning.specs.declared.outcome.FailKind.TheVariants.Gone (not (is_removed e es))) (λ _. give e) (keeps_tested _ (not (is_removed e es))) (λ _. keeps_give e))))

keeps_only_value : (y : Variable) → Keeps (read.only_value y)
keeps_only_value (Holds x) = keeps_give x
keeps_only_value (Child e) = keeps_stay

keeps_value : (i : ℕ) → Keeps (read.value i)
keeps_value i = keeps_then (variable i) read.only_value (keeps_variable i) keeps_only_value

-- values by their kind

pub keeps_int : {A : Type 0} (x : Val) (g : ℤ → Run A) → ((n : ℤ) → Keeps (g n)) → Keeps (with_int x g)
keeps_int (Plain (v.Int n)) g each = each n
keeps_int (Plain (v.Text y)) g each = keeps_stay
keeps_int (Plain (v.Bool y)) g each = keeps_stay
keeps_int (Plain (v.Activity y)) g each = keeps_stay
keeps_int (Plain (v.Timer y)) g each = keeps_stay
keeps_int (NewActivity n) g each = keeps_stay
keeps_int (NewTimer n) g each = keeps_stay

pub keeps_text : {A : Type 0} (x : Val) (g : List ℕ → Run A) → ((n : List ℕ) → Keeps (g n)) → Keeps (with_text x g)
keeps_text (Plain (v.Text y)) g each = each y
keeps_text (Plain (v.Int y)) g each = keeps_stay
keeps_text (Plain (v.Bool y)) g each = keeps_stay
keeps_text (Plain (v.Activity y)) g each = keeps_stay
keeps_text (Plain (v.Timer y)) g each = keeps_stay
keeps_text (NewActivity n) g each = keeps_stay
keeps_text (NewTimer n) g each = keeps_stay

pub keeps_flag : {A : Type 0} (x : Val) (g : Bool → Run A) → ((n : Bool) → Keeps (g n)) → Keeps (with_flag x g)
keeps_flag (Plain (v.Bool y)) g each = each y
keeps_flag (Plain (v.Int y)) g each = keeps_stay
keeps_flag (Plain (v.Text y)) g each = keeps_stay
keeps_flag (Plain (v.Activity y)) g each = keeps_stay
keeps_flag (Plain (v.Timer y)) g each = keeps_stay
keeps_flag (NewActivity n) g each = keeps_stay
keeps_flag (NewTimer n) g each = keeps_stay

pub keeps_activity : {A : Type 0} (x : Val) (g : Ref → Run A) → ((n : Ref) → Keeps (g n)) → Keeps (with_activity x g)
keeps_activity (Plain (v.Activity y)) g each = each (Known y.0)
keeps_activity (NewActivity n) g each = each (Fresh n)
keeps_activity (Plain (v.Int y)) g each = keeps_stay
keeps_activity (Plain (v.Text y)) g each = keeps_stay
keeps_activity (Plain (v.Bool y)) g each = keeps_stay
keeps_activity (Plain (v.Timer y)) g each = keeps_stay
keeps_activity (NewTimer n) g each = keeps_stay

pub keeps_timer_of : {A : Type 0} (x : Val) (g : Ref → Run A) → ((n : Ref) → Keeps (g n)) → Keeps (with_timer x g)
keeps_timer_of (Plain (v.Timer y)) g each = each (Known y.0)
keeps_timer_of (NewTimer n) g each = each (Fresh n)
keeps_timer_of (Plain (v.Int y)) g each = keeps_stay
keeps_timer_of (Plain (v.Text y)) g each = keeps_stay
keeps_timer_of (Plain (v.Bool y)) g each = keeps_stay
keeps_timer_of (Plain (v.Activity y)) g each = keeps_stay
keeps_timer_of (NewActivity n) g each = keeps_stay

keeps_number : (n : ℤ) → Keeps (number n)
keeps_number n = keeps_if _ _ _ (keeps_give _) (keeps_break _)

keeps_divided : (by : ℤ → ℤ → ℤ) (m n : ℤ) → Keeps (divided by m n)
keeps_divided by m n = keeps_if (int_eq n (pos 0)) _ _ (keeps_break _) (keeps_number (by m n))

keeps_two_ints : {A : Type 0} (g : ℤ → ℤ → Run A) (x y : Val) → ((m n : ℤ) → Keeps (g m n)) → Keeps (two_ints g x y)
keeps_two_ints g x y each = keeps_int x _ (λ m. keeps_int y _ (λ n. each m n))

keeps_two_texts : {A : Type 0} (g : List ℕ → List ℕ → Run A) (x y : Val) → ((m n : List ℕ) → Keeps (g m n)) → Keeps (two_texts g x y)
keeps_two_texts g x y each = keeps_text x _ (λ m. keeps_text y _ (λ n. each m n))

keeps_apply : (o : Joint) (x y : Val) → Keeps (apply o x y)
keeps_apply j.Add x y = keeps_two_ints _ x y (λ m n. keeps_number (m +ℤ n))
keeps_apply j.Subtract x y = keeps_two_ints _ x y (λ m n. keeps_number (m -ℤ n))
keeps_apply j.Multiply x y = keeps_two_ints _ x y (λ m n. keeps_number (m *ℤ n))
keeps_apply j.Divide x y = keeps_two_ints _ x y (keeps_divided int_div)
keeps_apply j.Remainder x y = keeps_two_ints _ x y (keeps_divided int_rem)
keeps_apply j.Join x y = keeps_two_texts joined x y (λ m n. keeps_if _ _ _ (keeps_give _) (keeps_break _))
keeps_apply j.Both x y = keeps_flag x _ (λ _. keeps_flag y _ (λ b. keeps_give _))
keeps_apply j.Either x y = keeps_flag x _ (λ _. keeps_flag y _ (λ b. keeps_give _))

keeps_same : (k : Kind) (x y : Val) → Keeps (same_values k x y)
keeps_same kind.Int x y = keeps_two_ints _ x y (λ m n. keeps_give _)
keeps_same kind.Text x y = keeps_two_texts _ x y (λ m n. keeps_give _)
keeps_same kind.Bool x y = keeps_flag x _ (λ b. keeps_flag y _ (λ c. keeps_give _))
keeps_same kind.Activity x y = keeps_activity x _ (λ b. keeps_activity y _ (λ c. keeps_give _))
keeps_same kind.Timer x y = keeps_timer_of x _ (λ b. keeps_timer_of y _ (λ c. keeps_give _))

keeps_less : (k : Scale) (x y : Val) → Keeps (is_less k x y)
keeps_less scale.Int x y = keeps_two_ints _ x y (λ m n. keeps_give _)
keeps_less scale.Text x y = keeps_two_texts _ x y (λ m n. keeps_give _)

keeps_flagged : (g : Bool → Bool) (m : Run Bool) → Keeps m → Keeps (flagged g m)
keeps_flagged g m one = keeps_then m _ one (λ b. keeps_give _)

keeps_compare : (test : Test) (x y : Val) → Keeps (compare test x y)
keeps_compare (t.Same k) x y = keeps_flagged _ _ (keeps_same k x y)
keeps_compare (t.Unlike k) x y = keeps_flagged _ _ (keeps_same k x y)
keeps_compare (t.Below k) x y = keeps_flagged _ _ (keeps_less k x y)
keeps_compare (t.AtMost k) x y = keeps_flagged _ _ (keeps_less k y x)
keeps_compare (t.Above k) x y = keeps_flagged _ _ (keeps_less k y x)
keeps_compare (t.AtLeast k) x y = keeps_flagged _ _ (keeps_less k x y)

-- terms

keeps_single : (s : Setting) (x : Atom) → Keeps (single s x)
keeps_single s (a.Constant x) = keeps_give _
keeps_single s a.Now = keeps_then (read.now s) _ (keeps_now s) (λ n. keeps_give _)
keeps_single s a.Activity = keeps_give _
keeps_single s a.Failure = keeps_give _
keeps_single s (a.Slot i) = keeps_value i
keeps_single s (a.Field x k) = keeps_field s x.name k
keeps_single s (a.EventField place k) = keeps_give _
keeps_single s (a.Count relation) = keeps_then (read.children s relation.name) _ (keeps_children s relation.name) (λ refs. keeps_give _)
keeps_single s (a.Priority i) = keeps_then (read.child s i) _ (keeps_child s i) (λ e. keeps_then (read.priority s e) _ (keeps_priority s e) (λ n. keeps_give _))

keeps_masked : (event : List ℕ) (o : Option (List (List ℕ))) → Keeps (is_masked event o)
keeps_masked event None = keeps_break _
keeps_masked event (Some names) = keeps_give _

keeps_looked_up : (o : Option Ref) → Keeps (looked_up o)
keeps_looked_up None = keeps_break _
keeps_looked_up (Some r) = keeps_give _

keeps_in_row : (k : Kind) (o : Option Val) → Keeps (in_row k o)
keeps_in_row k None = keeps_break _
keeps_in_row k (Some x) = keeps_if (is_of k x) _ _ (keeps_give x) (keeps_break _)

keeps_of_row : (name : List ℕ) (k : Kind) (o : Option (List (List ℕ × Value))) → Keeps (of_row name k o)
keeps_of_row name k None = keeps_break _
keeps_of_row name k (Some found) = keeps_in_row k _

keeps_row : (s : Setting) (table name : List ℕ) → Keeps (row s table name)
keeps_row s table name = keeps_read s (Some (Rattle.script_meaning.specs.declared.key.Key.TheVariants.Profile table name)) _ (λ seen. keeps_give (Rattle.script_meaning.specs.Answers.row_in seen))

keeps_ask : (s : Setting) (question : Question) (x : Val) → Keeps (ask s question x)
keeps_ask s q.Negative x = keeps_int x _ (λ n. keeps_number (neg_ℤ n))
keeps_ask s q.Not x = keeps_flag x _ (λ b. keeps_give _)
keeps_ask s q.TextOfInt x = keeps_int x _ (λ n. keeps_give _)
keeps_ask s q.TextOfBool x = keeps_flag x _ (λ b. keeps_give _)
keeps_ask s q.Len x = keeps_text x _ (λ y. keeps_give _)
keeps_ask s q.Active x = keeps_activity x _ (λ r. keeps_then (read.state_of s r) _ (keeps_state_of s r) (λ seen. keeps_give _))
keeps_ask s q.Attached x = keeps_activity x _ (λ r. keeps_then (read.used s r) _ (keeps_used s r) (λ _. keeps_then (read.attached s r) _ (keeps_attached s r) (λ b. keeps_give _)))
keeps_ask s (q.Masked event) x = keeps_activity x _ (λ r. keeps_then (read.used s r) _ (keeps_used s r) (λ _. keeps_then (read.masks s r) _ (keeps_masks s r) (λ names. keeps_masked event.name names)))
keeps_ask s (q.Attribute key k) x = keeps_activity x _ (λ r. keeps_then (read.used s r) _ (keeps_used s r) (λ _. keeps_attribute s key.name k r))
keeps_ask s q.Bound x = keeps_text x _ (λ name. keeps_then (read.named s name) _ (keeps_named s name) (λ r. keeps_give _))
keeps_ask s q.Lookup x = keeps_text x _ (λ name. keeps_then (read.named s name) _ (keeps_named s name) (λ r. keeps_looked_up r))
keeps_ask s (q.Profile table name k) x = keeps_text x _ (λ key. keeps_then (row s table.name key) _ (keeps_row s table.name key) (λ found. keeps_of_row name.name k found))
keeps_ask s (q.HasProfile table) x = keeps_text x _ (λ key. keeps_then (row s table.name key) _ (keeps_row s table.name key) (λ found. keeps_give _))
keeps_ask s q.HasTimer x = keeps_timer_of x _ (λ r. keeps_then (read.timer s r) _ (keeps_timer s r) (λ a. keeps_give _))

keeps_combine : (joint : Joint) (x : Val) (m : Run Val) → Keeps m → Keeps (combine joint x m)
keeps_combine joint x m one = keeps_if (decides joint x) _ _ (keeps_give x) (keeps_then m _ one (λ y. keeps_apply joint x y))

keeps_node : (s : Setting) (term : Term) → Keeps (node s term)
keeps_node s (Single x) = keeps_single s x
keeps_node s (Ask question b) = keeps_then (ticked (node s b)) _ (keeps_ticked (node s b) (keeps_node s b)) (λ x. keeps_ask s question x)
keeps_node s (Compare test b c) = keeps_then (ticked (node s b)) _ (keeps_ticked (node s b) (keeps_node s b)) (λ x. keeps_then (ticked (node s c)) _ (keeps_ticked (node s c) (keeps_node s c)) (λ y. keeps_compare test x y))
keeps_node s (Combine joint b c) = keeps_then (ticked (node s b)) _ (keeps_ticked (node s b) (keeps_node s b)) (λ x. keeps_combine joint x (ticked (node s c)) (keeps_ticked (node s c) (keeps_node s c)))

pub keeps_eval : (s : Setting) (term : Term) → Keeps (eval s term)
keeps_eval s term = keeps_ticked (node s term) (keeps_node s term)
