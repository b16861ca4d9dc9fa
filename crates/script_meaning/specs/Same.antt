-- Tests whether two things are the same.
use Rattle.std.specs.Prelude.{ℕ, ℤ, int_lt, ◌==◌, Bool, true, false, ◌&&◌, not, if◌then◌else◌, List, [], ◌∷◌, Option, Some, None}
use Rattle.std.specs.Str.{bytes_eq}
use Rattle.slee_value.specs.declared.convergence.ConvName.{ConvName}
use Rattle.slee_value.specs.declared.kind.Kind.{Kind}
use Rattle.slee_value.specs.declared.kind.Kind.TheVariants as types
use Rattle.slee_value.specs.declared.value.Value.{Value}
use Rattle.slee_value.specs.declared.value.Value.TheVariants as values

-- two numbers with signs
abbrev pub same_int : ℤ → ℤ → Bool
same_int n m = not (int_lt n m) && not (int_lt m n)

-- two truth values
abbrev pub same_bool : Bool → Bool → Bool
same_bool x y = if x then y else not y

-- two options are both nothing, or hold the same
abbrev pub same_option : {A : Type 0} → (A → A → Bool) → Option A → Option A → Bool
same_option same None None = true
same_option same None (Some y) = false
same_option same (Some x) None = false
same_option same (Some x) (Some y) = same x y

-- two lists have the same members in the same order
abbrev pub same_list : {A : Type 0} → (A → A → Bool) → List A → List A → Bool
same_list same [] [] = true
same_list same [] (y ∷ ys) = false
same_list same (x ∷ xs) [] = false
same_list same (x ∷ xs) (y ∷ ys) = same x y && same_list same xs ys

-- two types of values
abbrev pub same_kind : Kind → Kind → Bool
same_kind types.Int types.Int = true
same_kind types.Text types.Text = true
same_kind types.Bool types.Bool = true
same_kind types.Activity types.Activity = true
same_kind types.Timer types.Timer = true
same_kind x y = false

-- two values
abbrev pub same_value : Value → Value → Bool
same_value (values.Int n) (values.Int m) = same_int n m
same_value (values.Text x) (values.Text y) = bytes_eq x y
same_value (values.Bool x) (values.Bool y) = same_bool x y
same_value (values.Activity x) (values.Activity y) = x.0 == y.0
same_value (values.Timer x) (values.Timer y) = x.0 == y.0
same_value x y = false

-- two named values
abbrev pub same_field : List ℕ × Value → List ℕ × Value → Bool
same_field x y = bytes_eq x.0 y.0 && same_value x.1 y.1

-- two convergence names
abbrev pub same_name : ConvName → ConvName → Bool
same_name x y =
    same_option (λ a b. a.0 == b.0) x.activity y.activity
    && (same_option bytes_eq x.address y.address
    && (same_option bytes_eq x.event_type y.event_type
    && (same_option (λ a b. a.0 == b.0) x.event y.event
    && same_option bytes_eq x.custom y.custom)))
