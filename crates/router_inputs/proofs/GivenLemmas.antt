-- Values that words give are of the declared types, and their names are the declared ones.
use Rattle.std.proofs.Common.{◌≡◌, ℕ, Bool, true, false, List, [], ◌∷◌, Option, Some, None, ℤ, refl}
use Rattle.std.specs.Prelude.{◌==◌, bytes_eq, option_map, option_and_then, length, if◌then◌else◌}
use Rattle.std.proofs.lemmas.Slice.Eq.{bytes_eq-Decides}
use Rattle.slee_value.specs.declared.kind.Kind.{Kind}
use Rattle.slee_value.specs.declared.kind.Kind.TheVariants as kinds
use Rattle.slee_value.specs.declared.value.Value.{Value}
use Rattle.slee_value.specs.declared.value.Value.TheVariants as values
use Rattle.script_types.specs.declared.codes.FieldCode.{FieldCode}
use Rattle.trace_history.specs.Decimals.{int_in}
use Rattle.router_state.specs.Fits.{are_declared, is_of_kind}
use Rattle.router_steps.specs.Values.{bool_in, fields_given, text_given, value_given, value_in, values_given}

int_given : (o : Option ℤ) (value : Value) → option_map values.Int o ≡ Some value → is_of_kind kinds.Int value ≡ true
int_given None value is = absurd (cc)
int_given (Some n) value is = let own : values.Int n ≡ value = cc in rw (← own) refl

bool_given : (o : Option Bool) (value : Value) → option_map values.Bool o ≡ Some value → is_of_kind kinds.Bool value ≡ true
bool_given None value is = absurd (cc)
bool_given (Some b) value is = let own : values.Bool b ≡ value = cc in rw (← own) refl

of_kind : (kind : Kind) (text : List ℕ) (value : Value) → value_in kind text ≡ Some value → is_of_kind kind value ≡ true
of_kind kinds.Int text value is = int_given (int_in text) value is
of_kind kinds.Text text value is = let own : values.Text text ≡ value = cc in rw (← own) refl
of_kind kinds.Bool text value is = bool_given (bool_in text) value is
of_kind kinds.Activity text value is = absurd (cc)
of_kind kinds.Timer text value is = absurd (cc)

one_given : (field : FieldCode) (words : List (List ℕ × List ℕ)) (value : Value) → value_given field words ≡ Some value → is_of_kind field.kind value ≡ true
one_given field words value is = by (text_given field.name words) is
  where
    by : (o : Option (List ℕ)) → option_and_then (value_in field.kind) o ≡ Some value → is_of_kind field.kind value ≡ true
    by None none = absurd (cc)
    by (Some text) some = of_kind field.kind text value some

same_text : (bs : List ℕ) → bytes_eq bs bs ≡ true
same_text bs = (bytes_eq-Decides bs bs).1 refl

all_declared : (fields : List FieldCode) (words : List (List ℕ × List ℕ)) (given : List (List ℕ × Value)) → values_given fields words ≡ Some given → are_declared fields given ≡ true
all_declared [] words given is = let own : [] ≡ given = cc in rw (← own) refl
all_declared (field ∷ fields) words given is = by (value_given field words) (values_given fields words) refl (λ others more. all_declared fields words others more) is
  where
    by : (o : Option Value) (os : Option (List (List ℕ × Value))) → value_given field words ≡ o → ((others : List (List ℕ × Value)) → os ≡ Some others → are_declared fields others ≡ true)
        → option_and_then (λ value. option_map (λ more. (field.name, value) ∷ more) os) o ≡ Some given → are_declared (field ∷ fields) given ≡ true
    by None os one more none = absurd (cc)
    by (Some value) None one more none = absurd (cc)
    by (Some value) (Some others) one more some =
        let own : ((field.name, value) ∷ others) ≡ given = cc in
        let first = same_text field.name in
        let kind = one_given field words value one in
        let rest = more others refl in
        rw (← own, first, kind, rest) refl

pub given_are_declared : (fields : List FieldCode) (words : List (List ℕ × List ℕ)) (given : List (List ℕ × Value)) → fields_given fields words ≡ Some given → are_declared fields given ≡ true
given_are_declared fields words given is = by (length words == length fields) is
  where
    by : (b : Bool) → (if b then values_given fields words else None) ≡ Some given → are_declared fields given ≡ true
    by true some = all_declared fields words given some
    by false none = absurd (cc)
