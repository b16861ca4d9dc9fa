-- The convergence name that an event selects fits.
use Rattle.deploy_model.specs.Deployed.{CustomChoice, Deployed, Handling, event_type, is_event}
use Rattle.deploy_model.specs.declared.choice.SelectRule.{SelectRule}
use Rattle.deploy_model.specs.declared.choice.Variable.{Variable}
use Rattle.deploy_model.specs.declared.parts.EventType.{EventType}
use Rattle.router_laws_sound.proofs.SoundBase.{found_passes}
use Rattle.router_state.specs.Fits.{is_drawn, is_text, is_u32, is_value, none_or}
use Rattle.router_state.specs.WellEntities.{is_conv}
use Rattle.router_state.specs.declared.rows.Activity.{Activity}
use Rattle.router_state.specs.declared.rows.Event.{Event}
use Rattle.router_state.specs.declared.rows.Timer.{Timer}
use Rattle.router_steps.specs.Selection.{Candidate, before_colon, custom_name, name_by_handling, name_by_variables, no_variable, root_handling, selected, text_by_choice, text_field, text_of, with_variable}
use Rattle.script_meaning.specs.Answers.{initial}
use Rattle.script_types.specs.TypingResult.{known}
use Rattle.slee_value.specs.Name.{is_digit}
use Rattle.slee_value.specs.declared.convergence.ConvName.{ConvName}
use Rattle.slee_value.specs.declared.value.Value.{Value}
use Rattle.std.proofs.Common.{Bool, List, None, Option, Some, [], arith, false, filter, inl, inr, refl, subst, suc, true, zero, ℕ, ◌<◌, ◌==◌, ◌^◌, ◌∷◌, ◌≡◌, ◌≤◌}
use Rattle.std.proofs.lemmas.Bool.{and_from, and_parts, cases_Bool, cond_both, lt-ltb, ltb-true}
use Rattle.std.proofs.lemmas.Bool.Decides.{nat_tests}
use Rattle.std.proofs.lemmas.List.{length-take-le}
use Rattle.std.proofs.lemmas.List.Sums.{prefix_len-le-length, prefix_len_stops}
use Rattle.std.proofs.lemmas.Str.{IsCharBoundary-before_ascii, IsCharBoundary-end, IsUtf8-from_ascii, IsUtf8-from_is_utf8, IsUtf8-nil, IsUtf8-take, is_utf8-from_IsUtf8}
use Rattle.std.proofs.lemmas.Str.Ascii.{IsAscii-nil}
use Rattle.std.specs.List.{fold, list_all, prefix_len, starts_with}
use Rattle.std.specs.Option.{option_map_or, unwrap_or}
use Rattle.std.specs.Prelude.{bytes_eq, codes, find, get_or, length, nat_eq, nat_lt, not, option_and_then, option_map, take, ◌&&◌}
use Rattle.std.specs.Str.{IsAscii, IsCharBoundary, IsUtf8, is_utf8}
use Rattle.deploy_model.specs.declared.choice.SelectRule.TheVariants as rules
use Rattle.slee_value.specs.declared.value.Value.TheVariants as values
use Rattle.deploy_model.specs.declared.choice.Variable.TheVariants as variables

-- texts

utf8_text : (text : List ℕ) → IsUtf8 text → is_u32 (length text) ≡ true → is_text text ≡ true
utf8_text text utf8 short = and_from (is_utf8 text) _ (is_utf8-from_IsUtf8 text utf8) short

empty_text : is_text [] ≡ true
empty_text = utf8_text [] IsUtf8-nil refl

ascii_cons : (b : ℕ) (bs : List ℕ) → b < 128 → IsAscii bs → IsAscii (b ∷ bs)
ascii_cons b bs less all zero = less
ascii_cons b bs less all (suc i) = all i

digit_less : (b : ℕ) → is_digit b ≡ true → b < 128
digit_less b is = grind (arith, nat_tests)

-- the first three of digits
three : (ys : List ℕ) → list_all is_digit ys ≡ true → is_text (take 3 ys) ≡ true
three [] all = empty_text
three (a ∷ []) all = utf8_text (a ∷ []) (IsUtf8-from_ascii (a ∷ []) (ascii_cons a [] (digit_less a (and_parts (is_digit a) _ all).0) IsAscii-nil)) refl
three (a ∷ b ∷ []) all =
    let one = and_parts (is_digit a) _ all in
    utf8_text (a ∷ b ∷ []) (IsUtf8-from_ascii (a ∷ b ∷ []) (ascii_cons a (b ∷ []) (digit_less a one.0) (ascii_cons b [] (digit_less b (and_parts (is_digit b) _ one.1).0) IsAscii-nil))) refl
three (a ∷ b ∷ c ∷ ys) all =
    let one = and_parts (is_digit a) _ all in
    let two = and_parts (is_digit b) _ one.1 in
    utf8_text (a ∷ b ∷ c ∷ []) (IsUtf8-from_ascii (a ∷ b ∷ c ∷ []) (ascii_cons a (b ∷ c ∷ []) (digit_less a one.0) (ascii_cons b (c ∷ []) (digit_less b two.0) (ascii_cons c [] (digit_less c (and_parts (is_digit c) _ two.1).0) IsAscii-nil)))) refl

digits_kept : (xs : List ℕ) → list_all is_digit (filter is_digit xs) ≡ true
digits_kept [] = refl
digits_kept (x ∷ xs) = cond_both (is_digit x) (x ∷ filter is_digit xs) (filter is_digit xs) (λ ys. list_all is_digit ys ≡ true) (λ is. and_from (is_digit x) _ is (digits_kept xs)) (λ _. digits_kept xs)

-- the bytes before a colon are a text
scheme_text : (input : List ℕ) → is_text input ≡ true → is_text (before_colon input) ≡ true
scheme_text input fits =
    let both = and_parts (is_utf8 input) _ fits in
    let i = prefix_len (λ b. not (b == 58)) input in
    let le = prefix_len-le-length (λ b. not (b == 58)) input in
    let utf8 = IsUtf8-from_is_utf8 input both.0 in
    utf8_text (take i input) (IsUtf8-take input i utf8 (boundary (nat_lt i (length input)) refl le))
    (lt-ltb (length (take i input)) (2 ^ 32) (shorter (length (take i input)) i (length input) (2 ^ 32) (length-take-le i input le) le (ltb-true (length input) (2 ^ 32) both.1)))
  where
    shorter : (a i n m : ℕ) → a ≡ i → i ≤ n → n < m → a < m
    shorter a i n m is le less = omega (arith, is, le, less)

    at_end : (i n : ℕ) → nat_lt i n ≡ false → i ≤ n → n ≡ i
    at_end i n isnt le = grind (arith, nat_tests)

    ascii : (b : ℕ) → not (b == 58) ≡ false → b < 128
    ascii b is = grind (arith, nat_tests)

    boundary : (b : Bool) → nat_lt (prefix_len (λ b. not (b == 58)) input) (length input) ≡ b → prefix_len (λ b. not (b == 58)) input ≤ length input → IsCharBoundary input (prefix_len (λ b. not (b == 58)) input)
    boundary true less le =
        let inside = ltb-true (prefix_len (λ b. not (b == 58)) input) (length input) less in
        IsCharBoundary-before_ascii input (prefix_len (λ b. not (b == 58)) input) inside (ascii (get_or input (prefix_len (λ b. not (b == 58)) input) 0) (prefix_len_stops (λ b. not (b == 58)) input 0 inside))
    boundary false isnt le = subst (IsCharBoundary input) (at_end (prefix_len (λ b. not (b == 58)) input) (length input) isnt le) (IsCharBoundary-end input)

some_same : {X : Type 0} {x y : X} → Some x ≡ Some y → x ≡ y
some_same same = cc

custom_fits : (rule : SelectRule) (input text : List ℕ) → is_text input ≡ true → custom_name rule input ≡ Some text → is_text text ≡ true
custom_fits rules.Whole input text fits is = subst (λ t. is_text t ≡ true) (some_same is) fits
custom_fits rules.Digits3 input text fits is = subst (λ t. is_text t ≡ true) (some_same is) (three (filter is_digit input) (digits_kept input))
custom_fits rules.Scheme input text fits is = subst (λ t. is_text t ≡ true) (some_same is) (scheme_text input fits)
custom_fits rules.Screened input text fits is = elim (cases_Bool (starts_with nat_eq input (codes "anon:"))) [
  | inl hidden ↦ (let none : None ≡ Some text = rw hidden at is in absurd (cc))
  | inr shown ↦ (let same : Some input ≡ Some text = rw shown at is in subst (λ t. is_text t ≡ true) (some_same same) fits)
]

-- fields that are texts
field_fits : (n m : ℕ) (fields : List (List ℕ × Value)) (name : List ℕ) → list_all (λ (field : List ℕ × Value). is_value n m field.1) fields ≡ true → is_text (text_field fields name) ≡ true
field_fits n m fields name all = by (find (λ (field : List ℕ × Value). bytes_eq field.0 name) fields) refl
  where
    text : (v : Value) → is_value n m v ≡ true → is_text (text_of v) ≡ true
    text (values.Int z) fits = empty_text
    text (values.Text t) fits = fits
    text (values.Bool b) fits = empty_text
    text (values.Activity a) fits = empty_text
    text (values.Timer t) fits = empty_text

    by : (o : Option (List ℕ × Value)) → find (λ (field : List ℕ × Value). bytes_eq field.0 name) fields ≡ o → is_text (option_map_or text_of (option_map (λ (field : List ℕ × Value). field.1) (find (λ (field : List ℕ × Value). bytes_eq field.0 name) fields)) []) ≡ true
    by None found = rw found empty_text
    by (Some field) found = rw found (text field.1 (found_passes (λ (f : List ℕ × Value). is_value n m f.1) (λ (f : List ℕ × Value). bytes_eq f.0 name) fields field found all).0)

-- what is asked of a candidate
pub record CanSelect (d : Deployed) (n m k : ℕ) (x : Candidate) : Type 0 where
  pub activity : is_drawn n x.activity ≡ true
  pub event : is_drawn k x.event ≡ true
  pub known : is_event d x.name ≡ true
  pub fields : list_all (λ (field : List ℕ × Value). is_value n m field.1) x.fields ≡ true

none_fits : (d : Deployed) (n k : ℕ) → is_conv d n k no_variable ≡ true
none_fits d n k = refl

variable_fits : (d : Deployed) (n m k : ℕ) (x : Candidate) (custom : List ℕ) → CanSelect d n m k x → is_text custom ≡ true → (name : ConvName) (v : Variable) → is_conv d n k name ≡ true → is_conv d n k (with_variable x custom name v) ≡ true
variable_fits d n m k x custom can text name v is =
    let p = and_parts (none_or (λ a. is_drawn n a.0) name.activity) _ is in
    let q = and_parts (none_or is_text name.address) _ p.1 in
    let r = and_parts (none_or (is_event d) name.event_type) _ q.1 in
    let t = and_parts (none_or (λ v. is_drawn k v.0) name.event) (none_or is_text name.custom) r.1 in
    by v p.0 q.0 r.0 t.0 t.1
  where
    all : (a b c e f : Bool) → a ≡ true → b ≡ true → c ≡ true → e ≡ true → f ≡ true → (a && (b && (c && (e && f)))) ≡ true
    all a b c e f one two three four five = rw (one, two, three, four, five) refl

    by : (v : Variable) → none_or (λ a. is_drawn n a.0) name.activity ≡ true → none_or is_text name.address ≡ true → none_or (is_event d) name.event_type ≡ true → none_or (λ v. is_drawn k v.0) name.event ≡ true → none_or is_text name.custom ≡ true
        → is_conv d n k (with_variable x custom name v) ≡ true
    by variables.Activity a b c e f = all (is_drawn n x.activity) (none_or is_text name.address) (none_or (is_event d) name.event_type) (none_or (λ v. is_drawn k v.0) name.event) (none_or is_text name.custom) can.activity b c e f
    by variables.Address a b c e f = all (none_or (λ a. is_drawn n a.0) name.activity) (is_text (text_field x.fields (codes "addr"))) (none_or (is_event d) name.event_type) (none_or (λ v. is_drawn k v.0) name.event) (none_or is_text name.custom) a (field_fits n m x.fields (codes "addr") can.fields) c e f
    by variables.EventType a b c e f = all (none_or (λ a. is_drawn n a.0) name.activity) (none_or is_text name.address) (is_event d x.name) (none_or (λ v. is_drawn k v.0) name.event) (none_or is_text name.custom) a b can.known e f
    by variables.Event a b c e f = all (none_or (λ a. is_drawn n a.0) name.activity) (none_or is_text name.address) (none_or (is_event d) name.event_type) (is_drawn k x.event) (none_or is_text name.custom) a b c can.event f
    by variables.Custom a b c e f = all (none_or (λ a. is_drawn n a.0) name.activity) (none_or is_text name.address) (none_or (is_event d) name.event_type) (none_or (λ v. is_drawn k v.0) name.event) (is_text custom) a b c e text

fold_keeps : {A X : Type 0} (P : A → Type 0) (f : A → X → A) (xs : List X) (z : A) → ((z : A) (x : X) → P z → P (f z x)) → P z → P (fold f z xs)
fold_keeps P f [] z each first = first
fold_keeps P f (x ∷ xs) z each first = fold_keeps P f xs (f z x) each (each z x first)

mapped : {X Y : Type 0} (P : Y → Type 0) (f : X → Y) (o : Option X) (y : Y) → option_map f o ≡ Some y → ((x : X) → o ≡ Some x → P (f x)) → P y
mapped P f None y is each = absurd (cc)
mapped P f (Some x) y is each = subst P (some_same is) (each x refl)

chosen_text : (n m : ℕ) (choice : Option CustomChoice) (x : Candidate) (text : List ℕ) → list_all (λ (field : List ℕ × Value). is_value n m field.1) x.fields ≡ true → text_by_choice choice x ≡ Some text → is_text text ≡ true
chosen_text n m None x text fits is = subst (λ t. is_text t ≡ true) (some_same is) empty_text
chosen_text n m (Some custom) x text fits is = custom_fits custom.rule (text_field x.fields custom.field) text (field_fits n m x.fields custom.field fits) is

pub selected_fits : (d : Deployed) (n m k service : ℕ) (x : Candidate) (name : ConvName) → CanSelect d n m k x → selected d service x ≡ Some name → is_conv d n k name ≡ true
selected_fits d n m k service x name can is = by (root_handling d service x.name) is
  where
    by : (o : Option Handling) → option_and_then (λ handling. name_by_handling handling x) o ≡ Some name → is_conv d n k name ≡ true
    by None is = absurd (cc)
    by (Some handling) is =
        mapped (λ y. is_conv d n k y ≡ true) (name_by_variables handling x) (text_by_choice handling.custom x) name is
        (λ text found. fold_keeps (λ y. is_conv d n k y ≡ true) (with_variable x text) (unwrap_or handling.initial []) no_variable (variable_fits d n m k x text can (chosen_text n m handling.custom x text can.fields found)) (none_fits d n k))
