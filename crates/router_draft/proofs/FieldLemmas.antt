-- Fields after changes.
use Rattle.std.proofs.Common.{Less, Equal, Greater, ◌≡◌, ℕ, ◌==◌, Bool, true, false, List, refl, sym, arith, inl, inr, ap, ◌∙◌}
use Rattle.std.specs.Prelude.{not, ◌||◌, option_map, if◌then◌else◌, Some, None, nat_lt}
use Rattle.std.specs.List.{fold}
use Rattle.std.specs.Ordering.{is_lt, is_gt, is_eq, ordering_reverse}
use Rattle.std.specs.declared.cmp.Ordering.{Ordering}
use Rattle.std.specs.Str.{bytes_eq}
use Rattle.std.specs.Cmp.Lexicographic.{nat_list_cmp_total}
use Rattle.std.proofs.lemmas.Bool.{cases_Bool, and_parts}
use Rattle.std.proofs.lemmas.Bool.Decides.{nat_tests}
use Rattle.std.proofs.lemmas.Map.Text.{is_eq-slice_cmp}
use Rattle.std.proofs.lemmas.Slice.Eq.{bytes_eq-Decides}
use Rattle.slee_value.specs.Order.{byte_order, is_below}
use Rattle.slee_value.specs.declared.value.Value.{Value}
use Rattle.router_state.specs.State.{State}
use Rattle.rows_sorted.specs.Orders.{same_text, text_before}
use Rattle.router_state.specs.Fields.{field_at, field_before, with_field, without_fields}
use Rattle.router_state.specs.Changes.{after_change, after_changes}
use Rattle.router_state.specs.declared.change.Change.{Change}
use Rattle.router_state.specs.declared.change.Change.TheVariants as changes
use Rattle.router_state.specs.declared.rows.Field.{Field}
use Rattle.router_laws.proofs.ListLemmas.{find_kept, find_lost, find_put_own, find_put_other}
use Rattle.router_draft.proofs.ChangeLemmas.{through}
use Rattle.router_draft.specs.After.{field_after}

reversed : (o : Ordering) → is_lt (ordering_reverse o) ≡ is_gt o
reversed Less = refl
reversed Equal = refl
reversed Greater = refl

behind : (x y : List ℕ) → is_below y x ≡ is_gt (byte_order x y)
behind x y = ap is_lt (nat_list_cmp_total.antisymm y x) ∙ reversed (byte_order x y)

-- of two texts that aren't the same one is below the other, and not the other way round
apart : (o : Ordering) → is_eq o ≡ false → is_lt o ≡ not (is_gt o)
apart Less other = refl
apart Equal other = cc
apart Greater other = refl

alike : (o : Ordering) → is_eq o ≡ true → is_lt o ≡ false
alike Less same = cc
alike Equal same = refl
alike Greater same = cc

pub texts_apart : (x y : List ℕ) → bytes_eq x y ≡ false → is_below x y ≡ not (is_below y x)
texts_apart x y other = apart (byte_order x y) (is_eq-slice_cmp x y ∙ other) ∙ ap not (sym (behind x y))

pub texts_alike : (x y : List ℕ) → bytes_eq x y ≡ true → is_below x y ≡ false
texts_alike x y same = alike (byte_order x y) (is_eq-slice_cmp x y ∙ same)

-- a key that is the same is that key
key_is : (b : ℕ) (n : List ℕ) (e : ℕ) (m : List ℕ) → same_text b n e m ≡ true → (b ≡ e) × (n ≡ m)
key_is b n e m same =
    let parts = and_parts (b == e) (bytes_eq n m) same in
    (grind (arith, nat_tests), (bytes_eq-Decides n m).0 parts.1)

before_itself : (e : ℕ) (m : List ℕ) → text_before e m e m ≡ false
before_itself e m =
    let level : nat_lt e e ≡ false = grind (arith, nat_tests) in
    let text : is_below m m ≡ false = texts_alike m m ((bytes_eq-Decides m m).1 refl) in
    rw level (rw text (grind (arith, nat_tests)))

keys_apart : (b : ℕ) (n : List ℕ) (e : ℕ) (m : List ℕ) → same_text b n e m ≡ false → text_before e m b n ≡ not (text_before b n e m)
keys_apart b n e m other = elim (cases_Bool (b == e)) [
  | inl same ↦
      let names : bytes_eq n m ≡ false = rw same at other in
      let turned : (e == b) ≡ true = grind (arith, nat_tests) in
      let low : nat_lt e b ≡ false = grind (arith, nat_tests) in
      let high : nat_lt b e ≡ false = grind (arith, nat_tests) in
      rw (same, turned, low, high, texts_apart n m names) (sym (not_twice (is_below m n)))
  | inr differ ↦
      let turned : (e == b) ≡ false = grind (arith, nat_tests) in
      rw (differ, turned) (by (nat_lt e b) (nat_lt b e) (grind (arith, nat_tests)))
]
  where
    not_twice : (x : Bool) → not (not x) ≡ x
    not_twice true = refl
    not_twice false = refl

    by : (x y : Bool) → x ≡ not y → (x || false) ≡ not (y || false)
    by true true is = cc
    by true false is = refl
    by false true is = refl
    by false false is = cc

moved : (b : ℕ) (n : List ℕ) (e : ℕ) (m : List ℕ) (c : ℕ) (k : List ℕ) → same_text b n e m ≡ true → text_before b n c k ≡ text_before e m c k
moved b n e m c k same = let is = key_is b n e m same in rw (is.0, is.1) refl

moved_behind : (b : ℕ) (n : List ℕ) (e : ℕ) (m : List ℕ) (c : ℕ) (k : List ℕ) → same_text b n e m ≡ true → text_before c k b n ≡ text_before c k e m
moved_behind b n e m c k same = let is = key_is b n e m same in rw (is.0, is.1) refl

set_seen : (e : ℕ) (name : List ℕ) (e' : ℕ) (name' : List ℕ) (value : Value) (rows : List Field)
    → field_at (with_field rows e' name' value) e name ≡ (if same_text e' name' e name then Some value else field_at rows e name)
set_seen e name e' name' value rows =
    let row : Field = record { entity = record { 0 = e' }; name = name'; value = value } in
    let mine : Field → Bool = λ r. same_text r.entity.0 r.name e name in
    elim (cases_Bool (same_text e' name' e name)) [
      | inl same ↦
          let is = key_is e' name' e name same in
          let none : (x : Field) → mine x ≡ true → field_before x row ≡ false = λ x own. moved x.entity.0 x.name e name e' name' own ∙ (rw (is.0, is.1) (before_itself e name)) in
          ap (option_map (λ (r : Field). r.value)) (find_put_own field_before mine row rows same none) ∙ (rw same refl)
      | inr other ↦
          ap (option_map (λ (r : Field). r.value))
          (find_put_other field_before mine row rows (text_before e name e' name') (text_before e' name' e name) other (keys_apart e' name' e name other)
          (λ x own. moved x.entity.0 x.name e name e' name' own) (λ x own. moved_behind x.entity.0 x.name e name e' name' own))
          ∙ (rw other refl)
    ]

forgotten_seen : (e : ℕ) (name : List ℕ) (e' : ℕ) (rows : List Field) → field_at (without_fields rows e') e name ≡ (if e' == e then None else field_at rows e name)
forgotten_seen e name e' rows = elim (cases_Bool (e' == e)) [
  | inl same ↦ ap (option_map (λ (r : Field). r.value)) (find_lost (λ r. same_text r.entity.0 r.name e name) (λ (r : Field). not (r.entity.0 == e')) (λ (r : Field) mine. lost r.entity.0 r.name same mine) rows) ∙ (rw same refl)
  | inr other ↦ ap (option_map (λ (r : Field). r.value)) (find_kept (λ r. same_text r.entity.0 r.name e name) (λ (r : Field). not (r.entity.0 == e')) (λ (r : Field) mine. kept r.entity.0 r.name other mine) rows) ∙ (rw other refl)
]
  where
    lost : (b : ℕ) (n : List ℕ) → (e' == e) ≡ true → same_text b n e name ≡ true → not (b == e') ≡ false
    lost b n same mine = let is = key_is b n e name mine in let first = is.0 in grind (arith, nat_tests)

    kept : (b : ℕ) (n : List ℕ) → (e' == e) ≡ false → same_text b n e name ≡ true → not (b == e') ≡ true
    kept b n other mine = let is = key_is b n e name mine in let first = is.0 in grind (arith, nat_tests)

field_is : (e : ℕ) (name : List ℕ) (c : Change) (s : State) → field_at (after_change c s).fields e name ≡ field_after c e name (field_at s.fields e name)
field_is e name (changes.SetField e' name' value) s = set_seen e name e'.0 name' value s.fields
field_is e name (changes.ForgetFields e') s = forgotten_seen e name e'.0 s.fields
field_is e name _ s = refl

pub field_laid : (cs : List Change) (s : State) (e : ℕ) (name : List ℕ) → field_at (after_changes cs s).fields e name ≡ fold (λ was c. field_after c e name was) (field_at s.fields e name) cs
field_laid cs s e name = through (λ (t : State). field_at t.fields e name) (λ was c. field_after c e name was) (field_is e name) cs s
