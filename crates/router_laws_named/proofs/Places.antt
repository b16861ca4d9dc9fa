-- Places in lists, and the texts that names are.
use Rattle.std.proofs.Common.{◌≡◌, ℕ, zero, suc, ◌+◌, ◌^◌, ◌<◌, ◌≤◌, Bool, true, false, List, [], ◌∷◌, ◌++◌, length, map, position, bytes_eq, refl, sym, ap, ◌∙◌, subst, inl, inr, arith, nat_lt, IsAscii, IsUtf8}
use Rattle.std.specs.Prelude.{◌&&◌, Option, Some, None, codes, decimal, option_map, slice_get}
use Rattle.std.specs.Option.{option_map_or}
use Rattle.std.specs.List.{AllByRecursion, list_all, position_from}
use Rattle.std.specs.Str.{is_utf8}
use Rattle.std.proofs.lemmas.Bool.{and_from, and_parts, cases_Bool, eqb-true, false_from_ne_true, false≢true, lt-ltb, ltb-true}
use Rattle.std.proofs.lemmas.List.{length-append, length-map}
use Rattle.std.proofs.lemmas.Option.{same_Some, slice_get-map}
use Rattle.std.proofs.lemmas.Slice.Eq.{bytes_eq-Decides}
use Rattle.std.proofs.lemmas.Str.{IsUtf8-append, IsUtf8-from_ascii, is_utf8-from_IsUtf8}
use Rattle.slee_value.specs.Bytes.{FitsText}
use Rattle.slee_value.specs.Name.{is_name}
use Rattle.slee_value.specs.Order.{is_below, rises}
use Rattle.deploy_model.proofs.Faultless.{first_none, later_none, under_none}
use Rattle.deploy_model.specs.Rules.{Rule, entries, is_number, items_from}
use Rattle.deploy_model.specs.Faults.{under}
use Rattle.deploy_model.specs.Tables.{key_number}
use Rattle.std.proofs.lemmas.Iterator.Adapters.{position_from-zero}
use Rattle.deploy_model.specs.declared.parts.Table.{Table}
use Rattle.router_laws.proofs.OrderLemmas.{below_joins}
use Rattle.router_laws_sound.proofs.SoundFields.{not_below_itself}
use Rattle.router_state.specs.Fits.{is_text, is_u32}
use Rattle.router_laws_snapshots.specs.Named.{LeadsTo}
use Rattle.router_laws_snapshots.proofs.Gathering.{InPairs, all_weaker}
use Rattle.router_laws_snapshots.proofs.Fitting.{name_fits, place_there, short_name}

-- ---- texts

text_of : (text : List ℕ) → FitsText text → is_text text ≡ true
text_of text fits = and_from (is_utf8 text) (is_u32 (length text)) (is_utf8-from_IsUtf8 text fits.utf8) (lt-ltb (length text) (2 ^ 32) fits.short)

pub name_text : (name : List ℕ) → is_name name ≡ true → is_text name ≡ true
name_text name is = text_of name (name_fits name is)

-- bytes below 128, so many that their count has 32 bits
abbrev pub is_plain : List ℕ → Bool
is_plain bytes = list_all (λ b. nat_lt b 128) bytes && is_u32 (length bytes)

ascii : (bytes : List ℕ) → list_all (λ b. nat_lt b 128) bytes ≡ true → IsAscii bytes
ascii [] is i = omega arith
ascii (b ∷ bytes) is zero = ltb-true b 128 (and_parts (nat_lt b 128) (list_all (λ b. nat_lt b 128) bytes) is).0
ascii (b ∷ bytes) is (suc i) = ascii bytes (and_parts (nat_lt b 128) (list_all (λ b. nat_lt b 128) bytes) is).1 i

pub plain_text : (text : List ℕ) → is_plain text ≡ true → is_text text ≡ true
plain_text text is =
    let parts = and_parts (list_all (λ b. nat_lt b 128) text) (is_u32 (length text)) is in
    and_from (is_utf8 text) (is_u32 (length text)) (is_utf8-from_IsUtf8 text (IsUtf8-from_ascii text (ascii text parts.0))) parts.1

-- two names with a dot between
pub dotted_text : (x y : List ℕ) → is_name x ≡ true → is_name y ≡ true → is_text (x ++ codes "." ++ y) ≡ true
dotted_text x y one two =
    let a = name_fits x one in
    let b = name_fits y two in
    let dot : IsUtf8 (codes ".") = IsUtf8-from_ascii (codes ".") (ascii (codes ".") refl) in
    text_of (x ++ codes "." ++ y) (record {
      utf8 = IsUtf8-append (x ++ codes ".") y (IsUtf8-append x (codes ".") a.utf8 dot) b.utf8;
      short = small (length (x ++ codes "." ++ y)) (length (x ++ codes ".")) (length x) (length y) (length-append (x ++ codes ".") y) (length-append x (codes ".")) (short_name x one) (short_name y two);
    })
  where
    small : (n i k j : ℕ) → n ≡ i + j → i ≡ k + 1 → k ≤ 64 → j ≤ 64 → n < 2 ^ 32
    small n i k j is front one two = omega (arith, is, front, one, two)

-- ---- places

-- the item at a place of a list that is made item by item
pub made_there : {A B : Type 0} (f : A → B) (xs : List A) (n : ℕ) (y : B) → slice_get (map f xs) n ≡ Some y → (x : A) × (slice_get xs n ≡ Some x) × (f x ≡ y)
made_there f [] n y is = absurd (cc)
made_there f (x ∷ xs) zero y is = (x, refl, same_Some (f x) y is)
made_there f (x ∷ xs) (suc n) y is = made_there f xs n y is

pub place_holds : {A : Type 0} (P : A → Type 0) (xs : List A) (n : ℕ) (x : A) → slice_get xs n ≡ Some x → AllByRecursion P xs → P x
place_holds P [] n x is all = absurd (cc)
place_holds P (y ∷ xs) zero x is all = subst P (same_Some y x is) all.0
place_holds P (y ∷ xs) (suc n) x is all = place_holds P xs n x is all.1

-- what the rule for items leaves faultless at a place
pub item_rule : {A : Type 0} (rule : ℕ → Rule A) (n m k : ℕ) (xs : List A) (x : A) → k ≡ n + m → items_from rule n xs ≡ None → slice_get xs m ≡ Some x → rule k x ≡ None
item_rule rule n m k [] x place none is = absurd (cc)
item_rule {A} rule n zero k (y ∷ xs) x place none is =
    let own = under_none (decimal n) (rule n y) (first_none (under (decimal n) (rule n y)) (items_from rule (n + 1) xs) none) in
    let same : n ≡ k = omega (arith, place) in
    subst (λ (z : A). rule k z ≡ None) (same_Some y x is) (subst (λ i. rule i y ≡ None) same own)
item_rule rule n (suc m) k (y ∷ xs) x place none is =
    item_rule rule (n + 1) m k xs x (next n m k place) (later_none (under (decimal n) (rule n y)) (items_from rule (n + 1) xs) none) is
  where
    next : (n m k : ℕ) → k ≡ n + suc m → k ≡ n + 1 + m
    next n m k is = omega (arith, is)

-- what follows from the rule for members holds of each
pub each_entry : {A : Type 0} (name : A → List ℕ) (rule : Rule A) (P : A → Type 0) → ((x : A) → rule x ≡ None → P x) → (xs : List A) → entries name rule xs ≡ None → AllByRecursion P xs
each_entry name rule P each [] none = tt
each_entry name rule P each (x ∷ xs) none = (
  each x (under_none (name x) (rule x) (first_none (under (name x) (rule x)) (entries name rule xs) none)),
  each_entry name rule P each xs (later_none (under (name x) (rule x)) (entries name rule xs) none),
)

pub number_is : (n : ℕ) (o : Option ℕ) → is_number n o ≡ true → o ≡ Some n
number_is n None is = absurd (cc)
number_is n (Some m) is = ap (λ k. Some k) (sym (eqb-true n m is))

-- a place that is found is one of the list
place_within : {A : Type 0} (p : A → Bool) (n : ℕ) (xs : List A) (m : ℕ) → position_from p n xs ≡ Some m → m < n + length xs
place_within p n [] m is = absurd (cc)
place_within p n (x ∷ xs) m is = elim (cases_Bool (p x)) [
  | inl here ↦ first n m (length xs) (same_Some n m (rw here at is))
  | inr later ↦ behind n m (length xs) (place_within p (n + 1) xs m (rw later at is))
]
  where
    first : (n m k : ℕ) → n ≡ m → m < n + suc k
    first n m k is = omega (arith, is)

    behind : (n m k : ℕ) → m < n + 1 + k → m < n + suc k
    behind n m k less = omega (arith, less)

pub number_within : {A : Type 0} (key : A → List ℕ) (xs : List A) (q : List ℕ) (m : ℕ) → key_number key xs q ≡ Some m → m < length xs
number_within key xs q m is = from_none m (length xs) (place_within (λ x. bytes_eq q (key x)) 0 xs m is)
  where
    from_none : (m k : ℕ) → m < 0 + k → m < k
    from_none m k less = omega (arith, less)

turned : (x y : List ℕ) → bytes_eq x y ≡ bytes_eq y x
turned x y = elim (cases_Bool (bytes_eq x y)) [
  | inl is ↦ is ∙ sym ((bytes_eq-Decides y x).1 (sym ((bytes_eq-Decides x y).0 is)))
  | inr isnt ↦ isnt ∙ sym (false_from_ne_true (bytes_eq y x) (λ is. false≢true (sym isnt ∙ (bytes_eq-Decides x y).1 (sym ((bytes_eq-Decides y x).0 is)))))
]

place_made : {A B : Type 0} (f : A → B) (key : B → List ℕ) (q : List ℕ) (xs : List A) (n : ℕ) → position_from (λ b. bytes_eq (key b) q) n (map f xs) ≡ position_from (λ x. bytes_eq q (key (f x))) n xs
place_made f key q [] n = refl
place_made f key q (x ∷ xs) n = rw (turned (key (f x)) q, place_made f key q xs (n + 1)) refl

-- an item whose key is a name that stands for its place leads back to it
pub leads_back : {A B : Type 0} (f : A → B) (key : B → List ℕ) (xs : List A) → ((m : ℕ) (x : A) → slice_get xs m ≡ Some x → key_number (λ x. key (f x)) xs (key (f x)) ≡ Some m) → AllByRecursion (λ x. is_name (key (f x)) ≡ true) xs
    → (n : ℕ) → n < length (map f xs) → LeadsTo (λ q. position (λ b. bytes_eq (key b) q) (map f xs)) (option_map_or key (slice_get (map f xs) n) []) n
leads_back {A} {B} f key xs own names n less =
    let found = place_there xs n (subst (λ k. n < k) (length-map xs f) less) in
    let there : slice_get (map f xs) n ≡ Some (f found.0) = slice_get-map f xs n ∙ ap (λ o. option_map f o) found.1 in
    rw there (record {
      text = name_text (key (f found.0)) (place_holds (λ (x : A). is_name (key (f x)) ≡ true) xs n found.0 found.1 names);
      number = position_from-zero (λ b. bytes_eq (key b) (key (f found.0))) (map f xs) ∙ place_made f key (key (f found.0)) xs 0 ∙ own n found.0 found.1;
    })

-- ---- tables, whose names rise

rising_pairs : (tables : List Table) → rises (map (λ (t : Table). t.name) tables) ≡ true → InPairs (λ (x y : Table). is_below x.name y.name ≡ true) tables
rising_pairs [] rise = tt
rising_pairs (x ∷ []) rise = (tt, tt)
rising_pairs (x ∷ y ∷ tables) rise =
    let parts = and_parts (is_below x.name y.name) (rises (map (λ (t : Table). t.name) (y ∷ tables))) rise in
    let more = rising_pairs (y ∷ tables) parts.1 in
    ((parts.0, all_weaker (λ (z : Table). is_below y.name z.name ≡ true) (λ z. is_below x.name z.name ≡ true) tables (λ z later. below_joins x.name y.name z.name parts.0 later) more.0), more)

other_name : (x y : List ℕ) → is_below x y ≡ true → bytes_eq y x ≡ false
other_name x y below = false_from_ne_true (bytes_eq y x) (λ is. false≢true (sym (not_below_itself x) ∙ subst (λ z. is_below x z ≡ true) ((bytes_eq-Decides y x).0 is) below))

number_from : (n m k : ℕ) (tables : List Table) (t : Table) → k ≡ n + m → InPairs (λ (x y : Table). is_below x.name y.name ≡ true) tables → slice_get tables m ≡ Some t → position_from (λ (x : Table). bytes_eq t.name x.name) n tables ≡ Some k
number_from n m k [] t place order is = absurd (cc)
number_from n zero k (x ∷ tables) t place order is =
    let own : bytes_eq t.name x.name ≡ true = (bytes_eq-Decides t.name x.name).1 (ap (λ (y : Table). y.name) (sym (same_Some x t is))) in
    rw own (ap (λ i. Some i) (here n k place))
  where
    here : (n k : ℕ) → k ≡ n + 0 → n ≡ k
    here n k is = omega (arith, is)
number_from n (suc m) k (x ∷ tables) t place order is =
    let other : bytes_eq t.name x.name ≡ false = other_name x.name t.name (place_holds (λ (y : Table). is_below x.name y.name ≡ true) tables m t is order.0) in
    rw other (number_from (n + 1) m k tables t (next n m k place) order.1 is)
  where
    next : (n m k : ℕ) → k ≡ n + suc m → k ≡ n + 1 + m
    next n m k is = omega (arith, is)

-- where names rise, each name stands for its own place
pub table_number : (tables : List Table) → rises (map (λ (t : Table). t.name) tables) ≡ true → (m : ℕ) (t : Table) → slice_get tables m ≡ Some t → key_number (λ (t : Table). t.name) tables t.name ≡ Some m
table_number tables rise m t is = number_from 0 m m tables t (from_none m) (rising_pairs tables rise) is
  where
    from_none : (m : ℕ) → m ≡ 0 + m
    from_none m = omega arith
