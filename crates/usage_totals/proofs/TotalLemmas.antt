-- Totals with one amount more.
use Rattle.std.proofs.Common.{◌≡◌, ℕ, zero, suc, ◌+◌, ◌<◌, ◌≤◌, Bool, true, false, List, [], ◌∷◌, ◌++◌, length, get_or, refl, sym, ap, ◌∙◌, subst, arith, Some, None, map, inl, inr, slice_get}
use Rattle.std.proofs.Common.{ℤ, pos, ◌+ℤ◌, FitsSigned, w64}
use Rattle.std.specs.Prelude.{◌&&◌, negsuc, set, Option, IfSome, filter}
use Rattle.std.specs.List.{AllByRecursion, position_from, list_any, fold}
use Rattle.std.specs.Option.{is_some, option_map_or}
use Rattle.std.specs.Str.{bytes_eq}
use Rattle.std.proofs.lemmas.Bool.{cases_Bool}
use Rattle.std.proofs.lemmas.Int.{ints}
use Rattle.rows_sorted.specs.Keys.{is_key, key_before, text_key, Rises}
use Rattle.rows_sorted.specs.Orders.{put, rises_by}
use Rattle.rows_sorted.proofs.OrderLemmas.{all_filter, all_from_all}
use Rattle.rows_sorted.proofs.HalvingLemmas.{any_is}
use Rattle.rows_sorted.proofs.ChangeLemmas.{changed_is}
use Rattle.signal_script.specs.Lines.{lines_of, words_of}
use Rattle.usage_totals.specs.Bounds.{IsWithin, AreWithin}
use Rattle.usage_totals.specs.Usage.{usage_in}
use Rattle.usage_totals.specs.Totals.{raised, total_before, total_key, with_amount, with_line}
use Rattle.usage_totals.specs.declared.total.Total.{Total}

-- the amount of a usage line is added
pub line_adds : (rows new : List Total) (line name : List ℕ) (amount : ℤ) → Some (name, amount) ≡ usage_in (words_of line) → new ≡ with_amount name amount rows → new ≡ with_line rows line
line_adds rows new line name amount is added = added ∙ ap (λ o. option_map_or (λ usage. with_amount usage.0 usage.1 rows) o rows) is

-- another line adds nothing
pub nothing_added : (rows : List Total) (line : List ℕ) → None ≡ usage_in (words_of line) → rows ≡ with_line rows line
nothing_added rows line is = ap (λ o. option_map_or (λ (usage : List ℕ × ℤ). with_amount usage.0 usage.1 rows) o rows) is

-- a line more
pub line_folded : (rows new : List Total) (rest line after : List ℕ) (all : List Total) → lines_of rest ≡ line ∷ lines_of after → new ≡ with_line rows line → fold with_line rows (lines_of rest) ≡ all
    → fold with_line new (lines_of after) ≡ all
line_folded rows new rest line after all cut is same = rw is (ap (fold with_line rows) (sym cut) ∙ same)

wider : (n m : ℕ) (row : Total) → n ≤ m → IsWithin n row → IsWithin m row
wider n m row le is =
    let low = is.low in
    let high = is.high in
    record {
      count = omega (arith, is.count, le);
      low = omega (arith, ints);
      high = omega (arith, ints);
    }

pub within_wider : (n m : ℕ) (rows : List Total) → n ≤ m → AreWithin n rows → AreWithin m rows
within_wider n m rows le all = all_from_all (IsWithin n) (IsWithin m) (λ row is. wider n m row le is) rows all

-- a total at its place
pub within_at : (n place : ℕ) (rows : List Total) (row : Total) → AreWithin n rows → place < length rows → IsWithin n (get_or rows place row)
within_at n place [] row all there = absurd (omega (arith, there))
within_at n zero (x ∷ rows) row all there = all.0
within_at n (suc place) (x ∷ rows) row all there = within_at n place rows row all.1 (omega (arith, there))

one_more : (n : ℕ) (row : Total) (amount : ℤ) → FitsSigned w64 amount → IsWithin n row → IsWithin (n + 1) (record row { count = row.count + 1; sum = row.sum +ℤ amount })
one_more n row (pos a) fits is =
    let small = fits.sfits in
    let low = is.low in
    let high = is.high in
    record { count = omega (arith, is.count); low = omega (arith, ints); high = omega (arith, ints) }
one_more n row (negsuc a) fits is =
    let small = fits.sfits in
    let low = is.low in
    let high = is.high in
    record { count = omega (arith, is.count); low = omega (arith, ints); high = omega (arith, ints) }

raised_within : (n : ℕ) (row : Total) (name : List ℕ) (amount : ℤ) → FitsSigned w64 amount → IsWithin n row → IsWithin (n + 1) (raised name amount row)
raised_within n row name amount fits is = elim (cases_Bool (bytes_eq row.name name)) [
  | inl mine ↦ rw mine (one_more n row amount fits is)
  | inr other ↦ rw other (wider n (n + 1) row (omega arith) is)
]

all_raised : (n : ℕ) (rows : List Total) (name : List ℕ) (amount : ℤ) → FitsSigned w64 amount → AreWithin n rows → AreWithin (n + 1) (map (raised name amount) rows)
all_raised n [] name amount fits all = tt
all_raised n (row ∷ rows) name amount fits all = (raised_within n row name amount fits all.0, all_raised n rows name amount fits all.1)

first_within : (n : ℕ) (name : List ℕ) (amount : ℤ) → FitsSigned w64 amount → IsWithin (n + 1) (record { name = name; count = 1; sum = amount })
first_within n name (pos a) fits = let small = fits.sfits in record { count = omega arith; low = omega (arith, ints); high = omega (arith, ints) }
first_within n name (negsuc a) fits = let small = fits.sfits in record { count = omega arith; low = omega (arith, ints); high = omega (arith, ints) }

all_joined : {Row : Type 0} (P : Row → Type 0) (xs zs : List Row) → AllByRecursion P xs → AllByRecursion P zs → AllByRecursion P (xs ++ zs)
all_joined P [] zs all also = also
all_joined P (x ∷ xs) zs all also = (all.0, all_joined P xs zs all.1 also)

all_put : (n : ℕ) (rows : List Total) (row : Total) → IsWithin n row → AreWithin n rows → AreWithin n (put total_before row rows)
all_put n rows row is all =
    all_joined (IsWithin n) (filter (λ other. total_before other row) rows) (row ∷ filter (λ other. total_before row other) rows)
    (all_filter (IsWithin n) (λ other. total_before other row) rows all) (is, all_filter (IsWithin n) (λ other. total_before row other) rows all)

-- an amount more
pub within_more : (n : ℕ) (rows new : List Total) (name : List ℕ) (amount : ℤ) → FitsSigned w64 amount → new ≡ with_amount name amount rows → AreWithin n rows → AreWithin (n + 1) new
within_more n rows new name amount fits is all = subst (AreWithin (n + 1)) (sym is) (elim (cases_Bool (list_any (λ (row : Total). bytes_eq row.name name) rows)) [
  | inl there ↦ rw there (all_raised n rows name amount fits all)
  | inr not_there ↦ rw not_there (all_put (n + 1) rows _ (first_within n name amount fits) (within_wider n (n + 1) rows (omega arith) all))
])

-- a total without the name stays
others_stay : (name : List ℕ) (amount : ℤ) (row : Total) → is_key (total_key row) (text_key 0 name) ≡ false → raised name amount row ≡ row
others_stay name amount row other = rw other refl

named : (name : List ℕ) (amount : ℤ) (rows : List Total) (place : ℕ) → Some place ≡ position_from (λ (row : Total). is_key (total_key row) (text_key 0 name)) 0 rows
    → with_amount name amount rows ≡ map (raised name amount) rows
named name amount rows place is =
    let there : list_any (λ (row : Total). bytes_eq row.name name) rows ≡ true = any_is (λ (row : Total). bytes_eq row.name name) 0 rows ∙ ap is_some (sym is) in
    rw there refl

found_passes : {Row : Type 0} (q : Row → Bool) (rows : List Row) (row : Row) (i k : ℕ) → position_from q i rows ≡ Some k → (j : ℕ) × (k ≡ i + j) × (slice_get rows j ≡ Some row → q row ≡ true)
found_passes q [] row i k is = cc
found_passes q (x ∷ xs) row i k is = elim (cases_Bool (q x)) [
  | inl mine ↦
      let first : Some i ≡ Some k = rw mine at is in
      let same : i ≡ k = cc in
      (0, omega (arith, same), (λ read. let it : x ≡ row = cc in subst (λ y. q y ≡ true) it mine))
  | inr other ↦
      let later : position_from q (i + 1) xs ≡ Some k = rw other at is in
      let rest = found_passes q xs row (i + 1) k later in
      (suc rest.0, omega (arith, rest.1), (λ read. rest.2 read))
]

raised_at : (rows : List Total) (row : Total) (name : List ℕ) (amount : ℤ) (place : ℕ) → Rises total_key rows → position_from (λ (row : Total). is_key (total_key row) (text_key 0 name)) 0 rows ≡ Some place
    → slice_get rows place ≡ Some row → set rows place (record row { count = row.count + 1; sum = row.sum +ℤ amount }) ≡ map (raised name amount) rows
raised_at rows row name amount place rises is read =
    let found = found_passes (λ (row : Total). is_key (total_key row) (text_key 0 name)) rows row 0 place is in
    let here : place ≡ found.0 = omega (arith, found.1) in
    let passes : bytes_eq row.name name ≡ true = found.2 (subst (λ k. slice_get rows k ≡ Some row) here read) in
    let it : raised name amount row ≡ record row { count = row.count + 1; sum = row.sum +ℤ amount } = rw passes refl in
    ap (λ (r : Total). set rows place r) (sym it) ∙ changed_is total_key (text_key 0 name) (raised name amount) (others_stay name amount) row place rows rises is read

-- the total of the name is raised where it stands
pub found_raised : (rows new : List Total) (name : List ℕ) (amount : ℤ) (place : ℕ) → Rises total_key rows → Some place ≡ position_from (λ (row : Total). is_key (total_key row) (text_key 0 name)) 0 rows
    → place < length rows → IfSome (slice_get rows place) (λ row. new ≡ set rows place (record row { count = row.count + 1; sum = row.sum +ℤ amount })) → new ≡ with_amount name amount rows
found_raised rows new name amount place rises is there changed = by (slice_get rows place) refl changed
  where
    by : (o : Option Total) → slice_get rows place ≡ o → IfSome o (λ row. new ≡ set rows place (record row { count = row.count + 1; sum = row.sum +ℤ amount })) → new ≡ with_amount name amount rows
    by None read changed = absurd (none_there rows place there read)
      where
        none_there : (rows : List Total) (place : ℕ) → place < length rows → slice_get rows place ≡ None → ⊥
        none_there [] place there read = omega (arith, there)
        none_there (x ∷ rows) zero there read = cc
        none_there (x ∷ rows) (suc place) there read = none_there rows place (omega (arith, there)) read
    by (Some row) read changed = changed ∙ raised_at rows row name amount place rises (sym is) read ∙ sym (named name amount rows place is)

-- a new total is put in its place
pub new_put : (rows new : List Total) (name : List ℕ) (amount : ℤ) → None ≡ position_from (λ (row : Total). is_key (total_key row) (text_key 0 name)) 0 rows
    → new ≡ put total_before (record { name = name; count = 1; sum = amount }) rows → new ≡ with_amount name amount rows
new_put rows new name amount is added =
    let absent : list_any (λ (row : Total). bytes_eq row.name name) rows ≡ false = any_is (λ (row : Total). bytes_eq row.name name) 0 rows ∙ ap is_some (sym is) in
    added ∙ rw absent refl

-- the same of what a raised or a new total can be
pub found_within : (rows new : List Total) (name : List ℕ) (amount : ℤ) (place : ℕ) → FitsSigned w64 amount → Rises total_key rows
    → Some place ≡ position_from (λ (row : Total). is_key (total_key row) (text_key 0 name)) 0 rows → place < length rows
    → IfSome (slice_get rows place) (λ row. new ≡ set rows place (record row { count = row.count + 1; sum = row.sum +ℤ amount })) → (n : ℕ) → AreWithin n rows → AreWithin (n + 1) new
found_within rows new name amount place fits rises is there changed n all = within_more n rows new name amount fits (found_raised rows new name amount place rises is there changed) all

pub new_within : (rows new : List Total) (name : List ℕ) (amount : ℤ) → FitsSigned w64 amount → None ≡ position_from (λ (row : Total). is_key (total_key row) (text_key 0 name)) 0 rows
    → new ≡ put total_before (record { name = name; count = 1; sum = amount }) rows → (n : ℕ) → AreWithin n rows → AreWithin (n + 1) new
new_within rows new name amount fits is added n all = within_more n rows new name amount fits (new_put rows new name amount is added) all

-- rows with the same keys stand in the same order
rises_keys : (rows : List Total) → rises_by (λ x y. key_before (total_key x) (total_key y)) rows ≡ rises_by key_before (map total_key rows)
rises_keys [] = refl
rises_keys (x ∷ []) = refl
rises_keys (x ∷ y ∷ rows) = ap (λ b. key_before (total_key x) (total_key y) && b) (rises_keys (y ∷ rows))

set_keys : (rows : List Total) (place : ℕ) (row new : Total) → place < length rows → new.name ≡ (get_or rows place row).name → map total_key (set rows place new) ≡ map total_key rows
set_keys [] place row new there same = absurd (omega (arith, there))
set_keys (x ∷ rows) zero row new there same = ap (λ (name : List ℕ). text_key 0 name ∷ map total_key rows) same
set_keys (x ∷ rows) (suc place) row new there same = ap (λ ks. total_key x ∷ ks) (set_keys rows place row new (omega (arith, there)) same)

-- a total that keeps its name keeps the order
pub set_rises : (rows : List Total) (place : ℕ) (row new : Total) → place < length rows → new.name ≡ (get_or rows place row).name → Rises total_key rows → Rises total_key (set rows place new)
set_rises rows place row new there same rises =
    rises_keys (set rows place new) ∙ ap (rises_by key_before) (set_keys rows place row new there same) ∙ sym (rises_keys rows) ∙ rises
