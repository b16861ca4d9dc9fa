-- How often each entry is counted.
use Rattle.std.specs.Prelude.{ℕ, ◌≡◌, ◌+◌, ◌-◌, ◌*◌, ◌≤◌, Bool, nat_lt, not, if◌then◌else◌, true, List, [], ◌∷◌, filter, find}
use Rattle.std.specs.List.{AllByRecursion, sum_by}
use Rattle.std.specs.Option.{option_map_or}
use Rattle.rows_sorted.specs.Orders.{put}
use Rattle.rows_sorted.specs.Keys.{Key, is_key, key_before, Rises}
use Rattle.rows_index.specs.declared.entry.Entry.{Entry}
use Rattle.rows_index.specs.Index.{entry_key}
use Rattle.rows_index.specs.declared.tally.Tally.{Tally}

-- a tally's key: that of its entry
abbrev pub tally_key : Tally → Key
tally_key t = entry_key t.entry

-- the tally is that of the entry
abbrev pub is_of : Entry → Tally → Bool
is_of e t = is_key (tally_key t) (entry_key e)

-- 1 of the entry itself, and 0 of others
abbrev pub one_of : Entry → Entry → ℕ
one_of e x = if is_key (entry_key x) (entry_key e) then 1 else 0

-- how often the entry is counted
abbrev pub count_at : List Tally → Entry → ℕ
count_at tallies e = option_map_or (λ (t : Tally). t.count) (find (is_of e) tallies) 0

-- the entry is counted so often
abbrev pub with_count : Entry → ℕ → List Tally → List Tally
with_count e count tallies = put (λ x y. key_before (tally_key x) (tally_key y)) (record { entry = e; count = count }) tallies

-- the entry isn't counted
abbrev pub without_entry : Entry → List Tally → List Tally
without_entry e tallies = filter (λ t. not (is_of e t)) tallies

-- the entry is counted once more
abbrev pub one_more : Entry → List Tally → List Tally
one_more e tallies = with_count e (count_at tallies e + 1) tallies

-- the entry is counted once less
abbrev pub one_less : Entry → List Tally → List Tally
one_less e tallies = if nat_lt 1 (count_at tallies e) then with_count e (count_at tallies e - 1) tallies else without_entry e tallies

-- each of the entries is counted once more
abbrev pub all_more : List Entry → List Tally → List Tally
all_more [] tallies = tallies
all_more (e ∷ entries) tallies = all_more entries (one_more e tallies)

-- each of the entries is counted once less
abbrev pub all_less : List Entry → List Tally → List Tally
all_less [] tallies = tallies
all_less (e ∷ entries) tallies = all_less entries (one_less e tallies)

-- how often any entry is counted
abbrev pub total : List Tally → ℕ
total tallies = sum_by (λ t. t.count * 1) tallies

-- each tally counts something
abbrev pub AreSome : List Tally → Type 0
AreSome tallies = AllByRecursion (λ t. nat_lt 0 t.count ≡ true) tallies

-- each entry is counted as often as it is among these, or oftener
abbrev pub AreCounted : List Entry → List Tally → Type 0
AreCounted entries tallies = (e : Entry) → sum_by (one_of e) entries ≤ count_at tallies e

-- The tallies rise, and they count the entries of the rows: whatever is summed up over the counted entries comes to what it does over those of the rows.
pub record IsTally {Row : Type 0} (entries : Row → List Entry) (rows : List Row) (tallies : List Tally) : Type 0 where
  pub rises : Rises tally_key tallies
  pub same : (f : Entry → ℕ) → sum_by (λ t. t.count * f t.entry) tallies ≡ sum_by (λ row. sum_by f (entries row)) rows
