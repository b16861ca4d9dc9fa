-- How the leaves stand beside the spare ones.
use Rattle.std.specs.Prelude.{◌≡◌, ℕ, ◌+◌, ◌-◌, ◌*◌, ◌^◌, ◌<◌, ◌≤◌, IsTrue, Bool, ◌||◌, nat_lt, List, [], map, take, drop, remove, length, vec_len, vec_capacity}
use Rattle.std.specs.List.{AllByRecursion, flat_map, list_any}
use Rattle.std.specs.declared.vec.Vec.{Vec}
use Rattle.prefix_sums.specs.Counted.{Counted}
use Rattle.rows_sorted.specs.Keys.{Key, is_key, key_before, Rises}
use Rattle.rows_leaves.specs.Laying.{last_key, numbers_of}
use Rattle.rows_leaves.specs.declared.leaf.Leaf.{Leaf}
use Rattle.rows_leaves.specs.declared.leaf.TheConstants.{HALF_LEAF, LEAF_ROWS}

module _ {Row : Type 0} where
  -- the rows of a leaf
  abbrev pub leaf_rows : Leaf Row → List Row
  leaf_rows leaf = leaf.rows.items

  -- how many rows a leaf has
  abbrev pub row_count : Leaf Row → ℕ
  row_count leaf = length leaf.rows.items

  -- a leaf has a row
  abbrev pub HasRows : Leaf Row → Type 0
  HasRows leaf = 0 < length leaf.rows.items

  -- there is memory for as many rows as a leaf holds
  abbrev pub HasMemory : Leaf Row → Type 0
  HasMemory leaf = LEAF_ROWS ≤ vec_capacity leaf.rows

  -- the numbers beside a leaf's rows are those of the last one
  abbrev pub IsNumbered : (Row → Key) → Leaf Row → Type 0
  IsNumbered key leaf = leaf.last ≡ numbers_of (last_key key leaf.rows.items)

  -- a spare leaf has no row
  abbrev pub IsSpare : Leaf Row → Type 0
  IsSpare leaf = leaf.rows.items ≡ []

  -- a leaf isn't full, or has a row of the key
  abbrev pub has_place : (Row → Key) → Key → Leaf Row → Bool
  has_place key k leaf = nat_lt (vec_len leaf.rows) LEAF_ROWS || list_any (λ row. is_key (key row) k) leaf.rows.items

  -- The key belongs in the leaf at the place: the rows of leaves before it stand before the key, and those of later ones behind it.
  pub record Belongs (key : Row → Key) (leaves : List (Leaf Row)) (k : Key) (place : ℕ) : Type 0 where
    pub within : place < length leaves
    pub low : AllByRecursion (λ x. IsTrue (key_before (key x) k)) (flat_map leaf_rows (take place leaves))
    pub high : AllByRecursion (λ x. IsTrue (key_before k (key x))) (flat_map leaf_rows (drop (place + 1) leaves))

  -- The rows rise, each of both vectors has memory for all leaves, and the counts are those of the leaves. So many leaves have rows.
  pub record StandsBy {Heap : Type 0} (key : Row → Key) (leaves spares : Vec (Leaf Row) Heap) (counts : Counted) (full : List (Leaf Row)) : Type 0 where
    pub rises : Rises key (flat_map leaf_rows leaves.items)
    pub filled : AllByRecursion HasRows full
    pub numbered : AllByRecursion (IsNumbered key) leaves.items
    pub memory : AllByRecursion HasMemory leaves.items
    pub spare : AllByRecursion IsSpare spares.items
    pub spare_memory : AllByRecursion HasMemory spares.items
    pub outer : vec_len leaves + vec_len spares ≤ vec_capacity leaves
    pub inner : vec_len leaves + vec_len spares ≤ vec_capacity spares
    pub lengths : counts.numbers ≡ map row_count leaves.items
    pub places : vec_len leaves + vec_len spares ≤ counts.places
    pub fits : length (flat_map leaf_rows leaves.items) < 2 ^ 64

  -- all leaves have rows
  abbrev pub Stands : {Heap : Type 0} → (Row → Key) → Vec (Leaf Row) Heap → Vec (Leaf Row) Heap → Counted → Type 0
  Stands key leaves spares counts = StandsBy key leaves spares counts leaves.items

  -- All is as it should be, but the leaf at the place may have no row.
  abbrev pub StandsBut : {Heap : Type 0} → (Row → Key) → Vec (Leaf Row) Heap → Vec (Leaf Row) Heap → Counted → ℕ → Type 0
  StandsBut key leaves spares counts place = StandsBy key leaves spares counts (remove leaves.items place)

  -- The leaves and the spare ones stand, the count is that of the rows, and these and the room fill at most half of all leaves but one.
  pub record Holds {Heap : Type 0} (key : Row → Key) (leaves spares : Vec (Leaf Row) Heap) (counts : Counted) (count room : ℕ) : Type 0 where
    pub stands : Stands key leaves spares counts
    pub counted : count ≡ length (flat_map leaf_rows leaves.items)
    pub spared : count + room ≤ HALF_LEAF * (vec_len leaves + vec_len spares - 1)
    pub bounded : count + room < 2 ^ 64
