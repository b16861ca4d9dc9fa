-- How far a text of a given length can go along with another and still come after it.
use Rattle.std.specs.Prelude.{ℕ, zero, suc, ◌+◌, ◌-◌, Bool, List, [], ◌∷◌, ◌++◌, length, replicate, Option, Some, None, nat_lt, ◌==◌, if◌then◌else◌}
use Rattle.std.specs.Int.{w32, from_le_bytes}

-- the greatest bytes that can stand behind this one in its character
abbrev pub greatest_behind : ℕ → List ℕ
greatest_behind b =
    if nat_lt b 0x80 then []
    else (if nat_lt b 0xE0 then 0xBF ∷ []
    else (if b == 0xED then 0x9F ∷ 0xBF ∷ []
    else (if nat_lt b 0xF0 then 0xBF ∷ 0xBF ∷ []
    else (if b == 0xF4 then 0x8F ∷ 0xBF ∷ 0xBF ∷ [] else 0xBF ∷ 0xBF ∷ 0xBF ∷ []))))

-- the greatest byte that begins a text of this length
abbrev pub greatest_first : ℕ → ℕ
greatest_first len = if len == 1 then 0x7F else (if len == 2 then 0xDF else (if len == 3 then 0xEF else 0xF4))

-- The greatest byte that can stand next, where a begun character ends at most with these bytes and so many
-- bytes are left of the text. No byte can where there is no room for them.
abbrev pub greatest_next : List ℕ → ℕ → ℕ
greatest_next [] len = greatest_first len
greatest_next (c ∷ cs) len = if nat_lt len (length (c ∷ cs)) then 0 else c

-- with which bytes the begun character ends at most, behind one byte more
abbrev pub behind_next : List ℕ → ℕ → List ℕ
behind_next [] b = greatest_behind b
behind_next (c ∷ cs) b = cs

-- one more, and where it is none 1 or 0
abbrev pub further : ℕ → Bool → ℕ
further zero here = if here then 1 else 0
further (suc n) here = suc (suc n)

-- Of the texts of this length that have a greater byte than the one before where they part from it: 1 more
-- than how many bytes they at most have in common with it, and 0 where there is none. The one before and
-- they stand behind a begun character that ends at most with these bytes.
abbrev pub reach_in : List ℕ → List ℕ → ℕ → ℕ
reach_in caps before zero = 0
reach_in caps [] (suc n) = 0
reach_in caps (b ∷ bs) (suc n) = further (reach_in (behind_next caps b) bs n) (nat_lt b (greatest_next caps (suc n)))

-- the same of all texts of this length that come after the one before
abbrev pub reach : List ℕ → ℕ → ℕ
reach before len = if nat_lt (length before) len then length before + 1 else reach_in [] before len

-- the greatest length whose bytes begin with these
abbrev pub greatest_len : List ℕ → ℕ
greatest_len front = from_le_bytes w32 (front ++ replicate (4 - length front) 255)

-- Where a name that goes along with the one before for less than so many bytes can't go on: at the first
-- byte below, or at the last of those bytes. Nothing while it may still rise.
abbrev pub fall : List ℕ → ℕ → List ℕ → Option ℕ
fall before zero bytes = Some (length bytes + 1)
fall [] (suc n) bytes = None
fall (p ∷ ps) (suc n) [] = None
fall (p ∷ ps) (suc n) (b ∷ bs) = if nat_lt b p then Some (length (b ∷ bs)) else (if nat_lt p b then None else fall ps n bs)

-- Where a name can't go on to come after the one before: at a byte of its length, of which these are read and
-- so many are left, or behind that.
abbrev pub name_fall : List ℕ → List ℕ → ℕ → List ℕ → Option ℕ
name_fall before front zero bytes = fall before (reach before (greatest_len front)) bytes
name_fall before front (suc k) [] = None
name_fall before front (suc k) (b ∷ bs) =
    if reach before (greatest_len (front ++ b ∷ [])) == 0 then Some (length (b ∷ bs)) else name_fall before (front ++ b ∷ []) k bs
