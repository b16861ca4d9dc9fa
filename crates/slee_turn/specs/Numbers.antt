-- Lists of numbers, which rise.
use Rattle.std.specs.Prelude.{◌≡◌, ◌⊎◌, ℕ, zero, suc, ◌<◌, ◌≤◌, nat_lt, ◌==◌, if◌then◌else◌, List, [], ◌∷◌, ⊤}

-- x stands in the list
abbrev pub IsAmong : ℕ → List ℕ → Type 0
IsAmong x [] = ⊥
IsAmong x (y ∷ ys) = (x ≡ y) ⊎ IsAmong x ys

-- no number stands in both
abbrev pub AreDisjoint : List ℕ → List ℕ → Type 0
AreDisjoint xs ys = (x : ℕ) → IsAmong x xs → IsAmong x ys → ⊥

-- the first is above b, and each other above the one before it
abbrev pub RisesAfter : ℕ → List ℕ → Type 0
RisesAfter b [] = ⊤
RisesAfter b (x ∷ xs) = (b < x) × RisesAfter x xs

-- they rise from 1 or more
abbrev pub Rises : List ℕ → Type 0
Rises xs = RisesAfter 0 xs

-- none is above n
abbrev pub AreUpTo : ℕ → List ℕ → Type 0
AreUpTo n xs = (x : ℕ) → IsAmong x xs → x ≤ n

-- the k numbers after n
abbrev pub numbers_after : ℕ → ℕ → List ℕ
numbers_after n zero = []
numbers_after n (suc k) = suc n ∷ numbers_after (suc n) k

-- with x before the first that is above it
abbrev pub put_in : ℕ → List ℕ → List ℕ
put_in x [] = x ∷ []
put_in x (y ∷ ys) = if nat_lt x y then x ∷ y ∷ ys else y ∷ put_in x ys

-- the numbers of two rising lists
abbrev pub merged : List ℕ → List ℕ → List ℕ
merged xs [] = xs
merged xs (y ∷ ys) = put_in y (merged xs ys)

-- the list without x
abbrev pub without : ℕ → List ℕ → List ℕ
without x [] = []
without x (y ∷ ys) = if x == y then without x ys else y ∷ without x ys
