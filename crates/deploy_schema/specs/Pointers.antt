-- JSON pointers (RFC 6901).
use Rattle.std.specs.Prelude.{ℕ, ◌==◌, if◌then◌else◌, [], ◌∷◌, ◌++◌, codes}
use Rattle.script_tree.specs.Tree.{Bytes}

-- A byte of a name in a pointer: `~` is written `~0`, and `/` is written `~1`.
abbrev pub escaped_byte : ℕ → Bytes
escaped_byte b = if b == 126 then 126 ∷ 48 ∷ [] else (if b == 47 then 126 ∷ 49 ∷ [] else b ∷ [])

-- A name as a step of a pointer.
abbrev pub escaped : Bytes → Bytes
escaped [] = []
escaped (b ∷ bs) = escaped_byte b ++ escaped bs

-- How a pointer is printed: that of the whole document as a slash.
abbrev pub printed : Bytes → Bytes
printed [] = codes "/"
printed (b ∷ bs) = b ∷ bs
