-- The lines of a text, and the words of a line.
use Rattle.std.specs.Prelude.{ℕ, Bool, not, ◌&&◌, ◌||◌, ◌==◌, nat_lt, nat_le, if◌then◌else◌, List, [], ◌∷◌, length, Some, None, Option, option_map}
use Rattle.std.specs.List.{onto_first, slice_split, list_any}
use Rattle.std.specs.Str.{is_utf8}

-- the most bytes of a line
abbrev pub line_limit : ℕ
line_limit = 4096

-- each ends with a newline, the last perhaps without
abbrev pub lines_of : List ℕ → List (List ℕ)
lines_of [] = []
lines_of (b ∷ bs) = if b == 10 then [] ∷ lines_of bs else onto_first b (lines_of bs)

-- the words, parted by one space each
abbrev pub words_of : List ℕ → List (List ℕ)
words_of line = slice_split (λ b. b == 32) line

-- the words of what stands behind a word, if anything does
abbrev pub words_behind : Option (List ℕ) → List (List ℕ)
words_behind None = []
words_behind (Some text) = words_of text

-- what stands before the first such byte, and what behind it
abbrev pub cut_at : ℕ → List ℕ → Option (List ℕ × List ℕ)
cut_at c [] = None
cut_at c (b ∷ bs) = if b == c then Some ([], bs) else option_map (λ parts. (b ∷ parts.0, parts.1)) (cut_at c bs)

-- a byte below 0x20, or 0x7F
abbrev pub is_control : ℕ → Bool
is_control b = nat_lt b 32 || b == 127

-- bytes without a control that are UTF-8
abbrev pub is_plain : List ℕ → Bool
is_plain line = not (list_any is_control line) && is_utf8 line

-- at most 4,096 such bytes
abbrev pub is_line : List ℕ → Bool
is_line line = nat_le (length line) line_limit && is_plain line
