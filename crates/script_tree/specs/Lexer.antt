-- How a text is cut into tokens.
use Rattle.std.specs.Prelude.{◌≡◌, ◌≤◌, ◌<◌, ℕ, zero, suc, ◌+◌, ◌-◌, ◌*◌, Bool, true, false, not, ◌&&◌, ◌||◌, ◌==◌, nat_le, nat_lt, List, [], ◌∷◌, length, drop, map, slice_index, Option, Some, None, if◌then◌else◌}
use Rattle.std.specs.List.{take_while, prefix_len}
use Rattle.slee_value.specs.Name.{is_letter, is_digit, is_byte_of_name}
use Rattle.script_tree.specs.declared.symbol.Operator.TheVariants as o
use Rattle.script_tree.specs.declared.symbol.Fixed.TheVariants as x
use Rattle.script_tree.specs.declared.symbol.Symbol.{Symbol}
use Rattle.script_tree.specs.declared.symbol.Symbol.TheVariants as s
use Rattle.script_tree.specs.declared.lexeme.Lexeme.{Lexeme}
use Rattle.script_tree.specs.declared.lexeme.Lexeme.TheVariants as t
use Rattle.script_tree.specs.declared.lexeme.Cut.{Cut}
use Rattle.script_tree.specs.declared.lexeme.Spotted.{Spotted}
use Rattle.script_tree.specs.declared.lexeme.Quote.{Quote}
use Rattle.script_tree.specs.Words.{reserved, is_number}
use Rattle.script_tree.specs.Tree.{Bytes}

abbrev pub is_blank : ℕ → Bool
is_blank b = b == 32 || (b == 9 || (b == 13 || b == 10))

abbrev pub is_in_line : ℕ → Bool
is_in_line b = not (b == 10)

-- a word: one of the language, else a name
abbrev pub word_lexeme : Option Symbol → Bytes → Lexeme
word_lexeme (Some word) bs = t.Symbol word
word_lexeme None bs = if nat_le (length bs) 64 then t.Name bs else t.Bad

abbrev pub word_cut : Bytes → Cut
word_cut bs = record { lexeme = word_lexeme (reserved bs) bs; size = length bs }

-- the number that digits write
abbrev pub digits_value : ℕ → Bytes → ℕ
digits_value n [] = n
digits_value n (b ∷ bs) = digits_value (n * 10 + (b - 48)) bs

-- a number has no zeros in front, and is not above 9223372036854775807
abbrev pub decimal_in : Bytes → Option ℕ
decimal_in bs = if (nat_le (length bs) 1 || not (slice_index bs 0 == 48)) && is_number (digits_value 0 bs) then Some (digits_value 0 bs) else None

abbrev pub number_lexeme : Option ℕ → Lexeme
number_lexeme None = t.Bad
number_lexeme (Some n) = t.Int n

abbrev pub number_cut : Bytes → Cut
number_cut bs = record { lexeme = number_lexeme (decimal_in bs); size = length bs }

-- the byte that stands behind a backslash
abbrev pub escape_of : ℕ → Option ℕ
escape_of b = if b == 34 then Some 34 else if b == 92 then Some 92 else if b == 110 then Some 10 else None

abbrev pub with_byte : ℕ → ℕ → Option Quote → Option Quote
with_byte b n None = None
with_byte b n (Some quote) = Some (record { text = b ∷ quote.text; size = n + quote.size })

-- a byte that two bytes write
abbrev pub escape_then : Option ℕ → Option Quote → Option Quote
escape_then None rest = None
escape_then (Some c) rest = with_byte c 2 rest

-- a text behind its opening quote: its bytes, and how many are written up to the closing quote; escaped: a backslash stands before
abbrev pub quote_of : Bool → Bytes → Option Quote
quote_of escaped [] = None
quote_of true (b ∷ bs) = escape_then (escape_of b) (quote_of false bs)
quote_of false (b ∷ bs) =
    if b == 34 then Some (record { text = []; size = 0 })
    else if nat_lt b 32 then None
    else if b == 92 then quote_of true bs
    else with_byte b 1 (quote_of false bs)

-- a text: at most 4,096 bytes stand between its quotes
abbrev pub text_cut : Option Quote → Cut
text_cut None = record { lexeme = t.Bad; size = 1 }
text_cut (Some quote) = if nat_le quote.size 4096 then record { lexeme = t.Text quote.text; size = quote.size + 2 } else record { lexeme = t.Bad; size = 1 }

-- a sign of two bytes, and one of one byte
abbrev pub sign_of_two : ℕ → ℕ → Option Symbol
sign_of_two b c =
    if b == 61 && c == 61 then Some (s.Operator o.Equal)
    else if b == 33 && c == 61 then Some (s.Operator o.NotEqual)
    else if b == 60 && c == 61 then Some (s.Operator o.LessOrEqual)
    else if b == 62 && c == 61 then Some (s.Operator o.GreaterOrEqual)
    else if b == 43 && c == 43 then Some (s.Operator o.Join)
    else None

abbrev pub sign_of_one : ℕ → Option Symbol
sign_of_one b =
    if b == 40 then Some (s.Fixed x.OpenRound)
    else if b == 41 then Some (s.Fixed x.CloseRound)
    else if b == 123 then Some (s.Fixed x.OpenCurly)
    else if b == 125 then Some (s.Fixed x.CloseCurly)
    else if b == 46 then Some (s.Fixed x.Dot)
    else if b == 44 then Some (s.Fixed x.Comma)
    else if b == 58 then Some (s.Fixed x.Colon)
    else if b == 59 then Some (s.Fixed x.Semicolon)
    else if b == 61 then Some (s.Fixed x.Assign)
    else if b == 60 then Some (s.Operator o.Less)
    else if b == 62 then Some (s.Operator o.Greater)
    else if b == 43 then Some (s.Operator o.Plus)
    else if b == 45 then Some (s.Operator o.Minus)
    else if b == 42 then Some (s.Operator o.Times)
    else if b == 47 then Some (s.Operator o.Divide)
    else if b == 37 then Some (s.Operator o.Remainder)
    else None

abbrev pub cut_of_one : Option Symbol → Cut
cut_of_one None = record { lexeme = t.Bad; size = 1 }
cut_of_one (Some y) = record { lexeme = t.Symbol y; size = 1 }

abbrev pub cut_of_two : Option Symbol → Cut → Cut
cut_of_two None other = other
cut_of_two (Some y) other = record { lexeme = t.Symbol y; size = 2 }

abbrev pub sign_cut : ℕ → Bytes → Cut
sign_cut b [] = cut_of_one (sign_of_one b)
sign_cut b (c ∷ bs) = cut_of_two (sign_of_two b c) (cut_of_one (sign_of_one b))

-- the token that begins here; words and numbers are longest runs
abbrev pub cut : Bytes → Cut
cut [] = record { lexeme = t.Bad; size = 0 }
cut (b ∷ bs) =
    if is_letter b then word_cut (take_while is_byte_of_name (b ∷ bs))
    else if is_digit b then number_cut (take_while is_digit (b ∷ bs))
    else if b == 34 then text_cut (quote_of false bs)
    else sign_cut b bs

-- a token in a text: what it says, where it begins and where it ends
abbrev pub Spot : Type 0
Spot = Spotted

abbrev pub is_bad : Lexeme → Bool
is_bad t.Bad = true
is_bad _ = false

abbrev pub unless_bad : Lexeme → List Spot → List Spot
unless_bad t.Bad spots = []
unless_bad _ spots = spots

abbrev pub spotted : Cut → ℕ → (ℕ → List Spot) → List Spot
spotted c at later = record { lexeme = c.lexeme; start = at; stop = at + c.size } ∷ unless_bad c.lexeme (later (c.size - 1))

-- the tokens of bytes that stand at a place, of which so many belong to the token or comment before; the first bad one is the last
abbrev pub lexed : ℕ → ℕ → Bytes → List Spot
lexed at skip [] = []
lexed at (suc skip) (b ∷ bs) = lexed (at + 1) skip bs
lexed at zero (b ∷ bs) =
    if is_blank b then lexed (at + 1) 0 bs
    else if b == 35 then lexed (at + 1) (prefix_len is_in_line bs) bs
    else spotted (cut (b ∷ bs)) at (λ skip. lexed (at + 1) skip bs)

abbrev pub spots_of : Bytes → List Spot
spots_of text = lexed 0 0 text

-- the tokens of a text behind a place
abbrev pub spots_behind : Bytes → ℕ → List Spot
spots_behind text at = lexed at 0 (drop at text)

abbrev pub lexeme_of : Spot → Lexeme
lexeme_of spot = spot.lexeme

abbrev pub lexemes_of : Bytes → List Lexeme
lexemes_of text = map lexeme_of (spots_of text)

-- whether a token begins here
abbrev pub starts_token : Bytes → Bool
starts_token [] = false
starts_token (b ∷ bs) = not (is_blank b) && not (b == 35)

-- so many bytes come before the first token, or the end
pub record Gap (bs : Bytes) (n : ℕ) : Type 0 where
  pub within : n ≤ length bs
  pub passed : (at : ℕ) → lexed at 0 bs ≡ lexed (at + n) 0 (drop n bs)
  pub stops : n < length bs → starts_token (drop n bs) ≡ true
