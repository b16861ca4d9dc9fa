-- How a text between quotes is read in runs of bytes that stand for themselves.
use Rattle.std.specs.Prelude.{ℕ, ◌+◌, Bool, not, ◌&&◌, ◌==◌, nat_le, [], ◌∷◌, ◌++◌, Option, Some, None, if◌then◌else◌}
use Rattle.script_tree.specs.declared.quote.Stop.{Stop}
use Rattle.script_tree.specs.declared.quote.Stop.TheVariants as stops
use Rattle.script_tree.specs.declared.lexeme.Quote.{Quote}
use Rattle.script_tree.specs.Tree.{Bytes}

-- a byte that stands for itself
abbrev pub is_plain : ℕ → Bool
is_plain b = nat_le 32 b && (not (b == 34) && not (b == 92))

-- what stands behind a backslash
abbrev pub escape_in : Bytes → Stop
escape_in [] = stops.Broken
escape_in (b ∷ bs) = if b == 34 then stops.Escape 34 else if b == 92 then stops.Escape 92 else if b == 110 then stops.Escape 10 else stops.Broken

-- what ends a run of plain bytes
abbrev pub stop_in : Bytes → Stop
stop_in [] = stops.Broken
stop_in (b ∷ bs) = if b == 34 then stops.Closed else if b == 92 then escape_in bs else stops.Broken

-- a text with these bytes in front, as many bytes longer
abbrev pub behind_run : Bytes → ℕ → Option Quote → Option Quote
behind_run bs n None = None
behind_run bs n (Some quote) = Some (record { text = bs ++ quote.text; size = n + quote.size })
