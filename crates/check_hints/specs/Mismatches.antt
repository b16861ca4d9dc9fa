-- The types that are found and wanted at a place of a script: those of which expressions may stand there.
use Rattle.std.specs.Prelude.{ℕ, ◌+◌, Bool, not, ◌&&◌, List, [], ◌∷◌, ◌++◌, Option, Some, None, codes, drop, filter, map, take}
use Rattle.slee_value.specs.declared.kind.Kind.{Kind}
use Rattle.slee_value.specs.declared.kind.Kind.TheVariants as kinds
use Rattle.script_tree.specs.Tree.{Bytes}
use Rattle.script_tree.specs.declared.token.Token.{Token}
use Rattle.script_tree.specs.Lexer.{spots_of}
use Rattle.script_tree.specs.Reading.{token_of}
use Rattle.script_types.specs.TypingExpressions.{Setting}
use Rattle.script_types.specs.Scopes.{Scope, parameters_in_scope}
use Rattle.script_check_terms.specs.SettingOf.{setting_of}
use Rattle.check_hints.specs.declared.checking.Finding.{Finding}
use Rattle.check_hints.specs.declared.mismatch.MismatchHint.{MismatchHint}
use Rattle.check_hints.specs.declared.mismatch.Site.{Site}
use Rattle.check_hints.specs.declared.samples.TheConstants.{KINDS}
use Rattle.check_hints.specs.Probes.{probe, stands_outside, fits_at}

-- An expression of each type. None is a timer everywhere: `none` is one where a timer is asked for.
abbrev pub sample : Kind → Bytes
sample kinds.Int = codes "0"
sample kinds.Text = codes "\"\""
sample kinds.Bool = codes "true"
sample kinds.Activity = codes "lookup(\"\")"
sample kinds.Timer = codes "none"

abbrev pub sample_tokens : Kind → ℕ
sample_tokens kinds.Int = 1
sample_tokens kinds.Text = 1
sample_tokens kinds.Bool = 1
sample_tokens kinds.Activity = 4
sample_tokens kinds.Timer = 1

-- What stands before an operand that has to be of that type. Two brackets close behind it.
abbrev pub taker : Kind → Bytes
taker kinds.Int = codes "(-("
taker kinds.Text = codes "(len("
taker kinds.Bool = codes "(not("
taker kinds.Activity = codes "(active("
taker kinds.Timer = codes "(has_timer("

-- a text with another piece in place of what stands between two places, and a blank on each side of it
abbrev pub spliced : Bytes → ℕ → ℕ → Bytes → Bytes
spliced text start stop piece = take start text ++ (32 ∷ piece ++ (32 ∷ drop stop text))

abbrev pub wrapped : Kind → Bytes → Bytes
wrapped kind piece = taker kind ++ (piece ++ codes "))")

-- a piece of a script's text: it stands between two places, and so many tokens stand before it
pub record Piece : Type 0 where
  pub setting : Setting
  pub scope : Scope
  pub text : Bytes
  pub at : ℕ
  pub start : ℕ
  pub stop : ℕ

abbrev pub piece_of : Site → Piece
piece_of x = record {
  setting = setting_of x.setting.now;
  scope = parameters_in_scope x.parameters.now;
  text = x.text.now;
  at = x.at;
  start = x.start;
  stop = x.stop;
}

-- what the check finds, where this stands in place of the piece
unfoldable pub tried : Piece → Bytes → Finding
tried x other = probe x.setting x.scope (spliced x.text x.start x.stop other)

-- whether an expression of that type may stand there
unfoldable pub accepts : Piece → Kind → Bool
accepts x kind = stands_outside (tried x (sample kind)) x.at (x.at + sample_tokens kind)

-- Whether that type is wanted there. `none` is an activity and, where one is asked for, a timer; a remove script may look nothing up.
unfoldable pub is_wanted : Piece → Kind → Bool
is_wanted x kinds.Int = accepts x kinds.Int
is_wanted x kinds.Text = accepts x kinds.Text
is_wanted x kinds.Bool = accepts x kinds.Bool
is_wanted x kinds.Activity = accepts x kinds.Timer && fits_at (tried x (sample kinds.Activity)) x.at
is_wanted x kinds.Timer = accepts x kinds.Timer && not (accepts x kinds.Activity)

-- whether the piece is of that type: it may stand where that type alone may, and neither it nor its bracket is at fault there
unfoldable pub is_found : Piece → Kind → Bool
is_found x kind = stands_outside (tried x (wrapped kind (drop x.start (take x.stop x.text)))) (x.at + 2) (x.at + 4)

unfoldable pub wanted : Piece → List Kind
wanted x = filter (is_wanted x) KINDS

unfoldable pub found : Piece → List Kind
found x = filter (is_found x) KINDS

-- types that are found, and types that are wanted
abbrev pub Types : Type 0
Types = List Kind × List Kind

abbrev pub types_of : MismatchHint → Types
types_of hint = (hint.found.items, hint.wanted.items)

-- the types, if one is wanted, else those of a longer piece
abbrev pub where_wanted : List Kind → List Kind → Option Types → Option Types
where_wanted found [] later = later
where_wanted found (kind ∷ more) later = Some (found, kind ∷ more)

abbrev pub with_end : Piece → ℕ → Piece
with_end x stop = record x { stop = stop }

-- the types of the shortest piece that ends with one of these tokens and in whose place something may stand
unfoldable pub types_at : Piece → List Token → Option Types
types_at x [] = None
types_at x (token ∷ tokens) = where_wanted (found (with_end x token.end)) (wanted (with_end x token.end)) (types_at x tokens)

-- the same of pieces that begin with the first of these tokens
abbrev pub types_from : Setting → Scope → Bytes → ℕ → List Token → Option Types
types_from s scope text at [] = None
types_from s scope text at (first ∷ more) = types_at (record { setting = s; scope = scope; text = text; at = at; start = first.start; stop = first.start }) (first ∷ more)

-- The types that are found and wanted where a piece begins that has so many tokens before it, and at most 64 itself.
unfoldable pub mismatch : Setting → Scope → Bytes → ℕ → Option Types
mismatch s scope text at = types_from s scope text at (take 64 (drop at (map token_of (spots_of text))))
