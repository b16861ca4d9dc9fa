-- The words and signs of the language, and what a name, a text and a number of a script are.
use Rattle.std.specs.Prelude.{ℕ, Bool, not, ◌&&◌, ◌||◌, ◌==◌, nat_le, List, [], ◌∷◌, length, codes, find, is_some, Option, if◌then◌else◌}
use Rattle.std.specs.List.{flat_map, list_all}
use Rattle.std.specs.Str.{bytes_eq}
use Rattle.slee_value.specs.Name.{is_name}
use Rattle.script_tree.specs.declared.symbol.Operator.{Operator}
use Rattle.script_tree.specs.declared.symbol.Operator.TheVariants as o
use Rattle.script_tree.specs.declared.symbol.Constant.{Constant}
use Rattle.script_tree.specs.declared.symbol.Constant.TheVariants as c
use Rattle.script_tree.specs.declared.symbol.Function.{Function}
use Rattle.script_tree.specs.declared.symbol.Function.TheVariants as f
use Rattle.script_tree.specs.declared.symbol.Verb.{Verb}
use Rattle.script_tree.specs.declared.symbol.Verb.TheVariants as v
use Rattle.script_tree.specs.declared.symbol.Fixed.{Fixed}
use Rattle.script_tree.specs.declared.symbol.Fixed.TheVariants as x
use Rattle.script_tree.specs.declared.symbol.Symbol.{Symbol}
use Rattle.script_tree.specs.declared.symbol.Symbol.TheVariants as s
use Rattle.script_tree.specs.declared.symbol.TheConstants.{WORDS}

-- the bytes of an operator
abbrev pub operator_text : Operator → List ℕ
operator_text o.Or = codes "or"
operator_text o.And = codes "and"
operator_text o.Equal = codes "=="
operator_text o.NotEqual = codes "!="
operator_text o.Less = codes "<"
operator_text o.LessOrEqual = codes "<="
operator_text o.Greater = codes ">"
operator_text o.GreaterOrEqual = codes ">="
operator_text o.Join = codes "++"
operator_text o.Plus = codes "+"
operator_text o.Minus = codes "-"
operator_text o.Times = codes "*"
operator_text o.Divide = codes "/"
operator_text o.Remainder = codes "%"

-- the bytes of a constant
abbrev pub constant_text : Constant → List ℕ
constant_text c.True = codes "true"
constant_text c.False = codes "false"
constant_text c.Nothing = codes "none"
constant_text c.Now = codes "now"
constant_text c.Activity = codes "activity"
constant_text c.Failure = codes "failure"

-- the bytes of a function of one expression
abbrev pub function_text : Function → List ℕ
function_text f.Text = codes "text"
function_text f.Len = codes "len"
function_text f.Active = codes "active"
function_text f.Attached = codes "attached"
function_text f.Bound = codes "bound"
function_text f.Lookup = codes "lookup"
function_text f.HasTimer = codes "has_timer"

-- the bytes of a verb
abbrev pub verb_text : Verb → List ℕ
verb_text v.End = codes "end"
verb_text v.Cancel = codes "cancel"
verb_text v.Unbind = codes "unbind"
verb_text v.Emit = codes "emit"
verb_text v.Return = codes "return"
verb_text v.Throw = codes "throw"
verb_text v.Suspend = codes "suspend"
verb_text v.Resume = codes "resume"

-- the bytes of each other word and sign
abbrev pub fixed_text : Fixed → List ℕ
fixed_text x.OpenRound = codes "("
fixed_text x.CloseRound = codes ")"
fixed_text x.OpenCurly = codes "{"
fixed_text x.CloseCurly = codes "}"
fixed_text x.Dot = codes "."
fixed_text x.Comma = codes ","
fixed_text x.Colon = codes ":"
fixed_text x.Semicolon = codes ";"
fixed_text x.Assign = codes "="
fixed_text x.Let = codes "let"
fixed_text x.Own = codes "self"
fixed_text x.Attr = codes "attr"
fixed_text x.If = codes "if"
fixed_text x.Else = codes "else"
fixed_text x.While = codes "while"
fixed_text x.For = codes "for"
fixed_text x.In = codes "in"
fixed_text x.Activities = codes "activities"
fixed_text x.Create = codes "create"
fixed_text x.As = codes "as"
fixed_text x.Priority = codes "priority"
fixed_text x.Remove = codes "remove"
fixed_text x.Attach = codes "attach"
fixed_text x.To = codes "to"
fixed_text x.Detach = codes "detach"
fixed_text x.From = codes "from"
fixed_text x.Mask = codes "mask"
fixed_text x.On = codes "on"
fixed_text x.Unmask = codes "unmask"
fixed_text x.Fire = codes "fire"
fixed_text x.Null = codes "null"
fixed_text x.Timer = codes "timer"
fixed_text x.At = codes "at"
fixed_text x.Every = codes "every"
fixed_text x.Times = codes "times"
fixed_text x.Keep = codes "keep"
fixed_text x.All = codes "all"
fixed_text x.Last = codes "last"
fixed_text x.Bind = codes "bind"
fixed_text x.Usage = codes "usage"
fixed_text x.Call = codes "call"
fixed_text x.Rollback = codes "rollback"
fixed_text x.Not = codes "not"
fixed_text x.Event = codes "event"
fixed_text x.Masked = codes "masked"
fixed_text x.Table = codes "table"
fixed_text x.Profile = codes "profile"
fixed_text x.HasProfile = codes "has_profile"
fixed_text x.Count = codes "count"

abbrev pub symbol_text : Symbol → List ℕ
symbol_text (s.Operator x) = operator_text x
symbol_text (s.Constant x) = constant_text x
symbol_text (s.Function x) = function_text x
symbol_text (s.Verb x) = verb_text x
symbol_text (s.Fixed x) = fixed_text x

-- the word among these that is spelled so
abbrev pub find_word : List Symbol → List ℕ → Option Symbol
find_word words bs = find (λ word. bytes_eq (symbol_text word) bs) words

-- the word of the language that these bytes are
abbrev pub reserved : List ℕ → Option Symbol
reserved bs = find_word WORDS bs

-- a name that is no word of the language
abbrev pub is_identifier : List ℕ → Bool
is_identifier bs = is_name bs && not (is_some (reserved bs))

-- a byte of a text, as it stands between quotes: the quote, the backslash and LF behind a backslash
abbrev pub quoted_byte : ℕ → List ℕ
quoted_byte b = if b == 34 then codes "\\\"" else if b == 92 then codes "\\\\" else if b == 10 then codes "\\n" else b ∷ []

abbrev pub quoted : List ℕ → List ℕ
quoted bs = flat_map quoted_byte bs

-- no byte below 0x20 but LF
abbrev pub is_byte_of_text : ℕ → Bool
is_byte_of_text b = nat_le 32 b || b == 10

-- a text with at most 4,096 bytes as written
abbrev pub is_literal : List ℕ → Bool
is_literal bs = list_all is_byte_of_text bs && nat_le (length (quoted bs)) 4096

abbrev pub is_number : ℕ → Bool
is_number n = nat_le n 9223372036854775807
