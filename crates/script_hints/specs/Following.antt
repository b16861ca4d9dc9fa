-- What may stand at a place of a script: what the grammar itself finds no fault with there.
use Rattle.std.specs.Prelude.{ℕ, Bool, true, false, not, ◌&&◌, ◌||◌, ◌==◌, List, [], ◌∷◌, ◌++◌, codes, filter, length, map, slice_index, take}
use Rattle.std.specs.List.{list_all, list_any}
use Rattle.slee_value.specs.Name.{is_letter}
use Rattle.script_tree.specs.Tree.{Bytes}
use Rattle.script_tree.specs.Words.{symbol_text}
use Rattle.script_tree.specs.declared.symbol.Fixed.TheVariants as x
use Rattle.script_tree.specs.declared.symbol.Symbol.{Symbol}
use Rattle.script_tree.specs.declared.symbol.Symbol.TheVariants as s
use Rattle.script_tree.specs.declared.symbol.TheConstants.{WORDS}
use Rattle.script_tree.specs.declared.lexeme.Lexeme.{Lexeme}
use Rattle.script_tree.specs.declared.lexeme.Lexeme.TheVariants as t
use Rattle.script_tree.specs.Grammar.{Verdict, Fine, Faulty, is_fixed, script_of}
use Rattle.script_tree.specs.Lexer.{lexemes_of}
use Rattle.script_hints.specs.declared.choice.Choice.{Choice}
use Rattle.script_hints.specs.declared.choice.Choice.TheVariants as choice
use Rattle.script_hints.specs.declared.choice.Group.{Group}
use Rattle.script_hints.specs.declared.choice.Group.TheVariants as group
use Rattle.script_hints.specs.declared.choice.TheConstants.{GROUPS, SIGNS}
use Rattle.script_hints.specs.declared.expected.Candidate.{Candidate}
use Rattle.script_hints.specs.declared.syntax.Found.{Found}
use Rattle.script_hints.specs.declared.syntax.Found.TheVariants as found

-- a token of each kind
abbrev pub token_of : Choice → Lexeme
token_of choice.Name = t.Name (codes "a")
token_of choice.Number = t.Int 0
token_of choice.Text = t.Text []
token_of (choice.Symbol y) = t.Symbol y

-- whether each token may stand where it does: the first misfit is the end, if there is one
abbrev pub is_fitting : Verdict → Bool
is_fitting (Fine script) = true
is_fitting (Faulty f) = f.left == 0

-- whether a token of that kind may stand behind these
unfoldable pub follows : List Lexeme → Choice → Bool
follows front y = is_fitting (script_of (front ++ token_of y ∷ []))

-- whether these tokens don't go on with a statement before them
abbrev pub begins_anew : List Lexeme → Bool
begins_anew [] = false
begins_anew (token ∷ ts) = not (is_fixed x.Else token)

-- whether a token of that kind may stand in a text that has so many tokens before it
unfoldable pub can_follow : Bytes → ℕ → Choice → Bool
can_follow text before y = follows (take before (lexemes_of text)) y

-- all kinds of tokens
unfoldable pub choices : List Choice
choices = choice.Name ∷ choice.Number ∷ choice.Text ∷ map choice.Symbol SIGNS ++ map choice.Symbol WORDS

-- text behind which each token of a group may stand
abbrev pub opening : Group → Bytes
opening group.Statement = []
opening group.Expression = codes "emit"
opening group.Operator = codes "emit 0"

abbrev pub is_operator : Choice → Bool
is_operator (choice.Symbol (s.Operator op)) = true
is_operator _ = false

-- whether the group is that of operators, and the token is none
abbrev pub is_apart : Group → Choice → Bool
is_apart group.Operator y = not (is_operator y)
is_apart _ y = false

-- whether a token of that kind belongs to a group
unfoldable pub is_in : Group → Choice → Bool
is_in g y = not (is_apart g y) && can_follow (opening g) (length (opening g)) y

-- a kind of token, and whether it may stand behind these
abbrev pub candidate_behind : List Lexeme → Choice → Candidate
candidate_behind front y = record { choice = y; fits = follows front y }

abbrev pub choice_of : Candidate → Choice
choice_of x = x.choice

-- all kinds of tokens, each with whether it may stand in a text that has so many tokens before it
unfoldable pub candidates_at : Bytes → ℕ → List Candidate
candidates_at text before = map (candidate_behind (take before (lexemes_of text))) choices

-- whether a token is none of the group, or may stand there
unfoldable pub fits_group : Group → Candidate → Bool
fits_group g x = not (is_in g x.choice) || x.fits

-- whether each token of the group may stand there
unfoldable pub is_whole : List Candidate → Group → Bool
is_whole all g = list_all (fits_group g) all

-- the groups of which each token may stand there
unfoldable pub groups_at : Bytes → ℕ → List Group
groups_at text before = filter (is_whole (candidates_at text before)) GROUPS

-- whether a token may stand there that is of none of these groups
unfoldable pub is_alone : List Group → Candidate → Bool
is_alone groups x = x.fits && not (list_any (λ g. is_in g x.choice) groups)

-- what may stand there beside these groups
unfoldable pub choices_at : Bytes → ℕ → List Group → List Choice
choices_at text before groups = map choice_of (filter (is_alone groups) (candidates_at text before))

-- whether a word or sign has the form of a name
abbrev pub is_word : Symbol → Bool
is_word y = is_letter (slice_index (symbol_text y) 0)

-- whether a word of the language stands where a name may
abbrev pub is_reserved : Bytes → ℕ → Found → Bool
is_reserved text before (found.Symbol y) = is_word y && can_follow text before choice.Name
is_reserved text before _ = false
