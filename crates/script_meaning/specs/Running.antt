-- Running: units, keys, effects, and how a part of a run ends.
use Rattle.std.specs.Prelude.{ℕ, zero, suc, ◌+◌, Bool, true, false, ◌||◌, nat_lt, nat_le, List, [], ◌∷◌, ◌++◌, length, Option, Some, None, slice_get, slice_set, take, codes, if◌then◌else◌}
use Rattle.std.specs.List.{list_any, flat_map}
use Rattle.slee_effect.specs.declared.reference.Ref.{Ref}
use Rattle.slee_effect.specs.declared.value.Val.{Val}
use Rattle.script_meaning.specs.declared.key.Key.{Key}
use Rattle.script_meaning.specs.declared.seen.Seen.{Seen}
use Rattle.slee_effect.specs.declared.effect.Effect.{Effect}
use Rattle.script_meaning.specs.declared.outcome.FailKind.{FailKind}
use Rattle.script_meaning.specs.declared.outcome.FailKind.TheVariants as f
use Rattle.script_meaning.specs.declared.outcome.Args.{Args}
use Rattle.slee_effect.specs.Bytes.{spelled_effect}
use Rattle.script_meaning.specs.Seeing.{same_key}
use Rattle.script_meaning.specs.Answers.{Answers}

-- What stays the same while a script runs: the answers, what the transaction already has, the arguments, the entity, and the events that its block masks on attaching.
pub record Setting : Type 0 where
  pub answers : Answers
  pub effects : List Effect
  pub keys : List Key
  pub arguments : Args
  pub me : Ref
  pub masks : List (List ℕ)

-- A variable holds a value or stands for a child.
pub data Variable : Type 0 where
  Holds : Val → Variable
  Child : Ref → Variable

-- A run so far: its variables, the units that are left, whether rollback was asked for, and its own keys and effects.
pub record State : Type 0 where
  pub variables : List Variable
  pub left : ℕ
  pub asked : Bool
  pub keys : List Key
  pub effects : List Effect

-- A part of a run gives something, fails with a kind and a text, needs an answer that isn't there, or is no part of a checked program.
pub data Ending (A : Type 0) : Type 0 where
  Gave : A → State → Ending A
  Broke : FailKind → List ℕ → State → Ending A
  Needs : Key → Ending A
  Stays : Ending A

abbrev pub Run : Type 0 → Type 0
Run A = State → Ending A

abbrev pub then_run : {A B : Type 0} → Ending A → (A → Run B) → Ending B
then_run (Gave x st) g = g x st
then_run (Broke kind text st) g = Broke kind text st
then_run (Needs key) g = Needs key
then_run Stays g = Stays

-- one part and then the next
infixl 10 ◌>>=◌
abbrev pub ◌>>=◌ : {A B : Type 0} → Run A → (A → Run B) → Run B
(m >>= g) st = then_run (m st) g

abbrev pub give : {A : Type 0} → A → Run A
give x st = Gave x st

abbrev pub stay : {A : Type 0} → Run A
stay st = Stays

-- the word of a failure's kind
abbrev pub word_of : FailKind → List ℕ
word_of f.Thrown = codes "thrown"
word_of f.Overflow = codes "overflow"
word_of f.ZeroDivisor = codes "zero-divisor"
word_of f.Budget = codes "budget"
word_of f.Gone = codes "gone"
word_of f.Ending = codes "ending"
word_of f.NotNull = codes "not-null"
word_of f.Bound = codes "bound"
word_of f.Unbound = codes "unbound"
word_of f.Detached = codes "detached"
word_of f.NoRow = codes "no-row"
word_of f.Depth = codes "depth"
word_of f.Observed = codes "observed"
word_of f.Range = codes "range"
word_of f.TooLong = codes "too-long"
word_of f.TooMuch = codes "too-much"

-- a failure, whose text is its kind's word
abbrev pub break : {A : Type 0} → FailKind → Run A
break kind st = Broke kind (word_of kind) st

-- a failure unless the test holds
abbrev pub tested : FailKind → Bool → Run (Unit {0})
tested kind true = give tt
tested kind false = break kind

-- one unit
abbrev pub tick_at : ℕ → Run (Unit {0})
tick_at zero st = break f.Budget st
tick_at (suc n) st = Gave tt (record st { left = n })

abbrev pub tick : Run (Unit {0})
tick st = tick_at st.left st

-- begins with one unit
abbrev pub ticked : {A : Type 0} → Run A → Run A
ticked m = do
  _ ← tick
  m

-- the most keys that a transaction may read, effects of a run, bytes of these, and units of a run
abbrev pub key_limit : ℕ
key_limit = 64

abbrev pub effect_limit : ℕ
effect_limit = 256

abbrev pub effect_bytes_limit : ℕ
effect_bytes_limit = 32_768

abbrev pub unit_limit : ℕ
unit_limit = 10_000

-- counts a key, with those before
unfoldable pub observe : Setting → Key → Run (Unit {0})
observe s key st =
    if list_any (same_key key) s.keys || list_any (same_key key) st.keys then Gave tt st
    else if nat_lt (length s.keys + length st.keys) key_limit then Gave tt (record st { keys = st.keys ++ key ∷ [] })
    else break f.Observed st

abbrev pub answered : Option Seen → Key → Run (Option Seen)
answered None key st = Needs key
answered (Some seen) key st = Gave (Some seen) st

-- asks for a key; what is new has none, and isn't asked for
abbrev pub look : Setting → Option Key → Run (Option Seen)
look s None = give None
look s (Some key) = do
  _ ← observe s key
  answered (s.answers key) key

-- all effects so far, those before first
abbrev pub effects_of : Setting → Run (List Effect)
effects_of s st = Gave (s.effects ++ st.effects) st

-- how many bytes effects have, the count of their list left out
abbrev pub bytes_of : List Effect → ℕ
bytes_of effects = length (flat_map spelled_effect effects)

-- an effect of the run
unfoldable pub effect : Effect → Run (Unit {0})
effect e st =
    if nat_lt (length st.effects) effect_limit then
    (if nat_le (bytes_of (st.effects ++ e ∷ [])) effect_bytes_limit then Gave tt (record st { effects = st.effects ++ e ∷ [] }) else break f.TooMuch st)
    else break f.TooMuch st

abbrev pub found : {A : Type 0} → Option A → Run A
found None = stay
found (Some x) = give x

-- the variable in a place of the scope
abbrev pub variable : ℕ → Run Variable
variable i st = found (slice_get st.variables i) st

-- a new variable behind all others
abbrev pub declare : Variable → Run (Unit {0})
declare x st = Gave tt (record st { variables = st.variables ++ x ∷ [] })

abbrev pub assign : ℕ → Val → Run (Unit {0})
assign i x st = if nat_lt i (length st.variables) then Gave tt (record st { variables = slice_set st.variables i (Holds x) }) else Stays

-- variables are forgotten behind their block
abbrev pub scoped : {A : Type 0} → Run A → Run A
scoped m st = then_run (m st) (λ x new. Gave x (record new { variables = take (length st.variables) new.variables }))
