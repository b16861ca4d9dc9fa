-- The rule of the table, true between any two steps, and what each step tells. Its first word is the number of the pass that has the turn, its second the length of the value that was last given back; its slot has the value.
use Rattle.std.specs.Prelude.{◌≡◌, ◌≢◌, ℕ, ◌+◌, ◌<◌, ◌≤◌, List, [], ◌∷◌, length, Option, Some, ⊤}
use mathlib.Core.Option.{some, none}
use mathlib.Core.List.{IsPrefix}
use lib.ListN.{get_elem?}
use Rattle.atomic_table.specs.Table.{State, Me, Step, rest}
use Rattle.trace_history.specs.declared.choice.Choice.{Choice}
use Rattle.slee_turn.specs.Setups.{Setup}
use Rattle.slee_turn.specs.Numbers.{IsAmong, AreDisjoint, Rises, AreUpTo}
use Rattle.slee_turn.specs.Knowledge.{Phase, free, inside, told, spent, Knowledge, number_limit, taken_known, told_known, freed_known, heard_known}

-- a pass that isn't spent, and one that has the turn
abbrev pub IsLive : Phase → Type 0
IsLive spent = ⊥
IsLive _ = ⊤

abbrev pub HasTurn : Phase → Type 0
HasTurn inside = ⊤
HasTurn told = ⊤
HasTurn _ = ⊥

-- who has the turn is named by the holder, and has seen the book
abbrev pub SuitsPhase : List Choice → ℕ → Knowledge → Phase → Type 0
SuitsPhase book holder known free = known.number ≢ holder
SuitsPhase book holder known inside = (known.number ≡ holder) × (known.seen ≡ book)
SuitsPhase book holder known told = (known.number ≡ holder) × (known.seen ≡ book)
SuitsPhase book holder known spent = ⊤

-- Of a run with this setup, whose history is the book: the holder has the turn, and the numbers of passes are below the limit less the spare.
module _ (setup : Setup) (book : List Choice) (holder spare : ℕ) where
  -- the pass in a seat knows what is true
  pub record Knows (seat : ℕ) (known : Knowledge) : Type 0 where
    pub setup_is : known.setup ≡ setup
    pub begins : IsPrefix known.seen book
    pub hears : known.heard ≤ length book
    pub rises : Rises known.mine
    pub within : AreUpTo (length book) known.mine
    pub positive : 0 < known.number
    pub below : known.number + spare < number_limit
    pub suits : SuitsPhase book holder known known.phase
    -- only the first pass splits others off
    pub alone : seat ≢ 0 → (known.spare ≡ 0) × (known.out ≡ [])

-- two passes have two numbers and no entry in common
abbrev pub AreApart : Knowledge → Knowledge → Type 0
AreApart one other = (one.number ≢ other.number) × AreDisjoint one.mine other.mine

-- a pass that isn't the first has this number
abbrev pub IsOther : List Knowledge → ℕ → Type 0
IsOther views number = (seat : ℕ) × (known : Knowledge) × (get_elem? views seat ≡ some known) × IsLive known.phase × (seat ≢ 0) × (known.number ≡ number)

module _ {G : Type 0} (setup_of : G → Setup) (history_of : G → List Choice) where
  pub record IsKept (s : State (Option G) Knowledge) : Type 0 where
    pub setup : Setup
    pub book : List Choice
    pub holder : ℕ
    -- the first pass
    pub root : Knowledge
    pub words : s.words ≡ holder ∷ length book ∷ []
    -- nobody has the turn, and the value has the book for its history
    pub home : holder ≡ 0 → (g : G) × (s.homes ≡ some (Some g) ∷ []) × (setup_of g ≡ setup) × (history_of g ≡ book)
    -- somebody has it, and the value
    pub away : holder ≢ 0 → (s.homes ≡ none ∷ []) × ((seat : ℕ) × (known : Knowledge) × (get_elem? s.views seat ≡ some known) × HasTurn known.phase)
    pub root_at : get_elem? s.views 0 ≡ some root
    pub root_live : IsLive root.phase × (root.number ≡ 1)
    pub each : (seat : ℕ) (known : Knowledge) → get_elem? s.views seat ≡ some known → IsLive known.phase → Knows setup book holder root.spare seat known
    pub apart : (one other : ℕ) (known known' : Knowledge) → get_elem? s.views one ≡ some known → get_elem? s.views other ≡ some known' → one ≢ other → IsLive known.phase → IsLive known'.phase → AreApart known known'
    -- the first pass lists the numbers of the others, and no other numbers
    pub listed : (seat : ℕ) (known : Knowledge) → get_elem? s.views seat ≡ some known → IsLive known.phase → seat ≢ 0 → IsAmong known.number root.out
    pub there : (number : ℕ) → IsAmong number root.out → IsOther s.views number

  -- What a step tells a pass, from what it knew before and the word that was found, or stored, to what it knows after. Beside what is known stands what the pass has of the slot.
  abbrev Mine : Type 0
  Mine = Me (Option G) Knowledge

  -- where nobody had the turn, the pass has it from now on, and the value; else nothing changes, and somebody else has it
  abbrev pub Takes : Step (Option G) → Mine → ℕ → Mine → Type 0
  Takes step before found after =
      (found ≡ 0
      → (g : G) × (after ≡ (taken_known before.0 (history_of g), (0, Some g) ∷ before.1))
      × (setup_of g ≡ before.0.setup) × IsPrefix before.0.seen (history_of g) × (before.0.heard ≤ length (history_of g)))
      × (found ≢ 0 → (after ≡ before) × (found ≢ before.0.number))

  -- the length of the value is stored that the pass gives back
  abbrev pub Tells : Step (Option G) → Mine → ℕ → Mine → Type 0
  Tells step before stored after = (g : G) → before.1 ≡ (0, Some g) ∷ [] → after ≡ (told_known before.0 (history_of g), before.1)

  -- nobody has the turn any longer, and the slot is the table's
  abbrev pub Frees : Step (Option G) → Mine → ℕ → Mine → Type 0
  Frees step before stored after = after ≡ (freed_known before.0, rest before.1)

  -- the length is read
  abbrev pub Hears : Step (Option G) → Mine → ℕ → Mine → Type 0
  Hears step before found after = (after ≡ (heard_known before.0 found, before.1)) × (length before.0.seen ≤ found) × (before.0.heard ≤ found)

  -- nothing changes, and the pass is told that its own entries are each its own once
  abbrev pub Looks : Step (Option G) → Mine → ℕ → Mine → Type 0
  Looks step before found after = (after ≡ before) × Rises before.0.mine
