-- A side that counts, and what two sides stand for.
use Rattle.std.specs.Prelude.{◌≡◌, ◌≢◌, ◌⊎◌, ℕ, List, [], ◌∷◌, ◌++◌, length, Some, None, Ok}
use Rattle.std.specs.List.{flat_map, AllByRecursion}
use Rattle.slee_disk.specs.declared.side.Side.{Side}
use Rattle.slee_disk.specs.Sides.{Sides, on, other}
use Rattle.commit_journal.specs.declared.format.Format.TheVariants.{Two}
use Rattle.commit_journal.specs.declared.gate.TheConstants.{OPEN_GATE, CLOSED_GATE}
use Rattle.commit_journal.specs.declared.stage.Stage.{Stage}
use Rattle.commit_journal.specs.declared.stage.Stage.TheVariants as stages
use Rattle.commit_journal.specs.Spelling.{recorded, spelled, FitsText, FitsHead}
use Rattle.commit_journal.specs.Reading.{Blank, front, Counts, counting, Kept, next, recovered}

-- A side counts, and is spelled as far as a closed gate at this place, with this behind the gate.
pub record StandsIn (kept : Kept) (at : ℕ) (tail : List ℕ) (sides : Sides) : Type 0 where
  pub gate : ℕ
  pub shut : gate ≢ OPEN_GATE
  pub here : on kept.side sides ≡ spelled kept.head kept.payloads ++ gate ∷ tail
  pub place : at ≡ length (spelled kept.head kept.payloads)
  pub counts : counting (front sides.a) (front sides.b) ≡ Counts kept.side
  pub fits_head : FitsHead kept.head
  pub fits : AllByRecursion FitsText kept.payloads

-- the same, with anything behind the gate
pub record StandsFound (kept : Kept) (at : ℕ) (sides : Sides) : Type 0 where
  pub tail : List ℕ
  pub stands : StandsIn kept at tail sides

-- The side that counts is spelled, and ends with one closed gate.
abbrev pub IsWhole : Kept → Sides → Type 0
IsWhole kept sides = StandsIn kept (length (spelled kept.head kept.payloads)) [] sides

-- both sides are blank
abbrev pub AreBlank : Sides → Type 0
AreBlank sides = (front sides.a ≡ Blank) × (front sides.b ≡ Blank)

-- the sides stand for this
abbrev pub Keeps : Kept → Sides → Type 0
Keeps kept sides = recovered kept.head.deployment sides ≡ Ok (Some kept)

-- the sides stand for what a journal has come to: for nothing yet, while it is blank
abbrev pub Stands : Stage → Kept → Sides → Type 0
Stands stages.Blank kept sides = recovered kept.head.deployment sides ≡ Ok None
Stands stages.Found kept sides = Keeps kept sides
Stands stages.Ready kept sides = Keeps kept sides
Stands stages.Stopped kept sides = Keeps kept sides

-- the same with more payloads
abbrev pub with_more : Kept → List (List ℕ) → Kept
with_more kept more = record { side = kept.side; head = kept.head; payloads = kept.payloads ++ more }

-- the sides stand for what is kept, or for this and the batch
abbrev pub KeepsOrMore : Kept → List (List ℕ) → Sides → Type 0
KeepsOrMore kept batch sides = Keeps kept sides ⊎ Keeps (with_more kept batch) sides

-- the same of what a journal has come to
abbrev pub StandsOrMore : Stage → Kept → List (List ℕ) → Sides → Type 0
StandsOrMore stage kept batch sides = Stands stage kept sides ⊎ Stands stage (with_more kept batch) sides

-- the sides stand for what the journal has come to, or for the side that is being begun
abbrev pub StandsOrBegun : Stage → Kept → Sides → Type 0
StandsOrBegun stage kept sides = Stands stage kept sides ⊎ Keeps kept sides

-- the side that is written next: that of a blank journal, else the one that doesn't count
abbrev pub side_renewed : Stage → Side → Side
side_renewed stages.Blank side = side
side_renewed stages.Found side = other side
side_renewed stages.Ready side = other side
side_renewed stages.Stopped side = other side

-- and its generation: that of a blank journal, else the next one
abbrev pub generation_renewed : Stage → ℕ → ℕ
generation_renewed stages.Blank generation = generation
generation_renewed stages.Found generation = next generation
generation_renewed stages.Ready generation = next generation
generation_renewed stages.Stopped generation = next generation

-- what is kept once a journal is renewed: a snapshot, and no payload, in the second format
abbrev pub renewed : Stage → Kept → List ℕ → Kept
renewed stage kept snapshot = record {
  side = side_renewed stage kept.side;
  head = record { format = Two; generation = generation_renewed stage kept.head.generation; deployment = kept.head.deployment; snapshot = snapshot };
  payloads = [];
}

-- the sides stand for what the journal has come to, or for the renewed side alone
abbrev pub StandsOrRenewed : Stage → Kept → List ℕ → Sides → Type 0
StandsOrRenewed stage kept snapshot sides = Stands stage kept sides ⊎ Keeps (renewed stage kept snapshot) sides

-- the bytes of a batch from the gate before it on: open gates between, and a closed one behind
abbrev pub batched : List (List ℕ) → List ℕ
batched batch = flat_map recorded batch ++ CLOSED_GATE ∷ []
