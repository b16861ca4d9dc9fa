-- What a pass knows, and how that changes.
use Rattle.std.specs.Prelude.{ℕ, ◌-◌, ◌^◌, nat_lt, if◌then◌else◌, List, [], ◌∷◌, ◌++◌, length, max}
use Rattle.trace_history.specs.declared.choice.Choice.{Choice}
use Rattle.slee_turn.specs.Setups.{Setup, no_setup}
use Rattle.slee_turn.specs.Numbers.{merged, numbers_after, without}

-- A pass hasn't the turn; it has it; it has it still, and the length of the value is stored that it gives back; it was joined to another.
pub data Phase : Type 0 where
  free : Phase
  inside : Phase
  told : Phase
  spent : Phase

-- what a pass knows
pub record Knowledge : Type 0 where
  pub number : ℕ
  pub setup : Setup
  -- the history as it last saw it, and the numbers of its own entries there
  pub seen : List Choice
  pub mine : List ℕ
  -- the length that it last heard of
  pub heard : ℕ
  pub phase : Phase
  -- how many passes it can still split off, and the numbers of those that it split off and hasn't joined
  pub spare : ℕ
  pub out : List ℕ

-- numbers of passes are below this
abbrev pub number_limit : ℕ
number_limit = 2 ^ 64

-- the first pass, of a value with this setup and history
abbrev pub first_known : Setup → List Choice → Knowledge
first_known setup history = record { number = 1; setup = setup; seen = history; mine = []; heard = 0; phase = free; spare = number_limit - 2; out = [] }

-- a pass that was joined to another
abbrev pub spent_known : Knowledge
spent_known = record { number = 0; setup = no_setup; seen = []; mine = []; heard = 0; phase = spent; spare = 0; out = [] }

-- the pass took the turn, and the value has this history
abbrev pub taken_known : Knowledge → List Choice → Knowledge
taken_known known history = record known { seen = history; phase = inside }

-- the length of this history is stored, which goes on from the one taken: what was added is the pass's own
abbrev pub told_known : Knowledge → List Choice → Knowledge
told_known known history = record known {
  seen = history;
  mine = known.mine ++ numbers_after (length known.seen) (length history - length known.seen);
  phase = told;
}

-- the turn is free again
abbrev pub freed_known : Knowledge → Knowledge
freed_known known = record known { phase = free }

-- the pass heard of this length
abbrev pub heard_known : Knowledge → ℕ → Knowledge
heard_known known length = record known { heard = length }

-- the number of the pass that is split off next
abbrev pub next_number : Knowledge → ℕ
next_number known = number_limit - known.spare

-- what is left to a pass from which one is split off, and what that one knows
abbrev pub parted_known : Knowledge → Knowledge
parted_known known = record known { spare = known.spare - 1; out = next_number known ∷ known.out }

abbrev pub part_known : Knowledge → Knowledge
part_known known = record { number = next_number known; setup = known.setup; seen = known.seen; mine = []; heard = known.heard; phase = free; spare = 0; out = [] }

-- the longer of two histories
abbrev pub longer : List Choice → List Choice → List Choice
longer one other = if nat_lt (length one) (length other) then other else one

-- what a pass knows that another was joined to
abbrev pub joined_known : Knowledge → Knowledge → Knowledge
joined_known known other = record known {
  seen = longer known.seen other.seen;
  mine = merged known.mine other.mine;
  heard = max known.heard other.heard;
  out = without other.number known.out;
}
