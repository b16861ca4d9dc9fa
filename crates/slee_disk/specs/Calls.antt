-- What a run of calls does to the bytes of two sides, and to what a crash may leave of them.
use Rattle.std.specs.Prelude.{◌≡◌, ℕ, ◌-◌, ◌≤◌, Bool, true, false, List, [], ◌∷◌, ◌++◌, length, take, replicate}
use Rattle.slee_disk.specs.declared.side.Side.{Side}
use Rattle.slee_disk.specs.declared.side.Side.TheVariants.{A, B}
use Rattle.slee_disk.specs.declared.call.Act.{Act}
use Rattle.slee_disk.specs.declared.call.Act.TheVariants as acts
use Rattle.slee_disk.specs.declared.call.Call.{Call}
use Rattle.slee_disk.specs.Sides.{Sides, on, other, sides_of, overwritten, Torn, Cut, AtSide}

-- What reads give at some moment, what a crash then may leave, and which sides have nothing pending.
pub record Instant : Type 1 where
  pub seen : Sides
  pub images : Sides → Type 0
  pub settled : Side → Bool

-- a side's bytes after some step, the other side's as they are
abbrev pub with_side : Side → (List ℕ → List ℕ) → Sides → Sides
with_side side change sides = sides_of side (change (on side sides)) (on (other side) sides)

-- a truth value for a side, the other side's as it is
abbrev pub marked : Side → Bool → (Side → Bool) → Side → Bool
marked A mark marks A = mark
marked A mark marks B = marks B
marked B mark marks A = marks A
marked B mark marks B = mark

-- what was possible, after a step of one side
abbrev pub Stepped : Side → (List ℕ → List ℕ → Type 0) → (Sides → Type 0) → Sides → Type 0
Stepped side step images image = (from : Sides) × images from × AtSide side step from image

-- what reads give after a call: one that failed changes nothing
abbrev pub seen_after : Side → Bool → Act → Sides → Sides
seen_after side true act seen = seen
seen_after side false acts.Look seen = seen
seen_after side false (acts.Write place bytes) seen = with_side side (overwritten place bytes) seen
seen_after side false (acts.Cut size) seen = with_side side (take size) seen
seen_after side false acts.Sync seen = seen

-- A call does this. A write or cut that failed counts as made in what a crash may leave.
abbrev pub done : Side → Bool → Act → Instant → Instant
done side failed acts.Look at = at
done side failed (acts.Write place bytes) at = record { seen = seen_after side failed (acts.Write place bytes) at.seen; images = Stepped side (Torn place (length bytes)) at.images; settled = marked side false at.settled }
done side failed (acts.Cut size) at = record { seen = seen_after side failed (acts.Cut size) at.seen; images = Stepped side (Cut size) at.images; settled = marked side false at.settled }
done side true acts.Sync at = at
done side false acts.Sync at = record { seen = at.seen; images = λ image. at.images image × (on side image ≡ on side at.seen); settled = marked side true at.settled }

-- after calls, the first of them first
abbrev pub after : List Call → Instant → Instant
after [] at = at
after (call ∷ calls) at = after calls (done call.side call.failed call.act at)

-- before the first call: nothing is pending
abbrev pub fresh : Sides → Instant
fresh sides = record { seen = sides; images = λ image. image ≡ sides; settled = λ side. true }

-- what a crash since some call might have left
abbrev pub Since : List Call → Sides → ℕ → Sides → Type 0
Since calls first t image = (k : ℕ) × (t ≤ k) × (k ≤ length calls) × (after (take k calls) (fresh first)).images image

-- a call as it is recorded
abbrev pub call_of : Side → Act → Bool → Call
call_of side act failed = record { side = side; act = act; failed = failed }

-- one call more
abbrev pub more : List Call → Side → Act → Bool → List Call
more calls side act failed = calls ++ call_of side act failed ∷ []

-- ---- what a stop leaves, to the byte

-- a write that a stop cut short: its first bytes, and a fill in place of the others
abbrev pub torn_piece : ℕ → ℕ → List ℕ → List ℕ
torn_piece part fill bytes = take part bytes ++ replicate (length bytes - part) fill

-- What reads give, and what a stop leaves.
pub record Stopped : Type 0 where
  pub seen : Sides
  pub left : Sides

-- A call does this to it: each write is cut short, cuts are done as asked, also where they failed, and a sync that
-- succeeds leaves its side as it is read.
abbrev pub left_after : ℕ → ℕ → Side → Bool → Act → Stopped → Sides
left_after part fill side failed acts.Look stop = stop.left
left_after part fill side failed (acts.Write place bytes) stop = with_side side (overwritten place (torn_piece part fill bytes)) stop.left
left_after part fill side failed (acts.Cut size) stop = with_side side (take size) stop.left
left_after part fill side true acts.Sync stop = stop.left
left_after part fill side false acts.Sync stop = sides_of side (on side stop.seen) (on (other side) stop.left)

-- after one call, and after calls, the first of them first
abbrev pub stopped_by : ℕ → ℕ → Call → Stopped → Stopped
stopped_by part fill call stop = record { seen = seen_after call.side call.failed call.act stop.seen; left = left_after part fill call.side call.failed call.act stop }

abbrev pub stopped : ℕ → ℕ → List Call → Stopped → Stopped
stopped part fill [] stop = stop
stopped part fill (call ∷ calls) stop = stopped part fill calls (stopped_by part fill call stop)

-- what a stop after these calls leaves, of two sides on which nothing was pending
abbrev pub image_of : ℕ → ℕ → List Call → Sides → Sides
image_of part fill calls first = (stopped part fill calls (record { seen = first; left = first })).left
