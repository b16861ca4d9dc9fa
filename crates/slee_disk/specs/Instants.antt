-- Facts on a run of calls, which the record of a disk asks for.
use Rattle.std.proofs.Common.{◌≡◌, ℕ, ◌≤◌, Bool, true, false, IsTrue, List, [], ◌∷◌, length, take, refl, sym, ◌∙◌, ap, subst}
use Rattle.std.proofs.Math.Nat.{le_refl}
use Rattle.std.proofs.lemmas.List.{take_all}
use Rattle.slee_disk.specs.declared.side.Side.{Side}
use Rattle.slee_disk.specs.declared.side.Side.TheVariants.{A, B}
use Rattle.slee_disk.specs.declared.call.Act.{Act}
use Rattle.slee_disk.specs.declared.call.Act.TheVariants as acts
use Rattle.slee_disk.specs.declared.call.Call.{Call}
use Rattle.slee_disk.specs.Sides.{Sides, on, other, overwritten}
use Rattle.slee_disk.specs.Calls.{Instant, with_side, marked, Stepped, seen_after, done, after, fresh, Since}

-- now is one of the moments
pub still : (calls : List Call) (first : Sides) (t : ℕ) (image : Sides) → t ≤ length calls → (after calls (fresh first)).images image → Since calls first t image
still calls first t image le now = (length calls, le, le_refl (length calls), subst (λ (l : List Call). (after l (fresh first)).images image) (sym (take_all (length calls) calls (le_refl (length calls)))) now)

-- and there is none later
pub no_later : (calls : List Call) (first : Sides) (image : Sides) → Since calls first (length calls) image → (after calls (fresh first)).images image
no_later calls first image left = subst (λ (l : List Call). (after l (fresh first)).images image) (take_all left.0 calls left.1) left.3

-- where nothing is pending on a side, a crash leaves what a read gives of it
abbrev Rests : Instant → Type 0
Rests at = (which : Side) → IsTrue (at.settled which) → (image : Sides) → at.images image → on which image ≡ on which at.seen

kept_there : (side : Side) (change : List ℕ → List ℕ) (sides : Sides) → on (other side) (with_side side change sides) ≡ on (other side) sides
kept_there A change sides = refl
kept_there B change sides = refl

-- what reads give of the other side stays
pub seen_there : (side : Side) (failed : Bool) (act : Act) (sides : Sides) → on (other side) (seen_after side failed act sides) ≡ on (other side) sides
seen_there side true act sides = refl
seen_there side false acts.Look sides = refl
seen_there side false (acts.Write place bytes) sides = kept_there side (overwritten place bytes) sides
seen_there side false (acts.Cut size) sides = kept_there side (take size) sides
seen_there side false acts.Sync sides = refl

rests_step : (side : Side) (step : List ℕ → List ℕ → Type 0) (at : Instant) (seen : Sides) → on (other side) seen ≡ on (other side) at.seen → Rests at
    → Rests (record { seen = seen; images = Stepped side step at.images; settled = marked side false at.settled })
rests_step A step at seen same rests A settled image now = absurd cc
rests_step A step at seen same rests B settled image now = now.2.there ∙ rests B settled now.0 now.1 ∙ sym same
rests_step B step at seen same rests A settled image now = now.2.there ∙ rests A settled now.0 now.1 ∙ sym same
rests_step B step at seen same rests B settled image now = absurd cc

rests_sync : (side : Side) (at : Instant) → Rests at → Rests (done side false acts.Sync at)
rests_sync A at rests A settled image now = now.1
rests_sync A at rests B settled image now = rests B settled image now.0
rests_sync B at rests A settled image now = rests A settled image now.0
rests_sync B at rests B settled image now = now.1

rests_done : (side : Side) (failed : Bool) (act : Act) (at : Instant) → Rests at → Rests (done side failed act at)
rests_done side failed acts.Look at rests = rests
rests_done side failed (acts.Write place bytes) at rests = rests_step side _ at (seen_after side failed (acts.Write place bytes) at.seen) (seen_there side failed (acts.Write place bytes) at.seen) rests
rests_done side failed (acts.Cut size) at rests = rests_step side _ at (seen_after side failed (acts.Cut size) at.seen) (seen_there side failed (acts.Cut size) at.seen) rests
rests_done side true acts.Sync at rests = rests
rests_done side false acts.Sync at rests = rests_sync side at rests

rests_after : (calls : List Call) (at : Instant) → Rests at → Rests (after calls at)
rests_after [] at rests = rests
rests_after (call ∷ calls) at rests = rests_after calls (done call.side call.failed call.act at) (rests_done call.side call.failed call.act at rests)

-- where nothing is pending on either side, a crash leaves what reads give
pub rests : (calls : List Call) (first : Sides) → ((which : Side) → IsTrue ((after calls (fresh first)).settled which)) → (image : Sides) → (after calls (fresh first)).images image → image ≡ (after calls (fresh first)).seen
rests calls first settled image now =
    let here = rests_after calls (fresh first) (λ which clean left is. ap (on which) is) in
    λ i. record { a = here A (settled A) image now i; b = here B (settled B) image now i }
