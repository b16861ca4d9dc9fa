-- A stop that tears nothing.
use Rattle.std.proofs.Common.{◌≡◌, ℕ, ◌-◌, ◌≤◌, Bool, true, false, List, [], ◌∷◌, ◌++◌, length, take, replicate, refl, sym, ◌∙◌, ap, arith, append-nil}
use Rattle.std.proofs.lemmas.List.{take_all}
use Rattle.slee_disk.specs.declared.side.Side.{Side}
use Rattle.slee_disk.specs.declared.side.Side.TheVariants.{A, B}
use Rattle.slee_disk.specs.declared.call.Act.{Act}
use Rattle.slee_disk.specs.declared.call.Act.TheVariants as acts
use Rattle.slee_disk.specs.declared.call.Call.{Call}
use Rattle.slee_disk.specs.Sides.{Sides, on, other, sides_of, overwritten}
use Rattle.slee_disk.specs.Calls.{Instant, with_side, seen_after, done, after, fresh, torn_piece, left_after, stopped, image_of}
use Rattle.slee_disk.specs.Laws.{WritesUpTo, AreWhole}
use Rattle.slee_disk.proofs.Recording.{done_seen}

whole_piece : (part fill : ℕ) (bytes : List ℕ) → length bytes ≤ part → torn_piece part fill bytes ≡ bytes
whole_piece part fill bytes within =
    let none : length bytes - part ≡ 0 = omega arith in
    ap (λ k. take part bytes ++ replicate k fill) none ∙ append-nil (take part bytes) ∙ take_all part bytes within

both_sides : (side : Side) (sides : Sides) → sides_of side (on side sides) (on (other side) sides) ≡ sides
both_sides A sides = refl
both_sides B sides = refl

whole_act : (part fill : ℕ) (side : Side) (failed : Bool) (act : Act) (s : Sides) → failed ≡ false → WritesUpTo part act → left_after part fill side failed act (record { seen = s; left = s }) ≡ seen_after side failed act s
whole_act part fill side true act s whole fits = absurd cc
whole_act part fill side false acts.Look s whole fits = refl
whole_act part fill side false (acts.Write place bytes) s whole fits = ap (λ (piece : List ℕ). with_side side (overwritten place piece) s) (whole_piece part fill bytes fits)
whole_act part fill side false (acts.Cut size) s whole fits = refl
whole_act part fill side false acts.Sync s whole fits = both_sides side s

whole_stop : (part fill : ℕ) (calls : List Call) (s l : Sides) (at : Instant) → AreWhole part calls → l ≡ s → at.seen ≡ s → (stopped part fill calls (record { seen = s; left = l })).left ≡ (after calls at).seen
whole_stop part fill [] s l at whole same seen = same ∙ sym seen
whole_stop part fill (call ∷ calls) s l at whole same seen =
    whole_stop part fill calls (seen_after call.side call.failed call.act s) (left_after part fill call.side call.failed call.act (record { seen = s; left = l })) (done call.side call.failed call.act at) whole.2
    (ap (λ (x : Sides). left_after part fill call.side call.failed call.act (record { seen = s; left = x })) same ∙ whole_act part fill call.side call.failed call.act s whole.0 whole.1)
    (done_seen call.side call.failed call.act at ∙ ap (seen_after call.side call.failed call.act) seen)

pub whole_image : (part fill : ℕ) (calls : List Call) (first : Sides) → AreWhole part calls → image_of part fill calls first ≡ (after calls (fresh first)).seen
whole_image part fill calls first whole = whole_stop part fill calls first first (fresh first) whole refl refl
