-- The line of a draw, by what its slot holds.
use Rattle.std.proofs.Common.{◌≡◌, ℕ, suc, ◌+◌, List, [], ◌∷◌, ◌++◌, refl, sym, ◌∙◌, ap, Option, Some, None, eq-eqb, ne_eqb, add-one, append-nil}
use Rattle.std.specs.Option.{option_map_or}
use Rattle.script_types.specs.declared.codes.EventCode.{EventCode}
use Rattle.signal_script.specs.declared.signal.Signal.{Signal}
use Rattle.signal_script.specs.declared.signal.Signal.TheVariants as signals
use Rattle.signal_gen.specs.Firing.{fire_by}
use Rattle.signal_gen.specs.Generator.{activity_name, fire_or_clock, held_at, line_at, line_by, lines_behind, next_line, with_clock, with_end, with_start}
use Rattle.signal_gen.specs.declared.course.Course.{Course}
use Rattle.signal_gen.specs.declared.draw.Draw.{Draw}

-- at the turn 0 the activity ends
pub ends : (events : List EventCode) (course new : Course) (draw : Draw) (n : ℕ) (line : Signal) → draw.turn ≡ 0 → line ≡ signals.End (activity_name n) → new ≡ with_end course draw.slot
    → (line, new) ≡ line_at events course draw n
ends events course new draw n line turn says leaves = rw (says, leaves, eq-eqb draw.turn 0 turn) refl

-- at the turn 1 the clock goes on
pub ticks : (events : List EventCode) (course new : Course) (draw : Draw) (n : ℕ) (line : Signal) → draw.turn ≡ 1 → line ≡ signals.Clock (course.clock + 1000) → new ≡ with_clock course
    → (line, new) ≡ line_at events course draw n
ticks events course new draw n line turn says leaves = rw (says, leaves, turn) refl

-- at another one an event is fired, or the clock goes on
at_other : (events : List EventCode) (course : Course) (draw : Draw) (n : ℕ) (o : Option Signal) → (draw.turn ≡ 0 → ⊥) → (draw.turn ≡ 1 → ⊥) → o ≡ fire_by events (activity_name n) draw.rest
    → fire_or_clock course o ≡ line_at events course draw n
at_other events course draw n o zero_not one_not is = rw (ne_eqb draw.turn 0 zero_not, ne_eqb draw.turn 1 one_not) (ap (fire_or_clock course) is)

pub fires : (events : List EventCode) (course : Course) (draw : Draw) (n : ℕ) (line : Signal) → (draw.turn ≡ 0 → ⊥) → (draw.turn ≡ 1 → ⊥) → Some line ≡ fire_by events (activity_name n) draw.rest
    → (line, course) ≡ line_at events course draw n
fires events course draw n line zero_not one_not is = at_other events course draw n (Some line) zero_not one_not is

pub ticks_instead : (events : List EventCode) (course new : Course) (draw : Draw) (n : ℕ) (line : Signal) → (draw.turn ≡ 0 → ⊥) → (draw.turn ≡ 1 → ⊥) → None ≡ fire_by events (activity_name n) draw.rest
    → line ≡ signals.Clock (course.clock + 1000) → new ≡ with_clock course → (line, new) ≡ line_at events course draw n
ticks_instead events course new draw n line zero_not one_not is says leaves = rw (says, leaves) (at_other events course draw n None zero_not one_not is)

-- an open slot and a closed one
pub holds : (events : List EventCode) (course : Course) (draw : Draw) (n : ℕ) (made : Signal × Course) → Some n ≡ held_at course draw.slot → made ≡ line_at events course draw n → made ≡ line_by events course draw
holds events course draw n made is same = same ∙ ap (λ (o : Option ℕ). option_map_or (line_at events course draw) o (signals.Start (activity_name (course.started + 1)), with_start course draw.slot)) is

pub starts : (events : List EventCode) (course new : Course) (draw : Draw) (line : Signal) → None ≡ held_at course draw.slot → line ≡ signals.Start (activity_name (course.started + 1))
    → new ≡ with_start course draw.slot → (line, new) ≡ line_by events course draw
starts events course new draw line is says leaves =
    ap (λ (l : Signal). (l, new)) says ∙ ap (λ (c : Course). (signals.Start (activity_name (course.started + 1)), c)) leaves
    ∙ ap (λ (o : Option ℕ). option_map_or (line_at events course draw) o (signals.Start (activity_name (course.started + 1)), with_start course draw.slot)) is

joined : (done rest : List Signal) (line : Signal) → (done ++ line ∷ []) ++ rest ≡ done ++ line ∷ rest
joined [] rest line = refl
joined (x ∷ xs) rest line = ap (λ more. x ∷ more) (joined xs rest line)

next_more : (events : List EventCode) (course new : Course) (count : ℕ) (line : Signal) (done all : List Signal) → (line, new) ≡ next_line events course
    → done ++ lines_behind (suc count) events course ≡ all → (done ++ line ∷ []) ++ lines_behind count events new ≡ all
next_more events course new count line done all is same =
    joined done (lines_behind count events new) line ∙ ap (λ (made : Signal × Course). done ++ made.0 ∷ lines_behind count events made.1) is ∙ same

-- a line more
pub line_more : (events : List EventCode) (course new : Course) (left after : ℕ) (line : Signal) (done more all : List Signal) → (line, new) ≡ next_line events course → more ≡ done ++ line ∷ []
    → left ≡ after + 1 → done ++ lines_behind left events course ≡ all → more ++ lines_behind after events new ≡ all
line_more events course new left after line done more all is grown count same =
    ap (λ (front : List Signal). front ++ lines_behind after events new) grown
    ∙ next_more events course new after line done all is (ap (λ n. done ++ lines_behind n events course) (sym (count ∙ add-one after)) ∙ same)

-- all lines
pub all_lines : (events : List EventCode) (course : Course) (left : ℕ) (done all : List Signal) → left ≡ 0 → done ++ lines_behind left events course ≡ all → done ≡ all
all_lines events course left done all none same = sym (append-nil done) ∙ ap (λ n. done ++ lines_behind n events course) (sym none) ∙ same
