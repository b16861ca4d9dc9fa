-- What is to be done next.
use Rattle.std.specs.Prelude.{◌≡◌, ◌<◌, ◌==◌, nat_le, not, ◌&&◌, ◌||◌, is_some, length, Bool, false, if◌then◌else◌, [], None, Some, ⊤}
use Rattle.std.specs.Option.{option_map_or}
use Rattle.router_state.specs.Next.{least, next}
use Rattle.router_state.specs.State.{is_used_up}
use Rattle.slee_container.specs.Claims.{claimed_in, is_claimed}
use Rattle.slee_container.specs.Container.{View, state_of}
use Rattle.slee_container.specs.declared.fault.Work.{Work}
use Rattle.slee_container.specs.declared.fault.Work.TheVariants as works

-- a line is left
abbrev pub has_line : {D : Type 0} → View D → Bool
has_line v = not (nat_le (length v.setup.lines) v.taken)

-- a line is left, or a choice may be made
abbrev pub is_left : {D : Type 0} → View D → Bool
is_left v = has_line v || is_some (least (state_of v) [])

-- a line, where one is left; else waiting for the claims, or nothing
abbrev pub line_or : {D : Type 0} → View D → Work
line_or v = if nat_le (length v.setup.lines) v.taken then (if length v.claims == 0 then works.Done else works.Idle (length v.claims)) else works.Line

-- the choice of the least activity that isn't claimed and has one, else that
abbrev pub work_left : {D : Type 0} → View D → Work
work_left v = option_map_or (λ x. works.Step (record { 0 = x.0 }) x.1) (least (state_of v) (claimed_in v.claims)) (line_or v)

-- what is to be done next
abbrev pub next_work : {D : Type 0} → View D → Work
next_work v = option_map_or works.Stopped v.stop
    (if is_used_up (state_of v) || (nat_le v.setup.steps (length v.history) && is_left v) then works.Spent else work_left v)

-- what may be done then: the step that it names, or taking the next line
abbrev pub Offers : {D : Type 0} → View D → Work → Type 0
Offers v (works.Stopped stop) = ⊤
Offers v works.Spent = ⊤
Offers v (works.Step a kindred) = (v.stop ≡ None) × (next (state_of v) a.0 ≡ Some kindred) × (is_claimed v.claims a.0 ≡ false)
Offers v works.Line = (v.stop ≡ None) × (v.taken < length v.setup.lines)
Offers v (works.Idle claims) = ⊤
Offers v works.Done = ⊤
