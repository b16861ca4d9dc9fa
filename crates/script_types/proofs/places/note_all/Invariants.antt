use Rattle.std.proofs.Common.{◌≡◌, ℕ, List, drop, bytes_eq}
use Rattle.std.specs.List.{position_from}
use Rattle.std.specs.Option.{option_or}
use Rattle.script_types.specs.Places.{place_in}
use Rattle.script_types.proofs.places.note_all.Given as goal

abbrev pub invariant-loop-i : goal.invariant-loop-i
invariant-loop-i g l = (q : List ℕ) →
    option_or (place_in l.places q) (position_from (λ x. bytes_eq (g.T.Named.name_of x) q) l.i (drop l.i l.items))
    ≡ option_or (place_in l.fn.places q) (position_from (λ x. bytes_eq (g.T.Named.name_of x) q) 0 l.items)
