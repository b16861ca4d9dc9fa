use Rattle.std.proofs.Common.{◌≡◌, drop, map}
use Rattle.std.specs.Prelude.{bytes_eq}
use Rattle.std.specs.List.{list_any}
use Rattle.script_run_reads.proofs.masks.has_event.Given as goal

-- those so far are other events
abbrev pub invariant-events : goal.invariant-events
invariant-events l = list_any (bytes_eq l.event.name) (map (λ x. x.name) (drop l.place l.events)) ≡ list_any (bytes_eq l.event.name) (map (λ x. x.name) l.events)
