use Rattle.std.proofs.Common.{◌≡◌, drop}
use Rattle.std.specs.Prelude.{bytes_eq}
use Rattle.std.specs.List.{list_any}
use Rattle.script_run_reads.proofs.masks.is_one_of.Given as goal

-- those so far are other events
abbrev pub invariant-events : goal.invariant-events
invariant-events l = list_any (bytes_eq l.event.name) (drop l.place l.events) ≡ list_any (bytes_eq l.event.name) l.events
