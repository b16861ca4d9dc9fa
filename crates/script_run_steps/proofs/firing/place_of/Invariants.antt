use Rattle.std.proofs.Common.{◌≡◌, ◌+◌, drop}
use Rattle.script_run_steps.specs.Firing.{place_in}
use Rattle.script_run_steps.proofs.firing.place_of.Given as goal

-- the fields so far aren't above the name
abbrev pub invariant-fields : goal.invariant-fields
invariant-fields l = (l.place + place_in l.name (drop l.other-index l.fields) ≡ place_in l.name l.fields) × (l.place ≡ l.other-index)
