use Rattle.std.proofs.Common.{◌≡◌, drop}
use Rattle.slee_disk.specs.Calls.{stopped}
use Rattle.slee_disk.proofs.stop.Stop.after.Given as goal

-- the calls that are left do to what was done so far what all of them do to the start
abbrev pub invariant-loop-call : goal.invariant-loop-call
invariant-loop-call l = stopped l.tear.part l.tear.fill (drop l.call-index l.calls) l.self ≡ stopped l.tear.part l.tear.fill l.calls l.fn.self
