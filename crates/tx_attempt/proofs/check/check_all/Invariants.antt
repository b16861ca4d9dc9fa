use Rattle.std.proofs.Common.{◌≡◌, drop}
use Rattle.handler_run.specs.Views.{conflict}
use Rattle.tx_attempt.proofs.check.check_all.Given as goal

-- nothing so far conflicts
abbrev pub invariant-known : goal.invariant-known
invariant-known g l = conflict (g.V.View.seen_at l.view) (drop l.key-index l.known) ≡ conflict (g.V.View.seen_at l.view) l.known
