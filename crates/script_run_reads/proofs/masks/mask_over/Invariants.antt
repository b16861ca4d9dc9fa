use Rattle.std.proofs.Common.{◌≡◌, drop}
use Rattle.script_run_reads.specs.Done.{done}
use Rattle.script_run_reads.specs.Masked.{mask_after}
use Rattle.script_run_reads.proofs.masks.mask_over.Given as goal

-- the effects so far are done
abbrev pub invariant-effects : goal.invariant-effects
invariant-effects l = done (mask_after l.event.name l.attached l.scene.me l.activity) (drop l.place l.effects) l.current ≡ done (mask_after l.event.name l.attached l.scene.me l.activity) l.effects l.fn.first
