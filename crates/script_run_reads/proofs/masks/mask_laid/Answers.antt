use Rattle.std.proofs.Common.{map}
use Rattle.script_run_reads.proofs.MaskLemmas.{mask_read}
use Rattle.script_run_reads.proofs.masks.mask_laid.Goals as goal

pub returns : goal.returns
returns c = λ masks is_begun. mask_read c.args.event.now.name (map (λ x. x.name) c.args.scene.now.masks.now) c.args.scene.now.me c.args.activity c.args.scene.now.effects.now c.args.machine.now.effects c.own_effects.result.effects.now masks c.has_event-attached.result c.args.first c.mask_over-before.result c.mask_over.result
    c.has_event-attached.ensures is_begun (rw c.effects_before.ensures.effects at c.mask_over-before.ensures) c.own_effects.ensures.effects c.mask_over.ensures
