use Rattle.std.proofs.Common.{sym}
use Rattle.script_run_reads.specs.Done.{sets_property}
use Rattle.script_run_reads.proofs.OverlayLemmas.{set_found, set_passed}
use Rattle.script_run_reads.proofs.fields.last_set.Goals as goal

pub returns-then-sets_property : goal.returns-then-sets_property
returns-then-sets_property c = set_found (sets_property c.args.property) c.args.given.effects.now c.effects.behind c.index-effects-place.result _ c.effects-test.true c.index-effects-place.is c.effects.invariant (sym c.if-sets_property.ensures)

pub effects-preserved : goal.effects-preserved
effects-preserved c = set_passed (sets_property c.args.property) c.args.given.effects.now c.effects.behind c.index-effects-place.result _ c.effects-test.true c.index-effects-place.is c.effects.invariant (sym c.if-sets_property.ensures)
