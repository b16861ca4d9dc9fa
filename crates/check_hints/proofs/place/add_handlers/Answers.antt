use Rattle.script_types.specs.declared.codes.CodePart.TheVariants as code_part
use Rattle.check_hints.proofs.Items.{one_more}
use Rattle.check_hints.proofs.place.add_handlers.Goals as goal

pub loop-place-preserved : goal.loop-place-preserved
loop-place-preserved c = one_more (λ x. code_part.Handler x) c.args.parts.now.items c.loop-place.parts.items c.push.new.self.items c.loop-place.place c.in_ok-item_number.field-0 c.in_ok-push.ensures.items c.in_ok-item_number.ensures c.loop-place.invariant
