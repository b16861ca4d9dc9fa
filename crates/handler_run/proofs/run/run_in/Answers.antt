use Rattle.std.proofs.Common.{◌≤◌, List, length, sym, ◌∙◌, subst, refl}
use Rattle.slee_effect.specs.declared.reference.Ref.TheVariants.{Known}
use Rattle.slee_effect.specs.declared.effect.Effect.{Effect}
use Rattle.script_meaning.specs.Running.{effect_limit}
use Rattle.handler_run.specs.Runs.{before_of}
use Rattle.handler_run.proofs.TidyScripts.{sound_in, masks_in}
use Rattle.handler_run.proofs.RunLemmas.{setting_is, run_is}
use Rattle.handler_run.proofs.run.run_in.Goals as goal

pub run_steps-requires-clause-steps : goal.run_steps-requires-clause-steps
run_steps-requires-clause-steps c =
    (sound_in c.args.names.now c.args.blocks.now c.args.which.block c.args.which.part c.in-Some.block.now c.in-Some-script_in.steps.now c.as_slice.result.now c.requires.tidy c.requires.numbered (sym c.in-Some.ensures) c.in-Some-script_in.ensures c.as_slice.ensures).0

pub run_steps-requires-clause-numbered : goal.run_steps-requires-clause-numbered
run_steps-requires-clause-numbered c =
    (sound_in c.args.names.now c.args.blocks.now c.args.which.block c.args.which.part c.in-Some.block.now c.in-Some-script_in.steps.now c.as_slice.result.now c.requires.tidy c.requires.numbered (sym c.in-Some.ensures) c.in-Some-script_in.ensures c.as_slice.ensures).1

pub returns : goal.returns
returns c =
    run_is _ c.args.known.now c.args.blocks.now c.args.which c.args.me c.args.arguments.now (before_of c.args.before.now) c.in-Some.block.now c.in-Some-script_in.steps.now c.as_slice.result.now c.run_steps.result c.run_steps.ensures (sym c.in-Some.ensures) c.in-Some-script_in.ensures c.as_slice.ensures (setting_is c.args.arguments.now (Known c.args.me.0) c.as_slice-answers.result.now c.args.known.now c.as_slice-effects.result.now c.args.before.now.effects c.as_slice-keys.result.now c.args.before.now.keys c.as_slice-masks.result.now c.in-Some.block.now.masks c.as_slice-answers.ensures c.as_slice-effects.ensures c.as_slice-keys.ensures c.as_slice-masks.ensures) refl

pub invariant_of-stage : goal.invariant_of-stage
invariant_of-stage c = record {
  few_effects = subst (λ (l : List Effect). length l ≤ effect_limit) (sym c.as_slice-effects.ensures) c.requires.effects;
  known_numbered = c.deref.ensures.value ∙ c.in_ok-known_numbers.ensures;
  effects_numbered = c.deref-2.ensures.value ∙ c.in_ok-effect_numbers.ensures;
  keys_numbered = c.deref-3.ensures.value ∙ c.in_ok-key_numbers.ensures;
  masks_numbered = masks_in c.args.names.now c.args.blocks.now c.args.which.block c.in-Some.block.now c.as_slice-masks.result.now c.requires.numbered (sym c.in-Some.ensures) c.as_slice-masks.ensures;
}
