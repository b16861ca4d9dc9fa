use Rattle.std.proofs.Common.{sym, ◌∙◌, arith}
use Rattle.slee_effect.proofs.FallLemmas.{fall_past, fall_short, fall_rises, fall_falls, fall_same}
use Rattle.slee_effect.proofs.names.fall_at.Goals as goal

pub returns-then-at-before : goal.returns-then-at-before
returns-then-at-before c = sym (fall_past c.args.before.now c.args.bytes.now c.args.most c.same.at (omega arith) (omega arith)) ∙ c.same.invariant.same

pub returns-then-at-bytes : goal.returns-then-at-bytes
returns-then-at-bytes c = sym (fall_short c.args.before.now c.args.bytes.now c.args.most c.same.at (omega arith) (omega arith)) ∙ c.same.invariant.same

pub returns-then-before-at : goal.returns-then-before-at
returns-then-before-at c = sym (fall_rises c.args.before.now c.args.bytes.now c.args.most c.same.at (omega arith) (omega arith) (omega arith) (omega arith)) ∙ c.same.invariant.same

pub returns-then-bytes-at : goal.returns-then-bytes-at
returns-then-bytes-at c = sym (fall_falls c.args.before.now c.args.bytes.now c.args.most c.same.at (omega arith) (omega arith) (omega arith) (omega arith)) ∙ c.same.invariant.same

pub same-preserved : goal.same-preserved
same-preserved c = record {
  in_before = omega arith;
  in_bytes = omega arith;
  same = sym (fall_same c.args.before.now c.args.bytes.now c.args.most c.same.at (omega arith) (omega arith) (omega arith) (omega arith) (omega arith)) ∙ c.same.invariant.same;
}
