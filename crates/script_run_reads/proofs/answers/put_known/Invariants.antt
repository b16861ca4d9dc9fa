use Rattle.std.proofs.Common.{◌≡◌, ◌++◌, take, map}
use Rattle.slee_effect.specs.declared.reference.Ref.TheVariants.{Known}
use Rattle.script_run_reads.proofs.answers.put_known.Given as goal

-- those so far are there, behind what was there before
abbrev pub invariant-loop-number : goal.invariant-loop-number
invariant-loop-number l = l.refs.items ≡ l.initial.refs.items ++ map Known (take l.number-index l.numbers)
