use Rattle.std.proofs.Common.{◌≡◌, drop}
use Rattle.script_meaning.specs.Answers.{kept}
use Rattle.script_run_machine.proofs.keys.kept_answer.Given as goal

-- those so far stand under other keys
abbrev pub invariant-known : goal.invariant-known
invariant-known g l = kept (drop l.place l.known) (g.W.Wanted.key_of l.wanted) ≡ kept l.known (g.W.Wanted.key_of l.wanted)
