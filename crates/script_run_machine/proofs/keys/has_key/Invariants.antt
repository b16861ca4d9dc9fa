use Rattle.std.proofs.Common.{◌≡◌, drop}
use Rattle.std.specs.List.{list_any}
use Rattle.script_meaning.specs.Seeing.{same_key}
use Rattle.script_run_machine.proofs.keys.has_key.Given as goal

-- those so far are other keys
abbrev pub invariant-keys : goal.invariant-keys
invariant-keys g l = list_any (same_key (g.W.Wanted.key_of l.wanted)) (drop l.place l.keys) ≡ list_any (same_key (g.W.Wanted.key_of l.wanted)) l.keys
