use Rattle.std.proofs.Common.{◌≡◌, drop}
use Rattle.script_meaning.specs.Answers.{value_under}
use Rattle.script_run_reads.proofs.rows.value_under.Given as goal

-- those so far have other names
abbrev pub invariant-fields : goal.invariant-fields
invariant-fields l = value_under l.name.name (drop l.place l.fields) ≡ value_under l.name.name l.fields
