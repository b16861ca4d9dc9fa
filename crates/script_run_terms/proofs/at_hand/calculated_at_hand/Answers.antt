use Rattle.std.proofs.Common.{rules, w64}
use Rattle.std.proofs.lemmas.Int.{to_z-of_z}
use Rattle.script_types.specs.ProgramOf.{term_of}
use Rattle.script_run_terms.proofs.HandLemmas.{calculated_found}
use Rattle.script_run_terms.proofs.at_hand.calculated_at_hand.Goals as goal

pub returns : goal.returns
returns c = calculated_found c.args.machine.now.variables c.args.parts.now.1 (term_of c.args.parts.now.0) (term_of c.args.parts.now.2) c.in_ok-x.x c.in_ok-y.y c.in_ok-x.ensures c.in_ok-y.ensures c.reckon.result (rw (to_z-of_z w64 c.in_ok-x.x (search rules), to_z-of_z w64 c.in_ok-y.y (search rules)) at c.reckon.ensures)
