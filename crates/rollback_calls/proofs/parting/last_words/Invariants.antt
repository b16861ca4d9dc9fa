use Rattle.std.proofs.Common.{◌-◌, [], length}
use Rattle.script_types.specs.ProgramOf.{kept_program}
use Rattle.script_meaning.specs.Answers.{kept}
use Rattle.script_laws.specs.Asking.{WereAsked, lacked_in}
use Rattle.script_laws.specs.Dependence.{Extends}
use Rattle.rollback_calls.specs.LastWords.{own_answers}
use Rattle.rollback_calls.proofs.LastWordsLemmas.{removal_over}
use Rattle.rollback_calls.proofs.parting.last_words.Given as goal

-- what is known was asked for, and answered by the fields
abbrev pub invariant-asking : goal.invariant-asking
invariant-asking g l = record {
  answered : Extends (kept l.known) (own_answers (g.F.OwnFields.field_of l.fields));
  asked : WereAsked (λ given. lacked_in (removal_over (kept_program l.codes) l.block l.entity given)) [] l.known;
}

abbrev pub decreases-asking : goal.decreases-asking
decreases-asking g l = 64 - length l.known
