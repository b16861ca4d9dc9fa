use Rattle.slee_run.proofs.OwnLemmas.{keepable_own, own_read}
use Rattle.slee_run.proofs.opening.open_journal.Goals as goal

pub open-requires-clause-own : goal.open-requires-clause-own
open-requires-clause-own g c = own_read c.args.bytes.now c.args.deployment.now c.requires.given c.requires.checked

pub open-requires-clause-read : goal.open-requires-clause-read
open-requires-clause-read g c = c.requires.given.read

pub open-requires-clause-keepable : goal.open-requires-clause-keepable
open-requires-clause-keepable g c = keepable_own c.args.bytes.now c.args.deployment.now c.requires.given

pub returns-in-Ok-clause-starts : goal.returns-in-Ok-clause-starts
returns-in-Ok-clause-starts g c = c.in-Ok.ensures.starts

pub returns-in-Ok-clause-kept : goal.returns-in-Ok-clause-kept
returns-in-Ok-clause-kept g c = c.in-Ok.ensures.kept

pub returns-in-Err-clause-refused : goal.returns-in-Err-clause-refused
returns-in-Err-clause-refused g c = record { fault = c.in-Err.fault; is = c.status_of.ensures; refused = c.in-Err.ensures.refused }
