use Rattle.commit_journal.proofs.LawLemmas.{headers_read, records_read}
use Rattle.commit_journal.proofs.Writes.{stands_keeps}
use Rattle.commit_journal.proofs.laws.what_is_spelled_is_read.Goals as goal

pub returns : goal.returns
returns c = record { headers = headers_read; records = records_read; sides = stands_keeps }
