use Rattle.std.proofs.Common.{length}
use Rattle.commit_journal.proofs.LawLemmas.{headers_spelled, records_spelled, short_stands, sides_spelled}
use Rattle.commit_journal.proofs.laws.what_is_read_was_spelled.Goals as goal

pub returns : goal.returns
returns c = record { headers = headers_spelled; records = records_spelled; short = λ at bytes are read. short_stands (length bytes) bytes at are read; sides = sides_spelled }
