use Rattle.std.proofs.Common.{ap, ◌∙◌, arith}
use Rattle.commit_journal.specs.Batch.{payloads_in}
use Rattle.commit_journal.proofs.Batches.{emptied, some_bytes, none_is_batch, payloads_in_none}
use Rattle.commit_journal.proofs.batch.Batch.clear.Goals as goal

pub invariant_of-self : goal.invariant_of-self
invariant_of-self c =
    let bytes = c.self.inside.bytes.items in
    none_is_batch _ (emptied bytes c.truncate.new.self.items (omega (arith, some_bytes bytes c.self.invariant)) c.truncate.ensures.items)

pub returns : goal.returns
returns c =
    let bytes = c.self.inside.bytes.items in
    ap payloads_in (emptied bytes c.truncate.new.self.items (omega (arith, some_bytes bytes c.self.invariant)) c.truncate.ensures.items) ∙ payloads_in_none
