use Rattle.std.proofs.Common.{◌≡◌, ◌-◌, length, ap, ◌∙◌, arith}
use Rattle.commit_journal.specs.Spelling.{records_size}
use Rattle.commit_journal.specs.Batch.{payloads_in}
use Rattle.commit_journal.proofs.Batches.{some_bytes}
use Rattle.commit_journal.proofs.batch.Batch.size.Goals as goal

pub returns-clause-size : goal.returns-clause-size
returns-clause-size c =
    let bytes = c.self.inside.bytes.items in
    let size : length bytes - 1 ≡ records_size (payloads_in bytes) = omega (arith, some_bytes bytes c.self.invariant) in
    ap (λ n. n - 1) (c.len.ensures ∙ c.self.inside.bytes.ok.0) ∙ size ∙ ap records_size c.self.view_is
