-- six numbers
use Rattle.std.proofs.Common.{ℕ, ◌++◌, ap, ◌∙◌}
use Rattle.std.proofs.lemmas.Result.{on_ok_weaker}
use Rattle.slee_value.specs.Bytes.{spelled_u64}
use Rattle.snapshot_write.proofs.WholeLemmas.{counts_put}
use Rattle.snapshot_write.proofs.state.put_counts.Goals as goal

pub returns : goal.returns
returns c =
    on_ok_weaker c.write_u64-6.result
    (λ last. counts_put c.args.stores.now.state c.args.into.now.items _ _ _ _ _ _
    (c.in_ok-write_u64.ensures.ok ∙ ap (λ (n : ℕ). c.args.into.now.items ++ spelled_u64 n) c.clock.ensures)
    (c.in_ok-write_u64-2.ensures.ok ∙ ap (λ (n : ℕ). c.write_u64.new.into.items ++ spelled_u64 n) c.inputs.ensures)
    (c.in_ok-write_u64-3.ensures.ok ∙ ap (λ (n : ℕ). c.write_u64-2.new.into.items ++ spelled_u64 n) (c.next_number.ensures ∙ c.tree.ensures.next))
    (c.in_ok-write_u64-4.ensures.ok ∙ ap (λ (n : ℕ). c.write_u64-3.new.into.items ++ spelled_u64 n) (c.next_number-2.ensures ∙ c.contexts.ensures.next))
    (c.in_ok-write_u64-5.ensures.ok ∙ ap (λ (n : ℕ). c.write_u64-4.new.into.items ++ spelled_u64 n) (c.next_number-3.ensures ∙ c.timers.ensures.next))
    (last ∙ ap (λ (n : ℕ). c.write_u64-5.new.into.items ++ spelled_u64 n) c.next_event.ensures))
    c.write_u64-6.ensures.ok
