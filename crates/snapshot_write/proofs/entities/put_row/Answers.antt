-- the number, the block, the stem, and then the priority
use Rattle.std.proofs.Common.{ℤ, ◌++◌, ap, rules, w8, ◌∙◌}
use Rattle.std.proofs.lemmas.Int.{to_z-of_z}
use Rattle.std.proofs.lemmas.Result.{on_ok_weaker}
use Rattle.slee_value.specs.Bytes.{spelled_i8}
use Rattle.deploy_model.specs.Resolving.{deployed_of}
use Rattle.snapshot_write.proofs.WholeLemmas.{entity_row_put}
use Rattle.snapshot_write.proofs.entities.put_row.Goals as goal

pub returns : goal.returns
returns c =
    on_ok_weaker c.write_i8.result
    (λ last. entity_row_put (deployed_of c.args.deployment.now.parts) c.args.row.now c.as_bytes.result.now c.args.into.now.items _ _ _ _ (c.as_bytes.ensures.value ∙ c.block_key.ensures)
    c.in_ok-write_u64.ensures.ok c.in_ok-put_text.ensures c.in_ok-put_stem.ensures
    (last ∙ ap (λ (z : ℤ). c.put_stem.new.into.items ++ spelled_i8 z) (to_z-of_z w8 c.args.row.now.priority (search rules))))
    c.write_i8.ensures.ok
