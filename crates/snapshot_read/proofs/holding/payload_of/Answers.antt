use Rattle.std.proofs.Common.{List, ℕ, ◌∙◌, sym}
use Rattle.std.specs.List.{list_all}
use Rattle.std.proofs.lemmas.Result.{err_from_is_err_and}
use Rattle.slee_value.specs.Fields.{are_fields}
use Rattle.slee_value.specs.Name.{is_name}
use Rattle.slee_value.specs.declared.value.Value.{Value}
use Rattle.snapshot_read.proofs.HeldLemmas.{refused}
use Rattle.snapshot_read.proofs.NameLemmas.{unnamed, rising_fields}
use Rattle.snapshot_read.proofs.holding.payload_of.Goals as goal

pub returns-in_err-fields : goal.returns-in_err-fields
returns-in_err-fields c =
    let p = err_from_is_err_and c.from_residual.result c.from_residual.ensures.1 in
    rw (p.1, p.2) (refused (list_all (λ (f : List ℕ × Value). is_name f.0) c.args.pairs.items) (are_fields c.args.pairs.items) c.in_err-fields.field-0.0 (unnamed c.args.pairs.items) c.in_err-fields.ensures.held)

pub from_vec-requires : goal.from_vec-requires
from_vec-requires c = rising_fields c.in_ok-fields.fields.items c.in_ok-fields.ensures.named (sym (rw c.deref.ensures.value at c.are_rising.ensures) ∙ c.if-not-are_rising.false)
