use Rattle.std.proofs.Common.{arith}
use Rattle.slee_value.proofs.ReadLemmas.{bytes_from}
use Rattle.slee_effect.proofs.FieldLemmas.{fields_rise}
use Rattle.slee_effect.proofs.rows.read_fields.Goals as goal

pub from_vec-requires : goal.from_vec-requires
from_vec-requires c = fields_rise c.args.bytes.now c.in_ok-count.count c.in_ok-count.rest.now (c.in_ok-fields.fields.items, c.in_ok-fields.rest.now) (bytes_from c.args.bytes.now (λ i. omega (arith, c.type_inv.bytes i))) c.in_ok-count.ensures.part c.in_ok-fields.ensures
