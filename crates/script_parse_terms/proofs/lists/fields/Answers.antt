use Rattle.std.specs.Prelude.{map}
use Rattle.script_tree.specs.Tree.{field_of}
use Rattle.std.proofs.Common.{◌+◌, ap, arith}
use Rattle.std.specs.Prelude.{map}
use Rattle.std.specs.List.{list_all}
use Rattle.script_tree.specs.Grammar.{MoreFields}
use Rattle.script_tree.specs.Spelling.{spell_fields, field_fits}
use Rattle.script_tree.specs.Tree.{field_of}
use Rattle.script_parse_terms.specs.Lists.{with_fields}
use Rattle.script_parse_terms.proofs.ListSteps.{skip_fields}
use Rattle.script_parse_terms.proofs.ListReaders.{left_out, fields_took, fields_deep}
use Rattle.script_parse_terms.proofs.lists.fields.Goals as goal

pub returns-in_default : goal.returns-in_default
returns-in_default c =
    left_out MoreFields _ _ (spell_fields (map field_of c.new.result.items)) (with_fields (map field_of c.new.result.items)) _ (λ ps i. skip_fields ps i c.args.depth c.args.ts.now c.in_default.ensures)
    (λ i. ap (λ l. with_fields (map field_of l) i) c.new.ensures.items) (ap (λ l. list_all (field_fits (c.args.depth + 1)) (map field_of l)) c.new.ensures.items) (ap (λ l. spell_fields (map field_of l)) c.new.ensures.items)

pub returns-then-depth-eq64 : goal.returns-then-depth-eq64
returns-then-depth-eq64 c = rw c.too_deep.ensures (fields_deep _ _ _ c.in-Some.ensures c.if-depth-eq64.true)

pub returns : goal.returns
returns c = fields_took _ _ _ _ _ (map field_of c.in_ok-list.list.items) c.in-Some.ensures (omega arith) c.in_ok-list.ensures c.in_ok-last.ensures.read
