use Rattle.std.proofs.Common.{◌≡◌, ◌++◌, drop}
use Rattle.std.specs.Prelude.{map}
use Rattle.script_types.specs.declared.codes.AttributeCode.{AttributeCode}
use Rattle.slee_descriptor.proofs.naming.add_keys.Given as goal

abbrev pub invariant-loop-attribute : goal.invariant-loop-attribute
invariant-loop-attribute l =
    l.names.items ++ map (λ (a : AttributeCode). a.key) (drop l.attribute-index l.attributes)
    ≡ l.initial.names.items ++ map (λ (a : AttributeCode). a.key) l.attributes
