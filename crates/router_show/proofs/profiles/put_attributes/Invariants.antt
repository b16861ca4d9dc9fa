-- the words so far and those of the others
use Rattle.std.proofs.Common.{◌≡◌, ◌++◌, drop, map}
use Rattle.router_state.specs.Show.{attribute_word, spaced}
use Rattle.router_show.proofs.profiles.put_attributes.Given as goal

abbrev pub invariant-attributes : goal.invariant-attributes
invariant-attributes l =
    l.into.items ++ spaced (map attribute_word (drop l.attribute-index l.attributes)) ≡ l.fn.into.items ++ spaced (map attribute_word l.attributes)
