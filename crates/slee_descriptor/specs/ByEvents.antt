-- The numbers of an event, as an index has them.
use Rattle.std.specs.Prelude.{ℕ, List, []}
use Rattle.std.specs.HashMap.{get_by_text}
use Rattle.std.specs.Option.{option_map_or}
use Rattle.script_tree.specs.Tree.{Bytes}
use Rattle.slee_descriptor.specs.declared.by_event.ByEvent.{ByEvent}

-- The numbers that the index has for an event.
abbrev pub numbers_at : ByEvent → Bytes → List ℕ
numbers_at index event = option_map_or (λ g. g.items) (get_by_text index.numbers event) []
