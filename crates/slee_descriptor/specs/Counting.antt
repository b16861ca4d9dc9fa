-- Which numbers are noted for an event: those of blocks that handle it, and those of services whose roots declare it initial.
use Rattle.std.specs.Prelude.{ℕ, ◌+◌, Bool, true, ◌&&◌, List, [], ◌∷◌, ◌++◌, bytes_eq, is_some, slice_get, if◌then◌else◌}
use Rattle.std.specs.Option.{option_map_or}
use Rattle.script_tree.specs.Tree.{Bytes}
use Rattle.deploy_model.specs.declared.parts.Block.{Block}
use Rattle.deploy_model.specs.declared.parts.BlockEvent.{BlockEvent}
use Rattle.slee_descriptor.specs.declared.by_event.Counted.{Counted}
use Rattle.slee_descriptor.specs.declared.by_event.Counted.TheVariants as counted
use Rattle.slee_descriptor.specs.declared.selection.Rank.{Rank}

-- Whether an event of a block counts.
abbrev pub counts : Counted → BlockEvent → Bool
counts counted.Handled h = true
counts counted.Initial h = is_some h.initial

-- The number, once for each of these events that counts and is the one asked for.
abbrev pub noted : Counted → ℕ → List BlockEvent → Bytes → List ℕ
noted kind number [] event = []
noted kind number (h ∷ events) event = (if bytes_eq event h.event && counts kind h then number ∷ [] else []) ++ noted kind number events event

-- The numbers of the blocks that handle the event, counted from n.
abbrev pub noted_from : ℕ → List Block → Bytes → List ℕ
noted_from n [] event = []
noted_from n (b ∷ blocks) event = noted counted.Handled n b.events event ++ noted_from (n + 1) blocks event

-- The events that the block of this number handles.
abbrev pub events_of : List Block → ℕ → List BlockEvent
events_of blocks n = option_map_or (λ b. b.events) (slice_get blocks n) []

-- The numbers of the services whose roots are of blocks that declare the event initial.
abbrev pub begun_by : List Block → List Rank → Bytes → List ℕ
begun_by blocks [] event = []
begun_by blocks (r ∷ ranks) event = noted counted.Initial r.number (events_of blocks r.root) event ++ begun_by blocks ranks event
