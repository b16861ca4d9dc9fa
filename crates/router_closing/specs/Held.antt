-- Entities that are attached.
use Rattle.std.specs.Prelude.{ℕ, ◌==◌, Bool, List}
use Rattle.std.specs.List.{list_any}
use Rattle.router_state.specs.declared.rows.Link.{Link}

-- the entity is attached to an activity
abbrev pub is_held : List Link → ℕ → Bool
is_held links e = list_any (λ l. l.entity.0 == e) links
