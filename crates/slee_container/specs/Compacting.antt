-- What compacting the journal of a container does.
use Rattle.std.specs.Prelude.{◌≡◌, ℕ, Result}
use Rattle.slee_disk.specs.Disk.{DiskState}
use Rattle.commit_journal.specs.declared.fault.BeginFault.{BeginFault}
use Rattle.router_durable.specs.Compacting.{Compacts as CompactsRouter}
use Rattle.slee_container.specs.Container.{View, held_in}

-- The journal of its router is compacted, or the refusal of that; its lines and claims stay, and so do its limits.
pub record Compacts {D : Type 0} (before after : DiskState) (old : View D) (result : Result ℕ BeginFault) (new : View D) : Type 0 where
  pub router : CompactsRouter before after (held_in old) result (held_in new)
  pub same : new ≡ record old { disk = new.disk; setup = record old.setup { origin = new.setup.origin }; stop = new.stop }
