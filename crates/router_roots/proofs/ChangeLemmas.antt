-- Changes that neither make nor remove a root, and give no name.
use Rattle.std.proofs.Common.{◌≡◌, Bool, true, false, List, sym, subst}
use Rattle.rows_index.specs.Index.{IsIndex}
use Rattle.router_state.specs.State.{State}
use Rattle.router_state.specs.Changes.{after_change}
use Rattle.router_state.specs.declared.change.Change.{Change}
use Rattle.router_state.specs.declared.change.Change.TheVariants as changes
use Rattle.router_state.specs.declared.rows.Entity.{Entity}
use Rattle.router_roots.specs.Roots.{AreRootsOf, service_entry}
use Rattle.router_roots.specs.Views.{RootsView}
use Rattle.router_roots.proofs.ServiceLemmas.{child_created, priority_kept}

-- whether a change makes or removes a root, or gives a name
abbrev pub touches : Change → Bool
touches (changes.CreateRoot block service priority) = true
touches (changes.Remove e) = true
touches (changes.Root e name) = true
touches c = false

-- all other changes leave the roots and their names
pub others_kept : (c : Change) (s : State) (roots : RootsView) → touches c ≡ false → AreRootsOf s roots → AreRootsOf (after_change c s) roots
others_kept (changes.CreateRoot block service priority) s roots other listed = absurd cc
others_kept (changes.Remove e) s roots other listed = absurd cc
others_kept (changes.Root e name) s roots other listed = absurd cc
others_kept (changes.CreateChild parent relation block priority) s roots other listed = record {
  services = subst (λ (all : List Entity). IsIndex service_entry all roots.by_service) (sym (child_created s.entities s.next_entity block parent relation priority)) listed.services;
  names = listed.names;
}
others_kept (changes.SetPriority e priority) s roots other listed = record {
  services = priority_kept s.entities e.0 priority roots.by_service listed.services;
  names = listed.names;
}
others_kept (changes.SetField e name value) s roots other listed = listed
others_kept (changes.ForgetFields e) s roots other listed = listed
others_kept (changes.Start kind) s roots other listed = listed
others_kept (changes.End a) s roots other listed = listed
others_kept (changes.DropContext a) s roots other listed = listed
others_kept (changes.Attach e a) s roots other listed = listed
others_kept (changes.Detach e a) s roots other listed = listed
others_kept (changes.SetAttr a key value) s roots other listed = listed
others_kept (changes.Bind name a) s roots other listed = listed
others_kept (changes.Unbind name) s roots other listed = listed
others_kept (changes.MaskOnAttach e a events) s roots other listed = listed
others_kept (changes.SetMask e a event on) s roots other listed = listed
others_kept (changes.ForgetMasks e a) s roots other listed = listed
others_kept (changes.Push a event) s roots other listed = listed
others_kept (changes.Pop a) s roots other listed = listed
others_kept (changes.MarkService a service) s roots other listed = listed
others_kept (changes.MarkEntity a e) s roots other listed = listed
others_kept (changes.Hold a until) s roots other listed = listed
others_kept (changes.Release a) s roots other listed = listed
others_kept (changes.SetTimer spec) s roots other listed = listed
others_kept (changes.Cancel t) s roots other listed = listed
others_kept (changes.CancelAll a) s roots other listed = listed
others_kept (changes.Advance to) s roots other listed = listed
others_kept (changes.AddRow table row fields) s roots other listed = listed
others_kept (changes.UpdateRow table row fields) s roots other listed = listed
others_kept (changes.RemoveRow table row) s roots other listed = listed
others_kept (changes.Clock to) s roots other listed = listed
others_kept changes.Taken s roots other listed = listed
others_kept (changes.Service service state a) s roots other listed = listed
others_kept changes.NextEvent s roots other listed = listed
