-- Changes that fit can be made.
use Rattle.std.proofs.Common.{List, [], ◌∷◌, refl}
use Rattle.std.specs.Prelude.{◌&&◌}
use Rattle.std.proofs.lemmas.Bool.{and_parts}
use Rattle.router_state.specs.State.{State}
use Rattle.router_state.specs.Changes.{after_change}
use Rattle.router_state.specs.Fits.{has_next}
use Rattle.router_state.specs.Fitting.{FitChanges, FitsChange, has_activity, has_entity, is_childless, is_detached, is_spec}
use Rattle.router_state.specs.declared.change.Change.{Change}
use Rattle.router_state.specs.declared.change.Change.TheVariants as changes
use Rattle.router_stores.specs.Making.{CanMake, CanMakeAll}

pub fits_can : (c : Change) (s : State) → FitsChange c s → CanMake c s
fits_can (changes.SetField e name value) s fits = refl
fits_can (changes.ForgetFields e) s fits = refl
fits_can (changes.CreateRoot block service priority) s fits = fits
fits_can (changes.CreateChild parent relation block priority) s fits = fits
fits_can (changes.Remove e) s fits = (and_parts (has_entity s.entities e.0) (is_childless s.entities e.0 && is_detached s.links e.0) fits).1
fits_can (changes.SetPriority e priority) s fits = refl
fits_can (changes.Start kind) s fits = fits
fits_can (changes.End a) s fits = fits
fits_can (changes.DropContext a) s fits = refl
fits_can (changes.Attach e a) s fits = (and_parts (has_entity s.entities e.0) (has_activity s.activities a.0) fits).0
fits_can (changes.Detach e a) s fits = refl
fits_can (changes.SetAttr a key value) s fits = refl
fits_can (changes.Bind name a) s fits = fits
fits_can (changes.Unbind name) s fits = fits
fits_can (changes.MaskOnAttach e a events) s fits = refl
fits_can (changes.SetMask e a event on) s fits = refl
fits_can (changes.ForgetMasks e a) s fits = refl
fits_can (changes.Push a event) s fits = refl
fits_can (changes.Pop a) s fits = refl
fits_can (changes.MarkService a service) s fits = refl
fits_can (changes.MarkEntity a e) s fits = refl
fits_can (changes.Hold a until) s fits = refl
fits_can (changes.Release a) s fits = refl
fits_can (changes.SetTimer spec) s fits = (and_parts (is_spec spec) (has_next s.next_timer) fits).1
fits_can (changes.Cancel t) s fits = refl
fits_can (changes.CancelAll a) s fits = refl
fits_can (changes.Advance to) s fits = refl
fits_can (changes.AddRow table row fields) s fits = fits
fits_can (changes.UpdateRow table row fields) s fits = fits
fits_can (changes.RemoveRow table row) s fits = fits
fits_can (changes.Clock to) s fits = refl
fits_can changes.Taken s fits = fits
fits_can (changes.Service service state a) s fits = fits
fits_can (changes.Root e name) s fits = refl
fits_can changes.NextEvent s fits = fits

pub fit_can : (cs : List Change) (s : State) → FitChanges cs s → CanMakeAll cs s
fit_can [] s fits = tt
fit_can (c ∷ cs) s fits = (fits_can c s fits.0, fit_can cs (after_change c s) fits.1)
