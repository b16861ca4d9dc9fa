-- Changes that fit keep trees.
use Rattle.std.proofs.Common.{List, [], ◌∷◌, refl}
use Rattle.std.proofs.lemmas.Bool.{and_parts}
use Rattle.router_state.specs.State.{State}
use Rattle.router_state.specs.Fits.{has_next}
use Rattle.router_state.specs.Fitting.{FitsChange, FitChanges, has_entity}
use Rattle.router_state.specs.Changes.{after_change}
use Rattle.router_state.specs.declared.change.Change.{Change}
use Rattle.router_state.specs.declared.change.Change.TheVariants as changes
use Rattle.router_laws_closing.specs.Keeping.{KeepsTrees, AllKeepTrees}

keeps : (c : Change) (s : State) → FitsChange c s → KeepsTrees c s
keeps (changes.CreateChild parent relation block priority) s fits = (and_parts (has_entity s.entities parent.0) (has_next s.next_entity) fits).0
keeps (changes.Remove e) s fits = (and_parts _ _ fits).1
keeps _ s fits = refl

pub all_keep : (cs : List Change) (s : State) → FitChanges cs s → AllKeepTrees cs s
all_keep [] s fits = tt
all_keep (c ∷ cs) s fits = (keeps c s fits.0, all_keep cs (after_change c s) fits.1)
