-- An entity whose number was drawn has one block for good.
use Rattle.std.proofs.Common.{◌≡◌, ℕ, ◌<◌, ◌==◌, ℤ, true, not, List, [], ◌∷◌, arith}
use Rattle.std.specs.List.{AllByRecursion}
use Rattle.std.proofs.lemmas.Bool.{cond_both, eqb-true}
use Rattle.trace_history.specs.declared.choice.Choice.{Choice}
use Rattle.router_state.specs.Changes.{after_change, after_create}
use Rattle.router_state.specs.State.{State}
use Rattle.router_state.specs.Trees.{with_priority}
use Rattle.router_state.specs.declared.change.Change.{Change}
use Rattle.router_state.specs.declared.change.Change.TheVariants as changes
use Rattle.router_state.specs.declared.rows.Entity.{Entity}
use Rattle.router_state.specs.declared.rows.Stem.{Stem}
use Rattle.router_state.specs.declared.rows.Stem.TheVariants as stems
use Rattle.router_steps.specs.Steps.{after}
use Rattle.router_laws.proofs.ListRules.{all_append, all_filter}
use Rattle.slee_container.specs.Claims.{IsOfBlock}
use Rattle.slee_container.proofs.Changes.{after_keeps}

-- an entity of this number has this block
abbrev HasBlock : ℕ → ℕ → Entity → Type 0
HasBlock e block row = (row.number.0 == e) ≡ true → row.block ≡ block

-- a new entity has the next number, which isn't drawn yet
created : (e block own : ℕ) (stem : Stem) (priority : ℤ) (s : State) → IsOfBlock e block s → IsOfBlock e block (after_create s own stem priority)
created e block own stem priority s is =
    (omega (arith, is.0), all_append (HasBlock e block) s.entities _ is.1 (λ same. apart s.next_entity same is.0, tt))
  where
    apart : (n : ℕ) → (n == e) ≡ true → e < n → own ≡ block
    apart n same less = let number = eqb-true n e same in absurd (omega (arith, number, less))

ranked : (e block d : ℕ) (priority : ℤ) (rows : List Entity) → AllByRecursion (HasBlock e block) rows → AllByRecursion (HasBlock e block) (with_priority rows d priority)
ranked e block d priority [] all = tt
ranked e block d priority (row ∷ rows) all =
    (cond_both (row.number.0 == d) (record row { priority = priority }) row (HasBlock e block) (λ _. all.0) (λ _. all.0), ranked e block d priority rows all.1)

each_change : (e block : ℕ) (c : Change) (s : State) → IsOfBlock e block s → IsOfBlock e block (after_change c s)
each_change e block (changes.SetField d name value) s is = is
each_change e block (changes.ForgetFields d) s is = is
each_change e block (changes.CreateRoot own service priority) s is = created e block own (stems.Root service) priority s is
each_change e block (changes.CreateChild parent relation own priority) s is = created e block own (stems.Child parent relation) priority s is
each_change e block (changes.Remove d) s is = (is.0, all_filter (HasBlock e block) (λ row. not (row.number.0 == d.0)) s.entities is.1)
each_change e block (changes.SetPriority d priority) s is = (is.0, ranked e block d.0 priority s.entities is.1)
each_change e block (changes.Start kind) s is = is
each_change e block (changes.End a) s is = is
each_change e block (changes.DropContext a) s is = is
each_change e block (changes.Attach d a) s is = is
each_change e block (changes.Detach d a) s is = is
each_change e block (changes.SetAttr a key value) s is = is
each_change e block (changes.Bind name a) s is = is
each_change e block (changes.Unbind name) s is = is
each_change e block (changes.MaskOnAttach d a events) s is = is
each_change e block (changes.SetMask d a event on) s is = is
each_change e block (changes.ForgetMasks d a) s is = is
each_change e block (changes.Push a event) s is = is
each_change e block (changes.Pop a) s is = is
each_change e block (changes.MarkService a service) s is = is
each_change e block (changes.MarkEntity a d) s is = is
each_change e block (changes.Hold a until) s is = is
each_change e block (changes.Release a) s is = is
each_change e block (changes.SetTimer spec) s is = is
each_change e block (changes.Cancel t) s is = is
each_change e block (changes.CancelAll a) s is = is
each_change e block (changes.Advance to) s is = is
each_change e block (changes.AddRow table row fields) s is = is
each_change e block (changes.UpdateRow table row fields) s is = is
each_change e block (changes.RemoveRow table row) s is = is
each_change e block (changes.Clock to) s is = is
each_change e block changes.Taken s is = is
each_change e block (changes.Service service state a) s is = is
each_change e block (changes.Root d name) s is = is
each_change e block changes.NextEvent s is = is

-- a step, whatever it is about
pub after_block : (s : State) (c : Choice) (e block : ℕ) → IsOfBlock e block s → IsOfBlock e block (after s c)
after_block s c e block is = after_keeps (IsOfBlock e block) (each_change e block) s c is
