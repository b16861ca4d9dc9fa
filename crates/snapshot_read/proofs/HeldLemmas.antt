-- A test that fails of a part, and what it makes of the whole.
use Rattle.std.proofs.Common.{◌≡◌, ℕ, suc, arith, Bool, true, false, List, [], ◌∷◌, length, Result, Ok, Err, refl, sym, ap, ◌∙◌}
use Rattle.std.specs.Prelude.{◌==◌, IfOk}
use Rattle.std.proofs.lemmas.Bool.Decides.{nat_tests}
use Rattle.slee_value.specs.declared.fault.PartFault.{PartFault}
use Rattle.script_types.specs.Program.{Program}
use Rattle.deploy_model.specs.Deployed.{Deployed}
use Rattle.router_state.specs.State.{State}
use Rattle.router_state.specs.Restoring.{parsed}
use Rattle.snapshot_rows.specs.Rows.{state_of}
use Rattle.snapshot_rows.specs.declared.rows.Rows.{Rows as RowLists}
use Rattle.snapshot_read.specs.Faults.{fault_of}
use Rattle.snapshot_read.specs.Holding.{Holds, Refuses}
use Rattle.snapshot_read.specs.Lists.{SpelledLists, counts_at, lists_at, state_in}
use Rattle.snapshot_read.specs.Names.{are_named, is_held}
use Rattle.snapshot_read.specs.declared.fault.ReadFault.{ReadFault}
use Rattle.snapshot_read.specs.declared.fault.ReadFault.TheVariants as faults
use Rattle.snapshot_read.specs.declared.reading.Counts.{Counts}
use Rattle.snapshot_read.proofs.WholeLemmas.{read_all}

-- a part is refused, and so is the whole
pub refused : (p q : Bool) (e : ReadFault) → (p ≡ false → q ≡ false) → Refuses p e → Refuses q e
refused p q faults.Bad follows fails = follows fails
refused p q faults.NoMemory follows fails = tt

-- a part's fault that makes no state of the whole
pub bad_fault : {X : Type 0} (e : PartFault) (r : ReadFault) (result : Result X ReadFault) → result ≡ Err r → r ≡ fault_of e → result ≡ Err faults.Bad → fault_of e ≡ faults.Bad
bad_fault e r result is same bad = cc

module _ (format : ℕ) (d : Deployed) (bytes after : List ℕ) (c : Counts) (l : SpelledLists) (counts : counts_at bytes ≡ Ok (c, after)) (lists : lists_at format d after ≡ Ok (l, [])) where
  -- rows that hold what was read are what the definitions read
  pub held_read : (result : Result RowLists ReadFault) → ((d' : Deployed) (p : Program) → Holds (λ rows. state_of d' p rows ≡ state_in format d' p c l) (are_named (state_in format d' p c l)) result)
      → IfOk result (λ rows. (p : Program) → parsed format d p bytes ≡ Ok (state_of d p rows, []))
  held_read (Ok rows) held = λ p. read_all format d p bytes after [] c l counts lists ∙ ap (λ (s : State). Ok (s, [])) (sym (held d p))
  held_read (Err e) held = tt

  -- where no rows hold it, it has a name that is none
  pub held_bad : (result : Result RowLists ReadFault) → ((d' : Deployed) (p : Program) → Holds (λ rows. state_of d' p rows ≡ state_in format d' p c l) (are_named (state_in format d' p c l)) result)
      → result ≡ Err faults.Bad → (p : Program) → is_held (parsed format d p bytes) ≡ false
  held_bad (Ok rows) held is = cc
  held_bad (Err faults.Bad) held is = λ p. rw (read_all format d p bytes after [] c l counts lists) (held d p)
  held_bad (Err faults.NoMemory) held is = cc

-- bytes that are left make no state
pub some_left : (format : ℕ) (d : Deployed) (p : Program) (bytes after rest : List ℕ) (c : Counts) (l : SpelledLists) → counts_at bytes ≡ Ok (c, after) → lists_at format d after ≡ Ok (l, rest)
    → (e : Bool) → e ≡ (length rest == 0) → e ≡ false → is_held (parsed format d p bytes) ≡ false
some_left format d p bytes after [] c l counts lists e is more = cc
some_left format d p bytes after (b ∷ rest) c l counts lists e is more = rw (read_all format d p bytes after (b ∷ rest) c l counts lists) refl

some_count : (n : ℕ) → (suc n == 0) ≡ false
some_count n = grind (arith, nat_tests)

-- where none are left, the lists are the last
pub none_left : (format : ℕ) (d : Deployed) (after rest : List ℕ) (l : SpelledLists) → lists_at format d after ≡ Ok (l, rest) → (e : Bool) → e ≡ (length rest == 0) → e ≡ true → lists_at format d after ≡ Ok (l, [])
none_left format d after [] l lists e is none = lists
none_left format d after (b ∷ rest) l lists e is none = let some = is ∙ some_count (length rest) in cc
