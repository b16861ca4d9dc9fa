-- Attachments, names, timers, rows of tables and suspensions that were read stood in the bytes.
use Rattle.std.proofs.Common.{◌≡◌, ℕ, ◌==◌, Bool, true, false, List, [], ◌∷◌, ◌++◌, refl, sym, ap, ◌∙◌, subst}
use Rattle.std.specs.Prelude.{Ok, Err, if◌then◌else◌}
use Rattle.slee_value.specs.Bytes.{spelled_u64, spelled_text}
use Rattle.slee_value.specs.Reading.{Part, ◌>>=◌, text_at}
use Rattle.slee_value.proofs.ReadLemmas.{AreBytes, Takes, Takes-then, ok_is}
use Rattle.slee_effect.specs.Bytes.{spelled_keep}
use Rattle.slee_effect.specs.Reading.{keep_at}
use Rattle.deploy_model.specs.Deployed.{Deployed, table_name}
use Rattle.router_state.specs.Parsing.{LinkPart, filled, link_at, list_at, named_at, pairs_at, row_at, stray, suspension_at, suspensions_at, table_number_at, timer_at, u64_at}
use Rattle.router_state.specs.Snapshot.{listed, spelled_name, spelled_pair, spelled_row, spelled_suspension, spelled_suspensions, spelled_timer}
use Rattle.router_state.specs.declared.rows.Named.{Named}
use Rattle.router_state.specs.declared.rows.ProfileRow.{ProfileRow}
use Rattle.router_state.specs.declared.rows.Suspension.{Suspension}
use Rattle.router_state.specs.declared.rows.Timer.{Timer}
use Rattle.router_laws_reading.proofs.Taken.{Spells, first_part, spells_keep, spells_list, spells_pairs, spells_text, spells_u64, takes_none}
use Rattle.router_laws_reading.proofs.TakenActivities.{spells_tables}

-- the bytes of an attachment as it was read
abbrev pub spelled_link_part : LinkPart → List ℕ
spelled_link_part l = spelled_u64 l.activity ++ (spelled_u64 l.entity ++ listed spelled_text l.masks)

pub spells_link : Spells spelled_link_part link_at
spells_link = record {
  took = λ bytes y are is.
      first_part spelled_u64 u64_at _ bytes y spells_u64 are is (λ a t1 e1.
      first_part spelled_u64 u64_at _ a.1 y spells_u64 t1.rest_bytes e1 (λ e t2 e2.
      first_part (listed spelled_text) (list_at text_at) _ e.1 y (spells_list spelled_text text_at spells_text) t2.rest_bytes e2 (λ masks t3 e3.
      (let part : LinkPart = record { activity = a.0; entity = e.0; masks = masks.0 } in
      let b3 = listed spelled_text masks.0 in
      let j2 = Takes-then a.1 (spelled_u64 e.0) e.1 b3 masks.1 t2 t3 in
      subst (λ z. Takes bytes (spelled_link_part z.0) z.1) (ok_is (part, masks.1) y e3) (Takes-then bytes (spelled_u64 a.0) a.1 (spelled_u64 e.0 ++ b3) masks.1 t1 j2)))));
}

pub spells_named : Spells spelled_name named_at
spells_named = record {
  took = λ bytes y are is.
      first_part spelled_text text_at _ bytes y spells_text are is (λ name t1 e1.
      first_part spelled_u64 u64_at _ name.1 y spells_u64 t1.rest_bytes e1 (λ a t2 e2.
      (let row : Named = record { name = name.0; activity = record { 0 = a.0 } } in
      subst (λ z. Takes bytes (spelled_name z.0) z.1) (ok_is (row, a.1) y e2) (Takes-then bytes (spelled_text name.0) name.1 (spelled_u64 a.0) a.1 t1 t2))));
}

pub spells_timer : Spells spelled_timer timer_at
spells_timer = record {
  took = λ bytes y are is.
      first_part spelled_u64 u64_at _ bytes y spells_u64 are is (λ n t1 e1.
      first_part spelled_u64 u64_at _ n.1 y spells_u64 t1.rest_bytes e1 (λ a t2 e2.
      first_part spelled_u64 u64_at _ a.1 y spells_u64 t2.rest_bytes e2 (λ next t3 e3.
      first_part spelled_u64 u64_at _ next.1 y spells_u64 t3.rest_bytes e3 (λ period t4 e4.
      first_part spelled_u64 u64_at _ period.1 y spells_u64 t4.rest_bytes e4 (λ left t5 e5.
      first_part spelled_keep keep_at _ left.1 y spells_keep t5.rest_bytes e5 (λ keep t6 e6.
      (let row : Timer = record { number = record { 0 = n.0 }; activity = record { 0 = a.0 }; next = next.0; period = period.0; left = left.0; keep = keep.0 } in
      let b6 = spelled_keep keep.0 in
      let b5 = spelled_u64 left.0 ++ b6 in
      let b4 = spelled_u64 period.0 ++ b5 in
      let b3 = spelled_u64 next.0 ++ b4 in
      let b2 = spelled_u64 a.0 ++ b3 in
      let j5 = Takes-then period.1 (spelled_u64 left.0) left.1 b6 keep.1 t5 t6 in
      let j4 = Takes-then next.1 (spelled_u64 period.0) period.1 b5 keep.1 t4 j5 in
      let j3 = Takes-then a.1 (spelled_u64 next.0) next.1 b4 keep.1 t3 j4 in
      let j2 = Takes-then n.1 (spelled_u64 a.0) a.1 b3 keep.1 t2 j3 in
      subst (λ z. Takes bytes (spelled_timer z.0) z.1) (ok_is (row, keep.1) y e6) (Takes-then bytes (spelled_u64 n.0) n.1 b2 keep.1 t1 j2))))))));
}

pub spells_row : (d : Deployed) → Spells (spelled_row d) (row_at d)
spells_row d = record {
  took = λ bytes y are is.
      first_part (λ n. spelled_text (table_name d n)) (table_number_at d) _ bytes y (spells_tables d) are is (λ table t1 e1.
      first_part spelled_text text_at _ table.1 y spells_text t1.rest_bytes e1 (λ name t2 e2.
      first_part (listed spelled_pair) pairs_at _ name.1 y spells_pairs t2.rest_bytes e2 (λ attributes t3 e3.
      (let row : ProfileRow = record { table = table.0; row = name.0; attributes = attributes.0 } in
      let b3 = listed spelled_pair attributes.0 in
      let j2 = Takes-then table.1 (spelled_text name.0) name.1 b3 attributes.1 t2 t3 in
      subst (λ z. Takes bytes (spelled_row d z.0) z.1) (ok_is (row, attributes.1) y e3) (Takes-then bytes (spelled_text (table_name d table.0)) table.1 (spelled_text name.0 ++ b3) attributes.1 t1 j2)))));
}

-- ---- suspensions at the end

spells_suspension : Spells spelled_suspension suspension_at
spells_suspension = record {
  took = λ bytes y are is.
      first_part spelled_u64 u64_at _ bytes y spells_u64 are is (λ a t1 e1.
      first_part spelled_u64 u64_at _ a.1 y spells_u64 t1.rest_bytes e1 (λ until t2 e2.
      (let row : Suspension = record { activity = record { 0 = a.0 }; until = until.0 } in
      subst (λ z. Takes bytes (spelled_suspension z.0) z.1) (ok_is (row, until.1) y e2) (Takes-then bytes (spelled_u64 a.0) a.1 (spelled_u64 until.0) until.1 t1 t2))));
}

-- the bytes of the suspensions at the end in a format
abbrev pub spelled_end : ℕ → List Suspension → List ℕ
spelled_end format rows = if format == 2 then [] else spelled_suspensions rows

filled_took : (bytes more : List ℕ) (rows : List Suspension) (y : List Suspension × List ℕ) → Takes bytes (listed spelled_suspension rows) more → filled rows more ≡ Ok y → Takes bytes (spelled_suspensions y.0) y.1
filled_took bytes more [] y takes is = absurd (cc)
filled_took bytes more (row ∷ rows) y takes is = subst (λ (z : List Suspension × List ℕ). Takes bytes (spelled_suspensions z.0) z.1) (ok_is (row ∷ rows, more) y is) takes

end_took : (two : Bool) (b : ℕ) (rest : List ℕ) (y : List Suspension × List ℕ) → AreBytes (b ∷ rest) → (let read : Part (List Suspension) = if two then stray (b ∷ rest) else (list_at suspension_at (b ∷ rest) >>= λ rows. filled rows.0 rows.1) in read) ≡ Ok y
    → Takes (b ∷ rest) (if two then [] else spelled_suspensions y.0) y.1
end_took true b rest y are is = absurd (cc)
end_took false b rest y are is =
    first_part (listed spelled_suspension) (list_at suspension_at) _ (b ∷ rest) y (spells_list spelled_suspension suspension_at spells_suspension) are is (λ rows takes e. filled_took (b ∷ rest) rows.1 rows.0 y takes e)

suspensions_took : (format : ℕ) (bytes : List ℕ) (y : List Suspension × List ℕ) → AreBytes bytes → suspensions_at format bytes ≡ Ok y → Takes bytes (spelled_end format y.0) y.1
suspensions_took format [] y are is = (let none : List Suspension = [] in subst (λ (z : List Suspension × List ℕ). Takes [] (spelled_end format z.0) z.1) (ok_is (none, []) y is) (by (format == 2)))
  where
    by : (two : Bool) → Takes [] (if two then [] else spelled_suspensions []) []
    by true = takes_none [] tt
    by false = takes_none [] tt
suspensions_took format (b ∷ rest) y are is = end_took (format == 2) b rest y are is

pub spells_suspensions : (format : ℕ) → Spells (spelled_end format) (suspensions_at format)
spells_suspensions format = record { took = suspensions_took format }
