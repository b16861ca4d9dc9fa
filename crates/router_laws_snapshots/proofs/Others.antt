-- Attachments, names, timers, rows of tables and suspensions are read again.
use Rattle.std.proofs.Common.{◌≡◌, ℕ, ◌^◌, ◌<◌, List, ◌++◌, length, ◌∙◌, arith}
use Rattle.std.specs.Prelude.{Ok}
use Rattle.std.specs.List.{AllByRecursion}
use Rattle.std.proofs.lemmas.List.{length-append}
use Rattle.slee_value.specs.Bytes.{spelled_u64, spelled_text, FitsText}
use Rattle.slee_value.specs.Reading.{text_at}
use Rattle.slee_value.proofs.PartLemmas.{reads_u64}
use Rattle.slee_value.proofs.TextPartLemmas.{reads_text}
use Rattle.slee_effect.specs.Bytes.{spelled_keep}
use Rattle.slee_effect.specs.Reading.{keep_at}
use Rattle.slee_effect.proofs.PieceLemmas.{reads_keep}
use Rattle.deploy_model.specs.Deployed.{Deployed, table_name, table_named}
use Rattle.router_state.specs.State.{State}
use Rattle.router_state.specs.Masks.{masks_of}
use Rattle.router_state.specs.Parsing.{LinkPart, link_at, list_at, named_at, pairs_at, row_at, suspension_at, table_number_at, timer_at, u64_at}
use Rattle.router_state.specs.Snapshot.{listed, spelled_link, spelled_name, spelled_pair, spelled_row, spelled_suspension, spelled_timer}
use Rattle.router_state.specs.declared.rows.Link.{Link}
use Rattle.router_state.specs.declared.rows.Named.{Named}
use Rattle.router_state.specs.declared.rows.ProfileRow.{ProfileRow}
use Rattle.router_state.specs.declared.rows.Suspension.{Suspension}
use Rattle.router_state.specs.declared.rows.Timer.{Timer}
use Rattle.router_laws_snapshots.proofs.Again.{Again, again_items, front, right_short, step}
use Rattle.router_laws_snapshots.proofs.Parts.{FitsPair, HasKey, again_pairs, again_text, keyed_again}

-- ---- attachments

pub record FitsLink (s : State) (l : Link) : Type 0 where
  pub activity : l.activity.0 < 2 ^ 64
  pub entity : l.entity.0 < 2 ^ 64
  pub masks : AllByRecursion FitsText (masks_of s.masks l.entity.0 l.activity.0)

-- what an attachment is read as
abbrev pub link_part : State → Link → LinkPart
link_part s l = record { activity = l.activity.0; entity = l.entity.0; masks = masks_of s.masks l.entity.0 l.activity.0 }

link_back : (s : State) (l : Link) (rest : List ℕ) → FitsLink s l → length (spelled_link s l) < 2 ^ 64 → link_at (spelled_link s l ++ rest) ≡ Ok (link_part s l, rest)
link_back s l rest fit short =
    let masks = masks_of s.masks l.entity.0 l.activity.0 in
    let e2 = listed spelled_text masks in
    let e1 = spelled_u64 l.entity.0 ++ e2 in
    let short2 : length e2 < 2 ^ 64 = right_short (spelled_u64 l.entity.0) e2 (right_short (spelled_u64 l.activity.0) e1 short) in
    step u64_at _ (spelled_u64 l.activity.0) e1 rest l.activity.0 (λ more. reads_u64.again l.activity.0 more fit.activity)
    ∙ step u64_at _ (spelled_u64 l.entity.0) e2 rest l.entity.0 (λ more. reads_u64.again l.entity.0 more fit.entity)
    ∙ front (list_at text_at) _ e2 rest masks (λ more. (again_items spelled_text FitsText text_at again_text).back masks more fit.masks short2)

pub again_link : (s : State) → Again (spelled_link s) (FitsLink s) (link_part s) link_at
again_link s = record { back = link_back s; some = λ l. omega arith }

-- ---- names

pub record FitsNamed (row : Named) : Type 0 where
  pub name : FitsText row.name
  pub activity : row.activity.0 < 2 ^ 64

pub again_named : Again spelled_name FitsNamed (λ row. row) named_at
again_named = record {
  back = λ row rest fit short.
      step text_at _ (spelled_text row.name) (spelled_u64 row.activity.0) rest row.name (λ more. reads_text.again row.name more fit.name)
      ∙ front u64_at _ (spelled_u64 row.activity.0) rest row.activity.0 (λ more. reads_u64.again row.activity.0 more fit.activity);
  some = λ row. omega (arith, again_text.some row.name, length-append (spelled_text row.name) (spelled_u64 row.activity.0));
}

-- ---- timers

pub record FitsTimer (t : Timer) : Type 0 where
  pub number : t.number.0 < 2 ^ 64
  pub activity : t.activity.0 < 2 ^ 64
  pub next : t.next < 2 ^ 64
  pub period : t.period < 2 ^ 64
  pub left : t.left < 2 ^ 64

timer_back : (t : Timer) (rest : List ℕ) → FitsTimer t → length (spelled_timer t) < 2 ^ 64 → timer_at (spelled_timer t ++ rest) ≡ Ok (t, rest)
timer_back t rest fit short =
    let e5 = spelled_keep t.keep in
    let e4 = spelled_u64 t.left ++ e5 in
    let e3 = spelled_u64 t.period ++ e4 in
    let e2 = spelled_u64 t.next ++ e3 in
    let e1 = spelled_u64 t.activity.0 ++ e2 in
    step u64_at _ (spelled_u64 t.number.0) e1 rest t.number.0 (λ more. reads_u64.again t.number.0 more fit.number)
    ∙ step u64_at _ (spelled_u64 t.activity.0) e2 rest t.activity.0 (λ more. reads_u64.again t.activity.0 more fit.activity)
    ∙ step u64_at _ (spelled_u64 t.next) e3 rest t.next (λ more. reads_u64.again t.next more fit.next)
    ∙ step u64_at _ (spelled_u64 t.period) e4 rest t.period (λ more. reads_u64.again t.period more fit.period)
    ∙ step u64_at _ (spelled_u64 t.left) e5 rest t.left (λ more. reads_u64.again t.left more fit.left)
    ∙ front keep_at _ e5 rest t.keep (λ more. reads_keep.again t.keep more tt)

pub again_timer : Again spelled_timer FitsTimer (λ t. t) timer_at
again_timer = record { back = timer_back; some = λ t. omega arith }

-- ---- rows of tables

pub record FitsRow (d : Deployed) (row : ProfileRow) : Type 0 where
  pub table : HasKey (table_named d) (table_name d row.table) row.table
  pub name : FitsText row.row
  pub attributes : AllByRecursion FitsPair row.attributes

row_back : (d : Deployed) (row : ProfileRow) (rest : List ℕ) → FitsRow d row → length (spelled_row d row) < 2 ^ 64 → row_at d (spelled_row d row ++ rest) ≡ Ok (row, rest)
row_back d row rest fit short =
    let e2 = listed spelled_pair row.attributes in
    let e1 = spelled_text row.row ++ e2 in
    step (table_number_at d) _ (spelled_text (table_name d row.table)) e1 rest row.table (λ more. keyed_again (table_named d) (table_name d row.table) row.table more fit.table)
    ∙ step text_at _ (spelled_text row.row) e2 rest row.row (λ more. reads_text.again row.row more fit.name)
    ∙ front pairs_at _ e2 rest row.attributes (λ more. again_pairs.back row.attributes more fit.attributes (right_short (spelled_text row.row) e2 (right_short (spelled_text (table_name d row.table)) e1 short)))

pub again_row : (d : Deployed) → Again (spelled_row d) (FitsRow d) (λ row. row) (row_at d)
again_row d = record {
  back = row_back d;
  some = λ row. omega (arith, again_text.some (table_name d row.table), length-append (spelled_text (table_name d row.table)) (spelled_text row.row ++ listed spelled_pair row.attributes));
}

-- ---- suspensions in format 1

pub record FitsSuspension (row : Suspension) : Type 0 where
  pub activity : row.activity.0 < 2 ^ 64
  pub until : row.until < 2 ^ 64

pub again_suspension : Again spelled_suspension FitsSuspension (λ row. row) suspension_at
again_suspension = record {
  back = λ row rest fit short.
      step u64_at _ (spelled_u64 row.activity.0) (spelled_u64 row.until) rest row.activity.0 (λ more. reads_u64.again row.activity.0 more fit.activity)
      ∙ front u64_at _ (spelled_u64 row.until) rest row.until (λ more. reads_u64.again row.until more fit.until);
  some = λ row. omega arith;
}
