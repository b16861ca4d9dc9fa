-- Rows that are listed one after another.
use Rattle.std.proofs.Common.{◌≡◌, ℕ, ◌+◌, ◌<◌, ◌≤◌, ◌==◌, true, false, List, [], ◌∷◌, ◌++◌, drop, get_or, length, take, refl, sym, ap, subst, ◌∙◌, arith, inl, inr}
use Rattle.std.specs.Prelude.{IsTrue, if◌then◌else◌, nat_lt}
use Rattle.std.specs.List.{AllByRecursion}
use Rattle.std.proofs.lemmas.Bool.{cases_Bool}
use Rattle.std.proofs.lemmas.Bool.Decides.{nat_tests}
use Rattle.std.proofs.lemmas.List.{append-nil, drop_more, take-append-drop, take_all, take_more}
use Rattle.std.proofs.lemmas.List.Elements.{filter-append}
use Rattle.rows_sorted.specs.Keys.{is_key, number_key, Rises}
use Rattle.rows_sorted.specs.Orders.{put, rises_by, rises_in}
use Rattle.rows_sorted.proofs.KeyLemmas.{number_agrees}
use Rattle.rows_sorted.proofs.OrderLemmas.{AllInOrder, IsBefore, all_filter, all_from_all, in_order}
use Rattle.rows_index.specs.Index.{entry_before, entry_key, IsIndex}
use Rattle.rows_index.specs.declared.entry.Entry.{Entry}
use Rattle.rows_index.proofs.IndexLemmas.{index_put}
use Rattle.rows_index.proofs.KeptLemmas.{sum_pushed}
use Rattle.rows_index.proofs.RowLemmas.{other_key}
use Rattle.router_state.specs.Trees.{is_root, root_name_before}
use Rattle.router_state.specs.declared.rows.Entity.{Entity}
use Rattle.router_state.specs.declared.rows.RootName.{RootName}
use Rattle.router_state.specs.declared.rows.Stem.TheVariants as stems
use Rattle.router_roots.specs.Roots.{name_entry, roots_among, service_entry}
use Rattle.router_roots.proofs.NameLemmas.{names_rise}
use Rattle.router_roots.proofs.ServiceLemmas.{entities_rise}

all_middle : {Row : Type 0} (P : Row → Type 0) (front : List Row) (x : Row) (rest : List Row) → AllByRecursion P (front ++ x ∷ rest) → P x
all_middle P [] x rest all = all.0
all_middle P (y ∷ front) x rest all = all_middle P front x rest all.1

-- the rows that were listed and the one that comes are those so far
whole : {Row : Type 0} (rows : List Row) (i : ℕ) (d : Row) → i < length rows → take i rows ++ get_or rows i d ∷ drop (i + 1) rows ≡ rows
whole rows i d within = ap (λ rest. take i rows ++ rest) (sym (drop_more rows i d within)) ∙ take-append-drop i rows

index_so : {Row : Type 0} (entry : Row → Entry) (rows more : List Row) (entries after : List Entry) → more ≡ rows → after ≡ entries → IsIndex entry rows entries → IsIndex entry more after
index_so entry rows more entries after same is index =
    subst (λ (all : List Entry). IsIndex entry more all) (sym is) (subst (λ all. IsIndex entry all entries) (sym same) index)

module _ {Row : Type 0} (entry : Row → Entry) where
  -- what stands before a row has another number
  abbrev AreOthers : Row → List Row → Type 0
  AreOthers x rows = AllByRecursion (λ row. ((entry row).number == (entry x).number) ≡ false) rows

  others_front : (front : List Row) (x : Row) (rest : List Row) → AllInOrder (IsBefore (λ row. number_key (entry row).number)) (front ++ x ∷ rest) → AreOthers x front
  others_front [] x rest order = tt
  others_front (y ∷ front) x rest order =
      let low : nat_lt (entry y).number (entry x).number ≡ true = sym (number_agrees (entry y).number (entry x).number) ∙ all_middle (IsBefore (λ row. number_key (entry row).number) y) front x rest order.0 in
      (grind (arith, nat_tests, low), others_front front x rest order.1)

  others : (rows : List Row) (i : ℕ) (d : Row) → i < length rows → Rises (λ row. number_key (entry row).number) rows → AreOthers (get_or rows i d) (take i rows)
  others rows i d within rises =
      others_front (take i rows) (get_or rows i d) (drop (i + 1) rows) (subst (AllInOrder (IsBefore (λ row. number_key (entry row).number))) (sym (whole rows i d within)) (in_order (λ row. number_key (entry row).number) rows rises))

  -- one row more is listed
  listed_more : (front : List Row) (x : Row) (entries : List Entry) → AreOthers x front → IsIndex entry front entries → IsIndex entry (front ++ x ∷ []) (put entry_before (entry x) entries)
  listed_more front x entries apart index =
      index_put entry x front (front ++ x ∷ []) entries index
      (all_from_all (λ row. ((entry row).number == (entry x).number) ≡ false) (λ row. is_key (entry_key (entry row)) (entry_key (entry x)) ≡ false) (λ row other. other_key (entry row).key (entry x).key (entry row).number (entry x).number other) front apart)
      (λ f. sum_pushed f x front)

-- a root is put under its service
pub root_put : (row : Entity) (service : ℕ) (old new : List Entry) → row.stem ≡ stems.Root service → new ≡ put entry_before (record { key = service; number = row.number.0 }) old
    → new ≡ (if is_root row.stem then put entry_before (service_entry row) old else old)
root_put row service old new is put_so = rw is put_so

-- one entity more was looked at
root_step : (front : List Entity) (x : Entity) (old new : List Entry) → AreOthers service_entry x front → new ≡ (if is_root x.stem then put entry_before (service_entry x) old else old)
    → IsIndex service_entry (roots_among front) old → IsIndex service_entry (roots_among (front ++ x ∷ [])) new
root_step front x old new apart is index =
    let stands = λ (row : Entity). is_root row.stem in
    let grown : roots_among (front ++ x ∷ []) ≡ roots_among front ++ roots_among (x ∷ []) = filter-append stands front (x ∷ []) in
    elim (cases_Bool (is_root x.stem)) [
      | inl mine ↦
          let one : roots_among (x ∷ []) ≡ x ∷ [] = rw mine refl in
          index_so service_entry (roots_among front ++ x ∷ []) (roots_among (front ++ x ∷ [])) (put entry_before (service_entry x) old) new
          (grown ∙ ap (λ rest. roots_among front ++ rest) one) (is ∙ ap (λ b. if b then put entry_before (service_entry x) old else old) mine)
          (listed_more service_entry (roots_among front) x old (all_filter (λ row. ((service_entry row).number == (service_entry x).number) ≡ false) stands front apart) index)
      | inr other ↦
          let none : roots_among (x ∷ []) ≡ [] = rw other refl in
          index_so service_entry (roots_among front) (roots_among (front ++ x ∷ [])) old new
          (grown ∙ ap (λ rest. roots_among front ++ rest) none ∙ append-nil (roots_among front)) (is ∙ ap (λ b. if b then put entry_before (service_entry x) old else old) other) index
    ]

pub root_more : (rows : List Entity) (i : ℕ) (x : Entity) (old new : List Entry) → i < length rows → x ≡ get_or rows i x → IsTrue (rises_in (λ row. row.number.0) rows)
    → new ≡ (if is_root x.stem then put entry_before (service_entry x) old else old) → IsIndex service_entry (roots_among (take i rows)) old → IsIndex service_entry (roots_among (take (i + 1) rows)) new
root_more rows i x old new within at rises is index =
    let apart : AreOthers service_entry x (take i rows) = subst (λ (y : Entity). AreOthers service_entry y (take i rows)) (sym at) (others service_entry rows i x within (entities_rise rows rises)) in
    let grown : take (i + 1) rows ≡ take i rows ++ x ∷ [] = take_more rows i x within ∙ ap (λ (y : Entity). take i rows ++ y ∷ []) (sym at) in
    subst (λ (front : List Entity). IsIndex service_entry (roots_among front) new) (sym grown) (root_step (take i rows) x old new apart is index)

pub roots_all : (rows : List Entity) (i : ℕ) (entries : List Entry) → length rows ≤ i → IsIndex service_entry (roots_among (take i rows)) entries → IsIndex service_entry (roots_among rows) entries
roots_all rows i entries over index = subst (λ (front : List Entity). IsIndex service_entry (roots_among front) entries) (take_all i rows over) index

-- one name more is listed
pub name_more : (rows : List RootName) (i : ℕ) (x : RootName) (old new : List Entry) → i < length rows → x ≡ get_or rows i x → IsTrue (rises_by root_name_before rows)
    → new ≡ put entry_before (name_entry x) old → IsIndex name_entry (take i rows) old → IsIndex name_entry (take (i + 1) rows) new
name_more rows i x old new within at rises is index =
    let apart : AreOthers name_entry x (take i rows) = subst (λ (y : RootName). AreOthers name_entry y (take i rows)) (sym at) (others name_entry rows i x within (names_rise rows rises)) in
    let grown : take (i + 1) rows ≡ take i rows ++ x ∷ [] = take_more rows i x within ∙ ap (λ (y : RootName). take i rows ++ y ∷ []) (sym at) in
    index_so name_entry (take i rows ++ x ∷ []) (take (i + 1) rows) (put entry_before (name_entry x) old) new grown is (listed_more name_entry (take i rows) x old apart index)

pub names_all : (rows : List RootName) (i : ℕ) (entries : List Entry) → length rows ≤ i → IsIndex name_entry (take i rows) entries → IsIndex name_entry rows entries
names_all rows i entries over index = subst (λ (front : List RootName). IsIndex name_entry front entries) (take_all i rows over) index
