-- Attachments to one activity laid with ranks that rise, and the attachments of all once those to one activity are others.
use Rattle.std.proofs.Common.{◌≡◌, ℕ, zero, suc, ◌+◌, ◌*◌, ◌<◌, ◌==◌, true, false, List, [], ◌∷◌, ◌++◌, length, take, get_or, refl, sym, ap, subst, ◌∙◌, arith, inl, inr}
use Rattle.std.specs.Prelude.{nat_lt}
use Rattle.std.specs.List.{AllByRecursion}
use Rattle.std.proofs.Math.Nat.{mul-suc}
use Rattle.std.proofs.lemmas.Bool.{cases_Bool}
use Rattle.std.proofs.lemmas.Bool.Decides.{nat_tests}
use Rattle.std.proofs.lemmas.List.{map-append, take_more}
use Rattle.slee_value.specs.declared.ids.ActivityId.{ActivityId}
use Rattle.router_state.specs.declared.rows.Entity.{Entity}
use Rattle.router_state.specs.declared.rows.Link.{Link}
use Rattle.rows_sorted.specs.Orders.{pair_before, put}
use Rattle.router_state.specs.Contexts.{links_on}
use Rattle.rows_sorted.proofs.KeyLemmas.{pair_agrees}
use Rattle.rows_sorted.proofs.OrderLemmas.{all_from_all}
use Rattle.entity_tree.proofs.ListLemmas.{all_joined, all_two}
use Rattle.rows_index.proofs.SumLemmas.{all_passed}
use Rattle.router_order.specs.declared.placed.Placed.{Placed}
use Rattle.router_order.specs.Listed.{IsByActivity, IsListing, listed_before}
use Rattle.router_order.specs.Placed.{attachment, attachments}
use Rattle.router_order.proofs.ListingLemmas.{by_activity}
use Rattle.router_order.proofs.RunLemmas.{FirstBy, other_run, own_run, placed_before, put_last, put_own, run, run_is, same_rows}

-- the ranks of these are below this one
abbrev pub AreBelow : ℕ → List Placed → Type 0
AreBelow rank rows = AllByRecursion (λ (row : Placed). row.rank < rank) rows

behind_all : (row : Placed) (rows : List Placed) → AllByRecursion (λ (x : Placed). (x.activity.0 == row.activity.0) ≡ true) rows → AreBelow row.rank rows → put placed_before row rows ≡ rows ++ row ∷ []
behind_all row rows own below =
    put_last placed_before row rows
    (all_two (λ (x : Placed). (x.activity.0 == row.activity.0) ≡ true) (λ (x : Placed). x.rank < row.rank) (λ x. placed_before x row ≡ true) low rows own below)
    (all_two (λ (x : Placed). (x.activity.0 == row.activity.0) ≡ true) (λ (x : Placed). x.rank < row.rank) (λ x. placed_before row x ≡ false) high rows own below)
  where
    low : (x : Placed) → (x.activity.0 == row.activity.0) ≡ true → x.rank < row.rank → placed_before x row ≡ true
    low x mine less =
        let step : pair_before x.activity.0 x.rank row.activity.0 row.rank ≡ true = grind (arith, nat_tests, mine, less) in
        pair_agrees x.activity.0 x.rank row.activity.0 row.rank ∙ step

    high : (x : Placed) → (x.activity.0 == row.activity.0) ≡ true → x.rank < row.rank → placed_before row x ≡ false
    high x mine less =
        let step : pair_before row.activity.0 row.rank x.activity.0 x.rank ≡ false = grind (arith, nat_tests, mine, less) in
        pair_agrees row.activity.0 row.rank x.activity.0 x.rank ∙ step

pub all_at : (P : Link → Type 0) (links : List Link) (i : ℕ) (d : Link) → AllByRecursion P links → i < length links → P (get_or links i d)
all_at P [] i d all within = absurd (omega (arith, within))
all_at P (x ∷ xs) zero d all within = all.0
all_at P (x ∷ xs) (suc i) d all within = all_at P xs i d all.1 (omega (arith, within))

-- one attachment more is laid behind the others
module _ (row : Placed) (rows more : List Placed) (is : more ≡ put placed_before row rows) (below : AreBelow row.rank (run rows row.activity.0)) where
  laid_run : run more row.activity.0 ≡ run rows row.activity.0 ++ row ∷ []
  laid_run = put_own row rows more is ∙ behind_all row (run rows row.activity.0) (all_passed (λ (x : Placed). x.activity.0 == row.activity.0) rows) below

  pub laid_links : (i : ℕ) (links : List Link) (d : Link) → i < length links → (get_or links i d) ≡ attachment row → links_on (attachments rows) row.activity.0 ≡ take i links
      → links_on (attachments more) row.activity.0 ≡ take (i + 1) links
  laid_links i links d within same laid =
      run_is more row.activity.0
      ∙ ap attachments laid_run
      ∙ map-append attachment (run rows row.activity.0) (row ∷ [])
      ∙ ap (λ front. front ++ attachment row ∷ []) (sym (run_is rows row.activity.0) ∙ laid)
      ∙ ap (λ l. take i links ++ l ∷ []) (sym same)
      ∙ sym (take_more links i d within)

  pub laid_below : (gap : ℕ) → 0 < gap → AreBelow (row.rank + gap) (run more row.activity.0)
  laid_below gap some =
      subst (AreBelow (row.rank + gap)) (sym laid_run)
      (all_joined (λ (x : Placed). x.rank < row.rank + gap) (run rows row.activity.0) (row ∷ [])
      (all_from_all (λ (x : Placed). x.rank < row.rank) (λ (x : Placed). x.rank < row.rank + gap) (λ x low. omega (arith, low)) (run rows row.activity.0) below) (omega (arith, some), tt))

pub next_rank : (rank start gap i : ℕ) → rank ≡ start + gap * i → rank + gap ≡ start + gap * (i + 1)
next_rank rank start gap i is =
    let one : i + 1 ≡ suc i = omega arith in
    let more : gap * (i + 1) ≡ gap * i + gap = ap (λ n. gap * n) one ∙ mul-suc gap i in
    omega (arith, is, more)

pub same_attachment : (link : Link) (activity : ActivityId) (rank : ℕ) → link.activity.0 ≡ activity.0 → link ≡ attachment (record { activity = activity; rank = rank; entity = link.entity })
same_attachment link activity rank own = λ i. record { entity = link.entity; activity = record { 0 = own i } }

-- where there are none to lay, nothing is below
pub none_below : (rank a : ℕ) (rows : List Placed) → links_on (attachments rows) a ≡ [] → AreBelow rank (run rows a)
none_below rank a rows none = by (run rows a) (sym (run_is rows a) ∙ none)
  where
    by : (rows : List Placed) → attachments rows ≡ [] → AreBelow rank rows
    by [] is = tt
    by (x ∷ xs) is = absurd (cc)

-- an attachment that is put among those to its activity is put among all
pub inserted : (es : List Entity) (link : Link) (old new : List Link) → IsListing es old → IsByActivity new → IsListing es (put (listed_before es) link old)
    → links_on new link.activity.0 ≡ put (listed_before es) link (links_on old link.activity.0)
    → ((b : ℕ) → (b == link.activity.0) ≡ false → links_on new b ≡ links_on old b)
    → new ≡ put (listed_before es) link old
inserted es link old new listing rises also own others =
    same_rows new (put (listed_before es) link old) rises (by_activity es (put (listed_before es) link old) also) each
  where
    first : FirstBy (λ (l : Link). l.activity.0) (listed_before es)
    first = record {
      low = λ x y less. rw less refl;
      high = λ x y less.
          let not_less : nat_lt x.activity.0 y.activity.0 ≡ false = grind (arith, nat_tests, less) in
          let apart : (x.activity.0 == y.activity.0) ≡ false = grind (arith, nat_tests, less) in
          rw (not_less, apart) refl;
    }

    each : (b : ℕ) → links_on new b ≡ links_on (put (listed_before es) link old) b
    each b = elim (cases_Bool (b == link.activity.0)) [
      | inl same ↦
          let at : link.activity.0 ≡ b = grind (arith, nat_tests, same) in
          let mine : (link.activity.0 == b) ≡ true = grind (arith, nat_tests, at) in
          subst (λ a. links_on new a ≡ put (listed_before es) link (links_on old a)) at own ∙ sym (own_run (λ (l : Link). l.activity.0) (listed_before es) first b link old mine)
      | inr apart ↦
          let other : (link.activity.0 == b) ≡ false = grind (arith, nat_tests, apart) in
          others b apart ∙ sym (other_run (λ (l : Link). l.activity.0) (listed_before es) first b link old other)
    ]
