-- Attachments that are taken out and put in again.
use Rattle.std.proofs.Common.{◌≡◌, ℕ, ◌+◌, ◌<◌, take, length, get_or, ◌==◌, Bool, true, false, List, [], ◌∷◌, ◌++◌, refl, sym, ap, subst, ◌∙◌, arith, inl, inr}
use Rattle.std.specs.Prelude.{◌&&◌, ◌||◌, not}
use Rattle.std.specs.List.{AllByRecursion}
use Rattle.std.proofs.lemmas.Bool.{cases_Bool}
use Rattle.std.proofs.lemmas.Bool.Decides.{nat_tests}
use Rattle.std.proofs.lemmas.List.{append_assoc, take_more}
use Rattle.router_state.specs.declared.rows.Entity.{Entity}
use Rattle.router_state.specs.declared.rows.Link.{Link}
use Rattle.rows_sorted.specs.Orders.{put, same_pair}
use Rattle.router_state.specs.Contexts.{is_link, is_linked, links_on, without_link}
use Rattle.rows_sorted.proofs.OrderLemmas.{all_filter, all_from_all}
use Rattle.entity_tree.specs.Kept.{AreParents, is_entity}
use Rattle.entity_tree.proofs.ListLemmas.{all_joined}
use Rattle.rows_index.specs.declared.entry.Entry.{Entry}
use Rattle.router_order.specs.Listed.{IsListing, listed_before}
use Rattle.router_order.specs.Taken.{IsTaken}
use Rattle.router_order.proofs.LinkLemmas.{linked_more, all_on, same_numbers, without_link_linked}
use Rattle.router_order.proofs.ListingLemmas.{filter_keeps, filter_listing, put_linked}

or_true : (b : Bool) → (b || true) ≡ true
or_true true = refl
or_true false = refl

own_link : (l : Link) → is_link l.entity.0 l.activity.0 l ≡ true
own_link l = grind (arith, nat_tests)

-- each attachment is among them
pub each_linked : (links : List Link) → AllByRecursion (λ l. is_linked links l.entity.0 l.activity.0 ≡ true) links
each_linked [] = tt
each_linked (x ∷ xs) =
    (rw (own_link x) refl, all_from_all (λ (l : Link). is_linked xs l.entity.0 l.activity.0 ≡ true) (λ l. is_linked (x ∷ xs) l.entity.0 l.activity.0 ≡ true) (λ l there. rw there (or_true (is_link l.entity.0 l.activity.0 x))) xs (each_linked xs))

-- what holds of all numbers of attachments holds of those of each one that is among them
module _ (P : ℕ → ℕ → Type 0) where
  pub linked_holds : (links : List Link) (e a : ℕ) → AllByRecursion (λ (l : Link). P l.entity.0 l.activity.0) links → is_linked links e a ≡ true → P e a
  linked_holds [] e a all there = absurd (cc)
  linked_holds (x ∷ xs) e a all there = elim (cases_Bool (is_link e a x)) [
    | inl mine ↦
        let same = same_numbers x e a mine in
        subst (λ b. P e b) same.1 (subst (λ f. P f x.activity.0) same.0 all.0)
    | inr other ↦ linked_holds xs e a all.1 (rw other at there)
  ]

pub own_on : (a : ℕ) (links : List Link) → AllByRecursion (λ (l : Link). l.activity.0 ≡ a) (links_on links a)
own_on a links = all_from_all (λ (l : Link). (l.activity.0 == a) ≡ true) (λ (l : Link). l.activity.0 ≡ a) (λ l mine. grind (arith, nat_tests, mine)) (links_on links a) (all_on a links)

-- an attachment more to the activity
pub own_put : (es : List Entity) (link : Link) (links : List Link) → AllByRecursion (λ (l : Link). l.activity.0 ≡ link.activity.0) links → AllByRecursion (λ (l : Link). l.activity.0 ≡ link.activity.0) (put (listed_before es) link links)
own_put es link links own = all_joined (λ (l : Link). l.activity.0 ≡ link.activity.0) _ _ (all_filter (λ (l : Link). l.activity.0 ≡ link.activity.0) _ links own) (refl, all_filter (λ (l : Link). l.activity.0 ≡ link.activity.0) _ links own)

pub run_listed : (es : List Entity) (rows : List Link) (b : ℕ) → IsListing es rows → IsListing es (links_on rows b)
run_listed es rows b listing = filter_listing es (λ l. l.activity.0 == b) rows listing

-- Attachments that go from the one list and come to the other.

pub taken_then : (old left new before more after : List Link) → IsTaken old left before more → IsTaken left new more after → IsTaken old new before after
taken_then old left new before more after one two = record {
  listing = λ es was. two.listing es (one.listing es was);
  members = λ e a. two.members e a ∙ one.members e a;
  fewer = λ e a none. two.fewer e a (one.fewer e a none);
}

module _ (link : Link) (old left : List Link) (is : left ≡ without_link old link.entity.0 link.activity.0) where
  left_linked : (f b : ℕ) → is_linked left f b ≡ (not (same_pair f b link.entity.0 link.activity.0) && is_linked old f b)
  left_linked f b = ap (λ links. is_linked links f b) is ∙ without_link_linked old link.entity.0 link.activity.0 f b

  -- the attachment isn't there any longer
  pub taken_gone : is_linked left link.entity.0 link.activity.0 ≡ false
  taken_gone =
      let same : same_pair link.entity.0 link.activity.0 link.entity.0 link.activity.0 ≡ true = grind (arith, nat_tests) in
      left_linked link.entity.0 link.activity.0 ∙ (rw same refl)

  fewer_linked : (f b : ℕ) → is_linked old f b ≡ false → is_linked left f b ≡ false
  fewer_linked f b none = left_linked f b ∙ (rw none (and_false (not (same_pair f b link.entity.0 link.activity.0))))
    where
      and_false : (c : Bool) → (c && false) ≡ false
      and_false true = refl
      and_false false = refl

  stay_listed : (es : List Entity) → IsListing es old → IsListing es left
  stay_listed es listing = filter_keeps es (λ l. not (is_link link.entity.0 link.activity.0 l)) old left is listing

  -- an attachment that was there
  pub taken_one : (before after : List Link) → is_linked old link.entity.0 link.activity.0 ≡ true → after ≡ before ++ link ∷ [] → IsTaken old left before after
  taken_one before after there more = record { listing = stay_listed; members = each; fewer = fewer_linked }
    where
      each : (f b : ℕ) → (is_linked left f b || is_linked after f b) ≡ (is_linked old f b || is_linked before f b)
      each f b = ap (λ links. is_linked left f b || is_linked links f b) more ∙ ap (λ c. is_linked left f b || c) (linked_more before link f b) ∙ (elim (cases_Bool (same_pair f b link.entity.0 link.activity.0)) [
        | inl same ↦
            let entity : f ≡ link.entity.0 = grind (arith, nat_tests, same) in
            let activity : b ≡ link.activity.0 = grind (arith, nat_tests, same) in
            let own : is_link f b link ≡ true = grind (arith, nat_tests, entity, activity) in
            let was : is_linked old f b ≡ true = rw (entity, activity) there in
            let none = left_linked f b in
            rw (none, own, was, same) refl
        | inr apart ↦
            let other : is_link f b link ≡ false = grind (arith, nat_tests, apart) in
            let stays = left_linked f b in
            rw (stays, other, apart) refl
      ])

  -- an attachment that wasn't
  pub taken_no_one : (before : List Link) → is_linked old link.entity.0 link.activity.0 ≡ false → IsTaken old left before before
  taken_no_one before absent = record { listing = stay_listed; members = each; fewer = fewer_linked }
    where
      each : (f b : ℕ) → (is_linked left f b || is_linked before f b) ≡ (is_linked old f b || is_linked before f b)
      each f b = elim (cases_Bool (same_pair f b link.entity.0 link.activity.0)) [
        | inl same ↦
            let entity : f ≡ link.entity.0 = grind (arith, nat_tests, same) in
            let activity : b ≡ link.activity.0 = grind (arith, nat_tests, same) in
            let was : is_linked old f b ≡ false = rw (entity, activity) absent in
            let none = left_linked f b in
            rw (none, was, same) refl
        | inr apart ↦
            let stays = left_linked f b in
            rw (stays, apart) refl
      ]

-- the attachments of so many entries are gone
abbrev pub AreGone : List Entry → List Entry → List Link → Type 0
AreGone whole rest rows = (done : List Entry) × (whole ≡ done ++ rest) × AllByRecursion (λ (entry : Entry). is_linked rows entry.key entry.number ≡ false) done

pub next_gone : (whole left rest : List Entry) (x : Entry) (rows more : List Link) → left ≡ x ∷ rest → ((e a : ℕ) → is_linked rows e a ≡ false → is_linked more e a ≡ false) → is_linked more x.key x.number ≡ false → AreGone whole left rows → AreGone whole rest more
next_gone whole left rest x rows more is fewer own gone = (
  gone.0 ++ x ∷ [],
  gone.1 ∙ ap (λ (entries : List Entry). gone.0 ++ entries) is ∙ sym (append_assoc gone.0 (x ∷ []) rest),
  all_joined (λ (entry : Entry). is_linked more entry.key entry.number ≡ false) gone.0 (x ∷ []) (all_from_all (λ (entry : Entry). is_linked rows entry.key entry.number ≡ false) (λ (entry : Entry). is_linked more entry.key entry.number ≡ false) (λ entry was. fewer entry.key entry.number was) gone.0 gone.2) (own, tt),
)

alone : (b : Bool) → (b || false) ≡ b
alone true = refl
alone false = refl

swapped : (a b : Bool) → (a || b) ≡ (b || a)
swapped true true = refl
swapped true false = refl
swapped false true = refl
swapped false false = refl

-- the entities of attachments that were taken were there
pub taken_there : (es : List Entity) (old left before after : List Link) → IsTaken old left before after → before ≡ [] → AllByRecursion (λ row. is_entity es row.entity.0 ≡ true) old → AllByRecursion (λ row. is_entity es row.entity.0 ≡ true) after
taken_there es old left before after taken none all =
    all_from_all (λ (l : Link). is_linked after l.entity.0 l.activity.0 ≡ true) (λ (l : Link). is_entity es l.entity.0 ≡ true) one after (each_linked after)
  where
    one : (l : Link) → is_linked after l.entity.0 l.activity.0 ≡ true → is_entity es l.entity.0 ≡ true
    one l there =
        let was : is_linked old l.entity.0 l.activity.0 ≡ true =
        sym (alone (is_linked old l.entity.0 l.activity.0))
        ∙ ap (λ links. is_linked old l.entity.0 l.activity.0 || is_linked links l.entity.0 l.activity.0) (sym none)
        ∙ sym (taken.members l.entity.0 l.activity.0)
        ∙ ap (λ b. is_linked left l.entity.0 l.activity.0 || b) there
        ∙ or_true (is_linked left l.entity.0 l.activity.0) in
        linked_holds (λ e a. is_entity es e ≡ true) old l.entity.0 l.activity.0 all was

-- what was taken and is put in again was there, and nothing else
pub again_linked : (old left new before after : List Link) → IsTaken old left before after → before ≡ [] → ((e a : ℕ) → is_linked new e a ≡ (is_linked after e a || is_linked left e a)) → (e a : ℕ) → is_linked new e a ≡ is_linked old e a
again_linked old left new before after taken none put e a =
    put e a
    ∙ swapped (is_linked after e a) (is_linked left e a)
    ∙ taken.members e a
    ∙ ap (λ links. is_linked old e a || is_linked links e a) none
    ∙ alone (is_linked old e a)

joined_or : (a b c : Bool) → (a || (b || c)) ≡ ((a || b) || c)
joined_or true b c = refl
joined_or false b c = refl

-- who is listed once one attachment more is
pub next_members : (es : List Entity) (parents : AreParents es) (links old rows more : List Link) (i : ℕ) (d : Link) → i < length links → is_entity es (get_or links i d).entity.0 ≡ true → IsListing es rows → more ≡ put (listed_before es) (get_or links i d) rows
    → ((e a : ℕ) → is_linked rows e a ≡ (is_linked (take i links) e a || is_linked old e a)) → (e a : ℕ) → is_linked more e a ≡ (is_linked (take (i + 1) links) e a || is_linked old e a)
next_members es parents links old rows more i d within there listing is members e a =
    ap (λ all. is_linked all e a) is
    ∙ put_linked es parents (get_or links i d) rows e a there listing.there
    ∙ ap (λ b. is_link e a (get_or links i d) || b) (members e a)
    ∙ joined_or (is_link e a (get_or links i d)) (is_linked (take i links) e a) (is_linked old e a)
    ∙ ap (λ b. b || is_linked old e a) (sym (linked_more (take i links) (get_or links i d) e a) ∙ ap (λ all. is_linked all e a) (sym (take_more links i d within)))
