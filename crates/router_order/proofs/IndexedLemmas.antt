-- The index of each entity's activities: how it follows the attachments, and what is found by it.
use Rattle.std.proofs.Common.{◌≡◌, ℕ, ◌==◌, Bool, true, false, cond, List, [], ◌∷◌, ◌⊎◌, ◌+◌, ◌<◌, get_or, length, map, take, refl, sym, ap, subst, ◌∙◌, arith, inl, inr}
use Rattle.std.specs.Prelude.{◌&&◌, ◌||◌, not}
use Rattle.std.specs.List.{AllByRecursion, filter, list_any}
use Rattle.std.proofs.lemmas.Bool.{cases_Bool, and_parts}
use Rattle.std.proofs.lemmas.Bool.Decides.{nat_tests}
use Rattle.std.proofs.lemmas.List.{take_more}
use Rattle.slee_value.specs.declared.ids.EntityId.{EntityId}
use Rattle.router_state.specs.declared.rows.Entity.{Entity}
use Rattle.router_state.specs.declared.rows.Link.{Link}
use Rattle.rows_sorted.specs.Orders.{put, same_pair}
use Rattle.router_state.specs.Contexts.{is_linked, without_link, without_links_on}
use Rattle.rows_sorted.specs.Keys.{is_key, key_before, pair_key}
use Rattle.rows_sorted.proofs.KeyLemmas.{pair_agrees}
use Rattle.rows_sorted.proofs.OrderLemmas.{all_from_all}
use Rattle.entity_tree.specs.Kept.{AreParents, is_entity, numbers_of}
use Rattle.entity_tree.proofs.ListLemmas.{and_true, all_joined, all_of_any}
use Rattle.rows_index.specs.declared.entry.Entry.{Entry}
use Rattle.rows_index.specs.Index.{entry_key}
use Rattle.router_order.specs.declared.placed.Placed.{Placed}
use Rattle.router_order.specs.Listed.{IsListing, listed_before}
use Rattle.router_order.specs.Placed.{IsIndexed, attachment, attachments}
use Rattle.router_order.proofs.LinkLemmas.{has, left_any, linked_is, put_any, without_link_linked, without_links_on_linked}
use Rattle.router_order.proofs.ListingLemmas.{put_linked}
use Rattle.router_order.proofs.PriorityLemmas.{among}
use Rattle.router_order.proofs.RunLemmas.{run, run_is}

-- the entry is that of the activity under the entity
abbrev pub is_under : ℕ → ℕ → Entry → Bool
is_under e a entry = same_pair entry.key entry.number e a

-- the activity is under the entity
abbrev pub has_under : List Entry → ℕ → ℕ → Bool
has_under entries e a = list_any (is_under e a) entries

-- what holds for all entries under an entity
pub under_holds : (Q : ℕ → ℕ → Type 0) (e b : ℕ) (entries : List Entry) → AllByRecursion (λ (entry : Entry). Q entry.key entry.number) (filter (λ entry. entry.key == e) entries) → has_under entries e b ≡ true → Q e b
under_holds Q e b [] all there = absurd (cc)
under_holds Q e b (x ∷ xs) all there = elim (cases_Bool (x.key == e)) [
  | inl mine ↦
      let both = rw mine at all in
      elim (cases_Bool (x.number == b)) [
        | inl same ↦
            let under : x.key ≡ e = grind (arith, nat_tests, mine) in
            let at : x.number ≡ b = grind (arith, nat_tests, same) in
            subst (λ n. Q e n) at (subst (λ n. Q n x.number) under both.0)
        | inr apart ↦ under_holds Q e b xs both.1 (rw (mine, apart) at there)
      ]
  | inr other ↦ under_holds Q e b xs (rw other at all) (rw other at there)
]

-- what holds for all entities of these numbers
entity_holds : (Q : ℕ → Type 0) (f : ℕ) (entities : List EntityId) → AllByRecursion (λ (entity : EntityId). Q entity.0) entities → among f (numbers_of entities) ≡ true → Q f
entity_holds Q f [] all there = absurd (cc)
entity_holds Q f (x ∷ xs) all there = elim (cases_Bool (x.0 == f)) [
  | inl mine ↦ let at : x.0 ≡ f = grind (arith, nat_tests, mine) in subst Q at all.0
  | inr other ↦ entity_holds Q f xs all.1 (rw other at there)
]

-- the key of an entry is that of the activity under the entity
pub under_key : (e a : ℕ) (entry : Entry) → is_key (entry_key entry) (pair_key e a) ≡ is_under e a entry
under_key e a entry = ap (λ b. (entry.key == e) && b) (and_true (entry.number == a))

entry_place : (x y : Entry) → key_before (entry_key x) (entry_key y) ≡ false → key_before (entry_key y) (entry_key x) ≡ false → (x.key ≡ y.key) × (x.number ≡ y.number)
entry_place x y one two =
    let first = sym (pair_agrees x.key x.number y.key y.number) ∙ one in
    let second = sym (pair_agrees y.key y.number x.key x.number) ∙ two in
    let keys : x.key ≡ y.key = grind (arith, nat_tests, first, second) in
    let numbers : x.number ≡ y.number = grind (arith, nat_tests, first, second) in
    (keys, numbers)

-- an entry more
pub put_under : (y : Entry) (entries more : List Entry) → more ≡ put (λ x y. key_before (entry_key x) (entry_key y)) y entries → (e a : ℕ) → has_under more e a ≡ (is_under e a y || has_under entries e a)
put_under y entries more is e a =
    ap (λ all. has_under all e a) is
    ∙ put_any (is_under e a) (λ (x y : Entry). key_before (entry_key x) (entry_key y)) y entries
    (all_of_any (λ (x : Entry). key_before (entry_key x) (entry_key y) ≡ false → key_before (entry_key y) (entry_key x) ≡ false → is_under e a x ≡ is_under e a y) (λ x one two. let same = entry_place x y one two in rw (same.0, same.1) refl) entries)

-- the index follows an attachment more
pub attach_indexed : (es : List Entity) (parents : AreParents es) (l : Link) (y : Entry) (old new : List Link) (entries more : List Entry) → y.key ≡ l.entity.0 → y.number ≡ l.activity.0
    → is_entity es l.entity.0 ≡ true → IsListing es old → new ≡ put (listed_before es) l old → more ≡ put (λ x y. key_before (entry_key x) (entry_key y)) y entries → IsIndexed old entries → IsIndexed new more
attach_indexed es parents l y old new entries more key number there listing is grown indexed e a =
    put_under y entries more grown e a
    ∙ (λ i. same_pair (key i) (number i) e a || indexed e a i)
    ∙ sym (put_linked es parents l old e a there listing.there)
    ∙ ap (λ links. is_linked links e a) (sym is)

same_under : (e a f b : ℕ) (x : Entry) → is_under f b x ≡ true → is_under e a x ≡ same_pair f b e a
same_under e a f b x is =
    let parts = and_parts (x.key == f) (x.number == b) is in
    let one = parts.0 in
    let two = parts.1 in
    let key : x.key ≡ f = grind (arith, nat_tests, one) in
    let at : x.number ≡ b = grind (arith, nat_tests, two) in
    rw (key, at) refl

-- the index follows an attachment less
pub detach_indexed : (e a : ℕ) (old new : List Link) (entries fewer : List Entry) → new ≡ without_link old e a → fewer ≡ filter (λ entry. not (is_key (entry_key entry) (pair_key e a))) entries → IsIndexed old entries → IsIndexed new fewer
detach_indexed e a old new entries fewer is cut indexed f b =
    ap (λ all. has_under all f b) cut
    ∙ left_any (is_under f b) (λ (x : Entry). not (is_key (entry_key x) (pair_key e a))) (not (same_pair f b e a)) entries (λ x mine. ap not (under_key e a x ∙ same_under e a f b x mine))
    ∙ ap (λ c. not (same_pair f b e a) && c) (indexed f b)
    ∙ sym (without_link_linked old e a f b)
    ∙ ap (λ links. is_linked links f b) (sym is)

and_false : (b : Bool) → (b && false) ≡ false
and_false true = refl
and_false false = refl

any_mapped : {X Y : Type 0} (t : Y → Bool) (f : X → Y) (xs : List X) → list_any t (map f xs) ≡ list_any (λ x. t (f x)) xs
any_mapped t f [] = refl
any_mapped t f (x ∷ xs) = ap (λ b. t (f x) || b) (any_mapped t f xs)

-- an entry of the activity's goes where its entity is attached to the activity
goes_with : (a f b : ℕ) (x : Entry) (rows : List Placed) → is_under f b x ≡ true → list_any (λ (row : Placed). is_key (entry_key x) (pair_key row.entity.0 a)) rows ≡ ((b == a) && list_any (λ (row : Placed). row.entity.0 == f) rows)
goes_with a f b x [] mine = sym (and_false (b == a))
goes_with a f b x (r ∷ rs) mine =
    let more = goes_with a f b x rs mine in
    let key = under_key r.entity.0 a x ∙ same_under r.entity.0 a f b x mine in
    elim (cases_Bool (b == a)) [
      | inl same ↦ elim (cases_Bool (f == r.entity.0)) [
        | inl own ↦ let turned : (r.entity.0 == f) ≡ true = grind (arith, nat_tests, own) in rw (key, same, own, turned) refl
        | inr other ↦
            let turned : (r.entity.0 == f) ≡ false = grind (arith, nat_tests, other) in
            let rest = rw same at more in
            rw (key, same, other, turned) rest
      ]
      | inr apart ↦
          let rest = rw apart at more in
          rw (key, apart, and_false (f == r.entity.0)) rest
    ]

-- the index follows the attachments to an activity that go
pub forget_indexed : (a : ℕ) (rows : List Placed) (new : List Link) (entries fewer : List Entry) → new ≡ without_links_on (attachments rows) a
    → fewer ≡ filter (λ entry. not (list_any (λ (row : Placed). is_key (entry_key entry) (pair_key row.entity.0 a)) (run rows a))) entries
    → IsIndexed (attachments rows) entries → IsIndexed new fewer
forget_indexed a rows new entries fewer is cut indexed f b =
    ap (λ all. has_under all f b) cut
    ∙ left_any (is_under f b) (λ (x : Entry). not (list_any (λ (row : Placed). is_key (entry_key x) (pair_key row.entity.0 a)) (run rows a))) (not ((b == a) && list_any (λ (row : Placed). row.entity.0 == f) (run rows a))) entries
    (λ x mine. ap not (goes_with a f b x (run rows a) mine))
    ∙ ap (λ c. not ((b == a) && list_any (λ (row : Placed). row.entity.0 == f) (run rows a)) && c) (indexed f b)
    ∙ goes (cases_Bool (b == a))
    ∙ sym (without_links_on_linked (attachments rows) a f b)
    ∙ ap (λ links. is_linked links f b) (sym is)
  where
    none_both : (c : Bool) → (not c && c) ≡ false
    none_both true = refl
    none_both false = refl

    linked : list_any (λ (row : Placed). row.entity.0 == f) (run rows a) ≡ is_linked (attachments rows) f a
    linked =
        sym (any_mapped (λ (l : Link). l.entity.0 == f) attachment (run rows a))
        ∙ ap (λ links. has links f) (sym (run_is rows a))
        ∙ sym (linked_is (attachments rows) f a)

    goes : ((b == a) ≡ true) ⊎ ((b == a) ≡ false) → (not ((b == a) && list_any (λ (row : Placed). row.entity.0 == f) (run rows a)) && is_linked (attachments rows) f b) ≡ (not (b == a) && is_linked (attachments rows) f b)
    goes case = elim case [
      | inl same ↦
          let at : b ≡ a = grind (arith, nat_tests, same) in
          let here = subst (λ c. list_any (λ (row : Placed). row.entity.0 == f) (run rows a) ≡ is_linked (attachments rows) f c) (sym at) linked in
          rw (same, here) (none_both (is_linked (attachments rows) f b))
      | inr apart ↦ rw apart refl
    ]

-- entries from which those of one row went, and then those of others
pub next_gone : (goes : Placed → Entry → Bool) (r : Placed) (rest : List Placed) (entries : List Entry)
    → filter (λ x. not (list_any (λ row. goes row x) rest)) (filter (λ x. not (goes r x)) entries) ≡ filter (λ x. not (list_any (λ row. goes row x) (r ∷ rest))) entries
next_gone goes r rest [] = refl
next_gone goes r rest (x ∷ xs) = elim (cases_Bool (goes r x)) [
  | inl mine ↦ rw mine (next_gone goes r rest xs)
  | inr other ↦ rw other (ap (λ more. cond (not (list_any (λ row. goes row x) rest)) (x ∷ more) more) (next_gone goes r rest xs))
]

pub none_gone : (goes : Placed → Entry → Bool) (entries : List Entry) → filter (λ x. not (list_any (λ row. goes row x) [])) entries ≡ entries
none_gone goes [] = refl
none_gone goes (x ∷ xs) = ap (λ more. x ∷ more) (none_gone goes xs)

-- the attachments of an entity are gone
abbrev pub IsGoneOf : List Entry → List Link → EntityId → Type 0
IsGoneOf entries rows entity = (a : ℕ) → has_under entries entity.0 a ≡ true → is_linked rows entity.0 a ≡ false

-- the attachments of one entity more are gone
pub next_gone_of : (entries : List Entry) (rows more : List Link) (entities : List EntityId) (i : ℕ) (d : EntityId) → i < length entities → ((e a : ℕ) → is_linked rows e a ≡ false → is_linked more e a ≡ false)
    → AllByRecursion (λ (entry : Entry). is_linked more entry.key entry.number ≡ false) (filter (λ entry. entry.key == (get_or entities i d).0) entries)
    → AllByRecursion (IsGoneOf entries rows) (take i entities) → AllByRecursion (IsGoneOf entries more) (take (i + 1) entities)
next_gone_of entries rows more entities i d within fewer own gone =
    subst (AllByRecursion (IsGoneOf entries more)) (sym (take_more entities i d within))
    (all_joined (IsGoneOf entries more) (take i entities) (get_or entities i d ∷ [])
    (all_from_all (IsGoneOf entries rows) (IsGoneOf entries more) (λ entity was a under. fewer entity.0 a (was a under)) (take i entities) gone)
    ((λ a under. under_holds (λ e b. is_linked more e b ≡ false) (get_or entities i d).0 a entries own under), tt))

-- the attachments of entities are gone where those with entries are
gone_below : (e a : ℕ) (old new : List Link) (entries : List Entry) → IsIndexed old entries → ((f b : ℕ) → is_linked old f b ≡ false → is_linked new f b ≡ false) → (has_under entries e a ≡ true → is_linked new e a ≡ false) → is_linked new e a ≡ false
gone_below e a old new entries indexed fewer gone = elim (cases_Bool (has_under entries e a)) [
  | inl under ↦ gone under
  | inr none ↦ fewer e a (sym (indexed e a) ∙ none)
]

-- the attachments of entities of these numbers are gone
pub gone_among : (numbers : List ℕ) (entities : List EntityId) (old new : List Link) (entries : List Entry) → numbers_of entities ≡ numbers → IsIndexed old entries
    → ((f b : ℕ) → is_linked old f b ≡ false → is_linked new f b ≡ false) → AllByRecursion (IsGoneOf entries new) entities → (e a : ℕ) → among e numbers ≡ true → is_linked new e a ≡ false
gone_among numbers entities old new entries are indexed fewer gone e a there =
    gone_below e a old new entries indexed fewer (λ under. entity_holds (λ f. IsGoneOf entries new (record { 0 = f })) e entities gone (ap (among e) are ∙ there) a under)

-- whether an attachment is there, by the key of its entry
pub linked_by_key : (links : List Link) (entries : List Entry) → IsIndexed links entries → (e a : ℕ) → list_any (λ entry. is_key (entry_key entry) (pair_key e a)) entries ≡ is_linked links e a
linked_by_key links entries indexed e a = (λ i. list_any (λ entry. under_key e a entry i) entries) ∙ indexed e a
