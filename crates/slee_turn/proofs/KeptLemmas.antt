-- Each step keeps the rule of the table.
use Rattle.std.proofs.Common.{◌≡◌, ◌≢◌, ℕ, zero, suc, ◌+◌, ◌-◌, ◌<◌, ◌≤◌, eqb, List, [], ◌∷◌, length, set, get_or, Option, Some, refl, sym, ap, ◌∙◌, subst, inl, inr, ⊎_elim, arith, eq-eqb, ne_eqb}
use Rattle.std.specs.Option.{unwrap_or}
use mathlib.Core.Logic.{dite}
use mathlib.Core.Option.{some, none, some-injective, some-ne-none}
use mathlib.Core.Option as maybe
use mathlib.Core.List.{IsPrefix}
use native.Mathlib.Decide.{ℕ_discrete}
use lib.ListN.{get_elem?}
use prog.Atomic.{either}
use Rattle.atomic_table.specs.Table.{State, Me, step, keeps, takes, gives, stepped, homes_after, Allows, Splits, Joins, opening, Final, Seen}
use Rattle.atomic_table.proofs.Lists.{set_again, set_here, set_else, at_longer, at_last}
use Rattle.trace_history.specs.declared.choice.Choice.{Choice}
use Rattle.slee_turn.specs.Setups.{Setup}
use Rattle.slee_turn.specs.Numbers.{IsAmong, AreDisjoint, AreUpTo, numbers_after}
use Rattle.slee_turn.specs.Knowledge.{free, inside, told, Knowledge, number_limit, first_known, spent_known, taken_known, told_known, freed_known, heard_known, next_number, parted_known, part_known, joined_known}
use Rattle.slee_turn.specs.Rule.{IsLive, HasTurn, SuitsPhase, Knows, AreApart, IsKept, Takes, Tells, Frees, Hears, Looks}
use Rattle.slee_turn.proofs.NumberLemmas.{among_append, among_after, rises_append, among_merged, merged_rises, without_among, among_without}
use Rattle.slee_turn.proofs.SeatLemmas.{prefix_refl, prefix_trans, prefix_length, turn_live, turn_number, free_in_phase, not_free, same_in_phase, free_phase, apart_set, apart_snoc, each_set, each_snoc_at, inside_views, set_apart, longer_begins, others_set, others_snoc}

module _ {G : Type 0} (setup_of : G → Setup) (history_of : G → List Choice) where
  abbrev St : Type 0
  St = State (Option G) Knowledge

  abbrev M : Type 0
  M = Me (Option G) Knowledge

  abbrev Rule : St → Type 0
  Rule = IsKept setup_of history_of

  pub starts : (words : List ℕ) (slots : List (Option G)) (g h : G) → words ≡ 0 ∷ length (history_of g) ∷ [] → slots ≡ Some g ∷ [] → h ≡ g → Rule (opening words slots (first_known (setup_of h) (history_of h)))
  starts words slots g h w s same = subst (λ (x : G). Rule (opening words slots (first_known (setup_of x) (history_of x)))) (sym same)
      (subst (λ ws. Rule (opening ws slots (first_known (setup_of g) (history_of g)))) (sym w) (subst (λ ss. Rule (opening (0 ∷ length (history_of g) ∷ []) ss (first_known (setup_of g) (history_of g)))) (sym s) begun))
    where
      one : (x y : Knowledge) (j : ℕ) → get_elem? (x ∷ []) j ≡ some y → (j ≡ 0) × (x ≡ y)
      one x y zero e = (refl, some-injective x y e)
      one x y (suc j) e = absurd (some-ne-none y (sym e))

      begun : Rule (opening (0 ∷ length (history_of g) ∷ []) (Some g ∷ []) (first_known (setup_of g) (history_of g)))
      begun = let v : Knowledge = first_known (setup_of g) (history_of g) in record {
        setup = setup_of g;
        book = history_of g;
        holder = 0;
        root = v;
        words = refl;
        home = λ _. (g, refl, refl, refl);
        away = λ ne. absurd (ne refl);
        root_at = refl;
        root_live = (tt, refl);
        each = λ j x e _. let t = one v x j e in subst (λ (y : Knowledge). Knows (setup_of g) (history_of g) 0 v.spare j y) t.1 record {
          setup_is = refl;
          begins = prefix_refl (history_of g);
          hears = omega arith;
          rises = tt;
          within = λ y a. absurd a;
          positive = omega arith;
          below = omega arith;
          suits = λ z. omega arith;
          alone = λ ne. absurd (ne t.0);
        };
        apart = λ j k x y e f ne _ _. absurd (ne ((one v x j e).0 ∙ sym (one v y k f).0));
        listed = λ j x e _ ne. absurd (ne (one v x j e).0);
        there = λ n a. absurd a;
      }

  known_limit : (u : Setup) (b : List Choice) (h l l' j : ℕ) (v : Knowledge) → l ≡ l' → Knows u b h l j v → Knows u b h l' j v
  known_limit u b h l l' j v e = subst (λ z. Knows u b h z j v) e

  new_root : (s : St) (r : Rule s) (id : ℕ) (v w : Knowledge) → get_elem? s.views id ≡ some v → IsLive w.phase → w.number ≡ v.number → w.spare ≡ v.spare → w.out ≡ v.out
      → (q : Knowledge) × (get_elem? (set s.views id w) 0 ≡ some q) × IsLive q.phase × (q.number ≡ 1) × (q.spare ≡ r.root.spare) × (q.out ≡ r.root.out)
  new_root s r id v w at live number spare out = dite (ℕ_discrete id 0)
      (λ (e : id ≡ 0). let same : v ≡ r.root = some-injective v r.root (sym at ∙ (ap (get_elem? s.views) e ∙ r.root_at)) in
      (w, here s.views id v w e at, live, number ∙ (ap (λ (x : Knowledge). x.number) same ∙ r.root_live.1), spare ∙ ap (λ (x : Knowledge). x.spare) same, out ∙ ap (λ (x : Knowledge). x.out) same))
      (λ ne. (r.root, set_else s.views id 0 w (λ e. ne (sym e)) ∙ r.root_at, r.root_live.0, r.root_live.1, refl, refl))
    where
      here : (vs : List Knowledge) (i : ℕ) (a b : Knowledge) → i ≡ 0 → get_elem? vs i ≡ some a → get_elem? (set vs i b) 0 ≡ some b
      here [] i a b e f = absurd (some-ne-none a (sym f))
      here (x ∷ xs) zero a b e f = refl
      here (x ∷ xs) (suc i) a b e f = absurd (omega arith)

  -- one pass's view changes, which keeps its number, its spare and its list of passes split off
  changed : (s : St) (r : Rule s) (id : ℕ) (v w : Knowledge) (ws : List ℕ) (hs : List (maybe.Option (Option G))) (book : List Choice) (holder : ℕ)
      → get_elem? s.views id ≡ some v → IsLive v.phase → IsLive w.phase → w.number ≡ v.number → w.spare ≡ v.spare → w.out ≡ v.out
      → ws ≡ holder ∷ length book ∷ []
      → (holder ≡ 0 → (g : G) × (hs ≡ some (Some g) ∷ []) × (setup_of g ≡ r.setup) × (history_of g ≡ book))
      → (holder ≢ 0 → (hs ≡ none ∷ []) × ((j : ℕ) × (u : Knowledge) × (get_elem? (set s.views id w) j ≡ some u) × HasTurn u.phase))
      → Knows r.setup book holder r.root.spare id w
      → ((j : ℕ) (u : Knowledge) → j ≢ id → get_elem? s.views j ≡ some u → IsLive u.phase → Knows r.setup book holder r.root.spare j u)
      → ((j : ℕ) (u : Knowledge) → j ≢ id → get_elem? s.views j ≡ some u → IsLive u.phase → AreDisjoint w.mine u.mine)
      → Rule record { words = ws; homes = hs; views = set s.views id w }
  changed s r id v w ws hs book holder at live live' number spare out words home away knows others common =
      let q = new_root s r id v w at live' number spare out in record {
        setup = r.setup;
        book = book;
        holder = holder;
        root = q.0;
        words = words;
        home = home;
        away = away;
        root_at = q.1;
        root_live = (q.2, q.3);
        each = each_set (λ j u. IsLive u.phase → Knows r.setup book holder q.0.spare j u) s.views id w
            (λ _. known_limit r.setup book holder r.root.spare q.0.spare id w (sym q.4) knows)
            (λ j u ne e l. known_limit r.setup book holder r.root.spare q.0.spare j u (sym q.4) (others j u ne e l));
        apart = apart_set s.views id w r.apart (λ k u ne e l _. let a = r.apart id k v u at e (λ f. ne (sym f)) live l in ((λ f. a.0 (sym number ∙ f)), common k u ne e l));
        listed = each_set (λ j u. IsLive u.phase → j ≢ 0 → IsAmong u.number q.0.out) s.views id w
            (λ _ ne. subst (IsAmong w.number) (sym q.5) (subst (λ z. IsAmong z r.root.out) (sym number) (r.listed id v at live ne)))
            (λ j u _ e l ne. subst (IsAmong u.number) (sym q.5) (r.listed j u e l ne));
        there = λ n a. others_set s.views id v w at live' number n (r.there n (subst (IsAmong n) q.5 a));
      }

  -- a pass that has not the turn knows the same of a longer book
  other_knows : (u : Setup) (b b' : List Choice) (h h' l j : ℕ) (v : Knowledge) → IsPrefix b b' → (HasTurn v.phase → ⊥) → v.number ≢ h' → Knows u b h l j v → Knows u b' h' l j v
  other_knows u b b' h h' l j v pre not ne k = let more : length b ≤ length b' = prefix_length b b' pre in let was : v.heard ≤ length b = k.hears in record {
    setup_is = k.setup_is;
    begins = prefix_trans v.seen b b' k.begins pre;
    hears = omega arith;
    rises = k.rises;
    within = λ x a. let le : x ≤ length b = k.within x a in let t : x ≤ length b' = omega arith in t;
    positive = k.positive;
    below = k.below;
    suits = free_in_phase b b' h h' v v.phase not ne k.suits;
    alone = k.alone;
  }

  -- where the turn is free, no pass has it
  none_has : (s : St) (r : Rule s) → r.holder ≡ 0 → (j : ℕ) (u : Knowledge) → get_elem? s.views j ≡ some u → IsLive u.phase → HasTurn u.phase → ⊥
  none_has s r e j u at live has = let k = r.each j u at live in let n = turn_number r.book r.holder u u.phase has k.suits in
      let z : u.number ≡ r.holder = n.0 in let p : 0 < u.number = k.positive in absurd (omega arith)

  -- where one pass has it, no other has
  other_has_not : (s : St) (r : Rule s) (id : ℕ) (v : Knowledge) → get_elem? s.views id ≡ some v → HasTurn v.phase → (j : ℕ) (u : Knowledge) → j ≢ id → get_elem? s.views j ≡ some u → IsLive u.phase → HasTurn u.phase → ⊥
  other_has_not s r id v at has j u ne e live has' = let k = turn_number r.book r.holder v v.phase has (r.each id v at (turn_live v.phase has)).suits in
      let k' = turn_number r.book r.holder u u.phase has' (r.each j u e live).suits in
      (r.apart j id u v e at ne live (turn_live v.phase has)).0 (k'.0 ∙ sym k.0)

  pub takes_turn : (slots id number : ℕ) (me : M) → me.0.phase ≡ free → number ≡ me.0.number → Allows Rule slots id me 0 (λ x. either (eqb x 0) number x) (Takes setup_of history_of (step slots 0 0 number none) me)
  takes_turn slots id number me is_free same s r wide at small =
      let x : ℕ = get_or s.words 0 0 in let v : Knowledge = me.0 in let x_is : x ≡ r.holder = ap (λ ws. get_or ws 0 0) r.words in
      let live : IsLive v.phase = subst IsLive (sym is_free) tt in
      let k = r.each id v at live in
      dite (ℕ_discrete x 0)
      (λ hit. let none_yet : r.holder ≡ 0 = sym x_is ∙ hit in let h = r.home none_yet in let g : G = h.0 in let w : Knowledge = taken_known v (history_of g) in
      let begins : IsPrefix v.seen (history_of g) = subst (IsPrefix v.seen) (sym h.3) k.begins in
      let heard : v.heard ≤ length (history_of g) = subst (λ b. v.heard ≤ length b) (sym h.3) k.hears in
      let positive : 0 < v.number = k.positive in (
        w,
        takes 0 (Some g),
        ap (λ l. get_elem? l 0) h.1,
        subst (λ b. Rule (stepped s 0 (either b number x) id me.1 w (takes 0 (Some g)))) (sym (eq-eqb x 0 hit))
            (changed s r id v w (set s.words 0 number) (set s.homes 0 none) r.book number at live tt refl refl refl
            (ap (λ ws. set ws 0 number) r.words)
            (λ z. absurd (omega arith))
            (λ _. (ap (λ l. set l 0 none) h.1, (id, w, set_here s.views id w (inside_views s.views id v at), tt)))
            record {
              setup_is = k.setup_is;
              begins = subst (λ b. IsPrefix b r.book) (sym h.3) (prefix_refl r.book);
              hears = k.hears;
              rises = k.rises;
              within = k.within;
              positive = k.positive;
              below = k.below;
              suits = (sym same, h.3);
              alone = k.alone;
            }
            (λ j u ne e l. other_knows r.setup r.book r.book r.holder number r.root.spare j u (prefix_refl r.book) (none_has s r none_yet j u e l)
            (λ f. (r.apart j id u v e at ne l live).0 (f ∙ same)) (r.each j u e l))
            (λ j u ne e l. (r.apart id j v u at e (λ f. ne (sym f)) live l).1)),
        ((λ _. (g, refl, h.2 ∙ sym k.setup_is, begins, heard)), (λ not. absurd (not hit))),
      ))
      (λ miss. (
        v,
        keeps,
        tt,
        subst (λ b. Rule (stepped s 0 (either b number x) id me.1 v keeps)) (sym (ne_eqb x 0 miss))
            (subst (λ (z : List ℕ × List Knowledge). Rule record { words = z.0; homes = s.homes; views = z.1 }) (λ i. (sym (same_words s r x_is) i, sym (set_again s.views id v at) i)) r),
        ((λ hit. absurd (miss hit)), (λ _. (refl, λ (e : x ≡ v.number). free_not_holder r id v is_free k (x_is) e))),
      ))
    where
      same_words : (s : St) (r : Rule s) → get_or s.words 0 0 ≡ r.holder → set s.words 0 (get_or s.words 0 0) ≡ s.words
      same_words s r e = ap (λ ws. set ws 0 (get_or s.words 0 0)) r.words ∙ (ap (λ n. n ∷ length r.book ∷ []) e ∙ sym r.words)

      free_not_holder : {s : St} (r : Rule s) (i : ℕ) (a : Knowledge) → a.phase ≡ free → Knows r.setup r.book r.holder r.root.spare i a → get_or s.words 0 0 ≡ r.holder → get_or s.words 0 0 ≡ a.number → ⊥
      free_not_holder {s} r i a is k e f = let ne : a.number ≢ r.holder = subst (SuitsPhase r.book r.holder a) is k.suits in ne (sym f ∙ e)

  abbrev value_or : G → List (ℕ × Option G) → G
  value_or d [] = d
  value_or d (x ∷ xs) = unwrap_or x.1 d

  pub tells_length : (slots id n : ℕ) (me : M) (g : G) → me.0.phase ≡ inside → me.1 ≡ (0, Some g) ∷ [] → setup_of g ≡ me.0.setup → IsPrefix me.0.seen (history_of g) → n ≡ length (history_of g)
      → Allows Rule slots id me 1 (λ _. n) (λ _. Tells setup_of history_of (step slots 1 n 0 none) me n)
  tells_length slots id n me g is_inside carried same_setup pre count s r wide at small =
      let v : Knowledge = me.0 in let has : HasTurn v.phase = subst HasTurn (sym is_inside) tt in let live = turn_live v.phase has in
      let k = r.each id v at live in let mine = turn_number r.book r.holder v v.phase has k.suits in
      let w : Knowledge = told_known v (history_of g) in
      let positive : 0 < v.number = k.positive in let is_holder : v.number ≡ r.holder = mine.0 in
      let gone = r.away (λ z. omega arith) in
      let pre' : IsPrefix r.book (history_of g) = subst (λ b. IsPrefix b (history_of g)) mine.1 pre in
      let more : length v.seen ≤ length (history_of g) = prefix_length v.seen (history_of g) pre in
      let within : AreUpTo (length v.seen) v.mine = subst (λ b. AreUpTo (length b) v.mine) (sym mine.1) k.within in
      let heard : v.heard ≤ length v.seen = subst (λ b. v.heard ≤ length b) (sym mine.1) k.hears in
      let added : ℕ = length (history_of g) - length v.seen in (
        w,
        keeps,
        tt,
        changed s r id v w (set s.words 1 n) s.homes (history_of g) r.holder at live tt refl refl refl
            (ap (λ ws. set ws 1 n) r.words ∙ ap (λ c. r.holder ∷ c ∷ []) count)
            (λ z. absurd (omega arith))
            (λ _. (gone.0, (id, w, set_here s.views id w (inside_views s.views id v at), tt)))
            record {
              setup_is = k.setup_is;
              begins = prefix_refl (history_of g);
              hears = omega arith;
              rises = rises_append 0 (length v.seen) added v.mine (omega arith) k.rises within;
              within = λ x a. ⊎_elim (λ (t : IsAmong x v.mine). let le : x ≤ length v.seen = within x t in let u : x ≤ length (history_of g) = omega arith in u)
                  (λ (t : IsAmong x (numbers_after (length v.seen) added)). let le : x ≤ length v.seen + added = (among_after (length v.seen) added x t).1 in let u : x ≤ length (history_of g) = omega arith in u)
                  (among_append x v.mine (numbers_after (length v.seen) added) a);
              positive = k.positive;
              below = k.below;
              suits = (is_holder, refl);
              alone = k.alone;
            }
            (λ j u ne e l. other_knows r.setup r.book (history_of g) r.holder r.holder r.root.spare j u pre' (other_has_not s r id v at has j u ne e l)
            (λ f. (r.apart j id u v e at ne l live).0 (f ∙ sym is_holder)) (r.each j u e l))
            (λ j u ne e l x a b. ⊎_elim (λ (t : IsAmong x v.mine). (r.apart id j v u at e (λ f. ne (sym f)) live l).1 x t b)
            (λ (t : IsAmong x (numbers_after (length v.seen) added)). let low : length v.seen < x = (among_after (length v.seen) added x t).0 in
            let high : x ≤ length v.seen = subst (λ h. x ≤ length h) (sym mine.1) ((r.each j u e l).within x b) in absurd (omega arith))
            (among_append x v.mine (numbers_after (length v.seen) added) a)),
        λ g' carried'. let e : g ≡ g' = ap (value_or g) (sym carried ∙ carried') in λ i. (told_known v (history_of (e i)), me.1),
      )

  pub frees_turn : (slots id : ℕ) (me : M) (g : G) → me.0.phase ≡ told → me.1 ≡ (0, Some g) ∷ [] → setup_of g ≡ me.0.setup → history_of g ≡ me.0.seen
      → Allows Rule slots id me 0 (λ _. 0) (λ _. Frees setup_of history_of (step slots 0 0 0 none) me 0)
  frees_turn slots id me g is_told carried same_setup same_history s r wide at small =
      let v : Knowledge = me.0 in let has : HasTurn v.phase = subst HasTurn (sym is_told) tt in let live = turn_live v.phase has in
      let k = r.each id v at live in let mine = turn_number r.book r.holder v v.phase has k.suits in
      let w : Knowledge = freed_known v in
      let positive : 0 < v.number = k.positive in let is_holder : v.number ≡ r.holder = mine.0 in
      let gone = r.away (λ z. omega arith) in (
        w,
        gives,
        tt,
        changed s r id v w (set s.words 0 0) (homes_after s.homes me.1 gives) r.book 0 at live tt refl refl refl
            (ap (λ ws. set ws 0 0) r.words)
            (λ _. (g, (λ i. homes_after (gone.0 i) (carried i) gives), same_setup ∙ k.setup_is, same_history ∙ mine.1))
            (λ ne. absurd (ne refl))
            record {
              setup_is = k.setup_is;
              begins = k.begins;
              hears = k.hears;
              rises = k.rises;
              within = k.within;
              positive = k.positive;
              below = k.below;
              suits = λ z. omega arith;
              alone = k.alone;
            }
            (λ j u ne e l. let ku = r.each j u e l in let pos : 0 < u.number = ku.positive in other_knows r.setup r.book r.book r.holder 0 r.root.spare j u (prefix_refl r.book) (other_has_not s r id v at has j u ne e l)
            (λ f. omega arith) ku)
            (λ j u ne e l. (r.apart id j v u at e (λ f. ne (sym f)) live l).1),
        refl,
      )

  -- a pass that has the turn is still there after another's view changed, or its own in other parts
  still_there : (s : St) (r : Rule s) (id : ℕ) (v w : Knowledge) → get_elem? s.views id ≡ some v → w.phase ≡ v.phase
      → (j : ℕ) × (u : Knowledge) × (get_elem? s.views j ≡ some u) × HasTurn u.phase → (j : ℕ) × (u : Knowledge) × (get_elem? (set s.views id w) j ≡ some u) × HasTurn u.phase
  still_there s r id v w at same there = dite (ℕ_discrete there.0 id)
      (λ (e : there.0 ≡ id). let is : there.1 ≡ v = some-injective there.1 v (sym there.2 ∙ (ap (get_elem? s.views) e ∙ at)) in
      (id, w, set_here s.views id w (inside_views s.views id v at), subst HasTurn (sym same) (subst (λ (x : Knowledge). HasTurn x.phase) is there.3)))
      (λ ne. (there.0, there.1, set_else s.views id there.0 w ne ∙ there.2, there.3))

  pub hears_length : (slots id : ℕ) (me : M) → IsLive me.0.phase → Allows Rule slots id me 1 (λ x. x) (Hears setup_of history_of (step slots 1 0 0 none) me)
  hears_length slots id me live s r wide at small =
      let v : Knowledge = me.0 in let k = r.each id v at live in let n : ℕ = get_or s.words 1 0 in let w : Knowledge = heard_known v n in
      let count : n ≡ length r.book = ap (λ ws. get_or ws 1 0) r.words in
      let begun : length v.seen ≤ length r.book = prefix_length v.seen r.book k.begins in
      let heard : v.heard ≤ length r.book = k.hears in (
        w,
        keeps,
        tt,
        changed s r id v w (set s.words 1 n) s.homes r.book r.holder at live live refl refl refl
            (ap (λ ws. set ws 1 n) r.words ∙ ap (λ c. r.holder ∷ c ∷ []) count)
            r.home
            (λ ne. let gone = r.away ne in (gone.0, still_there s r id v w at refl gone.1))
            record {
              setup_is = k.setup_is;
              begins = k.begins;
              hears = omega arith;
              rises = k.rises;
              within = k.within;
              positive = k.positive;
              below = k.below;
              suits = same_in_phase r.book r.holder v w v.phase refl refl k.suits;
              alone = k.alone;
            }
            (λ j u ne e l. r.each j u e l)
            (λ j u ne e l. (r.apart id j v u at e (λ f. ne (sym f)) live l).1),
        (refl, omega arith, omega arith),
      )

  pub looks : (slots id : ℕ) (me : M) → IsLive me.0.phase → Allows Rule slots id me 0 (λ x. x) (Looks setup_of history_of (step slots 0 0 0 none) me)
  looks slots id me live s r wide at small =
      let v : Knowledge = me.0 in let k = r.each id v at live in (
        v,
        keeps,
        tt,
        subst (λ (z : List ℕ × List Knowledge). Rule record { words = z.0; homes = s.homes; views = z.1 })
            (λ i. (sym (ap (λ ws. set ws 0 (get_or s.words 0 0)) r.words ∙ (ap (λ n. n ∷ length r.book ∷ []) (ap (λ ws. get_or ws 0 0) r.words) ∙ sym r.words)) i, sym (set_again s.views id v at) i)) r,
        (refl, k.rises),
      )

  -- the pass that can split is the first
  is_root : (s : St) (r : Rule s) (id : ℕ) (v : Knowledge) → get_elem? s.views id ≡ some v → (id ≢ 0 → ⊥) → (id ≡ 0) × (v ≡ r.root)
  is_root s r id v at not = dite (ℕ_discrete id 0) (λ (e : id ≡ 0). (e, some-injective v r.root (sym at ∙ (ap (get_elem? s.views) e ∙ r.root_at)))) (λ ne. absurd (not ne))

  pub splits_pass : (id : ℕ) (v : Knowledge) → IsLive v.phase → 0 < v.spare → Splits Rule id v (parted_known v) (part_known v)
  splits_pass id v live some_spare s r at =
      let k = r.each id v at live in
      let root = is_root s r id v at (λ ne. let z : v.spare ≡ 0 = (k.alone ne).0 in absurd (omega arith)) in
      let spare_is : v.spare ≡ r.root.spare = ap (λ (x : Knowledge). x.spare) root.1 in
      let a : Knowledge = parted_known v in let b : Knowledge = part_known v in
      let vs : List Knowledge = set s.views id a in
      let under : v.number + r.root.spare < number_limit = k.below in
      let lowers : (j : ℕ) (u : Knowledge) → Knows r.setup r.book r.holder r.root.spare j u → Knows r.setup r.book r.holder a.spare j u =
      λ j u ku. let low : u.number + r.root.spare < number_limit = ku.below in record {
        setup_is = ku.setup_is;
        begins = ku.begins;
        hears = ku.hears;
        rises = ku.rises;
        within = ku.within;
        positive = ku.positive;
        below = omega arith;
        suits = ku.suits;
        alone = ku.alone;
      } in
      let at_first : get_elem? vs 0 ≡ some a = subst (λ z. get_elem? (set s.views z a) 0 ≡ some a) (sym root.0) (set_here s.views 0 a (inside_views s.views 0 r.root r.root_at)) in
      let not_next : (j : ℕ) (u : Knowledge) → get_elem? s.views j ≡ some u → IsLive u.phase → next_number v ≢ u.number =
      λ j u e l f. let low : u.number + r.root.spare < number_limit = (r.each j u e l).below in absurd (omega arith) in
      let not_first : length vs ≢ 0 = λ e. let some_seat : 0 < length vs = inside_views vs 0 a at_first in absurd (omega arith) in
      let not_holder : next_number v ≢ r.holder = λ f. let gone = r.away (λ z. omega arith) in
      let has = gone.1.3 in let l = turn_live gone.1.1.phase has in
      not_next gone.1.0 gone.1.1 gone.1.2 l (f ∙ sym (turn_number r.book r.holder gone.1.1 gone.1.1.phase has (r.each gone.1.0 gone.1.1 gone.1.2 l).suits).0) in
      record {
        setup = r.setup;
        book = r.book;
        holder = r.holder;
        root = a;
        words = r.words;
        home = r.home;
        away = λ ne. let gone = r.away ne in let there = still_there s r id v a at refl gone.1 in (gone.0, (there.0, there.1, at_longer vs (b ∷ []) there.0 there.1 there.2, there.3));
        root_at = at_longer vs (b ∷ []) 0 a at_first;
        root_live = (live, ap (λ (x : Knowledge). x.number) root.1 ∙ r.root_live.1);
        each = each_snoc_at (λ j u. IsLive u.phase → Knows r.setup r.book r.holder a.spare j u) vs b
            (λ _. record {
              setup_is = k.setup_is;
              begins = k.begins;
              hears = k.hears;
              rises = tt;
              within = λ x t. absurd t;
              positive = omega arith;
              below = omega arith;
              suits = not_holder;
              alone = λ _. (refl, refl);
            })
            (each_set (λ j u. IsLive u.phase → Knows r.setup r.book r.holder a.spare j u) s.views id a
            (λ _. let ka = lowers id v k in record {
              setup_is = ka.setup_is;
              begins = ka.begins;
              hears = ka.hears;
              rises = ka.rises;
              within = ka.within;
              positive = ka.positive;
              below = ka.below;
              suits = same_in_phase r.book r.holder v a v.phase refl refl ka.suits;
              alone = λ ne. absurd (ne root.0);
            })
            (λ j u _ e l. lowers j u (r.each j u e l)));
        apart = apart_snoc vs b
            (apart_set s.views id a r.apart (λ j u ne e l _. r.apart id j v u at e (λ f. ne (sym f)) live l))
            (each_set (λ j u. IsLive u.phase → AreApart b u) s.views id a
            (λ _. (not_next id v at live, (λ x t _. t)))
            (λ j u _ e l. (not_next j u e l, (λ x t _. t))));
        listed = each_snoc_at (λ j u. IsLive u.phase → j ≢ 0 → IsAmong u.number a.out) vs b
            (λ _ _. inl refl)
            (each_set (λ j u. IsLive u.phase → j ≢ 0 → IsAmong u.number a.out) s.views id a
            (λ _ ne. absurd (ne root.0))
            (λ j u _ e l ne. inr (subst (λ (x : Knowledge). IsAmong u.number x.out) (sym root.1) (r.listed j u e l ne))));
        there = λ n p. ⊎_elim
            (λ (e : n ≡ next_number v). (length vs, b, at_last vs b (length vs) refl, tt, not_first, sym e))
            (λ (t : IsAmong n v.out). others_snoc vs b n (others_set s.views id v a at live refl n (r.there n (subst (λ (x : Knowledge). IsAmong n x.out) root.1 t)))) p;
      }

  pub joins_passes : (id : ℕ) (v : Knowledge) (other : ℕ) (w : Knowledge) → v.phase ≡ free → w.phase ≡ free → IsAmong w.number v.out → Joins Rule id v other w (joined_known v w) spent_known
  joins_passes id v other w is_free is_free' listed s r at ne there =
      let live : IsLive v.phase = subst IsLive (sym is_free) tt in let live' : IsLive w.phase = subst IsLive (sym is_free') tt in
      let k = r.each id v at live in let both : Knowledge = joined_known v w in
      let root = is_root s r id v at (λ n. let z : v.out ≡ [] = (k.alone n).1 in absurd (subst (IsAmong w.number) z listed)) in
      let there' : get_elem? s.views other ≡ some w = sym (set_else s.views id other both ne) ∙ there in
      let k' = r.each other w there' live' in
      let ne' : id ≢ other = λ e. ne (sym e) in
      let ps : List Knowledge = set s.views other spent_known in
      let vs : List Knowledge = set ps id both in
      let at' : get_elem? ps id ≡ some v = set_else s.views other id spent_known ne' ∙ at in
      let apart = r.apart id other v w at there' ne' live live' in
      let old : (P : ℕ → Knowledge → Type 0) → ((j : ℕ) (u : Knowledge) → j ≢ other → get_elem? s.views j ≡ some u → IsLive u.phase → P j u) → (j : ℕ) (u : Knowledge) → get_elem? ps j ≡ some u → IsLive u.phase → P j u =
      λ P f. each_set (λ j u. IsLive u.phase → P j u) s.views other spent_known (λ l. absurd l) (λ j u n e l. f j u n e l) in
      subst (λ (z : List Knowledge). Rule record { words = s.words; homes = s.homes; views = z }) (sym (set_apart s.views id other both spent_known ne')) record {
        setup = r.setup;
        book = r.book;
        holder = r.holder;
        root = both;
        words = r.words;
        home = r.home;
        away = λ h. let gone = r.away h in
            let has = gone.1.3 in let l = turn_live gone.1.1.phase has in
            let not_v : gone.1.0 ≢ id = λ e. let same : gone.1.1 ≡ v = some-injective gone.1.1 v (sym gone.1.2 ∙ (ap (get_elem? s.views) e ∙ at)) in not_free v.phase is_free (subst (λ (x : Knowledge). HasTurn x.phase) same has) in
            let not_w : gone.1.0 ≢ other = λ e. let same : gone.1.1 ≡ w = some-injective gone.1.1 w (sym gone.1.2 ∙ (ap (get_elem? s.views) e ∙ there')) in not_free w.phase is_free' (subst (λ (x : Knowledge). HasTurn x.phase) same has) in
            (gone.0, (gone.1.0, gone.1.1, set_else ps id gone.1.0 both not_v ∙ (set_else s.views other gone.1.0 spent_known not_w ∙ gone.1.2), has));
        root_at = subst (λ z. get_elem? (set ps z both) 0 ≡ some both) (sym root.0) (set_here ps 0 both (inside_views ps 0 v (subst (λ z. get_elem? ps z ≡ some v) root.0 at')));
        root_live = (live, ap (λ (x : Knowledge). x.number) root.1 ∙ r.root_live.1);
        each = each_set (λ j u. IsLive u.phase → Knows r.setup r.book r.holder both.spare j u) ps id both
            (λ _. known_limit r.setup r.book r.holder r.root.spare both.spare id both (ap (λ (x : Knowledge). x.spare) (sym root.1)) record {
              setup_is = k.setup_is;
              begins = longer_begins v.seen w.seen r.book k.begins k'.begins;
              hears = let p : v.heard ≤ length r.book = k.hears in let q : w.heard ≤ length r.book = k'.hears in omega arith;
              rises = merged_rises 0 v.mine w.mine k.rises k'.rises apart.1;
              within = λ x a. ⊎_elim (λ (t : IsAmong x v.mine). k.within x t) (λ (t : IsAmong x w.mine). k'.within x t) (among_merged x v.mine w.mine a);
              positive = k.positive;
              below = k.below;
              suits = free_phase r.book r.holder v both v.phase is_free refl k.suits;
              alone = λ n. absurd (n root.0);
            })
            (λ j u _ e l. old (λ j u. Knows r.setup r.book r.holder both.spare j u) (λ j u _ e l. known_limit r.setup r.book r.holder r.root.spare both.spare j u (ap (λ (x : Knowledge). x.spare) (sym root.1)) (r.each j u e l)) j u e l);
        apart = apart_set ps id both
            (apart_set s.views other spent_known r.apart (λ _ _ _ _ _ l. absurd l))
            (λ j u n e l _. old (λ j u. j ≢ id → AreApart both u) (λ j u m f l n. let one = r.apart id j v u at f (λ g. n (sym g)) live l in let two = r.apart other j w u there' f (λ g. m (sym g)) live' l in
            (one.0, λ x a b. ⊎_elim (λ (t : IsAmong x v.mine). one.1 x t b) (λ (t : IsAmong x w.mine). two.1 x t b) (among_merged x v.mine w.mine a))) j u e l n);
        listed = each_set (λ j u. IsLive u.phase → j ≢ 0 → IsAmong u.number both.out) ps id both
            (λ _ n. absurd (n root.0))
            (λ j u _ e l n. old (λ j u. j ≢ 0 → IsAmong u.number both.out)
            (λ j u m f l n. without_among w.number u.number v.out (λ g. (r.apart other j w u there' f (λ h. m (sym h)) live' l).0 (sym g)) (subst (λ (x : Knowledge). IsAmong u.number x.out) (sym root.1) (r.listed j u f l n))) j u e l n);
        there = λ n a. let t = among_without w.number n v.out a in
            let o = r.there n (subst (λ (x : Knowledge). IsAmong n x.out) root.1 t.1) in
            let not_w : o.0 ≢ other = λ e. let same : o.1 ≡ w = some-injective o.1 w (sym o.2 ∙ (ap (get_elem? s.views) e ∙ there')) in t.0 (sym o.5 ∙ ap (λ (x : Knowledge). x.number) same) in
            let not_v : o.0 ≢ id = λ e. o.4 (e ∙ root.0) in
            (o.0, o.1, set_else ps id o.0 both not_v ∙ (set_else s.views other o.0 spent_known not_w ∙ o.2), o.3, o.4, o.5);
      }

  -- at the end, with every other pass joined, the value is in the slot
  pub closes : (id : ℕ) (v : Knowledge) (ws : List ℕ) (xs : List (Option G)) → v.phase ≡ free → v.number ≡ 1 → v.out ≡ [] → Final (Seen Rule id v) ws xs
      → (g : G) × (get_elem? xs 0 ≡ some (Some g)) × (setup_of g ≡ v.setup) × IsPrefix v.seen (history_of g) × (v.heard ≤ length (history_of g))
  closes id v ws xs is_free one empty last =
      let s = last.0 in let r : Rule s = last.1.0 in let at = last.1.1 in
      let live : IsLive v.phase = subst IsLive (sym is_free) tt in
      let root = is_root s r id v at (λ n. (r.apart id 0 v r.root at r.root_at n live r.root_live.0).0 (one ∙ sym r.root_live.1)) in
      let k = r.each id v at live in
      let nobody : r.holder ≡ 0 = dite (ℕ_discrete r.holder 0) (λ (e : r.holder ≡ 0). e)
      (λ n. let gone = r.away n in let j = gone.1.0 in let u = gone.1.1 in let has = gone.1.3 in
      absurd (dite (ℕ_discrete j 0)
      (λ (e : j ≡ 0). let same : u ≡ v = some-injective u v (sym gone.1.2 ∙ (ap (get_elem? s.views) (e ∙ sym root.0) ∙ at)) in not_free v.phase is_free (subst (λ (x : Knowledge). HasTurn x.phase) same has))
      (λ m. subst (IsAmong u.number) (ap (λ (x : Knowledge). x.out) (sym root.1) ∙ empty) (r.listed j u gone.1.2 (turn_live u.phase has) m)))) in
      let h = r.home nobody in
      (h.0, last.4 0 (Some h.0) (ap (λ l. get_elem? l 0) h.1), h.2 ∙ sym k.setup_is, subst (IsPrefix v.seen) (sym h.3) k.begins, subst (λ b. v.heard ≤ length b) (sym h.3) k.hears)
