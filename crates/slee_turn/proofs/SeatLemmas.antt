-- Views in a list, one for each seat, and what their phases tell.
use Rattle.std.proofs.Common.{◌≡◌, ◌≢◌, ◌⊎◌, ℕ, zero, suc, ◌+◌, ◌≤◌, ◌<◌, nat_lt, Bool, true, false, if◌then◌else◌, List, [], ◌∷◌, ◌++◌, length, set, refl, sym, ap, ◌∙◌, subst, inl, inr, ⊎_elim, arith, append_assoc, append-nil, length-append}
use mathlib.Core.Logic.{dite}
use mathlib.Core.Option.{some, some-injective, some-ne-none}
use mathlib.Core.List.{IsPrefix}
use native.Mathlib.Decide.{ℕ_discrete}
use lib.ListN.{get_elem?}
use Rattle.atomic_table.proofs.Lists.{at_set, set_here, set_else, at_longer}
use Rattle.trace_history.specs.declared.choice.Choice.{Choice}
use Rattle.slee_turn.specs.Knowledge.{Phase, free, inside, told, spent, Knowledge, longer}
use Rattle.slee_turn.specs.Rule.{IsLive, HasTurn, SuitsPhase, AreApart, IsOther}

module _ {A : Type 0} where
  pub prefix_refl : (xs : List A) → IsPrefix xs xs
  prefix_refl xs = ([], append-nil xs)

  pub prefix_trans : (xs ys zs : List A) → IsPrefix xs ys → IsPrefix ys zs → IsPrefix xs zs
  prefix_trans xs ys zs p q = (p.0 ++ q.0, sym (append_assoc xs p.0 q.0) ∙ (ap (λ l. l ++ q.0) p.1 ∙ q.1))

  pub prefix_length : (xs ys : List A) → IsPrefix xs ys → length xs ≤ length ys
  prefix_length xs ys p = let e : length (xs ++ p.0) ≡ length ys = ap length p.1 in let f : length (xs ++ p.0) ≡ length xs + length p.0 = length-append xs p.0 in omega arith

-- what the phases tell
pub turn_live : (p : Phase) → HasTurn p → IsLive p
turn_live free h = absurd h
turn_live inside h = tt
turn_live told h = tt
turn_live spent h = absurd h

pub turn_number : (b : List Choice) (h : ℕ) (v : Knowledge) (p : Phase) → HasTurn p → SuitsPhase b h v p → (v.number ≡ h) × (v.seen ≡ b)
turn_number b h v free q i = absurd q
turn_number b h v inside q i = i
turn_number b h v told q i = i
turn_number b h v spent q i = absurd q

-- what is true of a pass without the turn stays so where the book grows and another has the turn
pub free_in_phase : (b b' : List Choice) (h h' : ℕ) (v : Knowledge) (p : Phase) → (HasTurn p → ⊥) → v.number ≢ h' → SuitsPhase b h v p → SuitsPhase b' h' v p
free_in_phase b b' h h' v free n ne i = ne
free_in_phase b b' h h' v inside n ne i = absurd (n tt)
free_in_phase b b' h h' v told n ne i = absurd (n tt)
free_in_phase b b' h h' v spent n ne i = tt

pub not_free : (p : Phase) → p ≡ free → HasTurn p → ⊥
not_free p e h = subst HasTurn e h

pub same_in_phase : (b : List Choice) (h : ℕ) (v w : Knowledge) (p : Phase) → w.number ≡ v.number → w.seen ≡ v.seen → SuitsPhase b h v p → SuitsPhase b h w p
same_in_phase b h v w free n e i = λ f. i (sym n ∙ f)
same_in_phase b h v w inside n e i = (n ∙ i.0, e ∙ i.1)
same_in_phase b h v w told n e i = (n ∙ i.0, e ∙ i.1)
same_in_phase b h v w spent n e i = tt

pub free_phase : (b : List Choice) (h : ℕ) (v w : Knowledge) (p : Phase) → p ≡ free → w.number ≡ v.number → SuitsPhase b h v p → SuitsPhase b h w p
free_phase b h v w free e n i = λ f. i (sym n ∙ f)
free_phase b h v w inside e n i = absurd (not_free inside e tt)
free_phase b h v w told e n i = absurd (not_free told e tt)
free_phase b h v w spent e n i = tt

-- two passes in two seats are apart
abbrev pub AllApart : List Knowledge → Type 0
AllApart vs = (j k : ℕ) (v w : Knowledge) → get_elem? vs j ≡ some v → get_elem? vs k ≡ some w → j ≢ k → IsLive v.phase → IsLive w.phase → AreApart v w

pub apart_sym : (v w : Knowledge) → AreApart v w → AreApart w v
apart_sym v w a = ((λ e. a.0 (sym e)), λ x p q. a.1 x q p)

-- what is true of the changed view and of each other
pub each_set : (P : ℕ → Knowledge → Type 0) (vs : List Knowledge) (id : ℕ) (w : Knowledge) → P id w → ((j : ℕ) (v : Knowledge) → j ≢ id → get_elem? vs j ≡ some v → P j v) → (j : ℕ) (v : Knowledge) → get_elem? (set vs id w) j ≡ some v → P j v
each_set P vs id w here others j v e = ⊎_elim (λ (t : (j ≡ id) × (w ≡ v)). subst (λ (x : ℕ × Knowledge). P x.0 x.1) (λ i. (sym t.0 i, t.1 i)) here)
    (λ (t : (j ≢ id) × (get_elem? vs j ≡ some v)). others j v t.0 t.1) (at_set vs id j w v e)

pub apart_set : (vs : List Knowledge) (id : ℕ) (w : Knowledge) → AllApart vs → ((k : ℕ) (u : Knowledge) → k ≢ id → get_elem? vs k ≡ some u → IsLive u.phase → IsLive w.phase → AreApart w u) → AllApart (set vs id w)
apart_set vs id w all mine j k a b at_j at_k ne live_a live_b =
    each_set (λ j a. j ≢ k → IsLive a.phase → AreApart a b) vs id w
    (λ ne' live. each_set (λ k b. id ≢ k → IsLive b.phase → AreApart w b) vs id w (λ f _. absurd (f refl)) (λ k' b' apart' at' _ live'. mine k' b' apart' at' live' live) k b at_k ne' live_b)
    (λ j' a' apart' at' ne' live. each_set (λ k b. j' ≢ k → IsLive b.phase → AreApart a' b) vs id w
    (λ _ live'. apart_sym w a' (mine j' a' apart' at' live live'))
    (λ k' b' _ at'' ne'' live'. all j' k' a' b' at' at'' ne'' live live') k b at_k ne' live_b)
    j a at_j ne live_a

-- the view in a seat of a list with one more: an old one, or the new one in the last seat
pub at_snoc_at : (l : List Knowledge) (a b : Knowledge) (j : ℕ) → get_elem? (l ++ a ∷ []) j ≡ some b → (get_elem? l j ≡ some b) ⊎ ((j ≡ length l) × (a ≡ b))
at_snoc_at [] a b zero e = inr (refl, some-injective a b e)
at_snoc_at [] a b (suc j) e = absurd (some-ne-none b (sym e))
at_snoc_at (x ∷ xs) a b zero e = inl e
at_snoc_at (x ∷ xs) a b (suc j) e = ⊎_elim (λ (t : get_elem? xs j ≡ some b). inl t) (λ (t : (j ≡ length xs) × (a ≡ b)). inr (ap suc t.0, t.1)) (at_snoc_at xs a b j e)

pub apart_snoc : (vs : List Knowledge) (w : Knowledge) → AllApart vs → ((k : ℕ) (u : Knowledge) → get_elem? vs k ≡ some u → IsLive u.phase → AreApart w u) → AllApart (vs ++ w ∷ [])
apart_snoc vs w all mine j k a b at_j at_k ne la lb =
    ⊎_elim
    (λ (p : get_elem? vs j ≡ some a). ⊎_elim (λ (q : get_elem? vs k ≡ some b). all j k a b p q ne la lb)
    (λ (q : (k ≡ length vs) × (w ≡ b)). subst (AreApart a) q.1 (apart_sym w a (mine j a p la))) (at_snoc_at vs w b k at_k))
    (λ (p : (j ≡ length vs) × (w ≡ a)). ⊎_elim (λ (q : get_elem? vs k ≡ some b). subst (λ (x : Knowledge). AreApart x b) p.1 (mine k b q lb))
    (λ (q : (k ≡ length vs) × (w ≡ b)). absurd (ne (p.0 ∙ sym q.0))) (at_snoc_at vs w b k at_k))
    (at_snoc_at vs w a j at_j)

pub each_snoc_at : (P : ℕ → Knowledge → Type 0) (vs : List Knowledge) (w : Knowledge) → P (length vs) w → ((j : ℕ) (v : Knowledge) → get_elem? vs j ≡ some v → P j v) → (j : ℕ) (v : Knowledge) → get_elem? (vs ++ w ∷ []) j ≡ some v → P j v
each_snoc_at P vs w here others j v e = ⊎_elim (λ (t : get_elem? vs j ≡ some v). others j v t)
    (λ (t : (j ≡ length vs) × (w ≡ v)). subst (λ (x : ℕ × Knowledge). P x.0 x.1) (λ i. (sym t.0 i, t.1 i)) here) (at_snoc_at vs w v j e)

pub inside_views : (vs : List Knowledge) (i : ℕ) (a : Knowledge) → get_elem? vs i ≡ some a → i < length vs
inside_views [] i a e = absurd (some-ne-none a (sym e))
inside_views (y ∷ ys) zero a e = omega arith
inside_views (y ∷ ys) (suc i) a e = let t = inside_views ys i a e in omega arith

pub set_apart : (l : List Knowledge) (i j : ℕ) (a b : Knowledge) → i ≢ j → set (set l i a) j b ≡ set (set l j b) i a
set_apart [] i j a b ne = refl
set_apart (x ∷ xs) zero zero a b ne = absurd (ne refl)
set_apart (x ∷ xs) zero (suc j) a b ne = refl
set_apart (x ∷ xs) (suc i) zero a b ne = refl
set_apart (x ∷ xs) (suc i) (suc j) a b ne = λ k. x ∷ set_apart xs i j a b (λ e. ne (ap suc e)) k

pub longer_begins : (g h book : List Choice) → IsPrefix g book → IsPrefix h book → IsPrefix (longer g h) book
longer_begins g h book p q = by (nat_lt (length g) (length h))
  where
    by : (b : Bool) → IsPrefix (if b then h else g) book
    by true = q
    by false = p

-- the other passes are still there with their numbers where one's view changes
pub others_set : (vs : List Knowledge) (id : ℕ) (v w : Knowledge) → get_elem? vs id ≡ some v → IsLive w.phase → w.number ≡ v.number → (n : ℕ) → IsOther vs n → IsOther (set vs id w) n
others_set vs id v w at live same n o =
    dite (ℕ_discrete o.0 id)
    (λ (e : o.0 ≡ id). let is : v ≡ o.1 = some-injective v o.1 (sym at ∙ (ap (get_elem? vs) (sym e) ∙ o.2)) in
    (id, w, set_here vs id w (inside_views vs id v at), live, (λ f. o.4 (e ∙ f)), same ∙ (ap (λ (x : Knowledge). x.number) is ∙ o.5)))
    (λ ne. (o.0, o.1, set_else vs id o.0 w ne ∙ o.2, o.3, o.4, o.5))

-- and where one more comes
pub others_snoc : (vs : List Knowledge) (w : Knowledge) (n : ℕ) → IsOther vs n → IsOther (vs ++ w ∷ []) n
others_snoc vs w n o = (o.0, o.1, at_longer vs (w ∷ []) o.0 o.1 o.2, o.3, o.4, o.5)
