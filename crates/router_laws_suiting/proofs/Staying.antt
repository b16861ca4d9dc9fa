-- What lives in a run stays while effects remove only what stands behind it.
use Rattle.std.proofs.Common.{◌≡◌, ℕ, zero, suc, ◌+◌, ◌<◌, ◌==◌, ◌&&◌, Bool, true, false, not, List, [], ◌∷◌, ◌++◌, map, length, ℤ, refl, sym, ◌∙◌, ap, subst, inl, inr, arith, nat_lt}
use Rattle.std.specs.Prelude.{bytes_eq, cond, ◌⊎◌}
use Rattle.std.proofs.lemmas.Slice.Eq.{bytes_eq-Decides}
use Rattle.std.proofs.lemmas.Bool.{cases_Bool, eq-eqb, eqb-true, false≢true, lt-ltb}
use Rattle.std.proofs.lemmas.Bool.Decides.{nat_tests}
use Rattle.slee_effect.specs.declared.effect.Effect.{Effect}
use Rattle.slee_effect.specs.declared.effect.Effect.TheVariants as ef
use Rattle.slee_effect.specs.declared.reference.Ref.{Ref}
use Rattle.slee_effect.specs.declared.reference.Ref.TheVariants.{Known, Fresh}
use Rattle.script_meaning.specs.Overlay.{children_after, count_of, entities_by, is_before, is_removed, overlay_from, removes, same_ref}
use Rattle.router_laws.proofs.ForestLemmas.{in_either, in_left}
use Rattle.router_laws.proofs.ListRules.{append_joins, append_nil, filter_in, in_filter}
use Rattle.router_laws.specs.Forest.{IsIn}
use Rattle.router_laws_applying.proofs.Laid.{laid}
use Rattle.router_laws_applying.proofs.Trees.{child_parent, kid_row}
use Rattle.router_laws_applying.specs.Suited.{ChildrenAfter, Lives, LivesSomewhere, children_told}
use Rattle.router_laws_sound.proofs.SoundTrees.{parents_below}
use Rattle.router_laws_suiting.specs.Typed.{AllTyped, IsChildOf, IsKid, IsTyped, PathLives, RemovesBehind, frame}
use Rattle.router_state.specs.State.{State}
use Rattle.router_state.specs.Trees.{children_under}
use Rattle.router_state.specs.Well.{IsSound}

-- references in their order

pub same_turned : (a b : Ref) → same_ref a b ≡ same_ref b a
same_turned (Known a) (Known b) = turned a b
  where
    turned : (a b : ℕ) → (a == b) ≡ (b == a)
    turned a b = grind (arith, nat_tests)
same_turned (Known a) (Fresh b) = refl
same_turned (Fresh a) (Known b) = refl
same_turned (Fresh a) (Fresh b) = turned a b
  where
    turned : (a b : ℕ) → (a == b) ≡ (b == a)
    turned a b = grind (arith, nat_tests)

before_apart : (a b : Ref) → is_before a b ≡ true → same_ref b a ≡ false
before_apart (Known a) (Known b) is = apart a b is
  where
    apart : (a b : ℕ) → nat_lt a b ≡ true → (b == a) ≡ false
    apart a b is = grind (arith, nat_tests)
before_apart (Known a) (Fresh b) is = refl
before_apart (Fresh a) (Known b) is = absurd (false≢true is)
before_apart (Fresh a) (Fresh b) is = apart a b is
  where
    apart : (a b : ℕ) → nat_lt a b ≡ true → (b == a) ≡ false
    apart a b is = grind (arith, nat_tests)

less_through : (a b c : ℕ) → nat_lt a b ≡ true → nat_lt b c ≡ true → nat_lt a c ≡ true
less_through a b c one two = grind (arith, nat_tests)

pub before_through : (a b c : Ref) → is_before a b ≡ true → is_before b c ≡ true → is_before a c ≡ true
before_through (Known a) (Known b) (Known c) one two = less_through a b c one two
before_through (Known a) (Known b) (Fresh c) one two = refl
before_through (Known a) (Fresh b) (Known c) one two = absurd (false≢true two)
before_through (Known a) (Fresh b) (Fresh c) one two = refl
before_through (Fresh a) (Known b) c one two = absurd (false≢true one)
before_through (Fresh a) (Fresh b) (Known c) one two = absurd (false≢true two)
before_through (Fresh a) (Fresh b) (Fresh c) one two = less_through a b c one two

-- what one effect does to the children of a relation

-- a child stays where the effect doesn't remove it
stays_by : (p : Ref) (relation : List ℕ) (n : ℕ) (x : Effect) (c : Ref) (refs : List Ref) → IsIn c refs → removes c x ≡ false → IsIn c (children_after p relation n x refs)
stays_by p relation n (ef.Create parent other priority) c refs there stays = created (same_ref parent p && bytes_eq other relation)
  where
    created : (b : Bool) → IsIn c (cond b (refs ++ Fresh n ∷ []) refs)
    created true = in_left c refs (Fresh n ∷ []) there
    created false = there
stays_by p relation n (ef.Remove entity) c refs there stays = filter_in (λ r. not (same_ref r entity)) c refs there (ap not (same_turned c entity ∙ stays))
stays_by p relation n (ef.SetField entity name value) c refs there stays = there
stays_by p relation n (ef.SetAttr activity key value) c refs there stays = there
stays_by p relation n (ef.SetPriority entity priority) c refs there stays = there
stays_by p relation n (ef.Attach entity activity) c refs there stays = there
stays_by p relation n (ef.Detach entity activity) c refs there stays = there
stays_by p relation n (ef.SetMask entity activity event on) c refs there stays = there
stays_by p relation n (ef.Fire activity event service fields) c refs there stays = there
stays_by p relation n ef.NewNull c refs there stays = there
stays_by p relation n (ef.EndNull activity) c refs there stays = there
stays_by p relation n (ef.SetTimer activity start period times keep) c refs there stays = there
stays_by p relation n (ef.CancelTimer timer) c refs there stays = there
stays_by p relation n (ef.Bind name activity) c refs there stays = there
stays_by p relation n (ef.Unbind name) c refs there stays = there
stays_by p relation n (ef.Emit entity text) c refs there stays = there
stays_by p relation n (ef.Usage entity name amount) c refs there stays = there
stays_by p relation n (ef.Suspend activity until) c refs there stays = there
stays_by p relation n (ef.Resume activity) c refs there stays = there

-- a child was there, or is the new one of that parent
came_by : (p : Ref) (relation : List ℕ) (n : ℕ) (x : Effect) (c : Ref) (refs : List Ref) → IsIn c (children_after p relation n x refs)
    → IsIn c refs ⊎ ((parent : Ref) × (other : List ℕ) × (priority : ℤ) × (x ≡ ef.Create parent other priority) × (same_ref parent p ≡ true) × (c ≡ Fresh n))
came_by p relation n (ef.Create parent other priority) c refs there = elim (cases_Bool (same_ref parent p)) [
  | inl mine ↦ elim (cases_Bool (bytes_eq other relation)) [
    | inl same ↦ (let here : IsIn c (refs ++ Fresh n ∷ []) = rw (mine, same) at there in elim (in_either c refs (Fresh n ∷ []) here) [
      | inl old ↦ inl old
      | inr new ↦ elim new [
        | inl is ↦ inr (parent, other, priority, refl, mine, is)
        | inr none ↦ absurd none
      ]
    ])
    | inr another ↦ inl (rw (mine, another) at there)
  ]
  | inr another ↦ inl (rw another at there)
]
came_by p relation n (ef.Remove entity) c refs there = inl (in_filter (λ r. not (same_ref r entity)) c refs there).0
came_by p relation n (ef.SetField entity name value) c refs there = inl there
came_by p relation n (ef.SetAttr activity key value) c refs there = inl there
came_by p relation n (ef.SetPriority entity priority) c refs there = inl there
came_by p relation n (ef.Attach entity activity) c refs there = inl there
came_by p relation n (ef.Detach entity activity) c refs there = inl there
came_by p relation n (ef.SetMask entity activity event on) c refs there = inl there
came_by p relation n (ef.Fire activity event service fields) c refs there = inl there
came_by p relation n ef.NewNull c refs there = inl there
came_by p relation n (ef.EndNull activity) c refs there = inl there
came_by p relation n (ef.SetTimer activity start period times keep) c refs there = inl there
came_by p relation n (ef.CancelTimer timer) c refs there = inl there
came_by p relation n (ef.Bind name activity) c refs there = inl there
came_by p relation n (ef.Unbind name) c refs there = inl there
came_by p relation n (ef.Emit entity text) c refs there = inl there
came_by p relation n (ef.Usage entity name amount) c refs there = inl there
came_by p relation n (ef.Suspend activity until) c refs there = inl there
came_by p relation n (ef.Resume activity) c refs there = inl there

-- the number of a new entity is below that of those that were made

fresh_by : (p : Ref) (relation : List ℕ) (n j : ℕ) (x : Effect) (refs : List Ref) → (IsIn (Fresh j) refs → j < n) → IsIn (Fresh j) (children_after p relation n x refs) → j < n + entities_by x
fresh_by p relation n j x refs was there = elim (came_by p relation n x (Fresh j) refs there) [
  | inl old ↦ more n j (entities_by x) (was old)
  | inr new ↦ own new.0 new.1 new.2 new.3 (same_fresh new.5)
]
  where
    more : (n j k : ℕ) → j < n → j < n + k
    more n j k less = omega (arith, less)

    same_fresh : {a b : ℕ} → Fresh a ≡ Fresh b → a ≡ b
    same_fresh same = cc

    own : (parent : Ref) (other : List ℕ) (priority : ℤ) → x ≡ ef.Create parent other priority → j ≡ n → j < n + entities_by x
    own parent other priority is same = let one : entities_by x ≡ 1 = ap entities_by is in omega (arith, same, one)

fresh_from : (p : Ref) (relation : List ℕ) (n j : ℕ) (es : List Effect) (refs : List Ref) → (IsIn (Fresh j) refs → j < n) → IsIn (Fresh j) (overlay_from entities_by (children_after p relation) n es refs) → j < n + count_of entities_by es
fresh_from p relation n j [] refs was there = let less = was there in omega (arith, less)
fresh_from p relation n j (x ∷ es) refs was there =
    let less = fresh_from p relation (n + entities_by x) j es (children_after p relation n x refs) (fresh_by p relation n j x refs was) there in omega (arith, less)

none_told : (s : State) (p : Ref) (relation : List ℕ) (j : ℕ) → IsIn (Fresh j) (children_told s p relation) → ⊥
none_told s (Known n) relation j there = never (children_under s.entities n relation) there
  where
    known : {a b : ℕ} → Fresh a ≡ Known b → ⊥
    known is = absurd (cc)

    never : (xs : List ℕ) → IsIn (Fresh j) (map Known xs) → ⊥
    never [] there = there
    never (x ∷ xs) (inl is) = known is
    never (x ∷ xs) (inr more) = never xs more
none_told s (Fresh n) relation j there = there

fresh_child : (s : State) (es : List Effect) (p : Ref) (relation : List ℕ) (j : ℕ) → IsIn (Fresh j) (ChildrenAfter s es p relation) → j < count_of entities_by es
fresh_child s es p relation j there = let less = fresh_from p relation 0 j es (children_told s p relation) (λ told. absurd (none_told s p relation j told)) there in omega (arith, less)

-- what lives and is new was made before
pub fresh_lives : (s : State) (me own : ℕ) (es : List Effect) (n block j : ℕ) → Lives s me own es n block (Fresh j) → j < count_of entities_by es
fresh_lives s me own es zero block j lives = absurd (known lives.0)
  where
    known : Fresh j ≡ Known me → ⊥
    known is = absurd (cc)
fresh_lives s me own es (suc n) block j lives = fresh_child s es lives.0 lives.2 j lives.7

-- a child stands behind its parent

in_known : (c : Ref) (xs : List ℕ) → IsIn c (map Known xs) → (k : ℕ) × IsIn k xs × (c ≡ Known k)
in_known c [] there = absurd there
in_known c (x ∷ xs) (inl is) = (x, inl refl, is)
in_known c (x ∷ xs) (inr more) = let found = in_known c xs more in (found.0, inr found.1, found.2)

told_behind : (s : State) (p : Ref) (relation : List ℕ) (c : Ref) → IsSound s → IsIn c (children_told s p relation) → is_before p c ≡ true
told_behind s (Known n) relation c sound there =
    let found = in_known c (children_under s.entities n relation) there in
    let kid = kid_row s.entities n relation found.0 found.1 in
    let less = parents_below s.deployment s.entities s.next_entity sound.entities kid.0 kid.1 in
    subst (λ r. is_before (Known n) r ≡ true) (sym found.2) (lt-ltb n found.0 (least (child_parent n relation kid.0.stem kid.3) kid.2 less))
  where
    least : {a b k : ℕ} → a ≡ n → b ≡ k → a < b → n < k
    least one two less = omega (arith, one, two, less)
told_behind s (Fresh n) relation c sound there = absurd there

module _ (s : State) (me own a : ℕ) (sound : IsSound s) where
  new_behind : (before : List Effect) (x : Effect) (p c : Ref) (parent : Ref) (other : List ℕ) (priority : ℤ) → IsTyped s me own a before x → x ≡ ef.Create parent other priority → same_ref parent p ≡ true → c ≡ Fresh (count_of entities_by before) → is_before p c ≡ true
  new_behind before x p c parent other priority typed is mine new = subst (λ r. is_before p r ≡ true) (sym new) (by parent p lives mine)
    where
      lives : (block : ℕ) × LivesSomewhere s me own before block parent
      lives = let made = subst (λ y. IsTyped s me own a before y) is typed in (made.0, made.1)

      by : (parent p : Ref) → ((block : ℕ) × LivesSomewhere s me own before block parent) → same_ref parent p ≡ true → is_before p (Fresh (count_of entities_by before)) ≡ true
      by parent (Known n) lives mine = refl
      by (Known m) (Fresh n) lives mine = absurd (false≢true mine)
      by (Fresh m) (Fresh n) lives mine = lt-ltb n (count_of entities_by before) (least (eqb-true m n mine) (fresh_lives s me own before lives.1.0 lives.0 m lives.1.1))
        where
          least : {m n k : ℕ} → m ≡ n → m < k → n < k
          least same less = omega (arith, same, less)

  behind_from : (before es : List Effect) (p : Ref) (relation : List ℕ) (c : Ref) → AllTyped s me own a before es → (IsIn c (ChildrenAfter s before p relation) → is_before p c ≡ true) → IsIn c (ChildrenAfter s (before ++ es) p relation) → is_before p c ≡ true
  behind_from before [] p relation c typed was there = was (subst (λ es. IsIn c (ChildrenAfter s es p relation)) (append_nil before) there)
  behind_from before (x ∷ es) p relation c typed was there =
      behind_from (before ++ x ∷ []) es p relation c typed.1 one (subst (λ es. IsIn c (ChildrenAfter s es p relation)) (sym (append_joins before (x ∷ []) es)) there)
    where
      one : IsIn c (ChildrenAfter s (before ++ x ∷ []) p relation) → is_before p c ≡ true
      one here = elim (came_by p relation (count_of entities_by before) x c (ChildrenAfter s before p relation) (subst (λ refs. IsIn c refs) (laid entities_by (children_after p relation) before x (children_told s p relation)) here)) [
        | inl old ↦ was old
        | inr new ↦ new_behind before x p c new.0 new.1 new.2 typed.0 new.3 new.4 new.5
      ]

  -- a child of an entity stands behind it
  pub child_behind : (es : List Effect) (p : Ref) (relation : List ℕ) (c : Ref) → AllTyped s me own a [] es → IsIn c (ChildrenAfter s es p relation) → is_before p c ≡ true
  child_behind es p relation c typed there = behind_from [] es p relation c typed (told_behind s p relation c sound) there

  -- children and callers, one effect later

  child_stays : (es : List Effect) (x : Effect) (p : Ref) (relation : List ℕ) (c : Ref) → IsIn c (ChildrenAfter s es p relation) → removes c x ≡ false → IsIn c (ChildrenAfter s (es ++ x ∷ []) p relation)
  child_stays es x p relation c there stays =
      subst (λ refs. IsIn c refs) (sym (laid entities_by (children_after p relation) es x (children_told s p relation))) (stays_by p relation (count_of entities_by es) x c (ChildrenAfter s es p relation) there stays)

  not_removed : (c : Ref) (x : Effect) → RemovesBehind c x → removes c x ≡ false
  not_removed c (ef.Remove r) behind = before_apart c r (behind r refl)
  not_removed c (ef.SetField entity name value) behind = refl
  not_removed c (ef.SetAttr activity key value) behind = refl
  not_removed c (ef.SetPriority entity priority) behind = refl
  not_removed c (ef.Attach entity activity) behind = refl
  not_removed c (ef.Detach entity activity) behind = refl
  not_removed c (ef.SetMask entity activity event on) behind = refl
  not_removed c (ef.Fire activity event service fields) behind = refl
  not_removed c ef.NewNull behind = refl
  not_removed c (ef.EndNull activity) behind = refl
  not_removed c (ef.SetTimer activity start period times keep) behind = refl
  not_removed c (ef.CancelTimer timer) behind = refl
  not_removed c (ef.Bind name activity) behind = refl
  not_removed c (ef.Unbind name) behind = refl
  not_removed c (ef.Emit entity text) behind = refl
  not_removed c (ef.Usage entity name amount) behind = refl
  not_removed c (ef.Suspend activity until) behind = refl
  not_removed c (ef.Resume activity) behind = refl
  not_removed c (ef.Create parent other priority) behind = refl

  pub path_stays : (es : List Effect) (x : Effect) (path : List (ℕ × Ref)) → AllTyped s me own a [] es → PathLives s me own es path → RemovesBehind (frame me own path).1 x → PathLives s me own (es ++ x ∷ []) path
  path_stays es x [] typed lives behind = tt
  path_stays es x (one ∷ path) typed lives behind =
      let kid = lives.0 in
      let up = child_behind es (frame me own path).1 kid.0 one.1 typed kid.4 in (
        (kid.0, kid.1, kid.2, kid.3, child_stays es x (frame me own path).1 kid.0 one.1 kid.4 (not_removed one.1 x behind)),
        path_stays es x path typed lives.1 (λ r is. before_through (frame me own path).1 one.1 r up (behind r is)),
      )

  pub kid_stays : (es : List Effect) (x : Effect) (b : ℕ) (p : Ref) (block : ℕ) (c : Ref) → IsKid s es b p block c → IsKid s (es ++ x ∷ []) b p block c
  kid_stays es x b p block c (inr gone) = inr (gone_left es gone)
    where
      gone_left : (es : List Effect) → is_removed c es ≡ true → is_removed c (es ++ x ∷ []) ≡ true
      gone_left [] is = absurd (false≢true is)
      gone_left (y ∷ es) is = elim (cases_Bool (removes c y)) [
        | inl now ↦ rw now refl
        | inr later ↦ rw later (gone_left es (rw later at is))
      ]
  kid_stays es x b p block c (inl kid) = elim (cases_Bool (removes c x)) [
    | inl now ↦ inr (gone_last es now)
    | inr later ↦ inl (kid.0, kid.1, kid.2, kid.3, child_stays es x p kid.0 c kid.4 later)
  ]
    where
      gone_last : (es : List Effect) → removes c x ≡ true → is_removed c (es ++ x ∷ []) ≡ true
      gone_last [] now = rw now refl
      gone_last (y ∷ es) now = elim (cases_Bool (removes c y)) [
        | inl is ↦ rw is refl
        | inr isnt ↦ rw isnt (gone_last es now)
      ]

same_itself : (r : Ref) → same_ref r r ≡ true
same_itself (Known n) = eq-eqb n n refl
same_itself (Fresh n) = eq-eqb n n refl

-- a new child is one of its parent
pub new_kid : (s : State) (es : List Effect) (p : Ref) (relation : List ℕ) (priority : ℤ) → IsIn (Fresh (count_of entities_by es)) (ChildrenAfter s (es ++ ef.Create p relation priority ∷ []) p relation)
new_kid s es p relation priority = subst (λ refs. IsIn (Fresh (count_of entities_by es)) refs) (sym (laid entities_by (children_after p relation) es (ef.Create p relation priority) (children_told s p relation))) (rw (same_itself p, (bytes_eq-Decides relation relation).1 refl) (in_last (ChildrenAfter s es p relation)))
  where
    in_last : (refs : List Ref) → IsIn (Fresh (count_of entities_by es)) (refs ++ Fresh (count_of entities_by es) ∷ [])
    in_last [] = inl refl
    in_last (r ∷ refs) = inr (in_last refs)

-- who is called lives so many generations below the one that received the event
pub path_lives : (s : State) (me own : ℕ) (es : List Effect) (path : List (ℕ × Ref)) → PathLives s me own es path → Lives s me own es (length path) (frame me own path).0 (frame me own path).1
path_lives s me own es [] lives = (refl, refl)
path_lives s me own es (x ∷ path) lives = let kid = lives.0 in ((frame me own path).1, (frame me own path).0, kid.0, kid.1, path_lives s me own es path lives.1, kid.2, kid.3, kid.4)

pub child_lives : (s : State) (me own : ℕ) (es : List Effect) (path : List (ℕ × Ref)) (block : ℕ) (c : Ref) → PathLives s me own es path → IsChildOf s es (frame me own path).0 (frame me own path).1 block c → Lives s me own es (suc (length path)) block c
child_lives s me own es path block c lives kid = path_lives s me own es ((block, c) ∷ path) (kid, lives)
