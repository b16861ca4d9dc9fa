-- Lists of numbers, which rise: what stands in them, and that two have none in common.
use Rattle.std.proofs.Common.{◌≡◌, ◌≢◌, ◌⊎◌, ℕ, zero, suc, ◌+◌, ◌<◌, ◌≤◌, nat_lt, ◌==◌, if◌then◌else◌, Bool, true, false, List, [], ◌∷◌, ◌++◌, refl, sym, ◌∙◌, subst, inl, inr, ⊎_elim, arith, ltb-true, ltb-false, eqb-true, true≢false, eq-eqb}
use Rattle.slee_turn.specs.Numbers.{IsAmong, AreDisjoint, RisesAfter, Rises, AreUpTo, numbers_after, put_in, merged, without}

-- a number of a rising list is above its bound
pub above : (b x : ℕ) (ys : List ℕ) → RisesAfter b ys → IsAmong x ys → b < x
above b x [] r a = absurd a
above b x (y ∷ ys) r a =
    let h : b < y = r.0 in
    ⊎_elim (λ (e : x ≡ y). let e' : x ≡ y = e in let t : b < x = omega arith in t) (λ (t : IsAmong x ys). let u : y < x = above y x ys r.1 t in let w : b < x = omega arith in w) a

pub lower : (a b : ℕ) (xs : List ℕ) → a ≤ b → RisesAfter b xs → RisesAfter a xs
lower a b [] le r = tt
lower a b (x ∷ xs) le r = let h : b < x = r.0 in (omega arith, r.1)

pub among_append : (x : ℕ) (ys zs : List ℕ) → IsAmong x (ys ++ zs) → IsAmong x ys ⊎ IsAmong x zs
among_append x [] zs a = inr a
among_append x (y ∷ ys) zs a = ⊎_elim (λ (e : x ≡ y). inl (inl e)) (λ (t : IsAmong x (ys ++ zs)). ⊎_elim (λ (u : IsAmong x ys). inl (inr u)) (λ (u : IsAmong x zs). inr u) (among_append x ys zs t)) a

pub among_after : (n k x : ℕ) → IsAmong x (numbers_after n k) → (n < x) × (x ≤ n + k)
among_after n zero x a = absurd a
among_after n (suc k) x a =
    ⊎_elim (λ (e : x ≡ suc n). let e' : x ≡ suc n = e in let t : (n < x) × (x ≤ n + suc k) = (omega arith, omega arith) in t)
    (λ (t : IsAmong x (numbers_after (suc n) k)). let u = among_after (suc n) k x t in let p : suc n < x = u.0 in let q : x ≤ suc n + k = u.1 in let w : (n < x) × (x ≤ n + suc k) = (omega arith, omega arith) in w) a

pub after_rises : (n k : ℕ) → RisesAfter n (numbers_after n k)
after_rises n zero = tt
after_rises n (suc k) = (omega arith, after_rises (suc n) k)

-- a rising list of numbers up to n, and then the k numbers_after n
pub rises_append : (b n k : ℕ) (xs : List ℕ) → b ≤ n → RisesAfter b xs → AreUpTo n xs → RisesAfter b (xs ++ numbers_after n k)
rises_append b n k [] le r m = lower b n (numbers_after n k) le (after_rises n k)
rises_append b n k (x ∷ xs) le r m = (r.0, rises_append x n k xs (m x (inl refl)) r.1 (λ y a. m y (inr a)))

by_cond : (P : List ℕ → Type 0) (b : Bool) (u w : List ℕ) → (b ≡ true → P u) → (b ≡ false → P w) → P (if b then u else w)
by_cond P true u w f g = f refl
by_cond P false u w f g = g refl

pub among_put_in : (z x : ℕ) (ys : List ℕ) → IsAmong z (put_in x ys) → (z ≡ x) ⊎ IsAmong z ys
among_put_in z x [] a = ⊎_elim (λ (e : z ≡ x). inl e) (λ (t : ⊥). absurd t) a
among_put_in z x (y ∷ ys) a =
    by_cond (λ l. IsAmong z l → (z ≡ x) ⊎ IsAmong z (y ∷ ys)) (nat_lt x y) (x ∷ y ∷ ys) (y ∷ put_in x ys)
    (λ _ b. b)
    (λ _ b. ⊎_elim (λ (e : z ≡ y). inr (inl e)) (λ (t : IsAmong z (put_in x ys)). ⊎_elim (λ (e : z ≡ x). inl e) (λ (u : IsAmong z ys). inr (inr u)) (among_put_in z x ys t)) b)
    a

pub put_in_among : (z x : ℕ) (ys : List ℕ) → (z ≡ x) ⊎ IsAmong z ys → IsAmong z (put_in x ys)
put_in_among z x [] a = a
put_in_among z x (y ∷ ys) a =
    by_cond (λ l. (z ≡ x) ⊎ IsAmong z (y ∷ ys) → IsAmong z l) (nat_lt x y) (x ∷ y ∷ ys) (y ∷ put_in x ys)
    (λ _ b. b)
    (λ _ b. ⊎_elim (λ (e : z ≡ x). inr (put_in_among z x ys (inl e))) (λ (t : IsAmong z (y ∷ ys)). ⊎_elim (λ (e : z ≡ y). inl e) (λ (u : IsAmong z ys). inr (put_in_among z x ys (inr u))) t) b)
    a

pub put_in_rises : (b x : ℕ) (ys : List ℕ) → b < x → RisesAfter b ys → (IsAmong x ys → ⊥) → RisesAfter b (put_in x ys)
put_in_rises b x [] lt r never = (lt, tt)
put_in_rises b x (y ∷ ys) lt r never =
    by_cond (RisesAfter b) (nat_lt x y) (x ∷ y ∷ ys) (y ∷ put_in x ys)
    (λ is. (lt, (ltb-true x y is, r.1)))
    (λ is. let le : y ≤ x = ltb-false x y is in let ne : x ≢ y = λ e. never (inl e) in let below : y < x = omega arith in (r.0, put_in_rises y x ys below r.1 (λ a. never (inr a))))

pub among_merged : (z : ℕ) (xs ys : List ℕ) → IsAmong z (merged xs ys) → IsAmong z xs ⊎ IsAmong z ys
among_merged z xs [] a = inl a
among_merged z xs (y ∷ ys) a =
    ⊎_elim (λ (e : z ≡ y). inr (inl e)) (λ (t : IsAmong z (merged xs ys)). ⊎_elim (λ (u : IsAmong z xs). inl u) (λ (u : IsAmong z ys). inr (inr u)) (among_merged z xs ys t)) (among_put_in z y (merged xs ys) a)

pub merged_among : (z : ℕ) (xs ys : List ℕ) → IsAmong z xs ⊎ IsAmong z ys → IsAmong z (merged xs ys)
merged_among z xs [] a = ⊎_elim (λ (t : IsAmong z xs). t) (λ (t : ⊥). absurd t) a
merged_among z xs (y ∷ ys) a =
    put_in_among z y (merged xs ys)
    (⊎_elim (λ (t : IsAmong z xs). inr (merged_among z xs ys (inl t))) (λ (t : IsAmong z (y ∷ ys)). ⊎_elim (λ (e : z ≡ y). inl e) (λ (u : IsAmong z ys). inr (merged_among z xs ys (inr u))) t) a)

pub merged_rises : (c : ℕ) (xs ys : List ℕ) → Rises xs → RisesAfter c ys → AreDisjoint xs ys → Rises (merged xs ys)
merged_rises c xs [] r s never = r
merged_rises c xs (y ∷ ys) r s never =
    let pos : c < y = s.0 in
    put_in_rises 0 y (merged xs ys) (omega arith) (merged_rises y xs ys r s.1 (λ z p q. never z p (inr q)))
    (λ a. ⊎_elim (λ (t : IsAmong y xs). never y t (inl refl)) (λ (t : IsAmong y ys). let u : y < y = above y y ys s.1 t in absurd (omega arith)) (among_merged y xs ys a))

pub without_among : (x z : ℕ) (ys : List ℕ) → z ≢ x → IsAmong z ys → IsAmong z (without x ys)
without_among x z [] ne a = a
without_among x z (y ∷ ys) ne a =
    by_cond (λ l. IsAmong z (y ∷ ys) → IsAmong z l) (x == y) (without x ys) (y ∷ without x ys)
    (λ is b. ⊎_elim (λ (e : z ≡ y). absurd (ne (e ∙ sym (eqb-true x y is)))) (λ (t : IsAmong z ys). without_among x z ys ne t) b)
    (λ is b. ⊎_elim (λ (e : z ≡ y). inl e) (λ (t : IsAmong z ys). inr (without_among x z ys ne t)) b)
    a

-- a number of the list without x is another, of the list
pub among_without : (x z : ℕ) (ys : List ℕ) → IsAmong z (without x ys) → (z ≢ x) × IsAmong z ys
among_without x z [] a = absurd a
among_without x z (y ∷ ys) a =
    by_cond (λ l. IsAmong z l → (z ≢ x) × IsAmong z (y ∷ ys)) (x == y) (without x ys) (y ∷ without x ys)
    (λ is b. let t = among_without x z ys b in (t.0, inr t.1))
    (λ is b. ⊎_elim (λ (e : z ≡ y). ((λ (f : z ≡ x). ne_of_false x y is (sym f ∙ e)), inl e)) (λ (t : IsAmong z (without x ys)). let u = among_without x z ys t in (u.0, inr u.1)) b)
    a
  where
    ne_of_false : (i j : ℕ) → (i == j) ≡ false → i ≢ j
    ne_of_false i j is e = true≢false (sym (eq-eqb i j e) ∙ is)

put_in_rest : (b x : ℕ) (ys : List ℕ) → RisesAfter b (put_in x ys) → RisesAfter b ys
put_in_rest b x [] r = tt
put_in_rest b x (y ∷ ys) r =
    by_cond (λ l. RisesAfter b l → RisesAfter b (y ∷ ys)) (nat_lt x y) (x ∷ y ∷ ys) (y ∷ put_in x ys)
    (λ is q. let p : b < x = q.0 in let s : x < y = q.1.0 in (omega arith, q.1.1))
    (λ is q. (q.0, put_in_rest y x ys q.1))
    r

put_in_apart : (b x : ℕ) (ys : List ℕ) → RisesAfter b (put_in x ys) → IsAmong x ys → ⊥
put_in_apart b x [] r a = a
put_in_apart b x (y ∷ ys) r a =
    by_cond (λ l. RisesAfter b l → ⊥) (nat_lt x y) (x ∷ y ∷ ys) (y ∷ put_in x ys)
    (λ is q. let t : x < x = above x x (y ∷ ys) q.1 a in absurd (omega arith))
    (λ is q. ⊎_elim (λ (e : x ≡ y). let e' : x ≡ y = e in let t : y < x = above y x (put_in x ys) q.1 (put_in_among x x ys (inl refl)) in absurd (omega arith))
    (λ (t : IsAmong x ys). put_in_apart y x ys q.1 t) a)
    r

-- two lists of which the numbers of both rise have none in common
pub merged_apart : (xs ys : List ℕ) → Rises (merged xs ys) → AreDisjoint xs ys
merged_apart xs [] r z a b = absurd b
merged_apart xs (y ∷ ys) r z a b =
    ⊎_elim (λ (e : z ≡ y). put_in_apart 0 y (merged xs ys) r (merged_among y xs ys (inl (subst (λ w. IsAmong w xs) e a))))
    (λ (t : IsAmong z ys). merged_apart xs ys (put_in_rest 0 y (merged xs ys) r) z a t) b
