-- Readings one after the other, the second by what the first gave, and readings made into others.
use Rattle.std.proofs.Common.{◌≡◌, ℕ, ◌^◌, ◌<◌, List, [], ◌∷◌, ◌++◌, length, Ok, Err, refl, sym, ap, subst, ◌∙◌, append_assoc, inl, inr}
use Rattle.std.specs.Int.{w32}
use Rattle.slee_value.specs.Bytes.{spelled_u32}
use Rattle.slee_value.specs.Reading.{Fault, Part, ◌>>=◌, mapped, number_at}
use Rattle.slee_value.proofs.PartLemmas.{reads_u32}
use Rattle.slee_value.proofs.ReadLemmas.{AreBytes, bytes_append, bind_ok, bind_err, done, ok_is, not_both, fronts, Takes, Takes-then, IsStuckBy, ReadsBy}

-- the same reading, written otherwise
pub reads_same : {A : Type 0} (spell : A → List ℕ) (fits loose : A → Type 0) (read other : List ℕ → Part A) → ((bytes : List ℕ) → other bytes ≡ read bytes) → ReadsBy spell fits loose read → ReadsBy spell fits loose other
reads_same spell fits loose read other same reads = record {
  takes = λ bytes x h e. reads.takes bytes x h (sym (same bytes) ∙ e);
  again = λ x rest f. same (spell x ++ rest) ∙ reads.again x rest f;
  stuck = λ bytes f h e. reads.stuck bytes f h (sym (same bytes) ∙ e);
  some = reads.some;
  bytes = reads.bytes;
  loosen = reads.loosen;
}

-- the same, with what fits said otherwise
pub reads_refit : {A : Type 0} (spell : A → List ℕ) (fits loose fits' loose' : A → Type 0) (read : List ℕ → Part A) → ((x : A) → fits x → fits' x) → ((x : A) → fits' x → fits x) → ((x : A) → loose x → loose' x) → ReadsBy spell fits loose read → ReadsBy spell fits' loose' read
reads_refit spell fits loose fits' loose' read to from looser reads = record {
  takes = λ bytes x h e. (let t = reads.takes bytes x h e in (t.0, to x.0 t.1));
  again = λ x rest f. reads.again x rest (from x f);
  stuck = λ bytes f h e. (let s = reads.stuck bytes f h e in record {
    front = s.front;
    back = s.back;
    parts = s.parts;
    left_is = s.left_is;
    begins = (s.begins.0, s.begins.1, looser s.begins.0 s.begins.2, s.begins.3);
    ends = λ b more k q. s.ends b more k (q.0, q.1, from q.0 q.2, q.3);
  });
  some = (reads.some.0, reads.some.1, looser reads.some.0 reads.some.2, reads.some.3);
  bytes = λ x f. reads.bytes x (from x f);
  loosen = λ x f. looser x (reads.loosen x (from x f));
}

-- ---- what is read, made into something else

module _ {A B : Type 0} (make : A → B) (part : B → A) (spell : A → List ℕ) (fits loose : A → Type 0) (spell' : B → List ℕ) (fits' loose' : B → Type 0) (read : List ℕ → Part A)
    (spells : (x : A) → loose x → spell' (make x) ≡ spell x) (fit : (x : A) → fits x → fits' (make x)) (loosens : (x : A) → loose x → loose' (make x))
    (spells' : (y : B) → fits' y → spell (part y) ≡ spell' y) (fit' : (y : B) → fits' y → fits (part y)) (back : (y : B) → fits' y → make (part y) ≡ y)
    (reads : ReadsBy spell fits loose read) where
  abbrev made : A × List ℕ → Part B
  made p = Ok (make p.0, p.1)

  mapped_takes : (bytes : List ℕ) (x : B × List ℕ) → AreBytes bytes → mapped make read bytes ≡ Ok x → Takes bytes (spell' x.0) x.1 × fits' x.0
  mapped_takes bytes x h e =
      let b = bind_ok (read bytes) made x e in
      let t = reads.takes bytes b.0 h b.1 in
      subst (λ (z : B × List ℕ). Takes bytes (spell' z.0) z.1 × fits' z.0) (ok_is (make b.0.0, b.0.1) x b.2) (subst (λ (s : List ℕ). Takes bytes s b.0.1) (sym (spells b.0.0 (reads.loosen b.0.0 t.1))) t.0, fit b.0.0 t.1)

  mapped_stuck : (bytes : List ℕ) (f : Fault) → AreBytes bytes → mapped make read bytes ≡ Err f → IsStuckBy spell' fits' loose' bytes f.left
  mapped_stuck bytes f h e =
      elim (bind_err (read bytes) made f e) [
        | inl d ↦ (let s = reads.stuck bytes f h d in record {
          front = s.front;
          back = s.back;
          parts = s.parts;
          left_is = s.left_is;
          begins = (make s.begins.0, s.begins.1, loosens s.begins.0 s.begins.2, spells s.begins.0 s.begins.2 ∙ s.begins.3);
          ends = λ b more k q. s.ends b more k (part q.0, q.1, fit' q.0 q.2, spells' q.0 q.2 ∙ q.3);
        })
        | inr d ↦ absurd cc
      ]

  pub reads_made : ReadsBy spell' fits' loose' (mapped make read)
  reads_made = record {
    takes = mapped_takes;
    again = λ y rest f. ap (λ (s : List ℕ). mapped make read (s ++ rest)) (sym (spells' y f)) ∙ ap (λ (r : Part A). r >>= made) (reads.again (part y) rest (fit' y f)) ∙ ap (λ (z : B). Ok (z, rest)) (back y f);
    stuck = mapped_stuck;
    some = (make reads.some.0, reads.some.1, loosens reads.some.0 reads.some.2, spells reads.some.0 reads.some.2 ∙ reads.some.3);
    bytes = λ y f. subst AreBytes (spells' y f) (reads.bytes (part y) (fit' y f));
    loosen = λ y f. subst loose' (back y f) (loosens (part y) (reads.loosen (part y) (fit' y f)));
  }

-- ---- one part, and then another by its value

abbrev pub after : {A B : Type 0} → (List ℕ → Part A) → (A → List ℕ → Part B) → List ℕ → Part (A × B)
after first second bytes = first bytes >>= λ x. second x.0 x.1 >>= λ y. Ok ((x.0, y.0), y.1)

abbrev pub spell_after : {A B : Type 0} → (A → List ℕ) → (B → List ℕ) → A × B → List ℕ
spell_after one other p = one p.0 ++ other p.1

abbrev pub fits_after : {A B : Type 0} → (A → Type 0) → (A → B → Type 0) → A × B → Type 0
fits_after one other p = one p.0 × other p.0 p.1

module _ {A B : Type 0} (sa : A → List ℕ) (fa la : A → Type 0) (ra : List ℕ → Part A) (sb : B → List ℕ) (fb lb : A → B → Type 0) (rb : A → List ℕ → Part B) (one : ReadsBy sa fa la ra) (other : (x : A) → ReadsBy sb (fb x) (lb x) (rb x)) where
  abbrev second : A × List ℕ → Part (A × B)
  second x = rb x.0 x.1 >>= λ y. Ok ((x.0, y.0), y.1)

  after_takes : (bytes : List ℕ) (x : (A × B) × List ℕ) → AreBytes bytes → after ra rb bytes ≡ Ok x → Takes bytes (spell_after sa sb x.0) x.1 × fits_after fa fb x.0
  after_takes bytes x h e =
      let p = bind_ok (ra bytes) second x e in
      let q = bind_ok (rb p.0.0 p.0.1) (λ (y : B × List ℕ). Ok ((p.0.0, y.0), y.1)) x p.2 in
      let t = one.takes bytes p.0 h p.1 in
      let u = (other p.0.0).takes p.0.1 q.0 t.0.rest_bytes q.1 in
      subst (λ (z : (A × B) × List ℕ). Takes bytes (spell_after sa sb z.0) z.1 × fits_after fa fb z.0) (ok_is ((p.0.0, q.0.0), q.0.1) x q.2) (Takes-then bytes (sa p.0.0) p.0.1 (sb q.0.0) q.0.1 t.0 u.0, (t.1, u.1))

  after_again : (x : A × B) (rest : List ℕ) → fits_after fa fb x → after ra rb (spell_after sa sb x ++ rest) ≡ Ok (x, rest)
  after_again x rest f =
      ap (after ra rb) (append_assoc (sa x.0) (sb x.1) rest) ∙ ap (λ (r : Part A). r >>= second) (one.again x.0 (sb x.1 ++ rest) f.0) ∙ ap (λ (r : Part B). r >>= λ y. Ok ((x.0, y.0), y.1)) ((other x.0).again x.1 rest f.1)

  after_first : (bytes : List ℕ) (f : Fault) → AreBytes bytes → ra bytes ≡ Err f → IsStuckBy (spell_after sa sb) (fits_after fa fb) (fits_after la lb) bytes f.left
  after_first bytes f h e =
      let s = one.stuck bytes f h e in
      record {
        front = s.front;
        back = s.back;
        parts = s.parts;
        left_is = s.left_is;
        begins = (let y = (other s.begins.0).some in ((s.begins.0, y.0), s.begins.1 ++ sb y.0, (s.begins.2, y.2), ap (λ (t : List ℕ). t ++ sb y.0) s.begins.3 ∙ append_assoc s.front s.begins.1 (sb y.0)));
        ends = λ b more k q.
            elim (fronts (sa q.0.0) (sb q.0.1) (s.front ++ b ∷ []) q.1 q.3) [
              | inl r ↦ s.ends b more k (q.0.0, r.0, q.2.0, r.1)
              | inr r ↦ (
                  let whole : bytes ≡ sa q.0.0 ++ (r.0 ++ more) = s.parts ∙ ap (λ (t : List ℕ). s.front ++ t) k ∙ sym (append_assoc s.front (b ∷ []) more) ∙ ap (λ (t : List ℕ). t ++ more) r.1 ∙ append_assoc (sa q.0.0) r.0 more in
                  not_both (ra bytes) (q.0.0, r.0 ++ more) f (ap ra whole ∙ one.again q.0.0 (r.0 ++ more) q.2.0) e)
            ];
      }

  after_second : (bytes : List ℕ) (f : Fault) (x : A × List ℕ) → AreBytes bytes → ra bytes ≡ Ok x → rb x.0 x.1 ≡ Err f → IsStuckBy (spell_after sa sb) (fits_after fa fb) (fits_after la lb) bytes f.left
  after_second bytes f x h e d =
      let t = one.takes bytes x h e in
      let s = (other x.0).stuck x.1 f t.0.rest_bytes d in
      record {
        front = sa x.0 ++ s.front;
        back = s.back;
        parts = t.0.parts ∙ ap (λ (z : List ℕ). sa x.0 ++ z) s.parts ∙ sym (append_assoc (sa x.0) s.front s.back);
        left_is = s.left_is;
        begins = ((x.0, s.begins.0), s.begins.1, (one.loosen x.0 t.1, s.begins.2), ap (λ (z : List ℕ). sa x.0 ++ z) s.begins.3 ∙ sym (append_assoc (sa x.0) s.front s.begins.1));
        ends = λ b more k q.
            let split : sa q.0.0 ++ sb q.0.1 ≡ sa x.0 ++ ((s.front ++ b ∷ []) ++ q.1) = q.3 ∙ ap (λ (z : List ℕ). z ++ q.1) (append_assoc (sa x.0) s.front (b ∷ [])) ∙ append_assoc (sa x.0) (s.front ++ b ∷ []) q.1 in
            let both : done (q.0.0, sb q.0.1) ≡ done (x.0, (s.front ++ b ∷ []) ++ q.1) = sym (one.again q.0.0 (sb q.0.1) q.2.0) ∙ ap ra split ∙ one.again x.0 ((s.front ++ b ∷ []) ++ q.1) t.1 in
            let same = ok_is (q.0.0, sb q.0.1) (x.0, (s.front ++ b ∷ []) ++ q.1) both in
            s.ends b more k (q.0.1, q.1, subst (λ (z : A). fb z q.0.1) (ap (λ (z : A × List ℕ). z.0) same) q.2.1, ap (λ (z : A × List ℕ). z.1) same);
      }

  pub reads_after : ReadsBy (spell_after sa sb) (fits_after fa fb) (fits_after la lb) (after ra rb)
  reads_after = record {
    takes = after_takes;
    again = after_again;
    stuck = λ bytes f h e.
        elim (bind_err (ra bytes) second f e) [
          | inl d ↦ after_first bytes f h d
          | inr p ↦ (elim (bind_err (rb p.0.0 p.0.1) (λ (y : B × List ℕ). Ok ((p.0.0, y.0), y.1)) f p.2) [
            | inl d ↦ after_second bytes f p.0 h p.1 d
            | inr q ↦ absurd cc
          ])
        ];
    some = (let x = one.some in let y = (other x.0).some in ((x.0, y.0), sa x.0 ++ sb y.0, (x.2, y.2), refl));
    bytes = λ x f. bytes_append (sa x.0) (sb x.1) (one.bytes x.0 f.0) ((other x.0).bytes x.1 f.1);
    loosen = λ x f. (one.loosen x.0 f.0, (other x.0).loosen x.1 f.1);
  }

-- ---- lists

abbrev pub consed : {A : Type 0} → A → List A × List ℕ → Part (List A)
consed x y = Ok (x ∷ y.0, y.1)

abbrev pub paired : {A B : Type 0} → A → B × List ℕ → Part (A × B)
paired x y = Ok ((x, y.0), y.1)

abbrev pub joined : {A : Type 0} → (A × List A) × List ℕ → Part (List A)
joined p = Ok (p.0.0 ∷ p.0.1, p.1)

abbrev pub other_of : {A B : Type 0} → (A × B) × List ℕ → Part B
other_of p = Ok (p.0.1, p.1)

pub same_cons : {A : Type 0} (r : Part A) (g : A → List ℕ → Part (List A)) → (r >>= λ x. g x.0 x.1 >>= consed x.0) ≡ ((r >>= λ x. g x.0 x.1 >>= paired x.0) >>= joined)
same_cons (Err f) g = refl
same_cons {A} (Ok x) g = by (g x.0 x.1)
  where
    by : (s : Part (List A)) → (s >>= consed x.0) ≡ ((s >>= paired x.0) >>= joined)
    by (Ok y) = refl
    by (Err f) = refl

pub same_counted : {B : Type 0} (r : Part ℕ) (g : ℕ → List ℕ → Part B) → (r >>= λ x. g x.0 x.1) ≡ ((r >>= λ x. g x.0 x.1 >>= paired x.0) >>= other_of)
same_counted (Err f) g = refl
same_counted {B} (Ok x) g = by (g x.0 x.1)
  where
    by : (s : Part B) → s ≡ ((s >>= paired x.0) >>= other_of)
    by (Ok y) = refl
    by (Err f) = refl

-- a count, and a list of that length
module _ {A : Type 0} (spell : List A → List ℕ) (fits loose : List A → Type 0) (items : ℕ → List ℕ → Part (List A))
    (reads : (n : ℕ) → ReadsBy spell (λ xs. (length xs ≡ n) × fits xs) (λ xs. (length xs ≡ n) × loose xs) (items n)) where
  abbrev counted : List ℕ → Part (List A)
  counted bytes = number_at w32 bytes >>= λ n. items n.0 n.1

  counted_both : ReadsBy (spell_after spelled_u32 spell) (fits_after (λ n. n < 2 ^ 32) (λ n xs. (length xs ≡ n) × fits xs)) (fits_after (λ n. n < 2 ^ 32) (λ n xs. (length xs ≡ n) × loose xs)) (after (number_at w32) items)
  counted_both = reads_after spelled_u32 (λ n. n < 2 ^ 32) (λ n. n < 2 ^ 32) (number_at w32) spell (λ n xs. (length xs ≡ n) × fits xs) (λ n xs. (length xs ≡ n) × loose xs) items reads_u32 reads

  counted_list : ReadsBy (λ xs. spelled_u32 (length xs) ++ spell xs) (λ xs. (length xs < 2 ^ 32) × fits xs) (λ xs. (length xs < 2 ^ 32) × loose xs) (mapped (λ (p : ℕ × List A). p.1) (after (number_at w32) items))
  counted_list = reads_made (λ (p : ℕ × List A). p.1) (λ xs. (length xs, xs)) (spell_after spelled_u32 spell) (fits_after (λ n. n < 2 ^ 32) (λ n xs. (length xs ≡ n) × fits xs)) (fits_after (λ n. n < 2 ^ 32) (λ n xs. (length xs ≡ n) × loose xs))
      (λ xs. spelled_u32 (length xs) ++ spell xs) (λ xs. (length xs < 2 ^ 32) × fits xs) (λ xs. (length xs < 2 ^ 32) × loose xs) (after (number_at w32) items)
      (λ p f. ap (λ (n : ℕ). spelled_u32 n ++ spell p.1) f.1.0)
      (λ p f. (subst (λ (n : ℕ). n < 2 ^ 32) (sym f.1.0) f.0, f.1.1))
      (λ p f. (subst (λ (n : ℕ). n < 2 ^ 32) (sym f.1.0) f.0, f.1.1))
      (λ xs f. refl)
      (λ xs f. (f.0, (refl, f.1)))
      (λ xs f. refl)
      counted_both

  pub reads_counted : ReadsBy (λ xs. spelled_u32 (length xs) ++ spell xs) (λ xs. (length xs < 2 ^ 32) × fits xs) (λ xs. (length xs < 2 ^ 32) × loose xs) counted
  reads_counted = reads_same (λ xs. spelled_u32 (length xs) ++ spell xs) (λ xs. (length xs < 2 ^ 32) × fits xs) (λ xs. (length xs < 2 ^ 32) × loose xs) (mapped (λ (p : ℕ × List A). p.1) (after (number_at w32) items)) counted (λ bytes. same_counted (number_at w32 bytes) items) counted_list
