-- The fields of an event that is fired: given each once, they stand as the event declares them.
use Rattle.std.proofs.Common.{◌≡◌, ℕ, Bool, true, false, ◌||◌, List, [], ◌∷◌, map, Some, None, refl, sym, ap, ◌∙◌, subst, inl, inr, Less, Equal, Greater}
use Rattle.std.specs.Prelude.{bytes_eq, cond}
use Rattle.std.specs.List.{AllByRecursion, list_any}
use Rattle.std.specs.Ordering.{is_eq, is_lt, ordering_reverse}
use Rattle.std.specs.declared.cmp.Ordering.{Ordering}
use Rattle.std.proofs.lemmas.Bool.{and_parts, cases_Bool, false≢true}
use Rattle.std.proofs.lemmas.Cmp.{nat_list_cmp_total}
use Rattle.std.proofs.lemmas.Map.Text.{is_eq-slice_cmp}
use Rattle.std.proofs.lemmas.Slice.Eq.{bytes_eq-Decides}
use Rattle.slee_value.specs.Order.{byte_order, is_below, names_of, rises}
use Rattle.slee_value.specs.declared.kind.Kind.{Kind}
use Rattle.slee_effect.specs.declared.value.Val.{Val}
use Rattle.script_meaning.specs.Answers.{is_of}
use Rattle.script_meaning.specs.Doing.{put_field}
use Rattle.script_types.specs.Codes.{kind_in}
use Rattle.script_types.specs.declared.codes.FieldCode.{FieldCode}
use Rattle.router_laws.proofs.OrderLemmas.{below_joins}
use Rattle.router_laws.specs.Forest.{IsIn}
use Rattle.router_laws_suiting.specs.Typed.{FieldsTyped}

-- the order of names

turned : (o : Ordering) → is_lt (ordering_reverse o) ≡ false → is_eq (ordering_reverse o) ≡ false → is_lt o ≡ true
turned Less low other = refl
turned Equal low other = cc
turned Greater low other = cc

-- a name that is neither below another nor the same is above it
above : (x y : List ℕ) → is_below x y ≡ false → bytes_eq x y ≡ false → is_below y x ≡ true
above x y low other =
    let same : byte_order x y ≡ ordering_reverse (byte_order y x) = nat_list_cmp_total.antisymm x y in
    turned (byte_order y x) (ap is_lt (sym same) ∙ low) (ap is_eq (sym same) ∙ is_eq-slice_cmp x y ∙ other)

not_itself : (x : List ℕ) → is_below x x ≡ true → ⊥
not_itself x low = by (byte_order x x) (is_eq-slice_cmp x x ∙ (bytes_eq-Decides x x).1 refl) low
  where
    by : (o : Ordering) → is_eq o ≡ true → is_lt o ≡ true → ⊥
    by Less same low = absurd (false≢true same)
    by Equal same low = absurd (false≢true low)
    by Greater same low = absurd (false≢true same)

below_apart : (x y : List ℕ) → is_below x y ≡ true → bytes_eq x y ≡ false
below_apart x y low = elim (cases_Bool (bytes_eq x y)) [
  | inl same ↦ absurd (not_itself y (subst (λ z. is_below z y ≡ true) ((bytes_eq-Decides x y).0 same) low))
  | inr other ↦ other
]

pub all_map : {A : Type 0} (P Q : A → Type 0) (xs : List A) → ((x : A) → P x → Q x) → AllByRecursion P xs → AllByRecursion Q xs
all_map P Q [] go all = tt
all_map P Q (x ∷ xs) go all = (go x all.0, all_map P Q xs go all.1)

-- fields put in their places

-- each name comes before all behind it
abbrev pub Ordered : List (List ℕ × Val) → Type 0
Ordered [] = Unit {0}
Ordered (x ∷ xs) = AllByRecursion (λ (y : List ℕ × Val). is_below x.0 y.0 ≡ true) xs × Ordered xs

-- the field is declared, with a value of its kind
abbrev pub FieldIs : List FieldCode → List ℕ × Val → Type 0
FieldIs declared f = (kind : Kind) × (kind_in f.0 declared ≡ Some kind) × (is_of kind f.1 ≡ true)

pub put_all : (P : List ℕ × Val → Type 0) (x : List ℕ × Val) (ys : List (List ℕ × Val)) → P x → AllByRecursion P ys → AllByRecursion P (put_field x ys)
put_all P x [] one all = (one, tt)
put_all P x (y ∷ ys) one all = by (is_below x.0 y.0) (put_all P x ys one all.1)
  where
    by : (b : Bool) → AllByRecursion P (put_field x ys) → AllByRecursion P (cond b (x ∷ y ∷ ys) (y ∷ put_field x ys))
    by true more = (one, all)
    by false more = (all.0, more)

pub put_ordered : (x : List ℕ × Val) (ys : List (List ℕ × Val)) → AllByRecursion (λ (y : List ℕ × Val). bytes_eq x.0 y.0 ≡ false) ys → Ordered ys → Ordered (put_field x ys)
put_ordered x [] apart order = (tt, tt)
put_ordered x (y ∷ ys) apart order = by (is_below x.0 y.0) refl (put_ordered x ys apart.1 order.1)
  where
    by : (b : Bool) → is_below x.0 y.0 ≡ b → Ordered (put_field x ys) → Ordered (cond b (x ∷ y ∷ ys) (y ∷ put_field x ys))
    by true low more = ((low, all_map (λ (z : List ℕ × Val). is_below y.0 z.0 ≡ true) (λ (z : List ℕ × Val). is_below x.0 z.0 ≡ true) ys (λ z next. below_joins x.0 y.0 z.0 low next) order.0), order)
    by false high more = (put_all (λ (z : List ℕ × Val). is_below y.0 z.0 ≡ true) x ys (above x.0 y.0 high apart.0) order.0, more)

-- a name is among the fields with one more where it is that one's, or was among them
pub put_has : (n : List ℕ) (x : List ℕ × Val) (ys : List (List ℕ × Val)) → list_any (bytes_eq n) (names_of (put_field x ys)) ≡ (bytes_eq n x.0 || list_any (bytes_eq n) (names_of ys))
put_has n x [] = refl
put_has n x (y ∷ ys) = by (is_below x.0 y.0) (put_has n x ys)
  where
    swapped : (a b c : Bool) → (a || (b || c)) ≡ (b || (a || c))
    swapped true true c = refl
    swapped true false c = refl
    swapped false b c = refl

    by : (b : Bool) → list_any (bytes_eq n) (names_of (put_field x ys)) ≡ (bytes_eq n x.0 || list_any (bytes_eq n) (names_of ys))
        → list_any (bytes_eq n) (names_of (cond b (x ∷ y ∷ ys) (y ∷ put_field x ys))) ≡ (bytes_eq n x.0 || (bytes_eq n y.0 || list_any (bytes_eq n) (names_of ys)))
    by true more = refl
    by false more = ap (λ z. bytes_eq n y.0 || z) more ∙ swapped (bytes_eq n y.0) (bytes_eq n x.0) (list_any (bytes_eq n) (names_of ys))

-- no name that was given is one that wasn't
pub none_given : (n : List ℕ) (given : List (List ℕ)) (ys : List (List ℕ × Val)) → list_any (bytes_eq n) given ≡ false → AllByRecursion (λ (y : List ℕ × Val). IsIn y.0 given) ys → AllByRecursion (λ (y : List ℕ × Val). bytes_eq n y.0 ≡ false) ys
none_given n given ys new all = all_map (λ (y : List ℕ × Val). IsIn y.0 given) (λ (y : List ℕ × Val). bytes_eq n y.0 ≡ false) ys (λ y here. apart given y.0 new here) all
  where
    neither : (a b : Bool) → (a || b) ≡ false → (a ≡ false) × (b ≡ false)
    neither true b h = cc
    neither false b h = (refl, h)

    apart : (given : List (List ℕ)) (k : List ℕ) → list_any (bytes_eq n) given ≡ false → IsIn k given → bytes_eq n k ≡ false
    apart [] k new here = elim here [ ]
    apart (g ∷ given) k new (inl same) = subst (λ z. bytes_eq n z ≡ false) (sym same) (neither (bytes_eq n g) (list_any (bytes_eq n) given) new).0
    apart (g ∷ given) k new (inr more) = apart given k (neither (bytes_eq n g) (list_any (bytes_eq n) given) new).1 more

-- fields that are those that are declared

-- each field comes before all behind it
abbrev pub DeclaredInOrder : List FieldCode → Type 0
DeclaredInOrder [] = Unit {0}
DeclaredInOrder (d ∷ ds) = AllByRecursion (λ (e : FieldCode). is_below d.name e.name ≡ true) ds × DeclaredInOrder ds

pub rise_in_order : (ds : List FieldCode) → rises (map (λ (f : FieldCode). f.name) ds) ≡ true → DeclaredInOrder ds
rise_in_order [] up = tt
rise_in_order (d ∷ []) up = (tt, tt)
rise_in_order (d ∷ e ∷ ds) up =
    let parts = and_parts (is_below d.name e.name) (rises (map (λ (f : FieldCode). f.name) (e ∷ ds))) up in
    let more = rise_in_order (e ∷ ds) parts.1 in
    ((parts.0, all_map (λ (f : FieldCode). is_below e.name f.name ≡ true) (λ (f : FieldCode). is_below d.name f.name ≡ true) ds (λ f low. below_joins d.name e.name f.name parts.0 low) more.0), more)

-- a field that is declared behind another comes behind it
declared_later : (d : FieldCode) (ds : List FieldCode) (n : List ℕ) (kind : Kind) → AllByRecursion (λ (e : FieldCode). is_below d.name e.name ≡ true) ds → kind_in n ds ≡ Some kind → is_below d.name n ≡ true
declared_later d [] n kind low is = absurd (cc)
declared_later d (e ∷ ds) n kind low is = elim (cases_Bool (bytes_eq e.name n)) [
  | inl same ↦ subst (λ z. is_below d.name z ≡ true) ((bytes_eq-Decides e.name n).0 same) low.0
  | inr other ↦ declared_later d ds n kind low.1 (rw other at is)
]

-- a name of one of the fields behind another comes behind it
given_later : (f : List ℕ × Val) (fs : List (List ℕ × Val)) (n : List ℕ) → AllByRecursion (λ (y : List ℕ × Val). is_below f.0 y.0 ≡ true) fs → list_any (bytes_eq n) (names_of fs) ≡ true → is_below f.0 n ≡ true
given_later f [] n low is = absurd (false≢true is)
given_later f (g ∷ fs) n low is = elim (cases_Bool (bytes_eq n g.0)) [
  | inl same ↦ subst (λ z. is_below f.0 z ≡ true) (sym ((bytes_eq-Decides n g.0).0 same)) low.0
  | inr other ↦ given_later f fs n low.1 (rw other at is)
]

same_kind : (d : FieldCode) (ds : List FieldCode) (n : List ℕ) (kind : Kind) → bytes_eq d.name n ≡ true → kind_in n (d ∷ ds) ≡ Some kind → kind ≡ d.kind
same_kind d ds n kind mine is = one (rw mine at is)
  where
    one : Some d.kind ≡ Some kind → kind ≡ d.kind
    one same = cc

-- fields behind the first are declared behind it
fields_later : (d : FieldCode) (ds : List FieldCode) (fs : List (List ℕ × Val)) → AllByRecursion (λ (y : List ℕ × Val). is_below d.name y.0 ≡ true) fs → AllByRecursion (FieldIs (d ∷ ds)) fs → AllByRecursion (FieldIs ds) fs
fields_later d ds [] low all = tt
fields_later d ds (f ∷ fs) low all = ((all.0.0, (rw (below_apart d.name f.0 low.0) at all.0.1), all.0.2), fields_later d ds fs low.1 all.1)

names_later : (n : List ℕ) (fs : List (List ℕ × Val)) (ds : List FieldCode) → AllByRecursion (λ (e : FieldCode). is_below n e.name ≡ true) ds → AllByRecursion (λ (e : FieldCode). (bytes_eq e.name n || list_any (bytes_eq e.name) (names_of fs)) ≡ true) ds → AllByRecursion (λ (e : FieldCode). list_any (bytes_eq e.name) (names_of fs) ≡ true) ds
names_later n fs [] low all = tt
names_later n fs (e ∷ ds) low all = (rw (apart e.name low.0) at all.0, names_later n fs ds low.1 all.1)
  where
    apart : (x : List ℕ) → is_below n x ≡ true → bytes_eq x n ≡ false
    apart x low = elim (cases_Bool (bytes_eq x n)) [
      | inl same ↦ absurd (not_itself n (subst (λ z. is_below n z ≡ true) ((bytes_eq-Decides x n).0 same) low))
      | inr other ↦ other
    ]

pub fields_typed : (ds : List FieldCode) (fs : List (List ℕ × Val)) → DeclaredInOrder ds → Ordered fs → AllByRecursion (FieldIs ds) fs → AllByRecursion (λ (d : FieldCode). list_any (bytes_eq d.name) (names_of fs) ≡ true) ds → FieldsTyped ds fs
fields_typed [] [] up order all given = tt
fields_typed [] (f ∷ fs) up order all given = absurd (none all.0.1)
  where
    none : {kind : Kind} → None ≡ Some kind → ⊥
    none is = cc
fields_typed (d ∷ ds) [] up order all given = absurd (false≢true given.0)
fields_typed (d ∷ ds) (f ∷ fs) up order all given = elim (cases_Bool (bytes_eq d.name f.0)) [
  | inl mine ↦ (let same : d.name ≡ f.0 = (bytes_eq-Decides d.name f.0).0 mine in
      let low : AllByRecursion (λ (y : List ℕ × Val). is_below d.name y.0 ≡ true) fs = subst (λ n. AllByRecursion (λ (y : List ℕ × Val). is_below n y.0 ≡ true) fs) (sym same) order.0 in (
        mine,
        subst (λ k. is_of k f.1 ≡ true) (same_kind d ds f.0 all.0.0 mine all.0.1) all.0.2,
        fields_typed ds fs up.1 order.1 (fields_later d ds fs low all.1) (names_later f.0 fs ds (subst (λ n. AllByRecursion (λ (e : FieldCode). is_below n e.name ≡ true) ds) same up.0) given.1),
      ))
  | inr other ↦ absurd (not_itself d.name (below_joins d.name f.0 d.name (declared_later d ds f.0 all.0.0 up.0 (rw other at all.0.1)) (given_later f fs d.name order.0 (rw other at given.0))))
]
