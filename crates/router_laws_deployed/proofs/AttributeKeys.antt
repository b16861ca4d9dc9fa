-- In parts without fault the attributes of one key have one type.
use Rattle.std.proofs.Common.{◌≡◌, ℕ, zero, suc, ◌+◌, ◌==◌, ◌&&◌, Bool, true, false, not, List, [], ◌∷◌, ◌++◌, flat_map, map, Option, Some, None, refl, sym, ap, ◌∙◌, subst, inl, inr, arith}
use Rattle.std.specs.Prelude.{codes, decimal, find, is_some, option_map, slice_get}
use Rattle.std.specs.List.{list_all}
use Rattle.std.specs.Option.{option_map_or, option_or}
use Rattle.std.specs.Str.{bytes_eq}
use Rattle.std.proofs.lemmas.Bool.{and_from, and_parts, cases_Bool, eqb-true, false≢true}
use Rattle.std.proofs.lemmas.Bool.Decides.{nat_tests}
use Rattle.std.proofs.lemmas.List.Folds.{find-append}
use Rattle.std.proofs.lemmas.Slice.Eq.{bytes_eq-Decides}
use Rattle.slee_value.specs.Name.{is_byte_of_name, is_letter, is_name}
use Rattle.slee_value.specs.declared.kind.Kind.{Kind}
use Rattle.slee_value.specs.declared.kind.Kind.TheVariants as kinds
use Rattle.script_tree.specs.Tree.{Bytes}
use Rattle.script_types.specs.Codes.{named}
use Rattle.script_types.specs.declared.codes.AttributeCode.{AttributeCode}
use Rattle.deploy_model.proofs.Faultless.{blocks_none, each_rule, first_none, later_none, under_none, unless_none}
use Rattle.deploy_model.specs.Deployed.{DeployedBlock, attribute_kind}
use Rattle.deploy_model.specs.Faults.{under}
use Rattle.deploy_model.specs.Resolving as resolving
use Rattle.deploy_model.specs.Resolving.{attribute_key, attribute_of, deployed_of}
use Rattle.deploy_model.specs.Rules.{Numbering, Rule, alias, entries, fresh, is_kind, is_number, is_same_kind, items, items_from, member}
use Rattle.deploy_model.specs.Tables.{alias_kind, block, block_event, block_members, component, id_number, identity, key_number, kind_of, known_in, method, parts_fault, relation}
use Rattle.deploy_model.specs.declared.fault.DeployBad.TheVariants as bad
use Rattle.deploy_model.specs.declared.parts.Block.{Block}
use Rattle.deploy_model.specs.declared.parts.Parts.{Parts}

some_same : {A : Type 0} {x y : A} → Some x ≡ Some y → x ≡ y
some_same same = cc

text_same : (x y : List ℕ) → bytes_eq x y ≡ true → x ≡ y
text_same x y is = (bytes_eq-Decides x y).0 is

-- names have no dot

abbrev has_none : List ℕ → Bool
has_none text = list_all (λ b. not (b == 46)) text

name_without : (text : List ℕ) → is_name text ≡ true → has_none text ≡ true
name_without [] is = refl
name_without (b ∷ bs) is =
    let parts = and_parts (is_letter b) _ is in
    and_from (not (b == 46)) _ (letter b parts.0) (rest bs (and_parts (list_all is_byte_of_name bs) _ parts.1).0)
  where
    letter : (b : ℕ) → is_letter b ≡ true → not (b == 46) ≡ true
    letter b is = grind (arith, nat_tests, is)

    byte : (b : ℕ) → is_byte_of_name b ≡ true → not (b == 46) ≡ true
    byte b is = grind (arith, nat_tests, is)

    rest : (bs : List ℕ) → list_all is_byte_of_name bs ≡ true → has_none bs ≡ true
    rest [] all = refl
    rest (b ∷ bs) all = let parts = and_parts (is_byte_of_name b) (list_all is_byte_of_name bs) all in and_from (not (b == 46)) _ (byte b parts.0) (rest bs parts.1)

dotted_has : (x y : List ℕ) → has_none ((x ++ codes ".") ++ y) ≡ true → ⊥
dotted_has [] y all = absurd (false≢true all)
dotted_has (b ∷ x) y all = dotted_has x y (and_parts (not (b == 46)) _ all).1

not_dot : (b : ℕ) → not (b == 46) ≡ true → b ≡ 46 → ⊥
not_dot b other same = absurd (clash b other same)
  where
    clash : (b : ℕ) → not (b == 46) ≡ true → b ≡ 46 → ⊥
    clash b other same = absurd (false≢true (subst (λ k. not (k == 46) ≡ true) same other))

heads : {a b : ℕ} {x y : List ℕ} → a ∷ x ≡ b ∷ y → (a ≡ b) × (x ≡ y)
heads same = (cc, cc)

split : (x y x' y' : List ℕ) → has_none x ≡ true → has_none x' ≡ true → (x ++ codes ".") ++ y ≡ (x' ++ codes ".") ++ y' → (x ≡ x') × (y ≡ y')
split [] y [] y' one two same = (refl, (heads same).1)
split [] y (b ∷ x') y' one two same = absurd (not_dot b (and_parts (not (b == 46)) _ two).0 (sym (heads same).0))
split (a ∷ x) y [] y' one two same = absurd (not_dot a (and_parts (not (a == 46)) _ one).0 (heads same).0)
split (a ∷ x) y (b ∷ x') y' one two same =
    let both = heads same in
    let more = split x y x' y' (and_parts (not (a == 46)) _ one).1 (and_parts (not (b == 46)) _ two).1 both.1 in
    (ap (λ k. k ∷ x) both.0 ∙ ap (λ z. b ∷ z) more.0, more.1)

-- items by their places

item_none : {A : Type 0} (rule : ℕ → Rule A) (n : ℕ) (xs : List A) (i : ℕ) (x : A) → items_from rule n xs ≡ None → slice_get xs i ≡ Some x → rule (n + i) x ≡ None
item_none rule n [] i x none is = absurd (cc)
item_none rule n (y ∷ ys) zero x none is = subst (λ z. rule (n + 0) z ≡ None) (some_same is) (subst (λ k. rule k y ≡ None) (plain n) (under_none (decimal n) (rule n y) (first_none (under (decimal n) (rule n y)) (items_from rule (n + 1) ys) none)))
  where
    plain : (n : ℕ) → n ≡ n + 0
    plain n = omega arith
item_none rule n (y ∷ ys) (suc i) x none is = subst (λ k. rule k x ≡ None) (moved n i) (item_none rule (n + 1) ys i x (later_none (under (decimal n) (rule n y)) (items_from rule (n + 1) ys) none) is)
  where
    moved : (n i : ℕ) → (n + 1) + i ≡ n + suc i
    moved n i = omega arith

nth_passes : {A : Type 0} (p : A → Bool) (xs : List A) (i : ℕ) (x : A) → list_all p xs ≡ true → slice_get xs i ≡ Some x → p x ≡ true
nth_passes p [] i x all is = absurd (cc)
nth_passes p (y ∷ ys) zero x all is = subst (λ z. p z ≡ true) (some_same is) (and_parts (p y) (list_all p ys) all).0
nth_passes p (y ∷ ys) (suc i) x all is = nth_passes p ys i x (and_parts (p y) (list_all p ys) all).1 is

entry_none : {A : Type 0} (name : A → Bytes) (rule : Rule A) (test : A → Bool) (xs : List A) (x : A) → entries name rule xs ≡ None → find test xs ≡ Some x → rule x ≡ None
entry_none name rule test [] x none is = absurd (cc)
entry_none name rule test (y ∷ ys) x none is = elim (cases_Bool (test y)) [
  | inl mine ↦ subst (λ z. rule z ≡ None) (some_same (rw mine at is)) (under_none (name y) (rule y) (first_none (under (name y) (rule y)) (entries name rule ys) none))
  | inr other ↦ entry_none name rule test ys x (later_none (under (name y) (rule y)) (entries name rule ys) none) (rw other at is)
]

found_test : {A : Type 0} (test : A → Bool) (xs : List A) (x : A) → find test xs ≡ Some x → test x ≡ true
found_test test [] x is = absurd (cc)
found_test test (y ∷ ys) x is = elim (cases_Bool (test y)) [
  | inl mine ↦ subst (λ z. test z ≡ true) (some_same (rw mine at is)) mine
  | inr other ↦ found_test test ys x (rw other at is)
]

-- the attributes of a block

-- the first attribute of a name
named_kind : (b : Block) (name : List ℕ) (fields : List (Bytes × Kind)) (x : AttributeCode) → named (λ (a : AttributeCode). a.name) name (map (attribute_of b) fields) ≡ Some x → (x.key ≡ attribute_key b x.name) × (kind_of fields x.name ≡ Some x.kind)
named_kind b name [] x is = absurd (cc)
named_kind b name (f ∷ fields) x is = elim (cases_Bool (bytes_eq f.0 name)) [
  | inl mine ↦ subst (λ (z : AttributeCode). (z.key ≡ attribute_key b z.name) × (kind_of (f ∷ fields) z.name ≡ Some z.kind)) (some_same (rw mine at is)) (refl, rw ((bytes_eq-Decides f.0 f.0).1 refl) refl)
  | inr other ↦ (let more = named_kind b name fields x (rw other at is) in
      let mine : x.name ≡ name = text_same x.name name (found_test (λ (a : AttributeCode). bytes_eq a.name name) (map (attribute_of b) fields) x (rw other at is)) in
      (more.0, rw (apart f.0 mine other) more.1))
]
  where
    apart : (k : List ℕ) → x.name ≡ name → bytes_eq k name ≡ false → bytes_eq x.name k ≡ false
    apart k mine other = elim (cases_Bool (bytes_eq x.name k)) [
      | inl same ↦ absurd (false≢true (sym other ∙ (bytes_eq-Decides k name).1 (sym (text_same x.name k same) ∙ mine)))
      | inr isnt ↦ isnt
    ]

-- the first attribute of a key
keyed_kind : (b : Block) (key : List ℕ) (fields : List (Bytes × Kind)) (x : AttributeCode) → named (λ (a : AttributeCode). a.key) key (map (attribute_of b) fields) ≡ Some x → (x.key ≡ attribute_key b x.name) × (kind_of fields x.name ≡ Some x.kind)
keyed_kind b key [] x is = absurd (cc)
keyed_kind b key (f ∷ fields) x is = elim (cases_Bool (bytes_eq (attribute_key b f.0) key)) [
  | inl mine ↦ subst (λ (z : AttributeCode). (z.key ≡ attribute_key b z.name) × (kind_of (f ∷ fields) z.name ≡ Some z.kind)) (some_same (rw mine at is)) (refl, rw ((bytes_eq-Decides f.0 f.0).1 refl) refl)
  | inr other ↦ (let more = keyed_kind b key fields x (rw other at is) in
      let mine : x.key ≡ key = text_same x.key key (found_test (λ (a : AttributeCode). bytes_eq a.key key) (map (attribute_of b) fields) x (rw other at is)) in
      (more.0, rw (apart f.0 (sym more.0 ∙ mine) other) more.1))
]
  where
    apart : (k : List ℕ) → attribute_key b x.name ≡ key → bytes_eq (attribute_key b k) key ≡ false → bytes_eq x.name k ≡ false
    apart k mine other = elim (cases_Bool (bytes_eq x.name k)) [
      | inl same ↦ absurd (false≢true (sym other ∙ (bytes_eq-Decides (attribute_key b k) key).1 (ap (attribute_key b) (sym (text_same x.name k same)) ∙ mine)))
      | inr isnt ↦ isnt
    ]

-- an attribute that has the key makes that one is found
keyed_there : (b : Block) (fields : List (Bytes × Kind)) (name : List ℕ) (k : Kind) → kind_of fields name ≡ Some k → is_some (named (λ (a : AttributeCode). a.key) (attribute_key b name) (map (attribute_of b) fields)) ≡ true
keyed_there b [] name k is = absurd (cc)
keyed_there b (f ∷ fields) name k is = elim (cases_Bool (bytes_eq (attribute_key b f.0) (attribute_key b name))) [
  | inl mine ↦ rw mine refl
  | inr other ↦ rw other (keyed_there b fields name k (rw (apart other) at is))
]
  where
    apart : bytes_eq (attribute_key b f.0) (attribute_key b name) ≡ false → bytes_eq name f.0 ≡ false
    apart other = elim (cases_Bool (bytes_eq name f.0)) [
      | inl same ↦ absurd (false≢true (sym other ∙ (bytes_eq-Decides (attribute_key b f.0) (attribute_key b name)).1 (ap (attribute_key b) (sym (text_same name f.0 same)))))
      | inr isnt ↦ isnt
    ]

-- the attributes of all blocks

-- the first attribute of a key is the first of its block
keyed_block : (blocks : Numbering) (key : List ℕ) (rows : List Block) (x : AttributeCode) → named (λ (a : AttributeCode). a.key) key (flat_map (λ (b : DeployedBlock). b.attributes) (map (resolving.block_of blocks) rows)) ≡ Some x
    → (i : ℕ) × (b : Block) × (slice_get rows i ≡ Some b) × (named (λ (a : AttributeCode). a.key) key (map (attribute_of b) b.attributes) ≡ Some x)
keyed_block blocks key [] x is = absurd (cc)
keyed_block blocks key (b ∷ rows) x is =
    by (named (λ (a : AttributeCode). a.key) key (map (attribute_of b) b.attributes)) refl
    (sym (find-append (λ (a : AttributeCode). bytes_eq a.key key) (map (attribute_of b) b.attributes) (flat_map (λ (b : DeployedBlock). b.attributes) (map (resolving.block_of blocks) rows))) ∙ is)
    (keyed_block blocks key rows x)
  where
    by : (o : Option AttributeCode) → named (λ (a : AttributeCode). a.key) key (map (attribute_of b) b.attributes) ≡ o
        → option_or o (named (λ (a : AttributeCode). a.key) key (flat_map (λ (b : DeployedBlock). b.attributes) (map (resolving.block_of blocks) rows))) ≡ Some x
        → (named (λ (a : AttributeCode). a.key) key (flat_map (λ (b : DeployedBlock). b.attributes) (map (resolving.block_of blocks) rows)) ≡ Some x → (i : ℕ) × (c : Block) × (slice_get rows i ≡ Some c) × (named (λ (a : AttributeCode). a.key) key (map (attribute_of c) c.attributes) ≡ Some x))
        → (i : ℕ) × (c : Block) × (slice_get (b ∷ rows) i ≡ Some c) × (named (λ (a : AttributeCode). a.key) key (map (attribute_of c) c.attributes) ≡ Some x)
    by None found later behind = let more = behind later in (suc more.0, more.1, more.2, more.3)
    by (Some y) found same behind = (0, b, refl, found ∙ same)

some_second : {A : Type 0} (o p : Option A) → is_some p ≡ true → is_some (option_or o p) ≡ true
some_second None p is = is
some_second (Some x) p is = refl

some_first : {A : Type 0} (o p : Option A) → is_some o ≡ true → is_some (option_or o p) ≡ true
some_first None p is = absurd (cc)
some_first (Some x) p is = refl

block_there : (blocks : Numbering) (key : List ℕ) (rows : List Block) (i : ℕ) (b : Block) → slice_get rows i ≡ Some b → is_some (named (λ (a : AttributeCode). a.key) key (map (attribute_of b) b.attributes)) ≡ true
    → is_some (named (λ (a : AttributeCode). a.key) key (flat_map (λ (b : DeployedBlock). b.attributes) (map (resolving.block_of blocks) rows))) ≡ true
block_there blocks key [] i b is there = absurd (cc)
block_there blocks key (c ∷ rows) zero b is there =
    ap is_some (find-append (λ (a : AttributeCode). bytes_eq a.key key) (map (attribute_of c) c.attributes) (flat_map (λ (b : DeployedBlock). b.attributes) (map (resolving.block_of blocks) rows)))
    ∙ some_first (named (λ (a : AttributeCode). a.key) key (map (attribute_of c) c.attributes)) _ (subst (λ (z : Block). is_some (named (λ (a : AttributeCode). a.key) key (map (attribute_of z) z.attributes)) ≡ true) (sym (some_same is)) there)
block_there blocks key (c ∷ rows) (suc i) b is there =
    ap is_some (find-append (λ (a : AttributeCode). bytes_eq a.key key) (map (attribute_of c) c.attributes) (flat_map (λ (b : DeployedBlock). b.attributes) (map (resolving.block_of blocks) rows)))
    ∙ some_second (named (λ (a : AttributeCode). a.key) key (map (attribute_of c) c.attributes)) _ (block_there blocks key rows i b is there)

same_kinds : (x y : Kind) → is_same_kind x y ≡ true → x ≡ y
same_kinds kinds.Int kinds.Int is = refl
same_kinds kinds.Text kinds.Text is = refl
same_kinds kinds.Bool kinds.Bool is = refl
same_kinds kinds.Activity kinds.Activity is = refl
same_kinds kinds.Timer kinds.Timer is = refl
same_kinds _ _ is = absurd (cc)

-- names of a block: its key, and the aliases of its attributes
abbrev pub has_names : Block → Bool
has_names b = is_name b.key && list_all (λ (a : Bytes × Bytes). is_name a.1) b.aliases

module _ (p : Parts) (fine : parts_fault p ≡ None) (names : list_all has_names p.blocks ≡ true) where
  -- the rules of a block
  block_rules : (i : ℕ) (b : Block) → slice_get p.blocks i ≡ Some b → block (known_in p) (id_number (λ (x : Block). x.id) p.blocks) (0 + i) b ≡ None
  block_rules i b is = item_none (block (known_in p) (id_number (λ (x : Block). x.id) p.blocks)) 0 p.blocks i b (blocks_none p fine) is

  own_number : (i : ℕ) (b : Block) → slice_get p.blocks i ≡ Some b → key_number (λ (x : Block). x.key) p.blocks b.key ≡ Some i
  own_number i b is =
      let all = known_in p in
      let parts = each_rule (component (λ (x : Block). x.key) (λ (x : Block). x.id) all.blocks (id_number (λ (x : Block). x.id) p.blocks) (0 + i) ∷ block_members all ∷ []) b (block_rules i b is) in
      let members = each_rule (member (codes "key") (λ (x : Block). x.key) (λ k. fresh (all.blocks k) (0 + i)) ∷ (λ x. identity (id_number (λ (x : Block). x.id) p.blocks) (0 + i) x.id) ∷ []) b parts.0 in
      number (all.blocks b.key) (0 + i) i (plain i) (unless_none (is_number (0 + i) (all.blocks b.key)) bad.Repeated (under_none (codes "key") (fresh (all.blocks b.key) (0 + i)) members.0))
    where
      plain : (n : ℕ) → 0 + n ≡ n
      plain n = omega arith

      number : (o : Option ℕ) (m n : ℕ) → m ≡ n → is_number m o ≡ true → o ≡ Some n
      number None m n same is = absurd (false≢true is)
      number (Some k) m n same is = ap Some (by k (eqb-true m k is))
        where
          by : (k : ℕ) → m ≡ k → k ≡ n
          by k one = sym one ∙ same

  alias_rule : (i : ℕ) (b : Block) (test : Bytes × Bytes → Bool) (a : Bytes × Bytes) → slice_get p.blocks i ≡ Some b → find test b.aliases ≡ Some a → alias (kind_of b.attributes a.0) (alias_kind p.blocks a.1) ≡ None
  alias_rule i b test a is found =
      let all = known_in p in
      let parts = each_rule (component (λ (x : Block). x.key) (λ (x : Block). x.id) all.blocks (id_number (λ (x : Block). x.id) p.blocks) (0 + i) ∷ block_members all ∷ []) b (block_rules i b is) in
      let members = each_rule
      (member (codes "aliases") (λ x. x.aliases) (entries (λ a. a.0) (λ a. alias (kind_of b.attributes a.0) (all.alias_kind a.1)))
      ∷ member (codes "relations") (λ x. x.relations) (entries (λ r. r.name) (relation all))
      ∷ member (codes "events") (λ x. x.events) (items (block_event all (key_number (λ h. h.event) b.events)))
      ∷ member (codes "methods") (λ x. x.methods) (entries (λ m. m.name) method)
      ∷ []) b parts.1.0 in
      entry_none (λ (a : Bytes × Bytes). a.0) (λ (a : Bytes × Bytes). alias (kind_of b.attributes a.0) (alias_kind p.blocks a.1)) test b.aliases a (under_none (codes "aliases") (entries (λ (a : Bytes × Bytes). a.0) (λ (a : Bytes × Bytes). alias (kind_of b.attributes a.0) (alias_kind p.blocks a.1)) b.aliases) members.0) found

  -- an attribute with an alias has the type of the first one with that alias
  aliased_kind : (i : ℕ) (b : Block) (n : List ℕ) (a : Bytes × Bytes) (k : Kind) → slice_get p.blocks i ≡ Some b → find (λ (a : Bytes × Bytes). bytes_eq n a.0) b.aliases ≡ Some a → kind_of b.attributes n ≡ Some k → alias_kind p.blocks a.1 ≡ Some k
  aliased_kind i b n a k is found typed =
      let mine : n ≡ a.0 = text_same n a.0 (found_test (λ (a : Bytes × Bytes). bytes_eq n a.0) b.aliases a found) in
      by (alias_kind p.blocks a.1) (subst (λ o. alias o (alias_kind p.blocks a.1) ≡ None) (ap (kind_of b.attributes) (sym mine) ∙ typed) (alias_rule i b (λ (a : Bytes × Bytes). bytes_eq n a.0) a is found))
    where
      by : (o : Option Kind) → alias (Some k) o ≡ None → o ≡ Some k
      by None none = absurd (false≢true (unless_none (is_kind k None) bad.Alias none))
      by (Some other) none = ap Some (sym (same_kinds k other (unless_none (is_kind k (Some other)) bad.Alias none)))

  alias_name : (i : ℕ) (b : Block) (n : List ℕ) (a : Bytes × Bytes) → slice_get p.blocks i ≡ Some b → find (λ (a : Bytes × Bytes). bytes_eq n a.0) b.aliases ≡ Some a → has_none a.1 ≡ true
  alias_name i b n a is found = name_without a.1 (find_passes b.aliases (and_parts (is_name b.key) _ (nth_passes has_names p.blocks i b names is)).1 found)
    where
      find_passes : (aliases : List (Bytes × Bytes)) → list_all (λ (a : Bytes × Bytes). is_name a.1) aliases ≡ true → find (λ (a : Bytes × Bytes). bytes_eq n a.0) aliases ≡ Some a → is_name a.1 ≡ true
      find_passes [] all found = absurd (cc)
      find_passes (y ∷ ys) all found = elim (cases_Bool (bytes_eq n y.0)) [
        | inl mine ↦ subst (λ (z : Bytes × Bytes). is_name z.1 ≡ true) (some_same (rw mine at found)) (and_parts (is_name y.1) _ all).0
        | inr other ↦ find_passes ys (and_parts (is_name y.1) _ all).1 (rw other at found)
      ]

  block_name : (i : ℕ) (b : Block) → slice_get p.blocks i ≡ Some b → has_none b.key ≡ true
  block_name i b is = name_without b.key (and_parts (is_name b.key) _ (nth_passes has_names p.blocks i b names is)).0

  -- attributes of one key have one type
  agree : (i j : ℕ) (b c : Block) (n m : List ℕ) (k l : Kind) → slice_get p.blocks i ≡ Some b → slice_get p.blocks j ≡ Some c → kind_of b.attributes n ≡ Some k → kind_of c.attributes m ≡ Some l → attribute_key b n ≡ attribute_key c m → k ≡ l
  agree i j b c n m k l one two first second same = by (find (λ (a : Bytes × Bytes). bytes_eq n a.0) b.aliases) refl (find (λ (a : Bytes × Bytes). bytes_eq m a.0) c.aliases) refl same
    where
      plain : b.key ++ codes "." ++ n ≡ c.key ++ codes "." ++ m → k ≡ l
      plain same =
          let both = split b.key n c.key m (block_name i b one) (block_name j c two) same in
          let place : Some i ≡ Some j = sym (own_number i b one) ∙ ap (key_number (λ (x : Block). x.key) p.blocks) both.0 ∙ own_number j c two in
          let block_same : b ≡ c = some_same (sym one ∙ ap (slice_get p.blocks) (some_same place) ∙ two) in
          some_same (sym first ∙ ap (λ (z : Block). kind_of z.attributes n) block_same ∙ ap (kind_of c.attributes) both.1 ∙ second)

      by : (o : Option (Bytes × Bytes)) → find (λ (a : Bytes × Bytes). bytes_eq n a.0) b.aliases ≡ o → (q : Option (Bytes × Bytes)) → find (λ (a : Bytes × Bytes). bytes_eq m a.0) c.aliases ≡ q
          → option_map_or (λ (a : Bytes × Bytes). a.1) o (b.key ++ codes "." ++ n) ≡ option_map_or (λ (a : Bytes × Bytes). a.1) q (c.key ++ codes "." ++ m) → k ≡ l
      by None mine None theirs same = plain same
      by (Some a) mine (Some e) theirs same = some_same (sym (aliased_kind i b n a k one mine first) ∙ ap (alias_kind p.blocks) same ∙ aliased_kind j c m e l two theirs second)
      by (Some a) mine None theirs same = absurd (dotted_has c.key m (subst (λ t. has_none t ≡ true) same (alias_name i b n a one mine)))
      by None mine (Some e) theirs same = absurd (dotted_has b.key n (subst (λ t. has_none t ≡ true) (sym same) (alias_name j c m e two theirs)))

  -- the type of the key of an attribute is that attribute's
  pub attribute_kinds : (i : ℕ) (b : Block) (name : List ℕ) (x : AttributeCode) → slice_get p.blocks i ≡ Some b → named (λ (a : AttributeCode). a.name) name (map (attribute_of b) b.attributes) ≡ Some x → attribute_kind (deployed_of p) x.key ≡ Some x.kind
  attribute_kinds i b name x is found =
      let ns : Numbering = key_number (λ (x : Block). x.key) p.blocks in
      let mine = named_kind b name b.attributes x found in
      by (named (λ (a : AttributeCode). a.key) x.key (flat_map (λ (b : DeployedBlock). b.attributes) (map (resolving.block_of ns) p.blocks))) refl
      (block_there ns x.key p.blocks i b is (subst (λ k. is_some (named (λ (a : AttributeCode). a.key) k (map (attribute_of b) b.attributes)) ≡ true) (sym mine.0) (keyed_there b b.attributes x.name x.kind mine.1)))
    where
      by : (o : Option AttributeCode) → named (λ (a : AttributeCode). a.key) x.key (flat_map (λ (b : DeployedBlock). b.attributes) (map (resolving.block_of (key_number (λ (x : Block). x.key) p.blocks)) p.blocks)) ≡ o → is_some o ≡ true → option_map (λ (a : AttributeCode). a.kind) o ≡ Some x.kind
      by None none there = absurd (false≢true there)
      by (Some y) first there =
          let other = keyed_block (key_number (λ (x : Block). x.key) p.blocks) x.key p.blocks y first in
          let mine = named_kind b name b.attributes x found in
          let theirs = keyed_kind other.1 x.key other.1.attributes y other.3 in
          let same : y.key ≡ x.key = text_same y.key x.key (found_test (λ (a : AttributeCode). bytes_eq a.key x.key) (map (attribute_of other.1) other.1.attributes) y other.3) in
          ap Some (agree other.0 i other.1 b y.name x.name y.kind x.kind other.2 is theirs.1 mine.1 (sym theirs.0 ∙ same ∙ mine.0))
