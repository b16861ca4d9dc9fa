-- A file that is read or written a piece at a time.
use Rattle.std.proofs.Common.{◌≡◌, ℕ, ◌+◌, ◌-◌, ◌≤◌, List, [], ◌∷◌, ◌++◌, length, take, drop, replicate, Option, Some, None, refl, sym, ◌∙◌, ap, subst, arith, append_assoc, append-nil, length-append, length-take, length-drop, drop-drop, take-append-drop, take-add, drop_of_length-le}
use Rattle.std.proofs.lemmas.List.{take_at, drop_at, take_all, drop-take, take-append-le}
use borrow.Rule.Slice.PartMut.{put_mid}
use Rattle.slee_disk.specs.Sides.{given, filled, overwritten}
use Rattle.slee_disk.specs.Pieces.{IsFront, ReadsFront, IsWhole, ReadsWhole, laid, IsLaid}
use Rattle.slee_disk.proofs.Overwrites.{length_filled}

-- ---- reading

-- so many bytes are in the buffer
pub record HasRead (all : List ℕ) (at k : ℕ) (first now : List ℕ) : Type 0 where
  pub within : k ≤ length (given at (length first) all)
  pub read : now ≡ take k (given at (length first) all) ++ drop k first

abbrev pub HasReadOf : Option (List ℕ) → ℕ → ℕ → List ℕ → List ℕ → Type 0
HasReadOf None at k first now = Unit {0}
HasReadOf (Some all) at k first now = HasRead all at k first now

pub read_none : (o : Option (List ℕ)) (at : ℕ) (first : List ℕ) → HasReadOf o at 0 first first
read_none None at first = tt
read_none (Some all) at first = record { within = omega arith; read = refl }

given_size : (at room : ℕ) (all : List ℕ) → length (given at room all) ≤ room
given_size at room all = omega (arith, length-take room (drop at all))

-- what is read behind a front is what is left of the whole
given_behind : (at k room left : ℕ) (all : List ℕ) → room ≡ k + left → given (at + k) left all ≡ drop k (given at room all)
given_behind at k room left all is = ap (take left) (sym (drop-drop k at all)) ∙ sym (drop-take k left (drop at all)) ∙ ap (λ n. drop k (take n (drop at all))) (sym is)

module _ (all : List ℕ) (at k : ℕ) (first mid : List ℕ) (has : HasRead all at k first mid) where
  abbrev wanted : List ℕ
  wanted = given at (length first) all

  size : length (take k wanted) ≡ k
  size = omega (arith, length-take k wanted, has.within)

  behind : drop k mid ≡ drop k first
  behind = ap (drop k) has.read ∙ drop_at (take k wanted) (drop k first) k size

  front : take k mid ≡ take k wanted
  front = ap (take k) has.read ∙ take_at (take k wanted) (drop k first) k size

  next : given (at + k) (length (drop k mid)) all ≡ drop k wanted
  next =
      let split : length first ≡ k + length (drop k mid) = omega (arith, ap length behind, length-drop k first, has.within, given_size at (length first) all) in
      given_behind at k (length first) (length (drop k mid)) all split

  pub more : (n : ℕ) (piece new : List ℕ) → IsFront all (at + k) n (drop k mid) piece → new ≡ take k mid ++ piece → HasRead all at (k + n) first new
  more n piece new read is = record {
    within = omega (arith, ap length next, length-drop k wanted, read.within, has.within);
    read =
        is ∙ ap (λ l. take k mid ++ l) read.read ∙ ap (λ l. l ++ (take n (given (at + k) (length (drop k mid)) all) ++ drop n (drop k mid))) front
        ∙ ap (λ l. take k wanted ++ (take n l ++ drop n (drop k mid))) next
        ∙ ap (λ l. take k wanted ++ (take n (drop k wanted) ++ l)) (ap (drop n) behind ∙ drop-drop n k first)
        ∙ sym (append_assoc (take k wanted) (take n (drop k wanted)) (drop (k + n) first))
        ∙ ap (λ l. l ++ drop (k + n) first) (sym (take-add k n wanted));
  }

  -- nothing is left to read
  pub whole : length wanted ≤ k → IsWhole all at k first mid
  whole enough = record { count = omega (arith, enough, has.within); read = has.read ∙ ap (λ l. l ++ drop k first) (take_all k wanted enough) }

  pub none_left : given (at + k) (length (drop k mid)) all ≡ [] → length wanted ≤ k
  none_left none = omega (arith, ap length (sym next ∙ none), length-drop k wanted)

pub read_more : (o : Option (List ℕ)) (at k n : ℕ) (first mid piece new : List ℕ) → HasReadOf o at k first mid → ReadsFront o (at + k) n (drop k mid) piece → new ≡ take k mid ++ piece → HasReadOf o at (k + n) first new
read_more None at k n first mid piece new has read is = tt
read_more (Some all) at k n first mid piece new has read is = more all at k first mid has n piece new read is

-- what stands in the buffer once its rest is written
pub put_rest : (k : ℕ) (into piece : List ℕ) → put_mid k (length into - k) into piece ≡ take k into ++ piece
put_rest k into piece = ap (λ l. take k into ++ (piece ++ l)) (drop_of_length-le (drop k into) (omega (arith, length-drop k into))) ∙ ap (λ l. take k into ++ l) (append-nil piece)

pub put_size : (k : ℕ) (into piece : List ℕ) → k ≤ length into → length piece ≡ length into - k → length (put_mid k (length into - k) into piece) ≡ length into
put_size k into piece within size = omega (arith, ap length (put_rest k into piece), length-append (take k into) piece, length-take k into, size)

-- the same front by other names
pub front_as : (o p : Option (List ℕ)) (at place n : ℕ) (old part new : List ℕ) → p ≡ o → place ≡ at → part ≡ old → ReadsFront p place n part new → ReadsFront o at n old new
front_as o p at place n old part new x y z read = subst (λ v. ReadsFront v at n old new) x (subst (λ v. ReadsFront p v n old new) y (subst (λ v. ReadsFront p place n v new) z read))

pub laid_as : (at place : ℕ) (bytes part : List ℕ) (o p : Option (List ℕ)) → place ≡ at → part ≡ bytes → IsLaid place part o p → IsLaid at bytes o p
laid_as at place bytes part o p x y laid = subst (λ v. IsLaid v bytes o p) x (subst (λ v. IsLaid place v o p) y laid)

-- the buffer is full
pub read_full : (o : Option (List ℕ)) (at k : ℕ) (first now : List ℕ) → length first ≤ k → HasReadOf o at k first now → ReadsWhole o at k first now
read_full None at k first now full has = tt
read_full (Some all) at k first now full has = whole all at k first now has (omega (arith, full, given_size at (length first) all))

-- the file has ended
pub read_end : (o : Option (List ℕ)) (at k n : ℕ) (first mid piece new : List ℕ) → HasReadOf o at k first mid → ReadsFront o (at + k) n (drop k mid) piece → n ≡ 0 → new ≡ take k mid ++ piece → ReadsWhole o at k first new
read_end None at k n first mid piece new has read none is = tt
read_end (Some all) at k n first mid piece new has read none is =
    let still : piece ≡ drop k mid = read.read ∙ ap (λ m. take m (given (at + k) (length (drop k mid)) all) ++ drop m (drop k mid)) none in
    let same : mid ≡ new = sym (take-append-drop k mid) ∙ ap (λ l. take k mid ++ l) (sym still) ∙ sym is in
    subst (IsWhole all at k first) same (whole all at k first mid has (none_left all at k first mid has (read.some none)))

-- ---- writing

overwritten_twice : (at : ℕ) (front rest old : List ℕ) → overwritten (at + length front) rest (overwritten at front old) ≡ overwritten at (front ++ rest) old
overwritten_twice at front rest old =
    let x = take at (filled at old) in
    let y = overwritten at front old in
    let start : length x ≡ at = omega (arith, length-take at (filled at old), length_filled at old) in
    let begun : length (x ++ front) ≡ at + length front = omega (arith, length-append x front, start) in
    let long : at + length front ≤ length y = omega (arith, length-append (x ++ front) (drop (at + length front) old), begun) in
    let first : take (at + length front) (filled (at + length front) y) ≡ x ++ front =
    take-append-le (at + length front) y (replicate (at + length front - length y) 0) long ∙ take_at (x ++ front) (drop (at + length front) old) (at + length front) begun in
    let last : drop (at + length front + length rest) y ≡ drop (at + length (front ++ rest)) old =
    sym (drop-drop (length rest) (at + length front) y) ∙ ap (drop (length rest)) (drop_at (x ++ front) (drop (at + length front) old) (at + length front) begun)
    ∙ drop-drop (length rest) (at + length front) old ∙ ap (λ n. drop n old) (let e : at + length front + length rest ≡ at + length (front ++ rest) = omega (arith, length-append front rest) in e) in
    ap (λ l. l ++ rest ++ drop (at + length front + length rest) y) first
    ∙ ap (λ l. (x ++ front) ++ rest ++ l) last
    ∙ ap (λ l. l ++ drop (at + length (front ++ rest)) old) (append_assoc x front rest)

laid_some : (at : ℕ) (bytes old : List ℕ) (some : length bytes ≡ 0 → ⊥) → laid at bytes old ≡ overwritten at bytes old
laid_some at [] old some = absurd (some refl)
laid_some at (byte ∷ bytes) old some = refl

laid_twice : (at : ℕ) (front rest old : List ℕ) → laid (at + length front) rest (laid at front old) ≡ laid at (front ++ rest) old
laid_twice at [] rest old = ap (λ n. laid n rest old) (let e : at + 0 ≡ at = omega arith in e)
laid_twice at (byte ∷ front) [] old = ap (λ l. laid at l old) (sym (append-nil (byte ∷ front)))
laid_twice at (byte ∷ front) (next ∷ rest) old = overwritten_twice at (byte ∷ front) (next ∷ rest) old

pub laid_none : (at : ℕ) (o : Option (List ℕ)) → IsLaid at [] o o
laid_none at None = tt
laid_none at (Some old) = refl

-- a piece is written behind what was written
pub laid_more : (at k n : ℕ) (bytes : List ℕ) (a b c : Option (List ℕ)) → k ≤ length bytes → IsLaid at (take k bytes) a b → IsLaid (at + k) (take n (drop k bytes)) b c → IsLaid at (take (k + n) bytes) a c
laid_more at k n bytes None b c within before now = tt
laid_more at k n bytes (Some old) None c within before now = absurd cc
laid_more at k n bytes (Some old) (Some mid) c within before now =
    let front = take k bytes in
    let piece = take n (drop k bytes) in
    let size : length front ≡ k = omega (arith, length-take k bytes) in
    let mid_is : mid ≡ laid at front old = cc in
    now ∙ ap (λ l. Some (laid (at + k) piece l)) mid_is ∙ ap (λ m. Some (laid (at + m) piece (laid at front old))) (sym size) ∙ ap Some (laid_twice at front piece old) ∙ ap (λ l. Some (laid at l old)) (sym (take-add k n bytes))
