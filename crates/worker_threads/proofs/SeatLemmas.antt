-- Passes that are split off and joined back in the order of a stack.
use Rattle.std.proofs.Common.{◌≡◌, ℕ, zero, suc, ◌+◌, ◌-◌, ◌<◌, if◌then◌else◌, nat_lt, Bool, true, false, List, [], ◌∷◌, ◌++◌, length, get_or, refl, sym, ap, ◌∙◌, subst, arith, length-append, add-one, eq-eqb, ne_eqb, inl, take, append_assoc, append-nil}
use mathlib.Core.Logic.{dite}
use mathlib.Core.List.{IsPrefix}
use native.Mathlib.Decide.{ℕ_discrete}
use Rattle.std.proofs.lemmas.List.{get_or_append_left}
use Rattle.std.proofs.Math.Seq.{get_or-append_seam}
use Rattle.atomic_table.specs.Seated.{TableId}
use Rattle.trace_history.specs.Histories.{choices_of}
use Rattle.trace_history.specs.declared.choice.Choice.{Choice}
use Rattle.slee_container.specs.Container.{View}
use Rattle.slee_container.specs.Turns.{setup_told}
use Rattle.slee_descriptor.specs.declared.deployment.Deployment.{Deployment}
use Rattle.slee_turn.specs.Setups.{Setup}
use Rattle.slee_turn.specs.Numbers.{IsAmong, without}
use Rattle.slee_turn.specs.Knowledge.{joined_known, longer, next_number, parted_known}
use Rattle.slee_turn.specs.Passes.{Continues, PassView, first_pass, informed}
use Rattle.worker_gate.specs.Works.{IsServed}
use Rattle.worker_threads.specs.Seats.{AreLater, AreSeated, HasGiven, HasOut, numbers}
use Rattle.worker_threads.specs.Sharing.{GoesOnWith, IsOf}
use Rattle.worker_threads.specs.declared.jobs.Job.{Job}

-- ---- lists

pub each_push : {T : Type 0} (P : ℕ → T → Type 0) (xs : List T) (x : T) → ((k : ℕ) (d : T) → k < length xs → P k (get_or xs k d)) → P (length xs) x
    → (k : ℕ) (d : T) → k < length (xs ++ x ∷ []) → P k (get_or (xs ++ x ∷ []) k d)
each_push P xs x each here k d h = dite (ℕ_discrete k (length xs))
    (λ (e : k ≡ length xs). subst (λ n. P n (get_or (xs ++ x ∷ []) n d)) (sym e) (subst (P (length xs)) (sym (get_or-append_seam xs x [] d)) here))
    (λ ne. let l : length (xs ++ x ∷ []) ≡ length xs + 1 = length-append xs (x ∷ []) in let lt : k < length xs = omega arith in subst (P k) (sym (get_or_append_left xs (x ∷ []) d k lt)) (each k d lt))

pub each_pop : {T : Type 0} (P : ℕ → T → Type 0) (xs : List T) (x : T) → ((k : ℕ) (d : T) → k < length (xs ++ x ∷ []) → P k (get_or (xs ++ x ∷ []) k d)) → P (length xs) x × ((k : ℕ) (d : T) → k < length xs → P k (get_or xs k d))
each_pop P xs x each = let l : length (xs ++ x ∷ []) ≡ length xs + 1 = length-append xs (x ∷ []) in (
  subst (P (length xs)) (get_or-append_seam xs x [] x) (each (length xs) x (omega arith)),
  λ k d h. let lt : k < length (xs ++ x ∷ []) = omega arith in subst (P k) (get_or_append_left xs (x ∷ []) d k h) (each k d lt),
)

pub length_push : {T : Type 0} (xs : List T) (x : T) → length (xs ++ x ∷ []) ≡ length xs + 1
length_push xs x = length-append xs (x ∷ [])

pub take_front : {T : Type 0} (n : ℕ) (xs ys : List T) → length xs ≡ n → take n (xs ++ ys) ≡ xs
take_front n [] ys e = subst (λ k. take k ys ≡ []) e refl
take_front zero (x ∷ xs) ys e = absurd (omega arith)
take_front (suc n) (x ∷ xs) ys e = ap (λ l. x ∷ l) (take_front n xs ys (omega arith))

pub moved : {T : Type 0} (R : T → T → Type 0) (a b x y : T) → a ≡ x → b ≡ y → R a b → R x y
moved R a b x y p q r = subst (R x) q (subst (λ z. R z b) p r)

-- ---- the first pass

pub none_out : (t : TableId) (u : Setup) (h : List Choice) (p : PassView) → p ≡ first_pass t u h → HasOut t u h 0 p × HasGiven 0 p
none_out t u h p is = (
  record {
    free = (ap (λ q. q.table) is, ap (λ q. q.known.phase) is);
    first = ap (λ q. q.known.number) is;
    setup = ap (λ q. q.known.setup) is;
    seen = ([], append-nil h ∙ sym (ap (λ q. q.known.seen) is));
    out = ap (λ q. q.known.out) is;
  },
  ap (λ (q : PassView). q.known.spare + 0) is,
)

pub splits_out : (t : TableId) (u : Setup) (h : List Choice) (k : ℕ) (p q : PassView) → k < 64 → HasOut t u h k p → HasGiven k p → q ≡ informed p (parted_known p.known) → HasOut t u h (k + 1) q × HasGiven (k + 1) q
splits_out t u h k p q low out few is =
    let given : p.known.spare + k ≡ 18446744073709551614 = few in
    let next : next_number p.known ≡ k + 2 = omega arith in (
      record {
        free = (ap (λ x. x.table) is ∙ out.free.0, ap (λ x. x.known.phase) is ∙ out.free.1);
        first = ap (λ x. x.known.number) is ∙ out.first;
        setup = ap (λ x. x.known.setup) is ∙ out.setup;
        seen = subst (IsPrefix h) (sym (ap (λ x. x.known.seen) is)) out.seen;
        out = ap (λ x. x.known.out) is ∙ (ap (λ (n : ℕ). n ∷ p.known.out) next ∙ (ap (λ (l : List ℕ). (k + 2) ∷ l) out.out ∙ ap numbers (sym (add-one k))));
      },
      (let spare : q.known.spare ≡ p.known.spare - 1 = ap (λ (x : PassView). x.known.spare) is in omega (arith, spare, given)),
    )

-- the number of a new pass
pub new_number : (k : ℕ) (p : PassView) → HasGiven k p → next_number p.known ≡ k + 2
new_number k p few = let given : p.known.spare + k ≡ 18446744073709551614 = few in omega arith

without_larger : (x n : ℕ) → n + 1 < x → without x (numbers n) ≡ numbers n
without_larger x zero lt = refl
without_larger x (suc n) lt = ap (λ (b : Bool). if b then without x (numbers n) else ((n + 2) ∷ without x (numbers n))) (ne_eqb x (n + 2) (λ e. omega arith)) ∙ ap (λ xs. (n + 2) ∷ xs) (without_larger x n (omega arith))

without_first : (n : ℕ) → without (n + 2) (numbers (suc n)) ≡ numbers n
without_first n = ap (λ (b : Bool). if b then without (n + 2) (numbers n) else ((n + 2) ∷ without (n + 2) (numbers n))) (eq-eqb (n + 2) (n + 2) refl) ∙ without_larger (n + 2) n (omega arith)

begins_longer : (x g h : List Choice) → IsPrefix x g → IsPrefix x h → IsPrefix x (longer g h)
begins_longer x g h p q = by (nat_lt (length g) (length h))
  where
    by : (b : Bool) → IsPrefix x (if b then h else g)
    by true = q
    by false = p

pub joins_out : (t : TableId) (u : Setup) (h : List Choice) (n : ℕ) (p o q : PassView) → HasOut t u h (n + 1) p → o.known.number ≡ n + 2 → IsPrefix h o.known.seen → q ≡ informed p (joined_known p.known o.known) → HasOut t u h n q
joins_out t u h n p o q out number begins is = record {
  free = (ap (λ x. x.table) is ∙ out.free.0, ap (λ x. x.known.phase) is ∙ out.free.1);
  first = ap (λ x. x.known.number) is ∙ out.first;
  setup = ap (λ x. x.known.setup) is ∙ out.setup;
  seen = subst (IsPrefix h) (sym (ap (λ x. x.known.seen) is)) (begins_longer h p.known.seen o.known.seen out.seen begins);
  out =
      ap (λ x. x.known.out) is
      ∙ (ap (λ (m : ℕ). without m p.known.out) number ∙ (ap (without (n + 2)) (out.out ∙ ap numbers (add-one n)) ∙ without_first n));
}

pub is_out : (n m : ℕ) (out : List ℕ) → m ≡ n + 2 → out ≡ numbers (n + 1) → IsAmong m out
is_out n m out e f = subst (IsAmong m) (sym (f ∙ ap numbers (add-one n))) (inl e)

-- ---- jobs

pub later_seated : {A B C E : Type 0} (t : TableId) (h : List Choice) (js ks : List (Job A Deployment B C E)) → AreSeated t h js → AreLater js ks → length ks ≡ length js → AreSeated t h ks
later_seated t h js ks seated later same k d lt =
    let inside : k < length js = omega (arith, lt, same) in
    let was = seated k d inside in
    let now = later k d inside in record {
      free = (now.pass.table ∙ was.free.0, now.pass.phase ∙ was.free.1);
      turn = now.turn ∙ was.turn;
      number = now.pass.number ∙ was.number;
      seen = (was.seen.0 ++ now.pass.seen.0, sym (append_assoc h was.seen.0 now.pass.seen.0) ∙ (ap (λ l. l ++ now.pass.seen.0) was.seen.1 ∙ now.pass.seen.1));
    }

-- ---- what came in, and what comes out

pub same_goes : {D : Type 0} (old new : View D) → new.setup ≡ old.setup → new.history ≡ old.history → GoesOnWith old new
same_goes old new setup history = record { setup = ap setup_told setup; history = ([], append-nil (choices_of old.history) ∙ sym (ap choices_of history)) }

-- it goes on with what the pass has seen
pub own_out : (t : TableId) (u : Setup) (h : List Choice) (k n : ℕ) (p : PassView) → n ≡ k → HasOut t u h k p → HasOut t p.known.setup p.known.seen n p
own_out t u h k n p same out = record { free = out.free; first = out.first; setup = refl; seen = ([], append-nil p.known.seen); out = out.out ∙ ap numbers (sym same) }

along : (xs ys zs : List Choice) → IsPrefix xs ys → IsPrefix ys zs → IsPrefix xs zs
along xs ys zs p q = (p.0 ++ q.0, sym (append_assoc xs p.0 q.0) ∙ (ap (λ l. l ++ q.0) p.1 ∙ q.1))

module _ {D : Type 0} where
  abbrev told_in : View D → Setup
  told_in v = setup_told v.setup

  abbrev seen_in : View D → List Choice
  seen_in v = choices_of v.history

  -- what the pass knew that all others were joined to
  pub shared : (t : TableId) (p q r : PassView) (k : ℕ) (new : View D) → HasOut t p.known.setup p.known.seen k q → HasOut t q.known.setup q.known.seen 0 r → Continues told_in seen_in r.known new → IsOf p.known new
  shared t p q r k new seats joined ends = record {
    setup = ends.setup ∙ (joined.setup ∙ seats.setup);
    history = along p.known.seen r.known.seen (seen_in new) (along p.known.seen q.known.seen r.known.seen seats.seen joined.seen) ends.seen;
  }

  -- no worker had begun
  pub unshared : (p : PassView) (mid new : View D) → Continues told_in seen_in p.known mid → GoesOnWith mid new → IsOf p.known new
  unshared p mid new ends goes = record { setup = goes.setup ∙ ends.setup; history = along p.known.seen (seen_in mid) (seen_in new) ends.seen goes.history }

  pub of_first : (t : TableId) (old new : View D) (p : PassView) → p ≡ first_pass t (told_in old) (seen_in old) → IsOf p.known new → GoesOnWith old new
  of_first t old new p is of = record {
    setup = of.setup ∙ ap (λ x. x.known.setup) is;
    history = subst (λ (l : List Choice). IsPrefix l (seen_in new)) (ap (λ x. x.known.seen) is) of.history;
  }

pub served_first : (t : TableId) (u : Setup) (h : List Choice) (p : PassView) (d : Deployment) → p ≡ first_pass t u h → IsServed u d → IsServed p.known.setup d
served_first t u h p d is served = subst (λ (x : Setup). IsServed x d) (sym (ap (λ q. q.known.setup) is)) served

-- the first pass has no other out
pub first_out : (t : TableId) (u : Setup) (h : List Choice) (p : PassView) → p ≡ first_pass t u h → HasOut t p.known.setup p.known.seen 0 p
first_out t u h p is = own_out t u h 0 0 p refl (none_out t u h p is).0

-- and has given none of its numbers
pub first_given : (t : TableId) (u : Setup) (h : List Choice) (p : PassView) → p ≡ first_pass t u h → HasGiven 0 p
first_given t u h p is = (none_out t u h p is).1
