-- a row more takes one of the room, and a row in the place of another takes none
use Rattle.std.proofs.Common.{◌≡◌, ℕ, ◌+◌, ◌^◌, ◌<◌, List, inl, inr, Bool, vec_len, true, false, refl, sym, ap, ◌∙◌, arith, length}
use Rattle.std.specs.Prelude.{nat_lt, not, ◌||◌}
use Rattle.std.specs.List.{list_any}
use Rattle.std.proofs.lemmas.Bool.{cases_Bool}
use Rattle.std.proofs.lemmas.Bool.Decides.{nat_tests}
use Rattle.rows_sorted.specs.Orders.{put}
use Rattle.rows_sorted.specs.Keys.{Key, Rises, is_key, key_before}
use Rattle.rows_leaves.proofs.CountLemmas.{put_again, put_anew}
use Rattle.rows_leaves.proofs.leaves.Leaves.put_row.Goals as goal

none_is : (b : Bool) → true ≡ not b → b ≡ false
none_is true wrong = cc
none_is false same = refl

some_is : (b : Bool) → false ≡ not b → b ≡ true
some_is true same = refl
some_is false wrong = cc

room_there : (there : Bool) (room : ℕ) → (there || nat_lt 0 room) ≡ true → there ≡ false → 0 < room
room_there there room asked none =
    let some : nat_lt 0 room ≡ true = rw none at asked in
    grind (arith, nat_tests)

keep_there : (there : Bool) (room spares : ℕ) → (there || nat_lt 0 room) ≡ true → (0 < room → 0 < spares) → (there || nat_lt 0 spares) ≡ true
keep_there true room spares asked some = refl
keep_there false room spares asked some =
    let left : 0 < room = grind (arith, nat_tests, asked) in
    let spare : 0 < spares = some left in
    grind (arith, nat_tests, spare)

put_fits : {Row : Type 0} (key : Row → Key) (row : Row) (rows : List Row) (room : ℕ) → Rises key rows → (list_any (λ other. is_key (key other) (key row)) rows || nat_lt 0 room) ≡ true → length rows + room < 2 ^ 64
    → length (put (λ x y. key_before (key x) (key y)) row rows) < 2 ^ 64
put_fits key row rows room rises asked bound = elim (cases_Bool (list_any (λ other. is_key (key other) (key row)) rows)) [
  | inl there ↦ omega (arith, bound, put_again key row rows rises there)
  | inr none ↦ omega (arith, bound, room_there _ room asked none, put_anew key row rows rises none)
]

pub keep_spare-requires-clause-few : goal.keep_spare-requires-clause-few
keep_spare-requires-clause-few g c = λ some. omega (arith, c.self.invariant.spared, c.self.invariant.counted, some)

pub put_in-requires-clause-room : goal.put_in-requires-clause-room
put_in-requires-clause-room g c =
    let asked = rw (← c.self.view_is) at c.requires in
    rw c.keep_spare.ensures.rows (keep_there _ c.self.inside.room (vec_len c.keep_spare.new.spares) asked c.keep_spare.ensures.room)

pub put_in-requires-clause-fits : goal.put_in-requires-clause-fits
put_in-requires-clause-fits g c =
    let asked = rw (← c.self.view_is) at c.requires in
    rw c.keep_spare.ensures.rows (put_fits g.R.Keyed.key c.args.row _ c.self.inside.room c.self.invariant.stands.rises asked (omega (arith, c.self.invariant.bounded, c.self.invariant.counted)))

pub overflow_add-self : goal.overflow_add-self
overflow_add-self g c =
    let asked = rw (← c.self.view_is) at c.requires in
    let none = rw c.keep_spare.ensures.rows at (none_is _ (sym c.if-put_in.true ∙ c.put_in.ensures.added)) in
    let room = room_there _ c.self.inside.room asked none in
    omega (arith, c.self.invariant.bounded, room)

pub overflow_sub-self : goal.overflow_sub-self
overflow_sub-self g c =
    let asked = rw (← c.self.view_is) at c.requires in
    let none = rw c.keep_spare.ensures.rows at (none_is _ (sym c.if-put_in.true ∙ c.put_in.ensures.added)) in
    let room = room_there _ c.self.inside.room asked none in
    omega (arith, room)

pub invariant_of-self : goal.invariant_of-self
invariant_of-self g c =
    let asked = rw (← c.self.view_is) at c.requires in
    let now = none_is _ (sym c.if-put_in.true ∙ c.put_in.ensures.added) in
    let none = rw c.keep_spare.ensures.rows at now in
    let room = room_there _ c.self.inside.room asked none in
    let more = ap length c.put_in.ensures.rows ∙ put_anew g.R.Keyed.key c.args.row _ c.keep_spare.ensures.stands.rises now in
    let kept = ap length c.keep_spare.ensures.rows in
    record {
      stands = c.put_in.ensures.stands;
      counted = omega (arith, c.self.invariant.counted, more, kept);
      spared = omega (arith, c.self.invariant.spared, c.put_in.ensures.slots, c.keep_spare.ensures.slots, room);
      bounded = omega (arith, c.self.invariant.bounded, room);
    }

pub invariant_of-self-else-put_in : goal.invariant_of-self-else-put_in
invariant_of-self-else-put_in g c =
    let there = some_is _ (sym c.if-put_in.false ∙ c.put_in.ensures.added) in
    let same = ap length c.put_in.ensures.rows ∙ put_again g.R.Keyed.key c.args.row _ c.keep_spare.ensures.stands.rises there in
    let kept = ap length c.keep_spare.ensures.rows in
    record {
      stands = c.put_in.ensures.stands;
      counted = c.self.invariant.counted ∙ sym (same ∙ kept);
      spared = omega (arith, c.self.invariant.spared, c.put_in.ensures.slots, c.keep_spare.ensures.slots);
      bounded = c.self.invariant.bounded;
    }

pub returns-then-put_in-clause-rows : goal.returns-then-put_in-clause-rows
returns-then-put_in-clause-rows g c = rw (← c.self.view_is) (rw c.keep_spare.ensures.rows at c.put_in.ensures.rows)

pub returns-then-put_in-clause-replaced : goal.returns-then-put_in-clause-replaced
returns-then-put_in-clause-replaced g c = λ there.
    let has = rw (← c.self.view_is) at there in
    let none = rw c.keep_spare.ensures.rows at (none_is _ (sym c.if-put_in.true ∙ c.put_in.ensures.added)) in
    let wrong : true ≡ false = sym has ∙ none in
    cc

pub returns-then-put_in-clause-whole : goal.returns-then-put_in-clause-whole
returns-then-put_in-clause-whole g c =
    let asked = rw (← c.self.view_is) at c.requires in
    let now = none_is _ (sym c.if-put_in.true ∙ c.put_in.ensures.added) in
    let none = rw c.keep_spare.ensures.rows at now in
    let room = room_there _ c.self.inside.room asked none in
    let more = ap length c.put_in.ensures.rows ∙ put_anew g.R.Keyed.key c.args.row _ c.keep_spare.ensures.stands.rises now in
    let kept = ap length c.keep_spare.ensures.rows in
    rw (← c.self.view_is) (omega (arith, more, kept, room))

pub returns-else-put_in-clause-rows : goal.returns-else-put_in-clause-rows
returns-else-put_in-clause-rows g c = rw (← c.self.view_is) (rw c.keep_spare.ensures.rows at c.put_in.ensures.rows)

pub returns-else-put_in-clause-whole : goal.returns-else-put_in-clause-whole
returns-else-put_in-clause-whole g c =
    let there = some_is _ (sym c.if-put_in.false ∙ c.put_in.ensures.added) in
    let same = ap length c.put_in.ensures.rows ∙ put_again g.R.Keyed.key c.args.row _ c.keep_spare.ensures.stands.rises there in
    let kept = ap length c.keep_spare.ensures.rows in
    rw (← c.self.view_is) (omega (arith, same, kept))
