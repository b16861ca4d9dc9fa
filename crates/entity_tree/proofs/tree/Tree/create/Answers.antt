-- the new entity stands last, and what the store keeps goes on
use Rattle.std.proofs.Common.{w8, ◌+◌, ◌∙◌, arith}
use Rattle.std.proofs.lemmas.Int.{to_z-of_z}
use Rattle.entity_tree.proofs.KeptLemmas.{added_keeps, next_is_childless, next_is_free, next_stands_last, stem_is_drawn}
use Rattle.entity_tree.proofs.tree.Tree.create.Goals as goal

pub add-requires-clause-absent : goal.add-requires-clause-absent
add-requires-clause-absent c = next_is_free _ _ c.self.invariant.0

pub add-requires-clause-parent : goal.add-requires-clause-parent
add-requires-clause-parent c = stem_is_drawn c.self.inside.next c.args.stem c.self.inside.rows.rows c.self.invariant.0 (rw (← c.self.view_is) at c.requires.parent)

pub invariant_of-self : goal.invariant_of-self
invariant_of-self c =
    let room = rw (← c.self.view_is) at c.requires.room in
    let parent = stem_is_drawn c.self.inside.next c.args.stem c.self.inside.rows.rows c.self.invariant.0 (rw (← c.self.view_is) at c.requires.parent) in (
      added_keeps c.self.inside.next (c.self.inside.next + 1) _ c.self.inside.rows.rows c.add.new.rows.rows c.self.invariant.0 (omega arith) (omega arith) parent c.add.ensures.rows,
      c.add.ensures.index,
      c.add.ensures.depths (next_is_childless c.self.inside.next c.self.inside.rows.rows c.self.invariant.0),
      omega (arith, room, c.add.ensures.room, c.add.ensures.whole, c.self.invariant.3),
      omega (arith, room, c.add.ensures.room, c.add.ensures.whole, c.self.invariant.4),
    )

pub returns-clause-rows : goal.returns-clause-rows
returns-clause-rows c =
    let stands = c.add.ensures.rows ∙ next_stands_last _ c.self.inside.rows.rows c.self.invariant.0 in
    let same = rw (to_z-of_z w8 c.args.priority c.ranges.priority) at stands in
    rw (← c.self.view_is) same
