use Rattle.std.proofs.Common.{◌≡◌, ℕ, ◌+◌, ◌-◌, List, ◌∷◌, [], ◌++◌, ◌∙◌, ap, sym, subst, map, length, decimal}
use Rattle.std.specs.declared.snapshot.Snapshot.{Snapshot}
use Rattle.trace_history.specs.Trace.{trace_text}
use Rattle.trace_history.specs.Ends.{AreEndsOf}
use Rattle.trace_history.specs.declared.entry.Entry.{Entry}
use Rattle.trace_history.proofs.LinesLemmas.{one_more}
use Rattle.trace_history.proofs.HistoryLemmas.{text_more, ends_more, room_left}
use Rattle.trace_history.proofs.history.History.push.Goals as goal

pub invariant_of-self : goal.invariant_of-self
invariant_of-self c =
    let value = λ (s : Snapshot Entry). s.value in
    let entries = map value c.self.inside.entries.items in
    let more : map value c.push_reserved-2.new.self.items ≡ entries ++ c.args.entry ∷ [] =
    ap (map value) c.push_reserved-2.ensures.items ∙ one_more value c.self.inside.entries.items c.of.result c.args.entry c.of.ensures in
    let number : c.next_number-number.result ≡ length entries + 1 =
    c.next_number-number.ensures.number ∙ ap (λ n. n + 1) (ap length c.deref.ensures.value ∙ c.self.invariant.1.number) in
    let text = text_more entries c.args.entry c.next_number-number.result c.self.inside.text.items c.add_text.new.text.items c.text.result.now number c.self.invariant.0 c.text.ensures c.add_text.ensures.text in
    subst (λ (es : List Entry). (c.add_text.new.text.items ≡ trace_text es) × AreEndsOf es c.push_reserved.new.self.items) (sym more)
    (text, ends_more entries c.args.entry c.self.inside.ends.items c.push_reserved.new.self.items c.add_text.new.text.items c.len.result c.self.invariant.1 text (c.len.ensures ∙ c.add_text.new.text.ok.0) c.push_reserved.ensures.items)

pub returns-clause-text_room : goal.returns-clause-text_room
returns-clause-text_room c =
    room_left c.next_number-number.result (length c.args.self.now.entries) _ _ _ _ c.self.inside.text.items c.add_text.new.text.items c.args.entry.lines
    (c.next_number-number.ensures.number ∙ ap (λ n. n + 1) (ap length c.deref.ensures.value ∙ c.self.invariant.1.number ∙ ap (λ v. length v.entries) c.self.view_is))
    (c.add_text.ensures.text ∙ ap (λ (ls : List ℕ). c.self.inside.text.items ++ (decimal c.next_number-number.result ++ 32 ∷ ls)) c.text.ensures) c.add_text.ensures.room (sym (ap (λ v. v.text_room) c.self.view_is) ∙ ap (λ n. c.self.inside.text.cap - n) c.self.inside.text.ok.0)
    (ap (λ n. c.add_text.new.text.cap - n) c.add_text.new.text.ok.0)
