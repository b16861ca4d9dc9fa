use Rattle.signal_script.proofs.FieldLemmas.{fields_stay}
use Rattle.signal_script.proofs.fields.Fields.push.Goals as goal

pub invariant_of-self-2 : goal.invariant_of-self-2
invariant_of-self-2 c =
    fields_stay c.self.inside.text.items c.args.name.now c.args.value.now c.add_parts-name.new.text.items c.self.inside.ends.items c.push_reserved.new.self.items
    (record { name = c.add_parts-name.result.0; value = c.add_parts-name.result.1 }) c.self.invariant c.requires c.utf8.value
    (rw (← c.reserve-2.ensures.items, ← c.as_bytes.ensures.value, ← c.as_bytes-2.ensures.value) c.add_parts-name.ensures.text)
    (rw (← c.reserve.ensures.items) c.push_reserved.ensures.items)
    (rw (← c.reserve-2.ensures.items, ← c.as_bytes.ensures.value) c.add_parts-name.ensures.name)
    (rw (← c.reserve-2.ensures.items, ← c.as_bytes.ensures.value, ← c.as_bytes-2.ensures.value) c.add_parts-name.ensures.value)
