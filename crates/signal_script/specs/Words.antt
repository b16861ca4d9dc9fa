-- The words for what may be wrong with a line.
use Rattle.std.specs.Prelude.{ℕ, List, codes}
use Rattle.signal_script.specs.declared.fault.SignalBad.{SignalBad}
use Rattle.signal_script.specs.declared.fault.SignalBad.TheVariants as bads

abbrev pub bad_word : SignalBad → List ℕ
bad_word bads.Long = codes "long"
bad_word bads.Control = codes "control"
bad_word bads.Utf8 = codes "utf8"
bad_word bads.Empty = codes "empty"
bad_word bads.Verb = codes "verb"
bad_word bads.Count = codes "count"
bad_word bads.Name = codes "name"
bad_word bads.Number = codes "number"
bad_word bads.Field = codes "field"
bad_word bads.Escape = codes "escape"
