-- What is written of a deployment.
use Rattle.std.specs.Prelude.{ℕ, true, [], ◌++◌, codes, decimal}
use Rattle.slee_value.specs.Escape.{escaped}
use Rattle.script_tree.specs.Tree.{Bytes}
use Rattle.deploy_schema.specs.Pointers.{printed}
use Rattle.deploy_json.specs.declared.fault.ReadFault.{ReadFault}
use Rattle.deploy_json.specs.declared.fault.ReadFault.TheVariants as faults
use Rattle.deploy_report.specs.Words.{check_word, shape_word, syntax_word}
use Rattle.deploy_report.specs.declared.counts.Counts.{Counts}

-- a kind of part, how many there are, and the end of the line
abbrev pub count_text : Bytes → ℕ → Bytes
count_text label count = label ++ (decimal count ++ codes "\n")

abbrev pub counts_text : Counts → Bytes
counts_text c =
    count_text (codes "events ") c.events ++ (count_text (codes "profiles ") c.profiles
    ++ (count_text (codes "tables ") c.tables ++ (count_text (codes "blocks ") c.blocks ++ count_text (codes "services ") c.services)))

-- a JSON pointer, with the whole document as a slash, as a word
abbrev pub pointer_word : Bytes → Bytes
pointer_word pointer = escaped true (printed pointer)

-- a line and a column
abbrev pub place_text : ℕ → ℕ → Bytes
place_text line column = decimal line ++ (codes ":" ++ decimal column)

-- a script, a place in it, and the word for what is wrong there
abbrev pub script_text : Bytes → ℕ → ℕ → Bytes → Bytes
script_text pointer line column word = pointer_word pointer ++ (codes " " ++ (place_text line column ++ (codes " " ++ word)))

-- What is wrong with bytes that are no deployment. Want of memory is no fault of theirs, and is told in other words.
abbrev pub fault_text : ReadFault → Bytes
fault_text faults.Json = codes "json"
fault_text (faults.Shape pointer kind) = codes "shape " ++ (pointer_word pointer ++ (codes " " ++ shape_word kind))
fault_text (faults.Syntax pointer line column kind) = codes "syntax " ++ script_text pointer line column (syntax_word kind)
fault_text (faults.Check pointer line column kind) = codes "check " ++ script_text pointer line column (check_word kind)
fault_text faults.NoMemory = []
