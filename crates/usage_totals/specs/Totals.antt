-- The usage totals of a history, and all that a run prints of it.
use Rattle.std.specs.Prelude.{ℕ, ◌+◌, ℤ, ◌+ℤ◌, Bool, if◌then◌else◌, List, [], ◌++◌, map, codes, decimal}
use Rattle.std.specs.List.{fold, list_any}
use Rattle.std.specs.Fmt.{signed_decimal}
use Rattle.std.specs.Option.{option_map_or}
use Rattle.std.specs.Str.{bytes_eq}
use Rattle.slee_value.specs.Order.{is_below}
use Rattle.rows_sorted.specs.Keys.{Key, text_key}
use Rattle.rows_sorted.specs.Orders.{put}
use Rattle.signal_script.specs.Lines.{lines_of, words_of}
use Rattle.trace_history.specs.Lines.{line_text, line_texts}
use Rattle.trace_history.specs.Trace.{trace_text}
use Rattle.trace_history.specs.declared.entry.Entry.{Entry}
use Rattle.usage_totals.specs.Usage.{usage_in}
use Rattle.usage_totals.specs.declared.total.Total.{Total}

-- totals stand by their names
abbrev pub total_key : Total → Key
total_key row = text_key 0 row.name

-- totals stand in byte order
abbrev pub total_before : Total → Total → Bool
total_before x y = is_below x.name y.name

-- an amount more, where the total has this name
abbrev pub raised : List ℕ → ℤ → Total → Total
raised name amount row = if bytes_eq row.name name then record row { count = row.count + 1; sum = row.sum +ℤ amount } else row

-- an amount is added to the total of its name, which is put in its place where it isn't there yet
abbrev pub with_amount : List ℕ → ℤ → List Total → List Total
with_amount name amount rows =
    if list_any (λ (row : Total). bytes_eq row.name name) rows then map (raised name amount) rows
    else put total_before (record { name = name; count = 1; sum = amount }) rows

-- what a line adds
abbrev pub with_line : List Total → List ℕ → List Total
with_line rows line = option_map_or (λ usage. with_amount usage.0 usage.1 rows) (usage_in (words_of line)) rows

-- the lines of a history as they are printed: a heading has its number before it
abbrev pub printed_lines : List Entry → List (List ℕ)
printed_lines history = lines_of (trace_text history)

-- the totals of all printed lines of a history
abbrev pub usage_totals : List Entry → List Total
usage_totals history = fold with_line [] (printed_lines history)

-- the line of a total
abbrev pub total_line : Total → List ℕ
total_line row = codes "usage " ++ (row.name ++ (codes " " ++ (decimal row.count ++ (codes " " ++ signed_decimal row.sum))))

-- the lines of all totals, in byte order
abbrev pub total_lines : List Entry → List (List ℕ)
total_lines history = map total_line (usage_totals history)

-- the entries, the usage totals and a status line
abbrev pub output_text : List Entry → List ℕ → List ℕ
output_text history status = trace_text history ++ (line_texts (total_lines history) ++ line_text status)
