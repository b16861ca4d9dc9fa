-- The words of the command line.
use Rattle.std.specs.Prelude.{ℕ, Bool, true, ◌&&◌, nat_le, if◌then◌else◌, List, [], ◌∷◌, map, codes, decimal, Some, None, option_map, option_and_then}
use Rattle.std.specs.Str.{bytes_eq}
use Rattle.std.specs.Str.Parse.{digits_value}
use Rattle.std.specs.declared.option.Option.{Option}
use Rattle.slee_run.specs.declared.command.Command.{Command}
use Rattle.slee_run.specs.declared.command.Command.TheVariants as commands
use denote.Ref.{Bor}

-- what the words point to
abbrev pub texts : List (Bor (List ℕ)) → List (List ℕ)
texts words = map (λ word. word.now) words

-- the number that a word spells, without a sign or a leading zero, if it lies in this range
abbrev pub number_within : ℕ → ℕ → List ℕ → Option ℕ
number_within low high word =
    if bytes_eq word (decimal (digits_value 10 word)) && (nat_le low (digits_value 10 word) && nat_le (digits_value 10 word) high)
    then Some (digits_value 10 word) else None

-- the most workers and steps of a run, the greatest seed, which is one of 32 bits, and the most lines that it gives
abbrev pub most_workers : ℕ
most_workers = 64

abbrev pub most_steps : ℕ
most_steps = 1000000

abbrev pub most_seed : ℕ
most_seed = 4294967295

abbrev pub most_lines : ℕ
most_lines = 100000

-- the numbers that the forms have: workers, steps, a seed, and a count of lines
abbrev pub workers_of : List ℕ → Option ℕ
workers_of word = number_within 1 most_workers word

abbrev pub steps_of : List ℕ → Option ℕ
steps_of word = number_within 1 most_steps word

abbrev pub seed_of : List ℕ → Option ℕ
seed_of word = number_within 0 most_seed word

abbrev pub count_of : List ℕ → Option ℕ
count_of word = number_within 0 most_lines word

-- the forms of one word
abbrev pub command_alone : List ℕ → Option Command
command_alone verb =
    if bytes_eq verb (codes "check") then Some commands.Check
    else (if bytes_eq verb (codes "show") then Some commands.Show
    else (if bytes_eq verb (codes "compact") then Some commands.Compact else None))

-- two numbers, and what they make
abbrev pub made_of : (ℕ → ℕ → Command) → Option ℕ → Option ℕ → Option Command
made_of make first second = option_and_then (λ m. option_map (λ n. make m n) second) first

-- the forms of a word and two numbers
abbrev pub command_of_two : List ℕ → List ℕ → List ℕ → Option Command
command_of_two verb first second =
    if bytes_eq verb (codes "play") then made_of commands.Play (workers_of first) (steps_of second)
    else (if bytes_eq verb (codes "resume") then made_of commands.Resume (workers_of first) (steps_of second)
    else (if bytes_eq verb (codes "gen") then made_of commands.Gen (seed_of first) (count_of second)
    else (if bytes_eq verb (codes "trial") then made_of commands.Trial (seed_of first) (count_of second) else None)))

-- what the words ask, if they are of a form and their numbers in range
abbrev pub command_of : List (List ℕ) → Option Command
command_of [] = None
command_of (verb ∷ []) = command_alone verb
command_of (verb ∷ first ∷ []) = None
command_of (verb ∷ first ∷ second ∷ []) = command_of_two verb first second
command_of (verb ∷ first ∷ second ∷ next ∷ more) = None

-- a command in words
abbrev pub spelled : Command → List (List ℕ)
spelled commands.Check = codes "check" ∷ []
spelled (commands.Play workers steps) = codes "play" ∷ decimal workers ∷ decimal steps ∷ []
spelled (commands.Resume workers steps) = codes "resume" ∷ decimal workers ∷ decimal steps ∷ []
spelled commands.Show = codes "show" ∷ []
spelled commands.Compact = codes "compact" ∷ []
spelled (commands.Gen seed count) = codes "gen" ∷ decimal seed ∷ decimal count ∷ []
spelled (commands.Trial seed count) = codes "trial" ∷ decimal seed ∷ decimal count ∷ []

-- the numbers of a run, and those of generated lines, are in range
abbrev pub is_run_in_range : ℕ → ℕ → Bool
is_run_in_range workers steps = (nat_le 1 workers && nat_le workers most_workers) && (nat_le 1 steps && nat_le steps most_steps)

abbrev pub is_seed_in_range : ℕ → ℕ → Bool
is_seed_in_range seed count = nat_le seed most_seed && nat_le count most_lines

-- the numbers of each command are in range
abbrev pub is_in_range : Command → Bool
is_in_range commands.Check = true
is_in_range (commands.Play workers steps) = is_run_in_range workers steps
is_in_range (commands.Resume workers steps) = is_run_in_range workers steps
is_in_range commands.Show = true
is_in_range commands.Compact = true
is_in_range (commands.Gen seed count) = is_seed_in_range seed count
is_in_range (commands.Trial seed count) = is_seed_in_range seed count
