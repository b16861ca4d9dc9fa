-- Words, numbers and commands.
use Rattle.std.proofs.Common.{◌≡◌, ℕ, ◌<◌, ◌^◌, Bool, true, false, ◌&&◌, nat_le, if◌then◌else◌, List, [], ◌∷◌, length, get_or, refl, sym, ◌∙◌, ap, subst, arith, decimal, Option, Some, None, ◌⊎◌, inl, inr, codes, IfSome}
use Rattle.std.specs.Str.{bytes_eq}
use Rattle.std.specs.Str.Parse.{digits_value}
use Rattle.std.proofs.lemmas.Fmt.{decimal_is_IsNumeral}
use Rattle.std.proofs.lemmas.Bool.{cases_Bool, and_parts, and_from, false_from_ne_true}
use Rattle.std.proofs.lemmas.Bool.Decides.{nat_tests}
use Rattle.std.proofs.lemmas.Slice.Eq.{bytes_eq-Decides}
use Rattle.slee_run.specs.declared.command.Command.{Command}
use Rattle.slee_run.specs.declared.command.Command.TheVariants as commands
use Rattle.slee_run.specs.Words.{texts, command_of, command_alone, command_of_two, number_within, workers_of, steps_of, seed_of, count_of, made_of, spelled, is_in_range, is_run_in_range, is_seed_in_range}
use denote.Ref.{Bor}

-- numbers

pub value_of_decimal : (n : ℕ) → n < 2 ^ 64 → digits_value 10 (decimal n) ≡ n
value_of_decimal n small = (decimal_is_IsNumeral n small).1

-- what is spelled as a number is read as that number
pub number_spelled : (low high n : ℕ) (word : List ℕ) → n < 2 ^ 64 → word ≡ decimal n
    → number_within low high word ≡ (if nat_le low n && nat_le n high then Some n else None)
number_spelled low high n word small is =
    rw (is, value_of_decimal n small, (bytes_eq-Decides (decimal n) (decimal n)).1 refl) refl

-- and what is no number's spelling isn't
pub number_none : (low high : ℕ) (word : List ℕ) → high < 2 ^ 64 → ((n : ℕ) → n < 2 ^ 64 → word ≡ decimal n → ⊥) → number_within low high word ≡ None
number_none low high word small none = rw (false_from_ne_true (spells && within) spelled) refl
  where
    number : ℕ
    number = digits_value 10 word

    spells : Bool
    spells = bytes_eq word (decimal number)

    within : Bool
    within = nat_le low number && nat_le number high

    spelled : (spells && within) ≡ true → ⊥
    spelled all =
        let parts = and_parts spells within all in
        let below = (and_parts (nat_le low number) (nat_le number high) parts.1).1 in
        let fits : number < 2 ^ 64 = grind (arith, nat_tests) in
        none number fits ((bytes_eq-Decides word (decimal number)).0 parts.0)

-- the words

pub one_word : (ws : List (Bor (List ℕ))) (d : Bor (List ℕ)) → length ws ≡ 1 → command_of (texts ws) ≡ command_alone (get_or ws 0 d).now
one_word [] d h = absurd (omega arith)
one_word (a ∷ []) d h = refl
one_word (a ∷ b ∷ ws) d h = absurd (omega arith)

pub three_words : (ws : List (Bor (List ℕ))) (d : Bor (List ℕ)) → length ws ≡ 3
    → command_of (texts ws) ≡ command_of_two (get_or ws 0 d).now (get_or ws 1 d).now (get_or ws 2 d).now
three_words [] d h = absurd (omega arith)
three_words (a ∷ []) d h = absurd (omega arith)
three_words (a ∷ b ∷ []) d h = absurd (omega arith)
three_words (a ∷ b ∷ c ∷ []) d h = refl
three_words (a ∷ b ∷ c ∷ e ∷ ws) d h = absurd (omega arith)

pub other_words : (ws : List (Bor (List ℕ))) → (length ws ≡ 1 → ⊥) → (length ws ≡ 3 → ⊥) → command_of (texts ws) ≡ None
other_words [] not_one not_three = refl
other_words (a ∷ []) not_one not_three = absurd (not_one refl)
other_words (a ∷ b ∷ []) not_one not_three = refl
other_words (a ∷ b ∷ c ∷ []) not_one not_three = absurd (not_three refl)
other_words (a ∷ b ∷ c ∷ e ∷ ws) not_one not_three = refl

-- commands and their spelling

record IsSpelled (words : List (List ℕ)) (command : Command) : Type 0 where
  pub spelled : spelled command ≡ words
  pub in_range : is_in_range command ≡ true

either : (test : Bool) (here there : Option Command) (command : Command) → (if test then here else there) ≡ Some command
    → ((test ≡ true) × (here ≡ Some command)) ⊎ (there ≡ Some command)
either true here there command is = inl (refl, is)
either false here there command is = inr is

alone : (verb : List ℕ) (command : Command) → command_alone verb ≡ Some command → IsSpelled (verb ∷ []) command
alone verb command is = elim (either (bytes_eq verb (codes "check")) (Some commands.Check) shows command is) [
  | inl here ↦ as_word (codes "check") commands.Check here.0 here.1 refl refl
  | inr other ↦ elim (either (bytes_eq verb (codes "show")) (Some commands.Show) compacts command other) [
    | inl here ↦ as_word (codes "show") commands.Show here.0 here.1 refl refl
    | inr last ↦ elim (either (bytes_eq verb (codes "compact")) (Some commands.Compact) None command last) [
      | inl here ↦ as_word (codes "compact") commands.Compact here.0 here.1 refl refl
      | inr none ↦ cc
    ]
  ]
]
  where
    compacts : Option Command
    compacts = if bytes_eq verb (codes "compact") then Some commands.Compact else None

    shows : Option Command
    shows = if bytes_eq verb (codes "show") then Some commands.Show else compacts

    as_word : (word : List ℕ) (made : Command) → bytes_eq verb word ≡ true → Some made ≡ Some command → spelled made ≡ word ∷ [] → is_in_range made ≡ true
        → IsSpelled (verb ∷ []) command
    as_word word made test same spelling range =
        let is_made : made ≡ command = cc in
        let verb_is : verb ≡ word = (bytes_eq-Decides verb word).0 test in
        record { spelled = ap spelled (sym is_made) ∙ spelling ∙ ap (λ (w : List ℕ). w ∷ []) (sym verb_is); in_range = ap is_in_range (sym is_made) ∙ range }

-- a number that was found
record IsFound (low high : ℕ) (word : List ℕ) (n : ℕ) : Type 0 where
  pub spelled : word ≡ decimal n
  pub above : nat_le low n ≡ true
  pub below : nat_le n high ≡ true

found : (low high : ℕ) (word : List ℕ) (n : ℕ) → number_within low high word ≡ Some n → IsFound low high word n
found low high word n is = by (cases_Bool (bytes_eq word (decimal number) && (nat_le low number && nat_le number high)))
  where
    number : ℕ
    number = digits_value 10 word

    by : ((bytes_eq word (decimal number) && (nat_le low number && nat_le number high)) ≡ true) ⊎ ((bytes_eq word (decimal number) && (nat_le low number && nat_le number high)) ≡ false)
        → IsFound low high word n
    by (inr none) = let never : None ≡ Some n = rw none at is in cc
    by (inl all) =
        let some : Some number ≡ Some n = rw all at is in
        let same : number ≡ n = cc in
        let parts = and_parts (bytes_eq word (decimal number)) (nat_le low number && nat_le number high) all in
        let range = and_parts (nat_le low number) (nat_le number high) parts.1 in
        subst (λ (k : ℕ). IsFound low high word k) same (record { spelled = (bytes_eq-Decides word (decimal number)).0 parts.0; above = range.0; below = range.1 })

-- two numbers that were found
record IsMade (make : ℕ → ℕ → Command) (first second : Option ℕ) (command : Command) : Type 0 where
  pub m : ℕ
  pub n : ℕ
  pub first_is : first ≡ Some m
  pub second_is : second ≡ Some n
  pub made : command ≡ make m n

made : (make : ℕ → ℕ → Command) (first second : Option ℕ) (command : Command) → made_of make first second ≡ Some command → IsMade make first second command
made make None second command is = cc
made make (Some m) None command is = cc
made make (Some m) (Some n) command is = record { m = m; n = n; first_is = refl; second_is = refl; made = cc }

two : (verb first second : List ℕ) (command : Command) → command_of_two verb first second ≡ Some command → IsSpelled (verb ∷ first ∷ second ∷ []) command
two verb first second command is = elim (either (bytes_eq verb (codes "play")) (run commands.Play) resumes command is) [
  | inl here ↦ run_word (codes "play") commands.Play here.0 here.1 (λ m n. refl) (λ m n. refl)
  | inr other ↦ elim (either (bytes_eq verb (codes "resume")) (run commands.Resume) gens command other) [
    | inl here ↦ run_word (codes "resume") commands.Resume here.0 here.1 (λ m n. refl) (λ m n. refl)
    | inr another ↦ elim (either (bytes_eq verb (codes "gen")) (seed commands.Gen) trials command another) [
      | inl here ↦ seed_word (codes "gen") commands.Gen here.0 here.1 (λ m n. refl) (λ m n. refl)
      | inr last ↦ elim (either (bytes_eq verb (codes "trial")) (seed commands.Trial) None command last) [
        | inl here ↦ seed_word (codes "trial") commands.Trial here.0 here.1 (λ m n. refl) (λ m n. refl)
        | inr none ↦ cc
      ]
    ]
  ]
]
  where
    run : (ℕ → ℕ → Command) → Option Command
    run make = made_of make (workers_of first) (steps_of second)

    seed : (ℕ → ℕ → Command) → Option Command
    seed make = made_of make (seed_of first) (count_of second)

    trials : Option Command
    trials = if bytes_eq verb (codes "trial") then seed commands.Trial else None

    gens : Option Command
    gens = if bytes_eq verb (codes "gen") then seed commands.Gen else trials

    resumes : Option Command
    resumes = if bytes_eq verb (codes "resume") then run commands.Resume else gens

    as_words : (word : List ℕ) (make : ℕ → ℕ → Command) (m n : ℕ) → bytes_eq verb word ≡ true → first ≡ decimal m → second ≡ decimal n → command ≡ make m n
        → spelled (make m n) ≡ word ∷ decimal m ∷ decimal n ∷ [] → is_in_range (make m n) ≡ true → IsSpelled (verb ∷ first ∷ second ∷ []) command
    as_words word make m n test first_is second_is is_made spelling range =
        let verb_is : verb ≡ word = (bytes_eq-Decides verb word).0 test in
        rw (is_made, first_is, second_is, verb_is) (record { spelled = spelling; in_range = range })

    run_word : (word : List ℕ) (make : ℕ → ℕ → Command) → bytes_eq verb word ≡ true → made_of make (workers_of first) (steps_of second) ≡ Some command
        → ((m n : ℕ) → spelled (make m n) ≡ word ∷ decimal m ∷ decimal n ∷ []) → ((m n : ℕ) → is_in_range (make m n) ≡ is_run_in_range m n)
        → IsSpelled (verb ∷ first ∷ second ∷ []) command
    run_word word make test is spelling range =
        let both = made make (workers_of first) (steps_of second) command is in
        let workers = found 1 64 first both.m both.first_is in
        let steps = found 1 1000000 second both.n both.second_is in
        as_words word make both.m both.n test workers.spelled steps.spelled both.made (spelling both.m both.n)
        (range both.m both.n ∙ and_from _ _ (and_from _ _ workers.above workers.below) (and_from _ _ steps.above steps.below))

    seed_word : (word : List ℕ) (make : ℕ → ℕ → Command) → bytes_eq verb word ≡ true → made_of make (seed_of first) (count_of second) ≡ Some command
        → ((m n : ℕ) → spelled (make m n) ≡ word ∷ decimal m ∷ decimal n ∷ []) → ((m n : ℕ) → is_in_range (make m n) ≡ is_seed_in_range m n)
        → IsSpelled (verb ∷ first ∷ second ∷ []) command
    seed_word word make test is spelling range =
        let both = made make (seed_of first) (count_of second) command is in
        let seed = found 0 4294967295 first both.m both.first_is in
        let count = found 0 100000 second both.n both.second_is in
        as_words word make both.m both.n test seed.spelled count.spelled both.made (spelling both.m both.n)
        (range both.m both.n ∙ and_from _ _ seed.below count.below)

is_spelled : (words : List (List ℕ)) (command : Command) → command_of words ≡ Some command → IsSpelled words command
is_spelled [] command is = cc
is_spelled (verb ∷ []) command is = alone verb command is
is_spelled (verb ∷ first ∷ []) command is = cc
is_spelled (verb ∷ first ∷ second ∷ []) command is = two verb first second command is
is_spelled (verb ∷ first ∷ second ∷ next ∷ more) command is = cc

pub command_spelled : (words : List (List ℕ)) (command : Command) → command_of words ≡ Some command → spelled command ≡ words
command_spelled words command is = (is_spelled words command is).spelled

pub command_in_range : (words : List (List ℕ)) (command : Command) → command_of words ≡ Some command → is_in_range command ≡ true
command_in_range words command is = (is_spelled words command is).in_range

-- a number in range is found in its spelling
in_range_found : (low high n : ℕ) → high < 2 ^ 64 → nat_le low n ≡ true → nat_le n high ≡ true → number_within low high (decimal n) ≡ Some n
in_range_found low high n small above below =
    let fits : n < 2 ^ 64 = grind (arith, nat_tests) in
    number_spelled low high n (decimal n) fits refl ∙ rw (above, below) refl

both_made : (make : ℕ → ℕ → Command) (m n : ℕ) (first second : Option ℕ) → first ≡ Some m → second ≡ Some n → made_of make first second ≡ Some (make m n)
both_made make m n first second first_is second_is = rw (first_is, second_is) refl

run_made : (make : ℕ → ℕ → Command) (m n : ℕ) → is_run_in_range m n ≡ true → made_of make (workers_of (decimal m)) (steps_of (decimal n)) ≡ Some (make m n)
run_made make m n range =
    let parts = and_parts (nat_le 1 m && nat_le m 64) (nat_le 1 n && nat_le n 1000000) range in
    let workers = and_parts (nat_le 1 m) (nat_le m 64) parts.0 in
    let steps = and_parts (nat_le 1 n) (nat_le n 1000000) parts.1 in
    both_made make m n _ _ (in_range_found 1 64 m (omega arith) workers.0 workers.1) (in_range_found 1 1000000 n (omega arith) steps.0 steps.1)

seed_made : (make : ℕ → ℕ → Command) (m n : ℕ) → is_seed_in_range m n ≡ true → made_of make (seed_of (decimal m)) (count_of (decimal n)) ≡ Some (make m n)
seed_made make m n range =
    let parts = and_parts (nat_le m 4294967295) (nat_le n 100000) range in
    both_made make m n _ _ (in_range_found 0 4294967295 m (omega arith) (zero_le m) parts.0) (in_range_found 0 100000 n (omega arith) (zero_le n) parts.1)
  where
    zero_le : (k : ℕ) → nat_le 0 k ≡ true
    zero_le k = grind (arith, nat_tests)

pub spelled_command : (command : Command) → is_in_range command ≡ true → command_of (spelled command) ≡ Some command
spelled_command commands.Check is = refl
spelled_command (commands.Play workers steps) is = run_made commands.Play workers steps is
spelled_command (commands.Resume workers steps) is = run_made commands.Resume workers steps is
spelled_command commands.Show is = refl
spelled_command commands.Compact is = refl
spelled_command (commands.Gen seed count) is = seed_made commands.Gen seed count is
spelled_command (commands.Trial seed count) is = seed_made commands.Trial seed count is

-- a command that is asked has its numbers in range
pub asked_in_range : (words : List (List ℕ)) (asked : Option Command) → asked ≡ command_of words → IfSome asked (λ command. is_in_range command ≡ true)
asked_in_range words None is = tt
asked_in_range words (Some command) is = command_in_range words command (sym is)
