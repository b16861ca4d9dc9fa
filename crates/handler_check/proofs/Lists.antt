-- Lists of programs, item by item.
use Rattle.std.proofs.Common.{◌≡◌, ◌+◌, ◌++◌, ℕ, true, false, cond, List, [], ◌∷◌, map, filter, option_map, Ok, Err, refl, sym, ap, ◌∙◌}
use Rattle.script_types.specs.declared.codes.CodePart.TheVariants as part
use Rattle.script_types.specs.declared.codes.HandlerCode.{HandlerCode}
use Rattle.script_types.specs.declared.codes.MethodCode.{MethodCode}
use Rattle.script_types.specs.declared.codes.BlockCode.{BlockCode}
use Rattle.script_types.specs.declared.checked_script.BlockSteps.{BlockSteps}
use Rattle.script_tree.specs.Script.{tree_of_script}
use Rattle.script_tree.specs.Tree.{Bytes}
use Rattle.script_types.specs.declared.symbol.Symbol.{Symbol}
use Rattle.script_types.specs.Codes.{Codes, Block, Handler, symbol_of}
use Rattle.script_types.specs.CodesOf.{handler_of_code, method_of_code, block_of_code}
use Rattle.script_types.specs.Typing.{handler_task, method_task}
use Rattle.script_types.specs.Program.{Steps, HandlerProgram, MethodProgram, BlockProgram}
use Rattle.script_types.specs.Programs.{Built, ◌>>=◌, steps_of, place_of, handlers_of, methods_of, callback_of, block_of, blocks_of}
use Rattle.script_types.specs.ProgramOf.{handler_program_of, method_program_of, block_program_of, steps_of as steps_in}
use Rattle.script_types.specs.TypingExpressions.{OnException, OnRolledBack, OnRemove}
use Rattle.handler_check.specs.Building.{each}
use Rattle.handler_check.specs.Items.{handler_built, method_built}

-- an item in front of others
abbrev pub put : {B : Type 0} → B → List B → Built (List B)
put one others = Ok (one ∷ others)

-- others with those that are made already in front of them
abbrev pub behind : {B : Type 0} → List B → List B → Built (List B)
behind made others = Ok (made ++ others)

-- the same goes on behind a check
then_same : {A B : Type 0} (m : Built A) (f g : A → Built B) → ((x : A) → f x ≡ g x) → (m >>= f) ≡ (m >>= g)
then_same (Ok x) f g h = h x
then_same (Err fault) f g h = refl

-- two steps in one
then_then : {A B C : Type 0} (m : Built A) (f : A → B) (g : B → Built C) → ((m >>= λ x. (let z : Built B = Ok (f x) in z)) >>= g) ≡ (m >>= λ x. g (f x))
then_then (Ok x) f g = refl
then_then (Err fault) f g = refl

-- the handlers, methods and blocks of codes, each by its number
pub handlers_are : (all : Codes) (block : Block) (number n : ℕ) (xs : List HandlerCode) → handlers_of all block number n (map handler_of_code xs) ≡ each (λ n h. handler_built all block number n (handler_of_code h)) n xs
handlers_are all block number n [] = refl
handlers_are all block number n (h ∷ hs) =
    let m = steps_of all block (place_of number (part.Handler n)) (handler_task all (handler_of_code h)) in
    let one : Steps → HandlerProgram = λ steps. record { event = h.event; steps = steps } in
    let rest : Built (List HandlerProgram) = each (λ n h. handler_built all block number n (handler_of_code h)) (n + 1) hs in
    then_same m (λ steps. handlers_of all block number (n + 1) (map handler_of_code hs) >>= put (one steps)) (λ steps. rest >>= put (one steps)) (λ steps. ap (λ (r : Built (List HandlerProgram)). r >>= put (one steps)) (handlers_are all block number (n + 1) hs))
    ∙ sym (then_then m one (λ x. rest >>= put x))

pub methods_are : (all : Codes) (block : Block) (number n : ℕ) (xs : List MethodCode) → methods_of all block number n (map method_of_code xs) ≡ each (λ n x. method_built all block number n (method_of_code x)) n xs
methods_are all block number n [] = refl
methods_are all block number n (x ∷ xs) =
    let m = steps_of all block (place_of number (part.Method n)) (method_task (method_of_code x)) in
    let one : Steps → MethodProgram = λ steps. record { result = x.result; steps = steps } in
    let rest : Built (List MethodProgram) = each (λ n x. method_built all block number n (method_of_code x)) (n + 1) xs in
    then_same m (λ steps. methods_of all block number (n + 1) (map method_of_code xs) >>= put (one steps)) (λ steps. rest >>= put (one steps)) (λ steps. ap (λ (r : Built (List MethodProgram)). r >>= put (one steps)) (methods_are all block number (n + 1) xs))
    ∙ sym (then_then m one (λ y. rest >>= put y))

pub blocks_are : (all : Codes) (n : ℕ) (xs : List BlockCode) → blocks_of all n (map block_of_code xs) ≡ each (λ n x. block_of all n (block_of_code x)) n xs
blocks_are all n [] = refl
blocks_are all n (x ∷ xs) = ap (λ (r : Built (List BlockProgram)). block_of all n (block_of_code x) >>= λ one. r >>= put one) (blocks_are all (n + 1) xs)

-- the masked events of handlers, as they are kept and as a value
masks_are : (all : Codes) (xs : List HandlerCode) → map (λ (h : Handler). symbol_of all h.event) (filter (λ (h : Handler). h.mask) (map handler_of_code xs)) ≡ map (λ (h : HandlerCode). symbol_of all h.event) (filter (λ (h : HandlerCode). h.mask) xs)
masks_are all [] = refl
masks_are all (x ∷ xs) =
    elim x.mask as (λ b. map (λ (h : Handler). symbol_of all h.event) (cond b (handler_of_code x ∷ filter (λ (h : Handler). h.mask) (map handler_of_code xs)) (filter (λ (h : Handler). h.mask) (map handler_of_code xs))) ≡ map (λ (h : HandlerCode). symbol_of all h.event) (cond b (x ∷ filter (λ (h : HandlerCode). h.mask) xs) (filter (λ (h : HandlerCode). h.mask) xs)))
    [ true ↦ ap (λ events. symbol_of all x.event ∷ events) (masks_are all xs) | false ↦ masks_are all xs ]

-- a block is made of what its parts are made into
pub block_made : (all : Codes) (number : ℕ) (b : BlockCode) (made : BlockSteps) (xs : List HandlerCode) → xs ≡ b.handlers
    → handlers_of all (block_of_code b) number 0 (map handler_of_code b.handlers) ≡ Ok (map handler_program_of made.handlers)
    → methods_of all (block_of_code b) number 0 (map method_of_code b.methods) ≡ Ok (map method_program_of made.methods)
    → callback_of all (block_of_code b) (place_of number part.Exception) OnException (option_map tree_of_script b.exception) ≡ Ok (option_map steps_in made.exception)
    → callback_of all (block_of_code b) (place_of number part.RolledBack) OnRolledBack (option_map tree_of_script b.rolled_back) ≡ Ok (option_map steps_in made.rolled_back)
    → callback_of all (block_of_code b) (place_of number part.Remove) OnRemove (option_map tree_of_script b.remove) ≡ Ok (option_map steps_in made.remove)
    → made.masks ≡ map (λ (h : HandlerCode). symbol_of all h.event) (filter (λ (h : HandlerCode). h.mask) xs)
    → block_of all number (block_of_code b) ≡ Ok (block_program_of made)
block_made all number b made xs same handlers methods exception rolled_back remove masks =
    let with_masks : List (Symbol Bytes) → BlockProgram = λ events. record { masks = events; handlers = map handler_program_of made.handlers; methods = map method_program_of made.methods; exception = option_map steps_in made.exception; rolled_back = option_map steps_in made.rolled_back; remove = option_map steps_in made.remove } in
    let events : List HandlerCode → List (Symbol Bytes) = λ hs. map (λ (h : HandlerCode). symbol_of all h.event) (filter (λ (h : HandlerCode). h.mask) hs) in
    rw (handlers, methods, exception, rolled_back, remove) (ap (λ m. let z : Built BlockProgram = Ok (with_masks m) in z) (masks_are all b.handlers ∙ ap events (sym same) ∙ sym masks))
