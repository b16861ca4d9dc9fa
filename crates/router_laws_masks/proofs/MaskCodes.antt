-- The events that a block of a program masks first are those that attaching an entity of the block masks in the deployment of the same parts.
use Rattle.std.proofs.Common.{◌≡◌, ℕ, zero, suc, ◌+◌, ◌||◌, Bool, true, false, inl, inr, List, [], ◌∷◌, filter, map, Option, Some, None, refl, sym, ap, ◌∙◌, if◌then◌else◌}
use Rattle.std.specs.Prelude.{Ok, slice_get}
use Rattle.std.specs.List.{list_any}
use Rattle.std.specs.Option.{option_map_or}
use Rattle.std.specs.Str.{bytes_eq}
use Rattle.std.proofs.lemmas.Bool.{cases_Bool}
use Rattle.slee_value.specs.Order.{is_below}
use Rattle.script_tree.specs.Tree.{Bytes}
use Rattle.script_types.specs.Codes.{Block as BlockCodes, Codes, symbol_of}
use Rattle.script_types.specs.CodesOf.{block_of_code, codes_of, handler_of_code}
use Rattle.script_types.specs.Program.{BlockProgram, Program}
use Rattle.script_types.specs.declared.symbol.Symbol.{Symbol}
use Rattle.script_types.specs.Programs.{block_of, blocks_of, callback_of, handlers_of, masks_of, methods_of, program_of}
use Rattle.script_laws.proofs.SafePrograms.{built_ok, built_same}
use Rattle.deploy_model.specs.Deployed.{Deployed, DeployedBlock, Handling, in_order, masked_on_attach, with_text}
use Rattle.deploy_model.specs.Resolving as resolving
use Rattle.deploy_model.specs.Resolving.{deployed_of}
use Rattle.deploy_model.specs.Rules.{Numbering}
use Rattle.deploy_model.specs.Tables.{key_number}
use Rattle.deploy_model.specs.declared.parts.Block.{Block}
use Rattle.deploy_model.specs.declared.parts.BlockEvent.{BlockEvent}
use Rattle.deploy_model.specs.declared.parts.Parts.{Parts}
use Rattle.slee_descriptor.specs.CodesOfParts.{block_code, codes_in, handler_code}
use Rattle.router_laws_written.specs.Held.{BeginsWith}

some_same : {A : Type 0} {x y : A} → Some x ≡ Some y → x ≡ y
some_same same = cc

-- an order has the same texts

among_put : (event text : Bytes) (texts : List Bytes) → list_any (bytes_eq event) (with_text text texts) ≡ (bytes_eq event text || list_any (bytes_eq event) texts)
among_put event text [] = refl
among_put event text (other ∷ texts) = elim (cases_Bool (is_below text other)) [
  | inl below ↦ rw below refl
  | inr isnt ↦ rw isnt (ap (λ b. bytes_eq event other || b) (among_put event text texts) ∙ turned (bytes_eq event other) (bytes_eq event text) (list_any (bytes_eq event) texts))
]
  where
    turned : (b c d : Bool) → (b || (c || d)) ≡ (c || (b || d))
    turned true true d = refl
    turned true false d = refl
    turned false true d = refl
    turned false false d = refl

among_order : (event : Bytes) (texts : List Bytes) → list_any (bytes_eq event) (in_order texts) ≡ list_any (bytes_eq event) texts
among_order event [] = refl
among_order event (text ∷ texts) = among_put event text (in_order texts) ∙ ap (λ b. bytes_eq event text || b) (among_order event texts)

-- the masked events of a block, as it is deployed and as codes have it
same_names : (all : Codes) (rows : List BlockEvent)
    → map (λ (h : Handling). h.event) (filter (λ (h : Handling). h.mask) (map resolving.handling_of rows)) ≡ map (λ (x : Symbol Bytes). x.name) (map (λ h. symbol_of all h.event) (filter (λ h. h.mask) (map handler_of_code (map handler_code rows))))
same_names all [] = refl
same_names all (row ∷ rows) = elim (cases_Bool row.mask) [
  | inl is ↦ rw is (ap (λ names. row.event ∷ names) (same_names all rows))
  | inr isnt ↦ rw isnt (same_names all rows)
]

-- a block of a program has the masks of its codes

block_masks : (all : Codes) (n : ℕ) (block : BlockCodes) (one : BlockProgram) → block_of all n block ≡ Ok one → one.masks ≡ masks_of all block
block_masks all n block one is =
    let a = built_ok (handlers_of all block n 0 block.handlers) _ one is in
    let b = built_ok (methods_of all block n 0 block.methods) _ one a.2 in
    let c = built_ok (callback_of all block _ _ block.exception) _ one b.2 in
    let d = built_ok (callback_of all block _ _ block.rolled_back) _ one c.2 in
    let e = built_ok (callback_of all block _ _ block.remove) _ one d.2 in
    sym (ap (λ (x : BlockProgram). x.masks) (built_same _ one e.2))

program_block : (all : Codes) (number : ℕ) (blocks : List BlockCodes) (program : Program) (n : ℕ) (one : BlockProgram) → blocks_of all number blocks ≡ Ok program → slice_get program n ≡ Some one
    → (block : BlockCodes) × (slice_get blocks n ≡ Some block) × (one.masks ≡ masks_of all block)
program_block all number [] program n one is there = none n (ap (λ (x : Program). slice_get x n) (built_same [] program is) ∙ there)
  where
    none : (n : ℕ) → slice_get [] n ≡ Some one → (block : BlockCodes) × (slice_get [] n ≡ Some block) × (one.masks ≡ masks_of all block)
    none n same = absurd (cc)
program_block all number (block ∷ blocks) program n one is there =
    let a = built_ok (block_of all number block) _ program is in
    let b = built_ok (blocks_of all (number + 1) blocks) _ program a.2 in
    placed a.0 b.0 (block_masks all number block a.0 a.1) n (λ m found. program_block all (number + 1) blocks b.0 m one b.1 found) (ap (λ (x : Program). slice_get x n) (built_same (a.0 ∷ b.0) program b.2) ∙ there)
  where
    placed : (head : BlockProgram) (rest : Program) → head.masks ≡ masks_of all block → (n : ℕ) → ((m : ℕ) → slice_get rest m ≡ Some one → (next : BlockCodes) × (slice_get blocks m ≡ Some next) × (one.masks ≡ masks_of all next))
        → slice_get (head ∷ rest) n ≡ Some one → (next : BlockCodes) × (slice_get (block ∷ blocks) n ≡ Some next) × (one.masks ≡ masks_of all next)
    placed head rest masks zero later same = (block, refl, ap (λ (x : BlockProgram). x.masks) (sym (some_same same)) ∙ masks)
    placed head rest masks (suc m) later same = later m same

-- blocks by their place

nth_mapped : {A B C : Type 0} (f : A → B) (g : B → C) (xs : List A) (n : ℕ) (y : C) → slice_get (map g (map f xs)) n ≡ Some y → (x : A) × (slice_get xs n ≡ Some x) × (g (f x) ≡ y)
nth_mapped f g [] n y is = absurd (cc)
nth_mapped f g (x ∷ xs) zero y is = (x, refl, some_same is)
nth_mapped f g (x ∷ xs) (suc n) y is = nth_mapped f g xs n y is

nth_of : {A B : Type 0} (f : A → B) (xs : List A) (n : ℕ) (x : A) → slice_get xs n ≡ Some x → slice_get (map f xs) n ≡ Some (f x)
nth_of f [] n x is = absurd (cc)
nth_of f (y ∷ ys) zero x is = ap (λ z. Some (f z)) (some_same is)
nth_of f (y ∷ ys) (suc n) x is = nth_of f ys n x is

-- of a deployment and a program of the same parts
pub program_masks : (p : Parts) (program : Program) (n : ℕ) (one : BlockProgram) (event : Bytes) → program_of (codes_of (codes_in p [])) ≡ Ok program → slice_get program n ≡ Some one → BeginsWith (deployed_of p) event (map (λ (x : Symbol Bytes). x.name) one.masks) n
program_masks p program n one event is there =
    let all : Codes = codes_of (codes_in p []) in
    let ns : Numbering = key_number (λ (b : Block). b.key) p.blocks in
    let found = program_block all 0 all.blocks program n one is there in
    let row = nth_mapped (block_code ns) block_of_code p.blocks n found.0 found.1 in
    let place : slice_get (map (resolving.block_of ns) p.blocks) n ≡ Some (resolving.block_of ns row.0) = nth_of (resolving.block_of ns) p.blocks n row.0 row.1 in
    ap (λ (o : Option DeployedBlock). list_any (bytes_eq event) (option_map_or (λ (b : DeployedBlock). in_order (map (λ (h : Handling). h.event) (filter (λ (h : Handling). h.mask) b.events))) o [])) place
    ∙ among_order event (map (λ (h : Handling). h.event) (filter (λ (h : Handling). h.mask) (map resolving.handling_of row.0.events)))
    ∙ ap (list_any (bytes_eq event)) (same_names all row.0.events)
    ∙ ap (λ (b : BlockCodes). list_any (bytes_eq event) (map (λ (x : Symbol Bytes). x.name) (masks_of all b))) row.2
    ∙ ap (λ names. list_any (bytes_eq event) (map (λ (x : Symbol Bytes). x.name) names)) (sym found.2)
