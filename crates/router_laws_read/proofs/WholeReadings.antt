-- Every deployment that was read is as the laws of runs ask it.
use Rattle.std.proofs.Common.{◌≡◌, ℕ, zero, suc, ◌==◌, ◌^◌, Bool, true, false, arith, not, List, [], ◌∷◌, map, Some, refl, sym, ap, ◌∙◌, subst, inl, inr}
use Rattle.std.specs.Prelude.{Ok, codes, is_some, option_and_then, slice_get, ℤ, int_lt, pos, nat_le, nat_lt, unsigned_abs, cond}
use Rattle.std.specs.List.{AllByRecursion, list_all}
use Rattle.std.specs.Str.{bytes_eq}
use Rattle.std.proofs.lemmas.Bool.{and_from, and_parts, cases_Bool}
use Rattle.std.proofs.lemmas.Bool.Decides.{nat_tests}
use Rattle.std.proofs.lemmas.Slice.Eq.{bytes_eq-Decides}
use Rattle.slee_value.specs.Name.{is_byte_of_name, is_letter, is_name}
use Rattle.script_types.specs.Codes.{Block, named, relation_named}
use Rattle.script_types.specs.Codes as scripts
use Rattle.script_types.specs.CodesOf.{block_of_code, codes_of}
use Rattle.script_types.specs.ProgramOf.{kept_program}
use Rattle.script_types.specs.Programs.{program_of}
use Rattle.script_types.specs.declared.codes.EventCode.{EventCode}
use Rattle.script_types.specs.declared.codes.RelationCode.{RelationCode}
use Rattle.deploy_json.proofs.Codes.{codes_same}
use Rattle.deploy_json.proofs.Shaped.{shaped}
use Rattle.deploy_json.specs.Checking.{read_as, reading_of}
use Rattle.deploy_json.specs.Reading.{parts_of}
use Rattle.deploy_json.specs.Rows.{PartsRow, parts_row}
use Rattle.deploy_json.specs.Shapes.{IsEventType}
use Rattle.deploy_json.specs.Values.{event_type_of}
use Rattle.deploy_model.specs.Deployed.{DeployedBlock}
use Rattle.deploy_model.specs.Resolving as resolving
use Rattle.deploy_model.specs.Resolving.{deployed_of}
use Rattle.deploy_model.specs.Rules.{Numbering}
use Rattle.deploy_model.specs.Tables.{key_number}
use Rattle.deploy_model.specs.declared.parts.Block.{Block as BlockPart}
use Rattle.deploy_model.specs.declared.parts.EventType.{EventType}
use Rattle.deploy_model.specs.declared.parts.Parts.{Parts}
use Rattle.deploy_schema.specs.Numbers.{items_at}
use Rattle.slee_descriptor.specs.CodesOfParts.{block_code, codes_in}
use Rattle.slee_descriptor.specs.declared.deployment.Deployment.{Deployment}
use Rattle.router_laws_deployed.proofs.Declared.{read_document}
use Rattle.router_laws_deployed.proofs.Programmed.{programmed}
use Rattle.router_laws_deployed.proofs.Ranks.{relation_ranks}
use Rattle.router_laws_deployed.proofs.Readings.{reading_handlers, reading_parts, reading_program}
use Rattle.router_laws_deployed.proofs.WholeDeployments.{all_each, read_is_deployed}
use Rattle.router_laws_histories.specs.Words.{IsWord}
use Rattle.router_laws_read.proofs.Scripts.{ScriptsSpelled, scripts_spelled}
use Rattle.router_laws_runs.specs.AsRead.{IsAsRead}
use Rattle.router_laws_spelled.proofs.Programs.{program_spelled}
use Rattle.router_laws_spelled.specs.Written.{BlockWritten}
use Rattle.router_laws_steps.proofs.Told.{word_from}
use Rattle.router_laws_steps.specs.About.{AreWords}
use Rattle.router_laws_suiting.specs.Declared.{AreSpelled}
use Rattle.router_state.specs.Fits.{is_i64, is_priority}

-- constants

-- a priority has 64 bits
rank_spelled : (z : ℤ) → is_priority z ≡ true → is_i64 z ≡ true
rank_spelled z is = by (int_lt z (pos 0)) is
  where
    lower : (n : ℕ) → nat_le n 128 ≡ true → nat_le n (2 ^ 63) ≡ true
    lower n is = grind (arith, nat_tests, is)

    less : (n : ℕ) → nat_lt n 128 ≡ true → nat_lt n (2 ^ 63) ≡ true
    less n is = grind (arith, nat_tests, is)

    by : (b : Bool) → cond b (nat_le (unsigned_abs z) 128) (nat_lt (unsigned_abs z) 128) ≡ true → cond b (nat_le (unsigned_abs z) (2 ^ 63)) (nat_lt (unsigned_abs z) (2 ^ 63)) ≡ true
    by true is = lower (unsigned_abs z) is
    by false is = less (unsigned_abs z) is

some_same : {A : Type 0} {x y : A} → Some x ≡ Some y → x ≡ y
some_same same = cc

nth_mapped : {A B C : Type 0} (f : A → B) (g : B → C) (xs : List A) (n : ℕ) (y : C) → slice_get (map g (map f xs)) n ≡ Some y → (x : A) × (slice_get xs n ≡ Some x) × (g (f x) ≡ y)
nth_mapped f g [] n y is = absurd (cc)
nth_mapped f g (x ∷ xs) zero y is = (x, refl, some_same is)
nth_mapped f g (x ∷ xs) (suc n) y is = nth_mapped f g xs n y is

nth_of : {A B : Type 0} (f : A → B) (xs : List A) (n : ℕ) (x : A) → slice_get xs n ≡ Some x → slice_get (map f xs) n ≡ Some (f x)
nth_of f [] n x is = absurd (cc)
nth_of f (y ∷ ys) zero x is = ap (λ z. Some (f z)) (some_same is)
nth_of f (y ∷ ys) (suc n) x is = nth_of f ys n x is

-- the priorities that the relations of a block give have 64 bits
abbrev RanksSpelled : Block → Type 0
RanksSpelled block = (name : List ℕ) (r : RelationCode) → relation_named name block ≡ Some r → is_i64 r.priority ≡ true

ranks_spelled : (bytes : List ℕ) (p : Parts) → parts_of bytes ≡ Ok (parts_row p) → (n : ℕ) (block : Block) → slice_get (codes_of (codes_in p [])).blocks n ≡ Some block → RanksSpelled block
ranks_spelled bytes p read n block there =
    let ns : Numbering = key_number (λ (b : BlockPart). b.key) p.blocks in
    let row = nth_mapped (block_code ns) block_of_code p.blocks n block there in
    let place : slice_get (map (resolving.block_of ns) p.blocks) n ≡ Some (resolving.block_of ns row.0) = nth_of (resolving.block_of ns) p.blocks n row.0 row.1 in
    subst RanksSpelled row.2
    (λ name r found. rank_spelled r.priority (relation_ranks bytes p read n name r (ap (option_and_then (λ (b : DeployedBlock). named (λ (x : RelationCode). x.name) name b.relations)) place ∙ found)))

blocks_written : (blocks : List Block) → AllByRecursion ScriptsSpelled blocks → ((n : ℕ) (block : Block) → slice_get blocks n ≡ Some block → RanksSpelled block) → AllByRecursion BlockWritten blocks
blocks_written [] all ranks = tt
blocks_written (block ∷ blocks) all ranks = (
  record { handlers = all.0.0; methods = all.0.1; exception = all.0.2; rolled_back = all.0.3; remove = all.0.4; ranks = ranks 0 block refl },
  blocks_written blocks all.1 (λ n other there. ranks (suc n) other there),
)

pub constants_spelled : (bytes : List ℕ) (d : Deployment) → reading_of bytes ≡ Ok (read_as d) → AreSpelled (kept_program d.codes)
constants_spelled bytes d is =
    let p : Parts = d.parts in
    let read : parts_of bytes ≡ Ok (parts_row p) = reading_parts bytes d is in
    let made : program_of (codes_of (codes_in p [])) ≡ Ok (kept_program d.codes) = subst (λ all. program_of all ≡ Ok (kept_program d.codes)) (sym (codes_same p)) (reading_program bytes d is) in
    let own = subst (λ (all : scripts.Codes). AllByRecursion ScriptsSpelled all.blocks) (sym (codes_same p)) (scripts_spelled bytes (parts_row p) read) in
    program_spelled (codes_of (codes_in p [])) (kept_program d.codes) made (blocks_written (codes_of (codes_in p [])).blocks own (ranks_spelled bytes p read))

-- names of events

name_word : (name : List ℕ) → is_name name ≡ true → IsWord name
name_word [] is = absurd (cc)
name_word (b ∷ bs) is =
    let parts = and_parts (is_letter b) _ is in
    let rest = (and_parts (list_all is_byte_of_name bs) _ parts.1).0 in
    word_from (b ∷ bs) (and_from (not (b == 32)) _ (letter b parts.0) (each bs rest))
  where
    letter : (b : ℕ) → is_letter b ≡ true → not (b == 32) ≡ true
    letter b is = grind (arith, nat_tests, is)

    byte : (b : ℕ) → is_byte_of_name b ≡ true → not (b == 32) ≡ true
    byte b is = grind (arith, nat_tests, is)

    each : (bs : List ℕ) → list_all is_byte_of_name bs ≡ true → list_all (λ c. not (c == 32)) bs ≡ true
    each [] all = refl
    each (c ∷ cs) all = let parts = and_parts (is_byte_of_name c) (list_all is_byte_of_name cs) all in and_from (not (c == 32)) _ (byte c parts.0) (each cs parts.1)

named_by : (events : List EventType) → list_all (λ (e : EventType). is_name e.key) events ≡ true → (name : List ℕ) → is_some (named (λ (e : EventCode). e.name) name (map resolving.event_of events)) ≡ true → is_name name ≡ true
named_by [] good name there = absurd (cc)
named_by (e ∷ events) good name there =
    let parts = and_parts (is_name e.key) (list_all (λ (x : EventType). is_name x.key) events) good in
    elim (cases_Bool (bytes_eq e.key name)) [
      | inl is ↦ subst (λ k. is_name k ≡ true) ((bytes_eq-Decides e.key name).0 is) parts.0
      | inr isnt ↦ named_by events parts.1 name (rw isnt at there)
    ]

event_words : (bytes : List ℕ) (parts : Parts) → parts_of bytes ≡ Ok (parts_row parts) → AreWords (deployed_of parts)
event_words bytes parts is =
    let read = read_document bytes (parts_row parts) is in
    let document = shaped read.0 read.3 in
    let keys : list_all (λ (e : EventType). is_name e.key) parts.events ≡ true =
    subst (λ es. list_all (λ (e : EventType). is_name e.key) es ≡ true) (ap (λ (p : PartsRow). p.events) read.2) (all_each IsEventType event_type_of (λ (e : EventType). is_name e.key) (items_at (codes "events") read.0) (λ d event. event.key) document.events) in
    record { declared = λ name there. name_word name (named_by parts.events keys name there) }

pub reading_as_read : (bytes : List ℕ) (d : Deployment) → reading_of bytes ≡ Ok (read_as d) → IsAsRead (deployed_of d.parts) (kept_program d.codes)
reading_as_read bytes d is =
    let read = reading_parts bytes d is in
    record {
      deployed = read_is_deployed bytes d.parts read;
      words = event_words bytes d.parts read;
      programmed = programmed bytes d is;
      spelled = constants_spelled bytes d is;
      handled = λ n event there. reading_handlers bytes d n event is there;
    }
