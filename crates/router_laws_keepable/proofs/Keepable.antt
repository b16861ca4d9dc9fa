-- The states of a deployment that was read can be kept.
use Rattle.std.proofs.Common.{◌≡◌, ℕ, ◌+◌, ◌<◌, ◌≤◌, ◌^◌, List, [], ◌∷◌, length, map, suc, None, refl, sym, ap, arith}
use Rattle.std.specs.Prelude.{Ok}
use Rattle.script_types.specs.ProgramOf.{kept_program}
use Rattle.deploy_model.specs.Resolving as resolving
use Rattle.deploy_model.specs.Resolving.{deployed_of}
use Rattle.deploy_model.specs.Tables.{key_number, parts_fault}
use Rattle.deploy_model.specs.declared.parts.Parts.{Parts}
use Rattle.deploy_model.specs.declared.parts.ProfileSpec.{ProfileSpec}
use Rattle.slee_descriptor.specs.declared.deployment.Deployment.{Deployment}
use Rattle.deploy_json.proofs.NoFault.{sound}
use Rattle.deploy_json.specs.Checking.{read_as, reading_of}
use Rattle.deploy_json.specs.Reading.{parts_of}
use Rattle.deploy_json.specs.Rows.{parts_row}
use Rattle.router_laws_deployed.proofs.Declared.{declared_rise, read_document}
use Rattle.router_laws_deployed.proofs.Readings.{reading_parts}
use Rattle.router_laws_keepable.proofs.Counting.{parts_few}
use Rattle.router_laws_keepable.proofs.Holding.{parts_have_names}
use Rattle.router_laws_keepable.proofs.Naming.{read_names}
use Rattle.router_laws_kept.specs.Kept.{IsKeepable}
use Rattle.router_laws_named.proofs.Deployments.{named_parts}
use Rattle.router_laws_read.proofs.WholeReadings.{reading_as_read}
use Rattle.router_laws_reading.specs.Holding.{CanHold}
use Rattle.router_laws_snapshots.specs.Named.{IsNamed}

mapped_length : {A B : Type 0} (f : A → B) (xs : List A) → length (map f xs) ≡ length xs
mapped_length f [] = refl
mapped_length f (x ∷ xs) = ap (λ n. suc n) (mapped_length f xs)

no_fault : (bytes : List ℕ) (parts : Parts) → parts_of bytes ≡ Ok (parts_row parts) → parts_fault parts ≡ None
no_fault bytes parts is = let read = read_document bytes (parts_row parts) is in sound read.0 parts read.3 (sym read.2)

parts_named : (bytes : List ℕ) (parts : Parts) → length bytes < 2 ^ 32 → parts_of bytes ≡ Ok (parts_row parts) → IsNamed (deployed_of parts)
parts_named bytes parts short is = named_parts parts (no_fault bytes parts is) (read_names bytes parts is) (few (length parts.services) (length bytes) (parts_few bytes (parts_row parts) is).services short)
  where
    few : (m n : ℕ) → m ≤ n + 1 → n < 2 ^ 32 → m ≤ 2 ^ 32
    few m n within short = omega (arith, within, short)

pub named_read : (bytes : List ℕ) (d : Deployment) → length bytes < 2 ^ 32 → reading_of bytes ≡ Ok (read_as d) → IsNamed (deployed_of d.parts)
named_read bytes d short is = parts_named bytes d.parts short (reading_parts bytes d is)

held_read : (bytes : List ℕ) (d : Deployment) → reading_of bytes ≡ Ok (read_as d) → CanHold (deployed_of d.parts)
held_read bytes d is =
    let parts = reading_parts bytes d is in
    record { names = parts_have_names d.parts (read_names bytes d.parts parts); rise = declared_rise bytes d.parts parts }

pub tables_read : (bytes : List ℕ) (d : Deployment) → length bytes < 2 ^ 63 → reading_of bytes ≡ Ok (read_as d) → length (deployed_of d.parts).tables + 1 < 2 ^ 64
tables_read bytes d short is =
    few (length (deployed_of d.parts).tables) (length d.parts.tables) (length bytes) (mapped_length (resolving.table_of (key_number (λ (p : ProfileSpec). p.key) d.parts.profiles)) d.parts.tables)
    (parts_few bytes (parts_row d.parts) (reading_parts bytes d is)).tables short
  where
    few : (k m n : ℕ) → k ≡ m → m ≤ n + 1 → n < 2 ^ 63 → k + 1 < 2 ^ 64
    few k m n same within short = omega (arith, same, within, short)

pub keepable_read : (bytes : List ℕ) (d : Deployment) → length bytes < 2 ^ 32 → reading_of bytes ≡ Ok (read_as d) → IsKeepable (deployed_of d.parts) (kept_program d.codes)
keepable_read bytes d short is = record {
  read = reading_as_read bytes d is;
  named = named_read bytes d short is;
  held = held_read bytes d is;
  few = tables_read bytes d (shorter (length bytes) short) is;
}
  where
    shorter : (n : ℕ) → n < 2 ^ 32 → n < 2 ^ 63
    shorter n short = omega (arith, short)
