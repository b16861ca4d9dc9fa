-- How many parts of each kind bytes have as a deployment.
use Rattle.std.specs.Prelude.{length, Result, Ok, Err}
use Rattle.script_tree.specs.Tree.{Bytes}
use Rattle.deploy_json.specs.Rows.{PartsRow}
use Rattle.deploy_json.specs.declared.fault.ReadFault.{ReadFault}
use Rattle.deploy_json.specs.Checking.{Reading, reading_of}
use Rattle.deploy_report.specs.declared.counts.Counts.{Counts}

abbrev pub counts_of : PartsRow → Counts
counts_of p = record {
  events = length p.events;
  profiles = length p.profiles;
  tables = length p.tables;
  blocks = length p.blocks;
  services = length p.services;
}

abbrev pub counts_read : Result Reading ReadFault → Result Counts ReadFault
counts_read (Ok reading) = Ok (counts_of reading.parts)
counts_read (Err fault) = Err fault

-- The counts of the deployment that bytes are, or their first fault.
unfoldable pub counts_in : Bytes → Result Counts ReadFault
counts_in bytes = counts_read (reading_of bytes)
