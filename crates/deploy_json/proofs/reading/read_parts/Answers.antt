use Rattle.deploy_json.proofs.Answering.{of_bytes}
use Rattle.deploy_json.proofs.reading.read_parts.Goals as goal

pub returns-in-Ok : goal.returns-in-Ok
returns-in-Ok c = record { sound = c.read_document.ensures.sound; read = of_bytes c.args.bytes.now _ c.read_document.result c.in-Ok.ensures c.read_document.ensures.read }
