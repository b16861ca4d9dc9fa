use Rattle.router_laws_read.proofs.JsonTexts.{read_texts}
use Rattle.router_laws_read.proofs.texts.texts_of_json_are_utf8.Goals as goal

pub returns : goal.returns
returns c = read_texts
