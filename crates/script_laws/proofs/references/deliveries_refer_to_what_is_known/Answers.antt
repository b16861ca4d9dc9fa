use Rattle.script_laws.proofs.KnownCheckedScripts.{delivered_refers}
use Rattle.script_laws.specs.References.{Among}
use Rattle.script_laws.proofs.references.deliveries_refer_to_what_is_known.Goals as goal

pub returns : goal.returns
returns c = λ known all program answers number block steps e a event fields delivered made there is given answered done. delivered_refers (Among known) all program answers number block steps e a event fields delivered made there is given answered done
