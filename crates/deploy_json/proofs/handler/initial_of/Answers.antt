use Rattle.deploy_json.proofs.Each.{any_items}
use Rattle.deploy_json.proofs.handler.initial_of.Goals as goal

pub build_items-requires : goal.build_items-requires
build_items-requires c = any_items _
