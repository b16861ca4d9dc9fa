-- What a script stands in, as a value.
use Rattle.script_check_terms.specs.declared.setting.Role.{Role as RoleInMemory}
use Rattle.script_check_terms.specs.declared.setting.Role.TheVariants as r
use Rattle.script_check_terms.specs.declared.setting.Setting.{Setting as SettingInMemory}
use Rattle.script_types.specs.CodesOf.{codes_of, block_of_code}
use Rattle.script_types.specs.TypingExpressions.{Role, OnEvent, InMethod, OnException, OnRolledBack, OnRemove, Setting}

abbrev pub role_of : RoleInMemory → Role
role_of (r.OnEvent fields) = OnEvent fields.now
role_of (r.InMethod kind) = InMethod kind
role_of r.OnException = OnException
role_of r.OnRolledBack = OnRolledBack
role_of r.OnRemove = OnRemove

abbrev pub setting_of : SettingInMemory → Setting
setting_of s = record { codes = codes_of s.codes.now; block = block_of_code s.block.now; role = role_of s.role }
