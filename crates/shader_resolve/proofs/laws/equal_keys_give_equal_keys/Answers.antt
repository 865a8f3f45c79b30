use Rattle.shader_resolve.proofs.CongruenceLemmas.{keys-agree, rows-respect}
use Rattle.shader_resolve.proofs.laws.equal_keys_give_equal_keys.Goals as goal

pub returns-clause-keys : goal.returns-clause-keys
returns-clause-keys c = keys-agree

pub returns-clause-rows : goal.returns-clause-rows
returns-clause-rows c = rows-respect
