use Rattle.shader_overloads.proofs.AcceptanceLemmas.{accepts-canonical, list_accepts-canonical, accepts-by_key, list_accepts-by_key}
use Rattle.shader_overloads.proofs.laws.acceptance_is_by_key.Goals as goal

pub returns-clause-canonical : goal.returns-clause-canonical
returns-clause-canonical c = accepts-canonical

pub returns-clause-canonical_in_lists : goal.returns-clause-canonical_in_lists
returns-clause-canonical_in_lists c = list_accepts-canonical

pub returns-clause-key : goal.returns-clause-key
returns-clause-key c = accepts-by_key

pub returns-clause-key_in_lists : goal.returns-clause-key_in_lists
returns-clause-key_in_lists c = list_accepts-by_key
