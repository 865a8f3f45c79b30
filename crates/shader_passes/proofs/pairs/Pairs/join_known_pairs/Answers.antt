use Rattle.std.proofs.Common.{rules, ◌≡◌, List, ◌||◌, subst}
use Rattle.std.specs.List.{list_any}
use Rattle.std.proofs.lemmas.Iterator.Consumers.{YieldsList-from_rest}
use Rattle.std.proofs.lemmas.Iterator.Adapters.{fact_from_extend}
use Rattle.shader_info.specs.contracts.info.SamplingKeyPartialEq.TheImpl as key
use Rattle.shader_info.specs.declared.info.SamplingKey.{SamplingKey}
use Rattle.shader_passes.proofs.PairLemmas.{joins_known}
use Rattle.shader_passes.proofs.pairs.Pairs.join_known_pairs.Goals as goal

pub returns-clause-members : goal.returns-clause-members
returns-clause-members c =
    let Joined : List SamplingKey → Type 0 = λ others. (k : SamplingKey) → list_any (key.ghosts.eq k) c.extend.new.self.keys
    ≡ (list_any (key.ghosts.eq k) c.args.self.now.sampling_set.now.keys || list_any (key.ghosts.eq k) others) in
    let given = fact_from_extend {Q = Joined c.args.known.now.keys} (λ k. k.now) c.extend.result c.extend.ensures.ran
    (λ it b. YieldsList-from_rest c.args.known.now.keys (search rules)) (λ xs e h. subst Joined e h.0) in
    let joined = rw c.in_ok-extend.was at given in
    joins_known c.args.self.now.sampling_set.now.keys c.extend.new.self.keys c.args.known.now.keys c.args.self.now.sampling.now.keys joined
