use Rattle.std.proofs.Common.{◌≡◌, ◌∙◌, sym, rules, true}
use Rattle.std.specs.HashSet.{contains}
use Rattle.std.proofs.lemmas.Map.Views.{hash_set_contains_iff}
use Rattle.shader_info.specs.contracts.info.SamplingKeyEq.TheImpl.Laws.{laws-law}
use Rattle.shader_info.specs.contracts.info.SamplingKeyPartialEq.TheImpl as sampling
use Rattle.shader_info.specs.declared.info.SamplingKey.{SamplingKey}
use Rattle.shader_info.proofs.info.FunctionInfo.has_sampling_key.Goals as goal

same : (x y : SamplingKey) → sampling.ghosts.eq x y ≡ true → x ≡ y
same x y h = search rules

pub returns : goal.returns
returns c =
    let pair : SamplingKey = record { image = c.args.image; sampler = c.args.sampler } in
    let found = hash_set_contains_iff laws-law same c.args.self.now.sampling_set pair in
    let is : c.contains.result ≡ contains sampling.ghosts.eq c.args.self.now.sampling_set pair = c.contains.ensures in
    (λ h. found.0 (sym is ∙ h), λ h. is ∙ found.1 h)
