-- The info of a function of which nothing is found yet.
use Rattle.std.specs.Prelude.{◌≡◌, [], false}
use Rattle.shader_info.specs.declared.info.FunctionInfo.{FunctionInfo}

-- it has no pairs, and allows all stages
pub record IsNewInfo (info : FunctionInfo) : Type 0 where
  pub stages : info.available_stages.0 ≡ 31
  pub no_globals : info.sampling_set.keys ≡ []
  pub no_arguments : info.sampling.keys ≡ []
  pub one_source : info.dual_source_blending ≡ false
