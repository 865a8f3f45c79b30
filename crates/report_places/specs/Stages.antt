-- Shader stages as WGSL and naga's extensions spell them.
use Rattle.std.specs.Prelude.{ℕ, List, codes}
use Rattle.shader_ir.specs.declared.function.ShaderStage.{ShaderStage}
use Rattle.shader_ir.specs.declared.function.ShaderStage.TheVariants as stages

abbrev pub stage_word : ShaderStage → List ℕ
stage_word stages.Vertex = codes "vertex"
stage_word stages.Fragment = codes "fragment"
stage_word stages.Compute = codes "compute"
stage_word stages.Mesh = codes "mesh"
stage_word stages.Task = codes "task"
