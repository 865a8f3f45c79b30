use Rattle.std.proofs.Common.{length}
use Rattle.shader_json_reader.proofs.failure.+add_steps.Given as goal

abbrev pub decreases-add_steps : goal.decreases-add_steps
decreases-add_steps l = length l.steps.now
