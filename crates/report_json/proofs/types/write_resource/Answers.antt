use Rattle.report_json.specs.Types.{resource_tokens}
use Rattle.report_json.proofs.FormLemmas.{of_form}
use Rattle.report_json.proofs.types.write_resource.Goals as goal

pub returns-in-Image : goal.returns-in-Image
unfolding resource_tokens
returns-in-Image c = of_form _ _ _ resource_tokens c.args.inner.now _ c.in-Image.is c.write_fields.ensures

pub returns-in-AccelerationStructure : goal.returns-in-AccelerationStructure
unfolding resource_tokens
returns-in-AccelerationStructure c = of_form _ _ _ resource_tokens c.args.inner.now _ c.in-AccelerationStructure.is c.write_fields-in-AccelerationStructure.ensures

pub returns-in-RayQuery : goal.returns-in-RayQuery
unfolding resource_tokens
returns-in-RayQuery c = of_form _ _ _ resource_tokens c.args.inner.now _ c.in-RayQuery.is c.write_fields-in-RayQuery.ensures
