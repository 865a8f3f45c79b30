use Rattle.shader_json_declarations.proofs.InnerLemmas.{renamed}
use Rattle.shader_json_declarations.proofs.types.inner.Goals as goal

pub returns-in-CooperativeMatrix-clause-accepts : goal.returns-in-CooperativeMatrix-clause-accepts
returns-in-CooperativeMatrix-clause-accepts c = λ x u. c.cooperative_matrix.ensures.accepts x (renamed _ _ _ x c.in-CooperativeMatrix.is u)

pub returns-in-ValuePointer-clause-accepts : goal.returns-in-ValuePointer-clause-accepts
returns-in-ValuePointer-clause-accepts c = λ x u. c.value_pointer.ensures.accepts x (renamed _ _ _ x c.in-ValuePointer.is u)

pub returns-in-AccelerationStructure-clause-accepts : goal.returns-in-AccelerationStructure-clause-accepts
returns-in-AccelerationStructure-clause-accepts c = λ x u. c.acceleration_structure.ensures.accepts x (renamed _ _ _ x c.in-AccelerationStructure.is u)

pub returns-in-BindingArray-clause-accepts : goal.returns-in-BindingArray-clause-accepts
returns-in-BindingArray-clause-accepts c = λ x u. c.binding_array.ensures.accepts x (renamed _ _ _ x c.in-BindingArray.is u)
