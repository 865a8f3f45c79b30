use Rattle.report_json.specs.Types.{pointer_tokens}
use Rattle.report_json.proofs.FormLemmas.{of_form}
use Rattle.report_json.proofs.types.write_pointer.Goals as goal

pub returns-in-Pointer : goal.returns-in-Pointer
unfolding pointer_tokens
returns-in-Pointer c = of_form _ _ _ pointer_tokens c.args.inner.now _ c.in-Pointer.is c.write_fields.ensures

pub returns-in-ValuePointer : goal.returns-in-ValuePointer
unfolding pointer_tokens
returns-in-ValuePointer c = of_form _ _ _ pointer_tokens c.args.inner.now _ c.in-ValuePointer.is c.write_fields-in-ValuePointer.ensures

pub returns-in-BindingArray : goal.returns-in-BindingArray
unfolding pointer_tokens
returns-in-BindingArray c = of_form _ _ _ pointer_tokens c.args.inner.now _ c.in-BindingArray.is c.write_fields-in-BindingArray.ensures
