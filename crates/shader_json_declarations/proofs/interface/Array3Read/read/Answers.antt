use Rattle.std.proofs.Common.{refl, arith}
use Rattle.std.proofs.lemmas.Grind.{common_steps}
use Rattle.shader_json_reader.proofs.AnswerLemmas.{passed_on}
use Rattle.shader_json_declarations.proofs.ListLemmas.{array_view, item_of, list_count, three_items}
use Rattle.shader_json_declarations.proofs.interface.Array3Read.read.Goals.{in_default-as_slice-via-then-as_slice-lt3}
use Rattle.shader_json_declarations.proofs.interface.Array3Read.read.Goals.{in_default-as_slice-via-else-as_slice-lt3+else-this-lt4}
use Rattle.shader_json_declarations.proofs.interface.Array3Read.read.Goals as goal

pub returns-in_err-read_item-in-len3-clause-accepts : goal.returns-in_err-read_item-in-len3-clause-accepts
returns-in_err-read_item-in-len3-clause-accepts g c = λ x h.
    let items = c.as_slice.result.now in
    let is = array_view c.args.value.now c.in-Array.items items c.in-Array.is c.as_slice.ensures.value in
    passed_on _ _ c.from_residual.ensures.1 (item_of g.T.Read.reads _ items 0 c.x-item.result x is (omega arith)
    c.x-item.is c.in_err-read_item-in-len3.ensures.accepts h.0)

pub returns-in_err-read_item-in-len3-2-clause-accepts : goal.returns-in_err-read_item-in-len3-2-clause-accepts
returns-in_err-read_item-in-len3-2-clause-accepts g c = λ x h.
    let items = c.as_slice.result.now in
    let is = array_view c.args.value.now c.in-Array.items items c.in-Array.is c.as_slice.ensures.value in
    passed_on _ _ c.from_residual-in_err-read_item-in-len3-2.ensures.1 (item_of g.T.Read.reads _ items 1 c.y-item.result x is (omega arith)
    c.y-item.is c.in_err-read_item-in-len3-2.ensures.accepts h.0)

pub returns-in_err-read_item-in-len3-3-clause-accepts : goal.returns-in_err-read_item-in-len3-3-clause-accepts
returns-in_err-read_item-in-len3-3-clause-accepts g c = λ x h.
    let items = c.as_slice.result.now in
    let is = array_view c.args.value.now c.in-Array.items items c.in-Array.is c.as_slice.ensures.value in
    passed_on _ _ c.from_residual-in_err-read_item-in-len3-3.ensures.1 (item_of g.T.Read.reads _ items 2 c.z-item.result x is (omega arith)
    c.z-item.is c.in_err-read_item-in-len3-3.ensures.accepts h.0)

pub returns-in_ok-read_item-in-len3-3-clause-reads : goal.returns-in_ok-read_item-in-len3-3-clause-reads
returns-in_ok-read_item-in-len3-3-clause-reads g c = (
  three_items g.T.Read.reads _ _
      (array_view c.args.value.now c.in-Array.items c.as_slice.result.now c.in-Array.is c.as_slice.ensures.value) _ _ _ _ _ _
      (omega arith) c.x-item.is c.y-item.is c.z-item.is c.in_ok-read_item-in-len3.ensures.reads
      c.in_ok-read_item-in-len3-2.ensures.reads c.in_ok-read_item-in-len3-3.ensures.reads,
  refl,
)

pub returns-in_default-as_slice-clause-accepts : goal.returns-in_default-as_slice-clause-accepts
returns-in_default-as_slice-clause-accepts g c = λ x h.
    let items = c.as_slice.result.now in
    let is = array_view c.args.value.now c.in-Array.items items c.in-Array.is c.as_slice.ensures.value in
    let long = list_count g.T.Read.reads _ items x is h.0 in
    let three = h.1 in
    elim c.in_default-as_slice.branch [
      | in_default-as_slice-via-then-as_slice-lt3 w ↦ absurd (grind (arith, common_steps))
      | in_default-as_slice-via-else-as_slice-lt3+else-this-lt4 w ↦ absurd (grind (arith, common_steps))
    ]
