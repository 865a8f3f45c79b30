use Rattle.shader_ir.proofs.KeyLemmas.{same_keys, struct_keys}
use Rattle.shader_ir.proofs.proc.type_resolution.compare_types.Goals as goal

pub non_struct_equivalent-requires-clause-self_in : goal.non_struct_equivalent-requires-clause-self_in
non_struct_equivalent-requires-clause-self_in c = c.inner_with-left.ensures.in_range c.requires.backward c.requires.lhs_fits

pub non_struct_equivalent-requires-clause-rhs_in : goal.non_struct_equivalent-requires-clause-rhs_in
non_struct_equivalent-requires-clause-rhs_in c = c.inner_with-right.ensures.in_range c.requires.backward c.requires.rhs_fits

pub returns-then-is_struct : goal.returns-then-is_struct
returns-then-is_struct c =
    let reported = c.is_struct.ensures in
    let keys = struct_keys c.args.types.now c.args.lhs.now c.args.rhs.now c.inner_with-left.result.now c.inner_with-left.ensures.inner
    c.requires.lhs_fits
    (λ n. let none = reported.1 n in let yes = c.if-is_struct.true in absurd (cc)) in
    let same = c.is_same_handle.ensures in
    ((λ e. keys.0 (same.0 e)), (λ e. same.1 (keys.1 e)))

pub returns : goal.returns
returns c =
    let keys = same_keys c.args.types.now c.args.lhs.now c.args.rhs.now c.inner_with-left.result.now c.inner_with-right.result.now
    c.inner_with-left.ensures.inner c.inner_with-right.ensures.inner c.requires.rhs_fits
    (c.is_struct.ensures.0 c.if-is_struct.false) in
    let same = c.non_struct_equivalent.ensures in
    ((λ e. keys.0 (same.0 e)), (λ e. same.1 (keys.1 e)))
