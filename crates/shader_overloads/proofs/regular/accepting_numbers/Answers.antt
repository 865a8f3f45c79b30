use Rattle.std.proofs.Common.{◌∙◌, ◌<◌, ◌/◌, ◌%◌, ◌&&◌, ap, arith}
use Rattle.shader_ir.specs.Scalars.{is_convertible}
use Rattle.shader_overloads.specs.Bits.{has_bit}
use Rattle.shader_overloads.specs.Constructors.{all_constructors, same_constructor}
use Rattle.shader_overloads.proofs.ListLemmas.{slice_get-within}
use Rattle.shader_overloads.proofs.SetLemmas.{length-constructors, same_position, scalar_position}
use Rattle.shader_overloads.proofs.regular.accepting_numbers.Goals as goal

pub group-requires : goal.group-requires
group-requires c = omega
    (arith, slice_get-within all_constructors c.position_of.result c.args.size c.position_of.ensures, length-constructors)

pub returns : goal.returns
returns c number other to at_other at_to =
    let within : number < 156 = omega (arith, slice_get-within all_constructors (number / 12) other at_other, length-constructors) in
    c.group.ensures number within
    ∙ ap (λ b. b && has_bit c.bits.result (number % 12)) (same_position c.position_of.result (number / 12) c.args.size other
    c.position_of.ensures at_other)
    ∙ ap (λ n. same_constructor c.args.size other && has_bit n (number % 12)) (c.bits.ensures tt)
    ∙ ap (λ b. same_constructor c.args.size other && b) (scalar_position (is_convertible c.args.scalar) c.convertible_from-scalars.result
    (number % 12) to c.convertible_from-scalars.ensures at_to)
