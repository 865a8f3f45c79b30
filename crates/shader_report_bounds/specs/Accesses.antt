-- The accesses of a function that need a bounds check.
use Rattle.std.specs.Prelude.{ℕ, List, Option, Some, None, Ok, Err, flat_map, nat_lt, if◌then◌else◌}
use Rattle.std.specs.Prelude.{option_to_list}
use Rattle.std.specs.List.{enumerate_from}
use Rattle.shader_analysis_spec.specs.Program.{Expression, Function, Module}
use Rattle.shader_info.specs.declared.info.FunctionInfo.{FunctionInfo}
use Rattle.shader_ir.specs.declared.expression.Expression.TheVariants as form
use Rattle.shader_ir.specs.declared.proc.known_numbers.KnownIndex.{KnownIndex}
use Rattle.shader_ir.specs.declared.proc.known_numbers.KnownIndex.TheVariants as known
use Rattle.shader_bounds.specs.Guarded.{guarded_index}
use Rattle.shader_bounds.specs.Lengths.{Answer}
use Rattle.shader_bounds.specs.Policies.{policy_of}
use Rattle.shader_bounds.specs.Typed.{inner_at, length_at, type_at}
use Rattle.shader_bounds.specs.declared.guarded.GuardedIndex.{GuardedIndex}
use Rattle.shader_bounds.specs.declared.guarded.GuardedIndex.TheVariants.{Known, Expression as Computed}
use Rattle.shader_bounds.specs.declared.lengths.IndexableLength.{IndexableLength}
use Rattle.shader_bounds.specs.declared.lengths.IndexableLength.TheVariants as lengths
use Rattle.shader_bounds.specs.declared.policies.BoundsCheckPolicies.{BoundsCheckPolicies}
use Rattle.shader_bounds.specs.declared.policies.BoundsCheckPolicy.{BoundsCheckPolicy}
use Rattle.shader_report_bounds.specs.declared.accesses.AccessCheck.{AccessCheck}
use Rattle.shader_report_bounds.specs.declared.accesses.AccessIndex.{AccessIndex}
use Rattle.shader_report_bounds.specs.declared.accesses.AccessIndex.TheVariants as at

-- the length with which an index has to be compared, unless it is known to be below it
abbrev pub unmet : KnownIndex → IndexableLength → Option IndexableLength
unmet (known.Known index) (lengths.Known count) = if nat_lt index count then None else Some (lengths.Known count)
unmet index length = Some length

abbrev pub unmet_by : KnownIndex → Answer → Option IndexableLength
unmet_by index (Ok length) = unmet index length
unmet_by index (Err error) = None

-- the check of an access with these parts, if there is a length
abbrev pub check_with : ℕ → ℕ → AccessIndex → BoundsCheckPolicy → Option IndexableLength → Option AccessCheck
check_with access base index policy (Some length) =
    Some (record { access = access; base = base; index = index; length = length; policy = policy })
check_with access base index policy None = None

module _ (m : Module) (f : Function) (info : FunctionInfo) where
  abbrev pub unmet_at : ℕ → GuardedIndex → Option IndexableLength
  unmet_at base index = unmet_by (guarded_index m f.expressions index) (length_at m (type_at info base))

  module _ (policies : BoundsCheckPolicies) where
    -- the check that an access to a base needs
    abbrev pub check_at : ℕ → ℕ → AccessIndex → Option IndexableLength → Option AccessCheck
    check_at access base index length = check_with access base index (policy_of policies (inner_at m.types (type_at info base))) length

    -- the check that an expression needs
    abbrev pub check_of : ℕ → Expression → Option AccessCheck
    check_of access (form.Access base index) = check_at access base (at.Computed index) (unmet_at base (Computed index))
    check_of access (form.AccessIndex base index) = check_at access base (at.Known index) (unmet_at base (Known index))
    check_of access _ = None

    -- the checks that some expressions need, each given with its position
    abbrev pub checks_of : List (ℕ × Expression) → List AccessCheck
    checks_of entries = flat_map (λ (entry : ℕ × Expression). option_to_list (check_of entry.0 entry.1)) entries

    -- the checks that the function's expressions need
    abbrev pub accesses_of : List AccessCheck
    accesses_of = checks_of (enumerate_from 0 f.expressions)
