-- The options of a report as bits.
use Rattle.std.specs.Prelude.{ℕ, ◌/◌, ◌%◌, Bool, true, false, Option, Some, None, bit_and, nat_eq, nat_lt, not, if◌then◌else◌}
use Rattle.report_answers.specs.Options.{start, with}
use Rattle.report_answers.specs.declared.options.Flag.{Flag}
use Rattle.report_answers.specs.declared.options.Flag.TheVariants.{Json, NagaFlow, AnyFlow, IndexTextures}
use Rattle.report_answers.specs.declared.options.Flag.TheVariants.{IndexStorageTextures, Drawing, Policies, Resources}
use Rattle.report_answers.specs.declared.options.Flag.TheVariants.{AllStructs, Explain, ShowAll}
use Rattle.report_answers.specs.declared.options.Options.{Options}
use Rattle.shader_bounds.specs.declared.policies.BoundsCheckPolicies.{BoundsCheckPolicies}
use Rattle.shader_bounds.specs.declared.policies.BoundsCheckPolicy.{BoundsCheckPolicy}
use Rattle.shader_bounds.specs.declared.policies.BoundsCheckPolicy.TheVariants.{Restrict, ReadZeroSkipWrite, Unchecked}

unfoldable pub with_if : Options → Bool → Flag → Options
with_if options true flag = with options flag
with_if options false flag = options

abbrev is_set : ℕ → ℕ → Bool
is_set bits flag = not (nat_eq (bit_and bits flag) 0)

-- JSON is what no bit asks for; all else is as it is without a word on the command line
abbrev pub set_options : ℕ → Options
set_options bits =
    let output = with_if start (nat_eq (bit_and bits 8) 0) Json in
    let naga = with_if output (is_set bits 16) NagaFlow in
    let flow = with_if naga (is_set bits 1) AnyFlow in
    let textures = with_if flow (is_set bits 2) IndexTextures in
    let indexing = with_if textures (is_set bits 4) IndexStorageTextures in
    let drawing = with_if indexing (is_set bits 32) Drawing in
    let resources = with_if drawing (is_set bits 64) Resources in
    let structs = with_if resources (is_set bits 65536) AllStructs in
    let explained = with_if structs (is_set bits 131072) Explain in
    with_if explained (is_set bits 262144) ShowAll

-- the policy with this number
abbrev pub policy_of : ℕ → Option BoundsCheckPolicy
policy_of number =
    if nat_eq number 0 then Some Unchecked else (if nat_eq number 1 then Some Restrict else
    (if nat_eq number 2 then Some ReadZeroSkipWrite else None))

abbrev all_policies : Option BoundsCheckPolicy → Option BoundsCheckPolicy → Option BoundsCheckPolicy → Option BoundsCheckPolicy →
    Option BoundsCheckPolicies
all_policies (Some index) (Some buffer) (Some image_load) (Some binding_array) =
    Some (record { index = index; buffer = buffer; image_load = image_load; binding_array = binding_array })
all_policies _ _ _ _ = None

-- from bit 8 to bit 15, two bits are the policy of a kind of access
abbrev pub policies_of : ℕ → Option BoundsCheckPolicies
policies_of bits =
    all_policies (policy_of (bits / 256 % 4)) (policy_of (bits / 1024 % 4)) (policy_of (bits / 4096 % 4)) (policy_of (bits / 16384 % 4))

-- bounds checks are reported if bit 7 or a policy asks for them
abbrev pub with_policies : Options → ℕ → BoundsCheckPolicies → Options
with_policies options bits policies = if nat_lt (bits % 65536) 128 then options else with options (Policies policies)

abbrev options_with : ℕ → Option BoundsCheckPolicies → Option Options
options_with bits (Some policies) = Some (with_policies (set_options bits) bits policies)
options_with bits None = None

-- the options that the bits set, if each bit is a flag, and each two bits are a policy
abbrev pub options_of : ℕ → Option Options
options_of bits = if nat_lt bits 524288 then options_with bits (policies_of bits) else None
