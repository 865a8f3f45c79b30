-- Entry points, and the globals that they use, as JSON.
use Rattle.std.specs.Prelude.{◌≡◌, ◌&&◌, ◌==◌, ℕ, All, Bool, true, false, List, [], ◌∷◌, ◌++◌, Option, Some, None, cond, codes, flat_map}
use Rattle.std.specs.Prelude.{is_some, map, not, slice_get}
use Rattle.std.specs.Fmt.{decimal}
use Rattle.std.specs.List.{enumerate_from, list_any}
use Rattle.json.specs.Json.{Json}
use Rattle.json.specs.Token.{Token, begin_object, end_object, begin_array, end_array, boolean, key, number}
use Rattle.shader_info.specs.Recorded.{ArePairsOf}
use Rattle.shader_info.specs.declared.flags.GlobalUse.{GlobalUse}
use Rattle.shader_info.specs.declared.info.FunctionInfo.{FunctionInfo}
use Rattle.shader_interface.specs.Interface.{group_of, workgroup_override_of, workgroup_size_of}
use Rattle.shader_ir.specs.declared.«module».GlobalVariable.{GlobalVariable}
use Rattle.shader_ir.specs.declared.«module».Module.{Module}
use Rattle.shader_ir.specs.declared.function.EntryPoint.{EntryPoint}
use Rattle.shader_ir.specs.declared.function.ShaderStage.{ShaderStage}
use Rattle.shader_ir.specs.declared.function.ShaderStage.TheVariants as stages
use Rattle.shader_report_resources.specs.declared.entries.EntryUses.{EntryUses}
use Rattle.shader_report_resources.specs.Interfaces.{inputs_tokens, outputs_tokens}
use Rattle.shader_report_resources.specs.Spaces.{is_set}
use Rattle.shader_report_resources.specs.Written.{number_member, number_or_null, text_member}

-- ---- what is recorded

-- the recorded pairs of an entry point are ascending
abbrev pub HasPairs : EntryUses → Type 0
HasPairs uses = ArePairsOf uses.info.now uses.pairs

-- the entry points with their infos and pairs, in order
pub record AreUses (entries : List EntryPoint) (infos : List FunctionInfo) (uses : List EntryUses) : Type 0 where
  pub entries_are : map (λ (of : EntryUses). of.entry.now) uses ≡ entries
  pub infos_are : map (λ (of : EntryUses). of.info.now) uses ≡ infos
  pub pairs_are : All HasPairs uses

-- the uses of one more entry point
pub record AddsUses (entry : EntryPoint) (info : FunctionInfo) (old new : List EntryUses) : Type 0 where
  pub uses : EntryUses
  pub of_entry : uses.entry.now ≡ entry
  pub of_info : uses.info.now ≡ info
  pub pairs : HasPairs uses
  pub added : new ≡ old ++ uses ∷ []

-- ---- uses

-- the global is used in some way
abbrev pub is_used : GlobalUse → Bool
is_used uses = not (uses.0 == 0)

abbrev pub is_used_at : Option GlobalUse → Bool
is_used_at None = false
is_used_at (Some uses) = is_used uses

unfoldable pub access_members : GlobalUse → List Token
access_members uses =
    key (codes "read") ∷ boolean (is_set uses.0 1) ∷ key (codes "write") ∷ boolean (is_set uses.0 2)
    ∷ key (codes "query") ∷ boolean (is_set uses.0 4) ∷ key (codes "atomic") ∷ boolean (is_set uses.0 8) ∷ []

-- a global that is used, at this position
unfoldable pub used_tokens : ℕ → GlobalUse → List Token
used_tokens position uses =
    begin_object ∷ key (codes "global") ∷ number (decimal position) ∷ (access_members uses ++ end_object ∷ [])

abbrev pub use_tokens : ℕ × GlobalUse → List Token
use_tokens entry = cond (is_used entry.1) (used_tokens entry.0 entry.1) []

-- an image and a sampler with which it is sampled
unfoldable pub pair_tokens : ℕ × ℕ → List Token
pair_tokens pair =
    begin_object ∷ key (codes "image") ∷ number (decimal pair.0) ∷ key (codes "sampler") ∷ number (decimal pair.1) ∷ end_object ∷ []

-- ---- entry points

abbrev pub stage_word : ShaderStage → List ℕ
stage_word stages.Vertex = codes "vertex"
stage_word stages.Fragment = codes "fragment"
stage_word stages.Compute = codes "compute"
stage_word stages.Mesh = codes "mesh"
stage_word stages.Task = codes "task"

-- a number along each of the three axes
unfoldable pub axes_tokens : List ℕ → Option ℕ → Option ℕ → Option ℕ → List Token
axes_tokens name x y z =
    key name ∷ begin_array ∷ number_or_null x ∷ number_or_null y ∷ number_or_null z ∷ end_array ∷ []

unfoldable pub size_members : Json → ℕ → List Token
size_members j place =
    axes_tokens (codes "workgroup_size") (workgroup_size_of j place 0) (workgroup_size_of j place 1) (workgroup_size_of j place 2)
    ++ axes_tokens (codes "workgroup_overrides") (workgroup_override_of j place 0) (workgroup_override_of j place 1)
    (workgroup_override_of j place 2)

unfoldable pub uses_members : EntryUses → List Token
uses_members uses =
    key (codes "uses") ∷ begin_array ∷ (flat_map use_tokens (enumerate_from 0 uses.info.now.global_uses)
    ++ end_array ∷ key (codes "sampled") ∷ begin_array ∷ (flat_map pair_tokens uses.pairs ++ end_array ∷ []))

module _ (j : Json) (m : Module) where
  unfoldable pub bound_members : ℕ → EntryPoint → List Token
  bound_members place entry =
      key (codes "inputs") ∷ begin_array ∷ (inputs_tokens j m place entry.function
      ++ end_array ∷ key (codes "outputs") ∷ begin_array ∷ (outputs_tokens j m place entry.function ++ end_array ∷ []))

  -- the entry point at a place in the list of all
  unfoldable pub entry_tokens : ℕ × EntryUses → List Token
  entry_tokens of =
      begin_object ∷ (text_member (codes "name") (Some of.1.entry.now.name)
      ++ (text_member (codes "stage") (Some (stage_word of.1.entry.now.stage)) ++ (size_members j of.0
      ++ (uses_members of.1 ++ (bound_members of.0 of.1.entry.now ++ end_object ∷ [])))))

  abbrev pub entries_tokens : List EntryUses → List Token
  entries_tokens uses = flat_map entry_tokens (enumerate_from 0 uses)

-- ---- resources that no entry point uses

abbrev pub is_used_by : ℕ → EntryUses → Bool
is_used_by position uses = is_used_at (slice_get uses.info.now.global_uses position)

module _ (j : Json) (uses : List EntryUses) where
  -- the global has a bind group, and no entry point uses it
  abbrev pub is_idle : ℕ → Bool
  is_idle position = is_some (group_of j position) && not (list_any (is_used_by position) uses)

  abbrev pub idle_tokens : ℕ × GlobalVariable → List Token
  idle_tokens entry = cond (is_idle entry.0) (number (decimal entry.0) ∷ []) []

  abbrev pub all_idle_tokens : List GlobalVariable → List Token
  all_idle_tokens globals = flat_map idle_tokens (enumerate_from 0 globals)
