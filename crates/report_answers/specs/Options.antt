-- The options of the command line.
use Rattle.std.specs.Prelude.{ℕ, ◌+◌, Bool, true, false, ◌||◌, List, [], ◌∷◌, codes, Option, Some, None, Result, Ok, Err}
use Rattle.std.specs.Prelude.{String, find, is_some, unwrap_or}
use Rattle.std.specs.Option.{option_map, option_or}
use Rattle.std.specs.Str.{bytes_eq}
use Rattle.std.specs.String.{string_bytes}
use Rattle.shader_analysis_spec.specs.Faults.{Settings}
use Rattle.shader_info.specs.declared.flags.Capabilities.{Capabilities}
use Rattle.shader_info.specs.declared.flags.ValidationFlags.{ValidationFlags}
use Rattle.shader_bounds.specs.Policies.{unchecked}
use Rattle.shader_bounds.specs.declared.policies.BoundsCheckPolicies.{BoundsCheckPolicies}
use Rattle.shader_passes.specs.Causes.{settings_of}
use Rattle.report_answers.specs.Policies.{policies_of}
use Rattle.report_answers.specs.declared.options.Flag.{Flag}
use Rattle.report_answers.specs.declared.options.Flag.TheVariants.{Json, FormatText, FormatJson, WgslFlow, NagaFlow, AnyFlow, NoFlow}
use Rattle.report_answers.specs.declared.options.Flag.TheVariants.{IndexTextures, IndexStorageTextures, IndexBoth, IndexBothTurned}
use Rattle.report_answers.specs.declared.options.Flag.TheVariants.{Bounds, Policies, Resources, AllStructs, Drawing, NoDrawing}
use Rattle.report_answers.specs.declared.options.Flag.TheVariants.{Explain, ShowAll}
use Rattle.report_answers.specs.declared.options.FlowCheck.{FlowCheck}
use Rattle.report_answers.specs.declared.options.FlowCheck.TheVariants.{Wgsl, Naga, Off}
use Rattle.report_answers.specs.declared.options.BadWord.{BadWord}
use Rattle.report_answers.specs.declared.options.BadWord.TheVariants.{Unknown, Twice}
use Rattle.report_answers.specs.declared.options.Options.{Options}

abbrev pub flag_text : Flag → List ℕ
flag_text Json = codes "--json"
flag_text FormatText = codes "--format=text"
flag_text FormatJson = codes "--format=json"
flag_text WgslFlow = codes "--uniformity=wgsl"
flag_text NagaFlow = codes "--uniformity=naga"
flag_text AnyFlow = codes "--uniformity=off"
flag_text NoFlow = codes "--no-control-flow-uniformity"
flag_text IndexTextures = codes "--non-uniform-indexing=textures"
flag_text IndexStorageTextures = codes "--non-uniform-indexing=storage-textures"
flag_text IndexBoth = codes "--non-uniform-indexing=textures,storage-textures"
flag_text IndexBothTurned = codes "--non-uniform-indexing=storage-textures,textures"
flag_text Bounds = codes "--bounds-checks"
flag_text (Policies policies) = []
flag_text Resources = codes "--resources"
flag_text AllStructs = codes "--all-structs"
flag_text Drawing = codes "--drawing"
flag_text NoDrawing = codes "--no-drawing"
flag_text Explain = codes "--explain"
flag_text ShowAll = codes "--all"

abbrev pub all_flags : List Flag
all_flags =
    Json ∷ FormatText ∷ FormatJson ∷ WgslFlow ∷ NagaFlow ∷ AnyFlow ∷ NoFlow ∷ IndexTextures ∷ IndexStorageTextures ∷ IndexBoth
    ∷ IndexBothTurned ∷ Bounds ∷ Resources ∷ AllStructs ∷ Drawing ∷ NoDrawing ∷ Explain ∷ ShowAll ∷ []

abbrev pub named_flag : List ℕ → Option Flag
named_flag word = find (λ flag. bytes_eq (flag_text flag) word) all_flags

-- a word is a flag that it names, or policies of bounds checks
abbrev pub flag_of : List ℕ → Option Flag
flag_of word = option_or (named_flag word) (option_map (λ policies. Policies policies) (policies_of word))

-- the options without any flag
abbrev pub start : Options
start = record {
  is_json = false;
  is_text = false;
  flow = None;
  indexes_textures = false;
  indexes_storage_textures = false;
  has_bounds = false;
  policies = None;
  has_resources = false;
  has_structs = false;
  drawing = None;
  explains = false;
  shows_all = false;
}

abbrev pub indexing_both : Options → Options
indexing_both options = record options { indexes_textures = true; indexes_storage_textures = true }

-- the options with one more flag
abbrev pub with : Options → Flag → Options
with options Json = record options { is_json = true }
with options FormatText = record options { is_text = true }
with options FormatJson = record options { is_json = true }
with options WgslFlow = record options { flow = Some Wgsl }
with options NagaFlow = record options { flow = Some Naga }
with options AnyFlow = record options { flow = Some Off }
with options NoFlow = record options { flow = Some Off }
with options IndexTextures = record options { indexes_textures = true }
with options IndexStorageTextures = record options { indexes_storage_textures = true }
with options IndexBoth = indexing_both options
with options IndexBothTurned = indexing_both options
with options Bounds = record options { has_bounds = true }
with options (Policies policies) = record options { policies = Some policies }
with options Resources = record options { has_resources = true }
with options AllStructs = record options { has_structs = true }
with options Drawing = record options { drawing = Some true }
with options NoDrawing = record options { drawing = Some false }
with options Explain = record options { explains = true }
with options ShowAll = record options { shows_all = true }

abbrev policies_or : Option BoundsCheckPolicies → Bool → Option BoundsCheckPolicies
policies_or (Some policies) has_bounds = Some policies
policies_or None true = Some unchecked
policies_or None false = None

-- the policies under which bounds checks are reported, if they are: those that a word sets, or else that no access is checked
abbrev pub bounds_of : Options → Option BoundsCheckPolicies
bounds_of options = policies_or options.policies options.has_bounds

-- structs are drawn if a word says so
abbrev pub draws_structs : Options → Bool
draws_structs options = unwrap_or options.drawing false

-- structs are declared where they are drawn, and if a word says so
abbrev pub declares_structs : Options → Bool
declares_structs options = options.has_structs || draws_structs options

abbrev indexes : Options → Bool
indexes options = options.indexes_textures || options.indexes_storage_textures

-- whether a word has said how the report is printed
abbrev is_formed : Options → Bool
is_formed options = options.is_json || options.is_text

-- whether what the flag sets is set already
abbrev pub is_set : Options → Flag → Bool
is_set options Json = is_formed options
is_set options FormatText = is_formed options
is_set options FormatJson = is_formed options
is_set options WgslFlow = is_some options.flow
is_set options NagaFlow = is_some options.flow
is_set options AnyFlow = is_some options.flow
is_set options NoFlow = is_some options.flow
is_set options IndexTextures = indexes options
is_set options IndexStorageTextures = indexes options
is_set options IndexBoth = indexes options
is_set options IndexBothTurned = indexes options
is_set options Bounds = options.has_bounds
is_set options (Policies policies) = is_some options.policies
is_set options Resources = options.has_resources
is_set options AllStructs = options.has_structs
is_set options Drawing = is_some options.drawing
is_set options NoDrawing = is_some options.drawing
is_set options Explain = options.explains
is_set options ShowAll = options.shows_all

abbrev pub once : Bool → ℕ → Options → Result Options BadWord
once true index options = Err (Twice index)
once false index options = Ok options

abbrev pub with_flag : Options → ℕ → Option Flag → Result Options BadWord
with_flag options index (Some flag) = once (is_set options flag) index (with options flag)
with_flag options index None = Err (Unknown index)

-- the options with the flag that the word of this index is
abbrev pub with_word : Options → ℕ → List ℕ → Result Options BadWord
with_word options index word = with_flag options index (flag_of word)

abbrev pub on_ok : Result Options BadWord → (Options → Result Options BadWord) → Result Options BadWord
on_ok (Ok options) next = next options
on_ok (Err bad) next = Err bad

-- the options of all words together, the first of which has this index; or the first word that is no flag, or sets what is set already
abbrev pub options_from : {A : Type 0} → Options → ℕ → List (String A) → Result Options BadWord
options_from options index [] = Ok options
options_from options index (word ∷ words) =
    on_ok (with_word options index (string_bytes word)) (λ next. options_from next (index + 1) words)

-- uniform flow is checked by WGSL's rules unless a word says otherwise
abbrev pub flow_check : Options → FlowCheck
flow_check options = unwrap_or options.flow Wgsl

abbrev flow_bits : FlowCheck → ℕ
flow_bits Naga = 1
flow_bits Wgsl = 0
flow_bits Off = 0

abbrev index_bits : Bool → Bool → ℕ
index_bits false false = 0
index_bits true false = 1
index_bits false true = 2
index_bits true true = 3

abbrev pub flags_of : Options → ValidationFlags
flags_of options = record { 0 = flow_bits (flow_check options) }

abbrev pub capabilities_of : Options → Capabilities
capabilities_of options = record { 0 = index_bits options.indexes_textures options.indexes_storage_textures }

abbrev pub settings : Options → Settings
settings options = settings_of (flags_of options) (capabilities_of options)

abbrev checks_by : FlowCheck → Bool
checks_by Wgsl = true
checks_by Naga = false
checks_by Off = false

-- whether uniform flow is decided by its definition
abbrev pub checks_uniformity : Options → Bool
checks_uniformity options = checks_by (flow_check options)
