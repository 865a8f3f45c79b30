-- The policies of bounds checks that a word spells.
use Rattle.std.specs.Prelude.{◌==◌, ℕ, List, [], ◌∷◌, codes, find, Option, Some}
use Rattle.std.specs.List.{slice_split}
use Rattle.std.specs.Option.{option_and_then}
use Rattle.std.specs.Str.{bytes_eq}
use Rattle.shader_bounds.specs.Policies.{unchecked}
use Rattle.shader_bounds.specs.declared.policies.BoundsCheckPolicies.{BoundsCheckPolicies}
use Rattle.shader_bounds.specs.declared.policies.BoundsCheckPolicy.TheVariants.{Restrict, ReadZeroSkipWrite, Unchecked}
use Rattle.report_answers.specs.declared.policies.Setting.{Setting}
use Rattle.report_answers.specs.declared.policies.Setting.TheVariants.{Index, Buffer, ImageLoad, BindingArray}

abbrev pub setting_text : Setting → List ℕ
setting_text (Index Restrict) = codes "index=Restrict"
setting_text (Index ReadZeroSkipWrite) = codes "index=ReadZeroSkipWrite"
setting_text (Index Unchecked) = codes "index=Unchecked"
setting_text (Buffer Restrict) = codes "buffer=Restrict"
setting_text (Buffer ReadZeroSkipWrite) = codes "buffer=ReadZeroSkipWrite"
setting_text (Buffer Unchecked) = codes "buffer=Unchecked"
setting_text (ImageLoad Restrict) = codes "image_load=Restrict"
setting_text (ImageLoad ReadZeroSkipWrite) = codes "image_load=ReadZeroSkipWrite"
setting_text (ImageLoad Unchecked) = codes "image_load=Unchecked"
setting_text (BindingArray Restrict) = codes "binding_array=Restrict"
setting_text (BindingArray ReadZeroSkipWrite) = codes "binding_array=ReadZeroSkipWrite"
setting_text (BindingArray Unchecked) = codes "binding_array=Unchecked"

abbrev pub all_settings : List Setting
all_settings =
    Index Restrict ∷ Index ReadZeroSkipWrite ∷ Index Unchecked ∷
    Buffer Restrict ∷ Buffer ReadZeroSkipWrite ∷ Buffer Unchecked ∷
    ImageLoad Restrict ∷ ImageLoad ReadZeroSkipWrite ∷ ImageLoad Unchecked ∷
    BindingArray Restrict ∷ BindingArray ReadZeroSkipWrite ∷ BindingArray Unchecked ∷ []

abbrev pub setting_of : List ℕ → Option Setting
setting_of part = find (λ setting. bytes_eq (setting_text setting) part) all_settings

abbrev pub with_setting : BoundsCheckPolicies → Setting → BoundsCheckPolicies
with_setting policies (Index policy) = record policies { index = policy }
with_setting policies (Buffer policy) = record policies { buffer = policy }
with_setting policies (ImageLoad policy) = record policies { image_load = policy }
with_setting policies (BindingArray policy) = record policies { binding_array = policy }

-- each part is a setting, and the policies are those of all parts together
abbrev pub policies_from : BoundsCheckPolicies → List (List ℕ) → Option BoundsCheckPolicies
policies_from policies [] = Some policies
policies_from policies (part ∷ parts) = option_and_then (λ setting. policies_from (with_setting policies setting) parts) (setting_of part)

-- the settings stand between commas, and what isn't set is unchecked
abbrev pub policies_of : List ℕ → Option BoundsCheckPolicies
policies_of word = policies_from unchecked (slice_split (λ b. b == 44) word)
