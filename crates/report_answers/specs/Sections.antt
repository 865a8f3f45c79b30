-- The sections of a report that words ask for: members of the JSON, or lines for people.
use Rattle.std.specs.Prelude.{◌≡◌, ◌++◌, [], ◌∷◌, ℕ, Bool, true, false, List, Option, Some, None, ⊤, codes, length}
use Rattle.json.specs.Json.{Json}
use Rattle.json.specs.Token.{Token, key}
use Rattle.report_model.specs.Analyzed.{info_of, sound_of}
use Rattle.report_model.specs.declared.analyzed.Analyzed.{Analyzed}
use Rattle.shader_analysis.specs.Recorded.{Recorded}
use Rattle.shader_analysis_spec.specs.Program.{Module}
use Rattle.shader_bounds.specs.declared.policies.BoundsCheckPolicies.{BoundsCheckPolicies}
use Rattle.shader_interface.specs.Bound.{bound_first}
use Rattle.shader_interface.specs.Workgroups.{workgroups_first}
use Rattle.shader_interface.specs.declared.bound.ResourceBinding.{ResourceBinding}
use Rattle.shader_interface.specs.declared.workgroup.WorkgroupSize.{WorkgroupSize}
use Rattle.shader_ir.specs.declared.proc.layouter.TypeLayout.{TypeLayout}
use Rattle.shader_report_bounds.specs.Bounds.{AreModuleBounds}
use Rattle.shader_report_bounds.specs.Texts.{IsBoundsText}
use Rattle.shader_report_bounds.specs.Tokens.{bounds_tokens}
use Rattle.shader_report_bounds.specs.declared.module_bounds.ModuleBounds.{ModuleBounds}
use Rattle.shader_report_resources.specs.Resources.{AreResources, AreResourcesLines}
use Rattle.report_answers.specs.Options.{bounds_of}
use Rattle.report_answers.specs.declared.options.Options.{Options}

-- what back ends check of an accepted module under the policies, and nothing of another one or unasked
abbrev pub AreBoundsFor : Option BoundsCheckPolicies → Option Recorded → Module → Option ModuleBounds → Type 0
AreBoundsFor (Some policies) (Some info) m (Some bounds) = AreModuleBounds m policies bounds
AreBoundsFor (Some policies) (Some info) m None = ⊥
AreBoundsFor (Some policies) None m found = found ≡ None
AreBoundsFor None info m found = found ≡ None

abbrev pub AreBoundsAsked : Options → Module → Analyzed → Option ModuleBounds → Type 0
AreBoundsAsked options m analyzed found = AreBoundsFor (bounds_of options) (info_of analyzed) m found

-- the checks that were found, as text for people
abbrev pub IsTextOfBounds : Option BoundsCheckPolicies → Option ModuleBounds → Module → List ℕ → Type 0
IsTextOfBounds (Some policies) (Some found) m text = IsBoundsText m policies found text
IsTextOfBounds (Some policies) None m text = text ≡ []
IsTextOfBounds None found m text = text ≡ []

pub record AreBoundsLines (options : Options) (m : Module) (analyzed : Analyzed) (text : List ℕ) : Type 0 where
  pub found : Option ModuleBounds
  pub asked : AreBoundsAsked options m analyzed found
  pub printed : IsTextOfBounds (bounds_of options) found m text

abbrev pub bounds_members : Option ModuleBounds → List Token
bounds_members (Some bounds) = key (codes "bounds") ∷ bounds_tokens bounds
bounds_members None = []

-- the resources of a module for which the JSON stands, by its layouts and infos
pub record AreResourceMembers (j : Json) (m : Module) (layouts : List TypeLayout) (infos : Recorded) (tokens : List Token) : Type 0 where
  pub resources : List Token
  pub are : AreResources j m layouts infos resources
  pub written : tokens ≡ key (codes "resources") ∷ resources

-- nothing of a module that has a fault, and nothing unasked
abbrev pub AreResourcesFor : Bool → Option (List TypeLayout × Recorded) → Json → Module → List Token → Type 0
AreResourcesFor true (Some found) j m tokens = AreResourceMembers j m found.0 found.1 tokens
AreResourcesFor true None j m tokens = tokens ≡ []
AreResourcesFor false found j m tokens = tokens ≡ []

abbrev pub AreResourcesAsked : Options → Json → Module → Analyzed → List Token → Type 0
AreResourcesAsked options j m analyzed tokens = AreResourcesFor options.has_resources (sound_of analyzed) j m tokens

-- the same as lists for people
abbrev AreLinesFor : Bool → Option (List TypeLayout × Recorded) → Json → Module → List ℕ → Type 0
AreLinesFor true (Some found) j m text = AreResourcesLines j m found.0 found.1 text
AreLinesFor true None j m text = text ≡ []
AreLinesFor false found j m text = text ≡ []

abbrev pub AreLinesAsked : Options → Json → Module → Analyzed → List ℕ → Type 0
AreLinesAsked options j m analyzed text = AreLinesFor options.has_resources (sound_of analyzed) j m text

-- the JSON is at hand if words ask for resources
abbrev pub IsRootIf : Bool → Json → Option Json → Type 0
IsRootIf true j (Some root) = root ≡ j
IsRootIf true j None = ⊥
IsRootIf false j root = ⊤

-- the members that words ask for
pub record AreSections (options : Options) (j : Json) (m : Module) (analyzed : Analyzed) (tokens : List Token) : Type 0 where
  pub bounds : Option ModuleBounds
  pub bounds_asked : AreBoundsAsked options m analyzed bounds
  pub resources : List Token
  pub resources_asked : AreResourcesAsked options j m analyzed resources
  pub written : tokens ≡ bounds_members bounds ++ resources

-- the text for people ends with the bounds checks and the resources that words ask for
pub record EndsWithLines (options : Options) (j : Json) (m : Module) (analyzed : Analyzed) (text : List ℕ) : Type 0 where
  pub before : List ℕ
  pub bounds : List ℕ
  pub bounds_asked : AreBoundsLines options m analyzed bounds
  pub resources : List ℕ
  pub resources_asked : AreLinesAsked options j m analyzed resources
  pub printed : text ≡ before ++ (bounds ++ resources)

-- for people, where the JSON has the host bind each global variable of the module; JSON has its resources as a member of their own
abbrev AreBindingsFor : Bool → Json → Module → List (Option ResourceBinding) → Type 0
AreBindingsFor true j m bindings = bindings ≡ []
AreBindingsFor false j m bindings = bindings ≡ bound_first j (length m.global_variables)

abbrev pub AreBindings : Options → Json → Module → List (Option ResourceBinding) → Type 0
AreBindings options j m bindings = AreBindingsFor options.is_json j m bindings

-- and the size of the work groups of each entry point
abbrev AreGroupsFor : Bool → Json → Module → List WorkgroupSize → Type 0
AreGroupsFor true j m groups = groups ≡ []
AreGroupsFor false j m groups = groups ≡ workgroups_first j (length m.entry_points)

abbrev pub AreGroups : Options → Json → Module → List WorkgroupSize → Type 0
AreGroups options j m groups = AreGroupsFor options.is_json j m groups
