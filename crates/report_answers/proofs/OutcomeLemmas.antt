-- A text has one outcome.
use Rattle.std.proofs.Common.{◌≡◌, ◌∙◌, ap, subst, sym, refl, ◌⊎◌, inl, inr, ℕ, ◌<◌, ◌≤◌, Bool, true, false, arith}
use Rattle.std.proofs.Common.{List, Option, Some, None, IsSome, length}
use Rattle.std.specs.Prelude.{MatchOption}
use Rattle.std.specs.Str.{IsUtf8}
use Rattle.json.specs.Json.{Json, document}
use Rattle.report_input.specs.Errors.{IsObjectText}
use Rattle.report_model.specs.Analyzed.{IsAnalyzed, is_accepted}
use Rattle.report_model.specs.declared.analyzed.Analyzed.{Analyzed}
use Rattle.shader_analysis_spec.specs.Faults.{Settings}
use Rattle.shader_analysis_spec.specs.Program.{Module}
use Rattle.shader_json_module.proofs.Modules.{text_determines}
use Rattle.shader_json_module.specs.Modules.{IsErrorOf, IsModule, IsTextOf}
use Rattle.shader_json_reader.specs.Errors.{IsAccurate, most_text_bytes}
use Rattle.shader_json_reader.specs.declared.error.ReadError.{ReadError}
use Rattle.shader_json_reader.specs.declared.error.ReadError.TheVariants as error
use Rattle.shader_resolve.specs.Nesting.{NestsWithin}
use Rattle.report_answers.proofs.FindingsLemmas.{accepted_same, findings_are_determined}
use Rattle.report_answers.specs.Laws.{CheckTheSame, ModulesAreNotRefused, OutcomeIsDetermined}
use Rattle.report_answers.specs.Options.{checks_uniformity, settings}
use Rattle.report_answers.specs.Reports.{IsDeepReport, IsErrorFor, IsErrorText, IsModuleReport, IsReadRefusal, IsRefusal, IsReport}
use Rattle.report_answers.specs.declared.options.Options.{Options}
use Rattle.report_answers.specs.declared.reports.Outcome.{Outcome}
use Rattle.report_answers.specs.declared.reports.Outcome.TheVariants.{Accepted, Refused, NotModule}

-- that memory was refused is reported of no input
no_memory_error : (options : Options) (json : Bool) → options.is_json ≡ json → (input text : List ℕ) →
    IsRefusal options input error.OutOfMemory text → ⊥
no_memory_error options true is input text refusal =
    let object : IsObjectText input error.OutOfMemory text = subst (λ b. IsErrorFor b options input error.OutOfMemory text) is refusal in
    object.printed
no_memory_error options false is input text refusal =
    let people : IsErrorText options input error.OutOfMemory text =
    subst (λ b. IsErrorFor b options input error.OutOfMemory text) is refusal in
    people.of.has

no_value : (found : Option Json) → IsSome found → found ≡ None → ⊥
no_value None some none = cc
no_value (Some j) some none = cc

module _ (input : List ℕ) (short : length input ≤ most_text_bytes) (utf8 : IsUtf8 input) (parses : IsSome (document input))
    (m : Module) (stands : IsTextOf input m) where
  -- what stands for a module has no error
  no_error : (options : Options) (text : List ℕ) → (failure : ReadError) → IsErrorOf input failure →
      IsRefusal options input failure text → ⊥
  no_error options text error.OutOfMemory of refusal = no_memory_error options options.is_json refl input text refusal
  no_error options text error.TooLong of refusal = let long : most_text_bytes < length input = of.accurate in omega (arith, short, long)
  no_error options text (error.NotJson byte) of refusal = no_value (document input) parses (of.accurate.no_json utf8)
  no_error options text (error.TooDeep byte) of refusal = no_value (document input) parses (of.accurate.no_json utf8)
  no_error options text (error.NotModule path wanted found) of refusal = of.no_module tt m stands

  -- nor is it told that its blocks nest too deep
  not_refused : (options : Options) (text : List ℕ) → NestsWithin 4000 m →
      IsReadRefusal options input text ⊎ IsDeepReport options input text → ⊥
  not_refused options text nested (inl refusal) = no_error options text refusal.error refusal.accurate refusal.refusal
  not_refused options text nested (inr deep) =
      deep.nested.deep (subst (NestsWithin 4000) (text_determines input m deep.m stands deep.stands) nested)

spells : (m : Module) (found : Option Json) → MatchOption found ⊥ (λ j. IsModule j m) → IsSome found
spells m None stands = absurd stands
spells m (Some j) stands = refl

pub modules_are_not_refused : ModulesAreNotRefused
modules_are_not_refused input short utf8 m stands nested options text refused =
    not_refused input short utf8 (spells m (document input) stands) m stands options text nested refused

module _ (input : List ℕ) (short : length input ≤ most_text_bytes) (options others : Options) (same : CheckTheSame options others) where
  one_verdict : (one other : Bool) (text second : List ℕ) → IsModuleReport options input one text →
      IsModuleReport others input other second → one ≡ other
  one_verdict one other text second x y =
      let a = x.output.output in
      let b = y.output.output in
      let m = y.m in
      let found = subst (λ v. IsAnalyzed v (settings options) (checks_uniformity options) a.analyzed)
      (text_determines input x.m m x.stands y.stands) a.found in
      let checked = subst (λ v. IsAnalyzed m (settings options) v a.analyzed) same.flow found in
      let alike = subst (λ v. IsAnalyzed m v (checks_uniformity others) a.analyzed) same.settings_are checked in
      a.verdict
      ∙ accepted_same a.analyzed b.analyzed (findings_are_determined m (settings others) (checks_uniformity others) a.analyzed b.analyzed
      alike b.found)
      ∙ sym b.verdict

  refused_none : (accepted : Bool) (text second : List ℕ) → IsModuleReport options input accepted text →
      IsReadRefusal others input second ⊎ IsDeepReport others input second → ⊥
  refused_none accepted text second x y = not_refused input short x.utf8 x.parses x.m x.stands others second x.output.output.nested y

  none_refused : (accepted : Bool) (text second : List ℕ) → IsModuleReport others input accepted text →
      IsReadRefusal options input second ⊎ IsDeepReport options input second → ⊥
  none_refused accepted text second x y = not_refused input short x.utf8 x.parses x.m x.stands options second x.output.output.nested y

  two_outcomes : (one other : Outcome) (text second : List ℕ) → IsReport options input one text → IsReport others input other second →
      one ≡ other
  two_outcomes Accepted Accepted text second x y = refl
  two_outcomes Accepted Refused text second x y = let is = one_verdict true false text second x y in absurd (cc)
  two_outcomes Accepted NotModule text second x y = absurd (refused_none true text second x y)
  two_outcomes Refused Accepted text second x y = let is = one_verdict false true text second x y in absurd (cc)
  two_outcomes Refused Refused text second x y = refl
  two_outcomes Refused NotModule text second x y = absurd (refused_none false text second x y)
  two_outcomes NotModule Accepted text second x y = absurd (none_refused true second text y x)
  two_outcomes NotModule Refused text second x y = absurd (none_refused false second text y x)
  two_outcomes NotModule NotModule text second x y = refl

pub outcome_is_determined : OutcomeIsDetermined
outcome_is_determined input short options others same one other text second x y =
    two_outcomes input short options others same one other text second x y
