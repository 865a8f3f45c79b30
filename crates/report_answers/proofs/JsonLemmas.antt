-- Output as JSON is JSON, with the members that are defined for it.
use Rattle.std.proofs.Common.{◌≡◌, ◌∙◌, ◌&&◌, ◌++◌, ap, ap₂, refl, subst, sym, inl, inr, arith, ℕ, Bool, true, false, List, [], ◌∷◌}
use Rattle.std.proofs.Common.{◌⊎◌, Option, Some, None, Result, Ok, Err, codes, is_some}
use Rattle.json.specs.Json as json
use Rattle.json.specs.Json.{Json, member}
use Rattle.json.specs.Token.{Token, begin_array, end_array, key, string}
use Rattle.report_diagnostics.proofs.ValueLemmas.{diagnostic_value, head_spelled}
use Rattle.report_diagnostics.specs.Heads.{head_members, verdict_text}
use Rattle.report_diagnostics.specs.declared.diagnostic.Diagnostic.{Diagnostic}
use Rattle.report_diagnostics.specs.declared.head.Verdict.{Verdict}
use Rattle.report_diagnostics.specs.declared.head.Verdict.TheVariants as heads
use Rattle.report_input.proofs.ValueLemmas.{byte_value, path_value}
use Rattle.report_input.specs.Errors.{IsAnswerWith, IsNestingObject, IsObjectText, error_members, object_tokens}
use Rattle.report_json.proofs.LineLemmas.{line_document, line_value}
use Rattle.report_json.proofs.SpellingLemmas.{each_item, items_closed, members_within, no_named, one_member, one_named, spell_boolean}
use Rattle.report_json.proofs.SpellingLemmas.{spell_object, then_member, then_members, then_named, value_within}
use Rattle.report_json.specs.Values.{IsLine, IsObjectOf, SpellItems, SpellMembers, SpellNamed, SpellValue}
use Rattle.report_model.specs.Analyzed.{IsAnalyzed, IsUniformityIf, info_of, is_accepted, is_sound, sound_of, uniformity_of}
use Rattle.report_model.specs.declared.analyzed.Analyzed.{Analyzed}
use Rattle.report_model.specs.declared.analyzed.Analyzed.TheVariants.{Fault, WellFormed}
use Rattle.report_places.proofs.ValueLemmas.{body_value}
use Rattle.report_places.specs.Sites.{place_of_body}
use Rattle.shader_analysis.specs.Recorded.{Recorded}
use Rattle.shader_analysis_spec.specs.Faults.{Settings}
use Rattle.shader_analysis_spec.specs.Program.{Module}
use Rattle.shader_bounds.specs.declared.policies.BoundsCheckPolicies.{BoundsCheckPolicies}
use Rattle.shader_info.specs.declared.error.AnalysisError.{AnalysisError}
use Rattle.shader_ir.specs.declared.proc.layouter.LayoutError.{LayoutError}
use Rattle.shader_ir.specs.declared.proc.layouter.TypeLayout.{TypeLayout}
use Rattle.shader_json_reader.specs.declared.error.ReadError.{ReadError}
use Rattle.shader_json_reader.specs.declared.error.ReadError.TheVariants.{OutOfMemory, TooLong, NotJson, TooDeep, NotModule}
use Rattle.shader_report_bounds.proofs.ValueLemmas.{bounds_value}
use Rattle.shader_report_bounds.specs.declared.module_bounds.ModuleBounds.{ModuleBounds}
use Rattle.shader_report_json.proofs.ValueLemmas.{module_named}
use Rattle.shader_report_json.specs.Answers.{AreModuleMembers}
use Rattle.shader_report_resources.proofs.ValueLemmas.{resources_spelled}
use Rattle.shader_uniformity.specs.declared.divergence.Uniformity.{Uniformity}
use Rattle.shader_uniformity.specs.declared.facts.BodyLocation.{BodyLocation}
use Rattle.report_answers.proofs.TextLemmas.{made, no_false, undecided}
use Rattle.report_answers.specs.JsonLaws.{IsAnswer, MembersAreListed, ReportsAreJson, accepted_names, name_if, names_on}
use Rattle.report_answers.specs.Options.{bounds_of, checks_uniformity, settings}
use Rattle.report_answers.specs.Reports.{IsDeepReport, IsErrorFor, IsJson, IsModuleReport, IsNestingFor, IsPrintedFor}
use Rattle.report_answers.specs.Reports.{IsReadRefusal, answer_members, word_of}
use Rattle.report_answers.specs.Sections.{AreBoundsFor, AreResourcesFor, AreSections, bounds_members}
use Rattle.report_answers.specs.Verdicts.{verdict_members, verdict_tokens}
use Rattle.report_answers.specs.declared.options.Options.{Options}

-- ---- the members behind the head

verdict_value : (fault : Option BodyLocation) → SpellValue 2 (verdict_tokens fault)
unfolding verdict_tokens
verdict_value None = spell_object (one_member spell_boolean)
verdict_value (Some location) = spell_object (then_member spell_boolean (one_member (body_value (place_of_body location))))

flow_named : (found : Option Uniformity) → SpellNamed 10 (name_if (is_some found) (codes "uniformity_verdict")) (verdict_members found)
flow_named (Some found) = one_named (value_within (verdict_value found.fault) (omega arith))
flow_named None = no_named

bounds_named : (policies : Option BoundsCheckPolicies) (info : Option Recorded) (m : Module) (bounds : Option ModuleBounds) →
    AreBoundsFor policies info m bounds →
    SpellNamed 10 (name_if (is_some info && is_some policies) (codes "bounds")) (bounds_members bounds)
bounds_named (Some policies) (Some info) m (Some bounds) are = one_named (value_within (bounds_value bounds) (omega arith))
bounds_named (Some policies) (Some info) m None are = absurd are
bounds_named (Some policies) None m bounds are = subst (λ b. SpellNamed 10 [] (bounds_members b)) (sym are) no_named
bounds_named None (Some info) m bounds are = subst (λ b. SpellNamed 10 [] (bounds_members b)) (sym are) no_named
bounds_named None None m bounds are = subst (λ b. SpellNamed 10 [] (bounds_members b)) (sym are) no_named

resources_named : (asked : Bool) (found : Option (List TypeLayout × Recorded)) (j : Json) (m : Module) (tokens : List Token) →
    AreResourcesFor asked found j m tokens → SpellNamed 10 (name_if (is_some found && asked) (codes "resources")) tokens
resources_named true (Some found) j m tokens are =
    subst (SpellNamed 10 (codes "resources" ∷ [])) (sym are.written)
    (one_named (value_within (resources_spelled j m found.0 found.1 are.resources are.are) (omega arith)))
resources_named true None j m tokens are = subst (SpellNamed 10 []) (sym are) no_named
resources_named false (Some found) j m tokens are = subst (SpellNamed 10 []) (sym are) no_named
resources_named false None j m tokens are = subst (SpellNamed 10 []) (sym are) no_named

module _ (options : Options) (input : List ℕ) (j : Json) (m : Module) (analyzed : Analyzed) where
  rest_named : (found sections : List Token) → AreModuleMembers analyzed found → AreSections options j m analyzed sections →
      SpellNamed 10 (names_on options analyzed) (verdict_members (uniformity_of analyzed) ++ (found ++ sections))
  rest_named found sections found_are sections_are =
      let asked = then_named (bounds_named (bounds_of options) (info_of analyzed) m sections_are.bounds sections_are.bounds_asked)
      (resources_named options.has_resources (sound_of analyzed) j m sections_are.resources sections_are.resources_asked) in
      then_named (flow_named (uniformity_of analyzed)) (then_named (module_named analyzed found found_are)
      (subst (SpellNamed 10 _) (sym sections_are.written) asked))

-- ---- lines with a head

module _ (verdict : Verdict) (diagnostics : List Diagnostic) {names : List (List ℕ)} {rest : List Token} (behind : SpellNamed 10 names rest)
    {text : List ℕ} (line : IsLine (head_members verdict diagnostics ++ rest) text) where
  listed : IsObjectOf (head_members verdict diagnostics ++ rest) text
  listed = line_value (then_members (members_within (head_spelled verdict diagnostics) (omega arith)) behind.spell) (omega arith) line

  answered : IsAnswer verdict names text
  answered =
      let all : SpellItems 5 _ = each_item diagnostic_value diagnostics in
      let closed = items_closed all.items ∙ ap (λ (ts : List Token). ts ++ end_array ∷ []) all.spelled in
      let spell : SpellMembers 10 (head_members verdict diagnostics ++ rest) = record {
        members = member (codes "version") (json.string (codes "1.0")) (member (codes "verdict") (json.string (verdict_text verdict))
            (member (codes "diagnostics") (json.array all.items) behind.spell.members));
        spelled = ap₂ (λ (items others : List Token). key (codes "version") ∷ string (codes "1.0") ∷ key (codes "verdict")
            ∷ string (verdict_text verdict) ∷ key (codes "diagnostics") ∷ begin_array ∷ (items ++ others)) closed behind.spell.spelled;
        shallow = omega (arith, all.shallow, behind.spell.shallow);
      } in
      record {
        diagnostics = all.items;
        rest = behind.spell.members;
        value = line_document spell (omega arith) line;
        named = behind.named;
        utf8 = line.utf8;
      }

-- ---- on a module

on_module : (options : Options) (input : List ℕ) (j : Json) (m : Module) (analyzed : Analyzed) (text : List ℕ)
    (json : IsJson options input j m analyzed text) → IsObjectOf (answer_members analyzed json.diagnostics json.found json.sections) text
on_module options input j m analyzed text json =
    listed (word_of (is_accepted analyzed)) json.diagnostics
    (rest_named options input j m analyzed json.found json.sections json.found_are json.sections_are) json.line

module_answered : (options : Options) (input : List ℕ) (j : Json) (m : Module) (analyzed : Analyzed) (text : List ℕ) →
    options.is_json ≡ true → IsPrintedFor options.is_json options input j m analyzed text →
    IsAnswer (word_of (is_accepted analyzed)) (names_on options analyzed) text
module_answered options input j m analyzed text is printed =
    let json : IsJson options input j m analyzed text = subst (λ b. IsPrintedFor b options input j m analyzed text) is printed in
    answered (word_of (is_accepted analyzed)) json.diagnostics
    (rest_named options input j m analyzed json.found json.sections json.found_are json.sections_are) json.line

report_answered : (options : Options) (input : List ℕ) (accepted : Bool) (text : List ℕ) → options.is_json ≡ true →
    (report : IsModuleReport options input accepted text) →
    IsAnswer (word_of accepted) (names_on options report.output.output.analyzed) text
report_answered options input accepted text is report =
    let out = report.output.output in
    subst (λ b. IsAnswer (word_of b) (names_on options out.analyzed) text) (sym out.verdict)
    (module_answered options input report.output.j report.m out.analyzed text is out.printed)

-- ---- the names on an accepted module

abbrev names_with : Bool → Options → List (List ℕ)
names_with checks options =
    name_if checks (codes "uniformity_verdict") ++ (codes "layouts" ∷ codes "info"
    ∷ (name_if (is_some (bounds_of options)) (codes "bounds") ++ name_if options.has_resources (codes "resources")))

module _ (options : Options) (m : Module) (checks : Bool) (layouts : List TypeLayout) where
  flow_decided : (flow : Option Uniformity) (b : Bool) → IsUniformityIf m (b && true) flow → is_some flow ≡ b
  flow_decided (Some found) true decided = refl
  flow_decided None true decided = absurd decided
  flow_decided flow false decided = ap is_some decided

  parts_named : (layout_error : Option LayoutError) (info : Result Recorded AnalysisError) (flow : Option Uniformity) →
      IsUniformityIf m (checks && is_sound layout_error info) flow →
      is_accepted (WellFormed (made layouts layout_error info flow)) ≡ true →
      names_on options (WellFormed (made layouts layout_error info flow)) ≡ names_with checks options
  parts_named None (Ok infos) flow decided accepted = ap (λ b. names_with b options) (flow_decided flow checks decided)
  parts_named None (Err error) None decided accepted = absurd (no_false accepted)
  parts_named None (Err error) (Some flow) decided accepted = absurd (undecided m checks layouts checks flow decided)
  parts_named (Some error) info None decided accepted = absurd (no_false accepted)
  parts_named (Some error) info (Some flow) decided accepted = absurd (undecided m checks layouts checks flow decided)

accepted_named : (options : Options) (m : Module) (settings : Settings) (checks : Bool) (analyzed : Analyzed) →
    IsAnalyzed m settings checks analyzed → is_accepted analyzed ≡ true → names_on options analyzed ≡ names_with checks options
accepted_named options m settings checks (Fault found) analyzed accepted = absurd (no_false accepted)
accepted_named options m settings checks (WellFormed analysis) analyzed accepted =
    parts_named options m checks analysis.layouts analysis.layout_error analysis.info analysis.uniformity analyzed.uniformity accepted

accepted_answered : (options : Options) (input text : List ℕ) → options.is_json ≡ true → IsModuleReport options input true text →
    IsAnswer heads.Accepted (accepted_names options) text
accepted_answered options input text is report =
    let out = report.output.output in
    let names = accepted_named options report.m (settings options) (checks_uniformity options) out.analyzed out.found (sym out.verdict) in
    subst (λ names. IsAnswer heads.Accepted names text) names (report_answered options input true text is report)

-- ---- on an input that is no module

module _ (diagnostic : Diagnostic) where
  error_named : {error : List Token} → SpellValue 1 error → SpellNamed 10 (codes "error" ∷ []) (key (codes "error") ∷ error)
  error_named spell = one_named (value_within spell (omega arith))

  error_listed : {error : List Token} {text : List ℕ} → SpellValue 1 error → IsLine (error_members diagnostic error) text →
      IsObjectOf (error_members diagnostic error) text
  error_listed spell line = listed heads.InvalidInput (diagnostic ∷ []) (error_named spell) line

  error_answered : {error : List Token} {text : List ℕ} → SpellValue 1 error → IsLine (error_members diagnostic error) text →
      IsAnswer heads.InvalidInput (codes "error" ∷ []) text
  error_answered spell line = answered heads.InvalidInput (diagnostic ∷ []) (error_named spell) line

  with_listed : (error : ReadError) (text : List ℕ) → IsAnswerWith diagnostic error text →
      IsObjectOf (error_members diagnostic (object_tokens error)) text
  with_listed OutOfMemory text line = absurd line
  with_listed TooLong text line = error_listed (byte_value _ _) line
  with_listed (NotJson byte) text line = error_listed (byte_value _ _) line
  with_listed (TooDeep byte) text line = error_listed (byte_value _ _) line
  with_listed (NotModule path wanted found) text line = error_listed (path_value _ _) line

  with_answered : (error : ReadError) (text : List ℕ) → IsAnswerWith diagnostic error text →
      IsAnswer heads.InvalidInput (codes "error" ∷ []) text
  with_answered OutOfMemory text line = absurd line
  with_answered TooLong text line = error_answered (byte_value _ _) line
  with_answered (NotJson byte) text line = error_answered (byte_value _ _) line
  with_answered (TooDeep byte) text line = error_answered (byte_value _ _) line
  with_answered (NotModule path wanted found) text line = error_answered (path_value _ _) line

-- ---- the laws

pub members_are_listed : MembersAreListed
members_are_listed = record {
  on_module = on_module;
  on_error = λ input error text json. with_listed json.diagnostic error text json.printed;
  on_nesting = λ text json. error_listed json.diagnostic (path_value _ _) json.printed;
}

no_module : (options : Options) → options.is_json ≡ true → (input text : List ℕ) →
    IsReadRefusal options input text ⊎ IsDeepReport options input text → IsAnswer heads.InvalidInput (codes "error" ∷ []) text
no_module options is input text (inl report) =
    let json : IsObjectText input report.error text = subst (λ b. IsErrorFor b options input report.error text) is report.refusal in
    with_answered json.diagnostic report.error text json.printed
no_module options is input text (inr report) =
    let json : IsNestingObject text = subst (λ b. IsNestingFor b options text) is report.nested.told in
    error_answered json.diagnostic (path_value _ _) json.printed

pub reports_are_json : ReportsAreJson
reports_are_json = record {
  accepted = λ options is input text report. accepted_answered options input text is report;
  refused = λ options is input text report. report_answered options input false text is report;
  no_module = no_module;
}
