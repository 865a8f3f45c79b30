-- Two texts on one accepted module agree, except for the sources that they name.
use Rattle.std.proofs.Common.{◌≡◌, ◌∙◌, ap, subst, sym, refl, ◌↔◌, ℕ, Bool, true, false, ◌&&◌, ◌++◌, List, [], ◌∷◌, Option, Some, None}
use Rattle.std.proofs.Common.{Result, Ok, Err, codes, is_none, map}
use Rattle.std.specs.BTreeSet.{BTreeSet, contains}
use Rattle.std.specs.List.{All, Contains}
use Rattle.std.proofs.lemmas.Bool.Decides.{same_from_decides}
use Rattle.std.proofs.lemmas.List.{append-nil}
use Rattle.std.proofs.lemmas.List.Elements.{All-head, All-tail}
use Rattle.std.proofs.lemmas.Map.Lookups.{btree_set_from_contains}
use Rattle.std.proofs.lemmas.Map.Views.{btree_set_contains_iff}
use Rattle.std.proofs.lemmas.Option.{same_Some}
use Rattle.json.specs.Json.{Json}
use Rattle.json.specs.Print.{print}
use Rattle.json.specs.Token.{Token, key}
use Rattle.report_diagnostics.specs.Heads.{head_members}
use Rattle.report_diagnostics.specs.declared.diagnostic.Diagnostic.{Diagnostic}
use Rattle.report_findings.proofs.AcceptedLemmas.{accepted_none}
use Rattle.report_input.specs.Located.{AreLocated}
use Rattle.report_json.specs.Functions.{function_tokens}
use Rattle.report_json.specs.Infos.{resource_key}
use Rattle.report_json.specs.Tokens.{object}
use Rattle.report_json.specs.declared.functions.FunctionAnswer.{FunctionAnswer}
use Rattle.report_model.specs.Analyzed.{IsAnalyzed, IsUniformityIf, info_of, is_accepted, is_sound, sound_of, uniformity_of}
use Rattle.report_model.specs.declared.analyzed.Analysis.{Analysis}
use Rattle.report_model.specs.declared.analyzed.Analyzed.{Analyzed}
use Rattle.report_model.specs.declared.analyzed.Analyzed.TheVariants.{Fault, WellFormed}
use Rattle.shader_analysis.specs.Recorded.{Recorded}
use Rattle.shader_analysis_spec.specs.Faults.{Settings}
use Rattle.shader_analysis_spec.specs.Program.{Module}
use Rattle.shader_info.proofs.PairLemmas.{pairs_exact, pairs_total}
use Rattle.shader_info.specs.Recorded.{ArePairsOf, IsSampled, IsSampledKey, pair_cmp}
use Rattle.shader_info.specs.declared.error.AnalysisError.{AnalysisError}
use Rattle.shader_info.specs.declared.info.FunctionInfo.{FunctionInfo}
use Rattle.shader_info.specs.declared.info.GlobalOrArgument.{GlobalOrArgument}
use Rattle.shader_info.specs.declared.info.GlobalOrArgument.TheVariants as resource
use Rattle.shader_ir.specs.declared.proc.layouter.LayoutError.{LayoutError}
use Rattle.shader_ir.specs.declared.proc.layouter.TypeLayout.{TypeLayout}
use Rattle.shader_json_module.proofs.Modules.{text_determines}
use Rattle.shader_report_json.proofs.PairLemmas.{samplings_exact, samplings_total}
use Rattle.shader_report_json.specs.Answers.{AreAnalysisMembers, AreAnswersOf, AreModuleMembers, info_tokens, layouts_members}
use Rattle.shader_report_json.specs.Sorted.{AreSamplingsOf, IsFunctionAnswer, sampling_cmp}
use Rattle.shader_uniformity.specs.declared.divergence.Uniformity.{Uniformity}
use Rattle.shader_uniformity.specs.declared.facts.BodyLocation.{BodyLocation}
use Rattle.report_answers.proofs.FindingsLemmas.{findings_are_determined}
use Rattle.report_answers.specs.Laws.{AcceptedTextsAgree, AgreeButForSources, AllAgree, FindingsAgree, IsPlain, RecordsAgree, ResultsAgree}
use Rattle.report_answers.specs.Laws.{TextsAgree, accepted_flow, accepted_text, blank_info, blank_tokens}
use Rattle.report_answers.specs.Options.{checks_uniformity, settings}
use Rattle.report_answers.specs.Reports.{IsJson, IsModuleReport, IsPrintedFor, word_of}
use Rattle.report_answers.specs.Sections.{AreBoundsFor, AreResourcesFor, AreSections, bounds_members}
use Rattle.report_answers.specs.Verdicts.{verdict_members, verdict_tokens}
use Rattle.report_answers.specs.declared.options.Options.{Options}

-- ---- the answer on a function

pairs_same : (x y : FunctionInfo) (xs ys : List (ℕ × ℕ)) → ArePairsOf x xs → ArePairsOf y ys →
    ((image sampler : ℕ) → IsSampledKey x image sampler ↔ IsSampledKey y image sampler) → xs ≡ ys
pairs_same x y xs ys a b same =
    let s : BTreeSet (ℕ × ℕ) = record { keys = xs } in
    let t : BTreeSet (ℕ × ℕ) = record { keys = ys } in
    btree_set_from_contains pairs_total s t a.ascending b.ascending (λ q.
    let in_s = btree_set_contains_iff pairs_total pairs_exact s q in
    let in_t = btree_set_contains_iff pairs_total pairs_exact t q in
    let of_x = a.members q.0 q.1 in
    let of_y = b.members q.0 q.1 in
    let equal = same q.0 q.1 in
    same_from_decides (contains pair_cmp s q) (contains pair_cmp t q) in_s
    (λ h. of_x.1 (equal.1 (of_y.0 (in_t.0 h))), λ h. in_t.1 (of_y.1 (equal.0 (of_x.0 h))))) pairs_exact

-- the resource with a key
abbrev with_key : Bool → ℕ → GlobalOrArgument
with_key true index = resource.Argument index
with_key false handle = resource.Global handle

key_of : (b : Bool) (n : ℕ) → resource_key (with_key b n) ≡ (b, n)
key_of true n = refl
key_of false n = refl

samplings_same : (x y : FunctionInfo) (xs ys : List ((Bool × ℕ) × (Bool × ℕ))) → AreSamplingsOf x xs → AreSamplingsOf y ys →
    ((image sampler : GlobalOrArgument) → IsSampled x image sampler ↔ IsSampled y image sampler) → xs ≡ ys
samplings_same x y xs ys a b same =
    let s : BTreeSet ((Bool × ℕ) × (Bool × ℕ)) = record { keys = xs } in
    let t : BTreeSet ((Bool × ℕ) × (Bool × ℕ)) = record { keys = ys } in
    btree_set_from_contains samplings_total s t a.ascending b.ascending (λ q.
    let image = with_key q.0.0 q.0.1 in
    let sampler = with_key q.1.0 q.1.1 in
    let is : (resource_key image, resource_key sampler) ≡ q = ap (λ (k : Bool × ℕ). (k, resource_key sampler)) (key_of q.0.0 q.0.1)
    ∙ ap (λ (k : Bool × ℕ). (q.0, k)) (key_of q.1.0 q.1.1) in
    let in_s = btree_set_contains_iff samplings_total samplings_exact s q in
    let in_t = btree_set_contains_iff samplings_total samplings_exact t q in
    let of_x = a.members image sampler in
    let of_y = b.members image sampler in
    let equal = same image sampler in
    let P : List ((Bool × ℕ) × (Bool × ℕ)) → Type 0 = λ zs. Contains zs (resource_key image, resource_key sampler) in
    let to : Contains xs q → Contains ys q = λ h. subst (Contains ys) is (of_y.1 (equal.0 (of_x.0 (subst (Contains xs) (sym is) h)))) in
    let from : Contains ys q → Contains xs q = λ h. subst (Contains xs) is (of_x.1 (equal.1 (of_y.0 (subst (Contains ys) (sym is) h)))) in
    same_from_decides (contains sampling_cmp s q) (contains sampling_cmp t q) in_s
    (λ h. from (in_t.0 h), λ h. in_t.1 (to h))) samplings_exact

tokens_same : (x y : FunctionInfo) (pairs : List (ℕ × ℕ)) (sampling : List ((Bool × ℕ) × (Bool × ℕ))) → AgreeButForSources x y →
    function_tokens (blank_info x) pairs sampling ≡ function_tokens (blank_info y) pairs sampling
unfolding function_tokens
tokens_same x y pairs sampling same =
    let stages = same.stages in
    let uniformity = same.uniformity in
    let kills = same.may_kill in
    let uses = same.global_uses in
    let expressions = same.expressions in
    let one_source = same.one_source in
    cc

answer_same : (x y : FunctionAnswer) → IsFunctionAnswer x → IsFunctionAnswer y → AgreeButForSources x.info.now y.info.now →
    blank_tokens x ≡ blank_tokens y
answer_same x y a b same =
    let pairs = pairs_same x.info.now y.info.now x.pairs y.pairs a.pairs b.pairs same.pairs in
    let sampling = samplings_same x.info.now y.info.now x.sampling y.sampling a.sampling b.sampling same.sampling in
    tokens_same x.info.now y.info.now x.pairs x.sampling same
    ∙ ap (λ v. function_tokens (blank_info y.info.now) v x.sampling) pairs
    ∙ ap (λ v. function_tokens (blank_info y.info.now) y.pairs v) sampling

abbrev info_in : FunctionAnswer → FunctionInfo
info_in answer = answer.info.now

answers_same : (xs ys : List FunctionAnswer) → All IsFunctionAnswer xs → All IsFunctionAnswer ys →
    AllAgree (map info_in xs) (map info_in ys) → map blank_tokens xs ≡ map blank_tokens ys
answers_same [] [] a b same = refl
answers_same [] (y ∷ ys) a b same = absurd same
answers_same (x ∷ xs) [] a b same = absurd same
answers_same (x ∷ xs) (y ∷ ys) a b same =
    let first : blank_tokens x ≡ blank_tokens y =
    answer_same x y (All-head IsFunctionAnswer x xs a) (All-head IsFunctionAnswer y ys b) same.0 in
    let rest : map blank_tokens xs ≡ map blank_tokens ys =
    answers_same xs ys (All-tail IsFunctionAnswer x xs a) (All-tail IsFunctionAnswer y ys b) same.1 in
    ap (λ (v : List Token). v ∷ map blank_tokens xs) first ∙ ap (λ (v : List (List Token)). blank_tokens y ∷ v) rest

of_infos : (infos others : List FunctionInfo) (xs ys : List FunctionAnswer) → AreAnswersOf infos xs → AreAnswersOf others ys →
    AllAgree infos others → map blank_tokens xs ≡ map blank_tokens ys
of_infos infos others xs ys a b same =
    answers_same xs ys a.each b.each (subst (λ v. AllAgree v (map info_in ys)) (sym a.of) (subst (AllAgree infos) (sym b.of) same))

-- ---- the text on an accepted module

abbrev pub made : List TypeLayout → Option LayoutError → Result Recorded AnalysisError → Option Uniformity → Analysis
made layouts layout_error info uniformity =
    record { layouts = layouts; layout_error = layout_error; info = info; uniformity = uniformity }

-- what is written of an accepted module
record IsWritten (checks : Bool) (analyzed : Analyzed) (found : List Token) : Type 0 where
  pub layouts : List TypeLayout
  pub infos : Recorded
  pub sound : sound_of analyzed ≡ Some (layouts, infos)
  pub flow : verdict_members (uniformity_of analyzed) ≡ accepted_flow checks
  pub functions : List FunctionAnswer
  pub functions_are : AreAnswersOf infos.functions functions
  pub entry_points : List FunctionAnswer
  pub entry_points_are : AreAnswersOf infos.entry_points entry_points
  pub written : found ≡ layouts_members layouts None ++ info_tokens functions entry_points infos.global_expressions

pub no_false : false ≡ true → ⊥
no_false is = cc

no_place : (fault : Option BodyLocation) → is_none fault ≡ true → verdict_tokens fault ≡ verdict_tokens None
no_place None none = refl
no_place (Some place) none = absurd (no_false none)

module _ (m : Module) (checks : Bool) (layouts : List TypeLayout) where
  abbrev Accepts : Option LayoutError → Result Recorded AnalysisError → Option Uniformity → Type 0
  Accepts layout_error info flow = is_accepted (WellFormed (made layouts layout_error info flow)) ≡ true

  flow_written : (infos : Recorded) (flow : Option Uniformity) → (b : Bool) → IsUniformityIf m (b && true) flow →
      Accepts None (Ok infos) flow → verdict_members flow ≡ accepted_flow b
  flow_written infos (Some found) true decided accepted =
      ap (λ (ts : List Token). key (codes "uniformity_verdict") ∷ ts) (no_place found.fault accepted)
  flow_written infos None true decided accepted = absurd decided
  flow_written infos flow false decided accepted = ap verdict_members decided

  -- control flow isn't decided where something else is at fault
  pub undecided : (b : Bool) (found : Uniformity) → IsUniformityIf m (b && false) (Some found) → ⊥
  undecided true found decided = let none : Some found ≡ None = decided in cc
  undecided false found decided = let none : Some found ≡ None = decided in cc

  analysis_written : (layout_error : Option LayoutError) (info : Result Recorded AnalysisError) (flow : Option Uniformity)
      (found : List Token) → IsUniformityIf m (checks && is_sound layout_error info) flow → Accepts layout_error info flow →
      AreAnalysisMembers (made layouts layout_error info flow) found →
      IsWritten checks (WellFormed (made layouts layout_error info flow)) found
  analysis_written None (Ok infos) flow found decided accepted are = record {
    layouts = layouts;
    infos = infos;
    sound = refl;
    flow = flow_written infos flow checks decided accepted;
    functions = are.info_are.functions;
    functions_are = are.info_are.functions_are;
    entry_points = are.info_are.entry_points;
    entry_points_are = are.info_are.entry_points_are;
    written = are.written ∙ ap (λ (ts : List Token). layouts_members layouts None ++ ts) are.info_are.written;
  }
  analysis_written None (Err error) None found decided accepted are = absurd (no_false accepted)
  analysis_written None (Err error) (Some flow) found decided accepted are = absurd (undecided checks flow decided)
  analysis_written (Some error) info None found decided accepted are = absurd (no_false accepted)
  analysis_written (Some error) info (Some flow) found decided accepted are = absurd (undecided checks flow decided)

is_written : (m : Module) (settings : Settings) (checks : Bool) (analyzed : Analyzed) (found : List Token) →
    IsAnalyzed m settings checks analyzed → is_accepted analyzed ≡ true → AreModuleMembers analyzed found →
    IsWritten checks analyzed found
is_written m settings checks (Fault fault) found analyzed accepted are = absurd (no_false accepted)
is_written m settings checks (WellFormed analysis) found analyzed accepted are =
    analysis_written m checks analysis.layouts analysis.layout_error analysis.info analysis.uniformity found analyzed.uniformity
    accepted are

none_located : (input : List ℕ) (faults diagnostics : List Diagnostic) → AreLocated input faults diagnostics → faults ≡ [] →
    diagnostics ≡ []
none_located input [] [] located none = refl
none_located input [] (d ∷ ds) located none = absurd located
none_located input (f ∷ fs) diagnostics located none = absurd (cc)

no_sections : (options : Options) (j : Json) (m : Module) (analyzed : Analyzed) (sections : List Token) → IsPlain options →
    AreSections options j m analyzed sections → sections ≡ []
no_sections options j m analyzed sections plain are =
    let bounds : are.bounds ≡ None = subst (λ v. AreBoundsFor v (info_of analyzed) m are.bounds) plain.no_bounds are.bounds_asked in
    let resources : are.resources ≡ [] = subst (λ v. AreResourcesFor v (sound_of analyzed) j m are.resources) plain.no_resources
    are.resources_asked in
    are.written ∙ ap (λ v. bounds_members v ++ are.resources) bounds ∙ resources

abbrev text_of : Bool → List Diagnostic → List Token → List Token → List ℕ
text_of accepted diagnostics flow found = print (object (head_members (word_of accepted) diagnostics ++ (flow ++ found))) ++ 10 ∷ []

-- the text on an accepted module
record IsAcceptedText (checks : Bool) (analyzed : Analyzed) (text : List ℕ) : Type 0 where
  pub found : List Token
  pub written : IsWritten checks analyzed found
  pub printed : text ≡ accepted_text checks written.layouts written.functions written.entry_points written.infos.global_expressions

accepted_is : (options : Options) (input : List ℕ) (j : Json) (m : Module) (analyzed : Analyzed) (text : List ℕ) → IsPlain options →
    IsAnalyzed m (settings options) (checks_uniformity options) analyzed → is_accepted analyzed ≡ true →
    IsPrintedFor options.is_json options input j m analyzed text → IsAcceptedText (checks_uniformity options) analyzed text
accepted_is options input j m analyzed text plain are accepted printed =
    let json : IsJson options input j m analyzed text = subst (λ b. IsPrintedFor b options input j m analyzed text) plain.json printed in
    let checks = checks_uniformity options in
    let flow = verdict_members (uniformity_of analyzed) in
    let written = is_written m (settings options) checks analyzed json.found are accepted json.found_are in
    let faults = accepted_none m analyzed json.faults json.faults_are (settings options) checks are accepted in
    let diagnostics = none_located input json.faults json.diagnostics json.located faults in
    let sections = no_sections options j m analyzed json.sections plain json.sections_are in
    let found : json.found ++ json.sections ≡ json.found =
    ap (λ (ts : List Token). json.found ++ ts) sections ∙ append-nil json.found in
    record {
      found = json.found;
      written = written;
      printed =
          json.line.printed ∙ ap (λ b. text_of b json.diagnostics flow (json.found ++ json.sections)) accepted
          ∙ ap (λ ds. text_of true ds flow (json.found ++ json.sections)) diagnostics
          ∙ ap (λ ts. text_of true [] ts (json.found ++ json.sections)) written.flow
          ∙ ap (λ ts. text_of true [] (accepted_flow checks) ts) (found ∙ written.written);
    }

-- ---- two texts

record SoundAgree (layouts others : List TypeLayout) (infos other_infos : Recorded) : Type 0 where
  pub layouts_are : layouts ≡ others
  pub infos_are : RecordsAgree infos other_infos

abbrev ok : Recorded → Result Recorded AnalysisError
ok infos = Ok infos

sound_parts : (layouts : List TypeLayout) (layout_error : Option LayoutError) (info : Result Recorded AnalysisError)
    (flow : Option Uniformity) (found : List TypeLayout) (infos : Recorded) →
    sound_of (WellFormed (made layouts layout_error info flow)) ≡ Some (found, infos) →
    (layout_error ≡ None) × (layouts ≡ found) × (info ≡ Ok infos)
sound_parts layouts None (Ok info) flow found infos sound =
    let same : (layouts, info) ≡ (found, infos) = same_Some (layouts, info) (found, infos) sound in
    (refl, ap (λ (p : List TypeLayout × Recorded). p.0) same, ap (λ (p : List TypeLayout × Recorded). ok p.1) same)
sound_parts layouts None (Err error) flow found infos sound = absurd (cc)
sound_parts layouts (Some error) info flow found infos sound = absurd (cc)

sound_agree : (one other : Analyzed) (layouts others : List TypeLayout) (infos other_infos : Recorded) → FindingsAgree one other →
    sound_of one ≡ Some (layouts, infos) → sound_of other ≡ Some (others, other_infos) → SoundAgree layouts others infos other_infos
sound_agree (Fault one) other layouts others infos other_infos agree x y = absurd (cc)
sound_agree (WellFormed one) (Fault other) layouts others infos other_infos agree x y = absurd agree
sound_agree (WellFormed one) (WellFormed other) layouts others infos other_infos agree x y =
    let a = sound_parts one.layouts one.layout_error one.info one.uniformity layouts infos x in
    let b = sound_parts other.layouts other.layout_error other.info other.uniformity others other_infos y in
    record {
      layouts_are = sym a.1 ∙ agree.layouts a.0 ∙ b.1;
      infos_are = subst (λ v. ResultsAgree v (Ok other_infos)) a.2 (subst (ResultsAgree one.info) b.2 agree.info);
    }

texts_agree : (input : List ℕ) (options : Options) → IsPlain options → (one other : List ℕ) → IsModuleReport options input true one →
    IsModuleReport options input true other → TextsAgree (checks_uniformity options) one other
texts_agree input options plain one other x y =
    let a = x.output.output in
    let b = y.output.output in
    let m = y.m in
    let checks = checks_uniformity options in
    let first = accepted_is options input x.output.j x.m a.analyzed one plain a.found (sym a.verdict) a.printed in
    let second = accepted_is options input y.output.j m b.analyzed other plain b.found (sym b.verdict) b.printed in
    let found = subst (λ v. IsAnalyzed v (settings options) checks a.analyzed) (text_determines input x.m m x.stands y.stands) a.found in
    let agree = findings_are_determined m (settings options) checks a.analyzed b.analyzed found b.found in
    let s = first.written in
    let t = second.written in
    let sound = sound_agree a.analyzed b.analyzed s.layouts t.layouts s.infos t.infos agree s.sound t.sound in
    record {
      layouts = s.layouts;
      types = s.infos.global_expressions;
      functions = s.functions;
      entry_points = s.entry_points;
      one_is = first.printed;
      other_functions = t.functions;
      other_entry_points = t.entry_points;
      other_is =
          second.printed
          ∙ ap (λ v. accepted_text checks v t.functions t.entry_points t.infos.global_expressions) (sym sound.layouts_are)
          ∙ ap (λ v. accepted_text checks s.layouts t.functions t.entry_points v) (sym sound.infos_are.types);
      functions_agree = of_infos s.infos.functions t.infos.functions s.functions t.functions s.functions_are t.functions_are
          sound.infos_are.functions;
      entry_points_agree = of_infos s.infos.entry_points t.infos.entry_points s.entry_points t.entry_points s.entry_points_are
          t.entry_points_are sound.infos_are.entry_points;
    }

pub accepted_texts_agree : AcceptedTextsAgree
accepted_texts_agree input options plain one other x y = texts_agree input options plain one other x y
