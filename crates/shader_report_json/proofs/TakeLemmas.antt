-- Lists collected item by item.
use Rattle.std.proofs.Common.{◌≡◌, ◌∙◌, refl, sym, ap, subst, ℕ, ◌+◌, ◌≤◌, List, [], ◌∷◌, ◌++◌, Some, length, take, map, arith, codes, Bor}
use Rattle.std.specs.Prelude.{slice_get}
use Rattle.std.specs.List.{flat_map}
use Rattle.std.proofs.lemmas.List.{map-append, take_all, take_more}
use Rattle.std.proofs.lemmas.List.Elements.{All-push}
use Rattle.std.proofs.lemmas.List.Folds.{flat_map-map}
use Rattle.std.proofs.lemmas.Option.{get_or_from_slice_get, slice_get_within}
use Rattle.shader_info.specs.declared.info.FunctionInfo.{FunctionInfo}
use Rattle.shader_ir.specs.declared.proc.type_resolution.TypeResolution.{TypeResolution}
use Rattle.json.specs.Token.{Token, key}
use Rattle.report_json.specs.Functions.{answer_tokens}
use Rattle.report_json.specs.Tokens.{array, object}
use Rattle.shader_analysis.specs.Recorded.{Recorded}
use Rattle.shader_report_json.specs.Answers.{AddsAnswer, AreAnswersOf, AreInfoTokens}
use Rattle.shader_report_json.specs.Sorted.{IsFunctionAnswer}
use Rattle.report_json.specs.Types.{resolution_tokens}
use Rattle.report_json.specs.declared.functions.FunctionAnswer.{FunctionAnswer}

pub one_taken : {X : Type 0} (xs : List X) (n : ℕ) (x : X) → slice_get xs n ≡ Some x → take (n + 1) xs ≡ take n xs ++ x ∷ []
one_taken xs n x at =
    take_more xs n x (slice_get_within xs n x at) ∙ ap (λ y. take n xs ++ y ∷ []) (get_or_from_slice_get xs n x x at)

-- one more item, of a list that is read by f
pub one_mapped : {X Y : Type 0} (f : X → Y) (ys : List Y) (n : ℕ) (old : List X) (x : X) → map f old ≡ take n ys
    → slice_get ys n ≡ Some (f x) → map f (old ++ x ∷ []) ≡ take (n + 1) ys
one_mapped f ys n old x so at =
    map-append f old (x ∷ []) ∙ ap (λ v. v ++ f x ∷ []) so ∙ sym (one_taken ys n (f x) at)

-- one more function is reported
pub one_reported : (infos : List FunctionInfo) (n : ℕ) (info : FunctionInfo) (old new : List FunctionAnswer) →
    AreAnswersOf (take n infos) old
    → slice_get infos n ≡ Some info → AddsAnswer info old new → AreAnswersOf (take (n + 1) infos) new
one_reported infos n info old new reported at adds =
    let answer = adds.answer in
    subst (AreAnswersOf (take (n + 1) infos)) (sym adds.added) (record {
      of = one_mapped (λ (a : FunctionAnswer). a.info.now) infos n old answer reported.of (at ∙ ap (λ i. Some i) (sym adds.of));
      each = All-push IsFunctionAnswer old answer reported.each adds.reported;
    })

-- all functions are reported
pub all_reported : (infos : List FunctionInfo) (n : ℕ) (answers : List FunctionAnswer) → length infos ≡ n →
    AreAnswersOf (take n infos) answers
    → AreAnswersOf infos answers
all_reported infos n answers counted = subst (λ v. AreAnswersOf v answers) (take_all n infos (omega (arith, counted)))

-- the tokens of types that are borrowed
pub borrowed_tokens : (types : List (Bor TypeResolution)) (found : List TypeResolution) →
    map (λ (ty : Bor TypeResolution). ty.now) types ≡ found →
    flat_map (λ (ty : Bor TypeResolution). resolution_tokens ty.now) types ≡ flat_map resolution_tokens found
borrowed_tokens types found are =
    sym (flat_map-map resolution_tokens (λ (ty : Bor TypeResolution). ty.now) types) ∙ ap (flat_map resolution_tokens) are

-- one more item, of a list that is pushed to
pub one_pushed : {X Y : Type 0} (f : X → Y) (ys : List Y) (n : ℕ) (old new : List X) (x : X) → map f old ≡ take n ys
    → slice_get ys n ≡ Some (f x) → new ≡ old ++ x ∷ [] → map f new ≡ take (n + 1) ys
one_pushed f ys n old new x so at pushed = ap (map f) pushed ∙ one_mapped f ys n old x so at

-- the tokens that are written of the functions, the entry points and the types
abbrev pub infos_tokens : List FunctionAnswer → List FunctionAnswer → List (Bor TypeResolution) → List Token
infos_tokens functions entry_points types =
    key (codes "info") ∷ object (key (codes "functions") ∷ (array (flat_map answer_tokens functions)
    ++ key (codes "entry_points") ∷ (array (flat_map answer_tokens entry_points)
    ++ key (codes "const_expression_types") ∷ array (flat_map (λ (ty : Bor TypeResolution). resolution_tokens ty.now) types))))

pub infos_written : (infos : Recorded) (functions entry_points : List FunctionAnswer) (types : List (Bor TypeResolution)) →
    AreAnswersOf infos.functions functions → AreAnswersOf infos.entry_points entry_points →
    map (λ (ty : Bor TypeResolution). ty.now) types ≡ infos.global_expressions →
    AreInfoTokens infos (infos_tokens functions entry_points types)
infos_written infos functions entry_points types first second third = record {
  functions = functions;
  entry_points = entry_points;
  functions_are = first;
  entry_points_are = second;
  written = ap (λ (tokens : List Token).
      key (codes "info") ∷ object (key (codes "functions") ∷ (array (flat_map answer_tokens functions)
      ++ key (codes "entry_points") ∷ (array (flat_map answer_tokens entry_points)
      ++ key (codes "const_expression_types") ∷ array tokens))))
      (borrowed_tokens types infos.global_expressions third);
}
