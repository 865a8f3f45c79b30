-- Functions and entry points of which large parts are read apart from the other members.
use Rattle.std.proofs.Common.{◌≡◌, ℕ, refl, List, ◌∙◌, ap, sym, subst, Bool, true, false, Option, ◌||◌}
use Rattle.std.specs.Prelude.{codes}
use Rattle.std.specs.Str.{bytes_eq}
use Rattle.std.proofs.lemmas.Bool.{both_ways}
use Rattle.std.proofs.lemmas.Slice.Eq.{bytes_eq-Decides}
use Rattle.json.specs.Json.{Json, Members, array, boolean, member, no_members, null, number, object, string}
use Rattle.json.specs.Token.{Token}
use Rattle.shader_ir.specs.declared.function.EntryPoint.{EntryPoint}
use Rattle.shader_ir.specs.declared.function.Function.{Function}
use Rattle.shader_json_declarations.specs.Arenas.{IsArena}
use Rattle.shader_json_declarations.specs.Declarations.{IsArgument, IsLocal, IsResult, IsStage}
use Rattle.shader_json_declarations.specs.NamedExpressions.{AreNamedExpressions}
use Rattle.shader_json_expressions.specs.Expressions.{IsExpression}
use Rattle.shader_json_reader.specs.Numbers.{IsHandle, IsText, IsU32}
use Rattle.shader_json_reader.specs.Shapes.{HasField, IsList, IsOnly, IsOnlyOrNull, IsNullable, IsTriple, MayHave, MayHaveField, Reading}
use Rattle.shader_json_reader.specs.Shapes.{cons_if, values_of}
use Rattle.shader_json_functions.specs.Functions.{HasSignature, HasWorkgroupSize, IsEntryPoint, IsFunction}
use Rattle.shader_json_functions.specs.Next.{AreParts, IsNext, member_unless, without}
use Rattle.shader_json_functions.specs.Statements.{IsBlock}

one_member : (b c : Bool) (name k : List ℕ) (j : Json) (ms : Members) → bytes_eq k name ≡ c → (c ≡ true → b ≡ false)
    → values_of name (member_unless b k j ms) ≡ cons_if c j (values_of name ms)
one_member true true name k j ms is apart = absurd (both_ways true (apart refl) refl)
one_member true false name k j ms is apart = refl
one_member false c name k j ms is apart = ap (λ (b : Bool). cons_if b j (values_of name ms)) is

module _ (first second : List ℕ) where
  -- without members of two names, those of a third one are the same
  values_of-without : (name : List ℕ) (ms : Members) → (bytes_eq name first || bytes_eq name second) ≡ false
      → values_of name (without first second ms) ≡ values_of name ms
  values_of-without name no_members apart = refl
  values_of-without name (member k j ms) apart =
      one_member (bytes_eq k first || bytes_eq k second) (bytes_eq k name) name k j (without first second ms) refl
      (λ named. ap (λ l. bytes_eq l first || bytes_eq l second) ((bytes_eq-Decides k name).0 named) ∙ apart)
      ∙ ap (cons_if (bytes_eq k name) j) (values_of-without name ms apart)

  -- so what they stand for is the same
  pub still_has : {A : Type 0} (R : Reading A) (name : List ℕ) (ms : Members) (x : A)
      → (bytes_eq name first || bytes_eq name second) ≡ false
      → HasField R name (without first second ms) x → HasField R name ms x
  still_has R name ms x apart has = subst (λ (js : List Json). IsOnly (λ j. R j x) js) (values_of-without name ms apart) has

  pub still_may_have : {A : Type 0} (R : Reading A) (name : List ℕ) (ms : Members) (x : Option A)
      → (bytes_eq name first || bytes_eq name second) ≡ false → MayHaveField R name (without first second ms) x → MayHaveField R name ms x
  still_may_have R name ms x apart has =
      subst (λ (js : List Json). IsOnlyOrNull (λ j. IsNullable R j x) js) (values_of-without name ms apart) has

  pub still_may : {A : Type 0} (R : Reading A) (name : List ℕ) (ms : Members) → (bytes_eq name first || bytes_eq name second) ≡ false
      → MayHave R name (without first second ms) → MayHave R name ms
  still_may R name ms apart (x, has) = (x, still_may_have R name ms x apart has)

abbrev members_in : Json → Members
members_in null = no_members
members_in (boolean b) = no_members
members_in (number s) = no_members
members_in (string s) = no_members
members_in (array js) = no_members
members_in (object ms) = ms

-- an object has one list of members
pub same_members : (ms ns : Members) → object ms ≡ object ns → ms ≡ ns
same_members ms ns same = ap members_in same

-- the next value stands for a function if its code is read apart, and the rest declares what is beside it
pub next_function : (depth : ℕ) (tokens rest : List Token) (left : Json) (ms : Members) (f : Function)
    → AreParts (IsArena IsExpression) IsBlock (codes "expressions") (codes "body") depth tokens rest f.expressions f.body left
    → left ≡ object ms → HasSignature ms f → IsNext IsFunction depth tokens rest f
next_function depth tokens rest left ms f parts is has =
    let same : ms ≡ without (codes "expressions") (codes "body") parts.ms = same_members _ _ (sym is ∙ parts.left) in
    let all : HasSignature (without (codes "expressions") (codes "body") parts.ms) f = subst (λ ns. HasSignature ns f) same has in
    record {
      j = object parts.ms;
      next = parts.next;
      stands = (
        parts.has_first,
        parts.has_second,
        still_may_have (codes "expressions") (codes "body") IsText (codes "name") parts.ms f.name refl all.0,
        still_has (codes "expressions") (codes "body") (IsList IsArgument) (codes "arguments") parts.ms f.arguments refl all.1,
        still_may_have (codes "expressions") (codes "body") IsResult (codes "result") parts.ms f.result refl all.2,
        still_has (codes "expressions") (codes "body") (IsArena IsLocal) (codes "local_variables") parts.ms f.local_variables refl all.3,
        still_may_have (codes "expressions") (codes "body") IsHandle (codes "diagnostic_filter_leaf") parts.ms f.diagnostic_filter_leaf
            refl all.4,
        still_has (codes "expressions") (codes "body") AreNamedExpressions (codes "named_expressions") parts.ms f.named_expressions
            refl all.5,
      );
    }

-- the next value stands for an entry point if its function and its stage are read apart, and the rest has its name and size
pub next_entry_point : (depth : ℕ) (tokens rest : List Token) (left : Json) (ms : Members) (e : EntryPoint)
    → AreParts IsFunction IsStage (codes "function") (codes "stage") depth tokens rest e.function e.stage left
    → left ≡ object ms → HasField IsText (codes "name") ms e.name → HasWorkgroupSize ms → IsNext IsEntryPoint depth tokens rest e
next_entry_point depth tokens rest left ms e parts is has sized =
    let same : ms ≡ without (codes "function") (codes "stage") parts.ms = same_members _ _ (sym is ∙ parts.left) in
    let named = still_has (codes "function") (codes "stage") IsText (codes "name") parts.ms e.name refl
    (subst (λ ns. HasField IsText (codes "name") ns e.name) same has) in
    let size : HasWorkgroupSize (without (codes "function") (codes "stage") parts.ms) = subst (λ ns. HasWorkgroupSize ns) same sized in
    record {
      j = object parts.ms;
      next = parts.next;
      stands = (
        parts.has_first,
        named,
        parts.has_second,
        (
          still_may (codes "function") (codes "stage") (IsTriple IsU32) (codes "workgroup_size") parts.ms refl size.0,
          still_may (codes "function") (codes "stage") (IsTriple (IsNullable IsHandle)) (codes "workgroup_size_overrides") parts.ms
              refl size.1,
        ),
      );
    }
