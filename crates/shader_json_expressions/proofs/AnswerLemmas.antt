-- What stands for the parts of a value.
use Rattle.std.proofs.Common.{◌≡◌, ◌≢◌, ℕ, List, false, Option, Some, None, MatchOption, subst}
use Rattle.std.proofs.lemmas.Bool.{true≢false}
use Rattle.json.specs.Find.{is_null}
use Rattle.json.specs.Json.{Json, null, boolean, number, string, array, object, Members}
use Rattle.shader_ir.specs.declared.expression.Expression.{Expression}
use Rattle.shader_json_reader.specs.Shapes.{IsNullable, IsObject, Reading}
use Rattle.shader_json_expressions.specs.Expressions.{IsExpressionOf}

-- what a name denotes is what an equal name denotes
pub renamed : (name wanted : List ℕ) (payload : Option Json) (x : Expression) → name ≡ wanted → IsExpressionOf name payload x
    → IsExpressionOf wanted payload x
renamed name wanted payload x same u = subst (λ n. IsExpressionOf n payload x) same u

-- a payload that is there isn't none
pub given : (j : Json) → Some j ≢ None
given j same = cc

-- what follows of the members follows of the object
pub with_parts : {P Q : Members → Type 0} (j : Json) → ((ms : Members) → P ms → Q ms) → IsObject j P → IsObject j Q
with_parts null f h = h
with_parts (boolean b) f h = h
with_parts (number s) f h = h
with_parts (string s) f h = h
with_parts (array js) f h = h
with_parts (object ms) f h = f ms h

-- what isn't null stands for something
module _ {A X : Type 0} (R : Reading A) where
  of_some : (j : Json) (x : Option A) → ((a : A) → R j a → X) → MatchOption x ⊥ (R j) → X
  of_some j None f h = absurd h
  of_some j (Some a) f h = f a h

  pub with_some : (j : Json) (x : Option A) → is_null j ≡ false → ((a : A) → R j a → X) → IsNullable R j x → X
  with_some null x given f h = absurd (true≢false given)
  with_some (boolean b) x given f h = of_some (boolean b) x f h
  with_some (number s) x given f h = of_some (number s) x f h
  with_some (string s) x given f h = of_some (string s) x f h
  with_some (array js) x given f h = of_some (array js) x f h
  with_some (object ms) x given f h = of_some (object ms) x f h
