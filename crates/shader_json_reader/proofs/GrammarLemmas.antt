-- The stop of a text: what a step says of it, and that it depends on no byte behind it.
use Rattle.std.proofs.Common.{◌≡◌, ◌<◌, ◌≤◌, ◌+◌, ◌++◌, ◌==◌, ◌∙◌, ap, arith, refl, subst, sym, if◌then◌else◌}
use Rattle.std.proofs.Common.{ℕ, List, [], ◌∷◌, Bool, true, false, Option, Some, None, drop, get_or, length}
use Rattle.std.proofs.lemmas.List.{at_drop_all, at_drop_more}
use Rattle.json.specs.Json.{max_depth}
use Rattle.shader_json_reader.specs.Grammar.{IsNext, Step, goes, stops, innermost, move, step, step_by, stop_behind, stop_from}
use Rattle.shader_json_reader.specs.Laws.{StopLooksNoFurther, byte_of}
use Rattle.shader_json_reader.specs.declared.grammar.Bracket.{Bracket}
use Rattle.shader_json_reader.specs.declared.grammar.Expected.{Expected}
use Rattle.shader_json_reader.specs.declared.grammar.Expected.TheVariants.{Value}
use Rattle.shader_json_reader.specs.declared.grammar.Move.{Move}
use Rattle.shader_json_reader.specs.declared.grammar.Move.TheVariants.{To, Open, Close}
use Rattle.shader_json_reader.specs.declared.grammar.Next.{Next}
use Rattle.shader_json_reader.specs.declared.grammar.Next.TheVariants as nexts
use Rattle.shader_json_reader.specs.declared.grammar.Stop.{Stop}
use Rattle.shader_json_reader.specs.declared.grammar.Stop.TheVariants.{NotJson, TooDeep}

-- the stop from a byte on, by the step at it
module _ (text : List ℕ) (i at : ℕ) (e : Expected) (brackets : List Bracket) where
  pub stop_at : (s : Step) → i < length text → step at e brackets (get_or text i 0) ≡ s
      → stop_from at e brackets (drop i text) ≡ stop_behind s (λ next inside. stop_from (at + 1) next inside (drop (i + 1) text))
  unfolding stop_from
  stop_at s within is =
      at_drop_more (stop_from at e brackets) text i 0 within
      ∙ ap (λ (t : Step). stop_behind t (λ next inside. stop_from (at + 1) next inside (drop (i + 1) text))) is

  pub stop_at_end : length text ≤ i → stop_from at e brackets (drop i text) ≡ NotJson at
  unfolding stop_from
  stop_at_end past = at_drop_all (stop_from at e brackets) text i past

  -- the step is that of what the code found, by the innermost of the brackets
  step_found : (inside : Option Bracket) (m : Option Move) → inside ≡ innermost brackets → m ≡ move e inside (get_or text i 0)
      → step at e brackets (get_or text i 0) ≡ step_by at brackets m
  step_found inside m is found =
      ap (λ (b : Option Bracket). step_by at brackets (move e b (get_or text i 0))) (sym is)
      ∙ ap (λ (n : Option Move). step_by at brackets n) (sym found)

  module _ (inside : Option Bracket) (m : Option Move) (next : Next) (left : List Bracket) where
    pub stops_there : (stop : Stop) → i < length text → inside ≡ innermost brackets → m ≡ move e inside (get_or text i 0)
        → next ≡ nexts.Stops stop → IsNext (step_by at brackets m) next left → stop_from at e brackets (drop i text) ≡ stop
    stops_there stop within is found here h =
        stop_at (stops stop) within (step_found inside m is found ∙ subst (λ (n : Next). IsNext (step_by at brackets m) n left) here h)

    pub goes_on : (e2 : Expected) → i < length text → inside ≡ innermost brackets → m ≡ move e inside (get_or text i 0)
        → next ≡ nexts.Goes e2 → IsNext (step_by at brackets m) next left
        → stop_from at e brackets (drop i text) ≡ stop_from (at + 1) e2 left (drop (i + 1) text)
    goes_on e2 within is found here h =
        stop_at (goes e2 left) within (step_found inside m is found ∙ subst (λ (n : Next). IsNext (step_by at brackets m) n left) here h)

-- no stop lies before the byte at which reading goes on
abbrev byte_from : Step → ℕ → Type 0
byte_from (goes e brackets) at = Unit {0}
byte_from (stops stop) at = byte_of stop ≡ at

from_if : (deep : Bool) (at : ℕ) (e : Expected) (brackets : List Bracket)
    → byte_from (if deep then stops (TooDeep at) else goes e brackets) at
from_if true at e brackets = refl
from_if false at e brackets = tt

from_step : (at : ℕ) (brackets : List Bracket) (m : Option Move) → byte_from (step_by at brackets m) at
from_step at brackets None = refl
from_step at brackets (Some (To e)) = tt
from_step at brackets (Some (Open b)) = from_if (length brackets == max_depth) at _ _
from_step at brackets (Some Close) = tt

least_behind : (s : Step) (at : ℕ) (more : Expected → List Bracket → Stop) → byte_from s at
    → ((e : Expected) (brackets : List Bracket) → at ≤ byte_of (more e brackets)) → at ≤ byte_of (stop_behind s more)
least_behind (goes e brackets) at more from h = h e brackets
least_behind (stops stop) at more from h = omega (arith, from)

least_from : (text : List ℕ) (at : ℕ) (e : Expected) (brackets : List Bracket) → at ≤ byte_of (stop_from at e brackets text)
unfolding stop_from
least_from [] at e brackets = omega arith
least_from (byte ∷ rest) at e brackets =
    least_behind (step at e brackets byte) at (λ next inside. stop_from (at + 1) next inside rest)
    (from_step at brackets (move e (innermost brackets) byte))
    (λ next inside. omega (arith, least_from rest (at + 1) next inside))

-- two ways to go on that stop alike before a limit
alike_behind : (s : Step) (limit : ℕ) (f g : Expected → List Bracket → Stop) → byte_of (stop_behind s f) < limit
    → ((e : Expected) (brackets : List Bracket) → byte_of (f e brackets) < limit → g e brackets ≡ f e brackets)
    → stop_behind s g ≡ stop_behind s f
alike_behind (goes e brackets) limit f g h alike = alike e brackets h
alike_behind (stops stop) limit f g h alike = refl

alike_from : (beginning rest other : List ℕ) (at : ℕ) (e : Expected) (brackets : List Bracket)
    → byte_of (stop_from at e brackets (beginning ++ rest)) < at + length beginning
    → stop_from at e brackets (beginning ++ other) ≡ stop_from at e brackets (beginning ++ rest)
unfolding stop_from
alike_from [] rest other at e brackets h = absurd (omega (arith, h, least_from rest at e brackets))
alike_from (byte ∷ beginning) rest other at e brackets h =
    alike_behind (step at e brackets byte) (at + 1 + length beginning)
    (λ next inside. stop_from (at + 1) next inside (beginning ++ rest))
    (λ next inside. stop_from (at + 1) next inside (beginning ++ other))
    (omega (arith, h))
    (λ next inside within. alike_from beginning rest other (at + 1) next inside within)

pub looks_no_further : StopLooksNoFurther
looks_no_further beginning rest other h = alike_from beginning rest other 0 Value [] (omega (arith, h))
