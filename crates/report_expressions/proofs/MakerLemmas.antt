-- A table in which statements are noted one after another has the first that makes each expression.
use Rattle.std.proofs.Common.{◌≡◌, ◌≢◌, ◌∙◌, ◌<◌, ℕ, Bool, true, false, List, [], ◌∷◌, Option, Some, None, ap, sym, refl, cond, eqb}
use Rattle.std.proofs.Common.{get_or, length, replicate, arith, find, zero, suc}
use Rattle.std.proofs.Common.{option_map, Bor}
use Rattle.std.proofs.Math.ListN.{set, length-set}
use Rattle.std.proofs.lemmas.List.{get_or-map, get_or-set_same, get_or-set_other, length-map, length-replicate, map-set}
use Rattle.std.proofs.lemmas.Bool.{false≢true}
use Rattle.std.proofs.lemmas.Bool.Decides.{nat_tests}
use Rattle.std.specs.List.{fold}
use Rattle.std.specs.Option.{is_some, option_or}
use Rattle.shader_ir.specs.Body.{Step}
use Rattle.shader_ir.specs.BodyOf.{step_of}
use Rattle.shader_ir.specs.Occurs.{statements}
use Rattle.shader_ir.specs.declared.function.Function.{Function}
use Rattle.shader_ir.specs.declared.statement.Statement.{Statement}
use Rattle.report_expressions.specs.Makers.{AreMakers, is_among, maker_of, noted, noted_at, result_of, steps_of}

or_none : {T : Type 0} (x : Option T) → option_or x None ≡ x
or_none None = refl
or_none (Some x) = refl

or_assoc : {T : Type 0} (x y z : Option T) → option_or (option_or x y) z ≡ option_or x (option_or y z)
or_assoc None y z = refl
or_assoc (Some x) y z = refl

length-noted_at : (table : List (Option Step)) (result : Option ℕ) (step : Step) → length (noted_at table result step) ≡ length table
length-noted_at table None step = refl
length-noted_at table (Some e) step = length-set table e (option_or (get_or table e None) (Some step))

one_of : Step → Bool → Option Step
one_of step b = cond b (Some step) None

at_same : (table : List (Option Step)) (r e : ℕ) (step : Step) (b : Bool) → e < length table → eqb r e ≡ b →
    get_or (noted_at table (Some r) step) e None ≡ option_or (get_or table e None) (cond b (Some step) None)
at_same table r e step true short same =
    let is : r ≡ e = grind (arith, nat_tests) in
    rw is (get_or-set_same table e (option_or (get_or table e None) (Some step)) None short)
at_same table r e step false short differs =
    let is : e ≢ r = grind (arith, nat_tests) in
    get_or-set_other table r e (option_or (get_or table r None) (Some step)) None is ∙ sym (or_none (get_or table e None))

at_noted : (table : List (Option Step)) (result : Option ℕ) (e : ℕ) (step : Step) → e < length table →
    get_or (noted_at table result step) e None ≡ option_or (get_or table e None) (cond (is_among result e) (Some step) None)
at_noted table None e step short = sym (or_none (get_or table e None))
at_noted table (Some r) e step short = at_same table r e step (eqb r e) short refl

or_cond : (x : Option Step) (b : Bool) (step : Step) (rest : Option Step) →
    option_or (option_or x (cond b (Some step) None)) rest ≡ option_or x (cond b (Some step) rest)
or_cond x true step rest = or_assoc x (Some step) rest
or_cond x false step rest = or_assoc x None rest

pub noted_first : (table : List (Option Step)) (e : ℕ) (steps : List Step) → e < length table →
    get_or (fold noted table steps) e None ≡ option_or (get_or table e None) (find (λ step. is_among (result_of step) e) steps)
noted_first table e [] short = sym (or_none (get_or table e None))
noted_first table e (step ∷ steps) short =
    let kept = length-noted_at table (result_of step) step in
    let rest = find (λ step. is_among (result_of step) e) steps in
    noted_first (noted table step) e steps (omega (arith, kept))
    ∙ ap (λ x. option_or x rest) (at_noted table (result_of step) e step short)
    ∙ or_cond (get_or table e None) (is_among (result_of step) e) step rest

length-noted : (table : List (Option Step)) (steps : List Step) → length (fold noted table steps) ≡ length table
length-noted table [] = refl
length-noted table (step ∷ steps) = length-noted (noted table step) steps ∙ length-noted_at table (result_of step) step

get_or-replicate_none : (count e : ℕ) → get_or {A = Option Step} (replicate count None) e None ≡ None
get_or-replicate_none zero e = refl
get_or-replicate_none (suc count) zero = refl
get_or-replicate_none (suc count) (suc e) = get_or-replicate_none count e

pub makers_are_first : (function : Function) (empty table : List (Option (Bor Statement))) →
    steps_of empty ≡ replicate (length function.expressions) None →
    steps_of table ≡ fold noted (steps_of empty) (statements function.body) → AreMakers function table
makers_are_first function empty table starts ends =
    let listed = statements function.body in
    let count : length (steps_of empty) ≡ length function.expressions = ap length starts ∙ length-replicate _ _ in
    record {
      count = sym (length-map table (option_map (λ (maker : Bor Statement). step_of maker.now))) ∙ ap length ends
          ∙ length-noted (steps_of empty) listed ∙ count;
      each = λ e short.
          ap (λ steps. get_or steps e None) ends
          ∙ noted_first (steps_of empty) e listed (omega (arith, count))
          ∙ ap (λ x. option_or x (maker_of function.body e))
          (ap (λ steps. get_or steps e None) starts ∙ get_or-replicate_none (length function.expressions) e);
    }

noted_none : (table : List (Option (Bor Statement))) (e : ℕ) (maker : Bor Statement) → e < length table → get_or table e None ≡ None →
    steps_of (set table e (Some maker)) ≡ noted_at (steps_of table) (Some e) (step_of maker.now)
noted_none table e maker short none =
    let step : Option (Bor Statement) → Option Step = option_map (λ (maker : Bor Statement). step_of maker.now) in
    map-set step table e (Some maker)
    ∙ ap (λ x. set (steps_of table) e (option_or x (Some (step_of maker.now))))
    (sym (get_or-map step table e None None short ∙ ap step none))

-- a statement is noted where no earlier one is
pub is_noted : (table : List (Option (Bor Statement))) (e : ℕ) (maker : Bor Statement) (found : Option (Bor Statement)) →
    e < length table → found ≡ get_or table e found → is_some found ≡ false →
    steps_of (set table e (Some maker)) ≡ noted_at (steps_of table) (Some e) (step_of maker.now)
is_noted table e maker None short is none = noted_none table e maker short (sym is)
is_noted table e maker (Some found) short is none = absurd (false≢true (sym none))
