-- The claims about all results together, for one function and for all functions.
use Rattle.std.proofs.Common.{List}
use Rattle.shader_analysis_spec.specs.Program.{Function, Module}
use Rattle.shader_analysis_spec.specs.Infos.{Info, EachNamed}
use Rattle.shader_analysis_spec.specs.Exact.{IsExact}
use Rattle.shader_analysis_spec.specs.ExactLaws.{StepIsExact, SummariesEqualCallPaths}
use Rattle.shader_analysis_spec.proofs.Order.{by_order}
use Rattle.shader_analysis_spec.proofs.UsesLemmas.{HasUses, exact_uses}
use Rattle.shader_analysis_spec.proofs.PairsLemmas.{HasPairs, exact_pairs}
use Rattle.shader_analysis_spec.proofs.KillsLemmas.{HasKills, exact_kills}
use Rattle.shader_analysis_spec.proofs.NeedsLemmas.{HasNeeds, exact_expression, exact_needs}
use Rattle.shader_analysis_spec.proofs.OriginsLemmas.{HasResult, exact_origin, exact_result}

pub weaker : (P Q : Function → Info → Type 0) (m : Module) (infos : List Info) (f : Function) →
    ((r : Function) (i : Info) → P r i → Q r i) → EachNamed P m infos f → EachNamed Q m infos f
weaker P Q m infos f to named c mention = let (r, i, is_r, is_i, p) = named c mention in (r, i, is_r, is_i, to r i p)

pub step_is_exact : StepIsExact
step_is_exact m infos f info named steps =
    let has_uses = weaker (IsExact m) (HasUses m) m infos f (λ r i p. p.uses) named in
    let has_pairs = weaker (IsExact m) (HasPairs m) m infos f (λ r i p. p.pairs) named in
    let has_result = weaker (IsExact m) (HasResult m) m infos f (λ r i p. p.result) named in
    let has_kills = weaker (IsExact m) (HasKills m) m infos f (λ r i p. p.kills) named in
    let has_needs = weaker (IsExact m) (HasNeeds m) m infos f (λ r i p. p.needs) named in
    record {
      types = steps.types;
      counts = steps.counts;
      tables = steps.tables;
      uses = λ g. exact_uses m infos f has_uses g info (steps.uses g);
      pairs = exact_pairs m infos f has_pairs info steps.pairs;
      origins = λ e o is. exact_origin m infos f has_result e o (steps.origins e o is);
      result = exact_result m infos f has_result info steps.result;
      kills = exact_kills m infos f has_kills info steps.tables.non_uniform
          (λ e o is. exact_origin m infos f has_result e o (steps.origins e o is)) steps.kills;
      expression_needs = λ n e within. exact_expression m infos f has_needs n info e (steps.expression_needs n e within);
      needs = λ n. exact_needs m infos f has_needs n info (steps.needs n);
    }

pub summaries_equal_call_paths : SummariesEqualCallPaths
summaries_equal_call_paths m infos same ordered steps =
    by_order (IsExact m) m infos same ordered (λ f info at named. step_is_exact m infos f info named (steps at.0 f info at.1 at.2))
