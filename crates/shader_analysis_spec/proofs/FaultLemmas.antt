-- Faults by the stored infos are interprocedural faults, and conversely.
use Rattle.std.proofs.Common.{◌≡◌, refl, sym, ap, subst, ◌∙◌, ℕ, ◌↔◌, Bool, List, Option, IsTrue}
use Rattle.std.specs.List.{Contains}
use Rattle.std.proofs.lemmas.Option.{same_Some}
use Rattle.shader_analysis_spec.specs.Program.{Function, Module, Leaf, Call, Body, statements}
use Rattle.shader_analysis_spec.specs.Exact.{IsExact}
use Rattle.shader_analysis_spec.specs.FaultLaws.{AreAlikeButForSource, are_same, of_sources, FaultsAgree}
use Rattle.shader_analysis_spec.specs.Faults.{Settings, Cause, NonUniformControlFlow, Disruptor, Source, EarlierReturn, EarlierDiscard}
use Rattle.shader_analysis_spec.specs.Faults.{PassesArgument}
use Rattle.shader_analysis_spec.specs.Faults.{IsEnclosedBy, branch, deeper, later, MayDisrupt, a_source, a_return, a_kill, a_call, HasFault}
use Rattle.shader_analysis_spec.specs.Faults.{untyped}
use Rattle.shader_analysis_spec.specs.Faults.{no_capability, bad_element, no_image_resource, no_sampler_resource, no_image_passed}
use Rattle.shader_analysis_spec.specs.Faults.{no_sampler_passed}
use Rattle.shader_analysis_spec.specs.Faults.{flow_violation, count_full, IsFault, IsOriginOf, PairAt}
use Rattle.shader_analysis_spec.specs.StepFaults.{StepFault, RecordsPair}
use Rattle.shader_analysis_spec.specs.Flow.{At, Disrupted}
use Rattle.shader_analysis_spec.specs.Infos.{Info, Resource, EachNamed, by_call}
use Rattle.shader_analysis_spec.specs.Kills.{Kills, KillsAt}
use Rattle.shader_analysis_spec.specs.Needs.{Need, ExpressionNeeds}
use Rattle.shader_analysis_spec.specs.Pairs.{IsPair}
use Rattle.shader_analysis_spec.specs.Steps.{StepOrigin, RecordsKills, StepExpressionNeed}
use Rattle.shader_analysis_spec.proofs.FlowLemmas.{more_disrupted, occurs_within}
use Rattle.shader_analysis_spec.proofs.KillsLemmas.{HasKills}
use Rattle.shader_analysis_spec.proofs.NeedsLemmas as needs
use Rattle.shader_analysis_spec.proofs.NeedsLemmas.{HasNeeds}
use Rattle.shader_analysis_spec.proofs.OriginsLemmas as origins
use Rattle.shader_analysis_spec.proofs.OriginsLemmas.{HasResult}
use Rattle.shader_analysis_spec.proofs.PairsLemmas.{HasPairs}
use Rattle.shader_analysis_spec.proofs.Summaries.{weaker}

-- Faults by two readings of the callees. `S h k`: k may stand for the source h. `R c d`: the cause d may stand for c
module _ (O O' : ℕ → ℕ → Type 0) (K K' : ℕ → Type 0) (N N' : Need → ℕ → Type 0) (P P' : ℕ → Resource → Resource →
    Type 0) (m : Module) (settings : Settings) (f : Function)
    (S : ℕ → ℕ → Type 0) (R : Cause → Cause → Type 0) (same : (c : Cause) → R c c)
    (occurs_for : (n : Need → Bool) (e h k : ℕ) → S h k → R (NonUniformControlFlow n e (Source h)) (NonUniformControlFlow n e (Source k)))
    (to_o : (e h : ℕ) → O e h → (k : ℕ) × S h k × O' e k)
    (to_k : (c : ℕ) (arguments : List ℕ) (result : Option ℕ) → Contains (statements f.body) (Leaf (Call c arguments result)) → K c → K' c)
    (to_n : (n : Need) (e : ℕ) → N n e ↔ N' n e)
    (to_p : (c i e : ℕ) (p q : Resource) → PassesArgument f c i e → P c p q → P' c p q) where
  abbrev V : ℕ → Type 0
  V e = (h : ℕ) × O e h

  abbrev V' : ℕ → Type 0
  V' e = (h : ℕ) × O' e h

  to_v : (e : ℕ) → V e → V' e
  to_v e (h, o) = let (k, s, o') = to_o e h o in (k, o')

  disrupted : (b : Body) (p : At f.body b) → Disrupted V K f.body b p → Disrupted V' K' f.body b p
  disrupted = more_disrupted V V' K K' f.body to_v (λ c arguments result b p k. to_k c arguments result
      (occurs_within f.body (Leaf (Call c arguments result)) b p) k)

  around : (h : ℕ) (b : Body) (p : At f.body b) → IsEnclosedBy O h f.body b p → (k : ℕ) × S h k × IsEnclosedBy O' k f.body b p
  around h _ _ (branch {e = e} p o is) = let (k, s, is') = to_o e h is in (k, s, branch p o is')
  around h _ _ (deeper a) = let (k, s, a') = around h _ _ a in (k, s, deeper a')
  around h _ _ (later a) = let (k, s, a') = around h _ _ a in (k, s, later a')

  disrupts : (b : Body) (p : At f.body b) (d : Disruptor) → MayDisrupt O K N P m settings f b p d →
      (d' : Disruptor) × ((n : Need → Bool) (e : ℕ) → R (NonUniformControlFlow n e d) (NonUniformControlFlow n e d')) ×
      MayDisrupt O' K' N' P' m settings f b p d'
  disrupts b p _ (a_source {h = h} a) = let (k, s, a') = around h b p a in (Source k, λ n e. occurs_for n e h k s, a_source a')
  disrupts b p _ (a_return q d) = (EarlierReturn, λ n e. same _, a_return q (disrupted _ q d))
  disrupts b p _ (a_kill q d) = (EarlierDiscard, λ n e. same _, a_kill q (disrupted _ q d))
  disrupts b p _ (a_call {c = c} {arguments = arguments} {result = result} holds k) =
      (EarlierDiscard, λ n e. same _, a_call holds (to_k c arguments result holds k))

  pub moved : (cause : Cause) → HasFault O K N P m settings f cause →
      (other : Cause) × R cause other × HasFault O' K' N' P' m settings f other
  moved cause (untyped refused) = (cause, same cause, untyped refused)
  moved cause (no_capability {index = index} indexes element has lacks) =
      (cause, same cause, no_capability indexes element (to_v index has) lacks)
  moved cause (bad_element indexes none) = (cause, same cause, bad_element indexes none)
  moved cause (no_image_resource samples none) = (cause, same cause, no_image_resource samples none)
  moved cause (no_sampler_resource samples none) = (cause, same cause, no_sampler_resource samples none)
  moved cause (no_image_passed {e = e} {c = c} {i = i} passes none pair) =
      (cause, same cause, no_image_passed passes none (to_p c i e _ _ passes pair))
  moved cause (no_sampler_passed {e = e} {c = c} {i = i} passes none pair) =
      (cause, same cause, no_sampler_passed passes none (to_p c i e _ _ passes pair))
  moved cause (flow_violation {needs = n} {e = e} {disruptor = d} on grave x) =
      let (d', r, blame) = disrupts _ x.at d x.disrupts in (
        NonUniformControlFlow n e d',
        r n e,
        flow_violation on grave (record {
          start = x.start;
          finish = x.finish;
          left = x.left;
          at = x.at;
          from = x.from;
          to = x.to;
          disrupted = disrupted _ x.at x.disrupted;
          need = x.need;
          needed = (to_n x.need e).0 x.needed;
          all = λ need. (λ is. (to_n need e).0 ((x.all need).0 is), λ needed. (x.all need).1 ((to_n need e).1 needed));
          disrupts = blame;
        }),
      )
  moved cause (count_full most) = (cause, same cause, count_full most)

module _ (m : Module) (infos : List Info) (f : Function) (settings : Settings) (named : EachNamed (IsExact m) m infos f) where
  has_result : EachNamed (HasResult m) m infos f
  has_result = weaker (IsExact m) (HasResult m) m infos f (λ r i p. p.result) named

  has_kills : EachNamed (HasKills m) m infos f
  has_kills = weaker (IsExact m) (HasKills m) m infos f (λ r i p. p.kills) named

  has_needs : EachNamed (HasNeeds m) m infos f
  has_needs = weaker (IsExact m) (HasNeeds m) m infos f (λ r i p. p.needs) named

  has_pairs : EachNamed (HasPairs m) m infos f
  has_pairs = weaker (IsExact m) (HasPairs m) m infos f (λ r i p. p.pairs) named

  kills_to : (c : ℕ) (arguments : List ℕ) (result : Option ℕ) → Contains (statements f.body) (Leaf (Call c arguments result)) →
      RecordsKills infos c → KillsAt m c
  kills_to c arguments result holds (info, stored, may) =
      let (d, i, is_d, is_i, has) = has_kills c (by_call holds) in
      let same : info ≡ i = same_Some info i (sym stored ∙ is_i) in (d, is_d, has.0 (subst (λ v. IsTrue v.may_kill) same may))

  kills_from : (c : ℕ) (arguments : List ℕ) (result : Option ℕ) → Contains (statements f.body) (Leaf (Call c arguments result)) →
      KillsAt m c → RecordsKills infos c
  kills_from c arguments result holds (d, is_d, deadly) =
      let (d', i, is_d', is_i, has) = has_kills c (by_call holds) in
      let same : d ≡ d' = same_Some d d' (sym is_d ∙ is_d') in (i, is_i, has.1 (subst (λ v. Kills m v) same deadly))

  needs_same : (n : Need) (e : ℕ) → StepExpressionNeed infos f n e ↔ ExpressionNeeds m n f e
  needs_same n e = (needs.of_step m infos f has_needs n e, needs.to_step m infos f has_needs n e)

  pairs_to : (c i e : ℕ) (p q : Resource) → PassesArgument f c i e → RecordsPair infos c p q → PairAt m c p q
  pairs_to c i e p q passes (info, stored, contains) =
      let (d, j, is_d, is_j, has) = has_pairs c (by_call passes.holds) in
      let same : info ≡ j = same_Some info j (sym stored ∙ is_j) in
      (d, is_d, (has p q).0 (subst (λ v. Contains v.pairs (p, q)) same contains))

  pairs_from : (c i e : ℕ) (p q : Resource) → PassesArgument f c i e → PairAt m c p q → RecordsPair infos c p q
  pairs_from c i e p q passes (d, is_d, pair) =
      let (d', j, is_d', is_j, has) = has_pairs c (by_call passes.holds) in
      let same : d ≡ d' = same_Some d d' (sym is_d ∙ is_d') in (j, is_j, (has p q).1 (subst (λ v. IsPair m v p q) same pair))

  to_call_paths : (cause : Cause) → StepFault m infos f settings cause → IsFault m f settings cause
  to_call_paths cause fault =
      let (other, same, moved_fault) = moved (StepOrigin m infos f) (IsOriginOf m f) (RecordsKills infos) (KillsAt m)
      (StepExpressionNeed infos f)
      (λ n e. ExpressionNeeds m n f e) (RecordsPair infos) (PairAt m) m settings f (λ h k. h ≡ k) (λ c d. c ≡ d) (λ c. refl)
      (λ n e h k is. ap (λ v. NonUniformControlFlow n e (Source v)) is) (λ e h o. (h, refl, origins.of_step m infos f has_result e h o))
      kills_to needs_same pairs_to cause fault in
      subst (IsFault m f settings) (sym same) moved_fault

  of_call_paths : (cause : Cause) → IsFault m f settings cause →
      (reported : Cause) × AreAlikeButForSource cause reported × StepFault m infos f settings reported
  of_call_paths cause fault =
      let (other, same, moved_fault) = moved (IsOriginOf m f) (StepOrigin m infos f) (KillsAt m) (RecordsKills infos)
      (λ n e. ExpressionNeeds m n f e)
      (StepExpressionNeed infos f) (PairAt m) (RecordsPair infos) m settings f (λ h k. Unit {0}) AreAlikeButForSource
      (λ c. are_same) (λ n e h k is. of_sources)
      (λ e h o. let (k, step) = origins.to_step m infos f has_result e h o.0 o.1 in (k, tt, step))
      kills_from (λ n e. ((needs_same n e).1, (needs_same n e).0)) pairs_from cause fault in
      (other, same, moved_fault)

pub faults_agree : FaultsAgree
faults_agree m infos f settings named = (to_call_paths m infos f settings named, of_call_paths m infos f settings named)
