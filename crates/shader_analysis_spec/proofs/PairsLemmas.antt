-- The step equations of pairs give the interprocedural pairs: a call path is cut at its first call.
use Rattle.std.proofs.Common.{◌≡◌, refl, ℕ, ◌↔◌, List, Option, Some, None, sym, ap, ◌∙◌}
use Rattle.std.specs.List.{Contains}
use Rattle.std.specs.Option.{option_and_then}
use Rattle.shader_analysis_spec.specs.Program.{Function, Module}
use Rattle.shader_analysis_spec.specs.Calls.{CallPath, here, via, CallsTo}
use Rattle.shader_analysis_spec.specs.Infos.{Info, EachNamed, Resource}
use Rattle.shader_analysis_spec.specs.Pairs.{resource, samples, in_caller, back, IsPair, LeadingBackComposes}
use Rattle.shader_analysis_spec.specs.Steps.{StepPair, own, callee}
use Rattle.shader_analysis_spec.proofs.Order.{info_of_call, call_of_info}

abbrev pub HasPairs : Module → Function → Info → Type 0
HasPairs m f info = (image sampler : Resource) → Contains info.pairs (image, sampler) ↔ IsPair m f image sampler

module _ {m : Module} {f c r : Function} (call : CallsTo m f c) (path : CallPath m c r) where
  -- if a resource leads back to a resource of f, it does so by way of one of c
  cut : (o : Option Resource) (p : Resource) → option_and_then (back (via call path)) o ≡ Some p →
      (q : Resource) × (option_and_then (back path) o ≡ Some q) × (in_caller f call.arguments q ≡ Some p)
  cut None p e = absurd (cc)
  cut (Some x) p e = of (back path x) refl e
    where
      of : (y : Option Resource) → back path x ≡ y → option_and_then (in_caller f call.arguments) y ≡ Some p →
          (q : Resource) × (back path x ≡ Some q) × (in_caller f call.arguments q ≡ Some p)
      of None is e = absurd (cc)
      of (Some q) is e = (q, is, e)

  join : (o : Option Resource) (p q : Resource) → option_and_then (back path) o ≡ Some q → in_caller f call.arguments q ≡ Some p →
      option_and_then (back (via call path)) o ≡ Some p
  join None p q e d = absurd (cc)
  join (Some x) p q e d = rw e d

here_itself : (m : Module) (f : Function) (o : Option Resource) → option_and_then (back {m = m} {f = f} here) o ≡ o
here_itself m f None = refl
here_itself m f (Some x) = refl

module _ (m : Module) (infos : List Info) (f : Function) (named : EachNamed (HasPairs m) m infos f) where
  of_step : (image sampler : Resource) → StepPair infos f image sampler → IsPair m f image sampler
  of_step image sampler (own e {i = i} {s = s} is_there at_image at_sampler) = record {
    reached = f;
    path = here;
    sample = e;
    image_operand = i;
    sampler_operand = s;
    is_there = is_there;
    image_resource = here_itself m f (resource f i) ∙ at_image;
    sampler_resource = here_itself m f (resource f s) ∙ at_sampler;
  }
  of_step image sampler (callee {p = p} {q = q} stored contains at_image at_sampler) =
      let (r, call, same, has) = call_of_info (HasPairs m) m infos f named stored in
      let pair : IsPair m r p q = (has p q).0 contains in
      let to_image : in_caller f call.arguments p ≡ Some image = rw same at_image in
      let to_sampler : in_caller f call.arguments q ≡ Some sampler = rw same at_sampler in
      record {
        reached = pair.reached;
        path = via call pair.path;
        sample = pair.sample;
        image_operand = pair.image_operand;
        sampler_operand = pair.sampler_operand;
        is_there = pair.is_there;
        image_resource = join call pair.path (resource pair.reached pair.image_operand) image p pair.image_resource to_image;
        sampler_resource = join call pair.path (resource pair.reached pair.sampler_operand) sampler q pair.sampler_resource to_sampler;
      }

  by_path : (image sampler : Resource) (r : Function) (path : CallPath m f r) (e i s : ℕ) → samples r e ≡ Some (i, s) →
      option_and_then (back path) (resource r i) ≡ Some image → option_and_then (back path) (resource r s) ≡ Some sampler →
      StepPair infos f image sampler
  by_path image sampler r here e i s is_there at_image at_sampler =
      own e is_there (sym (here_itself m f (resource f i)) ∙ at_image) (sym (here_itself m f (resource f s)) ∙ at_sampler)
  by_path image sampler r (via {c = d} call path) e i s is_there at_image at_sampler =
      let (p, to_p, image_is) = cut call path (resource r i) image at_image in
      let (q, to_q, sampler_is) = cut call path (resource r s) sampler at_sampler in
      let (info, stored, has) = info_of_call (HasPairs m) m infos f named d call in
      let pair : IsPair m d p q = record {
        reached = r;
        path = path;
        sample = e;
        image_operand = i;
        sampler_operand = s;
        is_there = is_there;
        image_resource = to_p;
        sampler_resource = to_q;
      } in
      callee stored ((has p q).1 pair) image_is sampler_is

  to_step : (image sampler : Resource) → IsPair m f image sampler → StepPair infos f image sampler
  to_step image sampler pair = by_path image sampler pair.reached pair.path pair.sample pair.image_operand pair.sampler_operand
      pair.is_there pair.image_resource pair.sampler_resource

  pub exact_pairs : (info : Info) → ((image sampler : Resource) → Contains info.pairs (image, sampler) ↔ StepPair infos f image sampler) →
      HasPairs m f info
  exact_pairs info step image sampler =
      (λ h. of_step image sampler ((step image sampler).0 h), λ h. (step image sampler).1 (to_step image sampler h))

through_cut : (f : Function) (arguments : List ℕ) (lead : Resource → Option Resource) (o : Option Resource) →
    option_and_then (in_caller f arguments) (option_and_then lead o)
    ≡ option_and_then (λ q. option_and_then (in_caller f arguments) (lead q)) o
through_cut f arguments lead None = refl
through_cut f arguments lead (Some q) = refl

pub leading_back_composes : LeadingBackComposes
leading_back_composes m f _ s here second p = sym (here_itself m f (back second p))
leading_back_composes m f r s (via {c = c} call first) second p =
    ap (option_and_then (in_caller f call.arguments)) (leading_back_composes m c r s first second p)
    ∙ through_cut f call.arguments (back first) (back second p)
