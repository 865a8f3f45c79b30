-- Sets of pairs.
use Rattle.std.proofs.Common.{rules, ◌≡◌, refl, sym, ap, subst, ◌∙◌, ℕ, inl, inr, List, [], ◌∷◌, ◌++◌, Bool, ◌||◌, ◌⊎◌}
use Rattle.std.proofs.Common.{MutBor, true, false, map, not, fold, Option, append_assoc}
use Rattle.std.proofs.lemmas.List.{map-append}
use Rattle.std.specs.List.{Contains, flat_map, list_any}
use Rattle.std.specs.Bool.{MatchBool}
use Rattle.std.specs.List.Sorted.{IsPermutation}
use Rattle.std.proofs.lemmas.List.Sorted.{Contains-permutation, IsPermutation-sym, IsPermutation-middle}
use Rattle.std.proofs.lemmas.List.Elements.{Contains-append_left, Contains-append_right, Contains-append_cases}
use Rattle.std.proofs.lemmas.Map.Views.{Contains-from_any}
use Rattle.shader_info.specs.contracts.info.SamplingKeyPartialEq.TheImpl as key
use Rattle.shader_info.specs.contracts.info.SamplingPartialEq.TheImpl as sampling
use Rattle.shader_info.specs.declared.info.Sampling.{Sampling}
use Rattle.shader_info.specs.declared.info.SamplingKey.{SamplingKey}
use Rattle.shader_passes.specs.declared.pairs.Pairs.{Pairs}
use Rattle.shader_passes.specs.RecordedPairs.{AreLent, HasArgument, HaveArguments, SameMembers, pairs_in, resource_view}
use Rattle.shader_passes.specs.RecordedPairs.{key_pair, sampling_pair, callee_pairs, pair_in_caller, pairs_in_caller}
use Rattle.shader_passes.specs.Calling.{is_call}
use Rattle.shader_passes.specs.MissingResource.{call_missed}
use Rattle.shader_info.specs.declared.info.FunctionInfo.{FunctionInfo}
use Rattle.shader_analysis_spec.specs.Program.{Function, Step, Leaf, Call}
use Rattle.shader_analysis_spec.proofs.ListLemmas.{there, cases, in_map, nowhere, of_map}
use Rattle.shader_analysis_spec.specs.Infos.{Resource}
use Rattle.std.proofs.lemmas.Grind.{flat_map-append}
use Rattle.std.proofs.lemmas.List.Sums.{fold-append}
use Rattle.shader_arena.proofs.PositionsLemmas.{items_of-enumerate_from}

key_same : (x y : SamplingKey) → key.ghosts.eq x y ≡ true → x ≡ y
key_same x y h = search rules

key_itself : (x : SamplingKey) → key.ghosts.eq x x ≡ true
key_itself x = search rules

sampling_same : (x y : Sampling) → sampling.ghosts.eq x y ≡ true → x ≡ y
sampling_same x y h = search rules

module _ {X : Type 0} where
  pub same_refl : (xs : List X) → SameMembers xs xs
  same_refl xs = record { to = λ x h. h; from = λ x h. h }

  pub same_trans : (xs ys zs : List X) → SameMembers xs ys → SameMembers ys zs → SameMembers xs zs
  same_trans xs ys zs p q = record { to = λ x h. q.to x (p.to x h); from = λ x h. p.from x (q.from x h) }

  pub same_perm : (xs ys : List X) → IsPermutation xs ys → SameMembers xs ys
  same_perm xs ys p = record {
    to = λ x h. Contains-permutation xs ys x p h;
    from =
        λ x h. Contains-permutation ys xs x (IsPermutation-sym xs ys p) h;
  }

  join_to : (xs xs' ys ys' : List X) → SameMembers xs xs' → SameMembers ys ys' → (x : X) → Contains (xs ++ ys) x → Contains (xs' ++ ys') x
  join_to xs xs' ys ys' p q x h = elim (Contains-append_cases xs ys x h) [
    | inl a ↦ Contains-append_left xs' ys' x (p.to x a)
    | inr b ↦ Contains-append_right xs' ys' x (q.to x b)
  ]

  pub same_sym : (xs ys : List X) → SameMembers xs ys → SameMembers ys xs
  same_sym xs ys p = record { to = p.from; from = p.to }

  pub same_join : (xs xs' ys ys' : List X) → SameMembers xs xs' → SameMembers ys ys' → SameMembers (xs ++ ys) (xs' ++ ys')
  same_join xs xs' ys ys' p q = record {
    to = join_to xs xs' ys ys' p q;
    from =
        join_to xs' xs ys' ys (same_sym xs xs' p) (same_sym ys ys' q);
  }

  -- the pairs that a step adds are among the remaining ones
  pub more : (a b s s' all : List X) → SameMembers s' (a ++ s) → SameMembers ((a ++ b) ++ s) all → SameMembers (b ++ s') all
  more a b s s' all p q = record {
    to = λ x h. q.to x (elim (Contains-append_cases b s' x h) [
      | inl in_b ↦ Contains-append_left (a ++ b) s x (Contains-append_right a b x in_b)
      | inr in_s ↦ elim (Contains-append_cases a s x (p.to x in_s)) [
        | inl in_a ↦ Contains-append_left (a ++ b) s x (Contains-append_left a b x in_a)
        | inr old ↦ Contains-append_right (a ++ b) s x old
      ]
    ]);
    from = λ x h. elim (Contains-append_cases (a ++ b) s x (q.from x h)) [
      | inl left ↦ elim (Contains-append_cases a b x left) [
        | inl in_a ↦ Contains-append_right b s' x (p.from x (Contains-append_left a s x in_a))
        | inr in_b ↦ Contains-append_left b s' x in_b
      ]
      | inr old ↦ Contains-append_right b s' x (p.from x (Contains-append_right a s x old))
    ];
  }

  -- the step adds one member
  pub more_one : (a : X) (b s s' all : List X) → SameMembers s' (a ∷ s) → SameMembers (a ∷ (b ++ s)) all → SameMembers (b ++ s') all
  more_one a b s s' all p q = more (a ∷ []) b s s' all p q

  -- the step adds members, and an equation gives the remaining ones
  pub more_at : (l a b s s' all : List X) → l ≡ a ++ b → SameMembers s' (a ++ s) → SameMembers (l ++ s) all → SameMembers (b ++ s') all
  more_at l a b s s' all e p q = let P : List X → Type 0 = λ v. SameMembers (v ++ s) all in more a b s s' all p (subst P e q)

  -- two steps
  pub both : (a b s s' s'' : List X) → SameMembers s' (a ++ s) → SameMembers s'' (b ++ s') → SameMembers s'' ((a ++ b) ++ s)
  both a b s s' s'' p q = same_sym ((a ++ b) ++ s) s'' (same_sym s'' ((a ++ b) ++ s) (same_trans s'' (b ++ s') ((a ++ b) ++ s) q
      (more a b s s' ((a ++ b) ++ s) p (same_refl ((a ++ b) ++ s)))))

  -- two steps, from the empty set
  pub after : (a b s s' s'' : List X) → s ≡ [] → SameMembers s' (b ++ s) → SameMembers s'' (a ++ s') → SameMembers s'' (a ++ (b ++ []))
  after a b s s' s'' e p q =
      let P : List X → Type 0 = λ v. SameMembers s' (b ++ v) in
      same_trans s'' (a ++ s') (a ++ (b ++ [])) q (same_join a a s' (b ++ []) (same_refl a) (subst P e p))

  -- a set after an insertion
  pub puts : {eq : X → X → Bool} → ((x y : X) → eq x y ≡ true → x ≡ y) → (k : X) (xs ys : List X) (added : Bool) →
      MatchBool added (IsPermutation (k ∷ xs) ys) (ys ≡ xs) → added ≡ not (list_any (eq k) xs) → SameMembers ys (k ∷ xs)
  puts same k xs ys true p e = same_sym (k ∷ xs) ys (same_perm (k ∷ xs) ys p)
  puts {eq = eq} same k xs ys false p e =
      let found : list_any (eq k) xs ≡ true = search rules in
      let has : Contains xs k = Contains-from_any same k xs found in
      record {
        to = λ x h. there k xs x (let P : List X → Type 0 = λ v. Contains v x in subst P p h);
        from = λ x h. let P : List X → Type 0 = λ v. Contains v x in subst P (sym p) (elim (cases k xs x h) [
          | inl is ↦ let Q : X → Type 0 = λ v. Contains xs v in subst Q is has
          | inr rest ↦ rest
        ]);
      }

either : (a b : Bool) → (a || b) ≡ true → (a ≡ true) ⊎ (b ≡ true)
either true b h = inl refl
either false b h = inr h

or_true : (b : Bool) → (b || true) ≡ true
or_true true = refl
or_true false = refl

module _ {X : Type 0} {eq : X → X → Bool} (same : (x y : X) → eq x y ≡ true → x ≡ y) (itself : (x : X) → eq x x ≡ true) where
  any_from : (q : X) (ks : List X) → Contains ks q → list_any (eq q) ks ≡ true
  any_from q [] h = absurd (nowhere q h)
  any_from q (k ∷ ks) h = elim (cases k ks q h) [
    | inl is ↦ let P : X → Type 0 = λ v. (eq q v || list_any (eq q) ks) ≡ true in
        subst P (sym is) (ap (λ v. v || list_any (eq q) ks) (itself q))
    | inr rest ↦ ap (λ v. eq q k || v) (any_from q ks rest) ∙ or_true (eq q k)
  ]

  -- a set after the keys of another are added
  unites : (xs ys zs : List X) → ((q : X) → list_any (eq q) zs ≡ (list_any (eq q) xs || list_any (eq q) ys)) → SameMembers zs (ys ++ xs)
  unites xs ys zs union = record {
    to = λ q h. elim (either (list_any (eq q) xs) (list_any (eq q) ys) (sym (union q) ∙ any_from q zs h)) [
      | inl in_xs ↦ Contains-append_right ys xs q (Contains-from_any same q xs in_xs)
      | inr in_ys ↦ Contains-append_left ys xs q (Contains-from_any same q ys in_ys)
    ];
    from = λ q h. Contains-from_any same q zs (union q ∙ elim (Contains-append_cases ys xs q h) [
      | inl in_ys ↦ ap (λ v. list_any (eq q) xs || v) (any_from q ys in_ys) ∙ or_true (list_any (eq q) xs)
      | inr in_xs ↦ ap (λ v. v || list_any (eq q) ys) (any_from q xs in_xs)
    ]);
  }

same_map_to : {X Y : Type 0} (f : X → Y) (xs ys : List X) → SameMembers xs ys → (y : Y) → Contains (map f xs) y → Contains (map f ys) y
same_map_to {Y = Y} f xs ys p y h =
    let r = in_map f xs y h in
    let P : Y → Type 0 = λ v. Contains (map f ys) v in subst P r.2 (of_map f ys r.0 (p.to r.0 r.1))

same_map : {X Y : Type 0} (f : X → Y) (xs ys : List X) → SameMembers xs ys → SameMembers (map f xs) (map f ys)
same_map f xs ys p = record { to = same_map_to f xs ys p; from = same_map_to f ys xs (same_sym xs ys p) }

-- a new pair of globals
pub puts_known : (k : SamplingKey) (known known' : List SamplingKey) (open_pairs : List Sampling) (added : Bool) →
    MatchBool added (IsPermutation (k ∷ known) known') (known' ≡ known) → added ≡ not (list_any (key.ghosts.eq k) known) →
    SameMembers (pairs_in known' open_pairs) (key_pair k ∷ pairs_in known open_pairs)
puts_known k known known' open_pairs added p e =
    same_join (map key_pair known') (map key_pair (k ∷ known)) (map sampling_pair open_pairs) (map sampling_pair open_pairs)
    (same_map key_pair known' (k ∷ known) (puts key_same k known known' added p e)) (same_refl (map sampling_pair open_pairs))

-- a new pair with an argument
pub puts_open : (k : Sampling) (known : List SamplingKey) (open_pairs open_pairs' : List Sampling) (added : Bool) →
    MatchBool added (IsPermutation (k ∷ open_pairs) open_pairs') (open_pairs' ≡ open_pairs) →
    added ≡ not (list_any (sampling.ghosts.eq k) open_pairs) →
    SameMembers (pairs_in known open_pairs') (sampling_pair k ∷ pairs_in known open_pairs)
puts_open k known open_pairs open_pairs' added p e =
    same_trans (pairs_in known open_pairs') (map key_pair known ++ sampling_pair k ∷ map sampling_pair open_pairs)
    (sampling_pair k ∷ pairs_in known open_pairs)
    (same_join (map key_pair known) (map key_pair known) (map sampling_pair open_pairs') (map sampling_pair (k ∷ open_pairs))
    (same_refl (map key_pair known)) (same_map sampling_pair open_pairs' (k ∷ open_pairs)
    (puts sampling_same k open_pairs open_pairs' added p e)))
    (same_perm (map key_pair known ++ sampling_pair k ∷ map sampling_pair open_pairs) (sampling_pair k ∷ pairs_in known open_pairs)
    (IsPermutation-middle (map key_pair known) (sampling_pair k) (map sampling_pair open_pairs)))

-- each pair of the new set has an argument
pub stays_open : (k : Sampling) (open_pairs open_pairs' : List Sampling) (added : Bool) →
    MatchBool added (IsPermutation (k ∷ open_pairs) open_pairs') (open_pairs' ≡ open_pairs) →
    added ≡ not (list_any (sampling.ghosts.eq k) open_pairs) →
    HasArgument (resource_view k.image) (resource_view k.sampler) → HaveArguments open_pairs → HaveArguments open_pairs'
stays_open k open_pairs open_pairs' added p e has before = record {
  each = λ pair h. elim (cases k open_pairs pair ((puts sampling_same k open_pairs open_pairs' added p e).to pair h)) [
    | inl is ↦ let P : Sampling → Type 0 = λ v. HasArgument (resource_view v.image) (resource_view v.sampler) in subst P is has
    | inr rest ↦ before.each pair rest
  ];
}

pub none_open : HaveArguments []
none_open = record { each = λ pair h. absurd (nowhere pair h) }

-- a set after the keys of another are added
pub joins_known : (known known' others : List SamplingKey) (open_pairs : List Sampling) →
    ((k : SamplingKey) → list_any (key.ghosts.eq k) known' ≡ (list_any (key.ghosts.eq k) known || list_any (key.ghosts.eq k) others)) →
    SameMembers (pairs_in known' open_pairs) (map key_pair others ++ pairs_in known open_pairs)
joins_known known known' others open_pairs union =
    let P : List (Resource × Resource) → Type 0 = λ v. SameMembers (pairs_in known' open_pairs) v in
    let opens = map sampling_pair open_pairs in
    let split = ap (λ v. v ++ opens) (map-append key_pair others known) ∙ append_assoc (map key_pair others) (map key_pair known) opens in
    subst P split (same_join (map key_pair known') (map key_pair (others ++ known)) opens opens
    (same_map key_pair known' (others ++ known) (unites key_same key_itself known others known' union)) (same_refl opens))

-- a copy of the keys of another set, where there were none
pub copies_known : (known known' others : List SamplingKey) (open_pairs : List Sampling) → known ≡ [] → known' ≡ others →
    SameMembers (pairs_in known' open_pairs) (map key_pair others ++ pairs_in known open_pairs)
copies_known known known' others open_pairs none same =
    let P : List SamplingKey → Type 0 = λ v. SameMembers (pairs_in v open_pairs) (map key_pair others ++ pairs_in known open_pairs) in
    let Q : List SamplingKey → Type 0 = λ v. SameMembers (pairs_in others open_pairs) (map key_pair others ++ pairs_in v open_pairs) in
    subst P (sym same) (subst Q (sym none) (same_refl (pairs_in others open_pairs)))

-- a pair of two globals is the same in the caller
known_in_caller : (f : Function) (arguments : List ℕ) (known : List SamplingKey) →
    pairs_in_caller f arguments (map key_pair known) ≡ map key_pair known
known_in_caller f arguments [] = refl
known_in_caller f arguments (k ∷ known) = ap (λ v. key_pair k ∷ v) (known_in_caller f arguments known)

-- the pairs of two globals first, then those with an argument
pub both_kinds : (f : Function) (arguments : List ℕ) (known : List SamplingKey) (open_pairs : List Sampling)
    (ps ps' ps'' : List (Resource × Resource)) → SameMembers ps' (map key_pair known ++ ps) →
    SameMembers ps'' (pairs_in_caller f arguments (map sampling_pair open_pairs) ++ ps') →
    SameMembers ps'' (pairs_in_caller f arguments (pairs_in known open_pairs) ++ ps)
both_kinds f arguments known open_pairs ps ps' ps'' first second =
    let P : List (Resource × Resource) → Type 0 = λ v. SameMembers ps'' (v ++ ps) in
    let split : pairs_in_caller f arguments (pairs_in known open_pairs)
    ≡ map key_pair known ++ pairs_in_caller f arguments (map sampling_pair open_pairs) =
    flat_map-append (pair_in_caller f arguments) (map key_pair known) (map sampling_pair open_pairs)
    ∙ ap (λ v. v ++ pairs_in_caller f arguments (map sampling_pair open_pairs)) (known_in_caller f arguments known) in
    subst P (sym split) (both (map key_pair known) (pairs_in_caller f arguments (map sampling_pair open_pairs)) ps ps' ps'' first second)

-- a list of steps is split, and its first part is done
module _ {X : Type 0} (all first rest : List X) (split : all ≡ first ++ rest) where
  pub pairs_left : {Y : Type 0} (f : X → List Y) (s s' total : List Y) → SameMembers s' (flat_map f first ++ s) →
      SameMembers (flat_map f all ++ s) total → SameMembers (flat_map f rest ++ s') total
  pairs_left f s s' total =
      more_at (flat_map f all) (flat_map f first) (flat_map f rest) s s' total (ap (flat_map f) split ∙ flat_map-append f first rest)

  pub fold_left : {S : Type 0} (f : S → X → S) (s s' : S) → s' ≡ fold f s first → fold f s' rest ≡ fold f s all
  fold_left f s s' e = ap (λ v. fold f v rest) e ∙ (sym (fold-append f s first rest) ∙ ap (fold f s) (sym split))

-- what stays lent from step to step
lent_more : {X : Type 0} (a b c : MutBor X) → b ≡ record a { now = b.now } → c ≡ record b { now = c.now } → c ≡ record a { now = c.now }
lent_more a b c p q = q ∙ ap (λ (v : MutBor _). record v { now = c.now }) p

pub lent_on : (a b c : Pairs) → AreLent a b → AreLent b c → AreLent a c
lent_on a b c p q = (
  lent_more a.sampling_set b.sampling_set c.sampling_set p.0 q.0,
  lent_more a.sampling b.sampling c.sampling p.1 q.1,
)

pub ruleset gains = (more, more_one, both, same_refl, lent_on, items_of-enumerate_from, flat_map-append)

neither : (a b : Bool) → (a || b) ≡ false → (a ≡ false) × (b ≡ false)
neither false b h = (refl, h)
neither true b h = absurd (cc)

module _ (infos : List FunctionInfo) (f : Function) where
  quiet_pairs : (s : Step) → is_call s ≡ false → callee_pairs infos f s ≡ []
  quiet_pairs (Leaf (Call c arguments result)) h = absurd (cc)
  quiet_pairs s h = refl

  -- steps without a call have no callee's pairs
  pub no_pairs : (steps : List Step) → list_any is_call steps ≡ false → flat_map (callee_pairs infos f) steps ≡ []
  no_pairs [] h = refl
  no_pairs (s ∷ steps) h = let two = neither (is_call s) (list_any is_call steps) h in
      ap (λ v. v ++ flat_map (callee_pairs infos f) steps) (quiet_pairs s two.0) ∙ no_pairs steps two.1

  quiet_misses : (o : Option ℕ) (s : Step) → is_call s ≡ false → call_missed infos f o s ≡ o
  quiet_misses o (Leaf (Call c arguments result)) h = absurd (cc)
  quiet_misses o s h = refl

  pub no_misses : (o : Option ℕ) (steps : List Step) → list_any is_call steps ≡ false → fold (call_missed infos f) o steps ≡ o
  no_misses o [] h = refl
  no_misses o (s ∷ steps) h = let two = neither (is_call s) (list_any is_call steps) h in
      ap (λ v. fold (call_missed infos f) v steps) (quiet_misses o s two.0) ∙ no_misses o steps two.1

  pub same_without_calls : (steps : List Step) (ps : List (Resource × Resource)) → list_any is_call steps ≡ false →
      SameMembers ps (flat_map (callee_pairs infos f) steps ++ ps)
  same_without_calls steps ps h = let P : List (Resource × Resource) → Type 0 = λ v. SameMembers ps (v ++ ps) in
      subst P (sym (no_pairs steps h)) (same_refl ps)

-- a set without keys
pub empty_open : (keys : List Sampling) → keys ≡ [] → HaveArguments keys
empty_open keys none = subst HaveArguments (sym none) none_open
