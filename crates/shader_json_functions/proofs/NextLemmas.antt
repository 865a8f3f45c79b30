-- Arrays that are read from a text an item at a time, and objects that are read a member at a time.
use Rattle.std.proofs.Common.{◌≡◌, ℕ, suc, refl, ◌-◌, ◌<◌, ◌≤◌, List, [], ◌∷◌, ◌++◌, ◌∙◌, ap, sym, subst, length, Bool, true, false}
use Rattle.std.proofs.Common.{Option, Some, None, option_map, arith, Global, ◌||◌}
use Rattle.std.specs.Borrow.{Bor}
use Rattle.std.specs.Str.{bytes_eq}
use Rattle.std.specs.Option.{is_some}
use Rattle.std.proofs.lemmas.Bool.{both_ways}
use Rattle.std.proofs.lemmas.List.{append-nil}
use Rattle.std.proofs.lemmas.Slice.Eq.{bytes_eq-Decides}
use Rattle.json.specs.Json.{Json, array, object, Items, no_items, item, Members, no_members, member, parse_map, after_end_array, read_key}
use Rattle.json.specs.Json.{items, members, value}
use Rattle.json.specs.Token.{Token, begin_array, begin_object}
use Rattle.json.specs.Value.{items_of, members_view, value_view}
use Rattle.json.specs.declared.value.Value.{Value}
use Rattle.json.proofs.Grammar.{items_end, items_more, members_end, members_more, read_key-shorter, skip_value-shorter}
use Rattle.json.proofs.Trees.{none_before}
use Rattle.shader_arena.specs.Positions.{most_items}
use Rattle.shader_json_declarations.specs.Arenas.{IsArena}
use Rattle.shader_json_reader.specs.Shapes.{Each, IsList, IsOnly, Reading, cons_if, values_of}
use Rattle.shader_json_functions.specs.Next.{AreParts, IsNext, Opens, member_unless, without}

-- what is behind a value is shorter
shorter : (depth : ℕ) (j : Json) (now rest : List Token) → value depth now ≡ Some (j, rest) → length rest < length now
shorter depth j now rest next = skip_value-shorter depth now rest (ap (option_map (λ p. p.1)) next)

pub next_is_shorter : {A : Type 0} (R : Reading A) (depth : ℕ) (now rest : List Token) (x : A) → IsNext R depth now rest x
    → length rest < length now
next_is_shorter R depth now rest x read = shorter depth read.j now rest read.next

opened_array : (depth : ℕ) (start : List Token)
    → value (suc depth) (begin_array ∷ start) ≡ parse_map array (items (value depth) (length start) start)
unfolding value
opened_array depth start = refl

opened_object : (depth : ℕ) (start : List Token)
    → value (suc depth) (begin_object ∷ start) ≡ parse_map object (members (value depth) (length start) start)
unfolding value
opened_object depth start = refl

-- ---- arrays

-- these items before others
abbrev pub ahead : List Json → Items → Items
ahead [] js = js
ahead (k ∷ ks) js = item k (ahead ks js)

ahead-none : (ks : List Json) → ahead ks no_items ≡ items_of ks
ahead-none [] = refl
ahead-none (k ∷ ks) = ap (item k) (ahead-none ks)

ahead-item : (ks : List Json) (k : Json) (js : Items) → ahead ks (item k js) ≡ ahead (ks ++ k ∷ []) js
ahead-item [] k js = refl
ahead-item (l ∷ ks) k js = ap (item l) (ahead-item ks k js)

one_ahead : (ks : List Json) (k : Json) (r : Option (Items × List Token))
    → parse_map (ahead ks) (parse_map (item k) r) ≡ parse_map (ahead (ks ++ k ∷ [])) r
one_ahead ks k None = refl
one_ahead ks k (Some p) = ap (λ js. Some (js, p.1)) (ahead-item ks k p.0)

each-append : {A : Type 0} (R : Reading A) (ks : List Json) (k : Json) (xs : List A) (x : A)
    → Each R (items_of ks) xs → R k x → Each R (items_of (ks ++ k ∷ [])) (xs ++ x ∷ [])
each-append R [] k [] x each here = (here, tt)
each-append R [] k (y ∷ ys) x each here = absurd each
each-append R (l ∷ ks) k [] x each here = absurd each
each-append R (l ∷ ks) k (y ∷ ys) x each here = (each.0, each-append R ks k ys x each.1 here)

-- the items so far stand for xs, and the tokens now are left of those from the start
pub record ItemsSoFar {A : Type 0} (R : Reading A) (depth : ℕ) (start now : List Token) (xs : List A) : Type 0 where
  pub n : ℕ
  pub enough : length now ≤ n
  pub front : List Json
  pub each : Each R (items_of front) xs
  pub same : items (value depth) (length start) start ≡ parse_map (ahead front) (items (value depth) n now)

module _ {A : Type 0} (R : Reading A) (depth : ℕ) (start : List Token) where
  pub no_item_yet : ItemsSoFar R depth start start []
  no_item_yet = record {
    n = length start;
    enough = omega arith;
    front = [];
    each = tt;
    same = none_before (items (value depth) (length start) start);
  }

  pub one_more_item : (now rest : List Token) (xs : List A) (x : A) (ys : List A) → ItemsSoFar R depth start now xs
      → after_end_array now ≡ None → IsNext R depth now rest x → ys ≡ xs ++ x ∷ [] → ItemsSoFar R depth start rest ys
  one_more_item now rest xs x ys so_far going read pushed =
      let less : length rest < length now = shorter depth read.j now rest read.next in
      let enough = so_far.enough in
      let all = so_far.front ++ read.j ∷ [] in
      let turn = items_more (value depth) so_far.n now rest read.j (omega (arith, less, enough)) going read.next in
      record {
        n = so_far.n - 1;
        enough = omega (arith, less, enough);
        front = all;
        each = subst (λ (zs : List A). Each R (items_of all) zs) (sym pushed)
            (each-append R so_far.front read.j xs x so_far.each read.stands);
        same = so_far.same ∙ ap (parse_map (ahead so_far.front)) turn
            ∙ one_ahead so_far.front read.j (items (value depth) (so_far.n - 1) rest);
      }

  pub all_items : (whole : ℕ) (tokens now rest : List Token) (xs : List A) → Opens begin_array whole tokens start depth
      → ItemsSoFar R depth start now xs → after_end_array now ≡ Some rest → IsNext (IsList R) whole tokens rest xs
  all_items whole tokens now rest xs opens so_far end =
      let last = items_end (value depth) so_far.n now rest so_far.enough end in
      let read = so_far.same ∙ ap (parse_map (ahead so_far.front)) last ∙ ap (λ js. Some (js, rest)) (ahead-none so_far.front) in
      record {
        j = array (items_of so_far.front);
        next = ap (λ ts. value whole ts) opens.bracket_first ∙ ap (λ d. value d (begin_array ∷ start)) opens.level
            ∙ opened_array depth start ∙ ap (parse_map array) read;
        stands = so_far.each;
      }

-- a list that has a handle for each item
pub few_enough : {A : Type 0} (R : Reading A) (depth : ℕ) (tokens rest : List Token) (xs : List A) → length xs ≤ most_items
    → IsNext (IsList R) depth tokens rest xs → IsNext (IsArena R) depth tokens rest xs
few_enough R depth tokens rest xs few read = record { j = read.j; next = read.next; stands = (read.stands, few) }

-- ---- objects

-- these members before others
abbrev pub before : Members → Members → Members
before no_members ns = ns
before (member k j ms) ns = member k j (before ms ns)

-- these members and one behind them
abbrev pub then : Members → List ℕ → Json → Members
then no_members k j = member k j no_members
then (member l i ms) k j = member l i (then ms k j)

before-none : (ms : Members) → before ms no_members ≡ ms
before-none no_members = refl
before-none (member k j ms) = ap (member k j) (before-none ms)

before-member : (ms : Members) (k : List ℕ) (j : Json) (ns : Members) → before ms (member k j ns) ≡ before (then ms k j) ns
before-member no_members k j ns = refl
before-member (member l i ms) k j ns = ap (member l i) (before-member ms k j ns)

one_before : (ms : Members) (k : List ℕ) (j : Json) (r : Option (Members × List Token))
    → parse_map (before ms) (parse_map (member k j) r) ≡ parse_map (before (then ms k j)) r
one_before ms k j None = refl
one_before ms k j (Some p) = ap (λ ns. Some (ns, p.1)) (before-member ms k j p.0)

cons_if-append : {A : Type 0} (b : Bool) (x : A) (xs ys : List A) → cons_if b (x) (xs ++ ys) ≡ cons_if b x xs ++ ys
cons_if-append true x xs ys = refl
cons_if-append false x xs ys = refl

values_of-then : (name : List ℕ) (ms : Members) (k : List ℕ) (j : Json)
    → values_of name (then ms k j) ≡ values_of name ms ++ cons_if (bytes_eq k name) j []
values_of-then name no_members k j = refl
values_of-then name (member l i ms) k j =
    ap (cons_if (bytes_eq l name) i) (values_of-then name ms k j)
    ∙ cons_if-append (bytes_eq l name) i (values_of name ms) (cons_if (bytes_eq k name) j [])

-- these members, and one behind them unless the test holds
abbrev pub then_unless : Bool → Members → List ℕ → Json → Members
then_unless true ms k j = ms
then_unless false ms k j = then ms k j

unless-then : (b c : Bool) (l : List ℕ) (i : Json) (ms : Members) (k : List ℕ) (j : Json)
    → member_unless b l i (then_unless c ms k j) ≡ then_unless c (member_unless b l i ms) k j
unless-then true true l i ms k j = refl
unless-then true false l i ms k j = refl
unless-then false true l i ms k j = refl
unless-then false false l i ms k j = refl

without-then : (first second : List ℕ) (ms : Members) (k : List ℕ) (j : Json)
    → without first second (then ms k j) ≡ then_unless (bytes_eq k first || bytes_eq k second) (without first second ms) k j
without-then first second no_members k j = alone (bytes_eq k first || bytes_eq k second)
  where
    alone : (b : Bool) → member_unless b k j no_members ≡ then_unless b no_members k j
    alone true = refl
    alone false = refl
without-then first second (member l i ms) k j =
    ap (member_unless (bytes_eq l first || bytes_eq l second) l i) (without-then first second ms k j)
    ∙ unless-then (bytes_eq l first || bytes_eq l second) (bytes_eq k first || bytes_eq k second) l i (without first second ms) k j

members_view-then : (ms : List (Bor (List ℕ) × Value Global)) (m : Bor (List ℕ) × Value Global)
    → members_view (ms ++ m ∷ []) ≡ then (members_view ms) m.0.now (value_view m.1)
members_view-then [] m = refl
members_view-then (n ∷ ms) m = ap (member n.0.now (value_view n.1)) (members_view-then ms m)

-- the values of a name so far: none, or the one that was read
abbrev pub IsReadSoFar : {A : Type 0} → Reading A → List Json → Option A → Type 0
IsReadSoFar R js None = js ≡ []
IsReadSoFar R js (Some x) = IsOnly (λ j. R j x) js

-- what is read of the members so far, and the tokens now are left of those from the start
pub record MembersSoFar {A B : Type 0} (R : Reading A) (S : Reading B) (first second : List ℕ) (depth : ℕ) (start now : List Token)
    (a : Option A) (b : Option B) (rest : List (Bor (List ℕ) × Value Global)) : Type 0 where
  pub n : ℕ
  pub enough : length now ≤ n
  pub front : Members
  pub same : members (value depth) (length start) start ≡ parse_map (before front) (members (value depth) n now)
  pub firsts : IsReadSoFar R (values_of first front) a
  pub seconds : IsReadSoFar S (values_of second front) b
  pub others : members_view rest ≡ without first second front

module _ {A : Type 0} (R : Reading A) (name k : List ℕ) (j : Json) (front : Members) where
  -- a member of another name
  not_this : (a : Option A) → bytes_eq k name ≡ false → IsReadSoFar R (values_of name front) a
      → IsReadSoFar R (values_of name (then front k j)) a
  not_this a other so_far =
      let same : values_of name (then front k j) ≡ values_of name front =
      values_of-then name front k j ∙ ap (λ b. values_of name front ++ cons_if b j []) other ∙ append-nil (values_of name front) in
      subst (λ (js : List Json). IsReadSoFar R js a) (sym same) so_far

  -- the first member of that name
  this : (x : A) → bytes_eq k name ≡ true → IsReadSoFar R (values_of name front) None → R j x
      → IsReadSoFar R (values_of name (then front k j)) (Some x)
  this x named none read =
      let one : values_of name (then front k j) ≡ j ∷ [] =
      values_of-then name front k j ∙ ap (λ (b : Bool). values_of name front ++ cons_if b j []) named
      ∙ ap (λ (js : List Json). js ++ j ∷ []) none in
      subst (λ (js : List Json). IsReadSoFar R js (Some x)) (sym one) read

module _ {A B : Type 0} (R : Reading A) (S : Reading B) (first second : List ℕ) (depth : ℕ) (start : List Token) where
  pub no_member_yet : MembersSoFar R S first second depth start start None None []
  no_member_yet = record {
    n = length start;
    enough = omega arith;
    front = no_members;
    same = none_before (members (value depth) (length start) start);
    firsts = refl;
    seconds = refl;
    others = refl;
  }

  module _ (now behind rest : List Token) (k : List ℕ) (a : Option A) (b : Option B) (others : List (Bor (List ℕ) × Value Global))
      (so_far : MembersSoFar R S first second depth start now a b others) (named : read_key now ≡ Some (Some k, behind)) where
    enough_left : (j : Json) → value depth behind ≡ Some (j, rest) → length rest ≤ so_far.n - 1
    enough_left j next =
        omega (arith, so_far.enough, read_key-shorter now (Some k) behind named, shorter depth j behind rest next)

    turned : (j : Json) → value depth behind ≡ Some (j, rest)
        → members (value depth) (length start) start
        ≡ parse_map (before (then so_far.front k j)) (members (value depth) (so_far.n - 1) rest)
    turned j next =
        let some : 0 < so_far.n = omega (arith, so_far.enough, read_key-shorter now (Some k) behind named) in
        so_far.same ∙ ap (parse_map (before so_far.front)) (members_more (value depth) so_far.n k now behind rest j some named next)
        ∙ one_before so_far.front k j (members (value depth) (so_far.n - 1) rest)

    left_out : (j : Json) → (bytes_eq k first || bytes_eq k second) ≡ true
        → members_view others ≡ without first second (then so_far.front k j)
    left_out j named_so =
        so_far.others ∙ sym (without-then first second so_far.front k j
        ∙ ap (λ c. then_unless c (without first second so_far.front) k j) named_so)

    pub first_read : (x : A) → a ≡ None → true ≡ bytes_eq k first → bytes_eq k second ≡ false → IsNext R depth behind rest x
        → MembersSoFar R S first second depth start rest (Some x) b others
    first_read x none is_first no_second read = record {
      n = so_far.n - 1;
      enough = enough_left read.j read.next;
      front = then so_far.front k read.j;
      same = turned read.j read.next;
      firsts = this R first k read.j so_far.front x (sym is_first)
          (subst (IsReadSoFar R (values_of first so_far.front)) none so_far.firsts) read.stands;
      seconds = not_this S second k read.j so_far.front b no_second so_far.seconds;
      others = left_out read.j (ap (λ c. c || bytes_eq k second) (sym is_first));
    }

    pub second_read : (y : B) → b ≡ None → false ≡ bytes_eq k first → true ≡ bytes_eq k second → IsNext S depth behind rest y
        → MembersSoFar R S first second depth start rest a (Some y) others
    second_read y none no_first is_second read = record {
      n = so_far.n - 1;
      enough = enough_left read.j read.next;
      front = then so_far.front k read.j;
      same = turned read.j read.next;
      firsts = not_this R first k read.j so_far.front a (sym no_first) so_far.firsts;
      seconds = this S second k read.j so_far.front y (sym is_second)
          (subst (IsReadSoFar S (values_of second so_far.front)) none so_far.seconds)
          read.stands;
      others = left_out read.j (ap (λ c. c || bytes_eq k second) (sym no_first) ∙ sym is_second);
    }

    pub other_read : (m : Bor (List ℕ) × Value Global) (more : List (Bor (List ℕ) × Value Global)) → m.0.now ≡ k
        → false ≡ bytes_eq k first → false ≡ bytes_eq k second → value depth behind ≡ Some (value_view m.1, rest) → more ≡ others ++ m ∷ []
        → MembersSoFar R S first second depth start rest a b more
    other_read m more is no_first no_second next pushed =
        let j = value_view m.1 in
        record {
          n = so_far.n - 1;
          enough = enough_left j next;
          front = then so_far.front k j;
          same = turned j next;
          firsts = not_this R first k j so_far.front a (sym no_first) so_far.firsts;
          seconds = not_this S second k j so_far.front b (sym no_second) so_far.seconds;
          others = ap members_view pushed ∙ members_view-then others m ∙ ap (λ (l : List ℕ). then (members_view others) l j) is
              ∙ ap (λ ms. then ms k j) so_far.others
              ∙ sym (without-then first second so_far.front k j
              ∙ ap (λ c. then_unless (c || bytes_eq k second) (without first second so_far.front) k j) (sym no_first)
              ∙ ap (λ c. then_unless c (without first second so_far.front) k j) (sym no_second));
        }

  pub all_members : (whole : ℕ) (tokens now rest : List Token) (a : Option A) (b : Option B) (x : A) (y : B)
      (others : List (Bor (List ℕ) × Value Global)) (left : Json) → Opens begin_object whole tokens start depth
      → MembersSoFar R S first second depth start now a b others → a ≡ Some x → b ≡ Some y → read_key now ≡ Some (None, rest)
      → left ≡ object (members_view others) → AreParts R S first second whole tokens rest x y left
  all_members whole tokens now rest a b x y others left opens so_far is_a is_b end is =
      let last = members_end (value depth) so_far.n now rest so_far.enough end in
      let read = so_far.same ∙ ap (parse_map (before so_far.front)) last ∙ ap (λ ms. Some (ms, rest)) (before-none so_far.front) in
      record {
        ms = so_far.front;
        next = ap (λ ts. value whole ts) opens.bracket_first ∙ ap (λ d. value d (begin_object ∷ start)) opens.level
            ∙ opened_object depth start ∙ ap (parse_map object) read;
        has_first = subst (λ (o : Option A). IsReadSoFar R (values_of first so_far.front) o) is_a so_far.firsts;
        has_second = subst (λ (o : Option B). IsReadSoFar S (values_of second so_far.front) o) is_b so_far.seconds;
        left = is ∙ ap object so_far.others;
      }

-- ---- what a turn needs

pub nothing_yet : {A : Type 0} (a : Option A) → false ≡ is_some a → a ≡ None
nothing_yet None none = refl
nothing_yet (Some x) none = cc

not_true : (b : Bool) → (b ≡ true → ⊥) → b ≡ false
not_true true never = absurd (never refl)
not_true false never = refl

-- a name that is the first one isn't the second
pub other_name : (first second k : List ℕ) → bytes_eq second first ≡ false → true ≡ bytes_eq k first → bytes_eq k second ≡ false
other_name first second k apart is_first =
    let at_first : k ≡ first = (bytes_eq-Decides k first).0 (sym is_first) in
    not_true (bytes_eq k second) (λ is_second. both_ways (bytes_eq second first) apart ((bytes_eq-Decides second first).1
    (sym ((bytes_eq-Decides k second).0 is_second) ∙ at_first)))

pub turn_is_shorter : (now behind rest : List Token) (k : List ℕ) → read_key now ≡ Some (Some k, behind) → length rest < length behind
    → length rest < length now
turn_is_shorter now behind rest k named less = omega (arith, read_key-shorter now (Some k) behind named, less)

pub value_is_shorter : (depth : ℕ) (v : Value Global) (now rest : List Token) → value depth now ≡ Some (value_view v, rest)
    → length rest < length now
value_is_shorter depth v now rest next = shorter depth (value_view v) now rest next
