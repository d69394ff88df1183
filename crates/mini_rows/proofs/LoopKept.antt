-- A `for` whose body begins by leaving the loop keeps what it has to keep with that in its test.
use Rattle.std.specs.Prelude.{ℕ, ◌+◌, ◌≤◌, ◌≡◌, ◌⊎◌, refl, ◌||◌, ◌&&◌, not, Bool, true, false, List, [], ◌∷◌, ◌++◌, Contains, Option, None}
use Rattle.std.proofs.Common.{ap, ◌∙◌, sym, subst, arith, inl, inr, true≢false}
use Rattle.std.proofs.lemmas.List.{append-nil}
use Rattle.std.proofs.lemmas.List.Elements.{Contains-append_left, Contains-append_right, Contains-append_cases}
use Rattle.std.proofs.lemmas.Bool.{and_parts}
use Rattle.mini_model.specs.declared.name.Name.{Name}
use Rattle.mini_model.specs.declared.name.SymbolId.{SymbolId}
use Rattle.mini_model.specs.declared.operator.LogicalOperator.TheVariants.{And}
use Rattle.mini_model.specs.declared.operator.UnaryOperator.TheVariants.{LogicalNot}
use Rattle.mini_model.specs.declared.shape.Shape.TheVariants as shape
use Rattle.mini_model.specs.Tree.{Tree, node, none, ◌▸◌, is_absent, absent, negation, logical}
use Rattle.mini_accept.specs.WellShaped.{nested, an_init, an_expression, one_or_absent, each, fits, fill}
use Rattle.mini_laws.specs.declared.names.Use.{Use}
use Rattle.mini_laws.specs.declared.names.Use.TheVariants.{Read, Alone}
use Rattle.mini_laws.specs.declared.names.Declared.{Declared}
use Rattle.mini_laws.specs.declared.names.Declared.TheVariants as declared
use Rattle.mini_laws.specs.declared.names.Declaration.{Declaration}
use Rattle.mini_laws.specs.declared.names.Targets.{Targets}
use Rattle.mini_laws.specs.DeclaredNames.{names_of, body_names, has_inner}
use Rattle.mini_laws.specs.Scopes.{lexical_scope, scopes_by}
use Rattle.mini_laws.specs.Resolved.{Environment}
use Rattle.mini_laws.specs.Scoped.{Scoped}
use Rattle.mini_laws.specs.Symbols.{symbols_in, declared as declared_in, times}
use Rattle.mini_laws.specs.Early.{Path, declarations, scope_declarations, clashing, early_names, targets_of, early_jumps}
use Rattle.mini_laws.specs.Value.{Variable}
use Rattle.mini_laws.specs.State.{Fixed, Writable, Constant, KeepsOld}
use Rattle.mini_laws.specs.Fixity.{stricter, fixed_by}
use Rattle.mini_laws.specs.Bodies.{Around, Body, bodies}
use Rattle.mini_laws.proofs.Changes.{times_both}
use Rattle.mini_laws.proofs.Drops.{moved}
use Rattle.mini_kept.specs.AlikeBodies.{BodiesKept}
use Rattle.mini_kept.specs.Carried.{numbers as numbers_of}
use Rattle.mini_kept.specs.Declaring.{declared as declared_names}
use Rattle.mini_kept.specs.Frames.{Frame, frames, FramesKept}
use Rattle.mini_kept.specs.KeepsNames.{unplaced, count_of}
use Rattle.mini_kept.proofs.Anywhere.{once_anywhere, targets_anywhere}
use Rattle.mini_kept.proofs.Below.{both_counts, empty_both, both_empty}
use Rattle.mini_kept.proofs.BodyLists as body_lists
use Rattle.mini_kept.proofs.BodyLists.{kept_itself, kept_on}
use Rattle.mini_kept.proofs.Bools.{both}
use Rattle.mini_kept.proofs.Expressions.{expression, two_fit}
use Rattle.mini_kept.proofs.Fixed.{of_children}
use Rattle.mini_kept.proofs.FrameLists as frame_lists
use Rattle.mini_kept.proofs.FrameLists.{same_frames}
use Rattle.mini_kept.proofs.Quiet.{IsQuiet, expression_is_quiet, no_names}
use Rattle.mini_kept.proofs.Rows.{statement, last_statement, of_if}
use Rattle.mini_kept.proofs.Unplaced.{unplaced_both, declared_same, free_same}
use Rattle.mini_rows.specs.Lists.{for_loop, is_unscoped}
use Rattle.mini_rows.specs.Loops.{bare_break, may_leap, is_there, is_test, Tested, always, while_true, test_of, is_tested, also, Leaving, alone, or_else, unless, leaves_by, goes_by, runs_on, is_loose, Leading, whole, before, led}
use Rattle.mini_rows.proofs.BranchAround as around
use Rattle.mini_rows.proofs.BranchAround.{Core, Among, later_among}
use Rattle.mini_rows.proofs.BranchInside.{quiet}
use Rattle.mini_rows.proofs.BranchParts.{Value, value_itself, said_itself}
use Rattle.mini_rows.proofs.ListShapes.{of_block, first_fits, more_fit}
use Rattle.mini_rows.proofs.LoopLeaps.{leapless}
use Rattle.mini_rows.proofs.LoopSplits.{or_nothing, alone_fixed, fixed_assoc, Splits, Said, FreeOf, body_splits, body_said, body_bodies, body_frames}

-- ---- a test that has what t has and what x has

record Adds (t x w : Tree) : Type 0 where
  hoisted : names_of declared.Hoisted w ≡ names_of declared.Hoisted t
  inner : has_inner w ≡ (has_inner t || has_inner x)
  symbols : (v : Option SymbolId) → times v (declared_in Read w) ≤ times v (declared_in Read t) + times v (declared_in Read x)
  scoped : (env : Environment) → Scoped Read env t → Scoped Read env x → Scoped Read env w
  numbers : (k : ℕ) → count_of k (numbers_of w) ≤ count_of k (numbers_of t) + count_of k (numbers_of x)
  once : (q : Path) → early_names q t ≡ [] → early_names q x ≡ [] → early_names q w ≡ []
  targets : (g : Targets) (q : Path) → early_jumps g q t ≡ [] → early_jumps g q x ≡ [] → early_jumps g q w ≡ []
  bodies : (a : Around) → BodiesKept (bodies (quiet a) t ++ bodies (quiet a) x) (bodies (quiet a) w)
  frames : FramesKept (frames None t ++ frames None x) (frames None w)

record AddsSaid (t x w : Tree) : Type 0 where
  fixed : (z : Variable) → fixed_by w z ≡ stricter (fixed_by t z) (fixed_by x z)
  declared : Among (declared_names t ++ declared_names x) (declared_names w)

-- `!x`

not_inner : (x : Tree) → has_inner (negation x) ≡ has_inner x
unfolding has_inner
not_inner x = or_nothing (has_inner x)

not_symbols : (x : Tree) (v : Option SymbolId) → times v (declared_in Read (negation x)) ≤ times v (declared_in Read x)
unfolding declared_in scopes_by
not_symbols x v = omega (arith, times_both v (declared_in Read x) [])

not_scoped : (x : Tree) (env : Environment) → Scoped Read env x → Scoped Read env (negation x)
unfolding Scoped scopes_by
not_scoped x env r = (tt, (moved Read env (env ++ []) x (sym (append-nil env)) r, tt))

not_numbers : (x : Tree) (k : ℕ) → count_of k (numbers_of (negation x)) ≤ count_of k (numbers_of x)
unfolding numbers_of
not_numbers x k = omega (arith, both_counts k (numbers_of x) [])

not_once : (x : Tree) (q : Path) → early_names q x ≡ [] → early_names q (negation x) ≡ []
unfolding early_names scope_declarations
not_once x q e = both_empty (early_names (q ++ 0 ∷ []) x) [] (once_anywhere q (q ++ 0 ∷ []) x e) refl

not_targets : (x : Tree) (g : Targets) (q : Path) → early_jumps g q x ≡ [] → early_jumps g q (negation x) ≡ []
unfolding early_jumps targets_of
not_targets x g q e = both_empty (early_jumps g (q ++ 0 ∷ []) x) [] (targets_anywhere g q (q ++ 0 ∷ []) x e) refl

value_negation : (x : Tree) → IsQuiet x → Value x (negation x)
value_negation x q = record {
  before = q;
  after = refl;
  inner = not_inner x;
  symbols = not_symbols x;
  scoped = not_scoped x;
  numbers = not_numbers x;
  once = not_once x;
  targets = not_targets x;
  bodies = λ a. subst (BodiesKept (bodies (quiet a) x)) (sym (append-nil (bodies (quiet a) x))) (kept_itself (bodies (quiet a) x));
  frames = same_frames (frames None x) (frames None (negation x)) (sym (append-nil (frames None x)));
}

said_negation : (x : Tree) → around.Said x (negation x)
said_negation x = record { fixed = λ z. sym (of_children (shape.UnaryExpression LogicalNot) [] 0 (x ▸ none) z refl ∙ alone_fixed (fixed_by x z)); declared = λ z m. subst (λ xs. Contains xs z) (append-nil (declared_names x)) m }

goes_value : (l : Leaving) (x : Tree) → IsQuiet x → Value x (goes_by l x)
goes_value alone x q = value_negation x q
goes_value (or_else s) x q = value_negation x q
goes_value (unless s) x q = value_itself x q

goes_said : (l : Leaving) (x : Tree) → around.Said x (goes_by l x)
goes_said alone x = said_negation x
goes_said (or_else s) x = said_negation x
goes_said (unless s) x = said_itself x

-- where there was none

alone_hoisted : (y : Tree) → IsQuiet y → names_of declared.Hoisted y ≡ names_of declared.Hoisted absent
unfolding names_of
alone_hoisted y q = no_names declared.Hoisted y q

alone_inner : (y : Tree) → has_inner y ≡ (has_inner absent || has_inner y)
unfolding has_inner
alone_inner y = refl

adds_alone : (y : Tree) → IsQuiet y → Adds absent y y
adds_alone y q = record {
  hoisted = alone_hoisted y q;
  inner = alone_inner y;
  symbols = λ v. omega arith;
  scoped = λ env a b. b;
  numbers = λ k. omega arith;
  once = λ p a b. b;
  targets = λ g p a b. b;
  bodies = λ a. kept_itself (bodies (quiet a) y);
  frames = λ f m. m;
}

-- `t && y`
module _ (t y : Tree) where
  abbrev T : Tree
  T = logical And t y

  and_hoisted : IsQuiet t → names_of declared.Hoisted T ≡ names_of declared.Hoisted t
  unfolding names_of
  and_hoisted q = sym (no_names declared.Hoisted t q)

  and_inner : has_inner T ≡ (has_inner t || has_inner y)
  unfolding has_inner
  and_inner = ap (λ b. has_inner t || b) (or_nothing (has_inner y))

  and_symbols : (v : Option SymbolId) → times v (declared_in Read T) ≤ times v (declared_in Read t) + times v (declared_in Read y)
  unfolding declared_in scopes_by
  and_symbols v = omega (arith, times_both v (declared_in Read t) (declared_in Read y ++ []), times_both v (declared_in Read y) [])

  and_scoped : (env : Environment) → Scoped Read env t → Scoped Read env y → Scoped Read env T
  unfolding Scoped scopes_by
  and_scoped env a b = (tt, (moved Read env (env ++ []) t (sym (append-nil env)) a, (moved Read env ((env ++ []) ++ []) y (sym (append-nil (env ++ []) ∙ append-nil env)) b, tt)))

  and_numbers : (k : ℕ) → count_of k (numbers_of T) ≤ count_of k (numbers_of t) + count_of k (numbers_of y)
  unfolding numbers_of
  and_numbers k = omega (arith, both_counts k (numbers_of t) (numbers_of y ++ []), both_counts k (numbers_of y) [])

  and_once : (q : Path) → early_names q t ≡ [] → early_names q y ≡ [] → early_names q T ≡ []
  unfolding early_names scope_declarations
  and_once q a b = both_empty (early_names (q ++ 0 ∷ []) t) (early_names (q ++ 1 ∷ []) y ++ []) (once_anywhere q (q ++ 0 ∷ []) t a) (both_empty (early_names (q ++ 1 ∷ []) y) [] (once_anywhere q (q ++ 1 ∷ []) y b) refl)

  and_targets : (g : Targets) (q : Path) → early_jumps g q t ≡ [] → early_jumps g q y ≡ [] → early_jumps g q T ≡ []
  unfolding early_jumps targets_of
  and_targets g q a b = both_empty (early_jumps g (q ++ 0 ∷ []) t) (early_jumps g (q ++ 1 ∷ []) y ++ []) (targets_anywhere g q (q ++ 0 ∷ []) t a) (both_empty (early_jumps g (q ++ 1 ∷ []) y) [] (targets_anywhere g q (q ++ 1 ∷ []) y b) refl)

  adds_and : IsQuiet t → Adds t y T
  adds_and q = record {
    hoisted = and_hoisted q;
    inner = and_inner;
    symbols = and_symbols;
    scoped = and_scoped;
    numbers = and_numbers;
    once = and_once;
    targets = and_targets;
    bodies = λ a. subst (BodiesKept (bodies (quiet a) t ++ bodies (quiet a) y)) (ap (λ r. bodies (quiet a) t ++ r) (sym (append-nil (bodies (quiet a) y)))) (kept_itself (bodies (quiet a) t ++ bodies (quiet a) y));
    frames = same_frames (frames None t ++ frames None y) (frames None T) (ap (λ r. frames None t ++ r) (sym (append-nil (frames None y))));
  }

  said_and : AddsSaid t y T
  said_and = record { fixed = λ z. of_children (shape.LogicalExpression And) [] 0 (t ▸ (y ▸ none)) z refl ∙ ap (stricter (fixed_by t z)) (alone_fixed (fixed_by y z)); declared = λ z m. subst (λ xs. Contains xs z) (ap (λ r. declared_names t ++ r) (append-nil (declared_names y))) m }

adds_value : (t x y w : Tree) → Value x y → Adds t y w → Adds t x w
adds_value t x y w v a = record {
  hoisted = a.hoisted;
  inner = a.inner ∙ ap (λ b. has_inner t || b) v.inner;
  symbols = λ k. omega (arith, a.symbols k, v.symbols k);
  scoped = λ env b c. a.scoped env b (v.scoped env c);
  numbers = λ k. omega (arith, a.numbers k, v.numbers k);
  once = λ q b c. a.once q b (v.once q c);
  targets = λ g q b c. a.targets g q b (v.targets g q c);
  bodies = λ r. kept_on (bodies (quiet r) t ++ bodies (quiet r) x) (bodies (quiet r) t ++ bodies (quiet r) y) (bodies (quiet r) w) (body_lists.each_of (bodies (quiet r) t) (bodies (quiet r) x) (bodies (quiet r) t) (bodies (quiet r) y) (kept_itself (bodies (quiet r) t)) (v.bodies r)) (a.bodies r);
  frames = λ f m. frame_lists.each_of (frames None t) (frames None x) (frames None t) (frames None y) (λ f m. m) v.frames f (a.frames f m);
}

said_value : (t x y w : Tree) → around.Said x y → AddsSaid t y w → AddsSaid t x w
said_value t x y w v a = record { fixed = λ z. a.fixed z ∙ ap (stricter (fixed_by t z)) (sym (v.fixed z)); declared = λ z m. later_among (declared_names t) (declared_names x) (declared_names y) v.declared z (a.declared z m) }

test_adds : (t : Tested) (l : Leaving) (x : Tree) → IsQuiet x → (is_absent (test_of t) ≡ false → IsQuiet (test_of t)) → is_tested t ≡ true → Adds (test_of t) x (also t (goes_by l x))
test_adds always l x q k h = let v = goes_value l x q in adds_value absent x (goes_by l x) (goes_by l x) v (adds_alone (goes_by l x) v.after)
test_adds (while_true t) l x q k h = adds_value t x (goes_by l x) (logical And t (goes_by l x)) (goes_value l x q) (adds_and t (goes_by l x) (k (there t h)))
  where
    there : (t : Tree) → is_there t ≡ true → is_absent t ≡ false
    there (node shape.Absent xs n ts) h = absurd (true≢false (sym h))
    there (node h xs n ts) e = refl

test_said : (t : Tested) (l : Leaving) (x : Tree) → AddsSaid (test_of t) x (also t (goes_by l x))
test_said always l x = said_value absent x (goes_by l x) (goes_by l x) (goes_said l x) (record { fixed = λ z. refl; declared = λ z m. m })
test_said (while_true t) l x = said_value t x (goes_by l x) (logical And t (goes_by l x)) (goes_said l x) (said_and t (goes_by l x))

-- ---- the loop

five_flags : (i t x u c : Bool) → (i || ((t || x) || (u || (c || false)))) ≡ (i || (t || (u || ((x || c) || false))))
five_flags true t x u c = refl
five_flags false true x u c = refl
five_flags false false true true c = refl
five_flags false false true false c = refl
five_flags false false false u c = refl

fixed_swap : (f g : Fixed) → stricter f g ≡ stricter g f
fixed_swap Writable Writable = refl
fixed_swap Writable KeepsOld = refl
fixed_swap Writable Constant = refl
fixed_swap KeepsOld Writable = refl
fixed_swap KeepsOld KeepsOld = refl
fixed_swap KeepsOld Constant = refl
fixed_swap Constant Writable = refl
fixed_swap Constant KeepsOld = refl
fixed_swap Constant Constant = refl

fixed_moves : (t u x c : Fixed) → stricter t (stricter u (stricter (stricter x c) Writable)) ≡ stricter (stricter t x) (stricter u (stricter c Writable))
fixed_moves t u x c =
    ap (λ f. stricter t (stricter u f)) (fixed_assoc x c Writable)
    ∙ ap (stricter t) (sym (fixed_assoc u x (stricter c Writable)) ∙ ap (λ f. stricter f (stricter c Writable)) (fixed_swap u x) ∙ fixed_assoc x u (stricter c Writable))
    ∙ sym (fixed_assoc t x (stricter u (stricter c Writable)))

module _ (i t w u b c x : Tree) where
  abbrev Old : Tree
  Old = for_loop i t u b

  abbrev New : Tree
  New = for_loop i w u c

  for_bodies : (r : Around) → BodiesKept (bodies (quiet r) t ++ bodies (quiet r) x) (bodies (quiet r) w) → BodiesKept (bodies (quiet r) b) (bodies (quiet r) x ++ bodies (quiet r) c) → BodiesKept (bodies r Old) (bodies r New)
  for_bodies r adds splits =
      let bi : List Body = bodies (quiet r) i in
      let bt : List Body = bodies (quiet r) t in
      let bw : List Body = bodies (quiet r) w in
      let bu : List Body = bodies (quiet r) u in
      let bb : List Body = bodies (quiet r) b in
      let bc : List Body = bodies (quiet r) c in
      let bx : List Body = bodies (quiet r) x in
      let all : List Body = bi ++ (bt ++ (bu ++ (bb ++ []))) in
      let in_test : BodiesKept all bt = body_lists.second_of bi (bt ++ (bu ++ (bb ++ []))) bt (body_lists.first_of bt (bu ++ (bb ++ [])) bt (kept_itself bt)) in
      let in_update : BodiesKept all bu = body_lists.second_of bi (bt ++ (bu ++ (bb ++ []))) bu (body_lists.second_of bt (bu ++ (bb ++ [])) bu (body_lists.first_of bu (bb ++ []) bu (kept_itself bu))) in
      let in_body : BodiesKept all (bx ++ bc) = body_lists.second_of bi (bt ++ (bu ++ (bb ++ []))) (bx ++ bc) (body_lists.second_of bt (bu ++ (bb ++ [])) (bx ++ bc) (body_lists.second_of bu (bb ++ []) (bx ++ bc) (body_lists.first_of bb [] (bx ++ bc) splits))) in
      let of_x : BodiesKept all bx = kept_on all (bx ++ bc) bx in_body (body_lists.first_of bx bc bx (kept_itself bx)) in
      let of_c : BodiesKept all bc = kept_on all (bx ++ bc) bc in_body (body_lists.second_of bx bc bc (kept_itself bc)) in
      let of_w : BodiesKept all bw = kept_on all (bt ++ bx) bw (body_lists.both_of all bt bx in_test of_x) adds in
      body_lists.both_of all bi (bw ++ (bu ++ (bc ++ []))) (body_lists.first_of bi (bt ++ (bu ++ (bb ++ []))) bi (kept_itself bi)) (body_lists.both_of all bw (bu ++ (bc ++ [])) of_w (body_lists.both_of all bu (bc ++ []) in_update (body_lists.both_of all bc [] of_c tt)))

  for_frames : FramesKept (frames None t ++ frames None x) (frames None w) → FramesKept (frames None b) (frames None x ++ frames None c) → FramesKept (frames None Old) (frames None New)
  for_frames adds splits =
      let bi : List Frame = frames None i in
      let bt : List Frame = frames None t in
      let bw : List Frame = frames None w in
      let bu : List Frame = frames None u in
      let bb : List Frame = frames None b in
      let bc : List Frame = frames None c in
      let bx : List Frame = frames None x in
      let all : List Frame = bi ++ (bt ++ (bu ++ (bb ++ []))) in
      let in_test : FramesKept all bt = frame_lists.second_of bi (bt ++ (bu ++ (bb ++ []))) bt (frame_lists.first_of bt (bu ++ (bb ++ [])) bt (λ f m. m)) in
      let in_update : FramesKept all bu = frame_lists.second_of bi (bt ++ (bu ++ (bb ++ []))) bu (frame_lists.second_of bt (bu ++ (bb ++ [])) bu (frame_lists.first_of bu (bb ++ []) bu (λ f m. m))) in
      let in_body : FramesKept all (bx ++ bc) = frame_lists.second_of bi (bt ++ (bu ++ (bb ++ []))) (bx ++ bc) (frame_lists.second_of bt (bu ++ (bb ++ [])) (bx ++ bc) (frame_lists.second_of bu (bb ++ []) (bx ++ bc) (frame_lists.first_of bb [] (bx ++ bc) splits))) in
      let of_x : FramesKept all bx = λ f m. in_body f (frame_lists.first_of bx bc bx (λ f m. m) f m) in
      let of_c : FramesKept all bc = λ f m. in_body f (frame_lists.second_of bx bc bc (λ f m. m) f m) in
      let of_w : FramesKept all bw = λ f m. frame_lists.both_of all bt bx in_test of_x f (adds f m) in
      frame_lists.both_of all bi (bw ++ (bu ++ (bc ++ []))) (frame_lists.first_of bi (bt ++ (bu ++ (bb ++ []))) bi (λ f m. m)) (frame_lists.both_of all bw (bu ++ (bc ++ [])) of_w (frame_lists.both_of all bu (bc ++ []) in_update (frame_lists.alone_of all bc of_c)))

  module _ (a : Adds t x w) (s : Splits b x c) (f : may_leap x ≡ false) where
    for_names : (d : Declared) → names_of d New ≡ names_of d Old
    unfolding names_of
    for_names declared.Bound = refl
    for_names declared.Lexical = refl
    for_names declared.Hoisted = λ k. names_of declared.Hoisted i ++ (a.hoisted k ++ (names_of declared.Hoisted u ++ (sym s.hoisted k ++ [])))

    for_body : body_names New ≡ body_names Old
    unfolding body_names
    for_body = λ k. for_names declared.Lexical k ++ for_names declared.Hoisted k

    for_inner : has_inner New ≡ has_inner Old
    unfolding has_inner
    for_inner =
        ap (λ e. has_inner i || (e || (has_inner u || (has_inner c || false)))) a.inner
        ∙ five_flags (has_inner i) (has_inner t) (has_inner x) (has_inner u) (has_inner c)
        ∙ ap (λ e. has_inner i || (has_inner t || (has_inner u || (e || false)))) (sym s.inner)

    abbrev head : List (Option SymbolId)
    head = symbols_in (lexical_scope (names_of declared.Lexical i))

    for_symbols : (r : Use) (v : Option SymbolId) → times v (declared_in r New) ≤ times v (declared_in r Old)
    unfolding declared_in scopes_by
    for_symbols r v =
        omega (
          arith,
          a.symbols v,
          s.symbols v,
          times_both v head (declared_in Read i ++ (declared_in Read w ++ (declared_in Read u ++ (declared_in Alone c ++ [])))),
          times_both v (declared_in Read i) (declared_in Read w ++ (declared_in Read u ++ (declared_in Alone c ++ []))),
          times_both v (declared_in Read w) (declared_in Read u ++ (declared_in Alone c ++ [])),
          times_both v (declared_in Read u) (declared_in Alone c ++ []),
          times_both v (declared_in Alone c) [],
          times_both v head (declared_in Read i ++ (declared_in Read t ++ (declared_in Read u ++ (declared_in Alone b ++ [])))),
          times_both v (declared_in Read i) (declared_in Read t ++ (declared_in Read u ++ (declared_in Alone b ++ []))),
          times_both v (declared_in Read t) (declared_in Read u ++ (declared_in Alone b ++ [])),
          times_both v (declared_in Read u) (declared_in Alone b ++ []),
          times_both v (declared_in Alone b) [],
        )

    for_scoped : (r : Use) (env : Environment) → Scoped r env Old → Scoped r env New
    unfolding Scoped scopes_by
    for_scoped r env k =
        let inner : Environment = (env ++ lexical_scope (names_of declared.Lexical i)) ++ [] in
        let (test, rest) = s.scoped ((inner ++ []) ++ []) k.1.1.1.1.0 in
        (tt, (k.1.0, (a.scoped inner k.1.1.0 (moved Read ((inner ++ []) ++ []) inner x (append-nil (inner ++ []) ∙ append-nil inner) test), (k.1.1.1.0, (rest, tt)))))

    for_numbers : (k : ℕ) → count_of k (numbers_of New) ≤ count_of k (numbers_of Old)
    unfolding numbers_of
    for_numbers k =
        omega (
          arith,
          a.numbers k,
          s.numbers k,
          both_counts k (numbers_of i) (numbers_of w ++ (numbers_of u ++ (numbers_of c ++ []))),
          both_counts k (numbers_of w) (numbers_of u ++ (numbers_of c ++ [])),
          both_counts k (numbers_of u) (numbers_of c ++ []),
          both_counts k (numbers_of c) [],
          both_counts k (numbers_of i) (numbers_of t ++ (numbers_of u ++ (numbers_of b ++ []))),
          both_counts k (numbers_of t) (numbers_of u ++ (numbers_of b ++ [])),
          both_counts k (numbers_of u) (numbers_of b ++ []),
          both_counts k (numbers_of b) [],
        )

    head_free : (p : Path) (ds : List Declaration) → clashing [] (ds ++ declarations declared.Hoisted false p b) ≡ [] → clashing [] (ds ++ declarations declared.Hoisted false p c) ≡ []
    head_free p ds e =
        free_same (ds ++ declarations declared.Hoisted false p b) (ds ++ declarations declared.Hoisted false p c)
        (unplaced_both ds (declarations declared.Hoisted false p c) ∙ ap (λ r. unplaced ds ++ r) (declared_same declared.Hoisted false p p b c (sym s.hoisted)) ∙ sym (unplaced_both ds (declarations declared.Hoisted false p b))) e

    for_once : (q : Path) → early_names q Old ≡ [] → early_names q New ≡ []
    unfolding early_names scope_declarations
    for_once q e =
        let ds : List Declaration = declarations declared.Lexical true (q ++ 0 ∷ []) i in
        let (own, r0) = empty_both (clashing [] (ds ++ declarations declared.Hoisted false (q ++ 3 ∷ []) b)) (early_names (q ++ 0 ∷ []) i ++ (early_names (q ++ 1 ∷ []) t ++ (early_names (q ++ 2 ∷ []) u ++ (early_names (q ++ 3 ∷ []) b ++ [])))) e in
        let (ei, r1) = empty_both (early_names (q ++ 0 ∷ []) i) (early_names (q ++ 1 ∷ []) t ++ (early_names (q ++ 2 ∷ []) u ++ (early_names (q ++ 3 ∷ []) b ++ []))) r0 in
        let (et, r2) = empty_both (early_names (q ++ 1 ∷ []) t) (early_names (q ++ 2 ∷ []) u ++ (early_names (q ++ 3 ∷ []) b ++ [])) r1 in
        let (eu, r3) = empty_both (early_names (q ++ 2 ∷ []) u) (early_names (q ++ 3 ∷ []) b ++ []) r2 in
        let (eb, r4) = empty_both (early_names (q ++ 3 ∷ []) b) [] r3 in
        let (ex, ec) = s.once (q ++ 3 ∷ []) eb in
        both_empty (clashing [] (ds ++ declarations declared.Hoisted false (q ++ 3 ∷ []) c)) (early_names (q ++ 0 ∷ []) i ++ (early_names (q ++ 1 ∷ []) w ++ (early_names (q ++ 2 ∷ []) u ++ (early_names (q ++ 3 ∷ []) c ++ [])))) (head_free (q ++ 3 ∷ []) ds own)
        (both_empty (early_names (q ++ 0 ∷ []) i) (early_names (q ++ 1 ∷ []) w ++ (early_names (q ++ 2 ∷ []) u ++ (early_names (q ++ 3 ∷ []) c ++ []))) ei
        (both_empty (early_names (q ++ 1 ∷ []) w) (early_names (q ++ 2 ∷ []) u ++ (early_names (q ++ 3 ∷ []) c ++ [])) (a.once (q ++ 1 ∷ []) et (once_anywhere (q ++ 3 ∷ []) (q ++ 1 ∷ []) x ex))
        (both_empty (early_names (q ++ 2 ∷ []) u) (early_names (q ++ 3 ∷ []) c ++ []) eu (both_empty (early_names (q ++ 3 ∷ []) c) [] ec refl))))

    abbrev looped : Targets → Targets
    looped g = record g { breaks = true; continues = true }

    for_targets : (g : Targets) (q : Path) → early_jumps g q Old ≡ [] → early_jumps g q New ≡ []
    unfolding early_jumps targets_of
    for_targets g q e =
        let (ei, r1) = empty_both (early_jumps g (q ++ 0 ∷ []) i) (early_jumps g (q ++ 1 ∷ []) t ++ (early_jumps g (q ++ 2 ∷ []) u ++ (early_jumps (looped g) (q ++ 3 ∷ []) b ++ []))) e in
        let (et, r2) = empty_both (early_jumps g (q ++ 1 ∷ []) t) (early_jumps g (q ++ 2 ∷ []) u ++ (early_jumps (looped g) (q ++ 3 ∷ []) b ++ [])) r1 in
        let (eu, r3) = empty_both (early_jumps g (q ++ 2 ∷ []) u) (early_jumps (looped g) (q ++ 3 ∷ []) b ++ []) r2 in
        let (eb, r4) = empty_both (early_jumps (looped g) (q ++ 3 ∷ []) b) [] r3 in
        let (ex, ec) = s.targets (looped g) (q ++ 3 ∷ []) eb in
        let ez = targets_anywhere g (q ++ 3 ∷ []) (q ++ 1 ∷ []) x (leapless x f (looped g) g (record { labels = refl; returns = refl; yields = refl }) (q ++ 3 ∷ []) ex) in
        both_empty (early_jumps g (q ++ 0 ∷ []) i) (early_jumps g (q ++ 1 ∷ []) w ++ (early_jumps g (q ++ 2 ∷ []) u ++ (early_jumps (looped g) (q ++ 3 ∷ []) c ++ []))) ei
        (both_empty (early_jumps g (q ++ 1 ∷ []) w) (early_jumps g (q ++ 2 ∷ []) u ++ (early_jumps (looped g) (q ++ 3 ∷ []) c ++ [])) (a.targets g (q ++ 1 ∷ []) et ez)
        (both_empty (early_jumps g (q ++ 2 ∷ []) u) (early_jumps (looped g) (q ++ 3 ∷ []) c ++ []) eu (both_empty (early_jumps (looped g) (q ++ 3 ∷ []) c) [] ec refl)))

    for_core : Core Old New
    for_core = record { kept = record { names = for_names; body = for_body; inner = for_inner; symbols = for_symbols }; scoped = for_scoped; numbers = for_numbers; once = for_once; targets = for_targets; loop = refl; bodies = λ r. for_bodies r (a.bodies r) (s.bodies r); frames = for_frames a.frames s.frames }

  module _ (a : AddsSaid t x w) (s : Said b x c) where
    for_fixed : (z : Variable) → fixed_by Old z ≡ fixed_by New z
    for_fixed z =
        of_children shape.ForStatement [] 0 (i ▸ (t ▸ (u ▸ (b ▸ none)))) z refl
        ∙ ap (λ f. stricter (fixed_by i z) (stricter (fixed_by t z) (stricter (fixed_by u z) (stricter f Writable)))) (s.fixed z)
        ∙ ap (stricter (fixed_by i z)) (fixed_moves (fixed_by t z) (fixed_by u z) (fixed_by x z) (fixed_by c z))
        ∙ ap (λ f. stricter (fixed_by i z) (stricter f (stricter (fixed_by u z) (stricter (fixed_by c z) Writable)))) (sym (a.fixed z))
        ∙ sym (of_children shape.ForStatement [] 0 (i ▸ (w ▸ (u ▸ (c ▸ none)))) z refl)

    for_declared : Among (declared_names Old) (declared_names New)
    for_declared z m = by_init (Contains-append_cases di (dw ++ (du ++ (dc ++ []))) z m)
      where
        di : List Name
        di = declared_names i

        dt : List Name
        dt = declared_names t

        dw : List Name
        dw = declared_names w

        du : List Name
        du = declared_names u

        db : List Name
        db = declared_names b

        dc : List Name
        dc = declared_names c

        dx : List Name
        dx = declared_names x

        in_test : Contains dt z → Contains (di ++ (dt ++ (du ++ (db ++ [])))) z
        in_test k = Contains-append_right di (dt ++ (du ++ (db ++ []))) z (Contains-append_left dt (du ++ (db ++ [])) z k)

        in_update : Contains du z → Contains (di ++ (dt ++ (du ++ (db ++ [])))) z
        in_update k = Contains-append_right di (dt ++ (du ++ (db ++ []))) z (Contains-append_right dt (du ++ (db ++ [])) z (Contains-append_left du (db ++ []) z k))

        in_body : Contains (dx ++ dc) z → Contains (di ++ (dt ++ (du ++ (db ++ [])))) z
        in_body k = Contains-append_right di (dt ++ (du ++ (db ++ []))) z (Contains-append_right dt (du ++ (db ++ [])) z (Contains-append_right du (db ++ []) z (Contains-append_left db [] z (s.declared z k))))

        by_body : Contains dc z ⊎ Contains [] z → Contains (di ++ (dt ++ (du ++ (db ++ [])))) z
        by_body (inl k) = in_body (Contains-append_right dx dc z k)
        by_body (inr k) = in_body (Contains-append_right dx dc z (subst (λ xs. Contains xs z) (append-nil dc) (Contains-append_right dc [] z k)))

        by_update : Contains du z ⊎ Contains (dc ++ []) z → Contains (di ++ (dt ++ (du ++ (db ++ [])))) z
        by_update (inl k) = in_update k
        by_update (inr k) = by_body (Contains-append_cases dc [] z k)

        by_added : Contains dt z ⊎ Contains dx z → Contains (di ++ (dt ++ (du ++ (db ++ [])))) z
        by_added (inl k) = in_test k
        by_added (inr k) = in_body (Contains-append_left dx dc z k)

        by_test : Contains dw z ⊎ Contains (du ++ (dc ++ [])) z → Contains (di ++ (dt ++ (du ++ (db ++ [])))) z
        by_test (inl k) = by_added (Contains-append_cases dt dx z (a.declared z k))
        by_test (inr k) = by_update (Contains-append_cases du (dc ++ []) z k)

        by_init : Contains di z ⊎ Contains (dw ++ (du ++ (dc ++ []))) z → Contains (di ++ (dt ++ (du ++ (db ++ [])))) z
        by_init (inl k) = Contains-append_left di (dt ++ (du ++ (db ++ []))) z k
        by_init (inr k) = by_test (Contains-append_cases dw (du ++ (dc ++ [])) z k)

    for_said : around.Said Old New
    for_said = record { fixed = for_fixed; declared = for_declared }

-- ---- what is written fits as a statement

maybe_fits : (strict : Bool) (t : Tree) → is_absent t ≡ false → fits strict expression t ≡ true → fits strict (one_or_absent an_expression) t ≡ true
maybe_fits strict (node shape.Absent xs n ts) h e = absurd (true≢false h)
maybe_fits strict (node k xs n ts) h e = e

surely_fits : (strict : Bool) (t : Tree) → is_absent t ≡ false → fits strict (one_or_absent an_expression) t ≡ true → fits strict expression t ≡ true
surely_fits strict (node shape.Absent xs n ts) h e = absurd (true≢false h)
surely_fits strict (node k xs n ts) h e = e

there_is : (t : Tree) → is_there t ≡ true → is_absent t ≡ false
there_is (node shape.Absent xs n ts) h = absurd (true≢false (sym h))
there_is (node h xs n ts) e = refl

statement_fits : (strict : Bool) (s : Tree) → is_unscoped s ≡ true → fits strict last_statement s ≡ true → fits strict statement s ≡ true
statement_fits strict (node shape.Absent xs n ts) h e = absurd (true≢false (sym h))
statement_fits strict (node k xs n ts) h e = e

leaves_fit : (strict : Bool) (l : Leaving) (x : Tree) → is_loose l ≡ true → fits strict statement (leaves_by l x) ≡ true → (fits strict expression x ≡ true) × (fits strict statement (runs_on l) ≡ true)
leaves_fit strict alone x h e = ((of_if strict statement x bare_break absent e).1.0, refl)
leaves_fit strict (or_else s) x h e = let (a, b, c) = (of_if strict statement x bare_break s e).1 in (a, statement_fits strict s h c)
leaves_fit strict (unless s) x h e = let (a, b, c) = (of_if strict statement x s bare_break e).1 in (a, b)

body_fit : (strict : Bool) (d : Leading) (l : Leaving) (x : Tree) → is_loose l ≡ true → fits strict statement (led d (leaves_by l x)) ≡ true → (fits strict expression x ≡ true) × (fits strict statement (led d (runs_on l)) ≡ true)
body_fit strict whole l x h e = leaves_fit strict l x h e
body_fit strict (before ts) l x h e =
    let (f, g) = first_fits strict statement (leaves_by l x) ts (of_block strict nested (leaves_by l x ▸ ts) e) in
    let (a, b) = leaves_fit strict l x h f in
    (a, both (fill strict (each statement) (runs_on l ▸ ts)) true (more_fit strict statement (runs_on l) ts b g) refl)

goes_fit : (strict : Bool) (l : Leaving) (x : Tree) → fits strict expression x ≡ true → fits strict expression (goes_by l x) ≡ true
goes_fit strict alone x e = both (fits strict expression x) true e refl
goes_fit strict (or_else s) x e = both (fits strict expression x) true e refl
goes_fit strict (unless s) x e = e

goes_there : (l : Leaving) (x : Tree) → is_there x ≡ true → is_absent (goes_by l x) ≡ false
goes_there alone x h = refl
goes_there (or_else s) x h = refl
goes_there (unless s) x h = there_is x h

test_fit : (strict : Bool) (t : Tested) (l : Leaving) (x : Tree) → is_there x ≡ true → is_tested t ≡ true → fits strict expression x ≡ true → fits strict (one_or_absent an_expression) (test_of t) ≡ true → fits strict (one_or_absent an_expression) (also t (goes_by l x)) ≡ true
test_fit strict always l x h k e f = maybe_fits strict (goes_by l x) (goes_there l x h) (goes_fit strict l x e)
test_fit strict (while_true t) l x h k e f = two_fit strict t (goes_by l x) (surely_fits strict t (there_is t k) f) (goes_fit strict l x e)

-- ---- 84

module _ (init update x : Tree) (t : Tested) (d : Leading) (l : Leaving) (asked : is_test x ≡ true) (tested : is_tested t ≡ true) (loose : is_loose l ≡ true) (free : FreeOf x d) where
  abbrev pub Before : Tree
  Before = for_loop init (test_of t) update (led d (leaves_by l x))

  abbrev pub After : Tree
  After = for_loop init (also t (goes_by l x)) update (led d (runs_on l))

  calm : (b : Bool) → not b ≡ true → b ≡ false
  calm true e = absurd (true≢false (sym e))
  calm false e = refl

  pub row_84_fits : (strict : Bool) → fits strict statement Before ≡ true → fits strict statement After ≡ true
  row_84_fits strict e =
      let (a, r1) = and_parts (fits strict (one_or_absent an_init) init) (fits strict (one_or_absent an_expression) (test_of t) && (fits strict (one_or_absent an_expression) update && (fits strict statement (led d (leaves_by l x)) && true))) e in
      let (b, r2) = and_parts (fits strict (one_or_absent an_expression) (test_of t)) (fits strict (one_or_absent an_expression) update && (fits strict statement (led d (leaves_by l x)) && true)) r1 in
      let (c, r3) = and_parts (fits strict (one_or_absent an_expression) update) (fits strict statement (led d (leaves_by l x)) && true) r2 in
      let (f, r4) = and_parts (fits strict statement (led d (leaves_by l x))) true r3 in
      let (g, h) = body_fit strict d l x loose f in
      both (fits strict (one_or_absent an_init) init) (fits strict (one_or_absent an_expression) (also t (goes_by l x)) && (fits strict (one_or_absent an_expression) update && (fits strict statement (led d (runs_on l)) && true))) a
      (both (fits strict (one_or_absent an_expression) (also t (goes_by l x))) (fits strict (one_or_absent an_expression) update && (fits strict statement (led d (runs_on l)) && true)) (test_fit strict t l x (and_parts (is_there x) (not (may_leap x)) asked).0 tested g b)
      (both (fits strict (one_or_absent an_expression) update) (fits strict statement (led d (runs_on l)) && true) c (both (fits strict statement (led d (runs_on l))) true h refl)))

  pub row_84_core : (strict : Bool) → fits strict statement Before ≡ true → Core Before After
  row_84_core strict e =
      let (a, r1) = and_parts (fits strict (one_or_absent an_init) init) (fits strict (one_or_absent an_expression) (test_of t) && (fits strict (one_or_absent an_expression) update && (fits strict statement (led d (leaves_by l x)) && true))) e in
      let (b, r2) = and_parts (fits strict (one_or_absent an_expression) (test_of t)) (fits strict (one_or_absent an_expression) update && (fits strict statement (led d (leaves_by l x)) && true)) r1 in
      let (c, r3) = and_parts (fits strict (one_or_absent an_expression) update) (fits strict statement (led d (leaves_by l x)) && true) r2 in
      let (f, r4) = and_parts (fits strict statement (led d (leaves_by l x))) true r3 in
      let quiet_test = expression_is_quiet strict x (body_fit strict d l x loose f).0 in
      for_core init (test_of t) (also t (goes_by l x)) update (led d (leaves_by l x)) (led d (runs_on l)) x
      (test_adds t l x quiet_test (λ k. expression_is_quiet strict (test_of t) (surely_fits strict (test_of t) k b)) tested) (body_splits d l x free loose quiet_test) (calm (may_leap x) (and_parts (is_there x) (not (may_leap x)) asked).1)

  pub row_84_said : around.Said Before After
  row_84_said = for_said init (test_of t) (also t (goes_by l x)) update (led d (leaves_by l x)) (led d (runs_on l)) x (test_said t l x) (body_said d l x)

-- bodies and frames alone

goes_bodies : (l : Leaving) (x : Tree) (a : Around) → bodies (quiet a) x ≡ bodies (quiet a) (goes_by l x)
goes_bodies alone x a = sym (append-nil (bodies (quiet a) x))
goes_bodies (or_else s) x a = sym (append-nil (bodies (quiet a) x))
goes_bodies (unless s) x a = refl

goes_frames : (l : Leaving) (x : Tree) → frames None x ≡ frames None (goes_by l x)
goes_frames alone x = sym (append-nil (frames None x))
goes_frames (or_else s) x = sym (append-nil (frames None x))
goes_frames (unless s) x = refl

test_bodies : (t : Tested) (l : Leaving) (x : Tree) (a : Around) → bodies (quiet a) (test_of t) ++ bodies (quiet a) x ≡ bodies (quiet a) (also t (goes_by l x))
test_bodies always l x a = goes_bodies l x a
test_bodies (while_true t) l x a = ap (λ r. bodies (quiet a) t ++ r) (goes_bodies l x a ∙ sym (append-nil (bodies (quiet a) (goes_by l x))))

test_frames : (t : Tested) (l : Leaving) (x : Tree) → frames None (test_of t) ++ frames None x ≡ frames None (also t (goes_by l x))
test_frames always l x = goes_frames l x
test_frames (while_true t) l x = ap (λ r. frames None t ++ r) (goes_frames l x ∙ sym (append-nil (frames None (goes_by l x))))

module _ (init update x : Tree) (t : Tested) (d : Leading) (l : Leaving) where
  pub loop_bodies : (a : Around) → BodiesKept (bodies a (for_loop init (test_of t) update (led d (leaves_by l x)))) (bodies a (for_loop init (also t (goes_by l x)) update (led d (runs_on l))))
  loop_bodies a =
      for_bodies init (test_of t) (also t (goes_by l x)) update (led d (leaves_by l x)) (led d (runs_on l)) x a
      (subst (BodiesKept (bodies (quiet a) (test_of t) ++ bodies (quiet a) x)) (test_bodies t l x a) (kept_itself (bodies (quiet a) (test_of t) ++ bodies (quiet a) x))) (body_bodies d l x a)

  pub loop_frames : FramesKept (frames None (for_loop init (test_of t) update (led d (leaves_by l x)))) (frames None (for_loop init (also t (goes_by l x)) update (led d (runs_on l))))
  loop_frames =
      for_frames init (test_of t) (also t (goes_by l x)) update (led d (leaves_by l x)) (led d (runs_on l)) x
      (same_frames (frames None (test_of t) ++ frames None x) (frames None (also t (goes_by l x))) (test_frames t l x)) (body_frames d l x)
