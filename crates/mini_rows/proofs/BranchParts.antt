-- What the rows of `if` write keeps what it has to keep of its parts.
use Rattle.std.specs.Prelude.{ℕ, suc, ◌≤◌, ◌≡◌, refl, ◌||◌, nat_lt, Bool, true, false, List, [], ◌∷◌, ◌++◌, Contains, Option, None, if◌then◌else◌}
use Rattle.std.proofs.Common.{ap, ◌∙◌, sym, subst, arith, inl, inr, append_assoc}
use Rattle.std.proofs.lemmas.List.{append-nil}
use Rattle.mini_model.specs.declared.name.SymbolId.{SymbolId}
use Rattle.mini_model.specs.declared.name.Name.{Name}
use Rattle.mini_model.specs.declared.operator.BinaryOperator.{BinaryOperator}
use Rattle.mini_model.specs.declared.operator.LogicalOperator.{LogicalOperator}
use Rattle.mini_model.specs.declared.operator.LogicalOperator.TheVariants.{Or, And}
use Rattle.mini_model.specs.declared.operator.UnaryOperator.TheVariants.{LogicalNot}
use Rattle.mini_model.specs.declared.place.Position.TheVariants.{Expr}
use Rattle.mini_model.specs.declared.seat.Seat.{Seat}
use Rattle.mini_model.specs.declared.shape.Shape.TheVariants as shape
use Rattle.mini_model.specs.Tree.{Tree, Trees, node, none, ◌▸◌, absent, expression_statement, if_else, negation, logical}
use Rattle.mini_model.specs.Weight.{weight}
use Rattle.mini_model.specs.Position.{is_equality}
use Rattle.mini_model.specs.Terms.{is_boolean, turned_seat, unwrapped, turned_equality, neg, neg_each, not_of}
use Rattle.mini_accept.specs.WellShaped.{fits}
use Rattle.mini_laws.specs.declared.names.Use.{Use}
use Rattle.mini_laws.specs.declared.names.Use.TheVariants.{Read, Alone}
use Rattle.mini_laws.specs.declared.names.Declared.{Declared}
use Rattle.mini_laws.specs.declared.names.Declared.TheVariants as declared
use Rattle.mini_laws.specs.declared.names.Targets.{Targets}
use Rattle.mini_laws.specs.DeclaredNames.{names_of, body_names, has_inner}
use Rattle.mini_laws.specs.Scopes.{scopes_by}
use Rattle.mini_laws.specs.Resolved.{Environment}
use Rattle.mini_laws.specs.Scoped.{Scoped}
use Rattle.mini_laws.specs.Symbols.{declared as declared_in, times}
use Rattle.mini_laws.specs.Early.{Path, scope_declarations, early_names, targets_of, early_jumps}
use Rattle.mini_laws.proofs.Changes.{twice, times_both}
use Rattle.mini_laws.proofs.Drops.{moved}
use Rattle.mini_laws.specs.Value.{Variable}
use Rattle.mini_laws.specs.State.{Fixed, Writable, Constant, KeepsOld}
use Rattle.mini_laws.specs.Fixity.{stricter, fixed_by}
use Rattle.mini_laws.specs.Bodies.{Around, bodies}
use Rattle.mini_kept.specs.AlikeBodies.{BodiesKept}
use Rattle.mini_kept.specs.Carried.{numbers}
use Rattle.mini_kept.specs.Declaring.{declared as declared_names, declared_all}
use Rattle.mini_kept.specs.Frames.{frames, FramesKept}
use Rattle.mini_kept.specs.KeepsNames.{count_of}
use Rattle.mini_kept.proofs.Anywhere.{once_anywhere, targets_anywhere}
use Rattle.mini_kept.proofs.Below.{both_counts, empty_both, both_empty}
use Rattle.mini_kept.proofs.BodyLists.{kept_itself, kept_on, second_of as second_bodies, each_of as each_body}
use Rattle.mini_kept.proofs.BodyRows.{not_of_bodies}
use Rattle.mini_kept.proofs.Expressions.{expression}
use Rattle.mini_kept.proofs.Fixed.{of_not, of_children, of_if, of_statement, of_absent}
use Rattle.mini_kept.proofs.FrameLists.{same_frames, second_of as second_frames, each_of as each_frame}
use Rattle.mini_kept.proofs.FrameRows.{not_of_frames}
use Rattle.mini_kept.proofs.Negating.{inner_not, symbols_not, scoped_not, numbers_not, once_not, targets_not}
use Rattle.mini_kept.proofs.Quiet.{IsQuiet, expression_is_quiet, no_names}
use Rattle.mini_kept.proofs.Expressions.{not_of_fits}
use Rattle.mini_rows.specs.Branches.{IsEmpty}
use Rattle.mini_rows.proofs.BranchInside.{quiet}
use Rattle.mini_rows.proofs.BranchAround.{Core, Said, Among, first_among, later_among, second_among}

-- ---- one after another

pub core_then : (n m w : Tree) → Core n m → Core m w → Core n w
core_then n m w f g = record {
  kept = twice n m w f.kept g.kept;
  scoped = λ v env r. g.scoped v env (f.scoped v env r);
  numbers = λ k. omega (arith, f.numbers k, g.numbers k);
  once = λ q e. g.once q (f.once q e);
  targets = λ a q e. g.targets a q (f.targets a q e);
  loop = g.loop ∙ f.loop;
  bodies = λ a. kept_on (bodies a n) (bodies a m) (bodies a w) (f.bodies a) (g.bodies a);
  frames = λ x c. f.frames x (g.frames x c);
}

pub said_then : (n m w : Tree) → Said n m → Said m w → Said n w
said_then n m w f g = record { fixed = λ z. f.fixed z ∙ g.fixed z; declared = λ z c. f.declared z (g.declared z c) }

-- ---- an expression that stands for another, where its value is asked

pub record Value (a b : Tree) : Type 0 where
  pub before : IsQuiet a
  pub after : IsQuiet b
  pub inner : has_inner b ≡ has_inner a
  pub symbols : (x : Option SymbolId) → times x (declared_in Read b) ≤ times x (declared_in Read a)
  pub scoped : (env : Environment) → Scoped Read env a → Scoped Read env b
  pub numbers : (k : ℕ) → count_of k (numbers b) ≤ count_of k (numbers a)
  pub once : (q : Path) → early_names q a ≡ [] → early_names q b ≡ []
  pub targets : (g : Targets) (q : Path) → early_jumps g q a ≡ [] → early_jumps g q b ≡ []
  pub bodies : (r : Around) → BodiesKept (bodies (quiet r) a) (bodies (quiet r) b)
  pub frames : FramesKept (frames None a) (frames None b)

pub value_itself : (a : Tree) → IsQuiet a → Value a a
value_itself a q = record { before = q; after = q; inner = refl; symbols = λ x. omega arith; scoped = λ env r. r; numbers = λ k. omega arith; once = λ q e. e; targets = λ g q e. e; bodies = λ r. kept_itself (bodies (quiet r) a); frames = λ f c. c }

pub said_itself : (a : Tree) → Said a a
said_itself a = record { fixed = λ z. refl; declared = λ z c. c }

-- the names in a negation are those of the expression
equality_declared : (b : Bool) (o : BinaryOperator) (xs : List Name) (n : ℕ) (ts : Trees) → declared_names (turned_equality b o xs n ts) ≡ declared_names (node (shape.BinaryExpression o) xs n ts)
equality_declared true o xs n ts = refl
equality_declared false o xs n ts = append-nil (declared_names (node (shape.BinaryExpression o) xs n ts))

mutual
  neg_declared : (s : Seat) (t : Tree) → declared_names (neg s t) ≡ declared_names t
  neg_declared s (node (shape.LogicalExpression And) xs n ts) = each_declared (turned_seat (shape.LogicalExpression And) s) ts
  neg_declared s (node (shape.LogicalExpression Or) xs n ts) = each_declared (turned_seat (shape.LogicalExpression Or) s) ts
  neg_declared s (node (shape.UnaryExpression LogicalNot) xs n (a ▸ none)) = go (s.boolean || is_boolean a)
    where
      go : (b : Bool) → declared_names (unwrapped b a (node (shape.UnaryExpression LogicalNot) xs n (a ▸ none))) ≡ declared_names a ++ []
      go true = sym (append-nil (declared_names a))
      go false = append-nil (declared_names a ++ [])
  neg_declared s (node (shape.BinaryExpression o) xs n ts) = equality_declared (is_equality o) o xs n ts
  neg_declared s (node h xs n ts) = append-nil (declared_names (node h xs n ts))

  each_declared : (σ : ℕ → Seat) (ts : Trees) → declared_all (neg_each σ ts) ≡ declared_all ts
  each_declared σ none = refl
  each_declared σ (t ▸ ts) = λ i. neg_declared (σ 0) t i ++ each_declared (λ j. σ (suc j)) ts i

not_declared : (s : Seat) (a : Tree) → declared_names (not_of s a) ≡ declared_names a
not_declared s a = go (nat_lt (weight (Expr s) (negation a)) (weight (Expr s) (neg s a)))
  where
    go : (b : Bool) → declared_names (if b then negation a else neg s a) ≡ declared_names a
    go true = append-nil (declared_names a)
    go false = neg_declared s a

pub value_not : (strict : Bool) (s : Seat) (a : Tree) → fits strict expression a ≡ true → Value a (not_of s a)
value_not strict s a e = record {
  before = expression_is_quiet strict a e;
  after = expression_is_quiet strict (not_of s a) (not_of_fits strict s a e);
  inner = inner_not s a;
  symbols = λ x. omega (arith, symbols_not x s a);
  scoped = λ env r. scoped_not env s a r;
  numbers = λ k. numbers_not k s a;
  once = λ q f. once_not q s a f;
  targets = λ g q f. targets_not g q s a f;
  bodies = λ r. not_of_bodies strict (quiet r) s a refl e;
  frames = same_frames (frames None a) (frames None (not_of s a)) (sym (not_of_frames strict s a e));
}

pub said_not : (s : Seat) (a : Tree) → Said a (not_of s a)
said_not s a = record { fixed = λ z. sym (of_not s a z); declared = λ z c. subst (λ xs. Contains xs z) (not_declared s a) c }

-- ---- `if (a); else u` to `if (!a) u`

pub record Idle (t : Tree) : Type 0 where
  pub names : names_of declared.Hoisted t ≡ []
  pub inner : has_inner t ≡ false
  pub fixed : (z : Variable) → fixed_by t z ≡ Writable

pub empty_is_idle : (t : Tree) → IsEmpty t → Idle t
unfolding names_of has_inner
empty_is_idle t (inl e) = subst Idle (sym e) (record { names = refl; inner = refl; fixed = λ z. refl })
empty_is_idle t (inr e) = subst Idle (sym e) (record { names = refl; inner = refl; fixed = λ z. refl })

module _ (a b t u : Tree) (v : Value a b) (i : Idle t) where
  turned_names : (d : Declared) → names_of d (if_else b u absent) ≡ names_of d (if_else a t u)
  unfolding names_of
  turned_names declared.Bound = refl
  turned_names declared.Lexical = refl
  turned_names declared.Hoisted =
      ap (λ xs. xs ++ (names_of declared.Hoisted u ++ [])) (no_names declared.Hoisted b v.after)
      ∙ sym (ap (λ xs. xs ++ (names_of declared.Hoisted t ++ (names_of declared.Hoisted u ++ []))) (no_names declared.Hoisted a v.before) ∙ ap (λ xs. xs ++ (names_of declared.Hoisted u ++ [])) i.names)

  turned_body : body_names (if_else b u absent) ≡ body_names (if_else a t u)
  unfolding body_names names_of
  turned_body = turned_names declared.Hoisted

  turned_inner : has_inner (if_else b u absent) ≡ has_inner (if_else a t u)
  unfolding has_inner
  turned_inner = (λ k. v.inner k || (has_inner u || false)) ∙ sym (ap (λ c. has_inner a || (c || (has_inner u || false))) i.inner)

  turned_symbols : (w : Use) (x : Option SymbolId) → times x (declared_in w (if_else b u absent)) ≤ times x (declared_in w (if_else a t u))
  unfolding declared_in scopes_by
  turned_symbols w x =
      omega (
        arith,
        v.symbols x,
        times_both x (declared_in Read b) (declared_in Alone u ++ []),
        times_both x (declared_in Alone u) [],
        times_both x (declared_in Read a) (declared_in Alone t ++ (declared_in Alone u ++ [])),
        times_both x (declared_in Alone t) (declared_in Alone u ++ []),
      )

  turned_scoped : (w : Use) (env : Environment) → Scoped w env (if_else a t u) → Scoped w env (if_else b u absent)
  unfolding Scoped scopes_by
  turned_scoped w env r = (tt, (v.scoped (env ++ []) r.1.0, (moved Alone (((env ++ []) ++ []) ++ []) ((env ++ []) ++ []) u (append-nil ((env ++ []) ++ [])) r.1.1.1.0, ((tt, tt), tt))))

  turned_numbers : (k : ℕ) → count_of k (numbers (if_else b u absent)) ≤ count_of k (numbers (if_else a t u))
  unfolding numbers
  turned_numbers k =
      omega (
        arith,
        v.numbers k,
        both_counts k (numbers b) (numbers u ++ []),
        both_counts k (numbers u) [],
        both_counts k (numbers a) (numbers t ++ (numbers u ++ [])),
        both_counts k (numbers t) (numbers u ++ []),
      )

  turned_once : (q : Path) → early_names q (if_else a t u) ≡ [] → early_names q (if_else b u absent) ≡ []
  unfolding early_names scope_declarations
  turned_once q e =
      let (x, r) = empty_both (early_names (q ++ 0 ∷ []) a) (early_names (q ++ 1 ∷ []) t ++ (early_names (q ++ 2 ∷ []) u ++ [])) e in
      let (y, s) = empty_both (early_names (q ++ 1 ∷ []) t) (early_names (q ++ 2 ∷ []) u ++ []) r in
      let (z, last) = empty_both (early_names (q ++ 2 ∷ []) u) [] s in
      both_empty (early_names (q ++ 0 ∷ []) b) (early_names (q ++ 1 ∷ []) u ++ []) (v.once (q ++ 0 ∷ []) x) (both_empty (early_names (q ++ 1 ∷ []) u) [] (once_anywhere (q ++ 2 ∷ []) (q ++ 1 ∷ []) u z) refl)

  turned_targets : (g : Targets) (q : Path) → early_jumps g q (if_else a t u) ≡ [] → early_jumps g q (if_else b u absent) ≡ []
  unfolding early_jumps targets_of
  turned_targets g q e =
      let (x, r) = empty_both (early_jumps g (q ++ 0 ∷ []) a) (early_jumps g (q ++ 1 ∷ []) t ++ (early_jumps g (q ++ 2 ∷ []) u ++ [])) e in
      let (y, s) = empty_both (early_jumps g (q ++ 1 ∷ []) t) (early_jumps g (q ++ 2 ∷ []) u ++ []) r in
      let (z, last) = empty_both (early_jumps g (q ++ 2 ∷ []) u) [] s in
      both_empty (early_jumps g (q ++ 0 ∷ []) b) (early_jumps g (q ++ 1 ∷ []) u ++ []) (v.targets g (q ++ 0 ∷ []) x) (both_empty (early_jumps g (q ++ 1 ∷ []) u) [] (targets_anywhere g (q ++ 2 ∷ []) (q ++ 1 ∷ []) u z) refl)

  turned_bodies : (r : Around) → BodiesKept (bodies r (if_else a t u)) (bodies r (if_else b u absent))
  turned_bodies r =
      each_body (bodies (quiet r) a) (bodies (quiet r) t ++ (bodies (quiet r) u ++ [])) (bodies (quiet r) b) (bodies (quiet r) u ++ []) (v.bodies r)
      (second_bodies (bodies (quiet r) t) (bodies (quiet r) u ++ []) (bodies (quiet r) u ++ []) (kept_itself (bodies (quiet r) u ++ [])))

  turned_frames : FramesKept (frames None (if_else a t u)) (frames None (if_else b u absent))
  turned_frames =
      each_frame (frames None a) (frames None t ++ (frames None u ++ [])) (frames None b) (frames None u ++ []) v.frames
      (second_frames (frames None t) (frames None u ++ []) (frames None u ++ []) (λ f c. c))

  pub turned_core : Core (if_else a t u) (if_else b u absent)
  turned_core = record { kept = record { names = turned_names; body = turned_body; inner = turned_inner; symbols = turned_symbols }; scoped = turned_scoped; numbers = turned_numbers; once = turned_once; targets = turned_targets; loop = refl; bodies = turned_bodies; frames = turned_frames }

module _ (a b t u : Tree) (v : Said a b) (i : Idle t) where
  turned_fixed : (z : Variable) → fixed_by (if_else a t u) z ≡ fixed_by (if_else b u absent) z
  turned_fixed z =
      of_if a t u z
      ∙ (λ k. stricter (v.fixed z k) (stricter (i.fixed z k) (stricter (fixed_by u z) Writable)))
      ∙ sym (of_if b u absent z ∙ ap (λ f. stricter (fixed_by b z) (stricter (fixed_by u z) (stricter f Writable))) (of_absent z))

  turned_declared : Among (declared_names (if_else a t u)) (declared_names (if_else b u absent))
  turned_declared z c = later_among (declared_names a) (declared_names t ++ (declared_names u ++ [])) (declared_names u ++ []) (second_among (declared_names t) (declared_names u ++ [])) z (first_among (declared_names a) (declared_names b) (declared_names u ++ []) v.declared z c)

  pub turned_said : Said (if_else a t u) (if_else b u absent)
  turned_said = record { fixed = turned_fixed; declared = turned_declared }

-- ---- `if (a) b;` to `a && b;`

two_lists : {A : Type 0} (xs ys : List A) → (xs ++ (ys ++ [])) ++ [] ≡ xs ++ ((ys ++ []) ++ [])
two_lists xs ys = append-nil (xs ++ (ys ++ [])) ∙ sym (ap (λ zs. xs ++ zs) (append-nil (ys ++ [])))

two_flags : (b c : Bool) → ((b || (c || false)) || false) ≡ (b || ((c || false) || false))
two_flags true c = refl
two_flags false true = refl
two_flags false false = refl

module _ (o : LogicalOperator) (a b : Tree) (q : IsQuiet a) where
  chosen_names : (d : Declared) → names_of d (expression_statement (logical o a b)) ≡ names_of d (if_else a (expression_statement b) absent)
  unfolding names_of
  chosen_names declared.Bound = refl
  chosen_names declared.Lexical = refl
  chosen_names declared.Hoisted = sym (ap (λ xs. xs ++ []) (no_names declared.Hoisted a q))

  chosen_body : body_names (expression_statement (logical o a b)) ≡ body_names (if_else a (expression_statement b) absent)
  unfolding body_names names_of
  chosen_body = chosen_names declared.Hoisted

  chosen_inner : has_inner (expression_statement (logical o a b)) ≡ has_inner (if_else a (expression_statement b) absent)
  unfolding has_inner
  chosen_inner = two_flags (has_inner a) (has_inner b)

  chosen_symbols : (w : Use) (x : Option SymbolId) → times x (declared_in w (expression_statement (logical o a b))) ≤ times x (declared_in w (if_else a (expression_statement b) absent))
  unfolding declared_in scopes_by
  chosen_symbols w x = omega (arith, ap (times x) (two_lists (declared_in Read a) (declared_in Read b)))

  chosen_scoped : (w : Use) (env : Environment) → Scoped w env (if_else a (expression_statement b) absent) → Scoped w env (expression_statement (logical o a b))
  unfolding Scoped scopes_by
  chosen_scoped w env r =
      (tt, ((tt, (moved Read (env ++ []) ((env ++ []) ++ []) a (sym (append-nil (env ++ []))) r.1.0, (moved Read (((env ++ []) ++ []) ++ []) (((env ++ []) ++ []) ++ []) b refl r.1.1.0.1.0, tt))), tt))

  chosen_numbers : (k : ℕ) → count_of k (numbers (expression_statement (logical o a b))) ≤ count_of k (numbers (if_else a (expression_statement b) absent))
  unfolding numbers
  chosen_numbers k = omega (arith, ap (count_of k) (two_lists (numbers a) (numbers b)))

  chosen_once : (p : Path) → early_names p (if_else a (expression_statement b) absent) ≡ [] → early_names p (expression_statement (logical o a b)) ≡ []
  unfolding early_names scope_declarations
  chosen_once p e =
      let (x, r) = empty_both (early_names (p ++ 0 ∷ []) a) ((early_names ((p ++ 1 ∷ []) ++ 0 ∷ []) b ++ []) ++ []) e in
      let (y, s) = empty_both (early_names ((p ++ 1 ∷ []) ++ 0 ∷ []) b ++ []) [] r in
      let (z, t) = empty_both (early_names ((p ++ 1 ∷ []) ++ 0 ∷ []) b) [] y in
      both_empty (early_names ((p ++ 0 ∷ []) ++ 0 ∷ []) a ++ (early_names ((p ++ 0 ∷ []) ++ 1 ∷ []) b ++ [])) []
      (both_empty (early_names ((p ++ 0 ∷ []) ++ 0 ∷ []) a) (early_names ((p ++ 0 ∷ []) ++ 1 ∷ []) b ++ []) (once_anywhere (p ++ 0 ∷ []) ((p ++ 0 ∷ []) ++ 0 ∷ []) a x)
      (both_empty (early_names ((p ++ 0 ∷ []) ++ 1 ∷ []) b) [] (once_anywhere ((p ++ 1 ∷ []) ++ 0 ∷ []) ((p ++ 0 ∷ []) ++ 1 ∷ []) b z) refl)) refl

  chosen_targets : (g : Targets) (p : Path) → early_jumps g p (if_else a (expression_statement b) absent) ≡ [] → early_jumps g p (expression_statement (logical o a b)) ≡ []
  unfolding early_jumps targets_of
  chosen_targets g p e =
      let (x, r) = empty_both (early_jumps g (p ++ 0 ∷ []) a) ((early_jumps g ((p ++ 1 ∷ []) ++ 0 ∷ []) b ++ []) ++ []) e in
      let (y, s) = empty_both (early_jumps g ((p ++ 1 ∷ []) ++ 0 ∷ []) b ++ []) [] r in
      let (z, t) = empty_both (early_jumps g ((p ++ 1 ∷ []) ++ 0 ∷ []) b) [] y in
      both_empty (early_jumps g ((p ++ 0 ∷ []) ++ 0 ∷ []) a ++ (early_jumps g ((p ++ 0 ∷ []) ++ 1 ∷ []) b ++ [])) []
      (both_empty (early_jumps g ((p ++ 0 ∷ []) ++ 0 ∷ []) a) (early_jumps g ((p ++ 0 ∷ []) ++ 1 ∷ []) b ++ []) (targets_anywhere g (p ++ 0 ∷ []) ((p ++ 0 ∷ []) ++ 0 ∷ []) a x)
      (both_empty (early_jumps g ((p ++ 0 ∷ []) ++ 1 ∷ []) b) [] (targets_anywhere g ((p ++ 1 ∷ []) ++ 0 ∷ []) ((p ++ 0 ∷ []) ++ 1 ∷ []) b z) refl)) refl

  chosen_bodies : (r : Around) → BodiesKept (bodies r (if_else a (expression_statement b) absent)) (bodies r (expression_statement (logical o a b)))
  chosen_bodies r =
      subst (BodiesKept (bodies (quiet r) a ++ ((bodies (quiet r) b ++ []) ++ []))) (sym (two_lists (bodies (quiet r) a) (bodies (quiet r) b))) (kept_itself (bodies (quiet r) a ++ ((bodies (quiet r) b ++ []) ++ [])))

  chosen_frames : FramesKept (frames None (if_else a (expression_statement b) absent)) (frames None (expression_statement (logical o a b)))
  chosen_frames = same_frames (frames None a ++ ((frames None b ++ []) ++ [])) ((frames None a ++ (frames None b ++ [])) ++ []) (sym (two_lists (frames None a) (frames None b)))

  pub chosen_core : Core (if_else a (expression_statement b) absent) (expression_statement (logical o a b))
  chosen_core = record { kept = record { names = chosen_names; body = chosen_body; inner = chosen_inner; symbols = chosen_symbols }; scoped = chosen_scoped; numbers = chosen_numbers; once = chosen_once; targets = chosen_targets; loop = refl; bodies = chosen_bodies; frames = chosen_frames }

module _ (o : LogicalOperator) (a b : Tree) where
  chosen_fixed : (z : Variable) → fixed_by (if_else a (expression_statement b) absent) z ≡ fixed_by (expression_statement (logical o a b)) z
  chosen_fixed z =
      of_if a (expression_statement b) absent z
      ∙ (λ k. stricter (fixed_by a z) (stricter (of_statement b z k) (stricter (of_absent z k) Writable)))
      ∙ sym (of_statement (logical o a b) z ∙ of_children (shape.LogicalExpression o) [] 0 (a ▸ (b ▸ none)) z refl)

  chosen_declared : Among (declared_names (if_else a (expression_statement b) absent)) (declared_names (expression_statement (logical o a b)))
  chosen_declared z c = subst (λ xs. Contains xs z) (two_lists (declared_names a) (declared_names b)) c

  pub chosen_said : Said (if_else a (expression_statement b) absent) (expression_statement (logical o a b))
  chosen_said = record { fixed = chosen_fixed; declared = chosen_declared }

-- ---- `if (a);` to `a;`

module _ (a : Tree) (q : IsQuiet a) where
  tested_names : (d : Declared) → names_of d (expression_statement a) ≡ names_of d (if_else a absent absent)
  unfolding names_of
  tested_names declared.Bound = refl
  tested_names declared.Lexical = refl
  tested_names declared.Hoisted = sym (ap (λ xs. xs ++ []) (no_names declared.Hoisted a q))

  tested_body : body_names (expression_statement a) ≡ body_names (if_else a absent absent)
  unfolding body_names names_of
  tested_body = tested_names declared.Hoisted

  tested_inner : has_inner (expression_statement a) ≡ has_inner (if_else a absent absent)
  unfolding has_inner
  tested_inner = refl

  tested_symbols : (w : Use) (x : Option SymbolId) → times x (declared_in w (expression_statement a)) ≤ times x (declared_in w (if_else a absent absent))
  unfolding declared_in scopes_by
  tested_symbols w x = omega arith

  tested_scoped : (w : Use) (env : Environment) → Scoped w env (if_else a absent absent) → Scoped w env (expression_statement a)
  unfolding Scoped scopes_by
  tested_scoped w env r = (tt, (r.1.0, tt))

  tested_numbers : (k : ℕ) → count_of k (numbers (expression_statement a)) ≤ count_of k (numbers (if_else a absent absent))
  unfolding numbers
  tested_numbers k = omega arith

  tested_once : (p : Path) → early_names p (if_else a absent absent) ≡ [] → early_names p (expression_statement a) ≡ []
  unfolding early_names scope_declarations
  tested_once p e = e

  tested_targets : (g : Targets) (p : Path) → early_jumps g p (if_else a absent absent) ≡ [] → early_jumps g p (expression_statement a) ≡ []
  unfolding early_jumps targets_of
  tested_targets g p e = e

  pub tested_core : Core (if_else a absent absent) (expression_statement a)
  tested_core = record {
    kept = record { names = tested_names; body = tested_body; inner = tested_inner; symbols = tested_symbols };
    scoped = tested_scoped;
    numbers = tested_numbers;
    once = tested_once;
    targets = tested_targets;
    loop = refl;
    bodies = λ r. kept_itself (bodies (quiet r) a ++ []);
    frames = λ f c. c;
  }

pub tested_said : (a : Tree) → Said (if_else a absent absent) (expression_statement a)
tested_said a = record {
  fixed = λ z. of_if a absent absent z ∙ (λ k. stricter (fixed_by a z) (stricter (of_absent z k) (stricter (of_absent z k) Writable))) ∙ sym (of_children shape.ExpressionStatement [] 0 (a ▸ none) z refl);
  declared = λ z c. c;
}

-- ---- `if (a) if (b) c;` to `if (a && b) c;`

three_lists : {A : Type 0} (xs ys zs : List A) → (xs ++ (ys ++ [])) ++ (zs ++ []) ≡ xs ++ ((ys ++ (zs ++ [])) ++ [])
three_lists xs ys zs =
    append_assoc xs (ys ++ []) (zs ++ [])
    ∙ ap (λ r. xs ++ r) (ap (λ r. r ++ (zs ++ [])) (append-nil ys) ∙ sym (append-nil (ys ++ (zs ++ []))))

three_flags : (b c d : Bool) → ((b || (c || false)) || (d || false)) ≡ (b || ((c || (d || false)) || false))
three_flags true c d = refl
three_flags false true d = refl
three_flags false false true = refl
three_flags false false false = refl

alone : (f : Fixed) → stricter f Writable ≡ f
alone Writable = refl
alone KeepsOld = refl
alone Constant = refl

stricter_assoc : (f g h : Fixed) → stricter f (stricter (stricter g (stricter h Writable)) Writable) ≡ stricter (stricter f (stricter g Writable)) (stricter h Writable)
stricter_assoc Writable g h = alone (stricter g (stricter h Writable)) ∙ ap (λ x. stricter x (stricter h Writable)) (sym (alone g))
stricter_assoc KeepsOld Writable h = ap (stricter KeepsOld) (alone (stricter h Writable))
stricter_assoc KeepsOld KeepsOld Writable = refl
stricter_assoc KeepsOld KeepsOld KeepsOld = refl
stricter_assoc KeepsOld KeepsOld Constant = refl
stricter_assoc KeepsOld Constant h = refl
stricter_assoc Constant g h = refl

module _ (a b s : Tree) (q : IsQuiet a) (r : IsQuiet b) where
  nested_names : (d : Declared) → names_of d (if_else (logical And a b) s absent) ≡ names_of d (if_else a (if_else b s absent) absent)
  unfolding names_of
  nested_names declared.Bound = refl
  nested_names declared.Lexical = refl
  nested_names declared.Hoisted =
      sym (ap (λ xs. xs ++ ((names_of declared.Hoisted b ++ (names_of declared.Hoisted s ++ [])) ++ [])) (no_names declared.Hoisted a q)
      ∙ ap (λ xs. (xs ++ (names_of declared.Hoisted s ++ [])) ++ []) (no_names declared.Hoisted b r)
      ∙ append-nil (names_of declared.Hoisted s ++ []))

  nested_body : body_names (if_else (logical And a b) s absent) ≡ body_names (if_else a (if_else b s absent) absent)
  unfolding body_names names_of
  nested_body = nested_names declared.Hoisted

  nested_inner : has_inner (if_else (logical And a b) s absent) ≡ has_inner (if_else a (if_else b s absent) absent)
  unfolding has_inner
  nested_inner = three_flags (has_inner a) (has_inner b) (has_inner s)

  nested_symbols : (w : Use) (x : Option SymbolId) → times x (declared_in w (if_else (logical And a b) s absent)) ≤ times x (declared_in w (if_else a (if_else b s absent) absent))
  unfolding declared_in scopes_by
  nested_symbols w x = omega (arith, ap (times x) (three_lists (declared_in Read a) (declared_in Read b) (declared_in Alone s)))

  nested_scoped : (w : Use) (env : Environment) → Scoped w env (if_else a (if_else b s absent) absent) → Scoped w env (if_else (logical And a b) s absent)
  unfolding Scoped scopes_by
  nested_scoped w env e =
      let two = append-nil (env ++ []) in
      let three = append-nil ((env ++ []) ++ []) in
      let four = append-nil (((env ++ []) ++ []) ++ []) in
      (tt, ((tt, (moved Read (env ++ []) ((env ++ []) ++ []) a (sym two) e.1.0, (moved Read (((env ++ []) ++ []) ++ []) (((env ++ []) ++ []) ++ []) b refl e.1.1.0.1.0, tt))), (moved Alone ((((env ++ []) ++ []) ++ []) ++ []) ((env ++ []) ++ []) s (four ∙ three) e.1.1.0.1.1.0, ((tt, tt), tt))))

  nested_numbers : (k : ℕ) → count_of k (numbers (if_else (logical And a b) s absent)) ≤ count_of k (numbers (if_else a (if_else b s absent) absent))
  unfolding numbers
  nested_numbers k = omega (arith, ap (count_of k) (three_lists (numbers a) (numbers b) (numbers s)))

  nested_once : (p : Path) → early_names p (if_else a (if_else b s absent) absent) ≡ [] → early_names p (if_else (logical And a b) s absent) ≡ []
  unfolding early_names scope_declarations
  nested_once p e =
      let (x, f) = empty_both (early_names (p ++ 0 ∷ []) a) ((early_names ((p ++ 1 ∷ []) ++ 0 ∷ []) b ++ (early_names ((p ++ 1 ∷ []) ++ 1 ∷ []) s ++ [])) ++ []) e in
      let (g, h) = empty_both (early_names ((p ++ 1 ∷ []) ++ 0 ∷ []) b ++ (early_names ((p ++ 1 ∷ []) ++ 1 ∷ []) s ++ [])) [] f in
      let (y, i) = empty_both (early_names ((p ++ 1 ∷ []) ++ 0 ∷ []) b) (early_names ((p ++ 1 ∷ []) ++ 1 ∷ []) s ++ []) g in
      let (z, j) = empty_both (early_names ((p ++ 1 ∷ []) ++ 1 ∷ []) s) [] i in
      both_empty (early_names ((p ++ 0 ∷ []) ++ 0 ∷ []) a ++ (early_names ((p ++ 0 ∷ []) ++ 1 ∷ []) b ++ [])) (early_names (p ++ 1 ∷ []) s ++ [])
      (both_empty (early_names ((p ++ 0 ∷ []) ++ 0 ∷ []) a) (early_names ((p ++ 0 ∷ []) ++ 1 ∷ []) b ++ []) (once_anywhere (p ++ 0 ∷ []) ((p ++ 0 ∷ []) ++ 0 ∷ []) a x)
      (both_empty (early_names ((p ++ 0 ∷ []) ++ 1 ∷ []) b) [] (once_anywhere ((p ++ 1 ∷ []) ++ 0 ∷ []) ((p ++ 0 ∷ []) ++ 1 ∷ []) b y) refl))
      (both_empty (early_names (p ++ 1 ∷ []) s) [] (once_anywhere ((p ++ 1 ∷ []) ++ 1 ∷ []) (p ++ 1 ∷ []) s z) refl)

  nested_targets : (t : Targets) (p : Path) → early_jumps t p (if_else a (if_else b s absent) absent) ≡ [] → early_jumps t p (if_else (logical And a b) s absent) ≡ []
  unfolding early_jumps targets_of
  nested_targets t p e =
      let (x, f) = empty_both (early_jumps t (p ++ 0 ∷ []) a) ((early_jumps t ((p ++ 1 ∷ []) ++ 0 ∷ []) b ++ (early_jumps t ((p ++ 1 ∷ []) ++ 1 ∷ []) s ++ [])) ++ []) e in
      let (g, h) = empty_both (early_jumps t ((p ++ 1 ∷ []) ++ 0 ∷ []) b ++ (early_jumps t ((p ++ 1 ∷ []) ++ 1 ∷ []) s ++ [])) [] f in
      let (y, i) = empty_both (early_jumps t ((p ++ 1 ∷ []) ++ 0 ∷ []) b) (early_jumps t ((p ++ 1 ∷ []) ++ 1 ∷ []) s ++ []) g in
      let (z, j) = empty_both (early_jumps t ((p ++ 1 ∷ []) ++ 1 ∷ []) s) [] i in
      both_empty (early_jumps t ((p ++ 0 ∷ []) ++ 0 ∷ []) a ++ (early_jumps t ((p ++ 0 ∷ []) ++ 1 ∷ []) b ++ [])) (early_jumps t (p ++ 1 ∷ []) s ++ [])
      (both_empty (early_jumps t ((p ++ 0 ∷ []) ++ 0 ∷ []) a) (early_jumps t ((p ++ 0 ∷ []) ++ 1 ∷ []) b ++ []) (targets_anywhere t (p ++ 0 ∷ []) ((p ++ 0 ∷ []) ++ 0 ∷ []) a x)
      (both_empty (early_jumps t ((p ++ 0 ∷ []) ++ 1 ∷ []) b) [] (targets_anywhere t ((p ++ 1 ∷ []) ++ 0 ∷ []) ((p ++ 0 ∷ []) ++ 1 ∷ []) b y) refl))
      (both_empty (early_jumps t (p ++ 1 ∷ []) s) [] (targets_anywhere t ((p ++ 1 ∷ []) ++ 1 ∷ []) (p ++ 1 ∷ []) s z) refl)

  nested_bodies : (e : Around) → BodiesKept (bodies e (if_else a (if_else b s absent) absent)) (bodies e (if_else (logical And a b) s absent))
  nested_bodies e =
      let all = bodies (quiet e) a ++ ((bodies (quiet e) b ++ (bodies (quiet e) s ++ [])) ++ []) in
      subst (BodiesKept all) (sym (three_lists (bodies (quiet e) a) (bodies (quiet e) b) (bodies (quiet e) s))) (kept_itself all)

  nested_frames : FramesKept (frames None (if_else a (if_else b s absent) absent)) (frames None (if_else (logical And a b) s absent))
  nested_frames = same_frames (frames None a ++ ((frames None b ++ (frames None s ++ [])) ++ [])) ((frames None a ++ (frames None b ++ [])) ++ (frames None s ++ [])) (sym (three_lists (frames None a) (frames None b) (frames None s)))

  pub nested_core : Core (if_else a (if_else b s absent) absent) (if_else (logical And a b) s absent)
  nested_core = record { kept = record { names = nested_names; body = nested_body; inner = nested_inner; symbols = nested_symbols }; scoped = nested_scoped; numbers = nested_numbers; once = nested_once; targets = nested_targets; loop = refl; bodies = nested_bodies; frames = nested_frames }

module _ (a b s : Tree) where
  nested_fixed : (z : Variable) → fixed_by (if_else a (if_else b s absent) absent) z ≡ fixed_by (if_else (logical And a b) s absent) z
  nested_fixed z =
      of_if a (if_else b s absent) absent z
      ∙ (λ k. stricter (fixed_by a z) (stricter (of_if b s absent z k) (stricter (of_absent z k) Writable)))
      ∙ ap (λ f. stricter (fixed_by a z) (stricter (stricter (fixed_by b z) (stricter (fixed_by s z) (stricter f Writable))) Writable)) (of_absent z)
      ∙ stricter_assoc (fixed_by a z) (fixed_by b z) (fixed_by s z)
      ∙ sym (of_if (logical And a b) s absent z ∙ (λ k. stricter (of_children (shape.LogicalExpression And) [] 0 (a ▸ (b ▸ none)) z refl k) (stricter (fixed_by s z) (stricter (of_absent z k) Writable))))

  nested_declared : Among (declared_names (if_else a (if_else b s absent) absent)) (declared_names (if_else (logical And a b) s absent))
  nested_declared z c = subst (λ xs. Contains xs z) (three_lists (declared_names a) (declared_names b) (declared_names s)) c

  pub nested_said : Said (if_else a (if_else b s absent) absent) (if_else (logical And a b) s absent)
  nested_said = record { fixed = nested_fixed; declared = nested_declared }
