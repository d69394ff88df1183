-- A name that a `let` or a `const` before has initialised is one of those that are initialised there, and no scope before hides it.
use Rattle.std.specs.Prelude.{◌&&◌, ◌||◌, not, Bool, ◌++◌, Option, Some, None}
use Rattle.std.proofs.Common.{◌≡◌, ℕ, true, false, List, [], ◌∷◌, refl, sym, ap, ◌∙◌, subst, true≢false}
use Rattle.std.proofs.lemmas.Bool.{and_parts}
use Rattle.mini_model.specs.declared.kind.VariableDeclarationKind.{VariableDeclarationKind}
use Rattle.mini_model.specs.declared.name.SymbolId.{SymbolId}
use Rattle.mini_model.specs.declared.shape.Shape.TheVariants as shape
use Rattle.mini_model.specs.Tree.{Tree, Trees, node, none, ◌▸◌, shape_of, children}
use Rattle.mini_model.specs.Paths.{append}
use Rattle.mini_laws.specs.Naming.{summary, summaries, lets_all, is_lexical}
use Rattle.mini_laws.specs.Skeleton.{plus, minus, Within, Off, hidden, hidden_all}
use Rattle.mini_laws.specs.Value.{Variable, Declared, Global, choose, is_in, variable_by, variable_eq}
use Rattle.mini_kept.specs.Without.{Assured}
use Rattle.mini_node.specs.Children.{part}
use Rattle.mini_rows.specs.Declarations.{declarator}
use Rattle.mini_rows.specs.Inside.{is_lexical_shape}
use Rattle.mini_rows.specs.Lists.{declaration}
use Rattle.mini_rows.specs.Past.{is_symbol, is_only_symbol, is_name, is_let_name, lets_at_most, all_of, lets_here, spares, is_let, begun, held_variables, binds, any_bind}
use Rattle.mini_rows.specs.Unused.{is_declarator, declares_list, declared_left}
use Rattle.mini_rows.proofs.Avoiding.{Out, out_both}
use Rattle.mini_rows.proofs.SingleUse.{declarator_is, a_declaration}
use Rattle.mini_rows.proofs.Unbound.{unhidden}

not_true : (b : Bool) → not b ≡ true → b ≡ false
not_true true e = absurd (true≢false (sym e))
not_true false e = refl

module _ (k : ℕ) where
  abbrev In : List Variable → Type 0
  In xs = is_in (Declared k) xs ≡ true

  in_left : (xs ys : List Variable) → In xs → In (xs ++ ys)
  in_left [] ys e = absurd (true≢false (sym e))
  in_left (x ∷ xs) ys e = by (variable_eq x (Declared k)) e (in_left xs ys)
    where
      by : (b : Bool) → choose b true (is_in (Declared k) xs) ≡ true → (In xs → In (xs ++ ys)) → choose b true (is_in (Declared k) (xs ++ ys)) ≡ true
      by true e f = refl
      by false e f = f e

  in_right : (xs ys : List Variable) → In ys → In (xs ++ ys)
  in_right [] ys e = e
  in_right (x ∷ xs) ys e = by (variable_eq x (Declared k)) (in_right xs ys e)
    where
      by : (b : Bool) → In (xs ++ ys) → choose b true (is_in (Declared k) (xs ++ ys)) ≡ true
      by true f = refl
      by false f = f

  -- ---- a name

  same_symbol : (s : List ℕ) (o : Option SymbolId) → is_symbol k o ≡ true → variable_eq (variable_by s o) (Declared k) ≡ true
  same_symbol s (Some y) e = e
  same_symbol s None e = absurd (true≢false (sym e))

  name_let : (t : Tree) → is_name k t ≡ true → In (summary t).lets
  name_let (node shape.BindingIdentifier (y ∷ []) n none) e = ap (λ b. choose b true false) (same_symbol y.spelling y.symbol (and_parts (is_symbol k y.symbol) true e).0)
  name_let (node shape.BindingIdentifier (y ∷ []) n (t ▸ ts)) e = absurd (true≢false (sym (and_parts (is_symbol k y.symbol) false e).1))
  name_let (node shape.BindingIdentifier [] n ts) e = absurd (true≢false (sym e))
  name_let (node shape.BindingIdentifier (y ∷ (z ∷ ys)) n ts) e = absurd (true≢false (sym e))
  name_let t e = absurd (true≢false (sym e))

  name_out : (t : Tree) → is_name k t ≡ true → Out k (hidden t)
  name_out (node shape.BindingIdentifier ys n none) e = refl
  name_out (node shape.BindingIdentifier ys n (t ▸ ts)) e = absurd (true≢false (sym (and_parts (is_only_symbol k ys) false e).1))
  name_out t e = absurd (true≢false (sym e))

  -- ---- a declarator

  record One (d : Tree) : Type 0 where
    lets : In (summary d).lets
    out : Out k (hidden d)

  one_of : (a v : Tree) → is_name k a ≡ true → binds k v ≡ false → One (declarator a v)
  one_of a v e f = record { lets = name_let a e; out = out_both k (hidden a) (hidden v ++ []) (name_out a e) (out_both k (hidden v) [] (unhidden k v f) refl) }

  one : (d : Tree) → is_let_name k d ≡ true → One d
  one d e =
      let (a, p) = and_parts (is_declarator d) (is_name k (part d 0) && not (binds k (part d 1))) e in
      let (b, c) = and_parts (is_name k (part d 0)) (not (binds k (part d 1))) p in
      subst One (sym (declarator_is d a)) (one_of (part d 0) (part d 1) b (not_true (binds k (part d 1)) c))

  -- a declarator that doesn't hide it, and that lets it where it declares it
  record Fine (is_lexical : Bool) (d : Tree) : Type 0 where
    out : Out k (hidden d)
    lets : binds k d ≡ true → (is_lexical ≡ true) × In (summary d).lets

  fine : (l : Bool) (d : Tree) → lets_at_most l k d ≡ true → Fine l d
  fine l d e = by (binds k d) refl e
    where
      by : (b : Bool) → binds k d ≡ b → (not b || (l && is_let_name k d)) ≡ true → Fine l d
      by false f e = record { out = unhidden k d f; lets = λ g. absurd (true≢false (sym g ∙ f)) }
      by true f e = let (a, b) = and_parts l (is_let_name k d) e in let o = one d b in record { out = o.out; lets = λ g. (a, o.lets) }

  -- ---- some of them

  fine_out : (l : Bool) (ds : Trees) → all_of (lets_at_most l k) ds ≡ true → Out k (hidden_all ds)
  fine_out l none e = refl
  fine_out l (d ▸ ds) e = let (a, b) = and_parts (lets_at_most l k d) (all_of (lets_at_most l k) ds) e in out_both k (hidden d) (hidden_all ds) (fine l d a).out (fine_out l ds b)

  -- one declares it
  either_binds : {P : Type 0} (a b : Bool) → (a || b) ≡ true → (a ≡ true → P) → (b ≡ true → P) → P
  either_binds true b e f g = f refl
  either_binds false b e f g = g e

  fine_lets : (l : Bool) (ds : Trees) → all_of (lets_at_most l k) ds ≡ true → any_bind k ds ≡ true → (l ≡ true) × In (lets_all (summaries ds))
  fine_lets l none e f = absurd (true≢false (sym f))
  fine_lets l (d ▸ ds) e f =
      let (a, b) = and_parts (lets_at_most l k d) (all_of (lets_at_most l k) ds) e in
      either_binds (binds k d) (any_bind k ds) f (λ g. let (h, i) = (fine l d a).lets g in (h, in_left (summary d).lets (lets_all (summaries ds)) i)) (λ g. let (h, i) = fine_lets l ds b g in (h, in_right (summary d).lets (lets_all (summaries ds)) i))

  -- ---- a declaration

  declared_out : (K : VariableDeclarationKind) (ds : Trees) → all_of (lets_at_most (is_lexical K) k) ds ≡ true → Out k (hidden (declaration K ds))
  declared_out K ds e = out_both k (hidden_all ds) [] (fine_out (is_lexical K) ds e) refl

  declared_lets : (K : VariableDeclarationKind) (ds : Trees) → all_of (lets_at_most (is_lexical K) k) ds ≡ true → any_bind k ds ≡ true → In (summary (declaration K ds)).lets
  declared_lets K ds e f = let (a, b) = fine_lets (is_lexical K) ds e f in ap (λ l. is_in (Declared k) (choose l (lets_all (summaries ds)) [])) a ∙ b

  bound_below : (K : VariableDeclarationKind) (ds : Trees) → binds k (declaration K ds) ≡ true → any_bind k ds ≡ true
  bound_below K ds e = by (any_bind k ds) e
    where
      by : (b : Bool) → ((b || false)) ≡ true → b ≡ true
      by true e = refl
      by false e = e

  record Stated (t : Tree) : Type 0 where
    out : Out k (hidden t)
    lets : binds k t ≡ true → In (summary t).lets

  of_declaration : (K : VariableDeclarationKind) (ds : Trees) → all_of (lets_at_most (is_lexical K) k) ds ≡ true → Stated (declaration K ds)
  of_declaration K ds e = record { out = declared_out K ds e; lets = λ f. declared_lets K ds e (bound_below K ds f) }

  stated : (t : Tree) → lets_here k t ≡ true → Stated t
  stated t e = by (binds k t) refl e
    where
      by : (b : Bool) → binds k t ≡ b → (not b || (declares_list t && all_of (lets_at_most (is_lexical_shape (shape_of t)) k) (children (part t 0)))) ≡ true → Stated t
      by false f e = record { out = unhidden k t f; lets = λ g. absurd (true≢false (sym g ∙ f)) }
      by true f e =
          let (a, b) = and_parts (declares_list t) (all_of (lets_at_most (is_lexical_shape (shape_of t)) k) (children (part t 0))) e in
          let (K, is) = a_declaration t a in
          subst Stated (sym is) (of_declaration K (children (part t 0)) (sym (ap (λ u. all_of (lets_at_most (is_lexical_shape (shape_of u)) k) (children (part u 0))) is) ∙ b))

  -- ---- behind statements and the declarators of another

  module _ (K : VariableDeclarationKind) (first : Trees) (e : all_of (lets_at_most (is_lexical K) k) first ≡ true) where
    left_stated : Stated (declared_left K first)
    left_stated = by first e
      where
        by : (ds : Trees) → all_of (lets_at_most (is_lexical K) k) ds ≡ true → Stated (declared_left K ds)
        by none e = record { out = refl; lets = λ f. absurd (true≢false (sym f)) }
        by (d ▸ ds) e = of_declaration K (d ▸ ds) e

    left_binds : (ds : Trees) → any_bind k ds ≡ true → binds k (declared_left K ds) ≡ true
    left_binds none f = absurd (true≢false (sym f))
    left_binds (d ▸ ds) f = ap (λ b. b || false) f

    behind_out : (before : Trees) → all_of (lets_here k) before ≡ true → Out k (hidden_all (append before (declared_left K first ▸ none)))
    behind_out none f = out_both k (hidden (declared_left K first)) [] left_stated.out refl
    behind_out (t ▸ before) f = let (a, b) = and_parts (lets_here k t) (all_of (lets_here k) before) f in out_both k (hidden t) (hidden_all (append before (declared_left K first ▸ none))) (stated t a).out (behind_out before b)

    behind_lets : (before : Trees) → all_of (lets_here k) before ≡ true → (any_bind k before || any_bind k first) ≡ true → In (lets_all (summaries (append before (declared_left K first ▸ none))))
    behind_lets none f g = in_left (summary (declared_left K first)).lets [] (left_stated.lets (left_binds first g))
    behind_lets (t ▸ before) f g =
        let (a, b) = and_parts (lets_here k t) (all_of (lets_here k) before) f in
        let rest = lets_all (summaries (append before (declared_left K first ▸ none))) in
        either_binds (binds k t) (any_bind k before || any_bind k first) (joined (binds k t) (any_bind k before) (any_bind k first) g) (λ h. in_left (summary t).lets rest ((stated t a).lets h)) (λ h. in_right (summary t).lets rest (behind_lets before b h))
      where
        joined : (a b c : Bool) → ((a || b) || c) ≡ true → (a || (b || c)) ≡ true
        joined true b c e = e
        joined false b c e = e

  -- ---- so it is initialised there

  spared : (ts : Trees) → all_of (spares k) ts ≡ not (any_bind k ts)
  spared none = refl
  spared (t ▸ ts) = by (binds k t) (spared ts)
    where
      by : (b : Bool) → all_of (spares k) ts ≡ not (any_bind k ts) → (not b && all_of (spares k) ts) ≡ not (b || any_bind k ts)
      by true e = refl
      by false e = e

  some_bound : (before first : Trees) → not (all_of (spares k) before && all_of (spares k) first) ≡ true → (any_bind k before || any_bind k first) ≡ true
  some_bound before first e = by (any_bind k before) (any_bind k first) (sym (λ i. not (spared before i && spared first i)) ∙ e)
    where
      by : (a b : Bool) → not (not a && not b) ≡ true → (a || b) ≡ true
      by true b e = refl
      by false true e = refl
      by false false e = e

  pub let_there : (K : VariableDeclarationKind) (before first : Trees) → is_let k before (is_lexical K) first ≡ true → let pre = append before (declared_left K first ▸ none) in In (lets_all (summaries pre)) × Out k (hidden_all pre)
  let_there K before first e =
      let (a, b) = and_parts (not (all_of (spares k) before && all_of (spares k) first)) (all_of (lets_here k) before && all_of (lets_at_most (is_lexical K) k) first) e in
      let (c, d) = and_parts (all_of (lets_here k) before) (all_of (lets_at_most (is_lexical K) k) first) b in
      (behind_lets K first d before c (some_bound before first a), behind_out K first d before c)

-- what is held there is initialised, where what is initialised as the body starts is hidden by nothing before
module _ (V : Assured) (ts before : Trees) (K : VariableDeclarationKind) (first : Trees) where
  abbrev pre : Trees
  pre = append before (declared_left K first ▸ none)

  last : (b : Bool) (c : Bool) → c ≡ true → choose b true c ≡ true
  last true c e = refl
  last false c e = e

  pub held_there : Off (hidden_all pre) (begun V ts) → Within (held_variables V ts before (is_lexical K) first) (minus (plus (begun V ts) (lets_all (summaries pre))) (hidden_all pre))
  unfolding Within Off
  held_there off (Global s) h = absurd (true≢false (sym h))
  held_there off (Declared k) h = by (begun V ts (Declared k)) refl (and_parts (V.steady (Declared k)) (begun V ts (Declared k) || is_let k before (is_lexical K) first) h).1
    where
      by : (b : Bool) → begun V ts (Declared k) ≡ b → (b || is_let k before (is_lexical K) first) ≡ true → choose (is_in (Declared k) (hidden_all pre)) false (choose (is_in (Declared k) (lets_all (summaries pre))) true (begun V ts (Declared k))) ≡ true
      by true f e = ap (λ c. choose c false (choose (is_in (Declared k) (lets_all (summaries pre))) true (begun V ts (Declared k)))) (off (Declared k) f) ∙ last (is_in (Declared k) (lets_all (summaries pre))) (begun V ts (Declared k)) f
      by false f e =
          let (a, b) = let_there k K before first e in
          ap (λ c. choose c false (choose (is_in (Declared k) (lets_all (summaries pre))) true (begun V ts (Declared k)))) b ∙ ap (λ c. choose c true (begun V ts (Declared k))) a
