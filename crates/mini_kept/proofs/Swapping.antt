-- The branches of an `if` are swapped.
use Rattle.std.specs.Prelude.{ℕ, ◌≤◌, ◌≡◌, refl, ◌||◌, Bool, true, false, [], ◌∷◌, ◌++◌, Option}
use Rattle.std.proofs.Common.{ap, ◌∙◌, sym, subst, arith, inl, inr}
use Rattle.mini_kept.specs.KeepsLoosely.{InnerKept}
use Rattle.std.proofs.lemmas.List.{append-nil}
use Rattle.mini_model.specs.declared.name.SymbolId.{SymbolId}
use Rattle.mini_model.specs.declared.place.Position.TheVariants.{Expr}
use Rattle.mini_model.specs.Tree.{Tree, shape_of, negation, if_else}
use Rattle.mini_laws.specs.declared.names.Use.{Use}
use Rattle.mini_laws.specs.declared.names.Use.TheVariants.{Read, Alone}
use Rattle.mini_laws.specs.declared.names.Declared.TheVariants as declared
use Rattle.mini_laws.specs.declared.names.Targets.{Targets}
use Rattle.mini_laws.specs.DeclaredNames.{names_of, body_names, is_inner, has_inner}
use Rattle.mini_laws.specs.Scopes.{scopes_by}
use Rattle.mini_laws.specs.Resolved.{Environment}
use Rattle.mini_laws.specs.Scoped.{Scoped}
use Rattle.mini_laws.specs.Symbols.{declared as declared_in, times}
use Rattle.mini_laws.specs.Early.{Path, body_declarations, scope_declarations, early_names, targets_of, early_jumps, is_loop}
use Rattle.mini_laws.proofs.Changes.{times_both}
use Rattle.mini_laws.proofs.Drops.{moved}
use Rattle.mini_kept.specs.Carried.{numbers}
use Rattle.mini_kept.specs.KeepsNames.{unplaced, count_of}
use Rattle.mini_kept.specs.SameNames.{is_among, SameNames, SameScope, NoMoreClash}
use Rattle.mini_kept.specs.Swaps.{BranchesSwapped, NegationLeft}
use Rattle.mini_kept.proofs.Anywhere.{once_anywhere, targets_anywhere}
use Rattle.mini_kept.proofs.Below.{both_counts}
use Rattle.mini_kept.proofs.InOrder.{in_order}
use Rattle.mini_kept.proofs.Instances.{three_empty, empty_three, expression_read, operand_scoped, operand_once, operand_targets, quiet_kept, both_as_body}
use Rattle.mini_kept.proofs.Quiet.{IsQuiet, expression_is_quiet, no_names, no_loop}
use Rattle.mini_kept.proofs.Using.{also}
use Rattle.mini_kept.proofs.Statements.{among_both, statement_scope, no_more_statement}

-- ---- `if (n) s; else u;`

swapped_hoisted : (n w s u : Tree) → IsQuiet n → IsQuiet w → SameNames (names_of declared.Hoisted (if_else w u s)) (names_of declared.Hoisted (if_else n s u))
unfolding names_of
swapped_hoisted n w s u a b x =
    let hs = names_of declared.Hoisted s in
    let hu = names_of declared.Hoisted u in
    ap (λ r. is_among (r ++ (hu ++ (hs ++ []))) x) (no_names declared.Hoisted w b)
    ∙ among_both hu (hs ++ []) x ∙ ap (λ c. is_among hu x || c) (ap (λ r. is_among r x) (append-nil hs))
    ∙ turned (is_among hu x) (is_among hs x)
    ∙ sym (ap (λ r. is_among (r ++ (hs ++ (hu ++ []))) x) (no_names declared.Hoisted n a) ∙ among_both hs (hu ++ []) x ∙ ap (λ c. is_among hs x || c) (ap (λ r. is_among r x) (append-nil hu)))
  where
    turned : (a b : Bool) → (a || b) ≡ (b || a)
    turned true true = refl
    turned true false = refl
    turned false true = refl
    turned false false = refl

swapped_scope : (v : Use) (env : Environment) (n w s u : Tree) → IsQuiet n → IsQuiet w → Scoped v env (if_else n s u) → SameScope (body_names (if_else w u s)) (body_names (if_else n s u))
unfolding body_names names_of
swapped_scope v env n w s u a b h = statement_scope v env (if_else n s u) (if_else w u s) h refl (swapped_hoisted n w s u a b)

swapped_inner : (n w s u : Tree) → has_inner w ≡ has_inner n → has_inner (if_else w u s) ≡ has_inner (if_else n s u)
unfolding has_inner
swapped_inner n w s u e = ap (λ x. x || (has_inner u || (has_inner s || false))) e ∙ ap (λ x. has_inner n || x) (turned (has_inner s) (has_inner u))
  where
    turned : (a b : Bool) → (b || (a || false)) ≡ (a || (b || false))
    turned true true = refl
    turned true false = refl
    turned false true = refl
    turned false false = refl

-- the parts of a scoped `if`, and an `if` of scoped parts
if_parts : (v : Use) (env : Environment) (n s u : Tree) → Scoped v env (if_else n s u) → Scoped Read env n × Scoped Alone env s × Scoped Alone env u
unfolding Scoped scopes_by
if_parts v env n s u r =
    let one = append-nil env in
    let two = append-nil (env ++ []) ∙ one in
    let three = append-nil ((env ++ []) ++ []) ∙ two in
    (moved Read (env ++ []) env n one r.1.0, moved Alone ((env ++ []) ++ []) env s two r.1.1.0, moved Alone (((env ++ []) ++ []) ++ []) env u three r.1.1.1.0)

of_parts : (v : Use) (env : Environment) (n s u : Tree) → Scoped Read env n → Scoped Alone env s → Scoped Alone env u → Scoped v env (if_else n s u)
unfolding Scoped scopes_by
of_parts v env n s u x y z =
    let one = append-nil env in
    let two = append-nil (env ++ []) ∙ one in
    let three = append-nil ((env ++ []) ++ []) ∙ two in
    (tt, (moved Read env (env ++ []) n (sym one) x, (moved Alone env ((env ++ []) ++ []) s (sym two) y, (moved Alone env (((env ++ []) ++ []) ++ []) u (sym three) z, tt))))

swapped_symbols : (x : Option SymbolId) (v : Use) (n w s u : Tree) → times x (declared_in Read w) ≤ times x (declared_in Read n) → times x (declared_in v (if_else w u s)) ≤ times x (declared_in v (if_else n s u))
unfolding declared_in scopes_by
swapped_symbols x v n w s u e =
    let dn = declared_in Read n in
    let dw = declared_in Read w in
    let ds = declared_in Alone s in
    let du = declared_in Alone u in
    omega (arith, e, times_both x dw (du ++ (ds ++ [])), times_both x du (ds ++ []), times_both x ds [], times_both x dn (ds ++ (du ++ [])), times_both x ds (du ++ []), times_both x du [])

swapped_numbers : (k : ℕ) (n w s u : Tree) → count_of k (numbers w) ≤ count_of k (numbers n) → count_of k (numbers (if_else w u s)) ≤ count_of k (numbers (if_else n s u))
unfolding numbers
swapped_numbers k n w s u e =
    let nn = numbers n in
    let nw = numbers w in
    let ns = numbers s in
    let nu = numbers u in
    omega (arith, e, both_counts k nw (nu ++ (ns ++ [])), both_counts k nu (ns ++ []), both_counts k ns [], both_counts k nn (ns ++ (nu ++ [])), both_counts k ns (nu ++ []), both_counts k nu [])

swapped_once : (q : Path) (n w s u : Tree) → (early_names (q ++ 0 ∷ []) n ≡ [] → early_names (q ++ 0 ∷ []) w ≡ []) → early_names q (if_else n s u) ≡ [] → early_names q (if_else w u s) ≡ []
unfolding early_names scope_declarations
swapped_once q n w s u f e =
    let (x, y, z) = three_empty (early_names (q ++ 0 ∷ []) n) (early_names (q ++ 1 ∷ []) s) (early_names (q ++ 2 ∷ []) u) e in
    empty_three (early_names (q ++ 0 ∷ []) w) (early_names (q ++ 1 ∷ []) u) (early_names (q ++ 2 ∷ []) s) (f x) (once_anywhere (q ++ 2 ∷ []) (q ++ 1 ∷ []) u z) (once_anywhere (q ++ 1 ∷ []) (q ++ 2 ∷ []) s y)

swapped_targets : (g : Targets) (q : Path) (n w s u : Tree) → (early_jumps g (q ++ 0 ∷ []) n ≡ [] → early_jumps g (q ++ 0 ∷ []) w ≡ []) → early_jumps g q (if_else n s u) ≡ [] → early_jumps g q (if_else w u s) ≡ []
unfolding early_jumps targets_of
swapped_targets g q n w s u f e =
    let (x, y, z) = three_empty (early_jumps g (q ++ 0 ∷ []) n) (early_jumps g (q ++ 1 ∷ []) s) (early_jumps g (q ++ 2 ∷ []) u) e in
    empty_three (early_jumps g (q ++ 0 ∷ []) w) (early_jumps g (q ++ 1 ∷ []) u) (early_jumps g (q ++ 2 ∷ []) s) (f x) (targets_anywhere g (q ++ 2 ∷ []) (q ++ 1 ∷ []) u z) (targets_anywhere g (q ++ 1 ∷ []) (q ++ 2 ∷ []) s y)

inner_swapped : (n w s u : Tree) → InnerKept n w → InnerKept (if_else n s u) (if_else w u s)
inner_swapped n w s u (inl e) = inl (swapped_inner n w s u e)
inner_swapped n w s u (inr m) = inr refl

swapped_as_body : (b : Bool) (q : Path) (n w s u : Tree) → IsQuiet n → IsQuiet w → NoMoreClash (body_declarations b q (if_else w u s)) (body_declarations b q (if_else n s u))
unfolding body_declarations names_of
swapped_as_body b q n w s u x y = no_more_statement b q q (if_else n s u) (if_else w u s) refl refl (swapped_hoisted n w s u x y)

swapped_bound : (n w s u : Tree) → names_of declared.Bound (if_else w u s) ≡ names_of declared.Bound (if_else n s u)
unfolding names_of
swapped_bound n w s u = refl

swapped_lexical : (n w s u : Tree) → names_of declared.Lexical (if_else w u s) ≡ names_of declared.Lexical (if_else n s u)
unfolding names_of
swapped_lexical n w s u = refl

swapped_loop : (n w s u : Tree) → is_loop (if_else w u s) ≡ is_loop (if_else n s u)
unfolding is_loop
swapped_loop n w s u = refl

pub branches_swapped : BranchesSwapped
branches_swapped q strict n w s u e f k =
    let x = expression_is_quiet strict n e in
    let y = expression_is_quiet strict w f in
    record {
      bound = swapped_bound n w s u;
      lexical = swapped_lexical n w s u;
      hoisted = swapped_hoisted n w s u x y;
      body = λ v env st h. swapped_scope v env n w s u x y h;
      inner = inner_swapped n w s u k.inner;
      scoped = λ v env st h. (let (a, b, c) = if_parts v env n s u h in of_parts v env w u s (k.scoped Read env (also (is_inner (shape_of n)) true refl) a) c b);
      symbols = λ v env st h r. (let (a, b, c) = if_parts v env n s u h in swapped_symbols r v n w s u (k.symbols Read env (also (is_inner (shape_of n)) true refl) a r));
      numbers = λ r. swapped_numbers r n w s u (k.numbers r);
      declared_as_body = λ b p. swapped_as_body b p n w s u x y;
      once = λ p h. swapped_once p n w s u (k.once (p ++ 0 ∷ [])) h;
      targets = λ g p h. swapped_targets g p n w s u (k.targets g (p ++ 0 ∷ [])) h;
      loop = swapped_loop n w s u;
      root = λ r. absurd (cc r);
      block = λ r b p. absurd (cc r);
    }

-- ---- `!a`

left_inner : (a : Tree) → has_inner a ≡ has_inner (negation a)
unfolding has_inner
left_inner a = by (has_inner a)
  where
    by : (b : Bool) → b ≡ (b || false)
    by true = refl
    by false = refl

left_symbols : (x : Option SymbolId) (a : Tree) → times x (declared_in Read a) ≤ times x (declared_in Read (negation a))
unfolding declared_in scopes_by
left_symbols x a = omega (arith, times_both x (declared_in Read a) [])

left_numbers : (k : ℕ) (a : Tree) → count_of k (numbers a) ≤ count_of k (numbers (negation a))
unfolding numbers
left_numbers k a = omega (arith, both_counts k (numbers a) [])

pub negation_left : NegationLeft
negation_left s strict a f =
    let w = expression_is_quiet strict a f in
    in_order (Expr s) (negation a) a (record {
      kept = quiet_kept (negation a) a refl w (left_inner a) (λ x. left_symbols x a);
      scoped = λ v env st r. subst (λ u. Scoped u env a) (sym (expression_read s v a st)) (operand_scoped env a (subst (λ u. Scoped u env (negation a)) (expression_read s v a st) r));
      numbers = λ k. left_numbers k a;
      declared_as_body = λ b q. ap unplaced (both_as_body b q (negation a) a refl w);
      once = λ q r. operand_once q a r;
      targets = λ g q r. operand_targets g q a r;
      loop = no_loop a w ∙ sym (no_loop (negation a) refl);
      root = λ p. absurd (cc p);
      block = λ p b q. absurd (cc p);
    })
