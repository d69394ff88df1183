-- All binders of one symbol stand in one body, but for those in patterns: `var x; var x;` binds x
-- twice in a body, and in another body another scope declares it, which is another symbol.
use Rattle.std.specs.Prelude.{ℕ, zero, suc, ◌≤◌, ◌≡◌, ◌⊎◌, refl, Bool, true, false, ◌&&◌, ◌||◌, not, List, [], ◌∷◌, ◌++◌, map, None, if◌then◌else◌}
use Rattle.std.specs.List.{list_any, list_all}
use Rattle.std.proofs.Common.{ap, ◌∙◌, sym, subst, true≢false, arith, inl, inr}
use Rattle.mini_model.specs.declared.name.Name.{Name}
use Rattle.mini_model.specs.declared.shape.Shape.{Shape}
use Rattle.mini_model.specs.declared.shape.Shape.TheVariants as shape
use Rattle.mini_model.specs.Tree.{Tree, Trees, node, none, ◌▸◌}
use Rattle.mini_accept.specs.WellShaped.{is_same_flag, IsWellShaped}
use Rattle.mini_laws.specs.declared.names.Use.{Use}
use Rattle.mini_laws.specs.declared.names.Use.TheVariants.{Read}
use Rattle.mini_laws.specs.declared.names.Around.{Around}
use Rattle.mini_laws.specs.declared.names.Binding.{Binding}
use Rattle.mini_laws.specs.declared.names.Numbering.{Numbering}
use Rattle.mini_laws.specs.declared.names.Numbering.TheVariants.{Body, Carried, Unnumbered}
use Rattle.mini_laws.specs.DeclaredNames.{is_spelled}
use Rattle.mini_laws.specs.Foreign.{own_pattern_names, pattern_names, all_pattern_names, is_declared_in}
use Rattle.mini_laws.specs.Mentions.{Mention, own_mentions, numbering_of, around_by, around_child, outermost, mentions, mentions_from, is_elsewhere, same_variable, is_among}
use Rattle.mini_laws.specs.Resolved.{Environment}
use Rattle.mini_laws.specs.ScopeList.{by_symbol}
use Rattle.mini_laws.specs.Scoped.{Scoped, AllScoped}
use Rattle.mini_laws.specs.Scopes.{use_of, scopes_by, opened}
use Rattle.mini_laws.specs.Symbols.{symbols_in, declared as declared_in, declared_from, declared_symbols, times, Distinct}
use Rattle.mini_laws.proofs.Changes.{times_three}
use Rattle.mini_kept.specs.Loosely.{symbol}
use Rattle.mini_kept.proofs.Bools.{left, right}
use Rattle.mini_kept.proofs.Unbound.{bound_at, Other, Unbound, AllUnbound}
use Rattle.mini_shrink.specs.Cover.{Spellings, no_spellings, with_scope, is_numbered_by, begins_body, spelled_first, is_hoisting, is_covered, are_covered}
use Rattle.mini_shrink.specs.Told.{is_bound_elsewhere}
use Rattle.mini_shrink.proofs.Covered.{Far, Free, Undeclared, Unpatterned, AllUnpatterned, further, far_if, far_scope, first_far, far_names, own_scoped, covered_unbound, all_covered_unbound, unbound_both, all_unbound_both}
use Rattle.mini_shrink.proofs.Covering.{programs_are_covered}
use Rattle.mini_shrink.proofs.Either.{or_parts, of_either}
use Rattle.mini_shrink.proofs.Finding.{any_both}

-- ---- what is around the children of a node

unnumbered_around : (k : Numbering) (r : Around) (n : ℕ) → (is_numbered_by k && true) ≡ false → around_by k r n ≡ r
unnumbered_around Body r n e = absurd (true≢false e)
unnumbered_around Carried r n e = absurd (true≢false e)
unnumbered_around Unnumbered r n e = refl

-- the first child stands in what is around its node, or a body begins with it
around_first : (h : Shape) (r : Around) (n : ℕ) → begins_body h n 0 ≡ false → around_child h r n 0 ≡ r
around_first (shape.Function true g ds) r n e = refl
around_first (shape.Function false g ds) r n e = absurd (true≢false e)
around_first (shape.Class true) r n e = refl
around_first (shape.Class false) r n e = unnumbered_around (numbering_of (shape.Class false) n) r n e
around_first h r n e = unnumbered_around (numbering_of h n) r n e

-- each later child stands in what is around the child before it, or a body begins with it
around_next : (h : Shape) (r : Around) (n i : ℕ) → begins_body h n (suc i) ≡ false → around_child h r n (suc i) ≡ around_child h r n i
around_next (shape.Function true g ds) r n zero e = absurd (true≢false e)
around_next (shape.Function true g ds) r n (suc i) e = refl
around_next (shape.Function false g ds) r n i e = refl
around_next (shape.Class true) r n zero e = unnumbered_around (numbering_of (shape.Class true) n) r n e
around_next (shape.Class true) r n (suc i) e = refl
around_next (shape.Class false) r n i e = refl
around_next h r n i e = refl

-- a pattern opens no scope, and no other node spells names where a body begins
no_pattern_scope : (u : Use) (h : Shape) (n : ℕ) (ts : Trees) → (own_pattern_names h n ts ≡ []) ⊎ ((i : ℕ) → opened u h ts i ≡ [])
unfolding scopes_by
no_pattern_scope u shape.ObjectPattern n ts = inr (λ i. refl)
no_pattern_scope u shape.ArrayPattern n ts = inr (λ i. refl)
no_pattern_scope u shape.AssignmentPattern n ts = inr (λ i. refl)
no_pattern_scope u h n ts = inl refl

module _ (k : ℕ) where
  -- each binder of the symbol stands in this body, or in what is carried by this
  abbrev mutual
    pub BoundAt : Around → Around → Tree → Type 0
    BoundAt a r (node h xs n ts) = (Other k (bound_at h xs) ⊎ (r ≡ a)) × AllBoundAt a (around_child h r n) 0 ts

    pub AllBoundAt : Around → (ℕ → Around) → ℕ → Trees → Type 0
    AllBoundAt a rs i none = Unit {0}
    AllBoundAt a rs i (t ▸ ts) = BoundAt a (rs i) t × AllBoundAt a rs (suc i) ts

  mutual
    nowhere : (a r : Around) (t : Tree) → Unbound k t → BoundAt a r t
    nowhere a r (node h xs n ts) f = (inl f.0, all_nowhere a (around_child h r n) 0 ts f.1)

    all_nowhere : (a : Around) (rs : ℕ → Around) (i : ℕ) (ts : Trees) → AllUnbound k ts → AllBoundAt a rs i ts
    all_nowhere a rs i none f = tt
    all_nowhere a rs i (t ▸ ts) f = (nowhere a (rs i) t f.0, all_nowhere a rs (suc i) ts f.1)

  -- ---- a part without the symbol's scope

  abbrev AllUndeclared : (ℕ → List Binding) → (ℕ → Use) → ℕ → Trees → Type 0
  AllUndeclared sc us i ts = (times None (declared_from sc us i ts) ≡ 0) × (times (symbol k) (declared_from sc us i ts) ≡ 0)

  -- what some children don't declare, the first, its scope and the others don't
  undeclared_parts : (sc : ℕ → List Binding) (us : ℕ → Use) (i : ℕ) (t : Tree) (ts : Trees) → AllUndeclared sc us i (t ▸ ts) → Free k (sc i) × (Undeclared k (us i) t × AllUndeclared sc us (suc i) ts)
  unfolding declared_in
  undeclared_parts sc us i t ts d =
      let some = times_three None (symbols_in (sc i)) (declared_in (us i) t) (declared_from sc us (suc i) ts) in
      let own = times_three (symbol k) (symbols_in (sc i)) (declared_in (us i) t) (declared_from sc us (suc i) ts) in
      ((omega (arith, some, d.0), omega (arith, own, d.1)), ((omega (arith, some, d.0), omega (arith, own, d.1)), (omega (arith, some, d.0), omega (arith, own, d.1))))

  pub all_unbound : (sc : ℕ → List Binding) (us : ℕ → Use) (begins : ℕ → Bool) (first : Spellings) (i : ℕ) (spells : Spellings) (env : Environment) (ts : Trees) → are_covered sc us begins first i spells ts ≡ true → AllScoped sc us i env ts → AllUndeclared sc us i ts → AllUnpatterned k ts
      → ((v : Bool) → Far k v (if begins i then first else spells) env) → ((v : Bool) → Far k v first env) → AllUnbound k ts
  all_unbound sc us begins first i spells env ts c s d p f g =
      all_unbound_both k us i ts (all_covered_unbound k true sc us begins first i spells env ts c s d p (f true) (g true)) (all_covered_unbound k false sc us begins first i spells env ts c s d p (f false) (g false))

  unbound : (u : Use) (spells : Spellings) (env : Environment) (t : Tree) → is_covered u spells t ≡ true → Scoped u env t → Undeclared k u t → Unpatterned k t → ((v : Bool) → Far k v spells env) → Unbound k t
  unbound u spells env t c s d p f = unbound_both k u t (covered_unbound k true u spells env t c s d p (f true)) (covered_unbound k false u spells env t c s d p (f false))

  begun_far : (b : Bool) (first spells : Spellings) (env : Environment) → b ≡ true → ((v : Bool) → Far k v first env) → (v : Bool) → Far k v (if b then first else spells) env
  begun_far true first spells env e g v = g v
  begun_far false first spells env e g v = absurd (true≢false (sym e))

  mutual
    unfolding Scoped declared_in is_covered

    -- what binds it there stands in the body around
    in_body : (u : Use) (spells : Spellings) (env : Environment) (r : Around) (t : Tree) → is_covered u spells t ≡ true → Scoped u env t → Undeclared k u t → Unpatterned k t → BoundAt r r t
    in_body u spells env r (node h xs n ts) c s d p =
        let own = list_all (λ y. spells (is_hoisting u) y.spelling) (bound_at h xs) in
        let under = are_covered (opened u h ts) (use_of h u) (begins_body h n) (spelled_first u h n ts) 0 spells ts in (
          inr refl,
          all_in_body (opened u h ts) (use_of h u) (begins_body h n) (spelled_first u h n ts) 0 spells env r (around_child h r n) ts (right own under c) s.1 d p.1 (λ v. first_far k v u env h xs n ts s p.0) (around_first h r n) (around_next h r n),
        )

    all_in_body : (sc : ℕ → List Binding) (us : ℕ → Use) (begins : ℕ → Bool) (first : Spellings) (i : ℕ) (spells : Spellings) (env : Environment) (r : Around) (rs : ℕ → Around) (ts : Trees) → are_covered sc us begins first i spells ts ≡ true → AllScoped sc us i env ts → AllUndeclared sc us i ts → AllUnpatterned k ts
        → ((v : Bool) → Far k v first env) → (begins i ≡ false → rs i ≡ r) → ((j : ℕ) → begins (suc j) ≡ false → rs (suc j) ≡ rs j) → AllBoundAt r rs i ts
    all_in_body sc us begins first i spells env r rs none c s d p g a b = tt
    all_in_body sc us begins first i spells env r rs (t ▸ ts) c s d p g a b =
        let next = with_scope (if begins i then first else spells) (sc i) in
        let (free, (here, rest)) = undeclared_parts sc us i t ts d in
        let own = in_body (us i) next (env ++ sc i) (rs i) t (left (is_covered (us i) next t) (are_covered sc us begins first (suc i) next ts) c) s.0 here p.0 in
        let others = λ (q : rs i ≡ r). all_in_body sc us begins first (suc i) next (env ++ sc i) r rs ts (right (is_covered (us i) next t) (are_covered sc us begins first (suc i) next ts) c) s.1 rest p.1 (λ v. further k v first env (sc i) (g v) free) (λ e. b i e ∙ q) b in
        by (begins i) refl (λ q. (subst (λ o. BoundAt o (rs i) t) q own, others q))
      where
        by : (w : Bool) → begins i ≡ w → (rs i ≡ r → AllBoundAt r rs i (t ▸ ts)) → AllBoundAt r rs i (t ▸ ts)
        by true e f = all_nowhere r rs i (t ▸ ts) (all_unbound sc us begins first i spells env (t ▸ ts) c s d p (begun_far (begins i) first spells env e g) g)
        by false e f = f (a e)

  -- ---- a part in which the symbol has one scope at most

  -- the body in which all binders of the symbol stand
  record Home (r : Around) (t : Tree) : Type 0 where
    body : Around
    there : BoundAt body r t

  record AllHome (rs : ℕ → Around) (i : ℕ) (ts : Trees) : Type 0 where
    body : Around
    there : AllBoundAt body rs i ts

  abbrev SpellsNothing : Spellings → Type 0
  SpellsNothing first = (v : Bool) (s : List ℕ) → first v s ≡ true → ⊥

  no_pattern_spells : (u : Use) (h : Shape) (n : ℕ) (ts : Trees) → own_pattern_names h n ts ≡ [] → SpellsNothing (spelled_first u h n ts)
  no_pattern_spells u h n ts e v s f = true≢false (sym (right (is_same_flag v (is_hoisting u)) (is_spelled s (own_pattern_names h n ts)) f) ∙ ap (is_spelled s) e)

  first_or_none : (u : Use) (h : Shape) (n : ℕ) (ts : Trees) → SpellsNothing (spelled_first u h n ts) ⊎ ((i : ℕ) → opened u h ts i ≡ [])
  first_or_none u h n ts = by (no_pattern_scope u h n ts)
    where
      by : (own_pattern_names h n ts ≡ []) ⊎ ((i : ℕ) → opened u h ts i ≡ []) → SpellsNothing (spelled_first u h n ts) ⊎ ((i : ℕ) → opened u h ts i ≡ [])
      by (inl e) = inl (no_pattern_spells u h n ts e)
      by (inr f) = inr f

  -- after a scope with the symbol
  still_far : (sc : ℕ → List Binding) (first : Spellings) (i m : ℕ) (env : Environment) → times (symbol k) (symbols_in (sc i)) ≡ suc m → SpellsNothing first ⊎ ((j : ℕ) → sc j ≡ []) → (v : Bool) → Far k v first env
  still_far sc first i m env e (inl f) v s g = absurd (f v s g)
  still_far sc first i m env e (inr f) v s g = absurd (let nothing : times (symbol k) (symbols_in (sc i)) ≡ 0 = ap (λ bs. times (symbol k) (symbols_in bs)) (f i) in omega (arith, e, nothing))

  -- how often the symbol is declared
  abbrev AllOnce : (ℕ → List Binding) → (ℕ → Use) → ℕ → Trees → Type 0
  AllOnce sc us i ts = (times None (declared_from sc us i ts) ≡ 0) × (times (symbol k) (declared_from sc us i ts) ≤ 1)

  mutual
    unfolding Scoped declared_in is_covered

    home : (u : Use) (spells : Spellings) (env : Environment) (r : Around) (t : Tree) → is_covered u spells t ≡ true → Scoped u env t → (times None (declared_in u t) ≡ 0) × (times (symbol k) (declared_in u t) ≤ 1) → Unpatterned k t → ((v : Bool) → Far k v spells env) → Home r t
    home u spells env r (node h xs n ts) c s d p f =
        let own = list_all (λ y. spells (is_hoisting u) y.spelling) (bound_at h xs) in
        let under = are_covered (opened u h ts) (use_of h u) (begins_body h n) (spelled_first u h n ts) 0 spells ts in
        let first = λ (v : Bool). first_far k v u env h xs n ts s p.0 in
        let inside = all_home (opened u h ts) (use_of h u) (begins_body h n) (spelled_first u h n ts) 0 spells env (around_child h r n) ts (right own under c) s.1 d p.1 (λ v. far_if k (begins_body h n 0) v (spelled_first u h n ts) spells env (first v) (f v)) first (first_or_none u h n ts) (around_next h r n) in
        record { body = inside.body; there = (inl (far_names k u (is_hoisting u) refl spells env (f (is_hoisting u)) (bound_at h xs) (own_scoped k u env h xs ts s.0) (left own under c)), inside.there) }

    all_home : (sc : ℕ → List Binding) (us : ℕ → Use) (begins : ℕ → Bool) (first : Spellings) (i : ℕ) (spells : Spellings) (env : Environment) (rs : ℕ → Around) (ts : Trees) → are_covered sc us begins first i spells ts ≡ true → AllScoped sc us i env ts → AllOnce sc us i ts → AllUnpatterned k ts
        → ((v : Bool) → Far k v (if begins i then first else spells) env) → ((v : Bool) → Far k v first env) → SpellsNothing first ⊎ ((j : ℕ) → sc j ≡ []) → ((j : ℕ) → begins (suc j) ≡ false → rs (suc j) ≡ rs j) → AllHome rs i ts
    all_home sc us begins first i spells env rs none c s d p f g q b = record { body = outermost; there = tt }
    all_home sc us begins first i spells env rs (t ▸ ts) c s d p f g q b =
        let next = with_scope (if begins i then first else spells) (sc i) in
        let some = times_three None (symbols_in (sc i)) (declared_in (us i) t) (declared_from sc us (suc i) ts) in
        let own = times_three (symbol k) (symbols_in (sc i)) (declared_in (us i) t) (declared_from sc us (suc i) ts) in
        let here = left (is_covered (us i) next t) (are_covered sc us begins first (suc i) next ts) c in
        let rest = right (is_covered (us i) next t) (are_covered sc us begins first (suc i) next ts) c in
        let no_name : (times None (symbols_in (sc i)) ≡ 0) × ((times None (declared_in (us i) t) ≡ 0) × (times None (declared_from sc us (suc i) ts) ≡ 0)) = (omega (arith, some, d.0), (omega (arith, some, d.0), omega (arith, some, d.0))) in
        let one_at_most : times (symbol k) (declared_in (us i) t) ≤ 1 = omega (arith, own, d.1) in
        let far = λ (e : times (symbol k) (symbols_in (sc i)) ≡ 0) (v : Bool). far_scope k v (if begins i then first else spells) env (sc i) (f v) (no_name.0, e) in
        let first_on = λ (e : times (symbol k) (symbols_in (sc i)) ≡ 0) (v : Bool). further k v first env (sc i) (g v) (no_name.0, e) in
        by (times (symbol k) (symbols_in (sc i))) (times (symbol k) (declared_in (us i) t)) refl refl
        (λ e h. all_home sc us begins first (suc i) next (env ++ sc i) rs ts rest s.1 (no_name.1.1, omega (arith, own, d.1)) p.1 (λ v. far_if k (begins (suc i)) v first next (env ++ sc i) (first_on e v) (far e v)) (first_on e) q b)
        (λ e. home (us i) next (env ++ sc i) (rs i) t here s.0 (no_name.1.0, one_at_most) p.0 (far e))
        (λ e h. unbound (us i) next (env ++ sc i) t here s.0 (no_name.1.0, h) p.0 (far e))
        (λ m e h. all_unbound sc us begins first (suc i) next (env ++ sc i) ts rest s.1 (no_name.1.1, omega (arith, own, d.1, h)) p.1 (λ v. far_if k (begins (suc i)) v first next (env ++ sc i) (first_on e v) (far e v)) (first_on e))
        (λ m e. in_body (us i) next (env ++ sc i) (rs i) t here s.0 (no_name.1.0, omega (arith, own, d.1, e)) p.0)
        (λ m e. all_in_body sc us begins first (suc i) next (env ++ sc i) (rs i) rs ts rest s.1 (no_name.1.1, omega (arith, own, d.1, e)) p.1 (still_far sc first i m (env ++ sc i) e q) (b i) b)
      where
        by : (o a : ℕ) → times (symbol k) (symbols_in (sc i)) ≡ o → times (symbol k) (declared_in (us i) t) ≡ a
            → (times (symbol k) (symbols_in (sc i)) ≡ 0 → times (symbol k) (declared_in (us i) t) ≡ 0 → AllHome rs (suc i) ts)
            → (times (symbol k) (symbols_in (sc i)) ≡ 0 → Home (rs i) t)
            → (times (symbol k) (symbols_in (sc i)) ≡ 0 → times (symbol k) (declared_in (us i) t) ≡ 0 → Unbound k t)
            → ((m : ℕ) → times (symbol k) (symbols_in (sc i)) ≡ 0 → times (symbol k) (declared_in (us i) t) ≡ suc m → AllUnbound k ts)
            → ((m : ℕ) → times (symbol k) (symbols_in (sc i)) ≡ suc m → BoundAt (rs i) (rs i) t)
            → ((m : ℕ) → times (symbol k) (symbols_in (sc i)) ≡ suc m → AllBoundAt (rs i) rs (suc i) ts) → AllHome rs i (t ▸ ts)
        by zero zero e h others own none_here none_later at_scope after = let there = others e h in record { body = there.body; there = (nowhere there.body (rs i) t (none_here e h), there.there) }
        by zero (suc m) e h others own none_here none_later at_scope after = let there = own e in record { body = there.body; there = (there.there, all_nowhere there.body rs (suc i) ts (none_later m e h)) }
        by (suc m) a e h others own none_here none_later at_scope after = record { body = rs i; there = (at_scope m e, after m e) }

  -- ---- the mentions of a program

  abbrev x : Name
  x = by_symbol k

  abbrev binds_in : (Around → Bool) → Mention → Bool
  binds_in p m = same_variable x m.name && m.binds && p m.around

  own_other : (p : Around → Bool) (c : Bool) (u : Use) (r : Around) (ys : List Name) → Other k ys → list_any (binds_in p) (map (λ y. record { name = y; used = u; binds = true; around = r }) ys) ≡ true → c ≡ true
  own_other p c u r [] o e = absurd (true≢false (sym e))
  own_other p c u r (y ∷ ys) o e = own_other p c u r ys o.1 (sym (ap (λ b. (b && true && p r) || list_any (binds_in p) (map (λ z. record { name = z; used = u; binds = true; around = r }) ys)) o.0) ∙ e)

  own_there : (p : Around → Bool) (u : Use) (r : Around) (ys : List Name) → list_any (binds_in p) (map (λ y. record { name = y; used = u; binds = true; around = r }) ys) ≡ true → p r ≡ true
  own_there p u r [] e = absurd (true≢false (sym e))
  own_there p u r (y ∷ ys) e = of_either (same_variable x y && true && p r) _ (p r ≡ true) (λ f. right (same_variable x y && true) (p r) f) (λ f. own_there p u r ys f) e

  own_unbinding : (p : Around → Bool) (u : Use) (r : Around) (ys : List Name) → list_any (binds_in p) (map (λ y. record { name = y; used = u; binds = false; around = r }) ys) ≡ false
  own_unbinding p u r [] = refl
  own_unbinding p u r (y ∷ ys) = ap (λ b. b || list_any (binds_in p) (map (λ z. record { name = z; used = u; binds = false; around = r }) ys)) (neither (same_variable x y)) ∙ own_unbinding p u r ys
    where
      neither : (b : Bool) → (b && false && p r) ≡ false
      neither true = refl
      neither false = refl

  own_at : (p : Around → Bool) (a : Around) (u : Use) (r : Around) (h : Shape) (xs : List Name) → Other k (bound_at h xs) ⊎ (r ≡ a) → list_any (binds_in p) (own_mentions u r h xs) ≡ true → p a ≡ true
  own_at p a u r shape.BindingIdentifier xs (inl o) e = own_other p (p a) u r xs o e
  own_at p a u r shape.BindingIdentifier xs (inr q) e = sym (ap p q) ∙ own_there p u r xs e
  own_at p a u r shape.Identifier xs o e = absurd (true≢false (sym e ∙ own_unbinding p u r xs))
  own_at p a u r h xs o e = absurd (true≢false (sym e))

  mutual
    unfolding mentions

    binder_at : (p : Around → Bool) (a : Around) (u : Use) (r : Around) (t : Tree) → BoundAt a r t → list_any (binds_in p) (mentions u r t) ≡ true → p a ≡ true
    binder_at p a u r (node h xs n ts) f e =
        let own = own_mentions u r h xs in
        let under = mentions_from (use_of h u) (around_child h r n) 0 ts in
        of_either (list_any (binds_in p) own) (list_any (binds_in p) under) (p a ≡ true) (own_at p a u r h xs f.0) (all_binders_at p a (use_of h u) (around_child h r n) 0 ts f.1) (sym (any_both (binds_in p) own under) ∙ e)

    all_binders_at : (p : Around → Bool) (a : Around) (us : ℕ → Use) (rs : ℕ → Around) (i : ℕ) (ts : Trees) → AllBoundAt a rs i ts → list_any (binds_in p) (mentions_from us rs i ts) ≡ true → p a ≡ true
    all_binders_at p a us rs i none f e = absurd (true≢false (sym e))
    all_binders_at p a us rs i (t ▸ ts) f e =
        let here = mentions (us i) (rs i) t in
        let rest = mentions_from us rs (suc i) ts in
        of_either (list_any (binds_in p) here) (list_any (binds_in p) rest) (p a ≡ true) (binder_at p a (us i) (rs i) t f.0) (all_binders_at p a us rs (suc i) ts f.1) (sym (any_both (binds_in p) here rest) ∙ e)

  -- ---- a program

  mutual
    unfolding pattern_names

    pub unpatterned : (t : Tree) → is_among x (pattern_names t) ≡ false → Unpatterned k t
    unpatterned (node h xs n ts) e = let (f, g) = or_parts (is_among x (own_pattern_names h n ts)) (is_among x (all_pattern_names ts)) (sym (any_both (same_variable x) (own_pattern_names h n ts) (all_pattern_names ts)) ∙ e) in (f, all_unpatterned ts g)

    all_unpatterned : (ts : Trees) → is_among x (all_pattern_names ts) ≡ false → AllUnpatterned k ts
    all_unpatterned none e = tt
    all_unpatterned (t ▸ ts) e = let (f, g) = or_parts (is_among x (pattern_names t)) (is_among x (all_pattern_names ts)) (sym (any_both (same_variable x) (pattern_names t) (all_pattern_names ts)) ∙ e) in (unpatterned t f, all_unpatterned ts g)

  program_home : (t : Tree) → IsWellShaped t → Scoped Read [] t → Distinct (declared_symbols t) → is_among x (pattern_names t) ≡ false → Home outermost t
  program_home t w s d p = home Read no_spellings [] outermost t (programs_are_covered t w) s (omega (arith, d None), d (symbol k)) (unpatterned t p) (λ v r e. absurd (true≢false (sym e)))

  -- a symbol that another body binds too is bound in patterns alone
  pub bound_once : (t : Tree) → IsWellShaped t → Scoped Read [] t → Distinct (declared_symbols t) → is_among x (pattern_names t) ≡ false → (b : ℕ) → is_bound_elsewhere t b k ≡ true → is_declared_in t b x ≡ false
  bound_once t w s d p b e =
      let at = program_home t w s d p in
      by (is_declared_in t b x) refl (binder_at (is_elsewhere b) at.body Read outermost t at.there e) (binder_at (λ o. not (is_elsewhere b o)) at.body Read outermost t at.there)
    where
      by : {o : Bool} (c : Bool) → is_declared_in t b x ≡ c → o ≡ true → (c ≡ true → not o ≡ true) → c ≡ false
      by true q f g = absurd (true≢false (sym (g refl) ∙ ap not f))
      by false q f g = refl
