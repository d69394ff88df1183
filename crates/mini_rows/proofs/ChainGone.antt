-- What goes with the links of a chain takes along what it declares that can't be written.
use Rattle.std.specs.Prelude.{◌≡◌, ◌≤◌, ◌++◌, List, [], ◌∷◌, Option, Bool, true, false}
use Rattle.std.proofs.Common.{◌⊎◌, inl, inr, refl, sym, ap, subst, ◌∙◌, arith}
use Rattle.std.proofs.lemmas.Bool.{and_parts}
use Rattle.mini_model.specs.declared.name.SymbolId.{SymbolId}
use Rattle.mini_model.specs.declared.place.Position.TheVariants.{Expr}
use Rattle.mini_model.specs.declared.seat.Seat.{Seat}
use Rattle.mini_model.specs.declared.shape.Shape.{Shape}
use Rattle.mini_model.specs.declared.shape.Shape.TheVariants as shape
use Rattle.mini_model.specs.Tree.{Tree, none, ◌▸◌, listed}
use Rattle.mini_laws.specs.declared.names.Use.TheVariants.{Read}
use Rattle.mini_laws.specs.Resolved.{Environment}
use Rattle.mini_laws.specs.Scoped.{Scoped}
use Rattle.mini_laws.specs.Scopes.{opened, scopes_by}
use Rattle.mini_laws.specs.Symbols.{declared as declared_in, times}
use Rattle.mini_laws.specs.Value.{Variable}
use Rattle.mini_laws.specs.State.{Writable}
use Rattle.mini_laws.specs.Fixity.{stricter, fixed_by}
use Rattle.mini_laws.proofs.Changes.{times_both}
use Rattle.mini_kept.specs.Loosely.{LessOften, FixedKept}
use Rattle.mini_kept.proofs.Fixed.{of_children, of_one}
use Rattle.mini_rows.specs.Lists.{sequence, encloses}
use Rattle.mini_rows.specs.Spellings.{void_zero}
use Rattle.mini_rows.specs.Chains.{Link, a_member, a_computed, a_call, linked, chain}
use Rattle.mini_rows.specs.ChainLinks.{Marked, marked, links_over}
use Rattle.mini_rows.specs.ChainEnds.{key_of, keys_over, enclose}
use Rattle.mini_rows.proofs.Enclosing.{Declares, enclosed}
use Rattle.mini_rows.proofs.ListKeptStretch.{read_is}
use Rattle.mini_rows.proofs.ListKeptValues.{stricter_alone}

-- ---- a link and its two parts

link_declared : (o : Bool) (l : Link) (t : Tree) → declared_in Read (linked o l t) ≡ declared_in Read t ++ (declared_in Read (key_of l) ++ [])
unfolding declared_in scopes_by
link_declared o (a_member k) t = refl
link_declared o (a_computed k) t = refl
link_declared o (a_call ts) t = refl

link_fixed : (o : Bool) (l : Link) (t : Tree) (x : Variable) → fixed_by (linked o l t) x ≡ stricter (fixed_by t x) (stricter (fixed_by (key_of l) x) Writable)
link_fixed o (a_member k) t x = of_children (shape.StaticMemberExpression o) [] 0 (t ▸ k ▸ none) x refl
link_fixed o (a_computed k) t x = of_children (shape.ComputedMemberExpression o) [] 0 (t ▸ k ▸ none) x refl
link_fixed o (a_call ts) t x = of_children (shape.CallExpression o) [] 0 (t ▸ listed ts ▸ none) x refl

-- each name in them has the symbol that the scopes around it give
record BothScoped (t k : Tree) : Type 0 where
  outer : Environment
  first : Scoped Read outer t
  inner : Environment
  second : Scoped Read inner k

module _ (h : Shape) (t k : Tree) (env : Environment) where
  abbrev first_in : Environment
  first_in = env ++ opened Read h (t ▸ k ▸ none) 0

  abbrev second_in : Environment
  second_in = first_in ++ opened Read h (t ▸ k ▸ none) 1

link_scoped : (o : Bool) (l : Link) (t : Tree) (env : Environment) → Scoped Read env (linked o l t) → BothScoped t (key_of l)
unfolding Scoped
link_scoped o (a_member k) t env s = record { outer = first_in (shape.StaticMemberExpression o) t k env; first = s.1.0; inner = second_in (shape.StaticMemberExpression o) t k env; second = s.1.1.0 }
link_scoped o (a_computed k) t env s = record { outer = first_in (shape.ComputedMemberExpression o) t k env; first = s.1.0; inner = second_in (shape.ComputedMemberExpression o) t k env; second = s.1.1.0 }
link_scoped o (a_call ts) t env s = record { outer = first_in (shape.CallExpression o) t (listed ts) env; first = s.1.0; inner = second_in (shape.CallExpression o) t (listed ts) env; second = s.1.1.0 }

module _ (x : Variable) where
  abbrev Told : Tree → Tree → Type 0
  Told t u = (fixed_by t x ≡ fixed_by u x) ⊎ LessOften Read x t u

  -- ---- links, one after another

  abbrev AsOften : Tree → Tree → Type 0
  AsOften t u = (s : Option SymbolId) → times s (declared_in Read u) ≤ times s (declared_in Read t)

  link_as_often : (o : Bool) (l : Link) (t u : Tree) → AsOften t u → AsOften (linked o l t) u
  link_as_often o l t u a s = omega (arith, a s, ap (times s) (link_declared o l t), times_both s (declared_in Read t) (declared_in Read (key_of l) ++ []))

  over_as_often : (ms : List Marked) (u : Tree) → AsOften (links_over ms u) u
  over_as_often [] u s = omega arith
  over_as_often (marked o l ∷ ms) u s = link_as_often o l (links_over ms u) u (over_as_often ms u) s

  link_told : (o : Bool) (l : Link) (t u : Tree) → encloses false (key_of l) ≡ true → BothScoped t (key_of l) → AsOften t u → Told t u → Told (linked o l t) u
  link_told o l t u e b a = by (enclosed x Read b.inner (key_of l) e b.second)
    where
      rest : fixed_by (key_of l) x ≡ Writable → Told t u → Told (linked o l t) u
      rest f (inl g) = inl (link_fixed o l t x ∙ ap (λ k. stricter (fixed_by t x) (stricter k Writable)) f ∙ stricter_alone (fixed_by t x) ∙ g)
      rest f (inr d) = inr (record {
        declared = d.declared;
        either = d.either;
        less = omega (arith, d.less, ap (times d.declared) (link_declared o l t), times_both d.declared (declared_in Read t) (declared_in Read (key_of l) ++ []));
      })

      by : (fixed_by (key_of l) x ≡ Writable) ⊎ Declares x (declared_in Read (key_of l)) → Told t u → Told (linked o l t) u
      by (inl f) = rest f
      by (inr d) = λ g. inr (record {
        declared = d.symbol;
        either = d.either;
        less = omega (arith, d.there, a d.symbol, ap (times d.symbol) (link_declared o l t), times_both d.symbol (declared_in Read t) (declared_in Read (key_of l) ++ []), times_both d.symbol (declared_in Read (key_of l)) []);
      })

  over_told : (ms : List Marked) (u : Tree) (env : Environment) → enclose (keys_over ms) ≡ true → Scoped Read env (links_over ms u) → Told (links_over ms u) u
  over_told [] u env e s = inl refl
  over_told (marked o l ∷ ms) u env e s =
      let (first, rest) = and_parts (encloses false (key_of l)) (enclose (keys_over ms)) e in
      let b = link_scoped o l (links_over ms u) env s in
      link_told o l (links_over ms u) u first b (over_as_often ms u) (over_told ms u b.outer rest b.first)

  -- ---- the chain, of which what stands before the links stays

  abbrev then_void : Tree → Tree
  then_void u = sequence (u ▸ void_zero ▸ none)

  chain_declared : (t : Tree) → declared_in Read (chain t) ≡ declared_in Read t ++ []
  unfolding declared_in scopes_by
  chain_declared t = refl

  then_declared : (u : Tree) → declared_in Read (then_void u) ≡ (declared_in Read u ++ []) ++ []
  unfolding declared_in scopes_by
  then_declared u = refl

  chain_scoped : (t : Tree) (env : Environment) → Scoped Read env (chain t) → Scoped Read (env ++ opened Read shape.ChainExpression (t ▸ none) 0) t
  unfolding Scoped
  chain_scoped t env s = s.1.0

  chain_fixed : (t : Tree) → fixed_by (chain t) x ≡ fixed_by t x
  chain_fixed t = of_one shape.ChainExpression [] 0 t x refl

  then_fixed : (u : Tree) → fixed_by (then_void u) x ≡ fixed_by u x
  then_fixed u = of_one shape.SequenceExpression [] 0 (listed (u ▸ void_zero ▸ none)) x refl ∙ of_children shape.Listed [] 0 (u ▸ void_zero ▸ none) x refl ∙ stricter_alone (fixed_by u x)

  then_told : (t u : Tree) → Told t u → Told (chain t) (then_void u)
  then_told t u (inl f) = inl (chain_fixed t ∙ f ∙ sym (then_fixed u))
  then_told t u (inr d) = inr (record {
    declared = d.declared;
    either = d.either;
    less = omega (
      arith,
      d.less,
      ap (times d.declared) (chain_declared t),
      times_both d.declared (declared_in Read t) [],
      ap (times d.declared) (then_declared u),
      times_both d.declared (declared_in Read u ++ []) [],
      times_both d.declared (declared_in Read u) [],
    );
  })

  -- ---- and of which all goes

  void_declared : declared_in Read void_zero ≡ []
  unfolding declared_in scopes_by
  void_declared = refl

  gone_told : (t : Tree) (env : Environment) → encloses false t ≡ true → Scoped Read env (chain t) → Told (chain t) void_zero
  gone_told t env e s = by (enclosed x Read (env ++ opened Read shape.ChainExpression (t ▸ none) 0) t e (chain_scoped t env s))
    where
      by : (fixed_by t x ≡ Writable) ⊎ Declares x (declared_in Read t) → Told (chain t) void_zero
      by (inl f) = inl (chain_fixed t ∙ f)
      by (inr d) = inr (record {
        declared = d.symbol;
        either = d.either;
        less = omega (arith, d.there, ap (times d.symbol) void_declared, ap (times d.symbol) (chain_declared t), times_both d.symbol (declared_in Read t) []);
      })

-- ---- the laws

kept : (q : Seat) (t w : Tree) → ((x : Variable) (env : Environment) → Scoped Read env (chain t) → Told x (chain t) w) → FixedKept (Expr q) (chain t) w
kept q t w told = record { by = λ strict s p f v env st k x. subst (λ u. (fixed_by (chain t) x ≡ fixed_by w x) ⊎ LessOften u x (chain t) w) (sym (read_is v st)) (told x env (subst (λ u. Scoped u env (chain t)) (read_is v st) k)) }

pub links_fixed : (q : Seat) (n w : Tree) (ms : List Marked) (u : Tree) → enclose (keys_over ms) ≡ true → n ≡ chain (links_over ms u) → w ≡ sequence (u ▸ void_zero ▸ none) → FixedKept (Expr q) n w
links_fixed q n w ms u e f g =
    subst (λ t. FixedKept (Expr q) t w) (sym f) (subst (FixedKept (Expr q) (chain (links_over ms u))) (sym g)
    (kept q (links_over ms u) (sequence (u ▸ void_zero ▸ none)) (λ x env s. then_told x (links_over ms u) u (over_told x ms u (env ++ opened Read shape.ChainExpression (links_over ms u ▸ none) 0) e (chain_scoped x (links_over ms u) env s)))))

pub chain_fixed_gone : (q : Seat) (n w : Tree) (t : Tree) → encloses false t ≡ true → n ≡ chain t → w ≡ void_zero → FixedKept (Expr q) n w
chain_fixed_gone q n w t e f g =
    subst (λ u. FixedKept (Expr q) u w) (sym f) (subst (FixedKept (Expr q) (chain t)) (sym g)
    (kept q t void_zero (λ x env s. gone_told x t env e s)))
