-- A variable that no node of a tree names: each declaration of the tree lets it be written, and no
-- body of the tree shares it.
use Rattle.std.proofs.Common.{◌≡◌, ℕ, Bool, true, false, List, [], ◌∷◌, Option, Some, refl, sym, ap, ◌∙◌, true≢false, eq-eqb}
use Rattle.std.specs.Prelude.{◌||◌}
use Rattle.mini_model.specs.declared.operator.UnaryOperator.TheVariants.{LogicalNot}
use Rattle.mini_model.specs.declared.shape.Shape.{Shape}
use Rattle.mini_model.specs.declared.shape.Shape.TheVariants as shape
use Rattle.mini_model.specs.Tree.{Tree, Trees, node, none, ◌▸◌}
use Rattle.mini_laws.specs.Value.{Variable, VariableSet, Declared, Global, choose, variable_eq, is_in, variables}
use Rattle.mini_laws.specs.State.{Writable}
use Rattle.mini_laws.specs.Naming.{AClass, Summary, Declared as DeclaredKind, facts_all, first_facts, class_lets, lets_all, lets_first, lets_of, front, is_lexical, summary, summaries}
use Rattle.mini_laws.specs.Fixity.{fixity_by, lets_fourth, declared_by, stricter, fixed_by, fixed_by_any}
use Rattle.mini_laws.specs.Writable.{mentions, any_mentions}
use Rattle.mini_laws.specs.Congruence.{NoneIn, Avoids, AllAvoid}
use Rattle.mini_laws.specs.Substitution.{alone}
use Rattle.mini_laws.specs.Shared.{is_shared}
use Rattle.mini_laws.specs.ScopeList.{by_symbol}
use Rattle.mini_kept.proofs.SameScopes.{text_itself}
use Rattle.mini_kept.proofs.Undeclared.{unshared}
use Rattle.mini_dead.proofs.Basics.{neither}
use Rattle.mini_dead.proofs.Lean.{same_variables}
use Rattle.mini_dead.proofs.Summed.{is_in_append}

module _ (D : VariableSet) (x : Variable) (named : D x ≡ true) where
  unlike : (y : Variable) → D y ≡ false → variable_eq y x ≡ false
  unlike y q = by (variable_eq y x) refl
    where
      by : (b : Bool) → variable_eq y x ≡ b → variable_eq y x ≡ false
      by true r = absurd (true≢false (sym named ∙ ap D (sym (same_variables y x r)) ∙ q))
      by false r = r

  none_is_it : (ys : List Variable) → NoneIn D ys → is_in x ys ≡ false
  none_is_it [] a = refl
  none_is_it (y ∷ ys) a = ap (λ b. choose b true (is_in x ys)) (unlike y a.0) ∙ none_is_it ys a.1

  abbrev NoLets : List Summary → Type 0
  NoLets [] = Unit {0}
  NoLets (i ∷ is) = (is_in x i.lets ≡ false) × NoLets is

  all_none : (is : List Summary) → NoLets is → is_in x (lets_all is) ≡ false
  all_none [] a = refl
  all_none (i ∷ is) a = is_in_append x i.lets (lets_all is) ∙ ap (λ b. choose b true (is_in x (lets_all is))) a.0 ∙ all_none is a.1

  first_none : (is : List Summary) → NoLets is → is_in x (lets_first is) ≡ false
  first_none [] a = refl
  first_none (i ∷ is) a = a.0

  fourth_none : (is : List Summary) → NoLets is → is_in x (lets_fourth is) ≡ false
  fourth_none (i ∷ j ∷ k ∷ l ∷ is) a = a.1.1.1.0
  fourth_none [] a = refl
  fourth_none (i ∷ []) a = refl
  fourth_none (i ∷ j ∷ []) a = refl
  fourth_none (i ∷ j ∷ k ∷ []) a = refl

  front_none : (ys : List Variable) → is_in x ys ≡ false → is_in x (front ys) ≡ false
  front_none [] a = refl
  front_none (y ∷ ys) a = by (variable_eq y x) a
    where
      by : (b : Bool) → choose b true (is_in x ys) ≡ false → choose b true false ≡ false
      by true r = r
      by false r = refl

  chosen_none : (b : Bool) (ys : List Variable) → is_in x ys ≡ false → is_in x (choose b ys []) ≡ false
  chosen_none true ys a = a
  chosen_none false ys a = refl

  class_none : (o : Option DeclaredKind) (ys : List Variable) → is_in x ys ≡ false → is_in x (class_lets o ys) ≡ false
  class_none (Some AClass) ys a = a
  class_none o ys a = refl

  own_none : (h : Shape) (ys : List Variable) (is : List Summary) → is_in x ys ≡ false → NoLets is → is_in x (lets_of h ys is) ≡ false
  own_none shape.BindingIdentifier ys is a b = front_none ys a
  own_none (shape.UnaryExpression LogicalNot) ys is a b = first_none is b
  own_none shape.Listed ys is a b = all_none is b
  own_none shape.ObjectPattern ys is a b = all_none is b
  own_none shape.ArrayPattern ys is a b = all_none is b
  own_none (shape.BindingProperty is_shorthand is_computed) ys is a b = all_none is b
  own_none shape.RestElement ys is a b = all_none is b
  own_none shape.AssignmentPattern ys is a b = first_none is b
  own_none shape.VariableDeclarator ys is a b = first_none is b
  own_none (shape.VariableDeclaration k) ys is a b = chosen_none (is_lexical k) (lets_first is) (first_none is b)
  own_none (shape.Class true) ys is a b = first_none is b
  own_none shape.SwitchCase ys is a b = all_none is b
  own_none shape.ExportNamedDeclaration ys is a b = first_none is b
  own_none shape.ExportDefaultDeclaration ys is a b = class_none (first_facts (facts_all is)).declared (lets_first is) (first_none is b)
  own_none h ys is a b = refl

  declared_none : (h : Shape) (is : List Summary) → NoLets is → is_in x (declared_by h is) ≡ false
  declared_none (shape.Class true) is b = fourth_none is b
  declared_none shape.ImportSpecifier is b = all_none is b
  declared_none h is b = first_none is b

  mutual
    lets_none : (t : Tree) → Avoids D t → is_in x (summary t).lets ≡ false
    lets_none (node h xs n ts) a = own_none h (variables xs) (summaries ts) (none_is_it (variables xs) a.0) (all_lets_none ts a.1)

    all_lets_none : (ts : Trees) → AllAvoid D ts → NoLets (summaries ts)
    all_lets_none none a = tt
    all_lets_none (t ▸ ts) a = (lets_none t a.0, all_lets_none ts a.1)

  mutual
    pub writable : (t : Tree) → Avoids D t → fixed_by t x ≡ Writable
    writable (node h xs n ts) a = ap (λ b. stricter (choose b (fixity_by h) Writable) (fixed_by_any ts x)) (declared_none h (summaries ts) (all_lets_none ts a.1)) ∙ all_writable ts a.1

    all_writable : (ts : Trees) → AllAvoid D ts → fixed_by_any ts x ≡ Writable
    all_writable none a = refl
    all_writable (t ▸ ts) a = ap (λ f. stricter f (fixed_by_any ts x)) (writable t a.0) ∙ all_writable ts a.1

  -- a tree that avoids a set avoids each of its variables
  other : (y : Variable) → D y ≡ false → variable_eq x y ≡ false
  other y q = by (variable_eq x y) refl
    where
      by : (b : Bool) → variable_eq x y ≡ b → variable_eq x y ≡ false
      by true r = absurd (true≢false (sym named ∙ ap D (same_variables x y r) ∙ q))
      by false r = r

  none_alone : (ys : List Variable) → NoneIn D ys → NoneIn (alone x) ys
  none_alone [] a = tt
  none_alone (y ∷ ys) a = (other y a.0, none_alone ys a.1)

  mutual
    pub avoids_it : (t : Tree) → Avoids D t → Avoids (alone x) t
    avoids_it (node h xs n ts) a = (none_alone (variables xs) a.0, all_avoid_it ts a.1)

    all_avoid_it : (ts : Trees) → AllAvoid D ts → AllAvoid (alone x) ts
    all_avoid_it none a = tt
    all_avoid_it (t ▸ ts) a = (avoids_it t a.0, all_avoid_it ts a.1)

-- no node of it names the variable
mutual
  pub unnamed_in : (D : VariableSet) (x : Variable) → D x ≡ true → (t : Tree) → Avoids D t → mentions t x ≡ false
  unnamed_in D x named (node h xs n ts) a = ap (λ b. b || any_mentions ts x) (none_is_it D x named (variables xs) a.0) ∙ all_unnamed_in D x named ts a.1

  all_unnamed_in : (D : VariableSet) (x : Variable) → D x ≡ true → (ts : Trees) → AllAvoid D ts → any_mentions ts x ≡ false
  all_unnamed_in D x named none a = refl
  all_unnamed_in D x named (t ▸ ts) a = ap (λ b. b || any_mentions ts x) (unnamed_in D x named t a.0) ∙ all_unnamed_in D x named ts a.1

-- ---- a variable that no node names

none_such : (x : Variable) (ys : List Variable) → is_in x ys ≡ false → NoneIn (λ y. variable_eq y x) ys
none_such x [] a = tt
none_such x (y ∷ ys) a = by (variable_eq y x) refl a (none_such x ys)
  where
    by : (b : Bool) → variable_eq y x ≡ b → choose b true (is_in x ys) ≡ false → (is_in x ys ≡ false → NoneIn (λ y. variable_eq y x) ys) → (variable_eq y x ≡ false) × NoneIn (λ y. variable_eq y x) ys
    by true q r f = absurd (true≢false r)
    by false q r f = (q, f r)

mutual
  avoids_unnamed : (x : Variable) (t : Tree) → mentions t x ≡ false → Avoids (λ y. variable_eq y x) t
  avoids_unnamed x (node h xs n ts) a = let p = neither (is_in x (variables xs)) (any_mentions ts x) a in (none_such x (variables xs) p.0, all_avoid_unnamed x ts p.1)

  all_avoid_unnamed : (x : Variable) (ts : Trees) → any_mentions ts x ≡ false → AllAvoid (λ y. variable_eq y x) ts
  all_avoid_unnamed x none a = tt
  all_avoid_unnamed x (t ▸ ts) a = let p = neither (mentions t x) (any_mentions ts x) a in (avoids_unnamed x t p.0, all_avoid_unnamed x ts p.1)

pub itself : (x : Variable) → variable_eq x x ≡ true
itself (Declared k) = eq-eqb k k refl
itself (Global s) = text_itself s

pub unnamed_writable : (t : Tree) (x : Variable) → mentions t x ≡ false → fixed_by t x ≡ Writable
unnamed_writable t x a = writable (λ y. variable_eq y x) x (itself x) t (avoids_unnamed x t a)

pub unnamed_unshared : (t : Tree) (s : ℕ) → mentions t (Declared s) ≡ false → (b : ℕ) → is_shared t b (by_symbol s) ≡ false
unnamed_unshared t s a b = unshared s t (avoids_it (λ y. variable_eq y (Declared s)) (Declared s) (itself (Declared s)) t (avoids_unnamed (Declared s) t a)) b
