-- Two sets of symbols that agree on those of a tree mark the same items in it.
use Rattle.std.proofs.Common.{◌≡◌, ℕ, suc, Bool, true, false, List, [], ◌∷◌, Option, Some, None, refl, sym, ap, ◌∙◌, eq-eqb}
use Rattle.std.specs.Prelude.{◌||◌, nat_eq}
use Rattle.mini_model.specs.declared.name.Name.{Name}
use Rattle.mini_model.specs.declared.name.SymbolId.{SymbolId}
use Rattle.mini_model.specs.declared.shape.Shape.{Shape}
use Rattle.mini_model.specs.declared.shape.Shape.TheVariants as shape
use Rattle.mini_model.specs.Tree.{Tree, Trees, node, none, ◌▸◌}
use Rattle.mini_laws.specs.Value.{Declared, variable_by, variables, variable_eq, choose, is_in}
use Rattle.mini_laws.specs.Writable.{mentions, any_mentions}
use Rattle.mini_dead.specs.Pruned.{Spot, Role, StatementList, DeclaratorList, role, spot_below, Initializer, Declarator, Item, function_item, declaration_item, Pruned, prune, Prunings}
use Rattle.mini_dead.specs.Dead.{has_name, has_it}
use Rattle.mini_dead.specs.Marked.{Mark, no_item, an_item, a_declarator, initializer_of, declarator_by, declarator_of, one_more, declarators_of, mark_declarator, mark_function, mark_declaration, mark_statement, mark, marked_by, marked, all_marked}

or_left : (a b : Bool) → a ≡ true → (a || b) ≡ true
or_left a b e = ap (λ c. c || b) e

or_right : (a b : Bool) → b ≡ true → (a || b) ≡ true
or_right true b e = refl
or_right false b e = e

chosen : (a b : Bool) → a ≡ true → choose a true b ≡ true
chosen a b e = ap (λ c. choose c true b) e

module _ (S R : ℕ → Bool) where
  abbrev pub Agree : Tree → Type 0
  Agree t = (s : ℕ) → mentions t (Declared s) ≡ true → S s ≡ R s

  abbrev AllAgree : Trees → Type 0
  AllAgree ts = (s : ℕ) → any_mentions ts (Declared s) ≡ true → S s ≡ R s

  agree_kids : (h : Shape) (xs : List Name) (n : ℕ) (ts : Trees) → Agree (node h xs n ts) → AllAgree ts
  agree_kids h xs n ts f s e = f s (or_right (is_in (Declared s) (variables xs)) (any_mentions ts (Declared s)) e)

  agree_own : (h : Shape) (xs : List Name) (n : ℕ) (ts : Trees) → Agree (node h xs n ts) → (s : ℕ) → is_in (Declared s) (variables xs) ≡ true → S s ≡ R s
  agree_own h xs n ts f s e = f s (or_left (is_in (Declared s) (variables xs)) (any_mentions ts (Declared s)) e)

  agree_first : (t : Tree) (ts : Trees) → AllAgree (t ▸ ts) → Agree t
  agree_first t ts f s e = f s (or_left (mentions t (Declared s)) (any_mentions ts (Declared s)) e)

  agree_rest : (t : Tree) (ts : Trees) → AllAgree (t ▸ ts) → AllAgree ts
  agree_rest t ts f s e = f s (or_right (mentions t (Declared s)) (any_mentions ts (Declared s)) e)

  symbol_same : (spelling : List ℕ) (o : Option SymbolId) → ((s : ℕ) → choose (variable_eq (variable_by spelling o) (Declared s)) true false ≡ true → S s ≡ R s) → has_it S o ≡ has_it R o
  symbol_same spelling None f = refl
  symbol_same spelling (Some k) f = f k.0 (chosen (nat_eq k.0 k.0) false (sym (sym (eq-eqb k.0 k.0 refl))))

  name_same : (h : Shape) (x : Name) (m : ℕ) → Agree (node h (x ∷ []) m none) → has_name S x ≡ has_name R x
  name_same h x m f = symbol_same x.spelling x.symbol (agree_own h (x ∷ []) m none f)

  declarator_by_same : (b : Bool) (n : ℕ) (x : Name) (m : ℕ) (o : Option Initializer) → declarator_by S b n x m o ≡ declarator_by R b n x m o
  declarator_by_same true n x m (Some i) = refl
  declarator_by_same true n x m None = refl
  declarator_by_same false n x m o = refl

  declarator_same : (t : Tree) → Agree t → declarator_of S t ≡ declarator_of R t
  declarator_same (node shape.VariableDeclarator [] n (node shape.BindingIdentifier (x ∷ []) m none ▸ init ▸ none)) f =
      ap (λ b. declarator_by S b n x m (initializer_of init)) (name_same shape.BindingIdentifier x m (agree_first (node shape.BindingIdentifier (x ∷ []) m none) (init ▸ none) (agree_kids shape.VariableDeclarator [] n (node shape.BindingIdentifier (x ∷ []) m none ▸ init ▸ none) f)))
      ∙ declarator_by_same (has_name R x) n x m (initializer_of init)
  declarator_same t f = refl

  one_more_same : (o : Option Declarator) (os : Option (List Declarator)) → one_more S o os ≡ one_more R o os
  one_more_same (Some c) (Some cs) = refl
  one_more_same (Some c) None = refl
  one_more_same None os = refl

  declarators_same : (ts : Trees) → AllAgree ts → declarators_of S ts ≡ declarators_of R ts
  declarators_same none f = refl
  declarators_same (c ▸ cs) f =
      ap (λ o. one_more S o (declarators_of S cs)) (declarator_same c (agree_first c cs f))
      ∙ ap (one_more S (declarator_of R c)) (declarators_same cs (agree_rest c cs f))
      ∙ one_more_same (declarator_of R c) (declarators_of R cs)

  mark_declarator_same : (o : Option Declarator) → mark_declarator S o ≡ mark_declarator R o
  mark_declarator_same (Some c) = refl
  mark_declarator_same None = refl

  mark_function_same : (b : Bool) (i : Item) → mark_function S b i ≡ mark_function R b i
  mark_function_same true i = refl
  mark_function_same false i = refl

  mark_declaration_same : (f : Declarator → List Declarator → Item) (o : Option (List Declarator)) → mark_declaration S f o ≡ mark_declaration R f o
  mark_declaration_same f (Some (c ∷ cs)) = refl
  mark_declaration_same f (Some []) = refl
  mark_declaration_same f None = refl

  statement_same : (t : Tree) → Agree t → mark_statement S t ≡ mark_statement R t
  statement_same (node (shape.Function true g ds) xs n (node shape.BindingIdentifier (x ∷ []) m none ▸ ts)) f =
      ap (λ b. mark_function S b (function_item g ds xs n x m ts)) (name_same shape.BindingIdentifier x m (agree_first (node shape.BindingIdentifier (x ∷ []) m none) ts (agree_kids (shape.Function true g ds) xs n (node shape.BindingIdentifier (x ∷ []) m none ▸ ts) f)))
      ∙ mark_function_same (has_name R x) (function_item g ds xs n x m ts)
  statement_same (node (shape.VariableDeclaration k) xs n (node shape.Listed ys m cs ▸ none)) f =
      ap (mark_declaration S (declaration_item k xs n ys m)) (declarators_same cs (agree_kids shape.Listed ys m cs (agree_first (node shape.Listed ys m cs) none (agree_kids (shape.VariableDeclaration k) xs n (node shape.Listed ys m cs ▸ none) f))))
      ∙ mark_declaration_same (declaration_item k xs n ys m) (declarators_of R cs)
  statement_same t f = refl

  mark_same : (r : Role) (t : Tree) → Agree t → mark S r t ≡ mark R r t
  mark_same StatementList t f = statement_same t f
  mark_same (DeclaratorList lexical) t f = ap (mark_declarator S) (declarator_same t f) ∙ mark_declarator_same (declarator_of R t)
  mark_same r t f = refl

  marked_by_same : (m : Mark) (p : Pruned) (ps : Prunings) → marked_by S m p ps ≡ marked_by R m p ps
  marked_by_same no_item p ps = refl
  marked_by_same (an_item i) p ps = refl
  marked_by_same (a_declarator c) p ps = refl

  mutual
    unfolding marked

    pub marked_same : (p : Spot) (t : Tree) → Agree t → marked S p t ≡ marked R p t
    marked_same p (node h xs n ts) f = ap (prune h xs n) (all_marked_same (role h p) 0 ts (agree_kids h xs n ts f))

    all_marked_same : (r : Role) (i : ℕ) (ts : Trees) → AllAgree ts → all_marked S r i ts ≡ all_marked R r i ts
    all_marked_same r i none f = refl
    all_marked_same r i (t ▸ ts) f =
        ap (λ m. marked_by S m (marked S (spot_below r i) t) (all_marked S r (suc i) ts)) (mark_same r t (agree_first t ts f))
        ∙ ap (λ q. marked_by S (mark R r t) q (all_marked S r (suc i) ts)) (marked_same (spot_below r i) t (agree_first t ts f))
        ∙ ap (marked_by S (mark R r t) (marked R (spot_below r i) t)) (all_marked_same r (suc i) ts (agree_rest t ts f))
        ∙ marked_by_same (mark R r t) (marked R (spot_below r i) t) (all_marked R r (suc i) ts)
