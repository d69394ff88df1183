-- What a statement declares: its names in order, and those that it hoists in any.
use Rattle.std.specs.Prelude.{◌≡◌, refl, ◌||◌, ◌&&◌, not, Bool, true, false, List, [], ◌∷◌, ◌++◌}
use Rattle.std.proofs.Common.{ap, ◌∙◌, sym, subst}
use Rattle.mini_model.specs.declared.name.Name.{Name}
use Rattle.mini_model.specs.Tree.{Tree, shape_of}
use Rattle.mini_laws.specs.declared.names.Use.{Use}
use Rattle.mini_laws.specs.declared.names.Use.TheVariants.{Hoisted}
use Rattle.mini_laws.specs.declared.names.Declared.TheVariants as declared
use Rattle.mini_laws.specs.DeclaredNames.{names_of}
use Rattle.mini_laws.specs.Resolved.{Environment}
use Rattle.mini_laws.specs.Scoped.{Scoped}
use Rattle.mini_laws.specs.Early.{Path, declarations, is_function_shape, statement_declarations}
use Rattle.mini_kept.specs.SameNames.{is_name, is_among, SameNames, first_symbol, SameScope, NoMoreClash}
use Rattle.mini_kept.proofs.Clashes.{no_more_same, no_more_both, no_more_names}
use Rattle.mini_kept.proofs.Hoisting.{hoisted_scoped}
use Rattle.mini_kept.proofs.SameScopes.{scope_both, scope_of_names}
use Rattle.mini_kept.proofs.Unplaced.{declared_is, declared_same}

-- ---- names

pub among_both : (xs ys : List Name) (z : Name) → is_among (xs ++ ys) z ≡ (is_among xs z || is_among ys z)
among_both [] ys z = refl
among_both (x ∷ xs) ys z = ap (λ b. is_name x z || b) (among_both xs ys z) ∙ grouped (is_name x z) (is_among xs z) (is_among ys z)
  where
    grouped : (a b c : Bool) → (a || (b || c)) ≡ ((a || b) || c)
    grouped true b c = refl
    grouped false b c = refl

pub same_both : (xs ys xs' ys' : List Name) → SameNames xs xs' → SameNames ys ys' → SameNames (xs ++ ys) (xs' ++ ys')
same_both xs ys xs' ys' e f z = among_both xs ys z ∙ (λ k. e z k || f z k) ∙ sym (among_both xs' ys' z)

-- those of two in turn
pub same_turned : (xs ys : List Name) → SameNames (xs ++ ys) (ys ++ xs)
same_turned xs ys z = among_both xs ys z ∙ turned (is_among xs z) (is_among ys z) ∙ sym (among_both ys xs z)
  where
    turned : (a b : Bool) → (a || b) ≡ (b || a)
    turned true true = refl
    turned true false = refl
    turned false true = refl
    turned false false = refl

-- once in place of twice
pub same_twice : (xs : List Name) → SameNames xs (xs ++ xs)
same_twice xs z = twice (is_among xs z) ∙ sym (among_both xs xs z)
  where
    twice : (a : Bool) → a ≡ (a || a)
    twice true = refl
    twice false = refl

-- a scoped statement with the same names makes the same scope
pub statement_scope : (v : Use) (env : Environment) (t u : Tree) → Scoped v env t → names_of declared.Lexical u ≡ names_of declared.Lexical t → SameNames (names_of declared.Hoisted u) (names_of declared.Hoisted t)
    → SameScope (names_of declared.Lexical u ++ names_of declared.Hoisted u) (names_of declared.Lexical t ++ names_of declared.Hoisted t)
statement_scope v env t u a e f =
    scope_both (names_of declared.Lexical u) (names_of declared.Hoisted u) (names_of declared.Lexical t) (names_of declared.Hoisted t) (λ s. ap (first_symbol s) e)
    (scope_of_names Hoisted env (names_of declared.Hoisted t) (names_of declared.Hoisted u) (hoisted_scoped v env t a) f)

-- ---- declarations

pub no_more_hoisted : (p q : Path) (t u : Tree) → SameNames (names_of declared.Hoisted u) (names_of declared.Hoisted t) → NoMoreClash (declarations declared.Hoisted false p u) (declarations declared.Hoisted false q t)
no_more_hoisted p q t u e = no_more_names (declarations declared.Hoisted false q t) (declarations declared.Hoisted false p u) (names_of declared.Hoisted t) (names_of declared.Hoisted u) (declared_is declared.Hoisted false q t) (declared_is declared.Hoisted false p u) e

pub no_more_statement : (b : Bool) (p q : Path) (t u : Tree) → is_function_shape (shape_of u) ≡ is_function_shape (shape_of t) → names_of declared.Lexical u ≡ names_of declared.Lexical t → SameNames (names_of declared.Hoisted u) (names_of declared.Hoisted t) → NoMoreClash (statement_declarations b p u) (statement_declarations b q t)
no_more_statement b p q t u s e f =
    let l = not (b && is_function_shape (shape_of t)) in
    no_more_both (declarations declared.Lexical l q t) (declarations declared.Lexical (not (b && is_function_shape (shape_of u))) p u) (declarations declared.Hoisted false q t) (declarations declared.Hoisted false p u)
    (subst (λ c. NoMoreClash (declarations declared.Lexical (not (b && c)) p u) (declarations declared.Lexical l q t)) (sym s) (no_more_same (declarations declared.Lexical l q t) (declarations declared.Lexical l p u) (declared_same declared.Lexical l p q t u e)))
    (no_more_hoisted p q t u f)
