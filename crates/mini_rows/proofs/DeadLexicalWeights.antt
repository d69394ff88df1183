-- What is left of a class, a `let` or a `const` that never runs is lighter, and may stand where that did.
use Rattle.std.proofs.Common.{◌≡◌, Bool, true, false, List, [], ◌∷◌, refl, ◌∙◌, inl, arith}
use Rattle.std.specs.Prelude.{◌&&◌, nat_le}
use Rattle.std.proofs.lemmas.Bool.{le-leb}
use Rattle.mini_model.specs.declared.kind.VariableDeclarationKind.{VariableDeclarationKind}
use Rattle.mini_model.specs.declared.kind.VariableDeclarationKind.TheVariants.{Const}
use Rattle.mini_model.specs.declared.name.Name.{Name}
use Rattle.mini_model.specs.declared.place.Position.TheVariants.{Stmt, StatementList}
use Rattle.mini_model.specs.declared.seat.StmtSeat.TheVariants as stmt_seat
use Rattle.mini_model.specs.Tree.{Tree, Trees, none, ◌▸◌, count, listed, shape_of}
use Rattle.mini_model.specs.Paths.{append}
use Rattle.mini_model.specs.Weight.{weight}
use Rattle.mini_accept.specs.WellShaped.{Depth, a_declarator, a_pattern, one, each, fits, fill, is_name}
use Rattle.mini_laws.specs.declared.names.Declared.TheVariants as declared
use Rattle.mini_laws.specs.DeclaredNames.{names_of}
use Rattle.mini_kept.proofs.Bools.{both}
use Rattle.mini_rows.specs.Lists.{declaration, binding, declarator}
use Rattle.mini_rows.specs.DeadLexicals.{kind_left, initializer, declarators, declared_with, faded, Row77Lexical}
use Rattle.mini_rows.proofs.ListShapes.{Fits, AllFit, Fitting, first_fits, more_fit, append_fits, both_fit, like, statement, declaration_anywhere}
use Rattle.mini_rows.proofs.ListWeights.{Falls, chooses, replaced, total_append, list_is, capped_lighter}
use Rattle.mini_rows.proofs.UnreachedNames.{AllNamed, names_named}

-- ---- weight

several_choose : (t : Tree) (between : Trees) (u : Tree) → chooses (t ▸ append between (u ▸ none)) ≡ false
several_choose t none u = refl
several_choose t (c ▸ between) u = refl

pub lexical_falls : (a b : Trees) → Row77Lexical a b → Falls a b
lexical_falls a b r =
    let left = faded r.gone in
    let less = capped_lighter (weight StatementList (listed left)) (weight (Stmt stmt_seat.List) r.gone) r.lighter in
    let made = list_is left in
    let old = total_append r.between (r.gone ▸ none) in
    let new = total_append r.between left in
    replaced a _ b _ r.shape r.written (record { lighter = omega (arith, less, made, old, new); chosen = inl (several_choose r.first r.between r.gone); some = λ e. omega (arith, e) })

-- ---- places

module _ (strict : Bool) where
  one_fits : (k : VariableDeclarationKind) (x : Name) → is_name x.spelling ≡ true → Fits strict (one a_declarator) (declarator (binding x) (initializer k))
  one_fits Const x e = both (fits strict (one a_pattern) (binding x)) true (both (is_name x.spelling && true) true (both (is_name x.spelling) true e refl) refl) refl
  one_fits k x e = both (fits strict (one a_pattern) (binding x)) true (both (is_name x.spelling && true) true (both (is_name x.spelling) true e refl) refl) refl

  all_fit : (k : VariableDeclarationKind) (xs : List Name) → AllNamed xs → AllFit strict (one a_declarator) (declarators k xs)
  all_fit k [] a = refl
  all_fit k (x ∷ xs) a = more_fit strict (one a_declarator) (declarator (binding x) (initializer k)) (declarators k xs) (one_fits k x a.0) (all_fit k xs a.1)

  left_fits : (k : VariableDeclarationKind) (d : Depth) (xs : List Name) → AllNamed xs → AllFit strict (statement d) (declared_with k xs)
  left_fits k d [] a = refl
  left_fits k d (x ∷ xs) a =
      let ds = declarators k (x ∷ xs) in
      more_fit strict (statement d) (declaration k ds) none
      (declaration_anywhere strict d k ds ∙ both (nat_le 1 (count ds)) (fill strict (each (one a_declarator)) ds && true) (le-leb 1 (count ds) (omega arith)) (both (fill strict (each (one a_declarator)) ds) true (all_fit k (x ∷ xs) a) refl))
      refl

  behind_fits : (t : Tree) (between : Trees) (u : Tree) → Fitting strict (t ▸ append between (u ▸ none)) (t ▸ append between (faded u))
  behind_fits t between u d e =
      let (first, rest) = first_fits strict (statement d) t (append between (u ▸ none)) e in
      let (others, last) = both_fit strict (statement d) between (u ▸ none) rest in
      let (own, none_more) = first_fits strict (statement d) u none last in
      more_fit strict (statement d) t (append between (faded u)) first
      (append_fits strict (statement d) between (faded u) others (left_fits (kind_left (shape_of u)) d (names_of declared.Lexical u) (names_named declared.Lexical strict (statement d) u own)))

  pub lexical_fits : (a b : Trees) → Row77Lexical a b → Fitting strict a b
  lexical_fits a b r = like strict r.shape r.written (behind_fits r.first r.between r.gone)
