-- What a node that is no declarator, or one of too few children, gives: nothing.
use Rattle.std.specs.Prelude.{◌≡◌, ◌<◌, refl, Bool, true, false, List, [], ◌∷◌, length, map}
use Rattle.std.proofs.Common.{ap, ◌∙◌, sym, subst, arith}
use Rattle.std.proofs.lemmas.Bool.{false≢true}
use Rattle.mini_model.specs.declared.name.Name.{Name}
use Rattle.mini_model.specs.declared.shape.Shape.{Shape}
use Rattle.mini_model.specs.declared.shape.Shape.TheVariants as shape
use Rattle.mini_model.specs.Tree.{Tree, Trees, shape_of, children}
use Rattle.mini_node.specs.Children.{names_of, trees_of}
use Rattle.mini_laws.specs.declared.names.Use.{Use}
use Rattle.mini_laws.specs.declared.names.Around.{Around}
use Rattle.mini_laws.specs.Resolved.{Environment}
use Rattle.mini_laws.specs.Shared.{given_values, own_pattern_writes, write_at}
use Rattle.mini_scope.specs.Declarators.{is_declarator_shape}
use Rattle.mini_context.specs.declared.mentions.Mentioned.{Mentioned}
use Rattle.mini_context.specs.Mentioned.{Joined}
use Rattle.mini_context.specs.Tables.{Marked}
use Rattle.mini_context.proofs.Joining.{joins_add}
use Rattle.mini_context.proofs.Marking.{marks_add}

few_values : (u : Use) (xs : List Name) (ts : List Tree) → length ts < 2 → given_values u shape.VariableDeclarator xs (trees_of ts) ≡ []
few_values u xs [] h = refl
few_values u xs (t ∷ []) h = refl
few_values u xs (t ∷ (r ∷ ts)) h = absurd (omega arith)

few_patterns : (u : Use) (env : Environment) (ts : List Tree) → length ts < 2 → own_pattern_writes u env shape.VariableDeclarator (trees_of ts) ≡ []
few_patterns u env [] h = refl
few_patterns u env (t ∷ []) h = refl
few_patterns u env (t ∷ (r ∷ ts)) h = absurd (omega arith)

other_values : (u : Use) (h : Shape) (xs : List Name) (ts : Trees) → is_declarator_shape h ≡ false → given_values u h xs ts ≡ []
other_values u shape.VariableDeclarator xs ts e = absurd (false≢true (sym e))
other_values u h xs ts e = refl

other_patterns : (u : Use) (env : Environment) (h : Shape) (ts : Trees) → is_declarator_shape h ≡ false → own_pattern_writes u env h ts ≡ []
other_patterns u env shape.VariableDeclarator ts e = absurd (false≢true (sym e))
other_patterns u env h ts e = refl

values_of : (u : Use) (h : Shape) (xs : List Name) (ts : Trees) → is_declarator_shape h ≡ true → given_values u h xs ts ≡ given_values u shape.VariableDeclarator xs ts
values_of u shape.VariableDeclarator xs ts e = refl
values_of u h xs ts e = absurd (false≢true e)

patterns_of : (u : Use) (env : Environment) (h : Shape) (ts : Trees) → is_declarator_shape h ≡ true → own_pattern_writes u env h ts ≡ own_pattern_writes u env shape.VariableDeclarator ts
patterns_of u env shape.VariableDeclarator ts e = refl
patterns_of u env h ts e = absurd (false≢true e)

module _ (u : Use) (a : Around) (n : Tree) where
  none_joined : (ns : List Name) (g : List Mentioned) → ns ≡ [] → Joined (map (write_at a) ns) g g
  none_joined ns g e = subst (λ r. Joined (map (write_at a) r) g g) (sym e) (joins_add.nothing g)

  pub few_joined : (ts : List Tree) (g : List Mentioned) → trees_of ts ≡ children n → length ts < 2 → Joined (map (write_at a) (given_values u shape.VariableDeclarator (names_of n) (children n))) g g
  few_joined ts g e h = none_joined (given_values u shape.VariableDeclarator (names_of n) (children n)) g (ap (given_values u shape.VariableDeclarator (names_of n)) (sym e) ∙ few_values u (names_of n) ts h)

  pub other_joined : (v : Bool) (g : List Mentioned) → v ≡ is_declarator_shape (shape_of n) → v ≡ false → Joined (map (write_at a) (given_values u (shape_of n) (names_of n) (children n))) g g
  other_joined v g e f = none_joined (given_values u (shape_of n) (names_of n) (children n)) g (other_values u (shape_of n) (names_of n) (children n) (sym e ∙ f))

  pub declarator_joined : (v : Bool) (g g' : List Mentioned) → v ≡ is_declarator_shape (shape_of n) → v ≡ true → Joined (map (write_at a) (given_values u shape.VariableDeclarator (names_of n) (children n))) g g' → Joined (map (write_at a) (given_values u (shape_of n) (names_of n) (children n))) g g'
  declarator_joined v g g' e f j = subst (λ r. Joined (map (write_at a) r) g g') (sym (values_of u (shape_of n) (names_of n) (children n) (sym e ∙ f))) j

module _ (u : Use) (env : Environment) where
  pub few_marked : (ts : List Tree) (g : List Bool) → length ts < 2 → Marked (own_pattern_writes u env shape.VariableDeclarator (trees_of ts)) g g
  few_marked ts g h = subst (λ r. Marked r g g) (sym (few_patterns u env ts h)) (marks_add.nothing g)

  pub other_marked : (n : Tree) (v : Bool) (g : List Bool) → v ≡ is_declarator_shape (shape_of n) → v ≡ false → Marked (own_pattern_writes u env (shape_of n) (children n)) g g
  other_marked n v g e f = subst (λ r. Marked r g g) (sym (other_patterns u env (shape_of n) (children n) (sym e ∙ f))) (marks_add.nothing g)

  pub declarator_marked : (n : Tree) (v : Bool) (ts : List Tree) (g g' : List Bool) → v ≡ is_declarator_shape (shape_of n) → v ≡ true → trees_of ts ≡ children n → Marked (own_pattern_writes u env shape.VariableDeclarator (trees_of ts)) g g' → Marked (own_pattern_writes u env (shape_of n) (children n)) g g'
  declarator_marked n v ts g g' e f i m = subst (λ r. Marked r g g') (ap (own_pattern_writes u env shape.VariableDeclarator) i ∙ sym (patterns_of u env (shape_of n) (children n) (sym e ∙ f))) m
