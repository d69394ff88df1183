-- What a question about a name tells of statements that hold expressions or declare a `var`.
use Rattle.std.specs.Prelude.{◌≡◌, false, List, [], ◌∷◌}
use Rattle.mini_model.specs.declared.kind.VariableDeclarationKind.{VariableDeclarationKind}
use Rattle.mini_model.specs.declared.kind.VariableDeclarationKind.TheVariants.{Var}
use Rattle.mini_model.specs.declared.name.Name.{Name}
use Rattle.mini_model.specs.declared.shape.Shape.TheVariants as shape
use Rattle.mini_model.specs.Paths.{append}
use Rattle.mini_model.specs.Tree.{Tree, Trees, none, ◌▸◌, listed, absent, is_absent}
use Rattle.mini_laws.specs.declared.names.Declared.TheVariants as declared
use Rattle.mini_laws.specs.declared.names.Use.TheVariants.{Read, Write, Hoisted, Headed}
use Rattle.mini_laws.specs.DeclaredNames.{names_of}
use Rattle.mini_laws.specs.Resolved.{Environment}
use Rattle.mini_shrink.specs.Pace.{Setting}
use Rattle.mini_shrink.specs.Questions.{Own, finds}
use Rattle.mini_rows.specs.Lists.{binding, declarator}
use Rattle.mini_less.specs.Less.{Frame, frame_shape, headed, TellsPlainly}

-- what holds of each tree, and of each name
abbrev pub Every : (Tree → Type 0) → Trees → Type 0
Every P none = Unit {0}
Every P (t ▸ ts) = P t × Every P ts

abbrev pub Names : (Name → Type 0) → List Name → Type 0
Names P [] = Unit {0}
Names P (x ∷ xs) = P x × Names P xs

-- a loop whose head declares no lexical name tells nothing, a `switch` the same whatever it goes
-- over, as long as that declares nothing, and a `var` nothing besides its declarators. A
-- declaration that stands in a list tells no more than two of its kind that have its declarators.
-- Where a statement tells nothing, a `var` without a value tells nothing of the names that it
-- hoists. A declarator gives a name a value as an assignment does; which value doesn't matter
pub record TellsLists (o : Own) : Type 0 where
  pub plainly : TellsPlainly o
  pub unheaded : (c : Setting) (env : Environment) (f : Frame) (i : Tree) (ts : Trees) → headed f i ≡ [] → o c env (frame_shape f) [] 0 (i ▸ ts) ≡ false
  pub switched : (c : Setting) (env : Environment) (d e cases : Tree) → names_of declared.Lexical d ≡ [] → names_of declared.Lexical e ≡ [] → o c env shape.SwitchStatement [] 0 (d ▸ cases ▸ none) ≡ false → o c env shape.SwitchStatement [] 0 (e ▸ cases ▸ none) ≡ false
  pub hoisted : (c : Setting) (env : Environment) (ts : Trees) → o c env (shape.VariableDeclaration Var) [] 0 ts ≡ false
  pub joined : (c : Setting) (env : Environment) (kind : VariableDeclarationKind) (ds es : Trees) → c.used ≡ Read → o c env (shape.VariableDeclaration kind) [] 0 (listed ds ▸ none) ≡ false → o c env (shape.VariableDeclaration kind) [] 0 (listed es ▸ none) ≡ false → o c env (shape.VariableDeclaration kind) [] 0 (listed (append ds es) ▸ none) ≡ false
  pub bare : (c : Setting) (env : Environment) (x : Name) → c.used ≡ Hoisted → o c env shape.VariableDeclarator [] 0 (binding x ▸ (absent ▸ none)) ≡ false
  pub given : (c : Setting) (env : Environment) (x : Name) (v : Tree) → o (record c { used = Write }) env shape.Identifier (x ∷ []) 0 none ≡ false → o c env shape.VariableDeclarator [] 0 (binding x ▸ (v ▸ none)) ≡ false
  pub valued : (c : Setting) (env : Environment) (id d e : Tree) → is_absent d ≡ is_absent e → o c env shape.VariableDeclarator [] 0 (id ▸ (d ▸ none)) ≡ false → o c env shape.VariableDeclarator [] 0 (id ▸ (e ▸ none)) ≡ false
  pub headed : (c : Setting) (env : Environment) (x : Name) → o (record c { used = Hoisted }) env shape.BindingIdentifier (x ∷ []) 0 none ≡ false → o (record c { used = Headed }) env shape.BindingIdentifier (x ∷ []) 0 none ≡ false
  pub initialised : (c : Setting) (env : Environment) (kind : VariableDeclarationKind) (id d e : Tree) (ds : Trees) → c.used ≡ Read → o c env (shape.VariableDeclaration kind) [] 0 (listed (declarator id d ▸ ds) ▸ none) ≡ false → o c env (shape.VariableDeclaration kind) [] 0 (listed (declarator id e ▸ ds) ▸ none) ≡ false
  pub left : (c : Setting) (env : Environment) (t : Tree) → finds o c env t ≡ false → (k : Setting) (later : Environment) → k.used ≡ Hoisted → k.around ≡ c.around → Names (λ x. o k later shape.BindingIdentifier (x ∷ []) 0 none ≡ false) (names_of declared.Hoisted t)
