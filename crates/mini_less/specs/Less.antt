-- An expression that is built anew of the parts of another holds nothing of which the other has
-- nothing, whatever is asked of plain heads.
use Rattle.std.specs.Prelude.{ℕ, ◌≡◌, Bool, true, false, List, [], ◌∷◌}
use Rattle.mini_laws.specs.declared.names.Declared.TheVariants as declared
use Rattle.mini_laws.specs.DeclaredNames.{names_of}
use Rattle.mini_laws.specs.Early.{clashing, scope_declarations}
use Rattle.mini_model.specs.declared.kind.PropertyKind.{PropertyKind}
use Rattle.mini_model.specs.declared.kind.PropertyKind.TheVariants.{Init}
use Rattle.mini_model.specs.declared.name.Name.{Name}
use Rattle.mini_model.specs.declared.shape.Shape.{Shape}
use Rattle.mini_model.specs.declared.shape.Shape.TheVariants as shape
use Rattle.mini_model.specs.Tree.{Tree, Trees, none, ◌▸◌, child_or_absent}
use Rattle.mini_accept.specs.WellShaped.{Slot, fits}
use Rattle.mini_laws.specs.declared.names.Use.{Use}
use Rattle.mini_laws.specs.declared.names.Use.TheVariants.{Read, Write, ReadWrite}
use Rattle.mini_laws.specs.Resolved.{Environment}
use Rattle.mini_laws.specs.ScopeList.{any_has_eval}
use Rattle.mini_shrink.specs.Pace.{Setting}
use Rattle.mini_model.specs.declared.place.Position.TheVariants.{Expr}
use Rattle.mini_model.specs.declared.seat.Seat.{Seat}
use Rattle.mini_laws.specs.Value.{Declared}
use Rattle.mini_shrink.specs.Questions.{Own, finds}
use Rattle.mini_shrink.specs.Shrinking.{AsksLess}
use Rattle.mini_shrink.specs.Facts.{Fact, question}
use Rattle.mini_rows.specs.Lists.{is_unscoped_shape}
use Rattle.mini_rows.specs.Sketches.{Sketch, Parts, Head, Block, shape_by, filled, Free, rearranges_expression}
use Rattle.mini_rows.specs.Arranged.{AreLoose}

-- no lexical name stands in a block, and no two of its names clash
abbrev pub Plain : Head → Trees → Type 0
Plain Block ts = (names_of declared.Lexical (child_or_absent ts 0) ≡ []) × (clashing [] (scope_declarations (shape_by Block) [] ts) ≡ [])
Plain h ts = Unit {0}

-- a loop: `for`, `while`, `do`, `for..in` and `for..of`
pub data Frame : Type 0 where
  AFor : Frame
  AWhile : Frame
  ADo : Frame
  AnIn : Frame
  AnOf : Frame

abbrev pub frame_shape : Frame → Shape
frame_shape AFor = shape.ForStatement
frame_shape AWhile = shape.WhileStatement
frame_shape ADo = shape.DoWhileStatement
frame_shape AnIn = shape.ForInStatement
frame_shape AnOf = shape.ForOfStatement

-- the names that its head declares, of its first part
abbrev pub headed : Frame → Tree → List Name
headed AWhile i = []
headed ADo i = []
headed f i = names_of declared.Lexical i

-- plain heads tell nothing, what an unscoped statement tells doesn't depend on where it stands as
-- one, and a name that is updated tells no more than one that is assigned to and one that is read;
-- whether a property is a method or an accessor isn't asked; and of a loop no more than whether a
-- direct eval stands under the names of its head
pub record TellsPlainly (o : Own) : Type 0 where
  pub plain : (c : Setting) (env : Environment) (h : Head) (ts : Trees) → Plain h ts → o c env (shape_by h) [] 0 ts ≡ false
  pub moved : (c : Setting) (v : Use) (b : Bool) (env : Environment) (h : Shape) (xs : List Name) (n : ℕ) (ts : Trees) → is_unscoped_shape h ≡ true → o c env h xs n ts ≡ o (record c { used = v; is_body = b }) env h xs n ts
  pub property : (c : Setting) (env : Environment) (kind : PropertyKind) (is_method is_shorthand is_computed : Bool) (ts : Trees) → o c env (shape.ObjectProperty kind is_method is_shorthand is_computed) [] 0 ts ≡ o c env (shape.ObjectProperty Init false is_shorthand is_computed) [] 0 ts
  pub looped : (c : Setting) (env : Environment) (f : Frame) (i j : Tree) (ts us : Trees) → headed f j ≡ headed f i → (any_has_eval (j ▸ us) ≡ true → any_has_eval (i ▸ ts) ≡ true) → o c env (frame_shape f) [] 0 (j ▸ us) ≡ true → o c env (frame_shape f) [] 0 (i ▸ ts) ≡ true
  pub updated : (c : Setting) (env : Environment) (x : Name) → o (record c { used = Write }) env shape.Identifier (x ∷ []) 0 none ≡ false → o (record c { used = Read }) env shape.Identifier (x ∷ []) 0 none ≡ false → o (record c { used = ReadWrite }) env shape.Identifier (x ∷ []) 0 none ≡ false

abbrev pub ExpressionsFindLess : Type 0
ExpressionsFindLess =
    (o : Own) → TellsPlainly o → (f : Free) (ps : Parts) → AreLoose ps f → (s r : Sketch) → rearranges_expression f s r ≡ true → (n w : Tree) → n ≡ filled ps s → w ≡ filled ps r
    → (strict : Bool) (x : Slot) → fits strict x n ≡ true → (c : Setting) (env : Environment) → c.used ≡ Read → c.is_body ≡ false → c.ordered ≡ false → finds o c env w ≡ true → finds o c env n ≡ true

-- so is each fact
abbrev pub ArrangedAsksLess : Type 0
ArrangedAsksLess =
    (f : Free) (ps : Parts) → AreLoose ps f → (s r : Sketch) → rearranges_expression f s r ≡ true → (q : Seat) (n w : Tree) → n ≡ filled ps s → w ≡ filled ps r
    → (g : Fact) (b k : ℕ) → AsksLess (question g b k) (Declared k) (Expr q) n w
