-- Each shape that may stand where a statement may comes back, where smaller trees do.
use Rattle.std.proofs.Common.{◌≡◌, ℕ, List, [], ◌∷◌, refl, Bool, true, false, ◌&&◌}
use Rattle.std.specs.Prelude.{Option, Some, None, not}
use Rattle.std.proofs.lemmas.Bool.{false≢true, true≢false}
use Rattle.mini_model.specs.declared.shape.Shape.{Shape}
use Rattle.mini_model.specs.declared.shape.Shape.TheVariants as shape
use Rattle.mini_model.specs.Tree.{Trees}
use Rattle.mini_accept.specs.WellShaped as shaped
use Rattle.mini_accept.specs.WellShaped.{Class, Slot, Depth, in_module, in_body, nested, a_statement, these, filling_by, in_depth, is_sloppy_function, none_if}
use Rattle.mini_accept.specs.Standing.{is_nested}
use Rattle.mini_writer.proofs.Fitting.{Filled, NodeFits, unless_filled}
use Rattle.mini_writer.proofs.Slots.{Back}
use Rattle.mini_writer.proofs.AcceptedBodies.{BodiesBack}
use Rattle.mini_writer.proofs.Statements as statement
use Rattle.mini_writer.proofs.Statements.{Comes, stands_in}
use Rattle.mini_writer.proofs.Functions as function
use Rattle.mini_writer.proofs.Modules as imports

-- what stands in a module alone
with_module : (k : ℕ) (strict : Bool) (slots : List Slot) (ts : Trees) (P : Depth → Type 0) → (Filled k strict (these slots) ts → P in_module) → (depth : Depth) → Filled k strict (filling_by (in_depth depth (Some slots))) ts → P depth
with_module k strict slots ts P f in_module w = f w
with_module k strict slots ts P f in_body w = absurd (false≢true w.fills)
with_module k strict slots ts P f nested w = absurd (false≢true w.fills)

pub no_statement : (k : ℕ) (strict b : Bool) (depth : Depth) (ts : Trees) → Filled k strict (filling_by (none_if b (in_depth depth None))) ts → ⊥
no_statement k strict true depth ts w = false≢true w.fills
no_statement k strict false in_module ts w = false≢true w.fills
no_statement k strict false in_body ts w = false≢true w.fills
no_statement k strict false nested ts w = false≢true w.fills

not_sloppy : (strict : Bool) (depth : Depth) (g : Bool) (ss : List (List ℕ)) → is_sloppy_function strict depth (shape.Function true g ss) ≡ false → (not strict && is_nested (a_statement depth)) ≡ false
not_sloppy true depth g ss e = refl
not_sloppy false in_module g ss e = refl
not_sloppy false in_body g ss e = refl
not_sloppy false nested g ss e = absurd (true≢false e)

module _ (k : ℕ) (back : Back k) (bodies : BodiesBack k) (strict : Bool) (depth : Depth) where
  -- under the test of functions of sloppy code
  unless : (b : Bool) (o : Option (List Slot)) (inner : Bool) (ts : Trees) → Filled k inner (filling_by (none_if b o)) ts → Filled k inner (filling_by o) ts
  unless b o inner ts w = (unless_filled k inner b o ts w).1

  pub statement_comes : (h : Shape) (ts : Trees) → NodeFits k strict (a_statement depth) h [] ts → Comes k strict (a_statement depth) h ts
  statement_comes shape.EmptyStatement ts w = statement.empty k back strict depth ts w.filled
  statement_comes shape.DebuggerStatement ts w = statement.debugger k back strict depth ts w.filled
  statement_comes shape.ExpressionStatement ts w = statement.says k back strict depth ts w.filled
  statement_comes shape.BlockStatement ts w = statement.block k back strict (a_statement depth) (λ d. refl) (λ d. stands_in k back strict depth _ refl) ts w.filled
  statement_comes shape.LabeledStatement ts w = statement.labeled k back strict depth ts w.filled
  statement_comes shape.BreakStatement ts w = statement.break k back strict depth ts w.filled
  statement_comes shape.ContinueStatement ts w = statement.continue k back strict depth ts w.filled
  statement_comes shape.ReturnStatement ts w = statement.return k back strict depth ts w.filled
  statement_comes shape.ThrowStatement ts w = statement.throw k back strict depth ts w.filled
  statement_comes shape.IfStatement ts w = statement.if_statement k back strict depth ts w.filled
  statement_comes shape.SwitchStatement ts w = statement.switch k back strict depth ts w.filled
  statement_comes shape.TryStatement ts w = statement.try k back strict depth ts w.filled w.parts
  statement_comes shape.WhileStatement ts w = statement.while k back strict depth ts w.filled
  statement_comes shape.DoWhileStatement ts w = statement.do_while k back strict depth ts w.filled
  statement_comes shape.ForStatement ts w = statement.for k back strict depth ts w.filled
  statement_comes shape.ForInStatement ts w = statement.for_in k back strict depth ts w.filled
  statement_comes shape.ForOfStatement ts w = statement.for_of k back strict depth ts w.filled
  statement_comes (shape.VariableDeclaration v) ts w = statement.variables k back strict (a_statement depth) v (λ d. stands_in k back strict depth _ refl) ts w.parts (unless (is_sloppy_function strict depth (shape.VariableDeclaration v)) (Some (shaped.many shaped.a_declarator ∷ [])) strict ts w.filled)
  statement_comes (shape.Function true g ss) ts w =
      let (refused, filled) = unless_filled k _ (is_sloppy_function strict depth (shape.Function true g ss)) _ ts w.filled in
      function.function_declaration k back bodies strict (a_statement depth) g ss w.fields w.field_units true refl (not_sloppy strict depth g ss refused) (λ a params b. stands_in k back strict depth _ refl) ts filled
  statement_comes (shape.Class true) ts w = function.class_declaration k back strict (a_statement depth) true refl (λ a b d. stands_in k back strict depth _ refl) ts (unless (is_sloppy_function strict depth (shape.Class true)) (Some (shaped.one shaped.a_binding ∷ shaped.one_or_absent (shaped.an_inner shaped.an_expression) ∷ shaped.one shaped.a_class_body ∷ shaped.one_or_absent shaped.a_binding ∷ [])) true ts w.filled) w.parts
  statement_comes shape.ImportDeclaration ts w = with_module k strict _ ts (λ q. Comes k strict (a_statement q) shape.ImportDeclaration ts) (imports.import k back strict ts) depth (unless _ _ strict ts w.filled)
  statement_comes shape.ExportNamedDeclaration ts w = with_module k strict _ ts (λ q. Comes k strict (a_statement q) shape.ExportNamedDeclaration ts) (λ f. imports.export_named k back strict ts f w.parts) depth (unless _ _ strict ts w.filled)
  statement_comes shape.ExportDefaultDeclaration ts w = with_module k strict _ ts (λ q. Comes k strict (a_statement q) shape.ExportDefaultDeclaration ts) (imports.export_default k back strict ts) depth (unless _ _ strict ts w.filled)
  statement_comes shape.ExportAllDeclaration ts w = with_module k strict _ ts (λ q. Comes k strict (a_statement q) shape.ExportAllDeclaration ts) (imports.export_all k back strict ts) depth (unless _ _ strict ts w.filled)
  statement_comes h ts w = absurd (no_statement k _ _ depth ts w.filled)
