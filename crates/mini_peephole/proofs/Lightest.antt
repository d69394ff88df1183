-- A program that is not empty weighs at least 2: each statement of it does, and each directive.
use Rattle.std.specs.Prelude.{◌≡◌, ◌≤◌, refl, Bool, true, false, [], ◌∷◌, None}
use Rattle.std.proofs.Common.{ap, sym, true≢false, arith}
use Rattle.mini_model.specs.declared.place.Position.TheVariants.{Stmt, StatementList}
use Rattle.mini_model.specs.declared.seat.StmtSeat.TheVariants as stmt_seat
use Rattle.mini_model.specs.declared.shape.Shape.TheVariants as shape
use Rattle.mini_model.specs.Tree.{Tree, node, none, ◌▸◌}
use Rattle.mini_model.specs.Weight.{weight, program_weight}
use Rattle.mini_accept.specs.WellShaped.{Depth, in_module, in_body, nested, a_program, a_statement, one, many, filling_by, none_if, in_depth, is_sloppy_function, class_of, is_whole, is_strict_in, fits, IsWellShaped}
use Rattle.mini_kept.proofs.Bools.{left, right}
use Rattle.mini_kept.proofs.Expressions.{refused_here}

-- what is no statement stands in no list of them
none_there : (b : Bool) (d : Depth) → none_if b (in_depth d None) ≡ None
none_there true d = refl
none_there false in_module = refl
none_there false in_body = refl
none_there false nested = refl

statement_heavy : (strict : Bool) (d : Depth) (t : Tree) → fits strict (one (a_statement d)) t ≡ true → 2 ≤ weight (Stmt stmt_seat.List) t
statement_heavy strict d (node shape.EmptyStatement xs n ts) e = omega arith
statement_heavy strict d (node shape.DebuggerStatement xs n ts) e = omega arith
statement_heavy strict d (node shape.ExpressionStatement xs n ts) e = omega arith
statement_heavy strict d (node shape.BlockStatement xs n ts) e = omega arith
statement_heavy strict d (node shape.LabeledStatement xs n ts) e = omega arith
statement_heavy strict d (node shape.BreakStatement xs n ts) e = omega arith
statement_heavy strict d (node shape.ContinueStatement xs n ts) e = omega arith
statement_heavy strict d (node shape.ReturnStatement xs n ts) e = omega arith
statement_heavy strict d (node shape.ThrowStatement xs n ts) e = omega arith
statement_heavy strict d (node shape.IfStatement xs n ts) e = omega arith
statement_heavy strict d (node shape.SwitchStatement xs n ts) e = omega arith
statement_heavy strict d (node shape.TryStatement xs n ts) e = omega arith
statement_heavy strict d (node shape.WhileStatement xs n ts) e = omega arith
statement_heavy strict d (node shape.DoWhileStatement xs n ts) e = omega arith
statement_heavy strict d (node shape.ForStatement xs n ts) e = omega arith
statement_heavy strict d (node shape.ForInStatement xs n ts) e = omega arith
statement_heavy strict d (node shape.ForOfStatement xs n ts) e = omega arith
statement_heavy strict d (node (shape.VariableDeclaration k) xs n ts) e = omega arith
statement_heavy strict d (node (shape.Function f g ds) xs n ts) e = omega arith
statement_heavy strict d (node (shape.Class c) xs n ts) e = omega arith
statement_heavy strict d (node shape.ImportDeclaration xs n ts) e = omega arith
statement_heavy strict d (node shape.ExportNamedDeclaration xs n ts) e = omega arith
statement_heavy strict d (node shape.ExportDefaultDeclaration xs n ts) e = omega arith
statement_heavy strict d (node shape.ExportAllDeclaration xs n ts) e = omega arith
statement_heavy strict d (node h xs n ts) e = absurd (refused_here strict (one (a_statement d)) h xs n ts (ap filling_by (none_there (is_sloppy_function strict d h) d)) e)

list_heavy : (strict : Bool) (d : Depth) (t : Tree) → fits strict (many (a_statement d)) t ≡ true → 1 ≤ weight StatementList t → 2 ≤ weight StatementList t
list_heavy strict d (node shape.Listed xs n none) e w = absurd (omega (arith, w))
list_heavy strict d (node shape.Listed xs n (t ▸ ts)) e w =
    let heavy = statement_heavy strict d t (left (fits strict (one (a_statement d)) t) _ (right (is_whole (class_of (many (a_statement d))) shape.Listed xs n (t ▸ ts)) _ e)) in
    omega (arith, heavy)
list_heavy strict d (node h xs n ts) e w = absurd (refused_here strict (many (a_statement d)) h xs n ts refl e)

pub program_heavy : (t : Tree) → IsWellShaped t → 1 ≤ program_weight t → 2 ≤ program_weight t
program_heavy (node (shape.Program m ds) xs n none) e w = absurd (true≢false (sym (right (is_whole a_program (shape.Program m ds) xs n none) _ e)))
program_heavy (node (shape.Program m []) xs n (t ▸ none)) e w =
    let below = right (is_whole a_program (shape.Program m []) xs n (t ▸ none)) _ e in
    let heavy = list_heavy (is_strict_in false (shape.Program m [])) _ t (left _ _ below) (omega (arith, w)) in
    omega (arith, heavy)
program_heavy (node (shape.Program m (d ∷ ds)) xs n (t ▸ none)) e w = omega arith
program_heavy (node (shape.Program m ds) xs n (t ▸ (u ▸ us))) e w = absurd (true≢false (sym (right _ _ (right (is_whole a_program (shape.Program m ds) xs n (t ▸ (u ▸ us))) _ e))))
program_heavy (node h xs n ts) e w = absurd (refused_here false (one a_program) h xs n ts refl e)
