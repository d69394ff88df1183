-- What each shape does where this is asked of it: its command, and by it the meaning of a tree.
use Rattle.std.specs.Prelude.{ℕ, zero, suc, true, false, List, [], Some, None}
use Rattle.mini_model.specs.declared.shape.Shape.{Shape}
use Rattle.mini_model.specs.declared.shape.Shape.TheVariants as shape
use Rattle.mini_model.specs.Tree.{Tree, Trees, node, none, ◌▸◌}
use Rattle.mini_laws.specs.Value.{Undefined, Null, Boolean, Number, String, variables}
use Rattle.mini_laws.specs.State.{Anything, ABoolean, AnObject, Create, DebuggerOf, Entry, Hole, Thrown, State, Completion, out, Environment}
use Rattle.mini_laws.specs.Demand.{FunctionTail, Demand, As, AnEntry, Items, Stat, Binds, Catches, Request, Reply, says}
use Rattle.mini_laws.specs.Command.{self, Command, ret, fails, stuck, op, kid, then, bind, emit, emit_mine, run}
use Rattle.mini_laws.specs.Naming.{NameKind, kinds, has_kind, Facts, first_facts, nth_absent, texts_all, summaries, facts, naming}
use Rattle.mini_laws.specs.Asking.{pass, demand}
use Rattle.mini_laws.specs.Replies.{valued, passing, statement}
use Rattle.mini_laws.specs.Expressions.{first_kind, unary_step, binary_step, logical_step, conditional_step, sequence_step, call_step, new_step, member_step, chain_step, array_step, object_step, property_step, template_step, yield_step}
use Rattle.mini_laws.specs.Targets.{identifier_step, as_member, carried, private_member, super_member, chained_carries, pattern_target, assignment_step, update_step}
use Rattle.mini_laws.specs.Lists.{spread_step, list_step}
use Rattle.mini_laws.specs.Statements.{body_step, block_in, if_in, switch_step, case_step, break_step, continue_step, return_step, throw_step, label_step, try_step, catch_in}
use Rattle.mini_laws.specs.Loops.{while_step, do_step, for_step, for_in_step, for_of_step}
use Rattle.mini_laws.specs.Declarations.{binding_name, binding_pattern, declaration_step, declarator_step, class_declaration, default_step}

-- an absent part: a value that isn't there is undefined, an element a hole, and a handler lets the
-- throw go on
abbrev pub absent_step : {σ : ℕ → Demand} (q : Demand) (r : Request q) → Command σ (Reply q r)
absent_step (As w) r = ret (says w Undefined)
absent_step AnEntry r = ret Hole
absent_step Items r = ret []
absent_step (Stat t) r = ret tt
absent_step (Binds lexical) v = ret tt
absent_step Catches v = fails (Thrown v)
absent_step q r = stuck

-- an item of a list that is no plain expression
abbrev pub entry : {σ : ℕ → Demand} (q : Demand) (r : Request q) → Command σ Entry → Command σ (Reply q r)
entry AnEntry r c = bind c ret
entry q r c = stuck

-- a shape that no parent asks anything, as a parameter's, is stuck
unfoldable pub step : (h : Shape) (ks : List NameKind) (fs : List Facts) (q : Demand) (r : Request q) → Command (demand h fs q) (Reply q r)
step shape.Absent ks fs q r = absent_step q r
step shape.Listed ks fs q r = list_step fs q r
step shape.InnerExpression ks fs q r = kid 0 r (then ret)
-- bodies
step (shape.Program is_module directives) ks fs q r = statement q r (λ labels. body_step is_module None fs)
step shape.FunctionBody ks fs q r = statement q r (λ labels. body_step false (Some FunctionTail) fs)
step shape.StaticBlock ks fs q r = statement q r (λ labels. body_step false None fs)
-- statements
step shape.ExpressionStatement ks fs q r = statement q r (λ labels. kid 0 tt (then ret))
step shape.EmptyStatement ks fs q r = statement q r (λ labels. ret tt)
step shape.DebuggerStatement ks fs q r = statement q r (λ labels. bind (emit DebuggerOf []) (λ v. ret tt))
step shape.BlockStatement ks fs q r = block_in fs q r
step shape.LabeledStatement ks fs q r = statement q r label_step
step shape.BreakStatement ks fs q r = statement q r (λ labels. break_step)
step shape.ContinueStatement ks fs q r = statement q r (λ labels. continue_step)
step shape.ReturnStatement ks fs q r = statement q r (λ labels. return_step)
step shape.ThrowStatement ks fs q r = statement q r (λ labels. throw_step)
step shape.IfStatement ks fs q r = if_in q r
step shape.SwitchStatement ks fs q r = statement q r (λ labels. switch_step fs)
step shape.SwitchCase ks fs q r = case_step (nth_absent fs 0) q r
step shape.TryStatement ks fs q r = statement q r (λ labels. try_step)
step shape.CatchClause ks fs q r = catch_in q r
step shape.WhileStatement ks fs q r = statement q r while_step
step shape.DoWhileStatement ks fs q r = statement q r do_step
step shape.ForStatement ks fs q r = statement q r (for_step (first_facts fs).declared (nth_absent fs 1))
step shape.ForInStatement ks fs q r = statement q r (for_in_step (first_facts fs).declared)
step shape.ForOfStatement ks fs q r = statement q r (for_of_step (first_facts fs).declared)
-- declarations
step (shape.VariableDeclaration k) ks fs q r = declaration_step k q r
step shape.VariableDeclarator ks fs q r = declarator_step (has_kind ks) (nth_absent fs 1) q r
step (shape.Function true is_generator directives) ks fs q r = statement q r (λ labels. ret tt)
step (shape.Class true) ks fs q r = class_declaration q r
step shape.BindingIdentifier ks fs q r = binding_name q r
step shape.ObjectPattern ks fs q r = binding_pattern q r
step shape.ArrayPattern ks fs q r = binding_pattern q r
-- modules
step shape.ImportDeclaration ks fs q r = statement q r (λ labels. ret tt)
step shape.ExportNamedDeclaration ks fs q r = statement q r (λ labels. kid 0 [] (then ret))
step shape.ExportDefaultDeclaration ks fs q r = statement q r (λ labels. default_step (first_facts fs).declared (first_facts fs).functions)
step shape.ExportAllDeclaration ks fs q r = statement q r (λ labels. ret tt)
-- names and literals (ECMA-262, "Literals")
step shape.Identifier ks fs q r = identifier_step (first_kind ks) q r
step (shape.IdentifierName s) ks fs q r = valued q r (ret (String s))
step (shape.NumericLiteral n) ks fs q r = valued q r (ret (Number n))
step (shape.StringLiteral s) ks fs q r = valued q r (ret (String s))
step (shape.BooleanLiteral b) ks fs q r = valued q r (ret (Boolean b))
step shape.NullLiteral ks fs q r = valued q r (ret Null)
step (shape.RegExpLiteral pattern flags) ks fs q r = carried AnObject q r
-- expressions
step shape.ThisExpression ks fs q r = valued q r (op self (then ret))
step shape.ArrayExpression ks fs q r = valued q r array_step
step shape.ObjectExpression ks fs q r = valued q r object_step
step (shape.ObjectProperty k is_method is_shorthand is_computed) ks fs q r = entry q r (property_step k is_method is_shorthand is_computed)
step shape.SpreadElement ks fs q r = entry q r spread_step
step (shape.UnaryExpression o) ks fs q r = valued q r (unary_step o)
step (shape.UpdateExpression o is_prefix) ks fs q r = valued q r (update_step o is_prefix)
step (shape.BinaryExpression o) ks fs q r = valued q r (binary_step o)
step shape.PrivateInExpression ks fs q r = carried ABoolean q r
step (shape.LogicalExpression o) ks fs q r = passing q r (logical_step o (pass q))
step (shape.AssignmentExpression o) ks fs q r = valued q r (assignment_step o)
step shape.ConditionalExpression ks fs q r = passing q r (conditional_step (pass q))
step shape.SequenceExpression ks fs q r = passing q r (sequence_step (pass q))
step (shape.CallExpression is_optional) ks fs q r = valued q r (call_step is_optional)
step shape.SuperCallExpression ks fs q r = carried Anything q r
step shape.NewExpression ks fs q r = valued q r new_step
step (shape.StaticMemberExpression is_optional) ks fs q r = as_member (member_step is_optional) q r
step (shape.ComputedMemberExpression is_optional) ks fs q r = as_member (member_step is_optional) q r
step (shape.PrivateFieldExpression is_optional) ks fs q r = private_member (chained_carries is_optional (first_facts fs).shortens) q r
step shape.SuperStaticMemberExpression ks fs q r = super_member q r
step shape.SuperComputedMemberExpression ks fs q r = super_member q r
step shape.ChainExpression ks fs q r = chain_step q r
step (shape.YieldExpression is_delegate) ks fs q r = valued q r (yield_step is_delegate)
step shape.TemplateLiteral ks fs q r = valued q r (template_step (texts_all fs))
step shape.TaggedTemplateExpression ks fs q r = carried Anything q r
step (shape.MetaProperty k) ks fs q r = carried Anything q r
step shape.ImportExpression ks fs q r = carried Anything q r
step shape.ObjectAssignmentTarget ks fs q r = pattern_target q r
step shape.ArrayAssignmentTarget ks fs q r = pattern_target q r
-- functions and classes that are values (ECMA-262, "InstantiateOrdinaryFunctionExpression",
-- "ClassDefinitionEvaluation")
step (shape.Function false is_generator directives) ks fs q r = valued q r (emit_mine Create [])
step (shape.ArrowFunctionExpression directives) ks fs q r = valued q r (emit_mine Create [])
step (shape.Class false) ks fs q r = carried AnObject q r
step _ ks fs q r = stuck

unfoldable mutual
  -- the meaning of a tree where this is asked of it
  pub means : Environment → Tree → (q : Demand) (r : Request q) → State → Completion (Reply q r)
  means e (node h xs n ts) q r s = run e (naming h q (variables xs) n (summaries ts)) (λ i r' s'. meaning e ts i (demand h (facts ts) q i) r' s') (step h (kinds xs) (facts ts) q r) s

  -- and of the tree at a place in a list
  pub meaning : Environment → Trees → ℕ → (q : Demand) (r : Request q) → State → Completion (Reply q r)
  meaning e none i q r s = out
  meaning e (t ▸ ts) zero q r s = means e t q r s
  meaning e (t ▸ ts) (suc i) q r s = meaning e ts i q r s
