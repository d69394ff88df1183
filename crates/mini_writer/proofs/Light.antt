-- A tree that is read is a small load against the value that it was read from.
use Rattle.std.proofs.Common.{◌≡◌, ℕ, zero, suc, ◌+◌, ◌<◌, ◌≤◌, ◌^◌, ◌⊎◌, inl, inr, List, [], ◌∷◌, length, refl, ap, sym, ◌∙◌, subst, codes, Bool, true, false, arith}
use Rattle.std.specs.Prelude.{⊤, option_map, Option, Some, None, Result, Ok, Err}
use Rattle.std.proofs.lemmas.Bool.{false≢true}
use Rattle.serde_json.specs.Data.{Data}
use Rattle.mini_model.specs.declared.name.Name.{Name}
use Rattle.mini_model.specs.declared.shape.Shape.{Shape}
use Rattle.mini_model.specs.declared.shape.Shape.TheVariants as shape
use Rattle.mini_model.specs.Tree.{Tree, node, Trees, none, count}
use Rattle.mini_model.specs.declared.place.Position.{Position}
use Rattle.mini_model.specs.declared.place.Position.TheVariants.{Elsewhere}
use Rattle.mini_model.specs.Position.{child_position}
use Rattle.mini_model.specs.Weight.{weight}
use Rattle.mini_accept.specs.WellShaped as shaped
use Rattle.mini_accept.specs.WellShaped.{a_program, is_strict_in, is_text}
use Rattle.mini_accept.specs.Faults.{Defect, Fault}
use Rattle.mini_accept.specs.declared.kind.Kind.TheVariants as kind
use Rattle.mini_accept.specs.declared.kind.Kind.{Kind}
use Rattle.mini_accept.specs.Places.{Place, at}
use Rattle.mini_accept.specs.Fields.{kind_of, has_type, is_one_of, name_at}
use Rattle.mini_accept.specs.Standing.{may_stand, is_unread}
use Rattle.mini_accept.specs.Plans.{Child, Plan}
use Rattle.mini_accept.specs.Statements as statement
use Rattle.mini_accept.specs.Expressions as expression
use Rattle.mini_accept.specs.Patterns as pattern
use Rattle.mini_accept.specs.Entries.{entry}
use Rattle.mini_accept.specs.Accept.{are_placed, plan_if, placed_plan, plan_by, plan_unless, plan, Read, Reader, takes_number, read_children, numbered, read_plan, reads, program_at, Accepts}
use Rattle.mini_accept.proofs.Results.{ok_same, bind_ok}
use Rattle.mini_accept.proofs.Types.{type_name, kind_typed, typed_has, types_at, typed_there}
use Rattle.mini_writer.specs.Fits.{Fits}
use Rattle.mini_writer.proofs.Amounts.{amount}
use Rattle.mini_writer.proofs.Loads.{load}
use Rattle.mini_writer.proofs.Written.{own_light}
use Rattle.mini_writer.proofs.AcceptedLists.{extra, IsLight}
use Rattle.mini_writer.proofs.Plans.{Holds, LightIf, plain}
use Rattle.mini_writer.proofs.SizedBodies as bodies
use Rattle.mini_writer.proofs.SizedStatements as statements
use Rattle.mini_writer.proofs.Literals as literals
use Rattle.mini_writer.proofs.SizedExpressions as expressions
use Rattle.mini_writer.proofs.Pieces as pieces

-- ---- each type

property : (p : Place) (d : Data) → LightIf d 0 (pattern.property p d)
property (at shaped.a_pattern_property) d = pieces.pattern_property d true
property (at shaped.a_target_property) d = pieces.pattern_property d false
property p d = expressions.object_property d

block_at : (p : Place) (d : Data) → has_type (codes "BlockStatement") d ≡ true → LightIf d (extra p d) (statement.block_in p d)
block_at (at shaped.a_function_body) d typed = bodies.function_body d typed
block_at (at shaped.an_arrow_body) d typed = bodies.function_body d typed
block_at p d typed = statements.block d

weaker : (d : Data) (e : ℕ) (o : Option Plan) → LightIf d e o → LightIf d 0 o
weaker d e None l = record { holds = tt }
weaker d e (Some x) l = record { holds = λ r light strict n y read π ω. omega (arith, l.holds r light strict n y read π ω) }

entry_light : (strict : Bool) (p : Place) (d : Data) (k : Kind) → kind_of d ≡ Some k → is_unread strict p d ≡ false → LightIf d 0 (entry k p d)
entry_light strict p d kind.BlockStatement is read = weaker d (extra p d) (statement.block_in p d) (block_at p d (typed_has d (codes "BlockStatement") (codes "BlockStatement") (kind_typed d kind.BlockStatement is)))
entry_light strict p d kind.Program is read = bodies.program d
entry_light strict p d kind.ExpressionStatement is read = statements.expression_statement d p
entry_light strict p d kind.EmptyStatement is read = plain d [] shape.EmptyStatement [] tt refl (λ os. refl)
entry_light strict p d kind.DebuggerStatement is read = plain d [] shape.DebuggerStatement [] tt refl (λ os. refl)
entry_light strict p d kind.LabeledStatement is read = statements.labeled d
entry_light strict p d kind.BreakStatement is read = statements.break d
entry_light strict p d kind.ContinueStatement is read = statements.continue d
entry_light strict p d kind.ReturnStatement is read = statements.return d
entry_light strict p d kind.ThrowStatement is read = statements.throw d
entry_light strict p d kind.IfStatement is read = statements.if_statement d
entry_light strict p d kind.SwitchStatement is read = statements.switch d
entry_light strict p d kind.SwitchCase is read = statements.switch_case d
entry_light strict p d kind.TryStatement is read = statements.try d
entry_light strict p d kind.CatchClause is read = statements.catch d
entry_light strict p d kind.WhileStatement is read = statements.while d
entry_light strict p d kind.DoWhileStatement is read = statements.do_while d
entry_light strict p d kind.ForStatement is read = statements.for d
entry_light strict p d kind.ForInStatement is read = statements.for_in d
entry_light strict p d kind.ForOfStatement is read = statements.for_of d
entry_light strict p d kind.VariableDeclaration is read = statements.variable d
entry_light strict p d kind.VariableDeclarator is read = statements.declarator d
entry_light strict p d kind.FunctionDeclaration is read = statements.function d true p
entry_light strict p d kind.FunctionExpression is read = statements.function d false p
entry_light strict p d kind.ArrowFunctionExpression is read = statements.arrow d
entry_light strict p d kind.ClassDeclaration is read = statements.class d true p
entry_light strict p d kind.ClassExpression is read = statements.class d false p
entry_light strict p d kind.ClassBody is read = statements.class_body d
entry_light strict p d kind.MethodDefinition is read = statements.method_definition d
entry_light strict p d kind.PropertyDefinition is read = statements.property_definition d
entry_light strict p d kind.StaticBlock is read = statements.static_block d
entry_light strict p d kind.ImportDeclaration is read = statements.import d
entry_light strict p d kind.ImportSpecifier is read = statements.import_specifier d
entry_light strict p d kind.ImportDefaultSpecifier is read = statements.import_default d
entry_light strict p d kind.ImportNamespaceSpecifier is read = statements.import_namespace d
entry_light strict p d kind.ExportNamedDeclaration is read = statements.export_named d
entry_light strict p d kind.ExportSpecifier is read = statements.export_specifier d p
entry_light strict p d kind.ExportDefaultDeclaration is read = statements.export_default d
entry_light strict p d kind.ExportAllDeclaration is read = statements.export_all d
entry_light strict p d kind.Identifier is read = expressions.identifier d p
entry_light strict p d kind.PrivateIdentifier is read = expressions.private_identifier d
entry_light strict p d kind.Literal is read = literals.literal_plan strict p d (typed_has d (codes "Literal") (codes "Literal") (kind_typed d kind.Literal is)) read
entry_light strict p d kind.ThisExpression is read = plain d [] shape.ThisExpression [] tt refl (λ os. refl)
entry_light strict p d kind.Super is read = plain d [] shape.Super [] tt refl (λ os. refl)
entry_light strict p d kind.ArrayExpression is read = expressions.array_expression d
entry_light strict p d kind.ObjectExpression is read = expressions.object_expression d
entry_light strict p d kind.Property is read = property p d
entry_light strict p d kind.SpreadElement is read = expressions.spread d p
entry_light strict p d kind.UnaryExpression is read = pieces.unary d
entry_light strict p d kind.UpdateExpression is read = expressions.update d
entry_light strict p d kind.BinaryExpression is read = expressions.binary d
entry_light strict p d kind.LogicalExpression is read = expressions.logical d
entry_light strict p d kind.AssignmentExpression is read = expressions.assignment d
entry_light strict p d kind.ConditionalExpression is read = expressions.conditional d
entry_light strict p d kind.SequenceExpression is read = expressions.sequence d
entry_light strict p d kind.CallExpression is read = expressions.call d p
entry_light strict p d kind.NewExpression is read = expressions.new d
entry_light strict p d kind.MemberExpression is read = expressions.member_expression d p
entry_light strict p d kind.ChainExpression is read = expressions.chain d
entry_light strict p d kind.YieldExpression is read = expressions.yield d
entry_light strict p d kind.TemplateLiteral is read = pieces.template (expression.tagging_of p) d
entry_light strict p d kind.TemplateElement is read = pieces.quasi (expression.tagging_at p) d
entry_light strict p d kind.TaggedTemplateExpression is read = expressions.tagged_template d
entry_light strict p d kind.MetaProperty is read = expressions.meta_property d
entry_light strict p d kind.ImportExpression is read = expressions.import_expression d
entry_light strict p d kind.ObjectPattern is read = pieces.object_pattern d p
entry_light strict p d kind.ArrayPattern is read = pieces.array_pattern d p
entry_light strict p d kind.RestElement is read = pieces.rest d p
entry_light strict p d kind.AssignmentPattern is read = pieces.default d p

is_block : (k : Kind) → (k ≡ kind.BlockStatement) ⊎ (is_text (codes "BlockStatement") (type_name k) ≡ false)
is_block kind.BlockStatement = inl refl
is_block k = inr refl

no_extra : (p : Place) (d : Data) → has_type (codes "BlockStatement") d ≡ false → extra p d ≡ 0
no_extra (at shaped.a_function_body) d e = rw e refl
no_extra (at shaped.an_arrow_body) d e = rw e refl
no_extra p d e = refl

entry_whole : (strict : Bool) (p : Place) (d : Data) (k : Kind) → kind_of d ≡ Some k → is_unread strict p d ≡ false → LightIf d (extra p d) (entry k p d)
entry_whole strict p d k is read = elim (is_block k) [
  | inl block ↦ subst (λ (j : Kind). LightIf d (extra p d) (entry j p d)) (sym block) (block_at p d (typed_has d (codes "BlockStatement") (codes "BlockStatement") (kind_typed d kind.BlockStatement (is ∙ ap Some block))))
  | inr other ↦ subst (λ (e : ℕ). LightIf d e (entry k p d)) (sym (no_extra p d (typed_has d (type_name k) (codes "BlockStatement") (kind_typed d k is) ∙ other))) (entry_light strict p d k is read)
]

-- ---- plans

if_planned : (b : Bool) (x y : Plan) → plan_if b x ≡ Ok y → x ≡ y
if_planned true x y e = ok_same {E = Defect} x y e
if_planned false x y e = absurd (cc e)

placed_holds : (strict : Bool) (d : Data) (e : ℕ) (o : Option Plan) (x : Plan) → LightIf d e o → placed_plan strict d o ≡ Ok x → Holds d e x
placed_holds strict d e None x l h = absurd (cc h)
placed_holds strict d e (Some y) x l h = subst (Holds d e) (if_planned (are_placed (is_strict_in strict y.shape) d y.children) y x h) l.holds

by_kind : (strict : Bool) (p : Place) (d : Data) (o : Option Kind) (x : Plan) → kind_of d ≡ o → is_unread strict p d ≡ false → plan_by strict p d o ≡ Ok x → Holds d (extra p d) x
by_kind strict p d None x is read h = absurd (cc h)
by_kind strict p d (Some k) x is read h = placed_holds strict d (extra p d) (entry k p d) x (entry_whole strict p d k is read) h

unless_planned : (a b : Bool) (o : Result Plan Defect) (x : Plan) → plan_unless a b o ≡ Ok x → (a ≡ false) × (o ≡ Ok x)
unless_planned true b o x e = absurd (cc e)
unless_planned false true o x e = (refl, e)
unless_planned false false o x e = absurd (cc e)

plan_holds : (strict : Bool) (p : Place) (d : Data) (x : Plan) → plan strict p d ≡ Ok x → (is_unread strict p d ≡ false) × Holds d (extra p d) x
plan_holds strict p d x e =
    let (read, is) = unless_planned (is_unread strict p d) (may_stand p d) (plan_by strict p d (kind_of d)) x e in
    (read, by_kind strict p d (kind_of d) x refl read is)

-- ---- nodes

tree_same : (y z : Tree × ℕ) → ◌≡◌ {A = Result (Tree × ℕ) Fault} (Ok y) (Ok z) → y.0 ≡ z.0
tree_same y z e = ap (λ v. v.0) (ok_same {E = Fault} y z e)

numbered_read : (b : Bool) (n : ℕ) (h : Shape) (xs : List Name) (f : ℕ → Read Trees) (x : Tree × ℕ) → numbered b n h xs f ≡ Ok x → (m : ℕ) × (l : ℕ) × (y : Trees × ℕ) × (f l ≡ Ok y) × (node h xs m y.0 ≡ x.0)
numbered_read true n h xs f x e =
    let (y, read, same) = bind_ok (f (suc n)) _ x e in
    (n, suc n, y, read, tree_same (node h xs n y.0, y.1) x same)
numbered_read false n h xs f x e =
    let (y, read, same) = bind_ok (f n) _ x e in
    (0, n, y, read, tree_same (node h xs 0 y.0, y.1) x same)

planned_light : (r : Reader) → IsLight r → (strict : Bool) (p : Place) (n : ℕ) (d : Data) (o : Result Plan Defect) (x : Tree × ℕ) → plan strict p d ≡ o → read_plan r strict p n d o ≡ Ok x
    → (is_unread strict p d ≡ false) × ((π : Position) → load π x.0 + extra p d + 14 ≤ amount d)
planned_light r light strict p n d (Err b) x is e = absurd (cc e)
planned_light r light strict p n d (Ok o) x is e =
    let (read, holds) = plan_holds strict p d o is in
    let (m, l, y, below, same) = numbered_read (takes_number p o.shape) n o.shape o.names (λ j. read_children r (is_strict_in strict o.shape) d j o.children) x e in
    (read, λ π. subst (λ (t : Tree). load π t + extra p d + 14 ≤ amount d) same (omega (arith, holds r light (is_strict_in strict o.shape) l y below π (child_position o.shape π (count y.0)))))

-- what is planned where a name is declared is one name, which has no parts
abbrev IsNamed : Plan → Type 0
IsNamed x = (x.shape ≡ shape.BindingIdentifier) × (x.children ≡ []) × (length x.names ≤ 1)

abbrev IsNamedIf : Option Plan → Type 0
IsNamedIf None = ⊤
IsNamedIf (Some x) = IsNamed x

record NamedIf (o : Option Plan) : Type 0 where
  named : IsNamedIf o

identifier_named : (o : Option (List ℕ)) → NamedIf (option_map (expression.identifier_in (at shaped.a_binding)) o)
identifier_named None = record { named = tt }
identifier_named (Some s) = record { named = (refl, refl, omega arith) }

entry_named : (d : Data) (k : Kind) → is_one_of (types_at (at shaped.a_binding)) (type_name k) ≡ true → NamedIf (entry k (at shaped.a_binding) d)
entry_named d kind.Identifier e = identifier_named (name_at d)
entry_named d k e = absurd (false≢true e)

placed_named : (strict : Bool) (d : Data) (o : Option Plan) (x : Plan) → NamedIf o → placed_plan strict d o ≡ Ok x → IsNamed x
placed_named strict d None x l h = absurd (cc h)
placed_named strict d (Some y) x l h = subst IsNamed (if_planned (are_placed (is_strict_in strict y.shape) d y.children) y x h) l.named

kind_named : (strict : Bool) (d : Data) (o : Option Kind) (x : Plan) → kind_of d ≡ o → may_stand (at shaped.a_binding) d ≡ true → plan_by strict (at shaped.a_binding) d o ≡ Ok x → IsNamed x
kind_named strict d None x is stands h = absurd (cc h)
kind_named strict d (Some k) x is stands h = placed_named strict d (entry k (at shaped.a_binding) d) x (entry_named d k (typed_there (at shaped.a_binding) d (type_name k) (kind_typed d k is) stands)) h

unless_named : (a b : Bool) (o : Result Plan Defect) (x : Plan) → (b ≡ true → o ≡ Ok x → IsNamed x) → plan_unless a b o ≡ Ok x → IsNamed x
unless_named true b o x f e = absurd (cc e)
unless_named false true o x f e = f refl e
unless_named false false o x f e = absurd (cc e)

plan_named : (strict : Bool) (d : Data) (x : Plan) → plan strict (at shaped.a_binding) d ≡ Ok x → IsNamed x
plan_named strict d x e = unless_named (is_unread strict (at shaped.a_binding) d) (may_stand (at shaped.a_binding) d) (plan_by strict (at shaped.a_binding) d (kind_of d)) x (kind_named strict d (kind_of d) x refl) e

name_load : (h : Shape) (xs : List Name) (m : ℕ) (ts : Trees) → h ≡ shape.BindingIdentifier → length xs ≤ 1 → ts ≡ none → (π : Position) → load π (node h xs m ts) ≤ 11
name_load h xs m ts is one bare π = rw (is, bare) (omega (arith, own_light 2 π shape.BindingIdentifier xs [] (omega arith)))

no_children : (r : Reader) (strict : Bool) (d : Data) (n : ℕ) (cs : List Child) (y : Trees × ℕ) → cs ≡ [] → read_children r strict d n cs ≡ Ok y → y.0 ≡ none
no_children r strict d n [] y is e = ap (λ v. v.0) (sym (ok_same {E = Fault} (none, n) y e))
no_children r strict d n (c ∷ cs) y is e = absurd (cc is)

named_light : (r : Reader) (strict : Bool) (n : ℕ) (d : Data) (o : Result Plan Defect) (x : Tree × ℕ) → plan strict (at shaped.a_binding) d ≡ o → read_plan r strict (at shaped.a_binding) n d o ≡ Ok x → (π : Position) → load π x.0 ≤ 11
named_light r strict n d (Err b) x is e π = absurd (cc e)
named_light r strict n d (Ok o) x is e π =
    let (m, l, y, below, same) = numbered_read (takes_number (at shaped.a_binding) o.shape) n o.shape o.names (λ j. read_children r (is_strict_in strict o.shape) d j o.children) x e in
    let (name, bare, one) = plan_named strict d o is in
    subst (λ (t : Tree). load π t ≤ 11) same (name_load o.shape o.names m y.0 name one (no_children r (is_strict_in strict o.shape) d l o.children y bare below) π)

reads_light : (k : ℕ) → IsLight (reads k)
reads_light zero = record { whole = λ strict p n d x e. absurd (cc e); binding = λ strict n d x e. absurd (cc e) }
reads_light (suc k) = record { whole = λ strict p n d x e. planned_light (reads k) (reads_light k) strict p n d (plan strict p d) x refl e; binding = λ strict n d x e. named_light (reads k) strict n d (plan strict (at shaped.a_binding) d) x refl e }

-- 128 for each value and 2 for each unit
pub accepted_load : (d : Data) (t : Tree) → Accepts d t → (π : Position) → load π t ≤ amount d
unfolding program_at
accepted_load d t (k, n, e) π = omega (arith, ((reads_light k).whole false (at a_program) 0 d (t, n) e).1 π)

-- that of what fits: 128 for each of 2^24 values and 2 for each of 2^24 units
pub fitting_load : (d : Data) (t : Tree) → Accepts d t → Fits d → load Elsewhere t < 2 ^ 32
fitting_load d t accepted small = let v = small.values in let u = small.units in omega (arith, accepted_load d t accepted Elsewhere)

pub accepted_light : (d : Data) (t : Tree) → Accepts d t → Fits d → weight Elsewhere t < 2 ^ 32
accepted_light d t accepted small = omega (arith, fitting_load d t accepted small)
