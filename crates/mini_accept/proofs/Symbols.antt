-- No name of a tree that is read has a symbol.
use Rattle.std.proofs.Common.{◌≡◌, ℕ, zero, suc, List, [], ◌∷◌, refl, subst, Bool, true, false}
use Rattle.std.specs.Prelude.{◌&&◌, Option, Some, None, option_and_then, option_map, Result, Ok, Err, codes, if◌then◌else◌, ℤ}
use Rattle.std.proofs.lemmas.Bool.{and_parts}
use Rattle.serde_json.specs.Data.{Data}
use Rattle.serde_json.specs.Find.{get}
use Rattle.mini_model.specs.declared.name.Name.{Name}
use Rattle.mini_model.specs.declared.operator.UnaryOperator.{UnaryOperator}
use Rattle.mini_model.specs.declared.shape.Shape.{Shape}
use Rattle.mini_model.specs.declared.shape.Shape.TheVariants as shape
use Rattle.mini_model.specs.Paths.{append}
use Rattle.mini_model.specs.Tree.{Tree, node, Trees, none, ◌▸◌, absent, listed}
use Rattle.mini_accept.specs.WellShaped as shaped
use Rattle.mini_accept.specs.WellShaped.{Class, in_body, nested, a_program, is_strict_in}
use Rattle.mini_accept.specs.Faults.{Defect, Fault}
use Rattle.mini_accept.specs.Kind as kind
use Rattle.mini_accept.specs.Kind.{Kind}
use Rattle.mini_accept.specs.Places.{Step, step_text, down, Place, at, a_directive, a_directive_text}
use Rattle.mini_accept.specs.Fields.{◌>>=◌, require, kind_of, flag_at, list_at, child_has_type, name_at, units_at}
use Rattle.mini_accept.specs.Words.{word_at, source_types, variable_kinds, method_kinds, property_kinds, unary_operators, update_operators, binary_operators, logical_operators, assignment_operators}
use Rattle.mini_accept.specs.Plans.{Part, hole, tree_at, inner_at, checked, Child, one, many, Plan, each, or_hole, or_rest, target_part, list_child}
use Rattle.mini_accept.specs.Statements as statement
use Rattle.mini_accept.specs.Functions as function
use Rattle.mini_accept.specs.Expressions as expression
use Rattle.mini_accept.specs.Patterns as pattern
use Rattle.mini_accept.specs.Entries.{entry}
use Rattle.mini_accept.specs.Standing.{may_stand, is_unread}
use Rattle.mini_accept.specs.Accept.{are_placed, plan_if, placed_plan, plan_by, plan_unless, plan, Read, Reader, takes_number, below_by, read_below, read_part, read_parts, read_child, read_children, with_children, numbered, read_plan, reads, program_at}
use Rattle.mini_accept.specs.Symbols.{are_as_written, has_no_symbol, have_no_symbol}
use Rattle.mini_accept.proofs.Results.{ok_same, bind_ok, under_ok}

-- ---- plans

abbrev BarePlan : Option Plan → Type 0
BarePlan None = Unit {0}
BarePlan (Some x) = are_as_written x.shape x.names ≡ true

-- the names of a plan have no symbol
record Bare (o : Option Plan) : Type 0 where
  pub known : BarePlan o

no_plan : Bare None
no_plan = record { known = tt }

shape_alone : (h : Shape) (cs : List Child) → Bare (Some (record { shape = h; names = []; children = cs }))
shape_alone h cs = record { known = refl }

then_bare : {A : Type 0} (o : Option A) (f : A → Option Plan) → ((x : A) → Bare (f x)) → Bare (o >>= f)
then_bare None f h = no_plan
then_bare (Some x) f h = h x

if_bare : (b : Bool) (o u : Option Plan) → Bare o → Bare u → Bare (if b then o else u)
if_bare true o u h k = h
if_bare false o u h k = k

require_bare : (b : Bool) (o : Option Plan) → Bare o → Bare (require b o)
require_bare true o h = h
require_bare false o h = no_plan

block_bare : (p : Place) (d : Data) → Bare (statement.block_in p d)
block_bare (at shaped.a_function_body) d = then_bare _ _ (λ ds. shape_alone _ _)
block_bare (at shaped.an_arrow_body) d = then_bare _ _ (λ ds. shape_alone _ _)
block_bare p d = then_bare _ _ (λ ds. shape_alone _ _)

statement_bare : (p : Place) (d : Data) → Bare (statement.expression_statement p d)
statement_bare a_directive d = shape_alone _ _
statement_bare p d = require_bare _ _ (shape_alone _ _)

identifier_bare : (c : Class) (s : List ℕ) → are_as_written (expression.identifier_as c s).shape (expression.identifier_as c s).names ≡ true
identifier_bare shaped.a_pattern s = refl
identifier_bare (shaped.a_key true) s = refl
identifier_bare (shaped.a_key false) s = refl
identifier_bare c s = refl

identifier_at_bare : (p : Place) (s : List ℕ) → are_as_written (expression.identifier_in p s).shape (expression.identifier_in p s).names ≡ true
identifier_at_bare (at c) s = identifier_bare c s
identifier_at_bare p s = refl

named_bare : (p : Place) (o : Option (List ℕ)) → Bare (option_map (expression.identifier_in p) o)
named_bare p None = no_plan
named_bare p (Some s) = record { known = identifier_at_bare p s }

literal_bare : (p : Place) (d : Data) → Bare (expression.literal_plan p d)
literal_bare a_directive_text d = then_bare _ _ (λ s. shape_alone _ _)
literal_bare p d = then_bare _ _ (λ h. shape_alone _ _)

unary_bare : (o : UnaryOperator) (n : Option ℤ) → Bare (expression.unary_plan o n)
unary_bare o None = shape_alone _ _
unary_bare o (Some n) = shape_alone _ _

object_property_bare : (d : Data) → Bare (expression.object_property d)
object_property_bare d = then_bare (word_at property_kinds (codes "kind") d) _ (λ k. then_bare (flag_at (codes "method") d) _ (λ m. then_bare (flag_at (codes "shorthand") d) _ (λ s. then_bare (flag_at (codes "computed") d) _ (λ c. require_bare _ _ (shape_alone _ _)))))

target_bare : (shorthand computed : Bool) (d : Data) → Bare (pattern.target_property shorthand computed d)
target_bare true computed d = shape_alone _ _
target_bare false computed d = shape_alone _ _

pattern_property_bare : (binds : Bool) (d : Data) → Bare (pattern.pattern_property binds d)
pattern_property_bare binds d = then_bare (word_at property_kinds (codes "kind") d) _ (λ k. then_bare (flag_at (codes "method") d) _ (λ m. then_bare (flag_at (codes "shorthand") d) _ (λ s. then_bare (flag_at (codes "computed") d) _ (λ c. require_bare _ _ (if_bare binds _ _ (shape_alone _ _) (target_bare s c d))))))

property_bare : (p : Place) (d : Data) → Bare (pattern.property p d)
property_bare (at shaped.a_pattern_property) d = pattern_property_bare true d
property_bare (at shaped.a_target_property) d = pattern_property_bare false d
property_bare p d = object_property_bare d

named_member_bare : (optional : Bool) (c : Class) (d : Data) → Bare (expression.named_member optional c d)
named_member_bare optional c d = if_bare (child_has_type (codes "property") (codes "PrivateIdentifier") d) _ _ (shape_alone _ _) (shape_alone _ _)

entry_bare : (k : Kind) (p : Place) (d : Data) → Bare (entry k p d)
entry_bare kind.Program p d = then_bare (word_at source_types (codes "sourceType") d) _ (λ m. then_bare (list_at (codes "body") d) _ (λ ds. shape_alone _ _))
entry_bare kind.ExpressionStatement p d = statement_bare p d
entry_bare kind.BlockStatement p d = block_bare p d
entry_bare kind.SwitchStatement p d = then_bare (list_child (each shaped.a_case) (codes "cases") d) _ (λ ds. shape_alone _ _)
entry_bare kind.SwitchCase p d = then_bare (list_child (each (shaped.a_statement nested)) (codes "consequent") d) _ (λ ds. shape_alone _ _)
entry_bare kind.TryStatement p d = require_bare _ _ (shape_alone _ _)
entry_bare kind.ForOfStatement p d = require_bare _ _ (shape_alone _ _)
entry_bare kind.VariableDeclaration p d = then_bare (word_at variable_kinds (codes "kind") d) _ (λ k. then_bare (list_at (codes "declarations") d) _ (λ ds. require_bare _ _ (shape_alone _ _)))
entry_bare kind.FunctionDeclaration p d = then_bare (flag_at (codes "generator") d) _ (λ g. then_bare (list_child function.parameter (codes "params") d) _ (λ ds. require_bare _ _ (shape_alone _ _)))
entry_bare kind.FunctionExpression p d = then_bare (flag_at (codes "generator") d) _ (λ g. then_bare (list_child function.parameter (codes "params") d) _ (λ ds. require_bare _ _ (shape_alone _ _)))
entry_bare kind.ArrowFunctionExpression p d = then_bare (flag_at (codes "expression") d) _ (λ g. then_bare (list_child function.parameter (codes "params") d) _ (λ ds. require_bare _ _ (shape_alone _ _)))
entry_bare kind.ClassDeclaration p d = require_bare (function.is_named true p d) _ (shape_alone _ _)
entry_bare kind.ClassExpression p d = require_bare (function.is_named false p d) _ (shape_alone _ _)
entry_bare kind.ClassBody p d = then_bare (list_child (each shaped.a_class_member) (codes "body") d) _ (λ ds. shape_alone _ _)
entry_bare kind.MethodDefinition p d = then_bare (word_at method_kinds (codes "kind") d) _ (λ k. then_bare (flag_at (codes "computed") d) _ (λ c. then_bare (flag_at (codes "static") d) _ (λ s. require_bare _ _ (shape_alone _ _))))
entry_bare kind.PropertyDefinition p d = then_bare (flag_at (codes "computed") d) _ (λ c. then_bare (flag_at (codes "static") d) _ (λ s. shape_alone _ _))
entry_bare kind.StaticBlock p d = then_bare (list_child (each (shaped.a_statement in_body)) (codes "body") d) _ (λ ds. shape_alone _ _)
entry_bare kind.ImportDeclaration p d = then_bare (list_child (each shaped.an_import) (codes "specifiers") d) _ (λ ds. require_bare _ _ (shape_alone _ _))
entry_bare kind.ExportNamedDeclaration p d = then_bare (list_at (codes "specifiers") d) _ (λ ds. require_bare _ _ (shape_alone _ _))
entry_bare kind.ExportAllDeclaration p d = require_bare _ _ (shape_alone _ _)
entry_bare kind.Identifier p d = named_bare p _
entry_bare kind.PrivateIdentifier p d = then_bare (name_at d) _ (λ s. shape_alone _ _)
entry_bare kind.Literal p d = literal_bare p d
entry_bare kind.ArrayExpression p d = then_bare (list_child (or_hole expression.argument) (codes "elements") d) _ (λ ds. shape_alone _ _)
entry_bare kind.ObjectExpression p d = then_bare (list_child (each shaped.an_object_property) (codes "properties") d) _ (λ ds. shape_alone _ _)
entry_bare kind.Property p d = property_bare p d
entry_bare kind.UnaryExpression p d = then_bare (word_at unary_operators (codes "operator") d) _ (λ o. require_bare _ _ (unary_bare o (expression.minus_below o d)))
entry_bare kind.UpdateExpression p d = then_bare (word_at update_operators (codes "operator") d) _ (λ o. then_bare (flag_at (codes "prefix") d) _ (λ b. shape_alone _ _))
entry_bare kind.BinaryExpression p d = then_bare (word_at binary_operators (codes "operator") d) _ (λ o. if_bare _ _ _ (shape_alone _ _) (shape_alone _ _))
entry_bare kind.LogicalExpression p d = then_bare (word_at logical_operators (codes "operator") d) _ (λ o. shape_alone _ _)
entry_bare kind.AssignmentExpression p d = then_bare (word_at assignment_operators (codes "operator") d) _ (λ o. shape_alone _ _)
entry_bare kind.SequenceExpression p d = then_bare (list_at (codes "expressions") d) _ (λ ds. require_bare _ _ (shape_alone _ _))
entry_bare kind.CallExpression p d = then_bare (flag_at (codes "optional") d) _ (λ o. if_bare _ _ _ (then_bare (list_child expression.inner_argument (codes "arguments") d) _ (λ ds. require_bare _ _ (shape_alone _ _))) (then_bare (list_child expression.argument (codes "arguments") d) _ (λ ds. require_bare _ _ (shape_alone _ _))))
entry_bare kind.NewExpression p d = then_bare (list_child expression.argument (codes "arguments") d) _ (λ ds. shape_alone _ _)
entry_bare kind.MemberExpression p d = then_bare (flag_at (codes "optional") d) _ (λ o. then_bare (flag_at (codes "computed") d) _ (λ c. if_bare _ _ _ (require_bare _ _ (if_bare c _ _ (shape_alone _ _) (shape_alone _ _))) (require_bare _ _ (if_bare c _ _ (shape_alone _ _) (named_member_bare o (expression.link_class p) d)))))
entry_bare kind.ChainExpression p d = require_bare _ _ (shape_alone _ _)
entry_bare kind.YieldExpression p d = then_bare (flag_at (codes "delegate") d) _ (λ b. require_bare _ _ (shape_alone _ _))
entry_bare kind.TemplateLiteral p d = then_bare (list_at (codes "quasis") d) _ (λ qs. then_bare (list_at (codes "expressions") d) _ (λ es. require_bare _ _ (shape_alone _ _)))
entry_bare kind.TemplateElement p d = then_bare (flag_at (codes "tail") d) _ (λ b. then_bare (get (codes "value") d) _ (λ v. then_bare (units_at (codes "raw") v) _ (λ raw. then_bare (option_and_then expression.cooked_by (get (codes "cooked") v)) _ (λ c. require_bare _ _ (shape_alone _ _)))))
entry_bare kind.MetaProperty p d = if_bare (expression.has_meta (codes "new") d) _ _ (shape_alone _ _) (if_bare (expression.has_meta (codes "import") d) _ _ (shape_alone _ _) no_plan)
entry_bare kind.ObjectPattern p d = if_bare (pattern.is_binding p) _ _ (then_bare (list_child (or_rest (each shaped.a_pattern_property) shaped.a_pattern_rest) (codes "properties") d) _ (λ ds. shape_alone _ _)) (then_bare (list_child (or_rest (each shaped.a_target_property) shaped.a_target_rest) (codes "properties") d) _ (λ ds. shape_alone _ _))
entry_bare kind.ArrayPattern p d = if_bare (pattern.is_binding p) _ _ (then_bare (list_child (or_hole (or_rest (each shaped.a_pattern_element) shaped.a_pattern_rest)) (codes "elements") d) _ (λ ds. shape_alone _ _)) (then_bare (list_child (or_hole (or_rest (target_part shaped.a_target_element) shaped.a_target_rest)) (codes "elements") d) _ (λ ds. shape_alone _ _))
entry_bare k p d = shape_alone _ _

-- ---- what is read by plans

if_planned : (b : Bool) (y x : Plan) → plan_if b y ≡ Ok x → y ≡ x
if_planned true y x e = ok_same {E = Defect} y x e
if_planned false y x e = absurd (cc e)

placed_bare : (strict : Bool) (d : Data) (o : Option Plan) (x : Plan) → Bare o → placed_plan strict d o ≡ Ok x → are_as_written x.shape x.names ≡ true
placed_bare strict d None x bare e = absurd (cc e)
placed_bare strict d (Some y) x bare e = subst (λ z. are_as_written z.shape z.names ≡ true) (if_planned (are_placed (is_strict_in strict y.shape) d y.children) y x e) bare.known

kind_bare : (strict : Bool) (p : Place) (d : Data) (o : Option Kind) (x : Plan) → plan_by strict p d o ≡ Ok x → are_as_written x.shape x.names ≡ true
kind_bare strict p d None x e = absurd (cc e)
kind_bare strict p d (Some k) x e = placed_bare strict d (entry k p d) x (entry_bare k p d) e

unless_planned : (unread stands : Bool) (o : Result Plan Defect) (x : Plan) → plan_unless unread stands o ≡ Ok x → o ≡ Ok x
unless_planned true stands o x e = absurd (cc e)
unless_planned false true o x e = e
unless_planned false false o x e = absurd (cc e)

plan_bare : (strict : Bool) (p : Place) (d : Data) (x : Plan) → plan strict p d ≡ Ok x → are_as_written x.shape x.names ≡ true
plan_bare strict p d x e = kind_bare strict p d (kind_of d) x (unless_planned (is_unread strict p d) (may_stand p d) (plan_by strict p d (kind_of d)) x e)

-- ---- parts

abbrev BareTrees : Trees × ℕ → Type 0
BareTrees y = have_no_symbol y.0 ≡ true

abbrev BareTree : Tree × ℕ → Type 0
BareTree x = has_no_symbol x.0 ≡ true

abbrev Reading : Reader → Type 0
Reading r = (strict : Bool) (p : Place) (n : ℕ) (d : Data) (x : Tree × ℕ) → r strict p n d ≡ Ok x → BareTree x

both_true : (a b : Bool) → a ≡ true → b ≡ true → (a && b) ≡ true
both_true a b x y = rw (x, y) refl

append_bare : (ts us : Trees) → have_no_symbol ts ≡ true → have_no_symbol us ≡ true → have_no_symbol (append ts us) ≡ true
append_bare none us a b = b
append_bare (t ▸ ts) us a b =
    let (first, rest) = and_parts (has_no_symbol t) (have_no_symbol ts) a in
    both_true (has_no_symbol t) (have_no_symbol (append ts us)) first (append_bare ts us rest b)

whole : (y z : Trees × ℕ) → BareTrees y → ◌≡◌ {A = Result (Trees × ℕ) Fault} (Ok y) (Ok z) → BareTrees z
whole y z c e = subst BareTrees (ok_same {E = Fault} y z e) c

alone : (t : Tree) → has_no_symbol t ≡ true → have_no_symbol (t ▸ none) ≡ true
alone t a = both_true (has_no_symbol t) true a refl

below_bare : (r : Reader) → Reading r → (strict : Bool) (p : Place) (n : ℕ) (s : Step) (o : Option Data) (x : Tree × ℕ) → below_by r strict p n s o ≡ Ok x → BareTree x
below_bare r reading strict p n s None x e = absurd (cc e)
below_bare r reading strict p n s (Some d) x e = reading strict p n d x (under_ok (step_text s) (r strict p n d) x e)

part_bare : (r : Reader) → Reading r → (strict : Bool) (d : Data) (n : ℕ) (c : Part) (y : Trees × ℕ) → read_part r strict d n c ≡ Ok y → BareTrees y
part_bare r reading strict d n hole y e = whole (absent ▸ none, n) y refl e
part_bare r reading strict d n (tree_at s p) y e =
    let (x, read, same) = bind_ok (read_below r strict n d s p) _ y e in
    whole (x.0 ▸ none, x.1) y (alone x.0 (below_bare r reading strict p n s (down s d) x read)) same
part_bare r reading strict d n (inner_at s p) y e =
    let (x, read, same) = bind_ok (read_below r strict (suc n) d s p) _ y e in
    whole (node shape.InnerExpression [] n (x.0 ▸ none) ▸ none, x.1) y (alone (node shape.InnerExpression [] n (x.0 ▸ none)) (alone x.0 (below_bare r reading strict p (suc n) s (down s d) x read))) same
part_bare r reading strict d n (checked s p) y e =
    let (x, read, same) = bind_ok (read_below r strict n d s p) _ y e in
    whole (none, n) y refl same

parts_bare : (r : Reader) → Reading r → (strict : Bool) (d : Data) (n : ℕ) (cs : List Part) (y : Trees × ℕ) → read_parts r strict d n cs ≡ Ok y → BareTrees y
parts_bare r reading strict d n [] y e = whole (none, n) y refl e
parts_bare r reading strict d n (c ∷ cs) y e =
    let (x, first, after) = bind_ok (read_part r strict d n c) _ y e in
    let (z, rest, same) = bind_ok (read_parts r strict d x.1 cs) _ y after in
    whole (append x.0 z.0, z.1) y (append_bare x.0 z.0 (part_bare r reading strict d n c x first) (parts_bare r reading strict d x.1 cs z rest)) same

child_bare : (r : Reader) → Reading r → (strict : Bool) (d : Data) (n : ℕ) (c : Child) (y : Trees × ℕ) → read_child r strict d n c ≡ Ok y → BareTrees y
child_bare r reading strict d n (one c) y e = part_bare r reading strict d n c y e
child_bare r reading strict d n (many cs) y e =
    let (x, read, same) = bind_ok (read_parts r strict d n cs) _ y e in
    whole (listed x.0 ▸ none, x.1) y (alone (listed x.0) (parts_bare r reading strict d n cs x read)) same

children_bare : (r : Reader) → Reading r → (strict : Bool) (d : Data) (n : ℕ) (cs : List Child) (y : Trees × ℕ) → read_children r strict d n cs ≡ Ok y → BareTrees y
children_bare r reading strict d n [] y e = whole (none, n) y refl e
children_bare r reading strict d n (c ∷ cs) y e =
    let (x, first, after) = bind_ok (read_child r strict d n c) _ y e in
    let (z, rest, same) = bind_ok (read_children r strict d x.1 cs) _ y after in
    whole (append x.0 z.0, z.1) y (append_bare x.0 z.0 (child_bare r reading strict d n c x first) (children_bare r reading strict d x.1 cs z rest)) same

-- ---- nodes

over_bare : (h : Shape) (xs : List Name) (m : ℕ) (r : Read Trees) (x : Tree × ℕ) → are_as_written h xs ≡ true → ((y : Trees × ℕ) → r ≡ Ok y → BareTrees y) → with_children h xs m r ≡ Ok x → BareTree x
over_bare h xs m r x names bare e =
    let (y, read, same) = bind_ok r _ x e in
    subst BareTree (ok_same {E = Fault} (node h xs m y.0, y.1) x same) (both_true (are_as_written h xs) (have_no_symbol y.0) names (bare y read))

numbered_bare : (b : Bool) (n : ℕ) (h : Shape) (xs : List Name) (f : ℕ → Read Trees) (x : Tree × ℕ) → are_as_written h xs ≡ true → ((m : ℕ) (y : Trees × ℕ) → f m ≡ Ok y → BareTrees y) → numbered b n h xs f ≡ Ok x → BareTree x
numbered_bare true n h xs f x names bare e = over_bare h xs n (f (suc n)) x names (bare (suc n)) e
numbered_bare false n h xs f x names bare e = over_bare h xs 0 (f n) x names (bare n) e

by_plan : (r : Reader) → Reading r → (strict : Bool) (p : Place) (n : ℕ) (d : Data) (o : Result Plan Defect) (x : Tree × ℕ) → plan strict p d ≡ o → read_plan r strict p n d o ≡ Ok x → BareTree x
by_plan r reading strict p n d (Err b) x is e = absurd (cc e)
by_plan r reading strict p n d (Ok o) x is e =
    numbered_bare (takes_number p o.shape) n o.shape o.names (λ m. read_children r (is_strict_in strict o.shape) d m o.children) x (plan_bare strict p d o is)
    (λ m y read. children_bare r reading (is_strict_in strict o.shape) d m o.children y read) e

reads_bare : (k : ℕ) → Reading (reads k)
reads_bare zero strict p n d x e = absurd (cc e)
reads_bare (suc k) strict p n d x e = by_plan (reads k) (reads_bare k) strict p n d (plan strict p d) x refl e

pub program_unresolved : (k : ℕ) (d : Data) (t : Tree) (n : ℕ) → program_at k d ≡ Ok (t, n) → has_no_symbol t ≡ true
unfolding program_at
program_unresolved k d t n e = reads_bare k false (at a_program) 0 d (t, n) e
