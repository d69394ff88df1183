-- What a walk finds of the variables that a tree mentions, and of those that it declares and that can't be written.
use Rattle.std.specs.Prelude.{ℕ, zero, suc, ◌≡◌, ◌≤◌, ◌<◌, refl, length, slice_index_or, nat_eq, ◌&&◌, ◌||◌, not, Bool, true, false, List, [], ◌∷◌, ◌++◌, Option, Some, None, if◌then◌else◌}
use Rattle.std.proofs.Common.{ap, ◌∙◌, sym, subst, arith}
use Rattle.mini_model.specs.declared.kind.VariableDeclarationKind.TheVariants.{Const, Var}
use Rattle.mini_model.specs.declared.name.Name.{Name}
use Rattle.mini_model.specs.declared.name.SymbolId.{SymbolId}
use Rattle.mini_model.specs.declared.operator.UnaryOperator.TheVariants.{LogicalNot}
use Rattle.mini_model.specs.declared.shape.Shape.{Shape}
use Rattle.mini_model.specs.declared.shape.Shape.TheVariants as shape
use Rattle.mini_model.specs.Tree.{Tree, Trees, node, none, ◌▸◌, shape_of, children, first_or_absent, node_count, node_counts}
use Rattle.mini_model.specs.Paths.{child_at}
use Rattle.mini_laws.specs.Fixity.{fixity_by, lets_fourth, declared_by, stricter, fixed_by, fixed_by_any}
use Rattle.mini_laws.specs.Naming.{Declared, AClass, Variables, front, lets_all, lets_first, lets_of, class_lets, first_facts, facts_all, summary, summaries}
use Rattle.mini_laws.specs.State.{Fixed, Writable, Constant, KeepsOld}
use Rattle.mini_laws.specs.Value as value
use Rattle.mini_laws.specs.Value.{Variable, variables, variable_eq, variable_by, is_in, choose}
use Rattle.mini_node.specs.Children.{names, names_of}
use Rattle.mini_context.specs.Holders.{class_place, declares_class, lets_holder, forbidden_holder, is_class, lets_at, class_at, held_by, forbidden_in, all_forbidden_in, variables_in, all_variables_in, has, AllBelow, PutAll, TakenAll, Writables}
use Rattle.mini_context.specs.declared.writable.ClassPlace.{ClassPlace}
use Rattle.mini_context.specs.declared.writable.ClassPlace.TheVariants as class
use Rattle.mini_context.specs.declared.writable.Holder.{Holder}
use Rattle.mini_context.specs.Tables.{mark_at}
use Rattle.mini_laws.specs.Writable.{is_open, mentions, any_mentions}
use Rattle.mini_context.proofs.Gathering.{Adds, Gathers}
use Rattle.mini_context.proofs.Marking.{or_false, or_assoc}

-- ---- lists of variables

in_more : (c r q : Bool) → (choose c true r || q) ≡ choose c true (r || q)
in_more true r q = refl
in_more false r q = refl

in_both : (x : Variable) (ys zs : List Variable) → is_in x (ys ++ zs) ≡ (is_in x ys || is_in x zs)
in_both x [] zs = refl
in_both x (y ∷ ys) zs = ap (choose (variable_eq y x) true) (in_both x ys zs) ∙ sym (in_more (variable_eq y x) (is_in x ys) (is_in x zs))

and_true : (b : Bool) → (b && true) ≡ b
and_true true = refl
and_true false = refl

-- ---- tables

pub put_adds : Adds PutAll
put_adds = record {
  nothing = λ a k. sym (or_false (mark_at a k));
  both = λ xs ys a b c f g k. g k ∙ ap (λ m. m || has ys k) (f k) ∙ or_assoc (mark_at a k) (has xs k) (has ys k) ∙ ap (λ m. mark_at a k || m) (sym (in_both (value.Declared k) xs ys));
}

neither : (a p q : Bool) → ((a && not p) && not q) ≡ (a && not (p || q))
neither true true q = refl
neither true false q = refl
neither false p q = refl

pub taken_adds : Adds TakenAll
taken_adds = record {
  nothing = λ a k. sym (and_true (mark_at a k));
  both = λ xs ys a b c f g k. g k ∙ ap (λ m. m && not (has ys k)) (f k) ∙ neither (mark_at a k) (has xs k) (has ys k) ∙ ap (λ m. mark_at a k && not m) (sym (in_both (value.Declared k) xs ys));
}

pub lets_gather : Gathers (λ i us. (summary (first_or_absent us)).lets) (λ i us. lets_all (summaries us))
lets_gather = record { at_none = λ i. refl; at_more = λ i t ts. refl }

pub forbidden_gather : Gathers (λ i us. forbidden_in (first_or_absent us)) (λ i us. all_forbidden_in us)
unfolding forbidden_in
forbidden_gather = record { at_none = λ i. refl; at_more = λ i t ts. refl }

pub variables_gather : Gathers (λ i us. variables_in (first_or_absent us)) (λ i us. all_variables_in us)
unfolding variables_in
variables_gather = record { at_none = λ i. refl; at_more = λ i t ts. refl }

-- ---- a name

chosen : (b : Bool) → b ≡ choose b true false
chosen true = refl
chosen false = refl

symbol_has : (s : List ℕ) (y : Option SymbolId) (k : ℕ) → Bool
symbol_has s y k = choose (variable_eq (variable_by s y) (value.Declared k)) true false

pub put_some : (x : Name) (i : SymbolId) (old new : List Bool) → x.symbol ≡ Some i → ((k : ℕ) → mark_at new k ≡ (mark_at old k || (nat_eq i.0 k && true))) → PutAll (variables (x ∷ [])) old new
put_some x i old new e m k = m k ∙ ap (λ b. mark_at old k || b) (and_true (nat_eq i.0 k) ∙ chosen (nat_eq i.0 k) ∙ sym (ap (λ y. choose (variable_eq (variable_by x.spelling y) (value.Declared k)) true false) e))

pub put_none : (x : Name) (old : List Bool) → x.symbol ≡ None → PutAll (variables (x ∷ [])) old old
put_none x old e k = sym (or_false (mark_at old k)) ∙ ap (λ b. mark_at old k || b) (sym (ap (λ y. choose (variable_eq (variable_by x.spelling y) (value.Declared k)) true false) e))

pub take_some : (x : Name) (i : SymbolId) (old new : List Bool) → x.symbol ≡ Some i → ((k : ℕ) → mark_at new k ≡ (mark_at old k && not (nat_eq i.0 k))) → TakenAll (variables (x ∷ [])) old new
take_some x i old new e m k = m k ∙ ap (λ b. mark_at old k && not b) (chosen (nat_eq i.0 k) ∙ sym (ap (λ y. choose (variable_eq (variable_by x.spelling y) (value.Declared k)) true false) e))

pub take_none : (x : Name) (old : List Bool) → x.symbol ≡ None → TakenAll (variables (x ∷ [])) old old
take_none x old e k = sym (and_true (mark_at old k)) ∙ ap (λ b. mark_at old k && not b) (sym (ap (λ y. choose (variable_eq (variable_by x.spelling y) (value.Declared k)) true false) e))

-- ---- what a node declares

first_lets : (ts : Trees) → lets_first (summaries ts) ≡ lets_at ts 0
first_lets none = refl
first_lets (t ▸ ts) = refl

fourth_lets : (ts : Trees) → lets_fourth (summaries ts) ≡ lets_at ts 3
fourth_lets none = refl
fourth_lets (a ▸ none) = refl
fourth_lets (a ▸ (b ▸ none)) = refl
fourth_lets (a ▸ (b ▸ (c ▸ none))) = refl
fourth_lets (a ▸ (b ▸ (c ▸ (d ▸ ts)))) = refl

of_class : (d : Option Declared) (ys : List Variable) → class_lets d ys ≡ (if is_class d then ys else [])
of_class None ys = refl
of_class (Some AClass) ys = refl
of_class (Some (Variables k)) ys = refl

class_first : (ts : Trees) → class_lets (first_facts (facts_all (summaries ts))).declared (lets_first (summaries ts)) ≡ class_at ts
class_first none = refl
class_first (t ▸ ts) = of_class (summary t).facts.declared (summary t).lets

lets_are : (h : Shape) (xs : List Variable) (ts : Trees) → lets_of h xs (summaries ts) ≡ held_by (lets_holder h) xs ts
lets_are shape.BindingIdentifier xs ts = refl
lets_are (shape.UnaryExpression LogicalNot) xs ts = first_lets ts
lets_are shape.AssignmentPattern xs ts = first_lets ts
lets_are shape.VariableDeclarator xs ts = first_lets ts
lets_are (shape.Class true) xs ts = first_lets ts
lets_are shape.ExportNamedDeclaration xs ts = first_lets ts
lets_are (shape.VariableDeclaration Var) xs ts = refl
lets_are (shape.VariableDeclaration k) xs ts = first_lets ts
lets_are shape.ExportDefaultDeclaration xs ts = class_first ts
lets_are h xs ts = refl

pub lets_held : (t : Tree) → held_by (lets_holder (shape_of t)) (variables (names_of t)) (children t) ≡ (summary t).lets
lets_held (node h xs n ts) = sym (lets_are h (variables xs) ts)

pub lets_told : (t : Tree) (h : Shape) (p : Holder) → p ≡ lets_holder h → h ≡ shape_of t → held_by p (variables (names_of t)) (children t) ≡ (summary t).lets
lets_told t h p e f = ap (λ q. held_by q (variables (names_of t)) (children t)) (e ∙ ap lets_holder f) ∙ lets_held t

-- a class that a parent reads

abbrev at_class : Option Tree → Bool
at_class None = false
at_class (Some t) = declares_class t

abbrev class_by : ClassPlace → Trees → Bool
class_by class.Here ts = true
class_by class.First ts = at_class (child_at ts 0)
class_by class.Nowhere ts = false

class_is : (h : Shape) (xs : List Name) (n : ℕ) (ts : Trees) → declares_class (node h xs n ts) ≡ class_by (class_place h) ts
class_is (shape.Class true) xs n ts = refl
class_is (shape.UnaryExpression LogicalNot) xs n none = refl
class_is (shape.UnaryExpression LogicalNot) xs n (t ▸ ts) = refl
class_is (shape.Function true is_generator directives) xs n ts = refl
class_is (shape.Function false is_generator directives) xs n ts = refl
class_is h xs n ts = refl

class_of : (t : Tree) → declares_class t ≡ class_by (class_place (shape_of t)) (children t)
class_of (node h xs n ts) = class_is h xs n ts

pub class_told : (t : Tree) (h : Shape) (p : ClassPlace) → p ≡ class_place h → h ≡ shape_of t → class_by p (children t) ≡ declares_class t
class_told t h p e f = ap (λ q. class_by q (children t)) (e ∙ ap class_place f) ∙ sym (class_of t)

pub class_below : (t : Tree) (h : Shape) (ts : Trees) (o : Option Tree) → class.First ≡ class_place h → h ≡ shape_of t → ts ≡ children t → o ≡ child_at ts 0 → at_class o ≡ declares_class t
class_below t h ts o e f g k = ap at_class (k ∙ ap (λ us. child_at us 0) g) ∙ class_told t h class.First e f

-- a child is no larger than all
pub child_within : (ts : Trees) (i : ℕ) (u : Tree) → Some u ≡ child_at ts i → node_count u ≤ node_counts ts
child_within none i u e = absurd (cc e)
child_within (t ▸ ts) zero u e = let same : u ≡ t = cc in omega (arith, ap node_count same)
child_within (t ▸ ts) (suc i) u e = omega (arith, child_within ts i u e)

pub own_front : (o : Option Name) → front (variables (names o)) ≡ variables (names o)
own_front None = refl
own_front (Some x) = refl

-- what a walk does at a node, and below it

pub node_put : (t : Tree) (o : Option Name) (a b c : List Bool) → names o ≡ names_of t → PutAll (variables (names o)) a b → PutAll (all_variables_in (children t)) b c → PutAll (variables_in t) a c
unfolding variables_in
node_put (node h xs n ts) o a b c e p q = put_adds.both (variables xs) (all_variables_in ts) a b c (subst (λ ys. PutAll (variables ys) a b) e p) q

pub node_taken : (t : Tree) (h : Shape) (p : Holder) (ts : Trees) (a b c : List Bool) → p ≡ forbidden_holder h → h ≡ shape_of t → ts ≡ children t → TakenAll (held_by p (variables (names_of t)) (children t)) a b → TakenAll (all_forbidden_in ts) b c → TakenAll (forbidden_in t) a c
unfolding forbidden_in
node_taken (node k xs n us) h p ts a b c e f g u v =
    taken_adds.both (held_by (forbidden_holder k) (variables xs) us) (all_forbidden_in us) a b c (subst (λ q. TakenAll (held_by q (variables xs) us) a b) (e ∙ ap forbidden_holder f) u) (subst (λ ws. TakenAll (all_forbidden_in ws) b c) g v)

-- ---- and what of that can't be written

closed : (f : Fixed) → is_open f ≡ false → (b : Bool) → is_open (choose b f Writable) ≡ not b
closed f e true = e
closed f e false = refl

left_open : (b : Bool) → is_open (choose b Writable Writable) ≡ true
left_open true = refl
left_open false = refl

own_open : (h : Shape) (xs : List Variable) (ts : Trees) (x : Variable) → is_open (choose (is_in x (declared_by h (summaries ts))) (fixity_by h) Writable) ≡ not (is_in x (held_by (forbidden_holder h) xs ts))
own_open (shape.VariableDeclaration Const) xs ts x = closed Constant refl (is_in x (lets_first (summaries ts))) ∙ ap (λ ys. not (is_in x ys)) (first_lets ts)
own_open (shape.Function false g ds) xs ts x = closed KeepsOld refl (is_in x (lets_first (summaries ts))) ∙ ap (λ ys. not (is_in x ys)) (first_lets ts)
own_open (shape.Class false) xs ts x = closed Constant refl (is_in x (lets_first (summaries ts))) ∙ ap (λ ys. not (is_in x ys)) (first_lets ts)
own_open (shape.Class true) xs ts x = closed Constant refl (is_in x (lets_fourth (summaries ts))) ∙ ap (λ ys. not (is_in x ys)) (fourth_lets ts)
own_open shape.ImportSpecifier xs ts x = closed Constant refl (is_in x (lets_all (summaries ts)))
own_open shape.ImportDefaultSpecifier xs ts x = closed Constant refl (is_in x (lets_first (summaries ts))) ∙ ap (λ ys. not (is_in x ys)) (first_lets ts)
own_open shape.ImportNamespaceSpecifier xs ts x = closed Constant refl (is_in x (lets_first (summaries ts))) ∙ ap (λ ys. not (is_in x ys)) (first_lets ts)
own_open h xs ts x = left_open (is_in x (declared_by h (summaries ts)))

both_open : (f g : Fixed) → is_open (stricter f g) ≡ (is_open f && is_open g)
both_open Writable g = refl
both_open KeepsOld Writable = refl
both_open KeepsOld KeepsOld = refl
both_open KeepsOld Constant = refl
both_open Constant g = refl

both_not : (p q : Bool) → (not p && not q) ≡ not (p || q)
both_not true q = refl
both_not false q = refl

open_by : (f g : Fixed) (x : Variable) (ys zs : List Variable) → is_open f ≡ not (is_in x ys) → is_open g ≡ not (is_in x zs) → is_open (stricter f g) ≡ not (is_in x (ys ++ zs))
open_by f g x ys zs p q = both_open f g ∙ (λ i. p i && q i) ∙ both_not (is_in x ys) (is_in x zs) ∙ ap not (sym (in_both x ys zs))

mutual
  unfolding forbidden_in

  open_told : (t : Tree) (x : Variable) → is_open (fixed_by t x) ≡ not (is_in x (forbidden_in t))
  open_told (node h xs n ts) x = open_by (choose (is_in x (declared_by h (summaries ts))) (fixity_by h) Writable) (fixed_by_any ts x) x (held_by (forbidden_holder h) (variables xs) ts) (all_forbidden_in ts) (own_open h (variables xs) ts x) (all_open_told ts x)

  all_open_told : (ts : Trees) (x : Variable) → is_open (fixed_by_any ts x) ≡ not (is_in x (all_forbidden_in ts))
  all_open_told none x = refl
  all_open_told (t ▸ ts) x = open_by (fixed_by t x) (fixed_by_any ts x) x (forbidden_in t) (all_forbidden_in ts) (open_told t x) (all_open_told ts x)

mutual
  unfolding variables_in

  mentions_told : (t : Tree) (x : Variable) → is_in x (variables_in t) ≡ mentions t x
  mentions_told (node h xs n ts) x = in_both x (variables xs) (all_variables_in ts) ∙ ap (λ b. is_in x (variables xs) || b) (all_mentions_told ts x)

  all_mentions_told : (ts : Trees) (x : Variable) → is_in x (all_variables_in ts) ≡ any_mentions ts x
  all_mentions_told none x = refl
  all_mentions_told (t ▸ ts) x = in_both x (variables_in t) (all_variables_in ts) ∙ (λ i. mentions_told t x i || all_mentions_told ts x i)

pub writables_told : (t : Tree) (put left : List Bool) → PutAll (variables_in t) [] put → TakenAll (forbidden_in t) put left → Writables t left
writables_told t put left p q s =
    let x = value.Declared s in
    q s ∙ ap (λ b. b && not (is_in x (forbidden_in t))) (p s) ∙ (λ i. mentions_told t x i && sym (open_told t x) i)

-- ---- where there is a mark there is an entry

pub within : (marks : List Bool) (s : ℕ) → slice_index_or marks s false ≡ true → s < length marks
within [] s e = absurd (cc e)
within (m ∷ ms) zero e = omega arith
within (m ∷ ms) (suc s) e = omega (arith, within ms s e)

pub room_told : (t : Tree) (put : List Bool) (n : ℕ) → PutAll (variables_in t) [] put → n ≡ length put → AllBelow n t
room_told t put n p e s h = omega (arith, e, within put s (p s ∙ mentions_told t (value.Declared s) ∙ h))
