-- What neither declares nor writes a name spares its variable, wherever a value is asked of it.
use Rattle.std.proofs.Common.{◌≡◌, ℕ, zero, suc, Bool, true, false, List, [], Option, Some, None, refl, subst, true≢false}
use Rattle.std.specs.Prelude.{◌&&◌, length, if◌then◌else◌}
use Rattle.mini_model.specs.declared.kind.VariableDeclarationKind.{VariableDeclarationKind}
use Rattle.mini_model.specs.declared.name.Name.{Name}
use Rattle.mini_model.specs.declared.operator.LogicalOperator.{LogicalOperator}
use Rattle.mini_model.specs.declared.operator.LogicalOperator.TheVariants.{Or, And, Coalesce}
use Rattle.mini_model.specs.declared.operator.UnaryOperator.{UnaryOperator}
use Rattle.mini_model.specs.declared.operator.UnaryOperator.TheVariants as unary
use Rattle.mini_model.specs.declared.shape.Shape.{Shape}
use Rattle.mini_model.specs.declared.shape.Shape.TheVariants as shape
use Rattle.mini_model.specs.Tree.{Tree, Trees, node, none, ◌▸◌}
use Rattle.mini_laws.specs.Value.{Declared as Symbol, variables}
use Rattle.mini_laws.specs.Demand.{Want, Val, Test, Unused, Tail, LoopTail, Demand, As, Callee, Deleted, Target, Items, Parts, Texts, Stat, Declares, Binds, Heads, Cases}
use Rattle.mini_laws.specs.Naming.{Declared, Variables, AClass, Facts, first_facts, Summary, summaries, facts, written_of, naming}
use Rattle.mini_laws.specs.Asking.{pass, demand, first_demand, logical_demand, operand_demand, chained, parts_demand, sequence_demand, tail_demand, tail_of, try_demand, do_demand, head_demand, for_demand, declaration_demand, lexically, exported_demand, list_demand}
use Rattle.mini_laws.specs.Steady.{SparedBy, Spares, AllSpare}
use Rattle.mini_rows.specs.Past.{is_binding, has_symbol, binds, any_bind, is_writer, written_names, has_its_symbol, writes, any_write}
use Rattle.mini_rows.specs.Unused.{any_names}
use Rattle.mini_rows.proofs.Avoiding.{Out, AllWithout, spared_by, all_spare}
use Rattle.mini_rows.proofs.Unbound.{out_names, all_without}
use Rattle.mini_rows.proofs.UnusedNames.{or_parts, all_avoided}

-- it isn't asked for what is written
abbrev pub Untargeted : Demand → Type 0
Untargeted Target = ⊥
Untargeted q = Unit {0}

-- ---- what a node asks of its children

logical_asks : (o : LogicalOperator) (w : Want) (i : ℕ) → Untargeted (logical_demand o w i)
logical_asks And Val i = tt
logical_asks And Test i = tt
logical_asks And Unused zero = tt
logical_asks And Unused (suc i) = tt
logical_asks Or Val i = tt
logical_asks Or Test i = tt
logical_asks Or Unused zero = tt
logical_asks Or Unused (suc i) = tt
logical_asks Coalesce w i = tt

operand_asks : (o : UnaryOperator) → Untargeted (operand_demand o)
operand_asks unary.LogicalNot = tt
operand_asks unary.Typeof = tt
operand_asks unary.Delete = tt
operand_asks o = tt

chain_asks : (q : Demand) → Untargeted (chained q)
chain_asks (As w) = tt
chain_asks Callee = tt
chain_asks Deleted = tt
chain_asks q = tt

parts_ask : (n : ℕ) (w : Want) (i : ℕ) → Untargeted (parts_demand n w i)
parts_ask zero w zero = tt
parts_ask zero w (suc i) = tt
parts_ask (suc n) w zero = tt
parts_ask (suc n) w (suc i) = parts_ask n w i

sequence_asks : (n : ℕ) (w : Want) (i : ℕ) → Untargeted (sequence_demand n w i)
sequence_asks zero w i = tt
sequence_asks (suc n) w i = parts_ask n w i

statements_ask : (n : ℕ) (t : Option Tail) (i : ℕ) → Untargeted (tail_demand n t i)
statements_ask zero t i = tt
statements_ask (suc n) t zero = tt
statements_ask (suc n) t (suc i) = statements_ask n t i

branch_asks : (q : Demand) → Untargeted (tail_of q)
branch_asks (Stat t) = tt
branch_asks q = tt

try_asks : (i : ℕ) → Untargeted (try_demand i)
try_asks zero = tt
try_asks (suc zero) = tt
try_asks (suc (suc i)) = tt

do_asks : (i : ℕ) → Untargeted (do_demand i)
do_asks zero = tt
do_asks (suc i) = tt

head_asks : (d : Option Declared) → Untargeted (head_demand d)
head_asks (Some (Variables k)) = tt
head_asks d = tt

for_asks : (d : Option Declared) (i : ℕ) → Untargeted (for_demand d i)
for_asks d zero = head_asks d
for_asks d (suc zero) = tt
for_asks d (suc (suc zero)) = tt
for_asks d (suc (suc (suc i))) = tt

declaration_asks : (k : VariableDeclarationKind) (q : Demand) → Untargeted (declaration_demand k q)
declaration_asks k (Binds lexical) = tt
declaration_asks k q = tt

exported_asks : (d : Option Declared) → Untargeted (exported_demand d)
exported_asks (Some AClass) = tt
exported_asks d = tt

list_asks : (n : ℕ) (q : Demand) (i : ℕ) → Untargeted (list_demand n q i)
list_asks n (Stat t) i = statements_ask n t i
list_asks n Items i = tt
list_asks n (Parts w) i = sequence_asks n w i
list_asks n Texts i = tt
list_asks n (Declares lexical) i = tt
list_asks n (Binds lexical) i = tt
list_asks n Cases i = tt
list_asks n q i = tt

two_ask : (p q : Demand) → Untargeted p → Untargeted q → (i : ℕ) → Untargeted (first_demand p q i)
two_ask p q a b zero = a
two_ask p q a b (suc i) = b

child_asks : (h : Shape) (fs : List Facts) (q : Demand) → is_writer h ≡ false → Untargeted q → (i : ℕ) → Untargeted (demand h fs q i)
child_asks shape.Listed fs q w u i = list_asks (length fs) q i
child_asks shape.InnerExpression fs q w u i = two_ask q (Stat None) u tt i
child_asks shape.BlockStatement fs q w u i = branch_asks q
child_asks shape.LabeledStatement fs q w u i = two_ask (As Val) (Stat None) tt tt i
child_asks shape.IfStatement fs q w u i = two_ask (As Test) (tail_of q) tt (branch_asks q) i
child_asks shape.SwitchStatement fs q w u i = two_ask (As Val) Cases tt tt i
child_asks shape.SwitchCase fs q w u i = two_ask (As Val) (Stat None) tt tt i
child_asks shape.TryStatement fs q w u i = try_asks i
child_asks shape.CatchClause fs q w u i = two_ask (Binds true) (Stat None) tt tt i
child_asks shape.WhileStatement fs q w u i = two_ask (As Test) (Stat (Some LoopTail)) tt tt i
child_asks shape.DoWhileStatement fs q w u i = do_asks i
child_asks shape.ForStatement fs q w u i = for_asks (first_facts fs).declared i
child_asks shape.ForInStatement fs q w u i = absurd (true≢false w)
child_asks shape.ForOfStatement fs q w u i = absurd (true≢false w)
child_asks (shape.VariableDeclaration k) fs q w u i = declaration_asks k q
child_asks shape.VariableDeclarator fs q w u i = two_ask (Binds (lexically q)) (As Val) tt tt i
child_asks shape.ExportDefaultDeclaration fs q w u i = exported_asks (first_facts fs).declared
child_asks (shape.UnaryExpression o) fs q w u i = operand_asks o
child_asks (shape.UpdateExpression o p) fs q w u i = absurd (true≢false w)
child_asks (shape.LogicalExpression o) fs q w u i = logical_asks o (pass q) i
child_asks (shape.AssignmentExpression o) fs q w u i = absurd (true≢false w)
child_asks shape.ConditionalExpression fs q w u i = two_ask (As Test) (As (pass q)) tt tt i
child_asks (shape.CallExpression o) fs q w u i = two_ask Callee Items tt tt i
child_asks shape.NewExpression fs q w u i = two_ask (As Val) Items tt tt i
child_asks shape.ChainExpression fs q w u i = chain_asks q
child_asks h fs q w u i = tt

-- ---- what its node names

written_out : (k : ℕ) (h : Shape) (q : Demand) (xs : List Name) → (is_binding h && has_symbol k xs) ≡ false → Out k (variables (written_names h xs)) → Untargeted q → Out k (written_of h q (variables xs))
written_out k shape.Identifier Target xs e w u = absurd u
written_out k shape.BindingIdentifier (Binds lexical) xs e w u = out_names k xs e
written_out k shape.VariableDeclarator (Declares true) xs e w u = refl
written_out k shape.VariableDeclarator (Declares false) xs e w u = w
written_out k shape.VariableDeclarator Heads xs e w u = w
written_out k h q xs e w u = refl

node_spared : (k : ℕ) (h : Shape) (q : Demand) (xs : List Name) (n : ℕ) (is : List Summary) → (is_binding h && has_symbol k xs) ≡ false → Out k (variables (written_names h xs)) → Untargeted q → AllWithout k is → SparedBy (Symbol k) (naming h q (variables xs) n is)
node_spared k h q xs n is e w u a =
    let bare = spared_by k h q [] n is refl a in
    record { written = written_out k h q xs e w u; bound = bare.bound; scope = bare.scope; functions = bare.functions }

module _ (y : Name) (k : ℕ) (named : y.symbol ≡ Some (record { 0 = k })) where
  parts_alone : (h : Shape) (fs : List Facts) (q : Demand) → Untargeted q → (ts : Trees) → (if is_writer h then any_names y ts else any_write y ts) ≡ false → (any_write y ts ≡ false → ((i : ℕ) → Untargeted (demand h fs q i)) → AllSpare (Symbol k) (demand h fs q) ts) → AllSpare (Symbol k) (demand h fs q) ts
  parts_alone h fs q u ts w f = by (is_writer h) refl w
    where
      by : (c : Bool) → is_writer h ≡ c → (if c then any_names y ts else any_write y ts) ≡ false → AllSpare (Symbol k) (demand h fs q) ts
      by true e w = all_spare k ts (all_avoided y k named ts w) (demand h fs q)
      by false e w = f w (child_asks h fs q e u)

  mutual
    pub left_alone : (t : Tree) → binds k t ≡ false → writes y t ≡ false → (q : Demand) → Untargeted q → Spares (Symbol k) q t
    left_alone (node h xs n ts) b w q u =
        let (own, below) = or_parts (is_binding h && has_symbol k xs) (any_bind k ts) b in
        let (other, parts) = or_parts (has_its_symbol y.symbol (written_names h xs)) (if is_writer h then any_names y ts else any_write y ts) w in
        let away = out_names k (written_names h xs) (subst (λ o. has_its_symbol o (written_names h xs) ≡ false) named other) in
        (node_spared k h q xs n (summaries ts) own away u (all_without k ts below), parts_alone h (facts ts) q u ts parts (λ f v. all_left_alone ts below f (demand h (facts ts) q) v))

    all_left_alone : (ts : Trees) → any_bind k ts ≡ false → any_write y ts ≡ false → (σ : ℕ → Demand) → ((i : ℕ) → Untargeted (σ i)) → AllSpare (Symbol k) σ ts
    all_left_alone none b w σ u = tt
    all_left_alone (t ▸ ts) b w σ u =
        let (b1, bs) = or_parts (binds k t) (any_bind k ts) b in
        let (w1, ws) = or_parts (writes y t) (any_write y ts) w in
        (left_alone t b1 w1 (σ 0) (u 0), all_left_alone ts bs ws (λ i. σ (suc i)) (λ i. u (suc i)))
