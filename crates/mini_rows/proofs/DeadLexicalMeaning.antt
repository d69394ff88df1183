-- What is left of a class, a `let` or a `const` that never runs: it means the same, and a parent reads the same names of it.
use Rattle.std.proofs.Common.{◌≡◌, suc, true, false, List, [], ◌∷◌, ◌++◌, None, refl, sym, ap, subst, ◌∙◌, true≢false, arith}
use Rattle.std.specs.Prelude.{◌&&◌, nat_eq}
use Rattle.std.proofs.lemmas.Bool.{and_parts, eqb-true}
use Rattle.std.proofs.lemmas.List.{append-nil}
use Rattle.mini_model.specs.declared.kind.VariableDeclarationKind.{VariableDeclarationKind}
use Rattle.mini_model.specs.declared.kind.VariableDeclarationKind.TheVariants.{Let, Const}
use Rattle.mini_model.specs.declared.name.Name.{Name}
use Rattle.mini_model.specs.declared.operator.UnaryOperator.TheVariants.{LogicalNot}
use Rattle.mini_model.specs.declared.shape.Shape.TheVariants as shape
use Rattle.mini_model.specs.Tree.{Tree, Trees, node, none, ◌▸◌, count, shape_of, children, child_or_absent}
use Rattle.mini_model.specs.Paths.{append}
use Rattle.mini_laws.specs.declared.names.Declared.TheVariants as declared
use Rattle.mini_laws.specs.DeclaredNames.{is_inner, names_of, first_names, all_names}
use Rattle.mini_laws.specs.Value.{variables}
use Rattle.mini_laws.specs.State.{State, Environment}
use Rattle.mini_laws.specs.Demand.{Stat}
use Rattle.mini_laws.specs.Naming.{summary, summaries, lets_all, lets_first}
use Rattle.mini_laws.specs.Step.{means}
use Rattle.mini_rows.specs.Lists.{encloses}
use Rattle.mini_rows.specs.DeadLexicals.{is_lexical, gives, all_give, first_gives, goes_whole, may_fade, kind_left, declarators, declared_with, faded, Row77Lexical}
use Rattle.mini_rows.proofs.ListEnds.{never_goes, ended_tree}
use Rattle.mini_rows.proofs.ListStretches.{ReadSame, exec_more, read_in_list}
use Rattle.mini_node.specs.Walks.{append_none}
use Rattle.mini_laws.proofs.Stretching.{exec}

-- ---- the names that a part of a declaration gives are those that it binds

variables_both : (xs ys : List Name) → variables (xs ++ ys) ≡ variables xs ++ variables ys
variables_both [] ys = refl
variables_both (x ∷ xs) ys = ap (λ r. variables (x ∷ []) ++ r) (variables_both xs ys)

inner_binds : (t : Tree) → is_inner (shape_of t) ≡ true → names_of declared.Bound t ≡ []
unfolding names_of
inner_binds (node shape.InnerExpression xs n ts) e = refl
inner_binds (node h xs n ts) e = absurd (cc e)

not_two : (ts : Trees) → nat_eq (suc (suc (suc (count ts)))) 2 ≡ true → ⊥
not_two ts e = let same = eqb-true (suc (suc (suc (count ts)))) 2 e in omega (arith, same)

mutual
  unfolding names_of

  lets_given : (t : Tree) → gives t ≡ true → (summary t).lets ≡ variables (names_of declared.Bound t)
  lets_given (node shape.BindingIdentifier [] n ts) e = absurd (true≢false (sym e))
  lets_given (node shape.BindingIdentifier (x ∷ []) n ts) e = refl
  lets_given (node shape.BindingIdentifier (x ∷ (y ∷ xs)) n ts) e = absurd (true≢false (sym e))
  lets_given (node shape.Listed xs n ts) e = all_lets_given ts e
  lets_given (node shape.ObjectPattern xs n ts) e = all_lets_given ts e
  lets_given (node shape.ArrayPattern xs n ts) e = all_lets_given ts e
  lets_given (node (shape.BindingProperty is_shorthand is_computed) xs n ts) e = all_lets_given ts e
  lets_given (node shape.RestElement xs n ts) e = all_lets_given ts e
  lets_given (node shape.VariableDeclarator xs n none) e = refl
  lets_given (node shape.VariableDeclarator xs n (t ▸ ts)) e = lets_given t e
  lets_given (node shape.AssignmentPattern xs n none) e = absurd (true≢false (sym e))
  lets_given (node shape.AssignmentPattern xs n (t ▸ none)) e = absurd (true≢false (sym e))
  lets_given (node shape.AssignmentPattern xs n (t ▸ (d ▸ none))) e =
      let (default, own) = and_parts (is_inner (shape_of d)) (gives t) e in
      lets_given t own ∙ ap variables (sym (append-nil (names_of declared.Bound t)) ∙ ap (λ r. names_of declared.Bound t ++ r) (sym (ap (λ r. r ++ []) (inner_binds d default))))
  lets_given (node shape.AssignmentPattern xs n (t ▸ (d ▸ (u ▸ ts)))) e = absurd (not_two ts (and_parts (nat_eq (suc (suc (suc (count ts)))) 2) (is_inner (shape_of d)) (and_parts (nat_eq (suc (suc (suc (count ts)))) 2 && is_inner (shape_of d)) (gives t) e).0).0)
  lets_given (node (shape.UnaryExpression LogicalNot) xs n ts) e = absurd (true≢false (sym e))
  lets_given (node (shape.VariableDeclaration k) xs n ts) e = absurd (true≢false (sym e))
  lets_given (node (shape.Class true) xs n ts) e = absurd (true≢false (sym e))
  lets_given (node shape.SwitchCase xs n ts) e = absurd (true≢false (sym e))
  lets_given (node shape.ExportNamedDeclaration xs n ts) e = absurd (true≢false (sym e))
  lets_given (node shape.ExportDefaultDeclaration xs n ts) e = absurd (true≢false (sym e))
  lets_given (node shape.ImportSpecifier xs n ts) e = absurd (true≢false (sym e))
  lets_given (node shape.ImportDefaultSpecifier xs n ts) e = absurd (true≢false (sym e))
  lets_given (node shape.ImportNamespaceSpecifier xs n ts) e = absurd (true≢false (sym e))
  lets_given (node h xs n ts) e = refl

  all_lets_given : (ts : Trees) → all_give ts ≡ true → lets_all (summaries ts) ≡ variables (all_names declared.Bound ts)
  all_lets_given none e = refl
  all_lets_given (t ▸ ts) e =
      let (own, rest) = and_parts (gives t) (all_give ts) e in
      (λ i. lets_given t own i ++ all_lets_given ts rest i) ∙ sym (variables_both (names_of declared.Bound t) (all_names declared.Bound ts))

-- of the first part
pub first_lets : (ts : Trees) → first_gives ts ≡ true → lets_first (summaries ts) ≡ variables (first_names ts)
unfolding names_of
first_lets none e = refl
first_lets (t ▸ ts) e = lets_given t e

-- of a declaration there is no other
pub one_names : (ts : Trees) → nat_eq (count ts) 1 ≡ true → all_names declared.Bound ts ≡ first_names ts
unfolding names_of
one_names none e = absurd (true≢false (sym e))
one_names (t ▸ none) e = append-nil (names_of declared.Bound t)
one_names (t ▸ (u ▸ ts)) e = let same = eqb-true (suc (suc (count ts))) 1 e in absurd (omega (arith, same))

-- and so what is read of it
pub lexical_lets : (t : Tree) → may_fade t ≡ true → (summary t).lets ≡ variables (names_of declared.Lexical t)
unfolding names_of
lexical_lets (node (shape.VariableDeclaration Let) xs n ts) f =
    let (given, rest) = and_parts (first_gives ts) (nat_eq (count ts) 1 && encloses false (child_or_absent ts 0)) f in
    first_lets ts given ∙ ap variables (sym (one_names ts (and_parts (nat_eq (count ts) 1) (encloses false (child_or_absent ts 0)) rest).0))
lexical_lets (node (shape.VariableDeclaration Const) xs n ts) f =
    let (given, rest) = and_parts (first_gives ts) (nat_eq (count ts) 1 && encloses false (child_or_absent ts 0)) f in
    first_lets ts given ∙ ap variables (sym (one_names ts (and_parts (nat_eq (count ts) 1) (encloses false (child_or_absent ts 0)) rest).0))
lexical_lets (node (shape.Class true) xs n ts) f = first_lets ts (and_parts (first_gives ts) (encloses false (node (shape.Class true) xs n ts)) f).0
lexical_lets (node h xs n ts) f = absurd (true≢false (sym f))

-- ---- what is left of it

pub declarator_lets : (k : VariableDeclarationKind) (xs : List Name) → lets_all (summaries (declarators k xs)) ≡ variables xs
declarator_lets k [] = refl
declarator_lets k (x ∷ xs) = ap (λ r. variables (x ∷ []) ++ r) (declarator_lets k xs)

abbrev LeftReads : VariableDeclarationKind → List Name → Type 0
LeftReads k xs = (lets_all (summaries (declared_with k xs)) ≡ variables xs)

let_reads : (xs : List Name) → LeftReads Let xs
let_reads [] = refl
let_reads (x ∷ xs) = append-nil (lets_all (summaries (declarators Let (x ∷ xs)))) ∙ declarator_lets Let (x ∷ xs)

const_reads : (xs : List Name) → LeftReads Const xs
const_reads [] = refl
const_reads (x ∷ xs) = append-nil (lets_all (summaries (declarators Const (x ∷ xs)))) ∙ declarator_lets Const (x ∷ xs)

-- a declaration or a class
lexical_reads : (t : Tree) → is_lexical t ≡ true → (xs : List Name) → (summary t).lets ≡ variables xs → ReadSame (t ▸ none) (declared_with (kind_left (shape_of t)) xs)
lexical_reads (node (shape.VariableDeclaration Let) ys n ts) e [] f = record { lets = append-nil (summary (node (shape.VariableDeclaration Let) ys n ts)).lets ∙ f; functions = refl; facts = refl; texts = refl }
lexical_reads (node (shape.VariableDeclaration Let) ys n ts) e (x ∷ xs) f = record { lets = append-nil (summary (node (shape.VariableDeclaration Let) ys n ts)).lets ∙ f ∙ sym (let_reads (x ∷ xs)); functions = refl; facts = refl; texts = refl }
lexical_reads (node (shape.VariableDeclaration Const) ys n ts) e [] f = record { lets = append-nil (summary (node (shape.VariableDeclaration Const) ys n ts)).lets ∙ f; functions = refl; facts = refl; texts = refl }
lexical_reads (node (shape.VariableDeclaration Const) ys n ts) e (x ∷ xs) f = record { lets = append-nil (summary (node (shape.VariableDeclaration Const) ys n ts)).lets ∙ f ∙ sym (const_reads (x ∷ xs)); functions = refl; facts = refl; texts = refl }
lexical_reads (node (shape.Class true) ys n ts) e [] f = record { lets = append-nil (summary (node (shape.Class true) ys n ts)).lets ∙ f; functions = refl; facts = refl; texts = refl }
lexical_reads (node (shape.Class true) ys n ts) e (x ∷ xs) f = record { lets = append-nil (summary (node (shape.Class true) ys n ts)).lets ∙ f ∙ sym (let_reads (x ∷ xs)); functions = refl; facts = refl; texts = refl }
lexical_reads t e xs f = absurd (cc e)

-- ---- behind what ends in a jump

read_behind : (pre a b : Trees) → ReadSame a b → ReadSame (append pre a) (append pre b)
read_behind pre a b h = subst (λ x. ReadSame (append pre x) (append pre b)) (append_none a) (subst (λ x. ReadSame (append pre (append a none)) (append pre x)) (append_none b) (read_in_list pre a b none h))

module _ (a b : Trees) (r : Row77Lexical a b) where
  stops : (e : Environment) (ts : Trees) (s : State) → exec e (r.first ▸ ts) None s ≡ means e r.first (Stat None) [] s
  stops e ts s = exec_more e r.first ts s ∙ never_goes (means e r.first (Stat None) [] s) (ended_tree e r.first r.terminated [] s) _

  pub lexical_does : (e : Environment) (s : State) → exec e a None s ≡ exec e b None s
  lexical_does e s =
      ap (λ ts. exec e ts None s) r.shape
      ∙ stops e (append r.between (r.gone ▸ none)) s
      ∙ sym (stops e (append r.between (faded r.gone)) s)
      ∙ sym (ap (λ ts. exec e ts None s) r.written)

  pub lexical_read : ReadSame a b
  lexical_read =
      subst (λ ts. ReadSame ts b) (sym r.shape) (subst (ReadSame (r.first ▸ append r.between (r.gone ▸ none))) (sym r.written)
      (read_behind (r.first ▸ r.between) (r.gone ▸ none) (faded r.gone) (lexical_reads r.gone (and_parts (is_lexical r.gone) (first_gives (children r.gone) && goes_whole r.gone) r.fades).0 (names_of declared.Lexical r.gone) (lexical_lets r.gone r.fades))))
