-- What the tests and the steps of the code for a `switch` over a value say.
use Rattle.std.proofs.Common.{◌≡◌, ℕ, zero, suc, ◌+◌, ◌-◌, ◌<◌, ◌≤◌, Bool, true, false, Option, Some, None, refl, sym, ap, ◌∙◌, arith}
use Rattle.std.specs.Prelude.{◌&&◌, ◌||◌, not, is_some, unwrap_or, List, [], ◌∷◌, length, if◌then◌else◌}
use Rattle.std.proofs.lemmas.Bool.{and_parts, false≢true}
use Rattle.mini_model.specs.Paths.{append}
use Rattle.mini_model.specs.Tree.{Tree, Trees, node, none, ◌▸◌, shape_of, children, child_or_absent, count, node_count}
use Rattle.mini_node.specs.Children.{part, trees_of, first_children, rest_children, without}
use Rattle.mini_node.specs.Kinds.{is_listed, is_named_leaf}
use Rattle.mini_node.specs.Walks.{from_first, all_first, next_child, no_rest}
use Rattle.mini_rows.specs.Cases.{switch_case}
use Rattle.mini_model.specs.declared.kind.VariableDeclarationKind.TheVariants.{Var}
use Rattle.mini_model.specs.declared.shape.Shape.TheVariants as shape
use Rattle.mini_rows.specs.DeadCases.{no_choices, hoists_nothing, hoist_nothing, is_plain_declarator, are_plain_declarators, is_plain_var, left_all, left_cases, running}
use Rattle.mini_rows.specs.Lists.{is_var_shape, any, are_terminated}
use Rattle.mini_rows.specs.Loops.{is_body_shape}
use Rattle.mini_switch.specs.MinimizeSwitchStatements.{is_case}
use Rattle.mini_switch.specs.MinimizeSwitchStatements as inlining
use Rattle.mini_syntax.specs.Forms.{first_of}
use Rattle.mini_switch.specs.DropUnreachableSwitchCases.{are_cases, choices_of, is_binding_shape, binds_name, some_plain, declares_names, left_by, left_at, written, either_written}
use Rattle.mini_switch.proofs.Switches.{case_is}

pub two_parts : (c : Tree) (cs : Trees) → are_cases (c ▸ cs) ≡ true → count (children c) ≡ 2
two_parts c cs e = ap (λ t. count (children t)) (case_is c (and_parts (is_case c) (are_cases cs) e).0)

pub rest_cases : (c : Tree) (cs : Trees) → are_cases (c ▸ cs) ≡ true → are_cases cs ≡ true
rest_cases c cs e = (and_parts (is_case c) (are_cases cs) e).1

pub counted : (xs : List Tree) → count (trees_of xs) ≡ length xs
counted [] = refl
counted (x ∷ xs) = ap suc (counted xs)

pub some_node : (t : Tree) → 0 < node_count t
some_node (node h xs n ts) = omega arith

pub hoists_by : (t : Tree) → hoists_nothing t ≡ (is_body_shape (shape_of t) || (not (is_var_shape (shape_of t)) && hoist_nothing (children t)))
hoists_by (node h xs n ts) = refl

pub hoisting_stops : (ts : Trees) (i : ℕ) → i < count ts → hoists_nothing (child_or_absent ts i) ≡ false → hoist_nothing (rest_children i ts) ≡ hoist_nothing ts → false ≡ hoist_nothing ts
hoisting_stops ts i h e inv = sym (ap (λ b. b && hoist_nothing (rest_children (suc i) ts)) e) ∙ sym (ap hoist_nothing (next_child ts i h)) ∙ inv

pub hoisting_goes_on : (ts : Trees) (i : ℕ) → i < count ts → hoists_nothing (child_or_absent ts i) ≡ true → hoist_nothing (rest_children i ts) ≡ hoist_nothing ts → hoist_nothing (rest_children (i + 1) ts) ≡ hoist_nothing ts
hoisting_goes_on ts i h e inv = let next : i + 1 ≡ suc i = omega arith in ap (λ k. hoist_nothing (rest_children k ts)) next ∙ sym (ap (λ b. b && hoist_nothing (rest_children (suc i) ts)) e) ∙ sym (ap hoist_nothing (next_child ts i h)) ∙ inv

pub hoisting_ends : (ts : Trees) (i : ℕ) → count ts ≤ i → hoist_nothing (rest_children i ts) ≡ hoist_nothing ts → true ≡ hoist_nothing ts
hoisting_ends ts i h inv = sym (ap hoist_nothing (no_rest ts i h)) ∙ inv

-- windows

first_part : (k : ℕ) (ts : Trees) → are_cases ts ≡ true → are_cases (first_children k ts) ≡ true
first_part k none e = refl
first_part zero (t ▸ ts) e = refl
first_part (suc k) (t ▸ ts) e =
    let (own, rest) = and_parts (is_case t) (are_cases ts) e in
    ap (λ b. b && are_cases (first_children k ts)) own ∙ first_part k ts rest

last_part : (k : ℕ) (ts : Trees) → are_cases ts ≡ true → are_cases (rest_children k ts) ≡ true
last_part k none e = refl
last_part zero (t ▸ ts) e = e
last_part (suc k) (t ▸ ts) e = last_part k ts (and_parts (is_case t) (are_cases ts) e).1

rest_count : (k : ℕ) (ts : Trees) → count (rest_children k ts) ≡ count ts - k
rest_count k none = omega arith
rest_count zero (t ▸ ts) = omega arith
rest_count (suc k) (t ▸ ts) = let rest = rest_count k ts in omega (arith, rest)

pub first_window : (k : ℕ) (ts : Trees) → first_children k (rest_children 0 ts) ≡ first_children k ts
first_window k ts = ap (first_children k) (from_first ts)

pub last_window : (k : ℕ) (ts : Trees) → first_children (count ts - k) (rest_children k ts) ≡ rest_children k ts
last_window k ts = let same = rest_count k ts in all_first (rest_children k ts) (count ts - k) (omega (arith, same))

pub first_cases : (k : ℕ) (ts : Trees) → are_cases ts ≡ true → are_cases (first_children k (rest_children 0 ts)) ≡ true
first_cases k ts e = ap are_cases (first_window k ts) ∙ first_part k ts e

pub last_cases : (k : ℕ) (ts : Trees) → are_cases ts ≡ true → are_cases (first_children (count ts - k) (rest_children k ts)) ≡ true
last_cases k ts e = ap are_cases (last_window k ts) ∙ last_part k ts e

-- what runs

pub runs_alone : (ss cs : Trees) → count cs ≡ 0 → ss ≡ running ss (choices_of cs)
runs_alone ss none e = refl
runs_alone ss (c ▸ cs) e = absurd (omega (arith, e))

pub runs_ended : (ss cs : Trees) → (count cs ≡ 0 → ⊥) → any (are_terminated ss) ≡ true → append ss (left_cases (choices_of cs)) ≡ running ss (choices_of cs)
runs_ended ss none h e = absurd (h refl)
runs_ended ss (c ▸ cs) h e = sym (ap (λ b. if b then append ss (left_cases (choices_of (c ▸ cs))) else append ss (running (children (part c 1)) (choices_of cs))) e)

pub runs_on : (ss cs : Trees) → (count cs ≡ 0 → ⊥) → any (are_terminated ss) ≡ false → append ss (running (children (part (child_or_absent cs 0) 1)) (choices_of (without cs 0))) ≡ running ss (choices_of cs)
runs_on ss none h e = absurd (h refl)
runs_on ss (c ▸ cs) h e = sym (ap (λ b. if b then append ss (left_cases (choices_of (c ▸ cs))) else append ss (running (children (part c 1)) (choices_of cs))) e)

-- what is left

no_more : (cs : Trees) → choices_of (rest_children (count cs) cs) ≡ no_choices
no_more none = refl
no_more (c ▸ cs) = no_more cs

pub names_none : (cs : Trees) → count cs ≡ 0 → cs ≡ left_cases (choices_of cs)
names_none none e = refl
names_none (c ▸ cs) e = absurd (omega (arith, e))

pub names_more : (cs : Trees) → (count cs ≡ 0 → ⊥) → append (left_all (children (part (child_or_absent cs 0) 1))) (left_cases (choices_of (without cs 0))) ≡ left_cases (choices_of cs)
names_more none h = absurd (h refl)
names_more (c ▸ cs) h = refl

pub emptied_is : (cs : Trees) → 0 < count cs → switch_case (part (child_or_absent cs 0) 0) (append (left_all (children (part (child_or_absent cs 0) 1))) (left_cases (choices_of (without cs 0)))) ≡ left_at (count cs) cs
emptied_is none h = absurd (omega (arith, h))
emptied_is (c ▸ cs) h = sym (ap (left_by (choices_of (c ▸ cs)) (choices_of (first_children (count (c ▸ cs)) (c ▸ cs)))) (no_more cs))

some_rest : (i : ℕ) (cs : Trees) → i < count cs → 0 < count (rest_children i cs)
some_rest i cs h = let same = rest_count i cs in omega (arith, same, h)

pub rest_there : (i : ℕ) (cs : Trees) → i < count cs → 0 < count (rest_children i cs)
rest_there i cs h = some_rest i cs h

pub entered_is : (i : ℕ) (cs : Trees) → i < count cs
    → switch_case (part (child_or_absent (rest_children i cs) 0) 0) (append (left_cases (choices_of (first_children i cs))) (running (children (part (child_or_absent (rest_children i cs) 0) 1)) (choices_of (without (rest_children i cs) 0)))) ≡ left_at i cs
entered_is i cs h = go (rest_children i cs) (some_rest i cs h)
  where
    go : (later : Trees) → 0 < count later → switch_case (part (child_or_absent later 0) 0) (append (left_cases (choices_of (first_children i cs))) (running (children (part (child_or_absent later 0) 1)) (choices_of (without later 0)))) ≡ left_by (choices_of cs) (choices_of (first_children i cs)) (choices_of later)
    go none k = absurd (omega (arith, k))
    go (c ▸ later) k = refl

-- a `var` of names

alike : (a b : Bool) → (a ≡ true → b ≡ true) → (b ≡ true → a ≡ true) → a ≡ b
alike true b f g = sym (f refl)
alike false true f g = g refl
alike false false f g = refl

binding_plain : (c init : Tree) → is_binding_shape (shape_of c) && is_named_leaf c ≡ true → is_plain_declarator (node shape.VariableDeclarator [] 0 (c ▸ (init ▸ none))) ≡ true
binding_plain (node shape.BindingIdentifier (x ∷ []) zero none) init e = refl
binding_plain c init e = absurd (false≢true e)

binds_plain : (d : Tree) → binds_name d ≡ true → is_plain_declarator d ≡ true
binds_plain (node shape.VariableDeclarator [] zero (c ▸ (init ▸ none))) e = binding_plain c init e
binds_plain d e = absurd (false≢true e)

plain_binds : (d : Tree) → is_plain_declarator d ≡ true → binds_name d ≡ true
plain_binds (node shape.VariableDeclarator [] zero (node shape.BindingIdentifier (x ∷ []) zero none ▸ (init ▸ none))) e = refl
plain_binds d e = absurd (false≢true e)

pub plain_is : (d : Tree) → is_plain_declarator d ≡ binds_name d
plain_is d = alike (is_plain_declarator d) (binds_name d) (plain_binds d) (binds_plain d)

list_plain : (c : Tree) → is_listed c && some_plain (children c) ≡ true → is_plain_var (node (shape.VariableDeclaration Var) [] 0 (c ▸ none)) ≡ true
list_plain (node shape.Listed [] zero (d ▸ ds)) e = e
list_plain c e = absurd (false≢true e)

names_plain : (t : Tree) → declares_names t ≡ true → is_plain_var t ≡ true
names_plain (node (shape.VariableDeclaration Var) [] zero (c ▸ none)) e = list_plain c e
names_plain t e = absurd (false≢true e)

plain_names : (t : Tree) → is_plain_var t ≡ true → declares_names t ≡ true
plain_names (node (shape.VariableDeclaration Var) [] zero (node shape.Listed [] zero (d ▸ ds) ▸ none)) e = e
plain_names t e = absurd (false≢true e)

pub names_are : (t : Tree) → is_plain_var t ≡ declares_names t
names_are t = alike (is_plain_var t) (declares_names t) (plain_names t) (names_plain t)

pub some_is : (xs : List Tree) → 1 ≤ length xs → are_plain_declarators (trees_of xs) ≡ some_plain (trees_of xs)
some_is [] h = absurd (omega (arith, h))
some_is (x ∷ xs) h = refl

-- the first rewrite of a `switch`, and where it makes nothing the second

module _ (t u : Tree) (b : Bool) (made : u ≡ unwrap_or (inlining.written t) t) (said : b ≡ is_some (inlining.written t)) where
  pub first_tree : b ≡ true → u ≡ unwrap_or (either_written t) t
  first_tree e = go (inlining.written t) made (sym said ∙ e)
    where
      go : (o : Option Tree) → u ≡ unwrap_or o t → is_some o ≡ true → u ≡ unwrap_or (first_of o (written t)) t
      go (Some x) m s = m
      go None m s = absurd (false≢true s)

  pub first_said : b ≡ true → true ≡ is_some (either_written t)
  first_said e = go (inlining.written t) (sym said ∙ e)
    where
      go : (o : Option Tree) → is_some o ≡ true → true ≡ is_some (first_of o (written t))
      go (Some x) s = refl
      go None s = absurd (false≢true s)

  unmade : b ≡ false → inlining.written t ≡ None
  unmade e = go (inlining.written t) refl (sym said ∙ e)
    where
      go : (o : Option Tree) → inlining.written t ≡ o → is_some o ≡ false → o ≡ None
      go (Some x) m s = absurd (false≢true (sym s))
      go None m s = refl

  pub second_is : b ≡ false → written u ≡ either_written t
  second_is e = ap written (made ∙ ap (λ o. unwrap_or o t) (unmade e)) ∙ sym (ap (λ o. first_of o (written t)) (unmade e))

  pub second_tree : b ≡ false → unwrap_or (written u) u ≡ unwrap_or (either_written t) t
  second_tree e = λ i. unwrap_or (second_is e i) ((made ∙ ap (λ o. unwrap_or o t) (unmade e)) i)
