-- A resolved tree declares the same names, with the symbols that the scopes around give them.
use Rattle.std.specs.Prelude.{ℕ, zero, suc, ◌+◌, ◌≡◌, refl, Bool, true, false, ◌&&◌, List, [], ◌∷◌, ◌++◌, length, map, Some, None, if◌then◌else◌}
use Rattle.std.proofs.Common.{ap, ◌∙◌, sym}
use Rattle.std.proofs.lemmas.List.{append-nil, map-append}
use Rattle.mini_model.specs.declared.kind.VariableDeclarationKind.TheVariants.{Var, Let, Const}
use Rattle.mini_model.specs.declared.name.Name.{Name}
use Rattle.mini_model.specs.declared.shape.Shape.TheVariants as shape
use Rattle.mini_model.specs.Tree.{Tree, Trees, node, none, ◌▸◌}
use Rattle.mini_model.specs.Weight.{same_text}
use Rattle.mini_laws.proofs.Numbers.{none_if, symbol_of_both}
use Rattle.mini_laws.specs.declared.names.Use.{Use}
use Rattle.mini_laws.specs.declared.names.Use.TheVariants.{Read, Write, Hoisted, Headed}
use Rattle.mini_laws.specs.declared.names.Binding.{Binding}
use Rattle.mini_laws.specs.declared.names.Declared.TheVariants as declared
use Rattle.mini_laws.specs.declared.names.Opening.{Opening}
use Rattle.mini_laws.specs.declared.names.Opening.TheVariants as opening
use Rattle.mini_laws.specs.DeclaredNames.{names_of, first_names, all_names, with_names}
use Rattle.mini_laws.specs.Scopes.{hoisted_by, use_of, is_alone, opening_of, scopes_by, at_or_empty, opened}
use Rattle.mini_laws.specs.Resolved.{Environment, or_else, own_symbol, symbol_of, with_symbol, numbered, symbols, resolved, resolved_from}

-- two lists joined, each of names with symbols
joined : (u : Use) (env env' : Environment) (xs ys vs ws : List Name) → env ≡ env' → vs ≡ map (with_symbol u env) xs → ws ≡ map (with_symbol u env) ys → vs ++ ws ≡ map (with_symbol u env') (xs ++ ys)
joined u env env' xs ys vs ws e p q =
    ap (λ r. r ++ ws) p ∙ ap (λ r. map (with_symbol u env) xs ++ r) q
    ∙ sym (map-append (with_symbol u env) xs ys) ∙ ap (λ v. map (with_symbol u v) (xs ++ ys)) e

-- ---- the names that are bound

mutual
  unfolding names_of resolved scopes_by

  pub bound_kept : (u : Use) (env : Environment) (s : ℕ) (t : Tree) → names_of declared.Bound (resolved u env s t) ≡ map (with_symbol u env) (names_of declared.Bound t)
  bound_kept u env s (node shape.VariableDeclarator xs n ts) = first_kept u (use_of shape.VariableDeclarator u) env s ts refl
  bound_kept u env s (node shape.Listed xs n ts) = all_bound_kept u 0 env s ts
  bound_kept u env s (node shape.ObjectPattern xs n ts) = all_bound_kept u 0 env s ts
  bound_kept u env s (node shape.ArrayPattern xs n ts) = all_bound_kept u 0 env s ts
  bound_kept u env s (node (shape.BindingProperty shorthand computed) xs n ts) = all_bound_kept u 0 env s ts
  bound_kept u env s (node shape.RestElement xs n ts) = all_bound_kept u 0 env s ts
  bound_kept u env s (node shape.AssignmentPattern xs n ts) = all_bound_kept u 0 env s ts
  bound_kept u env s (node shape.ImportSpecifier xs n ts) = all_bound_kept u 0 env s ts
  bound_kept u env s (node shape.ImportDefaultSpecifier xs n ts) = all_bound_kept u 0 env s ts
  bound_kept u env s (node shape.ImportNamespaceSpecifier xs n ts) = all_bound_kept u 0 env s ts
  bound_kept u env s (node h xs n ts) = refl

  first_kept : (u : Use) (us : ℕ → Use) (env : Environment) (s : ℕ) (ts : Trees) → us 0 ≡ u → first_names (resolved_from (λ k. []) us 0 env s ts) ≡ map (with_symbol u env) (first_names ts)
  first_kept u us env s none e = refl
  first_kept u us env s (t ▸ ts) e = ap (λ v. names_of declared.Bound (resolved v (env ++ []) (s + 0) t)) e ∙ bound_kept u (env ++ []) (s + 0) t ∙ ap (λ v. map (with_symbol u v) (names_of declared.Bound t)) (append-nil env)

  pub all_bound_kept : (u : Use) (i : ℕ) (env : Environment) (s : ℕ) (ts : Trees) → all_names declared.Bound (resolved_from (λ k. []) (λ k. u) i env s ts) ≡ map (with_symbol u env) (all_names declared.Bound ts)
  all_bound_kept u i env s none = refl
  all_bound_kept u i env s (t ▸ ts) = joined u (env ++ []) env (names_of declared.Bound t) (all_names declared.Bound ts) _ _ (append-nil env) (bound_kept u (env ++ []) (s + 0) t) (all_bound_kept u (suc i) (env ++ []) (s + 0 + symbols u t) ts)

-- ---- the names that are declared directly

-- a declaration that doesn't stand alone has its name outside
own_outside : (u : Use) (b : Bool) (g : Bool) (t : Tree) (ts : Trees) → b ≡ false → at_or_empty (scopes_by (opening.Function b) (t ▸ ts)) 0 ≡ []
unfolding scopes_by with_names
own_outside u true g t ts e = cc
own_outside u false g t none e = refl
own_outside u false g t (p ▸ none) e = refl
own_outside u false g t (p ▸ (q ▸ ts)) e = refl

class_outside : (b c : Bool) (t : Tree) (ts : Trees) → b ≡ false → at_or_empty (scopes_by (opening.Class b c) (t ▸ ts)) 0 ≡ []
unfolding scopes_by with_names
class_outside true c t ts e = cc
class_outside false c t none e = refl
class_outside false c t (a ▸ none) e = refl
class_outside false c t (a ▸ (b ▸ none)) e = refl
class_outside false c t (a ▸ (b ▸ (d ▸ ts))) e = refl

-- a first child that is read with no scope before it
read_first : (sc : ℕ → List Binding) (us : ℕ → Use) (env : Environment) (s : ℕ) (t : Tree) (ts : Trees) → sc 0 ≡ [] → us 0 ≡ Read → first_names (resolved_from sc us 0 env s (t ▸ ts)) ≡ map (with_symbol Read env) (first_names (t ▸ ts))
unfolding names_of resolved
read_first sc us env s t ts e f =
    ap (λ v. names_of declared.Bound (resolved v (env ++ numbered s (sc 0)) (s + length (sc 0)) t)) f
    ∙ bound_kept Read (env ++ numbered s (sc 0)) (s + length (sc 0)) t
    ∙ ap (λ bs. map (with_symbol Read (env ++ numbered s bs)) (names_of declared.Bound t)) e
    ∙ ap (λ v. map (with_symbol Read v) (names_of declared.Bound t)) (append-nil env)

lexical_variable : (u : Use) (b : Bool) (env : Environment) (s : ℕ) (ts : Trees) → b ≡ false → all_names declared.Bound (resolved_from (at_or_empty (scopes_by (if b then opening.Bound else opening.Nothing) ts)) (λ k. Read) 0 env s ts) ≡ map (with_symbol Read env) (all_names declared.Bound ts)
unfolding scopes_by
lexical_variable u b env s ts e = ap (λ c. all_names declared.Bound (resolved_from (at_or_empty (scopes_by (if c then opening.Bound else opening.Nothing) ts)) (λ k. Read) 0 env s ts)) e ∙ all_bound_kept Read 0 env s ts

mutual
  unfolding names_of resolved scopes_by

  pub lexical_kept : (u : Use) → is_alone u ≡ false → (env : Environment) (s : ℕ) (t : Tree) → names_of declared.Lexical (resolved u env s t) ≡ map (with_symbol Read env) (names_of declared.Lexical t)
  lexical_kept u e env s (node (shape.VariableDeclaration Let) xs n ts) = lexical_variable u (is_alone u) env s ts e
  lexical_kept u e env s (node (shape.VariableDeclaration Const) xs n ts) = lexical_variable u (is_alone u) env s ts e
  lexical_kept u e env s (node (shape.Function true g ds) xs n none) = refl
  lexical_kept u e env s (node (shape.Function true g ds) xs n (t ▸ ts)) = read_first (opened u (shape.Function true g ds) (t ▸ ts)) (use_of (shape.Function true g ds) u) env s t ts (own_outside u (is_alone u) g t ts e) refl
  lexical_kept u e env s (node (shape.Class true) xs n none) = refl
  lexical_kept u e env s (node (shape.Class true) xs n (t ▸ ts)) = read_first (opened u (shape.Class true) (t ▸ ts)) (use_of (shape.Class true) u) env s t ts (class_outside (is_alone u) true t ts e) refl
  lexical_kept u e env s (node shape.ImportDeclaration xs n ts) = all_bound_kept Read 0 env s ts
  lexical_kept u e env s (node shape.ExportNamedDeclaration xs n ts) = all_lexical_kept Read refl 0 env s ts
  lexical_kept u e env s (node shape.ExportDefaultDeclaration xs n ts) = all_lexical_kept Read refl 0 env s ts
  lexical_kept u e env s (node shape.SwitchCase xs n ts) = all_lexical_kept Read refl 0 env s ts
  lexical_kept u e env s (node shape.Listed xs n ts) = all_lexical_kept u e 0 env s ts
  lexical_kept u e env s (node h xs n ts) = refl

  pub all_lexical_kept : (u : Use) → is_alone u ≡ false → (i : ℕ) (env : Environment) (s : ℕ) (ts : Trees) → all_names declared.Lexical (resolved_from (λ k. []) (λ k. u) i env s ts) ≡ map (with_symbol Read env) (all_names declared.Lexical ts)
  all_lexical_kept u e i env s none = refl
  all_lexical_kept u e i env s (t ▸ ts) = joined Read (env ++ []) env (names_of declared.Lexical t) (all_names declared.Lexical ts) _ _ (append-nil env) (lexical_kept u e (env ++ []) (s + 0) t) (all_lexical_kept u e (suc i) (env ++ []) (s + 0 + symbols u t) ts)

-- ---- the names that are hoisted

-- scopes to which no `var` goes
abbrev pub NoHoists : List Binding → Type 0
NoHoists [] = Unit {0}
NoHoists (b ∷ bs) = (b.hoists ≡ false) × NoHoists bs

not_hoisted : (s : List ℕ) (n : ℕ) (bs : List Binding) → NoHoists bs → symbol_of Hoisted s (numbered n bs) ≡ None
not_hoisted s n [] h = refl
not_hoisted s n (b ∷ bs) h =
    let c : Binding = record { name = record { spelling = b.name.spelling; symbol = Some (record { 0 = n }) }; hoists = b.hoists } in
    ap (λ r. or_else r (own_symbol Hoisted s c)) (not_hoisted s (suc n) bs h.1)
    ∙ none_if (b.hoists && same_text b.name.spelling s) (Some (record { 0 = n })) (ap (λ v. v && same_text b.name.spelling s) h.0)

hoisted_past : (s : List ℕ) (env : Environment) (n : ℕ) (bs : List Binding) → NoHoists bs → symbol_of Hoisted s (env ++ numbered n bs) ≡ symbol_of Hoisted s env
hoisted_past s env n bs h = symbol_of_both Hoisted s env (numbered n bs) ∙ ap (λ r. or_else r (symbol_of Hoisted s env)) (not_hoisted s n bs h)

all_past : (xs : List Name) (env : Environment) (n : ℕ) (bs : List Binding) → NoHoists bs → map (with_symbol Hoisted (env ++ numbered n bs)) xs ≡ map (with_symbol Hoisted env) xs
all_past [] env n bs h = refl
all_past (x ∷ xs) env n bs h =
    ap (λ q. record { spelling = x.spelling; symbol = q } ∷ map (with_symbol Hoisted (env ++ numbered n bs)) xs) (hoisted_past x.spelling env n bs h)
    ∙ ap (λ r. with_symbol Hoisted env x ∷ r) (all_past xs env n bs h)

lexical_no_hoists : (xs : List Name) → NoHoists (map (λ x. record { name = x; hoists = false }) xs)
lexical_no_hoists [] = tt
lexical_no_hoists (x ∷ xs) = (refl, lexical_no_hoists xs)

abbrev pub is_lexical : Opening → Bool
is_lexical opening.Body = false
is_lexical (opening.Function own) = false
is_lexical opening.Arrow = false
is_lexical o = true

lexical_opening : (o : Opening) (ts : Trees) (k : ℕ) → is_lexical o ≡ true → NoHoists (at_or_empty (scopes_by o ts) k)
unfolding scopes_by
lexical_opening opening.Body ts k e = cc
lexical_opening (opening.Function own) ts k e = cc
lexical_opening opening.Arrow ts k e = cc
lexical_opening opening.Nothing ts k e = tt
lexical_opening opening.First none k e = tt
lexical_opening opening.First (t ▸ ts) zero e = lexical_no_hoists _
lexical_opening opening.First (t ▸ ts) (suc k) e = tt
lexical_opening opening.Bound none k e = tt
lexical_opening opening.Bound (t ▸ ts) zero e = lexical_no_hoists _
lexical_opening opening.Bound (t ▸ ts) (suc k) e = tt
lexical_opening (opening.Class own inside) none k e = tt
lexical_opening (opening.Class own inside) (t ▸ none) k e = tt
lexical_opening (opening.Class own inside) (t ▸ (a ▸ none)) k e = tt
lexical_opening (opening.Class own inside) (t ▸ (a ▸ (b ▸ none))) k e = tt
lexical_opening (opening.Class own inside) (t ▸ (a ▸ (b ▸ (d ▸ ts)))) zero e = lexical_no_hoists _
lexical_opening (opening.Class own inside) (t ▸ (a ▸ (b ▸ (d ▸ ts)))) (suc zero) e = lexical_no_hoists _
lexical_opening (opening.Class own inside) (t ▸ (a ▸ (b ▸ (d ▸ ts)))) (suc (suc k)) e = tt
lexical_opening opening.Second none k e = tt
lexical_opening opening.Second (a ▸ none) k e = tt
lexical_opening opening.Second (a ▸ (b ▸ ts)) zero e = tt
lexical_opening opening.Second (a ▸ (b ▸ ts)) (suc zero) e = lexical_no_hoists _
lexical_opening opening.Second (a ▸ (b ▸ ts)) (suc (suc k)) e = tt

alone_lexical : (b : Bool) → is_lexical (if b then opening.Bound else opening.Nothing) ≡ true
alone_lexical true = refl
alone_lexical false = refl

-- a `var` has its symbol from the same scopes wherever it stands
headed_same : (s : List ℕ) (env : Environment) → symbol_of Headed s env ≡ symbol_of Hoisted s env
headed_same s [] = refl
headed_same s (b ∷ env) = ap (λ r. or_else r (own_symbol Hoisted s b)) (headed_same s env)

names_headed : (env : Environment) (xs : List Name) → map (with_symbol Headed env) xs ≡ map (with_symbol Hoisted env) xs
names_headed env [] = refl
names_headed env (x ∷ xs) = λ k. record { spelling = x.spelling; symbol = headed_same x.spelling env k } ∷ names_headed env xs k

names_hoisted : (u : Use) (env : Environment) (xs : List Name) → map (with_symbol (hoisted_by u) env) xs ≡ map (with_symbol Hoisted env) xs
names_hoisted Write env xs = names_headed env xs
names_hoisted u env xs = refl

var_kept : (u : Use) (env : Environment) (s : ℕ) (ts : Trees) → all_names declared.Bound (resolved_from (opened u (shape.VariableDeclaration Var) ts) (λ k. hoisted_by u) 0 env s ts) ≡ map (with_symbol Hoisted env) (all_names declared.Bound ts)
unfolding scopes_by
var_kept u env s ts = all_bound_kept (hoisted_by u) 0 env s ts ∙ names_hoisted u env (all_names declared.Bound ts)

mutual
  unfolding names_of resolved

  pub hoisted_kept : (u : Use) (env : Environment) (s : ℕ) (t : Tree) → names_of declared.Hoisted (resolved u env s t) ≡ map (with_symbol Hoisted env) (names_of declared.Hoisted t)
  hoisted_kept u env s (node (shape.VariableDeclaration Var) xs n ts) = var_kept u env s ts
  hoisted_kept u env s (node shape.Listed xs n ts) = all_hoisted_kept (opened u shape.Listed ts) (use_of shape.Listed u) 0 env s ts (λ k. lexical_opening (opening_of u shape.Listed) ts k refl)
  hoisted_kept u env s (node shape.BlockStatement xs n ts) = all_hoisted_kept (opened u shape.BlockStatement ts) (use_of shape.BlockStatement u) 0 env s ts (λ k. lexical_opening (opening_of u shape.BlockStatement) ts k refl)
  hoisted_kept u env s (node shape.IfStatement xs n ts) = all_hoisted_kept (opened u shape.IfStatement ts) (use_of shape.IfStatement u) 0 env s ts (λ k. lexical_opening (opening_of u shape.IfStatement) ts k refl)
  hoisted_kept u env s (node shape.WhileStatement xs n ts) = all_hoisted_kept (opened u shape.WhileStatement ts) (use_of shape.WhileStatement u) 0 env s ts (λ k. lexical_opening (opening_of u shape.WhileStatement) ts k refl)
  hoisted_kept u env s (node shape.DoWhileStatement xs n ts) = all_hoisted_kept (opened u shape.DoWhileStatement ts) (use_of shape.DoWhileStatement u) 0 env s ts (λ k. lexical_opening (opening_of u shape.DoWhileStatement) ts k refl)
  hoisted_kept u env s (node shape.ForStatement xs n ts) = all_hoisted_kept (opened u shape.ForStatement ts) (use_of shape.ForStatement u) 0 env s ts (λ k. lexical_opening (opening_of u shape.ForStatement) ts k refl)
  hoisted_kept u env s (node shape.ForInStatement xs n ts) = all_hoisted_kept (opened u shape.ForInStatement ts) (use_of shape.ForInStatement u) 0 env s ts (λ k. lexical_opening (opening_of u shape.ForInStatement) ts k refl)
  hoisted_kept u env s (node shape.ForOfStatement xs n ts) = all_hoisted_kept (opened u shape.ForOfStatement ts) (use_of shape.ForOfStatement u) 0 env s ts (λ k. lexical_opening (opening_of u shape.ForOfStatement) ts k refl)
  hoisted_kept u env s (node shape.LabeledStatement xs n ts) = all_hoisted_kept (opened u shape.LabeledStatement ts) (use_of shape.LabeledStatement u) 0 env s ts (λ k. lexical_opening (opening_of u shape.LabeledStatement) ts k refl)
  hoisted_kept u env s (node shape.SwitchStatement xs n ts) = all_hoisted_kept (opened u shape.SwitchStatement ts) (use_of shape.SwitchStatement u) 0 env s ts (λ k. lexical_opening (opening_of u shape.SwitchStatement) ts k refl)
  hoisted_kept u env s (node shape.SwitchCase xs n ts) = all_hoisted_kept (opened u shape.SwitchCase ts) (use_of shape.SwitchCase u) 0 env s ts (λ k. lexical_opening (opening_of u shape.SwitchCase) ts k refl)
  hoisted_kept u env s (node shape.TryStatement xs n ts) = all_hoisted_kept (opened u shape.TryStatement ts) (use_of shape.TryStatement u) 0 env s ts (λ k. lexical_opening (opening_of u shape.TryStatement) ts k refl)
  hoisted_kept u env s (node shape.CatchClause xs n ts) = all_hoisted_kept (opened u shape.CatchClause ts) (use_of shape.CatchClause u) 0 env s ts (λ k. lexical_opening (opening_of u shape.CatchClause) ts k refl)
  hoisted_kept u env s (node shape.FunctionBody xs n ts) = all_hoisted_kept (opened u shape.FunctionBody ts) (use_of shape.FunctionBody u) 0 env s ts (λ k. lexical_opening (opening_of u shape.FunctionBody) ts k refl)
  hoisted_kept u env s (node shape.ExportNamedDeclaration xs n ts) = all_hoisted_kept (opened u shape.ExportNamedDeclaration ts) (use_of shape.ExportNamedDeclaration u) 0 env s ts (λ k. lexical_opening (opening_of u shape.ExportNamedDeclaration) ts k refl)
  hoisted_kept u env s (node h xs n ts) = refl

  pub all_hoisted_kept : (sc : ℕ → List Binding) (us : ℕ → Use) (i : ℕ) (env : Environment) (s : ℕ) (ts : Trees) → ((k : ℕ) → NoHoists (sc k)) → all_names declared.Hoisted (resolved_from sc us i env s ts) ≡ map (with_symbol Hoisted env) (all_names declared.Hoisted ts)
  all_hoisted_kept sc us i env s none h = refl
  all_hoisted_kept sc us i env s (t ▸ ts) h =
      let inner = env ++ numbered s (sc i) in
      joined Hoisted inner inner (names_of declared.Hoisted t) (all_names declared.Hoisted ts) _ _ refl (hoisted_kept (us i) inner (s + length (sc i)) t) (all_hoisted_kept sc us (suc i) inner (s + length (sc i) + symbols (us i) t) ts h)
      ∙ all_past (names_of declared.Hoisted t ++ all_names declared.Hoisted ts) env s (sc i) (h i)
