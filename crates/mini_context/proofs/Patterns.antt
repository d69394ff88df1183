-- The walk that lists scopes and marks what the patterns of `var`s write.
use Rattle.std.specs.Prelude.{ℕ, zero, suc, ◌+◌, ◌≡◌, ◌≤◌, ◌<◌, refl, Bool, false, List, ◌++◌, length, take}
use Rattle.std.proofs.Common.{ap, ◌∙◌, sym, subst, arith, add-one}
use Rattle.std.proofs.lemmas.List.{append-nil, length-append, take-append-le, take_all}
use Rattle.mini_model.specs.declared.name.Name.{Name}
use Rattle.mini_model.specs.declared.shape.Shape.{Shape}
use Rattle.mini_model.specs.Tree.{Tree, Trees, node, none, ◌▸◌, count, shape_of, children, child_or_absent, first_or_absent}
use Rattle.mini_node.specs.Children.{rest_children}
use Rattle.mini_node.specs.Walks.{from_first}
use Rattle.mini_laws.specs.declared.names.Use.{Use}
use Rattle.mini_laws.specs.declared.names.Binding.{Binding}
use Rattle.mini_laws.specs.Resolved.{Environment}
use Rattle.mini_laws.specs.Scopes.{use_of, opened}
use Rattle.mini_laws.specs.Strict.{is_strict_in}
use Rattle.mini_laws.specs.ScopeList.{any_has_eval, entered, least_scopes, names_in, scope_list, scope_list_from}
use Rattle.mini_laws.specs.Shared.{own_pattern_writes, pattern_writes, pattern_writes_from}
use Rattle.mini_scope.specs.ScopeAt.{scope_at}
use Rattle.mini_scope.specs.declared.opening.OpenScopes.{OpenScopes}
use Rattle.mini_context.specs.declared.listing.ScopeTables.{ScopeTables}
use Rattle.mini_context.specs.declared.standing.Reading.{Reading}
use Rattle.mini_context.specs.Tables.{Listed, Marked}
use Rattle.mini_context.specs.Visits.{reading_below}
use Rattle.mini_context.proofs.Gathering.{Gathers, Until, begins, turn, finished}
use Rattle.mini_context.proofs.Marking.{marks_add}
use Rattle.mini_context.proofs.Listings.{ListedTo, child_listed, child_scopes, lists_add, none_in_rest, opens, scopes_gather}

-- what is declared around the child at an index, before its own scope
abbrev pub around_at : (ℕ → List Binding) → Environment → ℕ → Environment
around_at scope env zero = env
around_at scope env (suc i) = around_at scope env i ++ scope i

longer : (scope : ℕ → List Binding) (env : Environment) (i : ℕ) → length env ≤ length (around_at scope env i)
longer scope env zero = omega arith
longer scope env (suc i) = omega (arith, longer scope env i, length-append (around_at scope env i) (scope i))

pub around_begins : (scope : ℕ → List Binding) (env : Environment) (i : ℕ) → take (length env) (around_at scope env i) ≡ env
around_begins scope env zero = take_all (length env) env (omega arith)
around_begins scope env (suc i) = take-append-le (length env) (around_at scope env i) (scope i) (longer scope env i) ∙ around_begins scope env i

abbrev pub child_patterns : (ℕ → List Binding) → (ℕ → Use) → Environment → ℕ → Trees → List Name
child_patterns scope uses env i us = pattern_writes (uses i) (around_at scope env i ++ scope i) (first_or_absent us)

abbrev pub patterns_from : (ℕ → List Binding) → (ℕ → Use) → Environment → ℕ → Trees → List Name
patterns_from scope uses env i us = pattern_writes_from scope uses i (around_at scope env i) us

patterns_gather : (scope : ℕ → List Binding) (uses : ℕ → Use) (env : Environment) → Gathers (child_patterns scope uses env) (patterns_from scope uses env)
unfolding pattern_writes
patterns_gather scope uses env = record { at_none = λ i. refl; at_more = λ i t ts. refl }

-- where the loop over the children of a node stands
pub record Walked (a : Reading) (n : Tree) (scope : ℕ → List Binding) (ts : Trees) (i : ℕ) (o : OpenScopes) (start now : ScopeTables) (env0 env : Environment) (g0 g : List Bool) (may : Bool) : Type 0 where
  pub listed : ListedTo scope (use_of (shape_of n) a.usage) (least_scopes (shape_of n)) (is_strict_in a.strict (shape_of n)) ts i o start now
  pub declared : env ≡ around_at scope env0 i
  pub patterns : Until Marked (patterns_from scope (use_of (shape_of n) a.usage) env0) ts i g0 g
  pub quiet : may ≡ false → any_has_eval (rest_children i ts) ≡ false

pub walk_begins : (a : Reading) (n : Tree) (o : OpenScopes) (ts : Trees) (start : ScopeTables) (env : Environment) (g : List Bool) (may : Bool) → ts ≡ children n → (may ≡ false → any_has_eval (children n) ≡ false) → Walked a n (scope_at o) ts 0 o start start env env g g may
walk_begins a n o ts start env g may e q = record {
  listed = record {
    left = λ k h. refl;
    so_far = begins Listed (scope_list_from (scope_at o) (use_of (shape_of n) a.usage) (least_scopes (shape_of n)) (is_strict_in a.strict (shape_of n))) ts start;
  };
  declared = refl;
  patterns = begins Marked (patterns_from (scope_at o) (use_of (shape_of n) a.usage) env) ts g;
  quiet = λ f. ap any_has_eval (from_first ts ∙ e) ∙ q f;
}

pub walk_turns : (a : Reading) (n : Tree) (scope : ℕ → List Binding) (ts : Trees) (i : ℕ) (o o' : OpenScopes) (start now mid next : ScopeTables) (env0 env env' env'' : Environment) (g0 g g' : List Bool) (bs own : List Binding) (l : ℕ) (h k : Shape) (st : Bool) (v : Reading) (t : Tree) (m m' : Bool) →
    Walked a n scope ts i o start now env0 env g0 g m → i < count ts → own ≡ scope_at o i → bs ≡ own → ((j : ℕ) → i < j → scope_at o' j ≡ scope_at o j) →
    l ≡ least_scopes h i → h ≡ shape_of n → st ≡ is_strict_in a.strict k → k ≡ shape_of n → v ≡ reading_below a n i → t ≡ child_or_absent ts i →
    Listed (entered l (record { names = names_in bs; strict = st; evals = any_has_eval (rest_children i ts) })) now mid → env' ≡ env ++ own →
    Listed (scope_list v.usage v.strict t) mid next → Marked (pattern_writes v.usage env' t) g g' → env'' ≡ env' →
    (m' ≡ false → any_has_eval (rest_children i ts) ≡ false) → Walked a n scope ts (i + 1) o' start next env0 env'' g0 g' m'
walk_turns a n scope ts i o o' start now mid next env0 env env' env'' g0 g g' bs own l h k st v t m m' w inside e1 e2 rest e3 e4 e5 e6 e7 e8 entering e9 f j e10 q =
    let uses = use_of (shape_of n) a.usage in
    let strict = is_strict_in a.strict (shape_of n) in
    let here : own ≡ scope i = e1 ∙ w.listed.left i (omega arith) in
    let around : env' ≡ around_at scope env0 i ++ scope i = e9 ∙ ap (λ r. r ++ own) w.declared ∙ ap (λ r. around_at scope env0 i ++ r) here in
    let entering' = subst (λ b. Listed (entered l (record { names = names_in bs; strict = b; evals = any_has_eval (rest_children i ts) })) now mid) (e5 ∙ ap (is_strict_in a.strict) e6) entering in
    let f' = subst (λ r. Listed (scope_list r.usage r.strict t) mid next) e7 f in
    let j' = subst (λ r. Marked (pattern_writes r.usage env' t) g g') e7 j in
    let j'' = subst (λ r. Marked (pattern_writes (uses i) r t) g g') around j' in
    record {
      listed = child_listed scope uses (least_scopes (shape_of n)) strict ts i o o' start now mid next bs l (uses i) t w.listed inside (e2 ∙ e1) rest (e3 ∙ ap (λ r. least_scopes r i) e4) refl e8 entering' f';
      declared = e10 ∙ around ∙ ap (around_at scope env0) (sym (add-one i));
      patterns = turn Marked (child_patterns scope uses env0) (patterns_from scope uses env0) marks_add (patterns_gather scope uses env0) ts i t g0 g g' inside e8 j'' w.patterns;
      quiet = none_in_rest m' ts i t q inside e8;
    }

pub walk_lists : (a : Reading) (n : Tree) (scope : ℕ → List Binding) (ts : Trees) (i : ℕ) (o : OpenScopes) (start now : ScopeTables) (env0 env : Environment) (g0 g : List Bool) (m : Bool) → Walked a n scope ts i o start now env0 env g0 g m → ts ≡ children n → count ts ≤ i →
    Listed (scope_list_from scope (use_of (shape_of n) a.usage) (least_scopes (shape_of n)) (is_strict_in a.strict (shape_of n)) 0 (children n)) start now
walk_lists a n scope ts i o start now env0 env g0 g m w e over =
    let uses = use_of (shape_of n) a.usage in
    let least = least_scopes (shape_of n) in
    let strict = is_strict_in a.strict (shape_of n) in
    subst (λ us. Listed (scope_list_from scope uses least strict 0 us) start now) e (finished Listed (child_scopes scope uses least strict) (scope_list_from scope uses least strict) lists_add (scopes_gather scope uses least strict) ts i start now over w.listed.so_far)

pub walk_marks : (a : Reading) (n : Tree) (scope : ℕ → List Binding) (ts : Trees) (i : ℕ) (o : OpenScopes) (start now : ScopeTables) (env0 env : Environment) (g0 g : List Bool) (m : Bool) → Walked a n scope ts i o start now env0 env g0 g m → ts ≡ children n → count ts ≤ i →
    Marked (pattern_writes_from scope (use_of (shape_of n) a.usage) 0 env0 (children n)) g0 g
walk_marks a n scope ts i o start now env0 env g0 g m w e over =
    let uses = use_of (shape_of n) a.usage in
    subst (λ us. Marked (pattern_writes_from scope uses 0 env0 us) g0 g) e (finished Marked (child_patterns scope uses env0) (patterns_from scope uses env0) marks_add (patterns_gather scope uses env0) ts i g0 g over w.patterns)

-- ---- a node

pub node_lists : (u : Use) (strict : Bool) (n : Tree) (o : OpenScopes) (a c : ScopeTables) → scope_at o ≡ opened u (shape_of n) (children n) → Listed (scope_list_from (scope_at o) (use_of (shape_of n) u) (least_scopes (shape_of n)) (is_strict_in strict (shape_of n)) 0 (children n)) a c → Listed (scope_list u strict n) a c
node_lists u strict n o a c e l = opens u strict n o (shape_of n) (is_strict_in strict (shape_of n)) (children n) a c e refl refl refl l

patterns_opened : (u : Use) (env : Environment) (n : Tree) → own_pattern_writes u env (shape_of n) (children n) ++ pattern_writes_from (opened u (shape_of n) (children n)) (use_of (shape_of n) u) 0 env (children n) ≡ pattern_writes u env n
unfolding pattern_writes
patterns_opened u env (node h xs k ts) = refl

-- a node without children
pub leaf_lists : (u : Use) (strict : Bool) (n : Tree) (a : ScopeTables) → count (children n) ≡ 0 → Listed (scope_list u strict n) a a
unfolding scope_list
leaf_lists u strict (node h xs k none) a e = lists_add.nothing a
leaf_lists u strict (node h xs k (t ▸ ts)) a e = absurd (omega arith)

pub leaf_marks : (u : Use) (env : Environment) (n : Tree) (g g' : List Bool) → count (children n) ≡ 0 → Marked (own_pattern_writes u env (shape_of n) (children n)) g g' → Marked (pattern_writes u env n) g g'
unfolding pattern_writes
leaf_marks u env (node h xs k none) g g' e j = subst (λ r. Marked r g g') (sym (append-nil (own_pattern_writes u env h none))) j
leaf_marks u env (node h xs k (t ▸ ts)) g g' e j = absurd (omega arith)

pub node_marks : (u : Use) (env : Environment) (n : Tree) (o : OpenScopes) (g g' g'' : List Bool) → scope_at o ≡ opened u (shape_of n) (children n) → Marked (own_pattern_writes u env (shape_of n) (children n)) g g' → Marked (pattern_writes_from (scope_at o) (use_of (shape_of n) u) 0 env (children n)) g' g'' → Marked (pattern_writes u env n) g g''
node_marks u env n o g g' g'' e j k =
    let own = own_pattern_writes u env (shape_of n) (children n) in
    let k' = subst (λ s. Marked (pattern_writes_from s (use_of (shape_of n) u) 0 env (children n)) g' g'') e k in
    subst (λ r. Marked r g g'') (patterns_opened u env n) (marks_add.both own (pattern_writes_from (opened u (shape_of n) (children n)) (use_of (shape_of n) u) 0 env (children n)) g g' g'' j k')
