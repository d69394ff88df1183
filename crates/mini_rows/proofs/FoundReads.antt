-- What reads a variable in a shorthand property does the same in full.
use Rattle.std.specs.Prelude.{not, Bool}
use Rattle.std.proofs.Common.{◌≡◌, ℕ, zero, suc, true, false, List, [], ◌∷◌, Some, None, refl, sym, ap, ◌∙◌, subst, true≢false}
use Rattle.mini_model.specs.declared.kind.PropertyKind.TheVariants.{Init}
use Rattle.mini_model.specs.declared.name.Name.{Name}
use Rattle.mini_model.specs.declared.shape.Shape.{Shape}
use Rattle.mini_model.specs.declared.shape.Shape.TheVariants as shape
use Rattle.mini_model.specs.Tree.{Tree, Trees, node, none, ◌▸◌, identifier}
use Rattle.mini_model.specs.Paths.{append}
use Rattle.mini_laws.specs.Value.{Value, Declared, Holds, String, choose}
use Rattle.mini_laws.specs.State.{State, ok, stop, either, Environment, with_vars, Prototype, Field}
use Rattle.mini_laws.specs.Demand.{Val, Demand, As, AnEntry, Stat, Request}
use Rattle.mini_laws.specs.Command.{set_var}
use Rattle.mini_laws.specs.Naming.{summary, summaries}
use Rattle.mini_laws.specs.Same.{Goes, Agree}
use Rattle.mini_laws.specs.Step.{step, means, meaning}
use Rattle.mini_laws.specs.Substitution.{alone}
use Rattle.mini_laws.specs.Symbols.{is_same}
use Rattle.mini_laws.proofs.Runs.{either_cong, either_ok}
use Rattle.mini_rows.specs.Lists.{Each, EachIn, EachOf, each_loop}
use Rattle.mini_rows.specs.Sketches.{shape_by, Asked}
use Rattle.mini_rows.specs.SpellKeys.{is_proto}
use Rattle.mini_rows.specs.Spellings.{key}
use Rattle.mini_rows.specs.Unused.{resolved, is_own_key}
use Rattle.mini_rows.proofs.ListKeptHeads.{Seat, Loop, Choice, seated}
use Rattle.mini_rows.proofs.SingleUse.{Lead, head_of, before, found_head, by_front, Step, led, found, Path, ends_short}
use Rattle.mini_rows.proofs.SpellAlike.{SameTree, kids_same, first_same}
use Rattle.mini_rows.proofs.UnusedMeaning.{GoesWith, same_symbol}

not_true : (b : Bool) → not b ≡ true → b ≡ false
not_true true e = absurd (true≢false (sym e))
not_true false e = refl

own_key : (a : Tree) → is_own_key a ≡ true → (s : List ℕ) × (a ≡ key s) × (is_proto s ≡ false)
own_key (node (shape.IdentifierName s) [] zero none) e = (s, refl, not_true (is_proto s) e)
own_key a e = absurd (true≢false (sym e))

-- in the same order
both_same : (t u v : Tree) → SameTree t u → SameTree u v → SameTree t v
both_same t u v f g = record { by = λ e q r s. f.by e q r s ∙ g.by e q r s; read = f.read ∙ g.read }

same_tree : (t : Tree) → SameTree t t
same_tree t = record { by = λ e q r s. refl; read = refl }

-- a child among others
among_does : (ps : Trees) (t u : Tree) (ts : Trees) → SameTree t u → (e : Environment) (i : ℕ) (q : Demand) (r : Request q) (s : State) → meaning e (append ps (t ▸ ts)) i q r s ≡ meaning e (append ps (u ▸ ts)) i q r s
unfolding meaning
among_does none t u ts h e zero q r s = h.by e q r s
among_does none t u ts h e (suc i) q r s = refl
among_does (p ▸ ps) t u ts h e zero q r s = refl
among_does (p ▸ ps) t u ts h e (suc i) q r s = among_does ps t u ts h e i q r s

among_read : (ps : Trees) (t u : Tree) (ts : Trees) → SameTree t u → summaries (append ps (t ▸ ts)) ≡ summaries (append ps (u ▸ ts))
among_read none t u ts h = ap (λ i. i ∷ summaries ts) h.read
among_read (p ▸ ps) t u ts h = ap (λ is. summary p ∷ is) (among_read ps t u ts h)

pub among_same : (h : Shape) (ps : Trees) (t u : Tree) (ts : Trees) → SameTree t u → SameTree (node h [] 0 (append ps (t ▸ ts))) (node h [] 0 (append ps (u ▸ ts)))
among_same h ps t u ts f = kids_same h [] 0 (append ps (t ▸ ts)) (append ps (u ▸ ts)) (among_read ps t u ts f) (among_does ps t u ts f)

-- ---- a property, shorthand and in full

as_field : (b : Bool) (s : List ℕ) (v : Value) → b ≡ false → choose b (Prototype v) (Field (String s) v) ≡ Field (String s) v
as_field b s v h = ap (λ x. choose x (Prototype v) (Field (String s) v)) h

abbrev property_node : Bool → Tree → Trees → Tree
property_node is_short a ts = node (shape.ObjectProperty Init false is_short false) [] 0 (a ▸ ts)

module _ (s : List ℕ) (v : Tree) (ts : Trees) (other : is_proto s ≡ false) where
  short_does : (e : Environment) (q : Demand) (r : Request q) (z : State) → means e (property_node true (key s) (v ▸ ts)) q r z ≡ means e (property_node false (key s) (v ▸ ts)) q r z
  unfolding means meaning step
  short_does e AnEntry r z =
      either_ok (String s) z _ _
      ∙ either_cong (means e v (As Val) tt z) _ _ _ _ (λ a y. ap (λ x. ok x y) (sym (as_field (is_proto s) s a other))) (λ x y. refl)
      ∙ sym (either_ok (String s) z _ _)
  short_does e q r z = refl

short_same : (a v : Tree) (ts : Trees) → is_own_key a ≡ true → SameTree (property_node true a (v ▸ ts)) (property_node false a (v ▸ ts))
short_same a v ts e =
    let (s, is, other) = own_key a e in
    subst (λ k. SameTree (property_node true k (v ▸ ts)) (property_node false k (v ▸ ts))) (sym is) (record { by = short_does s v ts other; read = refl })

front_same : (v : Tree) (ts : Trees) (b : Bool) (l : Lead) → SameTree (node (shape_by (found_head b l)) [] 0 (append (before l) (v ▸ ts))) (node (shape_by (head_of l)) [] 0 (append (before l) (v ▸ ts)))
front_same v ts =
    by_front (λ l h. SameTree (node (shape_by h) [] 0 (append (before l) (v ▸ ts))) (node (shape_by (head_of l)) [] 0 (append (before l) (v ▸ ts)))) (λ l. same_tree (node (shape_by (head_of l)) [] 0 (append (before l) (v ▸ ts)))) (λ a e. short_same a v ts e)

-- ---- along a path

pub found_same : (ss : List Step) (t : Tree) → SameTree (found ss t) (led ss t)
found_same [] t = same_tree t
found_same (s ∷ ss) t =
    both_same (found (s ∷ ss) t) (node (shape_by (head_of s.lead)) [] 0 (append (before s.lead) (found ss t ▸ s.rest))) (led (s ∷ ss) t) (front_same (found ss t) s.rest (ends_short s ss) s.lead)
    (among_same (shape_by (head_of s.lead)) (before s.lead) (found ss t) (led ss t) s.rest (found_same ss t))

-- what reads it, as a path whose read has this spelling
pub path_as : (x : Name) (k : ℕ) → x.symbol ≡ Some (record { 0 = k }) → (c : Asked) (t : Tree) (p : Path x c t) → t ≡ found p.steps (identifier (resolved p.read.spelling k))
path_as x k e c t p = p.is ∙ ap (λ y. found p.steps (identifier (record { spelling = p.read.spelling; symbol = y }))) (same_symbol k p.read.symbol (sym (ap (λ o. is_same o p.read.symbol) e) ∙ p.same))

pub path_same : (x : Name) (k : ℕ) → x.symbol ≡ Some (record { 0 = k }) → (c : Asked) (t : Tree) (p : Path x c t) → SameTree t (led p.steps (identifier (resolved p.read.spelling k)))
path_same x k e c t p = subst (λ u. SameTree u (led p.steps (identifier (resolved p.read.spelling k)))) (sym (path_as x k e c t p)) (found_same p.steps (identifier (resolved p.read.spelling k)))

-- ---- what holds such a tree

pub seated_same : (c : Seat) (t u : Tree) → SameTree t u → SameTree (seated c t) (seated c u)
seated_same (Loop a b d) t u h = first_same shape.ForStatement [] 0 t u (a ▸ (b ▸ (d ▸ none))) h
seated_same (Choice cases) t u h = first_same shape.SwitchStatement [] 0 t u (cases ▸ none) h

pub loop_same : (c : Each) (left t u body : Tree) → SameTree t u → SameTree (each_loop c left t body) (each_loop c left u body)
loop_same EachIn left t u body h = among_same shape.ForInStatement (left ▸ none) t u (body ▸ none) h
loop_same EachOf left t u body h = among_same shape.ForOfStatement (left ▸ none) t u (body ▸ none) h

-- where the variable holds the value it does the same, too
module _ (e : Environment) (k : ℕ) (init t u : Tree) (same : SameTree t u) where
  pub read_there : (q : Demand) (r : Request q) (s : State) → either (means e init (As Val) tt s) (λ v y. means e u q r (with_vars y (set_var y.vars (Declared k) (Holds v)))) (λ x y. stop x y) ≡ either (means e init (As Val) tt s) (λ v y. means e t q r (with_vars y (set_var y.vars (Declared k) (Holds v)))) (λ x y. stop x y)
  read_there q r s = either_cong (means e init (As Val) tt s) _ _ _ _ (λ v y. sym (same.by e q r (with_vars y (set_var y.vars (Declared k) (Holds v))))) (λ x y. refl)

  pub goes_as : (put : Tree) (s : State) → GoesWith e k init u put s → GoesWith e k init t put s
  goes_as put s g = subst (λ c. Goes true (λ a. Agree (alone (Declared k))) (Agree (alone (Declared k))) (Agree (alone (Declared k))) c (means e put (Stat None) [] s)) (read_there (Stat None) [] s) g
