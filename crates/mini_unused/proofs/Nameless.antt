-- A function or class expression that loses its name is what the row says.
use Rattle.std.proofs.Common.{◌≡◌, ℕ, zero, suc, Bool, true, false, List, [], ◌∷◌, refl, sym, ap, ◌∙◌, subst, true≢false}
use Rattle.std.specs.Prelude.{not, ◌&&◌, nat_eq}
use Rattle.std.proofs.Math.Dec.{eqb-zero-suc, eqb-suc-zero, eqb-suc-suc}
use Rattle.std.proofs.lemmas.Bool.{and_parts}
use Rattle.mini_model.specs.declared.place.Position.{Position}
use Rattle.mini_model.specs.declared.place.Position.TheVariants.{Expr}
use Rattle.mini_model.specs.declared.seat.Seat.{Seat}
use Rattle.mini_model.specs.declared.shape.Shape.TheVariants as shape
use Rattle.mini_model.specs.Tree.{Tree, Trees, node, none, ◌▸◌, shape_of, children, count, child_or_absent}
use Rattle.mini_laws.specs.ScopeList.{any_has_eval}
use Rattle.mini_node.specs.Children.{names_of, part, has_count, rest_children}
use Rattle.mini_node.specs.Kinds.{is_absent_part}
use Rattle.mini_node.specs.Made.{absent_is}
use Rattle.mini_rows.specs.Declarations.{binding}
use Rattle.mini_rows.specs.Names.{Nameable, AFunction, AClass, inside_of, nameable, Row62, NameRow, NameContracts}
use Rattle.mini_rows.specs.Switches.{Switches, let_go}
use Rattle.mini_rows.specs.Unused.{resolved, any_names}
use Rattle.mini_rows.proofs.NameWeights.{names_lighter}
use Rattle.mini_tree.proofs.Reaching.{moves_once}
use Rattle.mini_unused.specs.RemoveUnusedDeclaration.{is_resolved_binding}
use Rattle.mini_unused.specs.RemoveUnusedName.{is_nameless, has_its_parts, is_unseen, loses_it, nameless, Applied}
use Rattle.mini_unused.proofs.Unused.{not_true, binding_is}

-- ---- what the tests say

counted : (ts : Trees) (k : ℕ) → nat_eq (count ts) k ≡ has_count ts k
counted none zero = refl
counted none (suc k) = eqb-zero-suc k
counted (t ▸ ts) zero = eqb-suc-zero (count ts)
counted (t ▸ ts) (suc k) = eqb-suc-suc (count ts) k ∙ counted ts k

record Whole (t : Tree) : Type 0 where
  what : Nameable
  number : ℕ
  name : Tree
  is : t ≡ nameable what number name

of_function : (g : Bool) (ds : List (List ℕ)) (n : ℕ) (ts : Trees) → has_count ts 3 ≡ true → Whole (node (shape.Function false g ds) [] n ts)
of_function g ds n (x ▸ (ps ▸ (b ▸ none))) e = record { what = AFunction g ds ps b; number = n; name = x; is = refl }
of_function g ds n ts e = absurd (true≢false (sym e))

of_class : (n : ℕ) (ts : Trees) → has_count ts 4 ≡ true → is_absent_part (child_or_absent ts 3) ≡ true → Whole (node (shape.Class false) [] n ts)
of_class n (x ▸ (c ▸ (b ▸ (d ▸ none)))) e f = record { what = AClass c b; number = n; name = x; is = ap (λ y. node (shape.Class false) [] n (x ▸ (c ▸ (b ▸ (y ▸ none))))) (absent_is d f) }
of_class n ts e f = absurd (true≢false (sym e))

whole : (o : Switches) (t : Tree) → let_go o (shape_of t) ≡ true → is_nameless (names_of t) ≡ true → has_its_parts (shape_of t) (children t) ≡ true → Whole t
whole o (node (shape.Function false g ds) [] n ts) l e f = of_function g ds n ts (sym (counted ts 3) ∙ f)
whole o (node (shape.Class false) [] n ts) l e f = let (many, absent_there) = and_parts (nat_eq (count ts) 4) (is_absent_part (child_or_absent ts 3)) f in of_class n ts (sym (counted ts 4) ∙ many) absent_there
whole o (node (shape.Function false g ds) (y ∷ ys) n ts) l e f = absurd (true≢false (sym e))
whole o (node (shape.Class false) (y ∷ ys) n ts) l e f = absurd (true≢false (sym e))
whole o t l e f = absurd (true≢false (sym l))

inside : (e : Nameable) (n : ℕ) (x : Tree) → rest_children 1 (children (nameable e n x)) ≡ inside_of e
inside (AFunction g ds ps b) n x = refl
inside (AClass c b) n x = refl

record Loses (o : Switches) (t : Tree) : Type 0 where
  let_it_go : let_go o (shape_of t) ≡ true
  nameless_there : is_nameless (names_of t) ≡ true
  parts : has_its_parts (shape_of t) (children t) ≡ true
  named : is_resolved_binding (part t 0) ≡ true
  unseen : is_unseen (names_of (part t 0)) (children t) ≡ true

tests : (o : Switches) (t : Tree) → loses_it o t ≡ true → Loses o t
tests o t e =
    let d = is_unseen (names_of (part t 0)) (children t) in
    let c = is_resolved_binding (part t 0) in
    let b = has_its_parts (shape_of t) (children t) in
    let a = is_nameless (names_of t) in
    let (p, q) = and_parts (let_go o (shape_of t)) (a && (b && (c && d))) e in
    let (r, s) = and_parts a (b && (c && d)) q in
    let (u, v) = and_parts b (c && d) s in
    let (w, x) = and_parts c d v in
    record { let_it_go = p; nameless_there = r; parts = u; named = w; unseen = x }

-- ---- what is written is what the row says

row_at : (o : Switches) (s : Seat) (t : Tree) → loses_it o t ≡ true → NameRow o (Expr s) t (nameless t)
row_at o s t e =
    let l = tests o t e in
    let w = whole o t l.let_it_go l.nameless_there l.parts in
    let (spelling, symbol, is) = binding_is w.name (sym (ap (λ x. is_resolved_binding (part x 0)) w.is) ∙ l.named) in
    let x = resolved spelling symbol in
    let shown = w.is ∙ ap (nameable w.what w.number) is in
    let quiet = subst (λ ts. (not (any_names x ts) && not (any_has_eval ts)) ≡ true) (inside w.what w.number (binding x)) (sym (ap (λ y. is_unseen (names_of (part y 0)) (children y)) shown) ∙ l.unseen) in
    let (unmentioned, unseen) = and_parts (not (any_names x (inside_of w.what))) (not (any_has_eval (inside_of w.what))) quiet in
    record {
      what = w.what;
      number = w.number;
      spelling = spelling;
      symbol = symbol;
      let_it_go = sym (ap (λ y. let_go o (shape_of y)) w.is) ∙ l.let_it_go;
      unmentioned = not_true (any_names x (inside_of w.what)) unmentioned;
      unseen = not_true (any_has_eval (inside_of w.what)) unseen;
      shape = shown;
      written = ap nameless w.is;
    }

pub applied : (o : Switches) (t u : Tree) → loses_it o t ≡ true → u ≡ nameless t → (s : Seat) → Applied o (Expr s) t u true
applied o t u e f s =
    let row = subst (NameRow o (Expr s) t) (sym f) (row_at o s t e) in
    moves_once (NameContracts o) (Expr s) t u (record { row = row; lighter = names_lighter o (Expr s) t u row })

-- ---- where nothing is written the row doesn't read it

parts_there : (e : Nameable) (n : ℕ) (x : Tree) → has_its_parts (shape_of (nameable e n x)) (children (nameable e n x)) ≡ true
parts_there (AFunction g ds ps b) n x = refl
parts_there (AClass c b) n x = refl

read : (o : Switches) (t w : Tree) → Row62 o t w → loses_it o t ≡ true
read o t w r =
    let x = resolved r.spelling r.symbol in
    let e = r.what in
    let whole = nameable e r.number (binding x) in
    let unseen = subst (λ ts. (not (any_names x ts) && not (any_has_eval ts)) ≡ true) (sym (inside e r.number (binding x))) (λ i. not (r.unmentioned i) && not (r.unseen i)) in
    ap (loses_it o) r.shape
    ∙ (λ i. r.let_it_go i && (true && (parts_there e r.number (binding x) i && (true && unseen i))))

pub stays : (o : Switches) (t : Tree) → loses_it o t ≡ false → (s : Seat) → Applied o (Expr s) t t false
stays o t e s = (refl, λ w r. true≢false (sym (read o t w r) ∙ e))

pub elsewhere : (o : Switches) (p : Position) (t : Tree) → ((s : Seat) → p ≡ Expr s → ⊥) → Applied o p t t false
elsewhere o (Expr s) t f = absurd (f s refl)
elsewhere o p t f = (refl, λ w r. absurd r)
