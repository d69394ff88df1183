-- A declaration that loses an initializer is what the row says.
use Rattle.std.proofs.Common.{◌≡◌, ℕ, zero, suc, ◌+◌, ◌<◌, ◌≤◌, Bool, true, false, [], ◌∷◌, refl, sym, ap, ◌∙◌, true≢false, arith}
use Rattle.std.specs.Prelude.{◌&&◌, ◌||◌}
use Rattle.std.proofs.lemmas.Bool.{and_parts}
use Rattle.mini_model.specs.declared.kind.VariableDeclarationKind.TheVariants.{Let}
use Rattle.mini_model.specs.declared.name.Name.{Name}
use Rattle.mini_model.specs.declared.place.Position.{Position}
use Rattle.mini_model.specs.declared.place.Position.TheVariants.{Stmt, StatementList, BodyList}
use Rattle.mini_model.specs.declared.seat.StmtSeat.{StmtSeat}
use Rattle.mini_model.specs.declared.shape.Shape.TheVariants as shape
use Rattle.mini_model.specs.Tree.{Tree, Trees, node, none, ◌▸◌, absent, listed, shape_of, children, count, child_or_absent}
use Rattle.mini_model.specs.Paths.{append}
use Rattle.mini_node.specs.Children.{part, with_child, with_part, is_bare, first_children, rest_children}
use Rattle.mini_node.specs.Kinds.{is_listed}
use Rattle.mini_node.specs.Made.{listed_is}
use Rattle.mini_node.specs.Walks.{next_child, no_rest}
use Rattle.mini_rows.specs.Lists.{declaration, for_loop, InList}
use Rattle.mini_rows.specs.Declarations.{binding, declarator, Row61, Item, Alone, Exported, held, Row61Item, Row61For, DeclarationRow, DeclarationContracts}
use Rattle.mini_rows.proofs.DeclarationWeights as weights
use Rattle.mini_tree.proofs.Reaching.{moves_once}
use Rattle.mini_syntax.specs.Forms.{is_undefined}
use Rattle.mini_syntax.specs.SubstituteVariableDeclaration.{is_binding, is_declarator_shape, begins_undefined, any_of, is_let_shape, declares_undefined, is_export_shape, exports_undefined, is_read, is_for_shape, loops_undefined, dropped, bared, Bared, Applied}
use Rattle.mini_syntax.proofs.FormsAre.{undefined_is, undefined_passes}
use Rattle.mini_kept.specs.Placed.{is_statement_list}

-- ---- children

pub same_parts : (t : Tree) (i : ℕ) (x : Tree) → count (children (with_part t i x)) ≡ count (children t)
same_parts (node h xs n ts) i x = go ts i
  where
    go : (ts : Trees) (i : ℕ) → count (with_child ts i x) ≡ count ts
    go none i = refl
    go (t ▸ ts) zero = refl
    go (t ▸ ts) (suc i) = ap suc (go ts i)

pub part_twice : (t : Tree) (i : ℕ) (x y : Tree) → with_part (with_part t i x) i y ≡ with_part t i y
part_twice (node h xs n ts) i x y = ap (node h xs n) (go ts i)
  where
    go : (ts : Trees) (i : ℕ) → with_child (with_child ts i x) i y ≡ with_child ts i y
    go none i = refl
    go (t ▸ ts) zero = refl
    go (t ▸ ts) (suc i) = ap (λ us. t ▸ us) (go ts i)

pub part_with : (t : Tree) (i : ℕ) (x : Tree) → i < count (children t) → part (with_part t i x) i ≡ x
part_with (node h xs n ts) i x h' = go ts i h'
  where
    go : (ts : Trees) (i : ℕ) → i < count ts → child_or_absent (with_child ts i x) i ≡ x
    go none i h = absurd (omega (arith, h))
    go (t ▸ ts) zero h = refl
    go (t ▸ ts) (suc i) h = go ts i (omega (arith, h))

-- a child that is taken out, and another put in its place
pub still : (t v : Tree) (i : ℕ) → v ≡ with_part t i absent → i < count (children t) → i < count (children v)
still t v i e h = let same = ap (λ u. count (children u)) e ∙ same_parts t i absent in omega (arith, same, h)

pub put_there : (t v u x : Tree) (i : ℕ) → v ≡ with_part t i absent → u ≡ with_part v i x → i < count (children t) → part u i ≡ x
put_there t v u x i e f h = ap (λ w. part w i) (f ∙ ap (λ w. with_part w i x) e ∙ part_twice t i absent x) ∙ part_with t i x h

pub put_back : (t v u x : Tree) (i : ℕ) → v ≡ with_part t i absent → u ≡ with_part v i x → i < count (children t) → u ≡ with_part t i (part u i)
put_back t v u x i e f h = f ∙ ap (λ w. with_part w i x) e ∙ part_twice t i absent x ∙ sym (ap (with_part t i) (put_there t v u x i e f h))

with_parts : (ts : Trees) (i : ℕ) (x : Tree) → i < count ts → with_child ts i x ≡ append (first_children i ts) (x ▸ rest_children (suc i) ts)
with_parts none i x h = absurd (omega (arith, h))
with_parts (t ▸ none) zero x h = refl
with_parts (t ▸ (u ▸ ts)) zero x h = refl
with_parts (t ▸ ts) (suc i) x h = ap (λ us. t ▸ us) (with_parts ts i x (omega (arith, h)))

parts_of : (ts : Trees) (i : ℕ) → i < count ts → ts ≡ append (first_children i ts) (child_or_absent ts i ▸ rest_children (suc i) ts)
parts_of none i h = absurd (omega (arith, h))
parts_of (t ▸ none) zero h = refl
parts_of (t ▸ (u ▸ ts)) zero h = refl
parts_of (t ▸ ts) (suc i) h = ap (λ us. t ▸ us) (parts_of ts i (omega (arith, h)))

-- ---- the first of some trees

module _ (f : Tree → Bool) where
  pub stops : (ts : Trees) (i : ℕ) → i < count ts → f (child_or_absent ts i) ≡ true → any_of f (rest_children i ts) ≡ any_of f ts → true ≡ any_of f ts
  stops ts i h e inv = sym (ap (λ b. b || any_of f (rest_children (suc i) ts)) e) ∙ sym (ap (any_of f) (next_child ts i h)) ∙ inv

  pub goes_on : (ts : Trees) (i : ℕ) → i < count ts → f (child_or_absent ts i) ≡ false → any_of f (rest_children i ts) ≡ any_of f ts → any_of f (rest_children (i + 1) ts) ≡ any_of f ts
  goes_on ts i h e inv =
      let next : i + 1 ≡ suc i = omega arith in
      ap (λ k. any_of f (rest_children k ts)) next ∙ sym (ap (λ b. b || any_of f (rest_children (suc i) ts)) e) ∙ sym (ap (any_of f) (next_child ts i h)) ∙ inv

  pub ends : (ts : Trees) (i : ℕ) → count ts ≤ i → any_of f (rest_children i ts) ≡ any_of f ts → false ≡ any_of f ts
  ends ts i h inv = sym (ap (any_of f) (no_rest ts i h)) ∙ inv

  -- one of them stands there
  found : (before : Trees) (x : Tree) (after : Trees) → f x ≡ true → any_of f (append before (x ▸ after)) ≡ true
  found none x after e = ap (λ b. b || any_of f after) e
  found (t ▸ before) x after e = ap (λ b. f t || b) (found before x after e) ∙ or_true (f t)
    where
      or_true : (b : Bool) → b || true ≡ true
      or_true true = refl
      or_true false = refl

-- ---- what the tests say

binding_is : (t : Tree) → is_binding t ≡ true → (x : Name) × (t ≡ binding x)
binding_is (node shape.BindingIdentifier (x ∷ []) zero none) e = (x, refl)
binding_is t e = absurd (true≢false (sym e))

declarator_is : (d : Tree) → is_declarator_shape (shape_of d) && is_bare d 2 ≡ true → d ≡ declarator (part d 0) (part d 1)
declarator_is (node shape.VariableDeclarator [] zero (a ▸ (b ▸ none))) e = refl
declarator_is d e = absurd (true≢false (sym e))

let_is : (t : Tree) → is_let_shape (shape_of t) && is_bare t 1 ≡ true → t ≡ node (shape.VariableDeclaration Let) [] 0 (part t 0 ▸ none)
let_is (node (shape.VariableDeclaration Let) [] zero (a ▸ none)) e = refl
let_is t e = absurd (true≢false (sym e))

export_is : (t : Tree) → is_export_shape (shape_of t) && is_bare t 3 ≡ true → t ≡ held (Exported (part t 1) (part t 2)) (part t 0)
export_is (node shape.ExportNamedDeclaration [] zero (a ▸ (b ▸ (c ▸ none)))) e = refl
export_is t e = absurd (true≢false (sym e))

for_is : (t : Tree) → is_for_shape (shape_of t) && is_bare t 4 ≡ true → t ≡ for_loop (part t 0) (part t 1) (part t 2) (part t 3)
for_is (node shape.ForStatement [] zero (a ▸ (b ▸ (c ▸ (d ▸ none))))) e = refl
for_is t e = absurd (true≢false (sym e))

and_both : (a b : Bool) → a ≡ true → b ≡ true → a && b ≡ true
and_both a b e f = ap (λ x. x && b) e ∙ f

-- ---- a declaration

-- a `let` of some declarators
record Declares (t : Tree) : Type 0 where
  is : t ≡ declaration Let (children (part t 0))
  any : any_of begins_undefined (children (part t 0)) ≡ true

declares : (t : Tree) → declares_undefined t ≡ true → Declares t
declares t e =
    let (a, r) = and_parts (is_let_shape (shape_of t)) (is_bare t 1 && (is_listed (part t 0) && any_of begins_undefined (children (part t 0)))) e in
    let (b, s) = and_parts (is_bare t 1) (is_listed (part t 0) && any_of begins_undefined (children (part t 0))) r in
    let (c, any) = and_parts (is_listed (part t 0)) (any_of begins_undefined (children (part t 0))) s in
    record { is = let_is t (and_both (is_let_shape (shape_of t)) (is_bare t 1) a b) ∙ ap (λ l. node (shape.VariableDeclaration Let) [] 0 (l ▸ none)) (listed_is (part t 0) c); any = any }

-- a declarator
record Begins (d : Tree) : Type 0 where
  name : Name
  is : d ≡ declarator (binding name) (part d 1)
  undefined : is_undefined (part d 1) ≡ true

begins : (d : Tree) → begins_undefined d ≡ true → Begins d
begins d e =
    let (a, r) = and_parts (is_declarator_shape (shape_of d)) (is_bare d 2 && (is_binding (part d 0) && is_undefined (part d 1))) e in
    let (b, s) = and_parts (is_bare d 2) (is_binding (part d 0) && is_undefined (part d 1)) r in
    let (c, u) = and_parts (is_binding (part d 0)) (is_undefined (part d 1)) s in
    let (x, is) = binding_is (part d 0) c in
    record { name = x; is = declarator_is d (and_both (is_declarator_shape (shape_of d)) (is_bare d 2) a b) ∙ ap (λ i. declarator i (part d 1)) is; undefined = u }

pub list_first : (t : Tree) → declares_undefined t ≡ true → 0 < count (children t)
list_first t e = let same = ap (λ u. count (children u)) (declares t e).is in omega (arith, same)

pub two_parts : (d : Tree) → begins_undefined d ≡ true → 1 < count (children d)
two_parts d e = let same = ap (λ u. count (children u)) (begins d e).is in omega (arith, same)

-- one that is at the index
pub row_at : (t : Tree) (i : ℕ) (u : Tree) → declares_undefined t ≡ true → i < count (children (part t 0)) → begins_undefined (part (part t 0) i) ≡ true → u ≡ bared t i → Row61 t u
row_at t i u e h b f =
    let ds = children (part t 0) in
    let d = child_or_absent ds i in
    let one = begins d b in
    let before = first_children i ds in
    let after = rest_children (suc i) ds in
    let gone : with_part d 1 absent ≡ declarator (binding one.name) absent = ap (λ x. with_part x 1 absent) one.is in
    record {
      before = before;
      name = one.name;
      init = part d 1;
      after = after;
      undefined = undefined_is (part d 1) one.undefined;
      shape = (declares t e).is ∙ ap (declaration Let) (parts_of ds i h ∙ ap (λ x. append before (x ▸ after)) one.is);
      written = f ∙ ap (λ x. with_part x 0 (dropped (part t 0) i)) (declares t e).is ∙ ap (λ l. node (shape.VariableDeclaration Let) [] 0 (l ▸ none)) (list_dropped t e i)
          ∙ ap (declaration Let) (with_parts ds i (with_part d 1 absent) h ∙ ap (λ x. append before (x ▸ after)) gone);
    }
  where
    list_dropped : (t : Tree) → declares_undefined t ≡ true → (i : ℕ) → dropped (part t 0) i ≡ listed (with_child (children (part t 0)) i (with_part (child_or_absent (children (part t 0)) i) 1 absent))
    list_dropped t e i = ap (λ v. with_part (part v 0) i (with_part (child_or_absent (children (part t 0)) i) 1 absent)) (declares t e).is

pub none_there : (t : Tree) → declares_undefined t ≡ true → false ≡ any_of begins_undefined (children (part t 0)) → ⊥
none_there t e n = true≢false (sym (declares t e).any ∙ sym n)

-- ---- statements

pub alone_bared : (t u : Tree) → Row61 t u → Bared t u
alone_bared t u r = record { item = Alone; declared = t; bare = u; row = r; shape = refl; written = refl }

exported : (t : Tree) → is_read t ≡ true → declares_undefined t ≡ false → exports_undefined t ≡ true
exported t e f = sym (ap (λ b. b || exports_undefined t) f) ∙ e

export_parts : (t : Tree) → exports_undefined t ≡ true → (t ≡ held (Exported (part t 1) (part t 2)) (part t 0)) × (declares_undefined (part t 0) ≡ true)
export_parts t e =
    let (a, r) = and_parts (is_export_shape (shape_of t)) (is_bare t 3 && declares_undefined (part t 0)) e in
    let (b, d) = and_parts (is_bare t 3) (declares_undefined (part t 0)) r in
    (export_is t (and_both (is_export_shape (shape_of t)) (is_bare t 3) a b), d)

pub export_first : (t : Tree) → is_read t ≡ true → declares_undefined t ≡ false → 0 < count (children t)
export_first t e f = let same = ap (λ u. count (children u)) (export_parts t (exported t e f)).0 in omega (arith, same)

pub export_declares : (t : Tree) → is_read t ≡ true → declares_undefined t ≡ false → declares_undefined (part t 0) ≡ true
export_declares t e f = (export_parts t (exported t e f)).1

pub export_bared : (t u : Tree) → is_read t ≡ true → declares_undefined t ≡ false → Row61 (part t 0) (part u 0) → u ≡ with_part t 0 (part u 0) → Bared t u
export_bared t u e f r g =
    let is = (export_parts t (exported t e f)).0 in
    record { item = Exported (part t 1) (part t 2); declared = part t 0; bare = part u 0; row = r; shape = is; written = g ∙ ap (λ v. with_part v 0 (part u 0)) is }

-- ---- a list

contracts : (p : Position) (n w : Tree) → DeclarationRow p n w → DeclarationContracts p n w
contracts p n w r = record { row = r; lighter = weights.declarations_lighter p n w r }

-- in a list, a function's body among them
moves_in : (p : Position) (t u : Tree) → is_statement_list p ≡ true → InList Row61Item t u → Applied p t u true
moves_in StatementList t u e r = moves_once DeclarationContracts StatementList t u (contracts StatementList t u r)
moves_in BodyList t u e r = moves_once DeclarationContracts BodyList t u (contracts BodyList t u r)
moves_in p t u e r = absurd (cc e)

rests_in : (p : Position) (t : Tree) → is_statement_list p ≡ true → ((w : Tree) → InList Row61Item t w → ⊥) → Applied p t t false
rests_in StatementList t e f = (refl, f)
rests_in BodyList t e f = (refl, f)
rests_in p t e f = absurd (cc e)

pub list_applied : (t : Tree) (i : ℕ) (u : Tree) → is_listed t ≡ true → i < count (children t) → Bared (part t i) (part u i) → u ≡ with_part t i (part u i) → (p : Position) → is_statement_list p ≡ true → Applied p t u true
list_applied t i u l h b f p e =
    let ts = children t in
    let row : InList Row61Item t u = record {
      before = first_children i ts;
      read = part t i ▸ none;
      put = part u i ▸ none;
      after = rest_children (suc i) ts;
      row = record { item = b.item; declared = b.declared; bare = b.bare; row = b.row; shape = ap (λ x. x ▸ none) b.shape; written = ap (λ x. x ▸ none) b.written };
      shape = listed_is t l ∙ ap listed (parts_of ts i h);
      written = f ∙ ap (λ v. with_part v i (part u i)) (listed_is t l) ∙ ap listed (with_parts ts i (part u i) h);
    } in
    moves_in p t u e row

-- a row reads what the tests tell

row_declares : (n w : Tree) → Row61 n w → declares_undefined n ≡ true
row_declares n w r = ap declares_undefined r.shape ∙ found begins_undefined r.before (declarator (binding r.name) r.init) r.after (undefined_passes r.init r.undefined)

held_read : (item : Item) (n w : Tree) → Row61 n w → is_read (held item n) ≡ true
held_read Alone n w r = ap (λ b. b || exports_undefined n) (row_declares n w r)
held_read (Exported specifiers source) n w r = row_declares n w r

list_read : (n w : Tree) → InList Row61Item n w → any_of is_read (children n) ≡ true
list_read n w r =
    let i = r.row in
    ap (λ t. any_of is_read (children t)) r.shape ∙ ap (λ ts. any_of is_read (append r.before (append ts r.after))) i.shape
    ∙ found is_read r.before (held i.item i.declared) r.after (held_read i.item i.declared i.bare i.row)

pub list_rests : (t : Tree) → false ≡ any_of is_read (children t) → (p : Position) → is_statement_list p ≡ true → Applied p t t false
list_rests t e p k = rests_in p t k (λ w r. true≢false (sym (list_read t w r) ∙ sym e))

pub other_rests : (t : Tree) → is_listed t ≡ false → (p : Position) → is_statement_list p ≡ true → Applied p t t false
other_rests t e p k = rests_in p t k (λ w r. true≢false (sym (ap is_listed r.shape) ∙ e))

-- ---- a `for`

loop_parts : (t : Tree) → loops_undefined t ≡ true → (t ≡ for_loop (part t 0) (part t 1) (part t 2) (part t 3)) × (declares_undefined (part t 0) ≡ true)
loop_parts t e =
    let (a, r) = and_parts (is_for_shape (shape_of t)) (is_bare t 4 && declares_undefined (part t 0)) e in
    let (b, d) = and_parts (is_bare t 4) (declares_undefined (part t 0)) r in
    (for_is t (and_both (is_for_shape (shape_of t)) (is_bare t 4) a b), d)

pub loop_first : (t : Tree) → loops_undefined t ≡ true → 0 < count (children t)
loop_first t e = let same = ap (λ u. count (children u)) (loop_parts t e).0 in omega (arith, same)

pub loop_declares : (t : Tree) → loops_undefined t ≡ true → declares_undefined (part t 0) ≡ true
loop_declares t e = (loop_parts t e).1

pub loop_applied : (t u : Tree) → loops_undefined t ≡ true → Row61 (part t 0) (part u 0) → u ≡ with_part t 0 (part u 0) → (q : StmtSeat) → Applied (Stmt q) t u true
loop_applied t u e r f q =
    let is = (loop_parts t e).0 in
    let row : Row61For t u = record { declared = part t 0; bare = part u 0; test = part t 1; update = part t 2; body = part t 3; row = r; shape = is; written = f ∙ ap (λ v. with_part v 0 (part u 0)) is } in
    moves_once DeclarationContracts (Stmt q) t u (contracts (Stmt q) t u row)

pub loop_rests : (t : Tree) → loops_undefined t ≡ false → (q : StmtSeat) → Applied (Stmt q) t t false
loop_rests t e q = (refl, λ w r. true≢false (sym (ap loops_undefined r.shape ∙ row_declares r.declared r.bare r.row) ∙ e))
