-- Each form of a statement in its list, or in a branch or a body, writes what a row of the rewrites
-- says.
use Rattle.std.proofs.Common.{◌≡◌, refl, sym, ap, ◌∙◌, inl, inr}
use Rattle.std.specs.Prelude.{ℕ, zero, suc, Bool, true, false, not, ◌&&◌, nat_le, nat_eq, [], ◌∷◌, Option, Some, option_map, if◌then◌else◌}
use Rattle.std.proofs.lemmas.Bool.{and_parts, false≢true}
use Rattle.std.proofs.lemmas.Option.{none-some, same_Some, option_and_then_some, cond_some}
use Rattle.mini_model.specs.declared.kind.VariableDeclarationKind.TheVariants.{Let}
use Rattle.mini_model.specs.declared.name.Name.{Name}
use Rattle.mini_model.specs.declared.place.Position.{Position}
use Rattle.mini_model.specs.declared.place.Position.TheVariants.{StatementList, BodyList}
use Rattle.mini_model.specs.declared.shape.Shape.TheVariants as shape
use Rattle.mini_model.specs.Paths.{append}
use Rattle.mini_model.specs.Tree.{Tree, Trees, node, none, ◌▸◌, count, shape_of, children, listed, absent, expression_statement}
use Rattle.mini_node.specs.Children.{part, with_part, is_bare}
use Rattle.mini_node.specs.Kinds.{sequence, block, is_listed, is_named_leaf, is_sequence, is_expression_statement, is_empty_statement, is_block}
use Rattle.mini_node.specs.Made.{listed_is, sequence_is, expression_statement_is, empty_statement_is, block_is}
use Rattle.mini_rows.specs.Branches as branch
use Rattle.mini_rows.specs.Branches.{Surrounding, Consequent, Alternate, WhileBody, DoBody, ForBody, InBody, OfBody, around, keeps_block}
use Rattle.mini_rows.specs.Declarations.{Row61, Alone, Exported, held, Row61Item, Row61For, DeclarationRow}
use Rattle.mini_rows.specs.Lists.{is_unscoped, are_unscoped, is_one_part, of_parts, are_parts, declaration, declarator, binding, for_loop, NeighbourRow, InList, ListRow}
use Rattle.mini_rows.specs.Switches.{Switches}
use Rattle.mini_log.specs.ListRows.{is_statements, within, in_list, first_by, is_binding_shape, is_declarator_shape, is_let_shape, is_export_shape, is_for_shape, begins_undefined, bared, is_let, bare_let, bare_export, bare_head, gone, parts, has_parts, is_joinable, joined, spread, is_branch, arity, has_else, is_consequent, stands_bare, only, unwrapped_by, unwrapped_at, unwrapped}
use Rattle.mini_log.specs.Terms.{when, is_undefined}
use Rattle.mini_log.specs.Walk.{spot}
use Rattle.mini_log.proofs.Tests.{whenever, mapped, not_true, undefined_is}

-- ---- neighbours in a list

-- some neighbours, and others in their place
pub record Put (R : Trees → Trees → Type 0) (ts us : Trees) : Type 0 where
  before : Trees
  read : Trees
  put : Trees
  after : Trees
  row : R read put
  shape : ts ≡ append before (append read after)
  written : us ≡ append before (append put after)

put_within : (R : Trees → Trees → Type 0) (g : Trees → Option Trees) → ((ts us : Trees) → g ts ≡ Some us → Put R ts us) → (ts : Trees) (i : ℕ) (us : Trees) → within g ts i ≡ Some us → Put R ts us
put_within R g m ts zero us e = m ts us e
put_within R g m none (suc i) us e = absurd (none-some us e)
put_within R g m (t ▸ ts) (suc i) us e =
    let (vs, (is, made)) = mapped (λ vs. t ▸ vs) (within g ts i) us e in
    let x = put_within R g m ts i vs is in
    record { before = t ▸ x.before; read = x.read; put = x.put; after = x.after; row = x.row; shape = ap (λ vs. t ▸ vs) x.shape; written = sym made ∙ ap (λ vs. t ▸ vs) x.written }

record Listing (R : Trees → Trees → Type 0) (p : Position) (t w : Tree) : Type 0 where
  statements : is_statements p ≡ true
  row : InList R t w

listing : (R : Trees → Trees → Type 0) (g : Trees → Option Trees) → ((ts us : Trees) → g ts ≡ Some us → Put R ts us) → (p : Position) (t : Tree) (i : ℕ) (w : Tree) → in_list g p t i ≡ Some w → Listing R p t w
listing R g m p t i w e =
    option_and_then_some (λ us. when (is_statements p && is_listed t) (listed us)) (within g (children t) i) w e (λ us found done.
    let (test, made) = whenever (is_statements p && is_listed t) (listed us) w done in
    let (statements, is) = and_parts (is_statements p) (is_listed t) test in
    let x = put_within R g m (children t) i us found in
    record { statements = statements; row = record { before = x.before; read = x.read; put = x.put; after = x.after; row = x.row; shape = listed_is t is ∙ ap listed x.shape; written = made ∙ ap listed x.written } })

list_row : (o : Switches) (p : Position) (t w : Tree) → Listing (NeighbourRow o) p t w → ListRow o p t w
list_row o StatementList t w l = l.row
list_row o BodyList t w l = inl l.row
list_row o p t w l = absurd (false≢true l.statements)

declaration_row : (p : Position) (t w : Tree) → Listing Row61Item p t w → DeclarationRow p t w
declaration_row StatementList t w l = l.row
declaration_row BodyList t w l = l.row
declaration_row p t w l = absurd (false≢true l.statements)

-- ---- 61

binding_is : (t : Tree) → is_binding_shape (shape_of t) && is_named_leaf t ≡ true → (x : Name) × (t ≡ binding x)
binding_is (node shape.BindingIdentifier (x ∷ []) zero none) e = (x, refl)
binding_is t e = absurd (false≢true e)

declarator_is : (d : Tree) → is_declarator_shape (shape_of d) ≡ true → is_bare d 2 ≡ true → d ≡ declarator (part d 0) (part d 1)
declarator_is (node shape.VariableDeclarator [] zero (a ▸ (b ▸ none))) e f = refl
declarator_is (node shape.VariableDeclarator xs n ts) e f = absurd (false≢true f)
declarator_is (node h xs n ts) e f = absurd (false≢true e)

-- a declarator that begins as undefined
record Begins (d : Tree) : Type 0 where
  name : Name
  init : Tree
  undefined : is_undefined init ≡ true
  is : d ≡ declarator (binding name) init

begins : (d : Tree) → begins_undefined d ≡ true → Begins d
begins d e =
    let (a, r) = and_parts (is_declarator_shape (shape_of d)) (is_bare d 2 && ((is_binding_shape (shape_of (part d 0)) && is_named_leaf (part d 0)) && is_undefined (part d 1))) e in
    let (b, s) = and_parts (is_bare d 2) ((is_binding_shape (shape_of (part d 0)) && is_named_leaf (part d 0)) && is_undefined (part d 1)) r in
    let (c, u) = and_parts (is_binding_shape (shape_of (part d 0)) && is_named_leaf (part d 0)) (is_undefined (part d 1)) s in
    let (x, is) = binding_is (part d 0) c in
    record { name = x; init = part d 1; undefined = u; is = declarator_is d a b ∙ ap (λ i. declarator i (part d 1)) is }

record Bares (ds es : Trees) : Type 0 where
  before : Trees
  name : Name
  init : Tree
  after : Trees
  undefined : is_undefined init ≡ true
  shape : ds ≡ append before (declarator (binding name) init ▸ after)
  written : es ≡ append before (declarator (binding name) absent ▸ after)

bares_here : (d : Tree) (ds es : Trees) (b : Bool) → begins_undefined d ≡ b → ((us : Trees) → bared ds ≡ Some us → Bares ds us) → (if b then Some (with_part d 1 absent ▸ ds) else option_map (λ us. d ▸ us) (bared ds)) ≡ Some es → Bares (d ▸ ds) es
bares_here d ds es true is rest e =
    let x = begins d is in
    record { before = none; name = x.name; init = x.init; after = ds; undefined = x.undefined; shape = ap (λ v. v ▸ ds) x.is; written = sym (same_Some (with_part d 1 absent ▸ ds) es e) ∙ ap (λ v. with_part v 1 absent ▸ ds) x.is }
bares_here d ds es false is rest e =
    let (us, (told, made)) = mapped (λ us. d ▸ us) (bared ds) es e in
    let x = rest us told in
    record { before = d ▸ x.before; name = x.name; init = x.init; after = x.after; undefined = x.undefined; shape = ap (λ v. d ▸ v) x.shape; written = sym made ∙ ap (λ v. d ▸ v) x.written }

bares : (ds es : Trees) → bared ds ≡ Some es → Bares ds es
bares none es e = absurd (none-some es e)
bares (d ▸ ds) es e = bares_here d ds es (begins_undefined d) refl (bares ds) e

let_is : (t : Tree) → is_let_shape (shape_of t) ≡ true → is_bare t 1 ≡ true → t ≡ node (shape.VariableDeclaration Let) [] 0 (part t 0 ▸ none)
let_is (node (shape.VariableDeclaration Let) [] zero (a ▸ none)) e f = refl
let_is (node (shape.VariableDeclaration Let) xs n ts) e f = absurd (false≢true f)
let_is (node h xs n ts) e f = absurd (false≢true e)

lets : (t w : Tree) → bare_let t ≡ Some w → Row61 t w
lets t w e =
    option_and_then_some (λ ds. when (is_let t) (with_part t 0 (listed ds))) (bared (children (part t 0))) w e (λ ds told done.
    let (test, made) = whenever (is_let t) (with_part t 0 (listed ds)) w done in
    let (a, r) = and_parts (is_let_shape (shape_of t)) (is_bare t 1 && is_listed (part t 0)) test in
    let (b, c) = and_parts (is_bare t 1) (is_listed (part t 0)) r in
    let x = bares (children (part t 0)) ds told in
    let is : t ≡ declaration Let (children (part t 0)) = let_is t a b ∙ ap (λ l. node (shape.VariableDeclaration Let) [] 0 (l ▸ none)) (listed_is (part t 0) c) in
    record { before = x.before; name = x.name; init = x.init; after = x.after; undefined = undefined_is x.init x.undefined; shape = is ∙ ap (declaration Let) x.shape; written = made ∙ ap (λ v. with_part v 0 (listed ds)) is ∙ ap (declaration Let) x.written })

first_row : (f : Tree → Option Tree) (R : Trees → Trees → Type 0) → ((t u : Tree) → f t ≡ Some u → R (t ▸ none) (u ▸ none)) → (ts us : Trees) → first_by f ts ≡ Some us → Put R ts us
first_row f R m none us e = absurd (none-some us e)
first_row f R m (t ▸ ts) us e =
    let (u, (is, made)) = mapped (λ u. u ▸ ts) (f t) us e in
    record { before = none; read = t ▸ none; put = u ▸ none; after = ts; row = m t u is; shape = refl; written = sym made }

let_item : (t u : Tree) → bare_let t ≡ Some u → Row61Item (t ▸ none) (u ▸ none)
let_item t u e = record { item = Alone; declared = t; bare = u; row = lets t u e; shape = refl; written = refl }

export_is : (t : Tree) → is_export_shape (shape_of t) && is_bare t 3 ≡ true → t ≡ held (Exported (part t 1) (part t 2)) (part t 0)
export_is (node shape.ExportNamedDeclaration [] zero (a ▸ (b ▸ (c ▸ none)))) e = refl
export_is t e = absurd (false≢true e)

export_item : (t u : Tree) → bare_export t ≡ Some u → Row61Item (t ▸ none) (u ▸ none)
export_item t u e =
    option_and_then_some (λ d. when (is_export_shape (shape_of t) && is_bare t 3) (with_part t 0 d)) (bare_let (part t 0)) u e (λ d told done.
    let (test, made) = whenever (is_export_shape (shape_of t) && is_bare t 3) (with_part t 0 d) u done in
    let is = export_is t test in
    record { item = Exported (part t 1) (part t 2); declared = part t 0; bare = d; row = lets (part t 0) d told; shape = ap (λ v. v ▸ none) is; written = ap (λ v. v ▸ none) (made ∙ ap (λ v. with_part v 0 d) is) })

pub bares_let : (p : Position) (t : Tree) (i : ℕ) (w : Tree) → in_list (first_by bare_let) p t i ≡ Some w → DeclarationRow p t w
bares_let p t i w e = declaration_row p t w (listing Row61Item (first_by bare_let) (first_row bare_let Row61Item let_item) p t i w e)

pub bares_export : (p : Position) (t : Tree) (i : ℕ) (w : Tree) → in_list (first_by bare_export) p t i ≡ Some w → DeclarationRow p t w
bares_export p t i w e = declaration_row p t w (listing Row61Item (first_by bare_export) (first_row bare_export Row61Item export_item) p t i w e)

for_is : (t : Tree) → is_for_shape (shape_of t) && is_bare t 4 ≡ true → t ≡ for_loop (part t 0) (part t 1) (part t 2) (part t 3)
for_is (node shape.ForStatement [] zero (a ▸ (b ▸ (c ▸ (d ▸ none))))) e = refl
for_is t e = absurd (false≢true e)

pub bares_head : (t : Tree) (i : ℕ) (w : Tree) → bare_head t i ≡ Some w → Row61For t w
bares_head t i w e =
    option_and_then_some (λ d. when (nat_eq (spot (children t) i) 0 && (is_for_shape (shape_of t) && is_bare t 4)) (with_part t 0 d)) (bare_let (part t 0)) w e (λ d told done.
    let (test, made) = whenever (nat_eq (spot (children t) i) 0 && (is_for_shape (shape_of t) && is_bare t 4)) (with_part t 0 d) w done in
    let (first, loops) = and_parts (nat_eq (spot (children t) i) 0) (is_for_shape (shape_of t) && is_bare t 4) test in
    let is = for_is t loops in
    record { declared = part t 0; bare = d; test = part t 1; update = part t 2; body = part t 3; row = lets (part t 0) d told; shape = is; written = made ∙ ap (λ v. with_part v 0 d) is })

-- ---- 66, 79 in a list

goes : (o : Switches) (ts us : Trees) → gone ts ≡ Some us → Put (NeighbourRow o) ts us
goes o none us e = absurd (none-some us e)
goes o (t ▸ ts) us e =
    let (is, made) = cond_some (is_empty_statement t) ts us e in
    record { before = none; read = t ▸ none; put = none; after = ts; row = inl (inl (record { shape = ap (λ x. x ▸ none) (empty_statement_is t is); written = refl })); shape = refl; written = sym made }

spreads : (o : Switches) (ts us : Trees) → spread ts ≡ Some us → Put (NeighbourRow o) ts us
spreads o none us e = absurd (none-some us e)
spreads o (t ▸ ts) us e =
    let (test, made) = cond_some (is_block t && are_unscoped (children (part t 0))) (append (children (part t 0)) ts) us e in
    let (is, unscoped) = and_parts (is_block t) (are_unscoped (children (part t 0))) test in
    record { before = none; read = t ▸ none; put = children (part t 0); after = ts; row = inl (inr (inl (record { statements = children (part t 0); unscoped = unscoped; shape = ap (λ x. x ▸ none) (block_is t is); written = refl }))); shape = refl; written = sym made }

-- an expression of parts
record Parts (e : Tree) : Type 0 where
  first : Tree
  others : Trees
  are : are_parts first others ≡ true
  is : e ≡ of_parts first others
  told : parts e ≡ (first ▸ others)

parts_are : (e : Tree) → has_parts e ≡ true → Parts e
parts_are e h = go (is_sequence e) refl h
  where
    several : (ts : Trees) → children (part e 0) ≡ ts → nat_le 2 (count ts) ≡ true → e ≡ sequence (children (part e 0)) → parts e ≡ children (part e 0) → Parts e
    several none k h is told = absurd (false≢true h)
    several (a ▸ none) k h is told = absurd (false≢true h)
    several (a ▸ (b ▸ ts)) k h is told = record { first = a; others = b ▸ ts; are = refl; is = is ∙ ap sequence k; told = told ∙ k }

    go : (b : Bool) → is_sequence e ≡ b → (if b then nat_le 2 (count (children (part e 0))) else is_one_part e) ≡ true → Parts e
    go true is h = several (children (part e 0)) refl h (sequence_is e is) (ap (λ b. if b then children (part e 0) else e ▸ none) is)
    go false is h = record { first = e; others = none; are = h; is = refl; told = ap (λ b. if b then children (part e 0) else e ▸ none) is }

joined_is : (p : Tree) (ps : Trees) (q : Tree) (qs : Trees) → sequence (append (p ▸ ps) (q ▸ qs)) ≡ of_parts p (append ps (q ▸ qs))
joined_is p none q qs = refl
joined_is p (r ▸ ps) q qs = refl

joins : (o : Switches) (ts us : Trees) → joined o.sequences ts ≡ Some us → Put (NeighbourRow o) ts us
joins o none us e = absurd (none-some us e)
joins o (t ▸ none) us e = absurd (none-some us e)
joins o (t ▸ (u ▸ ts)) us e =
    let (test, made) = cond_some (o.sequences && (is_joinable t && is_joinable u)) (expression_statement (sequence (append (parts (part t 0)) (parts (part u 0)))) ▸ ts) us e in
    let (on, r) = and_parts o.sequences (is_joinable t && is_joinable u) test in
    let (one, other) = and_parts (is_joinable t) (is_joinable u) r in
    let (states, has) = and_parts (is_expression_statement t) (has_parts (part t 0)) one in
    let (says, have) = and_parts (is_expression_statement u) (has_parts (part u 0)) other in
    let x = parts_are (part t 0) has in
    let y = parts_are (part u 0) have in
    let first : t ≡ expression_statement (of_parts x.first x.others) = expression_statement_is t states ∙ ap expression_statement x.is in
    let second : u ≡ expression_statement (of_parts y.first y.others) = expression_statement_is u says ∙ ap expression_statement y.is in
    let whole : sequence (append (parts (part t 0)) (parts (part u 0))) ≡ of_parts x.first (append x.others (y.first ▸ y.others)) = ap (λ v. sequence (append v (parts (part u 0)))) x.told ∙ ap (λ v. sequence (append (x.first ▸ x.others) v)) y.told ∙ joined_is x.first x.others y.first y.others in
    record {
      before = none;
      read = t ▸ (u ▸ none);
      put = expression_statement (sequence (append (parts (part t 0)) (parts (part u 0)))) ▸ none;
      after = ts;
      row = inl (inr (inr (inr (on, inl (record { p = x.first; ps = x.others; q = y.first; qs = y.others; first = x.are; second = y.are; shape = ap (λ v. v ▸ (u ▸ none)) first ∙ ap (λ v. expression_statement (of_parts x.first x.others) ▸ (v ▸ none)) second; written = ap (λ v. expression_statement v ▸ none) whole })))));
      shape = refl;
      written = sym made;
    }

pub goes_in_list : (o : Switches) (p : Position) (t : Tree) (i : ℕ) (w : Tree) → in_list gone p t i ≡ Some w → ListRow o p t w
goes_in_list o p t i w e = list_row o p t w (listing (NeighbourRow o) gone (goes o) p t i w e)

pub joins_in_list : (o : Switches) (p : Position) (t : Tree) (i : ℕ) (w : Tree) → in_list (joined o.sequences) p t i ≡ Some w → ListRow o p t w
joins_in_list o p t i w e = list_row o p t w (listing (NeighbourRow o) (joined o.sequences) (joins o) p t i w e)

pub spreads_in_list : (o : Switches) (p : Position) (t : Tree) (i : ℕ) (w : Tree) → in_list spread p t i ≡ Some w → ListRow o p t w
spreads_in_list o p t i w e = list_row o p t w (listing (NeighbourRow o) spread (spreads o) p t i w e)

-- ---- 79 of a branch or a body

else_same : (t : Tree) → has_else t ≡ branch.has_else t
else_same (node shape.IfStatement xs n none) = refl
else_same (node shape.IfStatement xs n (a ▸ none)) = refl
else_same (node shape.IfStatement xs n (a ▸ (b ▸ none))) = refl
else_same (node shape.IfStatement xs n (a ▸ (b ▸ (c ▸ ts)))) = refl
else_same (node h xs n ts) = refl

-- a statement around one in a branch or a body
record Around (t : Tree) (i : ℕ) : Type 0 where
  place : Surrounding
  is : t ≡ around place (part t i)
  with : (u : Tree) → with_part t i u ≡ around place u
  keeps : (u : Tree) → keeps_block place u ≡ is_consequent (shape_of t) i && has_else u

stands_around : (t : Tree) (i : ℕ) → is_branch (shape_of t) i ≡ true → is_bare t (arity (shape_of t)) ≡ true → Around t i
stands_around (node shape.IfStatement [] zero (a ▸ (c ▸ (d ▸ none)))) (suc zero) e f = record { place = Consequent a d; is = refl; with = λ u. refl; keeps = λ u. sym (else_same u) }
stands_around (node shape.IfStatement [] zero (a ▸ (c ▸ (d ▸ none)))) (suc (suc zero)) e f = record { place = Alternate a c; is = refl; with = λ u. refl; keeps = λ u. refl }
stands_around (node shape.WhileStatement [] zero (a ▸ (c ▸ none))) (suc zero) e f = record { place = WhileBody a; is = refl; with = λ u. refl; keeps = λ u. refl }
stands_around (node shape.DoWhileStatement [] zero (c ▸ (a ▸ none))) zero e f = record { place = DoBody a; is = refl; with = λ u. refl; keeps = λ u. refl }
stands_around (node shape.ForStatement [] zero (a ▸ (b ▸ (d ▸ (c ▸ none))))) (suc (suc (suc zero))) e f = record { place = ForBody a b d; is = refl; with = λ u. refl; keeps = λ u. refl }
stands_around (node shape.ForInStatement [] zero (a ▸ (b ▸ (c ▸ none)))) (suc (suc zero)) e f = record { place = InBody a b; is = refl; with = λ u. refl; keeps = λ u. refl }
stands_around (node shape.ForOfStatement [] zero (a ▸ (b ▸ (c ▸ none)))) (suc (suc zero)) e f = record { place = OfBody a b; is = refl; with = λ u. refl; keeps = λ u. refl }
stands_around (node shape.IfStatement xs n ts) (suc zero) e f = absurd (false≢true f)
stands_around (node shape.IfStatement xs n ts) (suc (suc zero)) e f = absurd (false≢true f)
stands_around (node shape.WhileStatement xs n ts) (suc zero) e f = absurd (false≢true f)
stands_around (node shape.DoWhileStatement xs n ts) zero e f = absurd (false≢true f)
stands_around (node shape.ForStatement xs n ts) (suc (suc (suc zero))) e f = absurd (false≢true f)
stands_around (node shape.ForInStatement xs n ts) (suc (suc zero)) e f = absurd (false≢true f)
stands_around (node shape.ForOfStatement xs n ts) (suc (suc zero)) e f = absurd (false≢true f)
stands_around (node h xs n ts) i e f = absurd (false≢true e)

only_is : (ts : Trees) (t : Tree) → only ts ≡ Some t → ts ≡ t ▸ none
only_is none t e = absurd (none-some t e)
only_is (u ▸ none) t e = ap (λ v. v ▸ none) (same_Some u t e)
only_is (u ▸ (v ▸ ts)) t e = absurd (none-some t e)

unwraps_at : (t : Tree) (i : ℕ) (w : Tree) → unwrapped_at t i ≡ Some w → branch.Row79 t w
unwraps_at t i w e =
    option_and_then_some (unwrapped_by t i) (only (children (part (part t i) 0))) w e (λ u told done.
    let (test, made) = whenever ((is_branch (shape_of t) i && is_bare t (arity (shape_of t))) && (is_block (part t i) && stands_bare (shape_of t) i u)) (with_part t i u) w done in
    let (placed, r) = and_parts (is_branch (shape_of t) i && is_bare t (arity (shape_of t))) (is_block (part t i) && stands_bare (shape_of t) i u) test in
    let (blocks, bare) = and_parts (is_block (part t i)) (stands_bare (shape_of t) i u) r in
    let (unscoped, free) = and_parts (is_unscoped u) (not (is_consequent (shape_of t) i && has_else u)) bare in
    let (branches, whole) = and_parts (is_branch (shape_of t) i) (is_bare t (arity (shape_of t))) placed in
    let x = stands_around t i branches whole in
    record {
      place = x.place;
      statement = u;
      unscoped = unscoped;
      bare = x.keeps u ∙ not_true (is_consequent (shape_of t) i && has_else u) free;
      shape = x.is ∙ ap (around x.place) (block_is (part t i) blocks ∙ ap block (only_is (children (part (part t i) 0)) u told));
      written = made ∙ x.with u;
    })

pub unwraps : (t : Tree) (i : ℕ) (w : Tree) → unwrapped t i ≡ Some w → branch.Row79 t w
unwraps t i w e = unwraps_at t (spot (children t) i) w e
