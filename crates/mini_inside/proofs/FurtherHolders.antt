-- What holds the list of a body that loses a name further inside.
use Rattle.std.specs.Prelude.{zero, suc, ◌≡◌, ◌||◌, refl, Bool, true, false, [], ◌∷◌, Some}
use Rattle.std.proofs.Common.{ap, ◌∙◌, sym, subst, true≢false}
use Rattle.mini_model.specs.declared.place.Position.{Position}
use Rattle.mini_model.specs.declared.place.Position.TheVariants.{Expr, Stmt, Method, Elsewhere}
use Rattle.mini_model.specs.declared.seat.Seat.{Seat}
use Rattle.mini_model.specs.declared.seat.StmtSeat.{StmtSeat}
use Rattle.mini_model.specs.declared.shape.Shape.{Shape}
use Rattle.mini_model.specs.declared.shape.Shape.TheVariants as shape
use Rattle.mini_model.specs.Tree.{Tree, Trees, node, none, ◌▸◌, absent, listed, children}
use Rattle.mini_model.specs.Paths.{append}
use Rattle.mini_model.specs.Rewriting as rewriting
use Rattle.mini_model.specs.Rewriting.{Reaches, done, more}
use Rattle.mini_laws.specs.Path.{Path, here, inside, plug}
use Rattle.mini_laws.specs.Weights.{is_here}
use Rattle.mini_node.specs.Children.{part, with_part, number_of}
use Rattle.mini_rows.specs.declared.inside.Way.{Way}
use Rattle.mini_rows.specs.declared.inside.Way.TheVariants as way
use Rattle.mini_rows.specs.Inside.{is_way_to, above, Holder, Arrow, Function, Module, Static, over, stands_at, Ends, InsideOf, InsideAt, EndsLighten, unused_ends}
use Rattle.mini_rows.proofs.InsideLoses.{no_way}
use Rattle.mini_context.specs.declared.context.TraverseCtx.{TraverseCtx}
use Rattle.mini_context.specs.Known.{Knows}
use Rattle.mini_tree.specs.declared.options.CompressOptions.{CompressOptions}
use Rattle.mini_tree.specs.Rule as rule
use Rattle.mini_tree.specs.Rule.{Moves}
use Rattle.mini_tree.proofs.Reaching.{reaches_trans}
use Rattle.mini_unused.specs.Chains.{Chain, still, further, Several}
use Rattle.mini_unused.specs.RemoveUnusedDeclaration.{allowed}
use Rattle.mini_unused.proofs.Chains.{several_over}
use Rattle.mini_inside.specs.Holding.{has_statements, is_function, is_module, is_static_block, holds_list}
use Rattle.mini_inside.proofs.Holders.{arrow_is, function_is, module_is, static_is, told}
use Rattle.mini_inside.specs.Further.{BelowStep, BelowWalked, UnderBody, UnderList, with_body_list, is_function_holder, AppliedAt, FunctionStep, InFunction, Gives, Rests}
use Rattle.mini_inside.proofs.FurtherSteps.{join_append}

-- ---- the list, and what holds it

abbrev emptied : Tree → Tree
emptied (node (shape.ArrowFunctionExpression directives) xs n ts) = with_body_list (node (shape.ArrowFunctionExpression directives) xs n ts) 1 absent
emptied (node (shape.Function d g directives) xs n ts) = with_body_list (node (shape.Function d g directives) xs n ts) 2 absent
emptied t = with_part t 0 absent

abbrev list_in : Tree → Tree
list_in (node (shape.ArrowFunctionExpression directives) xs n ts) = part (part (node (shape.ArrowFunctionExpression directives) xs n ts) 1) 0
list_in (node (shape.Function d g directives) xs n ts) = part (part (node (shape.Function d g directives) xs n ts) 2) 0
list_in t = part t 0

emptied_over : (o : Holder) (l : Tree) → emptied (over o l) ≡ over o absent
emptied_over (Arrow directives n ps) l = refl
emptied_over (Function d g directives n name ps) l = refl
emptied_over (Module directives) l = refl
emptied_over (Static n) l = refl

list_over : (o : Holder) (l : Tree) → list_in (over o l) ≡ l
list_over (Arrow directives n ps) l = refl
list_over (Function d g directives n name ps) l = refl
list_over (Module directives) l = refl
list_over (Static n) l = refl

-- ---- a path on the way in a list begins with one of its nodes

record ListWay (z : Way) (k : Path) : Type 0 where
  pre : Trees
  rest : Path
  post : Trees
  is : k ≡ inside shape.Listed [] 0 pre rest post
  there : is_way_to z (Some way.Statement) rest ≡ true

listed_way : (z : Way) (h : Shape) (pre : Trees) (k : Path) (post : Trees) → is_way_to z (Some way.Statements) (inside h [] 0 pre k post) ≡ true → ListWay z (inside h [] 0 pre k post)
listed_way z shape.Listed pre k post e = record { pre = pre; rest = k; post = post; is = refl; there = e }
listed_way z h pre k post e = absurd (no_way z k e)

list_way : (z : Way) (k : Path) → is_way_to z (Some way.Statements) k ≡ true → is_here k ≡ false → ListWay z k
list_way z here e f = absurd (true≢false f)
list_way z (inside h [] zero pre k post) e f = listed_way z h pre k post e
list_way z (inside h [] (suc n) pre k post) e f = absurd (true≢false (sym e))
list_way z (inside h (x ∷ xs) n pre k post) e f = absurd (true≢false (sym e))

-- ---- a step

abbrev IsList : Tree → Type 0
IsList t = t ≡ listed (children t)

module _ (E : Ends) (o : Holder) where
  -- a row of this holder
  record HolderStep (t u : Tree) : Type 0 where
    row : InsideOf E t u
    same : row.holder ≡ o

  -- what steps make of it; or no row reads it
  abbrev InHolder : Tree → Tree → Bool → Type 0
  InHolder t u true = Several HolderStep t u
  InHolder t u false = (u ≡ t) × ((w : Tree) → InsideOf E t w → ⊥)

  abbrev Below : Tree → Tree → Type 0
  Below = BelowStep E (over o absent ▸ none) way.Statements

  step_row : (ts : Trees) (u : Tree) → Below (listed ts) u → HolderStep (over o (listed ts)) (over o u) × IsList u
  step_row ts u m =
      let k = list_way m.end m.place m.way (m.below refl) in
      let this : ts ≡ append k.pre (plug k.rest m.read ▸ k.post) = ap children (m.shape ∙ ap (λ q. plug q m.read) k.is) ∙ join_append k.pre (plug k.rest m.read) k.post in
      let that : u ≡ listed (append k.pre (plug k.rest m.put ▸ k.post)) = m.written ∙ ap (λ q. plug q m.put) k.is ∙ ap listed (join_append k.pre (plug k.rest m.put) k.post) in
      let around : append (over o absent ▸ none) (above m.place) ≡ (over o absent ▸ (listed (append k.pre (absent ▸ k.post)) ▸ above k.rest)) = ap (λ q. over o absent ▸ above q) k.is ∙ ap (λ us. over o absent ▸ (listed us ▸ above k.rest)) (join_append k.pre absent k.post) in (
        record {
          row = record {
            holder = o;
            first = k.pre;
            place = k.rest;
            last = k.post;
            end = m.end;
            read = m.read;
            put = m.put;
            row = subst (λ us. E us m.end m.read m.put) around m.row;
            there = k.there;
            shape = ap (λ us. over o (listed us)) this;
            written = ap (over o) that;
          };
          same = refl;
        },
        that ∙ sym (ap (λ l. listed (children l)) that),
      )

  step_on : (t u : Tree) → IsList t → Below t u → HolderStep (over o t) (over o u) × IsList u
  step_on t u is m =
      let (s, l) = step_row (children t) u (subst (λ v. Below v u) is m) in
      (subst (λ v. HolderStep (over o v) (over o u)) (sym is) s, l)

  read_below : (ts : Trees) (m : Tree) → BelowWalked E (over o absent ▸ none) way.Statements (listed ts) m false → (w : Tree) → InsideOf E (over o (listed ts)) w → ⊥
  read_below ts m r w row =
      let these = listed (append row.first (plug row.place row.read ▸ row.last)) in
      let outside : over o absent ≡ over row.holder absent = sym (emptied_over o (listed ts)) ∙ ap emptied row.shape ∙ emptied_over row.holder these in
      let list : listed ts ≡ these = sym (list_over o (listed ts)) ∙ ap list_in row.shape ∙ list_over row.holder these in
      let joined : these ≡ plug (inside shape.Listed [] 0 row.first row.place row.last) row.read = ap listed (sym (join_append row.first (plug row.place row.read) row.last)) in
      let around : (over row.holder absent ▸ (listed (append row.first (absent ▸ row.last)) ▸ above row.place)) ≡ append (over o absent ▸ none) (above (inside shape.Listed [] 0 row.first row.place row.last)) =
      λ j. sym outside j ▸ (listed (sym (join_append row.first absent row.last) j) ▸ above row.place) in
      r.1 shape.Listed [] 0 row.first row.place row.last row.end row.read row.put row.there (list ∙ joined) (subst (λ us. E us row.end row.read row.put) around row.row)

  held : (ts : Trees) (m : Tree) (c : Bool) → BelowWalked E (over o absent ▸ none) way.Statements (listed ts) m c → InHolder (over o (listed ts)) (over o m) c
  held ts m true r = several_over Below HolderStep IsList (over o) step_on (listed ts) m refl r
  held ts m false r = (ap (over o) r.0, read_below ts m r)

  of_body : (ts : Trees) (u : Tree) (c : Bool) → (m : Tree) × (u ≡ over o m) × BelowWalked E (over o absent ▸ none) way.Statements (listed ts) m c → InHolder (over o (listed ts)) u c
  of_body ts u c (m, is, r) = subst (λ v. InHolder (over o (listed ts)) v c) (sym is) (held ts m c r)

-- ---- as steps of the rule

contract : (E : Ends) (light : EndsLighten E) (p : Position) (t u : Tree) (row : InsideOf E t u) → stands_at row.holder p ≡ true → InsideAt E p t u
contract E light p t u row e = record { row = row; stands = e; lighter = light p t u row e }

module _ (E : Ends) (p : Position) (R : Tree → Tree → Type 0) (read : (t u : Tree) → R t u → InsideAt E p t u) where
  reached : (t u : Tree) → Chain R t u → Reaches (InsideAt E) p t u
  reached _ _ (still t) = done p t
  reached _ _ (further t v u c r) = reaches_trans (InsideAt E) (reached t v c) (more p v u u (rewriting.here p v u (read v u r)) (done p u))

  moved : (t u : Tree) → Several R t u → Moves (InsideAt E) p t u
  moved t u m = record { next = m.next; step = rewriting.here p t m.next (read t m.next m.first); others = reached m.next u m.others }

applied : (E : Ends) (light : EndsLighten E) (o : Holder) (p : Position) → stands_at o p ≡ true → (t u : Tree) (c : Bool) → InHolder E o t u c → AppliedAt E p t u c
applied E light o p e t u true r = moved E p (HolderStep E o) (λ v w s. contract E light p v w s.row (ap (λ h. stands_at h p) s.same ∙ e)) t u r
applied E light o p e t u false r = (r.0, λ w row f. r.1 w row)

-- ---- each holder

pub of_arrow : (E : Ends) (light : EndsLighten E) (t u : Tree) (c : Bool) → has_statements t ≡ true → UnderBody E t 1 u c → (s : Seat) → AppliedAt E (Expr s) t u c
of_arrow E light t u c h r s =
    let (directives, is) = arrow_is t h in
    let o = Arrow directives (number_of t) (children (part t 0)) in
    let ts = children (part (part t 1) 0) in
    subst (λ v. AppliedAt E (Expr s) v u c) (sym is) (applied E light o (Expr s) refl (over o (listed ts)) u c (of_body E o ts u c (subst (λ v. UnderBody E v 1 u c) is r)))

of_module : (E : Ends) (light : EndsLighten E) (t u : Tree) (c : Bool) → is_module t ≡ true → UnderList E t u c → AppliedAt E Elsewhere t u c
of_module E light t u c h r =
    let (directives, is) = module_is t h in
    let o = Module directives in
    let ts = children (part t 0) in
    subst (λ v. AppliedAt E Elsewhere v u c) (sym is) (applied E light o Elsewhere refl (over o (listed ts)) u c (of_body E o ts u c (subst (λ v. UnderList E v u c) is r)))

of_static : (E : Ends) (light : EndsLighten E) (t u : Tree) (c : Bool) → is_static_block t ≡ true → UnderList E t u c → AppliedAt E Elsewhere t u c
of_static E light t u c h r =
    let is = static_is t h in
    let o = Static (number_of t) in
    let ts = children (part t 0) in
    subst (λ v. AppliedAt E Elsewhere v u c) (sym is) (applied E light o Elsewhere refl (over o (listed ts)) u c (of_body E o ts u c (subst (λ v. UnderList E v u c) is r)))

pub of_holder : (E : Ends) (light : EndsLighten E) (t u : Tree) (c : Bool) → holds_list t ≡ true → UnderList E t u c → AppliedAt E Elsewhere t u c
of_holder E light t u c h r = by (is_module t) refl
  where
    by : (b : Bool) → is_module t ≡ b → AppliedAt E Elsewhere t u c
    by true e = of_module E light t u c e r
    by false e = of_static E light t u c (sym (ap (λ b. b || is_static_block t) e) ∙ h) r

as_function : (E : Ends) (o : Holder) → is_function_holder o ≡ true → (t u : Tree) (c : Bool) → InHolder E o t u c → InFunction E t u c
as_function E o e t u true r = several_over (HolderStep E o) (FunctionStep E) (λ z. Unit {0}) (λ z. z) (λ v w z s. (record { row = s.row; function = ap is_function_holder s.same ∙ e }, tt)) t u tt r
as_function E o e t u false r = (r.0, λ w s. r.1 w s.row)

pub of_function : (E : Ends) (t u : Tree) (c : Bool) → is_function t ≡ true → UnderBody E t 2 u c → InFunction E t u c
of_function E t u c h r =
    let (d, g, directives, is) = function_is t h in
    let o = Function d g directives (number_of t) (part t 0) (children (part t 1)) in
    let ts = children (part (part t 2) 0) in
    subst (λ v. InFunction E v u c) (sym is) (as_function E o refl (over o (listed ts)) u c (of_body E o ts u c (subst (λ v. UnderBody E v 2 u c) is r)))

function_read : (o : Holder) (l : Trees) → is_function_holder o ≡ true → is_function (over o (listed l)) ≡ true
function_read (Function d g directives n name ps) l e = refl
function_read (Arrow directives n ps) l e = absurd (true≢false (sym e))
function_read (Module directives) l e = absurd (true≢false (sym e))
function_read (Static n) l e = absurd (true≢false (sym e))

pub no_function_here : (E : Ends) (t : Tree) → is_function t ≡ false → InFunction E t t false
no_function_here E t e =
    (refl, λ w s. let row = s.row in true≢false (sym (function_read row.holder (append row.first (plug row.place row.read ▸ row.last)) s.function) ∙ sym (ap is_function row.shape) ∙ e))

-- ---- where a function stands

module _ (E : Ends) (light : EndsLighten E) (p : Position) (t : Tree) (f : (o : Holder) → is_function_holder o ≡ true → stands_at o p ≡ true) (g : (o : Holder) (l : Trees) → t ≡ over o (listed l) → stands_at o p ≡ true → is_function_holder o ≡ true) where
  by_function : (u : Tree) (c : Bool) → InFunction E t u c → AppliedAt E p t u c
  by_function u true r = moved E p (FunctionStep E) (λ v w s. contract E light p v w s.row (f s.row.holder s.function)) t u r
  by_function u false r = (r.0, λ w row e. r.1 w (record { row = row; function = g row.holder (append row.first (plug row.place row.read ▸ row.last)) row.shape e }))

in_statements : (q : StmtSeat) (o : Holder) → stands_at o (Stmt q) ≡ is_function_holder o
in_statements q (Arrow directives n ps) = refl
in_statements q (Function d g directives n name ps) = refl
in_statements q (Module directives) = refl
in_statements q (Static n) = refl

in_methods : (o : Holder) → stands_at o Method ≡ is_function_holder o
in_methods (Arrow directives n ps) = refl
in_methods (Function d g directives n name ps) = refl
in_methods (Module directives) = refl
in_methods (Static n) = refl

in_expressions : (s : Seat) (o : Holder) → is_function_holder o ≡ true → stands_at o (Expr s) ≡ true
in_expressions s (Function d g directives n name ps) e = refl
in_expressions s (Arrow directives n ps) e = absurd (true≢false (sym e))
in_expressions s (Module directives) e = absurd (true≢false (sym e))
in_expressions s (Static n) e = absurd (true≢false (sym e))

no_arrow_there : (s : Seat) (t : Tree) → has_statements t ≡ false → (o : Holder) (l : Trees) → t ≡ over o (listed l) → stands_at o (Expr s) ≡ true → is_function_holder o ≡ true
no_arrow_there s t f (Arrow directives n ps) l e h = absurd (true≢false (sym (ap has_statements e) ∙ f))
no_arrow_there s t f (Function d g directives n name ps) l e h = refl
no_arrow_there s t f (Module directives) l e h = absurd (true≢false (sym h))
no_arrow_there s t f (Static n) l e h = absurd (true≢false (sym h))

in_others : (o : Holder) → is_function_holder o ≡ true → stands_at o Elsewhere ≡ true
in_others (Function d g directives n name ps) e = refl
in_others (Arrow directives n ps) e = absurd (true≢false (sym e))
in_others (Module directives) e = absurd (true≢false (sym e))
in_others (Static n) e = absurd (true≢false (sym e))

no_list_there : (t : Tree) → holds_list t ≡ false → (o : Holder) (l : Trees) → t ≡ over o (listed l) → stands_at o Elsewhere ≡ true → is_function_holder o ≡ true
no_list_there t f (Arrow directives n ps) l e h = absurd (true≢false (sym h))
no_list_there t f (Function d g directives n name ps) l e h = refl
no_list_there t f (Module directives) l e h = absurd (true≢false (sym (ap holds_list e) ∙ f))
no_list_there t f (Static n) l e h = absurd (true≢false (sym (ap holds_list e) ∙ f))

pub as_statement : (E : Ends) (light : EndsLighten E) (t u : Tree) (c : Bool) → InFunction E t u c → (q : StmtSeat) → AppliedAt E (Stmt q) t u c
as_statement E light t u c r q = by_function E light (Stmt q) t (λ o e. in_statements q o ∙ e) (λ o l e h. sym (in_statements q o) ∙ h) u c r

pub as_method : (E : Ends) (light : EndsLighten E) (t u : Tree) (c : Bool) → InFunction E t u c → AppliedAt E Method t u c
as_method E light t u c r = by_function E light Method t (λ o e. in_methods o ∙ e) (λ o l e h. sym (in_methods o) ∙ h) u c r

pub as_expression : (E : Ends) (light : EndsLighten E) (t u : Tree) (c : Bool) → has_statements t ≡ false → InFunction E t u c → (s : Seat) → AppliedAt E (Expr s) t u c
as_expression E light t u c f r s = by_function E light (Expr s) t (in_expressions s) (no_arrow_there s t f) u c r

pub as_exported : (E : Ends) (light : EndsLighten E) (t u : Tree) (c : Bool) → holds_list t ≡ false → InFunction E t u c → AppliedAt E Elsewhere t u c
as_exported E light t u c f r = by_function E light Elsewhere t in_others (no_list_there t f) u c r

-- ---- any other place

stands_nowhere : (o : Holder) (p : Position) → ((q : StmtSeat) → p ≡ Stmt q → ⊥) → ((s : Seat) → p ≡ Expr s → ⊥) → (p ≡ Method → ⊥) → (p ≡ Elsewhere → ⊥) → stands_at o p ≡ true → ⊥
stands_nowhere o (Stmt q) f g h i e = f q refl
stands_nowhere o (Expr s) f g h i e = g s refl
stands_nowhere o Method f g h i e = h refl
stands_nowhere o Elsewhere f g h i e = i refl
stands_nowhere (Arrow directives n ps) p f g h i e = true≢false (sym e)
stands_nowhere (Function d b directives n name ps) p f g h i e = true≢false (sym e)
stands_nowhere (Module directives) p f g h i e = true≢false (sym e)
stands_nowhere (Static n) p f g h i e = true≢false (sym e)

pub nowhere : (E : Ends) (p : Position) (t : Tree) → ((q : StmtSeat) → p ≡ Stmt q → ⊥) → ((s : Seat) → p ≡ Expr s → ⊥) → (p ≡ Method → ⊥) → (p ≡ Elsewhere → ⊥) → AppliedAt E p t t false
nowhere E p t f g h i = (refl, λ w row e. stands_nowhere row.holder p f g h i e)

-- ---- the context

pub known : (c : TraverseCtx) (p : Position) (t u : Tree) (b : Bool) → AppliedAt (unused_ends (allowed c)) p t u b → (o : CompressOptions) (q : Tree) → Knows c o q → rule.Applied (Gives o q) (Rests o q) p t u b
known c p t u b r o q k = subst (λ W. AppliedAt (unused_ends W) p t u b) (told c o q k) r
