-- A list that loses a name, in what holds it: a step of a child is one of the node.
use Rattle.std.specs.Prelude.{ℕ, zero, suc, ◌≡◌, ◌<◌, ◌⊎◌, ◌||◌, ◌&&◌, not, refl, Bool, true, false, List, [], ◌∷◌, Some, None}
use Rattle.std.proofs.Common.{ap, ◌∙◌, sym, subst, subst₂, inl, inr, true≢false, arith}
use Rattle.std.proofs.lemmas.Bool.{and_parts}
use Rattle.mini_model.specs.declared.kind.VariableDeclarationKind.{VariableDeclarationKind}
use Rattle.mini_model.specs.declared.kind.VariableDeclarationKind.TheVariants.{Var, Let, Const}
use Rattle.mini_model.specs.declared.name.Name.{Name}
use Rattle.mini_model.specs.declared.shape.Shape.{Shape}
use Rattle.mini_model.specs.Tree.{Tree, Trees, node, none, ◌▸◌, absent, listed, count, children, shape_of, child_or_absent}
use Rattle.mini_model.specs.Paths.{append}
use Rattle.mini_laws.specs.Naming as kinds
use Rattle.mini_laws.specs.Path.{Path, here, inside, join, plug}
use Rattle.mini_laws.specs.ScopeList.{has_eval, any_has_eval}
use Rattle.mini_node.specs.Children.{part, with_part, with_child, first_children, rest_children, is_bare, is_nameless}
use Rattle.mini_node.specs.Kinds.{is_listed, is_listed_shape}
use Rattle.mini_node.specs.Made.{listed_is}
use Rattle.mini_node.specs.Walks.{with_same, append_none}
use Rattle.mini_rows.specs.declared.inside.Way.{Way}
use Rattle.mini_rows.specs.declared.inside.Way.TheVariants as way
use Rattle.mini_rows.specs.Declarations.{binding, declarator}
use Rattle.mini_rows.specs.Inside.{is_way_to, way_in, above, declares_var, ListEnd, HeldEnd, HeadEnd, HeadNextEnd, EndRow, Ends, unused_ends}
use Rattle.mini_rows.specs.Lists.{block, declaration, declares_nothing}
use Rattle.mini_rows.specs.Unused.{resolved, names, any_names, declared_among, head_left, is_idle, lets_go, Row71Next, BlockRow}
use Rattle.mini_rows.proofs.InsideEnds.{single_left}
use Rattle.mini_rows.proofs.InsideLoses.{no_way, ways_same}
use Rattle.mini_rows.specs.Switches.{Liberties}
use Rattle.mini_unused.specs.Chains.{Several, still}
use Rattle.mini_unused.specs.RemoveUnusedDeclaration.{open_in, declares_list, declares_name, is_lexical_shape, is_var, is_unused, UnusedOf}
use Rattle.mini_unused.specs.Calls.{Within}
use Rattle.mini_unused.specs.SubstituteNext.{NextGone}
use Rattle.mini_unused.specs.SubstituteSingleUse.{Gone, Removed}
use Rattle.mini_unused.proofs.Chains.{chain_joined, several_over}
use Rattle.mini_unused.proofs.Chains as chains
use Rattle.mini_unused.proofs.Unused.{no_outside, kind, first, last, init, let_there, one, goes, statement_is, unused, Read, declarator_within}
use Rattle.mini_unused.proofs.Unused.{unused_there as read_there}
use Rattle.mini_inside.specs.Holding.{is_idle_at, head_without}
use Rattle.mini_inside.proofs.Heads.{head_left_is, missed_declarator}
use Rattle.mini_inside.proofs.Holders.{left_listed, put_back, unused_goes}
use Rattle.mini_inside.proofs.FurtherVars.{unused_back, var_next, var_row, no_var_row, no_var_next}
use Rattle.mini_inside.specs.Further.{pushed, InStep, BelowStep, NothingAt, Walked, HereWalked, BelowWalked, WalkedAt, ChildWalked, HeadingFound}

-- ---- lists of nodes

pub join_append : (pre : Trees) (c : Tree) (post : Trees) → join pre c post ≡ append pre (c ▸ post)
join_append none c post = refl
join_append (t ▸ pre) c post = ap (λ ts. t ▸ ts) (join_append pre c post)

append_more : (a : Trees) (t : Tree) (ts : Trees) → append (append a (t ▸ none)) ts ≡ append a (t ▸ ts)
append_more none t ts = refl
append_more (u ▸ a) t ts = ap (λ us. u ▸ us) (append_more a t ts)

with_joined : (ts : Trees) (i : ℕ) (v : Tree) → i < count ts → with_child ts i v ≡ join (first_children i ts) v (rest_children (suc i) ts)
with_joined none i v h = absurd (omega (arith, h))
with_joined (t ▸ none) zero v h = refl
with_joined (t ▸ (u ▸ ts)) zero v h = refl
with_joined (t ▸ ts) (suc i) v h = ap (λ us. t ▸ us) (with_joined ts i v (omega (arith, h)))

count_first : (ts : Trees) (i : ℕ) → i < count ts → count (first_children i ts) ≡ i
count_first none i h = absurd (omega (arith, h))
count_first (t ▸ ts) zero h = refl
count_first (t ▸ ts) (suc i) h = ap suc (count_first ts i (omega (arith, h)))

joined_child : (pre : Trees) (c : Tree) (post : Trees) → child_or_absent (join pre c post) (count pre) ≡ c
joined_child none c post = refl
joined_child (t ▸ pre) c post = joined_child pre c post

joined_with : (pre : Trees) (c d : Tree) (post : Trees) → with_child (join pre c post) (count pre) d ≡ join pre d post
joined_with none c d post = refl
joined_with (t ▸ pre) c d post = ap (λ ts. t ▸ ts) (joined_with pre c d post)

pub joined_within : (pre : Trees) (c : Tree) (post : Trees) → count pre < count (join pre c post)
joined_within none c post = omega arith
joined_within (t ▸ pre) c post = let rest = joined_within pre c post in omega (arith, rest)

-- ---- some steps, one after another

pub several_then : (R : Tree → Tree → Type 0) (t u v : Tree) → Several R t u → Several R u v → Several R t v
several_then R t u v a b = record { next = a.next; first = a.first; others = chain_joined R a.next u v a.others (chain_joined R u b.next v (chains.chain_once R u b.next b.first) b.others) }

-- ---- a step of a child

module _ (E : Ends) (a : Trees) (s : Way) where
  abbrev hole : Shape → Trees → ℕ → Tree
  hole h ts i = node h [] 0 (with_child ts i absent)

  lifted : (h : Shape) (ts : Trees) (i : ℕ) (r : Way) → i < count ts → way_in s h i ≡ Some r → (v w : Tree) → InStep E (append a (hole h ts i ▸ none)) r v w → BelowStep E a s (node h [] 0 (with_child ts i v)) (node h [] 0 (with_child ts i w))
  lifted h ts i r k e v w m =
      let pre = first_children i ts in
      let post = rest_children (suc i) ts in
      let over = λ (c : Tree). ap (node h [] 0) (with_joined ts i c k) in
      let around : append (append a (hole h ts i ▸ none)) (above m.place) ≡ append a (above (inside h [] 0 pre m.place post)) = append_more a (hole h ts i) (above m.place) ∙ ap (λ u. append a (u ▸ above m.place)) (over absent) in
      record {
        place = inside h [] 0 pre m.place post;
        end = m.end;
        read = m.read;
        put = m.put;
        way = ap (λ n. is_way_to m.end (way_in s h n) m.place) (count_first ts i k) ∙ ap (λ o. is_way_to m.end o m.place) e ∙ m.way;
        row = subst (λ us. E us m.end m.read m.put) around m.row;
        shape = ap (λ c. node h [] 0 (with_child ts i c)) m.shape ∙ over (plug m.place m.read);
        written = ap (λ c. node h [] 0 (with_child ts i c)) m.written ∙ over (plug m.place m.put);
        below = λ z. refl;
      }

  steps_lifted : (h : Shape) (ts : Trees) (i : ℕ) (r : Way) → i < count ts → way_in s h i ≡ Some r → (u : Tree) → Several (InStep E (append a (hole h ts i ▸ none)) r) (child_or_absent ts i) u → Several (BelowStep E a s) (node h [] 0 ts) (node h [] 0 (with_child ts i u))
  steps_lifted h ts i r k e u m =
      subst (λ vs. Several (BelowStep E a s) (node h [] 0 vs) (node h [] 0 (with_child ts i u))) (with_same ts i)
      (several_over (InStep E (append a (hole h ts i ▸ none)) r) (BelowStep E a s) (λ v. Unit {0}) (λ v. node h [] 0 (with_child ts i v)) (λ v w z q. (lifted h ts i r k e v w q, tt)) (child_or_absent ts i) u tt m)

  -- what the way doesn't go into
  nothing_lifted : (h : Shape) (ts : Trees) (i : ℕ) (r : Way) → way_in s h i ≡ Some r → ((k : Path) → NothingAt E (append a (hole h ts i ▸ none)) r (child_or_absent ts i) k)
      → (g : Shape) (xs : List Name) (n : ℕ) (pre : Trees) (k : Path) (post : Trees) → count pre ≡ i → NothingAt E a s (node h [] 0 ts) (inside g xs n pre k post)
  nothing_lifted h ts i r e f g [] zero pre k post q end read put way is row =
      let these : ts ≡ join pre (plug k read) post = ap children is in
      let shaped : h ≡ g = ap shape_of is in
      let at : i ≡ count pre = sym q in
      let there : child_or_absent ts i ≡ plug k read = (λ j. child_or_absent (these j) (at j)) ∙ joined_child pre (plug k read) post in
      let emptied : hole h ts i ≡ node g [] 0 (join pre absent post) = (λ j. node (shaped j) [] 0 (with_child (these j) (at j) absent)) ∙ ap (node g [] 0) (joined_with pre (plug k read) absent post) in
      let asked : way_in s h i ≡ way_in s g (count pre) = λ j. way_in s (shaped j) (at j) in
      let route : is_way_to end (Some r) k ≡ true = ap (λ o. is_way_to end o k) (sym e ∙ asked) ∙ way in
      let around : append a (above (inside g [] 0 pre k post)) ≡ append (append a (hole h ts i ▸ none)) (above k) = sym (append_more a (hole h ts i) (above k) ∙ ap (λ u. append a (u ▸ above k)) emptied) in
      f k end read put route there (subst (λ us. E us end read put) around row)
  nothing_lifted h ts i r e f g [] (suc n) pre k post q end read put way is row = absurd (true≢false (sym way))
  nothing_lifted h ts i r e f g (x ∷ xs) n pre k post q end read put way is row = absurd (true≢false (sym way))

  no_way_in : (h : Shape) (ts : Trees) (i : ℕ) → way_in s h i ≡ None → (g : Shape) (xs : List Name) (n : ℕ) (pre : Trees) (k : Path) (post : Trees) → count pre ≡ i → NothingAt E a s (node h [] 0 ts) (inside g xs n pre k post)
  no_way_in h ts i e g [] zero pre k post q end read put way is row =
      let shaped : h ≡ g = ap shape_of is in
      let at : i ≡ count pre = sym q in
      let asked : way_in s h i ≡ way_in s g (count pre) = λ j. way_in s (shaped j) (at j) in
      absurd (no_way end k (ap (λ o. is_way_to end o k) (sym e ∙ asked) ∙ way))
  no_way_in h ts i e g [] (suc n) pre k post q end read put way is row = absurd (true≢false (sym way))
  no_way_in h ts i e g (x ∷ xs) n pre k post q end read put way is row = absurd (true≢false (sym way))

  -- ---- a node without a name and a number

  pub at_none : (t : Tree) (i : ℕ) → is_nameless t ≡ true → way_in s (shape_of t) i ≡ None → WalkedAt E a s t i t false
  at_none (node h [] zero ts) i z e = (refl, no_way_in h ts i e)
  at_none (node h [] (suc n) ts) i z e = absurd (true≢false (sym z))
  at_none (node h (x ∷ xs) n ts) i z e = absurd (true≢false (sym z))

  pub at_some : (t : Tree) (i : ℕ) (u : Tree) (r : Way) (c : Bool) → is_nameless t ≡ true → i < count (children t) → way_in s (shape_of t) i ≡ Some r → ChildWalked E a r t i u c → WalkedAt E a s t i u c
  at_some (node h [] zero ts) i u r true z k e (v, is, m) = (v, is, subst (Several (BelowStep E a s) (node h [] 0 ts)) (sym is) (steps_lifted h ts i r k e v m))
  at_some (node h [] zero ts) i u r false z k e (v, is, m) = (is ∙ ap (λ c. node h [] 0 (with_child ts i c)) m.0 ∙ ap (node h [] 0) (with_same ts i), nothing_lifted h ts i r e m.1)
  at_some (node h [] (suc n) ts) i u r c z k e m = absurd (true≢false (sym z))
  at_some (node h (x ∷ xs) n ts) i u r c z k e m = absurd (true≢false (sym z))

  -- ---- the end itself

  weakened : (t u : Tree) → BelowStep E a s t u → InStep E a s t u
  weakened t u m = record { place = m.place; end = m.end; read = m.read; put = m.put; way = m.way; row = m.row; shape = m.shape; written = m.written; below = λ z. absurd (true≢false (sym z)) }

  all_weakened : (t u : Tree) → Several (BelowStep E a s) t u → Several (InStep E a s) t u
  all_weakened t u x = several_over (BelowStep E a s) (InStep E a s) (λ z. Unit {0}) (λ z. z) (λ z w q r. (weakened z w r, tt)) t u tt x

  -- first what stands in it, and then the node itself
  pub walked : (t u v : Tree) (c d : Bool) → BelowWalked E a s t u c → HereWalked E a s u v d → Walked E a s t v (c || d)
  walked t u v true true x y = several_then (InStep E a s) t u v (all_weakened t u x) y
  walked t u v true false x y = subst (Several (InStep E a s) t) (sym y.0) (all_weakened t u x)
  walked t u v false true x y = subst (λ z. Several (InStep E a s) z v) x.0 y
  walked t u v false false x y = (y.0 ∙ x.0, by)
    where
      by : (k : Path) → NothingAt E a s t k
      by here = subst (λ z. NothingAt E a s z here) x.0 y.1
      by (inside h xs n pre k post) = x.1 h xs n pre k post

mentions : (a : Trees) (x : _) → names x (listed a) ≡ any_names x a
mentions a x = refl

evals : (a : Trees) → has_eval (listed a) ≡ any_has_eval a
unfolding has_eval
evals a = refl

-- nothing is read where no end is
pub no_end : (E : Ends) (a : Trees) (s : Way) (t : Tree) → ((read put : Tree) → t ≡ read → E a s read put → ⊥) → NothingAt E a s t here
no_end E a s t f end read put way is row =
    let same = ways_same end s way in
    f read put is (subst (λ us. E us s read put) (append_none a) (subst (λ z. E (append a none) z read put) same row))

-- what stays a list
abbrev IsList : Tree → Type 0
IsList t = t ≡ listed (children t)

module _ (W : Liberties) (a : Trees) where
  gone_here : (ts : Trees) (u : Tree) → Gone W (listed a) (listed ts) u → InStep (unused_ends W) a way.Statements (listed ts) u × IsList u
  gone_here ts u m =
      let (row, var) = var_row W a ts u m in
      let is = left_listed W (listed a) ts u m in (
        record {
          place = here;
          end = way.Statements;
          read = listed ts;
          put = u;
          way = refl;
          row = subst (λ us. ListEnd W us (listed ts) u) (sym (append_none a)) (record { list = ts; left = children u; row = row; var = var; shape = refl; written = is });
          shape = refl;
          written = refl;
          below = λ z. absurd (true≢false (sym z));
        },
        is,
      )

  here_gone : (t u : Tree) → IsList t → Gone W (listed a) t u → InStep (unused_ends W) a way.Statements t u × IsList u
  here_gone t u is m =
      let (step, list) = gone_here (children t) u (subst (λ v. Gone W (listed a) v u) is m) in
      (subst (λ v. InStep (unused_ends W) a way.Statements v u) (sym is) step, list)

  list_rests : (ts : Trees) (m : Tree) → Removed W (listed a) (listed ts) m false → (read put : Tree) → listed ts ≡ read → ListEnd W a read put → ⊥
  list_rests ts m r read put is row = no_var_row W a row.list m (subst (λ us. Removed W (listed a) (listed us) m false) (ap children (is ∙ row.shape)) r) (block (listed a ▸ row.left)) row.row row.var

  here_removed : (ts : Trees) (m : Tree) (c : Bool) → Removed W (listed a) (listed ts) m c → HereWalked (unused_ends W) a way.Statements (listed ts) m c
  here_removed ts m true r = several_over (Gone W (listed a)) (InStep (unused_ends W) a way.Statements) IsList (λ z. z) here_gone (listed ts) m refl r
  here_removed ts m false r = (r.0, no_end (unused_ends W) a way.Statements (listed ts) (list_rests ts m r))

  -- ---- a `var` in no list

  -- what stays a list of one statement
  abbrev IsOne : Tree → Type 0
  IsOne v = v ≡ listed (part v 0 ▸ none)

  -- the row that a `var` behind that list is lost by
  abbrev VarRow : Trees → Trees → Type 0
  VarRow ts us = (r : BlockRow W (block (listed a ▸ ts)) (block (listed a ▸ us))) × (declares_var r ≡ true)

  one_gone : (t u : Tree) → Gone W (listed a) (listed (t ▸ none)) u → InStep (unused_ends W) a way.Held t (part u 0) × IsOne u
  one_gone t u m =
      let (row, var) = var_row W a (t ▸ none) u m in
      let is = left_listed W (listed a) (t ▸ none) u m in
      let (v, one) = single_left W (listed a) t (children u) refl row var in
      let whole : u ≡ listed (v ▸ none) = is ∙ ap listed one in
      let first : part u 0 ≡ v = ap (λ z. part z 0) whole in
      let this : VarRow (t ▸ none) (part u 0 ▸ none) = subst (VarRow (t ▸ none)) (one ∙ ap (λ z. z ▸ none) (sym first)) (row, var) in (
        record {
          place = here;
          end = way.Held;
          read = t;
          put = part u 0;
          way = refl;
          row = subst (λ us. HeldEnd W us t (part u 0)) (sym (append_none a)) (record { row = this.0; var = this.1 });
          shape = refl;
          written = refl;
          below = λ z. absurd (true≢false (sym z));
        },
        whole ∙ ap (λ z. listed (z ▸ none)) (sym first),
      )

  held_gone : (v u : Tree) → IsOne v → Gone W (listed a) v u → InStep (unused_ends W) a way.Held (part v 0) (part u 0) × IsOne u
  held_gone v u is m = one_gone (part v 0) u (subst (λ z. Gone W (listed a) z u) is m)

  held_rests : (t m : Tree) → Removed W (listed a) (listed (t ▸ none)) m false → (read put : Tree) → t ≡ read → HeldEnd W a read put → ⊥
  held_rests t m r read put is row = no_var_row W a (read ▸ none) m (subst (λ z. Removed W (listed a) (listed (z ▸ none)) m false) is r) (block (listed a ▸ (put ▸ none))) row.row row.var

  held_removed : (t m : Tree) (c : Bool) → Removed W (listed a) (listed (t ▸ none)) m c → HereWalked (unused_ends W) a way.Held t (part m 0) c
  held_removed t m true r = several_over (Gone W (listed a)) (InStep (unused_ends W) a way.Held) IsOne (λ z. part z 0) held_gone (listed (t ▸ none)) m refl r
  held_removed t m false r = (ap (λ z. part z 0) r.0, no_end (unused_ends W) a way.Held t (held_rests t m r))

not_true : (b : Bool) → not b ≡ true → b ≡ false
not_true true e = absurd (true≢false (sym e))
not_true false e = refl

-- above it stands a list of nodes
pub here_by : (W : Liberties) (o t m : Tree) (c : Bool) → is_listed o ≡ true → is_listed t ≡ true → Removed (open_in o W) o t m c → HereWalked (unused_ends W) (children o) way.Statements t m c
here_by W o t m c e list r =
    let over = listed_is o e in
    let this = listed_is t list in
    subst (λ v. HereWalked (unused_ends W) (children o) way.Statements v m c) (sym this)
    (here_removed W (children o) (children t) m c (subst₂ (λ z v. Removed (open_in z W) z v m c) over this r))

pub no_list_here : (W : Liberties) (a : Trees) (t : Tree) → is_listed t ≡ false → HereWalked (unused_ends W) a way.Statements t t false
no_list_here W a t f = (refl, no_end (unused_ends W) a way.Statements t (λ read put is row. true≢false (sym (ap is_listed (is ∙ row.shape)) ∙ f)))

pub held_by : (W : Liberties) (o t l m : Tree) (c : Bool) → is_listed o ≡ true → l ≡ listed (t ▸ none) → Removed (open_in o W) o l m c → (u : Tree) → u ≡ part m 0 → HereWalked (unused_ends W) (children o) way.Held t u c
held_by W o t l m c e f r u g =
    subst (λ z. HereWalked (unused_ends W) (children o) way.Held t z c) (sym g)
    (held_removed W (children o) t m c (subst₂ (λ z y. Removed (open_in z W) z y m c) (listed_is o e) f r))

-- what a row reads there is a `var`

var_there : (o t : Tree) (before : Trees) (k : VariableDeclarationKind) (ds after : Trees) → is_listed_shape (shape_of o) ≡ true → o ▸ (t ▸ none) ≡ append before (declaration k ds ▸ after) → not (kinds.is_lexical k) ≡ true → is_var t ≡ true
var_there o t none k ds after e f v = absurd (true≢false (sym e ∙ ap (λ us. is_listed_shape (shape_of (child_or_absent us 0))) f))
var_there o t (b ▸ none) k ds after e f v = ap (λ us. is_var (child_or_absent us 1)) f ∙ v
var_there o t (b ▸ (c ▸ before)) k ds after e f v = let n = ap count f in let m = joined_count before (declaration k ds) after in absurd (omega (arith, n, m))
  where
    joined_count : (us : Trees) (d : Tree) (vs : Trees) → 0 < count (append us (d ▸ vs))
    joined_count none d vs = omega arith
    joined_count (u ▸ us) d vs = let rest = joined_count us d vs in omega (arith, rest)

abbrev statements_of : Tree → Trees
statements_of t = children (part t 0)

row_of_var : (W : Liberties) (a : Trees) (t w : Tree) (r : BlockRow W (block (listed a ▸ (t ▸ none))) w) → declares_var r ≡ true → is_var t ≡ true
row_of_var W a t w (inl r) v = var_there (listed a) t r.before r.kind (declarator (binding (resolved r.spelling r.symbol)) r.init ▸ none) r.after refl (ap statements_of r.shape) v
row_of_var W a t w (inr (inl r)) v = var_there (listed a) t r.before r.kind (append r.first (declarator (binding (resolved r.spelling r.symbol)) r.init ▸ r.last)) r.after refl (ap statements_of r.shape) v
row_of_var W a t w (inr (inr (inl r))) v = var_there (listed a) t r.before r.kind (append r.first (declarator (binding (resolved r.spelling r.symbol)) r.init ▸ none)) (r.head ▸ r.after) refl (ap statements_of r.shape) v
row_of_var W a t w (inr (inr (inr r))) v = var_there (listed a) t r.before r.kind (append r.first (declarator (binding (resolved r.spelling r.symbol)) r.init ▸ (declarator r.binds r.value ▸ r.last))) r.after refl (ap statements_of r.shape) v

or_left : (a b : Bool) → (a || b) ≡ false → a ≡ false
or_left true b e = absurd (true≢false e)
or_left false b e = refl

pub no_held_here : (W : Liberties) (a : Trees) (t : Tree) → is_var t ≡ false → HereWalked (unused_ends W) a way.Held t t false
no_held_here W a t f = (refl, no_end (unused_ends W) a way.Held t by)
  where
    by : (read put : Tree) → t ≡ read → HeldEnd W a read put → ⊥
    by read put is row = true≢false (sym (row_of_var W a read (block (listed a ▸ (put ▸ none))) row.row row.var) ∙ ap is_var (sym is) ∙ f)

-- ---- what a `for` begins with

pub no_heading_here : (W : Liberties) (a : Trees) (t : Tree) → is_var t ≡ false → HereWalked (unused_ends W) a way.Head t t false
no_heading_here W a t f = (refl, no_end (unused_ends W) a way.Head t by)
  where
    by : (read put : Tree) → t ≡ read → HeadEnd W a read put ⊎ HeadNextEnd W a read put → ⊥
    by read put is (inl row) = true≢false (sym (ap is_var (is ∙ row.shape)) ∙ f)
    by read put is (inr row) = true≢false (sym (row_of_var W a read (block (listed a ▸ (put ▸ none))) (inr (inr (inr row.row))) row.var) ∙ ap is_var (sym is) ∙ f)

pub no_such_end : (W : Liberties) (a : Trees) (s : Way) (t : Tree) → ((read put : Tree) → EndRow s W a read put → ⊥) → HereWalked (unused_ends W) a s t t false
no_such_end W a s t f = (refl, no_end (unused_ends W) a s t (λ read put is row. f read put row))

module _ (W : Liberties) (a : Trees) (t : Tree) (v : is_var t ≡ true) where
  abbrev as_block : Tree
  as_block = block (listed a ▸ (t ▸ none))

  block_sees : has_eval as_block ≡ (has_eval (listed a) || has_eval (listed (t ▸ none)))
  unfolding has_eval
  block_sees = or_false (any_has_eval a || (has_eval t || false))
    where
      or_false : (b : Bool) → (b || false) ≡ b
      or_false true = refl
      or_false false = refl

  module _ (j : ℕ) (g : j < count (children (part t 0))) (u : is_unused W (listed a) (t ▸ none) 0 j ≡ true) (i : is_idle_at (part t 0) j ≡ true) (n : (has_eval (listed a) || has_eval (listed (t ▸ none))) ≡ false) where
    second : 1 < count (listed a ▸ (t ▸ none))
    second = omega arith

    test : is_unused W no_outside (listed a ▸ (t ▸ none)) 1 j ≡ true
    test = unused_goes W (listed a) a (t ▸ none) (mentions a) (evals a) 0 j u

    quiet : has_eval as_block ≡ false
    quiet = block_sees ∙ n

    kind_is : kind as_block 1 j refl second g W test quiet ≡ Var
    kind_is = only_var (kind as_block 1 j refl second g W test quiet) (ap (λ z. is_lexical_shape (shape_of z)) (sym (let_there as_block 1 j refl second g W test quiet)) ∙ not_true (is_lexical_shape (shape_of t)) (and_parts (declares_list t) (not (is_lexical_shape (shape_of t))) v).1)
      where
        only_var : (k : VariableDeclarationKind) → kinds.is_lexical k ≡ false → k ≡ Var
        only_var Var e = refl
        only_var Let e = absurd (true≢false e)
        only_var Const e = absurd (true≢false e)

    heading_row : HeadEnd W a t (head_without t j)
    heading_row =
        let s = one as_block 1 j refl second g W test quiet in
        let f = first as_block 1 j refl second g W test quiet in
        let l = last as_block 1 j refl second g W test quiet in
        let k = kind as_block 1 j refl second g W test quiet in
        let z = init as_block 1 j refl second g W test quiet in
        let x = resolved s.spelling s.symbol in
        let alone_there = unused as_block 1 j refl second g W test quiet in
        let is : t ≡ declared_among Var x f z l = statement_is as_block 1 j refl second g W test quiet ∙ ap (λ k. declared_among k x f z l) kind_is in
        record {
          first = f;
          spelling = s.spelling;
          symbol = s.symbol;
          init = z;
          last = l;
          goes = sym (ap (λ k. lets_go W.writable k s.symbol) kind_is) ∙ goes as_block 1 j refl second g W test quiet;
          idle = (and_parts (declares_name (part (part t 0) j)) (is_idle (part (part (part t 0) j) 1)) i).1;
          outside = or_left (any_names x a) false alone_there.earlier;
          declared_earlier = alone_there.declared_earlier;
          initial = alone_there.initial;
          declared_later = alone_there.declared_later;
          unseen = ap (λ z. has_eval (block (listed a ▸ (z ▸ none)))) (sym is) ∙ quiet;
          shape = is;
          written = ap (λ z. head_without z j) (let_there as_block 1 j refl second g W test quiet) ∙ head_left_is k (children (part t 0)) j g ∙ ap (λ k. head_left k (append f l)) kind_is;
        }

  -- a row of it is told by the tests

  abbrev named : {w : Tree} → HeadEnd W a t w → Name
  named r = resolved r.spelling r.symbol

  as_read : (w : Tree) (r : HeadEnd W a t w) → Read W (block (listed a ▸ (declared_among Var (named r) r.first r.init r.last ▸ none)))
  as_read w r = record {
    before = listed a ▸ none;
    kind = Var;
    first = r.first;
    spelling = r.spelling;
    symbol = r.symbol;
    init = r.init;
    last = r.last;
    after = none;
    lost = r.goes;
    goes = ap (λ b. b || (is_bare (listed (append r.first (declarator (binding (named r)) r.init ▸ r.last))) 1 && declares_nothing r.init)) r.idle;
    unused = record { earlier = ap (λ b. b || false) r.outside; declared_earlier = r.declared_earlier; initial = r.initial; declared_later = r.declared_later; later = refl; unseen = r.unseen };
    shape = refl;
  }

  no_unused : UnusedOf W (listed a) (t ▸ none) 0 None → (w : Tree) → HeadEnd W a t w → ⊥
  unfolding as_read
  no_unused n w r =
      let ts = listed a ▸ (declared_among Var (named r) r.first r.init r.last ▸ none) in
      let read = as_read w r in
      let here_told = read_there W (block ts) read in
      let inside = declarator_within W (block ts) read in
      let moved = subst (λ z. UnusedOf W (listed a) (z ▸ none) 0 None) r.shape n in
      true≢false (sym (unused_back W a (declared_among Var (named r) r.first r.init r.last ▸ none) 0 (count r.first) refl here_told) ∙ moved (count r.first) inside)

  seen_here : (has_eval (listed a) || has_eval (listed (t ▸ none))) ≡ true → (w : Tree) → HeadEnd W a t w → ⊥
  seen_here e w r = true≢false (sym e ∙ sym block_sees ∙ ap (λ z. has_eval (block (listed a ▸ (z ▸ none)))) r.shape ∙ r.unseen)

  missed_here : (j : ℕ) → UnusedOf W (listed a) (t ▸ none) 0 (Some j) → is_idle_at (part t 0) j ≡ false → (w : Tree) → HeadEnd W a t w → ⊥
  missed_here j n e w r =
      let d = declared_among Var (named r) r.first r.init r.last in
      let inside = subst (λ z. j < count (children (part z 0))) r.shape n.1 in
      let u = sym (ap (λ z. is_unused W (listed a) (z ▸ none) 0 j) r.shape) ∙ n.2 in
      missed_declarator false W (listed a) (named r) r.first r.init r.last (d ▸ none) 0 j inside u (sym (ap (λ z. is_idle_at (part z 0) j) r.shape) ∙ e) r.idle

-- as the code tells
pub found_none : (W : Liberties) (o t : Tree) → is_listed o ≡ true → is_var t ≡ true → UnusedOf (open_in o W) o (t ▸ none) 0 None → HeadingFound (open_in o W) o t None
found_none W o t e v n = no_unused (open_in o W) (children o) t v (subst (λ z. UnusedOf (open_in o W) z (t ▸ none) 0 None) (listed_is o e) n)

pub found_missed : (W : Liberties) (o t : Tree) (j : ℕ) → is_listed o ≡ true → is_var t ≡ true → UnusedOf (open_in o W) o (t ▸ none) 0 (Some j) → (is_idle_at (part t 0) j && not (has_eval o || has_eval (listed (t ▸ none)))) ≡ false → HeadingFound (open_in o W) o t None
found_missed W o t j e v n f = by (is_idle_at (part t 0) j) refl
  where
    here_found : UnusedOf (open_in o W) (listed (children o)) (t ▸ none) 0 (Some j)
    here_found = subst (λ z. UnusedOf (open_in o W) z (t ▸ none) 0 (Some j)) (listed_is o e) n

    seen_by : (b : Bool) → not b ≡ false → b ≡ true
    seen_by true e = refl
    seen_by false e = absurd (true≢false e)

    by : (b : Bool) → is_idle_at (part t 0) j ≡ b → HeadingFound (open_in o W) o t None
    by true i = seen_here (open_in o W) (children o) t v (sym (ap (λ z. has_eval z || has_eval (listed (t ▸ none))) (listed_is o e)) ∙ seen_by (has_eval o || has_eval (listed (t ▸ none))) (sym (ap (λ b. b && not (has_eval o || has_eval (listed (t ▸ none)))) i) ∙ f))
    by false i = missed_here (open_in o W) (children o) t v j here_found i

pub found_some : (W : Liberties) (o t : Tree) (j : ℕ) → UnusedOf (open_in o W) o (t ▸ none) 0 (Some j) → (is_idle_at (part t 0) j && not (has_eval o || has_eval (listed (t ▸ none)))) ≡ true → HeadingFound (open_in o W) o t (Some j)
found_some W o t j n f =
    let (i, q) = and_parts (is_idle_at (part t 0) j) (not (has_eval o || has_eval (listed (t ▸ none)))) f in
    (n, i, not_true (has_eval o || has_eval (listed (t ▸ none))) q)

pub heading_gone : (W : Liberties) (o t : Tree) (j : ℕ) → is_listed o ≡ true → is_var t ≡ true → HeadingFound (open_in o W) o t (Some j) → (u : Tree) → u ≡ head_without t j → HereWalked (unused_ends W) (children o) way.Head t u true
heading_gone W o t j e v h u f =
    let a = children o in
    let h2 = subst (λ z. HeadingFound (open_in z W) z t (Some j)) (listed_is o e) h in
    let row = heading_row W a t v j h2.0.1 h2.0.2 h2.1 h2.2 in
    let step : InStep (unused_ends W) a way.Head t (head_without t j) = record {
      place = here;
      end = way.Head;
      read = t;
      put = head_without t j;
      way = refl;
      row = subst (λ us. EndRow way.Head W us t (head_without t j)) (sym (append_none a)) (inl row);
      shape = refl;
      written = refl;
      below = λ z. absurd (true≢false (sym z));
    } in
    subst (λ z. Several (InStep (unused_ends W) a way.Head) t z) (sym f) (record { next = head_without t j; first = step; others = still (head_without t j) })

-- where the next declarator reads a name

one_goes : (W : Liberties) (a : Trees) (t m : Tree) → (has_eval (listed a) || has_eval (listed (t ▸ none))) ≡ false → NextGone W (listed a) (listed (t ▸ none)) m → InStep (unused_ends W) a way.Head t (part m 0)
one_goes W a t m calm g =
    let (row, var) = var_next W a (t ▸ none) m calm g in
    let (v, one) = single_left W (listed a) t (children m) refl (inr (inr (inr row))) var in
    let first : part m 0 ≡ v = ap (λ us. child_or_absent us 0) one in
    let this : NextRow (part m 0 ▸ none) = subst NextRow (one ∙ ap (λ z. z ▸ none) (sym first)) (row, var) in
    record {
      place = here;
      end = way.Head;
      read = t;
      put = part m 0;
      way = refl;
      row = subst (λ us. EndRow way.Head W us t (part m 0)) (sym (append_none a)) (inr (record { row = this.0; var = this.1 }));
      shape = refl;
      written = refl;
      below = λ z. absurd (true≢false (sym z));
    }
  where
    NextRow : Trees → Type 0
    NextRow us = (r : Row71Next W (block (listed a ▸ (t ▸ none))) (block (listed a ▸ us))) × (not (kinds.is_lexical r.kind) ≡ true)

heading_went : (W : Liberties) (a : Trees) (t m : Tree) (c : Bool) → HeadingFound W (listed a) t None → Within W (listed a) (listed (t ▸ none)) m c → HereWalked (unused_ends W) a way.Head t (part m 0) c
heading_went W a t m true h r = record { next = part m 0; first = one_goes W a t m r.0 r.1; others = still (part m 0) }
heading_went W a t m false h r = (ap (λ z. part z 0) r.0, no_end (unused_ends W) a way.Head t by)
  where
    by : (read put : Tree) → t ≡ read → HeadEnd W a read put ⊎ HeadNextEnd W a read put → ⊥
    by read put is (inl row) = h put (subst (λ z. HeadEnd W a z put) (sym is) row)
    by read put is (inr row) = no_var_next W a (read ▸ none) m (subst (λ z. Within W (listed a) (listed (z ▸ none)) m false) is r) (block (listed a ▸ (put ▸ none))) row.row row.var

pub heading_read : (W : Liberties) (o t l m : Tree) (c : Bool) → is_listed o ≡ true → l ≡ listed (t ▸ none) → HeadingFound (open_in o W) o t None → Within (open_in o W) o l m c → (u : Tree) → u ≡ part m 0 → HereWalked (unused_ends W) (children o) way.Head t u c
heading_read W o t l m c e f h r u g =
    subst (λ z. HereWalked (unused_ends W) (children o) way.Head t z c) (sym g)
    (heading_went W (children o) t m c (subst (λ z. HeadingFound (open_in z W) z t None) (listed_is o e) h) (subst₂ (λ z y. Within (open_in z W) z y m c) (listed_is o e) f r))

-- ---- the nodes above

pub pushed_listed : (a t : Tree) → is_listed a ≡ true → is_listed (pushed a t) ≡ true
pushed_listed (node h [] zero ts) t e = e
pushed_listed (node h [] (suc n) ts) t e = e
pushed_listed (node h (x ∷ xs) n ts) t e = e

pub child_walked : (E : Ends) (a : Tree) (r : Way) (t : Tree) (i : ℕ) (u v m n c : Tree) (changed : Bool) → m ≡ with_part t i absent → n ≡ pushed a m → c ≡ part t i → Walked E (children n) r c v changed → u ≡ with_part m i v → ChildWalked E (children a) r t i u changed
child_walked E (node h xs k ts) r t i u v m n c changed e f g w d =
    (v, put_back t i v m u e d, subst₂ (λ us x. Walked E us r x v changed) (ap children f ∙ ap (λ x. append ts (x ▸ none)) e) g w)
