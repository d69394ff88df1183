-- What the rows of blocks do to the statements that stand after the first child of a list: the parameters of an arrow function, with
-- its statements after them, are read as such a list.
use Rattle.mini_model.specs.declared.name.Name.{Name}
use Rattle.std.specs.Prelude.{ℕ, ◌≡◌, refl, Bool, true, false, List, [], None}
use Rattle.std.proofs.Common.{ap, ◌∙◌, sym, subst₂, inl, inr, true≢false}
use Rattle.mini_model.specs.declared.kind.VariableDeclarationKind.{VariableDeclarationKind}
use Rattle.mini_model.specs.declared.kind.VariableDeclarationKind.TheVariants.{Var}
use Rattle.mini_model.specs.Tree.{Tree, Trees, node, none, ◌▸◌, listed, shape_of, children, child_or_absent, expression_statement}
use Rattle.mini_model.specs.Paths.{append}
use Rattle.mini_accept.specs.WellShaped.{Depth, in_body, nested, a_statement, Slot, one, each, fits, fill}
use Rattle.mini_laws.specs.Value.{Declared, VariableSet, nothing}
use Rattle.mini_laws.specs.State.{Environment}
use Rattle.mini_laws.specs.Demand.{Stat}
use Rattle.mini_laws.specs.Same.{Same}
use Rattle.mini_laws.specs.Substitution.{alone}
use Rattle.mini_laws.specs.Congruence.{AllAvoid}
use Rattle.mini_kept.specs.Frames.{ports}
use Rattle.mini_kept.specs.Without.{Permits}
use Rattle.mini_node.specs.Kinds.{is_listed_shape}
use Rattle.mini_rows.proofs.Sunk.{value_passed}
use Rattle.mini_rows.specs.Lists.{block, declares_nothing, declaration, Each, EachIn, EachOf, each_loop}
use Rattle.mini_rows.specs.Declarations.{binding, declarator}
use Rattle.mini_rows.specs.Sketches.{shape_by, AsWholeItem}
use Rattle.mini_rows.specs.Unused.{resolved, names, any_names, declared_one, declared_among, declared_left, is_idle, is_first, reads_first, put_first, are_passed_by_value, reads_head, reads_hidden, takes, lets_go, BlockRow}
use Rattle.mini_rows.specs.Switches.{Switches, Liberties, without_vars}
use Rattle.mini_rows.proofs.ListShapes.{declaration_anywhere, first_fits, more_fit}
use Rattle.mini_rows.proofs.SingleUse.{Lead, Doing, Giving, Raising, Testing, head_of, Stands, statement, Heads, heads}
use Rattle.mini_rows.proofs.ListKeptHeads.{Seat, Loop, Choice, seated}
use Rattle.mini_rows.proofs.HiddenHeads.{Hidden, hidden, Taken, taken}
use Rattle.mini_rows.proofs.HiddenKept.{taken_leaves, taken_declares, taken_names}
use Rattle.mini_rows.proofs.HiddenMeaning.{taken_read, taken_goes, taken_unnamed}
use Rattle.mini_rows.proofs.FoldMeaning.{plain_read}
use Rattle.mini_rows.proofs.DeclaredKept.{value_leaves, value_declares, idle_leaves, idle_declares, value_names, idle_names}
use Rattle.mini_rows.proofs.NextKept.{next_leaves, next_declares, next_names}
use Rattle.mini_rows.proofs.NextMeaning.{next_read, next_same, next_avoids}
use Rattle.mini_rows.proofs.UnusedKept.{LeavesThere, NamesThere, DeclaresThere}
use Rattle.mini_rows.proofs.UnusedLawful.{item, value_fits, left_fits, taken_fits, next_fits, idle_vanishes}
use Rattle.mini_rows.proofs.UnusedMeaning.{ReadThere, read_alone, value_same, left_same, single_same, one_read, idle_read, left_avoids, single_read, first_avoids, may_write, movable, lexical_alone}
use Rattle.mini_rows.proofs.UnusedNames.{or_parts, avoided, all_avoided}
use Rattle.mini_terms.specs.Reading.{is_plain_part}

-- a statement of a block, of a function's body, or of a module
abbrev pub item_in : Depth → Slot
item_in o = one (a_statement o)

abbrev pub body_item : Slot
body_item = item_in in_body

-- ---- what is known of some statements that lose a name, and of those that are written for them

pub record Loses (W : VariableSet) (spelling : List ℕ) (symbol : ℕ) (d w : Trees) : Type 0 where
  pub leaves : LeavesThere (resolved spelling symbol) d w
  pub declares : DeclaresThere (resolved spelling symbol) d w
  pub read : ReadThere symbol d w
  pub same : (e : Environment) → Permits W (alone (Declared symbol)) e → Same e (alone (Declared symbol)) nothing (Stat None) (listed d) (listed w)
  pub avoids : AllAvoid (alone (Declared symbol)) w
  pub fits : (o : Depth) (strict : Bool) → fill strict (each (item_in o)) d ≡ true → fill strict (each (item_in o)) w ≡ true
  -- none of them is an import or an export
  pub ported : (rest : Trees) → ports true (append d rest) ≡ ports true (append w rest)

-- of a list, behind what its first child mentions
pub record Stretch (W : VariableSet) (p : Tree) (earlier_list later_list : Trees) : Type 0 where
  pub spelling : List ℕ
  pub symbol : ℕ
  pub before : Trees
  pub after : Trees
  pub d : Trees
  pub w : Trees
  pub loses : Loses W spelling symbol d w
  pub outside : names (resolved spelling symbol) p ≡ false
  pub earlier : any_names (resolved spelling symbol) before ≡ false
  pub later : any_names (resolved spelling symbol) after ≡ false
  pub read_is : earlier_list ≡ append before (append d after)
  pub written_is : later_list ≡ append before (append w after)

-- ---- the first child stands before the declaration

abbrev behind : Trees → Trees
behind none = none
behind (t ▸ ts) = ts

abbrev list_of : Tree → Trees
list_of t = children (child_or_absent (children t) 0)

pub record Split (p : Tree) (ts before rest : Trees) : Type 0 where
  pub left : Trees
  pub front : before ≡ p ▸ left
  pub is : ts ≡ append left rest

pub split : (p : Tree) (ts before : Trees) (d : Tree) (rest : Trees) → is_listed_shape (shape_of p) ≡ true → is_listed_shape (shape_of d) ≡ false → p ▸ ts ≡ append before (d ▸ rest) → Split p ts before (d ▸ rest)
split p ts none d rest e f g = absurd (true≢false (sym e ∙ ap (λ us. is_listed_shape (shape_of (child_or_absent us 0))) g ∙ f))
split p ts (b ▸ left) d rest e f g = record { left = left; front = ap (λ t. t ▸ left) (sym (ap (λ us. child_or_absent us 0) g)); is = ap behind g }

module _ (W : VariableSet) (p : Tree) (earlier_list later_list : Trees) (listed_there : is_listed_shape (shape_of p) ≡ true) where
  unfoldable pub stretch : (s : List ℕ) (k : ℕ) (before after : Trees) (d : Tree) (ds w : Trees) → is_listed_shape (shape_of d) ≡ false → Loses W s k (d ▸ ds) w → any_names (resolved s k) before ≡ false → any_names (resolved s k) after ≡ false
      → p ▸ earlier_list ≡ append before (d ▸ append ds after) → p ▸ later_list ≡ append before (append w after) → Stretch W p earlier_list later_list
  stretch s k before after d ds w f l earlier later a b =
      let t = split p earlier_list before d (append ds after) listed_there f a in
      let (outside, left) = or_parts (names (resolved s k) p) (any_names (resolved s k) t.left) (sym (ap (any_names (resolved s k)) t.front) ∙ earlier) in
      record {
        spelling = s;
        symbol = k;
        before = t.left;
        after = after;
        d = d ▸ ds;
        w = w;
        loses = l;
        outside = outside;
        earlier = left;
        later = later;
        read_is = t.is;
        written_is = ap behind (b ∙ ap (λ us. append us (append w after)) t.front);
      }

-- ---- what stands in a block may stand in a function's body and in a module

pub declaration_in : (o : Depth) (strict : Bool) (k : VariableDeclarationKind) (ds : Trees) → fits strict (item_in o) (declaration k ds) ≡ fits strict item (declaration k ds)
declaration_in o strict k ds = declaration_anywhere strict o k ds ∙ sym (declaration_anywhere strict nested k ds)

expression_in : (o : Depth) (strict : Bool) (t : Tree) → fits strict (item_in o) (expression_statement t) ≡ fits strict item (expression_statement t)
expression_in o strict t = refl

pub left_in : (o : Depth) (strict : Bool) (k : VariableDeclarationKind) (ds : Trees) → fits strict (item_in o) (declared_left k ds) ≡ fits strict item (declared_left k ds)
left_in o strict k none = refl
left_in o strict k (t ▸ ds) = declaration_in o strict k (t ▸ ds)

led_in : (l : Lead) → Stands AsWholeItem l true → (o : Depth) (strict : Bool) (ts : Trees) → fits strict (item_in o) (node (shape_by (head_of l)) [] 0 ts) ≡ fits strict item (node (shape_by (head_of l)) [] 0 ts)
led_in Doing s o strict ts = refl
led_in Giving s o strict ts = refl
led_in Raising s o strict ts = refl
led_in Testing s o strict ts = refl
led_in l s o strict ts = absurd s

pub one_fits : (o : Depth) (strict : Bool) (d w : Tree) → (fits strict item d ≡ true → fits strict item w ≡ true) → fits strict (item_in o) d ≡ fits strict item d → fits strict (item_in o) w ≡ fits strict item w → fill strict (each (item_in o)) (d ▸ none) ≡ true → fill strict (each (item_in o)) (w ▸ none) ≡ true
one_fits o strict d w f a b h = let (one_there, rest) = first_fits strict (item_in o) d none h in more_fit strict (item_in o) w none (b ∙ f (sym a ∙ one_there)) rest

-- and is no import and no export

pub left_ported : (k : VariableDeclarationKind) (ds rest : Trees) → ports true rest ≡ ports true (declared_left k ds ▸ rest)
left_ported k none rest = refl
left_ported k (t ▸ ds) rest = refl

led_ported : (l : Lead) → Stands AsWholeItem l true → (ts rest : Trees) → ports true (node (shape_by (head_of l)) [] 0 ts ▸ rest) ≡ ports true rest
led_ported Doing s ts rest = refl
led_ported Giving s ts rest = refl
led_ported Raising s ts rest = refl
led_ported Testing s ts rest = refl
led_ported l s ts rest = absurd s

-- a head and what is written for it stand where a statement does, and are no import and no export
pub record StandsThere (head put : Tree) : Type 0 where
  pub head_in : (o : Depth) (strict : Bool) → fits strict (item_in o) head ≡ fits strict item head
  pub put_in : (o : Depth) (strict : Bool) → fits strict (item_in o) put ≡ fits strict item put
  pub head_ported : (rest : Trees) → ports true (head ▸ rest) ≡ ports true rest
  pub put_ported : (rest : Trees) → ports true (put ▸ rest) ≡ ports true rest

pub statement_there : (x : Name) (head : Tree) → reads_first x head ≡ true → (init : Tree) → StandsThere head (put_first x init head)
statement_there x head once init =
    let t = statement x head once in
    record {
      head_in = λ o strict. ap (fits strict (item_in o)) t.is ∙ led_in t.lead (t.stands true) o strict (t.inner ▸ t.rest) ∙ sym (ap (fits strict item) t.is);
      put_in = λ o strict. ap (fits strict (item_in o)) (t.puts init) ∙ led_in t.lead (t.stands true) o strict (put_first x init t.inner ▸ t.rest) ∙ sym (ap (fits strict item) (t.puts init));
      head_ported = λ rest. ap (λ u. ports true (u ▸ rest)) t.is ∙ led_ported t.lead (t.stands true) (t.inner ▸ t.rest) rest;
      put_ported = λ rest. ap (λ u. ports true (u ▸ rest)) (t.puts init) ∙ led_ported t.lead (t.stands true) (put_first x init t.inner ▸ t.rest) rest;
    }

initial_there : (k : VariableDeclarationKind) (ds es : Trees) → StandsThere (declaration k ds) (declaration k es)
initial_there k ds es = record { head_in = λ o strict. declaration_in o strict k ds; put_in = λ o strict. declaration_in o strict k es; head_ported = λ rest. refl; put_ported = λ rest. refl }

pub outside_there : (c : Seat) (a b : Tree) → StandsThere (seated c a) (seated c b)
outside_there (Choice cases) a b = record { head_in = λ o strict. refl; put_in = λ o strict. refl; head_ported = λ rest. refl; put_ported = λ rest. refl }
outside_there (Loop u v w) a b = record { head_in = λ o strict. refl; put_in = λ o strict. refl; head_ported = λ rest. refl; put_ported = λ rest. refl }

pub over_there : (c : Each) (l w a b : Tree) → StandsThere (each_loop c l a w) (each_loop c l b w)
over_there EachIn l w a b = record { head_in = λ o strict. refl; put_in = λ o strict. refl; head_ported = λ rest. refl; put_ported = λ rest. refl }
over_there EachOf l w a b = record { head_in = λ o strict. refl; put_in = λ o strict. refl; head_ported = λ rest. refl; put_ported = λ rest. refl }

pub stands_there : (x : Name) (head : Tree) → reads_head x head ≡ true → (init : Tree) → StandsThere head (put_first x init head)
stands_there x head once init = by (heads x head once)
  where
    by : Heads x head → StandsThere head (put_first x init head)
    by (inl (f, p)) = statement_there x head f init
    by (inr (inl t)) = subst₂ StandsThere (sym t.is) (sym (t.puts init)) (initial_there t.kind (declarator t.binds t.value ▸ t.last) (declarator t.binds (put_first x init t.value) ▸ t.last))
    by (inr (inr (inl t))) = subst₂ StandsThere (sym t.is) (sym (t.puts init)) (outside_there t.seat t.value (put_first x init t.value))
    by (inr (inr (inr (inl t)))) = subst₂ StandsThere (sym t.is) (sym (t.puts init)) (over_there t.kind t.left t.body t.value (put_first x init t.value))
    by (inr (inr (inr (inr t)))) = subst₂ StandsThere (sym t.is) (sym (t.puts init)) (outside_there (Loop t.test t.update t.body) (declaration Var (declarator t.binds t.value ▸ t.last)) (declaration Var (declarator t.binds (put_first x init t.value) ▸ t.last)))

hidden_there : (x : Name) (head : Tree) → reads_hidden x head ≡ true → (init : Tree) → StandsThere head (put_first x init head)
hidden_there x head once init = by (hidden x head once)
  where
    by : Hidden x head → StandsThere head (put_first x init head)
    by (inl t) = subst₂ StandsThere (sym t.is) (sym (t.puts init)) (outside_there (Loop t.test t.update t.body) (declaration t.kind (declarator t.binds t.value ▸ t.last)) (declaration t.kind (declarator t.binds (put_first x init t.value) ▸ t.last)))
    by (inr t) = subst₂ StandsThere (sym t.is) (sym (t.puts init)) (over_there t.kind t.left t.body t.value (put_first x init t.value))

taken_there : (x : Name) (init head : Tree) → takes x init head ≡ true → StandsThere head (put_first x init head)
taken_there x init head e = by (taken x init head e)
  where
    by : Taken x init head → StandsThere head (put_first x init head)
    by (inl (o, p)) = stands_there x head o init
    by (inr (c, (o, p))) = hidden_there x head o init

-- ---- the rows

module _ (W : VariableSet) (K : VariableDeclarationKind) (s : List ℕ) (k : ℕ) (goes : lets_go W K k ≡ true) where
  abbrev x : Name
  x = resolved s k

  pub of_72 : (init : Tree) → declares_nothing init ≡ true → names x init ≡ false → Loses W s k (declared_one K x init ▸ none) (expression_statement init ▸ none)
  of_72 init present initial =
      let d = declared_one K x init in
      let w = expression_statement init in
      record {
        leaves = value_leaves K x k refl init initial;
        declares = value_declares K x k refl init initial;
        read = read_alone k d w (one_read K s k init w refl);
        same = λ e u. value_same e s k u.unseen K (may_write W K e k goes u) init present;
        avoids = ((tt, (avoided x k refl init initial, tt)), tt);
        fits = λ o strict. one_fits o strict d w (value_fits strict K x init present) (declaration_in o strict K (declarator (binding x) init ▸ none)) (expression_in o strict init);
        ported = λ rest. refl;
      }

  pub of_72_idle : (first : Trees) (init : Tree) (last : Trees) → is_idle init ≡ true → any_names x first ≡ false → any_names x last ≡ false → Loses W s k (declared_among K x first init last ▸ none) (declared_left K (append first last) ▸ none)
  of_72_idle first init last idle earlier later =
      let d = declared_among K x first init last in
      let w = declared_left K (append first last) in
      let beside = all_avoided x k refl last later in
      record {
        leaves = idle_leaves K x k refl first init last (idle_vanishes init idle) earlier later;
        declares = idle_declares K x k refl first init last (idle_vanishes init idle) earlier later;
        read = read_alone k d w (idle_read K s k first last init);
        same = λ e u. left_same e s k u.unseen K (may_write W K e k goes u) first last init idle beside;
        avoids = (left_avoids (alone (Declared k)) K first last (all_avoided x k refl first earlier) beside, tt);
        fits = λ o strict. one_fits o strict d w (left_fits strict K x first init last) (declaration_in o strict K (append first (declarator (binding x) init ▸ last))) (left_in o strict K (append first last));
        ported = left_ported K (append first last);
      }

  pub of_71 : (first : Trees) (init head : Tree) → is_plain_part init ≡ true → takes x init head ≡ true → names x init ≡ false → any_names x first ≡ false → Loses W s k (declared_among K x first init none ▸ (head ▸ none)) (declared_left K first ▸ (put_first x init head ▸ none))
  of_71 first init head moves took initial earlier =
      let d = declared_among K x first init none in
      let left = declared_left K first in
      let put = put_first x init head in
      let there = taken_there x init head took in
      record {
        leaves = taken_leaves K x k refl first init head moves initial earlier took;
        declares = taken_declares K x k refl first init head moves initial earlier took;
        read = single_read s k K first init head put (taken_read x init head took);
        same = λ e u. single_same e s k u.unseen first init head put (ap (λ i. i.facts.absent) (plain_read init moves)) K (may_write W K e k goes u) (taken_goes e s k u.unseen init head moves took);
        avoids = (first_avoids (alone (Declared k)) K first (all_avoided x k refl first earlier), (avoided x k refl put (taken_unnamed x init head took initial), tt));
        fits = λ o strict h.
            let (f, g) = first_fits strict (item_in o) d (head ▸ none) h in
            let (i, rest) = first_fits strict (item_in o) head none g in
            let (v, w) = taken_fits strict K x first init head moves took (sym (declaration_in o strict K (append first (declarator (binding x) init ▸ none))) ∙ f) (sym (there.head_in o strict) ∙ i) in
            more_fit strict (item_in o) left (put ▸ none) (left_in o strict K first ∙ v) (more_fit strict (item_in o) put none (there.put_in o strict ∙ w) rest);
        ported = λ rest. there.head_ported rest ∙ sym (there.put_ported rest) ∙ left_ported K first (put ▸ rest);
      }

  pub of_next : (first : Trees) (init binds value : Tree) (last : Trees) → is_plain_part init ≡ true → is_first x false value ≡ true → are_passed_by_value x init value ≡ true → names x binds ≡ false → names x init ≡ false → any_names x first ≡ false → any_names x last ≡ false → Loses W s k (declared_among K x first init (declarator binds value ▸ last) ▸ none) (declaration K (append first (declarator binds (put_first x init value) ▸ last)) ▸ none)
  of_next first init binds value last moves once passed other initial earlier later =
      let d = declared_among K x first init (declarator binds value ▸ last) in
      let w = declaration K (append first (declarator binds (put_first x init value) ▸ last)) in
      let avoids_last = all_avoided x k refl last later in
      record {
        leaves = next_leaves K x k refl first init binds value last once earlier initial other later moves;
        declares = next_declares K x k refl first init binds value last once earlier initial other later;
        read = read_alone k d w (next_read K s k first last init binds value (put_first x init value));
        same = λ e u. next_same e s k u.unseen K init binds value last moves once passed (avoided x k refl binds other) avoids_last (may_write W K e k goes u) first;
        avoids = (next_avoids x k refl K first init binds value last once earlier initial other later, tt);
        fits = λ o strict. one_fits o strict d w (next_fits strict K x first init binds value last moves once (inr passed)) (declaration_in o strict K (append first (declarator (binding x) init ▸ (declarator binds value ▸ last)))) (declaration_in o strict K (append first (declarator binds (put_first x init value) ▸ last)));
        ported = λ rest. refl;
      }

unfoldable pub row_stretch : (W : Liberties) (p : Tree) (earlier_list later_list : Trees) → is_listed_shape (shape_of p) ≡ true → BlockRow W (block (p ▸ earlier_list)) (block (p ▸ later_list)) → Stretch W.writable p earlier_list later_list
row_stretch W p a b e (inl r) =
    let x = resolved r.spelling r.symbol in
    stretch W.writable p a b e r.spelling r.symbol r.before r.after (declared_one r.kind x r.init) none (expression_statement r.init ▸ none) refl (of_72 W.writable r.kind r.spelling r.symbol r.goes r.init r.present r.unused.initial) r.unused.earlier r.unused.later (ap list_of r.shape) (ap list_of r.written)
row_stretch W p a b e (inr (inl r)) =
    let x = resolved r.spelling r.symbol in
    stretch W.writable p a b e r.spelling r.symbol r.before r.after (declared_among r.kind x r.first r.init r.last) none (declared_left r.kind (append r.first r.last) ▸ none) refl (of_72_idle W.writable r.kind r.spelling r.symbol r.goes r.first r.init r.last r.idle r.unused.declared_earlier r.unused.declared_later) r.unused.earlier r.unused.later (ap list_of r.shape)
    (ap list_of r.written)
row_stretch W p a b e (inr (inr (inl r))) =
    let x = resolved r.spelling r.symbol in
    stretch W.writable p a b e r.spelling r.symbol r.before r.after (declared_among r.kind x r.first r.init none) (r.head ▸ none) (declared_left r.kind r.first ▸ (put_first x r.init r.head ▸ none)) refl (of_71 W.writable r.kind r.spelling r.symbol r.goes r.first r.init r.head (movable W.switches r.init r.moves) r.taken r.initial r.declared_earlier) r.earlier r.later (ap list_of r.shape)
    (ap list_of r.written)
row_stretch W p a b e (inr (inr (inr r))) =
    let x = resolved r.spelling r.symbol in
    stretch W.writable p a b e r.spelling r.symbol r.before r.after (declared_among r.kind x r.first r.init (declarator r.binds r.value ▸ r.last)) none (declaration r.kind (append r.first (declarator r.binds (put_first x r.init r.value) ▸ r.last)) ▸ none) refl (of_next W.writable r.kind r.spelling r.symbol r.goes r.first r.init r.binds r.value r.last (movable W.switches r.init r.moves) r.once (value_passed (resolved r.spelling r.symbol) r.init r.value r.passed) r.other r.initial r.declared_earlier r.declared_later) r.earlier r.later (ap list_of r.shape)
    (ap list_of r.written)

-- in a block, or in a switch, what is declared is a lexical name
pub row_names : (o : Switches) (p : Tree) (a b : Trees) (e : is_listed_shape (shape_of p) ≡ true) (r : BlockRow (without_vars o) (block (p ▸ a)) (block (p ▸ b))) → let t = row_stretch (without_vars o) p a b e r in NamesThere (resolved t.spelling t.symbol) t.d t.w
unfolding row_stretch stretch
row_names o p a b e (inl r) = value_names r.kind (resolved r.spelling r.symbol) r.symbol refl r.init r.unused.initial (lexical_alone r.kind r.goes)
row_names o p a b e (inr (inl r)) = idle_names r.kind (resolved r.spelling r.symbol) r.symbol refl r.first r.init r.last (idle_vanishes r.init r.idle) r.unused.declared_earlier r.unused.declared_later (lexical_alone r.kind r.goes)
row_names o p a b e (inr (inr (inl r))) = taken_names r.kind (resolved r.spelling r.symbol) r.symbol refl r.first r.init r.head (movable o r.init r.moves) r.initial r.declared_earlier r.taken (lexical_alone r.kind r.goes)
row_names o p a b e (inr (inr (inr r))) = next_names r.kind (resolved r.spelling r.symbol) r.symbol refl r.first r.init r.binds r.value r.last r.once r.declared_earlier r.initial r.other r.declared_later (lexical_alone r.kind r.goes)
