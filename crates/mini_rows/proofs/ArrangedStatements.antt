-- A statement, and a list of statements, that are built anew of the parts of another are kept.
use Rattle.std.specs.Prelude.{ℕ, suc, ◌≤◌, ◌≡◌, refl, ◌&&◌, ◌||◌, Bool, true, false, List, [], ◌++◌}
use Rattle.std.proofs.Common.{ap, ◌∙◌, sym, subst}
use Rattle.std.proofs.lemmas.Bool.{and_parts}
use Rattle.mini_model.specs.declared.name.Name.{Name}
use Rattle.mini_model.specs.declared.place.Position.{Position}
use Rattle.mini_model.specs.declared.place.Position.TheVariants.{Stmt, StatementList}
use Rattle.mini_model.specs.declared.seat.StmtSeat.{StmtSeat}
use Rattle.mini_model.specs.declared.shape.Shape.TheVariants as shape
use Rattle.mini_model.specs.Tree.{Tree, Trees, node, none, ◌▸◌, listed, shape_of}
use Rattle.mini_model.specs.Paths.{append}
use Rattle.mini_accept.specs.WellShaped.{a_statement, a_method, Slot, one, many, filling_by, fits}
use Rattle.mini_laws.specs.declared.names.Use.{Use}
use Rattle.mini_laws.specs.declared.names.Use.TheVariants.{Read}
use Rattle.mini_laws.specs.declared.names.Declaration.{Declaration}
use Rattle.mini_laws.specs.declared.names.Declared.{Declared}
use Rattle.mini_laws.specs.declared.names.Declared.TheVariants as declared
use Rattle.mini_laws.specs.DeclaredNames.{is_inner, names_of, body_names}
use Rattle.mini_laws.specs.Scoped.{Scoped}
use Rattle.mini_laws.specs.Symbols.{declared as declared_in, times}
use Rattle.mini_laws.specs.Early.{is_loop}
use Rattle.mini_laws.specs.Body.{ArrowExpression}
use Rattle.mini_laws.specs.Bodies.{Around, bodies, bodies_from, arrow_kind}
use Rattle.mini_kept.specs.AlikeBodies.{BodiesKept}
use Rattle.mini_kept.specs.Frames.{is_declaration, is_port, ports as ports_of}
use Rattle.mini_kept.specs.KeepsLoosely.{KeepsLoosely}
use Rattle.mini_kept.specs.KeepsNames.{is_read, is_statement_use, Stands as StandsFor, is_rewritten_place, Keeps}
use Rattle.mini_kept.specs.Placed.{fits_place}
use Rattle.mini_kept.specs.Standing.{is_method_slot}
use Rattle.mini_kept.proofs.Bools.{left, right}
use Rattle.mini_kept.proofs.Expressions.{refused_here}
use Rattle.mini_kept.proofs.InOrder.{in_order}
use Rattle.mini_kept.proofs.Placed.{statements_slot}
use Rattle.mini_kept.proofs.Unplaced.{as_body, body_same}
use Rattle.mini_rows.specs.Sketches.{Head, AList, Spread, Interpolation, Piece, is_piece_head, shape_by, Sketch, part, under, list, Sketches, Items, no_items, item, items, Parts, list_at, filled, all_filled, items_filled, Asked, AsWhole, AsWholeList, AsWholeItem, use_by, parts_of, parts_in, Free, is_rearranged, all_settled, is_statement_head, asked_below, stands_well, all_stand_well, items_stand_well, are_loose, statements, are_same_holes, keeps_statements}
use Rattle.mini_rows.specs.Arranged.{KeptAt, AllVanish, AreLoose, StatementsArranged, ListsArranged}
use Rattle.mini_rows.proofs.Arranging.{All, Any, Each, first_each, second_each}
use Rattle.mini_rows.proofs.ArrangedNames.{no_inner_head}
use Rattle.mini_rows.proofs.ArrangedBodies.{quiet}
use Rattle.mini_rows.proofs.ArrangedValues.{Calm, Valued, suits_anywhere, head_valued, sketch_valued, suits}
use Rattle.mini_rows.proofs.ArrangedMoves.{loosened}
use Rattle.mini_rows.proofs.ArrangedTrees.{same_inner, same_fixed, same_declared, same_frames, same_bodies, same_once, same_targets, parts_valued, same_scoped, same_symbols, same_numbers}
use Rattle.mini_rows.proofs.ArrangedGather.{filled_valued, Fold, Gives, gives_same}
use Rattle.mini_rows.proofs.ArrangedFolds.{bound_fold, lexical_fold, hoisted_fold, body_fold, hoists, declared_fold, same_trees, port, ports_in, ports_fold}
use Rattle.mini_rows.proofs.ArrangedExpressions.{no_piece, no_method}

-- ---- the whole is a statement, or a list of them

abbrev is_statement_place : Asked → Position → Bool
is_statement_place AsWhole (Stmt q) = true
is_statement_place AsWholeList StatementList = true
is_statement_place c p = false

whole_use : (c : Asked) (p : Position) (v : Use) → is_statement_place c p ≡ true → use_by v c ≡ v
whole_use AsWhole p v e = refl
whole_use AsWholeList p v e = refl
whole_use c p v e = absurd (cc e)

read_statement : (v : Use) → is_read v ≡ true → is_statement_use v ≡ true
read_statement Read e = refl
read_statement v e = absurd (cc e)

pub statement_used : (c : Asked) (p : Position) → is_statement_place c p ≡ true → (v : Use) (t : Tree) → is_inner (shape_of t) ≡ false → StandsFor p v t → is_statement_use v ≡ true
statement_used AsWhole (Stmt q) e v t i s = sym (ap (λ b. b || is_statement_use v) i) ∙ s
statement_used AsWholeList StatementList e v t i s = read_statement v (sym (ap (λ b. b || is_read v) i) ∙ s)
statement_used c p e v t i s = absurd (cc e)

rewritten : (c : Asked) (p : Position) → is_statement_place c p ≡ true → is_rewritten_place p ≡ true
rewritten AsWhole (Stmt q) e = refl
rewritten AsWholeList StatementList e = refl
rewritten c p e = absurd (cc e)

pub whole_gives : (A : Type 0) (B H : Tree → List A) (k : Fold A B B H) (c : Asked) (p : Position) → is_statement_place c p ≡ true → (t : Tree) → B t ≡ Gives A B B H k c t
whole_gives A B H k AsWhole p e t = refl
whole_gives A B H k AsWholeList p e t = refl
whole_gives A B H k c p e t = absurd (cc e)

module _ (f : Free) (ps : Parts) (u : AreLoose ps f) (c : Asked) (p : Position) (b : is_statement_place c p ≡ true) (s r : Sketch) (sn : stands_well f c s ≡ true) (sr : stands_well f c r ≡ true) (z : keeps_statements f (parts_of c s) (parts_of c r) ≡ true) where
  abbrev n : Tree
  n = filled ps s

  abbrev w : Tree
  w = filled ps r

  pub parts_kept : is_rearranged f (parts_of c s) (parts_of c r) ≡ true
  parts_kept = left (is_rearranged f (parts_of c s) (parts_of c r)) (are_same_holes (statements (all_settled f (parts_of c r))) (statements (all_settled f (parts_of c s)))) z

  same_order : are_same_holes (statements (all_settled f (parts_of c r))) (statements (all_settled f (parts_of c s))) ≡ true
  same_order = right (is_rearranged f (parts_of c s) (parts_of c r)) (are_same_holes (statements (all_settled f (parts_of c r))) (statements (all_settled f (parts_of c s)))) z

  module _ (v : Each Any Valued ps (parts_of c s)) where
    w_parts : Each Any Valued ps (parts_of c r)
    w_parts = parts_valued f ps u c s r sn sr parts_kept v

    gathered : (A : Type 0) (B H : Tree → List A) (k : Fold A B B H) → B w ≡ B n
    gathered A B H k = whole_gives A B H k c p b w ∙ gives_same A B B H k f ps u c s r sn sr same_order v w_parts ∙ sym (whole_gives A B H k c p b n)

    same_names : (d : Declared) → names_of d w ≡ names_of d n
    same_names declared.Bound = gathered Name (names_of declared.Bound) (λ t. []) bound_fold
    same_names declared.Lexical = gathered Name (names_of declared.Lexical) (λ t. []) lexical_fold
    same_names declared.Hoisted = gathered Name (names_of declared.Hoisted) (names_of declared.Hoisted) hoisted_fold

    pub names_kept : is_inner (shape_of n) ≡ false → AllVanish ps.trees f.dropped → is_loop w ≡ is_loop n → Keeps p n w
    names_kept i g l = record {
      kept = record {
        names = same_names;
        body = gathered Name body_names (names_of declared.Hoisted) body_fold;
        inner = same_inner f ps u c s r sn sr parts_kept g;
        symbols = λ o y. subst (λ m. times y (declared_in m w) ≤ times y (declared_in m n)) (whole_use c p o b) (same_symbols f ps u c s r sn sr parts_kept v o y);
      };
      scoped = λ o env st. subst (λ m. Scoped m env n → Scoped m env w) (whole_use c p o b) (same_scoped f ps u c s r sn sr parts_kept v o (statement_used c p b o n i st) env);
      numbers = same_numbers f ps u c s r sn sr parts_kept v;
      declared_as_body = λ o q. body_same o q q n w (gathered Declaration (as_body o) hoists (declared_fold o));
      once = same_once f ps u c s r sn sr parts_kept;
      targets = same_targets f ps u c s r sn sr parts_kept;
      loop = l;
      root = λ k. absurd (cc (sym k ∙ rewritten c p b));
      block = λ k o q. absurd (cc (sym k ∙ rewritten c p b));
    }

-- ---- a statement

same_quiet : (a : Around) (h : Head) (ts : Trees) → is_statement_head h ≡ true → bodies (record a { constructs = false }) (node (shape_by h) [] 0 ts) ≡ bodies (quiet a) (node (shape_by h) [] 0 ts)
same_quiet a AList ts e = absurd (cc e)
same_quiet a h ts e = refl

pub around_quiet : (a : Around) (h : Head) (ts : Trees) → a.constructs ≡ false → is_statement_head h ≡ true → bodies a (node (shape_by h) [] 0 ts) ≡ bodies (quiet a) (node (shape_by h) [] 0 ts)
around_quiet a h ts k e = ap (λ c. bodies (record a { constructs = c }) (node (shape_by h) [] 0 ts)) k ∙ same_quiet a h ts e

pub no_loop : (h : Head) (ts : Trees) → is_statement_head h ≡ true → is_loop (node (shape_by h) [] 0 ts) ≡ false
unfolding is_loop
no_loop AList ts e = refl
no_loop h ts e = refl

pub not_list : (h : Head) → is_statement_head h ≡ true → suits_anywhere h ≡ true
not_list AList e = absurd (cc e)
not_list Spread e = absurd (cc e)
not_list Interpolation e = absurd (cc e)
not_list h e = refl

statement_no_piece : (h : Head) → is_statement_head h ≡ true → is_piece_head h ≡ false
statement_no_piece (Piece is_tail raw cooked) e = absurd (cc e)
statement_no_piece h e = refl

pub kind_of_head : (h : Head) → arrow_kind (shape_by h) ≡ ArrowExpression
kind_of_head AList = refl
kind_of_head h = refl

pub no_port : (m : Bool) (h : Head) → is_port m (shape_by h) ≡ false
no_port m AList = refl
no_port m h = refl

pub undeclared : (h : Head) → is_declaration (shape_by h) ≡ false
undeclared AList = refl
undeclared h = refl

pub method_slot : (ps : Parts) (h : Head) (ss : Sketches) (strict : Bool) (s : Slot) → fits strict s (filled ps (under h ss)) ≡ true → is_method_slot s ≡ false
method_slot ps h ss strict (one a_method) k = absurd (refused_here strict (one a_method) (shape_by h) [] 0 (all_filled ps ss) (ap filling_by (no_method strict h)) k)
method_slot ps h ss strict (one c) k = refl
method_slot ps h ss strict s k = refl

module _ (f : Free) (ps : Parts) (u : AreLoose ps f) (h g : Head) (ss rs : Sketches) (sn : stands_well f AsWhole (under h ss) ≡ true) (sr : stands_well f AsWhole (under g rs) ≡ true) (z : keeps_statements f (parts_of AsWhole (under h ss)) (parts_of AsWhole (under g rs)) ≡ true) (q : StmtSeat) where
  n_head : is_statement_head h ≡ true
  n_head = left (is_statement_head h) (all_stand_well f (asked_below h AsWhole) 0 ss) sn

  w_head : is_statement_head g ≡ true
  w_head = left (is_statement_head g) (all_stand_well f (asked_below g AsWhole) 0 rs) sr

  statement_bodies : (a : Around) → a.constructs ≡ false → BodiesKept (bodies a (filled ps (under h ss))) (bodies a (filled ps (under g rs)))
  statement_bodies a k =
      subst (BodiesKept (bodies a (filled ps (under h ss)))) (sym (around_quiet a g (all_filled ps rs) k w_head))
      (subst (λ bs. BodiesKept bs (bodies (quiet a) (filled ps (under g rs)))) (sym (around_quiet a h (all_filled ps ss) k n_head)) (same_bodies f ps u AsWhole (under h ss) (under g rs) sn sr (parts_kept f ps u AsWhole (Stmt q) refl (under h ss) (under g rs) sn sr z) a))

  pub statement_keeps : AllVanish ps.trees f.dropped → (strict : Bool) (s : Slot) → fits strict s (filled ps (under h ss)) ≡ true → Keeps (Stmt q) (filled ps (under h ss)) (filled ps (under g rs))
  statement_keeps v strict s k = names_kept f ps u AsWhole (Stmt q) refl (under h ss) (under g rs) sn sr z (head_valued ps strict AsWhole s h ss (not_list h n_head) k) (no_inner_head h) v (no_loop g (all_filled ps rs) w_head ∙ sym (no_loop h (all_filled ps ss) n_head))

  pub statement_kept : AllVanish ps.trees f.dropped → KeptAt (Stmt q) (filled ps (under h ss)) (filled ps (under g rs))
  statement_kept v =
      let y = parts_kept f ps u AsWhole (Stmt q) refl (under h ss) (under g rs) sn sr z in
      record {
        keeps = λ strict s o k. in_order (Stmt q) (filled ps (under h ss)) (filled ps (under g rs)) (statement_keeps v strict s k);
        piece = no_piece h (statement_no_piece h n_head);
        kind = λ strict s k. kind_of_head h ∙ sym (kind_of_head g);
        bodies = λ strict s o k a st. statement_bodies a (st.function (method_slot ps h ss strict s k));
        ports = λ strict d k m. (no_port m h, no_port m g);
        listed = λ l. absurd (cc l);
        exported = λ strict k. (undeclared h, undeclared g);
        frames = λ strict s o k. same_frames f ps u AsWhole (under h ss) (under g rs) sn sr y;
        fixed = same_fixed f ps u AsWhole (under h ss) (under g rs) sn sr y v;
        declared = same_declared f ps u AsWhole (under h ss) (under g rs) sn sr y;
      }

pub statements_arranged : StatementsArranged
statements_arranged f ps u (part i) r e q n w a b = absurd (cc e)
statements_arranged f ps u (list is) r e q n w a b = absurd (cc e)
statements_arranged f ps u (under h ss) (part i) e q n w a b = absurd (cc e)
statements_arranged f ps u (under h ss) (list is) e q n w a b = absurd (cc e)
statements_arranged f ps u (under h ss) (under g rs) e q n w a b =
    let (sn, y) = and_parts (stands_well f AsWhole (under h ss)) (stands_well f AsWhole (under g rs) && keeps_statements f (parts_of AsWhole (under h ss)) (parts_of AsWhole (under g rs))) e in
    let (sr, z) = and_parts (stands_well f AsWhole (under g rs)) (keeps_statements f (parts_of AsWhole (under h ss)) (parts_of AsWhole (under g rs))) y in
    subst (λ t. KeptAt (Stmt q) t w) (sym a) (subst (KeptAt (Stmt q) (filled ps (under h ss))) (sym b) (statement_kept f ps (loosened f ps u) h g ss rs sn sr z q u.2))

-- ---- a list of statements

calm_quiet : (a : Around) (t : Tree) → Calm t → bodies (record a { constructs = false }) t ≡ bodies (quiet a) t
calm_quiet a (node shape.Listed xs n ts) c = absurd (cc c.1)
calm_quiet a (node shape.InnerExpression xs n ts) c = absurd (cc c.1)
calm_quiet a (node shape.RestElement xs n ts) c = absurd (cc c.1)
calm_quiet a (node shape.AssignmentPattern xs n ts) c = absurd (cc c.1)
calm_quiet a (node h xs n ts) c = refl

calm_items : (a : Around) (i : ℕ) (ts : Trees) → All Valued AsWholeItem ts → bodies_from (λ j. record a { constructs = false }) i ts ≡ bodies_from (λ j. quiet a) i ts
calm_items a i none v = refl
calm_items a i (t ▸ ts) v = λ x. calm_quiet a t v.0 x ++ calm_items a (suc i) ts v.1 x

all_append : (ts us : Trees) → All Valued AsWholeItem ts → All Valued AsWholeItem us → All Valued AsWholeItem (append ts us)
all_append none us a b = b
all_append (t ▸ ts) us a b = (a.0, all_append ts us a.1 b)

items_calm : (f : Free) (ps : Parts) (is : Items) → items_stand_well f AsWholeItem is ≡ true → Each Any Valued ps (parts_in AsWholeItem is) → All Valued AsWholeItem (items_filled ps is)
items_calm f ps no_items e v = tt
items_calm f ps (item s is) e v =
    let (x, y) = and_parts (stands_well f AsWholeItem s) (items_stand_well f AsWholeItem is) e in
    (filled_valued f ps AsWholeItem s x (first_each Any Valued ps (parts_of AsWholeItem s) (parts_in AsWholeItem is) v), items_calm f ps is y (second_each Any Valued ps (parts_of AsWholeItem s) (parts_in AsWholeItem is) v))
items_calm f ps (items i is) e v = all_append (list_at ps.lists i) (items_filled ps is) v.0 (items_calm f ps is (right (are_loose f AsWholeItem i) (items_stand_well f AsWholeItem is) e) v.1)

list_slot : (strict : Bool) (s : Slot) (ts : Trees) → fits_place StatementList s ≡ true → fits strict s (listed ts) ≡ true → (suits AsWholeList s ≡ true) × (is_method_slot s ≡ false)
list_slot strict s ts o k =
    let (d, e, k') = statements_slot strict s [] 0 ts o k in
    (subst (λ x. suits AsWholeList x ≡ true) (sym e) refl, subst (λ x. is_method_slot x ≡ false) (sym e) refl)

-- what else is kept, however the parts are ordered that declare names
module _ (f : Free) (ps : Parts) (u : AreLoose ps f) (is js : Items) (sn : items_stand_well f AsWholeItem is ≡ true) (sr : items_stand_well f AsWholeItem js ≡ true) (y : is_rearranged f (parts_in AsWholeItem is) (parts_in AsWholeItem js) ≡ true) where
  pub list_parts : (strict : Bool) (s : Slot) → fits_place StatementList s ≡ true → fits strict s (listed (items_filled ps is)) ≡ true → Each Any Valued ps (parts_in AsWholeItem is)
  list_parts strict s o k = sketch_valued ps strict AsWholeList s (list is) (list_slot strict s (items_filled ps is) o k).0 k

  pub list_valued : Each Any Valued ps (parts_in AsWholeItem is) → Each Any Valued ps (parts_in AsWholeItem js)
  list_valued v = parts_valued f ps u AsWholeList (list is) (list js) sn sr y v

  list_quiet : (a : Around) (ks : Items) → items_stand_well f AsWholeItem ks ≡ true → Each Any Valued ps (parts_in AsWholeItem ks) → bodies a (listed (items_filled ps ks)) ≡ bodies (quiet a) (listed (items_filled ps ks))
  list_quiet a ks e v = calm_items a 0 (items_filled ps ks) (items_calm f ps ks e v)

  list_bodies : (a : Around) → Each Any Valued ps (parts_in AsWholeItem is) → BodiesKept (bodies a (listed (items_filled ps is))) (bodies a (listed (items_filled ps js)))
  list_bodies a v =
      subst (BodiesKept (bodies a (listed (items_filled ps is)))) (sym (list_quiet a js sr (list_valued v)))
      (subst (λ bs. BodiesKept bs (bodies (quiet a) (listed (items_filled ps js)))) (sym (list_quiet a is sn v)) (same_bodies f ps u AsWholeList (list is) (list js) sn sr y a))

  pub list_kept_by : AllVanish ps.trees f.dropped → (Each Any Valued ps (parts_in AsWholeItem is) → KeepsLoosely StatementList (listed (items_filled ps is)) (listed (items_filled ps js))) → ((m : Bool) → Each Any Valued ps (parts_in AsWholeItem is) → ports_of m (items_filled ps is) ≡ ports_of m (items_filled ps js))
      → KeptAt StatementList (listed (items_filled ps is)) (listed (items_filled ps js))
  list_kept_by v keeps ports = record {
    keeps = λ strict s o k. keeps (list_parts strict s o k);
    piece = refl;
    kind = λ strict s k. refl;
    bodies = λ strict s o k a st. list_bodies a (list_parts strict s o k);
    ports = λ strict d k m. (refl, refl);
    listed = λ l strict d k m. ports m (list_parts strict (many (a_statement d)) refl k);
    exported = λ strict k. (refl, refl);
    frames = λ strict s o k. same_frames f ps u AsWholeList (list is) (list js) sn sr y;
    fixed = same_fixed f ps u AsWholeList (list is) (list js) sn sr y v;
    declared = same_declared f ps u AsWholeList (list is) (list js) sn sr y;
  }

pub same_loop : (ts us : Trees) → is_loop (listed us) ≡ is_loop (listed ts)
unfolding is_loop
same_loop ts us = refl

module _ (f : Free) (ps : Parts) (u : AreLoose ps f) (is js : Items) (sn : items_stand_well f AsWholeItem is ≡ true) (sr : items_stand_well f AsWholeItem js ≡ true) (z : keeps_statements f (parts_in AsWholeItem is) (parts_in AsWholeItem js) ≡ true) where
  rearranged : is_rearranged f (parts_in AsWholeItem is) (parts_in AsWholeItem js) ≡ true
  rearranged = parts_kept f ps u AsWholeList StatementList refl (list is) (list js) sn sr z

  same_ports : (m : Bool) → Each Any Valued ps (parts_in AsWholeItem is) → ports_of m (items_filled ps is) ≡ ports_of m (items_filled ps js)
  same_ports m v =
      sym (same_trees (ports_of m (items_filled ps js)) (ports_of m (items_filled ps is)) (gives_same Tree (ports_in m) (port m) (λ t. []) (ports_fold m) f ps u AsWholeList (list is) (list js) sn sr (same_order f ps u AsWholeList StatementList refl (list is) (list js) sn sr z) v (list_valued f ps u is js sn sr rearranged v)))

  pub list_kept : AllVanish ps.trees f.dropped → KeptAt StatementList (listed (items_filled ps is)) (listed (items_filled ps js))
  list_kept g =
      list_kept_by f ps u is js sn sr rearranged g
      (λ v. in_order StatementList (listed (items_filled ps is)) (listed (items_filled ps js)) (names_kept f ps u AsWholeList StatementList refl (list is) (list js) sn sr z v refl g (same_loop (items_filled ps is) (items_filled ps js))))
      same_ports

pub lists_arranged : ListsArranged
lists_arranged f ps u is js e n w a b =
    let (sn, y) = and_parts (items_stand_well f AsWholeItem is) (items_stand_well f AsWholeItem js && keeps_statements f (parts_in AsWholeItem is) (parts_in AsWholeItem js)) e in
    let (sr, z) = and_parts (items_stand_well f AsWholeItem js) (keeps_statements f (parts_in AsWholeItem is) (parts_in AsWholeItem js)) y in
    subst (λ t. KeptAt StatementList t w) (sym a) (subst (KeptAt StatementList (listed (items_filled ps is))) (sym b) (list_kept f ps (loosened f ps u) is js sn sr z u.2))
