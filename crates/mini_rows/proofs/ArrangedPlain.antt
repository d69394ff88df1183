-- A block in which no statement is scoped is plain.
use Rattle.std.specs.Prelude.{ℕ, suc, ◌≡◌, refl, Bool, true, false, ◌&&◌, ◌||◌, not, List, [], ◌∷◌, ◌++◌, if◌then◌else◌}
use Rattle.std.proofs.Common.{ap, ◌∙◌, sym, subst}
use Rattle.std.proofs.lemmas.Bool.{and_parts}
use Rattle.mini_model.specs.declared.kind.VariableDeclarationKind.{VariableDeclarationKind}
use Rattle.mini_model.specs.declared.kind.VariableDeclarationKind.TheVariants.{Var}
use Rattle.mini_model.specs.declared.name.Name.{Name}
use Rattle.mini_model.specs.declared.shape.Shape.{Shape}
use Rattle.mini_model.specs.declared.shape.Shape.TheVariants as shape
use Rattle.mini_model.specs.Tree.{Tree, Trees, node, none, ◌▸◌, listed, absent}
use Rattle.mini_model.specs.Paths.{append}
use Rattle.mini_laws.specs.declared.names.Declaration.{Declaration}
use Rattle.mini_laws.specs.declared.names.Declared.TheVariants as declared
use Rattle.mini_laws.specs.declared.names.Place.TheVariants as place
use Rattle.mini_laws.specs.DeclaredNames.{place_of, names_by, names_of, all_names, first_names}
use Rattle.mini_laws.specs.Early.{Path, own_declarations, is_function_shape, holds_statements, body_declarations, scope_declarations, clashes_any, clashing}
use Rattle.mini_kept.specs.KeepsNames.{unplaced}
use Rattle.mini_kept.proofs.Bools.{left, right}
use Rattle.mini_kept.proofs.Unplaced.{as_statement, as_body, all_as_body, body_is, free_same}
use Rattle.mini_rows.specs.Lists.{is_unscoped_shape, is_unscoped, are_unscoped}
use Rattle.mini_rows.specs.Sketches.{Head, Empty, OfExpression, Throw, Return, If, Block, shape_by, Sketch, part, under, list, Sketches, end, ◌▹◌, Items, no_items, item, items, Parts, list_at, filled, all_filled, items_filled, Asked, AsItem, AsItems, asked_below, item_asked, Free, is_among, is_statement_head, stands_as, is_list_asked, stands_well, all_stand_well, items_stand_well, are_loose}
use Rattle.mini_rows.specs.Arranged.{AreLoose}
use Rattle.mini_rows.proofs.Arranging.{Plain, IsPlain, ArePlain, ItemsPlain}
use Rattle.mini_rows.proofs.ArrangedMoves.{unscoped_among, lists_unscoped_among}

-- ---- an unscoped statement declares no lexical name

of_variables : (k : VariableDeclarationKind) → is_unscoped_shape (shape.VariableDeclaration k) ≡ true → place_of declared.Lexical (shape.VariableDeclaration k) ≡ place.Nowhere
of_variables Var e = refl
of_variables k e = absurd (cc e)

pub unscoped_nowhere : (h : Shape) → is_unscoped_shape h ≡ true → place_of declared.Lexical h ≡ place.Nowhere
unscoped_nowhere shape.Listed e = absurd (cc e)
unscoped_nowhere shape.SwitchCase e = absurd (cc e)
unscoped_nowhere shape.ImportDeclaration e = absurd (cc e)
unscoped_nowhere shape.ExportNamedDeclaration e = absurd (cc e)
unscoped_nowhere shape.ExportDefaultDeclaration e = absurd (cc e)
unscoped_nowhere (shape.Function true g ds) e = absurd (cc e)
unscoped_nowhere (shape.Function false g ds) e = absurd (cc e)
unscoped_nowhere (shape.Class true) e = absurd (cc e)
unscoped_nowhere (shape.Class false) e = absurd (cc e)
unscoped_nowhere (shape.VariableDeclaration k) e = of_variables k e
unscoped_nowhere h e = refl

pub no_lexical : (t : Tree) → is_unscoped t ≡ true → names_of declared.Lexical t ≡ []
unfolding names_of
no_lexical (node h xs n ts) e = ap (λ p. names_by p xs (first_names ts) (all_names declared.Bound ts) (all_names declared.Lexical ts)) (unscoped_nowhere h e)

pub no_holder : (h : Shape) → is_unscoped_shape h ≡ true → holds_statements h ≡ false
no_holder shape.Listed e = absurd (cc e)
no_holder shape.FunctionBody e = absurd (cc e)
no_holder shape.SwitchCase e = absurd (cc e)
no_holder h e = refl

pub head_unscoped : (h : Head) → is_statement_head h ≡ true → is_unscoped_shape (shape_by h) ≡ true
head_unscoped Empty e = refl
head_unscoped OfExpression e = refl
head_unscoped Throw e = refl
head_unscoped Return e = refl
head_unscoped If e = refl
head_unscoped Block e = refl
head_unscoped h e = absurd (cc e)

-- ---- declarations none of which is lexical

abbrev NoneLexical : List Declaration → Type 0
NoneLexical [] = Unit {0}
NoneLexical (d ∷ ds) = (d.is_lexical ≡ false) × NoneLexical ds

both_lexical : (ds es : List Declaration) → NoneLexical ds → NoneLexical es → NoneLexical (ds ++ es)
both_lexical [] es a b = b
both_lexical (d ∷ ds) es a b = (a.0, both_lexical ds es a.1 b)

own_lexical : (p : Path) (xs : List Name) → NoneLexical (own_declarations false p xs)
own_lexical p [] = tt
own_lexical p (x ∷ xs) = (refl, own_lexical p xs)

no_two : (a b c : Bool) → a ≡ false → b ≡ false → ((a || b) && c) ≡ false
no_two false false c e f = refl
no_two true b c e f = absurd (cc e)
no_two false true c e f = absurd (cc f)

none_clashes : (d : Declaration) (es : List Declaration) → d.is_lexical ≡ false → NoneLexical es → clashes_any d es ≡ false
none_clashes d [] a b = refl
none_clashes d (e ∷ es) a b = ap (λ c. c || clashes_any d es) (no_two d.is_lexical e.is_lexical _ a b.0) ∙ none_clashes d es a b.1

none_clash : (earlier ds : List Declaration) → NoneLexical earlier → NoneLexical ds → clashing earlier ds ≡ []
none_clash earlier [] a b = refl
none_clash earlier (d ∷ ds) a b =
    ap (λ c. if c then d.at ∷ clashing (earlier ++ d ∷ []) ds else clashing (earlier ++ d ∷ []) ds) (none_clashes d earlier b.0 a)
    ∙ none_clash (earlier ++ d ∷ []) ds (both_lexical earlier (d ∷ []) a (b.0, tt)) b.1

unplaced_again : (ds : List Declaration) → unplaced (unplaced ds) ≡ unplaced ds
unplaced_again [] = refl
unplaced_again (d ∷ ds) = ap (λ r. record d { at = [] } ∷ r) (unplaced_again ds)

unscoped_body : (b : Bool) (t : Tree) → is_unscoped t ≡ true → NoneLexical (as_body b t)
unscoped_body b (node h xs n ts) e =
    let t = node h xs n ts in
    subst (λ c. NoneLexical (if c then all_as_body b ts else as_statement b t)) (sym (no_holder h e))
    (subst (λ ys. NoneLexical (own_declarations (not (b && is_function_shape h)) [] ys ++ own_declarations false [] (names_of declared.Hoisted t))) (sym (no_lexical t e)) (own_lexical [] (names_of declared.Hoisted t)))

unscoped_bodies : (b : Bool) (ts us : Trees) → are_unscoped ts ≡ true → NoneLexical (all_as_body b us) → NoneLexical (all_as_body b (append ts us))
unscoped_bodies b none us e a = a
unscoped_bodies b (t ▸ ts) us e a = both_lexical (as_body b t) (all_as_body b (append ts us)) (unscoped_body b t (left (is_unscoped t) (are_unscoped ts) e)) (unscoped_bodies b ts us (right (is_unscoped t) (are_unscoped ts) e) a)

unscoped_names : (ts us : Trees) → are_unscoped ts ≡ true → all_names declared.Lexical us ≡ [] → all_names declared.Lexical (append ts us) ≡ []
unfolding names_of
unscoped_names none us e a = a
unscoped_names (t ▸ ts) us e a = ap (λ r. r ++ all_names declared.Lexical (append ts us)) (no_lexical t (left (is_unscoped t) (are_unscoped ts) e)) ∙ unscoped_names ts us (right (is_unscoped t) (are_unscoped ts) e) a

-- ---- blocks

module _ (f : Free) (ps : Parts) (u : AreLoose ps f) where
  item_unscoped : (s : Sketch) → stands_well f AsItem s ≡ true → is_unscoped (filled ps s) ≡ true
  item_unscoped (part i) e = unscoped_among f ps u i e
  item_unscoped (under h ss) e = head_unscoped h (left (is_statement_head h) (all_stand_well f (asked_below h AsItem) 0 ss) e)
  item_unscoped (list is) e = absurd (cc e)

  block_names : (is : Items) → items_stand_well f AsItem is ≡ true → all_names declared.Lexical (items_filled ps is) ≡ []
  unfolding names_of
  block_names no_items e = refl
  block_names (item s is) e =
      let (x, y) = and_parts (stands_well f AsItem s) (items_stand_well f AsItem is) e in
      ap (λ r. r ++ all_names declared.Lexical (items_filled ps is)) (no_lexical (filled ps s) (item_unscoped s x)) ∙ block_names is y
  block_names (items i is) e =
      let (x, y) = and_parts (is_among f.lists_moved i) (items_stand_well f AsItem is) e in
      unscoped_names (list_at ps.lists i) (items_filled ps is) (lists_unscoped_among f ps u i x) (block_names is y)

  block_bodies : (is : Items) → items_stand_well f AsItem is ≡ true → NoneLexical (all_as_body false (items_filled ps is))
  block_bodies no_items e = tt
  block_bodies (item s is) e =
      let (x, y) = and_parts (stands_well f AsItem s) (items_stand_well f AsItem is) e in
      both_lexical (as_body false (filled ps s)) (all_as_body false (items_filled ps is)) (unscoped_body false (filled ps s) (item_unscoped s x)) (block_bodies is y)
  block_bodies (items i is) e =
      let (x, y) = and_parts (is_among f.lists_moved i) (items_stand_well f AsItem is) e in
      unscoped_bodies false (list_at ps.lists i) (items_filled ps is) (lists_unscoped_among f ps u i x) (block_bodies is y)

  no_clash : (t : Tree) → NoneLexical (as_body false t) → clashing [] (body_declarations false (0 ∷ []) t) ≡ []
  no_clash t a =
      let ds = body_declarations false (0 ∷ []) t in
      free_same (unplaced ds) ds (sym (unplaced_again ds)) (none_clash [] (unplaced ds) tt (subst NoneLexical (sym (body_is false (0 ∷ []) t)) a))

  block_plain : (ss : Sketches) → all_stand_well f (λ j. AsItems) 0 ss ≡ true → Plain Block (all_filled ps ss)
  unfolding names_of scope_declarations
  block_plain end e = (refl, no_clash absent tt)
  block_plain (list is ▹ ss) e =
      let (x, y) = and_parts (items_stand_well f AsItem is) (all_stand_well f (λ j. AsItems) 1 ss) e in
      (block_names is x, no_clash (listed (items_filled ps is)) (block_bodies is x))
  block_plain (part i ▹ ss) e = absurd (cc e)
  block_plain (under h qs ▹ ss) e = absurd (cc e)

  plain_head : (h : Head) (c : Asked) (ss : Sketches) → all_stand_well f (asked_below h c) 0 ss ≡ true → Plain h (all_filled ps ss)
  plain_head Block c ss e = block_plain ss e
  plain_head h c ss e = tt

  mutual
    pub is_plain : (c : Asked) (s : Sketch) → stands_well f c s ≡ true → IsPlain ps s
    is_plain c (part i) e = tt
    is_plain c (under h ss) e =
        let (x, y) = and_parts (stands_as c h) (all_stand_well f (asked_below h c) 0 ss) e in
        (plain_head h c ss y, are_plain (asked_below h c) 0 ss y)
    is_plain c (list is) e = items_plain (item_asked c) is (right (is_list_asked c) (items_stand_well f (item_asked c) is) e)

    pub are_plain : (cs : ℕ → Asked) (i : ℕ) (ss : Sketches) → all_stand_well f cs i ss ≡ true → ArePlain ps ss
    are_plain cs i end e = tt
    are_plain cs i (s ▹ ss) e =
        let (x, y) = and_parts (stands_well f (cs i) s) (all_stand_well f cs (suc i) ss) e in
        (is_plain (cs i) s x, are_plain cs (suc i) ss y)

    pub items_plain : (c : Asked) (is : Items) → items_stand_well f c is ≡ true → ItemsPlain ps is
    items_plain c no_items e = tt
    items_plain c (item s is) e =
        let (x, y) = and_parts (stands_well f c s) (items_stand_well f c is) e in
        (is_plain c s x, items_plain c is y)
    items_plain c (items i is) e = items_plain c is (right (are_loose f c i) (items_stand_well f c is) e)
