-- How a plan is shown to give a tree that is known.
use Rattle.std.proofs.Common.{◌≡◌, ℕ, suc, List, [], refl, ap, sym, ◌∙◌, subst, inl, inr, Bool, true, false, ◌&&◌, ◌||◌}
use Rattle.std.specs.Prelude.{◌⊎◌, ⊤, Option, Some, None, option_map, ◌==◌, not, is_some, if◌then◌else◌, codes}
use Rattle.std.proofs.Math.Dec.{eqb-suc-zero}
use Rattle.std.proofs.lemmas.Bool.{and_from, and_parts, not-true, false≢true, true≢false}
use Rattle.serde_json.specs.Data.{Data, null, boolean, number, string, array, object, Items, no_items, item}
use Rattle.serde_json.specs.Find.{as_null}
use Rattle.mini_model.specs.declared.name.Name.{Name}
use Rattle.mini_model.specs.declared.shape.Shape.{Shape}
use Rattle.mini_model.specs.declared.shape.Shape.TheVariants as shape
use Rattle.mini_model.specs.Paths.{append}
use Rattle.mini_model.specs.Tree.{Tree, node, Trees, none, ◌▸◌, absent, is_absent, count}
use Rattle.mini_accept.specs.WellShaped as shaped
use Rattle.mini_accept.specs.WellShaped.{Class, Slot, fits, fill, these, slots_of, expression_slots, is_strict_in, is_numbered, has_its_number, has_names, has_plain_fields, has_its_parts, is_optional, none_if, unchained_slots, is_text}
use Rattle.mini_accept.specs.Places.{Step, place, Place, at}
use Rattle.mini_accept.specs.Fields.{◌>>=◌, require, list_at, item_count, has_type, no_item}
use Rattle.mini_accept.specs.Standing.{has_true}
use Rattle.mini_accept.specs.Plans.{Part, hole, tree_at, inner_at, checked, Child, Plan, ItemPart, parts_from, list, list_child, or_rest, or_hole}
use Rattle.mini_accept.specs.Expressions.{is_link, link_key, has_mark, has_mark_at}
use Rattle.mini_accept.proofs.Fitting.{Fits, Seen, Expressed, Of, trees_of, OfParts, trees_of_parts, OfChildren, trees_of_children, PartFits, item_fits, AllFit, IsEnd, AllFitOrLast, ChildrenFit, children_filled, parts_by_shape}
use Rattle.mini_accept.proofs.Gathered.{has_number, Numbered, Whole, WholeIf}
use Rattle.mini_accept.proofs.Types.{Typed, typed_has, is_expression_place}

-- ---- what an entry does before it plans

pub bind_whole : {A : Type 0} (strict : Bool) (p : Place) (d : Data) (o : Option A) (f : A → Option Plan) → ((x : A) → o ≡ Some x → WholeIf strict p d (f x)) → WholeIf strict p d (o >>= f)
bind_whole strict p d None f h = record { known = tt }
bind_whole strict p d (Some x) f h = h x refl

pub require_whole : (strict : Bool) (p : Place) (d : Data) (b : Bool) (o : Option Plan) → (b ≡ true → WholeIf strict p d o) → WholeIf strict p d (require b o)
require_whole strict p d true o h = h refl
require_whole strict p d false o h = record { known = tt }

pub either_whole : (strict : Bool) (p : Place) (d : Data) (b : Bool) (x y : Option Plan) → (b ≡ true → WholeIf strict p d x) → (b ≡ false → WholeIf strict p d y) → WholeIf strict p d (if b then x else y)
either_whole strict p d true x y h k = h refl
either_whole strict p d false x y h k = k refl

map_whole : (strict : Bool) (p : Place) (d : Data) (part : ItemPart) (key : List ℕ) (o : Option Items) (f : Child → Option Plan) → ((ds : Items) → WholeIf strict p d (f (list part key ds))) → WholeIf strict p d (option_map (list part key) o >>= f)
map_whole strict p d part key None f h = record { known = tt }
map_whole strict p d part key (Some ds) f h = h ds

pub list_whole : (strict : Bool) (p : Place) (d : Data) (part : ItemPart) (key : List ℕ) (f : Child → Option Plan) → ((ds : Items) → WholeIf strict p d (f (list part key ds))) → WholeIf strict p d (list_child part key d >>= f)
list_whole strict p d part key f h = map_whole strict p d part key (list_at key d) f h

-- ---- nodes

filled_by : (strict : Bool) (o : Option (List Slot)) (slots : List Slot) (ts : Trees) → o ≡ Some slots → fill strict (these slots) ts ≡ true → fill strict (shaped.filling_by o) ts ≡ true
filled_by strict o slots ts e f = subst (λ v. fill strict (shaped.filling_by v) ts ≡ true) (sym e) f

-- a node whose children fill its slots
pub fits_filled : (strict : Bool) (c : Class) (h : Shape) (xs : List Name) (n : ℕ) (ts : Trees) (slots : List Slot) → slots_of strict c h ≡ Some slots → has_its_number c h n ≡ true → has_names h xs ≡ true → has_plain_fields h ≡ true
    → has_its_parts c h ts ≡ true → fill (is_strict_in strict h) (these slots) ts ≡ true → fits strict (shaped.one c) (node h xs n ts) ≡ true
fits_filled strict c h xs n ts slots stands numbered names plain parts filled =
    and_from _ _ (and_from (has_names h xs) _ names (and_from (has_its_number c h n) _ numbered (and_from (has_plain_fields h) _ plain parts)))
    (filled_by (is_strict_in strict h) (slots_of strict c h) slots ts stands filled)

pub fits_at : (strict : Bool) (c : Class) (h : Shape) (xs : List Name) (n : ℕ) (d : Data) (cs : List Child) (slots : List Slot) (w : OfChildren (is_strict_in strict h) d cs)
    → slots_of strict c h ≡ Some slots → has_its_number c h n ≡ true → has_names h xs ≡ true → has_plain_fields h ≡ true
    → has_its_parts c h (trees_of_children (is_strict_in strict h) d cs w) ≡ true → ChildrenFit slots cs → fits strict (shaped.one c) (node h xs n (trees_of_children (is_strict_in strict h) d cs w)) ≡ true
fits_at strict c h xs n d cs slots w stands numbered names plain parts fit =
    fits_filled strict c h xs n (trees_of_children (is_strict_in strict h) d cs w) slots stands numbered names plain parts (children_filled (is_strict_in strict h) d slots cs w fit)

-- ---- parts

absent_slots : (strict : Bool) (c : Class) → slots_of strict c shape.Absent ≡ None
absent_slots true (shaped.a_statement shaped.in_module) = refl
absent_slots true (shaped.a_statement depth) = refl
absent_slots false (shaped.a_statement shaped.in_module) = refl
absent_slots false (shaped.a_statement depth) = refl
absent_slots strict (shaped.a_key true) = refl
absent_slots strict (shaped.a_private_or_key true) = refl
absent_slots strict (shaped.an_inner_key true) = refl
absent_slots strict c = refl

no_absent : (strict : Bool) (c : Class) (xs : List Name) (n : ℕ) (ts : Trees) → fits strict (shaped.one c) (node shape.Absent xs n ts) ≡ true → ⊥
no_absent strict c xs n ts e = false≢true (subst (λ o. fill strict (shaped.filling_by o) ts ≡ true) (absent_slots strict c) (and_parts _ (fill strict (shaped.filling_by (slots_of strict c shape.Absent)) ts) e).1)

-- what stands where a part may be absent
pub absent_or : (strict : Bool) (c : Class) (t : Tree) → fits strict (shaped.one c) t ≡ true → fits strict (shaped.one_or_absent c) t ≡ true
absent_or strict c (node shape.Absent xs n ts) e = absurd (no_absent strict c xs n ts e)
absent_or strict c (node h xs n ts) e = e

pub not_absent : (strict : Bool) (c : Class) (t : Tree) → fits strict (shaped.one c) t ≡ true → is_absent t ≡ false
not_absent strict c (node shape.Absent xs n ts) e = absurd (no_absent strict c xs n ts e)
not_absent strict c (node h xs n ts) e = refl

pub if_fits : (s : Slot) (b : Bool) (x y : Part) → (b ≡ true → PartFits s x) → (b ≡ false → PartFits s y) → PartFits s (if b then x else y)
if_fits s true x y f g = f refl
if_fits s false x y f g = g refl

pub inner_one : (b : Bool) → b ≡ true → (b && true) ≡ true
inner_one b e = and_from b true e refl

-- an inner expression, which has a number
pub inner_fits : (n : ℕ) (b : Bool) → b ≡ true → ((not (suc n == 0) && true) && (b && true)) ≡ true
inner_fits n b e = rw (eqb-suc-zero n, e) refl

pub absent_fits : (strict : Bool) (c : Class) → fits strict (shaped.one_or_absent c) absent ≡ true
absent_fits strict c = inner_one _ (parts_by_shape c shape.Absent none refl)

-- a part that may be absent
pub optional_fits : (c : Class) (b : Bool) (q : Step) (p : Place) → PartFits (shaped.one c) (tree_at q p) → PartFits (shaped.one_or_absent c) (if b then tree_at q p else hole)
optional_fits c true q p f = λ strict t h. absent_or strict c t (f strict t h)
optional_fits c false q p f = λ strict. absent_fits strict c

pub optional_inner_fits : (c : Class) (b : Bool) (q : Step) (p : Place) → PartFits (shaped.one c) (inner_at q p) → PartFits (shaped.one_or_absent c) (if b then inner_at q p else hole)
optional_inner_fits c true q p f = λ strict n t h. absent_or strict c (node shape.InnerExpression [] (suc n) (t ▸ none)) (f strict n t h)
optional_inner_fits c false q p f = λ strict. absent_fits strict c

-- ---- items

pub all_fit : (s : Slot) (part : ItemPart) (key : List ℕ) (i : ℕ) (ds : Items) → ((last : Bool) (d : Data) (q : Step) → PartFits s (part last d q)) → AllFit s (parts_from part key i ds)
all_fit s part key i no_items f = tt
all_fit s part key i (item d ds) f = (item_fits s (part (no_item ds) d (place key i)) (f (no_item ds) d (place key i)), all_fit s part key (suc i) ds f)

-- the last item fills the slot, or it is a rest and fills the other
last_fits : (s l : Slot) (b : Bool) (x y : Part) → PartFits l x → PartFits s y → PartFits s (if b then x else y) ⊎ (IsEnd [] × PartFits l (if b then x else y))
last_fits s l true x y f g = inr (tt, f)
last_fits s l false x y f g = inl g

pub rest_fit : (s l : Slot) (part : ItemPart) (r : Class) (key : List ℕ) (i : ℕ) (ds : Items) → ((last : Bool) (d : Data) (q : Step) → PartFits s (part last d q)) → ((q : Step) → PartFits l (tree_at q (at r)))
    → AllFitOrLast s l (parts_from (or_rest part r) key i ds)
rest_fit s l part r key i no_items f g = tt
rest_fit s l part r key i (item d no_items) f g = (last_fits s l (has_type (codes "RestElement") d) (tree_at (place key i) (at r)) (part true d (place key i)) (g (place key i)) (f true d (place key i)), tt)
rest_fit s l part r key i (item d (item e ds)) f g = (inl (f false d (place key i)), rest_fit s l part r key (suc i) (item e ds) f g)

-- the same where null is a hole
pub holes_fit : (c : Class) (l : Slot) (part : ItemPart) (r : Class) (key : List ℕ) (i : ℕ) (ds : Items) → ((last : Bool) (d : Data) (q : Step) → PartFits (shaped.one_or_absent c) (part last d q)) → ((q : Step) → PartFits l (tree_at q (at r)))
    → AllFitOrLast (shaped.one_or_absent c) l (parts_from (or_hole (or_rest part r)) key i ds)
holes_fit c l part r key i no_items f g = tt
holes_fit c l part r key i (item d no_items) f g = (hole_or_last (is_some (as_null d)) (has_type (codes "RestElement") d), tt)
  where
    hole_or_last : (a b : Bool) → PartFits (shaped.one_or_absent c) (if a then hole else (if b then tree_at (place key i) (at r) else part true d (place key i))) ⊎ (IsEnd [] × PartFits l (if a then hole else (if b then tree_at (place key i) (at r) else part true d (place key i))))
    hole_or_last true b = inl (λ strict. absent_fits strict c)
    hole_or_last false b = last_fits (shaped.one_or_absent c) l b (tree_at (place key i) (at r)) (part true d (place key i)) (g (place key i)) (f true d (place key i))
holes_fit c l part r key i (item d (item e ds)) f g =
    (inl (if_fits (shaped.one_or_absent c) (is_some (as_null d)) hole (part false d (place key i)) (λ y strict. absent_fits strict c) (λ n. f false d (place key i))), holes_fit c l part r key (suc i) (item e ds) f g)

-- how many trees the items are
abbrev pub IsTree : Part → Type 0
IsTree (checked q p) = ⊥
IsTree x = ⊤

one_more : (strict : Bool) (d : Data) (x : Part) (w : Of strict d x) (ts : Trees) → IsTree x → count (append (trees_of strict d x w) ts) ≡ suc (count ts)
one_more strict d hole w ts is = refl
one_more strict d (tree_at q p) w ts is = refl
one_more strict d (inner_at q p) w ts is = refl
one_more strict d (checked q p) w ts is = absurd is

pub items_counted : (strict : Bool) (d : Data) (part : ItemPart) (key : List ℕ) (i : ℕ) (ds : Items) (w : OfParts strict d (parts_from part key i ds)) → ((last : Bool) (e : Data) (q : Step) → IsTree (part last e q))
    → count (trees_of_parts strict d (parts_from part key i ds) w) ≡ item_count ds
items_counted strict d part key i no_items w are = refl
items_counted strict d part key i (item e ds) w are =
    one_more strict d (part (no_item ds) e (place key i)) w.0 (trees_of_parts strict d (parts_from part key (suc i) ds) w.1) (are (no_item ds) e (place key i)) ∙ ap suc (items_counted strict d part key (suc i) ds w.1 are)

-- ---- expressions

pub none_if_false : (b : Bool) (o : Option (List Slot)) → b ≡ false → none_if b o ≡ o
none_if_false true o e = absurd (true≢false e)
none_if_false false o e = refl

-- none of the nodes whose parts go by more than the places of expressions
pub record Aside (d : Data) : Type 0 where
  pub call : has_type (codes "CallExpression") d ≡ false
  pub member : has_type (codes "MemberExpression") d ≡ false
  pub block : has_type (codes "BlockStatement") d ≡ false
  pub literal : has_type (codes "Literal") d ≡ false
  pub name : has_type (codes "Identifier") d ≡ false
  pub default : has_type (codes "AssignmentPattern") d ≡ false

abbrev pub is_aside : List ℕ → Bool
is_aside s =
    not (is_text (codes "CallExpression") s) && (not (is_text (codes "MemberExpression") s) && (not (is_text (codes "BlockStatement") s)
    && (not (is_text (codes "Literal") s) && (not (is_text (codes "Identifier") s) && not (is_text (codes "AssignmentPattern") s)))))

typed_not : (d : Data) (s w : List ℕ) → Typed d s → not (is_text w s) ≡ true → has_type w d ≡ false
typed_not d s w typed e = typed_has d s w typed ∙ not-true (is_text w s) e

pub aside : (d : Data) (s : List ℕ) → Typed d s → is_aside s ≡ true → Aside d
aside d s typed e =
    let (a, r1) = and_parts _ _ e in
    let (b, r2) = and_parts _ _ r1 in
    let (c, r3) = and_parts _ _ r2 in
    let (l, r4) = and_parts _ _ r3 in
    let (i, f) = and_parts _ _ r4 in
    record { call = typed_not d s (codes "CallExpression") typed a; member = typed_not d s (codes "MemberExpression") typed b; block = typed_not d s (codes "BlockStatement") typed c; literal = typed_not d s (codes "Literal") typed l; name = typed_not d s (codes "Identifier") typed i; default = typed_not d s (codes "AssignmentPattern") typed f }

no_link : (d : Data) → has_type (codes "CallExpression") d ≡ false → has_type (codes "MemberExpression") d ≡ false → link_key d ≡ []
no_link d a b = rw (a, b) refl

pub unmarked : (d : Data) → has_type (codes "CallExpression") d ≡ false → has_type (codes "MemberExpression") d ≡ false → has_mark d ≡ false
unmarked null a b = refl
unmarked (boolean x) a b = refl
unmarked (number x) a b = refl
unmarked (string x) a b = refl
unmarked (array x) a b = refl
unmarked (object ms) a b = ap (λ k. not (is_text k []) && (has_true (codes "optional") (object ms) || has_mark_at k ms)) (no_link (object ms) a b)

-- nothing has to be known of it where an expression stands, but that it is no positive number
expressed : (d : Data) (t : Tree) → Aside d → shaped.is_not_positive_number t ≡ true → Expressed d t
expressed d t a positive = record {
  not_positive = λ e. positive;
  safe = λ z e. absurd (cc (a.literal, e));
  named = λ s e. absurd (cc (a.default, a.name, e));
}

pub seen_aside : (p : Place) (d : Data) (t : Tree) → is_expression_place p ≡ true → Aside d → shaped.is_not_positive_number t ≡ true → Seen p d t
seen_aside (at shaped.an_init) d t e a positive = tt
seen_aside (at shaped.an_arrow_body) d t e a positive = λ b. absurd (true≢false (sym b ∙ a.block))
seen_aside (at shaped.an_expression) d t e a positive = expressed d t a positive
seen_aside (at shaped.a_link) d t e a positive = λ m. absurd (true≢false (sym m ∙ unmarked d a.call a.member))
seen_aside (at shaped.an_argument) d t e a positive = tt
seen_aside (at (shaped.a_key true)) d t e a positive = tt
seen_aside (at shaped.a_default_export) d t e a positive = tt
seen_aside p d t e a positive = absurd (false≢true e)

-- the plan of an expression
pub record Expression (strict : Bool) (d : Data) (h : Shape) (cs : List Child) : Type 0 where
  pub slots : List Slot
  pub loose : expression_slots shaped.an_expression h ≡ Some slots
  pub bare : is_optional h ≡ false
  pub names : has_names h [] ≡ true
  pub plain : OfChildren (is_strict_in strict h) d cs → has_plain_fields h ≡ true
  pub parts : (w : OfChildren (is_strict_in strict h) d cs) → has_its_parts shaped.a_program h (trees_of_children (is_strict_in strict h) d cs w) ≡ true
  pub filled : (w : OfChildren (is_strict_in strict h) d cs) → fill (is_strict_in strict h) (these slots) (trees_of_children (is_strict_in strict h) d cs w) ≡ true

unchained : (h : Shape) (slots : List Slot) → expression_slots shaped.an_expression h ≡ Some slots → is_optional h ≡ false → unchained_slots h ≡ Some slots
unchained h slots e b = none_if_false (is_optional h) (expression_slots shaped.an_expression h) b ∙ e

init_slots : (strict : Bool) (h : Shape) (slots : List Slot) → expression_slots shaped.an_expression h ≡ Some slots → is_optional h ≡ false → slots_of strict shaped.an_init h ≡ Some slots
init_slots strict (shape.VariableDeclaration k) slots e b = absurd (cc e)
init_slots strict h slots e b = unchained h slots e b

argument_slots : (strict : Bool) (h : Shape) (slots : List Slot) → expression_slots shaped.an_expression h ≡ Some slots → is_optional h ≡ false → slots_of strict shaped.an_argument h ≡ Some slots
argument_slots strict shape.SpreadElement slots e b = absurd (cc e)
argument_slots strict h slots e b = unchained h slots e b

body_slots : (strict : Bool) (h : Shape) (slots : List Slot) → expression_slots shaped.an_expression h ≡ Some slots → is_optional h ≡ false → slots_of strict shaped.an_arrow_body h ≡ Some slots
body_slots strict shape.FunctionBody slots e b = absurd (cc e)
body_slots strict h slots e b = unchained h slots e b

export_slots : (strict : Bool) (h : Shape) (slots : List Slot) → expression_slots shaped.an_expression h ≡ Some slots → is_optional h ≡ false → slots_of strict shaped.a_default_export h ≡ Some slots
export_slots strict (shape.Function true g ds) slots e b = absurd (cc e)
export_slots strict (shape.Function false g ds) slots e b = e
export_slots strict (shape.Class true) slots e b = absurd (cc e)
export_slots strict (shape.Class false) slots e b = e
export_slots strict h slots e b = unchained h slots e b

-- a node that is no call and no member has the same slots in a chain
link_slots : (strict : Bool) (h : Shape) (slots : List Slot) → shaped.is_chained h ≡ false → expression_slots shaped.an_expression h ≡ Some slots → slots_of strict shaped.a_link h ≡ Some slots
link_slots strict (shape.CallExpression o) slots c e = absurd (true≢false c)
link_slots strict (shape.StaticMemberExpression o) slots c e = absurd (true≢false c)
link_slots strict (shape.ComputedMemberExpression o) slots c e = absurd (true≢false c)
link_slots strict (shape.PrivateFieldExpression o) slots c e = absurd (true≢false c)
link_slots strict h slots c e = e

abbrev pub is_program_shape : Shape → Bool
is_program_shape (shape.Program m ds) = true
is_program_shape h = false

pub own_number : (c : Class) (h : Shape) (n : ℕ) → is_program_shape h ≡ false → has_number (is_numbered c h) n ≡ true → has_its_number c h n ≡ true
own_number c (shape.Program m ds) n e numbered = absurd (true≢false e)
own_number c h n e numbered = numbered

pub no_program : (c : Class) (h : Shape) (slots : List Slot) → expression_slots c h ≡ Some slots → is_program_shape h ≡ false
no_program c (shape.Program m ds) slots e = absurd (cc e)
no_program c h slots e = refl

pub expression_fits : (strict : Bool) (p : Place) (d : Data) (h : Shape) (cs : List Child) (x : Expression strict d h cs) → is_expression_place p ≡ true → (is_link p && shaped.is_chained h) ≡ false
    → (w : OfChildren (is_strict_in strict h) d cs) (n : ℕ) → Numbered p h n → Fits strict p (node h [] n (trees_of_children (is_strict_in strict h) d cs w))
expression_fits strict (at shaped.an_init) d h cs x e c w n numbered = fits_filled strict shaped.an_init h [] n (trees_of_children (is_strict_in strict h) d cs w) x.slots (init_slots strict h x.slots x.loose x.bare) (own_number shaped.an_init h n (no_program shaped.an_expression h x.slots x.loose) numbered) x.names (x.plain w) (x.parts w) (x.filled w)
expression_fits strict (at shaped.an_arrow_body) d h cs x e c w n numbered = fits_filled strict shaped.an_arrow_body h [] n (trees_of_children (is_strict_in strict h) d cs w) x.slots (body_slots strict h x.slots x.loose x.bare) (own_number shaped.an_arrow_body h n (no_program shaped.an_expression h x.slots x.loose) numbered) x.names (x.plain w) (x.parts w) (x.filled w)
expression_fits strict (at shaped.an_expression) d h cs x e c w n numbered = fits_filled strict shaped.an_expression h [] n (trees_of_children (is_strict_in strict h) d cs w) x.slots (unchained h x.slots x.loose x.bare) (own_number shaped.an_expression h n (no_program shaped.an_expression h x.slots x.loose) numbered) x.names (x.plain w) (x.parts w) (x.filled w)
expression_fits strict (at shaped.a_link) d h cs x e c w n numbered = fits_filled strict shaped.a_link h [] n (trees_of_children (is_strict_in strict h) d cs w) x.slots (link_slots strict h x.slots c x.loose) (own_number shaped.a_link h n (no_program shaped.an_expression h x.slots x.loose) numbered) x.names (x.plain w) (x.parts w) (x.filled w)
expression_fits strict (at shaped.an_argument) d h cs x e c w n numbered = fits_filled strict shaped.an_argument h [] n (trees_of_children (is_strict_in strict h) d cs w) x.slots (argument_slots strict h x.slots x.loose x.bare) (own_number shaped.an_argument h n (no_program shaped.an_expression h x.slots x.loose) numbered) x.names (x.plain w) (x.parts w) (x.filled w)
expression_fits strict (at (shaped.a_key true)) d h cs x e c w n numbered = fits_filled strict (shaped.a_key true) h [] n (trees_of_children (is_strict_in strict h) d cs w) x.slots (unchained h x.slots x.loose x.bare) (own_number (shaped.a_key true) h n (no_program shaped.an_expression h x.slots x.loose) numbered) x.names (x.plain w) (x.parts w) (x.filled w)
expression_fits strict (at shaped.a_default_export) d h cs x e c w n numbered = fits_filled strict shaped.a_default_export h [] n (trees_of_children (is_strict_in strict h) d cs w) x.slots (export_slots strict h x.slots x.loose x.bare) (own_number shaped.a_default_export h n (no_program shaped.an_expression h x.slots x.loose) numbered) x.names (x.plain w) (x.parts w) (x.filled w)
expression_fits strict p d h cs x e c w n numbered = absurd (false≢true e)

abbrev pub taken : Option (List Slot) → List Slot
taken None = []
taken (Some slots) = slots

taken_some : (o : Option (List Slot)) → is_some o ≡ true → o ≡ Some (taken o)
taken_some None e = absurd (false≢true e)
taken_some (Some slots) e = refl

abbrev pub is_no_positive_number : Shape → Bool
is_no_positive_number (shape.NumericLiteral n) = not (shaped.is_positive n)
is_no_positive_number h = true

no_positive_number : (h : Shape) (n : ℕ) (ts : Trees) → shaped.is_not_positive_number (node h [] n ts) ≡ is_no_positive_number h
no_positive_number (shape.NumericLiteral z) n ts = refl
no_positive_number h n ts = refl

-- the shape of an expression that may stand wherever one may
abbrev pub is_plain : Shape → Bool
is_plain h = not (shaped.is_chained h) && (not (is_optional h) && (has_names h [] && (is_some (expression_slots shaped.an_expression h) && is_no_positive_number h)))

pub unlinked : (a b : Bool) → b ≡ false → (a && b) ≡ false
unlinked true b e = e
unlinked false b e = refl

-- the plan of an expression of no name that no other node looks into
pub filled_whole : (strict : Bool) (p : Place) (d : Data) → is_expression_place p ≡ true → Aside d → (h : Shape) (cs : List Child) → is_plain h ≡ true
    → (OfChildren (is_strict_in strict h) d cs → has_plain_fields h ≡ true)
    → ((w : OfChildren (is_strict_in strict h) d cs) → has_its_parts shaped.a_program h (trees_of_children (is_strict_in strict h) d cs w) ≡ true)
    → ((w : OfChildren (is_strict_in strict h) d cs) → fill (is_strict_in strict h) (these (taken (expression_slots shaped.an_expression h))) (trees_of_children (is_strict_in strict h) d cs w) ≡ true)
    → Whole strict p d (record { shape = h; names = []; children = cs })
filled_whole strict p d e a h cs is plain parts filled w n numbered =
    let (chained, r1) = and_parts _ _ is in
    let (bare, r2) = and_parts _ _ r1 in
    let (names, r3) = and_parts _ _ r2 in
    let (some, positive) = and_parts _ _ r3 in
    let x : Expression strict d h cs = record { slots = taken (expression_slots shaped.an_expression h); loose = taken_some (expression_slots shaped.an_expression h) some; bare = not-true _ bare; names = names; plain = plain; parts = parts; filled = filled } in
    (expression_fits strict p d h cs x e (unlinked (is_link p) (shaped.is_chained h) (not-true _ chained)) w n numbered, seen_aside p d (node h [] n (trees_of_children (is_strict_in strict h) d cs w)) e a (no_positive_number h n (trees_of_children (is_strict_in strict h) d cs w) ∙ positive))

pub plain_whole : (strict : Bool) (p : Place) (d : Data) → is_expression_place p ≡ true → Aside d → (h : Shape) (cs : List Child) → is_plain h ≡ true
    → (OfChildren (is_strict_in strict h) d cs → has_plain_fields h ≡ true)
    → ((w : OfChildren (is_strict_in strict h) d cs) → has_its_parts shaped.a_program h (trees_of_children (is_strict_in strict h) d cs w) ≡ true)
    → ChildrenFit (taken (expression_slots shaped.an_expression h)) cs → Whole strict p d (record { shape = h; names = []; children = cs })
plain_whole strict p d e a h cs is plain parts fit = filled_whole strict p d e a h cs is plain parts (λ w. children_filled (is_strict_in strict h) d (taken (expression_slots shaped.an_expression h)) cs w fit)

-- ---- other nodes

-- the plan of a node in a place of a class
pub whole_by : (strict : Bool) (p : Place) (c : Class) (d : Data) (h : Shape) (xs : List Name) (cs : List Child) (slots : List Slot) → ((t : Tree) → fits strict (shaped.one c) t ≡ true → Fits strict p t)
    → ((n : ℕ) → Numbered p h n → has_its_number c h n ≡ true) → slots_of strict c h ≡ Some slots → has_names h xs ≡ true → has_plain_fields h ≡ true
    → ((w : OfChildren (is_strict_in strict h) d cs) → has_its_parts c h (trees_of_children (is_strict_in strict h) d cs w) ≡ true) → ChildrenFit slots cs
    → ((w : OfChildren (is_strict_in strict h) d cs) (n : ℕ) → Seen p d (node h xs n (trees_of_children (is_strict_in strict h) d cs w)))
    → WholeIf strict p d (Some (record { shape = h; names = xs; children = cs }))
whole_by strict p c d h xs cs slots there counted stands names plain parts fit seen = record {
  known = λ w n numbered.
      (there (node h xs n (trees_of_children (is_strict_in strict h) d cs w)) (fits_at strict c h xs n d cs slots w stands (counted n numbered) names plain (parts w) fit), seen w n);
}

-- the same where the slots compute
pub whole_at : (strict : Bool) (p : Place) (c : Class) (d : Data) (h : Shape) (xs : List Name) (cs : List Child) → ((t : Tree) → fits strict (shaped.one c) t ≡ true → Fits strict p t)
    → ((n : ℕ) → Numbered p h n → has_its_number c h n ≡ true) → (is_some (slots_of strict c h) && has_names h xs) ≡ true → has_plain_fields h ≡ true
    → ((w : OfChildren (is_strict_in strict h) d cs) → has_its_parts c h (trees_of_children (is_strict_in strict h) d cs w) ≡ true) → ChildrenFit (taken (slots_of strict c h)) cs
    → ((w : OfChildren (is_strict_in strict h) d cs) (n : ℕ) → Seen p d (node h xs n (trees_of_children (is_strict_in strict h) d cs w)))
    → WholeIf strict p d (Some (record { shape = h; names = xs; children = cs }))
whole_at strict p c d h xs cs there counted is plain parts fit seen =
    let (some, names) = and_parts (is_some (slots_of strict c h)) (has_names h xs) is in
    whole_by strict p c d h xs cs (taken (slots_of strict c h)) there counted (taken_some (slots_of strict c h) some) names plain parts fit seen

-- a place by its equation
pub whole_there : (strict : Bool) (p q : Place) (d : Data) (o : Option Plan) → p ≡ q → WholeIf strict q d o → WholeIf strict p d o
whole_there strict p q d o e x = subst (λ v. WholeIf strict v d o) (sym e) x
