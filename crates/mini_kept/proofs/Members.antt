-- Among the parameters of a function stands no statement, no expression that holds others, no member of a class and no property that is
-- assigned to, outside inner expressions.
use Rattle.std.specs.Prelude.{ℕ, ◌≡◌, refl, ◌⊎◌, ◌||◌, ◌&&◌, not, Bool, true, false, List, [], ◌∷◌, Option, Some, None, pos, negsuc, if◌then◌else◌}
use Rattle.std.proofs.Common.{sym, inl, inr}
use Rattle.std.proofs.lemmas.Bool.{false≢true}
use Rattle.mini_model.specs.declared.name.Name.{Name}
use Rattle.mini_model.specs.declared.shape.Shape.{Shape}
use Rattle.mini_model.specs.declared.shape.Shape.TheVariants as shape
use Rattle.mini_model.specs.Tree.{Tree, Trees, node, none, ◌▸◌}
use Rattle.mini_accept.specs.WellShaped.{in_module, in_body, nested, Class, a_statement, a_method, a_parameter, a_key, a_private_or_key, an_inner, an_inner_key, a_pattern, a_pattern_element, a_pattern_property, a_pattern_rest, Slot, one, one_or_absent, many, many_or_holes, many_and_rest, many_or_holes_and_rest, quasis, Filling, refused, these, each, each_or_last, pieces, slots_of, filling, filling_by, class_of, is_whole, is_strict_in, is_last, fits, fill}
use Rattle.mini_laws.specs.declared.names.Use.{Use}
use Rattle.mini_laws.specs.DeclaredNames.{is_inner}
use Rattle.mini_model.specs.declared.kind.VariableDeclarationKind.{VariableDeclarationKind}
use Rattle.mini_model.specs.declared.kind.VariableDeclarationKind.TheVariants.{Var, Let, Const}
use Rattle.mini_laws.specs.declared.names.Opening.TheVariants as opening
use Rattle.mini_laws.specs.Scopes.{is_alone, variable_opening, opening_of}
use Rattle.mini_kept.specs.KeepsLoosely.{is_member, has_member, any_member}
use Rattle.mini_kept.proofs.Bools.{left, right}
use Rattle.mini_kept.proofs.Expressions.{refused_here}
use Rattle.mini_kept.proofs.LooseScopes.{Merges}

-- ---- the classes of what binds

abbrev binds : Class → Bool
binds a_parameter = true
binds (an_inner c) = true
binds (an_inner_key computed) = true
binds a_pattern = true
binds a_pattern_element = true
binds a_pattern_property = true
binds a_pattern_rest = true
binds c = false

abbrev binds_slot : Slot → Bool
binds_slot (one c) = binds c
binds_slot (one_or_absent c) = binds c
binds_slot (many c) = binds c
binds_slot (many_or_holes c) = binds c
binds_slot (many_and_rest c rest) = binds c && binds rest
binds_slot (many_or_holes_and_rest c rest) = binds c && binds rest
binds_slot (quasis g) = false

abbrev bind_slots : List Slot → Bool
bind_slots [] = true
bind_slots (s ∷ ss) = binds_slot s && bind_slots ss

abbrev bind_by : Bool → Option (List Slot) → Bool
bind_by member None = true
bind_by member (Some ss) = not member && bind_slots ss

data Binding : Class → Type 0 where
  the_parameter : Binding a_parameter
  the_inner : (c : Class) → Binding (an_inner c)
  the_key : (computed : Bool) → Binding (an_inner_key computed)
  the_pattern : Binding a_pattern
  the_element : Binding a_pattern_element
  the_property : Binding a_pattern_property
  the_rest : Binding a_pattern_rest

binding : (c : Class) → binds c ≡ true → Binding c
binding a_parameter e = the_parameter
binding (an_inner c) e = the_inner c
binding (an_inner_key computed) e = the_key computed
binding a_pattern e = the_pattern
binding a_pattern_element e = the_element
binding a_pattern_property e = the_property
binding a_pattern_rest e = the_rest
binding c e = absurd (false≢true e)

rows : (c : Class) → Binding c → (strict : Bool) (h : Shape) → (is_inner h || bind_by (is_member h) (slots_of strict c h)) ≡ true
rows _ the_rest strict shape.Absent = refl
rows _ (the_key true) strict shape.Absent = refl
rows _ (the_key false) strict shape.Absent = refl
rows c b strict (shape.NumericLiteral (pos n)) = refl
rows c b strict (shape.NumericLiteral (negsuc n)) = refl
rows c b strict h = refl

-- ---- what fills their slots

abbrev Bound : List Slot → Type 0
Bound [] = Unit {0}
Bound (s ∷ ss) = (binds_slot s ≡ true) × Bound ss

abbrev Bind : Filling → Type 0
Bind refused = Unit {0}
Bind (these ss) = Bound ss
Bind (each s) = binds_slot s ≡ true
Bind (each_or_last s r) = (binds_slot s ≡ true) × (binds_slot r ≡ true)
Bind (pieces g) = ⊥

bound : (ss : List Slot) → bind_slots ss ≡ true → Bound ss
bound [] e = tt
bound (s ∷ ss) e = (left (binds_slot s) (bind_slots ss) e, bound ss (right (binds_slot s) (bind_slots ss) e))

abbrev Plain : Shape → Filling → Type 0
Plain h g = (g ≡ refused) ⊎ ((is_member h ≡ false) × Bind g)

not_true : (b : Bool) → not b ≡ true → b ≡ false
not_true true e = absurd (false≢true e)
not_true false e = refl

by_slots : (h : Shape) (o : Option (List Slot)) → bind_by (is_member h) o ≡ true → Plain h (filling_by o)
by_slots h None e = inl refl
by_slots h (Some ss) e = inr (not_true (is_member h) (left (not (is_member h)) (bind_slots ss) e), bound ss (right (not (is_member h)) (bind_slots ss) e))

outer : (a b : Bool) → a ≡ false → (a || b) ≡ true → b ≡ true
outer true b e f = absurd (false≢true (sym e))
outer false b e f = f

in_class : (strict : Bool) (c : Class) (h : Shape) → binds c ≡ true → is_inner h ≡ false → Plain h (filling_by (slots_of strict c h))
in_class strict c h q e = by_slots h (slots_of strict c h) (outer (is_inner h) (bind_by (is_member h) (slots_of strict c h)) e (rows c (binding c q) strict h))

plain : (strict : Bool) (s : Slot) (h : Shape) → binds_slot s ≡ true → is_inner h ≡ false → Plain h (filling strict s h)
plain strict (one c) h q e = in_class strict c h q e
plain strict (one_or_absent c) shape.Absent q e = inr (refl, tt)
plain strict (one_or_absent c) h q e = in_class strict c h q e
plain strict (many c) shape.Listed q e = inr (refl, q)
plain strict (many_or_holes c) shape.Listed q e = inr (refl, q)
plain strict (many_and_rest c rest) shape.Listed q e = inr (refl, (left (binds c) (binds rest) q, right (binds c) (binds rest) q))
plain strict (many_or_holes_and_rest c rest) shape.Listed q e = inr (refl, (left (binds c) (binds rest) q, right (binds c) (binds rest) q))
plain strict (quasis g) h q e = absurd (false≢true q)
plain strict s h q e = inl refl

neither : (a b : Bool) → a ≡ false → b ≡ false → (a || b) ≡ false
neither true b e f = absurd (false≢true (sym e))
neither false b e f = f

filled_plain : (strict : Bool) (s : Slot) (h : Shape) (xs : List Name) (n : ℕ) (ts : Trees) → binds_slot s ≡ true → is_inner h ≡ false → fits strict s (node h xs n ts) ≡ true → (is_member h ≡ false) × Bind (filling strict s h)
filled_plain strict s h xs n ts q k e = by (plain strict s h q k)
  where
    by : Plain h (filling strict s h) → (is_member h ≡ false) × Bind (filling strict s h)
    by (inl f) = absurd (refused_here strict s h xs n ts f e)
    by (inr x) = x

guarded : (b x : Bool) → (b ≡ false → x ≡ false) → (not b && x) ≡ false
guarded true x f = refl
guarded false x f = f refl

one_or_last : (strict : Bool) (s r : Slot) (last : Bool) (t : Tree) → (fits strict s t ≡ true → has_member t ≡ false) → (fits strict r t ≡ true → has_member t ≡ false) → (c : Bool) → fits strict s t ≡ c → (c || (last && fits strict r t)) ≡ true → has_member t ≡ false
one_or_last strict s r last t x y true f e = x f
one_or_last strict s r last t x y false f e = y (right last (fits strict r t) e)

mutual
  no_member : (strict : Bool) (s : Slot) (t : Tree) → binds_slot s ≡ true → fits strict s t ≡ true → has_member t ≡ false
  no_member strict s (node h xs n ts) q e =
      guarded (is_inner h) (is_member h || any_member ts) (λ k. let x = filled_plain strict s h xs n ts q k e in neither (is_member h) (any_member ts) x.0
      (no_members (is_strict_in strict h) (filling strict s h) ts x.1 (right (is_whole (class_of s) h xs n ts) (fill (is_strict_in strict h) (filling strict s h) ts) e)))

  no_members : (strict : Bool) (g : Filling) (ts : Trees) → Bind g → fill strict g ts ≡ true → any_member ts ≡ false
  no_members strict g none b e = refl
  no_members strict refused (t ▸ ts) b e = absurd (false≢true e)
  no_members strict (these []) (t ▸ ts) b e = absurd (false≢true e)
  no_members strict (these (s ∷ ss)) (t ▸ ts) b e = neither (has_member t) (any_member ts) (no_member strict s t b.0 (left (fits strict s t) (fill strict (these ss) ts) e)) (no_members strict (these ss) ts b.1 (right (fits strict s t) (fill strict (these ss) ts) e))
  no_members strict (each s) (t ▸ ts) b e = neither (has_member t) (any_member ts) (no_member strict s t b (left (fits strict s t) (fill strict (each s) ts) e)) (no_members strict (each s) ts b (right (fits strict s t) (fill strict (each s) ts) e))
  no_members strict (each_or_last s r) (t ▸ ts) b e =
      neither (has_member t) (any_member ts)
      (one_or_last strict s r (is_last ts) t (λ f. no_member strict s t b.0 f) (λ f. no_member strict r t b.1 f) (fits strict s t) refl (left (fits strict s t || (is_last ts && fits strict r t)) (fill strict (each_or_last s r) ts) e))
      (no_members strict (each_or_last s r) ts b (right (fits strict s t || (is_last ts && fits strict r t)) (fill strict (each_or_last s r) ts) e))
  no_members strict (pieces g) (t ▸ ts) b e = absurd b

-- ---- functions

abbrev params_slot : Slot → Bool
params_slot (many_and_rest a_parameter a_pattern_rest) = true
params_slot s = false

abbrev second_params : Option (List Slot) → Bool
second_params (Some (s ∷ (r ∷ ss))) = params_slot r
second_params o = true

abbrev first_params : Option (List Slot) → Bool
first_params (Some (s ∷ ss)) = params_slot s
first_params o = true

function_slots_right : (strict : Bool) (c : Class) (d g : Bool) (ds : List (List ℕ)) → second_params (slots_of strict c (shape.Function d g ds)) ≡ true
function_slots_right strict a_method true g ds = refl
function_slots_right true (a_statement in_module) true g ds = refl
function_slots_right true (a_statement in_body) true g ds = refl
function_slots_right true (a_statement nested) true g ds = refl
function_slots_right false (a_statement in_module) true g ds = refl
function_slots_right false (a_statement in_body) true g ds = refl
function_slots_right false (a_statement nested) true g ds = refl
function_slots_right strict (a_key true) true g ds = refl
function_slots_right strict (a_key false) true g ds = refl
function_slots_right strict (a_private_or_key true) true g ds = refl
function_slots_right strict (a_private_or_key false) true g ds = refl
function_slots_right strict (an_inner_key true) true g ds = refl
function_slots_right strict (an_inner_key false) true g ds = refl
function_slots_right strict c true g ds = refl
function_slots_right strict a_method false g ds = refl
function_slots_right true (a_statement in_module) false g ds = refl
function_slots_right true (a_statement in_body) false g ds = refl
function_slots_right true (a_statement nested) false g ds = refl
function_slots_right false (a_statement in_module) false g ds = refl
function_slots_right false (a_statement in_body) false g ds = refl
function_slots_right false (a_statement nested) false g ds = refl
function_slots_right strict (a_key true) false g ds = refl
function_slots_right strict (a_key false) false g ds = refl
function_slots_right strict (a_private_or_key true) false g ds = refl
function_slots_right strict (a_private_or_key false) false g ds = refl
function_slots_right strict (an_inner_key true) false g ds = refl
function_slots_right strict (an_inner_key false) false g ds = refl
function_slots_right strict c false g ds = refl

arrow_slots_right : (strict : Bool) (c : Class) (ds : List (List ℕ)) → first_params (slots_of strict c (shape.ArrowFunctionExpression ds)) ≡ true
arrow_slots_right strict a_method ds = refl
arrow_slots_right true (a_statement in_module) ds = refl
arrow_slots_right true (a_statement in_body) ds = refl
arrow_slots_right true (a_statement nested) ds = refl
arrow_slots_right false (a_statement in_module) ds = refl
arrow_slots_right false (a_statement in_body) ds = refl
arrow_slots_right false (a_statement nested) ds = refl
arrow_slots_right strict (a_key true) ds = refl
arrow_slots_right strict (a_key false) ds = refl
arrow_slots_right strict (a_private_or_key true) ds = refl
arrow_slots_right strict (a_private_or_key false) ds = refl
arrow_slots_right strict (an_inner_key true) ds = refl
arrow_slots_right strict (an_inner_key false) ds = refl
arrow_slots_right strict c ds = refl

abbrev second_in : Filling → Type 0
second_in (these (s ∷ (r ∷ ss))) = binds_slot r ≡ true
second_in (each s) = ⊥
second_in (each_or_last s r) = ⊥
second_in (pieces g) = ⊥
second_in g = Unit {0}

abbrev first_in : Filling → Type 0
first_in (these (s ∷ ss)) = binds_slot s ≡ true
first_in (each s) = ⊥
first_in (each_or_last s r) = ⊥
first_in (pieces g) = ⊥
first_in g = Unit {0}

params_bind : (s : Slot) → params_slot s ≡ true → binds_slot s ≡ true
params_bind (many_and_rest a_parameter a_pattern_rest) e = refl
params_bind s e = absurd (cc e)

second_by : (o : Option (List Slot)) → second_params o ≡ true → second_in (filling_by o)
second_by None e = tt
second_by (Some []) e = tt
second_by (Some (s ∷ [])) e = tt
second_by (Some (s ∷ (r ∷ ss))) e = params_bind r e

first_by : (o : Option (List Slot)) → first_params o ≡ true → first_in (filling_by o)
first_by None e = tt
first_by (Some []) e = tt
first_by (Some (s ∷ ss)) e = params_bind s e

second_filling : (strict : Bool) (s : Slot) (d g : Bool) (ds : List (List ℕ)) → second_in (filling strict s (shape.Function d g ds))
second_filling strict (one c) d g ds = second_by (slots_of strict c (shape.Function d g ds)) (function_slots_right strict c d g ds)
second_filling strict (one_or_absent c) d g ds = second_by (slots_of strict c (shape.Function d g ds)) (function_slots_right strict c d g ds)
second_filling strict s d g ds = tt

first_filling : (strict : Bool) (s : Slot) (ds : List (List ℕ)) → first_in (filling strict s (shape.ArrowFunctionExpression ds))
first_filling strict (one c) ds = first_by (slots_of strict c (shape.ArrowFunctionExpression ds)) (arrow_slots_right strict c ds)
first_filling strict (one_or_absent c) ds = first_by (slots_of strict c (shape.ArrowFunctionExpression ds)) (arrow_slots_right strict c ds)
first_filling strict s ds = tt

second_plain : (strict : Bool) (g : Filling) (id params : Tree) (ts : Trees) → second_in g → fill strict g (id ▸ (params ▸ ts)) ≡ true → has_member params ≡ false
second_plain strict refused id params ts b e = absurd (false≢true e)
second_plain strict (these []) id params ts b e = absurd (false≢true e)
second_plain strict (these (s ∷ [])) id params ts b e = absurd (false≢true (right (fits strict s id) false e))
second_plain strict (these (s ∷ (r ∷ ss))) id params ts b e = no_member strict r params b (left (fits strict r params) (fill strict (these ss) ts) (right (fits strict s id) (fits strict r params && fill strict (these ss) ts) e))
second_plain strict (each s) id params ts b e = absurd b
second_plain strict (each_or_last s r) id params ts b e = absurd b
second_plain strict (pieces g) id params ts b e = absurd b

first_plain : (strict : Bool) (g : Filling) (params : Tree) (ts : Trees) → first_in g → fill strict g (params ▸ ts) ≡ true → has_member params ≡ false
first_plain strict refused params ts b e = absurd (false≢true e)
first_plain strict (these []) params ts b e = absurd (false≢true e)
first_plain strict (these (s ∷ ss)) params ts b e = no_member strict s params b (left (fits strict s params) (fill strict (these ss) ts) e)
first_plain strict (each s) params ts b e = absurd b
first_plain strict (each_or_last s r) params ts b e = absurd b
first_plain strict (pieces g) params ts b e = absurd b

function_merges : (own strict : Bool) (g : Filling) (ts : Trees) → second_in g → fill strict g ts ≡ true → Merges (opening.Function own) ts
function_merges own strict g none b e = tt
function_merges own strict g (id ▸ none) b e = tt
function_merges own strict g (id ▸ (params ▸ ts)) b e = second_plain strict g id params ts b e

arrow_merges : (strict : Bool) (g : Filling) (ts : Trees) → first_in g → fill strict g ts ≡ true → Merges opening.Arrow ts
arrow_merges strict g none b e = tt
arrow_merges strict g (params ▸ ts) b e = first_plain strict g params ts b e

alone_merges : (b : Bool) (ts : Trees) → Merges (if b then opening.Bound else opening.Nothing) ts
alone_merges true ts = tt
alone_merges false ts = tt

variable_merges : (u : Use) (k : VariableDeclarationKind) (ts : Trees) → Merges (variable_opening u k) ts
variable_merges u Var ts = tt
variable_merges u Let ts = alone_merges (is_alone u) ts
variable_merges u Const ts = alone_merges (is_alone u) ts

pub merges : (strict : Bool) (s : Slot) (h : Shape) (xs : List Name) (n : ℕ) (ts : Trees) → fits strict s (node h xs n ts) ≡ true → (u : Use) → Merges (opening_of u h) ts
merges strict s (shape.Function d g ds) xs n ts e u = function_merges (not d || is_alone u) (is_strict_in strict (shape.Function d g ds)) (filling strict s (shape.Function d g ds)) ts (second_filling strict s d g ds) (right (is_whole (class_of s) (shape.Function d g ds) xs n ts) (fill (is_strict_in strict (shape.Function d g ds)) (filling strict s (shape.Function d g ds)) ts) e)
merges strict s (shape.ArrowFunctionExpression ds) xs n ts e u = arrow_merges (is_strict_in strict (shape.ArrowFunctionExpression ds)) (filling strict s (shape.ArrowFunctionExpression ds)) ts (first_filling strict s ds) (right (is_whole (class_of s) (shape.ArrowFunctionExpression ds) xs n ts) (fill (is_strict_in strict (shape.ArrowFunctionExpression ds)) (filling strict s (shape.ArrowFunctionExpression ds)) ts) e)
merges strict s (shape.VariableDeclaration k) xs n ts e u = variable_merges u k ts
merges strict s h xs n ts e u = tt
