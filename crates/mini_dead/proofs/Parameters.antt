-- The parameters of a function have the inner expressions that they had where items go: no list of
-- statements stands among them but in such an expression (ECMA-262, "FormalParameters").
use Rattle.std.specs.Prelude.{ℕ, ◌≡◌, refl, ◌⊎◌, ◌||◌, ◌&&◌, not, Bool, true, false, List, [], ◌∷◌, Option, Some, None, pos, negsuc}
use Rattle.std.proofs.Common.{sym, inl, inr}
use Rattle.std.proofs.lemmas.Bool.{false≢true}
use Rattle.mini_model.specs.declared.name.Name.{Name}
use Rattle.mini_model.specs.declared.shape.Shape.{Shape}
use Rattle.mini_model.specs.declared.shape.Shape.TheVariants as shape
use Rattle.mini_model.specs.Tree.{Tree, Trees, node, none, ◌▸◌}
use Rattle.mini_accept.specs.WellShaped.{Tagging, is_quasi, are_quasis, in_module, in_body, nested, Class, a_statement, a_method, a_parameter, a_key, a_private_or_key, an_inner, an_inner_key, a_pattern, a_pattern_element, a_pattern_property, a_pattern_rest, Slot, one, one_or_absent, many, many_or_holes, many_and_rest, many_or_holes_and_rest, quasis, Filling, refused, these, each, each_or_last, pieces, slots_of, filling, filling_by, class_of, is_whole, is_strict_in, is_last, fits, fill}
use Rattle.mini_laws.specs.DeclaredNames.{is_inner}
use Rattle.mini_kept.proofs.Bools.{left, right}
use Rattle.mini_kept.proofs.Expressions.{refused_here}
use Rattle.std.proofs.Common.{suc, ap, ◌∙◌, subst}
use Rattle.mini_laws.specs.DeclaredNames.{has_inner, any_inner}
use Rattle.mini_laws.specs.Value.{VariableSet}
use Rattle.mini_dead.specs.Pruned.{Spot, Elsewhere, Role, Plain, role, spot_below, Pruned, prune, Prunings, end, stays, goes, declarator_goes, earlier, earlier_all, later, later_all, item_tree, declarator_tree}
use Rattle.mini_dead.proofs.Sparing.{Tidy, AllTidy}
use Rattle.mini_dead.proofs.StillScoped.{ParamsKept, KeepsParams, AllKeepParams}

-- what holds a list of statements, or cases that hold one
abbrev holds : Shape → Bool
holds (shape.Program m ds) = true
holds shape.FunctionBody = true
holds shape.StaticBlock = true
holds shape.BlockStatement = true
holds shape.SwitchStatement = true
holds h = false

plain_role : (h : Shape) → holds h ≡ false → role h Elsewhere ≡ Plain
plain_role (shape.Program m ds) e = absurd (false≢true (sym e))
plain_role shape.FunctionBody e = absurd (false≢true (sym e))
plain_role shape.StaticBlock e = absurd (false≢true (sym e))
plain_role shape.BlockStatement e = absurd (false≢true (sym e))
plain_role shape.SwitchStatement e = absurd (false≢true (sym e))
plain_role h e = refl

-- ---- the classes of what binds

abbrev binds : Class → Bool
binds a_parameter = true
binds (an_inner c) = true
binds (an_inner_key computed) = true
binds a_pattern = true
binds a_pattern_element = true
binds a_pattern_property = true
binds a_pattern_rest = true
binds c = false

abbrev binds_slot : Slot → Bool
binds_slot (one c) = binds c
binds_slot (one_or_absent c) = binds c
binds_slot (many c) = binds c
binds_slot (many_or_holes c) = binds c
binds_slot (many_and_rest c rest) = binds c && binds rest
binds_slot (many_or_holes_and_rest c rest) = binds c && binds rest
binds_slot (quasis g) = false

abbrev bind_slots : List Slot → Bool
bind_slots [] = true
bind_slots (s ∷ ss) = binds_slot s && bind_slots ss

abbrev bind_by : Bool → Option (List Slot) → Bool
bind_by member None = true
bind_by member (Some ss) = not member && bind_slots ss

data Binding : Class → Type 0 where
  the_parameter : Binding a_parameter
  the_inner : (c : Class) → Binding (an_inner c)
  the_key : (computed : Bool) → Binding (an_inner_key computed)
  the_pattern : Binding a_pattern
  the_element : Binding a_pattern_element
  the_property : Binding a_pattern_property
  the_rest : Binding a_pattern_rest

binding : (c : Class) → binds c ≡ true → Binding c
binding a_parameter e = the_parameter
binding (an_inner c) e = the_inner c
binding (an_inner_key computed) e = the_key computed
binding a_pattern e = the_pattern
binding a_pattern_element e = the_element
binding a_pattern_property e = the_property
binding a_pattern_rest e = the_rest
binding c e = absurd (false≢true e)

rows : (c : Class) → Binding c → (strict : Bool) (h : Shape) → (is_inner h || bind_by (holds h) (slots_of strict c h)) ≡ true
rows _ the_rest strict shape.Absent = refl
rows _ (the_key true) strict shape.Absent = refl
rows _ (the_key false) strict shape.Absent = refl
rows c b strict (shape.NumericLiteral (pos n)) = refl
rows c b strict (shape.NumericLiteral (negsuc n)) = refl
rows c b strict h = refl

-- ---- what fills their slots

abbrev Bound : List Slot → Type 0
Bound [] = Unit {0}
Bound (s ∷ ss) = (binds_slot s ≡ true) × Bound ss

abbrev Bind : Filling → Type 0
Bind refused = Unit {0}
Bind (these ss) = Bound ss
Bind (each s) = binds_slot s ≡ true
Bind (each_or_last s r) = (binds_slot s ≡ true) × (binds_slot r ≡ true)
Bind (pieces g) = ⊥

bound : (ss : List Slot) → bind_slots ss ≡ true → Bound ss
bound [] e = tt
bound (s ∷ ss) e = (left (binds_slot s) (bind_slots ss) e, bound ss (right (binds_slot s) (bind_slots ss) e))

abbrev Filled : Shape → Filling → Type 0
Filled h g = (g ≡ refused) ⊎ ((holds h ≡ false) × Bind g)

not_true : (b : Bool) → not b ≡ true → b ≡ false
not_true true e = absurd (false≢true e)
not_true false e = refl

by_slots : (h : Shape) (o : Option (List Slot)) → bind_by (holds h) o ≡ true → Filled h (filling_by o)
by_slots h None e = inl refl
by_slots h (Some ss) e = inr (not_true (holds h) (left (not (holds h)) (bind_slots ss) e), bound ss (right (not (holds h)) (bind_slots ss) e))

outer : (a b : Bool) → a ≡ false → (a || b) ≡ true → b ≡ true
outer true b e f = absurd (false≢true (sym e))
outer false b e f = f

in_class : (strict : Bool) (c : Class) (h : Shape) → binds c ≡ true → is_inner h ≡ false → Filled h (filling_by (slots_of strict c h))
in_class strict c h q e = by_slots h (slots_of strict c h) (outer (is_inner h) (bind_by (holds h) (slots_of strict c h)) e (rows c (binding c q) strict h))

plain : (strict : Bool) (s : Slot) (h : Shape) → binds_slot s ≡ true → is_inner h ≡ false → Filled h (filling strict s h)
plain strict (one c) h q e = in_class strict c h q e
plain strict (one_or_absent c) shape.Absent q e = inr (refl, tt)
plain strict (one_or_absent c) h q e = in_class strict c h q e
plain strict (many c) shape.Listed q e = inr (refl, q)
plain strict (many_or_holes c) shape.Listed q e = inr (refl, q)
plain strict (many_and_rest c rest) shape.Listed q e = inr (refl, (left (binds c) (binds rest) q, right (binds c) (binds rest) q))
plain strict (many_or_holes_and_rest c rest) shape.Listed q e = inr (refl, (left (binds c) (binds rest) q, right (binds c) (binds rest) q))
plain strict (quasis g) h q e = absurd (false≢true q)
plain strict s h q e = inl refl

neither : (a b : Bool) → a ≡ false → b ≡ false → (a || b) ≡ false
neither true b e f = absurd (false≢true (sym e))
neither false b e f = f

filled_plain : (strict : Bool) (s : Slot) (h : Shape) (xs : List Name) (n : ℕ) (ts : Trees) → binds_slot s ≡ true → is_inner h ≡ false → fits strict s (node h xs n ts) ≡ true → (holds h ≡ false) × Bind (filling strict s h)
filled_plain strict s h xs n ts q k e = by (plain strict s h q k)
  where
    by : Filled h (filling strict s h) → (holds h ≡ false) × Bind (filling strict s h)
    by (inl f) = absurd (refused_here strict s h xs n ts f e)
    by (inr x) = x

-- ---- their inner expressions

or_last : (a b l : Bool) (P : Type 0) → (a || (l && b)) ≡ true → (a ≡ true → P) → (b ≡ true → P) → P
or_last true b l P e f g = f refl
or_last false true l P e f g = g refl
or_last false false true P e f g = absurd (false≢true e)
or_last false false false P e f g = absurd (false≢true e)

inner_by : (b c c' : Bool) → (b ≡ false → c' ≡ c) → (b || c') ≡ (b || c)
inner_by true c c' f = refl
inner_by false c c' f = f refl

either_same : (a a' b b' : Bool) → a' ≡ a → b' ≡ b → (a' || b') ≡ (a || b)
either_same a a' b b' e f = ap (λ c. c || b') e ∙ ap (λ c. a || c) f

module _ (D : VariableSet) where
  mutual
    unfolding has_inner

    inner_still : (strict : Bool) (s : Slot) (x : Pruned) → binds_slot s ≡ true → Tidy D Elsewhere x → fits strict s (earlier x) ≡ true → has_inner (later x) ≡ has_inner (earlier x)
    inner_still strict s (prune h xs n ps) q a e =
        inner_by (is_inner h) (any_inner (earlier_all ps)) (any_inner (later_all ps))
        (λ k. let x = filled_plain strict s h xs n (earlier_all ps) q k e in
        inners_still (is_strict_in strict h) (filling strict s h) 0 ps x.1 (subst (λ r. AllTidy D r 0 ps) (plain_role h x.0) a) (right (is_whole (class_of s) h xs n (earlier_all ps)) (fill (is_strict_in strict h) (filling strict s h) (earlier_all ps)) e))

    inners_still : (strict : Bool) (g : Filling) (i : ℕ) (ps : Prunings) → Bind g → AllTidy D Plain i ps → fill strict g (earlier_all ps) ≡ true → any_inner (later_all ps) ≡ any_inner (earlier_all ps)
    inners_still strict g i end b a e = refl
    inners_still strict g i (goes c ps) b a e = absurd a.0
    inners_still strict g i (declarator_goes c ps) b a e = absurd a.0
    inners_still strict refused i (stays x ps) b a e = absurd (false≢true e)
    inners_still strict (these []) i (stays x ps) b a e = absurd (false≢true e)
    inners_still strict (these (s ∷ ss)) i (stays x ps) b a e =
        either_same (has_inner (earlier x)) (has_inner (later x)) (any_inner (earlier_all ps)) (any_inner (later_all ps)) (inner_still strict s x b.0 a.0 (left (fits strict s (earlier x)) (fill strict (these ss) (earlier_all ps)) e))
        (inners_still strict (these ss) (suc i) ps b.1 a.1 (right (fits strict s (earlier x)) (fill strict (these ss) (earlier_all ps)) e))
    inners_still strict (each s) i (stays x ps) b a e =
        either_same (has_inner (earlier x)) (has_inner (later x)) (any_inner (earlier_all ps)) (any_inner (later_all ps)) (inner_still strict s x b a.0 (left (fits strict s (earlier x)) (fill strict (each s) (earlier_all ps)) e))
        (inners_still strict (each s) (suc i) ps b a.1 (right (fits strict s (earlier x)) (fill strict (each s) (earlier_all ps)) e))
    inners_still strict (each_or_last s r) i (stays x ps) b a e =
        either_same (has_inner (earlier x)) (has_inner (later x)) (any_inner (earlier_all ps)) (any_inner (later_all ps))
        (or_last (fits strict s (earlier x)) (fits strict r (earlier x)) (is_last (earlier_all ps)) (has_inner (later x) ≡ has_inner (earlier x)) (left (fits strict s (earlier x) || (is_last (earlier_all ps) && fits strict r (earlier x))) (fill strict (each_or_last s r) (earlier_all ps)) e)
        (λ f. inner_still strict s x b.0 a.0 f) (λ f. inner_still strict r x b.1 a.0 f))
        (inners_still strict (each_or_last s r) (suc i) ps b a.1 (right (fits strict s (earlier x) || (is_last (earlier_all ps) && fits strict r (earlier x))) (fill strict (each_or_last s r) (earlier_all ps)) e))
    inners_still strict (pieces g) i (stays x ps) b a e = absurd b

-- ---- functions

abbrev params_slot : Slot → Bool
params_slot (many_and_rest a_parameter a_pattern_rest) = true
params_slot s = false

abbrev second_params : Option (List Slot) → Bool
second_params (Some (s ∷ (r ∷ ss))) = params_slot r
second_params o = true

abbrev first_params : Option (List Slot) → Bool
first_params (Some (s ∷ ss)) = params_slot s
first_params o = true

function_slots_right : (strict : Bool) (c : Class) (d g : Bool) (ds : List (List ℕ)) → second_params (slots_of strict c (shape.Function d g ds)) ≡ true
function_slots_right strict a_method true g ds = refl
function_slots_right true (a_statement in_module) true g ds = refl
function_slots_right true (a_statement in_body) true g ds = refl
function_slots_right true (a_statement nested) true g ds = refl
function_slots_right false (a_statement in_module) true g ds = refl
function_slots_right false (a_statement in_body) true g ds = refl
function_slots_right false (a_statement nested) true g ds = refl
function_slots_right strict (a_key true) true g ds = refl
function_slots_right strict (a_key false) true g ds = refl
function_slots_right strict (a_private_or_key true) true g ds = refl
function_slots_right strict (a_private_or_key false) true g ds = refl
function_slots_right strict (an_inner_key true) true g ds = refl
function_slots_right strict (an_inner_key false) true g ds = refl
function_slots_right strict c true g ds = refl
function_slots_right strict a_method false g ds = refl
function_slots_right true (a_statement in_module) false g ds = refl
function_slots_right true (a_statement in_body) false g ds = refl
function_slots_right true (a_statement nested) false g ds = refl
function_slots_right false (a_statement in_module) false g ds = refl
function_slots_right false (a_statement in_body) false g ds = refl
function_slots_right false (a_statement nested) false g ds = refl
function_slots_right strict (a_key true) false g ds = refl
function_slots_right strict (a_key false) false g ds = refl
function_slots_right strict (a_private_or_key true) false g ds = refl
function_slots_right strict (a_private_or_key false) false g ds = refl
function_slots_right strict (an_inner_key true) false g ds = refl
function_slots_right strict (an_inner_key false) false g ds = refl
function_slots_right strict c false g ds = refl

arrow_slots_right : (strict : Bool) (c : Class) (ds : List (List ℕ)) → first_params (slots_of strict c (shape.ArrowFunctionExpression ds)) ≡ true
arrow_slots_right strict a_method ds = refl
arrow_slots_right true (a_statement in_module) ds = refl
arrow_slots_right true (a_statement in_body) ds = refl
arrow_slots_right true (a_statement nested) ds = refl
arrow_slots_right false (a_statement in_module) ds = refl
arrow_slots_right false (a_statement in_body) ds = refl
arrow_slots_right false (a_statement nested) ds = refl
arrow_slots_right strict (a_key true) ds = refl
arrow_slots_right strict (a_key false) ds = refl
arrow_slots_right strict (a_private_or_key true) ds = refl
arrow_slots_right strict (a_private_or_key false) ds = refl
arrow_slots_right strict (an_inner_key true) ds = refl
arrow_slots_right strict (an_inner_key false) ds = refl
arrow_slots_right strict c ds = refl

abbrev second_in : Filling → Type 0
second_in (these (s ∷ (r ∷ ss))) = binds_slot r ≡ true
second_in (each s) = ⊥
second_in (each_or_last s r) = ⊥
second_in (pieces g) = ⊥
second_in g = Unit {0}

abbrev first_in : Filling → Type 0
first_in (these (s ∷ ss)) = binds_slot s ≡ true
first_in (each s) = ⊥
first_in (each_or_last s r) = ⊥
first_in (pieces g) = ⊥
first_in g = Unit {0}

params_bind : (s : Slot) → params_slot s ≡ true → binds_slot s ≡ true
params_bind (many_and_rest a_parameter a_pattern_rest) e = refl
params_bind s e = absurd (cc e)

second_by : (o : Option (List Slot)) → second_params o ≡ true → second_in (filling_by o)
second_by None e = tt
second_by (Some []) e = tt
second_by (Some (s ∷ [])) e = tt
second_by (Some (s ∷ (r ∷ ss))) e = params_bind r e

first_by : (o : Option (List Slot)) → first_params o ≡ true → first_in (filling_by o)
first_by None e = tt
first_by (Some []) e = tt
first_by (Some (s ∷ ss)) e = params_bind s e

second_filling : (strict : Bool) (s : Slot) (d g : Bool) (ds : List (List ℕ)) → second_in (filling strict s (shape.Function d g ds))
second_filling strict (one c) d g ds = second_by (slots_of strict c (shape.Function d g ds)) (function_slots_right strict c d g ds)
second_filling strict (one_or_absent c) d g ds = second_by (slots_of strict c (shape.Function d g ds)) (function_slots_right strict c d g ds)
second_filling strict s d g ds = tt

first_filling : (strict : Bool) (s : Slot) (ds : List (List ℕ)) → first_in (filling strict s (shape.ArrowFunctionExpression ds))
first_filling strict (one c) ds = first_by (slots_of strict c (shape.ArrowFunctionExpression ds)) (arrow_slots_right strict c ds)
first_filling strict (one_or_absent c) ds = first_by (slots_of strict c (shape.ArrowFunctionExpression ds)) (arrow_slots_right strict c ds)
first_filling strict s ds = tt

-- ---- a piece of a template has no children

no_params : (h : Shape) → ParamsKept h end
no_params (shape.Function d g ds) = tt
no_params (shape.ArrowFunctionExpression ds) = tt
no_params h = tt

no_piece : (g : Tagging) (last : Bool) (h : Shape) (xs : List Name) (n : ℕ) (t : Tree) (ts : Trees) → is_quasi g last (node h xs n (t ▸ ts)) ≡ true → ⊥
no_piece g last h [] n t ts e = false≢true e
no_piece g last h (x ∷ xs) n t ts e = false≢true e

piece_params : (g : Tagging) (last : Bool) (x : Pruned) → is_quasi g last (earlier x) ≡ true → KeepsParams x
piece_params g last (prune h xs n end) e = (no_params h, tt)
piece_params g last (prune h xs n (stays x ps)) e = absurd (no_piece g last h xs n (earlier x) (earlier_all ps) e)
piece_params g last (prune h xs n (goes c ps)) e = absurd (no_piece g last h xs n (item_tree c) (earlier_all ps) e)
piece_params g last (prune h xs n (declarator_goes c ps)) e = absurd (no_piece g last h xs n (declarator_tree c) (earlier_all ps) e)

abbrev Pieces : Tagging → Trees → Type 0
Pieces g none = Unit {0}
Pieces g (t ▸ ts) = are_quasis g (t ▸ ts) ≡ true

first_piece : (g : Tagging) (t : Tree) (ts : Trees) → are_quasis g (t ▸ ts) ≡ true → (last : Bool) × (is_quasi g last t ≡ true)
first_piece g t none e = (true, e)
first_piece g t (u ▸ ts) e = (false, left (is_quasi g false t) (are_quasis g (u ▸ ts)) e)

other_pieces : (g : Tagging) (t : Tree) (ts : Trees) → are_quasis g (t ▸ ts) ≡ true → Pieces g ts
other_pieces g t none e = tt
other_pieces g t (u ▸ ts) e = right (is_quasi g false t) (are_quasis g (u ▸ ts)) e

quasis_params : (g : Tagging) (ps : Prunings) → Pieces g (earlier_all ps) → AllKeepParams ps
quasis_params g end e = tt
quasis_params g (stays x ps) e = let first = first_piece g (earlier x) (earlier_all ps) e in (piece_params g first.0 x first.1, quasis_params g ps (other_pieces g (earlier x) (earlier_all ps) e))
quasis_params g (goes c ps) e = quasis_params g ps (other_pieces g (item_tree c) (earlier_all ps) e)
quasis_params g (declarator_goes c ps) e = quasis_params g ps (other_pieces g (declarator_tree c) (earlier_all ps) e)

-- ---- the parameters of each function of a tree

module _ (D : VariableSet) where
  second_still : (strict : Bool) (g : Filling) (d b : Bool) (ds : List (List ℕ)) (ps : Prunings) → AllTidy D Plain 0 ps → second_in g → fill strict g (earlier_all ps) ≡ true → ParamsKept (shape.Function d b ds) ps
  second_still strict g d b ds end a q e = tt
  second_still strict g d b ds (goes c ps) a q e = absurd a.0
  second_still strict g d b ds (declarator_goes c ps) a q e = absurd a.0
  second_still strict g d b ds (stays id end) a q e = tt
  second_still strict g d b ds (stays id (goes c ps)) a q e = absurd a.1.0
  second_still strict g d b ds (stays id (declarator_goes c ps)) a q e = absurd a.1.0
  second_still strict refused d b ds (stays id (stays params ps)) a q e = absurd (false≢true e)
  second_still strict (these []) d b ds (stays id (stays params ps)) a q e = absurd (false≢true e)
  second_still strict (these (s ∷ [])) d b ds (stays id (stays params ps)) a q e = absurd (false≢true (right (fits strict s (earlier id)) false e))
  second_still strict (these (s ∷ (r ∷ ss))) d b ds (stays id (stays params ps)) a q e =
      inner_still D strict r params q a.1.0 (left (fits strict r (earlier params)) (fill strict (these ss) (earlier_all ps)) (right (fits strict s (earlier id)) (fits strict r (earlier params) && fill strict (these ss) (earlier_all ps)) e))
  second_still strict (each s) d b ds (stays id (stays params ps)) a q e = absurd q
  second_still strict (each_or_last s r) d b ds (stays id (stays params ps)) a q e = absurd q
  second_still strict (pieces g) d b ds (stays id (stays params ps)) a q e = absurd q

  first_still : (strict : Bool) (g : Filling) (ds : List (List ℕ)) (ps : Prunings) → AllTidy D Plain 0 ps → first_in g → fill strict g (earlier_all ps) ≡ true → ParamsKept (shape.ArrowFunctionExpression ds) ps
  first_still strict g ds end a q e = tt
  first_still strict g ds (goes c ps) a q e = absurd a.0
  first_still strict g ds (declarator_goes c ps) a q e = absurd a.0
  first_still strict refused ds (stays params ps) a q e = absurd (false≢true e)
  first_still strict (these []) ds (stays params ps) a q e = absurd (false≢true e)
  first_still strict (these (s ∷ ss)) ds (stays params ps) a q e = inner_still D strict s params q a.0 (left (fits strict s (earlier params)) (fill strict (these ss) (earlier_all ps)) e)
  first_still strict (each s) ds (stays params ps) a q e = absurd q
  first_still strict (each_or_last s r) ds (stays params ps) a q e = absurd q
  first_still strict (pieces g) ds (stays params ps) a q e = absurd q

  own_params : (strict : Bool) (s : Slot) (p : Spot) (h : Shape) (xs : List Name) (n : ℕ) (ps : Prunings) → AllTidy D (role h p) 0 ps → fits strict s (node h xs n (earlier_all ps)) ≡ true → ParamsKept h ps
  own_params strict s p (shape.Function d g ds) xs n ps a e =
      second_still (is_strict_in strict (shape.Function d g ds)) (filling strict s (shape.Function d g ds)) d g ds ps a (second_filling strict s d g ds)
      (right (is_whole (class_of s) (shape.Function d g ds) xs n (earlier_all ps)) (fill (is_strict_in strict (shape.Function d g ds)) (filling strict s (shape.Function d g ds)) (earlier_all ps)) e)
  own_params strict s p (shape.ArrowFunctionExpression ds) xs n ps a e =
      first_still (is_strict_in strict (shape.ArrowFunctionExpression ds)) (filling strict s (shape.ArrowFunctionExpression ds)) ds ps a (first_filling strict s ds)
      (right (is_whole (class_of s) (shape.ArrowFunctionExpression ds) xs n (earlier_all ps)) (fill (is_strict_in strict (shape.ArrowFunctionExpression ds)) (filling strict s (shape.ArrowFunctionExpression ds)) (earlier_all ps)) e)
  own_params strict s p h xs n ps a e = tt

  mutual
    pub fits_params : (strict : Bool) (s : Slot) (p : Spot) (x : Pruned) → Tidy D p x → fits strict s (earlier x) ≡ true → KeepsParams x
    fits_params strict s p (prune h xs n ps) a e =
        (own_params strict s p h xs n ps a e, fill_params (is_strict_in strict h) (filling strict s h) (role h p) 0 ps a (right (is_whole (class_of s) h xs n (earlier_all ps)) (fill (is_strict_in strict h) (filling strict s h) (earlier_all ps)) e))

    fill_params : (strict : Bool) (g : Filling) (r : Role) (i : ℕ) (ps : Prunings) → AllTidy D r i ps → fill strict g (earlier_all ps) ≡ true → AllKeepParams ps
    fill_params strict g r i end a e = tt
    fill_params strict refused r i (stays x ps) a e = absurd (false≢true e)
    fill_params strict refused r i (goes c ps) a e = absurd (false≢true e)
    fill_params strict refused r i (declarator_goes c ps) a e = absurd (false≢true e)
    fill_params strict (these []) r i (stays x ps) a e = absurd (false≢true e)
    fill_params strict (these []) r i (goes c ps) a e = absurd (false≢true e)
    fill_params strict (these []) r i (declarator_goes c ps) a e = absurd (false≢true e)
    fill_params strict (these (s ∷ ss)) r i (stays x ps) a e = (fits_params strict s (spot_below r i) x a.0 (left (fits strict s (earlier x)) (fill strict (these ss) (earlier_all ps)) e), fill_params strict (these ss) r (suc i) ps a.1 (right (fits strict s (earlier x)) (fill strict (these ss) (earlier_all ps)) e))
    fill_params strict (these (s ∷ ss)) r i (goes c ps) a e = fill_params strict (these ss) r (suc i) ps a.2 (right (fits strict s (item_tree c)) (fill strict (these ss) (earlier_all ps)) e)
    fill_params strict (these (s ∷ ss)) r i (declarator_goes c ps) a e = fill_params strict (these ss) r (suc i) ps a.2 (right (fits strict s (declarator_tree c)) (fill strict (these ss) (earlier_all ps)) e)
    fill_params strict (each s) r i (stays x ps) a e = (fits_params strict s (spot_below r i) x a.0 (left (fits strict s (earlier x)) (fill strict (each s) (earlier_all ps)) e), fill_params strict (each s) r (suc i) ps a.1 (right (fits strict s (earlier x)) (fill strict (each s) (earlier_all ps)) e))
    fill_params strict (each s) r i (goes c ps) a e = fill_params strict (each s) r (suc i) ps a.2 (right (fits strict s (item_tree c)) (fill strict (each s) (earlier_all ps)) e)
    fill_params strict (each s) r i (declarator_goes c ps) a e = fill_params strict (each s) r (suc i) ps a.2 (right (fits strict s (declarator_tree c)) (fill strict (each s) (earlier_all ps)) e)
    fill_params strict (each_or_last s l) r i (stays x ps) a e = (
      or_last (fits strict s (earlier x)) (fits strict l (earlier x)) (is_last (earlier_all ps)) (KeepsParams x) (left (fits strict s (earlier x) || (is_last (earlier_all ps) && fits strict l (earlier x))) (fill strict (each_or_last s l) (earlier_all ps)) e)
          (λ f. fits_params strict s (spot_below r i) x a.0 f) (λ f. fits_params strict l (spot_below r i) x a.0 f),
      fill_params strict (each_or_last s l) r (suc i) ps a.1 (right (fits strict s (earlier x) || (is_last (earlier_all ps) && fits strict l (earlier x))) (fill strict (each_or_last s l) (earlier_all ps)) e),
    )
    fill_params strict (each_or_last s l) r i (goes c ps) a e = fill_params strict (each_or_last s l) r (suc i) ps a.2 (right (fits strict s (item_tree c) || (is_last (earlier_all ps) && fits strict l (item_tree c))) (fill strict (each_or_last s l) (earlier_all ps)) e)
    fill_params strict (each_or_last s l) r i (declarator_goes c ps) a e = fill_params strict (each_or_last s l) r (suc i) ps a.2 (right (fits strict s (declarator_tree c) || (is_last (earlier_all ps) && fits strict l (declarator_tree c))) (fill strict (each_or_last s l) (earlier_all ps)) e)
    fill_params strict (pieces g) r i (stays x ps) a e = quasis_params g (stays x ps) e
    fill_params strict (pieces g) r i (goes c ps) a e = quasis_params g (goes c ps) e
    fill_params strict (pieces g) r i (declarator_goes c ps) a e = quasis_params g (declarator_goes c ps) e
