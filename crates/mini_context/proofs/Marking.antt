-- Tables of marks.
use Rattle.std.specs.Prelude.{ℕ, zero, suc, ◌≡◌, ◌≤◌, ◌<◌, refl, nat_eq, ◌&&◌, ◌||◌, Bool, true, false, List, [], ◌∷◌, length, Option, Some, None}
use Rattle.std.specs.List.{list_any}
use Rattle.std.proofs.Common.{ap, ◌∙◌, arith, sym, subst}
use Rattle.std.proofs.lemmas.Bool.{false≢true}
use Rattle.std.proofs.lemmas.List.Folds.{list_any-append}
use Rattle.mini_model.specs.declared.name.Name.{Name}
use Rattle.mini_model.specs.declared.name.SymbolId.{SymbolId}
use Rattle.mini_model.specs.Tree.{Tree, Trees, node, none, ◌▸◌, children, shape_of, node_count, node_counts, first_or_absent}
use Rattle.mini_model.specs.Paths.{child_at}
use Rattle.mini_model.specs.declared.shape.Shape.{Shape}
use Rattle.mini_model.specs.declared.shape.Shape.TheVariants as shape
use Rattle.mini_model.specs.declared.kind.VariableDeclarationKind.TheVariants.{Const, Var}
use Rattle.mini_laws.specs.declared.names.Declared.{Declared}
use Rattle.mini_laws.specs.DeclaredNames.{place_of, names_by, own_names, names_of, first_names, all_names}
use Rattle.mini_laws.specs.declared.names.Place.{Place}
use Rattle.mini_laws.specs.declared.names.Declared.TheVariants as declared
use Rattle.mini_context.specs.declared.parts.Part.{Part}
use Rattle.mini_context.specs.Own.{is_class_shape}
use Rattle.mini_laws.specs.Foreign.{own_lexical, own_pattern_names, own_switched}
use Rattle.mini_node.specs.Children.{number_of, trees_of}
use Rattle.mini_context.specs.Parts.{bound_at, names_at, fixed_part, lexical_part, pattern_part, switched_part}
use Rattle.mini_laws.specs.Mentions.{same_variable, same_variable_by, is_among}
use Rattle.mini_laws.specs.NameBodies.{Frame, Body, own_fixed}
use Rattle.mini_context.specs.Tables.{mark_at, named, Marked, Noted}
use Rattle.mini_context.proofs.Gathering.{Adds, Gathers}

pub or_false : (b : Bool) → (b || false) ≡ b
or_false true = refl
or_false false = refl

pub or_assoc : (a b c : Bool) → ((a || b) || c) ≡ (a || (b || c))
or_assoc true b c = refl
or_assoc false b c = refl

-- ---- by symbol

pub marks_add : Adds Marked
marks_add = record {
  nothing = λ s. record { symbols = refl; each = λ k h. sym (or_false (mark_at s k)) };
  both = λ xs ys a b c f g. record {
    symbols = g.symbols ∙ f.symbols;
    each = λ k h.
        let within : k < length b = omega (arith, h, f.symbols) in
        g.each k within ∙ ap (λ m. m || is_among (named k) ys) (f.each k h) ∙ or_assoc (mark_at a k) (is_among (named k) xs) (is_among (named k) ys)
        ∙ ap (λ m. mark_at a k || m) (sym (list_any-append (same_variable (named k)) xs ys));
  };
}

pub names_gather : (d : Declared) → Gathers (λ i us. names_of d (first_or_absent us)) (λ i us. all_names d us)
unfolding names_of
names_gather d = record { at_none = λ i. refl; at_more = λ i t ts. refl }

-- ---- by body

pub notes_add : (p : Frame → Bool) → Adds (Noted p)
notes_add p = record {
  nothing = λ s k. sym (or_false (mark_at s k));
  both = λ xs ys a b c f g k.
      let q : Body → Bool = λ r. nat_eq r.number k && p r.frame in
      g k ∙ ap (λ m. m || list_any q ys) (f k) ∙ or_assoc (mark_at a k) (list_any q xs) (list_any q ys) ∙ ap (λ m. mark_at a k || m) (sym (list_any-append q xs ys));
}

-- ---- a name by its symbol

spelled_apart : (s : SymbolId) (o : Option SymbolId) (x y z : List ℕ) → same_variable_by (Some s) o x z ≡ same_variable_by (Some s) o y z
spelled_apart s None x y z = refl
spelled_apart s (Some n) x y z = refl

pub same_by_symbol : (x : Name) (s : SymbolId) (y : Name) → x.symbol ≡ Some s → same_variable x y ≡ same_variable (named s.0) y
same_by_symbol x s y e = ap (λ o. same_variable_by o y.symbol x.spelling y.spelling) e ∙ spelled_apart s y.symbol x.spelling [] y.spelling

pub among_by_symbol : (x : Name) (s : SymbolId) (xs : List Name) → x.symbol ≡ Some s → is_among x xs ≡ is_among (named s.0) xs
among_by_symbol x s [] e = refl
among_by_symbol x s (y ∷ ys) e = ap (λ b. b || is_among x ys) (same_by_symbol x s y e) ∙ ap (λ b. same_variable (named s.0) y || b) (among_by_symbol x s ys e)

-- ---- the names that a node declares

opened : (d : Declared) (n : Tree) → names_of d n ≡ names_by (place_of d (shape_of n)) (own_names n) (first_names (children n)) (all_names declared.Bound (children n)) (all_names d (children n))
unfolding names_of
opened d (node h xs m ts) = refl

pub named_by : (d : Declared) (n : Tree) (h : Shape) (p : Place) → p ≡ place_of d h → h ≡ shape_of n → names_of d n ≡ names_by p (own_names n) (first_names (children n)) (all_names declared.Bound (children n)) (all_names d (children n))
named_by d n h p e s = opened d n ∙ ap (λ q. names_by q (own_names n) (first_names (children n)) (all_names declared.Bound (children n)) (all_names d (children n))) (sym (e ∙ ap (place_of d) s))

pub first_bound : (ts : Trees) → first_names ts ≡ bound_at (child_at ts 0)
unfolding names_of
first_bound none = refl
first_bound (t ▸ ts) = refl

pub first_is : (ts : Trees) (o : Option Tree) → o ≡ child_at ts 0 → first_names ts ≡ bound_at o
first_is ts o e = first_bound ts ∙ ap bound_at (sym e)

within : (ts : Trees) (i : ℕ) (u : Tree) → Some u ≡ child_at ts i → node_count u ≤ node_counts ts
within none i u e = absurd (cc e)
within (t ▸ ts) zero u e = let same : u ≡ t = cc in omega (arith, ap node_count same)
within (t ▸ ts) (suc i) u e = omega (arith, within ts i u e)

pub got_falls : (n : Tree) (ts : Trees) (i : ℕ) (u : Tree) → ts ≡ children n → Some u ≡ child_at ts i → node_count u < node_count n
got_falls (node h xs m us) ts i u e f = omega (arith, within ts i u f, ap node_counts e)

fixed_is : (h : Shape) (ts : Trees) → own_fixed h ts ≡ names_at (fixed_part h) ts
fixed_is (shape.VariableDeclaration Const) ts = refl
fixed_is shape.ImportDeclaration ts = refl
fixed_is (shape.Function false g ds) ts = first_bound ts
fixed_is (shape.Class false) ts = first_bound ts
fixed_is (shape.Class true) none = refl
fixed_is (shape.Class true) (a ▸ none) = refl
fixed_is (shape.Class true) (a ▸ (b ▸ none)) = refl
fixed_is (shape.Class true) (a ▸ (b ▸ (c ▸ none))) = refl
fixed_is (shape.Class true) (a ▸ (b ▸ (c ▸ (d ▸ ts)))) = refl
fixed_is h ts = refl

pub fixed_marks : (n : Tree) (h : Shape) (p : Part) (ts : Trees) (old new : List Bool) → h ≡ shape_of n → p ≡ fixed_part h → ts ≡ children n → Marked (names_at p ts) old new → Marked (own_fixed (shape_of n) (children n)) old new
fixed_marks n h p ts old new e f g m =
    subst (λ ns. Marked ns old new) (ap (λ q. names_at q ts) f ∙ sym (fixed_is h ts) ∙ ap (λ k. own_fixed k ts) e ∙ ap (own_fixed (shape_of n)) g) m

-- the same of any part that a shape gives
pub part_marks : (n : Tree) (own : Trees → List Name) (p q : Part) (ts : Trees) (old new : List Bool) → ((us : Trees) → own us ≡ names_at q us) → p ≡ q → ts ≡ children n → Marked (names_at p ts) old new → Marked (own (children n)) old new
part_marks n own p q ts old new o f g m =
    subst (λ ns. Marked ns old new) (ap (λ k. names_at k ts) f ∙ ap (names_at q) g ∙ sym (o (children n))) m

patterns_are : (h : Shape) (n : ℕ) (ts : Trees) → own_pattern_names h n ts ≡ names_at (pattern_part h n) ts
patterns_are shape.ObjectPattern n ts = refl
patterns_are shape.ArrayPattern n ts = refl
patterns_are shape.AssignmentPattern zero ts = refl
patterns_are shape.AssignmentPattern (suc n) ts = refl
patterns_are h n ts = refl

switched_are : (h : Shape) (ts : Trees) → own_switched h ts ≡ names_at (switched_part h) ts
switched_are shape.SwitchStatement ts = refl
switched_are h ts = refl

lexical_are : (b : Bool) (h : Shape) (ts : Trees) → is_class_shape h ≡ false → own_lexical b h ts ≡ names_at (lexical_part b h) ts
lexical_are b (shape.VariableDeclaration Var) ts e = refl
lexical_are b (shape.VariableDeclaration k) ts e = refl
lexical_are true (shape.Function true g ds) ts e = refl
lexical_are b (shape.Function d g ds) ts e = first_bound ts
lexical_are b (shape.Class d) ts e = absurd (cc e)
lexical_are b shape.CatchClause ts e = first_bound ts
lexical_are b shape.ImportDeclaration ts e = refl
lexical_are b h ts e = refl

pub pattern_marks : (n : Tree) (h : Shape) (k : ℕ) (p : Part) (ts : Trees) (old new : List Bool) → h ≡ shape_of n → k ≡ number_of n → p ≡ pattern_part h k → ts ≡ children n → Marked (names_at p ts) old new → Marked (own_pattern_names (shape_of n) (number_of n) (children n)) old new
pattern_marks n h k p ts old new e f g i m = part_marks n (own_pattern_names (shape_of n) (number_of n)) p (pattern_part (shape_of n) (number_of n)) ts old new (patterns_are (shape_of n) (number_of n)) (g ∙ ap (λ r. pattern_part r k) e ∙ ap (pattern_part (shape_of n)) f) i m

pub switched_marks : (n : Tree) (h : Shape) (p : Part) (ts : Trees) (old new : List Bool) → h ≡ shape_of n → p ≡ switched_part h → ts ≡ children n → Marked (names_at p ts) old new → Marked (own_switched (shape_of n) (children n)) old new
switched_marks n h p ts old new e g i m = part_marks n (own_switched (shape_of n)) p (switched_part (shape_of n)) ts old new (switched_are (shape_of n)) (g ∙ ap switched_part e) i m

pub lexical_marks : (b : Bool) (n : Tree) (h : Shape) (p : Part) (ts : Trees) (old new : List Bool) → h ≡ shape_of n → is_class_shape h ≡ false → p ≡ lexical_part b h → ts ≡ children n → Marked (names_at p ts) old new → Marked (own_lexical b (shape_of n) (children n)) old new
lexical_marks b n h p ts old new e c g i m = part_marks n (own_lexical b (shape_of n)) p (lexical_part b (shape_of n)) ts old new (λ us. lexical_are b (shape_of n) us (ap is_class_shape (sym e) ∙ c)) (g ∙ ap (lexical_part b) e) i m

class_same : (b : Bool) (h : Shape) (ts : Trees) → is_class_shape h ≡ true → own_lexical false h ts ≡ own_lexical b h ts
class_same b (shape.Class d) none e = refl
class_same b (shape.Class d) (t ▸ none) e = refl
class_same b (shape.Class d) (t ▸ (u ▸ none)) e = refl
class_same b (shape.Class d) (t ▸ (u ▸ (v ▸ none))) e = refl
class_same b (shape.Class d) (t ▸ (u ▸ (v ▸ (w ▸ ts)))) e = refl
class_same b h ts e = absurd (false≢true e)

pub class_marks : (b : Bool) (n : Tree) (h : Shape) (v : Bool) (old new : List Bool) → h ≡ shape_of n → v ≡ is_class_shape h → v ≡ true → (is_class_shape (shape_of n) ≡ true → Marked (own_lexical false (shape_of n) (children n)) old new) → Marked (own_lexical b (shape_of n) (children n)) old new
class_marks b n h v old new e f g m =
    let is_class : is_class_shape (shape_of n) ≡ true = ap is_class_shape (sym e) ∙ sym f ∙ g in
    subst (λ ns. Marked ns old new) (class_same b (shape_of n) (children n) is_class) (m is_class)

few : (h : Shape) (xs : List Tree) → is_class_shape h ≡ true → length xs < 4 → own_lexical false h (trees_of xs) ≡ []
few (shape.Class d) [] e l = refl
few (shape.Class d) (x ∷ []) e l = refl
few (shape.Class d) (x ∷ (y ∷ [])) e l = refl
few (shape.Class d) (x ∷ (y ∷ (z ∷ []))) e l = refl
few (shape.Class d) (x ∷ (y ∷ (z ∷ (w ∷ xs)))) e l = absurd (omega arith)
few h xs e l = absurd (false≢true e)

pub few_names : (n : Tree) (xs : List Tree) (marks : List Bool) → trees_of xs ≡ children n → length xs < 4 → is_class_shape (shape_of n) ≡ true → Marked (own_lexical false (shape_of n) (children n)) marks marks
few_names n xs marks e l c = subst (λ ns. Marked ns marks marks) (sym (ap (own_lexical false (shape_of n)) (sym e) ∙ few (shape_of n) xs c l)) (marks_add.nothing marks)
