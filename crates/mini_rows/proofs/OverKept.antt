-- The declaration of a name that goes, with a loop over keys or values after it whose right side reads that name, and what is written for
-- them: what they have.
use Rattle.std.specs.Prelude.{ℕ, ◌≡◌, refl, ◌||◌, Bool, true, false, List, []}
use Rattle.std.proofs.Common.{sym, arith, true≢false}
use Rattle.std.proofs.lemmas.Bool.{and_parts}
use Rattle.mini_model.specs.declared.kind.VariableDeclarationKind.{VariableDeclarationKind}
use Rattle.mini_model.specs.declared.name.Name.{Name}
use Rattle.mini_model.specs.declared.shape.Shape.TheVariants as shape
use Rattle.mini_model.specs.Tree.{Tree, Trees, node, none, ◌▸◌, shape_of, identifier}
use Rattle.mini_laws.specs.declared.names.Declared.TheVariants as declared
use Rattle.mini_laws.specs.declared.names.Use.TheVariants.{Read}
use Rattle.mini_laws.specs.DeclaredNames.{names_of, body_names, lexical_names, has_inner}
use Rattle.mini_laws.specs.Naming.{is_lexical}
use Rattle.mini_laws.specs.Scoped.{Unmentioned}
use Rattle.mini_kept.specs.Loosely.{symbol}
use Rattle.mini_terms.specs.Reading.{is_plain_part}
use Rattle.mini_rows.specs.Lists.{Each, EachIn, EachOf, each_loop, is_var_shape, is_bare_var}
use Rattle.mini_rows.specs.Sketches.{Asked, AsWholeItem, AsValue, Leap}
use Rattle.mini_rows.specs.Unused.{names, any_names, declared_among, declared_left, is_target_shape, is_open_left}
use Rattle.mini_rows.proofs.Arranging.{All, Any, Local}
use Rattle.mini_rows.proofs.ArrangedNames.{ScopedAs, scoped_local, symbol_times, symbols_summed, number_times, numbers_summed, InnerIf, inner_local, Once, once_local, HasTarget, Aimed, aimed_local}
use Rattle.mini_rows.proofs.ArrangedBodies.{HasBodies, bodies_local, HasFrames, frames_local, Declares, declares_local, FixedBy, fixed_local}
use Rattle.mini_rows.proofs.ArrangedValues.{is_value}
use Rattle.mini_rows.proofs.DeclaredKept.{Named, unmentioned_left, scoped_both, symbols_both, numbers_both, inner_both, once_both, targets_both, frames_both, bodies_both, declares_both, fixed_both, inner_back, fixed_back, named_names, named_declares}
use Rattle.mini_rows.proofs.ListKeptKeys.{scope, left_scope, var_lexical}
use Rattle.mini_rows.proofs.ListKeptSpots.{inner_loop, fixed_loop, declares_loop, frames_loop, bodies_loop, targets_loop, once_loop, scoped_loop, same_loop, numbers_loop, symbols_loop}
use Rattle.mini_rows.proofs.ListKeptValues.{Opens}
use Rattle.mini_rows.proofs.OpeningKept.{plain_value, led_value, found_value}
use Rattle.mini_rows.proofs.SingleUse.{Step, led, Well, Spared, swapped, taken, swapped_sum, unnamed, found, swapped_back}
use Rattle.mini_rows.proofs.UnusedKept.{LeavesThere, NamesThere, DeclaresThere}
use Rattle.mini_rows.proofs.UnusedNames.{unmentioned}

-- ---- the left side declares no lexical name

target_lexical : (t : Tree) → is_target_shape (shape_of t) ≡ true → lexical_names t ≡ []
unfolding names_of
target_lexical (node shape.Identifier xs n ts) e = refl
target_lexical (node (shape.StaticMemberExpression o) xs n ts) e = refl
target_lexical (node (shape.ComputedMemberExpression o) xs n ts) e = refl
target_lexical (node shape.ObjectAssignmentTarget xs n ts) e = refl
target_lexical (node shape.ArrayAssignmentTarget xs n ts) e = refl
target_lexical t e = absurd (true≢false (sym e))

open_lexical : (t : Tree) → is_open_left t ≡ true → lexical_names t ≡ []
open_lexical t e = by (is_target_shape (shape_of t)) refl e
  where
    by : (b : Bool) → is_target_shape (shape_of t) ≡ b → b || is_bare_var t ≡ true → lexical_names t ≡ []
    by true f g = target_lexical t f
    by false f g = var_lexical t (and_parts (is_var_shape (shape_of t)) _ g).0

-- ---- the loop

module _ (c : Each) (l w : Tree) where
  abbrev loops : Tree → Tree
  loops t = each_loop c l t w

  no_lexical : (t : Tree) → names_of declared.Lexical (loops t) ≡ []
  unfolding names_of
  no_lexical t = by c
    where
      by : (c : Each) → names_of declared.Lexical (each_loop c l t w) ≡ []
      by EachIn = refl
      by EachOf = refl

  loop_body : (t : Tree) → body_names (loops t) ≡ names_of declared.Hoisted (loops t)
  unfolding body_names names_of
  loop_body t = by c
    where
      by : (c : Each) → body_names (each_loop c l t w) ≡ names_of declared.Hoisted (each_loop c l t w)
      by EachIn = refl
      by EachOf = refl

  loop_named : (a b : Tree) → is_value (shape_of a) ≡ true → is_value (shape_of b) ≡ true → Named (loops a) (loops b)
  loop_named a b p q =
      let same = same_loop c l w a b p q in
      record {
        lexical = no_lexical a;
        still_none = no_lexical b;
        hoisted = same.names declared.Hoisted;
        declares = same.as_body false;
        names = loop_body a;
        left = loop_body b;
        declares_there = same.as_body true;
      }

  loop_free : (x : Name) (t : Tree) → names x l ≡ false → names x t ≡ false → any_names x (w ▸ none) ≡ false → names x (loops t) ≡ false
  loop_free x t f g h = by c
    where
      by : (c : Each) → names x (each_loop c l t w) ≡ false
      by EachIn = λ i. f i || (g i || h i)
      by EachOf = λ i. f i || (g i || h i)

module _ (K : VariableDeclarationKind) (x : Name) (k : ℕ) (e : x.symbol ≡ symbol k) (first : Trees) (init : Tree) (plain : is_plain_part init ≡ true) (f : any_names x first ≡ false) (i : names x init ≡ false) (c : Each) (l w : Tree) (open_left : is_open_left l ≡ true) (other : names x l ≡ false) (after : any_names x (w ▸ none) ≡ false) (ss : List Step) (well : Well AsValue ss) (spared : Spared x ss) (r : Name) where
  abbrev value : Tree
  value = found ss (identifier r)

  abbrev put : Tree
  put = led ss init

  abbrev earlier : Trees
  earlier = declared_among K x first init none ▸ (loops c l w value ▸ none)

  abbrev later : Trees
  later = declared_left K first ▸ (loops c l w put ▸ none)

  of_value : is_value (shape_of value) ≡ true
  of_value = found_value ss well (identifier r) refl

  of_put : is_value (shape_of put) ≡ true
  of_put = led_value ss well init (plain_value init plain)

  free : names x (loops c l w put) ≡ false
  free = loop_free c l w x put other (unnamed x ss spared init i) after

  no_scope : scope l w ≡ []
  no_scope = left_scope l (open_lexical l open_left)

  moved : (J : Leap → Type 0) (Q : Asked → Tree → Type 0) → Local J Q → (Q AsWholeItem (declared_among K x first init none) → Q AsWholeItem (declared_left K first) × Q AsValue init) → Opens Q (loops c l w) value put → All Q AsWholeItem earlier → All Q AsWholeItem later
  moved J Q n both o a =
      let (p, q) = both a.0 in
      let (v, b) = o.down a.1.0 in
      (p, (o.up (swapped J Q n AsValue ss well (identifier r) init (λ z. q) v) b, tt))

  moved_back : (Q : Asked → Tree → Type 0) → Local Any Q → Q AsValue (identifier r) → (Q AsWholeItem (declared_left K first) → Q AsValue init → Q AsWholeItem (declared_among K x first init none)) → Opens Q (loops c l w) put value → All Q AsWholeItem later → All Q AsWholeItem earlier
  moved_back Q n o both opens a =
      let (v, b) = opens.down a.1.0 in
      (both a.0 (taken Any Q n AsValue ss well init v), (opens.up (swapped_back Any Q n AsValue ss well init (identifier r) (λ z. o) v) b, tt))

  pub over_leaves : LeavesThere x earlier later
  unfolding Unmentioned has_inner
  over_leaves = record {
    inner = λ b. moved Any (InnerIf b) (inner_local b) (inner_both K x init first b) (inner_loop c l w value put b);
    inner_back = λ b. moved_back (InnerIf b) (inner_local b) refl (inner_back K x init first b) (inner_loop c l w put value b);
    scoped = λ env. moved Any (ScopedAs Read env) (scoped_local Read env) (scoped_both K x init first env) (scoped_loop c l w value put no_scope env);
    unmentioned = (unmentioned_left K x k e first f, (unmentioned x k e (loops c l w put) free, tt));
    symbols = λ z.
        let parts = symbols_both K x init first z in
        let same = swapped_sum (symbol_times Read z) (symbols_summed Read z) AsValue ss well (identifier r) init in
        let (n, is) = symbols_loop c l w Read z in
        omega (arith, parts, same, is value, is put);
    numbered = λ m.
        let parts = numbers_both K x init first m in
        let same = swapped_sum (number_times m) (numbers_summed m) AsValue ss well (identifier r) init in
        let (n, is) = numbers_loop c l w m in
        omega (arith, parts, same, is value, is put);
    once = moved Any Once once_local (once_both K x init first) (once_loop c l w value put);
    targets = λ h. moved (HasTarget h) (Aimed h) (aimed_local h) (targets_both K x init first h) (targets_loop c l w value put h);
    framed = λ all. moved Any (HasFrames all) (frames_local all) (frames_both K x init first all) (frames_loop c l w value put all);
    bodied = λ all a. moved Any (HasBodies all a) (bodies_local all a) (bodies_both K x init first all a) (bodies_loop c l w value put all a);
    fixed = λ z j. moved Any (FixedBy z j) (fixed_local z j) (fixed_both K x init first z j) (fixed_loop c l w value put z j);
    fixed_back = λ z j o. moved_back (FixedBy z j) (fixed_local z j) (omega arith) (fixed_back K x init first z j o) (fixed_loop c l w put value z j);
    declares = λ all. moved Any (Declares all) (declares_local all) (declares_both K x init first all) (declares_loop c l w value put all);
  }

  pub over_names : is_lexical K ≡ true → NamesThere x earlier later
  over_names n = named_names K x first init f (loops c l w value) (loops c l w put) free (loop_named c l w value put of_value of_put) n

  pub over_declares : DeclaresThere x earlier later
  over_declares = named_declares K x first init f (loops c l w value) (loops c l w put) free (loop_named c l w value put of_value of_put)
