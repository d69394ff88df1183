-- The declaration of a name that goes, with a `for` after it that begins with a `var` whose first initializer reads that name, and what is
-- written for them: what they have.
use Rattle.std.specs.Prelude.{ℕ, ◌≡◌, refl, ◌||◌, true, false, List, []}
use Rattle.std.proofs.Common.{arith}
use Rattle.mini_model.specs.declared.kind.VariableDeclarationKind.{VariableDeclarationKind}
use Rattle.mini_model.specs.declared.name.Name.{Name}
use Rattle.mini_model.specs.Tree.{Tree, Trees, none, ◌▸◌, identifier}
use Rattle.mini_laws.specs.declared.names.Declared.TheVariants as declared
use Rattle.mini_laws.specs.declared.names.Use.TheVariants.{Read}
use Rattle.mini_laws.specs.DeclaredNames.{names_of, body_names, has_inner}
use Rattle.mini_laws.specs.Naming.{is_lexical}
use Rattle.mini_laws.specs.Scoped.{Unmentioned}
use Rattle.mini_kept.specs.Loosely.{symbol}
use Rattle.mini_terms.specs.Reading.{is_plain_part}
use Rattle.mini_rows.specs.Lists.{for_loop}
use Rattle.mini_rows.specs.Sketches.{Asked, AsWholeItem, AsValue, Leap}
use Rattle.mini_rows.specs.Unused.{names, any_names, declared_among, declared_left}
use Rattle.mini_rows.proofs.Arranging.{All, Any, Local}
use Rattle.mini_rows.proofs.ArrangedNames.{ScopedAs, scoped_local, symbol_times, symbols_summed, number_times, numbers_summed, InnerIf, inner_local, Once, once_local, HasTarget, Aimed, aimed_local}
use Rattle.mini_rows.proofs.ArrangedBodies.{HasBodies, bodies_local, HasFrames, frames_local, Declares, declares_local, FixedBy, fixed_local}
use Rattle.mini_rows.proofs.DeclaredKept.{Named, unmentioned_left, scoped_both, symbols_both, numbers_both, inner_both, once_both, targets_both, frames_both, bodies_both, declares_both, fixed_both, inner_back, fixed_back, named_names, named_declares}
use Rattle.mini_rows.proofs.ListKeptBegun.{declared_with, inner_spots, fixed_spots, declares_spots, frames_spots, bodies_spots, targets_spots, number_sums, symbols_through, looped_same, once_looped, scoped_looped}
use Rattle.mini_rows.proofs.ListKeptValues.{Opens}
use Rattle.mini_rows.proofs.SingleUse.{Step, led, Well, Spared, swapped, taken, swapped_sum, unnamed, found, swapped_back, both_there, plain_there}
use Rattle.mini_rows.proofs.UnusedKept.{LeavesThere, NamesThere, DeclaresThere}
use Rattle.mini_rows.proofs.UnusedNames.{unmentioned}

-- the loop, over the first initializer
abbrev pub looped : Tree → Trees → Tree → Tree → Tree → Tree → Tree
looped id ds u v w t = for_loop (declared_with id ds t) u v w

module _ (id : Tree) (ds : Trees) (u v w : Tree) where
  abbrev loops : Tree → Tree
  loops t = looped id ds u v w t

  no_lexical : (t : Tree) → names_of declared.Lexical (loops t) ≡ []
  unfolding names_of
  no_lexical t = refl

  loop_body : (t : Tree) → body_names (loops t) ≡ names_of declared.Hoisted (loops t)
  unfolding body_names names_of
  loop_body t = refl

  loop_named : (a b : Tree) → Named (loops a) (loops b)
  loop_named a b =
      let same = looped_same id ds u v w a b in
      record { lexical = no_lexical a; still_none = no_lexical b; hoisted = same.names declared.Hoisted; declares = same.as_body false; names = loop_body a; left = loop_body b; declares_there = same.as_body true }

  loop_free : (x : Name) (t : Tree) → names x id ≡ false → names x t ≡ false → any_names x ds ≡ false → any_names x (u ▸ (v ▸ (w ▸ none))) ≡ false → names x (loops t) ≡ false
  loop_free x t f g h r = λ i. (((f i || (g i || false)) || h i) || false) || r i

module _ (K : VariableDeclarationKind) (x : Name) (k : ℕ) (e : x.symbol ≡ symbol k) (first : Trees) (init : Tree) (plain : is_plain_part init ≡ true) (f : any_names x first ≡ false) (i : names x init ≡ false) (id : Tree) (ds : Trees) (u v w : Tree) (other : names x id ≡ false) (later : any_names x ds ≡ false) (beside : any_names x (u ▸ (v ▸ (w ▸ none))) ≡ false) (ss : List Step) (well : Well AsValue ss) (spared : Spared x ss) (r : Name) where
  abbrev value : Tree
  value = found ss (identifier r)

  abbrev put : Tree
  put = led ss init

  abbrev earlier : Trees
  earlier = declared_among K x first init none ▸ (loops id ds u v w value ▸ none)

  abbrev later_on : Trees
  later_on = declared_left K first ▸ (loops id ds u v w put ▸ none)

  free : names x (loops id ds u v w put) ≡ false
  free = loop_free id ds u v w x put other (unnamed x ss spared init i) later beside

  moved : (J : Leap → Type 0) (Q : Asked → Tree → Type 0) → Local J Q → (Q AsWholeItem (declared_among K x first init none) → Q AsWholeItem (declared_left K first) × Q AsValue init) → Opens Q (loops id ds u v w) value put → All Q AsWholeItem earlier → All Q AsWholeItem later_on
  moved J Q n both o a =
      let (p, q) = both a.0 in
      let (v, b) = o.down a.1.0 in
      (p, (o.up (swapped J Q n AsValue ss well (identifier r) init (λ z. q) v) b, tt))

  moved_back : (Q : Asked → Tree → Type 0) → Local Any Q → Q AsValue (identifier r) → (Q AsWholeItem (declared_left K first) → Q AsValue init → Q AsWholeItem (declared_among K x first init none)) → Opens Q (loops id ds u v w) put value → All Q AsWholeItem later_on → All Q AsWholeItem earlier
  moved_back Q n o both opens a =
      let (v, b) = opens.down a.1.0 in
      (both a.0 (taken Any Q n AsValue ss well init v), (opens.up (swapped_back Any Q n AsValue ss well init (identifier r) (λ z. o) v) b, tt))

  pub begun_leaves : LeavesThere x earlier later_on
  unfolding Unmentioned has_inner
  begun_leaves = record {
    inner = λ b. moved Any (InnerIf b) (inner_local b) (inner_both K x init first b) ((inner_spots b).looped id ds u v w value put tt tt);
    inner_back = λ b. moved_back (InnerIf b) (inner_local b) refl (inner_back K x init first b) ((inner_spots b).looped id ds u v w put value tt tt);
    scoped = λ env. moved Any (ScopedAs Read env) (scoped_local Read env) (scoped_both K x init first env) (scoped_looped id ds u v w value put (both_there ss init r (plain_there init plain)) env);
    unmentioned = (unmentioned_left K x k e first f, (unmentioned x k e (loops id ds u v w put) free, tt));
    symbols = λ z.
        let parts = symbols_both K x init first z in
        let same = swapped_sum (symbol_times Read z) (symbols_summed Read z) AsValue ss well (identifier r) init in
        let (n, is) = symbols_through Read z id ds u v w in
        omega (arith, parts, same, is value, is put);
    numbered = λ m.
        let parts = numbers_both K x init first m in
        let same = swapped_sum (number_times m) (numbers_summed m) AsValue ss well (identifier r) init in
        let (n, is) = (number_sums m).looped id ds u v w in
        omega (arith, parts, same, is value, is put);
    once = moved Any Once once_local (once_both K x init first) (once_looped id ds u v w value put);
    targets = λ h. moved (HasTarget h) (Aimed h) (aimed_local h) (targets_both K x init first h) ((targets_spots h).looped id ds u v w value put tt tt);
    framed = λ all. moved Any (HasFrames all) (frames_local all) (frames_both K x init first all) ((frames_spots all).looped id ds u v w value put tt tt);
    bodied = λ all a. moved Any (HasBodies all a) (bodies_local all a) (bodies_both K x init first all a) ((bodies_spots all a).looped id ds u v w value put tt tt);
    fixed = λ z j. moved Any (FixedBy z j) (fixed_local z j) (fixed_both K x init first z j) ((fixed_spots z j).looped id ds u v w value put tt tt);
    fixed_back = λ z j o. moved_back (FixedBy z j) (fixed_local z j) (omega arith) (fixed_back K x init first z j o) ((fixed_spots z j).looped id ds u v w put value tt tt);
    declares = λ all. moved Any (Declares all) (declares_local all) (declares_both K x init first all) ((declares_spots all).looped id ds u v w value put tt tt);
  }

  pub begun_names : is_lexical K ≡ true → NamesThere x earlier later_on
  begun_names n = named_names K x first init f (loops id ds u v w value) (loops id ds u v w put) free (loop_named id ds u v w value put) n

  pub begun_declares : DeclaresThere x earlier later_on
  begun_declares = named_declares K x first init f (loops id ds u v w value) (loops id ds u v w put) free (loop_named id ds u v w value put)
