-- Passes one after another, each over the program as it began, as steps of one relation.
use Rattle.std.proofs.Common.{◌≡◌, ℕ, Bool, true, false, [], refl, ap, sym, subst, ◌∙◌, true≢false}
use Rattle.std.specs.Prelude.{◌||◌, List, ◌∷◌, nat_eq}
use Rattle.std.proofs.lemmas.Bool.{and_parts, eqb-true, eq-eqb}
use Rattle.mini_model.specs.Tree.{Tree, Trees, node, none, ◌▸◌}
use Rattle.mini_model.specs.declared.place.Position.{Position}
use Rattle.mini_model.specs.declared.place.Position.TheVariants.{Elsewhere}
use Rattle.mini_model.specs.declared.shape.Shape.{Shape}
use Rattle.mini_model.specs.Rewriting.{Step, Reaches, done, more}
use Rattle.mini_accept.specs.WellShaped.{IsWellShaped}
use Rattle.mini_laws.specs.declared.names.Use.TheVariants.{Read}
use Rattle.mini_laws.specs.Congruence.{NoneIn, Avoids, AllAvoid}
use Rattle.mini_laws.specs.Fixity.{fixed_by, fixed_in, written_in}
use Rattle.mini_laws.specs.Scoped.{Scoped}
use Rattle.mini_laws.specs.State.{Fixed, Writable, Constant, KeepsOld, Writing, Writes}
use Rattle.mini_laws.specs.Substitution.{alone}
use Rattle.mini_laws.specs.Symbols.{declared_symbols, times}
use Rattle.mini_laws.specs.Value.{Variable, Declared, Global, variable_eq, variables, is_in, choose}
use Rattle.mini_tree.specs.Passes.{PassesReach, no_pass, one_more}
use Rattle.mini_tree.specs.Wider.{reaches_of}
use Rattle.mini_tree.proofs.Reaching.{reaches_trans}
use Rattle.mini_laws.specs.Writable.{is_open, writable_by, writable_in, mentions, any_mentions}
use Rattle.mini_kept.specs.Loosely.{symbol, LawfulUnder, undeclared, ProgramIsKeptUnder}
use Rattle.mini_kept.specs.Rooted.{Inner, Outer, LawfulRooted}
use Rattle.mini_kept.specs.Without.{Assured, BodySets, Within}
use Rattle.mini_kept.proofs.Gone.{avoids}
use Rattle.mini_kept.proofs.Rooted.{step_on, step_of, rooted_keeps, rooted_wider}
use Rattle.mini_kept.proofs.WithoutLists.{Part, PartEach, each_itself}
use Rattle.mini_shrink.specs.SameForeign.{DeclaresOnce}
use Rattle.mini_peephole.specs.AnyPasses.{Facts, KeepsKnown, EachBegins}

-- ---- what a program that has its names' symbols mentions it declares

module _ (k : ℕ) where
  other : (y : Variable) → variable_eq (Declared k) y ≡ false → variable_eq y (Declared k) ≡ false
  other (Global s) e = refl
  other (Declared m) e = by (nat_eq m k) refl
    where
      by : (b : Bool) → nat_eq m k ≡ b → nat_eq m k ≡ false
      by true q = absurd (true≢false (sym (eq-eqb k m (sym (eqb-true m k q))) ∙ e))
      by false q = q

  none_in : (ys : List Variable) → NoneIn (alone (Declared k)) ys → is_in (Declared k) ys ≡ false
  none_in [] a = refl
  none_in (y ∷ ys) a = ap (λ b. choose b true (is_in (Declared k) ys)) (other y a.0) ∙ none_in ys a.1

  mutual
    unmentioned : (t : Tree) → Avoids (alone (Declared k)) t → mentions t (Declared k) ≡ false
    unmentioned (node h xs n ts) a = ap (λ b. b || any_mentions ts (Declared k)) (none_in (variables xs) a.0) ∙ all_unmentioned ts a.1

    all_unmentioned : (ts : Trees) → AllAvoid (alone (Declared k)) ts → any_mentions ts (Declared k) ≡ false
    all_unmentioned none a = refl
    all_unmentioned (t ▸ ts) a = ap (λ b. b || any_mentions ts (Declared k)) (unmentioned t a.0) ∙ all_unmentioned ts a.1

mentioned_is_declared : (u : Tree) → Scoped Read [] u → (k : ℕ) → mentions u (Declared k) ≡ true → undeclared u (Declared k) ≡ false
mentioned_is_declared u v k m = by (nat_eq (times (symbol k) (declared_symbols u)) 0) refl
  where
    by : (b : Bool) → nat_eq (times (symbol k) (declared_symbols u)) 0 ≡ b → nat_eq (times (symbol k) (declared_symbols u)) 0 ≡ false
    by true q = absurd (true≢false (sym m ∙ unmentioned k u (avoids k Read [] u v refl (eqb-true (times (symbol k) (declared_symbols u)) 0 q))))
    by false q = q

-- ---- what a program lets be written can be in all of its code

pub open_is : (f : Fixed) → is_open f ≡ true → f ≡ Writable
open_is Writable e = refl
open_is Constant e = absurd (true≢false (sym e))
open_is KeepsOld e = absurd (true≢false (sym e))

open_written : (strict : Bool) (k : ℕ) → written_in strict (Declared k) Writable ≡ Writes
open_written true k = refl
open_written false k = refl

pub open_in : (strict : Bool) (t : Tree) (x : Variable) → writable_by t x ≡ true → fixed_in strict t x ≡ Writes
open_in strict t (Declared k) e = ap (written_in strict (Declared k)) (open_is _ e) ∙ open_written strict k
open_in strict t (Global s) e = absurd (true≢false (sym e))

abbrev is_written : Writing → Bool
is_written Writes = true
is_written w = false

written_open : (k : ℕ) (f : Fixed) → is_written (written_in false (Declared k) f) ≡ is_open f
written_open k Writable = refl
written_open k Constant = refl
written_open k KeepsOld = refl

-- what is known of one is known of a third, if so it is of a second
pub within_through : (U V W : Assured) → Within U V → Within V W → Within U W
within_through U V W f g = record {
  steady = λ x h. g.steady x (f.steady x h);
  unshared = λ x h. g.unshared x (f.unshared x h);
  initial = λ x h. g.initial x (f.initial x h);
  has_this = λ h. g.has_this (f.has_this h);
}

-- ---- what holds as passes begin

pub begins_more : (P Q : Tree → Type 0) → ((q : Tree) → P q → Q q) → {G : Tree → Position → Tree → Tree → Type 0} {k : ℕ} {s u : Tree} (r : PassesReach G k s u) → EachBegins P r → EachBegins Q r
begins_more P Q f (no_pass s) h = tt
begins_more P Q f (one_more k s u v r others) h = (begins_more P Q f r h.0, f u h.1)

module _ (G : Tree → Position → Tree → Tree → Type 0) (K : Shape → Bool) (S : Facts) (l : (q : Tree) → DeclaresOnce q → LawfulRooted K (writable_in q) (S q) (G q)) where
  -- steps lead to a program whose names are resolved
  declared_on : (q : Tree) → DeclaresOnce q → (t u : Tree) → Reaches (G q) Elsewhere t u → DeclaresOnce t → DeclaresOnce u
  declared_on q d t u r e =
      let k : ProgramIsKeptUnder K (writable_in q) (S q) t u = rooted_keeps (G q) K (writable_in q) (S q) (l q d) t u r e.shaped in
      record { shaped = k.names.shaped e.shaped; scoped = k.names.scoped e.shaped e.scoped; distinct = k.names.distinct e.shaped e.scoped e.distinct; once = k.names.once e.shaped e.once }

  -- and so do passes
  pub declared_after : {k : ℕ} {s u : Tree} → PassesReach G k s u → DeclaresOnce s → DeclaresOnce u
  declared_after (no_pass s) e = e
  declared_after (one_more k s u v r others) e = let there = declared_after r e in declared_on u there u v others there

  module _ (stay : (q : Tree) → KeepsKnown S (G q)) where
    known_on : (q : Tree) → DeclaresOnce q → {p : Position} {t u : Tree} → Reaches (G q) p t u → p ≡ Elsewhere → DeclaresOnce t → PartEach (S t) (S u)
    known_on q d (done p t) f e = each_itself (S t)
    known_on q d (more p t u v s r) f e =
        let st : Step (G q) Elsewhere t u = subst (λ o. Step (G q) o t u) f s in
        let further = known_on q d r f (declared_on q d t u (more Elsewhere t u u st (done Elsewhere u)) e) in
        λ b. within_through (S t b) (S u b) (S v b) (stay q t u st e b) (further b)

    -- all that is known of bodies as a pass begins is known of those of the last program
    pub known_after : {k : ℕ} {s u : Tree} (r : PassesReach G k s u) → DeclaresOnce s → EachBegins (λ q. PartEach (S q) (S u)) r
    known_after (no_pass s) e = tt
    known_after (one_more k s u v r others) e =
        let there = declared_after r e in
        let known = known_on u there others refl there in
        (begins_more (λ q. PartEach (S q) (S u)) (λ q. PartEach (S q) (S v)) (λ q f b. within_through (S q b) (S u b) (S v b) (f b) (known b)) r (known_after r e), known)

-- ---- passes as steps of one relation

module _ (G : Tree → Position → Tree → Tree → Type 0) (K : Shape → Bool) (S : Facts) (l : (q : Tree) → DeclaresOnce q → LawfulRooted K (writable_in q) (S q) (G q)) (V : BodySets) (t : Tree) where
  -- a program whose names are resolved, in which nothing can be written that the first forbids to
  -- write, and of whose bodies nothing is known but V
  abbrev Over : Type 0
  Over = (q : Tree) × DeclaresOnce q × Part (writable_in q) (writable_by t) × PartEach (S q) V

  -- what is made of a tree over such a program
  abbrev pub Any : Position → Tree → Tree → Type 0
  Any p n w = (i : Over) × G i.0 p n w

  at_first : (i : Over) → LawfulRooted K (writable_by t) V (G i.0)
  at_first (q, e, f, g) = rooted_wider (G q) K (writable_in q) (writable_by t) (S q) V f g (l q e)

  each : {X : Position → Tree → Tree → Type 0} → ((i : Over) (p : Position) (n w : Tree) → Inner (G i.0) p n w → X p n w) → (p : Position) (n w : Tree) → Inner Any p n w → X p n w
  each f p n w r = f r.0.0 p n w (r.0.1, r.1)

  inner_lawful : LawfulUnder K (writable_by t) V (Inner Any)
  inner_lawful = record {
    shapes = record { fitting = each (λ i. (at_first i).inner.shapes.fitting); asked = each (λ i. (at_first i).inner.shapes.asked) };
    places = record {
      names = record { places = each (λ i. (at_first i).inner.places.names.places); pieces = each (λ i. (at_first i).inner.places.names.pieces); keeps = each (λ i. (at_first i).inner.places.names.keeps) };
      slots = each (λ i. (at_first i).inner.places.slots);
      ports = each (λ i. (at_first i).inner.places.ports);
      listed = λ p n w e r. (at_first r.0.0).inner.places.listed p n w e (r.0.1, r.1);
      exported = each (λ i. (at_first i).inner.places.exported);
    };
    reads = each (λ i. (at_first i).inner.reads);
    kind = each (λ i. (at_first i).inner.kind);
    declared = each (λ i. (at_first i).inner.declared);
    instances = each (λ i. (at_first i).inner.instances);
  }

  one_over : (p : Position) (n w : Tree) → Outer Any p n w → (i : Over) × Outer (G i.0) p n w
  one_over p n w r = (r.0.0, (r.0.1, r.1))

  whole_kept : (n w : Tree) → Step (Outer Any) Elsewhere n w → IsWellShaped n → ProgramIsKeptUnder K (writable_by t) V n w
  whole_kept n w s e = let (i, o) = step_of Over (λ i. Outer (G i.0)) (step_on one_over s) in (at_first i).whole n w o e

  -- what is lawful over every program is lawful over all together
  pub any_lawful : LawfulRooted K (writable_by t) V Any
  any_lawful = record { inner = inner_lawful; whole = whole_kept }

  module _ (first : DeclaresOnce t) where
    -- what can be written in a later program can be in the first
    writable_still : (u : Tree) → Reaches Any Elsewhere t u → Part (writable_in u) (writable_by t)
    writable_still u r = by
      where
        kept : ProgramIsKeptUnder K (writable_by t) V t u
        kept = rooted_keeps Any K (writable_by t) V any_lawful t u r first.shaped

        by : Part (writable_in u) (writable_by t)
        by (Declared k) h =
            let (m, f) = and_parts (mentions u (Declared k)) (writable_by u (Declared k)) h in
            sym (written_open k (fixed_by t (Declared k))) ∙ ap is_written (kept.fixities first.scoped first.distinct false (Declared k) (mentioned_is_declared u (kept.names.scoped first.shaped first.scoped) k m)) ∙ written_open k (fixed_by u (Declared k)) ∙ f
        by (Global s) h = absurd (true≢false (sym h))

    pub any_reach : {k : ℕ} {s u : Tree} (r : PassesReach G k s u) → EachBegins (λ q. PartEach (S q) V) r → s ≡ t → Reaches Any Elsewhere t u
    any_reach (no_pass s) f e = subst (Reaches Any Elsewhere t) (sym e) (done Elsewhere t)
    any_reach (one_more k s u v r others) f e =
        let before = any_reach r f.0 e in
        let there = declared_after G K S l r (subst DeclaresOnce (sym e) first) in
        reaches_trans Any before (reaches_of (G u) Any (λ p n w g. ((u, there, writable_still u before, f.1), g)) Elsewhere u v others)
