-- What becomes of a child where one step is made in a list of children: it is the same, or a step of its own.
use Rattle.std.proofs.Common.{◌≡◌, ℕ, zero, suc, ◌<◌, true, false, List, refl, sym, ap, ◌∙◌, inl, inr, arith}
use Rattle.std.specs.Prelude.{◌⊎◌}
use Rattle.mini_model.specs.declared.name.Name.{Name}
use Rattle.mini_model.specs.declared.place.Position.{Position}
use Rattle.mini_model.specs.declared.place.Position.TheVariants.{CommaList}
use Rattle.mini_model.specs.Tree.{Tree, Trees, node, count, children, shape_of, child_or_absent, is_absent, is_absent_shape}
use Rattle.mini_model.specs.Position.{child_position}
use Rattle.mini_model.specs.Rewriting.{Step, here, inside, StepIn, first, later}
use Rattle.mini_kept.specs.KeepsNames.{is_rewritten_place}
use Rattle.mini_kept.specs.Frames.{unbracketed}
use Rattle.mini_kept.proofs.Unbracketed.{same_by, absent_plain}
use Rattle.mini_laws.specs.DeclaredNames.{own_names}
use Rattle.mini_kept.specs.Lifted.{KeepsNames, KeepsRoot}

abbrev pub names_of : Tree → List Name
names_of (node h xs n ts) = xs

abbrev pub part : Tree → ℕ → Tree
part t i = child_or_absent (children t) i

abbrev pub Moved : (Position → Tree → Tree → Type 0) → Position → Tree → Tree → Type 0
Moved R p t u = (t ≡ u) ⊎ Step R p t u

-- the same node over as many children, whether or not its key stands in brackets
pub record SameRoot (t u : Tree) : Type 0 where
  pub shape : unbracketed (shape_of t) ≡ unbracketed (shape_of u)
  pub names : names_of t ≡ names_of u
  pub counted : count (children t) ≡ count (children u)

-- and over children that moved
pub record Alike (R : Position → Tree → Tree → Type 0) (p : Position) (t u : Tree) : Type 0 where
  pub root : SameRoot t u
  pub parts : (i : ℕ) → Moved R (child_position (shape_of t) p (count (children t)) i) (part t i) (part u i)

-- or of which the second moved: the first and the third may be others
pub record AlikeBut (R : Position → Tree → Tree → Type 0) (p : Position) (t u : Tree) : Type 0 where
  pub root : SameRoot t u
  pub second : Moved R (child_position (shape_of t) p (count (children t)) 1) (part t 1) (part u 1)

names_are : (t : Tree) → names_of t ≡ own_names t
names_are (node h xs n ts) = refl

kept_root : {p : Position} {t u : Tree} → KeepsRoot p t u → SameRoot t u
kept_root {p} {t} {u} k = record {
  shape = k.shape;
  names = names_are t ∙ k.names ∙ sym (names_are u);
  counted = k.counted;
}

absent_by : (t : Tree) → is_absent t ≡ is_absent_shape (shape_of t)
absent_by (node h xs n ts) = refl

module _ (R : Position → Tree → Tree → Type 0) where
  pub absent_alike : {t u : Tree} → SameRoot t u → is_absent t ≡ is_absent u
  absent_alike {t} {u} a = absent_by t ∙ same_by is_absent_shape absent_plain (shape_of t) (shape_of u) a.shape ∙ sym (absent_by u)

  pub step_count : {π : ℕ → Position} {ts us : Trees} → StepIn R π ts us → count ts ≡ count us
  step_count (first π t u ts s) = refl
  step_count (later π t ts us s) = ap suc (step_count s)

  pub some_children : {π : ℕ → Position} {ts us : Trees} → StepIn R π ts us → 0 < count ts
  some_children (first π t u ts s) = omega arith
  some_children (later π t ts us s) = omega arith

  pub stepped : {π : ℕ → Position} {ts us : Trees} → StepIn R π ts us → (i : ℕ) → Moved R (π i) (child_or_absent ts i) (child_or_absent us i)
  stepped (first π t u ts s) zero = inr s
  stepped (first π t u ts s) (suc i) = inl refl
  stepped (later π t ts us s) zero = inl refl
  stepped (later π t ts us s) (suc i) = stepped s i

  same_alike : (p : Position) (t u : Tree) → t ≡ u → Alike R p t u
  same_alike p t u e = record { root = record { shape = ap (λ x. unbracketed (shape_of x)) e; names = ap names_of e; counted = ap (λ x. count (children x)) e }; parts = λ i. inl (ap (λ x. part x i) e) }

  step_cases : {p : Position} {t u : Tree} → Step R p t u → Alike R p t u ⊎ R p t u
  step_cases (here p t u r) = inr r
  step_cases (inside p h xs n ts us s) = inl (record { root = record { shape = refl; names = refl; counted = step_count s }; parts = stepped s })

  -- it is alike, or it was replaced
  pub cases : {p : Position} {t u : Tree} → Moved R p t u → Alike R p t u ⊎ R p t u
  cases {p} {t} {u} (inl e) = inl (same_alike p t u e)
  cases (inr s) = step_cases s

  -- where nothing is replaced but what keeps its root, a child does
  pub still_but : KeepsNames R → {p : Position} {t u : Tree} → is_rewritten_place p ≡ false → Moved R p t u → AlikeBut R p t u
  still_but l {p} {t} {u} e m = so (cases m)
    where
      replaced : (is_rewritten_place p ≡ true) ⊎ KeepsRoot p t u → AlikeBut R p t u
      replaced (inl q) = absurd (cc (sym e ∙ q))
      replaced (inr k) = record { root = kept_root k; second = inl k.second }

      so : Alike R p t u ⊎ R p t u → AlikeBut R p t u
      so (inl a) = record { root = a.root; second = a.parts 1 }
      so (inr r) = replaced (l.places p t u r)

  pub still : KeepsNames R → {p : Position} {t u : Tree} → is_rewritten_place p ≡ false → Moved R p t u → SameRoot t u
  still l e m = (still_but l e m).root

  -- and a list stays alike
  pub still_list : KeepsNames R → {t u : Tree} → Moved R CommaList t u → Alike R CommaList t u
  still_list l {t} {u} m = so (cases m)
    where
      replaced : (is_rewritten_place CommaList ≡ true) ⊎ KeepsRoot CommaList t u → Alike R CommaList t u
      replaced (inl q) = absurd (cc q)
      replaced (inr k) = absurd (cc k.place)

      so : Alike R CommaList t u ⊎ R CommaList t u → Alike R CommaList t u
      so (inl a) = a
      so (inr r) = replaced (l.places CommaList t u r)
