-- A step at any place keeps the names that a tree declares.
use Rattle.std.specs.Prelude.{ℕ, suc, ◌≡◌, refl, ◌||◌, ◌&&◌, Bool, true, List, [], ◌∷◌, ◌++◌}
use Rattle.std.proofs.Common.{ap}
use Rattle.mini_model.specs.declared.name.Name.{Name}
use Rattle.mini_model.specs.declared.place.Position.{Position}
use Rattle.mini_model.specs.declared.shape.Shape.{Shape}
use Rattle.mini_model.specs.Tree.{Tree, Trees, node, none, ◌▸◌, count}
use Rattle.mini_model.specs.Rewriting.{Step, here, inside, StepIn, first, later}
use Rattle.mini_accept.specs.WellShaped.{Slot, Filling, refused, these, each, each_or_last, pieces, filling, class_of, is_whole, is_strict_in, is_last, fits, fill}
use Rattle.mini_laws.specs.declared.names.Declared.{Declared}
use Rattle.mini_laws.specs.declared.names.Declared.TheVariants as declared
use Rattle.mini_laws.specs.DeclaredNames.{place_of, names_by, names_of, first_names, all_names}
use Rattle.mini_kept.specs.SameNames.{SameNames}
use Rattle.mini_kept.specs.Lifted.{KeepsNames}
use Rattle.mini_kept.specs.Placed.{fits_place}
use Rattle.mini_kept.proofs.Below.{hoisted_by}
use Rattle.mini_kept.proofs.Bools.{left, right}
use Rattle.mini_kept.proofs.Placed.{Placed, placed_below}
use Rattle.mini_kept.proofs.Statements.{same_both}
use Rattle.mini_kept.proofs.Stepping.{no_steps, one_of}

pub record Declares (t u : Tree) : Type 0 where
  pub bound : names_of declared.Bound u ≡ names_of declared.Bound t
  pub lexical : names_of declared.Lexical u ≡ names_of declared.Lexical t
  pub hoisted : SameNames (names_of declared.Hoisted u) (names_of declared.Hoisted t)

abbrev pub AllDeclare : Trees → Trees → Type 0
AllDeclare none none = Unit {0}
AllDeclare none (u ▸ us) = ⊥
AllDeclare (t ▸ ts) none = ⊥
AllDeclare (t ▸ ts) (u ▸ us) = Declares t u × AllDeclare ts us

itself : (t : Tree) → Declares t t
itself t = record { bound = refl; lexical = refl; hoisted = λ x. refl }

all_itself : (ts : Trees) → AllDeclare ts ts
all_itself none = tt
all_itself (t ▸ ts) = (itself t, all_itself ts)

all_names_kept : (d : Declared) (ts us : Trees) → ((t u : Tree) → Declares t u → names_of d u ≡ names_of d t) → AllDeclare ts us → all_names d us ≡ all_names d ts
unfolding names_of
all_names_kept d none none f k = refl
all_names_kept d none (u ▸ us) f k = absurd k
all_names_kept d (t ▸ ts) none f k = absurd k
all_names_kept d (t ▸ ts) (u ▸ us) f k = λ j. f t u k.0 j ++ all_names_kept d ts us f k.1 j

pub all_bound : (ts us : Trees) → AllDeclare ts us → all_names declared.Bound us ≡ all_names declared.Bound ts
all_bound ts us k = all_names_kept declared.Bound ts us (λ t u w. w.bound) k

pub first_bound : (ts us : Trees) → AllDeclare ts us → first_names us ≡ first_names ts
unfolding names_of
first_bound none none k = refl
first_bound none (u ▸ us) k = absurd k
first_bound (t ▸ ts) none k = absurd k
first_bound (t ▸ ts) (u ▸ us) k = k.0.bound

all_hoisted : (ts us : Trees) → AllDeclare ts us → SameNames (all_names declared.Hoisted us) (all_names declared.Hoisted ts)
unfolding names_of
all_hoisted none none k x = refl
all_hoisted none (u ▸ us) k x = absurd k
all_hoisted (t ▸ ts) none k x = absurd k
all_hoisted (t ▸ ts) (u ▸ us) k x = same_both (names_of declared.Hoisted u) (all_names declared.Hoisted us) (names_of declared.Hoisted t) (all_names declared.Hoisted ts) k.0.hoisted (all_hoisted ts us k.1) x

declares_below : (h : Shape) (xs : List Name) (n : ℕ) (ts us : Trees) → AllDeclare ts us → Declares (node h xs n ts) (node h xs n us)
unfolding names_of
declares_below h xs n ts us k = record {
  bound = λ j. names_by (place_of declared.Bound h) xs (first_bound ts us k j) (all_bound ts us k j) (all_bound ts us k j);
  lexical = λ j. names_by (place_of declared.Lexical h) xs (first_bound ts us k j) (all_bound ts us k j) (all_names_kept declared.Lexical ts us (λ t u w. w.lexical) k j);
  hoisted = hoisted_by (place_of declared.Hoisted h) xs (first_names ts) (first_names us) (all_names declared.Bound ts) (all_names declared.Bound us) (all_names declared.Hoisted ts) (all_names declared.Hoisted us) (first_bound ts us k) (all_bound ts us k) (all_hoisted ts us k);
}

module _ (R : Position → Tree → Tree → Type 0) (l : KeepsNames R) where
  mutual
    pub step_declares : {p : Position} {t u : Tree} → Step R p t u → (strict : Bool) (s : Slot) → fits_place p s ≡ true → fits strict s t ≡ true → Declares t u
    step_declares (here p t u r) strict s k e = let w = l.keeps p t u r strict s k e in record { bound = w.bound; lexical = w.lexical; hoisted = w.hoisted }
    step_declares (inside p h xs n ts us st) strict s k e = declares_below h xs n ts us (steps_declare st (is_strict_in strict h) (filling strict s h) (placed_below strict s h p (count ts) k) (right (is_whole (class_of s) h xs n ts) (fill (is_strict_in strict h) (filling strict s h) ts) e))

    pub steps_declare : {π : ℕ → Position} {ts us : Trees} → StepIn R π ts us → (strict : Bool) (g : Filling) → Placed π g → fill strict g ts ≡ true → AllDeclare ts us
    steps_declare (first π t u ts st) strict refused k e = absurd (cc e)
    steps_declare (first π t u ts st) strict (these []) k e = absurd (cc e)
    steps_declare (first π t u ts st) strict (these (s ∷ ss)) k e = (step_declares st strict s k.0 (left (fits strict s t) (fill strict (these ss) ts) e), all_itself ts)
    steps_declare (first π t u ts st) strict (each s) k e = (step_declares st strict s (k 0) (left (fits strict s t) (fill strict (each s) ts) e), all_itself ts)
    steps_declare (first π t u ts st) strict (each_or_last s r) k e =
        let (q, z, f) = one_of R l (π 0) strict s r (is_last ts) t (k 0).0 (k 0).1 (left (fits strict s t || (is_last ts && fits strict r t)) (fill strict (each_or_last s r) ts) e) in
        (step_declares st strict q z f, all_itself ts)
    steps_declare (first π t u ts st) strict (pieces g) k e = absurd (no_steps R l g (first π t u ts st) e)
    steps_declare (later π t ts us st) strict refused k e = absurd (cc e)
    steps_declare (later π t ts us st) strict (these []) k e = absurd (cc e)
    steps_declare (later π t ts us st) strict (these (s ∷ ss)) k e = (itself t, steps_declare st strict (these ss) k.1 (right (fits strict s t) (fill strict (these ss) ts) e))
    steps_declare (later π t ts us st) strict (each s) k e = (itself t, steps_declare st strict (each s) (λ j. k (suc j)) (right (fits strict s t) (fill strict (each s) ts) e))
    steps_declare (later π t ts us st) strict (each_or_last s r) k e =
        (itself t, steps_declare st strict (each_or_last s r) (λ j. k (suc j)) (right (fits strict s t || (is_last ts && fits strict r t)) (fill strict (each_or_last s r) ts) e))
    steps_declare (later π t ts us st) strict (pieces g) k e = absurd (no_steps R l g (later π t ts us st) e)
