-- A tree without a fault: no node of it has a cause.
use Rattle.std.proofs.Common.{◌≡◌, ℕ, ◌+◌, Bool, true, false, ◌&&◌, List, [], ◌∷◌, ◌++◌, refl, sym, ap, ◌∙◌}
use Rattle.std.specs.Prelude.{Option, Some, None, map, if◌then◌else◌}
use Rattle.std.proofs.lemmas.Bool.{false≢true}
use Rattle.std.proofs.lemmas.Option.{none-some}
use Rattle.mini_model.specs.declared.name.Name.{Name}
use Rattle.mini_model.specs.declared.shape.Shape.{Shape}
use Rattle.mini_model.specs.Tree.{Tree, Trees, node, none, ◌▸◌}
use Rattle.mini_model.specs.Paths.{Standing, Node, Holder, Missing, standing, by_standing, width}
use Rattle.mini_print.specs.Unprintable.{Cause, Reserved, BadText, Fault, below, faults_by, faults_inside, faults_among, faults_at, first_fault, has_label, has_text, is_reserved_name, cause_of, head}

-- ---- tests

pub and_l : (a b : Bool) → (a && b) ≡ true → a ≡ true
and_l true b e = refl
and_l false b e = absurd (false≢true e)

pub and_r : (a b : Bool) → (a && b) ≡ true → b ≡ true
and_r true b e = e
and_r false b e = absurd (false≢true e)

pub both : (a b : Bool) → a ≡ true → b ≡ true → (a && b) ≡ true
both a b e d = ap (λ c. c && b) e ∙ d

-- ---- clean trees

abbrev pub has_no_cause : Option Cause → Bool
has_no_cause None = true
has_no_cause (Some c) = false

abbrev mutual
  pub is_clean : Bool → Tree → Bool
  is_clean l (node h xs n ts) = by_standing (standing h) (has_no_cause (cause_of l h xs ts) && are_clean (has_label h) ts) (are_clean false ts) true

  pub are_clean : Bool → Trees → Bool
  are_clean l none = true
  are_clean l (t ▸ ts) = is_clean l t && are_clean l ts

-- what a node of ESTree that is clean has
causeless : (a b : Bool) → has_no_cause (if a then Some Reserved else (if b then None else Some BadText)) ≡ true → (a ≡ false) × (b ≡ true)
causeless true b e = absurd (false≢true e)
causeless false true e = (refl, refl)
causeless false false e = absurd (false≢true e)

as_node : (k : Standing) (a b : Bool) → k ≡ Node → by_standing k a b true ≡ true → a ≡ true
as_node k a b e d = sym (ap (λ s. by_standing s a b true) e) ∙ d

abbrev pub Clean : Bool → Shape → List Name → Trees → Type 0
Clean l h xs ts = (is_reserved_name l h xs ≡ false) × (has_text h ts ≡ true) × (are_clean (has_label h) ts ≡ true)

pub clean_node : (l : Bool) (h : Shape) (xs : List Name) (n : ℕ) (ts : Trees) → standing h ≡ Node → is_clean l (node h xs n ts) ≡ true → Clean l h xs ts
clean_node l h xs n ts e k =
    let c = as_node (standing h) (has_no_cause (cause_of l h xs ts) && are_clean (has_label h) ts) (are_clean false ts) e k in
    let a = causeless (is_reserved_name l h xs) (has_text h ts) (and_l (has_no_cause (cause_of l h xs ts)) (are_clean (has_label h) ts) c) in
    (a.0, a.1, and_r (has_no_cause (cause_of l h xs ts)) (are_clean (has_label h) ts) c)

-- ---- a tree without a first fault is clean

none_in : (fs gs : List Fault) → head (fs ++ gs) ≡ None → (head fs ≡ None) × (head gs ≡ None)
none_in [] gs e = (refl, e)
none_in (f ∷ fs) gs e = absurd (none-some f (sym e))

none_below : (i : ℕ) (fs : List Fault) → head (map (below i) fs) ≡ None → head fs ≡ None
none_below i [] e = refl
none_below i (f ∷ fs) e = absurd (none-some (below i f) (sym e))

own_none : (o : Option Cause) → head (faults_by o) ≡ None → has_no_cause o ≡ true
own_none None e = refl
own_none (Some c) e = absurd (none-some (record { at = []; cause = c }) (sym e))

stood_clean : (k : Standing) (fs gs : List Fault) (a b : Bool) → (head fs ≡ None → a ≡ true) → (head gs ≡ None → b ≡ true) → head (by_standing k fs gs []) ≡ None → by_standing k a b true ≡ true
stood_clean Node fs gs a b x y e = x e
stood_clean Holder fs gs a b x y e = y e
stood_clean Missing fs gs a b x y e = refl

at_clean : (o : Option Cause) (fs : List Fault) (b : Bool) → (head fs ≡ None → b ≡ true) → head (faults_by o ++ fs) ≡ None → (has_no_cause o && b) ≡ true
at_clean o fs b k e = let two = none_in (faults_by o) fs e in both (has_no_cause o) b (own_none o two.0) (k two.1)

mutual
  inside_clean : (l : Bool) (t : Tree) (i : ℕ) → head (faults_inside l t i) ≡ None → is_clean l t ≡ true
  inside_clean l (node h xs n ts) i e =
      stood_clean (standing h) (map (below i) (faults_at l (node h xs n ts))) (faults_among false ts i) (has_no_cause (cause_of l h xs ts) && are_clean (has_label h) ts) (are_clean false ts)
      (λ d. at_clean (cause_of l h xs ts) (faults_among (has_label h) ts 0) (are_clean (has_label h) ts) (λ c. among_clean (has_label h) ts 0 c) (none_below i (faults_at l (node h xs n ts)) d))
      (λ d. among_clean false ts i d) e

  among_clean : (l : Bool) (ts : Trees) (i : ℕ) → head (faults_among l ts i) ≡ None → are_clean l ts ≡ true
  among_clean l none i e = refl
  among_clean l (t ▸ ts) i e =
      let two = none_in (faults_inside l t i) (faults_among l ts (i + width t)) e in
      both (is_clean l t) (are_clean l ts) (inside_clean l t i two.0) (among_clean l ts (i + width t) two.1)

pub program_clean : (h : Shape) (xs : List Name) (n : ℕ) (ts : Trees) → standing h ≡ Node → first_fault (node h xs n ts) ≡ None → is_clean false (node h xs n ts) ≡ true
program_clean h xs n ts p e =
    ap (λ s. by_standing s (has_no_cause (cause_of false h xs ts) && are_clean (has_label h) ts) (are_clean false ts) true) p
    ∙ at_clean (cause_of false h xs ts) (faults_among (has_label h) ts 0) (are_clean (has_label h) ts) (λ d. among_clean (has_label h) ts 0 d) e
