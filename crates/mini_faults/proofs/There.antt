-- Each fault of a tree stands where its path leads, and a tree without a fault has no node with a
-- cause.
use Rattle.std.proofs.Common.{◌≡◌, ℕ, zero, suc, ◌+◌, Bool, true, false, ◌&&◌, List, [], ◌∷◌, ◌++◌, refl, sym, ap, subst, ◌∙◌, arith}
use Rattle.std.specs.Prelude.{Option, Some, None, map, option_and_then}
use Rattle.std.proofs.lemmas.Option.{none-some, same_Some}
use Rattle.mini_model.specs.declared.name.Name.{Name}
use Rattle.mini_model.specs.declared.shape.Shape.{Shape}
use Rattle.mini_model.specs.Tree.{Tree, Trees, node, none, ◌▸◌, count}
use Rattle.mini_model.specs.Paths.{Path, append, stands_for, spread, Standing, Node, Holder, Missing, standing, by_standing, child_at, node_at, width}
use Rattle.mini_print.specs.Unprintable.{Cause, Fault, below, faults_by, faults_inside, faults_among, faults_at, first_fault, has_label, cause_of, head}
use Rattle.mini_faults.specs.Faults.{own_cause}
use Rattle.mini_faults.specs.There.{IsThere, has_no_cause, is_faultless, are_faultless, has_no_fault}

-- ---- each of some faults

abbrev Each : (Fault → Type 0) → List Fault → Type 0
Each P [] = Unit {0}
Each P (f ∷ fs) = P f × Each P fs

each_append : (P : Fault → Type 0) (fs gs : List Fault) → Each P fs → Each P gs → Each P (fs ++ gs)
each_append P [] gs a b = b
each_append P (f ∷ fs) gs a b = (a.0, each_append P fs gs a.1 b)

each_weaker : (P Q : Fault → Type 0) → ((f : Fault) → P f → Q f) → (fs : List Fault) → Each P fs → Each Q fs
each_weaker P Q k [] a = tt
each_weaker P Q k (f ∷ fs) a = (k f a.0, each_weaker P Q k fs a.1)

each_below : (P Q : Fault → Type 0) (i : ℕ) → ((f : Fault) → P f → Q (below i f)) → (fs : List Fault) → Each P fs → Each Q (map (below i) fs)
each_below P Q i k [] a = tt
each_below P Q i k (f ∷ fs) a = (k f a.0, each_below P Q i k fs a.1)

first_of_each : (P : Fault → Type 0) (fs : List Fault) (f : Fault) → head fs ≡ Some f → Each P fs → P f
first_of_each P [] f e a = absurd (none-some f e)
first_of_each P (g ∷ fs) f e a = subst P (same_Some g f e) a.0

-- ---- where a fault is: from a node on, and among trees of which the first is in a place

record Here (t : Tree) (f : Fault) : Type 0 where
  label : Bool
  found : Tree
  stands : node_at f.at t ≡ Some found
  caused : own_cause label found ≡ Some f.cause

record Below (us : Trees) (i : ℕ) (f : Fault) : Type 0 where
  index : ℕ
  rest : Path
  child : Tree
  label : Bool
  found : Tree
  path : f.at ≡ (i + index) ∷ rest
  among : child_at us index ≡ Some child
  stands : node_at rest child ≡ Some found
  caused : own_cause label found ≡ Some f.cause

from_here : (t : Tree) (i : ℕ) (f : Fault) → Here t f → Below (t ▸ none) i (below i f)
from_here t i f a = record { index = 0; rest = f.at; child = t; label = a.label; found = a.found; path = ap (λ n. n ∷ f.at) same; among = refl; stands = a.stands; caused = a.caused }
  where
    same : i ≡ i + 0
    same = omega arith

from_below : (h : Shape) (xs : List Name) (n : ℕ) (ts : Trees) (f : Fault) → Below (spread ts) 0 f → Here (node h xs n ts) f
from_below h xs n ts f a =
    record {
      label = a.label;
      found = a.found;
      stands = ap (λ q. node_at q (node h xs n ts)) a.path
          ∙ ap (λ j. option_and_then (node_at a.rest) (child_at (spread ts) j)) (same a.index)
          ∙ ap (option_and_then (node_at a.rest)) a.among
          ∙ a.stands;
      caused = a.caused;
    }
  where
    same : (k : ℕ) → 0 + k ≡ k
    same k = omega arith

own_here : (l : Bool) (t : Tree) (o : Option Cause) → own_cause l t ≡ o → Each (Here t) (faults_by o)
own_here l t None e = tt
own_here l t (Some c) e = (record { label = l; found = t; stands = refl; caused = e }, tt)

at_node : (l : Bool) (h : Shape) (xs : List Name) (n : ℕ) (ts : Trees) → Each (Below (spread ts) 0) (faults_among (has_label h) ts 0) → Each (Here (node h xs n ts)) (faults_at l (node h xs n ts))
at_node l h xs n ts a =
    let t = node h xs n ts in
    each_append (Here t) (faults_by (cause_of l h xs ts)) (faults_among (has_label h) ts 0)
    (own_here l t (cause_of l h xs ts) refl)
    (each_weaker (Below (spread ts) 0) (Here t) (from_below h xs n ts) (faults_among (has_label h) ts 0) a)

stood : (k : Standing) (us vs : Trees) (fs gs : List Fault) (i : ℕ) → Each (Below us i) fs → Each (Below vs i) gs → Each (Below (by_standing k us vs none) i) (by_standing k fs gs [])
stood Node us vs fs gs i a b = a
stood Holder us vs fs gs i a b = b
stood Missing us vs fs gs i a b = tt

child_first : (us vs : Trees) (k : ℕ) (c : Tree) → child_at us k ≡ Some c → child_at (append us vs) k ≡ Some c
child_first none vs k c e = absurd (none-some c e)
child_first (u ▸ us) vs zero c e = e
child_first (u ▸ us) vs (suc k) c e = child_first us vs k c e

child_later : (us vs : Trees) (k : ℕ) → child_at (append us vs) (count us + k) ≡ child_at vs k
child_later none vs k = ap (child_at vs) same
  where
    same : 0 + k ≡ k
    same = omega arith
child_later (u ▸ us) vs k = ap (child_at (u ▸ append us vs)) same ∙ child_later us vs k
  where
    same : suc (count us) + k ≡ suc (count us + k)
    same = omega arith

below_first : (us vs : Trees) (i : ℕ) (f : Fault) → Below us i f → Below (append us vs) i f
below_first us vs i f a = record { index = a.index; rest = a.rest; child = a.child; label = a.label; found = a.found; path = a.path; among = child_first us vs a.index a.child a.among; stands = a.stands; caused = a.caused }

below_later : (us vs : Trees) (i : ℕ) (f : Fault) → Below vs (i + count us) f → Below (append us vs) i f
below_later us vs i f a = record { index = count us + a.index; rest = a.rest; child = a.child; label = a.label; found = a.found; path = a.path ∙ ap (λ n. n ∷ a.rest) (grouped i (count us) a.index); among = child_later us vs a.index ∙ a.among; stands = a.stands; caused = a.caused }
  where
    grouped : (a b c : ℕ) → a + b + c ≡ a + (b + c)
    grouped a b c = omega arith

mutual
  inside : (l : Bool) (t : Tree) (i : ℕ) → Each (Below (stands_for t) i) (faults_inside l t i)
  inside l (node h xs n ts) i =
      stood (standing h) (node h xs n ts ▸ none) (spread ts) (map (below i) (faults_at l (node h xs n ts))) (faults_among false ts i) i
      (each_below (Here (node h xs n ts)) (Below (node h xs n ts ▸ none) i) i (from_here (node h xs n ts) i) (faults_at l (node h xs n ts)) (at_node l h xs n ts (among (has_label h) ts 0)))
      (among false ts i)

  among : (l : Bool) (ts : Trees) (i : ℕ) → Each (Below (spread ts) i) (faults_among l ts i)
  among l none i = tt
  among l (t ▸ ts) i =
      each_append (Below (append (stands_for t) (spread ts)) i) (faults_inside l t i) (faults_among l ts (i + width t))
      (each_weaker (Below (stands_for t) i) (Below (append (stands_for t) (spread ts)) i) (below_first (stands_for t) (spread ts) i) (faults_inside l t i) (inside l t i))
      (each_weaker (Below (spread ts) (i + width t)) (Below (append (stands_for t) (spread ts)) i) (below_later (stands_for t) (spread ts) i) (faults_among l ts (i + width t)) (among l ts (i + width t)))

there_of : (t : Tree) (f : Fault) → Here t f → IsThere t f
there_of t f a = (a.label, (a.found, (a.stands, a.caused)))

pub first_is_there : (t : Tree) (f : Fault) → first_fault t ≡ Some f → IsThere t f
first_is_there (node h xs n ts) f e = there_of (node h xs n ts) f (first_of_each (Here (node h xs n ts)) (faults_at false (node h xs n ts)) f e (at_node false h xs n ts (among (has_label h) ts 0)))

-- ---- no fault

none_in : (fs gs : List Fault) → head (fs ++ gs) ≡ None → (head fs ≡ None) × (head gs ≡ None)
none_in [] gs e = (refl, e)
none_in (f ∷ fs) gs e = absurd (none-some f (sym e))

none_below : (i : ℕ) (fs : List Fault) → head (map (below i) fs) ≡ None → head fs ≡ None
none_below i [] e = refl
none_below i (f ∷ fs) e = absurd (none-some (below i f) (sym e))

own_none : (o : Option Cause) → head (faults_by o) ≡ None → has_no_cause o ≡ true
own_none None e = refl
own_none (Some c) e = absurd (none-some (record { at = []; cause = c }) (sym e))

both : (a b : Bool) → a ≡ true → b ≡ true → (a && b) ≡ true
both a b e d = ap (λ c. c && b) e ∙ d

stood_faultless : (k : Standing) (fs gs : List Fault) (a b : Bool) → (head fs ≡ None → a ≡ true) → (head gs ≡ None → b ≡ true) → head (by_standing k fs gs []) ≡ None → by_standing k a b true ≡ true
stood_faultless Node fs gs a b x y e = x e
stood_faultless Holder fs gs a b x y e = y e
stood_faultless Missing fs gs a b x y e = refl

at_faultless : (o : Option Cause) (fs : List Fault) (b : Bool) → (head fs ≡ None → b ≡ true) → head (faults_by o ++ fs) ≡ None → (has_no_cause o && b) ≡ true
at_faultless o fs b k e = let two = none_in (faults_by o) fs e in both (has_no_cause o) b (own_none o two.0) (k two.1)

mutual
  inside_faultless : (l : Bool) (t : Tree) (i : ℕ) → head (faults_inside l t i) ≡ None → is_faultless l t ≡ true
  inside_faultless l (node h xs n ts) i e =
      stood_faultless (standing h) (map (below i) (faults_at l (node h xs n ts))) (faults_among false ts i) (has_no_cause (cause_of l h xs ts) && are_faultless (has_label h) ts) (are_faultless false ts)
      (λ d. at_faultless (cause_of l h xs ts) (faults_among (has_label h) ts 0) (are_faultless (has_label h) ts) (among_faultless (has_label h) ts 0) (none_below i (faults_at l (node h xs n ts)) d))
      (among_faultless false ts i) e

  among_faultless : (l : Bool) (ts : Trees) (i : ℕ) → head (faults_among l ts i) ≡ None → are_faultless l ts ≡ true
  among_faultless l none i e = refl
  among_faultless l (t ▸ ts) i e =
      let two = none_in (faults_inside l t i) (faults_among l ts (i + width t)) e in
      both (is_faultless l t) (are_faultless l ts) (inside_faultless l t i two.0) (among_faultless l ts (i + width t) two.1)

pub none_is_faultless : (t : Tree) → first_fault t ≡ None → has_no_fault t ≡ true
none_is_faultless (node h xs n ts) e = at_faultless (cause_of false h xs ts) (faults_among (has_label h) ts 0) (are_faultless (has_label h) ts) (among_faultless (has_label h) ts 0) e
