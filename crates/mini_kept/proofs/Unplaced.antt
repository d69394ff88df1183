-- Declarations without their paths: a tree has them by its names, and whether two clash depends on nothing else.
use Rattle.std.specs.Prelude.{ℕ, suc, ◌≡◌, refl, ◌&&◌, not, Bool, true, false, List, [], ◌∷◌, ◌++◌, if◌then◌else◌}
use Rattle.std.proofs.Common.{ap, ◌∙◌, sym}
use Rattle.mini_model.specs.declared.name.Name.{Name}
use Rattle.mini_model.specs.Tree.{Tree, Trees, node, none, ◌▸◌, shape_of, child_or_absent}
use Rattle.mini_laws.specs.declared.names.Clash.{Clash}
use Rattle.mini_laws.specs.declared.names.Clash.TheVariants as clash
use Rattle.mini_laws.specs.declared.names.Declaration.{Declaration}
use Rattle.mini_laws.specs.declared.names.Declared.{Declared}
use Rattle.mini_laws.specs.declared.names.Declared.TheVariants as declared
use Rattle.mini_laws.specs.declared.names.Place.{Place}
use Rattle.mini_laws.specs.declared.names.Place.TheVariants as place
use Rattle.mini_laws.specs.DeclaredNames.{place_of, names_by, names_of, first_names, all_names}
use Rattle.mini_laws.specs.Early.{Path, choose_by, own_declarations, declarations, first_declarations, all_declarations, is_function_shape, holds_statements, body_declarations, all_body_declarations, is_pattern_shape, at_child, in_body, children_of_node, in_param, in_block, declarations_by, clashing}
use Rattle.mini_kept.specs.KeepsNames.{unplaced}
use Rattle.mini_kept.proofs.Clashes.{no_more_same, still_free}

pub unplaced_both : (ds es : List Declaration) → unplaced (ds ++ es) ≡ unplaced ds ++ unplaced es
unplaced_both [] es = refl
unplaced_both (d ∷ ds) es = ap (λ r. record d { at = [] } ∷ r) (unplaced_both ds es)

both_of : (ds es : List Declaration) (ds' es' : List Declaration) → unplaced ds ≡ ds' → unplaced es ≡ es' → unplaced (ds ++ es) ≡ ds' ++ es'
both_of ds es ds' es' a b = unplaced_both ds es ∙ (λ k. a k ++ b k)

-- ---- declarations by names

pub own_both : (l : Bool) (xs ys : List Name) → own_declarations l [] (xs ++ ys) ≡ own_declarations l [] xs ++ own_declarations l [] ys
own_both l [] ys = refl
own_both l (x ∷ xs) ys = ap (λ r. record { spelling = x.spelling; is_lexical = l; at = [] } ∷ r) (own_both l xs ys)

own_is : (l : Bool) (p : Path) (xs : List Name) → unplaced (own_declarations l p xs) ≡ own_declarations l [] xs
own_is l p [] = refl
own_is l p (x ∷ xs) = ap (λ r. record { spelling = x.spelling; is_lexical = l; at = [] } ∷ r) (own_is l p xs)

chosen_is : (k : Place) (l : Bool) (a b c e : List Declaration) (v x y z : List Name) → unplaced a ≡ own_declarations l [] v → unplaced b ≡ own_declarations l [] x → unplaced c ≡ own_declarations l [] y → unplaced e ≡ own_declarations l [] z
    → unplaced (choose_by k a b c e) ≡ own_declarations l [] (names_by k v x y z)
chosen_is place.Here l a b c e v x y z p q r s = p
chosen_is place.FirstBound l a b c e v x y z p q r s = q
chosen_is place.Bound l a b c e v x y z p q r s = r
chosen_is place.Below l a b c e v x y z p q r s = s
chosen_is place.Nowhere l a b c e v x y z p q r s = refl

mutual
  unfolding declarations names_of

  pub declared_is : (d : Declared) (l : Bool) (p : Path) (t : Tree) → unplaced (declarations d l p t) ≡ own_declarations l [] (names_of d t)
  declared_is d l p (node h xs n ts) =
      chosen_is (place_of d h) l (own_declarations l p xs) (first_declarations l p ts) (all_declarations declared.Bound l p 0 ts) (all_declarations d l p 0 ts) xs (first_names ts) (all_names declared.Bound ts) (all_names d ts) (own_is l p xs) (first_is l p ts) (all_are declared.Bound l p 0 ts) (all_are d l p 0 ts)

  first_is : (l : Bool) (p : Path) (ts : Trees) → unplaced (first_declarations l p ts) ≡ own_declarations l [] (first_names ts)
  first_is l p none = refl
  first_is l p (t ▸ ts) = declared_is declared.Bound l (p ++ 0 ∷ []) t

  all_are : (d : Declared) (l : Bool) (p : Path) (i : ℕ) (ts : Trees) → unplaced (all_declarations d l p i ts) ≡ own_declarations l [] (all_names d ts)
  all_are d l p i none = refl
  all_are d l p i (t ▸ ts) =
      both_of (declarations d l (p ++ i ∷ []) t) (all_declarations d l p (suc i) ts) (own_declarations l [] (names_of d t)) (own_declarations l [] (all_names d ts)) (declared_is d l (p ++ i ∷ []) t) (all_are d l p (suc i) ts)
      ∙ sym (own_both l (names_of d t) (all_names d ts))

-- so of two trees that declare the same names
pub declared_same : (d : Declared) (l : Bool) (p q : Path) (t u : Tree) → names_of d u ≡ names_of d t → unplaced (declarations d l p u) ≡ unplaced (declarations d l q t)
declared_same d l p q t u e = declared_is d l p u ∙ ap (own_declarations l []) e ∙ sym (declared_is d l q t)

-- ---- those of a body

abbrev pub as_statement : Bool → Tree → List Declaration
as_statement b t = own_declarations (not (b && is_function_shape (shape_of t))) [] (names_of declared.Lexical t) ++ own_declarations false [] (names_of declared.Hoisted t)

abbrev mutual
  pub as_body : Bool → Tree → List Declaration
  as_body b (node h xs n ts) = if holds_statements h then all_as_body b ts else as_statement b (node h xs n ts)

  pub all_as_body : Bool → Trees → List Declaration
  all_as_body b none = []
  all_as_body b (t ▸ ts) = as_body b t ++ all_as_body b ts

either_is : (b : Bool) (x y x' y' : List Declaration) → unplaced x ≡ x' → unplaced y ≡ y' → unplaced (if b then x else y) ≡ (if b then x' else y')
either_is true x y x' y' e f = e
either_is false x y x' y' e f = f

mutual
  unfolding body_declarations

  pub body_is : (b : Bool) (p : Path) (t : Tree) → unplaced (body_declarations b p t) ≡ as_body b t
  body_is b p (node h xs n ts) =
      let l = not (b && is_function_shape h) in
      let t = node h xs n ts in
      either_is (holds_statements h) (all_body_declarations b p 0 ts) (declarations declared.Lexical l p t ++ declarations declared.Hoisted false p t) (all_as_body b ts) (as_statement b t) (all_body_are b p 0 ts)
      (both_of (declarations declared.Lexical l p t) (declarations declared.Hoisted false p t) (own_declarations l [] (names_of declared.Lexical t)) (own_declarations false [] (names_of declared.Hoisted t)) (declared_is declared.Lexical l p t) (declared_is declared.Hoisted false p t))

  all_body_are : (b : Bool) (p : Path) (i : ℕ) (ts : Trees) → unplaced (all_body_declarations b p i ts) ≡ all_as_body b ts
  all_body_are b p i none = refl
  all_body_are b p i (t ▸ ts) = both_of (body_declarations b (p ++ i ∷ []) t) (all_body_declarations b p (suc i) ts) (as_body b t) (all_as_body b ts) (body_is b (p ++ i ∷ []) t) (all_body_are b p (suc i) ts)

pub body_same : (b : Bool) (p q : Path) (t u : Tree) → as_body b u ≡ as_body b t → unplaced (body_declarations b p u) ≡ unplaced (body_declarations b q t)
body_same b p q t u e = body_is b p u ∙ e ∙ sym (body_is b q t)

-- ---- those of a scope

-- what it is asked of its children
pub record ScopesAlike (c : Clash) (ts us : Trees) : Type 0 where
  pub bound : (i : ℕ) (d : Declared) → names_of d (child_or_absent us i) ≡ names_of d (child_or_absent ts i)
  pub body : (i : ℕ) (b : Bool) → as_body b (child_or_absent us i) ≡ as_body b (child_or_absent ts i)
  -- of a parameter of a `catch`, whether it is a pattern, and of the block what its list declares
  pub pattern : c ≡ clash.Catch → is_pattern_shape (shape_of (child_or_absent us 0)) ≡ is_pattern_shape (shape_of (child_or_absent ts 0))
  pub block : c ≡ clash.Catch → as_body false (child_or_absent (children_of_node (child_or_absent us 1)) 0) ≡ as_body false (child_or_absent (children_of_node (child_or_absent ts 1)) 0)

two_same : (ds es ds' es' : List Declaration) → unplaced ds ≡ unplaced ds' → unplaced es ≡ unplaced es' → unplaced (ds ++ es) ≡ unplaced (ds' ++ es')
two_same ds es ds' es' a b = unplaced_both ds es ∙ (λ k. a k ++ b k) ∙ sym (unplaced_both ds' es')

pub scope_same : (c : Clash) (p q : Path) (ts us : Trees) → ScopesAlike c ts us → unplaced (declarations_by c p us) ≡ unplaced (declarations_by c q ts)
scope_same clash.Nothing p q ts us a = refl
scope_same (clash.Body b) p q ts us a = body_same b (p ++ 0 ∷ []) (q ++ 0 ∷ []) (child_or_absent ts 0) (child_or_absent us 0) (a.body 0 b)
scope_same (clash.Function i j) p q ts us a =
    two_same (at_child declared.Bound false p us i) (in_body true p us j) (at_child declared.Bound false q ts i) (in_body true q ts j)
    (declared_same declared.Bound false (p ++ i ∷ []) (q ++ i ∷ []) (child_or_absent ts i) (child_or_absent us i) (a.bound i declared.Bound))
    (body_same true (p ++ j ∷ []) (q ++ j ∷ []) (child_or_absent ts j) (child_or_absent us j) (a.body j true))
scope_same clash.Switch p q ts us a = body_same false (p ++ 1 ∷ []) (q ++ 1 ∷ []) (child_or_absent ts 1) (child_or_absent us 1) (a.body 1 false)
scope_same clash.Catch p q ts us a =
    two_same (in_param p us) (in_block p us) (in_param q ts) (in_block q ts)
    (ap (λ l. unplaced (at_child declared.Bound l p us 0)) (a.pattern refl) ∙ declared_same declared.Bound (is_pattern_shape (shape_of (child_or_absent ts 0))) (p ++ 0 ∷ []) (q ++ 0 ∷ []) (child_or_absent ts 0) (child_or_absent us 0) (a.bound 0 declared.Bound))
    (body_same false ((p ++ 1 ∷ []) ++ 0 ∷ []) ((q ++ 1 ∷ []) ++ 0 ∷ []) (child_or_absent (children_of_node (child_or_absent ts 1)) 0) (child_or_absent (children_of_node (child_or_absent us 1)) 0) (a.block refl))
scope_same (clash.Loop i) p q ts us a =
    two_same (at_child declared.Lexical true p us 0) (at_child declared.Hoisted false p us i) (at_child declared.Lexical true q ts 0) (at_child declared.Hoisted false q ts i)
    (declared_same declared.Lexical true (p ++ 0 ∷ []) (q ++ 0 ∷ []) (child_or_absent ts 0) (child_or_absent us 0) (a.bound 0 declared.Lexical))
    (declared_same declared.Hoisted false (p ++ i ∷ []) (q ++ i ∷ []) (child_or_absent ts i) (child_or_absent us i) (a.bound i declared.Hoisted))

pub scope_itself : (c : Clash) (ts : Trees) → ScopesAlike c ts ts
scope_itself c ts = record { bound = λ i d. refl; body = λ i b. refl; pattern = λ e. refl; block = λ e. refl }

-- ---- clashes

pub free_same : (ds es : List Declaration) → unplaced es ≡ unplaced ds → clashing [] ds ≡ [] → clashing [] es ≡ []
free_same ds es a e = still_free ds es (no_more_same ds es a) e
