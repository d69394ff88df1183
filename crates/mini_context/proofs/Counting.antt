-- References that are counted in or out, one after another.
use Rattle.std.specs.Prelude.{ℕ, suc, ◌+◌, ◌≡◌, ◌≤◌, ◌<◌, refl, Bool, true, false, List, [], ◌∷◌, ◌++◌, length, Option, Some, None, if◌then◌else◌}
use Rattle.std.proofs.Common.{ap, ◌∙◌, arith, sym, add-one}
use Rattle.std.proofs.lemmas.Bool.{false≢true}
use Rattle.std.proofs.lemmas.List.{length-append}
use Rattle.mini_model.specs.declared.name.Name.{Name}
use Rattle.mini_model.specs.declared.shape.Shape.{Shape}
use Rattle.mini_model.specs.declared.shape.Shape.TheVariants as shape
use Rattle.mini_model.specs.Tree.{Tree, Trees, node, shape_of, children, count, child_or_absent}
use Rattle.mini_node.specs.Children.{names, names_of, rest_children}
use Rattle.mini_node.specs.Walks.{next_child, no_rest, from_first}
use Rattle.mini_laws.specs.declared.names.Use.{Use}
use Rattle.mini_laws.specs.Scopes.{use_of}
use Rattle.mini_laws.specs.References.{Reference, own_references, references, references_from, reads, writes}
use Rattle.mini_context.specs.Own.{is_reference_shape}
use Rattle.mini_context.specs.declared.count.Tally.{Tally}
use Rattle.mini_context.specs.Tallies.{tallied, tallied_one, tallied_symbol}

pub tallied_both : (d : Tally) (p : Use → Bool) (xs ys : List Reference) (c : List ℕ) → tallied d p (xs ++ ys) c ≡ tallied d p ys (tallied d p xs c)
unfolding tallied
tallied_both d p [] ys c = refl
tallied_both d p (x ∷ xs) ys c = tallied_both d p xs ys (tallied_one d p c x)

-- ---- what a node itself adds

one_reference : Use → Name → Reference
one_reference u x = record { name = x; used = u }

no_own : (u : Use) (h : Shape) (xs : List Name) → is_reference_shape h ≡ false → own_references u h xs ≡ []
no_own u shape.Identifier xs e = absurd (cc e)
no_own u h xs e = refl

no_name : (u : Use) (h : Shape) → own_references u h [] ≡ []
no_name u shape.Identifier = refl
no_name u h = refl

own_one : (u : Use) (h : Shape) (x : Name) → is_reference_shape h ≡ true → own_references u h (x ∷ []) ≡ one_reference u x ∷ []
unfolding one_reference
own_one u shape.Identifier x e = refl
own_one u h x e = absurd (false≢true e)

pub own_none : (d : Tally) (p : Use → Bool) (u : Use) (h : Shape) (o : Option Name) (c : List ℕ) → is_reference_shape h ≡ false → c ≡ tallied d p (own_references u h (names o)) c
unfolding tallied
own_none d p u h o c e = ap (λ rs. tallied d p rs c) (sym (no_own u h (names o) e))

pub own_nameless : (d : Tally) (p : Use → Bool) (u : Use) (h : Shape) (o : Option Name) (c : List ℕ) → o ≡ None → c ≡ tallied d p (own_references u h (names o)) c
unfolding tallied
own_nameless d p u h o c e = ap (λ rs. tallied d p rs c) (sym (ap (λ q. own_references u h (names q)) e ∙ no_name u h))

pub own_named : (d : Tally) (p : Use → Bool) (u : Use) (h : Shape) (o : Option Name) (x : Name) (b : Bool) (c c' : List ℕ) → is_reference_shape h ≡ true → o ≡ Some x → b ≡ p u → c' ≡ (if b then tallied_symbol d c x.symbol else c) → c' ≡ tallied d p (own_references u h (names o)) c
unfolding tallied one_reference
own_named d p u h o x b c c' e f g q =
    q ∙ ap (λ v. if v then tallied_symbol d c x.symbol else c) g
    ∙ ap (λ rs. tallied d p rs c) (sym (ap (λ q. own_references u h (names q)) f ∙ own_one u h x e))

-- ---- a node: its own, and those below it

opened : (u : Use) (n : Tree) → references u n ≡ own_references u (shape_of n) (names_of n) ++ references_from (use_of (shape_of n) u) 0 (children n)
unfolding references
opened u (node h xs k ts) = refl

pub parts : (u : Use) (n : Tree) (h : Shape) (o : Option Name) (ts : Trees) → h ≡ shape_of n → names o ≡ names_of n → ts ≡ children n → references u n ≡ own_references u h (names o) ++ references_from (use_of h u) 0 ts
parts u n h o ts e f g = opened u n ∙ ap (λ r. own_references u (shape_of n) r ++ references_from (use_of (shape_of n) u) 0 (children n)) (sym f) ∙ ap (λ k. own_references u k (names o) ++ references_from (use_of k u) 0 (children n)) (sym e) ∙ ap (λ us. own_references u h (names o) ++ references_from (use_of h u) 0 us) (sym g)

pub node_tallied : (d : Tally) (p : Use → Bool) (u : Use) (n : Tree) (h : Shape) (o : Option Name) (ts : Trees) → h ≡ shape_of n → names o ≡ names_of n → ts ≡ children n → (c c' c'' : List ℕ) → c' ≡ tallied d p (own_references u h (names o)) c → c'' ≡ tallied d p (references_from (use_of h u) 0 ts) c' → c'' ≡ tallied d p (references u n) c
node_tallied d p u n h o ts e f g c c' c'' q r =
    let below = references_from (use_of h u) 0 ts in
    r ∙ ap (tallied d p below) q ∙ sym (tallied_both d p (own_references u h (names o)) below c) ∙ ap (λ rs. tallied d p rs c) (sym (parts u n h o ts e f g))

pub node_steps : (u : Use) (n : Tree) (h : Shape) (o : Option Name) (ts : Trees) → h ≡ shape_of n → names o ≡ names_of n → ts ≡ children n → length (references u n) ≡ length (own_references u h (names o)) + length (references_from (use_of h u) 0 ts)
node_steps u n h o ts e f g = ap length (parts u n h o ts e f g) ∙ length-append (own_references u h (names o)) (references_from (use_of h u) 0 ts)

-- ---- its children, one after another

split : (us : ℕ → Use) (ts : Trees) (i : ℕ) → i < count ts → references_from us i (rest_children i ts) ≡ references (us i) (child_or_absent ts i) ++ references_from us (suc i) (rest_children (suc i) ts)
unfolding references
split us ts i h = ap (references_from us i) (next_child ts i h)

nothing_left : (us : ℕ → Use) (ts : Trees) (i : ℕ) → count ts ≤ i → references_from us i (rest_children i ts) ≡ []
unfolding references
nothing_left us ts i h = ap (references_from us i) (no_rest ts i h)

-- what is still to be counted of the children from an index on makes the counts and the steps what they are to be
pub record Going (d : Tally) (us : ℕ → Use) (ts : Trees) (i : ℕ) (r w : List ℕ) (n : ℕ) (r' w' : List ℕ) (n' : ℕ) : Type 0 where
  pub reads_so : tallied d reads (references_from us i (rest_children i ts)) r ≡ r'
  pub writes_so : tallied d writes (references_from us i (rest_children i ts)) w ≡ w'
  pub steps_so : n + length (references_from us i (rest_children i ts)) ≡ n'

pub begins : (d : Tally) (us : ℕ → Use) (ts : Trees) (r w : List ℕ) (n : ℕ) → Going d us ts 0 r w n (tallied d reads (references_from us 0 ts) r) (tallied d writes (references_from us 0 ts) w) (n + length (references_from us 0 ts))
begins d us ts r w n =
    let e = from_first ts in
    record {
      reads_so = ap (λ k. tallied d reads (references_from us 0 k) r) e;
      writes_so = ap (λ k. tallied d writes (references_from us 0 k) w) e;
      steps_so = ap (λ k. n + length (references_from us 0 k)) e;
    }

turned : (d : Tally) (p : Use → Bool) (us : ℕ → Use) (u : Use) (ts : Trees) (i : ℕ) (t : Tree) (c c' all : List ℕ) → i < count ts → t ≡ child_or_absent ts i → u ≡ us i → c' ≡ tallied d p (references u t) c → tallied d p (references_from us i (rest_children i ts)) c ≡ all → tallied d p (references_from us (i + 1) (rest_children (i + 1) ts)) c' ≡ all
turned d p us u ts i t c c' all h e f g w =
    ap (λ j. tallied d p (references_from us j (rest_children j ts)) c') (add-one i)
    ∙ ap (tallied d p (references_from us (suc i) (rest_children (suc i) ts))) (g ∙ ap (λ r. tallied d p r c) (ap (λ v. references v t) f ∙ ap (references (us i)) e))
    ∙ sym (tallied_both d p (references (us i) (child_or_absent ts i)) (references_from us (suc i) (rest_children (suc i) ts)) c)
    ∙ ap (λ r. tallied d p r c) (sym (split us ts i h))
    ∙ w

pub turn : (d : Tally) (us : ℕ → Use) (u : Use) (ts : Trees) (i : ℕ) (t : Tree) (r w r2 w2 r' w' : List ℕ) (n n2 n' : ℕ) → Going d us ts i r w n r' w' n' → i < count ts → t ≡ child_or_absent ts i → u ≡ us i → r2 ≡ tallied d reads (references u t) r → w2 ≡ tallied d writes (references u t) w → n2 ≡ n + length (references u t) → Going d us ts (i + 1) r2 w2 n2 r' w' n'
turn d us u ts i t r w r2 w2 r' w' n n2 n' g h e f q1 q2 q3 =
    let same : references u t ≡ references (us i) (child_or_absent ts i) = ap (λ v. references v t) f ∙ ap (references (us i)) e in
    record {
      reads_so = turned d reads us u ts i t r r2 r' h e f q1 g.reads_so;
      writes_so = turned d writes us u ts i t w w2 w' h e f q2 g.writes_so;
      steps_so = omega (arith, g.steps_so, q3, ap length same, ap length (split us ts i h), length-append (references (us i) (child_or_absent ts i)) (references_from us (suc i) (rest_children (suc i) ts)), ap (λ j. length (references_from us j (rest_children j ts))) (add-one i));
    }

pub reads_end : (d : Tally) (us : ℕ → Use) (ts : Trees) (i : ℕ) (r w r' w' : List ℕ) (n n' : ℕ) → count ts ≤ i → Going d us ts i r w n r' w' n' → r ≡ r'
unfolding tallied
reads_end d us ts i r w r' w' n n' h g = ap (λ rs. tallied d reads rs r) (sym (nothing_left us ts i h)) ∙ g.reads_so

pub writes_end : (d : Tally) (us : ℕ → Use) (ts : Trees) (i : ℕ) (r w r' w' : List ℕ) (n n' : ℕ) → count ts ≤ i → Going d us ts i r w n r' w' n' → w ≡ w'
unfolding tallied
writes_end d us ts i r w r' w' n n' h g = ap (λ rs. tallied d writes rs w) (sym (nothing_left us ts i h)) ∙ g.writes_so

pub steps_end : (d : Tally) (us : ℕ → Use) (ts : Trees) (i : ℕ) (r w r' w' : List ℕ) (n n' : ℕ) → count ts ≤ i → Going d us ts i r w n r' w' n' → n ≡ n'
steps_end d us ts i r w r' w' n n' h g = omega (arith, g.steps_so, ap length (nothing_left us ts i h))
