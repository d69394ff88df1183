-- Names that are gathered, and looked up by their spelling.
use Rattle.std.specs.Prelude.{ℕ, zero, suc, ◌+◌, ◌≡◌, ◌≤◌, ◌<◌, refl, ◌||◌, Bool, true, false, List, [], ◌∷◌, ◌++◌, length, take, slice_index_or, if◌then◌else◌}
use Rattle.std.proofs.Common.{ap, ◌∙◌, arith, sym, subst, append_assoc, add-one}
use Rattle.std.proofs.lemmas.List.{append-nil, take_all}
use Rattle.mini_model.specs.declared.shape.Shape.{Shape}
use Rattle.mini_model.specs.declared.shape.Shape.TheVariants as shape
use Rattle.mini_model.specs.Tree.{Tree, Trees, none, children, shape_of}
use Rattle.mini_context.specs.Own.{is_catch_shape}
use Rattle.mini_model.specs.Weight.{same_text}
use Rattle.mini_model.specs.declared.name.Name.{Name}
use Rattle.mini_node.specs.Children.{trees_of}
use Rattle.mini_laws.specs.declared.names.Binding.{Binding}
use Rattle.mini_laws.specs.declared.names.Declared.{Declared}
use Rattle.mini_laws.specs.declared.names.Use.TheVariants.{Read}
use Rattle.mini_laws.specs.DeclaredNames.{all_names, names_of, is_spelled}
use Rattle.mini_laws.specs.Shared.{own_caught, spelled_among}
use Rattle.mini_scope.specs.Spelled.{has_name}
use Rattle.mini_scope.specs.ScopeAt.{bound}
use Rattle.mini_context.specs.Tables.{Marked}
use Rattle.mini_context.proofs.Marking.{marks_add}

none_named : (d : Declared) → all_names d none ≡ []
unfolding names_of
none_named d = refl

one_named : (d : Declared) (t : Tree) (ts : List Tree) → all_names d (trees_of (t ∷ ts)) ≡ names_of d t ++ all_names d (trees_of ts)
unfolding names_of
one_named d t ts = refl

more : (d : Declared) (xs : List Tree) (i : ℕ) (n : Tree) → i < length xs → n ≡ slice_index_or xs i n → all_names d (trees_of (take (suc i) xs)) ≡ all_names d (trees_of (take i xs)) ++ names_of d n
more d [] i n h e = absurd (omega arith)
more d (x ∷ xs) zero n h e = one_named d x [] ∙ ap (λ r. names_of d x ++ r) (none_named d) ∙ append-nil (names_of d x) ∙ ap (names_of d) (sym e) ∙ ap (λ r. r ++ names_of d n) (sym (none_named d))
more d (x ∷ xs) (suc i) n h e =
    one_named d x (take (suc i) xs) ∙ ap (λ r. names_of d x ++ r) (more d xs i n (omega arith) e)
    ∙ sym (append_assoc (names_of d x) (all_names d (trees_of (take i xs))) (names_of d n)) ∙ ap (λ r. r ++ names_of d n) (sym (one_named d x (take i xs)))

-- the names of one more tree
pub names_turn : (d : Declared) (xs : List Tree) (i : ℕ) (n : Tree) (now next : List Name) → i < length xs → n ≡ slice_index_or xs i n → now ≡ all_names d (trees_of (take i xs)) → next ≡ now ++ names_of d n → next ≡ all_names d (trees_of (take (i + 1) xs))
names_turn d xs i n now next h e p q = q ∙ ap (λ r. r ++ names_of d n) p ∙ sym (more d xs i n h e) ∙ ap (λ k. all_names d (trees_of (take k xs))) (sym (add-one i))

pub names_begin : (d : Declared) → [] ≡ all_names d none
names_begin d = sym (none_named d)

pub names_end : (d : Declared) (xs : List Tree) (i : ℕ) (now : List Name) → length xs ≤ i → now ≡ all_names d (trees_of (take i xs)) → now ≡ all_names d (trees_of xs)
names_end d xs i now h p = p ∙ ap (λ r. all_names d (trees_of r)) (take_all i xs h)

-- ---- a table of names

bound_spelled : (s : List ℕ) (xs : List Name) → has_name Read s (bound true xs) ≡ is_spelled s xs
bound_spelled s [] = refl
bound_spelled s (x ∷ xs) = ap (λ r. same_text x.spelling s || r) (bound_spelled s xs)

pub all_told : (bs cs : List Binding) (xs : List Name) → bs ≡ [] → cs ≡ bs ++ bound true xs → (s : List ℕ) → has_name Read s cs ≡ is_spelled s xs
all_told bs cs xs e f s = ap (has_name Read s) (f ∙ ap (λ r. r ++ bound true xs) e) ∙ bound_spelled s xs

-- ---- names that are spelled like others

chosen : Bool → Name → List Name
chosen b y = if b then y ∷ [] else []

first_chosen : (b : Bool) (y : Name) (ys : List Name) → (if b then y ∷ ys else ys) ≡ chosen b y ++ ys
unfolding chosen
first_chosen true y ys = refl
first_chosen false y ys = refl

among_more : (xs ys : List Name) (i : ℕ) (y : Name) → i < length ys → y ≡ slice_index_or ys i y → spelled_among xs (take (suc i) ys) ≡ spelled_among xs (take i ys) ++ chosen (is_spelled y.spelling xs) y
unfolding chosen
among_more xs [] i y h e = absurd (omega arith)
among_more xs (z ∷ ys) zero y h e = ap (λ r. if is_spelled r.spelling xs then r ∷ [] else []) (sym e)
among_more xs (z ∷ ys) (suc i) y h e =
    ap (λ r. if is_spelled z.spelling xs then z ∷ r else r) (among_more xs ys i y (omega arith) e)
    ∙ first_chosen (is_spelled z.spelling xs) z (spelled_among xs (take i ys) ++ chosen (is_spelled y.spelling xs) y)
    ∙ sym (append_assoc (chosen (is_spelled z.spelling xs) z) (spelled_among xs (take i ys)) (chosen (is_spelled y.spelling xs) y))
    ∙ ap (λ r. r ++ chosen (is_spelled y.spelling xs) y) (sym (first_chosen (is_spelled z.spelling xs) z (spelled_among xs (take i ys))))

pub spelled_in : (xs ys : List Name) (i : ℕ) (y : Name) (b : Bool) (old now next : List Bool) → i < length ys → y ≡ slice_index_or ys i y → b ≡ is_spelled y.spelling xs → b ≡ true → Marked (spelled_among xs (take i ys)) old now → Marked (y ∷ []) now next → Marked (spelled_among xs (take (i + 1) ys)) old next
unfolding chosen
spelled_in xs ys i y b old now next h e f g m k =
    subst (λ ns. Marked ns old next) (ap (λ v. spelled_among xs (take i ys) ++ chosen v y) (sym (sym f ∙ g)) ∙ sym (among_more xs ys i y h e) ∙ ap (λ j. spelled_among xs (take j ys)) (sym (add-one i)))
    (marks_add.both (spelled_among xs (take i ys)) (y ∷ []) old now next m k)

pub spelled_out : (xs ys : List Name) (i : ℕ) (y : Name) (b : Bool) (old now : List Bool) → i < length ys → y ≡ slice_index_or ys i y → b ≡ is_spelled y.spelling xs → b ≡ false → Marked (spelled_among xs (take i ys)) old now → Marked (spelled_among xs (take (i + 1) ys)) old now
unfolding chosen
spelled_out xs ys i y b old now h e f g m =
    subst (λ ns. Marked ns old now) (sym (append-nil (spelled_among xs (take i ys))) ∙ ap (λ v. spelled_among xs (take i ys) ++ chosen v y) (sym (sym f ∙ g)) ∙ sym (among_more xs ys i y h e) ∙ ap (λ j. spelled_among xs (take j ys)) (sym (add-one i)))
    m

-- ---- what is no `catch`

no_catch : (h : Shape) (ts : Trees) → is_catch_shape h ≡ false → own_caught h ts ≡ []
no_catch shape.CatchClause ts e = absurd (cc e)
no_catch h ts e = refl

pub uncaught : (t : Tree) (h : Shape) (v : Bool) (marks : List Bool) → h ≡ shape_of t → v ≡ is_catch_shape h → v ≡ false → Marked (own_caught (shape_of t) (children t)) marks marks
uncaught t h v marks e f g = subst (λ ns. Marked ns marks marks) (sym (no_catch (shape_of t) (children t) (ap is_catch_shape (sym e) ∙ sym f ∙ g))) (marks_add.nothing marks)
