-- Moments, passed one after another.
use Rattle.std.specs.Prelude.{ℕ, ◌+◌, ◌≡◌, ◌≤◌, ◌<◌, refl, nat_eq, not, ◌&&◌, ◌||◌, Bool, true, false, List, [], ◌∷◌, ◌++◌, length, Option, Some, None, Result, Ok, Err, OnOk, if◌then◌else◌}
use Rattle.std.proofs.Common.{ap, ◌∙◌, arith, sym, subst}
use Rattle.std.proofs.lemmas.Bool.{eqb-true, false≢true}
use Rattle.std.proofs.lemmas.List.Folds.{list_any-append}
use Rattle.mini_model.specs.declared.memory.OutOfMemory.{OutOfMemory}
use Rattle.mini_model.specs.declared.name.Name.{Name}
use Rattle.mini_model.specs.declared.shape.Shape.{Shape}
use Rattle.mini_model.specs.declared.shape.Shape.TheVariants as shape
use Rattle.mini_model.specs.Tree.{Tree, Trees, node, none, ◌▸◌, count, shape_of, children, child_or_absent, first_or_absent}
use Rattle.mini_node.specs.Children.{names, names_of, number_of, rest_children}
use Rattle.mini_node.specs.Walks.{no_rest, from_first}
use Rattle.mini_laws.specs.declared.names.Use.{Use}
use Rattle.mini_laws.specs.declared.names.Around.{Around}
use Rattle.mini_laws.specs.Scopes.{use_of}
use Rattle.mini_laws.specs.References.{reads}
use Rattle.mini_laws.specs.Mentions.{own_mentions, around_child, same_variable, is_among, is_elsewhere}
use Rattle.mini_laws.specs.Foreign.{Moment, ended_by, ends_at, in_order, is_read_early, joined, moments, moments_from, reads_at}
use Rattle.mini_context.specs.declared.early.Moments.{Moments}
use Rattle.mini_context.specs.declared.early.Order.{Order}
use Rattle.mini_context.specs.declared.early.Order.TheVariants as order
use Rattle.mini_context.specs.declared.parts.Part.{Part}
use Rattle.mini_context.specs.Own.{is_reference_shape}
use Rattle.mini_context.specs.Early.{ended_part, is_ended_in, order_of, Passed}
use Rattle.mini_context.specs.Lists.{holds, Put}
use Rattle.mini_context.specs.Parts.{names_at}
use Rattle.mini_context.specs.Tables.{mark_at, named, Marked}
use Rattle.mini_context.proofs.Equal.{eq_sym}
use Rattle.mini_context.proofs.Gathering.{Adds, Gathers, split}
use Rattle.mini_context.proofs.Marking.{first_bound, or_assoc, or_false}

-- ---- one list of moments after another

early_by : (v w q : Bool) (r r' a y : Bool) → r ≡ (r' || (not a && y)) → (if v then (if w then false else (q || r)) else r) ≡ ((if v then (if w then false else (q || r')) else r') || (not ((v && w) || a) && y))
early_by false w q r r' a y e = e
early_by true true q r r' a y e = refl
early_by true false true r r' a y e = refl
early_by true false false r r' a y e = e

early_both : (b s : ℕ) (xs ys : List Moment) → is_read_early b (named s) (xs ++ ys) ≡ (is_read_early b (named s) xs || (not (is_ended_in s xs) && is_read_early b (named s) ys))
early_both b s [] ys = refl
early_both b s (m ∷ ms) ys =
    early_by (same_variable (named s) m.name) m.ends (not (is_elsewhere b m.around)) (is_read_early b (named s) (ms ++ ys)) (is_read_early b (named s) ms) (is_ended_in s ms) (is_read_early b (named s) ys) (early_both b s ms ys)

held_by : (h m r e y : Bool) → ((h || (not m && r)) || (not (m || e) && y)) ≡ (h || (not m && (r || (not e && y))))
held_by true m r e y = refl
held_by false true r e y = refl
held_by false false r e y = refl

nothing_read : (m : Bool) → (not m && false) ≡ false
nothing_read true = refl
nothing_read false = refl

and_true : (v : Bool) → (v && true) ≡ v
and_true true = refl
and_true false = refl

skipped : (v q r : Bool) → r ≡ false → (if v then (if true then false else (q || r)) else r) ≡ false
skipped true q r e = refl
skipped false q r e = e

pub passed_add : Adds Passed
passed_add = record {
  nothing = λ s. record {
    symbols = refl;
    lists = refl;
    ends = λ k h. sym (or_false (mark_at s.ended.items k));
    reads = λ k h l b. sym (ap (λ v. holds s.early.items k b || v) (nothing_read (mark_at s.ended.items k)) ∙ or_false (holds s.early.items k b));
  };
  both = λ xs ys a c d f g. record {
    symbols = g.symbols ∙ f.symbols;
    lists = g.lists ∙ f.lists;
    ends = λ k h.
        let within : k < length c.ended.items = omega (arith, h, f.symbols) in
        let p : Moment → Bool = λ m. same_variable (named k) m.name && m.ends in
        g.ends k within ∙ ap (λ v. v || is_ended_in k ys) (f.ends k h) ∙ or_assoc (mark_at a.ended.items k) (is_ended_in k xs) (is_ended_in k ys)
        ∙ ap (λ v. mark_at a.ended.items k || v) (sym (list_any-append p xs ys));
    reads = λ k h l b.
        let within : k < length c.ended.items = omega (arith, h, f.symbols) in
        let listed : k < length c.early.items = omega (arith, l, f.lists) in
        let y = is_read_early b (named k) ys in
        g.reads k within listed b
        ∙ ap (λ v. v || (not (mark_at c.ended.items k) && y)) (f.reads k h l b)
        ∙ ap (λ v. (holds a.early.items k b || (not (mark_at a.ended.items k) && is_read_early b (named k) xs)) || (not v && y)) (f.ends k h)
        ∙ held_by (holds a.early.items k b) (mark_at a.ended.items k) (is_read_early b (named k) xs) (is_ended_in k xs) y
        ∙ ap (λ v. holds a.early.items k b || (not (mark_at a.ended.items k) && v)) (sym (early_both b k xs ys));
  };
}

-- ---- ends

never_early : (b s : ℕ) (a : Around) (xs : List Name) → is_read_early b (named s) (ends_at a xs) ≡ false
never_early b s a [] = refl
never_early b s a (x ∷ xs) = skipped (same_variable (named s) x) (not (is_elsewhere b a)) (is_read_early b (named s) (ends_at a xs)) (never_early b s a xs)

all_ended : (s : ℕ) (a : Around) (xs : List Name) → is_ended_in s (ends_at a xs) ≡ is_among (named s) xs
all_ended s a [] = refl
all_ended s a (x ∷ xs) = ap (λ v. v || is_ended_in s (ends_at a xs)) (and_true (same_variable (named s) x)) ∙ ap (λ v. same_variable (named s) x || v) (all_ended s a xs)

pub ends_pass : (a : Around) (xs : List Name) (old new : Moments) → Marked xs old.ended.items new.ended.items → new.early ≡ old.early → Passed (ends_at a xs) old new
ends_pass a xs old new m e = record {
  symbols = m.symbols;
  lists = ap (λ l. length l.items) e;
  ends = λ s h. m.each s h ∙ ap (λ v. mark_at old.ended.items s || v) (sym (all_ended s a xs));
  reads = λ s h l b. ap (λ r. holds r.items s b) e ∙ sym (or_false (holds old.early.items s b)) ∙ ap (λ v. holds old.early.items s b || v) (sym (ap (λ v. not (mark_at old.ended.items s) && v) (never_early b s a xs) ∙ nothing_read (mark_at old.ended.items s)));
}

ended_is : (h : Shape) (ts : Trees) → ended_by h ts ≡ names_at (ended_part h) ts
ended_is shape.VariableDeclarator ts = first_bound ts
ended_is (shape.Function true g ds) ts = first_bound ts
ended_is (shape.Class true) ts = first_bound ts
ended_is shape.CatchClause ts = first_bound ts
ended_is h ts = refl

pub ended_marks : (n : Tree) (h : Shape) (p : Part) (ts : Trees) (old new : List Bool) → h ≡ shape_of n → p ≡ ended_part h → ts ≡ children n → Marked (names_at p ts) old new → Marked (ended_by (shape_of n) (children n)) old new
ended_marks n h p ts old new e f g m =
    subst (λ ns. Marked ns old new) (ap (λ q. names_at q ts) f ∙ sym (ended_is h ts) ∙ ap (λ k. ended_by k ts) e ∙ ap (ended_by (shape_of n)) g) m

-- ---- reads

-- a read of a symbol by a body, where its declaration has not ended
noted_by : (v m g : Bool) → (v ≡ true → m ≡ true) → (not m && (v && g)) ≡ false
noted_by true m g f = ap (λ w. not w && g) (f refl)
noted_by false m g f = nothing_read m

pub unnoted : (ended : List Bool) (early : List (List ℕ)) (k : ℕ) (a : Around) → mark_at ended k ≡ true → (s b : ℕ) → holds early s b ≡ (holds early s b || (not (mark_at ended s) && (nat_eq k s && not (is_elsewhere b a))))
unnoted ended early k a e s b =
    sym (ap (λ v. holds early s b || v) (noted_by (nat_eq k s) (mark_at ended s) (not (is_elsewhere b a)) (λ f. ap (mark_at ended) (sym (eqb-true k s f)) ∙ e)) ∙ or_false (holds early s b))

never : (v : Bool) → (v && false) ≡ false
never true = refl
never false = refl

pub carried_unnoted : (ended : List Bool) (early : List (List ℕ)) (k : ℕ) (a : Around) → a.carried ≡ true → (s b : ℕ) → holds early s b ≡ (holds early s b || (not (mark_at ended s) && (nat_eq k s && not (is_elsewhere b a))))
carried_unnoted ended early k a e s b =
    sym (ap (λ v. holds early s b || (not (mark_at ended s) && (nat_eq k s && not (v || not (nat_eq a.number b))))) e
    ∙ ap (λ v. holds early s b || (not (mark_at ended s) && v)) (never (nat_eq k s))
    ∙ ap (λ v. holds early s b || v) (nothing_read (mark_at ended s)) ∙ or_false (holds early s b))

put_by : (v m g : Bool) → (v ≡ true → m ≡ false) → (v && g) ≡ (not m && (v && g))
put_by true m g f = ap (λ w. not w && g) (sym (f refl))
put_by false m g f = sym (nothing_read m)

not_not : (v : Bool) → v ≡ not (not v)
not_not true = refl
not_not false = refl

pub noted : (ended : List Bool) (old new : List (List ℕ)) (k : ℕ) (a : Around) → a.carried ≡ false → mark_at ended k ≡ false → Put k a.number old new → (s : ℕ) → s < length old → (b : ℕ) → holds new s b ≡ (holds old s b || (not (mark_at ended s) && (nat_eq k s && not (is_elsewhere b a))))
noted ended old new k a c e p s h b =
    p.each s h b
    ∙ ap (λ v. holds old s b || (nat_eq k s && v)) (not_not (nat_eq a.number b) ∙ ap (λ v. not (v || not (nat_eq a.number b))) (sym c))
    ∙ ap (λ v. holds old s b || v) (put_by (nat_eq k s) (mark_at ended s) (not (is_elsewhere b a)) (λ f. ap (mark_at ended) (sym (eqb-true k s f)) ∙ e))

no_binding : (u : Use) (a : Around) (xs : List Name) → reads_at (own_mentions u a shape.BindingIdentifier xs) ≡ []
no_binding u a [] = refl
no_binding u a (x ∷ xs) = no_binding u a xs

-- the moments that a node itself is
no_moment : (u : Use) (a : Around) (h : Shape) (xs : List Name) → is_reference_shape h ≡ false → reads_at (own_mentions u a h xs) ≡ []
no_moment u a shape.Identifier xs e = absurd (cc e)
no_moment u a shape.BindingIdentifier xs e = no_binding u a xs
no_moment u a h xs e = refl

no_read : (u : Use) (a : Around) (xs : List Name) → reads u ≡ false → reads_at (own_mentions u a shape.Identifier xs) ≡ []
no_read u a [] e = refl
no_read u a (x ∷ xs) e = ap (λ v. if v then record { name = x; ends = false; around = a } ∷ reads_at (own_mentions u a shape.Identifier xs) else reads_at (own_mentions u a shape.Identifier xs)) e ∙ no_read u a xs e

silent : (u : Use) (a : Around) (h : Shape) (xs : List Name) → reads u ≡ false → reads_at (own_mentions u a h xs) ≡ []
silent u a shape.Identifier xs e = no_read u a xs e
silent u a shape.BindingIdentifier xs e = no_binding u a xs
silent u a h xs e = refl

none_pass : (ms : List Moment) (old : Moments) → ms ≡ [] → Passed ms old old
none_pass ms old e = subst (λ r. Passed r old old) (sym e) (passed_add.nothing old)

pub other_passes : (u : Use) (a : Around) (t : Tree) (h : Shape) (v : Bool) (old : Moments) → h ≡ shape_of t → v ≡ is_reference_shape h → v ≡ false → Passed (reads_at (own_mentions u a (shape_of t) (names_of t))) old old
other_passes u a t h v old e f g = none_pass (reads_at (own_mentions u a (shape_of t) (names_of t))) old (no_moment u a (shape_of t) (names_of t) (ap is_reference_shape (sym e) ∙ sym f ∙ g))

pub silent_passes : (u : Use) (a : Around) (t : Tree) (w : Bool) (old : Moments) → w ≡ reads u → w ≡ false → Passed (reads_at (own_mentions u a (shape_of t) (names_of t))) old old
silent_passes u a t w old f g = none_pass (reads_at (own_mentions u a (shape_of t) (names_of t))) old (silent u a (shape_of t) (names_of t) (sym f ∙ g))

read_by : (v q : Bool) → (if v then (if false then false else (q || false)) else false) ≡ (v && q)
read_by true true = refl
read_by true false = refl
read_by false q = refl

same_symbol : (s k : ℕ) (x : Name) → x.symbol ≡ Some (record { 0 = k }) → same_variable (named s) x ≡ nat_eq k s
same_symbol s k x e = ap (λ o. same_variable (named s) (record x { symbol = o })) e ∙ eq_sym s k

no_symbol : (s : ℕ) (x : Name) → x.symbol ≡ None → same_variable (named s) x ≡ false
no_symbol s x e = ap (λ o. same_variable (named s) (record x { symbol = o })) e

no_end : (v : Bool) → ((v && false) || false) ≡ false
no_end true = refl
no_end false = refl

pub name_passes : (x : Name) (a : Around) (k : ℕ) (old new : Moments) → x.symbol ≡ Some (record { 0 = k }) → new.ended ≡ old.ended → length new.early.items ≡ length old.early.items → ((s : ℕ) → s < length old.early.items → (b : ℕ) → holds new.early.items s b ≡ (holds old.early.items s b || (not (mark_at old.ended.items s) && (nat_eq k s && not (is_elsewhere b a))))) → Passed (record { name = x; ends = false; around = a } ∷ []) old new
name_passes x a k old new e f l r = record {
  symbols = ap (λ v. length v.items) f;
  lists = l;
  ends = λ s h. ap (λ v. mark_at v.items s) f ∙ sym (or_false (mark_at old.ended.items s)) ∙ ap (λ v. mark_at old.ended.items s || v) (sym (no_end (same_variable (named s) x)));
  reads = λ s h i b. r s i b ∙ ap (λ v. holds old.early.items s b || (not (mark_at old.ended.items s) && v)) (ap (λ v. v && not (is_elsewhere b a)) (sym (same_symbol s k x e)) ∙ sym (read_by (same_variable (named s) x) (not (is_elsewhere b a))));
}

-- the same, where the read was noted
pub noted_passes : (x : Name) (a : Around) (k : ℕ) (old new : Moments) → x.symbol ≡ Some (record { 0 = k }) → (q : Result Unit OutOfMemory) → OnOk q (new.ended ≡ old.ended) → OnOk q (length new.early.items ≡ length old.early.items) → OnOk q ((s : ℕ) → s < length old.early.items → (b : ℕ) → holds new.early.items s b ≡ (holds old.early.items s b || (not (mark_at old.ended.items s) && (nat_eq k s && not (is_elsewhere b a))))) → OnOk q (Passed (record { name = x; ends = false; around = a } ∷ []) old new)
noted_passes x a k old new e (Ok u) f l r = name_passes x a k old new e f l r
noted_passes x a k old new e (Err u) f l r = tt

pub nameless_passes : (x : Name) (a : Around) (old : Moments) → x.symbol ≡ None → Passed (record { name = x; ends = false; around = a } ∷ []) old old
nameless_passes x a old e = record {
  symbols = refl;
  lists = refl;
  ends = λ s h. sym (or_false (mark_at old.ended.items s)) ∙ ap (λ v. mark_at old.ended.items s || v) (sym (no_end (same_variable (named s) x)));
  reads = λ s h i b. sym (ap (λ v. holds old.early.items s b || (not (mark_at old.ended.items s) && v)) (read_by (same_variable (named s) x) (not (is_elsewhere b a)) ∙ ap (λ v. v && not (is_elsewhere b a)) (no_symbol s x e)) ∙ ap (λ v. holds old.early.items s b || v) (nothing_read (mark_at old.ended.items s)) ∙ or_false (holds old.early.items s b));
}

nothing_named : (u : Use) (a : Around) (h : Shape) → reads_at (own_mentions u a h []) ≡ []
nothing_named u a shape.Identifier = refl
nothing_named u a shape.BindingIdentifier = refl
nothing_named u a h = refl

one_moment : (u : Use) (a : Around) (h : Shape) (x : Name) → is_reference_shape h ≡ true → reads u ≡ true → reads_at (own_mentions u a h (x ∷ [])) ≡ record { name = x; ends = false; around = a } ∷ []
one_moment u a shape.Identifier x e f = ap (λ v. if v then record { name = x; ends = false; around = a } ∷ [] else []) f
one_moment u a h x e f = absurd (false≢true e)

pub read_passes : (u : Use) (a : Around) (t : Tree) (h : Shape) (o : Option Name) (x : Name) (v w : Bool) (old new : Moments) → h ≡ shape_of t → v ≡ is_reference_shape h → v ≡ true → w ≡ reads u → w ≡ true → names o ≡ names_of t → o ≡ Some x → Passed (record { name = x; ends = false; around = a } ∷ []) old new → Passed (reads_at (own_mentions u a (shape_of t) (names_of t))) old new
read_passes u a t h o x v w old new e f g i j k l p =
    subst (λ ms. Passed ms old new) (sym (ap (λ xs. reads_at (own_mentions u a (shape_of t) xs)) (sym k ∙ ap names l) ∙ one_moment u a (shape_of t) x (ap is_reference_shape (sym e) ∙ sym f ∙ g) (sym i ∙ j))) p

pub unnamed_passes : (u : Use) (a : Around) (t : Tree) (o : Option Name) (old : Moments) → names o ≡ names_of t → o ≡ None → Passed (reads_at (own_mentions u a (shape_of t) (names_of t))) old old
unnamed_passes u a t o old k l = none_pass (reads_at (own_mentions u a (shape_of t) (names_of t))) old (ap (λ xs. reads_at (own_mentions u a (shape_of t) xs)) (sym k ∙ ap names l) ∙ nothing_named u a (shape_of t))

-- ---- a node

-- the moments of children in an order
abbrev pub ordered : Order → (ℕ → Use) → (ℕ → Around) → Trees → List Moment → List Moment
ordered order.InOrder uses arounds ts e = joined (moments_from uses arounds 0 (rest_children 0 ts)) ++ e
ordered order.RightFirst uses arounds ts e = ((moments (uses 1) (arounds 1) (child_or_absent ts 1) ++ moments (uses 0) (arounds 0) (child_or_absent ts 0)) ++ joined (moments_from uses arounds 2 (rest_children 2 ts))) ++ e
ordered order.ParamFirst uses arounds ts e = (moments (uses 0) (arounds 0) (child_or_absent ts 0) ++ e) ++ joined (moments_from uses arounds 1 (rest_children 1 ts))

plain : (uses : ℕ → Use) (arounds : ℕ → Around) (ts : Trees) (e : List Moment) → ordered order.InOrder uses arounds ts e ≡ joined (moments_from uses arounds 0 ts) ++ e
plain uses arounds ts e = ap (λ us. joined (moments_from uses arounds 0 us) ++ e) (from_first ts)

ordered_is : (h : Shape) (ts : Trees) (uses : ℕ → Use) (arounds : ℕ → Around) (e : List Moment) → ordered (order_of h (count ts)) uses arounds ts e ≡ in_order h (moments_from uses arounds 0 ts) e
unfolding moments
ordered_is shape.ForInStatement none uses arounds e = refl
ordered_is shape.ForInStatement (t ▸ none) uses arounds e = refl
ordered_is shape.ForInStatement (t ▸ (u ▸ none)) uses arounds e = refl
ordered_is shape.ForInStatement (t ▸ (u ▸ (v ▸ ts))) uses arounds e = refl
ordered_is shape.ForOfStatement none uses arounds e = refl
ordered_is shape.ForOfStatement (t ▸ none) uses arounds e = refl
ordered_is shape.ForOfStatement (t ▸ (u ▸ none)) uses arounds e = refl
ordered_is shape.ForOfStatement (t ▸ (u ▸ (v ▸ ts))) uses arounds e = refl
ordered_is shape.CatchClause none uses arounds e = refl
ordered_is shape.CatchClause (t ▸ none) uses arounds e = refl
ordered_is shape.CatchClause (t ▸ (u ▸ ts)) uses arounds e = refl
ordered_is h ts uses arounds e = plain uses arounds ts e

pub passes_in_order : (a : Around) (uses : ℕ → Use) (arounds : ℕ → Around) (n : Tree) (k : Order) (h : Shape) (c : ℕ) (ts : Trees) (e : List Moment) (old new : Moments) → k ≡ order_of h c → h ≡ shape_of n → c ≡ count ts → ts ≡ children n → Passed (ordered k uses arounds (children n) e) old new → Passed (in_order (shape_of n) (moments_from uses arounds 0 (children n)) e) old new
passes_in_order a uses arounds n k h c ts e old new f g i j p =
    subst (λ ms. Passed ms old new) (ap (λ o. ordered o uses arounds (children n) e) (f ∙ ap (λ r. order_of r c) g ∙ ap (order_of (shape_of n)) (i ∙ ap count j)) ∙ ordered_is (shape_of n) (children n) uses arounds e) p

pub opens : (u : Use) (a : Around) (n : Tree) → reads_at (own_mentions u a (shape_of n) (names_of n)) ++ in_order (shape_of n) (moments_from (use_of (shape_of n) u) (around_child (shape_of n) a (number_of n)) 0 (children n)) (ends_at a (ended_by (shape_of n) (children n))) ≡ moments u a n
unfolding moments
opens u a (node h xs n ts) = refl

-- ---- the loop over children from an index on

abbrev pub rest_of : (ℕ → Use) → (ℕ → Around) → ℕ → Trees → List Moment
rest_of uses arounds i us = joined (moments_from uses arounds i us)

pub rest_gathers : (uses : ℕ → Use) (arounds : ℕ → Around) → Gathers (λ i us. moments (uses i) (arounds i) (first_or_absent us)) (rest_of uses arounds)
unfolding moments
rest_gathers uses arounds = record { at_none = λ i. refl; at_more = λ i t ts. refl }

abbrev pub UntilFrom : (ℕ → Use) → (ℕ → Around) → Trees → ℕ → ℕ → Moments → Moments → Type 0
UntilFrom uses arounds ts k i start now = (end : Moments) → Passed (rest_of uses arounds i (rest_children i ts)) now end → Passed (rest_of uses arounds k (rest_children k ts)) start end

pub rest_begins : (uses : ℕ → Use) (arounds : ℕ → Around) (ts : Trees) (k : ℕ) (s : Moments) → UntilFrom uses arounds ts k k s s
rest_begins uses arounds ts k s = λ end r. r

pub rest_turns : (uses : ℕ → Use) (arounds : ℕ → Around) (ts : Trees) (k i : ℕ) (start now next : Moments) → i < count ts → Passed (moments (uses i) (arounds i) (child_or_absent ts i)) now next → UntilFrom uses arounds ts k i start now → UntilFrom uses arounds ts k (i + 1) start next
rest_turns uses arounds ts k i start now next h r u =
    λ end q. u end (subst (λ xs. Passed xs now end) (split (λ j us. moments (uses j) (arounds j) (first_or_absent us)) (rest_of uses arounds) (rest_gathers uses arounds) ts i (child_or_absent ts i) h refl)
    (passed_add.both (moments (uses i) (arounds i) (child_or_absent ts i)) (rest_of uses arounds (i + 1) (rest_children (i + 1) ts)) now next end r q))

pub rest_ends : (uses : ℕ → Use) (arounds : ℕ → Around) (ts : Trees) (k i : ℕ) (start now : Moments) → count ts ≤ i → UntilFrom uses arounds ts k i start now → Passed (rest_of uses arounds k (rest_children k ts)) start now
rest_ends uses arounds ts k i start now h u =
    u now (subst (λ xs. Passed xs now now) (sym (ap (rest_of uses arounds i) (no_rest ts i h) ∙ (rest_gathers uses arounds).at_none i)) (passed_add.nothing now))
