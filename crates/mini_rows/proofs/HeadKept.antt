-- The declaration of a name that goes, with what stands right after it and reads that name before all else, and what is written for
-- them: what they have.
use Rattle.std.specs.Prelude.{ℕ, ◌+◌, ◌≡◌, refl, Bool, true, false, List, [], ◌∷◌, ◌++◌}
use Rattle.std.proofs.Common.{ap, ◌∙◌, sym, subst, subst₂, arith, inl, inr, append_assoc}
use Rattle.std.proofs.lemmas.List.{append-nil}
use Rattle.mini_model.specs.declared.kind.VariableDeclarationKind.{VariableDeclarationKind}
use Rattle.mini_model.specs.declared.name.Name.{Name}
use Rattle.mini_model.specs.declared.shape.Shape.TheVariants as shape
use Rattle.mini_model.specs.Tree.{Tree, Trees, none, ◌▸◌, listed, identifier, is_absent}
use Rattle.mini_model.specs.Paths.{append}
use Rattle.mini_laws.specs.declared.names.Declared.TheVariants as declared
use Rattle.mini_laws.specs.declared.names.Use.TheVariants.{Read}
use Rattle.mini_laws.specs.DeclaredNames.{names_of, all_names, body_names, has_inner}
use Rattle.mini_laws.specs.Scopes.{use_of}
use Rattle.mini_laws.specs.Scoped.{Unmentioned}
use Rattle.mini_laws.specs.Symbols.{declared as declared_in, times}
use Rattle.mini_laws.specs.Naming.{is_lexical}
use Rattle.mini_kept.specs.AlikeBodies.{BodiesKept}
use Rattle.mini_kept.specs.Carried.{numbers}
use Rattle.mini_kept.specs.Frames.{FramesKept}
use Rattle.mini_kept.specs.KeepsNames.{count_of, unplaced}
use Rattle.mini_kept.specs.Loosely.{symbol}
use Rattle.mini_kept.specs.SameNames.{NoMoreClash}
use Rattle.mini_kept.proofs.Clashes.{no_more_same, no_more_both}
use Rattle.mini_kept.proofs.Unplaced.{as_body}
use Rattle.mini_terms.specs.Reading.{is_plain_part}
use Rattle.mini_rows.specs.Lists.{declaration, each_loop}
use Rattle.mini_rows.specs.Declarations.{binding, declarator}
use Rattle.mini_rows.specs.Sketches.{Asked, AsWholeItem, AsValue, AsWholeList, Leap}
use Rattle.mini_rows.specs.Unused.{names, any_names, declared_among, declared_left, put_first, reads_first, reads_head}
use Rattle.mini_rows.proofs.Arranging.{Any, Local, Summed}
use Rattle.mini_rows.proofs.ArrangedNames.{ScopedAs, scoped_local, symbol_times, symbols_summed, number_times, numbers_summed, InnerIf, inner_local, Once, once_local, HasTarget, Aimed, aimed_local}
use Rattle.mini_rows.proofs.ArrangedBodies.{HasBodies, bodies_local, HasFrames, frames_local, Among, Declares, declares_local, FixedBy, fixed_local}
use Rattle.mini_rows.proofs.DeclaredKept.{none_after, made, scoped_left, symbols_down, symbols_left, numbers_left, inner_left, inner_down, inner_up, once_left, once_down, targets_left, targets_down, frames_left, bodies_left, declares_left, fixed_left, fixed_list, unmentioned_left, lexical_names, lexical_names_left, hoists_nothing, hoists_nothing_left, body_names_left, clash_less, scoped_both, symbols_both, numbers_both, inner_both, once_both, targets_both, frames_both, bodies_both, declares_both, fixed_both, inner_back, fixed_back, single_leaves, single_names, single_declares}
use Rattle.mini_rows.proofs.ListKeptDeclarations.{all_both, names_are, names_if, declares_as, body_are, declarations_are, fixed_down, fixed_up, used, scoped_down, numbers_are, declared_are, frames_are, bodies_are}
use Rattle.mini_rows.proofs.ListKeptStretch.{items_of, stretched, sum_list}
use Rattle.mini_rows.proofs.NextKept.{given, next_unnamed, inner_value, fixed_value, among_value, frames_value, bodies_value, scoped_value, once_value, aimed_value, inner_other, fixed_other, among_other, frames_other, bodies_other, scoped_other, once_other, aimed_other, number_sum, symbol_sum}
use Rattle.mini_rows.proofs.ListKeptHeads.{seated}
use Rattle.mini_rows.proofs.OpeningKept.{opening_leaves, opening_names, opening_declares}
use Rattle.mini_rows.proofs.BegunKept.{looped, begun_leaves, begun_names, begun_declares}
use Rattle.mini_rows.proofs.OverKept.{over_leaves, over_names, over_declares}
use Rattle.mini_rows.proofs.SingleUse.{Step, led, Well, Spared, Path, path, Initial, Outside, Over, Begun, Heads, heads, swapped, taken, swapped_sum, found, swapped_back, both_there, plain_there}
use Rattle.mini_rows.proofs.UnusedKept.{LeavesThere, NamesThere, DeclaresThere}
use Rattle.mini_rows.proofs.UnusedNames.{Other, all_other}

-- the names of a declaration, if it declares any so
other_if : (x : Name) (b : Bool) (xs : List Name) → Other x xs → Other x (names_if b xs)
other_if x true xs o = o
other_if x false xs o = tt

-- ---- a declaration of whatever kind, of which the first initializer reads it

module _ (K : VariableDeclarationKind) (x : Name) (k : ℕ) (e : x.symbol ≡ symbol k) (first : Trees) (init : Tree) (f : any_names x first ≡ false) (H : VariableDeclarationKind) (id : Tree) (last : Trees) (ss : List Step) (w : Well AsValue ss) (r : Name) (g : any_names x (given id (led ss init) ▸ last) ≡ false) where
  abbrev value : Tree
  value = found ss (identifier r)

  abbrev put : Tree
  put = led ss init

  abbrev there : Trees
  there = given id value ▸ last

  abbrev here : Trees
  here = given id put ▸ last

  abbrev earlier : Trees
  earlier = declared_among K x first init none ▸ (made H there ▸ none)

  abbrev later : Trees
  later = declared_left K first ▸ (made H here ▸ none)

  -- a property of its declarators and of what moves is one of the declarators with that
  with_it : (J : Leap → Type 0) (Q : Asked → Tree → Type 0) → Local J Q → ((v : Tree) → Q AsWholeItem (given id v) → Q AsValue v) → (Q AsWholeItem (given id value) → Q AsValue put → Q AsWholeItem (given id put)) → Q AsValue init → Q AsWholeList (listed there) → Q AsWholeList (listed here)
  with_it J Q l down up i = stretched J Q l none last (given id value ▸ none) (given id put ▸ none) (λ a. (up a.0 (swapped J Q l AsValue ss w (identifier r) init (λ z. i) (down value a.0)), tt))

  without_it : (J : Leap → Type 0) (Q : Asked → Tree → Type 0) → Local J Q → ((v : Tree) → Q AsWholeItem (given id v) → Q AsValue v) → (Q AsWholeItem (given id put) → Q AsValue value → Q AsWholeItem (given id value)) → Q AsValue (identifier r) → Q AsWholeList (listed here) → Q AsWholeList (listed there)
  without_it J Q l down up o = stretched J Q l none last (given id put ▸ none) (given id value ▸ none) (λ a. (up a.0 (swapped_back J Q l AsValue ss w init (identifier r) (λ z. o) (down put a.0)), tt))

  -- and of what moves
  moved_out : (J : Leap → Type 0) (Q : Asked → Tree → Type 0) → Local J Q → ((v : Tree) → Q AsWholeItem (given id v) → Q AsValue v) → Q AsWholeList (listed here) → Q AsValue init
  moved_out J Q l down q = taken J Q l AsValue ss w init (down put (items_of J Q l here q).0)

  sum_moved : (m : Asked → Tree → ℕ) → Summed m → (n : Tree → ℕ) → ((d v : Tree) → m AsWholeItem (given d v) ≡ n d + m AsValue v) → m AsWholeList (listed here) + m AsValue (identifier r) ≡ m AsWholeList (listed there) + m AsValue init
  sum_moved m l n h = let both = swapped_sum m l AsValue ss w (identifier r) init in omega (arith, both, sum_list m l here, sum_list m l there, h id value, h id put)

  no_inner : (b : Bool) → InnerIf b AsValue (identifier r)
  unfolding has_inner
  no_inner b = refl

  initial_there : is_absent init ≡ false → LeavesThere x earlier later
  unfolding Unmentioned
  initial_there some = record {
    inner = λ b a. let (p, i) = inner_both K x init first b a.0 in (p, (inner_left H b here (with_it Any (InnerIf b) (inner_local b) (λ v q. inner_value id v b q) (λ q p. inner_other id value put b q p) i (inner_down H b there a.1.0)), tt));
    inner_back = λ b a.
        let down = λ (v : Tree) (q : InnerIf b AsWholeItem (given id v)). inner_value id v b q in
        let q = inner_down H b here a.1.0 in
        (inner_back K x init first b a.0 (moved_out Any (InnerIf b) (inner_local b) down q), (inner_up H b there (without_it Any (InnerIf b) (inner_local b) down (λ q p. inner_other id put value b q p) (no_inner b) q), tt));
    scoped = λ env a.
        let (p, i) = scoped_both K x init first env a.0 in
        (p, (scoped_left H env here (with_it Any (ScopedAs (used Read H) env) (scoped_local (used Read H) env) (λ v q. scoped_value id v (used Read H) env q) (λ q p. scoped_other id value put (both_there ss init r some) (used Read H) env q p) i (scoped_down H env (listed there) a.1.0)), tt));
    unmentioned = (unmentioned_left K x k e first f, (unmentioned_left H x k e here g, tt));
    symbols = λ z.
        let parts = symbols_both K x init first z in
        let same = sum_moved (symbol_times (used Read H) z) (symbols_summed (used Read H) z) (λ d. times z (declared_in (use_of shape.VariableDeclarator (used Read H) 0) d)) (λ d v. symbol_sum (used Read H) z d v) in
        omega (arith, parts, same, symbols_down H z there, symbols_left H z here);
    numbered = λ n.
        let parts = numbers_both K x init first n in
        let same = sum_moved (number_times n) (numbers_summed n) (λ d. count_of n (numbers d)) (λ d v. number_sum n d v) in
        omega (arith, parts, same, ap (count_of n) (numbers_are H (listed there)), numbers_left H n here);
    once = λ a. let (p, i) = once_both K x init first a.0 in (p, (once_left H here (with_it Any Once once_local (once_value id) (λ q p. once_other id value put q p) i (once_down H there a.1.0)), tt));
    targets = λ h a. let (p, i) = targets_both K x init first h a.0 in (p, (targets_left H h here (with_it (HasTarget h) (Aimed h) (aimed_local h) (λ v q. aimed_value id v h q) (λ q p. aimed_other id value put h q p) i (targets_down H h there a.1.0)), tt));
    framed = λ all a. let (p, i) = frames_both K x init first all a.0 in (p, (frames_left H all here (with_it Any (HasFrames all) (frames_local all) (λ v q. frames_value id v all q) (λ q p. frames_other id value put all q p) i (subst (FramesKept all) (frames_are H (listed there)) a.1.0)), tt));
    bodied = λ all s a.
        let (p, i) = bodies_both K x init first all s a.0 in
        (p, (bodies_left H all s here (with_it Any (HasBodies all s) (bodies_local all s) (λ v q. bodies_value id v all s q) (λ q p. bodies_other id value put all s q p) i (subst (BodiesKept all) (bodies_are H s (listed there)) a.1.0)), tt));
    fixed = λ z j a.
        let (p, i) = fixed_both K x init first z j a.0 in
        let (own, list) = fixed_down j H z there a.1.0 in
        (p, (fixed_left H z j here own (with_it Any (FixedBy z j) (fixed_local z j) (λ v q. fixed_value id v z j q) (λ q p. fixed_other id value put z j q p) i list), tt));
    fixed_back = λ z j o a.
        let down = λ (v : Tree) (q : FixedBy z j AsWholeItem (given id v)). fixed_value id v z j q in
        let (own, q) = fixed_list H z j here a.1.0 in
        (fixed_back K x init first z j o a.0 (moved_out Any (FixedBy z j) (fixed_local z j) down q), (fixed_up j H z there own (without_it Any (FixedBy z j) (fixed_local z j) down (λ q p. fixed_other id put value z j q p) (omega arith) q), tt));
    declares = λ all a. let (p, i) = declares_both K x init first all a.0 in (p, (declares_left H all here (with_it Any (Declares all) (declares_local all) (λ v q. among_value id v all q) (λ q p. among_other id value put all q p) i (subst (Among all) (declared_are H (listed there)) a.1.0)), tt));
  }

  -- ---- names

  abbrev this_one : Trees
  this_one = append first (declarator (binding x) init ▸ none)

  first_less : (o : Bool) → NoMoreClash (as_body o (declared_left K first)) (as_body o (declared_among K x first init none))
  first_less o = subst (λ ts. NoMoreClash (as_body o (declared_left K ts)) (as_body o (declared_among K x first init none))) (none_after first) (clash_less K o x first none init)

  same_declares : (o : Bool) → as_body o (made H here) ≡ as_body o (made H there)
  unfolding names_of
  same_declares o = declarations_are o H here ∙ sym (declarations_are o H there)

  clash : (o : Bool) → NoMoreClash (as_body o (declared_left K first) ++ (as_body o (made H here) ++ [])) (as_body o (declared_among K x first init none) ++ (as_body o (made H there) ++ []))
  clash o = no_more_both (as_body o (declared_among K x first init none)) (as_body o (declared_left K first)) (as_body o (made H there) ++ []) (as_body o (made H here) ++ []) (first_less o) (no_more_same (as_body o (made H there) ++ []) (as_body o (made H here) ++ []) (ap (λ ds. unplaced (ds ++ [])) (same_declares o)))

  initial_names_there : is_lexical K ≡ true → NamesThere x earlier later
  unfolding names_of
  initial_names_there l =
      let bound = all_names declared.Bound first in
      let lexical = names_if (declares_as declared.Lexical H) (all_names declared.Bound here) in
      record {
        first = bound;
        last = lexical;
        names = (λ i. (lexical_names K l this_one ∙ all_both declared.Bound first (declarator (binding x) init ▸ none)) i ++ (names_are declared.Lexical H there i ++ [])) ∙ ap (λ ys. (bound ++ x ∷ []) ++ ys) (append-nil lexical) ∙ append_assoc bound (x ∷ []) lexical;
        left = (λ i. lexical_names_left K l first i ++ (names_are declared.Lexical H here i ++ [])) ∙ ap (λ ys. bound ++ ys) (append-nil lexical);
        others_first = all_other x declared.Bound first f;
        others_last = other_if x (declares_as declared.Lexical H) (all_names declared.Bound here) (all_other x declared.Bound here g);
        hoists = λ i. (hoists_nothing_left K l first ∙ sym (hoists_nothing K l this_one)) i ++ ((names_are declared.Hoisted H here ∙ sym (names_are declared.Hoisted H there)) i ++ []);
        clash = clash false;
      }

  initial_declares_there : DeclaresThere x earlier later
  unfolding body_names names_of
  initial_declares_there =
      let bound = all_names declared.Bound first in
      let others = all_names declared.Bound here in
      record {
        first = bound;
        last = others;
        names = (λ i. (body_are K this_one ∙ all_both declared.Bound first (declarator (binding x) init ▸ none)) i ++ (body_are H there i ++ [])) ∙ ap (λ ys. (bound ++ x ∷ []) ++ ys) (append-nil others) ∙ append_assoc bound (x ∷ []) others;
        left = (λ i. body_names_left K first i ++ (body_are H here i ++ [])) ∙ ap (λ ys. bound ++ ys) (append-nil others);
        others_first = all_other x declared.Bound first f;
        others_last = all_other x declared.Bound here g;
        clash = clash;
      }

-- ---- along a path

module _ (K : VariableDeclarationKind) (x : Name) (k : ℕ) (e : x.symbol ≡ symbol k) (first : Trees) (init head : Tree) (plain : is_plain_part init ≡ true) (once : reads_head x head ≡ true) (i : names x init ≡ false) (f : any_names x first ≡ false) where
  abbrev Written : (P : Trees → Trees → Type 0) → Tree → Tree → Type 0
  Written P h w = P (declared_among K x first init none ▸ (h ▸ none)) (declared_left K first ▸ (w ▸ none))

  initial_along : (t : Initial x head) (P : Trees → Trees → Type 0) → ((ss : List Step) → Well AsValue ss → (r : Name) → any_names x (given t.binds (led ss init) ▸ t.last) ≡ false → Written P (made t.kind (given t.binds (found ss (identifier r)) ▸ t.last)) (made t.kind (given t.binds (led ss init) ▸ t.last))) → Written P head (put_first x init head)
  initial_along t P h =
      let p : Path x AsValue t.value = path x false t.value t.once in
      let free = ap (λ u. any_names x (given t.binds u ▸ t.last)) (sym (p.puts init)) ∙ next_unnamed x t.binds t.value t.once init i t.other t.last t.later in
      subst₂ (Written P) (sym (t.is ∙ ap (λ u. declaration t.kind (declarator t.binds u ▸ t.last)) p.is)) (sym (t.puts init ∙ ap (λ u. declaration t.kind (declarator t.binds u ▸ t.last)) (p.puts init))) (h p.steps p.well p.read free)

  outside_along : (t : Outside x head) (P : Trees → Trees → Type 0) → ((ss : List Step) → Well AsValue ss → Spared x ss → (r : Name) → Written P (seated t.seat (found ss (identifier r))) (seated t.seat (led ss init))) → Written P head (put_first x init head)
  outside_along t P h =
      let p : Path x AsValue t.value = path x false t.value t.once in
      subst₂ (Written P) (sym (t.is ∙ ap (seated t.seat) p.is)) (sym (t.puts init ∙ ap (seated t.seat) (p.puts init))) (h p.steps p.well p.spared p.read)

  over_along : (t : Over x head) (P : Trees → Trees → Type 0) → ((ss : List Step) → Well AsValue ss → Spared x ss → (r : Name) → Written P (each_loop t.kind t.left (found ss (identifier r)) t.body) (each_loop t.kind t.left (led ss init) t.body)) → Written P head (put_first x init head)
  over_along t P h =
      let p : Path x AsValue t.value = path x false t.value t.once in
      let loops = λ (u : Tree). each_loop t.kind t.left u t.body in
      subst₂ (Written P) (sym (t.is ∙ ap loops p.is)) (sym (t.puts init ∙ ap loops (p.puts init))) (h p.steps p.well p.spared p.read)

  begun_along : (t : Begun x head) (P : Trees → Trees → Type 0) → ((ss : List Step) → Well AsValue ss → Spared x ss → (r : Name) → Written P (looped t.binds t.last t.test t.update t.body (found ss (identifier r))) (looped t.binds t.last t.test t.update t.body (led ss init))) → Written P head (put_first x init head)
  begun_along t P h =
      let p : Path x AsValue t.value = path x false t.value t.once in
      let loops = looped t.binds t.last t.test t.update t.body in
      subst₂ (Written P) (sym (t.is ∙ ap loops p.is)) (sym (t.puts init ∙ ap loops (p.puts init))) (h p.steps p.well p.spared p.read)

  -- of a statement, of a declaration, of what opens a scope, of a loop over keys or values, or of a `for` that begins with a `var`
  by_head : (P : Trees → Trees → Type 0) → (reads_first x head ≡ true → Written P head (put_first x init head)) → ((t : Initial x head) → Written P head (put_first x init head)) → ((t : Outside x head) → Written P head (put_first x init head)) → ((t : Over x head) → Written P head (put_first x init head)) → ((t : Begun x head) → Written P head (put_first x init head)) → Written P head (put_first x init head)
  by_head P g h o v b = by (heads x head once)
    where
      by : Heads x head → Written P head (put_first x init head)
      by (inl (z, p)) = g z
      by (inr (inl t)) = h t
      by (inr (inr (inl t))) = o t
      by (inr (inr (inr (inl t)))) = v t
      by (inr (inr (inr (inr t)))) = b t

  pub head_leaves : Written (LeavesThere x) head (put_first x init head)
  head_leaves =
      by_head (LeavesThere x) (λ o. single_leaves K x k e first init head plain o i f) (λ t. initial_along t (LeavesThere x) (λ ss w r g. initial_there K x k e first init f t.kind t.binds t.last ss w r g (plain_there init plain)))
      (λ t. outside_along t (LeavesThere x) (λ ss w g r. opening_leaves K x k e first init plain f i t.seat t.beside ss w g r))
      (λ t. over_along t (LeavesThere x) (λ ss w g r. over_leaves K x k e first init plain f i t.kind t.left t.body t.plain t.other t.later ss w g r))
      (λ t. begun_along t (LeavesThere x) (λ ss w g r. begun_leaves K x k e first init plain f i t.binds t.last t.test t.update t.body t.other t.later t.beside ss w g r))

  pub head_names : is_lexical K ≡ true → Written (NamesThere x) head (put_first x init head)
  head_names l =
      by_head (NamesThere x) (λ o. single_names K x k e first init head plain o i f l) (λ t. initial_along t (NamesThere x) (λ ss w r g. initial_names_there K x k e first init f t.kind t.binds t.last ss w r g l))
      (λ t. outside_along t (NamesThere x) (λ ss w g r. opening_names K x k e first init plain f i t.seat t.beside ss w g r l))
      (λ t. over_along t (NamesThere x) (λ ss w g r. over_names K x k e first init plain f i t.kind t.left t.body t.plain t.other t.later ss w g r l))
      (λ t. begun_along t (NamesThere x) (λ ss w g r. begun_names K x k e first init plain f i t.binds t.last t.test t.update t.body t.other t.later t.beside ss w g r l))

  pub head_declares : Written (DeclaresThere x) head (put_first x init head)
  head_declares =
      by_head (DeclaresThere x) (λ o. single_declares K x k e first init head plain o i f) (λ t. initial_along t (DeclaresThere x) (λ ss w r g. initial_declares_there K x k e first init f t.kind t.binds t.last ss w r g))
      (λ t. outside_along t (DeclaresThere x) (λ ss w g r. opening_declares K x k e first init plain f i t.seat t.beside ss w g r))
      (λ t. over_along t (DeclaresThere x) (λ ss w g r. over_declares K x k e first init plain f i t.kind t.left t.body t.plain t.other t.later ss w g r))
      (λ t. begun_along t (DeclaresThere x) (λ ss w g r. begun_declares K x k e first init plain f i t.binds t.last t.test t.update t.body t.other t.later t.beside ss w g r))
