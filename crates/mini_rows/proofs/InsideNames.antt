-- A list of statements without a `var` that nothing else mentions: which names it declares, and what it keeps.
use Rattle.std.specs.Prelude.{ℕ, ◌≡◌, ◌≤◌, refl, not, Bool, true, false, List, [], ◌∷◌, ◌++◌}
use Rattle.std.proofs.Common.{ap, ◌∙◌, sym, subst, inl, inr, true≢false, append_assoc}
use Rattle.std.proofs.lemmas.List.{append-nil}
use Rattle.mini_model.specs.declared.kind.VariableDeclarationKind.{VariableDeclarationKind}
use Rattle.mini_model.specs.declared.kind.VariableDeclarationKind.TheVariants.{Var, Let, Const}
use Rattle.mini_model.specs.declared.name.Name.{Name}
use Rattle.mini_model.specs.Tree.{Tree, Trees, none, ◌▸◌, listed, shape_of, expression_statement}
use Rattle.mini_model.specs.Paths.{append}
use Rattle.mini_accept.specs.WellShaped.{Depth, each, fill}
use Rattle.mini_laws.specs.declared.names.Declared.{Declared}
use Rattle.mini_laws.specs.declared.names.Declared.TheVariants as declared
use Rattle.mini_laws.specs.declared.names.Use.{Use}
use Rattle.mini_laws.specs.declared.names.Use.TheVariants.{Read}
use Rattle.mini_laws.specs.DeclaredNames.{names_of, all_names}
use Rattle.mini_laws.specs.Early.{is_loop}
use Rattle.mini_laws.specs.Naming.{is_lexical}
use Rattle.mini_laws.specs.Scoped.{Scoped, Unmentioned, AllUnmentioned}
use Rattle.mini_laws.specs.Symbols.{declared as declared_in, times}
use Rattle.mini_laws.specs.Value.{VariableSet}
use Rattle.mini_kept.specs.KeepsNames.{is_read}
use Rattle.mini_kept.specs.SameNames.{NoMoreClash}
use Rattle.mini_kept.proofs.Clashes.{no_more_same, no_more_both}
use Rattle.mini_kept.proofs.SameScopes.{text_itself}
use Rattle.mini_kept.proofs.Unplaced.{as_body, all_as_body}
use Rattle.mini_model.specs.Weight.{same_text}
use Rattle.mini_node.specs.Kinds.{is_listed_shape}
use Rattle.mini_rows.specs.Declarations.{binding, declarator}
use Rattle.mini_rows.specs.declared.inside.Way.TheVariants as way
use Rattle.mini_rows.specs.Inside.{declares_var}
use Rattle.mini_rows.specs.Lists.{block, declaration}
use Rattle.mini_rows.specs.Unused.{resolved, names, any_names, declared_one, declared_among, declared_left, put_first, BlockRow}
use Rattle.mini_rows.specs.Switches.{Liberties}
use Rattle.mini_rows.proofs.Arranging.{Any}
use Rattle.mini_rows.proofs.ArrangedBodies.{HasBodies, bodies_local, HasFrames, frames_local, Declares, declares_local, FixedBy, fixed_local}
use Rattle.mini_rows.proofs.ArrowBodyLawful.{list_fits, none_mention}
use Rattle.mini_rows.proofs.FunctionBodyKept.{declared_append}
use Rattle.mini_rows.proofs.HiddenKept.{taken_names}
use Rattle.mini_rows.proofs.HiddenMeaning.{taken_unnamed}
use Rattle.mini_rows.proofs.InsideKept.{Keeping}
use Rattle.mini_rows.proofs.ListKeptDeclarations.{all_both}
use Rattle.mini_rows.proofs.ListKeptStretch.{stretched}
use Rattle.mini_rows.proofs.UnusedKept.{LeavesThere, DeclaresThere, NamesThere, list_inner, list_scoped, list_symbols, list_numbers, list_once, list_targets}
use Rattle.mini_rows.proofs.UnusedMeaning.{movable}
use Rattle.mini_rows.proofs.UnusedNames.{Other, other_both, all_other, declared_other}
use Rattle.mini_rows.proofs.UnusedStretches.{item_in, Stretch, stretch, row_stretch}

-- ---- the names of the statements that go and of those that are written

pub record VarThere (x : Name) (d w : Trees) : Type 0 where
  pub lexical : all_names declared.Lexical w ≡ all_names declared.Lexical d
  pub first : List Name
  pub last : List Name
  pub names : all_names declared.Hoisted d ≡ first ++ x ∷ last
  pub left : all_names declared.Hoisted w ≡ first ++ last
  pub others_first : Other x first
  pub others_last : Other x last

two : (xs : List Name) → (xs ++ []) ++ [] ≡ xs
two xs = append-nil (xs ++ []) ∙ append-nil xs

left_hoists : (ts : Trees) → names_of declared.Hoisted (declared_left Var ts) ≡ all_names declared.Bound ts
unfolding names_of
left_hoists none = refl
left_hoists (t ▸ ts) = append-nil (all_names declared.Bound (t ▸ ts))

left_lexical : (ts : Trees) → names_of declared.Lexical (declared_left Var ts) ≡ []
unfolding names_of
left_lexical none = refl
left_lexical (t ▸ ts) = refl

pub no_var : (K : VariableDeclarationKind) (P : VariableDeclarationKind → Type 0) → not (is_lexical K) ≡ true → P Var → P K
no_var Var P v p = p
no_var Let P v p = absurd (true≢false (sym v))
no_var Const P v p = absurd (true≢false (sym v))

pub value_vars : (x : Name) (init : Tree) → VarThere x (declared_one Var x init ▸ none) (expression_statement init ▸ none)
unfolding names_of
value_vars x init = record { lexical = refl; first = []; last = []; names = refl; left = refl; others_first = tt; others_last = tt }

pub idle_vars : (x : Name) (first : Trees) (init : Tree) (last : Trees) → any_names x first ≡ false → any_names x last ≡ false → VarThere x (declared_among Var x first init last ▸ none) (declared_left Var (append first last) ▸ none)
unfolding names_of
idle_vars x first init last f g = record {
  lexical = ap (λ xs. xs ++ []) (left_lexical (append first last));
  first = all_names declared.Bound first;
  last = all_names declared.Bound last;
  names = two (all_names declared.Bound (append first (declarator (binding x) init ▸ last))) ∙ all_both declared.Bound first (declarator (binding x) init ▸ last);
  left = append-nil (names_of declared.Hoisted (declared_left Var (append first last))) ∙ left_hoists (append first last) ∙ all_both declared.Bound first last;
  others_first = all_other x declared.Bound first f;
  others_last = all_other x declared.Bound last g;
}

pub next_vars : (x : Name) (first : Trees) (init binds value put : Tree) (last : Trees) → any_names x first ≡ false → names x binds ≡ false → any_names x last ≡ false → VarThere x (declared_among Var x first init (declarator binds value ▸ last) ▸ none) (declaration Var (append first (declarator binds put ▸ last)) ▸ none)
unfolding names_of
next_vars x first init binds value put last f o g = record {
  lexical = refl;
  first = all_names declared.Bound first;
  last = names_of declared.Bound binds ++ all_names declared.Bound last;
  names = two (all_names declared.Bound (append first (declarator (binding x) init ▸ (declarator binds value ▸ last)))) ∙ all_both declared.Bound first (declarator (binding x) init ▸ (declarator binds value ▸ last));
  left = two (all_names declared.Bound (append first (declarator binds put ▸ last))) ∙ all_both declared.Bound first (declarator binds put ▸ last);
  others_first = all_other x declared.Bound first f;
  others_last = other_both x (names_of declared.Bound binds) (all_names declared.Bound last) (declared_other x declared.Bound binds o) (all_other x declared.Bound last g);
}

-- ---- the statement behind it

abbrev head_or : Name → List Name → Name
head_or x [] = x
head_or x (y ∷ ys) = y

abbrev behind : List Name → List Name
behind [] = []
behind (y ∷ ys) = ys

-- where it is the first of some names, nothing stands before it
alone_first : (x : Name) (first last zs : List Name) → Other x first → x ∷ zs ≡ first ++ x ∷ last → (first ≡ []) × (zs ≡ last)
alone_first x [] last zs o e = (refl, ap behind e)
alone_first x (y ∷ ys) last zs o e = absurd (true≢false (sym (text_itself x.spelling) ∙ ap (λ z. same_text x.spelling z.spelling) (ap (head_or x) e) ∙ o.0))

-- what it declares stays
pub record SameHead (head put : Tree) : Type 0 where
  pub lexical : names_of declared.Lexical put ++ [] ≡ names_of declared.Lexical head ++ []
  pub hoisted : names_of declared.Hoisted put ++ [] ≡ names_of declared.Hoisted head ++ []

pub same_head : (x : Name) (init head put : Tree) → NamesThere x (declared_among Let x none init none ▸ (head ▸ none)) (declared_left Let none ▸ (put ▸ none)) → SameHead head put
unfolding names_of
same_head x init head put n =
    let (begins, rest) = alone_first x n.first n.last (names_of declared.Lexical head ++ []) n.others_first n.names in
    record { lexical = n.left ∙ ap (λ f. f ++ n.last) begins ∙ sym rest; hoisted = n.hoists }

pub head_vars : (x : Name) (first : Trees) (init head put : Tree) → any_names x first ≡ false → Other x (names_of declared.Hoisted put) → SameHead head put → VarThere x (declared_among Var x first init none ▸ (head ▸ none)) (declared_left Var first ▸ (put ▸ none))
unfolding names_of
head_vars x first init head put f o h =
    let bound = all_names declared.Bound first in
    record {
      lexical = ap (λ xs. xs ++ (names_of declared.Lexical put ++ [])) (left_lexical first) ∙ h.lexical;
      first = bound;
      last = names_of declared.Hoisted put ++ [];
      names = ap (λ xs. xs ++ (names_of declared.Hoisted head ++ [])) (append-nil (all_names declared.Bound (append first (declarator (binding x) init ▸ none))) ∙ all_both declared.Bound first (declarator (binding x) init ▸ none)) ∙ append_assoc bound (x ∷ []) (names_of declared.Hoisted head ++ []) ∙ ap (λ xs. bound ++ x ∷ xs) (sym h.hoisted);
      left = ap (λ xs. xs ++ (names_of declared.Hoisted put ++ [])) (left_hoists first);
      others_first = all_other x declared.Bound first f;
      others_last = subst (Other x) (sym (append-nil (names_of declared.Hoisted put))) o;
    }

-- ---- of a row

pub row_vars : (W : Liberties) (p : Tree) (a b : Trees) (e : is_listed_shape (shape_of p) ≡ true) (r : BlockRow W (block (p ▸ a)) (block (p ▸ b))) → declares_var r ≡ true → let t = row_stretch W p a b e r in VarThere (resolved t.spelling t.symbol) t.d t.w
unfolding row_stretch stretch
row_vars W p a b e (inl r) v =
    let x = resolved r.spelling r.symbol in
    no_var r.kind (λ K. VarThere x (declared_one K x r.init ▸ none) (expression_statement r.init ▸ none)) v (value_vars x r.init)
row_vars W p a b e (inr (inl r)) v =
    let x = resolved r.spelling r.symbol in
    no_var r.kind (λ K. VarThere x (declared_among K x r.first r.init r.last ▸ none) (declared_left K (append r.first r.last) ▸ none)) v (idle_vars x r.first r.init r.last r.unused.declared_earlier r.unused.declared_later)
row_vars W p a b e (inr (inr (inl r))) v =
    let x = resolved r.spelling r.symbol in
    let put = put_first x r.init r.head in
    let same = same_head x r.init r.head put (taken_names Let x r.symbol refl none r.init r.head (movable W.switches r.init r.moves) r.initial refl r.taken refl) in
    no_var r.kind (λ K. VarThere x (declared_among K x r.first r.init none ▸ (r.head ▸ none)) (declared_left K r.first ▸ (put ▸ none))) v (head_vars x r.first r.init r.head put r.declared_earlier (declared_other x declared.Hoisted put (taken_unnamed x r.init r.head r.taken r.initial)) same)
row_vars W p a b e (inr (inr (inr r))) v =
    let x = resolved r.spelling r.symbol in
    no_var r.kind (λ K. VarThere x (declared_among K x r.first r.init (declarator r.binds r.value ▸ r.last) ▸ none) (declaration K (append r.first (declarator r.binds (put_first x r.init r.value) ▸ r.last)) ▸ none)) v (next_vars x r.first r.init r.binds r.value (put_first x r.init r.value) r.last r.declared_earlier r.other r.declared_later)

-- ---- the list

is_reading : (v : Use) → is_read v ≡ true → Read ≡ v
is_reading Read e = refl
is_reading v e = absurd (cc e)

-- statements that lose a name, whatever they mean
pub record Losing (a b : Trees) : Type 0 where
  pub spelling : List ℕ
  pub symbol : ℕ
  pub before : Trees
  pub after : Trees
  pub d : Trees
  pub w : Trees
  pub leaves : LeavesThere (resolved spelling symbol) d w
  pub declares : DeclaresThere (resolved spelling symbol) d w
  pub earlier : any_names (resolved spelling symbol) before ≡ false
  pub later : any_names (resolved spelling symbol) after ≡ false
  pub unmentioned : AllUnmentioned (record { name = resolved spelling symbol; hoists = false }) (append before (append w after))
  pub fits : (o : Depth) (strict : Bool) → fill strict (each (item_in o)) a ≡ true → fill strict (each (item_in o)) b ≡ true
  pub read_is : a ≡ append before (append d after)
  pub written_is : b ≡ append before (append w after)

abbrev pub of_stretch : (W : VariableSet) (p : Tree) (a b : Trees) → Stretch W p a b → Losing a b
of_stretch W p a b t = record {
  spelling = t.spelling;
  symbol = t.symbol;
  before = t.before;
  after = t.after;
  d = t.d;
  w = t.w;
  leaves = t.loses.leaves;
  declares = t.loses.declares;
  earlier = t.earlier;
  later = t.later;
  unmentioned = none_mention W p a b t;
  fits = list_fits p a b t;
  read_is = t.read_is;
  written_is = t.written_is;
}

module _ (a b : Trees) (t : Losing a b) (v : VarThere (resolved t.spelling t.symbol) t.d t.w) where
  abbrev x : Name
  x = resolved t.spelling t.symbol

  abbrev around : Trees → Trees
  around ts = append t.before (append ts t.after)

  all_around : (q : Declared) (ts : Trees) → all_names q (around ts) ≡ all_names q t.before ++ (all_names q ts ++ all_names q t.after)
  all_around q ts = all_both q t.before (append ts t.after) ∙ ap (λ xs. all_names q t.before ++ xs) (all_both q ts t.after)

  hoisted_around : (ts : Trees) (xs ys : List Name) → all_names declared.Hoisted ts ≡ xs ++ ys → names_of declared.Hoisted (listed (around ts)) ≡ (all_names declared.Hoisted t.before ++ xs) ++ (ys ++ all_names declared.Hoisted t.after)
  unfolding names_of
  hoisted_around ts xs ys e =
      let f = all_names declared.Hoisted t.before in
      let g = all_names declared.Hoisted t.after in
      all_around declared.Hoisted ts ∙ ap (λ zs. f ++ (zs ++ g)) e ∙ ap (λ zs. f ++ zs) (append_assoc xs ys g) ∙ sym (append_assoc f xs (ys ++ g))

  lexical_around : names_of declared.Lexical (listed (around t.w)) ≡ names_of declared.Lexical (listed (around t.d))
  unfolding names_of
  lexical_around = all_around declared.Lexical t.w ∙ ap (λ xs. all_names declared.Lexical t.before ++ (xs ++ all_names declared.Lexical t.after)) v.lexical ∙ sym (all_around declared.Lexical t.d)

  no_loop : (ts us : Trees) → is_loop (listed ts) ≡ is_loop (listed us)
  unfolding is_loop
  no_loop ts us = refl

  nowhere : Unmentioned (record { name = x; hoists = false }) (listed (around t.w))
  unfolding Unmentioned
  nowhere = (tt, t.unmentioned)

  clash_around : (o : Bool) → NoMoreClash (as_body o (listed (around t.w))) (as_body o (listed (around t.d)))
  clash_around o =
      let f = all_as_body o t.before in
      let g = all_as_body o t.after in
      let both = λ (ts : Trees). declared_append o t.before (append ts t.after) ∙ ap (λ ds. f ++ ds) (declared_append o ts t.after) in
      subst (λ ds. NoMoreClash (as_body o (listed (around t.w))) ds) (sym (both t.d))
      (subst (λ ds. NoMoreClash ds (f ++ (all_as_body o t.d ++ g))) (sym (both t.w))
      (no_more_both f f (all_as_body o t.d ++ g) (all_as_body o t.w ++ g) (no_more_same f f refl)
      (no_more_both (all_as_body o t.d) (all_as_body o t.w) g g (t.declares.clash o) (no_more_same g g refl))))

  items_fit : (strict : Bool) (o : Depth) → fill strict (each (item_in o)) (around t.d) ≡ true → fill strict (each (item_in o)) (around t.w) ≡ true
  items_fit strict o e = sym (ap (fill strict (each (item_in o))) t.written_is) ∙ t.fits o strict (ap (fill strict (each (item_in o))) t.read_is ∙ e)

  pub list_keeps : Keeping t.spelling t.symbol way.Statements (listed a) (listed b)
  list_keeps =
      let l = t.leaves in
      subst (λ ts. Keeping t.spelling t.symbol way.Statements (listed ts) (listed b)) (sym t.read_is)
      (subst (λ ts. Keeping t.spelling t.symbol way.Statements (listed (around t.d)) (listed ts)) (sym t.written_is)
      (record {
        label = refl;
        missing = λ f. refl;
        lexical = lexical_around;
        first = all_names declared.Hoisted t.before ++ v.first;
        last = v.last ++ all_names declared.Hoisted t.after;
        hoisted = hoisted_around t.d v.first (x ∷ v.last) v.names;
        left = hoisted_around t.w v.first v.last v.left;
        others_first = other_both x (all_names declared.Hoisted t.before) v.first (all_other x declared.Hoisted t.before t.earlier) v.others_first;
        others_last = other_both x v.last (all_names declared.Hoisted t.after) v.others_last (all_other x declared.Hoisted t.after t.later);
        loop = no_loop (around t.w) (around t.d);
        inner = list_inner x t.before t.after t.d t.w l;
        scoped = λ u env f. subst (λ u. Scoped u env (listed (around t.d)) → Scoped u env (listed (around t.w))) (is_reading u f) (list_scoped x t.before t.after t.d t.w l env);
        unmentioned = nowhere;
        symbols = λ u y f. subst (λ u. times y (declared_in u (listed (around t.w))) ≤ times y (declared_in u (listed (around t.d)))) (is_reading u f) (list_symbols x t.before t.after t.d t.w l y);
        numbered = list_numbers x t.before t.after t.d t.w l;
        once = list_once x t.before t.after t.d t.w l [];
        targets = λ g. list_targets x t.before t.after t.d t.w l g [];
        framed = λ all. stretched Any (HasFrames all) (frames_local all) t.before t.after t.d t.w (l.framed all);
        bodied = λ all r. stretched Any (HasBodies all r) (bodies_local all r) t.before t.after t.d t.w (l.bodied all r);
        fixed = λ y j. stretched Any (FixedBy y j) (fixed_local y j) t.before t.after t.d t.w (l.fixed y j);
        fixed_back = λ y j o. stretched Any (FixedBy y j) (fixed_local y j) t.before t.after t.w t.d (l.fixed_back y j o);
        declares = λ all. stretched Any (Declares all) (declares_local all) t.before t.after t.d t.w (l.declares all);
        clash = clash_around;
        block = λ w. absurd (cc w);
        fits_there = λ strict c m o e. items_fit strict o e;
      }))
