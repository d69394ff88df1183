-- A `var` in no list, and one that a `for` begins with, without a name that nothing else mentions: what each keeps.
use Rattle.std.specs.Prelude.{ℕ, ◌≤◌, ◌≡◌, refl, Bool, true, false, List, [], ◌∷◌, ◌++◌, None}
use Rattle.std.proofs.Common.{ap, ◌∙◌, sym, subst, subst₂, inl, inr, true≢false, arith}
use Rattle.std.proofs.lemmas.List.{append-nil}
use Rattle.mini_model.specs.declared.kind.VariableDeclarationKind.TheVariants.{Var}
use Rattle.mini_model.specs.declared.name.Name.{Name}
use Rattle.mini_model.specs.declared.shape.Shape.{Shape}
use Rattle.mini_model.specs.declared.shape.Shape.TheVariants as shape
use Rattle.mini_model.specs.Tree.{Tree, Trees, node, none, ◌▸◌, shape_of, count, child_or_absent, is_absent, expression_statement}
use Rattle.mini_model.specs.Paths.{append}
use Rattle.mini_accept.specs.WellShaped.{Depth, a_statement, a_block, an_init, one, one_or_absent, each, fits, fill}
use Rattle.mini_laws.specs.declared.names.Declared.TheVariants as declared
use Rattle.mini_laws.specs.declared.names.Use.{Use}
use Rattle.mini_laws.specs.declared.names.Use.TheVariants.{Read, Alone}
use Rattle.mini_laws.specs.Congruence.{Avoids}
use Rattle.mini_laws.specs.DeclaredNames.{names_of, all_names, has_inner}
use Rattle.mini_laws.specs.Early.{label_by, is_loop}
use Rattle.mini_laws.specs.Resolved.{Environment}
use Rattle.mini_laws.specs.Scoped.{Scoped, Unmentioned}
use Rattle.mini_laws.specs.Scopes.{is_alone}
use Rattle.mini_laws.specs.Substitution.{alone}
use Rattle.mini_laws.specs.Symbols.{declared as declared_in, times}
use Rattle.mini_laws.specs.Value.{Declared, VariableSet}
use Rattle.mini_kept.specs.KeepsNames.{is_read}
use Rattle.mini_kept.specs.SameNames.{NoMoreClash}
use Rattle.mini_kept.proofs.Bools.{left, both}
use Rattle.mini_kept.proofs.Expressions.{refused_here}
use Rattle.mini_kept.proofs.Unplaced.{as_body}
use Rattle.mini_node.specs.Kinds.{is_listed_shape}
use Rattle.mini_rows.specs.Declarations.{declarator}
use Rattle.mini_rows.specs.declared.inside.Way.TheVariants as way
use Rattle.mini_rows.specs.Inside.{declares_var, HeadEnd}
use Rattle.mini_rows.specs.Lists.{block, declaration, is_unscoped}
use Rattle.mini_rows.specs.Unused.{resolved, declared_one, declared_among, declared_left, head_left, put_first, BlockRow}
use Rattle.mini_rows.specs.Switches.{Liberties}
use Rattle.mini_rows.proofs.ArrangedTrees.{both_same, itself}
use Rattle.mini_rows.proofs.BranchInside.{no_lexical, same_scoped}
use Rattle.mini_rows.proofs.StatementUses.{same_symbols}
use Rattle.mini_rows.proofs.DeclaredKept.{none_after, idle_leaves, idle_declares}
use Rattle.mini_rows.proofs.ForHeadLawful.{left_leaves, head_fits}
use Rattle.mini_rows.proofs.InsideKept.{Keeping, statement_slot}
use Rattle.mini_rows.proofs.InsideNames.{VarThere, no_var, idle_vars, row_vars}
use Rattle.mini_rows.proofs.UnusedKept.{LeavesThere, DeclaresThere}
use Rattle.mini_rows.proofs.UnusedLawful.{idle_vanishes}
use Rattle.mini_rows.proofs.UnusedMeaning.{left_avoids}
use Rattle.mini_rows.proofs.UnusedNames.{all_avoided}
use Rattle.mini_rows.proofs.UnusedStretches.{item_in, Loses, stretch, row_stretch}

-- ---- a statement of which no loop and no label is, and which declares `var`s alone

abbrev pub is_simple_shape : Shape → Bool
is_simple_shape shape.ExpressionStatement = true
is_simple_shape shape.EmptyStatement = true
is_simple_shape (shape.VariableDeclaration Var) = true
is_simple_shape h = false

abbrev pub is_simple : Tree → Bool
is_simple t = is_simple_shape (shape_of t)

pub unscoped : (t : Tree) → is_simple t ≡ true → is_unscoped t ≡ true
unscoped (node shape.ExpressionStatement xs n ts) e = refl
unscoped (node shape.EmptyStatement xs n ts) e = refl
unscoped (node (shape.VariableDeclaration Var) xs n ts) e = refl
unscoped (node h xs n ts) e = absurd (true≢false (sym e))

unlabelled : (t : Tree) → is_simple t ≡ true → label_by (shape_of t) ≡ None
unlabelled (node shape.ExpressionStatement xs n ts) e = refl
unlabelled (node shape.EmptyStatement xs n ts) e = refl
unlabelled (node (shape.VariableDeclaration Var) xs n ts) e = refl
unlabelled (node h xs n ts) e = absurd (true≢false (sym e))

there : (t : Tree) → is_simple t ≡ true → is_absent t ≡ false
there (node shape.ExpressionStatement xs n ts) e = refl
there (node shape.EmptyStatement xs n ts) e = refl
there (node (shape.VariableDeclaration Var) xs n ts) e = refl
there (node h xs n ts) e = absurd (true≢false (sym e))

no_loop : (t : Tree) → is_simple t ≡ true → is_loop t ≡ false
unfolding is_loop
no_loop (node shape.ExpressionStatement xs n ts) e = refl
no_loop (node shape.EmptyStatement xs n ts) e = refl
no_loop (node (shape.VariableDeclaration Var) xs n ts) e = refl
no_loop (node h xs n ts) e = absurd (true≢false (sym e))

as_one : (strict : Bool) (o : Depth) (t : Tree) → is_simple t ≡ true → fits strict (one_or_absent (a_statement o)) t ≡ fits strict (one (a_statement o)) t
as_one strict o (node shape.ExpressionStatement xs n ts) e = refl
as_one strict o (node shape.EmptyStatement xs n ts) e = refl
as_one strict o (node (shape.VariableDeclaration Var) xs n ts) e = refl
as_one strict o (node h xs n ts) e = absurd (true≢false (sym e))

no_block : (strict m : Bool) (o : Depth) (t : Tree) → is_simple t ≡ true → fits strict (statement_slot true m o) t ≡ true → ⊥
no_block strict false o (node shape.ExpressionStatement xs n ts) e f = refused_here strict (one a_block) shape.ExpressionStatement xs n ts refl f
no_block strict true o (node shape.ExpressionStatement xs n ts) e f = refused_here strict (one_or_absent a_block) shape.ExpressionStatement xs n ts refl f
no_block strict false o (node shape.EmptyStatement xs n ts) e f = refused_here strict (one a_block) shape.EmptyStatement xs n ts refl f
no_block strict true o (node shape.EmptyStatement xs n ts) e f = refused_here strict (one_or_absent a_block) shape.EmptyStatement xs n ts refl f
no_block strict false o (node (shape.VariableDeclaration Var) xs n ts) e f = refused_here strict (one a_block) (shape.VariableDeclaration Var) xs n ts refl f
no_block strict true o (node (shape.VariableDeclaration Var) xs n ts) e f = refused_here strict (one_or_absent a_block) (shape.VariableDeclaration Var) xs n ts refl f
no_block strict m o (node h xs n ts) e f = absurd (true≢false (sym e))

-- ---- what a row reads first, and what it writes for that

left_simple : (ts : Trees) → is_simple (declared_left Var ts) ≡ true
left_simple none = refl
left_simple (t ▸ ts) = refl

record FirstSimple (d w : Trees) : Type 0 where
  read : is_simple (child_or_absent d 0) ≡ true
  written : is_simple (child_or_absent w 0) ≡ true

row_simple : (W : Liberties) (p : Tree) (a b : Trees) (e : is_listed_shape (shape_of p) ≡ true) (r : BlockRow W (block (p ▸ a)) (block (p ▸ b))) → declares_var r ≡ true → let t = row_stretch W p a b e r in FirstSimple t.d t.w
unfolding row_stretch stretch
row_simple W p a b e (inl r) v =
    let x = resolved r.spelling r.symbol in
    no_var r.kind (λ K. FirstSimple (declared_one K x r.init ▸ none) (expression_statement r.init ▸ none)) v (record { read = refl; written = refl })
row_simple W p a b e (inr (inl r)) v =
    let x = resolved r.spelling r.symbol in
    no_var r.kind (λ K. FirstSimple (declared_among K x r.first r.init r.last ▸ none) (declared_left K (append r.first r.last) ▸ none)) v (record { read = refl; written = left_simple (append r.first r.last) })
row_simple W p a b e (inr (inr (inl r))) v =
    let x = resolved r.spelling r.symbol in
    no_var r.kind (λ K. FirstSimple (declared_among K x r.first r.init none ▸ (r.head ▸ none)) (declared_left K r.first ▸ (put_first x r.init r.head ▸ none))) v (record { read = refl; written = left_simple r.first })
row_simple W p a b e (inr (inr (inr r))) v =
    let x = resolved r.spelling r.symbol in
    no_var r.kind (λ K. FirstSimple (declared_among K x r.first r.init (declarator r.binds r.value ▸ r.last) ▸ none) (declaration K (append r.first (declarator r.binds (put_first x r.init r.value) ▸ r.last)) ▸ none)) v (record { read = refl; written = refl })

-- ---- the only statement of a list

-- where some of it goes, nothing stands beside that
pub record Only (before d after : Trees) (s : Tree) : Type 0 where
  pub nothing_before : before ≡ none
  pub these : d ≡ s ▸ none
  pub nothing_after : after ≡ none

abbrev behind : Trees → Trees
behind none = none
behind (t ▸ ts) = ts

no_more : (before d after : Trees) → (d ≡ none → ⊥) → append before (append d after) ≡ none → ⊥
no_more none none after f e = f refl
no_more none (t ▸ d) after f e = let c = ap count e in absurd (omega (arith, c))
no_more (b ▸ before) d after f e = let c = ap count e in absurd (omega (arith, c))

pub only : (before d after : Trees) (s : Tree) → (d ≡ none → ⊥) → s ▸ none ≡ append before (append d after) → Only before d after s
only none none after s f e = absurd (f refl)
only none (t ▸ none) none s f e = record { nothing_before = refl; these = sym e; nothing_after = refl }
only none (t ▸ none) (u ▸ after) s f e = let c = ap count e in absurd (omega (arith, c))
only none (t ▸ (u ▸ d)) after s f e = let c = ap count e in absurd (omega (arith, c))
only (b ▸ before) d after s f e = absurd (no_more before d after f (sym (ap behind e)))

some_name : (x : Name) (first last : List Name) → [] ≡ first ++ x ∷ last → ⊥
some_name x [] last e = cc e
some_name x (y ∷ first) last e = cc e

pub some_there : (x : Name) (d w : Trees) → VarThere x d w → d ≡ none → ⊥
unfolding names_of
some_there x d w v e = some_name x v.first v.last (sym (ap (all_names declared.Hoisted) e) ∙ v.names)

-- ---- a `var` in no list

is_it_alone : (v : Use) → is_alone v ≡ true → Alone ≡ v
is_it_alone Alone e = refl
is_it_alone v e = absurd (cc e)

is_it_read : (v : Use) → is_read v ≡ true → Read ≡ v
is_it_read Read e = refl
is_it_read v e = absurd (cc e)

cast : {A B : Type 0} → A ≡ B → A → B
cast e a = subst (λ X. X) e a

-- of one statement that loses a name
module _ (sp : List ℕ) (k : ℕ) (s w : Tree) (l : LeavesThere (resolved sp k) (s ▸ none) (w ▸ none)) (declares : DeclaresThere (resolved sp k) (s ▸ none) (w ▸ none)) (vars : VarThere (resolved sp k) (s ▸ none) (w ▸ none)) (in_list : (o : Depth) (strict : Bool) → fill strict (each (item_in o)) (s ▸ none) ≡ true → fill strict (each (item_in o)) (w ▸ none) ≡ true) (f : is_simple s ≡ true) (g : is_simple w ≡ true) where
  statement_fits : (strict b m : Bool) (o : Depth) → fits strict (statement_slot b m o) s ≡ true → fits strict (statement_slot b m o) w ≡ true
  statement_fits strict false false o e = left (fits strict (item_in o) w) true (in_list o strict (both (fits strict (item_in o) s) true e refl))
  statement_fits strict false true o e = as_one strict o w g ∙ left (fits strict (item_in o) w) true (in_list o strict (both (fits strict (item_in o) s) true (sym (as_one strict o s f) ∙ e) refl))
  statement_fits strict true m o e = absurd (no_block strict m o s f e)

  alone_scoped : (v : Use) (env : Environment) → is_alone v ≡ true → Scoped v env s → Scoped v env w
  alone_scoped v env e = subst (λ u. Scoped u env s → Scoped u env w) (is_it_alone v e) (λ a. cast (sym (same_scoped w (unscoped w g) env)) (l.scoped env (cast (same_scoped s (unscoped s f) env) a, tt)).0)

  held_clash : (o : Bool) → NoMoreClash (as_body o w) (as_body o s)
  held_clash o = subst (NoMoreClash (as_body o w)) (append-nil (as_body o s)) (subst (λ es. NoMoreClash es (as_body o s ++ [])) (append-nil (as_body o w)) (declares.clash o))

  pub held_keeps : Keeping sp k way.Held s w
  unfolding names_of Unmentioned
  held_keeps = record {
    label = unlabelled w g ∙ sym (unlabelled s f);
    missing = λ z. there w g ∙ sym (there s f);
    lexical = no_lexical w (unscoped w g) ∙ sym (no_lexical s (unscoped s f));
    first = vars.first;
    last = vars.last;
    hoisted = sym (append-nil (names_of declared.Hoisted s)) ∙ vars.names;
    left = sym (append-nil (names_of declared.Hoisted w)) ∙ vars.left;
    others_first = vars.others_first;
    others_last = vars.others_last;
    loop = no_loop w g ∙ sym (no_loop s f);
    inner = both_same (has_inner s) (has_inner w) (l.inner (has_inner s) (itself (has_inner s), tt)).0 (l.inner_back (has_inner w) (itself (has_inner w), tt)).0;
    scoped = λ v env z. alone_scoped v env z;
    unmentioned = l.unmentioned.0;
    symbols = λ v y z. let fewer = l.symbols y in omega (arith, fewer, ap (times y) (same_symbols w (unscoped w g) v Read), ap (times y) (same_symbols s (unscoped s f) v Read));
    numbered = λ n. let fewer = l.numbered n in omega (arith, fewer);
    once = λ a. (l.once (a, tt)).0;
    targets = λ h a. (l.targets h (a, tt)).0;
    framed = λ all a. (l.framed all (a, tt)).0;
    bodied = λ all r a. (l.bodied all r (a, tt)).0;
    fixed = λ y j a. (l.fixed y j (a, tt)).0;
    fixed_back = λ y j o a. (l.fixed_back y j o (a, tt)).0;
    declares = λ all a. (l.declares all (a, tt)).0;
    clash = held_clash;
    block = λ z. absurd (cc z);
    fits_there = statement_fits;
  }

  -- so it does where a `for` begins with it
  pub heading_keeps : ((strict : Bool) → fits strict (one_or_absent an_init) s ≡ true → fits strict (one_or_absent an_init) w ≡ true) → Keeping sp k way.Head s w
  heading_keeps h =
      let held = held_keeps in
      record {
        label = held.label;
        missing = λ z. absurd (z refl);
        lexical = held.lexical;
        first = held.first;
        last = held.last;
        hoisted = held.hoisted;
        left = held.left;
        others_first = held.others_first;
        others_last = held.others_last;
        loop = held.loop;
        inner = held.inner;
        scoped = λ v env z. subst (λ v. Scoped v env s → Scoped v env w) (is_it_read v z) (λ a. (l.scoped env (a, tt)).0);
        unmentioned = held.unmentioned;
        symbols = λ v y z. subst (λ v. times y (declared_in v w) ≤ times y (declared_in v s)) (is_it_read v z) (let fewer = l.symbols y in omega (arith, fewer));
        numbered = held.numbered;
        once = held.once;
        targets = held.targets;
        framed = held.framed;
        bodied = held.bodied;
        fixed = held.fixed;
        fixed_back = held.fixed_back;
        declares = held.declares;
        clash = held.clash;
        block = λ z. absurd (cc z);
        fits_there = λ strict b m o e. h strict e;
      }

-- what a row says of one statement
pub record HeldRow (W : VariableSet) (s w : Tree) : Type 0 where
  pub spelling : List ℕ
  pub symbol : ℕ
  pub loses : Loses W spelling symbol (s ▸ none) (w ▸ none)
  pub vars : VarThere (resolved spelling symbol) (s ▸ none) (w ▸ none)
  pub simple : is_simple s ≡ true
  pub simple_left : is_simple w ≡ true

pub held_row : (W : Liberties) (q s w : Tree) (e : is_listed_shape (shape_of q) ≡ true) (r : BlockRow W (block (q ▸ (s ▸ none))) (block (q ▸ (w ▸ none)))) → declares_var r ≡ true → (h : HeldRow W.writable s w) × (let t = row_stretch W q (s ▸ none) (w ▸ none) e r in (h.spelling ≡ t.spelling) × (h.symbol ≡ t.symbol))
held_row W q s w e r is_var =
    let t = row_stretch W q (s ▸ none) (w ▸ none) e r in
    let x = resolved t.spelling t.symbol in
    let v = row_vars W q (s ▸ none) (w ▸ none) e r is_var in
    let simple = row_simple W q (s ▸ none) (w ▸ none) e r is_var in
    let o = only t.before t.d t.after s (some_there x t.d t.w v) t.read_is in
    let those : t.w ≡ w ▸ none = sym (none_after t.w) ∙ sym (t.written_is ∙ (λ i. append (o.nothing_before i) (append t.w (o.nothing_after i)))) in (
      record {
        spelling = t.spelling;
        symbol = t.symbol;
        loses = subst₂ (Loses W.writable t.spelling t.symbol) o.these those t.loses;
        vars = subst₂ (VarThere x) o.these those v;
        simple = sym (ap (λ ts. is_simple (child_or_absent ts 0)) o.these) ∙ simple.read;
        simple_left = sym (ap (λ ts. is_simple (child_or_absent ts 0)) those) ∙ simple.written;
      },
      (refl, refl),
    )

-- one statement is left of it

row_left : (W : Liberties) (p : Tree) (a b : Trees) (e : is_listed_shape (shape_of p) ≡ true) (r : BlockRow W (block (p ▸ a)) (block (p ▸ b))) → let t = row_stretch W p a b e r in (count t.d ≡ 1) → (v : Tree) × (t.w ≡ v ▸ none)
unfolding row_stretch stretch
row_left W p a b e (inl r) c = (_, refl)
row_left W p a b e (inr (inl r)) c = (_, refl)
row_left W p a b e (inr (inr (inl r))) c = absurd (omega (arith, c))
row_left W p a b e (inr (inr (inr r))) c = (_, refl)

pub single_left : (W : Liberties) (q s : Tree) (us : Trees) (e : is_listed_shape (shape_of q) ≡ true) (r : BlockRow W (block (q ▸ (s ▸ none))) (block (q ▸ us))) → declares_var r ≡ true → (v : Tree) × (us ≡ v ▸ none)
single_left W q s us e r is_var =
    let t = row_stretch W q (s ▸ none) us e r in
    let x = resolved t.spelling t.symbol in
    let v = row_vars W q (s ▸ none) us e r is_var in
    let o = only t.before t.d t.after s (some_there x t.d t.w v) t.read_is in
    let (left_there, is) = row_left W q (s ▸ none) us e r (ap count o.these) in
    (left_there, t.written_is ∙ (λ i. append (o.nothing_before i) (append (is i) (o.nothing_after i))))

-- ---- what a `for` begins with

head_label : (ts : Trees) → label_by (shape_of (head_left Var ts)) ≡ None
head_label none = refl
head_label (t ▸ ts) = refl

head_loop : (ts : Trees) → is_loop (head_left Var ts) ≡ false
unfolding is_loop
head_loop none = refl
head_loop (t ▸ ts) = refl

head_lexical : (ts : Trees) → names_of declared.Lexical (head_left Var ts) ≡ []
unfolding names_of
head_lexical none = refl
head_lexical (t ▸ ts) = refl

head_hoisted : (ts : Trees) → names_of declared.Hoisted (head_left Var ts) ≡ names_of declared.Hoisted (declared_left Var ts)
unfolding names_of
head_hoisted none = refl
head_hoisted (t ▸ ts) = refl

head_as_body : (o : Bool) (ts : Trees) → as_body o (declared_left Var ts) ≡ as_body o (head_left Var ts)
unfolding names_of
head_as_body o none = refl
head_as_body o (t ▸ ts) = refl

head_avoids : (D : VariableSet) (ts : Trees) → Avoids D (declared_left Var ts) → Avoids D (head_left Var ts)
head_avoids D none a = (tt, tt)
head_avoids D (t ▸ ts) a = a

module _ (W : Liberties) (o : Trees) (n w : Tree) (r : HeadEnd W o n w) where
  abbrev x : Name
  x = resolved r.spelling r.symbol

  abbrev d : Tree
  d = declared_among Var x r.first r.init r.last

  abbrev others : Trees
  others = append r.first r.last

  abbrev v : Tree
  v = head_left Var others

  leaves : LeavesThere x (d ▸ none) (v ▸ none)
  leaves = left_leaves x Var d others (idle_leaves Var x r.symbol refl r.first r.init r.last (idle_vanishes r.init r.idle) r.declared_earlier r.declared_later)

  vars : VarThere x (d ▸ none) (declared_left Var others ▸ none)
  vars = idle_vars x r.first r.init r.last r.declared_earlier r.declared_later

  clash_there : (b : Bool) → NoMoreClash (as_body b v) (as_body b d)
  clash_there b =
      let c = (idle_declares Var x r.symbol refl r.first r.init r.last (idle_vanishes r.init r.idle) r.declared_earlier r.declared_later).clash b in
      subst (NoMoreClash (as_body b v)) (append-nil (as_body b d)) (subst (λ es. NoMoreClash es (as_body b d ++ [])) (append-nil (as_body b (declared_left Var others)) ∙ head_as_body b others) c)

  kept : Keeping r.spelling r.symbol way.Head d v
  unfolding names_of is_loop Unmentioned
  kept = record {
    label = head_label others;
    missing = λ z. absurd (z refl);
    lexical = head_lexical others;
    first = vars.first;
    last = vars.last;
    hoisted = sym (append-nil (names_of declared.Hoisted d)) ∙ vars.names;
    left = head_hoisted others ∙ sym (append-nil (names_of declared.Hoisted (declared_left Var others))) ∙ vars.left;
    others_first = vars.others_first;
    others_last = vars.others_last;
    loop = head_loop others;
    inner = both_same (has_inner d) (has_inner v) (leaves.inner (has_inner d) (itself (has_inner d), tt)).0 (leaves.inner_back (has_inner v) (itself (has_inner v), tt)).0;
    scoped = λ u env z. subst (λ u. Scoped u env d → Scoped u env v) (is_it_read u z) (λ a. (leaves.scoped env (a, tt)).0);
    unmentioned = leaves.unmentioned.0;
    symbols = λ u y z. subst (λ u. times y (declared_in u v) ≤ times y (declared_in u d)) (is_it_read u z) (let fewer = leaves.symbols y in omega (arith, fewer));
    numbered = λ m. let fewer = leaves.numbered m in omega (arith, fewer);
    once = λ a. (leaves.once (a, tt)).0;
    targets = λ h a. (leaves.targets h (a, tt)).0;
    framed = λ all a. (leaves.framed all (a, tt)).0;
    bodied = λ all u a. (leaves.bodied all u (a, tt)).0;
    fixed = λ y j a. (leaves.fixed y j (a, tt)).0;
    fixed_back = λ y j z a. (leaves.fixed_back y j z (a, tt)).0;
    declares = λ all a. (leaves.declares all (a, tt)).0;
    clash = clash_there;
    block = λ z. absurd (cc z);
    fits_there = λ strict b m z e. head_fits Var x r.first r.init r.last strict e;
  }

  pub head_keeps : Keeping r.spelling r.symbol way.Head n w
  head_keeps = subst (λ t. Keeping r.spelling r.symbol way.Head t w) (sym r.shape) (subst (Keeping r.spelling r.symbol way.Head d) (sym r.written) kept)

  pub head_avoided : Avoids (alone (Declared r.symbol)) w
  head_avoided = subst (Avoids (alone (Declared r.symbol))) (sym r.written) (head_avoids (alone (Declared r.symbol)) others (left_avoids (alone (Declared r.symbol)) Var r.first r.last (all_avoided x r.symbol refl r.first r.declared_earlier) (all_avoided x r.symbol refl r.last r.declared_later)))
