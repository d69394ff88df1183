-- A `var` in its place, in no list or at the beginning of a `for`, of which a declarator reads the name of the one before: what is kept where that goes.
use Rattle.std.specs.Prelude.{ℕ, ◌<◌, ◌≡◌, refl, not, Bool, true, false, List, [], None}
use Rattle.std.proofs.Common.{ap, ◌∙◌, sym, subst, subst₂, inr, arith, true≢false}
use Rattle.mini_model.specs.declared.kind.VariableDeclarationKind.{VariableDeclarationKind}
use Rattle.mini_model.specs.declared.kind.VariableDeclarationKind.TheVariants.{Var, Let, Const}
use Rattle.mini_model.specs.declared.name.Name.{Name}
use Rattle.mini_model.specs.declared.place.Position.{Position}
use Rattle.mini_model.specs.declared.shape.Shape.TheVariants as shape
use Rattle.mini_model.specs.Tree.{Tree, Trees, node, none, ◌▸◌, listed, child_or_absent}
use Rattle.mini_model.specs.Paths.{append}
use Rattle.mini_model.specs.Weight.{outlines, weight}
use Rattle.mini_accept.specs.WellShaped.{Depth, nested, an_init, one_or_absent, each, fits, fill}
use Rattle.mini_laws.specs.Congruence.{Avoids, ReadAlike}
use Rattle.mini_laws.specs.Demand.{Stat}
use Rattle.mini_laws.specs.Naming.{is_lexical, summary}
use Rattle.mini_laws.specs.Same.{Same}
use Rattle.mini_laws.specs.State.{Environment}
use Rattle.mini_laws.specs.Substitution.{alone}
use Rattle.mini_laws.specs.Value.{Declared, VariableSet}
use Rattle.mini_kept.specs.Without.{Unseen}
use Rattle.mini_rows.proofs.Sunk.{value_passed}
use Rattle.mini_rows.specs.declared.inside.Way.TheVariants as way
use Rattle.mini_rows.specs.Declarations.{binding, declarator}
use Rattle.mini_rows.specs.Inside.{HeadNextEnd}
use Rattle.mini_rows.specs.Lists.{block, declaration}
use Rattle.mini_rows.specs.Switches.{Liberties}
use Rattle.mini_rows.specs.Unused.{resolved, names, any_names, declared_among, is_first, put_first, Row71Next, BlockRow}
use Rattle.mini_rows.proofs.DeclaredKept.{none_after}
use Rattle.mini_rows.proofs.InsideEnds.{is_simple, Only, only, some_there, held_keeps, heading_keeps}
use Rattle.mini_rows.proofs.InsideKept.{Keeping}
use Rattle.mini_rows.proofs.InsideNames.{VarThere, next_vars, row_vars}
use Rattle.mini_rows.proofs.ListShapes.{init_declares, declaration_anywhere}
use Rattle.mini_rows.proofs.NextKept.{next_leaves, next_declares}
use Rattle.mini_rows.proofs.NextMeaning.{next_read, next_avoids}
use Rattle.mini_rows.proofs.OneDeclaration.{one_same, one_alike}
use Rattle.mini_rows.proofs.SingleFits.{MayStand}
use Rattle.mini_rows.proofs.SingleWeights.{next_falls}
use Rattle.mini_rows.proofs.UnusedKept.{LeavesThere, DeclaresThere}
use Rattle.mini_rows.proofs.UnusedLawful.{next_fits}
use Rattle.mini_rows.proofs.UnusedMeaning.{read_alone, list_read, movable}
use Rattle.mini_rows.proofs.UnusedStretches.{item_in, declaration_in, one_fits, Loses, Stretch, stretch, row_stretch}
use Rattle.mini_rows.proofs.UnusedWeights.{own_for}
use Rattle.mini_terms.specs.Reading.{is_plain_part}

pub record ReadNext (s : List ℕ) (k : ℕ) (n w : Tree) : Type 0 where
  pub first : Trees
  pub init : Tree
  pub binds : Tree
  pub value : Tree
  pub last : Trees
  pub moves : is_plain_part init ≡ true
  pub once : is_first (resolved s k) false value ≡ true
  pub stands : MayStand (resolved s k) init value
  pub other : names (resolved s k) binds ≡ false
  pub earlier : any_names (resolved s k) first ≡ false
  pub initial : names (resolved s k) init ≡ false
  pub later : any_names (resolved s k) last ≡ false
  pub shape : n ≡ declared_among Var (resolved s k) first init (declarator binds value ▸ last)
  pub written : w ≡ declaration Var (append first (declarator binds (put_first (resolved s k) init value) ▸ last))

module _ (s : List ℕ) (k : ℕ) (n w : Tree) (r : ReadNext s k n w) where
  abbrev x : Name
  x = resolved s k

  abbrev D : VariableSet
  D = alone (Declared k)

  abbrev these : Trees
  these = append r.first (declarator (binding x) r.init ▸ (declarator r.binds r.value ▸ r.last))

  abbrev those : Trees
  those = append r.first (declarator r.binds (put_first x r.init r.value) ▸ r.last)

  abbrev d : Tree
  d = declaration Var these

  abbrev v : Tree
  v = declaration Var those

  pub next_simple : is_simple n ≡ true
  next_simple = ap is_simple r.shape

  pub next_simple_left : is_simple w ≡ true
  next_simple_left = ap is_simple r.written

  -- ---- what it keeps

  leaves : LeavesThere x (d ▸ none) (v ▸ none)
  leaves = next_leaves Var x k refl r.first r.init r.binds r.value r.last r.once r.earlier r.initial r.other r.later r.moves

  declares : DeclaresThere x (d ▸ none) (v ▸ none)
  declares = next_declares Var x k refl r.first r.init r.binds r.value r.last r.once r.earlier r.initial r.other r.later

  vars : VarThere x (d ▸ none) (v ▸ none)
  vars = next_vars x r.first r.init r.binds r.value (put_first x r.init r.value) r.last r.earlier r.other r.later

  in_list : (o : Depth) (strict : Bool) → fill strict (each (item_in o)) (d ▸ none) ≡ true → fill strict (each (item_in o)) (v ▸ none) ≡ true
  in_list o strict = one_fits o strict d v (next_fits strict Var x r.first r.init r.binds r.value r.last r.moves r.once r.stands) (declaration_in o strict Var these) (declaration_in o strict Var those)

  in_head : (strict : Bool) → fits strict (one_or_absent an_init) d ≡ true → fits strict (one_or_absent an_init) v ≡ true
  in_head strict e =
      init_declares strict Var those
      ∙ sym (declaration_anywhere strict nested Var those)
      ∙ next_fits strict Var x r.first r.init r.binds r.value r.last r.moves r.once r.stands (declaration_anywhere strict nested Var these ∙ sym (init_declares strict Var these) ∙ e)

  pub next_held : Keeping s k way.Held n w
  next_held = subst₂ (Keeping s k way.Held) (sym r.shape) (sym r.written) (held_keeps s k d v leaves declares vars in_list refl refl)

  pub next_heading : Keeping s k way.Head n w
  next_heading = subst₂ (Keeping s k way.Head) (sym r.shape) (sym r.written) (heading_keeps s k d v leaves declares vars in_list refl refl in_head)

  pub next_avoided : Avoids D w
  next_avoided = subst (Avoids D) (sym r.written) (next_avoids x k refl Var r.first r.init r.binds r.value r.last r.once r.earlier r.initial r.other r.later)

  -- ---- it is read alike, and means the same where a list of it does

  pub next_alike : (e : Environment) → Unseen D e → ReadAlike D e (summary n) (summary w)
  next_alike e z =
      subst₂ (λ i j. ReadAlike D e (summary i) (summary j)) (sym r.shape) (sym r.written)
      (one_alike e D Var these those (list_read e s k z none none (d ▸ none) (v ▸ none) (read_alone k d v (next_read Var s k r.first r.last r.init r.binds r.value (put_first x r.init r.value)))))

  pub next_alone : (e : Environment) (X : VariableSet) → Same e D X (Stat None) (listed (n ▸ none)) (listed (w ▸ none)) → Same e D X (Stat None) n w
  next_alone e X same =
      subst₂ (Same e D X (Stat None)) (sym r.shape) (sym r.written)
      (one_same e D Var X these those (subst₂ (λ i j. Same e D X (Stat None) (listed (i ▸ none)) (listed (j ▸ none))) r.shape r.written same))

  -- ---- a `for` that begins with it is lighter

  pub next_lighter : (rest : Trees) (p : Position) → weight p (node shape.ForStatement [] 0 (w ▸ rest)) < weight p (node shape.ForStatement [] 0 (n ▸ rest))
  next_lighter rest p =
      subst₂ (λ i j. weight p (node shape.ForStatement [] 0 (j ▸ rest)) < weight p (node shape.ForStatement [] 0 (i ▸ rest))) (sym r.shape) (sym r.written)
      (omega (arith, own_for p (outlines (v ▸ rest)) (outlines (d ▸ rest)), next_falls Var s k r.first r.init r.binds r.value r.last r.moves r.once))

-- ---- as the row says of what a `for` begins with

pub only_var : (K : VariableDeclarationKind) → not (is_lexical K) ≡ true → K ≡ Var
only_var Var v = refl
only_var Let v = absurd (true≢false (sym v))
only_var Const v = absurd (true≢false (sym v))

module _ (W : Liberties) (o : Trees) (n w : Tree) (r : HeadNextEnd W o n w) where
  abbrev q : Row71Next W (block (listed o ▸ (n ▸ none))) (block (listed o ▸ (w ▸ none)))
  q = r.row

  abbrev as_row : BlockRow W (block (listed o ▸ (n ▸ none))) (block (listed o ▸ (w ▸ none)))
  as_row = inr (inr (inr q))

  abbrev t : Stretch W.writable (listed o) (n ▸ none) (w ▸ none)
  t = row_stretch W (listed o) (n ▸ none) (w ▸ none) refl as_row

  there : Only t.before t.d t.after n
  there = only t.before t.d t.after n (some_there (resolved t.spelling t.symbol) t.d t.w (row_vars W (listed o) (n ▸ none) (w ▸ none) refl as_row r.var)) t.read_is

  left_there : t.w ≡ w ▸ none
  left_there = sym (none_after t.w) ∙ sym (t.written_is ∙ (λ i. append (there.nothing_before i) (append t.w (there.nothing_after i))))

  pub heading_outside : any_names (resolved q.spelling q.symbol) o ≡ false
  unfolding row_stretch stretch
  heading_outside = t.outside

  pub heading_loses : Loses W.writable q.spelling q.symbol (n ▸ none) (w ▸ none)
  unfolding row_stretch stretch
  heading_loses = subst₂ (Loses W.writable q.spelling q.symbol) there.these left_there t.loses

  pub heading_next : ReadNext q.spelling q.symbol n w
  unfolding row_stretch stretch
  heading_next =
      let x = resolved q.spelling q.symbol in
      let kind_is = only_var q.kind r.var in
      record {
        first = q.first;
        init = q.init;
        binds = q.binds;
        value = q.value;
        last = q.last;
        moves = movable W.switches q.init q.moves;
        once = q.once;
        stands = inr (value_passed x q.init q.value q.passed);
        other = q.other;
        earlier = q.declared_earlier;
        initial = q.initial;
        later = q.declared_later;
        shape = ap (λ ts. child_or_absent ts 0) (sym there.these) ∙ ap (λ K. declared_among K x q.first q.init (declarator q.binds q.value ▸ q.last)) kind_is;
        written = ap (λ ts. child_or_absent ts 0) (sym left_there) ∙ ap (λ K. declaration K (append q.first (declarator q.binds (put_first x q.init q.value) ▸ q.last))) kind_is;
      }
