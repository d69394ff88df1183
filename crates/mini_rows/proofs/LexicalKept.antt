-- What is written in place of a statement that declares names keeps what it has to keep, and is lighter.
use Rattle.std.proofs.Common.{◌≡◌, ◌<◌, ◌≤◌, ℕ, Bool, true, false, List, [], ◌∷◌, ◌++◌, refl, sym, ap, subst, subst₂, ◌∙◌, inl, inr, arith, true≢false}
use Rattle.std.proofs.lemmas.Bool.{and_parts}
use Rattle.std.proofs.lemmas.List.{append-nil}
use Rattle.std.specs.Prelude.{Option, None, Some, ◌&&◌, not, map, if◌then◌else◌}
use Rattle.mini_model.specs.declared.name.Name.{Name}
use Rattle.mini_model.specs.declared.name.SymbolId.{SymbolId}
use Rattle.mini_model.specs.declared.kind.PropertyKind.{PropertyKind}
use Rattle.mini_model.specs.declared.place.Position.{Position}
use Rattle.mini_model.specs.declared.place.Position.TheVariants.{Stmt}
use Rattle.mini_model.specs.declared.seat.StmtSeat.{StmtSeat}
use Rattle.mini_model.specs.Tree.{Tree, Trees, none, ◌▸◌, shape_of}
use Rattle.mini_model.specs.Weight.{weight}
use Rattle.mini_laws.specs.Value.{VariableSet}
use Rattle.mini_laws.specs.declared.names.Use.TheVariants.{Read}
use Rattle.mini_laws.specs.declared.names.Declared.TheVariants as declared
use Rattle.mini_laws.specs.DeclaredNames.{all_names, is_spelled, with_name, with_names}
use Rattle.mini_laws.specs.Resolved.{Environment}
use Rattle.mini_laws.specs.Scoped.{Scoped, Unmentioned}
use Rattle.mini_laws.proofs.Drops.{dropped, moved}
use Rattle.mini_laws.specs.Naming.{summary}
use Rattle.mini_laws.specs.Bodies.{Around, bodies, arrow_kind}
use Rattle.mini_kept.specs.AlikeBodies.{BodiesKept}
use Rattle.mini_kept.specs.Frames.{frames, FramesKept}
use Rattle.mini_kept.proofs.BodyLists.{kept_itself}
use Rattle.mini_kept.proofs.FrameLists.{same_frames}
use Rattle.mini_rows.specs.Steady.{bindings, all_bindings, AroundAt, PropertyAt, LexicalRows, LexicalKeepsOwn, ReadsMore}
use Rattle.mini_rows.specs.Lexical.{is_of, is_of_by, is_of_outside, all_pass, are_held, LexicalStatement, LexicalRow, LexicalLightens}
use Rattle.mini_rows.specs.Cases.{ended}
use Rattle.mini_rows.specs.Lists.{block, for_loop}
use Rattle.mini_rows.specs.Loops.{before, Tested, always, while_true, test_of, also, Leaving, alone, or_else, unless, leaves_by, goes_by, runs_on}
use Rattle.mini_rows.specs.Unused.{names}
use Rattle.mini_rows.proofs.BranchLawful.{IsKind, Kind, kind_along, row_80_case, row_84_kind, kinds_shapes, placed_at, kept_at}
use Rattle.mini_rows.proofs.BranchWeights.{Outlined, outlined}
use Rattle.mini_rows.proofs.CaseKept.{case_bodies, case_frames}
use Rattle.mini_rows.proofs.CaseWeights.{case_lighter}
use Rattle.mini_rows.proofs.HeldNames.{pass_both, lexicals_pass}
use Rattle.mini_rows.proofs.LexicalLoops.{is_none}
use Rattle.mini_rows.proofs.LexicalMeaning.{lexical_same}
use Rattle.mini_rows.proofs.LoopKept.{loop_bodies, loop_frames}
use Rattle.mini_rows.proofs.LoopSplits.{Free}
use Rattle.mini_rows.proofs.LoopWeights.{row_84 as loop_lighter}
use Rattle.mini_rows.proofs.UnusedNames.{unmentioned}

-- ---- a test in which no name of the block stands has its names without that scope

pub with_pass : (P : Name → Bool) (seen xs : List Name) → all_pass P seen ≡ true → all_pass P xs ≡ true → all_pass P (with_names seen xs) ≡ true
unfolding with_names
with_pass P seen [] a b = a
with_pass P seen (x ∷ xs) a b = let (first, rest) = and_parts (P x) (all_pass P xs) b in with_pass P (with_name seen x) xs (by (is_spelled x.spelling seen) first) rest
  where
    by : (b : Bool) → P x ≡ true → all_pass P (if b then seen else seen ++ x ∷ []) ≡ true
    by true f = a
    by false f = pass_both P seen (x ∷ []) a (ap (λ c. c && true) f)

module _ (V : VariableSet) (x : Tree) where
  unmentioned_one : (y : Name) → is_of_outside V x y ≡ true → Unmentioned (record { name = y; hoists = false }) x
  unmentioned_one y e = let (of, free) = and_parts (is_of V y) (not (names y x)) e in by y.symbol refl of (is_none (names y x) free)
    where
      by : (s : Option SymbolId) → y.symbol ≡ s → is_of_by V s ≡ true → names y x ≡ false → Unmentioned (record { name = y; hoists = false }) x
      by None u e f = absurd (true≢false (sym e))
      by (Some s) u e f = unmentioned y s.0 u x f

  without_all : (ys : List Name) → all_pass (is_of_outside V x) ys ≡ true → (env : Environment) → Scoped Read (env ++ map (λ y. record { name = y; hoists = false }) ys) x → Scoped Read env x
  without_all [] a env r = moved Read (env ++ []) env x (append-nil env) r
  without_all (y ∷ ys) a env r =
      let (first, rest) = and_parts (is_of_outside V x y) (all_pass (is_of_outside V x) ys) a in
      without_all ys rest env (dropped Read env (map (λ y. record { name = y; hoists = false }) ys) (record { name = y; hoists = false }) x r (unmentioned_one y first))

  held_free : (ts : Trees) → are_held (is_of_outside V x) ts ≡ true → Free x ts
  held_free ts h env r = without_all (with_names [] (all_names declared.Lexical ts)) (with_pass (is_of_outside V x) [] (all_names declared.Lexical ts) refl (lexicals_pass (is_of_outside V x) ts h)) env r

-- ---- it keeps its parts

statement_kind : (V : VariableSet) (n w : Tree) → LexicalStatement V n w → Kind n w
statement_kind V n w (inl r) = kind_along n _ w _ r.shape r.written (row_80_case r.discriminant r.test r.is_ended r.statements r.stays)
statement_kind V n w (inr r) = kind_along n _ w _ r.shape r.written (row_84_kind r.init r.update r.x r.test (before r.others) r.leaving r.asked r.tested r.loose (held_free V r.x r.others r.held))

pub lexical_kind : (V : VariableSet) (p : Position) (n w : Tree) → LexicalRow V p n w → IsKind p n w
lexical_kind V (Stmt q) n w r = statement_kind V n w r
lexical_kind V p n w r = absurd r

-- ---- lighter

statement_lighter : (V : VariableSet) (q : StmtSeat) (n w : Tree) → LexicalStatement V n w → weight (Stmt q) w < weight (Stmt q) n
statement_lighter V q n w (inl r) = omega (arith, case_lighter q r.discriminant r.test r.is_ended r.statements, ap (weight (Stmt q)) r.shape, ap (weight (Stmt q)) r.written)
statement_lighter V q n w (inr r) = omega (arith, loop_lighter q r.init r.update r.x r.test (before r.others) r.leaving r.loose, ap (weight (Stmt q)) r.shape, ap (weight (Stmt q)) r.written)

row_lighter : (V : VariableSet) (p : Position) (n w : Tree) → LexicalRow V p n w → weight p w < weight p n
row_lighter V (Stmt q) n w r = statement_lighter V q n w r
row_lighter V p n w r = absurd r

statement_outlined : (V : VariableSet) (q : StmtSeat) (n w : Tree) → LexicalStatement V n w → Outlined (Stmt q) n w
statement_outlined V q n w (inl r) = outlined (Stmt q) n _ w _ r.shape r.written (record { absent = refl; items = refl; is_zero = refl; chooses = inl (λ e. e) })
statement_outlined V q n w (inr r) = outlined (Stmt q) n _ w _ r.shape r.written (record { absent = refl; items = refl; is_zero = refl; chooses = inl (λ e. e) })

row_outlined : (V : VariableSet) (p : Position) (n w : Tree) → LexicalRow V p n w → Outlined p n w
row_outlined V (Stmt q) n w r = statement_outlined V q n w r
row_outlined V p n w r = absurd r

pub lexical_lightens : LexicalLightens
lexical_lightens V = record {
  lighter = row_lighter V;
  absent = λ p n w r e. (row_outlined V p n w r).absent;
  items = λ p n w r e. (row_outlined V p n w r).items;
  is_zero = λ p n w r e. inl (row_outlined V p n w r).is_zero;
  chooses = λ p n w r e. (row_outlined V p n w r).chooses;
}

-- ---- all

statement_reads : (V : VariableSet) (n w : Tree) → LexicalStatement V n w → summary n ≡ summary w
statement_reads V n w (inl r) = ap summary r.shape ∙ sym (ap summary r.written)
statement_reads V n w (inr r) = ap summary r.shape ∙ sym (ap summary r.written)

statement_bodies : (V : VariableSet) (n w : Tree) → LexicalStatement V n w → (a : Around) → BodiesKept (bodies a n) (bodies a w)
statement_bodies V n w (inl r) a =
    subst (BodiesKept (bodies a n)) (ap (bodies a) r.shape ∙ case_bodies r.discriminant r.is_ended r.statements r.stays r.test a ∙ sym (ap (bodies a) r.written)) (kept_itself (bodies a n))
statement_bodies V n w (inr r) a = subst₂ BodiesKept (sym (ap (bodies a) r.shape)) (sym (ap (bodies a) r.written)) (loop_bodies r.init r.update r.x r.test (before r.others) r.leaving a)

statement_frames : (V : VariableSet) (n w : Tree) → LexicalStatement V n w → (k : Option PropertyKind) → FramesKept (frames k n) (frames k w)
statement_frames V n w (inl r) k = same_frames (frames k n) (frames k w) (ap (frames k) r.shape ∙ case_frames r.discriminant r.is_ended r.statements r.stays r.test ∙ sym (ap (frames k) r.written))
statement_frames V n w (inr r) k = subst₂ FramesKept (sym (ap (frames k) r.shape)) (sym (ap (frames k) r.written)) (loop_frames r.init r.update r.x r.test (before r.others) r.leaving)

-- names are declared in it as often

ended_bound : (k : ℕ) (b : Bool) (ts : Trees) → all_bindings k (ended b ts) ≡ all_bindings k ts
ended_bound k true none = refl
ended_bound k true (t ▸ ts) = omega (arith, ended_bound k true ts)
ended_bound k false ts = refl

loop_bound : (k : ℕ) (init update x : Tree) (test : Tested) (l : Leaving) (ts : Trees) → bindings k (for_loop init (also test (goes_by l x)) update (block (runs_on l ▸ ts))) ≤ bindings k (for_loop init (test_of test) update (block (leaves_by l x ▸ ts)))
loop_bound k init update x always alone ts = omega arith
loop_bound k init update x always (or_else s) ts = omega arith
loop_bound k init update x always (unless s) ts = omega arith
loop_bound k init update x (while_true t) alone ts = omega arith
loop_bound k init update x (while_true t) (or_else s) ts = omega arith
loop_bound k init update x (while_true t) (unless s) ts = omega arith

statement_bound : (V : VariableSet) (n w : Tree) → LexicalStatement V n w → (k : ℕ) → bindings k w ≤ bindings k n
statement_bound V n w (inl r) k = omega (arith, ap (bindings k) r.shape, ap (bindings k) r.written, ended_bound k r.is_ended r.statements)
statement_bound V n w (inr r) k = subst₂ (λ v u. bindings k u ≤ bindings k v) (sym r.shape) (sym r.written) (loop_bound k r.init r.update r.x r.test r.leaving r.others)

module _ (V : VariableSet) where
  -- what holds of each holds at its place
  at_place : (G : Position → Tree → Tree → Type 0) → ((q : StmtSeat) (n w : Tree) → LexicalStatement V n w → G (Stmt q) n w) → (p : Position) (n w : Tree) → LexicalRow V p n w → G p n w
  at_place G f (Stmt q) n w r = f q n w r
  at_place G f p n w r = absurd r

arrow_kinds : (V : VariableSet) (n w : Tree) → LexicalStatement V n w → arrow_kind (shape_of n) ≡ arrow_kind (shape_of w)
arrow_kinds V n w (inl r) = ap (λ t. arrow_kind (shape_of t)) r.shape ∙ sym (ap (λ t. arrow_kind (shape_of t)) r.written)
arrow_kinds V n w (inr r) = ap (λ t. arrow_kind (shape_of t)) r.shape ∙ sym (ap (λ t. arrow_kind (shape_of t)) r.written)

pub lexical_own : LexicalKeepsOwn
lexical_own V = record {
  means = λ e z p n w r q f y s t g i. lexical_same V.unshared p n w r e z.unshared q f y s t g;
  reads = at_place V.unshared (λ p n w. summary n ≡ summary w) (λ q. statement_reads V.unshared);
  kind = at_place V.unshared (λ p n w. arrow_kind (shape_of n) ≡ arrow_kind (shape_of w)) (λ q. arrow_kinds V.unshared);
  shapes = kinds_shapes (LexicalRow V.unshared) (lexical_kind V.unshared);
  names = record {
    places = λ p n w r. inl (placed_at p n w (lexical_kind V.unshared p n w r));
    pieces = λ p n w r. (kept_at p n w (lexical_kind V.unshared p n w r)).piece;
    keeps = λ p n w r. (kept_at p n w (lexical_kind V.unshared p n w r)).keeps;
  };
  fixed = λ p n w r. (kept_at p n w (lexical_kind V.unshared p n w r)).fixed;
  declared = λ p n w r. (kept_at p n w (lexical_kind V.unshared p n w r)).declared;
  bound = at_place V.unshared (λ p n w. (k : ℕ) → bindings k w ≤ bindings k n) (λ q. statement_bound V.unshared);
  bodies = at_place V.unshared (λ p n w. (a : Around) → AroundAt p a → BodiesKept (bodies a n) (bodies a w)) (λ q n w r a z. statement_bodies V.unshared n w r a);
  frames = at_place V.unshared (λ p n w. (k : Option PropertyKind) → PropertyAt p k → FramesKept (frames k n) (frames k w)) (λ q n w r k z. statement_frames V.unshared n w r k);
  lightens = lexical_lightens V.unshared;
}

-- they ask of no variable that it has a value
pub lexical_more : ReadsMore LexicalRows
lexical_more V X holds p n w r = r
