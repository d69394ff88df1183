-- 71 past names that keep their value reads a node that is read again.
use Rattle.mini_again.proofs.LawScopeListAgain.{has_eval_again}
use Rattle.mini_again.proofs.ModelPathsAgain.{append_again}
use Rattle.mini_again.proofs.ModelTreeAgain.{child_or_absent_again, children_again, shape_of_again}
use Rattle.mini_again.proofs.NestingAgain.{is_shallow_again}
use Rattle.mini_again.proofs.NodeChildrenAgain.{is_bare_again, is_nameless_again, names_of_again}
use Rattle.mini_again.proofs.NodeKindsAgain.{is_named_leaf_again}
use Rattle.mini_again.proofs.TermEffectsAgain.{ef_again}
use Rattle.mini_again.proofs.TermKindAgain.{kind_again}
use Rattle.mini_again.proofs.TermReadingAgain.{is_plain_part_again}
use Rattle.mini_again.proofs.UnusedAgain.{any_names_again, begins_bare_again, begins_with_again, declared_left_again, evaluated_again, is_childless_again, is_constant_again, is_first_again, names_again, put_first_again, reads_head_again, suits_in_again, suits_under_again, takes_name_again}
use Rattle.mini_again.specs.Again.{Renaming, again, all_again, assured_with_others, liberties_with_others_in, other_number, sets_with_others, with_others_in}
use Rattle.mini_kept.specs.Without.{Assured, BodySets}
use Rattle.mini_laws.specs.Naming.{is_lexical}
use Rattle.mini_laws.specs.Renaming.{rename_name, rename_symbol, rename_variable}
use Rattle.mini_laws.specs.Value.{Declared, Global, Variable, VariableSet}
use Rattle.mini_model.specs.Paths.{append}
use Rattle.mini_model.specs.Tree.{Tree, Trees, children, listed, node, none, shape_of, ◌▸◌}
use Rattle.mini_model.specs.declared.name.Name.{Name}
use Rattle.mini_model.specs.declared.name.SymbolId.{SymbolId}
use Rattle.mini_model.specs.declared.place.Position.{Position}
use Rattle.mini_model.specs.declared.place.Position.TheVariants.{Elsewhere, Expr, Method, Stmt}
use Rattle.mini_model.specs.declared.shape.Shape.{Shape}
use Rattle.mini_node.specs.Children.{names_of, part}
use Rattle.mini_rows.specs.Lists.{binding, block, declaration, declarator, resolved}
use Rattle.mini_rows.specs.Past.{Kept, PastFunction, PastFunctionRow, PastRow, Row71Past, Row71PastNext, all_of, all_past, any_bind, any_write, are_past, are_past_in, begun, binds, has_its_symbol, has_symbol, held, held_variables, is_held_name, is_held_symbol, is_let, is_only_symbol, is_symbol, lets_at_most, lets_here, passes_any_at, passes_any_item, spares, writes, written_names}
use Rattle.mini_rows.specs.Switches.{Liberties}
use Rattle.mini_rows.specs.Unused.{declared_among, declared_left, evaluated, gathered_below, is_lexical_shape, put_first}
use Rattle.mini_rows.specs.declared.gathered.Gathered.{Gathered}
use Rattle.mini_rows.specs.declared.gathered.Gathered.TheVariants.{Texts as OfTexts, Values as OfValues}
use Rattle.std.proofs.Common.{ap, inl, inr, ◌∙◌}
use Rattle.std.specs.Prelude.{Bool, List, None, Option, Some, [], false, map, refl, suc, true, ℕ, ◌∷◌, ◌≡◌}
use Rattle.mini_model.specs.declared.shape.Shape.TheVariants as shape

-- what keeps its value, whose other symbols do in H
abbrev pub kept_with_others : Renaming → Kept → Kept
kept_with_others ρ H = record { variables = with_others_in ρ H.variables; has_this = H.has_this }

pub is_symbol_again : (ρ : Renaming) (k : ℕ) (s : Option SymbolId) → is_symbol (ρ.symbol k) (rename_symbol ρ.symbol s) ≡ is_symbol k s
is_symbol_again ρ k (Some s) = ρ.apart s.0 k
is_symbol_again ρ k None = refl

pub has_symbol_again : (ρ : Renaming) (k : ℕ) (xs : List Name) → has_symbol (ρ.symbol k) (map (rename_name ρ.symbol) xs) ≡ has_symbol k xs
has_symbol_again ρ k [] = refl
has_symbol_again ρ k (x ∷ xs) = simp (is_symbol_again ρ k x.symbol, has_symbol_again ρ k xs)

mutual
  pub any_bind_again : (ρ : Renaming) (k : ℕ) (ts : Trees) → any_bind (ρ.symbol k) (all_again ρ ts) ≡ any_bind k ts
  any_bind_again ρ k none = refl
  any_bind_again ρ k (t ▸ ts) = simp (binds_again ρ k t, any_bind_again ρ k ts)

  pub binds_again : (ρ : Renaming) (k : ℕ) (t : Tree) → binds (ρ.symbol k) (again ρ t) ≡ binds k t
  binds_again ρ k (node h xs n ts) = simp (has_symbol_again ρ k xs, any_bind_again ρ k ts)

pub has_its_symbol_again : (ρ : Renaming) (s : Option SymbolId) (xs : List Name) → has_its_symbol (rename_symbol ρ.symbol s) (map (rename_name ρ.symbol) xs) ≡ has_its_symbol s xs
has_its_symbol_again ρ (Some s) xs = simp (has_symbol_again ρ s.0 xs)
has_its_symbol_again ρ None xs = refl

pub written_names_again : (ρ : Renaming) (h : Shape) (xs : List Name) → written_names h (map (rename_name ρ.symbol) xs) ≡ map (rename_name ρ.symbol) (written_names h xs)
written_names_again ρ shape.VariableDeclarator xs = refl
written_names_again ρ h xs = refl

mutual
  pub any_write_again : (ρ : Renaming) (x : Name) (ts : Trees) → any_write (rename_name ρ.symbol x) (all_again ρ ts) ≡ any_write x ts
  any_write_again ρ x none = refl
  any_write_again ρ x (t ▸ ts) = simp (writes_again ρ x t, any_write_again ρ x ts)

  pub writes_again : (ρ : Renaming) (x : Name) (t : Tree) → writes (rename_name ρ.symbol x) (again ρ t) ≡ writes x t
  writes_again ρ x (node h xs n ts) = simp (written_names_again ρ h xs, has_its_symbol_again ρ x.symbol (written_names h xs), any_names_again ρ x ts, any_write_again ρ x ts)

pub is_held_symbol_again : (ρ : Renaming) (H : VariableSet) (r : Tree) (y : Name) (s : Option SymbolId) → is_held_symbol H (again ρ r) (rename_name ρ.symbol y) (rename_symbol ρ.symbol s) ≡ is_held_symbol (with_others_in ρ H) r y s
is_held_symbol_again ρ H r y (Some s) = simp (binds_again ρ s.0 r, writes_again ρ y r)
is_held_symbol_again ρ H r y None = refl

pub is_held_name_again : (ρ : Renaming) (H : VariableSet) (r : Tree) (ys : List Name) → is_held_name H (again ρ r) (map (rename_name ρ.symbol) ys) ≡ is_held_name (with_others_in ρ H) r ys
is_held_name_again ρ H r (y ∷ []) = simp (is_held_symbol_again ρ H r y y.symbol)
is_held_name_again ρ H r ys = refl

pub passes_any_item_again : (ρ : Renaming) (H : Kept) (gathered : Gathered) (r t : Tree) → passes_any_item H gathered (again ρ r) (again ρ t) ≡ passes_any_item (kept_with_others ρ H) gathered r t
passes_any_item_again ρ H OfTexts r t = simp (is_constant_again ρ t, shape_of_again ρ t, is_named_leaf_again ρ t, names_of_again ρ t, is_held_name_again ρ H.variables r (names_of t), is_bare_again ρ t 0, kind_again ρ t)
passes_any_item_again ρ H gathered r t = simp (is_constant_again ρ t, shape_of_again ρ t, is_named_leaf_again ρ t, names_of_again ρ t, is_held_name_again ρ H.variables r (names_of t), is_bare_again ρ t 0, is_bare_again ρ t 2, children_again ρ t, child_or_absent_again ρ (children t) 0, shape_of_again ρ (part t 0), child_or_absent_again ρ (children t) 1, is_constant_again ρ (part t 1), shape_of_again ρ (part t 1), is_named_leaf_again ρ (part t 1), names_of_again ρ (part t 1), is_held_name_again ρ H.variables r (names_of (part t 1)), is_bare_again ρ (part t 1) 0)

pub passes_any_at_again : (ρ : Renaming) (H : Kept) (gathered : Gathered) (r : Tree) (h : Shape) (t : Tree) → passes_any_at H gathered (again ρ r) h (again ρ t) ≡ passes_any_at (kept_with_others ρ H) gathered r h t
passes_any_at_again ρ H gathered r (shape.AssignmentExpression o) t = simp (shape_of_again ρ t, is_bare_again ρ t 2, children_again ρ t, child_or_absent_again ρ (children t) 0, is_constant_again ρ (part t 0), shape_of_again ρ (part t 0), is_named_leaf_again ρ (part t 0), names_of_again ρ (part t 0), is_held_name_again ρ H.variables r (names_of (part t 0)), is_bare_again ρ (part t 0) 0, child_or_absent_again ρ (children t) 1, shape_of_again ρ (part t 1), is_constant_again ρ (part t 1), is_named_leaf_again ρ (part t 1), names_of_again ρ (part t 1), is_held_name_again ρ H.variables r (names_of (part t 1)), is_bare_again ρ (part t 1) 0, is_named_leaf_again ρ t, ef_again ρ true t)
passes_any_at_again ρ H gathered r (shape.ObjectProperty k is_method is_shorthand is_computed) t = simp (shape_of_again ρ t)
passes_any_at_again ρ H gathered r shape.Listed t = simp (passes_any_item_again ρ H gathered r t)
passes_any_at_again ρ H gathered r shape.TemplateLiteral t = refl
passes_any_at_again ρ H gathered r h t = simp (is_constant_again ρ t, shape_of_again ρ t, is_named_leaf_again ρ t, names_of_again ρ t, is_held_name_again ρ H.variables r (names_of t), is_bare_again ρ t 0)

mutual
  pub all_past_again : (ρ : Renaming) (H : Kept) (x : Name) (gathered : Gathered) (r : Tree) (h : Shape) (i : ℕ) (ts : Trees) → all_past H (rename_name ρ.symbol x) gathered (again ρ r) h i (all_again ρ ts) ≡ all_past (kept_with_others ρ H) x gathered r h i ts
  all_past_again ρ H x gathered r h i none = refl
  all_past_again ρ H x gathered r h i (t ▸ ts) = simp (names_again ρ x t, are_past_in_again ρ H x (gathered_below gathered h i) r t, passes_any_at_again ρ H gathered r h t, all_past_again ρ H x gathered r h (suc i) ts)

  pub are_past_in_again : (ρ : Renaming) (H : Kept) (x : Name) (gathered : Gathered) (r t : Tree) → are_past_in H (rename_name ρ.symbol x) gathered (again ρ r) (again ρ t) ≡ are_past_in (kept_with_others ρ H) x gathered r t
  are_past_in_again ρ H x gathered r (node h ys n ts) = simp (begins_bare_again ρ x ts, suits_under_again ρ r h, suits_in_again ρ r h, begins_with_again ρ x ts, all_past_again ρ H x gathered r h 0 ts)

pub are_past_again : (ρ : Renaming) (H : Kept) (x : Name) (r t : Tree) → are_past H (rename_name ρ.symbol x) (again ρ r) (again ρ t) ≡ are_past (kept_with_others ρ H) x r t
are_past_again ρ H x r t = simp (are_past_in_again ρ H x OfValues r t, is_shallow_again ρ 250 r, is_shallow_again ρ 250 t)

pub begun_again : (ρ : Renaming) (V : Assured) (ts : Trees) (x : Variable) → begun V (all_again ρ ts) (rename_variable ρ.symbol x) ≡ begun (assured_with_others ρ V) ts x
begun_again ρ V ts (Declared k) = simp (any_bind_again ρ k ts)
begun_again ρ V ts (Global s) = refl

pub all_of_again : (ρ : Renaming) (p q : Tree → Bool) → ((t : Tree) → p (again ρ t) ≡ q t) → (ts : Trees) → all_of p (all_again ρ ts) ≡ all_of q ts
all_of_again ρ p q e none = refl
all_of_again ρ p q e (t ▸ ts) = simp (e t, all_of_again ρ p q e ts)

pub is_only_symbol_again : (ρ : Renaming) (k : ℕ) (xs : List Name) → is_only_symbol (ρ.symbol k) (map (rename_name ρ.symbol) xs) ≡ is_only_symbol k xs
is_only_symbol_again ρ k (x ∷ []) = simp (is_symbol_again ρ k x.symbol)
is_only_symbol_again ρ k xs = refl

pub lets_at_most_again : (ρ : Renaming) (is_lexical : Bool) (k : ℕ) (d : Tree) → lets_at_most is_lexical (ρ.symbol k) (again ρ d) ≡ lets_at_most is_lexical k d
lets_at_most_again ρ is_lexical k d = simp (binds_again ρ k d, shape_of_again ρ d, is_bare_again ρ d 2, children_again ρ d, child_or_absent_again ρ (children d) 0, shape_of_again ρ (part d 0), names_of_again ρ (part d 0), is_only_symbol_again ρ k (names_of (part d 0)), is_childless_again ρ (part d 0), child_or_absent_again ρ (children d) 1, binds_again ρ k (part d 1))

pub lets_here_again : (ρ : Renaming) (k : ℕ) (t : Tree) → lets_here (ρ.symbol k) (again ρ t) ≡ lets_here k t
lets_here_again ρ k t =
    simp (binds_again ρ k t, shape_of_again ρ t, is_bare_again ρ t 1, children_again ρ t, child_or_absent_again ρ (children t) 0, shape_of_again ρ (part t 0), is_nameless_again ρ (part t 0), children_again ρ (part t 0), all_of_again ρ (lets_at_most (is_lexical_shape (shape_of t)) (ρ.symbol k)) (lets_at_most (is_lexical_shape (shape_of t)) k) (lets_at_most_again ρ (is_lexical_shape (shape_of t)) k) (children (part t 0)))

pub spares_again : (ρ : Renaming) (k : ℕ) (t : Tree) → spares (ρ.symbol k) (again ρ t) ≡ spares k t
spares_again ρ k t = simp (binds_again ρ k t)

pub is_let_again : (ρ : Renaming) (k : ℕ) (before : Trees) (is_lexical : Bool) (first : Trees) → is_let (ρ.symbol k) (all_again ρ before) is_lexical (all_again ρ first) ≡ is_let k before is_lexical first
is_let_again ρ k before b first =
    simp (all_of_again ρ (spares (ρ.symbol k)) (spares k) (spares_again ρ k) before, all_of_again ρ (spares (ρ.symbol k)) (spares k) (spares_again ρ k) first, all_of_again ρ (lets_here (ρ.symbol k)) (lets_here k) (lets_here_again ρ k) before, all_of_again ρ (lets_at_most b (ρ.symbol k)) (lets_at_most b k) (lets_at_most_again ρ b k) first)

pub held_variables_again : (ρ : Renaming) (V : Assured) (ts before : Trees) (is_lexical : Bool) (first : Trees) (x : Variable) → held_variables V (all_again ρ ts) (all_again ρ before) is_lexical (all_again ρ first) (rename_variable ρ.symbol x) ≡ held_variables (assured_with_others ρ V) ts before is_lexical first x
held_variables_again ρ V ts before b first (Declared k) = simp (begun_again ρ V ts (Declared k), is_let_again ρ k before b first)
held_variables_again ρ V ts before b first (Global s) = refl

pub held_again : (ρ : Renaming) (V : Assured) (ts before : Trees) (is_lexical : Bool) (first : Trees) → kept_with_others ρ (held V (all_again ρ ts) (all_again ρ before) is_lexical (all_again ρ first)) ≡ held (assured_with_others ρ V) ts before is_lexical first
held_again ρ V ts before b first = λ i. record { variables = λ x. held_variables_again ρ V ts before b first x i; has_this = V.has_this }

unfoldable pub row71_past_again : (ρ : Renaming) (V : Assured) (W : Liberties) (outside : Tree) (ts us : Trees) → Row71Past (assured_with_others ρ V) (liberties_with_others_in ρ W) outside ts us → Row71Past V W (again ρ outside) (all_again ρ ts) (all_again ρ us)
row71_past_again ρ V W outside ts us r = record {
  before = all_again ρ r.before;
  kind = r.kind;
  first = all_again ρ r.first;
  spelling = r.spelling;
  symbol = ρ.symbol r.symbol;
  init = again ρ r.init;
  head = again ρ r.head;
  after = all_again ρ r.after;
  goes = r.goes;
  moves = simp (is_plain_part_again ρ r.init, shape_of_again ρ r.init, children_again ρ r.init, child_or_absent_again ρ (children r.init) 0, takes_name_again ρ W.switches (shape_of r.init) (part r.init 0)) r.moves;
  varies = simp (is_constant_again ρ r.init) r.varies;
  once = simp (reads_head_again ρ (resolved r.spelling r.symbol) r.head) r.once;
  passed = ap (are_past (held V (all_again ρ ts) (all_again ρ r.before) (is_lexical r.kind) (all_again ρ r.first)) (rename_name ρ.symbol (resolved r.spelling r.symbol)) (again ρ r.init)) (evaluated_again ρ r.head) ∙ are_past_again ρ (held V (all_again ρ ts) (all_again ρ r.before) (is_lexical r.kind) (all_again ρ r.first)) (resolved r.spelling r.symbol) r.init (evaluated r.head) ∙ ap (λ H. are_past H (resolved r.spelling r.symbol) r.init (evaluated r.head)) (held_again ρ V ts r.before (is_lexical r.kind) r.first) ∙ r.passed;
  outer = simp (names_again ρ (resolved r.spelling r.symbol) outside) r.outer;
  earlier = simp (any_names_again ρ (resolved r.spelling r.symbol) r.before) r.earlier;
  declared_earlier = simp (any_names_again ρ (resolved r.spelling r.symbol) r.first) r.declared_earlier;
  initial = simp (names_again ρ (resolved r.spelling r.symbol) r.init) r.initial;
  later = simp (any_names_again ρ (resolved r.spelling r.symbol) r.after) r.later;
  unseen = simp (has_eval_again ρ (block (outside ▸ ts))) r.unseen;
  shape = simp (← (append_again ρ r.first (declarator (binding (resolved r.spelling r.symbol)) r.init ▸ none)), ← (append_again ρ r.before (declared_among r.kind (resolved r.spelling r.symbol) r.first r.init none ▸ (r.head ▸ r.after)))) at (ap (all_again ρ) r.shape);
  written = simp (← (declared_left_again ρ r.kind r.first), ← (put_first_again ρ (resolved r.spelling r.symbol) r.init r.head), ← (append_again ρ r.before (declared_left r.kind r.first ▸ (put_first (resolved r.spelling r.symbol) r.init r.head ▸ r.after)))) at (ap (all_again ρ) r.written);
}

unfoldable pub row71_past_next_again : (ρ : Renaming) (V : Assured) (W : Liberties) (outside : Tree) (ts us : Trees) → Row71PastNext (assured_with_others ρ V) (liberties_with_others_in ρ W) outside ts us → Row71PastNext V W (again ρ outside) (all_again ρ ts) (all_again ρ us)
row71_past_next_again ρ V W outside ts us r = record {
  before = all_again ρ r.before;
  kind = r.kind;
  first = all_again ρ r.first;
  spelling = r.spelling;
  symbol = ρ.symbol r.symbol;
  init = again ρ r.init;
  binds = again ρ r.binds;
  value = again ρ r.value;
  last = all_again ρ r.last;
  after = all_again ρ r.after;
  goes = r.goes;
  moves = simp (is_plain_part_again ρ r.init, shape_of_again ρ r.init, children_again ρ r.init, child_or_absent_again ρ (children r.init) 0, takes_name_again ρ W.switches (shape_of r.init) (part r.init 0)) r.moves;
  varies = simp (is_constant_again ρ r.init) r.varies;
  once = simp (is_first_again ρ (resolved r.spelling r.symbol) false r.value) r.once;
  passed = are_past_again ρ (held V (all_again ρ ts) (all_again ρ r.before) (is_lexical r.kind) (all_again ρ r.first)) (resolved r.spelling r.symbol) r.init r.value ∙ ap (λ H. are_past H (resolved r.spelling r.symbol) r.init r.value) (held_again ρ V ts r.before (is_lexical r.kind) r.first) ∙ r.passed;
  other = simp (names_again ρ (resolved r.spelling r.symbol) r.binds) r.other;
  outer = simp (names_again ρ (resolved r.spelling r.symbol) outside) r.outer;
  earlier = simp (any_names_again ρ (resolved r.spelling r.symbol) r.before) r.earlier;
  declared_earlier = simp (any_names_again ρ (resolved r.spelling r.symbol) r.first) r.declared_earlier;
  initial = simp (names_again ρ (resolved r.spelling r.symbol) r.init) r.initial;
  declared_later = simp (any_names_again ρ (resolved r.spelling r.symbol) r.last) r.declared_later;
  later = simp (any_names_again ρ (resolved r.spelling r.symbol) r.after) r.later;
  unseen = simp (has_eval_again ρ (block (outside ▸ ts))) r.unseen;
  shape = simp (← (append_again ρ r.first (declarator (binding (resolved r.spelling r.symbol)) r.init ▸ (declarator r.binds r.value ▸ r.last))), ← (append_again ρ r.before (declared_among r.kind (resolved r.spelling r.symbol) r.first r.init (declarator r.binds r.value ▸ r.last) ▸ r.after))) at (ap (all_again ρ) r.shape);
  written = simp (← (put_first_again ρ (resolved r.spelling r.symbol) r.init r.value), ← (append_again ρ r.first (declarator r.binds (put_first (resolved r.spelling r.symbol) r.init r.value) ▸ r.last)), ← (append_again ρ r.before (declaration r.kind (append r.first (declarator r.binds (put_first (resolved r.spelling r.symbol) r.init r.value) ▸ r.last)) ▸ r.after))) at (ap (all_again ρ) r.written);
}

unfoldable pub past_row_again : (ρ : Renaming) (V : Assured) (W : Liberties) (outside : Tree) (ts us : Trees) → PastRow (assured_with_others ρ V) (liberties_with_others_in ρ W) outside ts us → PastRow V W (again ρ outside) (all_again ρ ts) (all_again ρ us)
past_row_again ρ V W outside ts us (inl r) = inl (row71_past_again ρ V W outside ts us r)
past_row_again ρ V W outside ts us (inr r) = inr (row71_past_next_again ρ V W outside ts us r)

pub past_function_row_again : (ρ : Renaming) (S : BodySets) (W : Liberties) (n w : Tree) → PastFunctionRow (sets_with_others ρ S) (liberties_with_others_in ρ W) n w → PastFunctionRow S W (again ρ n) (again ρ w)
past_function_row_again ρ S W n w r = record {
  is_declared = r.is_declared;
  is_generator = r.is_generator;
  directives = r.directives;
  number = other_number ρ r.number;
  name = again ρ r.name;
  parameters = all_again ρ r.parameters;
  before = all_again ρ r.before;
  after = all_again ρ r.after;
  row = past_row_again ρ (S (other_number ρ r.number)) W (listed (r.name ▸ r.parameters)) r.before r.after r.row;
  shape = ap (again ρ) r.shape;
  written = ap (again ρ) r.written;
}

pub past_function_again : (ρ : Renaming) (S : BodySets) (W : Liberties) (p : Position) (n w : Tree) → PastFunction (sets_with_others ρ S) (liberties_with_others_in ρ W) p n w → PastFunction S W p (again ρ n) (again ρ w)
past_function_again ρ S W (Stmt q) n w r = past_function_row_again ρ S W n w r
past_function_again ρ S W (Expr s) n w r = past_function_row_again ρ S W n w r
past_function_again ρ S W Method n w r = past_function_row_again ρ S W n w r
past_function_again ρ S W Elsewhere n w r = past_function_row_again ρ S W n w r
past_function_again ρ S W p2 n w r = absurd r
