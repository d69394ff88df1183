-- The rows of names that are read behind held names read what they read where more variables are known to have values.
use Rattle.std.proofs.Common.{◌≡◌, ℕ, suc, Bool, true, false, List, [], ◌∷◌, Option, Some, None, refl, sym, ap, true≢false, inl, inr}
use Rattle.std.specs.Prelude.{◌||◌, ◌&&◌, not, if◌then◌else◌}
use Rattle.std.proofs.lemmas.Bool.{and_parts}
use Rattle.mini_model.specs.declared.name.Name.{Name}
use Rattle.mini_model.specs.declared.name.SymbolId.{SymbolId}
use Rattle.mini_model.specs.declared.place.Position.TheVariants.{Stmt, Elsewhere}
use Rattle.mini_model.specs.declared.operator.AssignmentOperator.{AssignmentOperator}
use Rattle.mini_model.specs.declared.shape.Shape.{Shape}
use Rattle.mini_model.specs.declared.shape.Shape.TheVariants as shape
use Rattle.mini_model.specs.Tree.{Tree, Trees, node, none, ◌▸◌, absent, listed, shape_of}
use Rattle.mini_laws.specs.Naming.{is_lexical}
use Rattle.mini_laws.specs.Value.{Variable, Declared, Global, VariableSet}
use Rattle.mini_kept.specs.Without.{Assured}
use Rattle.mini_kept.proofs.Bools.{both}
use Rattle.mini_node.specs.Children.{names_of, part}
use Rattle.mini_terms.specs.Folds.{is_effect_free}
use Rattle.mini_node.specs.Kinds.{is_identifier}
use Rattle.mini_terms.specs.Kind.{is_primitive, kind as kind_of}
use Rattle.mini_rows.proofs.Sunk.{past_others}
use Rattle.mini_rows.specs.Past.{any_bind, is_let, begun, Kept, held, leaves, is_held_symbol, is_held_name, is_held, is_this, keeps_value, passes_any, passes_any_word, passes_any_member, passes_any_target, passes_any_item, passes_any_at, is_certain, are_past, are_past_in, all_past, PastRow}
use Rattle.mini_rows.specs.Lists.{for_loop}
use Rattle.mini_rows.specs.PastBlocks.{PastBlockRow, PastCaseRow, PastHeadRow, PastBlocksReadMore}
use Rattle.mini_rows.specs.Unused.{resolved, names, switch_around, is_constant, is_plain_assignment, is_word, is_member, is_field, Gathered, OfValues, OfEntries, OfTexts, gathered_below, evaluated}
use Rattle.mini_rows.specs.Switches.{Switches, Liberties, without_vars}

either_more : (a b c : Bool) → (a ≡ true → b ≡ true) → (a || c) ≡ true → (b || c) ≡ true
either_more true b c f e = ap (λ d. d || c) (f refl)
either_more false true c f e = refl
either_more false false c f e = e

last_more : (c a b : Bool) → (a ≡ true → b ≡ true) → (c || a) ≡ true → (c || b) ≡ true
last_more true a b f e = refl
last_more false a b f e = f e

branch_more : (b a c d e : Bool) → (a ≡ true → c ≡ true) → (d ≡ true → e ≡ true) → (if b then a else d) ≡ true → (if b then c else e) ≡ true
branch_more true a c d e f g h = f h
branch_more false a c d e f g h = g h

-- ---- what is passed

both_more : (a b c d : Bool) → (a ≡ true → c ≡ true) → (b ≡ true → d ≡ true) → (a && b) ≡ true → (c && d) ≡ true
both_more a b c d f g e = let (h, i) = and_parts a b e in both c d (f h) (g i)

some_more : (a b c d : Bool) → (a ≡ true → c ≡ true) → (b ≡ true → d ≡ true) → (a || b) ≡ true → (c || d) ≡ true
some_more a b c d f g e = last_more c b d g (either_more a c b f e)

module _ (H G : Kept) (more : (x : Variable) → H.variables x ≡ true → G.variables x ≡ true) (still : H.has_this ≡ true → G.has_this ≡ true) where
  symbol_more : (r : Tree) (y : Name) (s : Option SymbolId) → is_held_symbol H.variables r y s ≡ true → is_held_symbol G.variables r y s ≡ true
  symbol_more r y (Some s) e = let (there, left) = and_parts (H.variables (Declared s.0)) (leaves r y s.0) e in both (G.variables (Declared s.0)) (leaves r y s.0) (more (Declared s.0) there) left
  symbol_more r y None e = absurd (true≢false (sym e))

  name_more : (r : Tree) (ys : List Name) → is_held_name H.variables r ys ≡ true → is_held_name G.variables r ys ≡ true
  name_more r [] e = absurd (true≢false (sym e))
  name_more r (y ∷ []) e = symbol_more r y y.symbol e
  name_more r (y ∷ (z ∷ ys)) e = absurd (true≢false (sym e))

  held_more : (r t : Tree) → is_held H.variables r t ≡ true → is_held G.variables r t ≡ true
  held_more r t e = let (kind, there) = and_parts (is_identifier t) (is_held_name H.variables r (names_of t)) e in both (is_identifier t) (is_held_name G.variables r (names_of t)) kind (name_more r (names_of t) there)

  keeps_more : (r t : Tree) → keeps_value H r t ≡ true → keeps_value G r t ≡ true
  keeps_more r t = some_more (is_held H.variables r t) (H.has_this && is_this t) (is_held G.variables r t) (G.has_this && is_this t) (held_more r t) (both_more H.has_this (is_this t) G.has_this (is_this t) still (λ e. e))

  passes_more : (r t : Tree) → passes_any H r t ≡ true → passes_any G r t ≡ true
  passes_more r t = last_more (is_constant t) (keeps_value H r t) (keeps_value G r t) (keeps_more r t)

  word_more : (r t : Tree) → passes_any_word H r t ≡ true → passes_any_word G r t ≡ true
  word_more r t = last_more (is_word (shape_of t)) (passes_any H r t) (passes_any G r t) (passes_more r t)

  member_more : (r t : Tree) → passes_any_member H r t ≡ true → passes_any_member G r t ≡ true
  member_more r t =
      both_more (is_member t) (passes_any H r (part t 0) && passes_any_word H r (part t 1)) (is_member t) (passes_any G r (part t 0) && passes_any_word G r (part t 1)) (λ e. e)
      (both_more (passes_any H r (part t 0)) (passes_any_word H r (part t 1)) (passes_any G r (part t 0)) (passes_any_word G r (part t 1)) (passes_more r (part t 0)) (word_more r (part t 1)))

  target_more : (r : Tree) (o : AssignmentOperator) (t : Tree) → passes_any_target H r o t ≡ true → passes_any_target G r o t ≡ true
  target_more r o t =
      both_more (is_plain_assignment o) (passes_any_member H r t || (is_identifier t && is_effect_free t)) (is_plain_assignment o) (passes_any_member G r t || (is_identifier t && is_effect_free t)) (λ e. e)
      (either_more (passes_any_member H r t) (passes_any_member G r t) (is_identifier t && is_effect_free t) (member_more r t))

  item_more : (m : Gathered) (r t : Tree) → passes_any_item H m r t ≡ true → passes_any_item G m r t ≡ true
  item_more OfTexts r t = both_more (passes_any H r t) (is_primitive (kind_of t)) (passes_any G r t) (is_primitive (kind_of t)) (passes_more r t) (λ e. e)
  item_more OfEntries r t =
      some_more (passes_any H r t) (is_field t && passes_any H r (part t 1)) (passes_any G r t) (is_field t && passes_any G r (part t 1)) (passes_more r t)
      (both_more (is_field t) (passes_any H r (part t 1)) (is_field t) (passes_any G r (part t 1)) (λ e. e) (passes_more r (part t 1)))
  item_more OfValues r t = some_more (passes_any H r t) false (passes_any G r t) false (passes_more r t) (λ e. e)

  at_more : (m : Gathered) (r : Tree) (h : Shape) (t : Tree) → passes_any_at H m r h t ≡ true → passes_any_at G m r h t ≡ true
  at_more m r (shape.AssignmentExpression o) t e = target_more r o t e
  at_more m r (shape.ObjectProperty k is_method is_shorthand is_computed) t e = e
  at_more m r shape.Listed t e = item_more m r t e
  at_more m r shape.TemplateLiteral t e = e
  at_more m r h t e = passes_more r t e

  mutual
    past_in_more : (x : Name) (m : Gathered) (r t : Tree) → are_past_in H x m r t ≡ true → are_past_in G x m r t ≡ true
    past_in_more x m r (node h ys n ts) =
        both_more (is_certain x m r h ts) (all_past H x m r h 0 ts) (is_certain x m r h ts) (all_past G x m r h 0 ts) (λ e. e) (all_more x m r h 0 ts)

    all_more : (x : Name) (m : Gathered) (r : Tree) (h : Shape) (i : ℕ) (ts : Trees) → all_past H x m r h i ts ≡ true → all_past G x m r h i ts ≡ true
    all_more x m r h i none e = refl
    all_more x m r h i (t ▸ ts) e =
        branch_more (names x t) (are_past_in H x (gathered_below m h i) r t) (are_past_in G x (gathered_below m h i) r t) (passes_any_at H m r h t && all_past H x m r h (suc i) ts) (passes_any_at G m r h t && all_past G x m r h (suc i) ts) (past_in_more x (gathered_below m h i) r t)
        (both_more (passes_any_at H m r h t) (all_past H x m r h (suc i) ts) (passes_any_at G m r h t) (all_past G x m r h (suc i) ts) (at_more m r h t) (all_more x m r h (suc i) ts)) e

  past_more : (x : Name) (r t : Tree) → are_past H x r t ≡ true → are_past G x r t ≡ true
  past_more x r t = past_others H G x r t (past_in_more x OfValues r t)

-- ---- what is held

module _ (V : Assured) (X : VariableSet) (holds : (x : Variable) → V.initial x ≡ true → X x ≡ true) where
  abbrev V' : Assured
  V' = record V { initial = X }

  begun_more : (ts : Trees) (k : ℕ) → begun V ts (Declared k) ≡ true → begun V' ts (Declared k) ≡ true
  begun_more ts k e = let (there, free) = and_parts (V.initial (Declared k)) (not (any_bind k ts)) e in both (X (Declared k)) (not (any_bind k ts)) (holds (Declared k) there) free

  set_more : (ts before : Trees) (l : Bool) (first : Trees) (x : Variable) → (held V ts before l first).variables x ≡ true → (held V' ts before l first).variables x ≡ true
  set_more ts before l first (Declared k) e =
      let (kept, there) = and_parts (V.steady (Declared k)) (begun V ts (Declared k) || is_let k before l first) e in
      both (V.steady (Declared k)) (begun V' ts (Declared k) || is_let k before l first) kept (either_more (begun V ts (Declared k)) (begun V' ts (Declared k)) (is_let k before l first) (begun_more ts k) there)
  set_more ts before l first (Global s) e = absurd (true≢false (sym e))

  -- ---- the rows

  row_more : (W : Liberties) (o : Tree) (ts us : Trees) → PastRow V W o ts us → PastRow V' W o ts us
  row_more W o ts us (inl r) = inl (record {
    before = r.before;
    kind = r.kind;
    first = r.first;
    spelling = r.spelling;
    symbol = r.symbol;
    init = r.init;
    head = r.head;
    after = r.after;
    goes = r.goes;
    moves = r.moves;
    varies = r.varies;
    once = r.once;
    passed = past_more (held V ts r.before (is_lexical r.kind) r.first) (held V' ts r.before (is_lexical r.kind) r.first) (set_more ts r.before (is_lexical r.kind) r.first) (λ e. e) (resolved r.spelling r.symbol) r.init (evaluated r.head) r.passed;
    outer = r.outer;
    earlier = r.earlier;
    declared_earlier = r.declared_earlier;
    initial = r.initial;
    later = r.later;
    unseen = r.unseen;
    shape = r.shape;
    written = r.written;
  })
  row_more W o ts us (inr r) = inr (record {
    before = r.before;
    kind = r.kind;
    first = r.first;
    spelling = r.spelling;
    symbol = r.symbol;
    init = r.init;
    binds = r.binds;
    value = r.value;
    last = r.last;
    after = r.after;
    goes = r.goes;
    moves = r.moves;
    varies = r.varies;
    once = r.once;
    passed = past_more (held V ts r.before (is_lexical r.kind) r.first) (held V' ts r.before (is_lexical r.kind) r.first) (set_more ts r.before (is_lexical r.kind) r.first) (λ e. e) (resolved r.spelling r.symbol) r.init r.value r.passed;
    other = r.other;
    outer = r.outer;
    earlier = r.earlier;
    declared_earlier = r.declared_earlier;
    initial = r.initial;
    declared_later = r.declared_later;
    later = r.later;
    unseen = r.unseen;
    shape = r.shape;
    written = r.written;
  })

block_more : (o : Switches) (V : Assured) (X : VariableSet) → ((x : Variable) → V.initial x ≡ true → X x ≡ true) → (n w : Tree) → PastBlockRow o V n w → PastBlockRow o (record V { initial = X }) n w
block_more o V X holds n w r = record { before = r.before; after = r.after; row = row_more V X holds (without_vars o) (listed none) r.before r.after r.row; shape = r.shape; written = r.written }

case_more : (o : Switches) (V : Assured) (X : VariableSet) → ((x : Variable) → V.initial x ≡ true → X x ≡ true) → (n w : Tree) → PastCaseRow o V n w → PastCaseRow o (record V { initial = X }) n w
case_more o V X holds n w r = record {
  discriminant = r.discriminant;
  first = r.first;
  test = r.test;
  before = r.before;
  last = r.last;
  after = r.after;
  row = row_more V X holds (without_vars o) (switch_around r.discriminant r.first r.test r.last) r.before r.after r.row;
  shape = r.shape;
  written = r.written;
}

head_more : (o : Switches) (V : Assured) (X : VariableSet) → ((x : Variable) → V.initial x ≡ true → X x ≡ true) → (n w : Tree) → PastHeadRow o V n w → PastHeadRow o (record V { initial = X }) n w
head_more o V X holds n w r = record {
  before = r.before;
  after = r.after;
  test = r.test;
  update = r.update;
  body = r.body;
  row = row_more V X holds (without_vars o) (for_loop absent r.test r.update r.body) (r.before ▸ none) (r.after ▸ none) r.row;
  shape = r.shape;
  written = r.written;
}

pub past_blocks_more : PastBlocksReadMore
past_blocks_more o V X holds (Stmt q) n w (inl r) = inl (block_more o V X holds n w r)
past_blocks_more o V X holds (Stmt q) n w (inr (inl r)) = inr (inl (case_more o V X holds n w r))
past_blocks_more o V X holds (Stmt q) n w (inr (inr r)) = inr (inr (head_more o V X holds n w r))
past_blocks_more o V X holds Elsewhere n w r = block_more o V X holds n w r
past_blocks_more o V X holds p n w r = absurd r
