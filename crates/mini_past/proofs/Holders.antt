-- What is done in the statements of a function, of an arrow function, of a module or of a static block is done in it.
use Rattle.std.proofs.Common.{◌≡◌, ℕ, Bool, true, false, List, [], refl, sym, ap, ◌∙◌, subst, inl, inr, true≢false}
use Rattle.std.specs.Prelude.{not, ◌⊎◌, ◌||◌, None, if◌then◌else◌}
use Rattle.mini_model.specs.declared.kind.VariableDeclarationKind.{VariableDeclarationKind}
use Rattle.mini_model.specs.declared.name.Name.{Name}
use Rattle.mini_model.specs.declared.shape.Shape.TheVariants as shape
use Rattle.mini_model.specs.Tree.{Tree, Trees, node, none, ◌▸◌, absent, listed, program, shape_of, children}
use Rattle.mini_kept.specs.Without.{Assured, BodySets}
use Rattle.mini_laws.specs.Naming.{is_lexical}
use Rattle.mini_laws.specs.ScopeList.{has_eval, any_has_eval}
use Rattle.mini_node.specs.Children.{number_of, part, with_part}
use Rattle.mini_node.specs.Kinds.{is_listed, is_listed_shape}
use Rattle.mini_rows.specs.Lists.{block}
use Rattle.mini_rows.specs.Past.{PastRow, PastFunctionRow}
use Rattle.mini_rows.specs.PastArrows.{PastArrowRow}
use Rattle.mini_rows.specs.PastModules.{PastModuleRow}
use Rattle.mini_rows.specs.PastStatics.{PastStaticRow}
use Rattle.mini_rows.specs.Unused.{resolved, names, any_names, arrow_with, function_with, static_block}
use Rattle.mini_rows.specs.Switches.{Liberties}
use Rattle.mini_unused.specs.Chains.{Several}
use Rattle.mini_unused.proofs.Chains.{several_over}
pub use Rattle.mini_unused.proofs.Unused.{same_parts, part_twice}
use Rattle.mini_inside.specs.Holding.{has_statements, is_function, is_module, is_static_block}
use Rattle.mini_inside.proofs.Holders.{or_none, arrow_is, function_is, module_is, static_is}
pub use Rattle.mini_inside.proofs.Holders.{put_back}
pub use Rattle.mini_inside.proofs.Lists.{in_arrow, in_function}
use Rattle.mini_past.proofs.NextRows.{next_row, none_next}
use Rattle.mini_past.proofs.PastRows.{row_there, none_past}
use Rattle.mini_past.proofs.Suiting.{suits_kind}
use Rattle.mini_past.specs.SubstitutePast.{PastAt, PastNextAt, ReadPast, NextPast, PastGone, PastRemoved, AppliedPast, AppliedPastArrow, AppliedPastModule, AppliedPastStatic}

-- ---- the rows of a list, with what is outside of it

-- a direct eval in them
seen_there : (o : Tree) (ts : Trees) → has_eval (block (o ▸ ts)) ≡ (has_eval o || has_eval (listed ts))
unfolding has_eval
seen_there o ts = or_none (has_eval o || any_has_eval ts)

-- a row that reads them, where a list stands outside one of a `var`
abbrev pub kind_of : {V : Assured} {W : Liberties} {o : Tree} {ts us : Trees} → PastRow V W o ts us → VariableDeclarationKind
kind_of (inl r) = r.kind
kind_of (inr r) = r.kind

abbrev pub Suiting : Assured → Liberties → Tree → Trees → Trees → Type 0
Suiting V W o ts us = (r : PastRow V W o ts us) × (suits_kind o (kind_of r) ≡ true)

module _ (V : Assured) (W : Liberties) (o : Tree) where
  pub suiting_of : (ts : Trees) (m : Tree) → PastGone V W o (listed ts) m → Suiting V W o ts (children m)
  suiting_of ts m r = by r.name
    where
      by : ReadPast V W o (listed ts) m ⊎ NextPast V W o (listed ts) m → Suiting V W o ts (children m)
      by (inl g) = subst (λ u. Suiting V W o ts (children u)) (sym g.left) (let there = row_there V W o ts g.at g.next g.declares g.there (seen_there o ts ∙ r.unseen) in (inl there.0, there.1))
      by (inr g) = subst (λ u. Suiting V W o ts (children u)) (sym g.left) (let there = next_row V W o ts g.at g.which g.there.0 g.there.1.1 g.there.1.2 (seen_there o ts ∙ r.unseen) in (inr there.0, there.1))

  pub none_suiting : (ts us : Trees) → ((has_eval o || has_eval (listed ts)) ≡ true) ⊎ (PastAt V W o ts None × PastNextAt V W o ts None) → Suiting V W o ts us → ⊥
  none_suiting ts us (inl e) (inl r, s) = true≢false (sym e ∙ sym (seen_there o ts) ∙ r.unseen)
  none_suiting ts us (inl e) (inr r, s) = true≢false (sym e ∙ sym (seen_there o ts) ∙ r.unseen)
  none_suiting ts us (inr f) (inl r, s) = none_past V W o ts f.0 us r s
  none_suiting ts us (inr f) (inr r, s) = none_next V W o ts f.1 us r s

  pub row_of : (ts : Trees) (m : Tree) → PastGone V W o (listed ts) m → PastRow V W o ts (children m)
  row_of ts m r = (suiting_of ts m r).0

  -- where no list stands outside
  pub none_here : is_listed_shape (shape_of o) ≡ false → (ts us : Trees) → ((has_eval o || has_eval (listed ts)) ≡ true) ⊎ (PastAt V W o ts None × PastNextAt V W o ts None) → PastRow V W o ts us → ⊥
  none_here whole ts us r row = none_suiting ts us r (row, ap (λ b. if b then not (is_lexical (kind_of row)) else true) whole)

-- what is left of a list is one
pub left_listed : (V : Assured) (W : Liberties) (o : Tree) (ts : Trees) (m : Tree) → PastGone V W o (listed ts) m → m ≡ listed (children m)
left_listed V W o ts m r = by r.name
  where
    by : ReadPast V W o (listed ts) m ⊎ NextPast V W o (listed ts) m → m ≡ listed (children m)
    by (inl g) = g.left ∙ sym (ap (λ l. listed (children l)) g.left)
    by (inr g) = g.left ∙ sym (ap (λ l. listed (children l)) g.left)

-- ---- what is outside of the statements mentions the same names

row_alike : (V : Assured) (W : Liberties) (o q : Tree) → ((x : Name) → names x o ≡ names x q) → has_eval o ≡ has_eval q → (ts us : Trees) → PastRow V W o ts us → PastRow V W q ts us
row_alike V W o q mentions evals ts us (inl r) = inl (record {
  before = r.before;
  kind = r.kind;
  first = r.first;
  spelling = r.spelling;
  symbol = r.symbol;
  init = r.init;
  head = r.head;
  after = r.after;
  goes = r.goes;
  moves = r.moves;
  varies = r.varies;
  once = r.once;
  passed = r.passed;
  outer = sym (mentions (resolved r.spelling r.symbol)) ∙ r.outer;
  earlier = r.earlier;
  declared_earlier = r.declared_earlier;
  initial = r.initial;
  later = r.later;
  unseen = seen_there q ts ∙ sym (ap (λ b. b || has_eval (listed ts)) evals) ∙ sym (seen_there o ts) ∙ r.unseen;
  shape = r.shape;
  written = r.written;
})
row_alike V W o q mentions evals ts us (inr r) = inr (record {
  before = r.before;
  kind = r.kind;
  first = r.first;
  spelling = r.spelling;
  symbol = r.symbol;
  init = r.init;
  binds = r.binds;
  value = r.value;
  last = r.last;
  after = r.after;
  goes = r.goes;
  moves = r.moves;
  varies = r.varies;
  once = r.once;
  passed = r.passed;
  other = r.other;
  outer = sym (mentions (resolved r.spelling r.symbol)) ∙ r.outer;
  earlier = r.earlier;
  declared_earlier = r.declared_earlier;
  initial = r.initial;
  declared_later = r.declared_later;
  later = r.later;
  unseen = seen_there q ts ∙ sym (ap (λ b. b || has_eval (listed ts)) evals) ∙ sym (seen_there o ts) ∙ r.unseen;
  shape = r.shape;
  written = r.written;
})

-- ---- what holds the statements

-- Q is what a row of the statements makes of what holds them, over them; o is that without them, and no list
module _ (V : Assured) (W : Liberties) (o q : Tree) (whole : is_listed_shape (shape_of o) ≡ false) (mentions : (x : Name) → names x o ≡ names x q) (evals : has_eval o ≡ has_eval q) (Q : Tree → Tree → Type 0) (over : Tree → Tree) (held_row : (ts us : Trees) → PastRow V W q ts us → Q (over (listed ts)) (over (listed us))) where
  abbrev is_list : Tree → Type 0
  is_list l = l ≡ listed (children l)

  one_over : (t u : Tree) → is_list t → PastGone V W o t u → Q (over t) (over u) × is_list u
  one_over t u i r =
      let ts = children t in
      let there = subst (λ v. PastGone V W o v u) i r in
      let left = left_listed V W o ts u there in
      (subst (λ v. Q (over v) (over u)) (sym i) (subst (λ v. Q (over (listed ts)) (over v)) (sym left) (held_row ts (children u) (row_alike V W o q mentions evals ts (children u) (row_of V W o ts u there)))), left)

  -- names that go one after another go so from what holds them
  pub several_held : (ts : Trees) (m : Tree) → Several (PastGone V W o) (listed ts) m → Several Q (over (listed ts)) (over m)
  several_held ts m = several_over (PastGone V W o) Q is_list over one_over (listed ts) m refl

  pub none_held : (ts us : Trees) (m : Tree) → PastRemoved V W o (listed ts) m false → PastRow V W q ts us → ⊥
  none_held ts us m r row = none_here V W o whole ts us r.1 (row_alike V W q o (λ x. sym (mentions x)) (sym evals) ts us row)

-- ---- a function

-- no such row reads it
abbrev Unread : BodySets → Liberties → Tree → Type 0
Unread S W t = (us : Trees) → PastRow (S (number_of t)) W (listed (part t 0 ▸ children (part t 1))) (children (part (part t 2) 0)) us → ⊥

module _ (S : BodySets) (W : Liberties) (d g : Bool) (directives : List (List ℕ)) (number : ℕ) (name : Tree) (ps : Trees) where
  abbrev before_function : Tree
  before_function = listed (name ▸ ps)

  abbrev emptied : Tree
  emptied = node (shape.Function d g directives) [] number (name ▸ (listed ps ▸ (absent ▸ none)))

  function_mentions : (x : Name) → names x emptied ≡ names x before_function
  function_mentions x = ap (λ b. names x name || b) (or_none (any_names x ps))

  function_evals : has_eval emptied ≡ has_eval before_function
  unfolding has_eval
  function_evals = ap (λ b. has_eval name || b) (or_none (any_has_eval ps))

  abbrev with_list : Tree → Tree
  with_list m = node (shape.Function d g directives) [] number (name ▸ (listed ps ▸ (node shape.FunctionBody [] 0 (m ▸ none) ▸ none)))

  function_row : (ts us : Trees) → PastRow (S number) W before_function ts us → PastFunctionRow S W (with_list (listed ts)) (with_list (listed us))
  function_row ts us r = record { is_declared = d; is_generator = g; directives = directives; number = number; name = name; parameters = ps; before = ts; after = us; row = r; shape = refl; written = refl }

  function_applied : (ts : Trees) (m : Tree) (c : Bool) → PastRemoved (S number) W emptied (listed ts) m c → AppliedPast S W (function_with d g directives number name ps ts) (with_list m) c
  function_applied ts m true r = several_held (S number) W emptied before_function refl function_mentions function_evals (PastFunctionRow S W) with_list function_row ts m r
  function_applied ts m false r =
      (ap with_list r.0, λ w row. subst (Unread S W) row.shape (λ us. none_held (S number) W emptied before_function refl function_mentions function_evals (PastFunctionRow S W) with_list function_row ts us m r) row.after row.row)

pub of_function : (S : BodySets) (W : Liberties) (t m : Tree) (c : Bool) → is_function t ≡ true → PastRemoved (S (number_of t)) W (with_part t 2 absent) (part (part t 2) 0) m c → (u : Tree) → u ≡ with_part t 2 (with_part (part t 2) 0 m) → AppliedPast S W t u c
of_function S W t m c h r u f =
    let (d, g, directives, is) = function_is t h in
    let n = number_of t in
    let name = part t 0 in
    let ps = children (part t 1) in
    let ts = children (part (part t 2) 0) in
    let there = subst (λ v. PastRemoved (S n) W (with_part v 2 absent) (part (part v 2) 0) m c) is r in
    subst (λ v. AppliedPast S W v u c) (sym is)
    (subst (λ v. AppliedPast S W (function_with d g directives n name ps ts) v c) (sym (f ∙ ap (λ v. with_part v 2 (with_part (part v 2) 0 m)) is)) (function_applied S W d g directives n name ps ts m c there))

pub no_function : (S : BodySets) (W : Liberties) (t : Tree) → is_function t ≡ false → AppliedPast S W t t false
no_function S W t e = (refl, λ w r. true≢false (sym (ap is_function r.shape) ∙ e))

-- ---- an arrow function

abbrev UnreadArrow : BodySets → Liberties → Tree → Type 0
UnreadArrow S W t = (us : Trees) → PastRow (S (number_of t)) W (listed (children (part t 0))) (children (part (part t 1) 0)) us → ⊥

module _ (S : BodySets) (W : Liberties) (directives : List (List ℕ)) (number : ℕ) (ps : Trees) where
  abbrev emptied_arrow : Tree
  emptied_arrow = node (shape.ArrowFunctionExpression directives) [] number (listed ps ▸ (absent ▸ none))

  arrow_mentions : (x : Name) → names x emptied_arrow ≡ names x (listed ps)
  arrow_mentions x = or_none (any_names x ps)

  arrow_evals : has_eval emptied_arrow ≡ has_eval (listed ps)
  unfolding has_eval
  arrow_evals = or_none (any_has_eval ps)

  abbrev arrow_over : Tree → Tree
  arrow_over m = node (shape.ArrowFunctionExpression directives) [] number (listed ps ▸ (node shape.FunctionBody [] 0 (m ▸ none) ▸ none))

  arrow_row : (ts us : Trees) → PastRow (S number) W (listed ps) ts us → PastArrowRow S W (arrow_over (listed ts)) (arrow_over (listed us))
  arrow_row ts us r = record { directives = directives; number = number; parameters = ps; before = ts; after = us; row = r; shape = refl; written = refl }

  arrow_applied : (ts : Trees) (m : Tree) (c : Bool) → PastRemoved (S number) W emptied_arrow (listed ts) m c → AppliedPastArrow S W (arrow_with directives number ps ts) (arrow_over m) c
  arrow_applied ts m true r = several_held (S number) W emptied_arrow (listed ps) refl arrow_mentions arrow_evals (PastArrowRow S W) arrow_over arrow_row ts m r
  arrow_applied ts m false r =
      (ap arrow_over r.0, λ w row. subst (UnreadArrow S W) row.shape (λ us. none_held (S number) W emptied_arrow (listed ps) refl arrow_mentions arrow_evals (PastArrowRow S W) arrow_over arrow_row ts us m r) row.after row.row)

pub of_arrow : (S : BodySets) (W : Liberties) (t m : Tree) (c : Bool) → has_statements t ≡ true → PastRemoved (S (number_of t)) W (with_part t 1 absent) (part (part t 1) 0) m c → (u : Tree) → u ≡ with_part t 1 (with_part (part t 1) 0 m) → AppliedPastArrow S W t u c
of_arrow S W t m c h r u f =
    let (directives, is) = arrow_is t h in
    let n = number_of t in
    let ps = children (part t 0) in
    let ts = children (part (part t 1) 0) in
    let there = subst (λ v. PastRemoved (S n) W (with_part v 1 absent) (part (part v 1) 0) m c) is r in
    subst (λ v. AppliedPastArrow S W v u c) (sym is)
    (subst (λ v. AppliedPastArrow S W (arrow_with directives n ps ts) v c) (sym (f ∙ ap (λ v. with_part v 1 (with_part (part v 1) 0 m)) is)) (arrow_applied S W directives n ps ts m c there))

pub no_arrow : (S : BodySets) (W : Liberties) (t : Tree) → has_statements t ≡ false → AppliedPastArrow S W t t false
no_arrow S W t e = (refl, λ w r. true≢false (sym (ap has_statements r.shape) ∙ e))

-- ---- a module

abbrev UnreadModule : BodySets → Liberties → Tree → Type 0
UnreadModule S W t = (us : Trees) → PastRow (S 0) W (listed none) (children (part t 0)) us → ⊥

pub in_module : (t : Tree) → is_module t ≡ true → is_listed (part t 0) ≡ true
in_module t e = let (directives, is) = module_is t e in ap (λ v. is_listed (part v 0)) is

module _ (S : BodySets) (W : Liberties) (directives : List (List ℕ)) where
  abbrev emptied_module : Tree
  emptied_module = node (shape.Program true directives) [] 0 (absent ▸ none)

  module_mentions : (x : Name) → names x emptied_module ≡ names x (listed none)
  module_mentions x = refl

  module_evals : has_eval emptied_module ≡ has_eval (listed none)
  unfolding has_eval
  module_evals = refl

  abbrev module_over : Tree → Tree
  module_over m = node (shape.Program true directives) [] 0 (m ▸ none)

  module_row : (ts us : Trees) → PastRow (S 0) W (listed none) ts us → PastModuleRow S W (module_over (listed ts)) (module_over (listed us))
  module_row ts us r = record { directives = directives; before = ts; after = us; row = r; shape = refl; written = refl }

  module_applied : (ts : Trees) (m : Tree) (c : Bool) → PastRemoved (S 0) W emptied_module (listed ts) m c → AppliedPastModule S W (program true directives ts) (module_over m) c
  module_applied ts m true r = several_held (S 0) W emptied_module (listed none) refl module_mentions module_evals (PastModuleRow S W) module_over module_row ts m r
  module_applied ts m false r = (ap module_over r.0, λ w row. subst (UnreadModule S W) row.shape (λ us. none_held (S 0) W emptied_module (listed none) refl module_mentions module_evals (PastModuleRow S W) module_over module_row ts us m r) row.after row.row)

pub of_module : (S : BodySets) (W : Liberties) (t m : Tree) (c : Bool) → is_module t ≡ true → PastRemoved (S 0) W (with_part t 0 absent) (part t 0) m c → (u : Tree) → u ≡ with_part t 0 m → AppliedPastModule S W t u c
of_module S W t m c h r u f =
    let (directives, is) = module_is t h in
    let ts = children (part t 0) in
    let there = subst (λ v. PastRemoved (S 0) W (with_part v 0 absent) (part v 0) m c) is r in
    subst (λ v. AppliedPastModule S W v u c) (sym is) (subst (λ v. AppliedPastModule S W (program true directives ts) v c) (sym (f ∙ ap (λ v. with_part v 0 m) is)) (module_applied S W directives ts m c there))

pub no_module : (S : BodySets) (W : Liberties) (t : Tree) → is_module t ≡ false → AppliedPastModule S W t t false
no_module S W t e = (refl, λ w r. true≢false (sym (ap is_module r.shape) ∙ e))

-- ---- a static block

abbrev UnreadStatic : BodySets → Liberties → Tree → Type 0
UnreadStatic S W t = (us : Trees) → PastRow (S (number_of t)) W (listed none) (children (part t 0)) us → ⊥

pub in_static : (t : Tree) → is_static_block t ≡ true → is_listed (part t 0) ≡ true
in_static t e = ap (λ v. is_listed (part v 0)) (static_is t e)

module _ (S : BodySets) (W : Liberties) (number : ℕ) where
  abbrev emptied_static : Tree
  emptied_static = node shape.StaticBlock [] number (absent ▸ none)

  static_mentions : (x : Name) → names x emptied_static ≡ names x (listed none)
  static_mentions x = refl

  static_evals : has_eval emptied_static ≡ has_eval (listed none)
  unfolding has_eval
  static_evals = refl

  abbrev static_over : Tree → Tree
  static_over m = node shape.StaticBlock [] number (m ▸ none)

  static_row : (ts us : Trees) → PastRow (S number) W (listed none) ts us → PastStaticRow S W (static_over (listed ts)) (static_over (listed us))
  static_row ts us r = record { number = number; before = ts; after = us; row = r; shape = refl; written = refl }

  static_applied : (ts : Trees) (m : Tree) (c : Bool) → PastRemoved (S number) W emptied_static (listed ts) m c → AppliedPastStatic S W (static_block number ts) (static_over m) c
  static_applied ts m true r = several_held (S number) W emptied_static (listed none) refl static_mentions static_evals (PastStaticRow S W) static_over static_row ts m r
  static_applied ts m false r = (ap static_over r.0, λ w row. subst (UnreadStatic S W) row.shape (λ us. none_held (S number) W emptied_static (listed none) refl static_mentions static_evals (PastStaticRow S W) static_over static_row ts us m r) row.after row.row)

pub of_static : (S : BodySets) (W : Liberties) (t m : Tree) (c : Bool) → is_static_block t ≡ true → PastRemoved (S (number_of t)) W (with_part t 0 absent) (part t 0) m c → (u : Tree) → u ≡ with_part t 0 m → AppliedPastStatic S W t u c
of_static S W t m c h r u f =
    let is = static_is t h in
    let n = number_of t in
    let ts = children (part t 0) in
    let there = subst (λ v. PastRemoved (S n) W (with_part v 0 absent) (part v 0) m c) is r in
    subst (λ v. AppliedPastStatic S W v u c) (sym is) (subst (λ v. AppliedPastStatic S W (static_block n ts) v c) (sym (f ∙ ap (λ v. with_part v 0 m) is)) (static_applied S W n ts m c there))

pub no_static : (S : BodySets) (W : Liberties) (t : Tree) → is_static_block t ≡ false → AppliedPastStatic S W t t false
no_static S W t e = (refl, λ w r. true≢false (sym (ap is_static_block r.shape) ∙ e))
