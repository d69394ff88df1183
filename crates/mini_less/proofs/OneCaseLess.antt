-- A `switch` of one case shows less as an `if` over a block of the statements, or as that block.
use Rattle.std.specs.Prelude.{ℕ, suc, ◌≡◌, refl, nat_eq, Bool, true, false, ◌||◌, ◌&&◌, [], ◌++◌, Some}
use Rattle.std.proofs.Common.{ap, ◌∙◌, sym, subst, inl, inr}
use Rattle.std.proofs.lemmas.List.{append-nil}
use Rattle.mini_model.specs.declared.operator.BinaryOperator.TheVariants.{StrictEquality}
use Rattle.mini_model.specs.declared.place.Position.TheVariants.{Stmt}
use Rattle.mini_model.specs.declared.seat.StmtSeat.{StmtSeat}
use Rattle.mini_model.specs.declared.shape.Shape.TheVariants as shape
use Rattle.mini_model.specs.Paths.{append}
use Rattle.mini_model.specs.Tree.{Tree, Trees, node, none, ◌▸◌, listed, absent, shape_of, expression_statement, if_alone}
use Rattle.mini_accept.specs.WellShaped.{an_expression, one, fits}
use Rattle.mini_laws.specs.declared.names.Declared.TheVariants as declared
use Rattle.mini_laws.specs.DeclaredNames.{names_of}
use Rattle.mini_laws.specs.Foreign.{has_number, any_has_number}
use Rattle.mini_laws.specs.Mentions.{is_among}
use Rattle.mini_laws.specs.Resolved.{Environment}
use Rattle.mini_laws.specs.ScopeList.{by_symbol, has_eval, any_has_eval, is_eval_callee}
use Rattle.mini_laws.specs.Scopes.{opened, scopes_by, lexical_scope}
use Rattle.mini_laws.specs.Shared.{names_arguments, any_names_arguments, is_of_function}
use Rattle.mini_laws.specs.Value.{VariableSet}
use Rattle.mini_shrink.specs.Pace.{Pace, Ends, Silent, Reads, followed, ends_after, Setting, below, pace, reads_if}
use Rattle.mini_shrink.specs.Questions.{Own, asks, early, finds, finds_each, any_of}
use Rattle.mini_shrink.proofs.Finding.{pace_is}
use Rattle.mini_rows.specs.Cases.{switch_case, one_case, bare_break, ended, OneCaseRow}
use Rattle.mini_rows.specs.Lexical.{Row80Lexical}
use Rattle.mini_rows.specs.Lists.{block, switch, is_unscoped, are_unscoped}
use Rattle.mini_rows.specs.Sketches.{AList, If, Block, BigInt, Template, Piece, Asked, AsWhole, AsValue, AsBranch, AsItems, AsItem, AsHeld}
use Rattle.mini_rows.specs.Spellings.{PlainForm, a_number, a_text, a_boolean, a_null, a_big_int, a_template, a_void, plain, binary}
use Rattle.mini_rows.proofs.Arranging.{Any, all_of, of_all}
use Rattle.mini_rows.proofs.ArrangedValues.{is_value}
use Rattle.mini_rows.proofs.BranchLawful.{as_statement}
use Rattle.mini_less.specs.Families.{LessAt}
use Rattle.mini_less.specs.TellsLists.{TellsLists}
use Rattle.mini_less.proofs.ByLists.{value_lexical, value_bound}
use Rattle.mini_less.proofs.Finding.{Lacks, lacks_local, lacks_below, setting, setting_below, belongs_same}
use Rattle.mini_less.proofs.Flags.{none_of, unlike}
use Rattle.mini_less.proofs.Headed.{and_nothing}
use Rattle.mini_less.proofs.IfsLess.{an_if, nothing, says}
use Rattle.mini_less.proofs.ListHeads.{first_of, list_plain}
use Rattle.mini_less.proofs.Made.{ByParts, Spared, spared_by_parts, FactProperties, unscoped_less, lacks_parts, calm_parts, names_parts, numbers_parts}
use Rattle.mini_less.proofs.Nodes as held
use Rattle.mini_less.proofs.Nodes.{a_binary, value_of}
use Rattle.mini_less.proofs.Plainly.{is_reads, split, Calmly, standing, standing_below, early_alone}
use Rattle.mini_less.proofs.SwitchTold.{SwitchTold, switch_told, case_names}

-- what passes from a `switch` of one case to what it goes over and to a block of the statements
pub record ByOneCase (Q : Asked → Tree → Type 0) : Type 1 where
  pub parts : ByParts Q
  pub only : (d t : Tree) (ss : Trees) → is_value (shape_of d) ≡ true → is_value (shape_of t) ≡ true → Q AsWhole (one_case d t ss) → Q AsValue d × Q AsBranch (block ss)
  -- a block without the `break;` that ends it
  pub shorter : (ss : Trees) → Q AsBranch (block (append ss (bare_break ▸ none))) → Q AsBranch (block ss)

-- ---- what is found

pub silent_if : (b : Bool) → b ≡ false → reads_if b ≡ Silent
silent_if b e = ap reads_if e

pub of_silent : (b : Bool) → reads_if b ≡ Silent → b ≡ false
of_silent true e = absurd (cc e)
of_silent false e = refl

module _ (o : Own) (t : TellsLists o) (told : SwitchTold (asks o)) (c : Setting) (env : Environment) where
  abbrev Q : Asked → Tree → Type 0
  Q = Lacks o t.plainly c env

  abbrev at : Asked → Setting
  at = setting o t.plainly c env

  only_lacks : (d test : Tree) (ss : Trees) → is_value (shape_of d) ≡ true → is_value (shape_of test) ≡ true → Q AsWhole (one_case d test ss) → Q AsValue d × Q AsBranch (block ss)
  unfolding finds scopes_by
  only_lacks d test ss v u a =
      let cases = listed (switch_case test ss ▸ none) in
      let k = at AsWhole in
      let first = below false k shape.SwitchStatement 0 0 in
      let second = below false k shape.SwitchStatement 0 1 in
      let e : Environment = (env ++ []) ++ lexical_scope (names_of declared.Lexical cases) in
      let (x, y) = none_of (o k env shape.SwitchStatement [] 0 (d ▸ cases ▸ none)) (finds o first (env ++ []) d || (finds o second e cases || false)) a in
      let (z, w) = none_of (finds o first (env ++ []) d) (finds o second e cases || false) y in
      let list = (none_of (finds o second e cases) false w).0 in
      let there : first ≡ at AsValue = setting_below o t.plainly c env If AsWhole 0 in
      let case = ((lacks_local o t.plainly c e).down AList AsItems (switch_case test ss ▸ none) tt (subst (λ s. finds o s e cases ≡ false) there list)).1.0 in
      let parts = test ▸ listed ss ▸ none in
      let inner = lacks_below o t.plainly c e (λ j. AsItems) (opened (at AsItem).used shape.SwitchCase parts) (λ j. refl) (below false (at AsItem) shape.SwitchCase 0) (λ j. setting_below o t.plainly c env If AsItem 0) 0 e refl parts
      (none_of (o (at AsItem) e shape.SwitchCase [] 0 parts) (any_of (finds_each o (opened (at AsItem).used shape.SwitchCase parts) (below false (at AsItem) shape.SwitchCase 0) 0 e parts)) case).1 in
      let same : e ≡ env ++ lexical_scope (names_of declared.Lexical (listed ss)) = λ i. append-nil env i ++ lexical_scope (case_names test ss (value_lexical test u) i) in
      let body = below false (at AsBranch) shape.BlockStatement 0 0 in
      let held : finds o body (env ++ lexical_scope (names_of declared.Lexical (listed ss))) (listed ss) ≡ false = subst (λ s. finds o s (env ++ lexical_scope (names_of declared.Lexical (listed ss))) (listed ss) ≡ false) (sym (setting_below o t.plainly c env Block AsBranch 0)) (subst (λ r. finds o (at AsItems) r (listed ss) ≡ false) same inner.1.0) in
      let own = of_silent (o (at AsBranch) env shape.BlockStatement [] 0 (listed ss ▸ none)) (told.only k (at AsBranch) env env d test ss (value_lexical test u) (silent_if (o k env shape.SwitchStatement [] 0 (d ▸ cases ▸ none)) x)) in (
        subst (λ s. finds o s env d ≡ false) there (subst (λ r. finds o first r d ≡ false) (append-nil env) z),
        λ j. own j || (held j || false),
      )

  shorter_lacks : (ss : Trees) → Q AsBranch (block (append ss (bare_break ▸ none))) → Q AsBranch (block ss)
  shorter_lacks ss a = of_silent (finds o (at AsBranch) env (block ss)) (sym (pace_is o (at AsBranch) env (block ss)) ∙ told.ended (at AsBranch) env ss ∙ pace_is o (at AsBranch) env (block (append ss (bare_break ▸ none))) ∙ silent_if (finds o (at AsBranch) env (block (append ss (bare_break ▸ none)))) a)

  one_case_lacks : ByOneCase Q
  one_case_lacks = record { parts = lacks_parts o t.plainly c env; only = only_lacks; shorter = shorter_lacks }

-- ---- the order of reads

-- where two say no read, the first says none
pub first_calm : (b : Bool) (p r : Pace) → is_reads (followed (ends_after b p) r) ≡ false → is_reads p ≡ false
first_calm b Ends r e = refl
first_calm b Silent r e = refl
first_calm b Reads r e = e

pub alone_reads : (b : Bool) (p : Pace) → is_reads (followed (ends_after b p) Silent) ≡ is_reads p
alone_reads true Ends = refl
alone_reads true Silent = refl
alone_reads true Reads = refl
alone_reads false Ends = refl
alone_reads false Silent = refl
alone_reads false Reads = refl

module _ (m s : ℕ) (told : SwitchTold (early m s)) (c : Setting) (env : Environment) where
  abbrev C : Asked → Tree → Type 0
  C = Calmly m s c env

  abbrev stood : Asked → Setting
  stood = standing m s c env

  -- a value ends no declaration, and the list in which it stands doesn't matter to it
  pub value_calm : (k : Setting) (e : Environment) (d : Tree) (r : Pace) → is_value (shape_of d) ≡ true → is_reads (followed (ends_after ((early m s).ends k d) (pace (early m s) k e d)) r) ≡ false → (is_reads (pace (early m s) k e d) ≡ false) × (is_reads r ≡ false)
  value_calm k e d r v a =
      let none_ends : (early m s).ends k d ≡ false = (λ j. k.ordered && (is_among (by_symbol s) (value_lexical d v j) || is_among (by_symbol s) (value_bound d v j))) ∙ and_nothing k.ordered in
      split (pace (early m s) k e d) r (sym (λ j. is_reads (followed (ends_after (none_ends j) (pace (early m s) k e d)) r)) ∙ a)

  abbrev from_here : Bool → Setting
  from_here b = record { used = (stood AsItems).used; around = c.around; strict = c.strict; is_body = false; belongs = c.belongs; ordered = b }

  only_calm : (d test : Tree) (ss : Trees) → is_value (shape_of d) ≡ true → is_value (shape_of test) ≡ true → C AsWhole (one_case d test ss) → C AsValue d × C AsBranch (block ss)
  unfolding pace scopes_by
  only_calm d test ss v u a =
      let q = early m s in
      let cases = listed (switch_case test ss ▸ none) in
      let named = names_of declared.Lexical cases in
      let b = is_among (by_symbol s) named in
      let k = below b (stood AsWhole) shape.SwitchStatement 0 in
      let e : Environment = (env ++ []) ++ lexical_scope named in
      let list = below ((true && b) || false) (k 1) shape.Listed 0 0 in
      let inner = below ((true && ((true && b) || false)) || false) list shape.SwitchCase 0 in
      let (x, y) = value_calm (k 0) (env ++ []) d (followed (ends_after (q.ends (k 1) cases) (pace q (k 1) e cases)) Silent) v a in
      let case = first_calm (q.ends list (switch_case test ss)) (pace q list (e ++ []) (switch_case test ss)) Silent (first_calm (q.ends (k 1) cases) (pace q (k 1) e cases) Silent y) in
      let (z, w) = value_calm (inner 0) ((e ++ []) ++ []) test (followed (ends_after (q.ends (inner 1) (listed ss)) (pace q (inner 1) (((e ++ []) ++ []) ++ []) (listed ss))) Silent) u case in
      let body = first_calm (q.ends (inner 1) (listed ss)) (pace q (inner 1) (((e ++ []) ++ []) ++ []) (listed ss)) Silent w in
      let names = case_names test ss (value_lexical test u) in
      let around : ((e ++ []) ++ []) ++ [] ≡ env ++ lexical_scope (names_of declared.Lexical (listed ss)) = append-nil ((e ++ []) ++ []) ∙ append-nil (e ++ []) ∙ append-nil e ∙ (λ i. append-nil env i ++ lexical_scope (names i)) in
      let held = is_among (by_symbol s) (names_of declared.Lexical (listed ss)) in
      let below_block = below held (stood AsBranch) shape.BlockStatement 0 0 in
      let set : inner 1 ≡ below_block = by_sets b held (ap (is_among (by_symbol s)) names) in
      let there : is_reads (pace q below_block (env ++ lexical_scope (names_of declared.Lexical (listed ss))) (listed ss)) ≡ false = subst (λ r. is_reads (pace q below_block r (listed ss)) ≡ false) around (subst (λ r. is_reads (pace q r (((e ++ []) ++ []) ++ []) (listed ss)) ≡ false) set body) in (
        sym (ap is_reads (early_alone m s (k 0) (env ++ []) d v ∙ ap (λ r. pace q r (env ++ []) d) (standing_below m s c env If AsWhole false refl 0) ∙ ap (λ r. pace q (stood AsValue) r d) (append-nil env))) ∙ x,
        alone_reads (q.ends below_block (listed ss)) (pace q below_block (env ++ lexical_scope (names_of declared.Lexical (listed ss))) (listed ss)) ∙ there,
      )
    where
      or_none : (b : Bool) → (((b || false) || false)) ≡ b
      or_none true = refl
      or_none false = refl

      by_sets : (b held : Bool) → b ≡ held → below ((true && ((true && b) || false)) || false) (below ((true && b) || false) (below b (stood AsWhole) shape.SwitchStatement 0 1) shape.Listed 0 0) shape.SwitchCase 0 1 ≡ below held (stood AsBranch) shape.BlockStatement 0 0
      by_sets b held e = λ i. record { used = (stood AsItems).used; around = c.around; strict = c.strict; is_body = false; belongs = (ap (λ x. x && true) (ap (λ x. x && true) (belongs_same If c.belongs 0) ∙ belongs_same If c.belongs 0)) i; ordered = (or_none b ∙ e) i }

  one_case_calm : ByOneCase C
  one_case_calm = record {
    parts = calm_parts m s c env;
    only = only_calm;
    shorter = λ ss a. ap is_reads (told.ended (stood AsBranch) env ss) ∙ a;
  }

-- ---- what a tree tells besides names

one_case_spared : ByOneCase Spared
unfolding has_eval
one_case_spared = record {
  parts = spared_by_parts;
  only = λ d t ss v u a.
      let (x, y) = none_of (has_eval d) (((has_eval t || (any_has_eval ss || false)) || false) || false) a in
      let (z, w) = none_of ((has_eval t || (any_has_eval ss || false)) || false) false y in
      let (p, r) = none_of (has_eval t || (any_has_eval ss || false)) false z in
      let (first, rest) = none_of (has_eval t) (any_has_eval ss || false) p in
      (x, rest);
  shorter = λ ss a j. without ss (none_of (any_has_eval (append ss (bare_break ▸ none))) false a).0 j || false;
}
  where
    without : (ss : Trees) → any_has_eval (append ss (bare_break ▸ none)) ≡ false → any_has_eval ss ≡ false
    without none a = refl
    without (t ▸ ss) a = let (x, y) = none_of (has_eval t) (any_has_eval (append ss (bare_break ▸ none))) a in λ j. x j || without ss y j

one_case_names : ByOneCase (λ d t. names_arguments t ≡ false)
unfolding names_arguments
one_case_names = record {
  parts = names_parts;
  only = λ d t ss v u a.
      let list = any_names_arguments (is_of_function shape.Listed) 0 ss in
      let (x, y) = none_of (names_arguments d) (((names_arguments t || (list || false)) || false) || false) a in
      let (z, w) = none_of ((names_arguments t || (list || false)) || false) false y in
      let (p, r) = none_of (names_arguments t || (list || false)) false z in
      let (first, rest) = none_of (names_arguments t) (list || false) p in
      (x, rest);
  shorter = λ ss a j. without 0 ss (none_of (any_names_arguments (is_of_function shape.Listed) 0 (append ss (bare_break ▸ none))) false a).0 j || false;
}
  where
    without : (i : ℕ) (ss : Trees) → any_names_arguments (is_of_function shape.Listed) i (append ss (bare_break ▸ none)) ≡ false → any_names_arguments (is_of_function shape.Listed) i ss ≡ false
    without i none a = refl
    without i (t ▸ ss) a = let (x, y) = none_of (names_arguments t) (any_names_arguments (is_of_function shape.Listed) (suc i) (append ss (bare_break ▸ none))) a in λ j. x j || without (suc i) ss y j

one_case_numbers : (b : ℕ) → ByOneCase (λ d t. has_number (suc b) t ≡ false)
unfolding has_number
one_case_numbers b = record {
  parts = numbers_parts b;
  only = λ d t ss v u a.
      let k = suc b in
      let list = nat_eq 0 k || any_has_number k ss in
      let inner = nat_eq 0 k || (has_number k t || (list || false)) in
      let cases = nat_eq 0 k || (inner || false) in
      let (x, y) = none_of (has_number k d) (cases || false) (none_of (nat_eq 0 k) (has_number k d || (cases || false)) a).1 in
      let z = (none_of (nat_eq 0 k) (inner || false) (none_of cases false y).0).1 in
      let w = (none_of (nat_eq 0 k) (has_number k t || (list || false)) (none_of inner false z).0).1 in
      let (first, rest) = none_of (has_number k t) (list || false) w in
      (x, λ j. unlike b j || rest j);
  shorter = λ ss a.
      let k = suc b in
      let long = nat_eq 0 k || any_has_number k (append ss (bare_break ▸ none)) in
      let held = (none_of (nat_eq 0 k) (any_has_number k (append ss (bare_break ▸ none))) (none_of long false (none_of (nat_eq 0 k) (long || false) a).1).0).1 in
      λ j. unlike b j || ((unlike b j || without ss held j) || false);
}
  where
    without : (ss : Trees) → any_has_number (suc b) (append ss (bare_break ▸ none)) ≡ false → any_has_number (suc b) ss ≡ false
    without none a = refl
    without (t ▸ ss) a = let (x, y) = none_of (has_number (suc b) t) (any_has_number (suc b) (append ss (bare_break ▸ none))) a in λ j. x j || without ss y j

one_case_properties : FactProperties SwitchTold ByOneCase
one_case_properties = record {
  told = switch_told;
  lacks = λ o t told c env. one_case_lacks o t told c env;
  calm = λ m s told c env. one_case_calm m s told c env;
  spared = one_case_spared;
  names = one_case_names;
  numbers = one_case_numbers;
}

-- ---- 80

module _ (Q : Asked → Tree → Type 0) (l : ByOneCase Q) where
  -- a test that writes a value out holds nothing
  plain_holds : (f : PlainForm) → Q AsValue (plain f)
  plain_holds (a_number n) = held.a_number Q l.parts n
  plain_holds (a_text s) = held.a_text Q l.parts s
  plain_holds (a_boolean b) = held.a_boolean Q l.parts b
  plain_holds a_null = held.a_null Q l.parts
  plain_holds (a_big_int n) = l.parts.up (BigInt n) refl AsValue none tt tt
  plain_holds (a_template is_tail raw cooked) = l.parts.up Template refl AsValue (listed (node (shape.TemplateElement is_tail raw (Some cooked)) [] 0 none ▸ none) ▸ listed none ▸ none) tt (l.parts.up AList refl AsHeld (node (shape.TemplateElement is_tail raw (Some cooked)) [] 0 none ▸ none) tt (l.parts.up (Piece is_tail raw cooked) refl AsHeld none tt tt, tt), (l.parts.up AList refl AsHeld none tt tt, tt))
  plain_holds a_void = held.a_void Q l.parts

  shortened : (b : Bool) (ss : Trees) → Q AsBranch (block (ended b ss)) → Q AsBranch (block ss)
  shortened true ss a = l.shorter ss a
  shortened false ss a = a

  as_if : (d : Tree) (f : PlainForm) (ss : Trees) → Q AsValue d → Q AsBranch (block ss) → Q AsWhole (if_alone (binary StrictEquality d (plain f)) (block ss))
  as_if d f ss x y = an_if Q l.parts AsWhole (binary StrictEquality d (plain f)) (block ss) absent (a_binary Q l.parts StrictEquality d (plain f) x (plain_holds f)) y (nothing Q l.parts AsBranch)

  -- `{ d; { ss } }`
  as_block : (d : Tree) (ss : Trees) → Q AsValue d → Q AsBranch (block ss) → Q AsWhole (block (expression_statement d ▸ (block ss ▸ none)))
  as_block d ss x y =
      l.parts.up Block refl AsWhole (listed (expression_statement d ▸ (block ss ▸ none)) ▸ none) (list_plain (expression_statement d ▸ (block ss ▸ none)) refl)
      (l.parts.up AList refl AsItems (expression_statement d ▸ (block ss ▸ none)) tt (says Q l.parts AsItem d x, ((l.parts.moved (block ss) refl).0 y, tt)), tt)

  -- `{ d; ss }`
  as_list : (d : Tree) (ss : Trees) → are_unscoped ss ≡ true → Q AsValue d → Q AsBranch (block ss) → Q AsWhole (block (expression_statement d ▸ ss))
  as_list d ss u x y =
      let items = (l.parts.down AList refl AsItems ss tt (l.parts.down Block refl AsBranch (listed ss ▸ none) (list_plain ss u) y).0) in
      l.parts.up Block refl AsWhole (listed (expression_statement d ▸ ss) ▸ none) (list_plain (expression_statement d ▸ ss) u)
      (l.parts.up AList refl AsItems (expression_statement d ▸ ss) tt (says Q l.parts AsItem d x, of_all Any Q AsItem 1 ss (all_of Any Q AsItem 0 ss items)), tt)

-- what writes a value out is an expression
plain_value : (f : PlainForm) → is_value (shape_of (plain f)) ≡ true
plain_value (a_number n) = refl
plain_value (a_text s) = refl
plain_value (a_boolean b) = refl
plain_value a_null = refl
plain_value (a_big_int n) = refl
plain_value (a_template is_tail raw cooked) = refl
plain_value a_void = refl

pub switch_number : (d cases : Tree) → has_number 0 (switch d cases) ≡ true
unfolding has_number
switch_number d cases = refl

module _ (q : StmtSeat) (n w d t : Tree) (b : Bool) (ss : Trees) (v : is_value (shape_of t) ≡ true) (e : n ≡ one_case d t (ended b ss)) where
  one_case_less : is_unscoped w ≡ true → is_eval_callee w ≡ false → ((Q : Asked → Tree → Type 0) → ByOneCase Q → Q AsValue d → Q AsBranch (block ss) → Q AsWhole w) → LessAt (Stmt q) n w
  one_case_less u c made =
      unscoped_less SwitchTold ByOneCase one_case_properties q n w (ap is_unscoped e) u (ap (has_number 0) e ∙ switch_number d (listed (switch_case t (ended b ss) ▸ none))) c (λ strict x fit Q l a.
      let there = as_statement strict x (one_case d t (ended b ss)) refl refl (subst (λ m. fits strict x m ≡ true) e fit) in
      let value = value_of strict d (first_of (fits strict (one an_expression) d) _ there) in
      let (over, held) = l.only d t (ended b ss) value v (subst (Q AsWhole) e a) in
      made Q l over (shortened Q l b ss held))

pub row_80 : (q : StmtSeat) (n w : Tree) → OneCaseRow n w → LessAt (Stmt q) n w
row_80 q n w (inl r) =
    one_case_less q n w r.discriminant (plain r.test) r.is_ended r.statements (plain_value r.test) r.shape (ap is_unscoped r.written) (ap is_eval_callee r.written) (λ Q l x y.
    subst (Q AsWhole) (sym r.written) (as_if Q l r.discriminant r.test r.statements x y))
row_80 q n w (inr (inl r)) =
    one_case_less q n w r.discriminant absent r.is_ended r.statements refl r.shape (ap is_unscoped r.written) (ap is_eval_callee r.written) (λ Q l x y.
    subst (Q AsWhole) (sym r.written) (as_list Q l r.discriminant r.statements r.unscoped x y))
row_80 q n w (inr (inr r)) =
    one_case_less q n w r.discriminant absent r.is_ended r.statements refl r.shape (ap is_unscoped r.written) (ap is_eval_callee r.written) (λ Q l x y.
    subst (Q AsWhole) (sym r.written) (as_block Q l r.discriminant r.statements x y))

-- 80 with names that are declared: `switch (a) { case 1: let x = b(); c(x); }` becomes
-- `if (a === 1) { let x = b(); c(x); }`
pub row_80_lexical : (V : VariableSet) (q : StmtSeat) (n w : Tree) → Row80Lexical V n w → LessAt (Stmt q) n w
row_80_lexical V q n w r =
    one_case_less q n w r.discriminant (plain r.test) r.is_ended r.statements (plain_value r.test) r.shape (ap is_unscoped r.written) (ap is_eval_callee r.written) (λ Q l x y.
    subst (Q AsWhole) (sym r.written) (as_if Q l r.discriminant r.test r.statements x y))
