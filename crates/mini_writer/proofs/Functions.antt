-- Functions and classes come back, where smaller trees do.
use Rattle.std.proofs.Common.{◌≡◌, ℕ, suc, arith, List, [], ◌∷◌, refl, ap, sym, ◌∙◌, Bool, true, false, ◌&&◌, ◌||◌}
use Rattle.std.specs.Prelude.{Some, option_map, unwrap_or, length, nat_eq, not, codes, if◌then◌else◌}
use Rattle.std.proofs.lemmas.Bool.{or_right, eqb-true, false≢true, true≢false}
use Rattle.serde_json.specs.Data.{Data, null, boolean, number, string, array, object}
use Rattle.serde_json.specs.Find.{get}
use Rattle.mini_model.specs.declared.shape.Shape.TheVariants as shape
use Rattle.mini_model.specs.Tree.{Tree, node, Trees, none, ◌▸◌, absent, is_absent, child_or_absent}
use Rattle.mini_accept.specs.WellShaped as shaped
use Rattle.mini_accept.specs.WellShaped.{Class, Slot, in_body, a_statement, these, each, are_paired, has_use_strict, is_same_flag, is_same_spelling, spelling, is_function_body}
use Rattle.mini_accept.specs.declared.kind.Kind.TheVariants as kind
use Rattle.mini_accept.specs.Places.{field, at}
use Rattle.mini_accept.specs.Fields.{is_object, is_there, has_type, list_at}
use Rattle.mini_accept.specs.Standing.{stands_as, is_key, is_nested}
use Rattle.mini_accept.specs.Plans as plans
use Rattle.mini_accept.specs.Plans.{Child, node_of, one}
use Rattle.mini_accept.specs.Statements.{directives_of}
use Rattle.mini_accept.specs.Functions as function
use Rattle.mini_accept.specs.Functions.{directives_in}
use Rattle.mini_accept.proofs.Wholes.{absent_or, not_absent}
use Rattle.mini_writer.specs.Objects as objects
use Rattle.mini_writer.specs.Written as written
use Rattle.mini_writer.specs.Written.{tree_data, trees_data, body}
use Rattle.mini_writer.proofs.Units.{all_are_units}
use Rattle.mini_writer.proofs.Read.{ChildBack, node_back, plain_back, one_child, no_children, ◌&◌, tree_back}
use Rattle.mini_writer.proofs.Fitting.{Fit, Filled, node_fits, fit_more, and_false, with_one, with_two, with_three, with_four, with_list, with_optional}
use Rattle.mini_writer.proofs.Keys.{is_named as is_named_tree, fit_named, same_written}
use Rattle.mini_writer.proofs.Slots.{Back, Rested, child_back, optional_back, rest_back, fit_object, fit_apart, fit_stands, there_given}
use Rattle.mini_writer.proofs.Entry.{require_is}
use Rattle.mini_writer.proofs.Statements.{Comes}
use Rattle.mini_writer.proofs.Expressions.{Expressive}
use Rattle.mini_writer.proofs.AcceptedBodies.{BodiesBack, directives_back}

-- ---- the directives of a body

module _ (k : ℕ) (back : Back k) (strict : Bool) (ss : List (List ℕ)) (p : are_paired ss ≡ true) (u : all_are_units ss ≡ true) where
  block_directives : (ts : Trees) → Filled k strict (these (shaped.many (a_statement in_body) ∷ [])) ts → (n : ℕ) → directives_in (body ss (tree_data (node shape.FunctionBody [] n ts))) ≡ ss
  block_directives ts f n = with_one k strict (shaped.many (a_statement in_body)) (λ us. directives_in (body ss (tree_data (node shape.FunctionBody [] n us))) ≡ ss)
      (λ a. with_list k strict (shaped.many (a_statement in_body)) (λ v. directives_in (body ss (tree_data (node shape.FunctionBody [] n (v ▸ none)))) ≡ ss) refl (λ l vs w. directives_back k back strict in_body ss vs p u w) a) ts f

  body_directives : (t : Tree) → Fit k strict (shaped.one shaped.a_function_body) t → directives_in (body ss (tree_data t)) ≡ ss
  body_directives (node shape.FunctionBody [] n ts) f = block_directives ts (node_fits k strict shaped.a_function_body shape.FunctionBody [] n ts (fit_more k (suc k) strict (shaped.one shaped.a_function_body) (node shape.FunctionBody [] n ts) (omega arith) f)).filled n
  body_directives (node shape.FunctionBody (x ∷ xs) n ts) f = absurd (false≢true f.fits)
  body_directives (node h xs n ts) f = absurd (and_false _ f.fits)

-- ---- parameters and names

module _ (k : ℕ) (back : Back k) (strict : Bool) where
  parameters_rest : (d : Data) → Rested k back strict d shaped.a_parameter shaped.a_pattern_rest (plans.each shaped.a_parameter)
  parameters_rest d = record { one_apart = refl; rest_apart = refl; reads = λ last e s. refl; rest_reads = λ e s. refl; inner_type = refl; type = refl; is_rest = λ t f. (fit_stands k back strict shaped.a_pattern_rest t refl f).stands }

-- a name that may be absent, unless it is asked for
abbrev pub name_slot : Bool → Slot
name_slot true = shaped.one shaped.a_binding
name_slot false = shaped.one_or_absent shaped.a_binding

name_fits : (k : ℕ) (strict needed : Bool) (t : Tree) → Fit k strict (name_slot needed) t → Fit k strict (shaped.one_or_absent shaped.a_binding) t
name_fits k strict true t f = record { fits = absent_or strict shaped.a_binding t f.fits; units = f.units; small = f.small }
name_fits k strict false t f = f

name_given : (k : ℕ) (back : Back k) (strict needed free : Bool) (t : Tree) → (needed || free) ≡ true → Fit k strict (name_slot needed) t → (free || is_there (Some (tree_data t))) ≡ true
name_given k back strict true free t e f = or_right free _ (there_given (Some (tree_data t)) (tree_data t) refl (fit_object k back strict shaped.a_binding t refl f))
name_given k back strict false true t e f = refl
name_given k back strict false false t e f = absurd (false≢true e)

declared_read : (a s n : Bool) → (s && n) ≡ false → ((a && false) || (s && (n && true))) ≡ false
declared_read true true true e = absurd (true≢false e)
declared_read true true false e = refl
declared_read true false n e = refl
declared_read false true true e = absurd (true≢false e)
declared_read false true false e = refl
declared_read false false n e = refl

-- ---- functions

module _ (k : ℕ) (back : Back k) (bodies : BodiesBack k) (strict : Bool) (c : Class) (g : Bool) (ss : List (List ℕ)) (p : are_paired ss ≡ true) (u : all_are_units ss ≡ true) where
  pub function_declaration : (needed : Bool) → (needed || function.is_default_export (at c)) ≡ true → (not strict && is_nested c) ≡ false → ((id params b : Data) → stands_as c (objects.function true g id params b) ≡ true)
      → (ts : Trees) → Filled k (strict || has_use_strict ss) (these (name_slot needed ∷ shaped.many_and_rest shaped.a_parameter shaped.a_pattern_rest ∷ shaped.one shaped.a_function_body ∷ [])) ts → Comes k strict c (shape.Function true g ss) ts
  function_declaration needed free sloppy stands = with_three k (strict || has_use_strict ss) (name_slot needed) (shaped.many_and_rest shaped.a_parameter shaped.a_pattern_rest) (shaped.one shaped.a_function_body) (Comes k strict c (shape.Function true g ss))
      (λ a b t fa fb ft. with_list k (strict || has_use_strict ss) (shaped.many_and_rest shaped.a_parameter shaped.a_pattern_rest) (λ v. Comes k strict c (shape.Function true g ss) (a ▸ v ▸ t ▸ none)) refl
      (λ l ps w m n. (let d = objects.function true g (tree_data a) (array (trees_data ps)) (body ss (tree_data t)) in
      let cs : List Child = plans.optional (codes "id") shaped.a_binding d ∷ plans.list function.parameter (codes "params") (trees_data ps) ∷ plans.child (codes "body") shaped.a_function_body ∷ [] in
      node_back (suc (suc k)) strict (at c) d kind.FunctionDeclaration (record { shape = shape.Function true g ss; names = []; children = cs }) [] m (a ▸ node shape.Listed [] l ps ▸ t ▸ none)
      (declared_read (is_key c) (not strict) (is_nested c) sloppy) (stands (tree_data a) (array (trees_data ps)) (body ss (tree_data t))) refl
      (require_is (function.is_default_export (at c) || is_there (Some (tree_data a))) _ _ (name_given k back (strict || has_use_strict ss) needed (function.is_default_export (at c)) a free fa)
      (ap (λ q. node_of (shape.Function true g q) cs) (body_directives k back (strict || has_use_strict ss) ss p u t ft)))
      refl
      (optional_back k back (strict || has_use_strict ss) d shaped.a_binding a refl (name_fits k (strict || has_use_strict ss) needed a fa) (codes "id") refl
      & rest_back k back (strict || has_use_strict ss) d shaped.a_parameter shaped.a_pattern_rest (plans.each shaped.a_parameter) (codes "params") l ps (parameters_rest k back (strict || has_use_strict ss) d) refl w
      & one_child (tree_back (suc (suc k)) (strict || has_use_strict ss) d (field (codes "body")) (at shaped.a_function_body) (body ss (tree_data t)) t refl (bodies (strict || has_use_strict ss) shaped.a_function_body t refl ft ss p u)) & no_children) n)) b fb)

  pub function_expression : (kept : Tree → Bool) → ((a : Tree) → kept a ≡ true → (params b : Data) → stands_as c (objects.function false g (tree_data a) params b) ≡ true)
      → (ts : Trees) → Filled k (strict || has_use_strict ss) (these (shaped.one_or_absent shaped.a_binding ∷ shaped.many_and_rest shaped.a_parameter shaped.a_pattern_rest ∷ shaped.one shaped.a_function_body ∷ [])) ts → kept (shaped.first_item ts) ≡ true → Comes k strict c (shape.Function false g ss) ts
  function_expression kept stands = with_three k (strict || has_use_strict ss) (shaped.one_or_absent shaped.a_binding) (shaped.many_and_rest shaped.a_parameter shaped.a_pattern_rest) (shaped.one shaped.a_function_body) (λ ts. kept (shaped.first_item ts) ≡ true → Comes k strict c (shape.Function false g ss) ts)
      (λ a b t fa fb ft is. with_list k (strict || has_use_strict ss) (shaped.many_and_rest shaped.a_parameter shaped.a_pattern_rest) (λ v. Comes k strict c (shape.Function false g ss) (a ▸ v ▸ t ▸ none)) refl
      (λ l ps w m n. (let d = objects.function false g (tree_data a) (array (trees_data ps)) (body ss (tree_data t)) in
      let cs : List Child = plans.optional (codes "id") shaped.a_binding d ∷ plans.list function.parameter (codes "params") (trees_data ps) ∷ plans.child (codes "body") shaped.a_function_body ∷ [] in
      plain_back (suc (suc k)) strict c d kind.FunctionExpression (shape.Function false g ss) cs m (a ▸ node shape.Listed [] l ps ▸ t ▸ none)
      refl (stands a is (array (trees_data ps)) (body ss (tree_data t))) refl
      (ap (λ q. node_of (shape.Function false g q) cs) (body_directives k back (strict || has_use_strict ss) ss p u t ft))
      (optional_back k back (strict || has_use_strict ss) d shaped.a_binding a refl fa (codes "id") refl
      & rest_back k back (strict || has_use_strict ss) d shaped.a_parameter shaped.a_pattern_rest (plans.each shaped.a_parameter) (codes "params") l ps (parameters_rest k back (strict || has_use_strict ss) d) refl w
      & one_child (tree_back (suc (suc k)) (strict || has_use_strict ss) d (field (codes "body")) (at shaped.a_function_body) (body ss (tree_data t)) t refl (bodies (strict || has_use_strict ss) shaped.a_function_body t refl ft ss p u)) & no_children) n)) b fb)

pub absent_data : (a : Tree) → is_absent a ≡ true → tree_data a ≡ null
absent_data (node shape.Absent xs n ts) e = refl
absent_data (node h xs n ts) e = absurd (false≢true e)

-- ---- arrows

-- the body is written as an expression is, or it is a block
pub written_whole : (ss : List (List ℕ)) (d : Data) → is_object d ≡ true → body ss d ≡ d
written_whole ss null e = absurd (false≢true e)
written_whole ss (boolean b) e = absurd (false≢true e)
written_whole ss (number m) e = absurd (false≢true e)
written_whole ss (string r) e = absurd (false≢true e)
written_whole ss (array ds) e = absurd (false≢true e)
written_whole ss (object ms) e = refl

object_expressed : (d : Data) → is_object d ≡ true → written.is_expression d ≡ true
object_expressed (array ds) e = absurd (false≢true e)
object_expressed d e = refl

pub as_expression : (k : ℕ) (strict : Bool) (t : Tree) → is_function_body t ≡ false → Fit k strict (shaped.one shaped.an_arrow_body) t → Fit k strict (shaped.one shaped.an_expression) t
as_expression k strict (node shape.FunctionBody xs n ts) e f = absurd (true≢false e)
as_expression k strict (node h xs n ts) e f = record { fits = f.fits; units = f.units; small = f.small }

no_text : (ss : List (List ℕ)) → nat_eq (length ss) 0 ≡ true → [] ≡ ss
no_text [] e = refl
no_text (s ∷ ss) e = absurd (let same : suc (length ss) ≡ 0 = eqb-true (suc (length ss)) 0 e in omega arith)

record Ended (ss : List (List ℕ)) (t : Tree) : Type 0 where
  directives : directives_in (body ss (tree_data t)) ≡ ss
  flag : is_same_flag (written.is_expression (tree_data t)) (not (has_type (codes "BlockStatement") (body ss (tree_data t)))) ≡ true

module _ (k : ℕ) (back : Back k) (strict : Bool) (ss : List (List ℕ)) (p : are_paired ss ≡ true) (u : all_are_units ss ≡ true) where
  block_ended : (ts : Trees) → Filled k strict (these (shaped.many (a_statement in_body) ∷ [])) ts → (n : ℕ) → Ended ss (node shape.FunctionBody [] n ts)
  block_ended ts f n = record {
    directives = block_directives k back strict ss p u ts f n;
    flag = with_one k strict (shaped.many (a_statement in_body)) (λ us. is_same_flag (written.is_expression (tree_data (node shape.FunctionBody [] n us))) (not (has_type (codes "BlockStatement") (body ss (tree_data (node shape.FunctionBody [] n us))))) ≡ true)
        (λ a. with_list k strict (shaped.many (a_statement in_body)) (λ v. is_same_flag (written.is_expression (tree_data (node shape.FunctionBody [] n (v ▸ none)))) (not (has_type (codes "BlockStatement") (body ss (tree_data (node shape.FunctionBody [] n (v ▸ none)))))) ≡ true) refl (λ l vs w. refl) a) ts f;
  }

  expression_ended : (t : Tree) → nat_eq (length ss) 0 ≡ true → Fit k strict (shaped.one shaped.an_expression) t → Ended ss t
  expression_ended t none_said f =
      let is = fit_object k back strict shaped.an_expression t refl f in
      let no_block = fit_apart k back strict shaped.an_expression t (codes "BlockStatement") refl f refl refl in
      let same = written_whole ss (tree_data t) is in
      record {
        directives = ap directives_in same ∙ (ap (λ b. if b then unwrap_or (option_map directives_of (list_at (codes "body") (tree_data t))) [] else []) no_block ∙ no_text ss none_said);
        flag = ap (λ b. is_same_flag b (not (has_type (codes "BlockStatement") (body ss (tree_data t))))) (object_expressed (tree_data t) is) ∙ (ap (λ d. not (has_type (codes "BlockStatement") d)) same ∙ ap not no_block);
      }

  either_true : (a b : Bool) → (a || b) ≡ true → b ≡ false → a ≡ true
  either_true true b e f = refl
  either_true false b e f = absurd (true≢false (sym e ∙ f))

  ended : (t : Tree) → (nat_eq (length ss) 0 || is_function_body t) ≡ true → Fit k strict (shaped.one shaped.an_arrow_body) t → Ended ss t
  ended (node shape.FunctionBody [] n ts) e f = block_ended ts (node_fits k strict shaped.an_arrow_body shape.FunctionBody [] n ts (fit_more k (suc k) strict (shaped.one shaped.an_arrow_body) (node shape.FunctionBody [] n ts) (omega arith) f)).filled n
  ended (node shape.FunctionBody (x ∷ xs) n ts) e f = absurd (false≢true f.fits)
  ended (node h xs n ts) e f = expression_ended (node h xs n ts) (either_true (nat_eq (length ss) 0) false e refl) (as_expression k strict (node h xs n ts) refl f)

module _ (k : ℕ) (back : Back k) (bodies : BodiesBack k) (strict : Bool) (c : Class) (linked : Bool) (x : Expressive c linked) (ss : List (List ℕ)) (p : are_paired ss ≡ true) (u : all_are_units ss ≡ true) where
  pub arrow : (ts : Trees) → Filled k (strict || has_use_strict ss) (these (shaped.many_and_rest shaped.a_parameter shaped.a_pattern_rest ∷ shaped.one shaped.an_arrow_body ∷ [])) ts → (nat_eq (length ss) 0 || is_function_body (child_or_absent ts 1)) ≡ true → Comes k strict c (shape.ArrowFunctionExpression ss) ts
  arrow = with_two k (strict || has_use_strict ss) (shaped.many_and_rest shaped.a_parameter shaped.a_pattern_rest) (shaped.one shaped.an_arrow_body) (λ ts. (nat_eq (length ss) 0 || is_function_body (child_or_absent ts 1)) ≡ true → Comes k strict c (shape.ArrowFunctionExpression ss) ts)
      (λ b t fb ft e. with_list k (strict || has_use_strict ss) (shaped.many_and_rest shaped.a_parameter shaped.a_pattern_rest) (λ v. Comes k strict c (shape.ArrowFunctionExpression ss) (v ▸ t ▸ none)) refl
      (λ l ps w m n. (let d = objects.arrow_function_expression (array (trees_data ps)) (body ss (tree_data t)) (written.is_expression (tree_data t)) in
      let cs : List Child = plans.list function.parameter (codes "params") (trees_data ps) ∷ plans.child (codes "body") shaped.an_arrow_body ∷ [] in
      let end : Ended ss t = ended k back (strict || has_use_strict ss) ss p u t e ft in
      plain_back (suc (suc k)) strict c d kind.ArrowFunctionExpression (shape.ArrowFunctionExpression ss) cs m (node shape.Listed [] l ps ▸ t ▸ none) refl (x.stands d refl) refl
      (require_is (is_same_flag (written.is_expression (tree_data t)) (not (has_type (codes "BlockStatement") (body ss (tree_data t))))) _ _ end.flag (ap (λ q. node_of (shape.ArrowFunctionExpression q) cs) end.directives))
      (rest_back k back (strict || has_use_strict ss) d shaped.a_parameter shaped.a_pattern_rest (plans.each shaped.a_parameter) (codes "params") l ps (parameters_rest k back (strict || has_use_strict ss) d) refl w
      & one_child (tree_back (suc (suc k)) (strict || has_use_strict ss) d (field (codes "body")) (at shaped.an_arrow_body) (body ss (tree_data t)) t refl (bodies (strict || has_use_strict ss) shaped.an_arrow_body t refl ft ss p u)) & no_children) n)) b fb)

-- ---- classes, whose code is strict

-- the name that a declaration holds once more is written as its name is
name_again : (t u : Tree) (b : Bool) → is_named_tree t ≡ true → is_named_tree u ≡ true → is_absent t ≡ b → (if not b then is_same_spelling (spelling t) (spelling u) else is_absent u) ≡ true → tree_data t ≡ tree_data u
name_again t u true k v is e = absent_data t is ∙ sym (absent_data u e)
name_again t u false k v is e = same_written t u k v e

module _ (k : ℕ) (back : Back k) (strict : Bool) (c : Class) where
  name_held : (d : Data) (needed : Bool) (t u : Tree) → Fit k true (name_slot needed) t → Fit k true (shaped.one_or_absent shaped.a_binding) u → (if not (is_absent t) then is_same_spelling (spelling t) (spelling u) else is_absent u) ≡ true
      → get (codes "id") d ≡ Some (tree_data t) → ChildBack (suc (suc k)) true d (function.name_held true d) (u ▸ none)
  name_held d needed t u f g e there = optional_back k back true d shaped.a_binding u refl g (codes "id") (there ∙ ap Some (name_again t u (is_absent t) (fit_named k true (name_slot needed) t f) (fit_named k true (shaped.one_or_absent shaped.a_binding) u g) refl e))

  no_name_held : (d : Data) (u : Tree) → Fit k true (shaped.one_or_absent shaped.a_binding) u → is_absent u ≡ true → ChildBack (suc (suc k)) true d (function.name_held false d) (u ▸ none)
  no_name_held d = with_optional k true shaped.a_binding (λ u. is_absent u ≡ true → ChildBack (suc (suc k)) true d (function.name_held false d) (u ▸ none))
      (λ n e. record { back = λ m. record { trees = absent ▸ none; next = m; read = refl; same = refl } })
      (λ u g e. absurd (true≢false (sym e ∙ not_absent true shaped.a_binding u g.fits)))

  pub class_declaration : (needed : Bool) → (needed || function.is_default_export (at c)) ≡ true → ((id base b : Data) → stands_as c (objects.class true id base b) ≡ true)
      → (ts : Trees) → Filled k true (these (name_slot needed ∷ shaped.one_or_absent (shaped.an_inner shaped.an_expression) ∷ shaped.one shaped.a_class_body ∷ shaped.one_or_absent shaped.a_binding ∷ [])) ts → shaped.holds_its_name true ts ≡ true → Comes k strict c (shape.Class true) ts
  class_declaration needed free stands = with_four k true (name_slot needed) (shaped.one_or_absent (shaped.an_inner shaped.an_expression)) (shaped.one shaped.a_class_body) (shaped.one_or_absent shaped.a_binding)
      (λ ts. shaped.holds_its_name true ts ≡ true → Comes k strict c (shape.Class true) ts)
      (λ a b t u fa fb ft fu e m n. plain_back (suc (suc k)) strict c _ kind.ClassDeclaration (shape.Class true) _ m _ refl (stands (tree_data a) (tree_data b) (tree_data t)) refl
      (require_is (function.is_default_export (at c) || is_there (Some (tree_data a))) _ _ (name_given k back true needed (function.is_default_export (at c)) a free fa) refl)
      (optional_back k back true _ shaped.a_binding a refl (name_fits k true needed a fa) (codes "id") refl & optional_back k back true _ (shaped.an_inner shaped.an_expression) b refl fb (codes "superClass") refl & child_back k back true _ shaped.a_class_body t refl ft (codes "body") refl
      & name_held _ needed a u fa fu e refl & no_children) n)

  pub class_expression : ((id base b : Data) → stands_as c (objects.class false id base b) ≡ true)
      → (ts : Trees) → Filled k true (these (shaped.one_or_absent shaped.a_binding ∷ shaped.one_or_absent (shaped.an_inner shaped.an_expression) ∷ shaped.one shaped.a_class_body ∷ shaped.one_or_absent shaped.a_binding ∷ [])) ts → shaped.holds_its_name false ts ≡ true → Comes k strict c (shape.Class false) ts
  class_expression stands = with_four k true (shaped.one_or_absent shaped.a_binding) (shaped.one_or_absent (shaped.an_inner shaped.an_expression)) (shaped.one shaped.a_class_body) (shaped.one_or_absent shaped.a_binding)
      (λ ts. shaped.holds_its_name false ts ≡ true → Comes k strict c (shape.Class false) ts)
      (λ a b t u fa fb ft fu e m n. plain_back (suc (suc k)) strict c _ kind.ClassExpression (shape.Class false) _ m _ refl (stands (tree_data a) (tree_data b) (tree_data t)) refl refl
      (optional_back k back true _ shaped.a_binding a refl fa (codes "id") refl & optional_back k back true _ (shaped.an_inner shaped.an_expression) b refl fb (codes "superClass") refl & child_back k back true _ shaped.a_class_body t refl ft (codes "body") refl
      & no_name_held _ u fu e & no_children) n)
