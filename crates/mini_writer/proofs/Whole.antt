-- Each tree that fits comes back.
use Rattle.std.proofs.Common.{◌≡◌, ℕ, zero, suc, ◌+◌, ◌≤◌, List, [], ◌∷◌, refl, ap, sym, subst, arith, Bool, true, false}
use Rattle.std.specs.Prelude.{Some, not, codes, if◌then◌else◌}
use Rattle.std.proofs.lemmas.Bool.{and_parts, or_right, false≢true, true≢false}
use Rattle.serde_json.specs.Data.{Data}
use Rattle.mini_model.specs.declared.name.Name.{Name}
use Rattle.mini_model.specs.declared.shape.Shape.{Shape}
use Rattle.mini_model.specs.declared.shape.Shape.TheVariants as shape
use Rattle.mini_model.specs.Tree.{Tree, node, Trees, none, ◌▸◌, node_counts, shape_of}
use Rattle.mini_accept.specs.WellShaped as shaped
use Rattle.mini_accept.specs.WellShaped.{Class, Slot, filling_by, inner_slots, a_statement, are_paired}
use Rattle.mini_accept.specs.Places.{Step, down, at}
use Rattle.mini_accept.specs.Plans.{tree_at, inner_at}
use Rattle.mini_writer.specs.Written.{tree_data, body}
use Rattle.mini_writer.proofs.Units.{all_are_units}
use Rattle.mini_writer.proofs.Read.{ReadsBack, PartBack, Stands, read_stands, stands_object, stands_apart, tree_back, inner_back}
use Rattle.mini_writer.proofs.Fitting.{Fit, Filled, NodeFits, node_fits, and_false, with_inner}
use Rattle.mini_writer.proofs.Slots.{Back, is_apart, are_ascii, is_inner_in, inner_class, part_of}
use Rattle.mini_writer.proofs.AcceptedBodies.{BodiesBack, is_body, function_body_back}
use Rattle.mini_writer.proofs.Statements.{Comes}
use Rattle.mini_writer.proofs.Functions.{written_whole}
use Rattle.mini_writer.proofs.AnyExpression.{expression_comes, unchained_comes, as_expression, as_link, as_key, as_arrow_body}
use Rattle.mini_writer.proofs.AnyStatement.{statement_comes, no_statement}
use Rattle.mini_writer.proofs.AnyPart as part
use Rattle.mini_writer.proofs.AnyTarget as target
use Rattle.mini_writer.proofs.AnyTarget.{is_inner_shape}
use Rattle.mini_writer.proofs.Named.{reference_comes, binding_comes, arrow_reference}

-- ---- nodes without names

no_inner : (k : ℕ) (strict : Bool) (c : Class) (h : Shape) (ts : Trees) → is_inner_shape h ≡ false → Filled k strict (filling_by (inner_slots c h)) ts → ⊥
no_inner k strict c shape.InnerExpression ts e w = true≢false e
no_inner k strict c h ts e w = false≢true w.fills

ascii_so : (b : Bool) → not b ≡ false → b ≡ true
ascii_so true e = refl
ascii_so false e = sym e

module _ (k : ℕ) (back : Back k) (bodies : BodiesBack k) (strict : Bool) where
  node_comes : (c : Class) (h : Shape) (ts : Trees) → is_apart c ≡ false → is_inner_shape h ≡ false → NodeFits k strict c h [] ts → Comes k strict c h ts
  node_comes shaped.a_program h ts a i w = absurd (true≢false a)
  node_comes (a_statement depth) h ts a i w = statement_comes k back bodies strict depth h ts w
  node_comes shaped.a_block h ts a i w = part.block_comes k back bodies strict h ts w
  node_comes shaped.a_case h ts a i w = part.case_comes k back bodies strict h ts w
  node_comes shaped.a_catch h ts a i w = part.catch_comes k back bodies strict h ts w
  node_comes shaped.an_init h ts a i w = part.init_comes k back bodies strict h ts w
  node_comes (shaped.a_loop_left enumerates) h ts a i w = target.loop_left_comes k back strict enumerates h ts w
  node_comes shaped.a_declarator h ts a i w = part.declarator_comes k back bodies strict h ts w
  node_comes shaped.a_pattern h ts a i w = target.pattern_comes k back strict h ts w
  node_comes shaped.a_pattern_element h ts a i w = target.pattern_element_comes k back strict h ts w
  node_comes shaped.a_pattern_property h ts a i w = target.pattern_property_comes k back strict h ts w
  node_comes shaped.a_pattern_rest h ts a i w = target.pattern_rest_comes k back strict h ts w
  node_comes shaped.a_parameter h ts a i w = target.parameter_comes k back strict h ts w
  node_comes shaped.a_binding h ts a i w = part.no_binding k back bodies strict h ts w
  node_comes shaped.a_label h ts a i w = part.label_comes k back bodies strict h ts w
  node_comes shaped.a_private_name h ts a i w = part.private_name_comes k back bodies strict h ts w
  node_comes shaped.a_function_body h ts a i w = absurd (true≢false a)
  node_comes shaped.an_arrow_body h ts a i w = absurd (true≢false a)
  node_comes shaped.a_class_body h ts a i w = part.class_body_comes k back bodies strict h ts w
  node_comes shaped.a_class_member h ts a i w = part.class_member_comes k back bodies strict h ts w
  node_comes shaped.a_method h ts a i w = part.method_comes k back bodies strict h ts w
  node_comes shaped.an_expression h ts a i w = unchained_comes k back bodies strict shaped.an_expression as_expression h ts w.names w.fields w.field_units w.parts w.filled
  node_comes shaped.a_link h ts a i w = expression_comes k back bodies strict shaped.a_link true as_link h ts w.names w.fields w.field_units w.parts (or_right (not (shaped.is_optional h)) true refl) w.filled
  node_comes shaped.a_chain h ts a i w = part.chain_comes k back bodies strict h ts w
  node_comes shaped.an_argument h ts a i w = part.argument_comes k back bodies strict h ts w
  node_comes shaped.an_inner_argument h ts a i w = part.inner_argument_comes k back bodies strict h ts i w
  node_comes (shaped.an_inner c) h ts a i w = absurd (no_inner k _ c h ts i w.filled)
  node_comes shaped.a_super h ts a i w = part.super_comes k back bodies strict h ts w
  node_comes shaped.an_object_property h ts a i w = part.object_property_comes k back bodies strict h ts w
  node_comes (shaped.a_key true) h ts a i w = unchained_comes k back bodies strict (shaped.a_key true) as_key h ts w.names w.fields w.field_units w.parts w.filled
  node_comes (shaped.a_key false) h ts a i w = part.key_comes k back bodies strict h ts w
  node_comes (shaped.a_private_or_key true) h ts a i w = absurd (no_inner k _ shaped.an_expression h ts i w.filled)
  node_comes (shaped.a_private_or_key false) h ts a i w = part.member_key_comes k back bodies strict h ts w
  node_comes (shaped.an_inner_key true) h ts a i w = absurd (no_inner k _ shaped.an_expression h ts i w.filled)
  node_comes (shaped.an_inner_key false) h ts a i w = part.inner_key_comes k back bodies strict h ts w
  node_comes shaped.a_tagged_template h ts a i w = part.tagged_comes k back bodies strict h ts w
  node_comes shaped.a_target h ts a i w = target.target_comes k back strict h ts w
  node_comes shaped.a_simple_target h ts a i w = target.simple_target_comes k back strict h ts w
  node_comes shaped.an_element_target h ts a i w = target.element_target_comes k back strict h ts i w
  node_comes shaped.a_member_target h ts a i w = target.member_target_comes k back strict h ts w
  node_comes shaped.a_named_target h ts a i w = target.named_target_comes k back strict h ts w
  node_comes shaped.a_target_name h ts a i w = target.target_name_comes k back strict h ts w
  node_comes shaped.a_target_element h ts a i w = target.target_element_comes k back strict h ts i w
  node_comes shaped.a_target_property h ts a i w = target.target_property_comes k back strict h ts w
  node_comes shaped.a_target_rest h ts a i w = target.target_rest_comes k back strict h ts w
  node_comes shaped.an_import h ts a i w = part.import_comes k back bodies strict h ts w
  node_comes shaped.a_module_name h ts a i w = part.module_name_comes k back bodies strict h ts w
  node_comes shaped.a_string h ts a i w = part.string_comes k back bodies strict h ts w
  node_comes shaped.an_export h ts a i w = absurd (true≢false a)
  node_comes shaped.an_exported_name h ts a i w = absurd (true≢false a)
  node_comes shaped.an_exported_declaration h ts a i w = part.exported_declaration_comes k back bodies strict h ts w
  node_comes shaped.a_default_export h ts a i w = part.default_export_comes k back bodies strict h ts w
  node_comes (shaped.a_word v) h ts a i w = part.keyword_comes k back bodies strict v (ascii_so (are_ascii v) a) h ts w

  -- ---- any node

  Whole : Class → Tree → Type 0
  Whole c t = (n : ℕ) → ReadsBack (suc (suc (suc k))) strict (at c) n (tree_data t) t

  by_names : (c : Class) (h : Shape) (xs : List Name) (m : ℕ) (ts : Trees) → is_apart c ≡ false → is_inner_shape h ≡ false → NodeFits k strict c h xs ts → Whole c (node h xs m ts)
  unfolding Whole
  by_names c shape.Identifier [] m ts a i w n = absurd (false≢true w.names)
  by_names c shape.Identifier (x ∷ []) m ts a i w n = reference_comes k strict c x ts a w m n
  by_names c shape.Identifier (x ∷ y ∷ xs) m ts a i w n = absurd (false≢true w.names)
  by_names c shape.BindingIdentifier [] m ts a i w n = absurd (false≢true w.names)
  by_names c shape.BindingIdentifier (x ∷ []) m ts a i w n = binding_comes k strict c x ts w m n
  by_names c shape.BindingIdentifier (x ∷ y ∷ xs) m ts a i w n = absurd (false≢true w.names)
  by_names c shape.VariableDeclarator xs m ts a i w n =
      let r = node_comes c shape.VariableDeclarator ts a i (record { names = refl; fields = w.fields; parts = w.parts; field_units = w.field_units; name_units = refl; filled = w.filled }) m n in
      record { tree = r.tree; next = r.next; read = r.read; same = r.same }
  by_names c h [] m ts a i w n = node_comes c h ts a i w m n
  by_names c h (x ∷ xs) m ts a i w n = absurd (false≢true w.names)

  whole : (c : Class) (t : Tree) → is_apart c ≡ false → is_inner_shape (shape_of t) ≡ false → Fit (suc k) strict (shaped.one c) t → Whole c t
  whole c (node h xs m ts) a i f = by_names c h xs m ts a i (node_fits k strict c h xs m ts f)

  -- ---- parts

  module _ (d : Data) (s : Step) where
    -- it stands there as a node does
    as_node : (c : Class) (t : Tree) → is_inner_in c (tree_data t) ≡ false → down s d ≡ Some (tree_data t) → Whole c t → PartBack (suc (suc (suc k))) strict d (part_of c s (tree_data t)) (t ▸ none)
    unfolding Whole
    as_node c t e there w = subst (λ b. PartBack (suc (suc (suc k))) strict d (if b then inner_at s (at (inner_class c)) else tree_at s (at c)) (t ▸ none)) (sym e) (tree_back (suc (suc (suc k))) strict d s (at c) (tree_data t) t there w)

    -- or as an inner expression
    as_inner : (c : Class) (m : ℕ) (t : Tree) → is_inner_in c (tree_data t) ≡ true → down s d ≡ Some (tree_data t) → Whole (inner_class c) t → PartBack (suc (suc (suc k))) strict d (part_of c s (tree_data t)) (node shape.InnerExpression [] m (t ▸ none) ▸ none)
    unfolding Whole
    as_inner c m t e there w = subst (λ b. PartBack (suc (suc (suc k))) strict d (if b then inner_at s (at (inner_class c)) else tree_at s (at c)) (node shape.InnerExpression [] m (t ▸ none) ▸ none)) (sym e) (inner_back (suc (suc (suc k))) strict d s (at (inner_class c)) (tree_data t) t m there w)

    -- the trees of a class in which inner expressions stand
    module _ (c : Class) (a : is_apart (inner_class c) ≡ false) (expressed : (u : Tree) → is_inner_shape (shape_of u) ≡ true → Fit (suc k) strict (shaped.one (inner_class c)) u → ⊥) (inside : (u : Tree) → Whole (inner_class c) u → is_inner_in c (tree_data u) ≡ true) where
      of_inner : (t : Tree) → Fit (suc k) strict (shaped.one (shaped.an_inner (inner_class c))) t → down s d ≡ Some (tree_data t) → PartBack (suc (suc (suc k))) strict d (part_of c s (tree_data t)) (t ▸ none)
      of_inner = with_inner (suc k) strict (inner_class c) (λ t. down s d ≡ Some (tree_data t) → PartBack (suc (suc (suc k))) strict d (part_of c s (tree_data t)) (t ▸ none))
          (λ m u f there. (let w : Whole (inner_class c) u = whole (inner_class c) u a (not_inner (is_inner_shape (shape_of u)) (λ e. expressed u e f)) f in as_inner c m u (inside u w) there w))
        where
          not_inner : (b : Bool) → (b ≡ true → ⊥) → b ≡ false
          not_inner true e = absurd (e refl)
          not_inner false e = refl

    -- no inner expression is an expression
    no_expression : (u : Tree) → is_inner_shape (shape_of u) ≡ true → Fit (suc k) strict (shaped.one shaped.an_expression) u → ⊥
    no_expression (node shape.InnerExpression xs m ts) e f = and_false _ f.fits
    no_expression (node h xs m ts) e f = false≢true e

    no_link : (u : Tree) → is_inner_shape (shape_of u) ≡ true → Fit (suc k) strict (shaped.one shaped.a_link) u → ⊥
    no_link (node shape.InnerExpression xs m ts) e f = and_false _ f.fits
    no_link (node h xs m ts) e f = false≢true e

    no_member : (u : Tree) → is_inner_shape (shape_of u) ≡ true → Fit (suc k) strict (shaped.one shaped.a_member_target) u → ⊥
    no_member (node shape.InnerExpression xs m ts) e f = and_false _ f.fits
    no_member (node h xs m ts) e f = false≢true e

    stands_of : (c : Class) (u : Tree) → Whole c u → Stands (at c) (tree_data u)
    unfolding Whole
    stands_of c u w = let r = w 0 in read_stands (suc (suc (suc k))) strict (at c) 0 (tree_data u) (r.tree, r.next) r.read

    -- a node, or an inner expression
    inner_of : (c : Class) (t : Tree) → is_inner_shape (shape_of t) ≡ true → ((xs : List Name) (m : ℕ) (ts : Trees) → Fit (suc k) strict (shaped.one c) (node shape.InnerExpression xs m ts) → Fit (suc k) strict (shaped.one (shaped.an_inner (inner_class c))) (node shape.InnerExpression xs m ts)) → Fit (suc k) strict (shaped.one c) t → Fit (suc k) strict (shaped.one (shaped.an_inner (inner_class c))) t
    inner_of c (node shape.InnerExpression xs m ts) e same f = same xs m ts f
    inner_of c (node h xs m ts) e same f = absurd (false≢true e)

    -- ---- inner expressions, at each place

    inner_at_class : (c : Class) (xs : List Name) (m : ℕ) (ts : Trees) → is_apart c ≡ false → Fit (suc k) strict (shaped.one c) (node shape.InnerExpression xs m ts) → down s d ≡ Some (tree_data (node shape.InnerExpression xs m ts))
        → PartBack (suc (suc (suc k))) strict d (part_of c s (tree_data (node shape.InnerExpression xs m ts))) (node shape.InnerExpression xs m ts ▸ none)
    inner_at_class (shaped.an_inner shaped.an_expression) xs m ts a f there = of_inner (shaped.an_inner shaped.an_expression) refl no_expression (λ u w. refl) (node shape.InnerExpression xs m ts) f there
    inner_at_class (shaped.an_inner shaped.a_link) xs m ts a f there = of_inner (shaped.an_inner shaped.a_link) refl no_link (λ u w. refl) (node shape.InnerExpression xs m ts) f there
    inner_at_class (shaped.an_inner c) xs m ts a f there = absurd (true≢false a)
    inner_at_class (shaped.a_private_or_key true) xs m ts a f there = of_inner (shaped.a_private_or_key true) refl no_expression (λ u w. refl) (node shape.InnerExpression xs m ts) (record { fits = f.fits; units = f.units; small = f.small }) there
    inner_at_class (shaped.an_inner_key true) xs m ts a f there = of_inner (shaped.an_inner_key true) refl no_expression (λ u w. refl) (node shape.InnerExpression xs m ts) (record { fits = f.fits; units = f.units; small = f.small }) there
    inner_at_class shaped.an_inner_argument xs m ts a f there = of_inner shaped.an_inner_argument refl no_expression (λ u w. ap not (stands_apart (at shaped.an_expression) (tree_data u) (codes "SpreadElement") (stands_of shaped.an_expression u w) refl)) (node shape.InnerExpression xs m ts) (record { fits = f.fits; units = f.units; small = f.small }) there
    inner_at_class shaped.an_element_target xs m ts a f there = of_inner shaped.an_element_target refl no_member (λ u w. (and_parts _ _ (stands_of shaped.a_member_target u w).stands).0) (node shape.InnerExpression xs m ts) (record { fits = f.fits; units = f.units; small = f.small }) there
    inner_at_class shaped.a_target_element xs m ts a f there = of_inner shaped.a_target_element refl no_member (λ u w. (and_parts _ _ (stands_of shaped.a_member_target u w).stands).0) (node shape.InnerExpression xs m ts) (record { fits = f.fits; units = f.units; small = f.small }) there
    inner_at_class (a_statement depth) xs m ts a f there = absurd (no_statement k _ _ depth ts (node_fits k strict (a_statement depth) shape.InnerExpression xs m ts f).filled)
    inner_at_class (shaped.a_key true) xs m ts a f there = absurd (and_false _ f.fits)
    inner_at_class (shaped.a_key false) xs m ts a f there = absurd (and_false _ f.fits)
    inner_at_class (shaped.a_private_or_key false) xs m ts a f there = absurd (and_false _ f.fits)
    inner_at_class (shaped.an_inner_key false) xs m ts a f there = absurd (and_false _ f.fits)
    inner_at_class c xs m ts a f there = absurd (and_false _ f.fits)

    -- ---- nodes, at each place

    outer_at_class : (c : Class) (h : Shape) (xs : List Name) (m : ℕ) (ts : Trees) → is_apart c ≡ false → is_inner_shape h ≡ false → Fit (suc k) strict (shaped.one c) (node h xs m ts) → down s d ≡ Some (tree_data (node h xs m ts))
        → PartBack (suc (suc (suc k))) strict d (part_of c s (tree_data (node h xs m ts))) (node h xs m ts ▸ none)
    outer_at_class (shaped.an_inner c) h xs m ts a i f there = absurd (no_inner k _ c h ts i (node_fits k strict (shaped.an_inner c) h xs m ts f).filled)
    outer_at_class (shaped.a_private_or_key true) h xs m ts a i f there = absurd (no_inner k _ shaped.an_expression h ts i (node_fits k strict (shaped.a_private_or_key true) h xs m ts f).filled)
    outer_at_class (shaped.an_inner_key true) h xs m ts a i f there = absurd (no_inner k _ shaped.an_expression h ts i (node_fits k strict (shaped.an_inner_key true) h xs m ts f).filled)
    outer_at_class shaped.an_inner_argument h xs m ts a i f there =
        let w : Whole shaped.an_inner_argument (node h xs m ts) = whole shaped.an_inner_argument (node h xs m ts) a i f in
        as_node shaped.an_inner_argument (node h xs m ts) (ap not (stands_of shaped.an_inner_argument (node h xs m ts) w).stands) there w
    outer_at_class shaped.an_element_target h xs m ts a i f there =
        let w : Whole shaped.an_element_target (node h xs m ts) = whole shaped.an_element_target (node h xs m ts) a i f in
        as_node shaped.an_element_target (node h xs m ts) (stands_apart (at shaped.an_element_target) (tree_data (node h xs m ts)) (codes "MemberExpression") (stands_of shaped.an_element_target (node h xs m ts) w) refl) there w
    outer_at_class shaped.a_target_element h xs m ts a i f there =
        let w : Whole shaped.a_target_element (node h xs m ts) = whole shaped.a_target_element (node h xs m ts) a i f in
        as_node shaped.a_target_element (node h xs m ts) (stands_apart (at shaped.a_target_element) (tree_data (node h xs m ts)) (codes "MemberExpression") (stands_of shaped.a_target_element (node h xs m ts) w) refl) there w
    outer_at_class (shaped.a_private_or_key false) h xs m ts a i f there = as_node (shaped.a_private_or_key false) (node h xs m ts) refl there (whole (shaped.a_private_or_key false) (node h xs m ts) a i f)
    outer_at_class (shaped.an_inner_key false) h xs m ts a i f there = as_node (shaped.an_inner_key false) (node h xs m ts) refl there (whole (shaped.an_inner_key false) (node h xs m ts) a i f)
    outer_at_class c h xs m ts a i f there = as_node c (node h xs m ts) refl there (whole c (node h xs m ts) a i f)

    at_class : (c : Class) (t : Tree) → is_apart c ≡ false → Fit (suc k) strict (shaped.one c) t → down s d ≡ Some (tree_data t) → PartBack (suc (suc (suc k))) strict d (part_of c s (tree_data t)) (t ▸ none)
    at_class c (node shape.InnerExpression xs m ts) a f there = inner_at_class c xs m ts a f there
    at_class c (node h xs m ts) a f there = outer_at_class c h xs m ts a refl f there

  -- ---- bodies

  arrow_comes : (h : Shape) (ts : Trees) → shaped.is_function_body_shape h ≡ false → NodeFits k strict shaped.an_arrow_body h [] ts → Comes k strict shaped.an_arrow_body h ts
  arrow_comes shape.FunctionBody ts e w = absurd (true≢false e)
  arrow_comes h ts e w = unchained_comes k back bodies strict shaped.an_arrow_body as_arrow_body h ts w.names w.fields w.field_units w.parts (record { fills = w.filled.fills; units = w.filled.units; small = w.filled.small })

  arrow_by_names : (h : Shape) (xs : List Name) (m : ℕ) (ts : Trees) → shaped.is_function_body_shape h ≡ false → NodeFits k strict shaped.an_arrow_body h xs ts → Whole shaped.an_arrow_body (node h xs m ts)
  unfolding Whole
  arrow_by_names shape.Identifier [] m ts e w n = absurd (false≢true w.names)
  arrow_by_names shape.Identifier (x ∷ []) m ts e w n = arrow_reference k strict x ts w m n
  arrow_by_names shape.Identifier (x ∷ y ∷ xs) m ts e w n = absurd (false≢true w.names)
  arrow_by_names shape.BindingIdentifier xs m ts e w n = absurd (false≢true w.filled.fills)
  arrow_by_names shape.VariableDeclarator xs m ts e w n = absurd (false≢true w.filled.fills)
  arrow_by_names h [] m ts e w n = arrow_comes h ts e w m n
  arrow_by_names h (x ∷ xs) m ts e w n = absurd (false≢true w.names)

  expression_body : (t : Tree) (ss : List (List ℕ)) → Whole shaped.an_arrow_body t → (n : ℕ) → ReadsBack (suc (suc (suc k))) strict (at shaped.an_arrow_body) n (body ss (tree_data t)) t
  unfolding Whole
  expression_body t ss w n =
      let r = w 0 in
      let stands = read_stands (suc (suc (suc k))) strict (at shaped.an_arrow_body) 0 (tree_data t) (r.tree, r.next) r.read in
      subst (λ d. ReadsBack (suc (suc (suc k))) strict (at shaped.an_arrow_body) n d t) (sym (written_whole ss (tree_data t) (stands_object (at shaped.an_arrow_body) (tree_data t) stands))) (w n)

  body_at : (c : Class) (t : Tree) → is_body c ≡ true → Fit (suc k) strict (shaped.one c) t → (ss : List (List ℕ)) → are_paired ss ≡ true → all_are_units ss ≡ true → (n : ℕ) → ReadsBack (suc (suc (suc k))) strict (at c) n (body ss (tree_data t)) t
  body_at shaped.a_function_body (node shape.FunctionBody [] m ts) is f ss p u n = function_body_back k back strict shaped.a_function_body (λ d. refl) (λ d. refl) ss p u ts (node_fits k strict shaped.a_function_body shape.FunctionBody [] m ts f).filled m n
  body_at shaped.a_function_body (node shape.FunctionBody (x ∷ xs) m ts) is f ss p u n = absurd (false≢true f.fits)
  body_at shaped.a_function_body (node h xs m ts) is f ss p u n = absurd (and_false _ f.fits)
  body_at shaped.an_arrow_body (node shape.FunctionBody [] m ts) is f ss p u n = function_body_back k back strict shaped.an_arrow_body (λ d. refl) (λ d. refl) ss p u ts (node_fits k strict shaped.an_arrow_body shape.FunctionBody [] m ts f).filled m n
  body_at shaped.an_arrow_body (node shape.FunctionBody (x ∷ xs) m ts) is f ss p u n = absurd (false≢true f.fits)
  body_at shaped.an_arrow_body (node h xs m ts) is f ss p u n = expression_body (node h xs m ts) ss (arrow_by_names h xs m ts refl (node_fits k strict shaped.an_arrow_body h xs m ts f)) n
  body_at c t is f ss p u n = absurd (false≢true is)

-- ---- all trees

pub record Backs (k : ℕ) : Type 0 where
  pub trees : Back k
  pub bodies : BodiesBack k

none_so_small : (strict : Bool) (s : Slot) (t : Tree) → Fit 0 strict s t → ⊥
none_so_small strict s (node h xs n ts) f = let small : 1 + node_counts ts ≤ 0 = f.small in omega arith

pub all_back : (k : ℕ) → Backs k
all_back zero = record { trees = λ strict c t a f d s there. absurd (none_so_small strict (shaped.one c) t f); bodies = λ strict c t is f ss p u n. absurd (none_so_small strict (shaped.one c) t f) }
all_back (suc k) =
    let below : Backs k = all_back k in
    record { trees = λ strict c t a f d s there. at_class k below.trees below.bodies strict d s c t a f there; bodies = λ strict c t is f ss p u n. body_at k below.trees below.bodies strict c t is f ss p u n }
