-- The plans of what expressions hold: templates and their pieces, spread elements, `super`, and properties.
use Rattle.std.proofs.Common.{◌≡◌, ℕ, suc, List, [], ◌∷◌, refl, ap, sym, ◌∙◌, subst, Bool, true, false, ◌&&◌, ◌||◌}
use Rattle.std.specs.Prelude.{Option, Some, None, option_and_then, option_map, is_some, nat_eq, ◌==◌, not, codes, if◌then◌else◌}
use Rattle.std.proofs.lemmas.Bool.{and_from, and_parts, eqb-true, false≢true}
use Rattle.serde_json.specs.Data.{Data, Items, no_items, item}
use Rattle.serde_json.specs.Find.{get, as_null, as_str}
use Rattle.mini_model.specs.Texts.{units_of}
use Rattle.mini_model.specs.Templates.{cooked}
use Rattle.mini_model.specs.declared.kind.PropertyKind.{PropertyKind}
use Rattle.mini_model.specs.declared.kind.PropertyKind.TheVariants as property
use Rattle.mini_model.specs.declared.shape.Shape.TheVariants as shape
use Rattle.mini_model.specs.Tree.{Tree, none, ◌▸◌, count}
use Rattle.mini_accept.specs.WellShaped as shaped
use Rattle.mini_accept.specs.WellShaped.{in_module, Tagging, tagged, untagged, is_same_flag, is_text_of_cooked, is_same_spelling, value_class}
use Rattle.mini_accept.specs.Places.{down, field, place, Place, at, a_quasi}
use Rattle.mini_accept.specs.Fields.{is_there_with, flag_at, item_count, list_at, paired_units, units_at, has_type, is_one_of}
use Rattle.mini_accept.specs.Standing.{is_piece, may_stand}
use Rattle.mini_accept.specs.Plans.{tree_at, Child, child, node_of, parts_from, list}
use Rattle.mini_accept.specs.Words.{word_at, property_kinds}
use Rattle.mini_accept.specs.Expressions as expression
use Rattle.mini_accept.specs.Expressions.{tagging_of, quasi_part, piece_part, identifier_text, is_same_name, is_name_with_default}
use Rattle.mini_accept.proofs.Fitting.{KnownBelow, known_fits, Spelled, NamedBefore, OfParts, trees_of_parts, OfChildren, PartFits, AllFit, ArePieces}
use Rattle.mini_accept.proofs.Gathered.{WholeIf}
use Rattle.mini_accept.proofs.Types.{some_same, text_is, Typed, types_at, is_expression_place}
use Rattle.mini_accept.proofs.Wholes.{bind_whole, require_whole, inner_fits, all_fit, items_counted, Aside, aside, plain_whole, whole_at}
use Rattle.mini_accept.proofs.Plains.{text_paired, units_paired}

-- ---- templates

-- what is read of the pieces are pieces, the last of them the tail
pieces_read : (strict : Bool) (g : Tagging) (d : Data) (key : List ℕ) (i : ℕ) (e : Data) (ds : Items) (w : OfParts strict d (parts_from (quasi_part g) key i (item e ds))) → shaped.are_quasis g (trees_of_parts strict d (parts_from (quasi_part g) key i (item e ds)) w) ≡ true
pieces_read strict g d key i e no_items w = known_fits strict (a_quasi g true) (down (place key i) d) w.0.0 w.0.1
pieces_read strict g d key i e (item f ds) w = and_from _ _ (known_fits strict (a_quasi g false) (down (place key i) d) w.0.0 w.0.1) (pieces_read strict g d key (suc i) f ds w.1)

pieces_fit : (g : Tagging) (key : List ℕ) (n : ℕ) (ds : Items) → nat_eq (item_count ds) (suc n) ≡ true → ArePieces g (parts_from (quasi_part g) key 0 ds)
pieces_fit g key n no_items e = absurd (cc (eqb-true 0 (suc n) e))
pieces_fit g key n (item d ds) e = λ strict x w. pieces_read strict g x key 0 d ds w

-- the expressions of a template without a tag, and of one with a tag
plain_pieces : (key : List ℕ) (ds : Items) → AllFit (shaped.one shaped.an_expression) (parts_from (piece_part untagged) key 0 ds)
plain_pieces key ds = all_fit (shaped.one shaped.an_expression) (piece_part untagged) key 0 ds (λ last e q s t h. h)

inner_pieces : (key : List ℕ) (ds : Items) → AllFit (shaped.one (shaped.an_inner shaped.an_expression)) (parts_from (piece_part tagged) key 0 ds)
inner_pieces key ds = all_fit (shaped.one (shaped.an_inner shaped.an_expression)) (piece_part tagged) key 0 ds (λ last e q s n t h. inner_fits n _ h)

abbrev template_children : Tagging → Items → Items → List Child
template_children g qs es = list (quasi_part g) (codes "quasis") qs ∷ list (piece_part g) (codes "expressions") es ∷ []

-- one quasi more than expressions
one_more : (strict : Bool) (g : Tagging) (d : Data) (qs es : Items) (w : OfChildren strict d (template_children g qs es)) → nat_eq (item_count qs) (suc (item_count es)) ≡ true
    → nat_eq (count (trees_of_parts strict d (parts_from (quasi_part g) (codes "quasis") 0 qs) w.0)) (suc (count (trees_of_parts strict d (parts_from (piece_part g) (codes "expressions") 0 es) w.1.0))) ≡ true
one_more strict tagged d qs es w e =
    ap (λ n. nat_eq n (suc (count (trees_of_parts strict d (parts_from (piece_part tagged) (codes "expressions") 0 es) w.1.0)))) (items_counted strict d (quasi_part tagged) (codes "quasis") 0 qs w.0 (λ last x q. tt))
    ∙ (ap (λ n. nat_eq (item_count qs) (suc n)) (items_counted strict d (piece_part tagged) (codes "expressions") 0 es w.1.0 (λ last x q. tt)) ∙ e)
one_more strict untagged d qs es w e =
    ap (λ n. nat_eq n (suc (count (trees_of_parts strict d (parts_from (piece_part untagged) (codes "expressions") 0 es) w.1.0)))) (items_counted strict d (quasi_part untagged) (codes "quasis") 0 qs w.0 (λ last x q. tt))
    ∙ (ap (λ n. nat_eq (item_count qs) (suc n)) (items_counted strict d (piece_part untagged) (codes "expressions") 0 es w.1.0 (λ last x q. tt)) ∙ e)

template_aside : (d : Data) → Typed d (codes "TemplateLiteral") → Aside d
template_aside d typed = aside d (codes "TemplateLiteral") typed refl

module _ (strict : Bool) (d : Data) where
  template_by : (p : Place) (g : Tagging) → ((qs es : Items) → nat_eq (item_count qs) (suc (item_count es)) ≡ true → WholeIf strict p d (node_of shape.TemplateLiteral (template_children g qs es))) → WholeIf strict p d (expression.template g d)
  template_by p g f = bind_whole strict p d (list_at (codes "quasis") d) _ (λ qs are. bind_whole strict p d (list_at (codes "expressions") d) _ (λ es too. require_whole strict p d _ _ (λ e. f qs es e)))

  plain_template : (p : Place) → is_expression_place p ≡ true → Aside d → WholeIf strict p d (expression.template untagged d)
  plain_template p there a = template_by p untagged (λ qs es e. record {
    known = plain_whole strict p d there a shape.TemplateLiteral (template_children untagged qs es) refl (λ w. refl)
        (λ w. one_more strict untagged d qs es w e) (pieces_fit untagged (codes "quasis") (item_count es) qs e, (plain_pieces (codes "expressions") es, tt));
  })

  tagged_one : WholeIf strict (at shaped.a_tagged_template) d (expression.template tagged d)
  tagged_one = template_by (at shaped.a_tagged_template) tagged (λ qs es e. whole_at strict (at shaped.a_tagged_template) shaped.a_tagged_template d shape.TemplateLiteral [] (template_children tagged qs es) (λ t h. h) (λ n h. h) refl refl
      (λ w. one_more strict tagged d qs es w e) (pieces_fit tagged (codes "quasis") (item_count es) qs e, (inner_pieces (codes "expressions") es, tt)) (λ w n. tt))

  pub template : (p : Place) → Typed d (codes "TemplateLiteral") → is_one_of (types_at p) (codes "TemplateLiteral") ≡ true → WholeIf strict p d (expression.template (tagging_of p) d)
  template (at shaped.a_tagged_template) typed e = tagged_one
  template (at shaped.an_init) typed e = plain_template (at shaped.an_init) refl (template_aside d typed)
  template (at shaped.an_arrow_body) typed e = plain_template (at shaped.an_arrow_body) refl (template_aside d typed)
  template (at shaped.an_expression) typed e = plain_template (at shaped.an_expression) refl (template_aside d typed)
  template (at shaped.a_link) typed e = plain_template (at shaped.a_link) refl (template_aside d typed)
  template (at shaped.an_argument) typed e = plain_template (at shaped.an_argument) refl (template_aside d typed)
  template (at (shaped.a_key true)) typed e = plain_template (at (shaped.a_key true)) refl (template_aside d typed)
  template (at shaped.a_default_export) typed e = plain_template (at shaped.a_default_export) refl (template_aside d typed)
  template (at (shaped.a_statement in_module)) typed e = absurd (false≢true e)
  template p typed e = absurd (false≢true e)

flag_turned : (a b : Bool) → is_same_flag a b ≡ true → is_same_flag b a ≡ true
flag_turned true true e = e
flag_turned true false e = e
flag_turned false true e = e
flag_turned false false e = e

piece_by : (g : Tagging) (last tail : Bool) (raw : List ℕ) (c : Option (List ℕ)) → is_same_flag tail last ≡ true → expression.may_be_cooked g c ≡ true → shaped.is_quasi_by g last (shape.TemplateElement tail raw c) ≡ true
piece_by tagged last tail raw c same may = same
piece_by untagged last tail raw c same may = and_from _ _ same may

cooked_paired : (o : Option (List ℕ)) (c : Option (List ℕ)) → ((s : List ℕ) → o ≡ Some s → shaped.is_paired s ≡ true) → option_map (λ s. Some s) o ≡ Some c → shaped.is_paired_cooked c ≡ true
cooked_paired None c f e = absurd (cc e)
cooked_paired (Some s) c f e = subst (λ x. shaped.is_paired_cooked x ≡ true) (some_same (Some s) c e) (f s refl)

cooked_by_paired : (b : Bool) (o c : Option (List ℕ)) → (if b then Some None else option_map (λ s. Some s) (option_and_then paired_units o)) ≡ Some c → shaped.is_paired_cooked c ≡ true
cooked_by_paired true o c e = subst (λ x. shaped.is_paired_cooked x ≡ true) (some_same None c e) refl
cooked_by_paired false o c e = cooked_paired (option_and_then paired_units o) c (text_paired o) e

paired_if_cooked : (o : Option Data) (c : Option (List ℕ)) → option_and_then expression.cooked_by o ≡ Some c → shaped.is_paired_cooked c ≡ true
paired_if_cooked None c e = absurd (cc e)
paired_if_cooked (Some d) c e = cooked_by_paired (is_some (as_null d)) (as_str d) c e

module _ (strict : Bool) (g : Tagging) (last : Bool) (d : Data) (stands : may_stand (a_quasi g last) d ≡ true) where
  tail_same : (tail : Bool) → flag_at (codes "tail") d ≡ Some tail → is_same_flag tail last ≡ true
  tail_same tail is = flag_turned last tail (sym (ap (is_piece last) is) ∙ (and_parts (has_type (codes "TemplateElement") d) (is_piece last (flag_at (codes "tail") d)) stands).1)

  pub quasi : WholeIf strict (a_quasi g last) d (expression.quasi g d)
  quasi = bind_whole strict (a_quasi g last) d (flag_at (codes "tail") d) _ (λ tail is. bind_whole strict (a_quasi g last) d (get (codes "value") d) _ (λ value there. bind_whole strict (a_quasi g last) d (units_at (codes "raw") value) _ (λ raw text.
      bind_whole strict (a_quasi g last) d (option_and_then expression.cooked_by (get (codes "cooked") value)) _ (λ c by. require_whole strict (a_quasi g last) d (expression.may_be_cooked g c && is_text_of_cooked c (cooked raw)) _ (λ e.
      let (may, same) = and_parts (expression.may_be_cooked g c) (is_text_of_cooked c (cooked raw)) e in
      record { known = λ w n numbered. (and_from _ _ (piece_by g last tail raw c (tail_same tail is) may) (and_from (n == 0) _ numbered (and_from _ _ (units_paired (codes "raw") value raw text) (and_from _ _ same (paired_if_cooked (get (codes "cooked") value) c by)))), tt) })))))

-- ---- spread elements and `super`

pub spread : (strict : Bool) (p : Place) (d : Data) → is_one_of (types_at p) (codes "SpreadElement") ≡ true → WholeIf strict p d (expression.spread p d)
spread strict (at shaped.an_argument) d e = whole_at strict (at shaped.an_argument) shaped.an_argument d shape.SpreadElement [] _ (λ t h. h) (λ n h. h) refl refl (λ w. refl) (λ s t h. h, tt) (λ w n. tt)
spread strict (at shaped.an_object_property) d e = whole_at strict (at shaped.an_object_property) shaped.an_object_property d shape.SpreadElement [] _ (λ t h. h) (λ n h. h) refl refl (λ w. refl) (λ s t h. h, tt) (λ w n. tt)
spread strict (at shaped.an_inner_argument) d e = whole_at strict (at shaped.an_inner_argument) shaped.an_inner_argument d shape.SpreadElement [] _ (λ t h. h) (λ n h. h) refl refl (λ w. refl) (λ s n t h. inner_fits n _ h, tt) (λ w n. tt)
spread strict (at (shaped.a_statement in_module)) d e = absurd (false≢true e)
spread strict (at (shaped.a_key true)) d e = absurd (false≢true e)
spread strict p d e = absurd (false≢true e)

pub super : (strict : Bool) (p : Place) (d : Data) → is_one_of (types_at p) (codes "Super") ≡ true → WholeIf strict p d (node_of shape.Super [])
super strict (at shaped.a_super) d e = whole_at strict (at shaped.a_super) shaped.a_super d shape.Super [] [] (λ t h. h) (λ n h. h) refl refl (λ w. refl) tt (λ w n. tt)
super strict (at (shaped.a_statement in_module)) d e = absurd (false≢true e)
super strict (at (shaped.a_key true)) d e = absurd (false≢true e)
super strict p d e = absurd (false≢true e)

-- ---- properties

no_same_name : (o : Option Data) → is_there_with (is_same_name None) o ≡ true → ⊥
no_same_name None e = false≢true e
no_same_name (Some d) e = false≢true e

no_name : (d : Data) → is_name_with_default None d ≡ true → ⊥
no_name d e = by_test (has_type (codes "AssignmentPattern") d) e
  where
    by_test : (b : Bool) → (if b then is_there_with (is_same_name None) (get (codes "left") d) else false) ≡ true → ⊥
    by_test true f = no_same_name (get (codes "left") d) f
    by_test false f = false≢true f

-- a key and a value of the same name are spelled alike
pub repeated : (key value : Option Data) (t u : Tree) → ((d : Data) → key ≡ Some d → Spelled d t) → ((d : Data) → value ≡ Some d → NamedBefore d u) → is_there_with (is_name_with_default (option_and_then identifier_text key)) value ≡ true
    → is_same_spelling (shaped.spelling t) (shaped.spelling (shaped.without_default u)) ≡ true
repeated key None t u f g e = absurd (false≢true e)
repeated None (Some v) t u f g e = absurd (no_name v e)
repeated (Some k) (Some v) t u f g e = by_text (identifier_text k) refl e
  where
    by_text : (o : Option (List ℕ)) → identifier_text k ≡ o → is_name_with_default o v ≡ true → is_same_spelling (shaped.spelling t) (shaped.spelling (shaped.without_default u)) ≡ true
    by_text None is n = absurd (no_name v n)
    by_text (Some s) is n = ap (λ o. is_same_spelling o (shaped.spelling (shaped.without_default u))) (f k refl s is) ∙ (ap (is_same_spelling (Some (units_of s))) (g v refl s n) ∙ text_is (units_of s) (units_of s) refl)

-- what is known of a node that is there
pub spelled_below : (strict : Bool) (o : Option Data) (t : Tree) → KnownBelow strict (at (shaped.a_key false)) o t → (d : Data) → o ≡ Some d → Spelled d t
spelled_below strict o t k d e = (subst (λ v. KnownBelow strict (at (shaped.a_key false)) v t) e k).1

named_below : (strict : Bool) (o : Option Data) (t : Tree) → KnownBelow strict (at shaped.an_expression) o t → (d : Data) → o ≡ Some d → NamedBefore d t
named_below strict o t k d e = (subst (λ v. KnownBelow strict (at shaped.an_expression) v t) e k).1.named

module _ (strict : Bool) (d : Data) where
  whole_property : (k : PropertyKind) (is_method shorthand computed : Bool) (t u : Tree) → expression.is_whole_property k is_method shorthand computed d ≡ true → KnownBelow strict (at (shaped.a_key computed)) (get (codes "key") d) t
      → KnownBelow strict (at (value_class k is_method)) (get (codes "value") d) u → shaped.is_whole_property k is_method shorthand computed (t ▸ (u ▸ none)) ≡ true
  whole_property k is_method false computed t u e x y = e
  whole_property k true true computed t u e x y = absurd (false≢true (and_parts _ false e).1)
  whole_property k false true true t u e x y = absurd (false≢true (and_parts _ false e).1)
  whole_property property.Init false true false t u e x y = repeated (get (codes "key") d) (get (codes "value") d) t u (spelled_below strict (get (codes "key") d) t x) (named_below strict (get (codes "value") d) u y) e
  whole_property property.Get false true false t u e x y = absurd (false≢true e)
  whole_property property.Set false true false t u e x y = absurd (false≢true e)

  value_fits : (b : Bool) → PartFits (shaped.one (if b then shaped.a_method else shaped.an_expression)) (tree_at (field (codes "value")) (at (if b then shaped.a_method else shaped.an_expression)))
  value_fits true = λ s t h. h
  value_fits false = λ s t h. h

  pub object_property : WholeIf strict (at shaped.an_object_property) d (expression.object_property d)
  object_property = bind_whole strict (at shaped.an_object_property) d (word_at property_kinds (codes "kind") d) _ (λ k is. bind_whole strict (at shaped.an_object_property) d (flag_at (codes "method") d) _ (λ is_method m.
      bind_whole strict (at shaped.an_object_property) d (flag_at (codes "shorthand") d) _ (λ shorthand s. bind_whole strict (at shaped.an_object_property) d (flag_at (codes "computed") d) _ (λ computed c.
      require_whole strict (at shaped.an_object_property) d (expression.is_whole_property k is_method shorthand computed d) _ (λ e. whole_at strict (at shaped.an_object_property) shaped.an_object_property d (shape.ObjectProperty k is_method shorthand computed) []
      (child (codes "key") (shaped.a_key computed) ∷ child (codes "value") (value_class k is_method) ∷ []) (λ t h. h) (λ n h. h) refl refl
      (λ w. whole_property k is_method shorthand computed w.0.0 w.1.0.0 e w.0.1 w.1.0.1) (λ s t h. h, (value_fits (is_method || not (shaped.is_init k)), tt)) (λ w n. tt))))))
