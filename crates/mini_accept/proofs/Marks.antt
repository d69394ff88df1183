-- The plans of calls and members, and the marks of the chains that they are links of.
use Rattle.std.proofs.Common.{◌≡◌, Ordering, Less, Equal, Greater, ℕ, List, [], ◌∷◌, refl, ap, sym, ◌∙◌, inl, inr, Bool, true, false, ◌&&◌, ◌||◌}
use Rattle.std.specs.Prelude.{Option, Some, None, option_and_then, not, codes, if◌then◌else◌}
use Rattle.std.specs.Ordering.{nat_cmp, match_ordering, is_eq}
use Rattle.std.specs.Cmp.Lexicographic.{slice_cmp}
use Rattle.std.proofs.lemmas.Bool.{and_parts, or_cases, not-true, false≢true, true≢false}
use Rattle.std.proofs.lemmas.Map.Text.{is_eq-slice_cmp}
use Rattle.serde_json.specs.Data.{Data, null, boolean, number, string, array, object, Members, no_members, member}
use Rattle.serde_json.specs.Find.{get, get_member, as_bool}
use Rattle.mini_model.specs.declared.shape.Shape.{Shape}
use Rattle.mini_model.specs.declared.shape.Shape.TheVariants as shape
use Rattle.mini_model.specs.Tree.{Tree, node, Trees}
use Rattle.mini_accept.specs.WellShaped as shaped
use Rattle.mini_accept.specs.WellShaped.{Class, in_module, Slot, slots_of, expression_slots, member_slots, variable_slots, pattern_target_slots, is_strict_in, has_names, has_plain_fields, has_its_parts, is_optional, is_text}
use Rattle.mini_accept.specs.Places.{Place, at}
use Rattle.mini_accept.specs.Fields.{require, is_there_with, text_at, flag_by, flag_at, is_text_by, has_type, child_has_type, is_one_of}
use Rattle.mini_accept.specs.Standing.{has_true, is_true}
use Rattle.mini_accept.specs.Plans.{tree_at, inner_at, Child, child, inner, node_of, list}
use Rattle.mini_accept.specs.Expressions as expression
use Rattle.mini_accept.specs.Expressions.{is_link, link_class, link_key, is_chain_link, has_mark, has_mark_at}
use Rattle.mini_accept.proofs.Fitting.{KnownBelow, Marked, Expressed, Seen, OfChildren, trees_of_children, ChildrenFit, children_filled, is_ruled_by_class, parts_by_shape}
use Rattle.mini_accept.proofs.Gathered.{WholeIf}
use Rattle.mini_accept.proofs.Types.{some_same, text_same, Typed, typed_has, types_at, is_expression_place}
use Rattle.mini_accept.proofs.Wholes.{bind_whole, require_whole, either_whole, list_whole, inner_fits, if_fits, all_fit, none_if_false, unmarked, Expression, is_program_shape, own_number, no_program, expression_fits, unlinked, whole_by}
use Rattle.mini_accept.proofs.Plains.{arguments_fit}
use Rattle.mini_accept.proofs.Identifiers.{text_symmetric}

-- ---- marks

by_order : (o : Ordering) (b : Bool) (d : Data) (rest : Option Data) (m : Bool) → is_eq o ≡ b → m ≡ is_there_with has_mark rest → (if b then has_mark d else m) ≡ is_there_with has_mark (match_ordering o rest (Some d) rest)
by_order Less true d rest m is e = absurd (false≢true is)
by_order Less false d rest m is e = e
by_order Equal true d rest m is e = refl
by_order Equal false d rest m is e = absurd (true≢false is)
by_order Greater true d rest m is e = absurd (false≢true is)
by_order Greater false d rest m is e = e

mark_below : (key : List ℕ) (ms : Members) → has_mark_at key ms ≡ is_there_with has_mark (get_member key ms)
mark_below key no_members = refl
mark_below key (member k d ms) = by_order (slice_cmp nat_cmp key k) (is_text k key) d (get_member key ms) (has_mark_at key ms) (is_eq-slice_cmp key k ∙ text_symmetric key k) (mark_below key ms)

-- a link is marked, or the next one is
mark_is : (d : Data) → has_mark d ≡ (is_chain_link d && (has_true (codes "optional") d || is_there_with has_mark (get (link_key d) d)))
mark_is null = refl
mark_is (boolean x) = refl
mark_is (number x) = refl
mark_is (string x) = refl
mark_is (array x) = refl
mark_is (object ms) = ap (λ b. is_chain_link (object ms) && (has_true (codes "optional") (object ms) || b)) (mark_below (link_key (object ms)) ms)

flag_true : (o : Option Data) (b : Bool) → flag_by o ≡ Some b → is_true (option_and_then as_bool o) ≡ b
flag_true None b e = some_same false b e
flag_true (Some d) b e = ap is_true e

marked_by : (d : Data) (key : List ℕ) (b : Bool) → link_key d ≡ key → flag_at (codes "optional") d ≡ Some b → has_mark d ≡ true → (b || is_there_with has_mark (get key d)) ≡ true
marked_by d key b is flag e =
    sym (ap (λ v. v || is_there_with has_mark (get key d)) (flag_true (get (codes "optional") d) b flag))
    ∙ (sym (ap (λ k. has_true (codes "optional") d || is_there_with has_mark (get k d)) is)
    ∙ (and_parts (is_chain_link d) (has_true (codes "optional") d || is_there_with has_mark (get (link_key d) d)) (sym (mark_is d) ∙ e)).1)

text_by : (s : List ℕ) (o : Option (List ℕ)) → is_text_by s o ≡ true → o ≡ Some s
text_by s None e = absurd (false≢true e)
text_by s (Some r) e = ap Some (sym (text_same s r e))

-- the type by its test
pub typed_by : (d : Data) (s : List ℕ) → has_type s d ≡ true → Typed d s
typed_by d s e = text_by s (text_at (codes "type") d) e

super_unmarked : (o : Option Data) → is_there_with (has_type (codes "Super")) o ≡ true → is_there_with has_mark o ≡ false
super_unmarked None e = absurd (false≢true e)
super_unmarked (Some d) e = unmarked d (typed_has d (codes "Super") (codes "CallExpression") (typed_by d (codes "Super") e)) (typed_has d (codes "Super") (codes "MemberExpression") (typed_by d (codes "Super") e))

-- ---- places

abbrev pub is_link_place : Place → Bool
is_link_place (at shaped.a_chain) = true
is_link_place p = is_expression_place p

-- the types of calls and members are none of these
pub record Linked (d : Data) : Type 0 where
  pub block : has_type (codes "BlockStatement") d ≡ false
  pub literal : has_type (codes "Literal") d ≡ false
  pub name : has_type (codes "Identifier") d ≡ false
  pub default : has_type (codes "AssignmentPattern") d ≡ false

expressed : (d : Data) (t : Tree) → Linked d → shaped.is_not_positive_number t ≡ true → Expressed d t
expressed d t a positive = record {
  not_positive = λ e. positive;
  safe = λ z e. absurd (cc (a.literal, e));
  named = λ s e. absurd (cc (a.default, a.name, e));
}

seen_link : (p : Place) (d : Data) (t : Tree) → is_link_place p ≡ true → Linked d → shaped.is_not_positive_number t ≡ true → (is_link p ≡ true → Marked d t) → Seen p d t
seen_link (at shaped.an_init) d t e a positive m = tt
seen_link (at shaped.an_arrow_body) d t e a positive m = λ b. absurd (true≢false (sym b ∙ a.block))
seen_link (at shaped.an_expression) d t e a positive m = expressed d t a positive
seen_link (at shaped.a_link) d t e a positive m = m refl
seen_link (at shaped.a_chain) d t e a positive m = m refl
seen_link (at shaped.an_argument) d t e a positive m = tt
seen_link (at (shaped.a_key true)) d t e a positive m = tt
seen_link (at shaped.a_default_export) d t e a positive m = tt
seen_link p d t e a positive m = absurd (false≢true e)

not_number : (h : Shape) (n : ℕ) (ts : Trees) → shaped.is_chained h ≡ true → shaped.is_not_positive_number (node h [] n ts) ≡ true
not_number (shape.NumericLiteral z) n ts e = absurd (false≢true e)
not_number h n ts e = refl

unoptional : (b : Bool) → (not b || false) ≡ true → b ≡ false
unoptional true e = absurd (false≢true e)
unoptional false e = refl

module _ (strict : Bool) (d : Data) (a : Linked d) where
  -- a call or a member of an expression, or of a link where it is one
  link_at : (p : Place) → is_link_place p ≡ true → (h : Shape) (cs : Class → List Child) (slots : Class → List Slot) → ((k : Class) → expression_slots k h ≡ Some (slots k)) → shaped.is_chained h ≡ true → is_ruled_by_class h ≡ false
      → (has_names h [] && has_plain_fields h) ≡ true → ((ts : Trees) → has_its_parts shaped.a_program h ts ≡ true) → ChildrenFit (slots shaped.a_link) (cs shaped.a_link) → ChildrenFit (slots shaped.an_expression) (cs shaped.an_expression)
      → ((w : OfChildren (is_strict_in strict h) d (cs shaped.a_link)) (n : ℕ) → Marked d (node h [] n (trees_of_children (is_strict_in strict h) d (cs shaped.a_link) w)))
      → (not (is_optional h) || is_link p) ≡ true → WholeIf strict p d (node_of h (cs (link_class p)))
  link_at (at shaped.a_link) e h cs slots loose chained ruled is parts linked free marked may =
      let (names, fields) = and_parts (has_names h []) (has_plain_fields h) is in
      whole_by strict (at shaped.a_link) shaped.a_link d h [] (cs shaped.a_link) (slots shaped.a_link) (λ t f. f) (λ n. own_number shaped.a_link h n (no_program shaped.a_link h (slots shaped.a_link) (loose shaped.a_link))) (loose shaped.a_link) names fields (λ w. parts_by_shape shaped.a_link h _ ruled ∙ parts _) linked marked
  link_at (at shaped.a_chain) e h cs slots loose chained ruled is parts linked free marked may =
      let (names, fields) = and_parts (has_names h []) (has_plain_fields h) is in
      whole_by strict (at shaped.a_chain) shaped.a_chain d h [] (cs shaped.a_link) (slots shaped.a_link) (λ t f m. f) (λ n. own_number shaped.a_chain h n (no_program shaped.a_link h (slots shaped.a_link) (loose shaped.a_link))) (none_if_false (not (shaped.is_chained h)) (expression_slots shaped.a_link h) (ap not chained) ∙ loose shaped.a_link) names fields (λ w. parts_by_shape shaped.a_chain h _ ruled ∙ parts _) linked marked
  link_at p e h cs slots loose chained ruled is parts linked free marked may =
      let (names, fields) = and_parts (has_names h []) (has_plain_fields h) is in
      let x : Expression strict d h (cs shaped.an_expression) = record { slots = slots shaped.an_expression; loose = loose shaped.an_expression; bare = unoptional (is_optional h) may; names = names; plain = λ w. fields; parts = λ w. parts _; filled = λ w. children_filled (is_strict_in strict h) d (slots shaped.an_expression) (cs shaped.an_expression) w free } in
      record { known = λ w n numbered. (expression_fits strict p d h (cs shaped.an_expression) x e refl w n numbered, seen_link p d (node h [] n (trees_of_children (is_strict_in strict h) d (cs shaped.an_expression) w)) e a (not_number h n (trees_of_children (is_strict_in strict h) d (cs shaped.an_expression) w) chained) (λ l. absurd (false≢true l))) }

  -- a call or a member of `super` is no link
  super_at : (p : Place) → is_link_place p ≡ true → (h : Shape) (cs : List Child) → Expression strict d h cs → shaped.is_chained h ≡ false → ((n : ℕ) (ts : Trees) → shaped.has_optional (node h [] n ts) ≡ false) → ((n : ℕ) (ts : Trees) → shaped.is_not_positive_number (node h [] n ts) ≡ true)
      → has_mark d ≡ false → WholeIf strict p d (node_of h cs)
  super_at (at shaped.a_chain) e h cs x chained bare positive none_marked =
      record { known = λ w n numbered. (λ m. absurd (true≢false (sym m ∙ bare n (trees_of_children (is_strict_in strict h) d cs w))), λ m. absurd (true≢false (sym m ∙ none_marked))) }
  super_at p e h cs x chained bare positive none_marked =
      record { known = λ w n numbered. (expression_fits strict p d h cs x e (unlinked (is_link p) (shaped.is_chained h) chained) w n numbered, seen_link p d (node h [] n (trees_of_children (is_strict_in strict h) d cs w)) e a (positive n (trees_of_children (is_strict_in strict h) d cs w)) (λ l m. absurd (true≢false (sym m ∙ none_marked)))) }

-- ---- calls

-- the link below is marked as its value is
callee_marked : (strict : Bool) (o : Option Data) (t : Tree) → KnownBelow strict (at shaped.a_link) o t → is_there_with has_mark o ≡ true → shaped.has_optional t ≡ true
callee_marked strict None t k e = absurd k
callee_marked strict (Some d) t k e = k.1 e

-- a mark of the link itself, or of the next one
next_marked : (strict b : Bool) (o : Option Data) (t : Tree) → KnownBelow strict (at shaped.a_link) o t → (b || is_there_with has_mark o) ≡ true → (b || shaped.has_optional t) ≡ true
next_marked strict true o t k e = refl
next_marked strict false o t k e = callee_marked strict o t k e

-- of `super` nothing is optional
super_bare : (d : Data) (key : List ℕ) → link_key d ≡ key → flag_at (codes "optional") d ≡ Some false → child_has_type key (codes "Super") d ≡ true → has_mark d ≡ false
super_bare d key is flag e = by_test (has_mark d) refl
  where
    by_test : (b : Bool) → has_mark d ≡ b → b ≡ false
    by_test true m = sym (marked_by d key false is flag m) ∙ super_unmarked (get key d) e
    by_test false m = refl

-- the places of calls are those of links
call_there : (p : Place) → is_one_of (types_at p) (codes "CallExpression") ≡ true → is_link_place p ≡ true
call_there (at (shaped.a_statement in_module)) e = absurd (false≢true e)
call_there (at (shaped.a_key true)) e = refl
call_there p e = e

module _ (strict : Bool) (d : Data) (typed : Typed d (codes "CallExpression")) where
  call_linked : Linked d
  call_linked = record { block = typed_has d (codes "CallExpression") (codes "BlockStatement") typed; literal = typed_has d (codes "CallExpression") (codes "Literal") typed; name = typed_has d (codes "CallExpression") (codes "Identifier") typed; default = typed_has d (codes "CallExpression") (codes "AssignmentPattern") typed }

  call_key : link_key d ≡ codes "callee"
  call_key = ap (λ b. if b then codes "callee" else (if has_type (codes "MemberExpression") d then codes "object" else [])) (typed_has d (codes "CallExpression") (codes "CallExpression") typed)

  super_call : (p : Place) → is_link_place p ≡ true → (optional : Bool) → flag_at (codes "optional") d ≡ Some optional → child_has_type (codes "callee") (codes "Super") d ≡ true → WholeIf strict p d (expression.super_call optional d)
  super_call p e optional flag is_super = list_whole strict p d expression.inner_argument (codes "arguments") _ (λ ds. require_whole strict p d (not optional) _ (λ bare.
      super_at strict d call_linked p e shape.SuperCallExpression (child (codes "callee") shaped.a_super ∷ list expression.inner_argument (codes "arguments") ds ∷ [])
      (record {
        slots = shaped.one shaped.a_super ∷ shaped.many shaped.an_inner_argument ∷ [];
        loose = refl;
        bare = refl;
        names = refl;
        plain = λ w. refl;
        parts = λ w. refl;
        filled = λ w. children_filled strict d (shaped.one shaped.a_super ∷ shaped.many shaped.an_inner_argument ∷ []) (child (codes "callee") shaped.a_super ∷ list expression.inner_argument (codes "arguments") ds ∷ []) w
            (λ s t h. h, (all_fit (shaped.one shaped.an_inner_argument) expression.inner_argument (codes "arguments") 0 ds (λ last x q. if_fits (shaped.one shaped.an_inner_argument) (has_type (codes "SpreadElement") x) (tree_at q (at shaped.an_inner_argument)) (inner_at q (at shaped.an_expression)) (λ y s t h. h) (λ n s m t h. inner_fits m _ h)), tt));
      })
      refl (λ n ts. refl) (λ n ts. refl) (super_bare d (codes "callee") call_key (flag ∙ ap Some (not-true optional bare)) is_super)))

  plain_call : (p : Place) → is_link_place p ≡ true → (optional : Bool) → flag_at (codes "optional") d ≡ Some optional → WholeIf strict p d (expression.plain_call optional p d)
  plain_call p e optional flag = list_whole strict p d expression.argument (codes "arguments") _ (λ ds. require_whole strict p d (not optional || is_link p) _ (λ may.
      link_at strict d call_linked p e (shape.CallExpression optional) (λ k. child (codes "callee") k ∷ list expression.argument (codes "arguments") ds ∷ []) (λ k. shaped.one k ∷ shaped.many shaped.an_argument ∷ []) (λ k. refl) refl refl refl (λ ts. refl)
      (λ s t h. h, (arguments_fit (codes "arguments") ds, tt)) (λ s t h. h, (arguments_fit (codes "arguments") ds, tt))
      (λ w n m. next_marked strict optional (get (codes "callee") d) w.0.0 w.0.1 (marked_by d (codes "callee") optional call_key flag m)) may))

  pub call : (p : Place) → is_one_of (types_at p) (codes "CallExpression") ≡ true → WholeIf strict p d (expression.call p d)
  call p there = bind_whole strict p d (flag_at (codes "optional") d) _ (λ optional flag. either_whole strict p d (child_has_type (codes "callee") (codes "Super") d) _ _ (λ yes. super_call p (call_there p there) optional flag yes) (λ no. plain_call p (call_there p there) optional flag))

-- ---- members

-- the places of what is assigned to
abbrev is_member_place : Place → Bool
is_member_place (at (shaped.a_loop_left enumerates)) = true
is_member_place (at shaped.a_target) = true
is_member_place (at shaped.a_simple_target) = true
is_member_place (at shaped.a_member_target) = true
is_member_place p = false

member_there : (p : Place) → is_one_of (types_at p) (codes "MemberExpression") ≡ true → (is_link_place p || is_member_place p) ≡ true
member_there (at (shaped.a_statement in_module)) e = absurd (false≢true e)
member_there (at (shaped.a_key true)) e = refl
member_there p e = e

simple_same : (strict : Bool) (h : Shape) (slots : List Slot) → member_slots h ≡ Some slots → slots_of strict shaped.a_simple_target h ≡ Some slots
simple_same strict shape.Identifier slots e = absurd (cc e)
simple_same strict h slots e = e

no_program_target : (h : Shape) (slots : List Slot) → member_slots h ≡ Some slots → is_program_shape h ≡ false
no_program_target (shape.Program m ds) slots e = absurd (cc e)
no_program_target h slots e = refl

-- a member is no declaration and no pattern
target_same : (h : Shape) (slots : List Slot) → member_slots h ≡ Some slots → shaped.or_else (pattern_target_slots h) (member_slots h) ≡ Some slots
target_same shape.Identifier slots e = absurd (cc e)
target_same shape.ObjectAssignmentTarget slots e = absurd (cc e)
target_same shape.ArrayAssignmentTarget slots e = absurd (cc e)
target_same h slots e = e

loop_same : (h : Shape) (slots : List Slot) → member_slots h ≡ Some slots → shaped.or_else (variable_slots h) (shaped.or_else (pattern_target_slots h) (member_slots h)) ≡ Some slots
loop_same (shape.VariableDeclaration k) slots e = absurd (cc e)
loop_same h slots e = target_same h slots e

module _ (strict : Bool) (d : Data) where
  target_at : (p : Place) → is_member_place p ≡ true → (h : Shape) (cs : List Child) (slots : List Slot) → member_slots h ≡ Some slots → is_ruled_by_class h ≡ false → (has_names h [] && has_plain_fields h) ≡ true → ((ts : Trees) → has_its_parts shaped.a_program h ts ≡ true)
      → ChildrenFit slots cs → WholeIf strict p d (node_of h cs)
  target_at (at (shaped.a_loop_left enumerates)) e h cs slots is ruled fields parts fit =
      let (names, plain) = and_parts (has_names h []) (has_plain_fields h) fields in
      whole_by strict (at (shaped.a_loop_left enumerates)) (shaped.a_loop_left enumerates) d h [] cs slots (λ t f. f) (λ n. own_number (shaped.a_loop_left enumerates) h n (no_program_target h slots is)) (loop_same h slots is) names plain (λ w. parts_by_shape (shaped.a_loop_left enumerates) h _ ruled ∙ parts _) fit (λ w n. tt)
  target_at (at shaped.a_target) e h cs slots is ruled fields parts fit =
      let (names, plain) = and_parts (has_names h []) (has_plain_fields h) fields in
      whole_by strict (at shaped.a_target) shaped.a_target d h [] cs slots (λ t f. f) (λ n. own_number shaped.a_target h n (no_program_target h slots is)) (target_same h slots is) names plain (λ w. parts_by_shape shaped.a_target h _ ruled ∙ parts _) fit (λ w n. tt)
  target_at (at shaped.a_simple_target) e h cs slots is ruled fields parts fit =
      let (names, plain) = and_parts (has_names h []) (has_plain_fields h) fields in
      whole_by strict (at shaped.a_simple_target) shaped.a_simple_target d h [] cs slots (λ t f. f) (λ n. own_number shaped.a_simple_target h n (no_program_target h slots is)) (simple_same strict h slots is) names plain (λ w. parts_by_shape shaped.a_simple_target h _ ruled ∙ parts _) fit (λ w n. tt)
  target_at (at shaped.a_member_target) e h cs slots is ruled fields parts fit =
      let (names, plain) = and_parts (has_names h []) (has_plain_fields h) fields in
      whole_by strict (at shaped.a_member_target) shaped.a_member_target d h [] cs slots (λ t f. f) (λ n. own_number shaped.a_member_target h n (no_program_target h slots is)) is names plain (λ w. parts_by_shape shaped.a_member_target h _ ruled ∙ parts _) fit (λ w n. tt)
  target_at p e h cs slots is ruled fields parts fit = absurd (false≢true e)

  target_form : (p : Place) → is_member_place p ≡ true → (optional computed : Bool) → optional ≡ false → WholeIf strict p d (if computed then expression.computed_member optional shaped.an_expression else expression.named_member optional shaped.an_expression d)
  target_form p e true computed bare = absurd (true≢false bare)
  target_form p e false computed bare = either_whole strict p d computed _ _
      (λ yes. target_at p e (shape.ComputedMemberExpression false) _ _ refl refl refl (λ ts. refl) (λ s t h. h, (λ s t h. h, tt)))
      (λ no. either_whole strict p d (child_has_type (codes "property") (codes "PrivateIdentifier") d) _ _
      (λ private. target_at p e (shape.PrivateFieldExpression false) _ _ refl refl refl (λ ts. refl) (λ s n t h. inner_fits n _ h, (λ s t h. h, tt)))
      (λ named. target_at p e (shape.StaticMemberExpression false) _ _ refl refl refl (λ ts. refl) (λ s t h. h, (λ s t h. h, tt))))

  target_plain : (p : Place) → is_member_place p ≡ true → (optional computed : Bool) → WholeIf strict p d (require (not optional || false) (if computed then expression.computed_member optional shaped.an_expression else expression.named_member optional shaped.an_expression d))
  target_plain p e optional computed = require_whole strict p d (not optional || false) _ (λ may. target_form p e optional computed (unoptional optional may))

  plain_target : (p : Place) → is_member_place p ≡ true → (optional computed : Bool) → WholeIf strict p d (expression.plain_member optional computed p d)
  plain_target (at (shaped.a_loop_left enumerates)) e optional computed = target_plain (at (shaped.a_loop_left enumerates)) refl optional computed
  plain_target (at shaped.a_target) e optional computed = target_plain (at shaped.a_target) refl optional computed
  plain_target (at shaped.a_simple_target) e optional computed = target_plain (at shaped.a_simple_target) refl optional computed
  plain_target (at shaped.a_member_target) e optional computed = target_plain (at shaped.a_member_target) refl optional computed
  plain_target p e optional computed = absurd (false≢true e)

  super_target : (p : Place) → is_member_place p ≡ true → (computed : Bool) → WholeIf strict p d (expression.super_member computed)
  super_target p e computed = either_whole strict p d computed _ _
      (λ yes. target_at p e shape.SuperComputedMemberExpression _ _ refl refl refl (λ ts. refl) (λ s t h. h, (λ s n t h. inner_fits n _ h, tt)))
      (λ no. target_at p e shape.SuperStaticMemberExpression _ _ refl refl refl (λ ts. refl) (λ s t h. h, (λ s t h. h, tt)))

module _ (strict : Bool) (d : Data) (typed : Typed d (codes "MemberExpression")) where
  member_linked : Linked d
  member_linked = record { block = typed_has d (codes "MemberExpression") (codes "BlockStatement") typed; literal = typed_has d (codes "MemberExpression") (codes "Literal") typed; name = typed_has d (codes "MemberExpression") (codes "Identifier") typed; default = typed_has d (codes "MemberExpression") (codes "AssignmentPattern") typed }

  member_key : link_key d ≡ codes "object"
  member_key =
      ap (λ b. if b then codes "callee" else (if has_type (codes "MemberExpression") d then codes "object" else [])) (typed_has d (codes "MemberExpression") (codes "CallExpression") typed)
      ∙ ap (λ b. if b then codes "object" else []) (typed_has d (codes "MemberExpression") (codes "MemberExpression") typed)

  super_link : (p : Place) → is_link_place p ≡ true → (computed : Bool) → has_mark d ≡ false → WholeIf strict p d (expression.super_member computed)
  super_link p e computed bare = either_whole strict p d computed _ _
      (λ yes. super_at strict d member_linked p e shape.SuperComputedMemberExpression _ (record {
        slots = shaped.one shaped.a_super ∷ shaped.one (shaped.an_inner shaped.an_expression) ∷ [];
        loose = refl;
        bare = refl;
        names = refl;
        plain = λ w. refl;
        parts = λ w. refl;
        filled = λ w. children_filled strict d (shaped.one shaped.a_super ∷ shaped.one (shaped.an_inner shaped.an_expression) ∷ []) (child (codes "object") shaped.a_super ∷ inner (codes "property") shaped.an_expression ∷ []) w (λ s t h. h, (λ s n t h. inner_fits n _ h, tt));
      })
      refl (λ n ts. refl) (λ n ts. refl) bare)
      (λ no. super_at strict d member_linked p e shape.SuperStaticMemberExpression _ (record {
        slots = shaped.one shaped.a_super ∷ shaped.one shaped.a_label ∷ [];
        loose = refl;
        bare = refl;
        names = refl;
        plain = λ w. refl;
        parts = λ w. refl;
        filled = λ w. children_filled strict d (shaped.one shaped.a_super ∷ shaped.one shaped.a_label ∷ []) (child (codes "object") shaped.a_super ∷ child (codes "property") shaped.a_label ∷ []) w (λ s t h. h, (λ s t h. h, tt));
      })
      refl (λ n ts. refl) (λ n ts. refl) bare)

  link_form : (p : Place) → is_link_place p ≡ true → (optional computed : Bool) → flag_at (codes "optional") d ≡ Some optional → (not optional || is_link p) ≡ true
      → WholeIf strict p d (if computed then expression.computed_member optional (link_class p) else expression.named_member optional (link_class p) d)
  link_form p e optional computed flag may = either_whole strict p d computed _ _
      (λ yes. link_at strict d member_linked p e (shape.ComputedMemberExpression optional) (λ k. child (codes "object") k ∷ child (codes "property") shaped.an_expression ∷ []) (λ k. shaped.one k ∷ shaped.one shaped.an_expression ∷ []) (λ k. refl) refl refl refl (λ ts. refl)
      (λ s t h. h, (λ s t h. h, tt)) (λ s t h. h, (λ s t h. h, tt)) (λ w n m. next_marked strict optional (get (codes "object") d) w.0.0 w.0.1 (marked_by d (codes "object") optional member_key flag m)) may)
      (λ no. either_whole strict p d (child_has_type (codes "property") (codes "PrivateIdentifier") d) _ _
      (λ private. link_at strict d member_linked p e (shape.PrivateFieldExpression optional) (λ k. inner (codes "object") k ∷ child (codes "property") shaped.a_private_name ∷ []) (λ k. shaped.one (shaped.an_inner k) ∷ shaped.one shaped.a_private_name ∷ []) (λ k. refl) refl refl refl (λ ts. refl)
      (λ s n t h. inner_fits n _ h, (λ s t h. h, tt)) (λ s n t h. inner_fits n _ h, (λ s t h. h, tt)) (λ w n m. next_marked strict optional (get (codes "object") d) w.0.1 w.0.2 (marked_by d (codes "object") optional member_key flag m)) may)
      (λ named. link_at strict d member_linked p e (shape.StaticMemberExpression optional) (λ k. child (codes "object") k ∷ child (codes "property") shaped.a_label ∷ []) (λ k. shaped.one k ∷ shaped.one shaped.a_label ∷ []) (λ k. refl) refl refl refl (λ ts. refl)
      (λ s t h. h, (λ s t h. h, tt)) (λ s t h. h, (λ s t h. h, tt)) (λ w n m. next_marked strict optional (get (codes "object") d) w.0.0 w.0.1 (marked_by d (codes "object") optional member_key flag m)) may))

  linked_member : (p : Place) → is_link_place p ≡ true → (optional computed : Bool) → flag_at (codes "optional") d ≡ Some optional
      → WholeIf strict p d (if child_has_type (codes "object") (codes "Super") d then require (not optional) (expression.super_member computed) else expression.plain_member optional computed p d)
  linked_member p e optional computed flag = either_whole strict p d (child_has_type (codes "object") (codes "Super") d) _ _
      (λ yes. require_whole strict p d (not optional) _ (λ bare. super_link p e computed (super_bare d (codes "object") member_key (flag ∙ ap Some (not-true optional bare)) yes)))
      (λ no. require_whole strict p d (not optional || is_link p) _ (λ may. link_form p e optional computed flag may))

  assigned_member : (p : Place) → is_member_place p ≡ true → (optional computed : Bool)
      → WholeIf strict p d (if child_has_type (codes "object") (codes "Super") d then require (not optional) (expression.super_member computed) else expression.plain_member optional computed p d)
  assigned_member p e optional computed = either_whole strict p d (child_has_type (codes "object") (codes "Super") d) _ _
      (λ yes. require_whole strict p d (not optional) _ (λ bare. super_target strict d p e computed)) (λ no. plain_target strict d p e optional computed)

  pub member_expression : (p : Place) → is_one_of (types_at p) (codes "MemberExpression") ≡ true → WholeIf strict p d (expression.member_expression p d)
  member_expression p there = bind_whole strict p d (flag_at (codes "optional") d) _ (λ optional flag. bind_whole strict p d (flag_at (codes "computed") d) _ (λ computed is.
      elim (or_cases (is_link_place p) (is_member_place p) (member_there p there)) [ inl link ↦ linked_member p link optional computed flag | inr target ↦ assigned_member p target optional computed ]))
