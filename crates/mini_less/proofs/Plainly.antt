-- Plain heads tell nothing of the facts of which Shared and Foreign are made; so what is built anew of the same parts answers at most what stood there.
use Rattle.std.specs.Prelude.{ℕ, suc, ◌≡◌, refl, Bool, true, false, ◌&&◌, ◌||◌, not, List, [], ◌∷◌, ◌++◌, map}
use Rattle.std.specs.List.{list_any}
use Rattle.std.proofs.Common.{ap, ◌∙◌, sym, subst, inl, true≢false}
use Rattle.std.proofs.lemmas.Bool.{and_parts}
use Rattle.std.proofs.lemmas.List.{append-nil}
use Rattle.mini_accept.specs.WellShaped.{Slot, fits}
use Rattle.mini_laws.specs.declared.names.Declared.TheVariants as declared
use Rattle.mini_laws.specs.References.{reads}
use Rattle.mini_model.specs.declared.kind.PropertyKind.{PropertyKind}
use Rattle.mini_model.specs.declared.kind.PropertyKind.TheVariants.{Init}
use Rattle.mini_model.specs.declared.name.Name.{Name}
use Rattle.mini_model.specs.declared.place.Position.TheVariants.{Expr}
use Rattle.mini_model.specs.declared.seat.Seat.{Seat}
use Rattle.mini_model.specs.declared.kind.VariableDeclarationKind.TheVariants.{Var, Let, Const}
use Rattle.mini_model.specs.declared.shape.Shape.{Shape}
use Rattle.mini_model.specs.declared.shape.Shape.TheVariants as shape
use Rattle.mini_model.specs.Tree.{Tree, Trees, node, none, ◌▸◌, shape_of}
use Rattle.mini_laws.specs.declared.names.Use.{Use}
use Rattle.mini_laws.specs.declared.names.Use.TheVariants.{Read, Write, ReadWrite}
use Rattle.mini_laws.specs.declared.names.Binding.{Binding}
use Rattle.mini_laws.specs.DeclaredNames.{with_names, names_of, is_inner}
use Rattle.mini_laws.specs.Scopes.{opened, scopes_by, lexical_scope}
use Rattle.mini_laws.specs.Resolved.{Environment}
use Rattle.mini_laws.specs.ScopeList.{names_in, any_has_eval, by_symbol}
use Rattle.mini_laws.specs.Strict.{is_strict_in}
use Rattle.mini_laws.specs.declared.names.Around.{Around}
use Rattle.mini_laws.specs.Mentions.{Mention, around_child, own_mentions, same_variable, is_elsewhere, is_among}
use Rattle.mini_laws.specs.Shared.{given_values, write_at, own_pattern_writes}
use Rattle.mini_laws.specs.Foreign.{is_write, is_body_by, own_lexical}
use Rattle.mini_laws.specs.Value.{Declared}
use Rattle.mini_kept.specs.KeepsNames.{Stands, is_read, is_statement_use}
use Rattle.mini_shrink.specs.Pace.{Pace, Ends, Silent, Reads, followed, ends_after, all_followed, in_turn, Setting, below, AtMost, reads_if, Question, pace, paces}
use Rattle.mini_shrink.specs.Questions.{Own, asks, finds, finds_each, any_of, mentions_such, gives_such, either_of, sets_such, pattern_gives, names_at, switched_at, pattern_at, caught_at, arguments_at, params_at, seen_from, seen_at, lexical_at, hands_on, listed_names, early}
use Rattle.mini_shrink.specs.Shrinking.{AsksLess}
use Rattle.mini_shrink.specs.Facts.{Written, WrittenElsewhere, Given, GivenElsewhere, GivenByPattern, MentionedElsewhere, BoundElsewhere, IsLexical, IsSwitched, InPattern, UnderCatch, ByArguments, ByEval, AmongParameters, ReadEarly}
use Rattle.mini_shrink.proofs.Finding.{pace_is}
use Rattle.mini_shrink.proofs.Owns.{implied, or_implied}
use Rattle.mini_rows.specs.Lists.{is_unscoped_shape, is_unscoped}
use Rattle.mini_rows.specs.Sketches.{Head, AList, If, Block, shape_by, is_statement_asked, Sketch, part, under, list, Parts, filled, all_filled, Asked, AsValue, asked_below, use_by, leaps, Free, rearranges_expression, is_rearranged, parts_of, stands_well, is_expression_head, is_expression}
use Rattle.mini_rows.specs.Arranged.{AreLoose}
use Rattle.mini_less.specs.Less.{Frame, AFor, AWhile, ADo, AnIn, AnOf, frame_shape, headed, Plain, TellsPlainly, ArrangedAsksLess}
use Rattle.mini_rows.proofs.Arranging.{Below, Leaping, Any, Each, Local, to_parts, of_parts}
use Rattle.mini_rows.proofs.ArrangedNames.{nothing_opened, used_below}
use Rattle.mini_rows.proofs.ArrangedMoves.{Moves, forth, valued_there}
use Rattle.mini_rows.proofs.ArrangedPlain.{is_plain}
use Rattle.mini_rows.proofs.ArrangedUses.{statement_use}
use Rattle.mini_rows.proofs.StatementUses.{same_scopes, same_use}
use Rattle.mini_rows.proofs.ArrangedValues.{is_value, Valued, head_valued}
use Rattle.mini_less.proofs.Flags.{none_of}
use Rattle.mini_less.proofs.Finding.{body_by, no_body, around_same, strict_same, belongs_same, no_body_below, not_list, expressions_find_less}

-- ---- each fact

no_mention : (p : Mention → Bool) (c : Setting) (h : Shape) → list_any p (own_mentions c.used c.around h []) ≡ false
no_mention p c shape.Identifier = refl
no_mention p c shape.BindingIdentifier = refl
no_mention p c h = refl

-- an unscoped statement is no name
pub unscoped_mention : (p : Mention → Bool) (c : Setting) (h : Shape) (xs : List Name) → is_unscoped_shape h ≡ true → list_any p (own_mentions c.used c.around h xs) ≡ false
unscoped_mention p c shape.Identifier xs e = absurd (cc e)
unscoped_mention p c shape.BindingIdentifier xs e = absurd (cc e)
unscoped_mention p c h xs e = refl

-- a mention that is updated is such only if one that is assigned to or one that is read is
abbrev pub Updates : (Mention → Bool) → Type 0
Updates p = (x : Name) (a : Around) → p (record { name = x; used = Write; binds = false; around = a }) ≡ false → p (record { name = x; used = Read; binds = false; around = a }) ≡ false → p (record { name = x; used = ReadWrite; binds = false; around = a }) ≡ false

or_none : (b : Bool) → (b || false) ≡ b
or_none true = refl
or_none false = refl

pub mentions_plainly : (p : Mention → Bool) → Updates p → TellsPlainly (mentions_such p)
mentions_plainly p u = record { property = λ c env k m s b ts. refl; looped = λ c env f i j ts us e h g. absurd (true≢false (sym g ∙ no_mention p c (frame_shape f))); updated = λ c env x e f. or_none _ ∙ u x c.around (sym (or_none _) ∙ e) (sym (or_none _) ∙ f); plain = λ c env h ts q. no_mention p c (shape_by h); moved = λ c v b env h xs n ts e. unscoped_mention p c h xs e ∙ sym (unscoped_mention p (record c { used = v; is_body = b }) h xs e) }

pub loop_gives : (u : Use) (f : Frame) (ts : Trees) → given_values u (frame_shape f) [] ts ≡ []
loop_gives u AFor ts = refl
loop_gives u AWhile ts = refl
loop_gives u ADo ts = refl
loop_gives u AnIn ts = refl
loop_gives u AnOf ts = refl

pub loop_pattern : (u : Use) (env : Environment) (f : Frame) (ts : Trees) → own_pattern_writes u env (frame_shape f) ts ≡ []
loop_pattern u env AFor ts = refl
loop_pattern u env AWhile ts = refl
loop_pattern u env ADo ts = refl
loop_pattern u env AnIn ts = refl
loop_pattern u env AnOf ts = refl

pub loop_lexical : (b : Bool) (f : Frame) (ts : Trees) → own_lexical b (frame_shape f) ts ≡ []
loop_lexical true AFor ts = refl
loop_lexical true AWhile ts = refl
loop_lexical true ADo ts = refl
loop_lexical true AnIn ts = refl
loop_lexical true AnOf ts = refl
loop_lexical false AFor ts = refl
loop_lexical false AWhile ts = refl
loop_lexical false ADo ts = refl
loop_lexical false AnIn ts = refl
loop_lexical false AnOf ts = refl

pub loop_switched : (c : Setting) (f : Frame) (ts : Trees) → switched_at c (frame_shape f) 0 ts ≡ []
loop_switched c AFor ts = refl
loop_switched c AWhile ts = refl
loop_switched c ADo ts = refl
loop_switched c AnIn ts = refl
loop_switched c AnOf ts = refl

pub loop_pattern_at : (c : Setting) (f : Frame) (ts : Trees) → pattern_at c (frame_shape f) 0 ts ≡ []
loop_pattern_at c AFor ts = refl
loop_pattern_at c AWhile ts = refl
loop_pattern_at c ADo ts = refl
loop_pattern_at c AnIn ts = refl
loop_pattern_at c AnOf ts = refl

pub loop_caught : (c : Setting) (f : Frame) (ts : Trees) → caught_at c (frame_shape f) 0 ts ≡ []
loop_caught c AFor ts = refl
loop_caught c AWhile ts = refl
loop_caught c ADo ts = refl
loop_caught c AnIn ts = refl
loop_caught c AnOf ts = refl

pub loop_arguments : (c : Setting) (f : Frame) (ts : Trees) → arguments_at c (frame_shape f) 0 ts ≡ []
loop_arguments c AFor ts = refl
loop_arguments c AWhile ts = refl
loop_arguments c ADo ts = refl
loop_arguments c AnIn ts = refl
loop_arguments c AnOf ts = refl

pub loop_params : (b : ℕ) (c : Setting) (f : Frame) (ts : Trees) → params_at b c (frame_shape f) 0 ts ≡ []
loop_params b c AFor ts = refl
loop_params b c AWhile ts = refl
loop_params b c ADo ts = refl
loop_params b c AnIn ts = refl
loop_params b c AnOf ts = refl

gives_no : (p : Mention → Bool) (c : Setting) (h : Head) (ts : Trees) → list_any p (map (write_at c.around) (given_values c.used (shape_by h) [] ts)) ≡ false
gives_no p c AList ts = refl
gives_no p c h ts = refl

gives_anyhow : (p : Mention → Bool) (c : Setting) (v : Use) (h : Shape) (xs : List Name) (ts : Trees) → is_unscoped_shape h ≡ true → list_any p (map (write_at c.around) (given_values c.used h xs ts)) ≡ list_any p (map (write_at c.around) (given_values v h xs ts))
gives_anyhow p c v shape.VariableDeclarator xs ts e = absurd (cc e)
gives_anyhow p c v h xs ts e = refl

pub gives_plainly : (p : Mention → Bool) → TellsPlainly (gives_such p)
gives_plainly p = record { property = λ c env k m s b ts. refl; looped = λ c env f i j ts us e h g. absurd (true≢false (sym g ∙ ap (λ xs. list_any p (map (write_at c.around) xs)) (loop_gives c.used f (j ▸ us)))); updated = λ c env x e f. e; plain = λ c env h ts q. gives_no p c h ts; moved = λ c v b env h xs n ts e. gives_anyhow p c v h xs ts e }

-- what is so of two questions is so of either
pub either_plainly : (o r : Own) → TellsPlainly o → TellsPlainly r → TellsPlainly (either_of o r)
either_plainly o r a b = record {
  plain = λ c env h ts q j. a.plain c env h ts q j || b.plain c env h ts q j;
  moved = λ c v d env h xs n ts e j. a.moved c v d env h xs n ts e j || b.moved c v d env h xs n ts e j;
  property = λ c env k m s d ts j. a.property c env k m s d ts j || b.property c env k m s d ts j;
  looped = λ c env f i j ts us e h. or_implied _ _ _ _ (a.looped c env f i j ts us e h) (b.looped c env f i j ts us e h);
  updated = λ c env x e f.
      let (written, assigned) = none_of _ _ e in
      let (said, read) = none_of _ _ f in
      λ j. a.updated c env x written said j || b.updated c env x assigned read j;
}

pub sets_plainly : (p : Mention → Bool) → Updates p → TellsPlainly (sets_such p)
sets_plainly p u = either_plainly (mentions_such p) (gives_such p) (mentions_plainly p u) (gives_plainly p)

pattern_no : (c : Setting) (env : Environment) (h : Head) (ts : Trees) → own_pattern_writes c.used env (shape_by h) ts ≡ []
pattern_no c env AList ts = refl
pattern_no c env h ts = refl

pattern_anyhow : (u v : Use) (env : Environment) (h : Shape) (ts : Trees) → is_unscoped_shape h ≡ true → own_pattern_writes u env h ts ≡ own_pattern_writes v env h ts
pattern_anyhow u v env shape.VariableDeclarator ts e = absurd (cc e)
pattern_anyhow u v env h ts e = refl

pub pattern_gives_plainly : (s : ℕ) → TellsPlainly (pattern_gives s)
pattern_gives_plainly s = record { property = λ c env k m s b ts. refl; looped = λ c env f i j ts us e h g. absurd (true≢false (sym g ∙ ap (is_among (by_symbol s)) (loop_pattern c.used env f (j ▸ us)))); updated = λ c env x e f. e; plain = λ c env h ts q. ap (is_among (by_symbol s)) (pattern_no c env h ts); moved = λ c v b env h xs n ts e. ap (is_among (by_symbol s)) (pattern_anyhow c.used v env h ts e) }

pub names_plainly : (ys : Setting → Shape → ℕ → Trees → List Name) (s : ℕ) → ((c : Setting) (h : Head) (ts : Trees) → ys c (shape_by h) 0 ts ≡ []) → ((c : Setting) (v : Use) (b : Bool) (h : Shape) (n : ℕ) (ts : Trees) → ys c h n ts ≡ ys (record c { used = v; is_body = b }) h n ts) → ((c : Setting) (k : PropertyKind) (m d b : Bool) (ts : Trees) → ys c (shape.ObjectProperty k m d b) 0 ts ≡ ys c (shape.ObjectProperty Init false d b) 0 ts) → ((c : Setting) (f : Frame) (ts : Trees) → ys c (frame_shape f) 0 ts ≡ []) → TellsPlainly (names_at ys s)
names_plainly ys s f g r v = record { property = λ c env k m d b ts. ap (is_among (by_symbol s)) (r c k m d b ts); looped = λ c env f i j ts us e x y. absurd (true≢false (sym y ∙ ap (is_among (by_symbol s)) (v c f (j ▸ us)))); updated = λ c env x e f. sym (ap (is_among (by_symbol s)) (g (record c { used = Write }) ReadWrite c.is_body shape.Identifier 0 none)) ∙ e; plain = λ c env h ts q. ap (is_among (by_symbol s)) (f c h ts); moved = λ c v b env h xs n ts e. ap (is_among (by_symbol s)) (g c v b h n ts) }

pub no_switched : (c : Setting) (h : Head) (ts : Trees) → switched_at c (shape_by h) 0 ts ≡ []
no_switched c AList ts = refl
no_switched c h ts = refl

pub no_pattern : (c : Setting) (h : Head) (ts : Trees) → pattern_at c (shape_by h) 0 ts ≡ []
no_pattern c AList ts = refl
no_pattern c h ts = refl

pub no_caught : (c : Setting) (h : Head) (ts : Trees) → caught_at c (shape_by h) 0 ts ≡ []
no_caught c AList ts = refl
no_caught c h ts = refl

pub no_arguments : (c : Setting) (h : Head) (ts : Trees) → arguments_at c (shape_by h) 0 ts ≡ []
no_arguments c AList ts = refl
no_arguments c h ts = refl

pub no_params : (b : ℕ) (c : Setting) (h : Head) (ts : Trees) → params_at b c (shape_by h) 0 ts ≡ []
no_params b c AList ts = refl
no_params b c h ts = refl

pub unseen : (x : Name) (sc : ℕ → List Binding) → ((j : ℕ) → sc j ≡ []) → (i : ℕ) (ts : Trees) → seen_from sc i ts x ≡ false
unseen x sc z i none = refl
unseen x sc z i (t ▸ ts) = λ j. (ap (λ bs. any_has_eval (t ▸ ts) && is_among x (names_in bs)) (z i) ∙ by (any_has_eval (t ▸ ts))) j || unseen x sc z (suc i) ts j
  where
    by : (b : Bool) → (b && false) ≡ false
    by true = refl
    by false = refl

seen_alike : (x : Name) (sc sc' : ℕ → List Binding) → ((j : ℕ) → sc j ≡ sc' j) → (i : ℕ) (ts : Trees) → seen_from sc i ts x ≡ seen_from sc' i ts x
seen_alike x sc sc' z i none = refl
seen_alike x sc sc' z i (t ▸ ts) = λ j. (any_has_eval (t ▸ ts) && is_among x (names_in (z i j))) || seen_alike x sc sc' z (suc i) ts j

later_unseen : (x : Name) (sc : ℕ → List Binding) → ((j : ℕ) → sc (suc j) ≡ []) → (i : ℕ) (ts : Trees) → seen_from sc (suc i) ts x ≡ false
later_unseen x sc z i none = refl
later_unseen x sc z i (t ▸ ts) = λ j. (ap (λ bs. any_has_eval (t ▸ ts) && is_among x (names_in bs)) (z i) ∙ by (any_has_eval (t ▸ ts))) j || later_unseen x sc z (suc i) ts j
  where
    by : (b : Bool) → (b && false) ≡ false
    by true = refl
    by false = refl

or_off : (a b : Bool) → b ≡ false → (a || b) ≡ a
or_off true b e = refl
or_off false b e = e

both_true : (a b : Bool) → a ≡ true → b ≡ true → (a && b) ≡ true
both_true true b e f = f
both_true false b e f = e

-- a loop opens one scope, for all its parts
pub head_scope : (u : Use) (f : Frame) (i : Tree) (ts : Trees) → opened u (frame_shape f) (i ▸ ts) 0 ≡ lexical_scope (headed f i)
unfolding scopes_by with_names
head_scope u AFor i ts = refl
head_scope u AWhile i ts = refl
head_scope u ADo i ts = refl
head_scope u AnIn i ts = refl
head_scope u AnOf i ts = refl

pub later_scopes : (u : Use) (f : Frame) (i : Tree) (ts : Trees) (j : ℕ) → opened u (frame_shape f) (i ▸ ts) (suc j) ≡ []
unfolding scopes_by
later_scopes u AFor i ts j = refl
later_scopes u AWhile i ts j = refl
later_scopes u ADo i ts j = refl
later_scopes u AnIn i ts j = refl
later_scopes u AnOf i ts j = refl

seen_looped : (x : Name) (u : Use) (f : Frame) (i j : Tree) (ts us : Trees) → headed f j ≡ headed f i → (any_has_eval (j ▸ us) ≡ true → any_has_eval (i ▸ ts) ≡ true) → seen_from (opened u (frame_shape f) (j ▸ us)) 0 (j ▸ us) x ≡ true → seen_from (opened u (frame_shape f) (i ▸ ts)) 0 (i ▸ ts) x ≡ true
seen_looped x u f i j ts us e h g =
    let here = opened u (frame_shape f) (i ▸ ts) in
    let there = opened u (frame_shape f) (j ▸ us) in
    let (a, b) = and_parts (any_has_eval (j ▸ us)) (is_among x (names_in (there 0))) (sym (or_off (any_has_eval (j ▸ us) && is_among x (names_in (there 0))) (seen_from there 1 us x) (later_unseen x there (later_scopes u f j us) 0 us)) ∙ g) in
    let same : there 0 ≡ here 0 = head_scope u f j us ∙ ap lexical_scope e ∙ sym (head_scope u f i ts) in
    ap (λ y. y || seen_from here 1 ts x) (both_true (any_has_eval (i ▸ ts)) (is_among x (names_in (here 0))) (h a) (sym (ap (λ bs. is_among x (names_in bs)) same) ∙ b))

pub seen_plainly : (s : ℕ) → TellsPlainly (seen_at s)
seen_plainly s = record {
  property = λ c env k m s b ts. refl;
  looped = λ c env f i j ts us e h g. seen_looped (by_symbol s) c.used f i j ts us e h g;
  updated = λ c env x e f. e;
  plain = λ c env h ts q. unseen (by_symbol s) (opened c.used (shape_by h) ts) (nothing_opened c.used h ts q) 0 ts;
  moved = λ c v b env h xs n ts e. seen_alike (by_symbol s) (opened c.used h ts) (opened v h ts) (same_scopes c.used v h e ts) 0 ts;
}

-- ---- what doesn't ask whether it stands directly in a body

abbrev pub Anywhere : Own → Type 0
Anywhere o = (c : Setting) (b d : Bool) (env : Environment) (h : Shape) (xs : List Name) (n : ℕ) (ts : Trees) → o c env h xs n ts ≡ o (record c { is_body = b; ordered = d }) env h xs n ts

module _ (o : Own) (a : Anywhere o) where
  mutual
    unfolding finds

    pub anywhere : (c : Setting) (b d : Bool) (env : Environment) (t : Tree) → finds o c env t ≡ finds o (record c { is_body = b; ordered = d }) env t
    anywhere c b d env (node h xs n ts) = λ j. a c b d env h xs n ts j || any_of (all_anywhere (opened c.used h ts) (below false c h n) (λ i. is_body_by h b) 0 env ts j)

    all_anywhere : (sc : ℕ → List Binding) (cs : ℕ → Setting) (b : ℕ → Bool) (i : ℕ) (env : Environment) (ts : Trees) → finds_each o sc cs i env ts ≡ finds_each o sc (λ j. record (cs j) { is_body = b j }) i env ts
    all_anywhere sc cs b i env none = refl
    all_anywhere sc cs b i env (t ▸ ts) = λ j. anywhere (cs i) (b i) (cs i).ordered (env ++ sc i) t j ∷ all_anywhere sc cs b (suc i) (env ++ sc i) ts j

-- ---- the roots of expressions

hands_value : (h : Shape) → is_value h ≡ true → hands_on h ≡ false
hands_value shape.Listed e = absurd (cc e)
hands_value shape.SwitchCase e = absurd (cc e)
hands_value (shape.VariableDeclaration k) e = absurd (cc e)
hands_value shape.ExportNamedDeclaration e = absurd (cc e)
hands_value shape.ExportDefaultDeclaration e = absurd (cc e)
hands_value h e = refl

body_value : (h : Shape) (b : Bool) → is_value h ≡ true → is_body_by h b ≡ is_body_by h false
body_value shape.Listed b e = absurd (cc e)
body_value shape.ExportNamedDeclaration b e = absurd (cc e)
body_value shape.ExportDefaultDeclaration b e = absurd (cc e)
body_value h b e = refl

lexical_value : (h : Shape) (b : Bool) (ts : Trees) → is_value h ≡ true → own_lexical b h ts ≡ own_lexical false h ts
lexical_value (shape.Function true g ds) b ts e = absurd (cc e)
lexical_value h true ts e = refl
lexical_value h false ts e = refl

pub expression_is_value : (h : Head) → is_expression_head h ≡ true → is_value (shape_by h) ≡ true
expression_is_value AList e = absurd (cc e)
expression_is_value If e = absurd (cc e)
expression_is_value Block e = absurd (cc e)
expression_is_value h e = refl

-- an unscoped statement declares the same names wherever it stands
unscoped_listed : (v u : Use) (h : Shape) (ts : Trees) → is_unscoped_shape h ≡ true → listed_names v h ts ≡ listed_names u h ts
unscoped_listed v u (shape.VariableDeclaration Let) ts e = absurd (cc e)
unscoped_listed v u (shape.VariableDeclaration Const) ts e = absurd (cc e)
unscoped_listed v u (shape.VariableDeclaration Var) none e = refl
unscoped_listed v u (shape.VariableDeclaration Var) (t ▸ ts) e = refl
unscoped_listed v u shape.SwitchStatement none e = refl
unscoped_listed v u shape.SwitchStatement (a ▸ none) e = refl
unscoped_listed v u shape.SwitchStatement (a ▸ (t ▸ ts)) e = refl
unscoped_listed v u h none e = refl
unscoped_listed v u h (t ▸ ts) e = refl

-- where it stands directly in a body, or in a list of declarations, doesn't matter to an expression
abbrev pub alone : Setting → Setting
alone c = record c { is_body = false; ordered = false }

pub lexical_alone : (k : ℕ) (c : Setting) (env : Environment) (t : Tree) → is_value (shape_of t) ≡ true → finds (names_at lexical_at k) c env t ≡ finds (names_at lexical_at k) (alone c) env t
unfolding finds
lexical_alone k c env (node h xs n ts) e = λ j. is_among (by_symbol k) (lexical_value h c.is_body ts e j) || any_of (finds_each (names_at lexical_at k) (opened c.used h ts) (λ i. record (below false c h n i) { is_body = body_value h c.is_body e j }) 0 env ts)

pub early_alone : (b k : ℕ) (c : Setting) (env : Environment) (t : Tree) → is_value (shape_of t) ≡ true → pace (early b k) c env t ≡ pace (early b k) (alone c) env t
unfolding pace
early_alone b k c env (node h xs n ts) e =
    let m = reads_if (list_any (λ m. same_variable (by_symbol k) m.name && not m.binds && reads m.used && not (is_elsewhere b m.around)) (own_mentions c.used c.around h xs)) in
    let own = is_among (by_symbol k) (listed_names c.used h ts) in
    λ j. followed m (in_turn h (paces (early b k) (opened c.used h ts) (λ i. record (below (by c.ordered j || own) c h n i) { is_body = body_value h c.is_body e j }) 0 env ts))
  where
    by : (o : Bool) → (hands_on h && o) ≡ (hands_on h && false)
    by o = ap (λ x. x && o) (hands_value h e) ∙ sym (ap (λ x. x && false) (hands_value h e))

pub lexical_plainly : (s : ℕ) → TellsPlainly (names_at lexical_at s)
lexical_plainly s = record { property = λ c env k m s b ts. refl; looped = λ c env f i j ts us e h g. absurd (true≢false (sym g ∙ ap (is_among (by_symbol s)) (loop_lexical c.is_body f (j ▸ us)))); updated = λ c env x e f. e; plain = λ c env h ts q. ap (is_among (by_symbol s)) (no_lexical c.is_body h ts); moved = λ c v b env h xs n ts e. ap (is_among (by_symbol s)) (moved_lexical c.is_body b h ts e) }
  where
    no_lexical : (b : Bool) (h : Head) (ts : Trees) → own_lexical b (shape_by h) ts ≡ []
    no_lexical true AList ts = refl
    no_lexical false AList ts = refl
    no_lexical true h ts = refl
    no_lexical false h ts = refl

    moved_lexical : (b d : Bool) (h : Shape) (ts : Trees) → is_unscoped_shape h ≡ true → own_lexical b h ts ≡ own_lexical d h ts
    moved_lexical b d (shape.Function x g ds) ts e = absurd (cc e)
    moved_lexical true true h ts e = refl
    moved_lexical true false h ts e = refl
    moved_lexical false true h ts e = refl
    moved_lexical false false h ts e = refl

-- ---- the order of reads

abbrev pub is_ended : Pace → Bool
is_ended Ends = true
is_ended p = false

abbrev pub is_reads : Pace → Bool
is_reads Reads = true
is_reads p = false

pub split : (p r : Pace) → is_reads (followed (ends_after false p) r) ≡ false → (is_reads p ≡ false) × (is_reads r ≡ false)
split Ends r e = (refl, e)
split Silent r e = (refl, e)
split Reads r e = absurd (true≢false e)

pub join : (p r : Pace) → is_reads p ≡ false → is_reads r ≡ false → is_reads (followed (ends_after false p) r) ≡ false
join Ends r e f = f
join Silent r e f = f
join Reads r e f = absurd (true≢false e)

module _ (b s : ℕ) (k : Setting) (env : Environment) where
  abbrev q : Question
  q = early b s

  abbrev read_here : Mention → Bool
  read_here m = same_variable (by_symbol s) m.name && not m.binds && reads m.used && not (is_elsewhere b m.around)

  abbrev pub standing : Asked → Setting
  standing c = record { used = use_by k.used c; around = k.around; strict = k.strict; is_body = body_by k.is_body c; belongs = k.belongs; ordered = false }

  no_order : (c : Setting) → c.ordered ≡ false → (h : Head) (ts : Trees) → Plain h ts → q.orders c (shape_by h) ts ≡ false
  no_order c o AList ts p = ap (λ x. (true && x) || false) o
  no_order c o Block none p = refl
  no_order c o Block (t ▸ ts) p = ap (is_among (by_symbol s)) p.0
  no_order c o h ts p = refl

  pub standing_below : (h : Head) (c : Asked) (o : Bool) → o ≡ false → (j : ℕ) → below o (standing c) (shape_by h) 0 j ≡ standing (asked_below h c j)
  standing_below h c o z j = λ i. record { used = used_below k.used h c j i; around = around_same h k.around j i; strict = strict_same h k.strict i; is_body = no_body k.is_body h c j i; belongs = belongs_same h k.belongs j i; ordered = z i }

  abbrev pub Calmly : Asked → Tree → Type 0
  Calmly c t = is_reads (pace q (standing c) env t) ≡ false

  pub calm_below : (cs : ℕ → Asked) (scope : ℕ → List Binding) → ((j : ℕ) → scope j ≡ []) → (ks : ℕ → Setting) → ((j : ℕ) → ks j ≡ standing (cs j)) → (i : ℕ) (e : Environment) → e ≡ env → (ts : Trees) → is_reads (all_followed (paces q scope ks i e ts)) ≡ false → Below Calmly cs i ts
  unfolding pace
  calm_below cs scope z ks w i e r none a = tt
  calm_below cs scope z ks w i e r (t ▸ ts) a =
      let same : e ++ scope i ≡ env = ap (λ x. e ++ x) (z i) ∙ append-nil e ∙ r in
      let never_ends : q.ends (ks i) t ≡ false = ap (λ c. q.ends c t) (w i) in
      let (x, y) = split (pace q (ks i) (e ++ scope i) t) (all_followed (paces q scope ks (suc i) (e ++ scope i) ts)) (subst (λ o. is_reads (followed (ends_after o (pace q (ks i) (e ++ scope i) t)) (all_followed (paces q scope ks (suc i) (e ++ scope i) ts))) ≡ false) never_ends a) in
      (subst (λ c. is_reads (pace q c env t) ≡ false) (w i) (subst (λ x. is_reads (pace q (ks i) x t) ≡ false) same x), calm_below cs scope z ks w (suc i) (e ++ scope i) same ts y)

  pub below_calm : (cs : ℕ → Asked) (scope : ℕ → List Binding) → ((j : ℕ) → scope j ≡ []) → (ks : ℕ → Setting) → ((j : ℕ) → ks j ≡ standing (cs j)) → (i : ℕ) (e : Environment) → e ≡ env → (ts : Trees) → Below Calmly cs i ts → is_reads (all_followed (paces q scope ks i e ts)) ≡ false
  unfolding pace
  below_calm cs scope z ks w i e r none a = refl
  below_calm cs scope z ks w i e r (t ▸ ts) a =
      let same : e ++ scope i ≡ env = ap (λ x. e ++ x) (z i) ∙ append-nil e ∙ r in
      let never_ends : q.ends (ks i) t ≡ false = ap (λ c. q.ends c t) (w i) in
      subst (λ o. is_reads (followed (ends_after o (pace q (ks i) (e ++ scope i) t)) (all_followed (paces q scope ks (suc i) (e ++ scope i) ts))) ≡ false) (sym never_ends)
      (join (pace q (ks i) (e ++ scope i) t) (all_followed (paces q scope ks (suc i) (e ++ scope i) ts)) (subst (λ x. is_reads (pace q (ks i) x t) ≡ false) (sym same) (subst (λ c. is_reads (pace q c env t) ≡ false) (sym (w i)) a.0)) (below_calm cs scope z ks w (suc i) (e ++ scope i) same ts a.1))

  leaping : (ls : List _) → Leaping Any ls
  leaping [] = tt
  leaping (l ∷ ls) = (tt, leaping ls)

  plain_turn : (h : Head) (ps : List Pace) → in_turn (shape_by h) ps ≡ all_followed ps
  plain_turn AList ps = refl
  plain_turn h ps = refl

  own_silent : (c : Setting) (h : Head) (ts : Trees) → q.before c env (shape_by h) [] 0 ts ≡ Silent
  own_silent c AList ts = refl
  own_silent c h ts = refl

  pub calm_local : Local Any Calmly
  unfolding pace
  calm_local = record {
    down = λ h c ts p a. (
        let ks = below (q.orders (standing c) (shape_by h) ts) (standing c) (shape_by h) 0 in
        let ps : List Pace = paces q (opened (use_by k.used c) (shape_by h) ts) ks 0 env ts in
        let whole : is_reads (all_followed ps) ≡ false = subst (λ x. is_reads x ≡ false) (plain_turn h ps) (subst (λ x. is_reads (followed x (in_turn (shape_by h) ps)) ≡ false) (own_silent (standing c) h ts) a) in
        (leaping (leaps h), calm_below (asked_below h c) (opened (use_by k.used c) (shape_by h) ts) (nothing_opened (use_by k.used c) h ts p) ks (standing_below h c (q.orders (standing c) (shape_by h) ts) (no_order (standing c) refl h ts p)) 0 env refl ts whole)
        );
    up = λ h c ts p l a.
        let ks = below (q.orders (standing c) (shape_by h) ts) (standing c) (shape_by h) 0 in
        let ps : List Pace = paces q (opened (use_by k.used c) (shape_by h) ts) ks 0 env ts in
        let whole : is_reads (all_followed ps) ≡ false = below_calm (asked_below h c) (opened (use_by k.used c) (shape_by h) ts) (nothing_opened (use_by k.used c) h ts p) ks (standing_below h c (q.orders (standing c) (shape_by h) ts) (no_order (standing c) refl h ts p)) 0 env refl ts a in
        subst (λ x. is_reads (followed x (in_turn (shape_by h) ps)) ≡ false) (sym (own_silent (standing c) h ts)) (subst (λ x. is_reads x ≡ false) (sym (plain_turn h ps)) whole);
  }

  same_paces : (sc sc' : ℕ → List Binding) → ((j : ℕ) → sc j ≡ sc' j) → (ks ks' : ℕ → Setting) → ((j : ℕ) → ks j ≡ ks' j) → (i : ℕ) (e : Environment) (ts : Trees) → paces q sc ks i e ts ≡ paces q sc' ks' i e ts
  unfolding pace
  same_paces sc sc' z ks ks' w i e none = refl
  same_paces sc sc' z ks ks' w i e (t ▸ ts) = λ j. ends_after (q.ends (w i j) t) (pace q (w i j) (e ++ z i j) t) ∷ (ap (λ r. paces q sc ks (suc i) (e ++ r) ts) (z i) ∙ same_paces sc sc' z ks ks' w (suc i) (e ++ sc' i) ts) j

  pub calm_anyhow : is_statement_use k.used ≡ true → (c d : Asked) → is_statement_asked c ≡ true → is_statement_asked d ≡ true → (t : Tree) → is_unscoped t ≡ true → Calmly c t → Calmly d t
  unfolding pace
  calm_anyhow a₀ c d x y (node h xs n ts) e a =
      let v = use_by k.used c in
      let u = use_by k.used d in
      let scopes : (j : ℕ) → opened v h ts j ≡ opened u h ts j = same_scopes v u h e ts in
      let o = q.orders (standing c) h ts in
      let p = q.orders (standing d) h ts in
      let order : o ≡ p = ap (λ ys. (hands_on h && false) || is_among (by_symbol s) ys) (unscoped_listed v u h ts e) in
      let settings : (j : ℕ) → below o (standing c) h n j ≡ below p (standing d) h n j = λ j i. record { used = same_use v u (statement_use k.used a₀ c x) (statement_use k.used a₀ d y) h j e i; around = around_child h k.around n j; strict = is_strict_in k.strict h; is_body = no_body_below (mentions_such (λ m. true)) (mentions_plainly (λ m. true) (λ x a e f. e)) k env h (body_by k.is_body c) (body_by k.is_body d) e i; belongs = (below o (standing c) h n j).belongs; ordered = order i } in
      let own : q.before (standing c) env h xs n ts ≡ q.before (standing d) env h xs n ts = ap reads_if (unscoped_mention read_here (standing c) h xs e ∙ sym (unscoped_mention read_here (standing d) h xs e)) in
      sym (λ j. is_reads (followed (own j) (in_turn h (same_paces (opened v h ts) (opened u h ts) scopes (below o (standing c) h n) (below p (standing d) h n) settings 0 env ts j)))) ∙ a

  pub calm_moves : is_statement_use k.used ≡ true → Moves Calmly
  calm_moves u c d x y t e m a = calm_anyhow u c d x y t e a

  -- no end is told at the root
  pub not_ended : (p r : Pace) → is_ended r ≡ false → is_ended (followed (ends_after false p) r) ≡ false
  not_ended Ends r e = e
  not_ended Silent r e = e
  not_ended Reads r e = refl

  pub none_ended : (scope : ℕ → List Binding) (ks : ℕ → Setting) → ((j : ℕ) → (ks j).ordered ≡ false) → (i : ℕ) (e : Environment) (ts : Trees) → is_ended (all_followed (paces q scope ks i e ts)) ≡ false
  unfolding pace
  none_ended scope ks w i e none = refl
  none_ended scope ks w i e (t ▸ ts) =
      let rest = all_followed (paces q scope ks (suc i) (e ++ scope i) ts) in
      let never_ends : q.ends (ks i) t ≡ false = ap (λ o. o && (is_among (by_symbol s) (names_of declared.Lexical t) || is_among (by_symbol s) (names_of declared.Bound t))) (w i) in
      subst (λ o. is_ended (followed (ends_after o (pace q (ks i) (e ++ scope i) t)) rest) ≡ false) (sym never_ends) (not_ended (pace q (ks i) (e ++ scope i) t) rest (none_ended scope ks w (suc i) (e ++ scope i) ts))

  pub root_ended : (c : Asked) (h : Head) (ts : Trees) → Plain h ts → is_ended (pace q (standing c) env (node (shape_by h) [] 0 ts)) ≡ false
  unfolding pace
  root_ended c h ts p =
      let o = q.orders (standing c) (shape_by h) ts in
      let ps : List Pace = paces q (opened (use_by k.used c) (shape_by h) ts) (below o (standing c) (shape_by h) 0) 0 env ts in
      subst (λ x. is_ended (followed x (in_turn (shape_by h) ps)) ≡ false) (sym (own_silent (standing c) h ts))
      (subst (λ x. is_ended x ≡ false) (sym (plain_turn h ps)) (none_ended (opened (use_by k.used c) (shape_by h) ts) (below o (standing c) (shape_by h) 0) (λ j. no_order (standing c) refl h ts p) 0 env ts))

pub less_by : (p r : Pace) → (is_reads r ≡ false → is_reads p ≡ false) → is_ended r ≡ false → AtMost p r
less_by Ends r f y = tt
less_by Silent Ends f y = absurd (true≢false y)
less_by Silent Silent f y = tt
less_by Silent Reads f y = tt
less_by Reads Ends f y = absurd (true≢false (f refl))
less_by Reads Silent f y = absurd (true≢false (f refl))
less_by Reads Reads f y = tt

-- ---- expressions

pub no_inner : (h : Head) → is_inner (shape_by h) ≡ false
no_inner AList = refl
no_inner h = refl

pub read : (v : Use) → is_read v ≡ true → v ≡ Read
read Read k = refl
read v k = absurd (cc k)

module _ (f : Free) (ps : Parts) (u : AreLoose ps f) (q : Seat) (n w : Tree) where
  stands : (h : Head) (ss : _) (v : Use) → n ≡ filled ps (under h ss) → Stands (Expr q) v n → v ≡ Read
  stands h ss v a k = read v (sym (ap (λ b. b || is_read v) (ap (λ t. is_inner (shape_of t)) a ∙ no_inner h)) ∙ k)

  used : (s r : Sketch) → rearranges_expression f s r ≡ true → n ≡ filled ps s → (v : Use) → Stands (Expr q) v n → v ≡ Read
  used (part i) r e a v k = absurd (cc e)
  used (list is) r e a v k = absurd (cc e)
  used (under h ss) r e a v k = stands h ss v a k

  asks_less : (o : Own) → TellsPlainly o → Anywhere o → (k : ℕ) (s r : Sketch) → rearranges_expression f s r ≡ true → n ≡ filled ps s → w ≡ filled ps r → AsksLess (asks o) (Declared k) (Expr q) n w
  asks_less o g z k s r e a b = record {
    by = λ strict x _ fit c env st _.
        let d : Setting = record c { is_body = false; ordered = false } in
        let less : finds o c env w ≡ true → finds o c env n ≡ true = λ y. anywhere o z c false false env n ∙ expressions_find_less o g f ps u s r e n w a b strict x fit d env (used s r e a c.used st) refl refl (sym (anywhere o z c false false env w) ∙ y) in
        inl (subst (λ p. AtMost p (pace (asks o) c env n)) (sym (pace_is o c env w)) (subst (AtMost (reads_if (finds o c env w))) (sym (pace_is o c env n)) (implied (finds o c env w) (finds o c env n) less)));
  }

  -- its root and that of what is written are expressions
  record Roots (s r : Sketch) : Type 0 where
    first : is_value (shape_of (filled ps s)) ≡ true
    second : is_value (shape_of (filled ps r)) ≡ true
    valued : Each Any Valued ps (parts_of AsValue s)
    sn : stands_well f AsValue s ≡ true
    sr : stands_well f AsValue r ≡ true
    z : is_rearranged f (parts_of AsValue s) (parts_of AsValue r) ≡ true

  root_value : (r : Sketch) → is_expression r ≡ true → Each Any Valued ps (parts_of AsValue r) → is_value (shape_of (filled ps r)) ≡ true
  root_value (part i) k a = a.0
  root_value (under g qs) k a = expression_is_value g k
  root_value (list is) k a = absurd (cc k)

  roots : (s r : Sketch) → rearranges_expression f s r ≡ true → n ≡ filled ps s → (strict : Bool) (x : Slot) → fits strict x n ≡ true → Roots s r
  roots (part i) r e a strict x fit = absurd (cc e)
  roots (list is) r e a strict x fit = absurd (cc e)
  roots (under h ss) r e a strict x fit =
      let c = AsValue in
      let rest = is_rearranged f (parts_of c (under h ss)) (parts_of c r) in
      let (one, y) = and_parts (is_expression_head h) (is_expression r && (stands_well f c (under h ss) && (stands_well f c r && rest))) e in
      let (two, y') = and_parts (is_expression r) (stands_well f c (under h ss) && (stands_well f c r && rest)) y in
      let (sn, y'') = and_parts (stands_well f c (under h ss)) (stands_well f c r && rest) y' in
      let (sr, z) = and_parts (stands_well f c r) rest y'' in
      let v = head_valued ps strict c x h ss (not_list h one) (subst (λ t. fits strict x t ≡ true) a fit) in
      record { first = expression_is_value h one; second = root_value r two (valued_there f ps u (parts_of c (under h ss)) (parts_of c r) z v); valued = v; sn = sn; sr = sr; z = z }

  lexical_less : (k : ℕ) (s r : Sketch) → rearranges_expression f s r ≡ true → n ≡ filled ps s → w ≡ filled ps r → AsksLess (asks (names_at lexical_at k)) (Declared k) (Expr q) n w
  lexical_less k s r e a b = record {
    by = λ strict x _ fit c env st _.
        let o : Own = names_at lexical_at k in
        let g = roots s r e a strict x fit in
        let n_value : is_value (shape_of n) ≡ true = ap (λ t. is_value (shape_of t)) a ∙ g.first in
        let w_value : is_value (shape_of w) ≡ true = ap (λ t. is_value (shape_of t)) b ∙ g.second in
        let less : finds o c env w ≡ true → finds o c env n ≡ true = λ y. lexical_alone k c env n n_value ∙ expressions_find_less o (lexical_plainly k) f ps u s r e n w a b strict x fit (alone c) env (used s r e a c.used st) refl refl (sym (lexical_alone k c env w w_value) ∙ y) in
        inl (subst (λ p. AtMost p (pace (asks o) c env n)) (sym (pace_is o c env w)) (subst (AtMost (reads_if (finds o c env w))) (sym (pace_is o c env n)) (implied (finds o c env w) (finds o c env n) less)));
  }

  early_less : (b k : ℕ) (s r : Sketch) → rearranges_expression f s r ≡ true → n ≡ filled ps s → w ≡ filled ps r → AsksLess (early b k) (Declared k) (Expr q) n w
  early_less b k (part i) r e a a' = record { by = λ strict x _ fit c env st _. absurd (cc e) }
  early_less b k (list is) r e a a' = record { by = λ strict x _ fit c env st _. absurd (cc e) }
  early_less b k (under h ss) r e a a' = record {
    by = λ strict x _ fit c env st _.
        let s : Sketch = under h ss in
        let g = roots s r e a strict x fit in
        let asked : alone c ≡ standing b k c env AsValue = λ i. record { used = used s r e a c.used st i; around = c.around; strict = c.strict; is_body = false; belongs = c.belongs; ordered = false } in
        let n_value : is_value (shape_of n) ≡ true = ap (λ t. is_value (shape_of t)) a ∙ g.first in
        let w_value : is_value (shape_of w) ≡ true = ap (λ t. is_value (shape_of t)) a' ∙ g.second in
        let n_is : pace (early b k) c env n ≡ pace (early b k) (standing b k c env AsValue) env (filled ps s) = early_alone b k c env n n_value ∙ (λ i. pace (early b k) (asked i) env (a i)) in
        let w_is : pace (early b k) c env w ≡ pace (early b k) (standing b k c env AsValue) env (filled ps r) = early_alone b k c env w w_value ∙ (λ i. pace (early b k) (asked i) env (a' i)) in
        let plain = is_plain f ps u AsValue s g.sn in
        let less : is_reads (pace (early b k) (standing b k c env AsValue) env (filled ps s)) ≡ false → is_reads (pace (early b k) (standing b k c env AsValue) env (filled ps r)) ≡ false = λ y.
        of_parts Any (Calmly b k c env) (calm_local b k c env) ps AsValue r (is_plain f ps u AsValue r g.sr) (forth f ps u (parts_of AsValue s) (parts_of AsValue r) g.z Any (Calmly b k c env) (calm_moves b k c env (ap is_statement_use (used s r e a c.used st))) g.valued (to_parts Any (Calmly b k c env) (calm_local b k c env) ps AsValue s plain y)) in
        inl (subst (λ p. AtMost p (pace (early b k) c env n)) (sym w_is) (subst (AtMost (pace (early b k) (standing b k c env AsValue) env (filled ps r))) (sym n_is)
        (less_by (pace (early b k) (standing b k c env AsValue) env (filled ps r)) (pace (early b k) (standing b k c env AsValue) env (filled ps s)) less (root_ended b k c env AsValue h (all_filled ps ss) plain.0))));
  }

pub arranged_asks_less : ArrangedAsksLess
arranged_asks_less f ps u s r e q n w a b Written c k = asks_less f ps u q n w (mentions_such (is_write (by_symbol k))) (mentions_plainly (is_write (by_symbol k)) (λ x a e f. e)) (λ c b d env h xs n ts. refl) k s r e a b
arranged_asks_less f ps u s r e q n w a b WrittenElsewhere c k = asks_less f ps u q n w _ (mentions_plainly (λ m. is_write (by_symbol k) m && is_elsewhere c m.around) (λ x a e f. e)) (λ c b d env h xs n ts. refl) k s r e a b
arranged_asks_less f ps u s r e q n w a b Given c k = asks_less f ps u q n w _ (sets_plainly (is_write (by_symbol k)) (λ x a e f. e)) (λ c b d env h xs n ts. refl) k s r e a b
arranged_asks_less f ps u s r e q n w a b GivenElsewhere c k = asks_less f ps u q n w _ (sets_plainly (λ m. is_write (by_symbol k) m && is_elsewhere c m.around) (λ x a e f. e)) (λ c b d env h xs n ts. refl) k s r e a b
arranged_asks_less f ps u s r e q n w a b MentionedElsewhere c k = asks_less f ps u q n w _ (mentions_plainly (λ m. same_variable (by_symbol k) m.name && is_elsewhere c m.around) (λ x a e f. e)) (λ c b d env h xs n ts. refl) k s r e a b
arranged_asks_less f ps u s r e q n w a b BoundElsewhere c k = asks_less f ps u q n w _ (mentions_plainly (λ m. same_variable (by_symbol k) m.name && m.binds && is_elsewhere c m.around) (λ x a e f. e)) (λ c b d env h xs n ts. refl) k s r e a b
arranged_asks_less f ps u s r e q n w a b IsLexical c k = lexical_less f ps u q n w k s r e a b
arranged_asks_less f ps u s r e q n w a b IsSwitched c k = asks_less f ps u q n w _ (names_plainly switched_at k no_switched (λ c v b h n ts. refl) (λ c k m d b ts. refl) loop_switched) (λ c b d env h xs n ts. refl) k s r e a b
arranged_asks_less f ps u s r e q n w a b InPattern c k = asks_less f ps u q n w _ (names_plainly pattern_at k no_pattern (λ c v b h n ts. refl) (λ c k m d b ts. refl) loop_pattern_at) (λ c b d env h xs n ts. refl) k s r e a b
arranged_asks_less f ps u s r e q n w a b GivenByPattern c k = asks_less f ps u q n w _ (pattern_gives_plainly k) (λ c b d env h xs n ts. refl) k s r e a b
arranged_asks_less f ps u s r e q n w a b UnderCatch c k = asks_less f ps u q n w _ (names_plainly caught_at k no_caught (λ c v b h n ts. refl) (λ c k m d b ts. refl) loop_caught) (λ c b d env h xs n ts. refl) k s r e a b
arranged_asks_less f ps u s r e q n w a b ByArguments c k = asks_less f ps u q n w _ (names_plainly arguments_at k no_arguments (λ c v b h n ts. refl) (λ c k m d b ts. refl) loop_arguments) (λ c b d env h xs n ts. refl) k s r e a b
arranged_asks_less f ps u s r e q n w a b ByEval c k = asks_less f ps u q n w _ (seen_plainly k) (λ c b d env h xs n ts. refl) k s r e a b
arranged_asks_less f ps u s r e q n w a b AmongParameters c k = asks_less f ps u q n w _ (names_plainly (params_at c) k (no_params c) (λ c v b h n ts. refl) (λ c k m d b ts. refl) (loop_params c)) (λ c b d env h xs n ts. refl) k s r e a b
arranged_asks_less f ps u s r e q n w a b ReadEarly c k = early_less f ps u q n w c k s r e a b
