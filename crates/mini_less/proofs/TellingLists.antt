-- Each fact tells only so much of such statements.
use Rattle.std.specs.Prelude.{ℕ, zero, suc, ◌≡◌, refl, nat_eq, map, not, Bool, true, false, ◌&&◌, ◌||◌, List, [], ◌∷◌, ◌++◌, if◌then◌else◌}
use Rattle.std.specs.List.{list_any}
use Rattle.std.proofs.Common.{ap, ◌∙◌, sym, inl, inr, true≢false}
use Rattle.std.proofs.lemmas.List.{append-nil}
use Rattle.mini_model.specs.declared.kind.VariableDeclarationKind.{VariableDeclarationKind}
use Rattle.mini_model.specs.declared.kind.VariableDeclarationKind.TheVariants.{Var, Let, Const}
use Rattle.mini_model.specs.declared.name.Name.{Name}
use Rattle.mini_model.specs.declared.shape.Shape.TheVariants as shape
use Rattle.mini_model.specs.Paths.{append}
use Rattle.mini_model.specs.Tree.{Tree, Trees, none, ◌▸◌, listed, absent, is_absent}
use Rattle.mini_laws.specs.declared.names.Declared.TheVariants as declared
use Rattle.mini_laws.specs.declared.names.Use.{Use}
use Rattle.mini_laws.specs.declared.names.Use.TheVariants.{Read, Hoisted, Headed}
use Rattle.mini_laws.specs.References.{writes}
use Rattle.mini_laws.specs.DeclaredNames.{names_of, all_names, bound_names, with_names}
use Rattle.mini_laws.specs.declared.names.Around.{Around}
use Rattle.mini_laws.specs.Shared.{given_values, names_in_pattern, own_pattern_writes, write_at}
use Rattle.mini_laws.specs.Resolved.{Environment, gives_value, with_symbol}
use Rattle.mini_laws.specs.Foreign.{is_write, own_lexical}
use Rattle.mini_laws.specs.Mentions.{Mention, same_variable, is_among, is_elsewhere}
use Rattle.mini_laws.specs.ScopeList.{any_has_eval, by_symbol}
use Rattle.mini_laws.specs.Scopes.{opened, scopes_by, lexical_scope}
use Rattle.mini_shrink.specs.Pace.{Setting, Question}
use Rattle.mini_shrink.specs.Questions.{Own, asks, finds, mentions_such, gives_such, sets_such, pattern_gives, names_at, lexical_at, switched_at, pattern_at, caught_at, arguments_at, params_at, seen_from, seen_at, early}
use Rattle.mini_shrink.specs.Facts.{Fact, Written, WrittenElsewhere, Given, GivenElsewhere, GivenByPattern, MentionedElsewhere, BoundElsewhere, IsLexical, IsSwitched, InPattern, UnderCatch, ByArguments, ByEval, AmongParameters, ReadEarly, question}
use Rattle.mini_rows.specs.Lists.{binding, declarator, is_unscoped_shape}
use Rattle.mini_rows.proofs.ListKeptDeclarations.{all_both}
use Rattle.mini_less.specs.Less.{Frame, AFor, AWhile, ADo, AnIn, AnOf, frame_shape, headed}
use Rattle.mini_less.specs.TellsLists.{Names, TellsLists}
use Rattle.mini_less.proofs.HoistedNames.{Within, AsksWithin, hoisted_unasked}
use Rattle.mini_shrink.proofs.Finding.{mentions_found, finds_either}
use Rattle.mini_less.proofs.EachFact.{Unordered}
use Rattle.mini_less.proofs.Flags.{none_of}
use Rattle.mini_less.proofs.Plainly.{Updates, mentions_plainly, unscoped_mention, sets_plainly, loop_pattern, loop_lexical, pattern_gives_plainly, names_plainly, no_switched, no_pattern, no_caught, no_arguments, no_params, loop_switched, loop_pattern_at, loop_caught, loop_arguments, loop_params, lexical_plainly, unseen, head_scope, later_scopes, seen_plainly}

-- a name among those of two lists is among those of either
pub among_both : (x : Name) (xs ys : List Name) → is_among x (xs ++ ys) ≡ (is_among x xs || is_among x ys)
among_both x [] ys = refl
among_both x (z ∷ xs) ys = ap (λ b. same_variable x z || b) (among_both x xs ys) ∙ sym (or_more (same_variable x z) (is_among x xs) (is_among x ys))
  where
    or_more : (x y z : Bool) → ((x || y) || z) ≡ (x || (y || z))
    or_more true y z = refl
    or_more false y z = refl

loop_unscoped : (f : Frame) → is_unscoped_shape (frame_shape f) ≡ true
loop_unscoped AFor = refl
loop_unscoped AWhile = refl
loop_unscoped ADo = refl
loop_unscoped AnIn = refl
loop_unscoped AnOf = refl

every_name : (P : Name → Type 0) → ((x : Name) → P x) → (xs : List Name) → Names P xs
every_name P f [] = tt
every_name P f (x ∷ xs) = (f x, every_name P f xs)

map_names : (P R : Name → Type 0) → ((x : Name) → P x → R x) → (xs : List Name) → Names P xs → Names R xs
map_names P R f [] a = tt
map_names P R f (x ∷ xs) a = (f x a.0, map_names P R f xs a.1)

pub elsewhere_within : (c : ℕ) (a b : Around) → Within a b → is_elsewhere c a ≡ true → is_elsewhere c b ≡ true
elsewhere_within c a b (inl q) e = ap (is_elsewhere c) q ∙ e
elsewhere_within c a b (inr q) e = ap (λ z. z || not (nat_eq b.number c)) q

pub both_true : (x y z : Bool) → (y ≡ true → z ≡ true) → (x && y) ≡ true → (x && z) ≡ true
both_true true y z f e = f e
both_true false y z f e = e

-- what binds a name is no write
never_written : (q b d : Bool) → ((q && false) && b) ≡ true → d ≡ true
never_written true b d e = absurd (true≢false (sym e))
never_written false b d e = absurd (true≢false (sym e))

never_elsewhere : (q b c d : Bool) → (((q && false) && b) && c) ≡ true → d ≡ true
never_elsewhere true b c d e = absurd (true≢false (sym e))
never_elsewhere false b c d e = absurd (true≢false (sym e))

write_within : (s : Name) → AsksWithin (is_write s)
write_within s x u a b k e = never_written (same_variable s x) (writes Hoisted) _ e

write_elsewhere : (s : Name) (c : ℕ) → AsksWithin (λ m. is_write s m && is_elsewhere c m.around)
write_elsewhere s c x u a b k e = never_elsewhere (same_variable s x) (writes Hoisted) (is_elsewhere c a) _ e

-- a name in the head of a loop is such only if it is as one that is hoisted
abbrev pub Heads : (Mention → Bool) → Type 0
Heads p = (x : Name) (a : Around) → p (record { name = x; used = Hoisted; binds = true; around = a }) ≡ false → p (record { name = x; used = Headed; binds = true; around = a }) ≡ false

unwritten : (q b : Bool) → ((q && false) && b) ≡ false
unwritten true b = refl
unwritten false b = refl

heads_write : (s : Name) → Heads (is_write s)
heads_write s x a e = unwritten (same_variable s x) (writes Headed)

heads_elsewhere : (s : Name) (c : ℕ) → Heads (λ m. is_write s m && is_elsewhere c m.around)
heads_elsewhere s c x a e = ap (λ b. b && is_elsewhere c a) (unwritten (same_variable s x) (writes Headed))

or_none : (b : Bool) → (b || false) ≡ b
or_none true = refl
or_none false = refl

-- ---- names that are mentioned, or given a value

pub mentions_lists : (p : Mention → Bool) → Updates p → Heads p → AsksWithin p → TellsLists (mentions_such p)
mentions_lists p u h w = record {
  plainly = mentions_plainly p u;
  unheaded = λ c env f i ts e. unscoped_mention p c (frame_shape f) [] (loop_unscoped f);
  switched = λ c env d e cases x y z. refl;
  hoisted = λ c env ts. refl;
  joined = λ c env k ds es r x y. refl;
  bare = λ c env x u. refl;
  given = λ c env x v e. refl;
  valued = λ c env i d e a q. refl;
  headed = λ c env x e j. h x c.around (sym (or_none _) ∙ e) j || false;
  initialised = λ c env k i d e ds r q. refl;
  left = λ c env t e k later u a. map_names _ _ (λ x y. (λ j. p (record { name = x; used = u j; binds = true; around = a j }) || false) ∙ λ j. y j || false) (names_of declared.Hoisted t) (hoisted_unasked p w c.around c.used t (mentions_found p c env t ∙ e));
}

-- a node that writes it, or a `var` that gives it a value
pub sets_lists : (p : Mention → Bool) → Updates p → Heads p → AsksWithin p → TellsLists (sets_such p)
unfolding names_of
sets_lists p u h w = record {
  plainly = sets_plainly p u;
  unheaded = λ c env f i ts e j. mentioned.unheaded c env f i ts e j || by c f (i ▸ ts) j;
  switched = λ c env d e cases x y z. refl;
  hoisted = λ c env ts. refl;
  joined = λ c env k ds es r x y. refl;
  bare = λ c env x u. ap (λ v. list_any p (map (write_at c.around) (given_values v shape.VariableDeclarator [] (binding x ▸ (absent ▸ none))))) u;
  given = λ c env x v e. given_by c x (gives_value c.used (is_absent v)) (none_of _ _ e).0;
  valued = λ c env i d e a q. ap (λ b. list_any p (map (write_at c.around) (if gives_value c.used b then bound_names i else []))) (sym a) ∙ q;
  headed = λ c env x e j. mentioned.headed c env x (none_of _ _ e).0 j || false;
  initialised = λ c env k i d e ds r q. refl;
  left = λ c env t e k later u a. map_names _ _ (λ x y j. y j || false) (names_of declared.Hoisted t)
      (mentioned.left c env t (none_of (finds (mentions_such p) c env t) (finds (gives_such p) c env t) (sym (finds_either (mentions_such p) (gives_such p) c env t) ∙ e)).0 k later u a);
}
  where
    mentioned : TellsLists (mentions_such p)
    mentioned = mentions_lists p u h w

    given_by : (c : Setting) (x : Name) (b : Bool) → (p (write_at c.around x) || false) ≡ false → list_any p (map (write_at c.around) (if b then bound_names (binding x) else [])) ≡ false
    given_by c x true e = e
    given_by c x false e = refl

    by : (c : Setting) (f : Frame) (ts : Trees) → gives_such p c [] (frame_shape f) [] 0 ts ≡ false
    by c AFor ts = refl
    by c AWhile ts = refl
    by c ADo ts = refl
    by c AnIn ts = refl
    by c AnOf ts = refl

pub patterns_lists : (s : ℕ) → TellsLists (pattern_gives s)
patterns_lists s = record {
  plainly = pattern_gives_plainly s;
  unheaded = λ c env f i ts e. ap (is_among (by_symbol s)) (loop_pattern c.used env f (i ▸ ts));
  switched = λ c env d e cases x y z. refl;
  hoisted = λ c env ts. refl;
  joined = λ c env k ds es r x y. refl;
  bare = λ c env x u. ap (λ v. is_among (by_symbol s) (own_pattern_writes v env shape.VariableDeclarator (binding x ▸ (absent ▸ none)))) u;
  given = λ c env x v e. given_by c env x (gives_value c.used (is_absent v));
  valued = λ c env i d e a q. ap (λ b. is_among (by_symbol s) (if gives_value c.used b then map (with_symbol Read env) (names_in_pattern i) else [])) (sym a) ∙ q;
  headed = λ c env x e. refl;
  initialised = λ c env k i d e ds r q. refl;
  left = λ c env t e k later u a. every_name _ (λ x. refl) (names_of declared.Hoisted t);
}
  where
    given_by : (c : Setting) (env : Environment) (x : Name) (b : Bool) → is_among (by_symbol s) (if b then map (with_symbol Read env) (names_in_pattern (binding x)) else []) ≡ false
    given_by c env x true = refl
    given_by c env x false = refl

-- ---- names that stand at a node

pub switched_lists : (s : ℕ) → TellsLists (names_at switched_at s)
unfolding names_of
switched_lists s = record {
  plainly = names_plainly switched_at s no_switched (λ c v b h n ts. refl) (λ c k m d b ts. refl) loop_switched;
  unheaded = λ c env f i ts e. ap (is_among (by_symbol s)) (loop_switched c f (i ▸ ts));
  switched = λ c env d e cases x y z. (λ j. is_among (by_symbol s) ((y ∙ sym x) j ++ (names_of declared.Lexical cases ++ []))) ∙ z;
  hoisted = λ c env ts. refl;
  joined = λ c env k ds es r x y. refl;
  bare = λ c env x u. refl;
  given = λ c env x v e. refl;
  valued = λ c env i d e a q. refl;
  headed = λ c env x e. refl;
  initialised = λ c env k i d e ds r q. refl;
  left = λ c env t e k later u a. every_name _ (λ x. refl) (names_of declared.Hoisted t);
}

pub patterned_lists : (s : ℕ) → TellsLists (names_at pattern_at s)
patterned_lists s = record {
  plainly = names_plainly pattern_at s no_pattern (λ c v b h n ts. refl) (λ c k m d b ts. refl) loop_pattern_at;
  unheaded = λ c env f i ts e. ap (is_among (by_symbol s)) (loop_pattern_at c f (i ▸ ts));
  switched = λ c env d e cases x y z. refl;
  hoisted = λ c env ts. refl;
  joined = λ c env k ds es r x y. refl;
  bare = λ c env x u. refl;
  given = λ c env x v e. refl;
  valued = λ c env i d e a q. refl;
  headed = λ c env x e. refl;
  initialised = λ c env k i d e ds r q. refl;
  left = λ c env t e k later u a. every_name _ (λ x. refl) (names_of declared.Hoisted t);
}

pub caught_lists : (s : ℕ) → TellsLists (names_at caught_at s)
caught_lists s = record {
  plainly = names_plainly caught_at s no_caught (λ c v b h n ts. refl) (λ c k m d b ts. refl) loop_caught;
  unheaded = λ c env f i ts e. ap (is_among (by_symbol s)) (loop_caught c f (i ▸ ts));
  switched = λ c env d e cases x y z. refl;
  hoisted = λ c env ts. refl;
  joined = λ c env k ds es r x y. refl;
  bare = λ c env x u. refl;
  given = λ c env x v e. refl;
  valued = λ c env i d e a q. refl;
  headed = λ c env x e. refl;
  initialised = λ c env k i d e ds r q. refl;
  left = λ c env t e k later u a. every_name _ (λ x. refl) (names_of declared.Hoisted t);
}

pub arguments_lists : (s : ℕ) → TellsLists (names_at arguments_at s)
arguments_lists s = record {
  plainly = names_plainly arguments_at s no_arguments (λ c v b h n ts. refl) (λ c k m d b ts. refl) loop_arguments;
  unheaded = λ c env f i ts e. ap (is_among (by_symbol s)) (loop_arguments c f (i ▸ ts));
  switched = λ c env d e cases x y z. refl;
  hoisted = λ c env ts. refl;
  joined = λ c env k ds es r x y. refl;
  bare = λ c env x u. refl;
  given = λ c env x v e. refl;
  valued = λ c env i d e a q. refl;
  headed = λ c env x e. refl;
  initialised = λ c env k i d e ds r q. refl;
  left = λ c env t e k later u a. every_name _ (λ x. refl) (names_of declared.Hoisted t);
}

pub params_lists : (b s : ℕ) → TellsLists (names_at (params_at b) s)
params_lists b s = record {
  plainly = names_plainly (params_at b) s (no_params b) (λ c v b h n ts. refl) (λ c k m d b ts. refl) (loop_params b);
  unheaded = λ c env f i ts e. ap (is_among (by_symbol s)) (loop_params b c f (i ▸ ts));
  switched = λ c env d e cases x y z. refl;
  hoisted = λ c env ts. refl;
  joined = λ c env k ds es r x y. refl;
  bare = λ c env x u. refl;
  given = λ c env x v e. refl;
  valued = λ c env i d e a q. refl;
  headed = λ c env x e. refl;
  initialised = λ c env k i d e ds r q. refl;
  left = λ c env t e k later u a. every_name _ (λ x. refl) (names_of declared.Hoisted t);
}

pub lexical_lists : (s : ℕ) → TellsLists (names_at lexical_at s)
unfolding names_of
lexical_lists s = record {
  plainly = lexical_plainly s;
  unheaded = λ c env f i ts e. ap (is_among (by_symbol s)) (loop_lexical c.is_body f (i ▸ ts));
  switched = λ c env d e cases x y z. ap (is_among (by_symbol s)) (of_switch c.is_body (e ▸ cases ▸ none));
  hoisted = λ c env ts. ap (is_among (by_symbol s)) (of_var c.is_body ts);
  joined = λ c env k ds es r x y. lexical_joined c.is_body k ds es x y;
  bare = λ c env x u. ap (is_among (by_symbol s)) (of_declarator c.is_body (binding x ▸ (absent ▸ none)));
  given = λ c env x v e. ap (is_among (by_symbol s)) (of_declarator c.is_body (binding x ▸ (v ▸ none)));
  valued = λ c env i d e a q. ap (is_among (by_symbol s)) (of_declarator c.is_body (i ▸ (e ▸ none)));
  headed = λ c env x e. ap (is_among (by_symbol s)) (of_binding c.is_body);
  initialised = λ c env k i d e ds r q. ap (is_among (by_symbol s)) (of_first c.is_body k i e d ds) ∙ q;
  left = λ c env t e k later u a. every_name _ (λ x. ap (is_among (by_symbol s)) (of_binding k.is_body)) (names_of declared.Hoisted t);
}
  where
    of_switch : (b : Bool) (ts : Trees) → own_lexical b shape.SwitchStatement ts ≡ []
    of_switch true ts = refl
    of_switch false ts = refl

    joined_names : (ds es : Trees) → is_among (by_symbol s) (all_names declared.Bound ds ++ []) ≡ false → is_among (by_symbol s) (all_names declared.Bound es ++ []) ≡ false → is_among (by_symbol s) (all_names declared.Bound (append ds es) ++ []) ≡ false
    joined_names ds es x y =
        let one : (ts : Trees) → is_among (by_symbol s) (all_names declared.Bound ts ++ []) ≡ is_among (by_symbol s) (all_names declared.Bound ts) = λ ts. ap (is_among (by_symbol s)) (append-nil (all_names declared.Bound ts)) in
        one (append ds es) ∙ ap (is_among (by_symbol s)) (all_both declared.Bound ds es) ∙ among_both (by_symbol s) (all_names declared.Bound ds) (all_names declared.Bound es) ∙ (λ j. (sym (one ds) ∙ x) j || (sym (one es) ∙ y) j)

    lexical_joined : (b : Bool) (k : VariableDeclarationKind) (ds es : Trees) → is_among (by_symbol s) (own_lexical b (shape.VariableDeclaration k) (listed ds ▸ none)) ≡ false → is_among (by_symbol s) (own_lexical b (shape.VariableDeclaration k) (listed es ▸ none)) ≡ false → is_among (by_symbol s) (own_lexical b (shape.VariableDeclaration k) (listed (append ds es) ▸ none)) ≡ false
    lexical_joined true Var ds es x y = refl
    lexical_joined false Var ds es x y = refl
    lexical_joined true Let ds es x y = joined_names ds es x y
    lexical_joined false Let ds es x y = joined_names ds es x y
    lexical_joined true Const ds es x y = joined_names ds es x y
    lexical_joined false Const ds es x y = joined_names ds es x y

    of_declarator : (b : Bool) (ts : Trees) → own_lexical b shape.VariableDeclarator ts ≡ []
    of_declarator true ts = refl
    of_declarator false ts = refl

    of_first : (b : Bool) (k : VariableDeclarationKind) (i d e : Tree) (ds : Trees) → own_lexical b (shape.VariableDeclaration k) (listed (declarator i d ▸ ds) ▸ none) ≡ own_lexical b (shape.VariableDeclaration k) (listed (declarator i e ▸ ds) ▸ none)
    of_first true Var i d e ds = refl
    of_first false Var i d e ds = refl
    of_first true Let i d e ds = refl
    of_first false Let i d e ds = refl
    of_first true Const i d e ds = refl
    of_first false Const i d e ds = refl

    of_binding : (b : Bool) → own_lexical b shape.BindingIdentifier none ≡ []
    of_binding true = refl
    of_binding false = refl

    of_var : (b : Bool) (ts : Trees) → own_lexical b (shape.VariableDeclaration Var) ts ≡ []
    of_var true ts = refl
    of_var false ts = refl

-- ---- names of scopes in which a direct eval stands

no_names : lexical_scope [] ≡ []
unfolding with_names
no_names = refl

-- a loop whose head declares no lexical name opens no scope
pub unheaded_opens : (u : Use) (f : Frame) (i : Tree) (ts : Trees) → headed f i ≡ [] → (j : ℕ) → opened u (frame_shape f) (i ▸ ts) j ≡ []
unheaded_opens u f i ts e zero = head_scope u f i ts ∙ ap lexical_scope e ∙ no_names
unheaded_opens u f i ts e (suc j) = later_scopes u f i ts j

pub hoisted_opens : (u : Use) (ts : Trees) (j : ℕ) → opened u (shape.VariableDeclaration Var) ts j ≡ []
unfolding scopes_by
hoisted_opens u ts j = refl

-- nor does a declaration in a list
pub declaration_opens : (u : Use) → u ≡ Read → (k : VariableDeclarationKind) (ts : Trees) (j : ℕ) → opened u (shape.VariableDeclaration k) ts j ≡ []
unfolding scopes_by
declaration_opens u r Var ts j = refl
declaration_opens u r Let ts j = ap (λ v. opened v (shape.VariableDeclaration Let) ts j) r
declaration_opens u r Const ts j = ap (λ v. opened v (shape.VariableDeclaration Const) ts j) r

never_and : (b : Bool) → (b && false) ≡ false
never_and true = refl
never_and false = refl

pub seen_lists : (s : ℕ) → TellsLists (seen_at s)
unfolding scopes_by
seen_lists s = record {
  plainly = seen_plainly s;
  unheaded = λ c env f i ts e. unseen (by_symbol s) (opened c.used (frame_shape f) (i ▸ ts)) (unheaded_opens c.used f i ts e) 0 (i ▸ ts);
  switched = λ c env d e cases x y z.
      let later = seen_from (opened c.used shape.SwitchStatement (d ▸ cases ▸ none)) 1 (cases ▸ none) (by_symbol s) in
      let first : (t : Tree) → ((any_has_eval (t ▸ cases ▸ none) && false) || later) ≡ later = λ t. ap (λ b. b || later) (never_and (any_has_eval (t ▸ cases ▸ none))) in
      first e ∙ sym (first d) ∙ z;
  hoisted = λ c env ts. unseen (by_symbol s) (opened c.used (shape.VariableDeclaration Var) ts) (hoisted_opens c.used ts) 0 ts;
  joined = λ c env k ds es r x y. unseen (by_symbol s) (opened c.used (shape.VariableDeclaration k) (listed (append ds es) ▸ none)) (declaration_opens c.used r k (listed (append ds es) ▸ none)) 0 (listed (append ds es) ▸ none);
  bare = λ c env x u. unseen (by_symbol s) (opened c.used shape.VariableDeclarator (binding x ▸ (absent ▸ none))) (λ j. refl) 0 (binding x ▸ (absent ▸ none));
  given = λ c env x v e. unseen (by_symbol s) (opened c.used shape.VariableDeclarator (binding x ▸ (v ▸ none))) (λ j. refl) 0 (binding x ▸ (v ▸ none));
  valued = λ c env i d e a q. unseen (by_symbol s) (opened c.used shape.VariableDeclarator (i ▸ (e ▸ none))) (λ j. refl) 0 (i ▸ (e ▸ none));
  headed = λ c env x e. refl;
  initialised = λ c env k i d e ds r q. unseen (by_symbol s) (opened c.used (shape.VariableDeclaration k) (listed (declarator i e ▸ ds) ▸ none)) (declaration_opens c.used r k (listed (declarator i e ▸ ds) ▸ none)) 0 (listed (declarator i e ▸ ds) ▸ none);
  left = λ c env t e k later u a. every_name _ (λ x. refl) (names_of declared.Hoisted t);
}

-- ---- each fact

-- of one symbol
pub by_lists_of : (k : ℕ) (P : Question → Type 0) → ((o : Own) → TellsLists o → Unordered o → P (asks o)) → ((b : ℕ) → P (early b k)) → (g : Fact) (b : ℕ) → P (question g b k)
by_lists_of k P f r Written c = f _ (mentions_lists (is_write (by_symbol k)) (λ x a e f. e) (heads_write (by_symbol k)) (write_within (by_symbol k))) (λ c d env h xs n ts. refl)
by_lists_of k P f r WrittenElsewhere c = f _ (mentions_lists (λ m. is_write (by_symbol k) m && is_elsewhere c m.around) (λ x a e f. e) (heads_elsewhere (by_symbol k) c) (write_elsewhere (by_symbol k) c)) (λ c d env h xs n ts. refl)
by_lists_of k P f r Given c = f _ (sets_lists (is_write (by_symbol k)) (λ x a e f. e) (heads_write (by_symbol k)) (write_within (by_symbol k))) (λ c d env h xs n ts. refl)
by_lists_of k P f r GivenElsewhere c = f _ (sets_lists (λ m. is_write (by_symbol k) m && is_elsewhere c m.around) (λ x a e f. e) (heads_elsewhere (by_symbol k) c) (write_elsewhere (by_symbol k) c)) (λ c d env h xs n ts. refl)
by_lists_of k P f r MentionedElsewhere c = f _ (mentions_lists (λ m. same_variable (by_symbol k) m.name && is_elsewhere c m.around) (λ x a e f. e) (λ x a e. e) (λ x u a b w e. both_true (same_variable (by_symbol k) x) (is_elsewhere c a) (is_elsewhere c b) (elsewhere_within c a b w) e)) (λ c d env h xs n ts. refl)
by_lists_of k P f r BoundElsewhere c = f _ (mentions_lists (λ m. same_variable (by_symbol k) m.name && m.binds && is_elsewhere c m.around) (λ x a e f. e) (λ x a e. e) (λ x u a b w e. both_true (same_variable (by_symbol k) x && true) (is_elsewhere c a) (is_elsewhere c b) (elsewhere_within c a b w) e)) (λ c d env h xs n ts. refl)
by_lists_of k P f r IsLexical c = f _ (lexical_lists k) (λ c d env h xs n ts. refl)
by_lists_of k P f r IsSwitched c = f _ (switched_lists k) (λ c d env h xs n ts. refl)
by_lists_of k P f r InPattern c = f _ (patterned_lists k) (λ c d env h xs n ts. refl)
by_lists_of k P f r GivenByPattern c = f _ (patterns_lists k) (λ c d env h xs n ts. refl)
by_lists_of k P f r UnderCatch c = f _ (caught_lists k) (λ c d env h xs n ts. refl)
by_lists_of k P f r ByArguments c = f _ (arguments_lists k) (λ c d env h xs n ts. refl)
by_lists_of k P f r ByEval c = f _ (seen_lists k) (λ c d env h xs n ts. refl)
by_lists_of k P f r AmongParameters c = f _ (params_lists c k) (λ c d env h xs n ts. refl)
by_lists_of k P f r ReadEarly c = r c

pub by_lists : (P : Question → Type 0) → ((o : Own) → TellsLists o → Unordered o → P (asks o)) → ((b k : ℕ) → P (early b k)) → (g : Fact) (b k : ℕ) → P (question g b k)
by_lists P f r g c k = by_lists_of k P f (λ c. r c k) g c
