-- What stands in an expression that is built anew of the parts of another.
use Rattle.std.specs.Prelude.{ℕ, zero, suc, ◌≡◌, refl, Bool, true, false, ◌&&◌, ◌||◌, List, [], ◌∷◌, ◌++◌}
use Rattle.std.proofs.Common.{ap, ◌∙◌, sym, subst, true≢false}
use Rattle.std.proofs.lemmas.Bool.{and_parts}
use Rattle.std.proofs.lemmas.List.{append-nil}
use Rattle.mini_model.specs.declared.operator.AssignmentOperator.TheVariants.{Assign}
use Rattle.mini_model.specs.declared.shape.Shape.{Shape}
use Rattle.mini_model.specs.declared.shape.Shape.TheVariants as shape
use Rattle.mini_model.specs.Tree.{Tree, Trees, node, none, ◌▸◌}
use Rattle.mini_accept.specs.WellShaped.{fits}
use Rattle.mini_laws.specs.declared.names.Use.TheVariants.{Read}
use Rattle.mini_laws.specs.declared.names.Binding.{Binding}
use Rattle.mini_laws.specs.declared.names.Around.{Around}
use Rattle.mini_laws.specs.Scopes.{opened}
use Rattle.mini_laws.specs.Resolved.{Environment}
use Rattle.mini_laws.specs.Strict.{is_strict_in}
use Rattle.mini_laws.specs.Mentions.{around_child}
use Rattle.mini_laws.specs.Foreign.{is_body_by}
use Rattle.mini_shrink.specs.Pace.{Setting, below}
use Rattle.mini_shrink.specs.Questions.{Own, finds, finds_each, any_of}
use Rattle.mini_rows.specs.Lists.{is_unscoped_shape, is_unscoped}
use Rattle.mini_rows.specs.Sketches.{Head, AList, Call, New, StaticMember, Property, Spread, Interpolation, Assignment, If, shape_by, part, under, list, filled, Asked, AsWhole, AsWholeList, AsWholeItem, AsValue, AsValues, AsItems, item_asked, asked_below, use_by, leaps, is_statement_asked, is_expression_head, is_expression, stands_well, parts_of, is_rearranged}
use Rattle.mini_less.specs.Less.{TellsPlainly, ExpressionsFindLess}
use Rattle.mini_rows.proofs.Arranging.{Below, Leaping, Any, Local, to_parts, of_parts}
use Rattle.mini_rows.proofs.ArrangedNames.{nothing_opened, used_below}
use Rattle.mini_rows.proofs.ArrangedMoves.{Moves, forth}
use Rattle.mini_rows.proofs.ArrangedPlain.{is_plain}
use Rattle.mini_kept.specs.KeepsNames.{is_statement_use}
use Rattle.mini_rows.proofs.ArrangedUses.{statement_use}
use Rattle.mini_rows.proofs.StatementUses.{same_scopes, same_use}
use Rattle.mini_rows.proofs.ArrangedValues.{suits_anywhere, head_valued}

-- ---- how a part stands

abbrev pub body_by : Bool → Asked → Bool
body_by b AsWhole = b
body_by b AsWholeList = b
body_by b AsWholeItem = b
body_by b c = false

listed_body : (b : Bool) (c : Asked) → body_by b c ≡ body_by b (item_asked c)
listed_body b AsWhole = refl
listed_body b AsWholeList = refl
listed_body b AsWholeItem = refl
listed_body b AsValues = refl
listed_body b AsItems = refl
listed_body b c = refl

pub no_body : (b : Bool) (h : Head) (c : Asked) (j : ℕ) → is_body_by (shape_by h) (body_by b c) ≡ body_by b (asked_below h c j)
no_body b AList c j = listed_body b c
no_body b (Call d) c zero = refl
no_body b (Call d) c (suc j) = refl
no_body b New c zero = refl
no_body b New c (suc j) = refl
no_body b (StaticMember d) c zero = refl
no_body b (StaticMember d) c (suc j) = refl
no_body b (Property d true) c zero = refl
no_body b (Property d false) c zero = refl
no_body b (Property d e) c (suc j) = refl
no_body b Spread AsValue j = refl
no_body b Spread c j = refl
no_body b Interpolation c zero = refl
no_body b Interpolation AsValue (suc j) = refl
no_body b Interpolation c (suc j) = refl
no_body b (Assignment Assign) c zero = refl
no_body b (Assignment o) c zero = refl
no_body b (Assignment o) c (suc j) = refl
no_body b If c zero = refl
no_body b If c (suc j) = refl
no_body b h c j = refl

pub around_same : (h : Head) (a : Around) (j : ℕ) → around_child (shape_by h) a 0 j ≡ a
around_same AList a j = refl
around_same h a j = refl

pub strict_same : (h : Head) (b : Bool) → is_strict_in b (shape_by h) ≡ b
strict_same AList b = refl
strict_same h b = refl

and_true : (b : Bool) → (b && true) ≡ b
and_true true = refl
and_true false = refl

pub belongs_same : (h : Head) (b : Bool) (j : ℕ) → (below false (record { used = Read; around = record { number = 0; carried = false }; strict = false; is_body = false; belongs = b; ordered = false }) (shape_by h) 0 j).belongs ≡ b
belongs_same AList b j = and_true b
belongs_same h b j = and_true b

none_of : (a b : Bool) → (a || b) ≡ false → (a ≡ false) × (b ≡ false)
none_of true b e = absurd (true≢false e)
none_of false b e = (refl, e)

module _ (o : Own) (plainly : TellsPlainly o) (k : Setting) (env : Environment) where
  abbrev pub setting : Asked → Setting
  setting c = record { used = use_by k.used c; around = k.around; strict = k.strict; is_body = body_by k.is_body c; belongs = k.belongs; ordered = false }

  pub setting_below : (h : Head) (c : Asked) (j : ℕ) → below false (setting c) (shape_by h) 0 j ≡ setting (asked_below h c j)
  setting_below h c j = λ i. record { used = used_below k.used h c j i; around = around_same h k.around j i; strict = strict_same h k.strict i; is_body = no_body k.is_body h c j i; belongs = belongs_same h k.belongs j i; ordered = false }

  abbrev pub Lacks : Asked → Tree → Type 0
  Lacks c t = finds o (setting c) env t ≡ false

  pub lacks_below : (cs : ℕ → Asked) (scope : ℕ → List Binding) → ((j : ℕ) → scope j ≡ []) → (ks : ℕ → Setting) → ((j : ℕ) → ks j ≡ setting (cs j)) → (i : ℕ) (e : Environment) → e ≡ env → (ts : Trees) → any_of (finds_each o scope ks i e ts) ≡ false → Below Lacks cs i ts
  unfolding finds
  lacks_below cs scope z ks w i e q none a = tt
  lacks_below cs scope z ks w i e q (t ▸ ts) a =
      let same : e ++ scope i ≡ env = ap (λ r. e ++ r) (z i) ∙ append-nil e ∙ q in
      let (x, y) = none_of (finds o (ks i) (e ++ scope i) t) (any_of (finds_each o scope ks (suc i) (e ++ scope i) ts)) a in
      (subst (λ s. finds o s env t ≡ false) (w i) (subst (λ r. finds o (ks i) r t ≡ false) same x), lacks_below cs scope z ks w (suc i) (e ++ scope i) same ts y)

  pub below_lacks : (cs : ℕ → Asked) (scope : ℕ → List Binding) → ((j : ℕ) → scope j ≡ []) → (ks : ℕ → Setting) → ((j : ℕ) → ks j ≡ setting (cs j)) → (i : ℕ) (e : Environment) → e ≡ env → (ts : Trees) → Below Lacks cs i ts → any_of (finds_each o scope ks i e ts) ≡ false
  unfolding finds
  below_lacks cs scope z ks w i e q none a = refl
  below_lacks cs scope z ks w i e q (t ▸ ts) a =
      let same : e ++ scope i ≡ env = ap (λ r. e ++ r) (z i) ∙ append-nil e ∙ q in
      λ j. subst (λ r. finds o (ks i) r t ≡ false) (sym same) (subst (λ s. finds o s env t ≡ false) (sym (w i)) a.0) j || below_lacks cs scope z ks w (suc i) (e ++ scope i) same ts a.1 j

  pub nothing_asked : (ls : List _) → Leaping Any ls
  nothing_asked [] = tt
  nothing_asked (l ∷ ls) = (tt, nothing_asked ls)

  pub lacks_local : Local Any Lacks
  unfolding finds
  lacks_local = record {
    down = λ h c ts p a. (nothing_asked (leaps h), lacks_below (asked_below h c) (opened (use_by k.used c) (shape_by h) ts) (nothing_opened (use_by k.used c) h ts p) (below false (setting c) (shape_by h) 0) (setting_below h c) 0 env refl ts (none_of (o (setting c) env (shape_by h) [] 0 ts) (any_of (finds_each o (opened (use_by k.used c) (shape_by h) ts) (below false (setting c) (shape_by h) 0) 0 env ts)) a).1);
    up = λ h c ts p l a. λ j. plainly.plain (setting c) env h ts p j || below_lacks (asked_below h c) (opened (use_by k.used c) (shape_by h) ts) (nothing_opened (use_by k.used c) h ts p) (below false (setting c) (shape_by h) 0) (setting_below h c) 0 env refl ts a j;
  }

  -- ---- a statement that is moved

  pub no_body_below : (h : Shape) (b d : Bool) → is_unscoped_shape h ≡ true → is_body_by h b ≡ is_body_by h d
  no_body_below (shape.Program m ds) b d e = refl
  no_body_below shape.Listed b d e = absurd (cc e)
  no_body_below shape.ExportNamedDeclaration b d e = absurd (cc e)
  no_body_below shape.ExportDefaultDeclaration b d e = absurd (cc e)
  no_body_below h b d e = refl

  same_each : (sc sc' : ℕ → List Binding) → ((j : ℕ) → sc j ≡ sc' j) → (ks ks' : ℕ → Setting) → ((j : ℕ) → ks j ≡ ks' j) → (i : ℕ) (e : Environment) (ts : Trees) → finds_each o sc ks i e ts ≡ finds_each o sc' ks' i e ts
  unfolding finds
  same_each sc sc' z ks ks' w i e none = refl
  same_each sc sc' z ks ks' w i e (t ▸ ts) = λ j. finds o (w i j) (e ++ z i j) t ∷ (ap (λ r. finds_each o sc ks (suc i) (e ++ r) ts) (z i) ∙ same_each sc sc' z ks ks' w (suc i) (e ++ sc' i) ts) j

  pub lacks_anyhow : is_statement_use k.used ≡ true → (c d : Asked) → is_statement_asked c ≡ true → is_statement_asked d ≡ true → (t : Tree) → is_unscoped t ≡ true → Lacks c t → Lacks d t
  unfolding finds
  lacks_anyhow a₀ c d x y (node h xs n ts) e a =
      let v = use_by k.used c in
      let u = use_by k.used d in
      let scopes : (j : ℕ) → opened v h ts j ≡ opened u h ts j = same_scopes v u h e ts in
      let settings : (j : ℕ) → below false (setting c) h n j ≡ below false (setting d) h n j = λ j i. record { used = same_use v u (statement_use k.used a₀ c x) (statement_use k.used a₀ d y) h j e i; around = around_child h k.around n j; strict = is_strict_in k.strict h; is_body = no_body_below h (body_by k.is_body c) (body_by k.is_body d) e i; belongs = (below false (setting c) h n j).belongs; ordered = false } in
      let own : o (setting c) env h xs n ts ≡ o (setting d) env h xs n ts = plainly.moved (setting c) u (body_by k.is_body d) env h xs n ts e in
      sym (λ j. own j || any_of (same_each (opened v h ts) (opened u h ts) scopes (below false (setting c) h n) (below false (setting d) h n) settings 0 env ts j)) ∙ a

  pub lacks_moves : is_statement_use k.used ≡ true → Moves Lacks
  lacks_moves u c d x y t e m a = lacks_anyhow u c d x y t e a

-- ---- expressions

pub not_list : (h : Head) → is_expression_head h ≡ true → suits_anywhere h ≡ true
not_list AList e = absurd (cc e)
not_list Spread e = absurd (cc e)
not_list Interpolation e = absurd (cc e)
not_list h e = refl

pub never : (a b : Bool) → (a ≡ false → b ≡ false) → b ≡ true → a ≡ true
never true b f e = refl
never false b f e = absurd (true≢false (sym e ∙ f refl))

pub as_asked : (k : Setting) → k.used ≡ Read → k.is_body ≡ false → k.ordered ≡ false → k ≡ record { used = Read; around = k.around; strict = k.strict; is_body = false; belongs = k.belongs; ordered = false }
as_asked k e f g = λ i. record { used = e i; around = k.around; strict = k.strict; is_body = f i; belongs = k.belongs; ordered = g i }

pub expressions_find_less : ExpressionsFindLess
expressions_find_less o g f ps u (part i) r e n w a b strict x fit k env kr kb ko = absurd (cc e)
expressions_find_less o g f ps u (list is) r e n w a b strict x fit k env kr kb ko = absurd (cc e)
expressions_find_less o g f ps u (under h ss) r e n w a b strict x fit k env kr kb ko =
    let c = AsValue in
    let rest = is_rearranged f (parts_of c (under h ss)) (parts_of c r) in
    let (first, y) = and_parts (is_expression_head h) (is_expression r && (stands_well f c (under h ss) && (stands_well f c r && rest))) e in
    let (second, y') = and_parts (is_expression r) (stands_well f c (under h ss) && (stands_well f c r && rest)) y in
    let (sn, y'') = and_parts (stands_well f c (under h ss)) (stands_well f c r && rest) y' in
    let (sr, z) = and_parts (stands_well f c r) rest y'' in
    let valued = head_valued ps strict c x h ss (not_list h first) (subst (λ t. fits strict x t ≡ true) a fit) in
    let asked : k ≡ setting o g k env AsValue = as_asked k kr kb ko in
    let less : finds o (setting o g k env AsValue) env (filled ps (under h ss)) ≡ false → finds o (setting o g k env AsValue) env (filled ps r) ≡ false = λ q.
    of_parts Any (Lacks o g k env) (lacks_local o g k env) ps c r (is_plain f ps u c r sr) (forth f ps u (parts_of c (under h ss)) (parts_of c r) z Any (Lacks o g k env) (lacks_moves o g k env (ap is_statement_use kr)) valued (to_parts Any (Lacks o g k env) (lacks_local o g k env) ps c (under h ss) (is_plain f ps u c (under h ss) sn) q)) in
    never (finds o k env n) (finds o k env w) (λ q.
    subst (λ t. finds o k env t ≡ false) (sym b) (subst (λ s. finds o s env (filled ps r) ≡ false) (sym asked) (less (subst (λ s. finds o s env (filled ps (under h ss)) ≡ false) asked (subst (λ t. finds o k env t ≡ false) a q)))))
