-- A production in its place, in parentheses or not, and goals that one thing serves.
use Rattle.std.specs.Prelude.{ℕ, ◌≡◌, refl, ◌≤◌, nat_le, Bool, true, false, ◌&&◌, List, ◌∷◌}
use Rattle.std.proofs.Common.{◌∙◌, ap, sym, subst, arith, ◌⊎◌, inl, inr}
use Rattle.std.proofs.lemmas.Bool.{false≢true, leb-true}
use Rattle.mini_model.specs.declared.seat.Mix.{Mix}
use Rattle.mini_model.specs.declared.seat.Mix.TheVariants as mix
use Rattle.mini_print.proofs.Told.{is_values, both, defaults_are}
use Rattle.mini_model.specs.Tree.{Tree, Trees, none, ◌▸◌}
use Rattle.mini_print.specs.Token.{Token, Punct, LeftParen, RightParen}
use Rattle.mini_print.specs.Grammar.{Sort, Values, Names, Bindings, Statements, Declarators, sort, is_of, rule_sort, same_sort, is_allowed, WithoutIn, Callee, Goal, Anything, Place, place, Rule, Parenthesized, Array, Import, Call, Binary, Logical, Assignment, Sequence, form, level, has, mixes, built, built_before, opens, Else, Block, Object, Spread, SpreadItem, Element, Properties, Bodies, Fits, SuperCall, PrivateIn, Cases, Catches, BlockParts, BoundProperties, HeadDeclarations, Methods, GeneratorMethods, KeyNames, Chain, TemplateRests, TagTemplates, FirstLinks, Links, BoundElements, DefaultsOf, ClassBodies, ClassElements, Leadings, PatternAssignment, Target, Patterns, TargetElements, TargetProperties, Declarations, DefaultDeclarations, ImportItems, ExportItems, ForwardItems, NewBare}
use Rattle.mini_print.specs.Groups.{Groups, by_rule, Row, end, a_token, a_part}
use Rattle.mini_print.specs.Printed.{is_block, is_fit, parenthesized, plain, turned}

-- ---- a production in its place, with parentheses where it doesn't fit

pub nat_le_is : (n m : ℕ) → nat_le n m ≡ true → n ≤ m
nat_le_is n m e = leb-true n m e

pub fit : (p : Place) (h : Rule) → is_fit p h ≡ true → Fits p h
fit p h e = let a = both (has p.goal h) (nat_le p.level (level h) && mixes p.around h) e in let b = both (nat_le p.level (level h)) (mixes p.around h) a.1 in (a.0, nat_le_is p.level (level h) b.0, b.1)

pub has_parentheses : (g : Goal) → is_values (sort g) ≡ true → has g Parenthesized ≡ true
has_parentheses Anything e = refl
has_parentheses WithoutIn e = refl
has_parentheses Callee e = refl
has_parentheses Target e = refl
has_parentheses Element e = refl
has_parentheses _ e = absurd (false≢true e)

pub fits_whole : (h : Rule) → has Anything h ≡ true → Fits (place Anything 0) h
fits_whole h e = (e, omega arith, refl)

pub any_before : (e : Bool) (h : Rule) (ks : Trees) → is_block h ≡ false → built_before e h ks ≡ built h ks
any_before true Block ks f = absurd (false≢true (sym f))
any_before true _ ks f = refl
any_before false h ks f = refl

pub produced : (p : Place) (h : Rule) (ks : Trees) (ts r : List Token) → is_block h ≡ false → Groups p (built_before (opens Else r) h ks) ts r → Groups p (built h ks) ts r
produced p h ks ts r f c = subst (λ t. Groups p t ts r) (any_before (opens Else r) h ks f) c

pub value_is_no_block : (h : Rule) → is_of Values h ≡ true → is_block h ≡ false
value_is_no_block Block e = absurd (false≢true e)
value_is_no_block _ e = refl

pub same_sort_is : (s u : Sort) → same_sort s u ≡ true → s ≡ u
same_sort_is Values Values e = refl
same_sort_is Values _ e = absurd (false≢true e)
same_sort_is Names Names e = refl
same_sort_is Names _ e = absurd (false≢true e)
same_sort_is Bindings Bindings e = refl
same_sort_is Bindings _ e = absurd (false≢true e)
same_sort_is Statements Statements e = refl
same_sort_is Statements _ e = absurd (false≢true e)
same_sort_is Declarators Declarators e = refl
same_sort_is Declarators _ e = absurd (false≢true e)
same_sort_is Properties Properties e = refl
same_sort_is Properties _ e = absurd (false≢true e)
same_sort_is Bodies Bodies e = refl
same_sort_is Bodies _ e = absurd (false≢true e)
same_sort_is Cases Cases e = refl
same_sort_is Cases _ e = absurd (false≢true e)
same_sort_is Catches Catches e = refl
same_sort_is Catches _ e = absurd (false≢true e)
same_sort_is BoundProperties BoundProperties e = refl
same_sort_is BoundProperties _ e = absurd (false≢true e)
same_sort_is HeadDeclarations HeadDeclarations e = refl
same_sort_is HeadDeclarations _ e = absurd (false≢true e)
same_sort_is Methods Methods e = refl
same_sort_is Methods _ e = absurd (false≢true e)
same_sort_is GeneratorMethods GeneratorMethods e = refl
same_sort_is GeneratorMethods _ e = absurd (false≢true e)
same_sort_is KeyNames KeyNames e = refl
same_sort_is KeyNames _ e = absurd (false≢true e)
same_sort_is TemplateRests TemplateRests e = refl
same_sort_is TemplateRests _ e = absurd (false≢true e)
same_sort_is TagTemplates TagTemplates e = refl
same_sort_is TagTemplates _ e = absurd (false≢true e)
same_sort_is FirstLinks FirstLinks e = refl
same_sort_is FirstLinks _ e = absurd (false≢true e)
same_sort_is Links Links e = refl
same_sort_is Links _ e = absurd (false≢true e)
same_sort_is BoundElements BoundElements e = refl
same_sort_is BoundElements _ e = absurd (false≢true e)
same_sort_is (DefaultsOf b s) (DefaultsOf d t) e = defaults_are b d s t e
same_sort_is (DefaultsOf b s) _ e = absurd (false≢true e)
same_sort_is ClassBodies ClassBodies e = refl
same_sort_is ClassBodies _ e = absurd (false≢true e)
same_sort_is ClassElements ClassElements e = refl
same_sort_is ClassElements _ e = absurd (false≢true e)
same_sort_is Leadings Leadings e = refl
same_sort_is Leadings _ e = absurd (false≢true e)
same_sort_is Patterns Patterns e = refl
same_sort_is Patterns _ e = absurd (false≢true e)
same_sort_is TargetElements TargetElements e = refl
same_sort_is TargetElements _ e = absurd (false≢true e)
same_sort_is TargetProperties TargetProperties e = refl
same_sort_is TargetProperties _ e = absurd (false≢true e)
same_sort_is Declarations Declarations e = refl
same_sort_is Declarations _ e = absurd (false≢true e)
same_sort_is DefaultDeclarations DefaultDeclarations e = refl
same_sort_is DefaultDeclarations _ e = absurd (false≢true e)
same_sort_is ImportItems ImportItems e = refl
same_sort_is ImportItems _ e = absurd (false≢true e)
same_sort_is ExportItems ExportItems e = refl
same_sort_is ExportItems _ e = absurd (false≢true e)
same_sort_is ForwardItems ForwardItems e = refl
same_sort_is ForwardItems _ e = absurd (false≢true e)
same_sort_is BlockParts BlockParts e = refl
same_sort_is BlockParts _ e = absurd (false≢true e)

pub rule_sort_is : (s : Sort) (h : Rule) → is_of s h ≡ true → s ≡ rule_sort h
rule_sort_is s h e = same_sort_is s (rule_sort h) (both (same_sort s (rule_sort h)) (is_allowed h) e).0

-- ---- goals that one thing serves

-- a value may be an element
abbrev pub serves_more : Goal → Goal → Bool
serves_more Anything Element = true
serves_more w g = false

-- what may stand in one goal may stand in the other
abbrev pub Serves : Goal → Goal → Type 0
Serves w g = (w ≡ plain g) ⊎ (serves_more w g ≡ true)

pub plain_sort : (g : Goal) → sort (plain g) ≡ sort g
plain_sort WithoutIn = refl
plain_sort Callee = refl
plain_sort Target = refl
plain_sort _ = refl

pub more_sort : (w g : Goal) → serves_more w g ≡ true → sort w ≡ sort g
more_sort Anything Element e = refl
more_sort w g e = absurd (false≢true e)

pub serves_sort : (w g : Goal) → Serves w g → sort w ≡ sort g
serves_sort w g (inl e) = ap sort e ∙ plain_sort g
serves_sort w g (inr e) = more_sort w g e

pub more_turned : (w g : Goal) → serves_more w g ≡ true → (k : Rule) → is_of (sort w) (turned w k) ≡ true → turned (plain g) k ≡ turned w k
more_turned Anything Element e Spread i = absurd (false≢true i)
more_turned Anything Element e k i = refl
more_turned w g e k i = absurd (false≢true e)

pub serves_turned : (w g : Goal) → Serves w g → (k : Rule) → is_of (sort w) (turned w k) ≡ true → turned (plain g) k ≡ turned w k
serves_turned w g (inl e) k i = ap (λ v. turned v k) (sym e)
serves_turned w g (inr e) k i = more_turned w g e k i

pub plain_has : (g : Goal) → is_values (sort g) ≡ false → (h : Rule) → has (plain g) h ≡ true → has g h ≡ true
plain_has WithoutIn v h e = absurd (false≢true (sym v))
plain_has Callee v h e = absurd (false≢true (sym v))
plain_has Target v h e = absurd (false≢true (sym v))
plain_has _ v h e = e

pub more_has : (w g : Goal) → serves_more w g ≡ true → is_values (sort g) ≡ false → (h : Rule) → has w h ≡ true → has g h ≡ true
more_has Anything Element s v h e = absurd (false≢true (sym v))
more_has w g s v h e = absurd (false≢true s)

pub serves_has : (w g : Goal) → Serves w g → is_values (sort g) ≡ false → (h : Rule) → has w h ≡ true → has g h ≡ true
serves_has w g (inl q) v h e = plain_has g v h (subst (λ x. has x h ≡ true) q e)
serves_has w g (inr q) v h e = more_has w g q v h e

pub value_serves : (g : Goal) → is_values (sort g) ≡ true → Serves Anything g
value_serves Anything e = inl refl
value_serves WithoutIn e = inl refl
value_serves Callee e = inl refl
value_serves Target e = inl refl
value_serves Element e = inr refl
value_serves _ e = absurd (false≢true e)

-- how tight a place is at most
abbrev pub limit : Goal → ℕ
limit Anything = 18
limit _ = 1

pub one_limit : (w : Goal) → 1 ≤ limit w
one_limit Anything = omega arith
one_limit _ = omega arith

pub limited : (w : Goal) → limit w ≤ 18
limited Anything = omega arith
limited _ = omega arith

-- ---- a production that is no value

pub plain_level : (h : Rule) → is_values (rule_sort h) ≡ false → 1 ≤ level h
plain_level Sequence e = absurd (false≢true (sym e))
plain_level (Binary o) e = absurd (false≢true (sym e))
plain_level (Logical o) e = absurd (false≢true (sym e))
plain_level _ e = omega arith

pub plain_mixes : (b : Mix) (h : Rule) → is_values (rule_sort h) ≡ false → mixes b h ≡ true
plain_mixes b (Logical o) e = absurd (false≢true (sym e))
plain_mixes mix.None _ e = refl
plain_mixes mix.InCoalesce _ e = refl
plain_mixes mix.InAndOr _ e = refl

pub no_value : (h : Rule) → is_values (rule_sort h) ≡ false → is_of Values h ≡ false
no_value h e = by (rule_sort h) e
  where
    by : (s : Sort) → is_values s ≡ false → (same_sort Values s && is_allowed h) ≡ false
    by Values e = absurd (false≢true (sym e))
    by _ e = refl

pub fits_plainly : (p : Place) (h : Rule) → has p.goal h ≡ true → is_values (rule_sort h) ≡ false → p.level ≤ 1 → Fits p h
fits_plainly p h e v l = let m = plain_level h v in (e, omega (arith, m, l), plain_mixes p.around h v)

-- what stands in no parentheses fits where it may stand
pub only_bare : (w : Goal) (h : Rule) (b : Mix) → is_values (sort w) ≡ true → is_of (sort w) h ≡ true → has Anything h ≡ false → has w h ≡ true → (limit w ≡ 1) × (1 ≤ level h) × (mixes b h ≡ true)
only_bare Element SpreadItem b v i e f = (refl, omega arith, un b)
  where
    un : (b : Mix) → mixes b SpreadItem ≡ true
    un mix.None = refl
    un mix.InCoalesce = refl
    un mix.InAndOr = refl
only_bare Element h b v i e f = absurd (false≢true (sym e ∙ ap (λ y. y && true) i))
only_bare Anything h b v i e f = absurd (false≢true (sym e ∙ f))
only_bare WithoutIn h b v i e f = absurd (false≢true (sym e ∙ without h f))
  where
    without : (h : Rule) → has WithoutIn h ≡ true → has Anything h ≡ true
    without (Binary o) f = refl
    without (PrivateIn s) f = refl
    without h f = f
only_bare Callee h b v i e f = absurd (false≢true (sym e ∙ called h f))
  where
    called : (h : Rule) → has Callee h ≡ true → has Anything h ≡ true
    called Call f = refl
    called Import f = refl
    called SuperCall f = refl
    called Chain f = refl
    called NewBare f = refl
    called h f = f
only_bare Target h b v i e f = absurd (false≢true (sym e ∙ targeted h f))
  where
    targeted : (h : Rule) → has Target h ≡ true → has Anything h ≡ true
    targeted (Assignment o) f = refl
    targeted PatternAssignment f = refl
    targeted Array f = refl
    targeted Object f = refl
    targeted Chain f = refl
    targeted NewBare f = refl
    targeted h f = f
only_bare _ h b v i e f = absurd (false≢true v)

-- in parentheses anything stands anywhere
pub in_parentheses : (p : Place) (t : Tree) (ts r : List Token) → is_values (sort p.goal) ≡ true → p.level ≤ 18 → Groups (place Anything 0) t ts (Punct RightParen ∷ r) → Groups p t (Punct LeftParen ∷ ts) r
in_parentheses p t ts r v l c = produced p Parenthesized (t ▸ none) _ r refl (
    by_rule p Parenthesized (t ▸ none) _ r (has_parentheses p.goal v, l, mixed p.around) (a_token _ _ _ _ _ _ (a_part _ _ _ _ _ _ _ _ _ _ c (a_token _ _ _ _ _ _ (end _ _)))))
  where
    mixed : (b : Mix) → mixes b Parenthesized ≡ true
    mixed mix.None = refl
    mixed mix.InCoalesce = refl
    mixed mix.InAndOr = refl

pub in_place : (c : Bool) (p : Place) (h : Rule) (ks : Trees) (body : Goal → List Token → List Token) (r : List Token) → is_fit p h ≡ c → is_values (sort p.goal) ≡ true → is_of Values h ≡ true → (c ≡ false → has Anything h ≡ true) → p.level ≤ 18 →
    ((g : Goal) → is_values (sort g) ≡ true → has g h ≡ true → (m : List Token) → Row g (form h) ks (body g m) m) → Groups p (built h ks) (parenthesized c p.goal body r) r
in_place true p h ks body r f a x w l row = let y = fit p h f in produced p h ks _ r (value_is_no_block h x) (by_rule p h ks _ r y (row p.goal a y.0 r))
in_place false p h ks body r f a x w l row = in_parentheses p (built h ks) _ r a l (produced (place Anything 0) h ks _ _ (value_is_no_block h x) (by_rule (place Anything 0) h ks _ _ (fits_whole h (w refl)) (row Anything refl (w refl) (Punct RightParen ∷ r))))
