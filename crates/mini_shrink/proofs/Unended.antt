-- A tree that binds no name of a symbol ends no declaration of it: what scopes tell of the order of
-- reads and declarations is what its moments tell.
use Rattle.std.specs.Prelude.{ℕ, suc, ◌≡◌, refl, Bool, true, false, ◌&&◌, ◌||◌, List, [], ◌∷◌, ◌++◌}
use Rattle.std.proofs.Common.{ap, ◌∙◌, sym, subst}
use Rattle.mini_model.specs.declared.name.Name.{Name}
use Rattle.mini_model.specs.declared.shape.Shape.{Shape}
use Rattle.mini_model.specs.declared.shape.Shape.TheVariants as shape
use Rattle.mini_model.specs.Tree.{Tree, Trees, node, none, ◌▸◌}
use Rattle.mini_laws.specs.declared.names.Binding.{Binding}
use Rattle.mini_laws.specs.declared.names.Around.{Around}
use Rattle.mini_laws.specs.declared.names.Declared.TheVariants as declared
use Rattle.mini_laws.specs.DeclaredNames.{names_of, first_names}
use Rattle.mini_laws.specs.Scopes.{use_of, opened}
use Rattle.mini_laws.specs.Resolved.{Environment}
use Rattle.mini_laws.specs.Mentions.{own_mentions, around_child, same_variable, is_among}
use Rattle.mini_laws.specs.Foreign.{Moment, reads_at, ends_at, ended_by, joined, in_order, moments, moments_from}
use Rattle.mini_kept.proofs.Unbound.{Other, Unbound, AllUnbound, named}
use Rattle.mini_shrink.specs.Pace.{Pace, Ends, Silent, Reads, AtMost, followed, kept_in, reads_if, ends_if, ends_after, all_followed, in_turn, Setting, below, pace, paces}
use Rattle.mini_shrink.specs.Questions.{early}
use Rattle.mini_shrink.proofs.Moments.{grouped, x, first_of, first_both, reads_first, ends_first, firsts, moved, joined_first, is_catch}

-- ---- answers without an end

-- an answer that ends nothing
pub not_ends : (q m : Pace) → AtMost (kept_in q) m → AtMost Silent m
not_ends Ends m l = l
not_ends Silent m l = l
not_ends Reads Ends l = absurd l
not_ends Reads Silent l = absurd l
not_ends Reads Reads l = tt

pub followed_less : (p q m n : Pace) → AtMost (kept_in p) m → AtMost (kept_in q) n → AtMost (kept_in (followed p q)) (followed m n)
followed_less Ends q Ends n a b = absurd a
followed_less Ends q Silent n a b = not_ends q n b
followed_less Ends q Reads n a b = tt
followed_less Silent q Ends n a b = absurd a
followed_less Silent q Silent n a b = b
followed_less Silent Ends Reads n a b = tt
followed_less Silent Silent Reads n a b = tt
followed_less Silent Reads Reads n a b = tt
followed_less Reads q Ends n a b = absurd a
followed_less Reads q Silent n a b = absurd a
followed_less Reads q Reads n a b = tt

abbrev pub AllLess : List Pace → List Pace → Type 0
AllLess [] [] = Unit {0}
AllLess [] (m ∷ ms) = ⊥
AllLess (p ∷ ps) [] = ⊥
AllLess (p ∷ ps) (m ∷ ms) = AtMost (kept_in p) m × AllLess ps ms

all_less : (ps ms : List Pace) → AllLess ps ms → AtMost (kept_in (all_followed ps)) (all_followed ms)
all_less [] [] a = tt
all_less [] (m ∷ ms) a = absurd a
all_less (p ∷ ps) [] a = absurd a
all_less (p ∷ ps) (m ∷ ms) a = followed_less p (all_followed ps) m (all_followed ms) a.0 (all_less ps ms a.1)

heads_less : (ps ms : List Pace) → AllLess ps ms → AtMost (kept_in (in_turn shape.ForInStatement ps)) (in_turn shape.ForInStatement ms)
heads_less [] [] a = tt
heads_less [] (m ∷ ms) a = absurd a
heads_less (p ∷ ps) [] a = absurd a
heads_less (p ∷ []) (m ∷ []) a = all_less (p ∷ []) (m ∷ []) a
heads_less (p ∷ []) (m ∷ (n ∷ ms)) a = absurd a.1
heads_less (p ∷ (q ∷ ps)) (m ∷ []) a = absurd a.1
heads_less (p ∷ (q ∷ ps)) (m ∷ (n ∷ ms)) a = followed_less q (followed p (all_followed ps)) n (followed m (all_followed ms)) a.1.0 (followed_less p (all_followed ps) m (all_followed ms) a.0 (all_less ps ms a.1.1))

turned_less : (h : Shape) (ps ms : List Pace) → AllLess ps ms → AtMost (kept_in (in_turn h ps)) (in_turn h ms)
turned_less shape.ForInStatement ps ms a = heads_less ps ms a
turned_less shape.ForOfStatement ps ms a = heads_less ps ms a
turned_less h ps ms a = all_less ps ms a

-- what a child tells around it where nothing in it ends
pub unended : (q m : Pace) → AtMost (kept_in q) m → AtMost (ends_after false q) m
unended Ends m l = l
unended Silent m l = l
unended Reads m l = l

pub kept_unended : (q m : Pace) → AtMost (kept_in q) m → AtMost (kept_in (ends_after false q)) m
kept_unended Ends m l = l
kept_unended Silent m l = l
kept_unended Reads m l = l

or_neither : (a b : Bool) → a ≡ false → b ≡ false → (a || b) ≡ false
or_neither a b e f = ap (λ c. c || b) e ∙ f

pub and_either : (o a b : Bool) → a ≡ false → b ≡ false → (o && (a || b)) ≡ false
and_either true a b e f = or_neither a b e f
and_either false a b e f = refl

pub other_among : (k : ℕ) (ys : List Name) → Other k ys → is_among (x k k) ys ≡ false
other_among k [] o = refl
other_among k (y ∷ ys) o = or_neither (same_variable (x k k) y) (is_among (x k k) ys) o.0 (other_among k ys o.1)

module _ (b s : ℕ) where
  -- ---- moments of a node, as answers

  -- the moments of children and of the ends behind them
  joined_ends : (ls : List (List Moment)) (a : Around) (ys : List Name) → first_of b s (joined ls ++ ends_at a ys) ≡ followed (all_followed (firsts b s ls)) (ends_if (is_among (x b s) ys))
  joined_ends ls a ys = first_both b s (joined ls) (ends_at a ys) ∙ ap (λ p. followed p (first_of b s (ends_at a ys))) (joined_first b s ls) ∙ ap (followed (all_followed (firsts b s ls))) (ends_first b s a ys)

  heads_ends : (ls : List (List Moment)) (a : Around) (ys : List Name) → first_of b s (in_order shape.ForInStatement ls (ends_at a ys)) ≡ followed (in_turn shape.ForInStatement (firsts b s ls)) (ends_if (is_among (x b s) ys))
  heads_ends [] a ys = joined_ends [] a ys
  heads_ends (l ∷ []) a ys = joined_ends (l ∷ []) a ys
  heads_ends (l ∷ (k ∷ ls)) a ys =
      let rest = joined ls ++ ends_at a ys in
      moved b s (k ++ l) (joined ls) (ends_at a ys) ∙ moved b s k l rest ∙ first_both b s k (l ++ rest)
      ∙ ap (followed (first_of b s k)) (first_both b s l rest ∙ ap (followed (first_of b s l)) (joined_ends ls a ys) ∙ sym (grouped (first_of b s l) (all_followed (firsts b s ls)) (ends_if (is_among (x b s) ys))))
      ∙ sym (grouped (first_of b s k) (followed (first_of b s l) (all_followed (firsts b s ls))) (ends_if (is_among (x b s) ys)))

  pub turn_ends : (h : Shape) → is_catch b s h ≡ false → (ls : List (List Moment)) (a : Around) (ys : List Name) → first_of b s (in_order h ls (ends_at a ys)) ≡ followed (in_turn h (firsts b s ls)) (ends_if (is_among (x b s) ys))
  turn_ends shape.ForInStatement e ls a ys = heads_ends ls a ys
  turn_ends shape.ForOfStatement e ls a ys = heads_ends ls a ys
  turn_ends shape.CatchClause e ls a ys = absurd (cc e)
  turn_ends h e ls a ys = joined_ends ls a ys

  -- a parameter of `catch` ends before the block
  pub catch_ends : (l : List Moment) (ls : List (List Moment)) (a : Around) (ys : List Name) → first_of b s (in_order shape.CatchClause (l ∷ ls) (ends_at a ys)) ≡ followed (followed (first_of b s l) (ends_if (is_among (x b s) ys))) (all_followed (firsts b s ls))
  catch_ends l ls a ys =
      first_both b s (l ++ ends_at a ys) (joined ls) ∙ ap (λ p. followed p (first_of b s (joined ls))) (first_both b s l (ends_at a ys) ∙ ap (followed (first_of b s l)) (ends_first b s a ys))
      ∙ ap (followed (followed (first_of b s l) (ends_if (is_among (x b s) ys)))) (joined_first b s ls)

  silent_after : (p : Pace) → followed p Silent ≡ p
  silent_after Ends = refl
  silent_after Silent = refl
  silent_after Reads = refl

  -- a node with which no declaration of the symbol ends
  pub turn_unended : (h : Shape) (ls : List (List Moment)) (a : Around) (ys : List Name) → is_among (x b s) ys ≡ false → first_of b s (in_order h ls (ends_at a ys)) ≡ in_turn h (firsts b s ls)
  turn_unended shape.CatchClause [] a ys e = joined_ends [] a ys ∙ ap ends_if e
  turn_unended shape.CatchClause (l ∷ ls) a ys e = catch_ends l ls a ys ∙ ap (λ d. followed (followed (first_of b s l) (ends_if d)) (all_followed (firsts b s ls))) e ∙ ap (λ p. followed p (all_followed (firsts b s ls))) (silent_after (first_of b s l))
  turn_unended shape.ForInStatement ls a ys e = heads_ends ls a ys ∙ ap (λ d. followed (in_turn shape.ForInStatement (firsts b s ls)) (ends_if d)) e ∙ silent_after (in_turn shape.ForInStatement (firsts b s ls))
  turn_unended shape.ForOfStatement ls a ys e = heads_ends ls a ys ∙ ap (λ d. followed (in_turn shape.ForInStatement (firsts b s ls)) (ends_if d)) e ∙ silent_after (in_turn shape.ForInStatement (firsts b s ls))
  turn_unended h ls a ys e = joined_ends ls a ys ∙ ap (λ d. followed (all_followed (firsts b s ls)) (ends_if d)) e ∙ silent_after (all_followed (firsts b s ls))

  -- ---- names that a node ends

  first_unbound : (ts : Trees) → AllUnbound s ts → is_among (x b s) (first_names ts) ≡ false
  unfolding names_of
  first_unbound none a = refl
  first_unbound (t ▸ ts) a = other_among s (names_of declared.Bound t) (named s declared.Bound t a.0)

  pub ends_none : (h : Shape) (ts : Trees) → AllUnbound s ts → is_among (x b s) (ended_by h ts) ≡ false
  ends_none shape.VariableDeclarator ts a = first_unbound ts a
  ends_none (shape.Function true g ds) ts a = first_unbound ts a
  ends_none (shape.Class true) ts a = first_unbound ts a
  ends_none shape.CatchClause ts a = first_unbound ts a
  ends_none h ts a = refl

  pub none_ended : (c : Setting) (t : Tree) → Unbound s t → (early b s).ends c t ≡ false
  none_ended c t a = and_either c.ordered (is_among (x b s) (names_of declared.Lexical t)) (is_among (x b s) (names_of declared.Bound t)) (other_among s (names_of declared.Lexical t) (named s declared.Lexical t a)) (other_among s (names_of declared.Bound t) (named s declared.Bound t a))

  -- ---- a node whose children end nothing

  kept_reads : (r : Bool) → AtMost (kept_in (reads_if r)) (reads_if r)
  kept_reads true = tt
  kept_reads false = tt

  abbrev pub Children : Setting → Environment → Shape → List Name → ℕ → Trees → Type 0
  Children c env h xs n ts = AllLess (paces (early b s) (opened c.used h ts) (below ((early b s).orders c h ts) c h n) 0 env ts) (firsts b s (moments_from (use_of h c.used) (around_child h c.around n) 0 ts))

  -- what a node tells of its own and of its children, before what ends with it
  told_less : (c : Setting) (env : Environment) (h : Shape) (xs : List Name) (n : ℕ) (ts : Trees) → Children c env h xs n ts
      → AtMost (kept_in (pace (early b s) c env (node h xs n ts))) (followed (first_of b s (reads_at (own_mentions c.used c.around h xs))) (in_turn h (firsts b s (moments_from (use_of h c.used) (around_child h c.around n) 0 ts))))
  unfolding pace
  told_less c env h xs n ts a =
      let own = (early b s).before c env h xs n ts in
      let ps = paces (early b s) (opened c.used h ts) (below ((early b s).orders c h ts) c h n) 0 env ts in
      let ms = firsts b s (moments_from (use_of h c.used) (around_child h c.around n) 0 ts) in
      followed_less own (in_turn h ps) (first_of b s (reads_at (own_mentions c.used c.around h xs))) (in_turn h ms)
      (subst (λ r. AtMost (kept_in own) r) (sym (reads_first b s (own_mentions c.used c.around h xs))) (kept_reads _))
      (turned_less h ps ms a)

  pub node_still : (c : Setting) (env : Environment) (h : Shape) (xs : List Name) (n : ℕ) (ts : Trees) → is_among (x b s) (ended_by h ts) ≡ false → Children c env h xs n ts → AtMost (kept_in (pace (early b s) c env (node h xs n ts))) (first_of b s (moments c.used c.around (node h xs n ts)))
  unfolding moments
  node_still c env h xs n ts e a =
      let ls = moments_from (use_of h c.used) (around_child h c.around n) 0 ts in
      let reads = reads_at (own_mentions c.used c.around h xs) in
      subst (AtMost (kept_in (pace (early b s) c env (node h xs n ts)))) (sym (first_both b s reads (in_order h ls (ends_at c.around (ended_by h ts))) ∙ ap (followed (first_of b s reads)) (turn_unended h ls c.around (ended_by h ts) e))) (told_less c env h xs n ts a)

  pub end_after : (q m : Pace) → AtMost (kept_in q) m → AtMost (ends_after true q) (followed m Ends)
  end_after Ends m l = tt
  end_after Silent m l = tt
  end_after Reads Ends l = absurd l
  end_after Reads Silent l = absurd l
  end_after Reads Reads l = tt

  -- a node with which a declaration of the symbol ends
  pub node_ended : (c : Setting) (env : Environment) (h : Shape) (xs : List Name) (n : ℕ) (ts : Trees) → is_catch b s h ≡ false → is_among (x b s) (ended_by h ts) ≡ true → Children c env h xs n ts
      → AtMost (ends_after true (pace (early b s) c env (node h xs n ts))) (first_of b s (moments c.used c.around (node h xs n ts)))
  unfolding moments
  node_ended c env h xs n ts k e a =
      let ls = moments_from (use_of h c.used) (around_child h c.around n) 0 ts in
      let reads = reads_at (own_mentions c.used c.around h xs) in
      let q = pace (early b s) c env (node h xs n ts) in
      subst (AtMost (ends_after true q))
      (sym (first_both b s reads (in_order h ls (ends_at c.around (ended_by h ts))) ∙ ap (followed (first_of b s reads)) (turn_ends h k ls c.around (ended_by h ts) ∙ ap (λ d. followed (in_turn h (firsts b s ls)) (ends_if d)) e) ∙ sym (grouped (first_of b s reads) (in_turn h (firsts b s ls)) Ends)))
      (end_after q (followed (first_of b s reads) (in_turn h (firsts b s ls))) (told_less c env h xs n ts a))

  mutual
    unfolding moments pace

    pub still : (c : Setting) (env : Environment) (t : Tree) → Unbound s t → AtMost (kept_in (pace (early b s) c env t)) (first_of b s (moments c.used c.around t))
    still c env (node h xs n ts) a = node_still c env h xs n ts (ends_none h ts a.1) (each_still (opened c.used h ts) (below ((early b s).orders c h ts) c h n) 0 env ts a.1)

    pub each_still : (sc : ℕ → List Binding) (cs : ℕ → Setting) (i : ℕ) (env : Environment) (ts : Trees) → AllUnbound s ts → AllLess (paces (early b s) sc cs i env ts) (firsts b s (moments_from (λ j. (cs j).used) (λ j. (cs j).around) i ts))
    each_still sc cs i env none a = tt
    each_still sc cs i env (t ▸ ts) a =
        let q = pace (early b s) (cs i) (env ++ sc i) t in
        let m = first_of b s (moments (cs i).used (cs i).around t) in
        (subst (λ e. AtMost (kept_in (ends_after e q)) m) (sym (none_ended (cs i) t a.0)) (kept_unended q m (still (cs i) (env ++ sc i) t a.0)), each_still sc cs (suc i) (env ++ sc i) ts a.1)

  -- what a child tells around it that binds no name of the symbol
  pub child_still : (c : Setting) (env : Environment) (t : Tree) → Unbound s t → AtMost (ends_after ((early b s).ends c t) (pace (early b s) c env t)) (first_of b s (moments c.used c.around t))
  child_still c env t a = subst (λ e. AtMost (ends_after e (pace (early b s) c env t)) (first_of b s (moments c.used c.around t))) (sym (none_ended c t a)) (unended (pace (early b s) c env t) (first_of b s (moments c.used c.around t)) (still c env t a))
