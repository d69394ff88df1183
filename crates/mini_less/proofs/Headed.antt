-- Neighbours of which none is a declaration, built anew of the same parts.
use Rattle.std.specs.Prelude.{ℕ, ◌≡◌, refl, Bool, true, false, ◌&&◌, ◌||◌, []}
use Rattle.std.proofs.Common.{ap, ◌∙◌, sym, subst}
use Rattle.std.proofs.lemmas.Bool.{and_parts}
use Rattle.mini_model.specs.Tree.{Trees, node, ◌▸◌}
use Rattle.mini_laws.specs.declared.names.Declared.TheVariants as declared
use Rattle.mini_laws.specs.DeclaredNames.{names_of}
use Rattle.mini_laws.specs.Scopes.{opened}
use Rattle.mini_laws.specs.Resolved.{Environment}
use Rattle.mini_laws.specs.ScopeList.{by_symbol}
use Rattle.mini_laws.specs.Mentions.{is_among}
use Rattle.mini_shrink.specs.Pace.{Pace, followed, ends_after, in_turn, Setting, below, Question, pace, paces}
use Rattle.mini_shrink.specs.Questions.{hands_on, listed_names, early}
use Rattle.mini_rows.specs.Sketches.{Head, AList, Empty, OfExpression, Throw, Return, If, Block, shape_by, part, under, list, Items, no_items, item, items, Parts, filled, all_filled, items_filled, AsWholeItem, is_statement_head}
use Rattle.mini_less.specs.Neighbours.{of_items, items_say, are_headed}
use Rattle.mini_rows.proofs.Arranging.{All}
use Rattle.mini_less.proofs.Plainly.{is_reads, is_ended, split, join, Calmly, not_ended}

no_lexical : (h : Head) (ts : Trees) → is_statement_head h ≡ true → names_of declared.Lexical (node (shape_by h) [] 0 ts) ≡ []
unfolding names_of
no_lexical Empty ts e = refl
no_lexical OfExpression ts e = refl
no_lexical Throw ts e = refl
no_lexical Return ts e = refl
no_lexical If ts e = refl
no_lexical Block ts e = refl
no_lexical h ts e = absurd (cc e)

no_bound : (h : Head) (ts : Trees) → is_statement_head h ≡ true → names_of declared.Bound (node (shape_by h) [] 0 ts) ≡ []
unfolding names_of
no_bound Empty ts e = refl
no_bound OfExpression ts e = refl
no_bound Throw ts e = refl
no_bound Return ts e = refl
no_bound If ts e = refl
no_bound Block ts e = refl
no_bound h ts e = absurd (cc e)

pub hands_nothing : (h : Head) → is_statement_head h ≡ true → hands_on (shape_by h) ≡ false
hands_nothing AList e = absurd (cc e)
hands_nothing h e = refl

pub and_nothing : (o : Bool) → (o && (false || false)) ≡ false
and_nothing true = refl
and_nothing false = refl

module _ (b s : ℕ) (c : Setting) (env : Environment) (o : Bool) where
  abbrev q : Question
  q = early b s

  abbrev k : Setting
  k = record c { belongs = c.belongs && true }

  never_ends : (h : Head) (ts : Trees) → is_statement_head h ≡ true → q.ends (of_items o c) (node (shape_by h) [] 0 ts) ≡ false
  never_ends h ts e = (λ j. o && (is_among (by_symbol s) (no_lexical h ts e j) || is_among (by_symbol s) (no_bound h ts e j))) ∙ and_nothing o

  alone : (h : Head) (ts : Trees) → is_statement_head h ≡ true → pace q (of_items o c) env (node (shape_by h) [] 0 ts) ≡ pace q (of_items false c) env (node (shape_by h) [] 0 ts)
  unfolding pace
  alone h ts e = λ j. followed (q.before (of_items false c) env (shape_by h) [] 0 ts) (in_turn (shape_by h) (paces q (opened c.used (shape_by h) ts) (below (by o j || is_among (by_symbol s) (listed_names c.used (shape_by h) ts)) (of_items false c) (shape_by h) 0) 0 env ts))
    where
      by : (x : Bool) → (hands_on (shape_by h) && x) ≡ (hands_on (shape_by h) && false)
      by x = ap (λ y. y && x) (hands_nothing h e) ∙ sym (ap (λ y. y && false) (hands_nothing h e))

  abbrev say : Trees → Pace
  say = items_say q (of_items o c) env

  -- one of them before others
  one : (h : Head) (ts us : Trees) → is_statement_head h ≡ true → say (node (shape_by h) [] 0 ts ▸ us) ≡ followed (ends_after false (pace q (of_items false c) env (node (shape_by h) [] 0 ts))) (say us)
  one h ts us e = λ j. followed (ends_after (never_ends h ts e j) (alone h ts e j)) (say us)

  module _ (ps : Parts) where
    pub headed_calm : (is : Items) → are_headed is ≡ true → is_reads (say (items_filled ps is)) ≡ false → All (Calmly b s k env) AsWholeItem (items_filled ps is)
    headed_calm no_items e a = tt
    headed_calm (item (under h ss) is) e a =
        let (x, y) = and_parts (is_statement_head h) (are_headed is) e in
        let (u, v) = split (pace q (of_items false c) env (filled ps (under h ss))) (say (items_filled ps is)) (subst (λ p. is_reads p ≡ false) (one h (all_filled ps ss) (items_filled ps is) x) a) in
        (u, headed_calm is y v)
    headed_calm (item (part i) is) e a = absurd (cc e)
    headed_calm (item (list js) is) e a = absurd (cc e)
    headed_calm (items i is) e a = absurd (cc e)

    calm_headed : (is : Items) → are_headed is ≡ true → All (Calmly b s k env) AsWholeItem (items_filled ps is) → is_reads (say (items_filled ps is)) ≡ false
    calm_headed no_items e a = refl
    calm_headed (item (under h ss) is) e a =
        let (x, y) = and_parts (is_statement_head h) (are_headed is) e in
        subst (λ p. is_reads p ≡ false) (sym (one h (all_filled ps ss) (items_filled ps is) x)) (join (pace q (of_items false c) env (filled ps (under h ss))) (say (items_filled ps is)) a.0 (calm_headed is y a.1))
    calm_headed (item (part i) is) e a = absurd (cc e)
    calm_headed (item (list js) is) e a = absurd (cc e)
    calm_headed (items i is) e a = absurd (cc e)

    pub headed_ended : (is : Items) → are_headed is ≡ true → is_ended (say (items_filled ps is)) ≡ false
    headed_ended no_items e = refl
    headed_ended (item (under h ss) is) e =
        let (x, y) = and_parts (is_statement_head h) (are_headed is) e in
        subst (λ p. is_ended p ≡ false) (sym (one h (all_filled ps ss) (items_filled ps is) x)) (not_ended b s k env (pace q (of_items false c) env (filled ps (under h ss))) (say (items_filled ps is)) (headed_ended is y))
    headed_ended (item (part i) is) e = absurd (cc e)
    headed_ended (item (list js) is) e = absurd (cc e)
    headed_ended (items i is) e = absurd (cc e)
