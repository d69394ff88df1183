-- A `break` or `continue` that never runs is dropped: nothing else is lost.
use Rattle.std.specs.Prelude.{◌≡◌, ◌≤◌, refl, ◌||◌, Bool, true, false, [], ◌++◌}
use Rattle.std.proofs.Common.{ap, ◌∙◌, sym, subst, arith}
use Rattle.mini_model.specs.declared.place.Position.TheVariants.{StatementList}
use Rattle.mini_model.specs.declared.shape.Shape.TheVariants as shape
use Rattle.mini_model.specs.Tree.{Tree, Trees, none, ◌▸◌, absent, listed}
use Rattle.mini_model.specs.Paths.{append}
use Rattle.mini_accept.specs.WellShaped.{a_statement, one, each, fits, fill}
use Rattle.mini_laws.specs.declared.names.Declared.{Declared}
use Rattle.mini_laws.specs.declared.names.Declared.TheVariants as declared
use Rattle.mini_laws.specs.DeclaredNames.{has_inner, names_of, body_names}
use Rattle.mini_laws.specs.Value.{Variable}
use Rattle.mini_laws.specs.State.{Writable}
use Rattle.mini_laws.specs.Fixity.{fixed_by}
use Rattle.mini_kept.proofs.Bools.{left, both}
use Rattle.mini_kept.proofs.Fixed.{of_children}
use Rattle.mini_kept.proofs.Unplaced.{as_body}
use Rattle.mini_rows.specs.Lists.{Leap, Breaks, Continues, leap, Row77Leap}
use Rattle.mini_rows.specs.Arranged.{KeptAt}
use Rattle.mini_rows.proofs.ArrangedBodies.{rank}
use Rattle.mini_rows.proofs.ArrangedFolds.{port}
use Rattle.mini_rows.proofs.ListKeptStretch.{all_calm, NamesStretched, Stretched, stretch_kept}

module _ (t : Tree) where
  no_names : (l : Leap) (d : Declared) → names_of d (leap l) ≡ []
  unfolding names_of
  no_names Breaks declared.Bound = refl
  no_names Breaks declared.Lexical = refl
  no_names Breaks declared.Hoisted = refl
  no_names Continues declared.Bound = refl
  no_names Continues declared.Lexical = refl
  no_names Continues declared.Hoisted = refl

  no_body : (l : Leap) → body_names (leap l) ≡ []
  unfolding body_names names_of
  no_body Breaks = refl
  no_body Continues = refl

  none_as_body : (l : Leap) (o : Bool) → as_body o (leap l) ≡ []
  unfolding names_of
  none_as_body Breaks o = refl
  none_as_body Continues o = refl

  no_port : (l : Leap) (m : Bool) → port m (leap l) ≡ []
  no_port Breaks m = refl
  no_port Continues m = refl

  no_inner : (l : Leap) → has_inner (leap l) ≡ false
  unfolding has_inner
  no_inner Breaks = refl
  no_inner Continues = refl

  leap_fixed : (l : Leap) (x : Variable) → fixed_by (leap l) x ≡ Writable
  leap_fixed Breaks x = of_children shape.BreakStatement [] 0 (absent ▸ none) x refl
  leap_fixed Continues x = of_children shape.ContinueStatement [] 0 (absent ▸ none) x refl

  module _ (l : Leap) where
    abbrev two : Trees
    two = t ▸ (leap l ▸ none)

    abbrev alone : Trees
    alone = t ▸ none

    named : NamesStretched two alone
    named = record {
      names = λ d. ap (λ r. names_of d t ++ (r ++ [])) (sym (no_names l d));
      body = ap (λ r. body_names t ++ (r ++ [])) (sym (no_body l));
      as_body = λ o. ap (λ r. as_body o t ++ (r ++ [])) (sym (none_as_body l o));
      ports = λ m. ap (λ r. port m t ++ (r ++ [])) (sym (no_port l m));
      scoped = λ env a. (a.0, tt);
      symbols = λ u x. omega arith;
      once = λ a. (a.0, tt);
    }

    stretched : Stretched two alone
    stretched = record {
      named = λ strict k f. named;
      calm = λ strict k f. all_calm strict k alone (both (fits strict (one (a_statement k)) t) true (left (fits strict (one (a_statement k)) t) (fill strict (each (one (a_statement k))) (leap l ▸ none)) f) refl);
      inner = λ b a. (a.0, tt);
      inner_back = λ b a. (a.0, (ap (λ c. c || b) (no_inner l), tt));
      fixed = λ x k a. (a.0, tt);
      fixed_back = λ x k a. (a.0, (subst (λ f. rank f ≤ k) (sym (leap_fixed l x)) (omega arith), tt));
      declares = λ xs a. (a.0, tt);
      frames = λ fs a. (a.0, tt);
      bodies = λ bs r a. (a.0, tt);
      targets = λ g a. (a.0, tt);
      numbers = λ k. omega arith;
    }

-- `return a; break;` and `return a;` in a list
pub leap_kept : (before after : Trees) (n w : Tree) (a b : Trees) → Row77Leap a b → n ≡ listed (append before (append a after)) → w ≡ listed (append before (append b after)) → KeptAt StatementList n w
leap_kept before after n w a b r f g =
    subst (λ t. KeptAt StatementList t w) (sym (f ∙ ap (λ ts. listed (append before (append ts after))) r.shape))
    (subst (KeptAt StatementList (listed (append before (append (two r.first r.leaping) after)))) (sym (g ∙ ap (λ ts. listed (append before (append ts after))) r.written)) (stretch_kept before after (two r.first r.leaping) (alone r.first r.leaping) (stretched r.first r.leaping)))
