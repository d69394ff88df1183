-- A head in which a value stands where a name was read tells no more than the value and the head.
use Rattle.std.specs.Prelude.{ℕ, suc, ◌≡◌, ◌⊎◌, refl, Bool, true, false, ◌&&◌}
use Rattle.std.proofs.Common.{ap, ◌∙◌, sym, subst, inl, inr, true≢false}
use Rattle.mini_model.specs.declared.name.Name.{Name}
use Rattle.mini_model.specs.Tree.{Tree, Trees, none, ◌▸◌}
use Rattle.mini_laws.specs.DeclaredNames.{names_of}
use Rattle.mini_laws.specs.Foreign.{has_number}
use Rattle.mini_laws.specs.Naming.{is_lexical}
use Rattle.mini_laws.specs.Resolved.{Environment}
use Rattle.mini_laws.specs.ScopeList.{has_eval}
use Rattle.mini_laws.specs.Shared.{names_arguments}
use Rattle.mini_laws.specs.declared.names.Use.TheVariants.{Read}
use Rattle.mini_shrink.specs.Pace.{Pace, Ends, Silent, Reads, followed, ends_if, ends_after, AtMost, Setting, pace}
use Rattle.mini_shrink.specs.Questions.{Own, asks, early}
use Rattle.mini_shrink.proofs.Paces.{same}
use Rattle.mini_rows.specs.Declarations.{declarator}
use Rattle.mini_rows.specs.Lists.{declaration, is_unscoped}
use Rattle.mini_rows.specs.Sketches.{Asked, AsValue, AsWholeItem}
use Rattle.mini_rows.specs.Unused.{put_first}
use Rattle.mini_rows.proofs.Arranging.{Any, Local}
use Rattle.mini_rows.proofs.SingleUse.{Initial}
use Rattle.mini_less.specs.Neighbours.{of_items, items_say}
use Rattle.mini_less.specs.TellsLists.{TellsLists}
use Rattle.mini_less.proofs.ByLists.{ByLists, valued_calm, calm_lists, lacks_lists, names_lists, numbers_lists, spared_lists}
use Rattle.mini_less.proofs.EachFact.{Unordered}
use Rattle.mini_less.proofs.EntersLess.{reads_most, calm_ends}
use Rattle.mini_less.proofs.Finding.{Lacks, lacks_local}
use Rattle.mini_less.proofs.Flags.{numbers_local, spares_local}
use Rattle.mini_less.proofs.ListJoins as joins
use Rattle.mini_less.proofs.ListMade.{one_says}
use Rattle.mini_less.proofs.Listing.{with_belongs, say, to_lacks, of_lacks, none_ended}
use Rattle.mini_less.proofs.Plainly.{is_reads, Calmly, calm_local, less_by}
use Rattle.mini_less.proofs.PutMade.{Spot, suits_all, put_spared, puts_local}

-- what a head tells with the value r in it, where r tells nothing by itself
pub record HeadLess (r head put : Tree) : Type 0 where
  pub asked : (o : Own) (t : TellsLists o) → Unordered o → (c : Setting) → c.used ≡ Read → (env : Environment) (x : Bool) → Lacks o t.plainly (with_belongs c) env AsValue r → AtMost (items_say (asks o) (of_items x c) env (put ▸ none)) (items_say (asks o) (of_items x c) env (head ▸ none))
  pub in_order : (b s : ℕ) (c : Setting) → c.used ≡ Read → (env : Environment) (x : Bool) → Calmly b s (with_belongs c) env AsValue r → AtMost (items_say (early b s) (of_items x c) env (put ▸ none)) (items_say (early b s) (of_items x c) env (head ▸ none))
  pub evals : has_eval r ≡ false → has_eval head ≡ false → has_eval put ≡ false
  pub arguments : names_arguments r ≡ false → names_arguments head ≡ false → names_arguments put ≡ false
  pub numbers : (b : ℕ) → has_number (suc b) r ≡ false → has_number (suc b) head ≡ false → has_number (suc b) put ≡ false

calm_most : (p q : Pace) → is_reads p ≡ false → AtMost (followed (ends_after false p) Silent) (followed (ends_after false q) Silent)
calm_most Ends Ends e = tt
calm_most Ends Silent e = tt
calm_most Ends Reads e = tt
calm_most Silent Ends e = tt
calm_most Silent Silent e = tt
calm_most Silent Reads e = tt
calm_most Reads q e = absurd (true≢false e)

one_reads : (e : Bool) (p r : Pace) → is_reads p ≡ true → is_reads (followed (ends_after e p) r) ≡ true
one_reads e Ends r a = absurd (true≢false (sym a))
one_reads e Silent r a = absurd (true≢false (sym a))
one_reads e Reads r a = refl

module _ (x : Name) (r head : Tree) (spot : Spot x r head) (suits : suits_all x r spot.value ≡ true) where
  abbrev put : Tree
  put = put_first x r head

  head_holds : (Q : Asked → Tree → Type 0) → ByLists Q → Local Any Q → Q AsValue r → Q AsWholeItem head → Q AsWholeItem put
  head_holds Q l m a y = let (v, again) = spot.made Q l y in again (puts_local Q m x r spot.value spot.once v a)

  module _ (b s : ℕ) (c : Setting) (u : c.used ≡ Read) (env : Environment) (o : Bool) (calm : Calmly b s (with_belongs c) env AsValue r) where
    abbrev C : Asked → Tree → Type 0
    C = Calmly b s (with_belongs c) env

    abbrev says : Trees → Pace
    says = items_say (early b s) (of_items o c) env

    abbrev loose : Tree → Pace
    loose y = pace (early b s) (of_items false c) env y

    unscoped_order : is_unscoped head ≡ true → is_unscoped put ≡ true → AtMost (says (put ▸ none)) (says (head ▸ none))
    unscoped_order e f =
        let h = one_says b s c env o head none e in
        let p = one_says b s c env o put none f in
        subst (λ z. AtMost z (says (head ▸ none))) (sym p) (subst (AtMost (followed (ends_after false (loose put)) Silent)) (sym h) (by (is_reads (loose head)) refl))
      where
        by : (z : Bool) → is_reads (loose head) ≡ z → AtMost (followed (ends_after false (loose put)) Silent) (followed (ends_after false (loose head)) Silent)
        by true e = reads_most _ _ (one_reads false (loose head) Silent e)
        by false e = calm_most (loose put) (loose head) (head_holds C (calm_lists b s (with_belongs c) env u) (calm_local b s (with_belongs c) env) calm e)

    module _ (t : Initial x head) (k : is_lexical t.kind ≡ true) where
      abbrev D : Tree
      D = declarator t.binds t.value

      abbrev E : Tree
      E = declarator t.binds (put_first x r t.value)

      abbrev around : Setting
      around = of_items o (joins.inside b s c env o)

      abbrev ended : Tree → Bool
      ended y = (early b s).ends around y

      abbrev last : Tree → Pace → Pace
      last y p = followed (ends_after (o && joins.declares b s c env (y ▸ t.last)) (followed p (joins.items b s c env o t.last))) Silent

      says_one : (d : Tree) → says (declaration t.kind (d ▸ t.last) ▸ none) ≡ last d (ends_after (ended d) (pace (early b s) around env d))
      says_one d = λ j. followed (joins.one_says b s c env u t.kind k o (d ▸ t.last) j) Silent

      same_last : last E (ends_if (ended E)) ≡ last D (ends_if (ended D))
      unfolding names_of
      same_last = refl

      lexical_order : AtMost (says (put ▸ none)) (says (head ▸ none))
      lexical_order =
          let h = ap (λ y. says (y ▸ none)) t.is ∙ says_one D in
          let p = ap (λ y. says (y ▸ none)) (t.puts r) ∙ says_one E in
          subst (λ z. AtMost z (says (head ▸ none))) (sym p) (subst (AtMost (last E (ends_after (ended E) (pace (early b s) around env E)))) (sym h) (by (is_reads (pace (early b s) around env D)) refl))
        where
          by : (z : Bool) → is_reads (pace (early b s) around env D) ≡ z → AtMost (last E (ends_after (ended E) (pace (early b s) around env E))) (last D (ends_after (ended D) (pace (early b s) around env D)))
          by true e = reads_most _ _ (one_reads (o && joins.declares b s c env (D ▸ t.last)) (followed (ends_after (ended D) (pace (early b s) around env D)) (joins.items b s c env o t.last)) Silent (one_reads (ended D) (pace (early b s) around env D) (joins.items b s c env o t.last) e))
          by false e =
              let k = with_belongs c in
              let (v, again) = valued_calm b s k env u Read t.binds t.value (put_first x r t.value) (sym (ap is_reads (joins.declarator_anywhere b s c env o t.binds t.value)) ∙ e) in
              let new = ap is_reads (joins.declarator_anywhere b s c env o t.binds (put_first x r t.value)) ∙ again (puts_local C (calm_local b s k env) x r t.value t.once v calm) in
              same _ _ (ap (last E) (calm_ends (ended E) (pace (early b s) around env E) new) ∙ same_last ∙ sym (ap (last D) (calm_ends (ended D) (pace (early b s) around env D) e)))

  in_order_there : (b s : ℕ) (c : Setting) → c.used ≡ Read → (env : Environment) (o : Bool) → Calmly b s (with_belongs c) env AsValue r → AtMost (items_say (early b s) (of_items o c) env (put ▸ none)) (items_say (early b s) (of_items o c) env (head ▸ none))
  in_order_there b s c u env o calm = by spot.form
    where
      by : ((is_unscoped head ≡ true) × (is_unscoped put ≡ true)) ⊎ ((t : Initial x head) × (is_lexical t.kind ≡ true)) → AtMost (items_say (early b s) (of_items o c) env (put ▸ none)) (items_say (early b s) (of_items o c) env (head ▸ none))
      by (inl (e, f)) = unscoped_order b s c u env o calm e f
      by (inr (t, k)) = lexical_order b s c u env o calm t k

  pub spot_less : HeadLess r head put
  spot_less = record {
    asked = λ o t z c u env y lacks.
        let k = with_belongs c in
        less_by (say o t.plainly z y c env (put ▸ none)) (say o t.plainly z y c env (head ▸ none))
        (λ a. of_lacks o t.plainly z y c env (put ▸ none) (head_holds (Lacks o t.plainly k env) (lacks_lists o t k env u) (lacks_local o t.plainly k env) lacks (to_lacks o t.plainly z y c env (head ▸ none) a).0, tt))
        (none_ended o t.plainly z y c env (head ▸ none));
    in_order = in_order_there;
    evals = λ e f. let (v, again) = spot.made _ spared_lists f in again (put_spared x r e spot.value suits v);
    arguments = λ e f. head_holds (λ c t. names_arguments t ≡ false) names_lists spares_local e f;
    numbers = λ b e f. head_holds (λ c t. has_number (suc b) t ≡ false) (numbers_lists b) (numbers_local b) e f;
  }
