-- Neighbours in a list that tell at most what others do, fact by fact.
use Rattle.std.specs.Prelude.{ℕ, zero, suc, ◌≡◌, nat_eq, Bool, true, false, ◌&&◌, ◌||◌, []}
use Rattle.std.proofs.Common.{ap, ◌∙◌, inl, sym, subst, true≢false}
use Rattle.mini_model.specs.declared.place.Position.{Position}
use Rattle.mini_model.specs.Paths.{append}
use Rattle.mini_model.specs.Tree.{Tree, Trees, none, ◌▸◌, listed, shape_of}
use Rattle.mini_accept.specs.WellShaped.{a_statement, Slot, one, each, fill, fits}
use Rattle.mini_laws.specs.declared.names.Use.TheVariants.{Read}
use Rattle.mini_laws.specs.DeclaredNames.{is_inner}
use Rattle.mini_laws.specs.Foreign.{has_number, any_has_number}
use Rattle.mini_laws.specs.Resolved.{Environment}
use Rattle.mini_laws.specs.ScopeList.{has_eval, any_has_eval, is_eval_callee}
use Rattle.mini_laws.specs.Shared.{names_arguments}
use Rattle.mini_kept.specs.KeepsNames.{is_used}
use Rattle.mini_kept.specs.Placed.{is_statement_list, fits_place}
use Rattle.mini_kept.proofs.Placed.{statements_slot}
use Rattle.mini_shrink.specs.Facts.{Fact, question}
use Rattle.mini_shrink.specs.Pace.{Pace, AtMost, followed, ends_after, Setting, pace}
use Rattle.mini_shrink.proofs.Owns.{or_implied}
use Rattle.mini_shrink.proofs.Paces.{both, ended}
use Rattle.mini_less.specs.Families.{LessAt}
use Rattle.mini_less.specs.Neighbours.{PassesLists, of_items, items_say}
use Rattle.mini_less.proofs.Finding.{never}
use Rattle.mini_less.proofs.LessRows.{over, evals_add, numbers_add, names_add, any_names, list_names, list_evals, list_numbers, list_zero}
use Rattle.mini_less.proofs.LessTold.{LessTold, ends_same}
use Rattle.mini_less.proofs.ListMade.{as_read, Fits, SaysLess, StretchLess}
use Rattle.mini_less.proofs.Listing.{asks_pass, early_passes, list_slot, middle_fits}
use Rattle.mini_less.proofs.Neighbours.{appended, neighbours_ask_less}
use Rattle.mini_less.proofs.Shown.{shows_all}
use Rattle.mini_less.proofs.TellingLists.{by_lists}

-- a list hands on each fact
pub passes : (g : Fact) (b s : ℕ) → PassesLists (question g b s)
passes = by_lists PassesLists (λ o t z. asks_pass o t.plainly) early_passes

-- what stands for a stretch, where a list fits in which it stands
pub record ToldStretch (a d : Trees) : Type 0 where
  pub said : (strict : Bool) → Fits a strict → (g : Fact) (b s : ℕ) (c : Setting) → c.used ≡ Read → (env : Environment) (x : Bool) → SaysLess a d (question g b s) c env x
  pub evals : (strict : Bool) → Fits a strict → any_has_eval d ≡ true → any_has_eval a ≡ true
  pub arguments : (strict : Bool) → Fits a strict → any_names d ≡ true → any_names a ≡ true
  pub numbers : (strict : Bool) → Fits a strict → (b : ℕ) → any_has_number (suc b) d ≡ true → any_has_number (suc b) a ≡ true

pub of_stretch : (a d : Trees) → StretchLess a d → ToldStretch a d
of_stretch a d less = record {
  said = λ strict f g b s.
      by_lists (λ q. (c : Setting) → c.used ≡ Read → (env : Environment) (x : Bool) → SaysLess a d q c env x)
      (λ o t z c r env x. less.asked strict f c r env x o t z) (λ b s c r env x. less.in_order strict f c r env x b s) g b s;
  evals = λ strict f. never (any_has_eval a) (any_has_eval d) (less.evals strict f);
  arguments = λ strict f. never (any_names a) (any_names d) (less.arguments strict f);
  numbers = λ strict f b. never (any_has_number (suc b) a) (any_has_number (suc b) d) (less.numbers strict f b);
}

-- one statement
pub of_one : (t u : Tree) → LessTold (λ v. v ≡ Read) t u → ToldStretch (t ▸ none) (u ▸ none)
unfolding has_eval has_number
of_one t u k = record {
  said = λ strict f g b s c r env x.
      let q = question g b s in
      let e = q.ends (of_items x c) t in
      let p = pace q (of_items x c) env u in
      subst (λ z. AtMost (followed (ends_after z p) (items_say q (of_items x c) env none)) (items_say q (of_items x c) env (t ▸ none))) (sym (ends_same g b s (of_items x c) t u k.likewise.kept))
      (both (ends_after e p) (ends_after e (pace q (of_items x c) env t)) (items_say q (of_items x c) env none) (items_say q (of_items x c) env none) (ended e p (pace q (of_items x c) env t) (k.said g b s (of_items x c) r env)) tt);
  evals = λ strict f. or_implied (has_eval u) false (has_eval t) false k.likewise.eval (λ e. e);
  arguments = λ strict f. or_implied (names_arguments u) false (names_arguments t) false k.likewise.arguments (λ e. e);
  numbers = λ strict f b. or_implied (has_number (suc b) u) false (has_number (suc b) t) false (k.likewise.number (suc b)) (λ e. e);
}

-- one after another
module _ (a d b e : Trees) (first : ToldStretch a d) (second : ToldStretch b e) where
  first_fits : (strict : Bool) → Fits (append a b) strict → Fits a strict
  first_fits strict f = record { depth = f.depth; fit = middle_fits strict (one (a_statement f.depth)) none a b f.fit }

  second_fits : (strict : Bool) → Fits (append a b) strict → Fits b strict
  second_fits strict f = record { depth = f.depth; fit = behind a f.fit }
    where
      behind : (ts : Trees) → fill strict (each (one (a_statement f.depth))) (append ts b) ≡ true → fill strict (each (one (a_statement f.depth))) b ≡ true
      behind none g = g
      behind (t ▸ ts) g = behind ts (after (fits strict (one (a_statement f.depth)) t) (fill strict (each (one (a_statement f.depth))) (append ts b)) g)
        where
          after : (x y : Bool) → (x && y) ≡ true → y ≡ true
          after true y h = h
          after false y h = absurd (true≢false (sym h))

  two : (F : Trees → Bool) → ((ts us : Trees) → F (append ts us) ≡ (F ts || F us)) → (F d ≡ true → F a ≡ true) → (F e ≡ true → F b ≡ true) → F (append d e) ≡ true → F (append a b) ≡ true
  two F m x y z = m a b ∙ or_implied (F d) (F e) (F a) (F b) x y (sym (m d e) ∙ z)

  pub in_turn : ToldStretch (append a b) (append d e)
  in_turn = record {
    said = λ strict f g r s c z env x.
        let q = question g r s in
        let say : Trees → Pace = items_say q (of_items x c) env in
        let k = passes g r s in
        subst (λ p. AtMost p (say (append a b))) (sym (appended q k (of_items x c) env d e)) (subst (AtMost (followed (say d) (say e))) (sym (appended q k (of_items x c) env a b))
        (both (say d) (say a) (say e) (say b) (first.said strict (first_fits strict f) g r s c z env x) (second.said strict (second_fits strict f) g r s c z env x)));
    evals = λ strict f. two any_has_eval evals_add (first.evals strict (first_fits strict f)) (second.evals strict (second_fits strict f));
    arguments = λ strict f. two any_names names_add (first.arguments strict (first_fits strict f)) (second.arguments strict (second_fits strict f));
    numbers = λ strict f k. two (any_has_number (suc k)) (numbers_add (suc k)) (first.numbers strict (first_fits strict f) k) (second.numbers strict (second_fits strict f) k);
  }

-- so the list asks less
module _ (p : Position) (l : is_statement_list p ≡ true) (before after a d : Trees) (n w : Tree) (m : n ≡ listed (append before (append a after))) (v : w ≡ listed (append before (append d after))) (less : ToldStretch a d) where
  abbrev put_in : Trees → Tree
  put_in ts = listed (append before (append ts after))

  fits_there : (strict : Bool) (s : Slot) → fits_place p s ≡ true → fits strict s n ≡ true → Fits a strict
  fits_there strict s k g =
      let (depth, same, fit) = statements_slot strict s [] 0 (append before (append a after)) (list_slot p l s k) (subst (λ t. fits strict s t ≡ true) m g) in
      record { depth = depth; fit = middle_fits strict (one (a_statement depth)) before a after fit }

  numbered : (strict : Bool) → Fits a strict → (b : ℕ) → has_number b w ≡ true → has_number b n ≡ true
  numbered strict f zero c = ap (has_number 0) m ∙ list_zero (append before (append a after))
  numbered strict f (suc b) c =
      let k = suc b in
      ap (has_number k) m ∙ list_numbers k (append before (append a after))
      ∙ over (any_has_number k) (numbers_add k) (nat_eq 0 k) before after a d (or_implied (nat_eq 0 k) (any_has_number k d) (nat_eq 0 k) (any_has_number k a) (λ e. e) (less.numbers strict f b))
      (sym (list_numbers k (append before (append d after))) ∙ sym (ap (has_number k) v) ∙ c)

  pub stretch_told_less : LessAt p n w
  stretch_told_less = record {
    asks = shows_all _ _ _ (λ g b s. record {
      by = λ strict slot r fit c env st sc.
          let q = question g b s in
          let k = passes g b s in
          let read = as_read p l c.used (sym (ap (λ t. is_inner (shape_of t) || is_used p c.used) m) ∙ st) in
          inl (subst (λ t. AtMost (pace q c env t) (pace q c env n)) (sym v) (subst (λ t. AtMost (pace q c env (put_in d)) (pace q c env t)) (sym m)
          (neighbours_ask_less q k c env before after a d (less.said strict (fits_there strict slot r fit) g b s c read env (k.orders c)))));
    });
    fewer = λ strict s r g.
        let f = fits_there strict s r g in
        record {
          eval = λ c. ap has_eval m ∙ list_evals (append before (append a after)) ∙ over any_has_eval evals_add false before after a d (less.evals strict f) (sym (list_evals (append before (append d after))) ∙ sym (ap has_eval v) ∙ c);
          flags = record {
            arguments = λ c. ap names_arguments m ∙ list_names (append before (append a after)) ∙ over any_names names_add false before after a d (less.arguments strict f) (sym (list_names (append before (append d after))) ∙ sym (ap names_arguments v) ∙ c);
            number = λ b c. numbered strict f b c;
          };
          callee = λ x c. absurd (true≢false (sym c ∙ ap is_eval_callee v));
        };
  }
