-- Neighbours in a list become others of which whatever holds of those by their parts holds, too. So
-- the list asks less.
use Rattle.std.specs.Prelude.{ℕ, zero, suc, ◌≡◌, refl, nat_eq, Bool, true, false, ◌&&◌, ◌||◌, []}
use Rattle.std.proofs.Common.{ap, ◌∙◌, sym, subst, inl, true≢false}
use Rattle.std.proofs.lemmas.Bool.{and_parts}
use Rattle.mini_accept.specs.WellShaped.{Depth, a_statement, Slot, one, each, fill, fits}
use Rattle.mini_model.specs.declared.place.Position.{Position}
use Rattle.mini_model.specs.declared.place.Position.TheVariants.{StatementList, BodyList}
use Rattle.mini_model.specs.declared.shape.Shape.TheVariants as shape
use Rattle.mini_model.specs.Paths.{append}
use Rattle.mini_model.specs.Tree.{Tree, Trees, node, none, ◌▸◌, listed, shape_of}
use Rattle.mini_laws.specs.declared.names.Declared.TheVariants as declared
use Rattle.mini_laws.specs.declared.names.Use.{Use}
use Rattle.mini_laws.specs.declared.names.Use.TheVariants.{Read}
use Rattle.mini_laws.specs.DeclaredNames.{names_of, is_inner}
use Rattle.mini_laws.specs.Foreign.{has_number, any_has_number}
use Rattle.mini_laws.specs.Mentions.{is_among}
use Rattle.mini_laws.specs.Resolved.{Environment}
use Rattle.mini_laws.specs.ScopeList.{has_eval, any_has_eval, is_eval_callee, by_symbol}
use Rattle.mini_laws.specs.Shared.{names_arguments}
use Rattle.mini_laws.specs.Value.{Variable, Declared}
use Rattle.mini_kept.specs.KeepsNames.{is_used}
use Rattle.mini_kept.specs.Placed.{is_statement_list, fits_place}
use Rattle.mini_kept.proofs.Placed.{statements_slot}
use Rattle.mini_shrink.specs.Pace.{Pace, followed, ends_after, AtMost, Setting, Question, pace}
use Rattle.mini_shrink.specs.Questions.{Own, asks, early}
use Rattle.mini_shrink.specs.Shrinking.{AsksLess}
use Rattle.mini_shrink.proofs.Paces.{through}
use Rattle.mini_rows.specs.Lists.{is_unscoped, are_unscoped}
use Rattle.mini_rows.specs.Sketches.{Asked, AsWholeItem}
use Rattle.mini_rows.proofs.Arranging.{All}
use Rattle.mini_rows.proofs.ArrangedPlain.{no_lexical}
use Rattle.mini_less.specs.Families.{LessAt}
use Rattle.mini_less.specs.Neighbours.{PassesLists, of_items, items_say}
use Rattle.mini_less.specs.TellsLists.{TellsLists}
use Rattle.mini_less.proofs.ByLists.{ByLists, lacks_lists, calm_lists, spared_lists, names_lists, numbers_lists}
use Rattle.mini_less.proofs.EachFact.{Unordered}
use Rattle.mini_less.proofs.Finding.{Lacks, never}
use Rattle.mini_less.proofs.Flags.{none_of}
use Rattle.mini_less.proofs.Headed.{and_nothing}
use Rattle.mini_less.proofs.LessRows.{over, evals_add, numbers_add, names_add, any_names, list_names, list_evals, list_numbers, list_zero}
use Rattle.mini_less.proofs.Listing.{middle_fits, with_belongs, say, to_lacks, of_lacks, none_ended, loosely, loosely_more, of_calm, asks_pass, early_passes, list_slot}
use Rattle.mini_less.proofs.Neighbours.{neighbours_ask_less}
use Rattle.mini_less.proofs.Ordered.{unscoped_anywhere}
use Rattle.mini_less.proofs.Plainly.{read, is_reads, is_ended, split, less_by, not_ended, Calmly}
use Rattle.mini_less.proofs.TellingLists.{by_lists}
use Rattle.mini_less.proofs.Shown.{shows_all}

-- an unscoped statement binds no name itself
pub no_bound : (t : Tree) → is_unscoped t ≡ true → names_of declared.Bound t ≡ []
unfolding names_of
no_bound (node shape.BindingIdentifier xs n ts) e = absurd (cc e)
no_bound (node shape.VariableDeclarator xs n ts) e = absurd (cc e)
no_bound (node shape.Listed xs n ts) e = absurd (cc e)
no_bound (node shape.ObjectPattern xs n ts) e = absurd (cc e)
no_bound (node shape.ArrayPattern xs n ts) e = absurd (cc e)
no_bound (node (shape.BindingProperty shorthand computed) xs n ts) e = absurd (cc e)
no_bound (node shape.RestElement xs n ts) e = absurd (cc e)
no_bound (node shape.AssignmentPattern xs n ts) e = absurd (cc e)
no_bound (node shape.ImportSpecifier xs n ts) e = absurd (cc e)
no_bound (node shape.ImportDefaultSpecifier xs n ts) e = absurd (cc e)
no_bound (node shape.ImportNamespaceSpecifier xs n ts) e = absurd (cc e)
no_bound (node h xs n ts) e = refl

module _ (b s : ℕ) (c : Setting) (env : Environment) (x : Bool) where
  abbrev said : Trees → Pace
  said = items_say (early b s) (of_items x c) env

  abbrev loose : Tree → Pace
  loose t = pace (early b s) (of_items false c) env t

  never_ends : (t : Tree) → is_unscoped t ≡ true → (early b s).ends (of_items x c) t ≡ false
  never_ends t e = (λ j. x && (is_among (by_symbol s) (no_lexical t e j) || is_among (by_symbol s) (no_bound t e j))) ∙ and_nothing x

  -- an unscoped statement before others
  pub one_says : (t : Tree) (ts : Trees) → is_unscoped t ≡ true → said (t ▸ ts) ≡ followed (ends_after false (loose t)) (said ts)
  one_says t ts e = λ j. followed (ends_after (never_ends t e j) (unscoped_anywhere b s (of_items x c) x env t e j)) (said ts)

  to_calm : (ts : Trees) → are_unscoped ts ≡ true → is_reads (said ts) ≡ false → All (Calmly b s (with_belongs c) env) AsWholeItem ts
  to_calm none e a = tt
  to_calm (t ▸ ts) e a =
      let (u, v) = and_parts (is_unscoped t) (are_unscoped ts) e in
      let (y, z) = split (loose t) (said ts) (sym (ap is_reads (one_says t ts u)) ∙ a) in
      (y, to_calm ts v z)

  pub unscoped_ended : (ts : Trees) → are_unscoped ts ≡ true → is_ended (said ts) ≡ false
  unscoped_ended none e = refl
  unscoped_ended (t ▸ ts) e =
      let (u, v) = and_parts (is_unscoped t) (are_unscoped ts) e in
      ap is_ended (one_says t ts u) ∙ not_ended b s (with_belongs c) env (loose t) (said ts) (unscoped_ended ts v)

-- ---- what stands in some trees besides names

abbrev pub Tells : (Tree → Bool) → (Trees → Bool) → Type 0
Tells f g = (g none ≡ false) × ((t : Tree) (ts : Trees) → g (t ▸ ts) ≡ (f t || g ts))

pub to_none : (f : Tree → Bool) (g : Trees → Bool) → Tells f g → (ts : Trees) → g ts ≡ false → All (λ c t. f t ≡ false) AsWholeItem ts
to_none f g r none a = tt
to_none f g r (t ▸ ts) a = let (x, y) = none_of (f t) (g ts) (sym (r.1 t ts) ∙ a) in (x, to_none f g r ts y)

of_none : (f : Tree → Bool) (g : Trees → Bool) → Tells f g → (ts : Trees) → All (λ c t. f t ≡ false) AsWholeItem ts → g ts ≡ false
of_none f g r none a = r.0
of_none f g r (t ▸ ts) a = r.1 t ts ∙ λ j. a.0 j || of_none f g r ts a.1 j

pub evals_tell : Tells has_eval any_has_eval
unfolding has_eval
evals_tell = (refl, λ t ts. refl)

pub names_tell : Tells names_arguments any_names
names_tell = (refl, λ t ts. refl)

pub numbers_tell : (b : ℕ) → Tells (has_number b) (any_has_number b)
unfolding has_number
numbers_tell b = (refl, λ t ts. refl)

-- what is made of a stretch that fits in a list of statements
abbrev pub ListMade : Trees → Trees → Type 1
ListMade a d = (strict : Bool) (k : Depth) → fill strict (each (one (a_statement k))) a ≡ true → (Q : Asked → Tree → Type 0) → ByLists Q → All Q AsWholeItem a → All Q AsWholeItem d

-- a statement in a list reads
pub as_read : (p : Position) → is_statement_list p ≡ true → (v : Use) → is_used p v ≡ true → v ≡ Read
as_read StatementList e v k = read v k
as_read BodyList e v k = read v k
as_read p e v k = absurd (cc e)

-- what stands for a stretch says at most what that does
abbrev pub SaysLess : Trees → Trees → Question → Setting → Environment → Bool → Type 0
SaysLess a d q c env x = AtMost (items_say q (of_items x c) env d) (items_say q (of_items x c) env a)

-- how a stretch fits
pub record Fits (a : Trees) (strict : Bool) : Type 0 where
  pub depth : Depth
  pub fit : fill strict (each (one (a_statement depth))) a ≡ true

-- what has to be shown of some neighbours in a list, and others in their place
pub record StretchLess (a d : Trees) : Type 1 where
  pub asked : (strict : Bool) → Fits a strict → (c : Setting) → c.used ≡ Read → (env : Environment) (x : Bool) (o : Own) → TellsLists o → Unordered o → SaysLess a d (asks o) c env x
  pub in_order : (strict : Bool) → Fits a strict → (c : Setting) → c.used ≡ Read → (env : Environment) (x : Bool) (b s : ℕ) → SaysLess a d (early b s) c env x
  pub evals : (strict : Bool) → Fits a strict → any_has_eval a ≡ false → any_has_eval d ≡ false
  pub arguments : (strict : Bool) → Fits a strict → any_names a ≡ false → any_names d ≡ false
  pub numbers : (strict : Bool) → Fits a strict → (b : ℕ) → any_has_number (suc b) a ≡ false → any_has_number (suc b) d ≡ false

module _ (p : Position) (l : is_statement_list p ≡ true) (before after a d : Trees) (n w : Tree) (m : n ≡ listed (append before (append a after))) (v : w ≡ listed (append before (append d after))) (less : StretchLess a d) where
  abbrev put_in : Trees → Tree
  put_in ts = listed (append before (append ts after))

  fits_there : (strict : Bool) (s : Slot) → fits_place p s ≡ true → fits strict s n ≡ true → Fits a strict
  fits_there strict s k g =
      let (depth, same, fit) = statements_slot strict s [] 0 (append before (append a after)) (list_slot p l s k) (subst (λ t. fits strict s t ≡ true) m g) in
      record { depth = depth; fit = middle_fits strict (one (a_statement depth)) before a after fit }

  there : (q : Question) → PassesLists q → (x : Variable) → ((strict : Bool) → Fits a strict → (c : Setting) → c.used ≡ Read → (env : Environment) (o : Bool) → SaysLess a d q c env o) → AsksLess q x p n w
  there q k x says = record {
    by = λ strict s r g c env st sc.
        inl (subst (λ t. AtMost (pace q c env t) (pace q c env n)) (sym v) (subst (λ t. AtMost (pace q c env (put_in d)) (pace q c env t)) (sym m)
        (neighbours_ask_less q k c env before after a d (says strict (fits_there strict s r g) c (as_read p l c.used (sym (ap (λ t. is_inner (shape_of t) || is_used p c.used) m) ∙ st)) env (k.orders c)))));
  }

  numbered : (strict : Bool) → Fits a strict → (b : ℕ) → has_number b w ≡ true → has_number b n ≡ true
  numbered strict f zero c = ap (has_number 0) m ∙ list_zero (append before (append a after))
  numbered strict f (suc b) c =
      let k = suc b in
      ap (has_number k) m ∙ list_numbers k (append before (append a after)) ∙ over (any_has_number k) (numbers_add k) (nat_eq 0 k) before after a d
      (both_or (nat_eq 0 k) (any_has_number k d) (any_has_number k a) (never (any_has_number k a) (any_has_number k d) (less.numbers strict f b)))
      (sym (list_numbers k (append before (append d after))) ∙ sym (ap (has_number k) v) ∙ c)
    where
      both_or : (z x y : Bool) → (x ≡ true → y ≡ true) → (z || x) ≡ true → (z || y) ≡ true
      both_or true x y f e = refl
      both_or false x y f e = f e

  pub stretch_less : LessAt p n w
  stretch_less = record {
    asks = shows_all _ _ _ (λ g b k. by_lists (λ q. AsksLess q (Declared k) p n w)
        (λ o t z. there (asks o) (asks_pass o t.plainly) (Declared k) (λ strict f c r env x. less.asked strict f c r env x o t z))
        (λ b s. there (early b s) (early_passes b s) (Declared k) (λ strict f c r env x. less.in_order strict f c r env x b s)) g b k);
    fewer = λ strict s r g.
        let f = fits_there strict s r g in
        record {
          eval = λ c. ap has_eval m ∙ list_evals (append before (append a after)) ∙ over any_has_eval evals_add false before after a d (never (any_has_eval a) (any_has_eval d) (less.evals strict f)) (sym (list_evals (append before (append d after))) ∙ sym (ap has_eval v) ∙ c);
          flags = record {
            arguments = λ c. ap names_arguments m ∙ list_names (append before (append a after)) ∙ over any_names names_add false before after a d (never (any_names a) (any_names d) (less.arguments strict f)) (sym (list_names (append before (append d after))) ∙ sym (ap names_arguments v) ∙ c);
            number = λ b c. numbered strict f b c;
          };
          callee = λ x c. absurd (true≢false (sym c ∙ ap is_eval_callee v));
        };
  }

-- where whatever holds of the parts passes on, and so does the order of reads
pub made_in_order : (a d : Trees) → ListMade a d → ((strict : Bool) → Fits a strict → (c : Setting) → c.used ≡ Read → (env : Environment) (x : Bool) (b s : ℕ) → SaysLess a d (early b s) c env x) → StretchLess a d
made_in_order a d made ordered = record {
  asked = λ strict f c r env x o t z.
      let k = with_belongs c in
      less_by (say o t.plainly z x c env d) (say o t.plainly z x c env a)
      (λ y. of_lacks o t.plainly z x c env d (made strict f.depth f.fit (Lacks o t.plainly k env) (lacks_lists o t k env r) (to_lacks o t.plainly z x c env a y)))
      (none_ended o t.plainly z x c env a);
  in_order = ordered;
  evals = λ strict f y. of_none has_eval any_has_eval evals_tell d (made strict f.depth f.fit (λ c t. has_eval t ≡ false) spared_lists (to_none has_eval any_has_eval evals_tell a y));
  arguments = λ strict f y. of_none names_arguments any_names names_tell d (made strict f.depth f.fit (λ c t. names_arguments t ≡ false) names_lists (to_none names_arguments any_names names_tell a y));
  numbers = λ strict f b y. of_none (has_number (suc b)) (any_has_number (suc b)) (numbers_tell (suc b)) d (made strict f.depth f.fit (λ c t. has_number (suc b) t ≡ false) (numbers_lists b) (to_none (has_number (suc b)) (any_has_number (suc b)) (numbers_tell (suc b)) a y));
}

-- where no lexical name is declared it does
pub made_stretch : (a d : Trees) → are_unscoped a ≡ true → ListMade a d → StretchLess a d
made_stretch a d unscoped made = made_in_order a d made (λ strict f c r env x b s.
    let k = with_belongs c in
    let first = items_say (early b s) (of_items x c) env a in
    through (items_say (early b s) (of_items x c) env d) (loosely b s c env d) first (loosely_more b s c env x d)
    (less_by (loosely b s c env d) first (λ y. of_calm b s c env d (made strict f.depth f.fit (Calmly b s k env) (calm_lists b s k env r) (to_calm b s c env x a unscoped y)))
    (unscoped_ended b s c env x a unscoped)))

pub made_list_less : (p : Position) → is_statement_list p ≡ true → (before after a d : Trees) (n w : Tree) → n ≡ listed (append before (append a after)) → w ≡ listed (append before (append d after)) → are_unscoped a ≡ true → ListMade a d → LessAt p n w
made_list_less p l before after a d n w m v unscoped made = stretch_less p l before after a d n w m v (made_stretch a d unscoped made)
