-- A `for` asks less without a declarator in its head of a name that nothing mentions.
use Rattle.std.specs.Prelude.{ℕ, suc, ◌≡◌, refl, true, false, ◌||◌, List, []}
use Rattle.std.proofs.Common.{◌∙◌, inl, inr, sym}
use Rattle.std.proofs.lemmas.List.{append-nil}
use Rattle.mini_model.specs.declared.kind.VariableDeclarationKind.{VariableDeclarationKind}
use Rattle.mini_model.specs.declared.name.Name.{Name}
use Rattle.mini_model.specs.declared.place.Position.TheVariants.{Stmt}
use Rattle.mini_model.specs.declared.seat.StmtSeat.{StmtSeat}
use Rattle.mini_model.specs.Paths.{append}
use Rattle.mini_model.specs.Tree.{Tree, Trees, none, ◌▸◌}
use Rattle.mini_laws.specs.declared.names.Declared.TheVariants as declared
use Rattle.mini_laws.specs.DeclaredNames.{names_of}
use Rattle.mini_laws.specs.Foreign.{has_number, any_has_number}
use Rattle.mini_laws.specs.ScopeList.{has_eval, any_has_eval}
use Rattle.mini_laws.specs.Shared.{names_arguments}
use Rattle.mini_kept.specs.KeepsNames.{is_read}
use Rattle.mini_rows.specs.Lists.{for_loop}
use Rattle.mini_rows.specs.Unused.{resolved, names, any_names, declared_among, head_left, ForRow}
use Rattle.mini_rows.proofs.DeclaredKept.{idle_leaves, idle_names, none_in}
use Rattle.mini_rows.proofs.ForHeadKept.{for_less}
use Rattle.mini_rows.proofs.ForHeadLawful.{left_leaves, left_names}
use Rattle.mini_rows.proofs.InsideStages.{Heading}
use Rattle.mini_rows.proofs.UnusedKept.{LeavesThere, NamesThere}
use Rattle.mini_rows.proofs.UnusedLawful.{idle_vanishes}
use Rattle.mini_less.specs.Families.{LessAt}
use Rattle.mini_less.proofs.DroppedLess.{head_less, head_told}
use Rattle.mini_less.proofs.Flags.{unlike}
use Rattle.mini_less.proofs.LessRows.{evals_add, numbers_add, names_add, any_names as any_arguments}
use Rattle.mini_less.proofs.ListJoins as joins
use Rattle.mini_less.proofs.Losing.{Loses}
use Rattle.mini_less.proofs.LosingNodes.{on_way, Wrote, over_wrote, lost_less}
use Rattle.mini_less.proofs.Plainly.{read}

-- the head of a `for` loses the name, which nothing else in it mentions
module _ (sp : List ℕ) (k : ℕ) (d w : Tree) (l : LeavesThere (resolved sp k) (d ▸ none) (w ▸ none)) (n : NamesThere (resolved sp k) (d ▸ none) (w ▸ none)) where
  abbrev x : Name
  x = resolved sp k

  pub lexical_lost : Loses sp k (names_of declared.Lexical d) (names_of declared.Lexical w)
  unfolding names_of
  lexical_lost = inr (record {
    first = n.first;
    last = n.last;
    there = sym (append-nil (names_of declared.Lexical d)) ∙ n.names;
    gone = sym (append-nil (names_of declared.Lexical w)) ∙ n.left;
    others_first = n.others_first;
    others_last = n.others_last;
  })

  pub hoisted_kept : Loses sp k (names_of declared.Hoisted d) (names_of declared.Hoisted w)
  unfolding names_of
  hoisted_kept = inl (sym (append-nil (names_of declared.Hoisted w)) ∙ n.hoists ∙ append-nil (names_of declared.Hoisted d))

  pub for_head_less : (test update body : Tree) → any_names x (test ▸ (update ▸ (body ▸ none))) ≡ false → has_eval (for_loop d test update body) ≡ false → Wrote sp k is_read d w → (q : StmtSeat) (m v : Tree) → m ≡ for_loop d test update body → v ≡ for_loop w test update body → LessAt (Stmt q) m v
  unfolding has_eval has_number
  for_head_less test update body later unseen wrote q m v e f =
      let rest = test ▸ (update ▸ (body ▸ none)) in
      lost_less sp k (Stmt q) m v (for_loop d test update body) (for_loop w test update body) e f
      (over_wrote sp k is_read (λ v. true) (on_way Heading) 0 d w rest wrote tt refl later (λ v e. refl) unseen) (for_less x d w l n test update body k refl) unseen refl refl

-- ---- 72

module _ (sp : List ℕ) (k : ℕ) (K : VariableDeclarationKind) (first : Trees) (init : Tree) (last : Trees) (earlier : any_names (resolved sp k) first ≡ false) (later : any_names (resolved sp k) last ≡ false) where
  abbrev y : Name
  y = resolved sp k

  abbrev left : Trees
  left = append first last

  unnamed : (us : Trees) → any_names y us ≡ false → names y (head_left K us) ≡ false
  unnamed none e = refl
  unnamed (u ▸ us) e = λ j. e j || false

  no_bound : (us : Trees) → names_of declared.Bound (head_left K us) ≡ []
  unfolding names_of
  no_bound none = refl
  no_bound (u ▸ us) = refl

  head_wrote : (n : NamesThere y (declared_among K y first init last ▸ none) (head_left K left ▸ none)) → LeavesThere y (declared_among K y first init last ▸ none) (head_left K left ▸ none) → Wrote sp k is_read (declared_among K y first init last) (head_left K left)
  unfolding names_of has_eval has_number names_arguments
  head_wrote n l =
      let d = declared_among K y first init last in
      let w = head_left K left in
      record {
        said = λ g b s other c used env. head_less sp k K first init last s other g b c (read c.used used) env;
        unnamed = unnamed left (none_in y first last earlier later);
        evals = head_told sp k K first init last has_eval any_has_eval (λ t us. refl) refl evals_add (joins.evals_told K) refl refl;
        arguments = head_told sp k K first init last names_arguments any_arguments (λ t us. refl) refl names_add (joins.names_told K) refl refl;
        numbers = λ b. head_told sp k K first init last (has_number (suc b)) (any_has_number (suc b)) (λ t us. refl) refl (numbers_add (suc b)) (joins.numbers_told b K) (λ j. unlike b j || false) (λ j. unlike b j || false);
        bound = no_bound left;
        lexical = lexical_lost sp k d w l n;
        hoisted = hoisted_kept sp k d w l n;
      }

pub for_row_less : (q : StmtSeat) (n w : Tree) → ForRow n w → LessAt (Stmt q) n w
for_row_less q n w r =
    let x = resolved r.spelling r.symbol in
    let d = declared_among r.kind x r.first r.init r.last in
    let left = append r.first r.last in
    let idle = idle_vanishes r.init r.idle in
    let leaves = left_leaves x r.kind d left (idle_leaves r.kind x r.symbol refl r.first r.init r.last idle r.declared_earlier r.declared_later) in
    let names = left_names x r.kind d left (idle_names r.kind x r.symbol refl r.first r.init r.last idle r.declared_earlier r.declared_later r.lexical) in
    for_head_less r.spelling r.symbol d (head_left r.kind left) leaves names r.test r.update r.body r.later r.unseen (head_wrote r.spelling r.symbol r.kind r.first r.init r.last r.declared_earlier r.declared_later names leaves) q n w r.shape r.written
