-- An expression that is built anew, with other expressions written for some of its parts, is kept.
use Rattle.std.specs.Prelude.{◌≡◌, ◌&&◌, Bool, true, false, []}
use Rattle.std.proofs.Common.{ap, ◌∙◌, sym, subst, arith, inl}
use Rattle.std.proofs.lemmas.Bool.{and_parts}
use Rattle.mini_model.specs.declared.place.Position.TheVariants.{Expr}
use Rattle.mini_model.specs.declared.seat.Seat.{Seat}
use Rattle.mini_model.specs.Tree.{Tree}
use Rattle.mini_accept.specs.WellShaped.{Slot, fits}
use Rattle.mini_laws.specs.declared.names.Use.TheVariants.{Read}
use Rattle.mini_laws.specs.Scoped.{Scoped}
use Rattle.mini_laws.specs.Symbols.{times}
use Rattle.mini_laws.specs.Bodies.{Around, bodies}
use Rattle.mini_kept.specs.AlikeBodies.{BodiesKept}
use Rattle.mini_kept.specs.KeepsNames.{Keeps, unplaced}
use Rattle.mini_kept.proofs.Anywhere.{once_anywhere, targets_anywhere}
use Rattle.mini_kept.proofs.Bools.{left}
use Rattle.mini_kept.proofs.BodyLists.{kept_on}
use Rattle.mini_kept.proofs.InOrder.{in_order}
use Rattle.mini_kept.proofs.Quiet.{is_quiet, IsQuiet, no_names, no_body_names, no_body_declarations, no_loop, same_symbols as same_symbols_of}
use Rattle.mini_rows.specs.Sketches.{Head, shape_by, Sketch, part, under, list, Sketches, Parts, filled, AsValue, parts_of, Free, is_rearranged, is_expression_head, is_expression, stands_well, rearranges_expression}
use Rattle.mini_rows.specs.Arranged.{SameFixed, KeptAt, AllVanish, AreFree, AreLoose, Rewritten, AreExpressions}
use Rattle.mini_rows.proofs.ArrangedBodies.{quiet}
use Rattle.mini_rows.proofs.ArrangedMoves.{loosened}
use Rattle.mini_rows.proofs.ArrangedTrees.{same_inner, same_fixed}
use Rattle.mini_rows.proofs.ArrangedValues.{is_no_inner, is_value}
use Rattle.mini_rows.proofs.ArrangedExpressions.{expression_is_value, rested, read_here, expression_keeps, expression_kept, method_slot}
use Rattle.mini_rows.proofs.ArrangedRewritten.{new_inner, new_fixed, new_declared, new_once, new_targets, new_scoped, new_symbols, new_numbers, new_bodies, new_frames}

module _ (f : Free) (ps qs : Parts) (u : AreLoose ps f) (o : AreLoose qs f) (h g : Head) (ss rs : Sketches) (e : is_expression_head h ≡ true) (x : is_expression_head g ≡ true) (sn : stands_well f AsValue (under h ss) ≡ true) (sr : stands_well f AsValue (under g rs) ≡ true) (y : is_rearranged f (parts_of AsValue (under h ss)) (parts_of AsValue (under g rs)) ≡ true) (z : Rewritten ps qs (parts_of AsValue (under g rs))) (v : AllVanish ps.trees f.dropped) (q : Seat) (i : (strict : Bool) (s : Slot) → fits strict s (filled ps (under h ss)) ≡ true → AreExpressions strict ps (parts_of AsValue (under g rs))) where
  abbrev n : Tree
  n = filled ps (under h ss)

  abbrev m : Tree
  m = filled ps (under g rs)

  abbrev w : Tree
  w = filled qs (under g rs)

  base : KeptAt (Expr q) n m
  base = expression_kept f ps u h ss (under g rs) e x sn sr y SameFixed q (inl (same_inner f ps u AsValue (under h ss) (under g rs) sn sr y v)) (same_fixed f ps u AsValue (under h ss) (under g rs) sn sr y v)

  g_value : is_value (shape_by g) ≡ true
  g_value = expression_is_value g x

  m_quiet : IsQuiet m
  m_quiet = left (is_quiet (shape_by g)) (is_no_inner (shape_by g)) g_value

  w_quiet : IsQuiet w
  w_quiet = left (is_quiet (shape_by g)) (is_no_inner (shape_by g)) g_value

  others_keep : Keeps (Expr q) n m → Keeps (Expr q) n w
  others_keep k = record {
    kept = record {
      names = λ d. no_names d w w_quiet ∙ sym (no_names d m m_quiet) ∙ k.kept.names d;
      body = no_body_names w w_quiet ∙ sym (no_body_names m m_quiet) ∙ k.kept.body;
      inner = new_inner f ps qs u o AsValue (under g rs) sr z ∙ k.kept.inner;
      symbols = λ v a. omega (arith, new_symbols f ps qs u o AsValue (under g rs) sr z Read a, ap (times a) (same_symbols_of v w w_quiet), ap (times a) (same_symbols_of v m m_quiet), k.kept.symbols v a);
    };
    scoped = λ v env st a. let read = read_here f ps u h ss (under g rs) e x sn sr y q v st in subst (λ b. Scoped b env w) (sym read) (new_scoped f ps qs u o AsValue (under g rs) sr z Read env (subst (λ b. Scoped b env m) read (k.scoped v env st a)));
    numbers = λ a. omega (arith, new_numbers f ps qs u o AsValue (under g rs) sr z a, k.numbers a);
    declared_as_body = λ l p. ap unplaced (no_body_declarations l p w w_quiet ∙ sym (no_body_declarations l p m m_quiet)) ∙ k.declared_as_body l p;
    once = λ p a. once_anywhere [] p w (new_once f ps qs u o AsValue (under g rs) sr z (once_anywhere p [] m (k.once p a)));
    targets = λ t p a. targets_anywhere t [] p w (new_targets f ps qs u o AsValue (under g rs) sr z t (targets_anywhere t p [] m (k.targets t p a)));
    loop = no_loop w w_quiet ∙ sym (no_loop m m_quiet) ∙ k.loop;
    root = λ a. absurd (cc a);
    block = λ a l p. absurd (cc a);
  }

  body_step : (strict : Bool) (s : Slot) → fits strict s n ≡ true → (a : Around) → a.constructs ≡ false → BodiesKept (bodies a m) (bodies a w)
  body_step strict s k a c =
      subst (BodiesKept (bodies a m)) (sym (rested a w c g_value)) (subst (λ bs. BodiesKept bs (bodies (quiet a) w)) (sym (rested a m c g_value)) (new_bodies f ps qs u o AsValue (under g rs) sr z strict (i strict s k) a))

  others_kept : KeptAt (Expr q) n w
  others_kept = record {
    keeps = λ strict s p k. in_order (Expr q) n w (others_keep (expression_keeps f ps u h ss (under g rs) e x sn sr y q strict s k v));
    piece = base.piece;
    kind = base.kind;
    bodies = λ strict s p k a st. kept_on (bodies a n) (bodies a m) (bodies a w) (base.bodies strict s p k a st) (body_step strict s k a (st.function (method_slot f ps u h ss (under g rs) e x sn sr y strict s k)));
    ports = base.ports;
    listed = λ l. absurd (cc l);
    exported = base.exported;
    frames = λ strict s p k a c. base.frames strict s p k a (new_frames f ps qs u o AsValue (under g rs) sr z strict (i strict s k) a c);
    fixed = λ a. base.fixed a ∙ new_fixed f ps qs u o AsValue (under g rs) sr z a;
    declared = λ a c. base.declared a (new_declared f ps qs u o AsValue (under g rs) sr z a c);
  }

-- an expression that is built anew of these parts, with others written for some, and that is no mere part
abbrev pub ExpressionsRewritten : Type 0
ExpressionsRewritten =
    (f : Free) (ps qs : Parts) → AreFree ps f → AreFree qs f → (s : Sketch) (g : Head) (rs : Sketches) → rearranges_expression f s (under g rs) ≡ true → Rewritten ps qs (parts_of AsValue (under g rs)) → (q : Seat) (n w : Tree) → n ≡ filled ps s → w ≡ filled qs (under g rs)
    → ((strict : Bool) (x : Slot) → fits strict x n ≡ true → AreExpressions strict ps (parts_of AsValue (under g rs)))
    → KeptAt (Expr q) n w

pub expressions_rewritten : ExpressionsRewritten
expressions_rewritten f ps qs u o (part i) g rs e z q n w a b x = absurd (cc e)
expressions_rewritten f ps qs u o (list is) g rs e z q n w a b x = absurd (cc e)
expressions_rewritten f ps qs u o (under h ss) g rs e z q n w a b x =
    let c = AsValue in
    let r = under g rs in
    let rest = is_rearranged f (parts_of c (under h ss)) (parts_of c r) in
    let (k, l) = and_parts (is_expression_head h) (is_expression r && (stands_well f c (under h ss) && (stands_well f c r && rest))) e in
    let (k', l') = and_parts (is_expression r) (stands_well f c (under h ss) && (stands_well f c r && rest)) l in
    let (sn, l'') = and_parts (stands_well f c (under h ss)) (stands_well f c r && rest) l' in
    let (sr, y) = and_parts (stands_well f c r) rest l'' in
    let x' = λ (strict : Bool) (s : Slot) (j : fits strict s (filled ps (under h ss)) ≡ true). x strict s (subst (λ t. fits strict s t ≡ true) (sym a) j) in
    subst (λ t. KeptAt (Expr q) t w) (sym a) (subst (KeptAt (Expr q) (filled ps (under h ss))) (sym b) (others_kept f ps qs (loosened f ps u) (loosened f qs o) h g ss rs k k' sn sr y z u.2 q x'))
