-- What a row of members writes keeps what the code of a body has to keep, where that is so which is known of the body.
use Rattle.std.proofs.Common.{◌≡◌, ◌<◌, ◌≤◌, ◌+◌, ℕ, Bool, true, false, refl, sym, ap, subst, ◌∙◌, inl, inr, true≢false}
use Rattle.std.specs.Prelude.{Option, ◌⊎◌, ◌||◌}
use Rattle.std.proofs.lemmas.Bool.{and_parts}
use Rattle.mini_model.specs.declared.kind.PropertyKind.{PropertyKind}
use Rattle.mini_model.specs.declared.place.Position.{Position}
use Rattle.mini_model.specs.declared.place.Position.TheVariants.{Expr, Stmt}
use Rattle.mini_model.specs.declared.seat.Seat.{Seat}
use Rattle.mini_model.specs.Tree.{Tree, identifier, shape_of}
use Rattle.mini_model.specs.Weight.{outline, weight}
use Rattle.mini_accept.specs.WellShaped.{Slot, fits}
use Rattle.mini_laws.specs.Bodies.{Around, bodies, arrow_kind}
use Rattle.mini_laws.specs.Demand.{Demand}
use Rattle.mini_laws.specs.Fits.{Fits}
use Rattle.mini_laws.specs.Naming.{summary}
use Rattle.mini_laws.specs.Same.{Same}
use Rattle.mini_laws.specs.State.{Environment}
use Rattle.mini_laws.specs.Value.{Variable, Declared, VariableSet, nothing}
use Rattle.mini_laws.specs.Weights.{counts_items}
use Rattle.mini_kept.specs.AlikeBodies.{BodiesKept}
use Rattle.mini_kept.specs.Frames.{frames, FramesKept}
use Rattle.mini_kept.specs.KeepsFrames.{is_body_slot}
use Rattle.mini_kept.specs.KeepsNames.{is_rewritten_place}
use Rattle.mini_kept.specs.KeepsShapes.{AskedAlike}
use Rattle.mini_kept.specs.Without.{Assured, Steadies}
use Rattle.mini_kept.proofs.Bools.{both}
use Rattle.mini_kept.proofs.BodyLists.{kept_itself}
use Rattle.mini_kept.proofs.FrameLists.{same_frames}
use Rattle.mini_rows.specs.Arranged.{KeptAt}
use Rattle.mini_rows.specs.Idle.{IdleRow, IdleStatement}
use Rattle.mini_rows.specs.Members.{Object, OfThis, OfName, is_kept, begins_at, is_ready, Index, Written, Held, is_kept_index, is_ready_index, MemberRow}
use Rattle.mini_rows.specs.Past.{leaves}
use Rattle.mini_rows.specs.Still.{StillRow}
use Rattle.mini_rows.specs.Editions.{SteadyIn, SteadyRowsIn}
use Rattle.mini_rows.specs.Steady.{bindings, AroundAt, PropertyAt, SteadyRow, KeepsOwn, ReadsMore, SteadyMeansSame, SteadyLightens}
use Rattle.mini_rows.specs.Unused.{resolved}
use Rattle.mini_rows.proofs.FadingSteps.{same_fades}
use Rattle.mini_rows.proofs.IdleKept.{Idles, expressions_idle, statements_idle}
use Rattle.mini_rows.proofs.MemberKept.{keeps}
use Rattle.mini_rows.proofs.StillKept.{stills_idle}
use Rattle.mini_rows.proofs.SpellShapes.{formed_asked, formed_slot}

-- what each row keeps where it stands
record Here (V : Assured) (p : Position) (n w : Tree) : Type 0 where
  same : (e : Environment) → Steadies V e → (q : Demand) → Fits p q → Same e nothing V.initial q n w
  read : summary n ≡ summary w
  kind : arrow_kind (shape_of n) ≡ arrow_kind (shape_of w)
  fit : (strict : Bool) (c : Slot) → fits strict c n ≡ true → fits strict c w ≡ true
  slot : (strict : Bool) (c : Slot) → fits strict c n ≡ true → is_body_slot p c ≡ true
  asked : AskedAlike p n w
  place : is_rewritten_place p ≡ true
  kept : KeptAt p n w
  bound : (k : ℕ) → bindings k w ≤ bindings k n
  bodies_kept : (a : Around) → AroundAt p a → BodiesKept (bodies a n) (bodies a w)
  frames_kept : (k : Option PropertyKind) → PropertyAt p k → FramesKept (frames k n) (frames k w)
  lighter : weight p w < weight p n
  absent : (outline n).absent ≡ (outline w).absent
  items : counts_items p ≡ true → (outline n).items ≡ (outline w).items
  is_zero : ((outline n).is_zero ≡ (outline w).is_zero) ⊎ (weight p w + 2 ≤ weight p n)
  chooses : (outline n).chooses ≡ (outline w).chooses

member_here : (V : Assured) (s : Seat) (n w : Tree) → MemberRow V s n w → Here V (Expr s) n w
member_here V s n w r =
    let k = keeps V s n w r in record {
      same = λ e z q f. k.same e z q;
      read = k.read;
      kind = k.kind;
      fit = k.fit;
      slot = formed_slot (Expr s) n w k.formed;
      asked = formed_asked (Expr s) n w k.formed;
      place = refl;
      kept = k.kept;
      bound = k.bound;
      bodies_kept = λ a z. subst (BodiesKept (bodies a n)) (k.bodies a) (kept_itself (bodies a n));
      frames_kept = λ q z. same_frames (frames q n) (frames q w) (k.frames q);
      lighter = k.lighter;
      absent = ap (λ o. o.absent) k.outlined;
      items = λ c. absurd (true≢false (sym c));
      is_zero = inl (ap (λ o. o.is_zero) k.outlined);
      chooses = ap (λ o. o.chooses) k.outlined;
    }

idle_here : (V : Assured) (p : Position) (n w : Tree) → is_rewritten_place p ≡ true → counts_items p ≡ false → Idles V p n w → Here V p n w
idle_here V p n w place counts k = record {
  same = k.same;
  read = k.read;
  kind = k.kind;
  fit = k.fit;
  slot = k.slot;
  asked = k.asked;
  place = place;
  kept = k.kept;
  bound = k.bound;
  bodies_kept = k.bodies;
  frames_kept = k.frames;
  lighter = k.lighter;
  absent = k.absent;
  items = λ c. absurd (true≢false (sym c ∙ counts));
  is_zero = k.is_zero;
  chooses = k.chooses;
}

here : (V : Assured) (p : Position) (n w : Tree) → SteadyRow V p n w → Here V p n w
here V (Expr s) n w (inl r) = member_here V s n w r
here V (Expr s) n w (inr (inl r)) = idle_here V (Expr s) n w refl refl (expressions_idle V s n w r)
here V (Expr s) n w (inr (inr r)) = idle_here V (Expr s) n w refl refl (stills_idle V s n w r)
here V (Stmt q) n w r = idle_here V (Stmt q) n w refl refl (statements_idle V q n w r)
here V p n w r = absurd r

pub steady_same : SteadyMeansSame
steady_same V p n w r = (here V p n w r).same

pub steady_slot : (V : Assured) (p : Position) (n w : Tree) → SteadyRow V p n w → (strict : Bool) (c : Slot) → fits strict c n ≡ true → is_body_slot p c ≡ true
steady_slot V p n w r = (here V p n w r).slot

pub steady_kept : (V : Assured) (p : Position) (n w : Tree) → SteadyRow V p n w → KeptAt p n w
steady_kept V p n w r = (here V p n w r).kept

pub steady_lightens : SteadyLightens
steady_lightens V = record {
  lighter = λ p n w r. (here V p n w r).lighter;
  absent = λ p n w r a. (here V p n w r).absent;
  items = λ p n w r a. (here V p n w r).items a;
  is_zero = λ p n w r a. (here V p n w r).is_zero;
  chooses = λ p n w r a. inl (λ h. sym (here V p n w r).chooses ∙ h);
}

pub steady_own : (V : Assured) → KeepsOwn V (SteadyRow V)
steady_own V = record {
  means = λ e z p n w r q f. same_fades V.unshared V.initial e z.unshared q n w (steady_same V p n w r e z q f);
  reads = λ p n w r. (here V p n w r).read;
  kind = λ p n w r. (here V p n w r).kind;
  shapes = record {
    fitting = λ p n w r strict c f e. (here V p n w r).fit strict c e;
    asked = λ p n w r. (here V p n w r).asked;
  };
  names = record {
    places = λ p n w r. inl (here V p n w r).place;
    pieces = λ p n w r. (steady_kept V p n w r).piece;
    keeps = λ p n w r. (steady_kept V p n w r).keeps;
  };
  fixed = λ p n w r. (steady_kept V p n w r).fixed;
  declared = λ p n w r. (steady_kept V p n w r).declared;
  bound = λ p n w r. (here V p n w r).bound;
  bodies = λ p n w r. (here V p n w r).bodies_kept;
  frames = λ p n w r. (here V p n w r).frames_kept;
  lightens = steady_lightens V;
}

-- ---- where more variables have values

module _ (V : Assured) (X : VariableSet) (holds : (x : Variable) → V.initial x ≡ true → X x ≡ true) where
  abbrev V' : Assured
  V' = record V { initial = X }

  still_kept : (of : Object) → is_kept V of ≡ true → is_kept V' of ≡ true
  still_kept OfThis h = h
  still_kept (OfName spelling k) h = h

  still_ready : (of : Object) (a : Tree) → is_ready V of a ≡ true → is_ready V' of a ≡ true
  still_ready OfThis a h = refl
  still_ready (OfName spelling k) a h =
      let first : Bool = begins_at (identifier (resolved spelling k)) a in
      let (there, left) = and_parts (V.initial (Declared k) || first) (leaves a (resolved spelling k) k) h in
      both (X (Declared k) || first) (leaves a (resolved spelling k) k) (either (V.initial (Declared k)) (X (Declared k)) first (holds (Declared k)) there) left
    where
      either : (b c d : Bool) → (b ≡ true → c ≡ true) → (b || d) ≡ true → (c || d) ≡ true
      either true c d f e = ap (λ b. b || d) (f refl)
      either false true d f e = refl
      either false false d f e = e

  still_held : (j : Index) → is_kept_index V j ≡ true → is_kept_index V' j ≡ true
  still_held (Written key) h = refl
  still_held (Held of) h = still_kept of h

  still_soon : (j : Index) (a : Tree) → is_ready_index V j a ≡ true → is_ready_index V' j a ≡ true
  still_soon (Written key) a h = refl
  still_soon (Held of) a h = still_ready of a h

  member_more : (s : Seat) (n w : Tree) → MemberRow V s n w → MemberRow V' s n w
  member_more s n w (inl r) = inl (record { operator = r.operator; of = r.of; key = r.key; b = r.b; kept = still_kept r.of r.kept; shape = r.shape; written = r.written })
  member_more s n w (inr (inl r)) = inr (inl (record { operator = r.operator; of = r.of; key = r.key; first = r.first; others = r.others; b = r.b; kept = still_kept r.of r.kept; left = r.left; seated = r.seated; shape = r.shape; written = r.written }))
  member_more s n w (inr (inr (inl r))) = inr (inr (inl (record { operator = r.operator; combined = r.combined; key = r.key; b = r.b; computes = r.computes; kept = r.kept; shape = r.shape; written = r.written })))
  member_more s n w (inr (inr (inr r))) =
      inr (inr (inr (record { a = r.a; of = r.of; index = r.index; b = r.b; c = r.c; kept = still_kept r.of r.kept; held = still_held r.index r.held; ready = still_ready r.of r.a r.ready; soon = still_soon r.index r.a r.soon; seated = r.seated; shape = r.shape; written = r.written })))

  idle_more : (s : Seat) (n w : Tree) → IdleRow V s n w → IdleRow V' s n w
  idle_more s n w (inl r) = inl (record { before = r.before; idle = r.idle; next = r.next; after = r.after; kept = r.kept; still = r.still; several = r.several; shape = r.shape; written = r.written })
  idle_more s n w (inr r) = inr (record { idle = r.idle; last = r.last; kept = r.kept; still = r.still; seated = r.seated; stays = r.stays; shape = r.shape; written = r.written })

  stills_more : (s : Seat) (n w : Tree) → StillRow V s n w → StillRow V' s n w
  stills_more s n w (inl r) = inl (record { kept = r.kept; row = r.row; heavy = r.heavy })
  stills_more s n w (inr (inl r)) = inr (inl (record { operand = r.operand; kept = r.kept; effect_free = r.effect_free; dropped = r.dropped; heavy = r.heavy; shape = r.shape; written = r.written }))
  stills_more s n w (inr (inr (inl r))) = inr (inr (inl (record { kept = r.kept; row = r.row })))
  stills_more s n w (inr (inr (inr (inl r)))) = inr (inr (inr (inl (record { kept = r.kept; row = r.row }))))
  stills_more s n w (inr (inr (inr (inr r)))) = inr (inr (inr (inr (record { kept = r.kept; row = r.row }))))

  statement_more : (n w : Tree) → IdleStatement V n w → IdleStatement V' n w
  statement_more n w (inl r) = inl (record { expression = r.expression; kept = r.kept; still = r.still; shape = r.shape; written = r.written })
  statement_more n w (inr (inl r)) = inr (inl (record { init = r.init; test = r.test; update = r.update; body = r.body; kept = r.kept; still = r.still; shape = r.shape; written = r.written }))
  statement_more n w (inr (inr r)) = inr (inr (record { init = r.init; test = r.test; update = r.update; body = r.body; kept = r.kept; still = r.still; shape = r.shape; written = r.written }))

pub steady_more : ReadsMore SteadyRow
steady_more V X holds (Expr s) n w (inl r) = inl (member_more V X holds s n w r)
steady_more V X holds (Expr s) n w (inr (inl r)) = inr (inl (idle_more V X holds s n w r))
steady_more V X holds (Expr s) n w (inr (inr r)) = inr (inr (stills_more V X holds s n w r))
steady_more V X holds (Stmt q) n w r = statement_more V X holds n w r
steady_more V X holds p n w r = absurd r

-- so do the rows that an edition has
steady_in_more : (e : ℕ) (V : Assured) (X : VariableSet) (holds : (x : Variable) → V.initial x ≡ true → X x ≡ true) (p : Position) (n w : Tree) (r : SteadyRow V p n w) → SteadyIn e V p n w r → SteadyIn e (record V { initial = X }) p n w (steady_more V X holds p n w r)
unfolding steady_more member_more
steady_in_more e V X holds (Expr s) n w (inl (inl r)) a = a
steady_in_more e V X holds (Expr s) n w (inl (inr (inl r))) a = a
steady_in_more e V X holds (Expr s) n w (inl (inr (inr (inl r)))) a = tt
steady_in_more e V X holds (Expr s) n w (inl (inr (inr (inr r)))) a = tt
steady_in_more e V X holds (Expr s) n w (inr (inl r)) a = tt
steady_in_more e V X holds (Expr s) n w (inr (inr r)) a = tt
steady_in_more e V X holds p n w r a = tt

pub steady_rows_more : (e : ℕ) → ReadsMore (SteadyRowsIn e)
steady_rows_more e V X holds p n w r = (steady_more V X holds p n w r.0, steady_in_more e V X holds p n w r.0 r.1)
