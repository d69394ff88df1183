-- Rows of choices, of names that can be written and of members write no form that the expression
-- lacks, but what an edition has.
use Rattle.std.proofs.Common.{◌≡◌, ◌<◌, ◌≤◌, ◌+◌, ℕ, arith, Bool, true, false, Some, List, [], ◌∷◌, refl, inl, inr}
use Rattle.std.specs.Prelude.{◌⊎◌}
use Rattle.mini_model.specs.declared.name.Name.{Name}
use Rattle.mini_model.specs.declared.place.Position.{Position}
use Rattle.mini_model.specs.declared.place.Position.TheVariants.{Expr}
use Rattle.mini_model.specs.declared.seat.Seat.{Seat}
use Rattle.mini_model.specs.Tree.{Tree, identifier, conditional, null_literal}
use Rattle.mini_laws.specs.Value.{VariableSet}
use Rattle.mini_kept.specs.Without.{Assured}
use Rattle.mini_rows.specs.Forms.{Form, Chaining, year}
use Rattle.mini_rows.specs.Chains.{Link, a_member, a_computed, a_call, linked, spine, chain, if_nullish}
use Rattle.mini_rows.specs.ChainLinks.{Marked, marked, links_over, has_mark, chain_if, ChainRow}
use Rattle.mini_rows.specs.ChainEnds.{EndRow}
use Rattle.mini_rows.specs.Choices.{assign, joining, strictly, loosely, ChosenRow, ChosenMemberRow, ChosenIndexedRow, CallRow, ZeroRow, ChoiceRow, Shorter, TestedBranch, SharedBranch, OptionalChain, JoinedCall, ChainLink, ChainEnd, BothSides, ChosenIndexed, ZeroFirst}
use Rattle.mini_rows.specs.Editions.{ChoiceIn, WriteIn, SteadyIn}
use Rattle.mini_rows.specs.Members.{object, Index, Written, Held, member_at, MemberRow}
use Rattle.mini_rows.specs.Spellings.{binary}
use Rattle.mini_rows.specs.Unused.{resolved}
use Rattle.mini_rows.specs.Writes.{if_null, WriteRow}
use Rattle.mini_editions.proofs.Times.{own, times, all_times, Fewer, written, no_later}
use Rattle.mini_editions.proofs.Expressions.{own_loose, computed_form, ended_parts, argument_times, guarded_lacks, lighter_fewer, own_row_fewer, held_row_fewer, coalescing_lacks, member_times}

module _ (f : Form) where
  -- ---- links

  abbrev link_times : Link → ℕ
  link_times (a_member k) = times f k
  link_times (a_computed k) = times f k
  link_times (a_call ts) = all_times f ts

  linked_sum : (o : Bool) (l : Link) (t : Tree) → times f (linked o l t) ≡ times f t + link_times l
  linked_sum o (a_member k) t = omega arith
  linked_sum o (a_computed k) t = omega arith
  linked_sum o (a_call ts) t = omega arith

  abbrev links_times : Link → List Link → ℕ
  links_times l [] = link_times l
  links_times l (m ∷ ls) = link_times l + links_times m ls

  spine_sum : (o : Bool) (x : Tree) (l : Link) (ls : List Link) → times f (spine o x l ls) ≡ times f x + links_times l ls
  spine_sum o x l [] = linked_sum o l x
  spine_sum o x l (m ∷ ls) = omega (arith, linked_sum false l (spine o x m ls), spine_sum o x m ls)

  abbrev marked_times : List Marked → ℕ
  marked_times [] = 0
  marked_times (marked o l ∷ ms) = link_times l + marked_times ms

  over_sum : (ms : List Marked) (t : Tree) → times f (links_over ms t) ≡ times f t + marked_times ms
  over_sum [] t = omega arith
  over_sum (marked o l ∷ ms) t = omega (arith, linked_sum o l (links_over ms t), over_sum ms t)

  chain_if_lacks : (b : Bool) (t : Tree) → own f (Some Chaining) ≡ 0 → times f t ≡ 0 → times f (chain_if b t) ≡ 0
  chain_if_lacks true t c z = omega (arith, c, z)
  chain_if_lacks false t c z = z

  chain_row_fewer : (s : Seat) (n w : Tree) → ChainRow s n w → Fewer f n w
  chain_row_fewer s n w (inl r) = written f r.shape r.written (λ z. omega (arith, z, over_sum r.others (linked true r.link (chain r.inner)), linked_sum true r.link (chain r.inner), over_sum r.others (linked true r.link r.inner), linked_sum true r.link r.inner))
  chain_row_fewer s n w (inr r) = written f r.shape r.written (λ z.
      let before = over_sum r.others (linked true r.link r.base) in
      let after = over_sum r.others (linked false r.link r.base) in
      let first = linked_sum true r.link r.base in
      let second = linked_sum false r.link r.base in
      chain_if_lacks (has_mark r.others) (links_over r.others (linked false r.link r.base)) (omega (arith, z)) (omega (arith, z, before, after, first, second)))

  end_row_fewer : (n w : Tree) → EndRow n w → Fewer f n w
  end_row_fewer n w (inl r) = written f r.shape r.written (λ z. refl)
  end_row_fewer n w (inr r) = written f r.shape r.written (λ z. omega (arith, z, over_sum r.others (linked true r.link r.base), linked_sum true r.link r.base))

  asked_parts : (b : Bool) (x : Name) (a t : Tree) → times f (if_nullish b x a t) ≡ 0 → times f t ≡ 0
  asked_parts true x a t z = omega (arith, z)
  asked_parts false x a t z = omega (arith, z)

  chaining_lacks : (e : ℕ) → e < year f → 2020 ≤ e → own f (Some Chaining) ≡ 0
  chaining_lacks e newer late = by f newer
    where
      by : (g : Form) → e < year g → own g (Some Chaining) ≡ 0
      by Chaining newer = absurd (omega (arith, newer, late))
      by g newer = refl

  pub chosen_fewer : (asked : Bool) (s : Seat) (n w : Tree) → ChosenRow asked s n w ⊎ (ChosenMemberRow asked s n w ⊎ ChosenIndexedRow asked s n w) → Fewer f n w
  chosen_fewer asked s n w (inl r) = written f r.shape r.written (λ z. omega (arith, z))
  chosen_fewer asked s n w (inr (inl r)) = written f r.shape r.written (λ z. omega (arith, z))
  chosen_fewer asked s n w (inr (inr r)) = written f r.shape r.written (λ z. omega (arith, z))

  pub call_fewer : (asked : Bool) (n w : Tree) → CallRow asked n w → Fewer f n w
  call_fewer asked n w r = written f r.shape r.written (λ z. omega (arith, z, argument_times f r.is_spread r.p, argument_times f r.is_spread r.q, argument_times f r.is_spread (conditional r.a r.p r.q)))

  pub zero_fewer : (asked : Bool) (n w : Tree) → ZeroRow asked n w → Fewer f n w
  zero_fewer asked n w r = written f r.shape r.written (λ z. omega (arith, z))

  -- ---- choices

  pub choice_fewer : (e : ℕ) → e < year f → (p : Position) (n w : Tree) (r : ChoiceRow p n w) → ChoiceIn e p n w r → Fewer f n w
  choice_fewer e newer (Expr s) n w (Shorter r) a = lighter_fewer f e newer s n w r a
  choice_fewer e newer (Expr s) n w (TestedBranch r) a = own_row_fewer f n w r
  choice_fewer e newer (Expr s) n w (SharedBranch r) a = held_row_fewer f n w r
  choice_fewer e newer (Expr s) n w (OptionalChain r) a = written f r.shape r.written (λ z.
      let read = asked_parts r.equal r.name r.missing (spine false (identifier r.name) r.last r.others) z in
      let before = spine_sum false (identifier r.name) r.last r.others in
      let after = spine_sum true (identifier r.name) r.last r.others in
      let free = chaining_lacks e newer a in
      guarded_lacks f s.guard (chain (spine true (identifier r.name) r.last r.others)) (omega (arith, free, read, before, after)))
  choice_fewer e newer (Expr s) n w (JoinedCall r) a = call_fewer true n w r
  choice_fewer e newer (Expr s) n w (ChainLink r) a = chain_row_fewer s n w r
  choice_fewer e newer (Expr s) n w (ChainEnd r) a = end_row_fewer n w r
  choice_fewer e newer (Expr s) n w (BothSides r) a = written f r.shape r.written (λ z. omega (arith, z))
  choice_fewer e newer (Expr s) n w (ChosenIndexed r) a = chosen_fewer true s n w (inr (inr r))
  choice_fewer e newer (Expr s) n w (ZeroFirst r) a = zero_fewer true n w r
  choice_fewer e newer p n w r a = absurd r

  -- ---- names that can be written

  null_parts : (b : Bool) (t x y : Tree) → times f (if_null b t x y) ≡ 0 → (times f t ≡ 0) × ((times f x ≡ 0) × (times f y ≡ 0))
  null_parts true t x y z = (omega (arith, z), (omega (arith, z), omega (arith, z)))
  null_parts false t x y z = (omega (arith, z), (omega (arith, z), omega (arith, z)))

  pub write_fewer : (e : ℕ) → e < year f → (W : VariableSet) (p : Position) (n w : Tree) (r : WriteRow W p n w) → WriteIn e W p n w r → Fewer f n w
  write_fewer e newer W (Expr s) n w (inl r) a = absurd (let l = no_later f in omega (arith, a, newer, l))
  write_fewer e newer W (Expr s) n w (inr (inl r)) a = written f r.shape r.written (λ z.
      let (t, (x, y)) = null_parts r.equal (assign (resolved r.spelling r.symbol) r.a) r.b (identifier (resolved r.spelling r.symbol)) z in
      let free = coalescing_lacks f e newer a in
      omega (arith, free, t, x))
  write_fewer e newer W (Expr s) n w (inr (inr (inl r))) a = written f r.shape r.written (λ z.
      let x = assign (resolved r.spelling r.symbol) r.a in
      let (t, k) = ended_parts f (joining r.equal) r.before (binary (strictly r.equal) x r.first) (omega (arith, z)) in
      k (binary (loosely r.equal) x null_literal) (omega (arith, t, own_loose f r.equal)))
  write_fewer e newer W (Expr s) n w (inr (inr (inr r))) a = written f r.shape r.written (λ z.
      let x : Name = resolved r.spelling r.symbol in
      let (t, (u, read)) = null_parts r.equal (assign x r.a) r.missing (spine false (identifier x) r.last r.others) z in
      let before = spine_sum false (identifier x) r.last r.others in
      let after = spine_sum true (assign x r.a) r.last r.others in
      let free = chaining_lacks e newer a in
      guarded_lacks f s.guard (chain (spine true (assign x r.a) r.last r.others)) (omega (arith, free, t, read, before, after)))
  write_fewer e newer W p n w r a = absurd r

  -- ---- members of what keeps its value

  abbrev index_times : Index → ℕ
  index_times (Written k) = 0
  index_times (Held of) = times f (object of)

  at_sum : (t : Tree) (i : Index) → times f (member_at t i) ≡ times f t + index_times i
  at_sum t (Written k) = omega (arith, member_times f t k)
  at_sum t (Held of) = omega arith

  pub member_fewer : (e : ℕ) → e < year f → (V : Assured) (s : Seat) (n w : Tree) (r : MemberRow V s n w) → SteadyIn e V (Expr s) n w (inl r) → Fewer f n w
  member_fewer e newer V s n w (inl r) a = absurd (let l = no_later f in omega (arith, a, newer, l))
  member_fewer e newer V s n w (inr (inl r)) a = absurd (let l = no_later f in omega (arith, a, newer, l))
  member_fewer e newer V s n w (inr (inr (inl r))) a = written f r.shape r.written (λ z. omega (arith, z, computed_form f r.operator r.combined r.computes))
  member_fewer e newer V s n w (inr (inr (inr r))) a = written f r.shape r.written (λ z. omega (arith, z))
