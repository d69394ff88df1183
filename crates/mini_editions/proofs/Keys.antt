-- Rows of keys and of names that nothing mentions write no form that the node lacks.
use Rattle.std.proofs.Common.{◌≡◌, ◌<◌, ◌≤◌, ◌+◌, ℕ, arith, Bool, true, false, true≢false, Some, [], refl, sym, inl, inr}
use Rattle.mini_model.specs.declared.place.Position.{Position}
use Rattle.mini_model.specs.declared.place.Position.TheVariants.{Expr, Elsewhere}
use Rattle.mini_model.specs.declared.shape.Shape.{Shape}
use Rattle.mini_model.specs.declared.shape.Shape.TheVariants as shape
use Rattle.mini_model.specs.Tree.{Tree, Trees, node, none, ◌▸◌, absent, is_absent, is_absent_shape}
use Rattle.mini_model.specs.Paths.{append}
use Rattle.mini_rows.specs.Catches.{CatchRow}
use Rattle.mini_rows.specs.Declarations.{binding}
use Rattle.mini_rows.specs.Forms.{Form, BareCatch, year, form_of, form_of_bare}
use Rattle.mini_rows.specs.KeyHolders.{Holder, a_binding, a_target, a_method, a_field, of_name, of_whole, Spelling, quoted, unquoted, holding, Member, of_target, of_method, of_field, in_brackets, without_brackets, PlainKey, a_word, a_count, plain_key, Bares, bares_key, bares_within, is_pattern_part, declaring_shape, HeldKeyRow}
use Rattle.mini_rows.specs.Names.{Nameable, AFunction, AClass, nameable, inside_of, NameRow}
use Rattle.mini_rows.specs.SpellKeys.{KeyForm, a_name, a_whole, a_text_in_brackets, a_whole_in_brackets, written_key, PropertyRow, KeyRow}
use Rattle.mini_rows.specs.Switches.{Switches}
use Rattle.mini_rows.specs.Unused.{resolved}
use Rattle.mini_editions.proofs.Times.{own, times, all_times, Fewer, written, all_append}

module _ (f : Form) where
  -- ---- keys of object literals

  key_times : (k : KeyForm) → times f (written_key k) ≡ 0
  key_times (a_name s) = refl
  key_times (a_whole n) = refl
  key_times (a_text_in_brackets s) = refl
  key_times (a_whole_in_brackets n) = refl

  property_fewer : (n w : Tree) → PropertyRow n w → Fewer f n w
  property_fewer n w (inl r) = written f r.shape r.written (λ z. refl)
  property_fewer n w (inr (inl r)) = written f r.shape r.written (λ z. omega (arith, z))
  property_fewer n w (inr (inr (inl r))) = written f r.shape r.written (λ z. omega (arith, z))
  property_fewer n w (inr (inr (inr (inl r)))) = written f r.shape r.written (λ z. omega (arith, z))
  property_fewer n w (inr (inr (inr (inr (inl r))))) = written f r.shape r.written (λ z. omega (arith, z))
  property_fewer n w (inr (inr (inr (inr (inr r))))) = written f r.shape r.written (λ z. omega (arith, z, key_times r.form))

  pub key_fewer : (p : Position) (n w : Tree) → KeyRow p n w → Fewer f n w
  key_fewer (Expr s) n w r = written f r.shape r.written (λ z.
      let before = all_append f r.before (r.from ▸ r.after) in
      let after = all_append f r.before (r.to ▸ r.after) in
      let made = property_fewer r.from r.to r.row (omega (arith, z, before)) in
      omega (arith, z, before, after, made))
  key_fewer p n w r = absurd r

  -- ---- keys of patterns and of classes

  spelling_times : (s : Spelling) → times f (unquoted s) ≡ 0
  spelling_times (of_name s) = refl
  spelling_times (of_whole n) = refl

  holder_sum : (h : Holder) (k v : Tree) → times f (holding h k v) ≡ times f k + times f v
  holder_sum a_binding k v = omega arith
  holder_sum a_target k v = omega arith
  holder_sum (a_method kind is_static) k v = omega arith
  holder_sum (a_field is_static) k v = omega arith

  word_times : (k : PlainKey) → times f (plain_key k) ≡ 0
  word_times (a_word s) = refl
  word_times (a_count n) = refl

  bracket_parts : (m : Member) (n : ℕ) (k v : Tree) → times f (in_brackets m n k v) ≡ 0 → times f (without_brackets m k v) ≡ 0
  bracket_parts of_target n k v z = omega (arith, z)
  bracket_parts (of_method kind is_static) n k v z = omega (arith, z)
  bracket_parts (of_field is_static) n k v z = omega (arith, z)

  -- a part of a pattern is no form, whatever stands in it
  part_form : (h : Shape) (ts : Trees) → is_pattern_part h ≡ true → own f (form_of h ts) ≡ 0
  part_form shape.Listed ts e = refl
  part_form shape.ObjectPattern ts e = refl
  part_form shape.ArrayPattern ts e = refl
  part_form (shape.BindingProperty is_shorthand is_computed) ts e = refl
  part_form shape.RestElement ts e = refl
  part_form shape.AssignmentPattern ts e = refl
  part_form h ts e = absurd (true≢false (sym e))

  bares_fewer : (t u : Tree) → Bares t u → Fewer f t u
  bares_fewer t u (bares_key n k v s) z = omega (arith, z, word_times k)
  bares_fewer t u (bares_within h xs n before after a b part r) z =
      let was = all_append f before (a ▸ after) in
      let is = all_append f before (b ▸ after) in
      let made = bares_fewer a b r (omega (arith, z, was)) in
      omega (arith, z, was, is, made, part_form h (append before (b ▸ after)) part)

  -- and each of them is there
  bares_there : (t u : Tree) → Bares t u → is_absent u ≡ false
  bares_there t u (bares_key n k v s) = refl
  bares_there t u (bares_within h xs n before after a b part r) = pattern_there h part
    where
      pattern_there : (h : Shape) → is_pattern_part h ≡ true → is_absent_shape h ≡ false
      pattern_there shape.Absent e = absurd (true≢false (sym e))
      pattern_there h e = refl

  bare_catch : (b : Bool) → b ≡ false → own f (form_of_bare b) ≡ 0
  bare_catch true e = absurd (true≢false e)
  bare_catch false e = refl

  declared_fewer : (c : Bool) (a b t : Tree) → Bares a b → Fewer f (node (declaring_shape c) [] 0 (a ▸ t ▸ none)) (node (declaring_shape c) [] 0 (b ▸ t ▸ none))
  declared_fewer true a b t r z =
      let made = bares_fewer a b r (omega (arith, z)) in
      omega (arith, z, made, bare_catch (is_absent b) (bares_there a b r))
  declared_fewer false a b t r z = let made = bares_fewer a b r (omega (arith, z)) in omega (arith, z, made)

  pub held_key_fewer : (p : Position) (n w : Tree) → HeldKeyRow p n w → Fewer f n w
  held_key_fewer Elsewhere n w (inl r) = written f r.shape r.written (λ z. omega (arith, z, holder_sum r.holder (quoted r.spelling) r.value, holder_sum r.holder (unquoted r.spelling) r.value, spelling_times r.spelling))
  held_key_fewer Elsewhere n w (inr (inl r)) = written f r.shape r.written (λ z. bracket_parts r.member r.number (plain_key r.key) r.value z)
  held_key_fewer Elsewhere n w (inr (inr (inl r))) = written f r.shape r.written (λ z. declared_fewer r.is_catch r.pattern r.bared r.rest r.bares z)
  held_key_fewer Elsewhere n w (inr (inr (inr r))) = written f r.shape r.written (λ z. omega (arith, z))
  held_key_fewer p n w r = absurd r

  -- ---- names of functions and classes, and of what is caught

  nameable_sum : (e : Nameable) (n : ℕ) (x : Tree) → times f (nameable e n x) ≡ times f x + all_times f (inside_of e)
  nameable_sum (AFunction is_generator directives params body) n x = omega arith
  nameable_sum (AClass superclass body) n x = omega arith

  pub name_fewer : (o : Switches) (p : Position) (n w : Tree) → NameRow o p n w → Fewer f n w
  name_fewer o (Expr s) n w r = written f r.shape r.written (λ z. omega (arith, z, nameable_sum r.what r.number (binding (resolved r.spelling r.symbol)), nameable_sum r.what r.number absent))
  name_fewer o p n w r = absurd r

  bare_lacks : (e : ℕ) → e < year f → 2019 ≤ e → own f (Some BareCatch) ≡ 0
  bare_lacks e newer late = by f newer
    where
      by : (g : Form) → e < year g → own g (Some BareCatch) ≡ 0
      by BareCatch newer = absurd (omega (arith, newer, late))
      by g newer = refl

  pub catch_fewer : (e : ℕ) → e < year f → 2019 ≤ e → (p : Position) (n w : Tree) → CatchRow p n w → Fewer f n w
  catch_fewer e newer late Elsewhere n w r = written f r.shape r.written (λ z. omega (arith, z, bare_lacks e newer late))
  catch_fewer e newer late p n w r = absurd r
