-- A function or class expression without its name is lighter in every seat.
use Rattle.std.proofs.Common.{◌≡◌, ◌<◌, ℕ, refl, sym, ap, ◌∙◌, inl, arith}
use Rattle.mini_model.specs.declared.name.Name.{Name}
use Rattle.mini_model.specs.declared.place.Position.{Position}
use Rattle.mini_model.specs.declared.place.Position.TheVariants.{Expr}
use Rattle.mini_model.specs.declared.seat.Seat.{Seat}
use Rattle.mini_model.specs.Tree.{Tree, absent}
use Rattle.mini_model.specs.Weight.{outline, weight}
use Rattle.mini_rows.specs.Declarations.{binding}
use Rattle.mini_rows.specs.Names.{Nameable, AFunction, AClass, nameable, NameRow, NamesLighter, NamesLighten}
use Rattle.mini_rows.specs.Switches.{Switches}
use Rattle.mini_rows.specs.Unused.{resolved}

falls : (s : Seat) (e : Nameable) (n : ℕ) (x : Name) → weight (Expr s) (nameable e n absent) < weight (Expr s) (nameable e n (binding x))
falls s (AFunction g ds ps b) n x = omega arith
falls s (AClass c b) n x = omega arith

outlined : (e : Nameable) (n : ℕ) (x : Name) → outline (nameable e n (binding x)) ≡ outline (nameable e n absent)
outlined (AFunction g ds ps b) n x = refl
outlined (AClass c b) n x = refl

pub names_lighter : NamesLighter
names_lighter o (Expr s) n w r =
    let less = falls s r.what r.number (resolved r.spelling r.symbol) in
    omega (arith, less, ap (weight (Expr s)) r.shape, ap (weight (Expr s)) r.written)
names_lighter o p n w r = absurd r

row_outline : (o : Switches) (p : Position) (n w : Tree) → NameRow o p n w → outline n ≡ outline w
row_outline o (Expr s) n w r = ap outline r.shape ∙ outlined r.what r.number (resolved r.spelling r.symbol) ∙ sym (ap outline r.written)
row_outline o p n w r = absurd r

pub names_lighten : NamesLighten
names_lighten o = record {
  lighter = λ p n w c. c.lighter;
  absent = λ p n w c e. ap (λ o. o.absent) (row_outline o p n w c.row);
  items = λ p n w c e. ap (λ o. o.items) (row_outline o p n w c.row);
  is_zero = λ p n w c e. inl (ap (λ o. o.is_zero) (row_outline o p n w c.row));
  chooses = λ p n w c e. inl (λ h. sym (ap (λ o. o.chooses) (row_outline o p n w c.row)) ∙ h);
}
