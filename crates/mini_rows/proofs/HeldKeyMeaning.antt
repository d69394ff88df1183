-- What a row on the key of a pattern or a class writes means the same, and weighs less.
use Rattle.std.proofs.Common.{◌≡◌, ◌<◌, refl, sym, ap, ◌∙◌, arith}
use Rattle.mini_model.specs.declared.place.Position.{Position}
use Rattle.mini_model.specs.declared.place.Position.TheVariants.{Elsewhere}
use Rattle.mini_model.specs.Tree.{Tree}
use Rattle.mini_model.specs.Weight.{outline, weight}
use Rattle.mini_laws.specs.State.{State, Environment}
use Rattle.mini_laws.specs.Demand.{Demand, Request}
use Rattle.mini_laws.specs.Naming.{summary}
use Rattle.mini_laws.specs.Step.{step, means, meaning}
use Rattle.mini_laws.specs.Rows.{SameAt}
use Rattle.mini_laws.specs.Rewritten.{MeansSame}
use Rattle.mini_laws.proofs.Rows.{equal_same}
use Rattle.mini_rows.specs.KeyHolders.{Holder, a_binding, a_target, a_method, a_field, holding, Spelling, of_name, of_whole, quoted, unquoted, Row52Held}
use Rattle.mini_rows.proofs.SpellAlike.{SameTree}
use Rattle.mini_rows.proofs.SpellMeaning.{same_by}
use Rattle.mini_rows.proofs.SpellWeights.{falls_by}

-- no parent asks anything of it: the pattern or the class is the world's
held_does : (h : Holder) (k l v : Tree) (e : Environment) (q : Demand) (r : Request q) (z : State) → means e (holding h k v) q r z ≡ means e (holding h l v) q r z
unfolding means meaning step
held_does a_binding k l v e q r z = refl
held_does a_target k l v e q r z = refl
held_does (a_method kind is_static) k l v e q r z = refl
held_does (a_field is_static) k l v e q r z = refl

held_read : (h : Holder) (s : Spelling) (v : Tree) → summary (holding h (quoted s) v) ≡ summary (holding h (unquoted s) v)
held_read a_binding (of_name s) v = refl
held_read a_binding (of_whole n) v = refl
held_read a_target s v = refl
held_read (a_method kind is_static) s v = refl
held_read (a_field is_static) s v = refl

row_same : (n w : Tree) → Row52Held n w → SameTree n w
row_same n w r = same_by n w _ _ r.shape r.written (record { by = held_does r.holder (quoted r.spelling) (unquoted r.spelling) r.value; read = held_read r.holder r.spelling r.value })

-- of that row alone
abbrev pub HeldRow : Position → Tree → Tree → Type 0
HeldRow Elsewhere n w = Row52Held n w
HeldRow _ n w = ⊥

same : (p : Position) (n w : Tree) → HeldRow p n w → SameAt p n w
same Elsewhere n w r = let h = row_same n w r in equal_same Elsewhere n w (record { by = λ e q f r z. h.by e q r z })
same p n w r = absurd r

read : (p : Position) (n w : Tree) → HeldRow p n w → summary n ≡ summary w
read Elsewhere n w r = (row_same n w r).read
read p n w r = absurd r

pub held_same : MeansSame HeldRow
held_same = record { same = same; reads = read }

-- ---- the weight

held_falls : (h : Holder) (s : Spelling) (v : Tree) → weight Elsewhere (holding h (unquoted s) v) < weight Elsewhere (holding h (quoted s) v)
held_falls a_binding (of_name s) v = omega arith
held_falls a_binding (of_whole n) v = omega arith
held_falls a_target (of_name s) v = omega arith
held_falls a_target (of_whole n) v = omega arith
held_falls (a_method kind is_static) (of_name s) v = omega arith
held_falls (a_method kind is_static) (of_whole n) v = omega arith
held_falls (a_field is_static) (of_name s) v = omega arith
held_falls (a_field is_static) (of_whole n) v = omega arith

pub held_lighter : (p : Position) (n w : Tree) → HeldRow p n w → weight p w < weight p n
held_lighter Elsewhere n w r = falls_by Elsewhere n w _ _ r.shape r.written (held_falls r.holder r.spelling r.value)
held_lighter p n w r = absurd r

held_outline : (h : Holder) (k l v : Tree) → outline (holding h k v) ≡ outline (holding h l v)
held_outline a_binding k l v = refl
held_outline a_target k l v = refl
held_outline (a_method kind is_static) k l v = refl
held_outline (a_field is_static) k l v = refl

pub outline_kept : (p : Position) (n w : Tree) → HeldRow p n w → outline n ≡ outline w
outline_kept Elsewhere n w r = ap outline r.shape ∙ held_outline r.holder (quoted r.spelling) (unquoted r.spelling) r.value ∙ sym (ap outline r.written)
outline_kept p n w r = absurd r
