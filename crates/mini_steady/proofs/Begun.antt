-- What is begun at each child of a node, as the walk takes it along; and what a family reads there.
use Rattle.std.proofs.Common.{◌≡◌, ℕ, suc, ◌+◌, Bool, List, [], refl, sym, ap, ◌∙◌, subst, subst₂, arith, length, take}
use Rattle.std.specs.Prelude.{◌||◌, ◌++◌}
use Rattle.std.proofs.Math.Path.{fun_ext}
use Rattle.std.proofs.Math.Seq.{take-append_seam}
use Rattle.std.proofs.lemmas.List.{append-nil, append_assoc}
use Rattle.mini_model.specs.declared.name.SymbolId.{SymbolId}
use Rattle.mini_model.specs.declared.place.Position.{Position}
use Rattle.mini_model.specs.Tree.{Tree, children, shape_of}
use Rattle.mini_laws.specs.Naming.{summary, summaries}
use Rattle.mini_laws.specs.Value.{Declared, is_in}
use Rattle.mini_kept.specs.Without.{Assured, BodySets}
use Rattle.mini_rows.specs.Steady.{OwnRows, Begun, passing, enters_lexical, beginning, begins, begun_at}
use Rattle.mini_steady.specs.Declarations.{is_listed, begin_in, unlisted, known_there, known_of, begun_by}
use Rattle.mini_steady.specs.Own.{KeepsEach, begun_in, rows_there, OwnWalked, AppliedHere, AsBefore, BeginsBesides}
use Rattle.mini_steady.specs.declared.code.BodyCode.{BodyCode}
use Rattle.mini_steady.proofs.Declaring.{either_listed}
use Rattle.mini_steady.proofs.Behind.{begins_there}
use Rattle.mini_steady.proofs.Owning.{OwnWalkedTo}

-- ---- what is begun at a child

-- d is told as c was, but that at the child of t at an index also what is begun there is begun
pub record BegunTo (p : Position) (t : Tree) (at : ℕ) (c d : BodyCode) : Type 0 where
  pub number : d.number ≡ c.number
  pub declared : d.declared.items ≡ c.declared.items
  pub begun : begun_by d ≡ begun_in p (begun_by c) t at
  pub added : List SymbolId
  pub is : d.begun.items ≡ c.begun.items ++ added

-- c at the node, and d as its children are entered
pub begun_first : (p : Position) (t : Tree) (c d : BodyCode) → d.number ≡ c.number → d.declared.items ≡ c.declared.items → d.begun.items ≡ c.begun.items → d.in_lexical ≡ enters_lexical c.in_lexical (shape_of t) p → BegunTo p t 0 c d
begun_first p t c d number declared begun listed = record {
  number = number;
  declared = declared;
  begun = (λ i. record { symbols = λ k. is_listed k (begun i); in_lexical = listed i });
  added = [];
  is = begun ∙ sym (append-nil c.begun.items);
}

-- behind the child also what begins there is begun, as u, which is read as t, has it
begun_next : (p : Position) (t u : Tree) (at : ℕ) (b : Bool) (c d m e : BodyCode) → b ≡ c.in_lexical → shape_of u ≡ shape_of t → summaries (children u) ≡ summaries (children t) → BegunTo p t at c d → AsBefore d m → BeginsBesides (begin_in b p u at) m e → BegunTo p t (at + 1) c e
begun_next p t u at b c d m e flag shaped read before same more =
    let us = begin_in b p u at in
    let now = ap (λ ss. ss ++ us) same.begun in
    let one_more : suc at ≡ at + 1 = omega arith in
    let there : (λ k. is_listed k e.begun.items) ≡ passing (begun_in p (begun_by c) t at).symbols (begins c.in_lexical (shape_of t) p (summaries (children t)) at)
    = fun_ext (λ k. ap (is_listed k) (more.begun ∙ now) ∙ either_listed k d.begun.items us
    ∙ (λ i. (before.begun i).symbols k || (begins_there k (beginning b (shape_of u) p at) u at ∙ (λ j. is_in (Declared k) (begins (flag j) (shaped j) p (read j) at))) i)) in
    let listed = more.in_lexical ∙ same.in_lexical ∙ ap (λ (L : Begun). L.in_lexical) before.begun in record {
      number = more.number ∙ same.number ∙ before.number;
      declared = more.declared ∙ same.declared ∙ before.declared;
      begun = (λ i. record { symbols = there i; in_lexical = listed i }) ∙ (λ i. begun_at (shape_of t) p (begun_by c) (summaries (children t)) (one_more i));
      added = before.added ++ us;
      is = more.begun ∙ now ∙ ap (λ ss. ss ++ us) before.is ∙ append_assoc c.begun.items before.added us;
    }

-- the same of what a walk over the children has come to
pub begun_walked : (R : Begun → Position → Tree → Tree → Type 0) (L : Begun) (p : Position) (t u : Tree) (at : ℕ) (a b : Bool) (c d m e : BodyCode) → OwnWalkedTo R L p (at + 1) t u a → b ≡ c.in_lexical → BegunTo p t at c d → AsBefore d m → BeginsBesides (begin_in b p u at) m e → BegunTo p t (at + 1) c e
begun_walked R L p t u at a b c d m e w flag before same more = begun_next p t u at b c d m e flag w.shape w.read before same more

pub begun_left : (p : Position) (t : Tree) (at n : ℕ) (b : Bool) (c d e : BodyCode) → n ≡ length c.begun.items → b ≡ c.in_lexical → BegunTo p t at c d → e.number ≡ d.number → e.declared.items ≡ d.declared.items → e.begun.items ≡ take n d.begun.items → e.in_lexical ≡ b → AsBefore c e
begun_left p t at n b c d e counted flag before number declared items listed = record {
  number = number ∙ before.number;
  declared = declared ∙ before.declared;
  begun = items ∙ (λ i. take (counted i) (before.is i)) ∙ take-append_seam c.begun.items before.added;
  in_lexical = listed ∙ flag;
}

pub as_was : (c : BodyCode) → AsBefore c c
as_was c = record { number = refl; declared = refl; begun = refl; in_lexical = refl }

-- ---- what a family reads there

pub rows_read : (F : OwnRows) → KeepsEach F → (S : BodySets) (c : BodyCode) (L : Begun) (p : Position) (n w : Tree) → rows_there F S c L p n w → summary n ≡ summary w
rows_read F keeps S c L p n w r = (keeps (known_there S c L)).reads p n w r

-- where it is told as before it reads as before
pub known_same : (S : BodySets) (c d : BodyCode) → AsBefore c d → known_of S d ≡ known_there S c (begun_by c)
known_same S c d a = (λ i. record (S (a.number i)) { initial = unlisted (a.declared i) (λ k. is_listed k (a.begun i)) (S (a.number i)).initial })

pub applied_same : (F : OwnRows) (S : BodySets) (c d : BodyCode) (p : Position) (t u : Tree) (b : Bool) → AsBefore c d → AppliedHere (F (known_of S d)) p t u b → AppliedHere (F (known_there S c (begun_by c))) p t u b
applied_same F S c d p t u b a h = subst (λ (V : Assured). AppliedHere (F V) p t u b) (known_same S c d a) h

pub walked_same : (F : OwnRows) (S : BodySets) (c d : BodyCode) (L M : Begun) (p : Position) (t u : Tree) (b : Bool) → d.number ≡ c.number → d.declared.items ≡ c.declared.items → L ≡ M → OwnWalked (rows_there F S d) L p t u b → OwnWalked (rows_there F S c) M p t u b
walked_same F S c d L M p t u b number declared begun w = let same : known_there S d ≡ known_there S c = (λ i L. record (S (number i)) { initial = unlisted (declared i) L.symbols (S (number i)).initial }) in
    subst₂ (λ (K : Begun → Assured) (L : Begun). OwnWalked (λ M. F (K M)) L p t u b) same begun w

-- what it was and what it is then
pub then_before : (c d e : BodyCode) → AsBefore c d → AsBefore d e → AsBefore c e
then_before c d e a b = record { number = b.number ∙ a.number; declared = b.declared ∙ a.declared; begun = b.begun ∙ a.begun; in_lexical = b.in_lexical ∙ a.in_lexical }
