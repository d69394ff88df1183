-- Where a block stands that is no body: as a statement, or elsewhere, as the blocks of a `try` do.
use Rattle.std.specs.Prelude.{◌≡◌, ◌⊎◌, refl, Bool, true, false, [], ◌∷◌, ◌++◌, Option}
use Rattle.std.proofs.Common.{inl, inr}
use Rattle.mini_model.specs.declared.place.Position.{Position}
use Rattle.mini_model.specs.declared.place.Position.TheVariants.{Stmt, Elsewhere}
use Rattle.mini_model.specs.declared.seat.StmtSeat.{StmtSeat}
use Rattle.mini_model.specs.declared.seat.StmtSeat.TheVariants as stmt_seat
use Rattle.mini_model.specs.Tree.{Trees, listed}
use Rattle.mini_model.specs.Weight.{weight}
use Rattle.mini_laws.specs.declared.names.Use.TheVariants.{Read}
use Rattle.mini_laws.specs.Demand.{Tail, Demand, Stat}
use Rattle.mini_laws.specs.Early.{Path, body_declarations}
use Rattle.mini_laws.specs.Same.{Goes, Same}
use Rattle.mini_laws.specs.State.{Environment}
use Rattle.mini_laws.specs.Scoped.{Scoped}
use Rattle.mini_laws.specs.Step.{step, means, meaning}
use Rattle.mini_laws.specs.Symbols.{declared}
use Rattle.mini_laws.specs.Value.{VariableSet}
use Rattle.mini_kept.specs.KeepsLoosely.{KeepsLoosely}
use Rattle.mini_kept.specs.KeepsNames.{is_rewritten_place}
use Rattle.mini_kept.specs.Lifted.{KeepsRoot}
use Rattle.mini_kept.specs.Placed.{is_statement_list}
use Rattle.mini_kept.specs.SameNames.{NoMoreClash}
use Rattle.mini_rows.specs.Lists.{block}

abbrev pub holds_block : Position → Bool
holds_block (Stmt q) = true
holds_block Elsewhere = true
holds_block p = false

pub no_list : (p : Position) → holds_block p ≡ true → is_statement_list p ≡ true → ⊥
no_list (Stmt q) h e = cc e
no_list Elsewhere h e = cc e
no_list p h e = cc h

-- a block elsewhere has the root that it had
pub block_placed : (p : Position) → holds_block p ≡ true → (ts us : Trees) → (is_rewritten_place p ≡ true) ⊎ KeepsRoot p (block ts) (block us)
block_placed (Stmt q) h ts us = inl refl
block_placed Elsewhere h ts us = inr (record { place = refl; shape = refl; names = refl; number = refl; counted = refl; second = refl })
block_placed p h ts us = absurd (cc h)

-- what is kept of it as a statement is kept of it elsewhere, where it declares nothing that clashes more
module _ (ts us : Trees) (q : StmtSeat) (k : KeepsLoosely (Stmt q) (block ts) (block us)) (clash : (b : Bool) (r : Path) → NoMoreClash (body_declarations b r (listed us)) (body_declarations b r (listed ts))) where
  -- however it is used there: the names in it are used as in any block
  elsewhere_kept : KeepsLoosely Elsewhere (block ts) (block us)
  unfolding Scoped declared
  elsewhere_kept = record {
    bound = k.bound;
    lexical = k.lexical;
    hoisted = k.hoisted;
    body = λ v env s a. k.body Read env refl a;
    inner = k.inner;
    scoped = λ v env s a. k.scoped Read env refl a;
    symbols = λ v env s a. k.symbols Read env refl a;
    numbers = k.numbers;
    declared_as_body = k.declared_as_body;
    once = k.once;
    targets = k.targets;
    loop = k.loop;
    root = λ e. refl;
    block = λ e b r. clash b (r ++ 0 ∷ []);
  }

pub block_there : (p : Position) → holds_block p ≡ true → (ts us : Trees) → ((q : StmtSeat) → KeepsLoosely (Stmt q) (block ts) (block us)) → ((b : Bool) (r : Path) → NoMoreClash (body_declarations b r (listed us)) (body_declarations b r (listed ts))) → KeepsLoosely p (block ts) (block us)
block_there (Stmt q) h ts us k c = k q
block_there Elsewhere h ts us k c = elsewhere_kept ts us stmt_seat.List (k stmt_seat.List) c
block_there p h ts us k c = absurd (cc h)

-- nothing but a statement's end is asked of it
pub block_asked : (e : Environment) (D X : VariableSet) (ts us : Trees) → ((t : Option Tail) → Same e D X (Stat t) (block ts) (block us)) → (d : Demand) → Same e D X d (block ts) (block us)
unfolding means meaning step Goes
block_asked e D X ts us s (Stat t) = s t
block_asked e D X ts us s d = record { by = λ r z i. tt }

-- elsewhere it weighs what it weighs as a body
pub elsewhere_weighs : (ts : Trees) → weight Elsewhere (block ts) ≡ weight (Stmt stmt_seat.Body) (block ts)
elsewhere_weighs ts = refl
