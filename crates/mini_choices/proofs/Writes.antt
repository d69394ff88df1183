-- What the rewrites of names that can be written write is what a row says, and where they write nothing no row reads the expression.
use Rattle.std.proofs.Common.{◌≡◌, ℕ, ◌≤◌, Bool, true, false, Option, Some, None, refl, sym, ap, subst, ◌∙◌, inl, inr}
use Rattle.std.specs.Prelude.{is_some, unwrap_or}
use Rattle.mini_model.specs.declared.name.Name.{Name}
use Rattle.mini_model.specs.declared.place.Position.{Position}
use Rattle.mini_model.specs.declared.place.Position.TheVariants.{Expr}
use Rattle.mini_model.specs.declared.seat.Seat.{Seat}
use Rattle.mini_model.specs.declared.shape.Shape.{Shape}
use Rattle.mini_model.specs.declared.shape.Shape.TheVariants as shape
use Rattle.mini_model.specs.Tree.{Tree, identifier, logical, shape_of}
use Rattle.mini_laws.specs.Value.{Variable, Declared, Global, VariableSet}
use Rattle.mini_rows.specs.Chains.{spine}
use Rattle.mini_rows.specs.Choices.{assign}
use Rattle.mini_rows.specs.Unused.{resolved}
use Rattle.mini_rows.specs.Editions.{WriteIn, WritesIn}
use Rattle.mini_rows.specs.Writes.{if_null, WriteRow}
use Rattle.mini_rows.proofs.WriteWeights.{writes_lighter}
use Rattle.mini_tree.specs.declared.options.CompressOptions.{CompressOptions}
use Rattle.mini_tree.specs.Rule.{Applied}
use Rattle.mini_tree.proofs.Reaching.{moves_once}
use Rattle.mini_context.specs.declared.context.TraverseCtx.{TraverseCtx}
use Rattle.mini_context.specs.Known.{Knows}
use Rattle.mini_laws.specs.Writable.{writable_in}
use Rattle.mini_choices.specs.Choices.{first_of, since}
use Rattle.mini_choices.specs.InjectAssignedChaining as chains
use Rattle.mini_choices.specs.MinimizeAssignedComparison as compare
use Rattle.mini_choices.specs.MinimizeNormalAssignmentToCombinedLogicalAssignment.{marked, RestsOver, Rests, Gives}
use Rattle.mini_choices.specs.Writes.{conditional_written, written_by, written, WritesAreRows, UnwrittenRest}
use Rattle.mini_choices.proofs.AssignedChains.{chain_row, chain_passes}
use Rattle.mini_choices.proofs.AssignedComparison.{assigned_row, assigned_passes}
use Rattle.mini_choices.proofs.AssignedNullishComparison.{nullish_row, nullish_passes_for}
use Rattle.mini_choices.proofs.CombinedLogicalAssignment.{combined_row, combined_passes}
use Rattle.mini_choices.proofs.Since.{since_is, since_passes}
use Rattle.mini_choices.specs.MinimizeNormalAssignmentToCombinedLogicalAssignment as combine
use Rattle.mini_choices.proofs.Trials.{first_there, second_there}

abbrev Found : ℕ → VariableSet → Seat → Tree → Tree → Type 0
Found e W s n w = (r : WriteRow W (Expr s) n w) × WriteIn e W (Expr s) n w r

first_or : (e : ℕ) (W : VariableSet) (s : Seat) (n w : Tree) (a b : Option Tree) → (a ≡ Some w → Found e W s n w) → (b ≡ Some w → Found e W s n w) → first_of a b ≡ Some w → Found e W s n w
first_or e W s n w (Some v) b f g h = f h
first_or e W s n w None b f g h = g h

conditional_row : (e : ℕ) → 2020 ≤ e → (W : VariableSet) (s : Seat) (n w : Tree) → conditional_written W s n ≡ Some w → Found e W s n w
conditional_row e late W s n w h = first_or e W s n w (compare.written W n) (chains.written W s n) (λ h. (inr (inl (assigned_row W n w h)), late)) (λ h. (inr (inr (inr (chain_row W s n w h))), late)) h

row_by : (e : ℕ) (h : Shape) (W : VariableSet) (s : Seat) (n w : Tree) → written_by e h W s n ≡ Some w → Found e W s n w
row_by e (shape.AssignmentExpression o) W s n w h = let (late, is) = since_is 2021 e (combine.written W n) w h in (inl (combined_row W n w is), late)
row_by e (shape.LogicalExpression o) W s n w h = (inr (inr (inl (nullish_row W n w h))), tt)
row_by e shape.ConditionalExpression W s n w h = let (late, is) = since_is 2020 e (conditional_written W s n) w h in conditional_row e late W s n w is
row_by e h W s n w k = absurd (cc k)

pub writes_are_rows : WritesAreRows
writes_are_rows e W s n w h = let r = row_by e (shape_of n) W s n w h in (record { row = r.0; lighter = writes_lighter W (Expr s) n w r.0 }, r.1)

asked_written : (e : ℕ) (equal : Bool) (W : VariableSet) (s : Seat) (t b y : Tree) → written e W s (if_null equal t b y) ≡ since 2020 e (conditional_written W s (if_null equal t b y))
asked_written e true W s t b y = refl
asked_written e false W s t b y = refl

passes : (e : ℕ) (W : VariableSet) (s : Seat) (n w : Tree) (r : WriteRow W (Expr s) n w) → WriteIn e W (Expr s) n w r → is_some (written e W s n) ≡ true
passes e W s n w (inl r) late =
    let x : Name = resolved r.spelling r.symbol in
    ap (λ t. is_some (written e W s t)) r.shape ∙ since_passes 2021 e (combine.written W (assign x (logical r.operator (identifier x) r.b))) late (combined_passes W r.operator r.spelling r.symbol r.b r.writable)
passes e W s n w (inr (inl r)) late =
    let x : Name = resolved r.spelling r.symbol in
    let t : Tree = if_null r.equal (assign x r.a) r.b (identifier x) in
    ap (λ t. is_some (written e W s t)) r.shape ∙ ap is_some (asked_written e r.equal W s (assign x r.a) r.b (identifier x)) ∙ since_passes 2020 e (conditional_written W s t) late (first_there (compare.written W t) (chains.written W s t) (assigned_passes W r.equal r.spelling r.symbol r.a r.b r.writable))
passes e W s n w (inr (inr (inl r))) a = ap (λ t. is_some (written e W s t)) r.shape ∙ nullish_passes_for W r.spelling r.symbol r.a r.first r.second r.writable r.nullish r.equal r.before
passes e W s n w (inr (inr (inr r))) late =
    let x : Name = resolved r.spelling r.symbol in
    let read : Tree = spine false (identifier x) r.last r.others in
    let t : Tree = if_null r.equal (assign x r.a) r.missing read in
    ap (λ t. is_some (written e W s t)) r.shape ∙ ap is_some (asked_written e r.equal W s (assign x r.a) r.missing read) ∙ since_passes 2020 e (conditional_written W s t) late (second_there (compare.written W t) (chains.written W s t) (sym (ap (λ t. is_some (chains.written W s t)) r.shape) ∙ chain_passes W s n w r))

pub unwritten_rests : UnwrittenRest
unwritten_rests e W s n h w c = absurd (cc (sym (passes e W s n w c.0.row c.1) ∙ ap is_some h))

applied_over : (e : ℕ) (W : VariableSet) (s : Seat) (t u : Tree) (b : Bool) → u ≡ unwrap_or (written e W s t) t → b ≡ is_some (written e W s t) → Applied (WritesIn e W) (RestsOver e W) (Expr s) t u b
applied_over e W s t u b h f =
    subst (λ v. Applied (WritesIn e W) (RestsOver e W) (Expr s) t v b) (sym h)
    (subst (Applied (WritesIn e W) (RestsOver e W) (Expr s) t (unwrap_or (written e W s t) t)) (sym f) (go (written e W s t) refl))
  where
    go : (o : Option Tree) → written e W s t ≡ o → Applied (WritesIn e W) (RestsOver e W) (Expr s) t (unwrap_or o t) (is_some o)
    go None h = (refl, unwritten_rests e W s t h)
    go (Some w) h = moves_once (WritesIn e W) (Expr s) t w (writes_are_rows e W s t w h)

-- the tables of a context tell what can be written in the program that it knows
told : (c : TraverseCtx) (o : CompressOptions) (q : Tree) → Knows c o q → marked c.scopes ≡ writable_in q
told c o q k = λ j x. by x j
  where
    by : (x : Variable) → marked c.scopes x ≡ writable_in q x
    by (Declared s) = k.refreshed.told.writable_told s
    by (Global s) = refl

-- the context has the options that it knows
pub options_told : (c : TraverseCtx) (o : CompressOptions) (q : Tree) → Knows c o q → c.options ≡ o
options_told c o q k = k.options

pub applied : (c : TraverseCtx) (s : Seat) (t u : Tree) (b : Bool) → u ≡ unwrap_or (written c.options.edition (marked c.scopes) s t) t → b ≡ is_some (written c.options.edition (marked c.scopes) s t) → (o : CompressOptions) (q : Tree) → Knows c o q → Applied (Gives o q) (Rests o q) (Expr s) t u b
applied c s t u b e f o q k =
    subst (λ x. Applied (Gives x q) (Rests x q) (Expr s) t u b) (options_told c o q k)
    (subst (λ W. Applied (WritesIn c.options.edition W) (RestsOver c.options.edition W) (Expr s) t u b) (told c o q k) (applied_over c.options.edition (marked c.scopes) s t u b e f))

pub elsewhere : (p : Position) (t : Tree) → ((s : Seat) → p ≡ Expr s → ⊥) → (o : CompressOptions) (q : Tree) → Applied (Gives o q) (Rests o q) p t t false
elsewhere (Expr s) t f o q = absurd (f s refl)
elsewhere p t f o q = (refl, λ w r. absurd r.0.row)
