-- Rows past steady names, and those of a `var` further inside a body, write no form besides what they
-- move.
use Rattle.std.proofs.Common.{◌≡◌, ◌+◌, ℕ, zero, arith, true, true≢false, [], Option, Some, None, refl, sym, inl, inr}
use Rattle.mini_model.specs.declared.kind.VariableDeclarationKind.TheVariants.{Var}
use Rattle.mini_model.specs.declared.name.Name.{Name}
use Rattle.mini_model.specs.declared.place.Position.{Position}
use Rattle.mini_model.specs.declared.place.Position.TheVariants.{Expr, Stmt, Method, Elsewhere}
use Rattle.mini_model.specs.declared.shape.Shape.{Shape}
use Rattle.mini_model.specs.declared.shape.Shape.TheVariants as shape
use Rattle.mini_model.specs.Paths.{append}
use Rattle.mini_model.specs.Tree.{Tree, Trees, none, ◌▸◌, listed, absent, count}
use Rattle.mini_laws.specs.Path.{Path, here, inside, join, plug}
use Rattle.mini_kept.specs.Without.{Assured, BodySets}
use Rattle.mini_rows.specs.declared.inside.Way.{Way}
use Rattle.mini_rows.specs.declared.inside.Way.TheVariants as way
use Rattle.mini_rows.specs.Cases.{switch_case}
use Rattle.mini_rows.specs.Declarations.{binding, declarator}
use Rattle.mini_rows.specs.Forms.{Form, form_of}
use Rattle.mini_rows.specs.Inside.{way_in, is_way_to, Holder, Arrow, Function, Module, Static, over, Ends, InsideAt, unused_ends}
use Rattle.mini_rows.specs.Lists.{block, declaration, for_loop}
use Rattle.mini_rows.specs.Past.{PastRow, PastFunction, PastFunctionRow}
use Rattle.mini_rows.specs.PastArrows.{PastArrow}
use Rattle.mini_rows.specs.PastBlocks.{PastBlockRow, PastStatementRow, PastBlocks}
use Rattle.mini_rows.specs.PastInside.{past_ends}
use Rattle.mini_rows.specs.PastModules.{PastModule}
use Rattle.mini_rows.specs.PastStatics.{PastStatic}
use Rattle.mini_rows.specs.Switches.{Switches, Liberties, without_vars}
use Rattle.mini_rows.specs.Unused.{resolved, put_first, declared_among, declared_left, switch_around}
use Rattle.mini_editions.proofs.Times.{own, times, all_times, all_append}
use Rattle.mini_editions.proofs.Moved.{Below, AllBelow, below, all_below, moved_there, put_below, left_sum, head_left_sum, next_below, among_block}

module _ (f : Form) where
  -- ---- past steady names

  pub past_below : (V : Assured) (W : Liberties) (o : Tree) (ts us : Trees) → PastRow V W o ts us → AllBelow f ts us
  past_below V W o ts us (inl r) = all_below f r.shape r.written (
      let x : Name = resolved r.spelling r.symbol in
      omega (arith, all_append f r.before (declared_among r.kind x r.first r.init none ▸ (r.head ▸ r.after)), all_append f r.before (declared_left r.kind r.first ▸ (put_first x r.init r.head ▸ r.after)), all_append f r.first (declarator (binding x) r.init ▸ none), left_sum f r.kind r.first, put_below f x r.init (moved_there W r.init r.moves) r.head))
  past_below V W o ts us (inr r) = all_below f r.shape r.written (
      let x : Name = resolved r.spelling r.symbol in
      let ds = append r.first (declarator (binding x) r.init ▸ (declarator r.binds r.value ▸ r.last)) in
      let es = append r.first (declarator r.binds (put_first x r.init r.value) ▸ r.last) in
      omega (arith, all_append f r.before (declaration r.kind ds ▸ r.after), all_append f r.before (declaration r.kind es ▸ r.after), all_append f r.first (declarator (binding x) r.init ▸ (declarator r.binds r.value ▸ r.last)), all_append f r.first (declarator r.binds (put_first x r.init r.value) ▸ r.last), put_below f x r.init (moved_there W r.init r.moves) r.value))

  past_function_below : (S : BodySets) (W : Liberties) (n w : Tree) → PastFunctionRow S W n w → Below f n w
  past_function_below S W n w r = below f r.shape r.written (let made = past_below (S r.number) W (listed (r.name ▸ r.parameters)) r.before r.after r.row in omega (arith, made))

  pub past_functions_below : (S : BodySets) (W : Liberties) (p : Position) (n w : Tree) → PastFunction S W p n w → Below f n w
  past_functions_below S W (Stmt q) n w r = past_function_below S W n w r
  past_functions_below S W (Expr s) n w r = past_function_below S W n w r
  past_functions_below S W Method n w r = past_function_below S W n w r
  past_functions_below S W Elsewhere n w r = past_function_below S W n w r
  past_functions_below S W p n w r = absurd r

  pub past_arrow_below : (S : BodySets) (W : Liberties) (p : Position) (n w : Tree) → PastArrow S W p n w → Below f n w
  past_arrow_below S W (Expr s) n w r = below f r.shape r.written (let made = past_below (S r.number) W (listed r.parameters) r.before r.after r.row in omega (arith, made))
  past_arrow_below S W p n w r = absurd r

  pub past_module_below : (S : BodySets) (W : Liberties) (p : Position) (n w : Tree) → PastModule S W p n w → Below f n w
  past_module_below S W Elsewhere n w r = below f r.shape r.written (let made = past_below (S 0) W (listed none) r.before r.after r.row in omega (arith, made))
  past_module_below S W p n w r = absurd r

  pub past_static_below : (S : BodySets) (W : Liberties) (p : Position) (n w : Tree) → PastStatic S W p n w → Below f n w
  past_static_below S W Elsewhere n w r = below f r.shape r.written (let made = past_below (S r.number) W (listed none) r.before r.after r.row in omega (arith, made))
  past_static_below S W p n w r = absurd r

  past_block_below : (o : Switches) (V : Assured) (n w : Tree) → PastBlockRow o V n w → Below f n w
  past_block_below o V n w r = below f r.shape r.written (let made = past_below V (without_vars o) (listed none) r.before r.after r.row in omega (arith, made))

  past_statement_below : (o : Switches) (V : Assured) (n w : Tree) → PastStatementRow o V n w → Below f n w
  past_statement_below o V n w (inl r) = past_block_below o V n w r
  past_statement_below o V n w (inr (inl r)) = below f r.shape r.written (
      let made = past_below V (without_vars o) (switch_around r.discriminant r.first r.test r.last) r.before r.after r.row in
      omega (arith, made, all_append f r.first (switch_case r.test r.before ▸ r.last), all_append f r.first (switch_case r.test r.after ▸ r.last)))
  past_statement_below o V n w (inr (inr r)) = below f r.shape r.written (
      let made = past_below V (without_vars o) (for_loop absent r.test r.update r.body) (r.before ▸ none) (r.after ▸ none) r.row in
      omega (arith, made))

  pub past_blocks_below : (o : Switches) (V : Assured) (p : Position) (n w : Tree) → PastBlocks o V p n w → Below f n w
  past_blocks_below o V (Stmt q) n w r = past_statement_below o V n w r
  past_blocks_below o V Elsewhere n w r = past_block_below o V n w r
  past_blocks_below o V p n w r = absurd r

  -- ---- of a `var` further inside a body

  join_sum : (pre : Trees) (c : Tree) (post : Trees) → all_times f (join pre c post) ≡ all_times f pre + (times f c + all_times f post)
  join_sum none c post = omega arith
  join_sum (b ▸ pre) c post = omega (arith, join_sum pre c post)

  no_way : (e : Way) (k : Path) → is_way_to e None k ≡ true → ⊥
  no_way e here a = true≢false (sym a)
  no_way e (inside h xs n pre k post) a = true≢false (sym a)

  -- no way goes into the parameter of a `catch`
  catch_way : (s e : Way) (k : Path) → is_way_to e (way_in s shape.CatchClause 0) k ≡ true → ⊥
  catch_way way.Statement e k a = no_way e k a
  catch_way way.Held e k a = no_way e k a
  catch_way way.Head e k a = no_way e k a
  catch_way way.Statements e k a = no_way e k a
  catch_way way.Cases e k a = no_way e k a
  catch_way way.Case e k a = no_way e k a
  catch_way way.Catch e k a = no_way e k a

  own_joined : (s e : Way) (h : Shape) (k : Path) (pre : Trees) (a b : Tree) (post : Trees) → is_way_to e (way_in s h (count pre)) k ≡ true → own f (form_of h (join pre b post)) ≡ own f (form_of h (join pre a post))
  own_joined s e shape.CatchClause k none a b post there = absurd (catch_way s e k there)
  own_joined s e shape.CatchClause k (c ▸ pre) a b post there = refl
  own_joined s e h k pre a b post there = refl

  plug_below : (e : Way) (o : Option Way) (k : Path) (a b : Tree) → is_way_to e o k ≡ true → Below f a b → Below f (plug k a) (plug k b)
  plug_below e o here a b there l = l
  plug_below e (Some s) (inside h [] zero pre k post) a b there l =
      let made = plug_below e (way_in s h (count pre)) k a b there l in
      omega (arith, made, own_joined s e h k pre (plug k a) (plug k b) post there, join_sum pre (plug k a) post, join_sum pre (plug k b) post)
  plug_below e o (inside h xs n pre k post) a b there l = absurd (true≢false (sym there))

  abbrev holder_times : Holder → ℕ
  holder_times (Arrow directives n parameters) = all_times f parameters
  holder_times (Function is_declared is_generator directives n name parameters) = times f name + all_times f parameters
  holder_times (Module directives) = 0
  holder_times (Static n) = 0

  holder_sum : (h : Holder) (l : Tree) → times f (over h l) ≡ holder_times h + times f l
  holder_sum (Arrow directives n parameters) l = omega arith
  holder_sum (Function is_declared is_generator directives n name parameters) l = omega arith
  holder_sum (Module directives) l = omega arith
  holder_sum (Static n) l = omega arith

  -- whatever is read at the end of the way
  abbrev pub EndsBelow : Ends → Type 0
  EndsBelow E = (o : Trees) (z : Way) (n w : Tree) → E o z n w → Below f n w

  pub inside_below : (E : Ends) → EndsBelow E → (p : Position) (n w : Tree) → InsideAt E p n w → Below f n w
  inside_below E k p n w i =
      let r = i.row in
      below f r.shape r.written (
      let made = k _ r.end r.read r.put r.row in
      let put = plug_below r.end (Some way.Statement) r.place r.read r.put r.there made in
      omega (arith, put, holder_sum r.holder (listed (append r.first (plug r.place r.read ▸ r.last))), holder_sum r.holder (listed (append r.first (plug r.place r.put ▸ r.last))), all_append f r.first (plug r.place r.read ▸ r.last), all_append f r.first (plug r.place r.put ▸ r.last)))

  pub unused_ends_below : (W : Liberties) → EndsBelow (unused_ends W)
  unused_ends_below W o way.Statements n w r = below f r.shape r.written (let made = among_block f W o r.list r.left r.row in omega (arith, made))
  unused_ends_below W o way.Held n w r = let made = among_block f W o (n ▸ none) (w ▸ none) r.row in omega (arith, made)
  unused_ends_below W o way.Head n w (inl r) = below f r.shape r.written (
      let x : Name = resolved r.spelling r.symbol in
      omega (arith, all_append f r.first (declarator (binding x) r.init ▸ r.last), head_left_sum f Var (append r.first r.last), all_append f r.first r.last))
  unused_ends_below W o way.Head n w (inr r) = let made = next_below f W (block (listed o ▸ (n ▸ none))) (block (listed o ▸ (w ▸ none))) r.row in omega (arith, made)
  unused_ends_below W o s n w r = absurd r

  pub past_ends_below : (S : BodySets) (W : Liberties) → EndsBelow (past_ends S W)
  past_ends_below S W (o ▸ a) way.Statements n w r = below f r.shape r.written (let made = past_below _ W (listed (o ▸ a)) r.list r.left r.row in omega (arith, made))
  past_ends_below S W (o ▸ a) way.Held n w r = let made = past_below _ W (listed (o ▸ a)) (n ▸ none) (w ▸ none) r.row in omega (arith, made)
  past_ends_below S W (o ▸ a) way.Head n w r = let made = past_below _ W (listed (o ▸ a)) (n ▸ none) (w ▸ none) r.row in omega (arith, made)
  past_ends_below S W o z n w r = absurd r
