-- What 32 bits count of a program that a small enough value is.
use Rattle.std.proofs.Common.{◌≡◌, ℕ, suc, ◌+◌, ◌≤◌, refl, Bool, true, false, arith}
use Rattle.std.specs.Prelude.{nat_eq, Option, Some, None, option_and_then, if◌then◌else◌, Ok}
use Rattle.serde_json.specs.Data.{Data}
use Rattle.mini_model.specs.Tree.{Tree, node, Trees, none, ◌▸◌, node_count, node_counts}
use Rattle.mini_laws.specs.declared.names.Use.TheVariants.{Read}
use Rattle.mini_accept.specs.Accept.{program_at}
use Rattle.mini_accept.specs.Numbered.{number_after, next_after, next_among}
use Rattle.mini_accept.proofs.Numbers.{program_numbered}
use Rattle.mini_accept.proofs.Types.{some_same}
use Rattle.mini_writer.specs.Fits.{Fits}
use Rattle.mini_writer.specs.Countable.{Countable}
use Rattle.mini_writer.proofs.Declares.{symbols_few, references_few}
use Rattle.mini_writer.proofs.Light.{fitting_load}

-- ---- numbers

-- one number is passed at most by a node
own_number : (a b : Bool) (n m : ℕ) → (if a then Some (suc n) else (if b then Some n else None)) ≡ Some m → m ≤ n + 1
own_number true b n m e = omega (arith, some_same (suc n) m e)
own_number false true n m e = omega (arith, some_same n m e)
own_number false false n m e = absurd (cc e)

then_few : (o : Option ℕ) (f : ℕ → Option ℕ) (a b n m : ℕ) → ((l : ℕ) → o ≡ Some l → l ≤ n + a) → ((l j : ℕ) → f l ≡ Some j → j ≤ l + b) → option_and_then f o ≡ Some m → m ≤ n + (a + b)
then_few None f a b n m first others e = absurd (cc e)
then_few (Some l) f a b n m first others e = omega (arith, first l refl, others l m e)

mutual
  numbers_few : (t : Tree) (n m : ℕ) → next_after t n ≡ Some m → m ≤ n + node_count t
  numbers_few (node h xs k ts) n m e = then_few (number_after k n) (next_among ts) 1 (node_counts ts) n m (own_number (nat_eq k n) (nat_eq k 0) n) (all_numbers_few ts) e

  all_numbers_few : (ts : Trees) (n m : ℕ) → next_among ts n ≡ Some m → m ≤ n + node_counts ts
  all_numbers_few none n m e = omega (arith, some_same n m e)
  all_numbers_few (t ▸ ts) n m e = then_few (next_after t n) (next_among ts) (node_count t) (node_counts ts) n m (numbers_few t n) (all_numbers_few ts) e

-- ---- the whole

pub fitting_is_countable : (d : Data) (k : ℕ) (t : Tree) (n : ℕ) → Fits d → program_at k d ≡ Ok (t, n) → Countable t n
fitting_is_countable d k t n small e =
    let light = fitting_load d t (k, n, e) small in record {
      symbols = omega (arith, light, symbols_few Read t);
      references = omega (arith, light, references_few Read t);
      numbers = omega (arith, light, numbers_few t 0 n (program_numbered k d t n e));
    }
