-- What is steady, and counts of `function f(p) { p = p + p }` when `p + p` is dropped, and in how
-- many steps, worked out by hand.
use Rattle.std.specs.Prelude.{◌≡◌, refl, [], ◌∷◌, length, true, false}
use Rattle.mini_laws.specs.declared.names.Use.TheVariants.{Read}
use Rattle.mini_laws.specs.References.{reads, writes, references}
use Rattle.mini_laws.specs.Programs.{reference_of, sum, p}
use Rattle.mini_context.specs.declared.count.Tally.TheVariants.{Out}
use Rattle.mini_context.specs.Tallies.{tallied}
use Rattle.mini_context.specs.declared.mentions.Mentioned.TheVariants.{In}
use Rattle.mini_context.specs.Facts.{Facts}
use Rattle.mini_context.specs.Steady.{is_steady}

steps_of_a_sum : length (references Read (sum (reference_of 1 p) (reference_of 1 p))) ≡ 2
unfolding references
steps_of_a_sum = refl

reads_without_a_sum : tallied Out reads (references Read (sum (reference_of 1 p) (reference_of 1 p))) (0 ∷ 2 ∷ []) ≡ 0 ∷ 0 ∷ []
unfolding references tallied
reads_without_a_sum = refl

writes_without_a_sum : tallied Out writes (references Read (sum (reference_of 1 p) (reference_of 1 p))) (0 ∷ 1 ∷ []) ≡ 0 ∷ 1 ∷ []
unfolding references tallied
writes_without_a_sum = refl

-- ---- tables of one symbol

abbrev untold : Facts
untold = record { reads = 0 ∷ []; writes = 0 ∷ []; fixed = []; tops = []; owners = []; now_top = []; seen = []; exchanged = []; imported = []; reached = []; patterns = []; lexical = []; switched = []; caught = []; pattern_writes = []; mentioned = []; written = []; given = []; homes = []; early = []; functions = []; writable = []; strict = []; evals = []; this_events = []; arguments = []; enclosed = []; asking = [] }

-- a parameter of the function with the body 1
abbrev parameter : Facts
parameter = record untold { homes = (1 ∷ []) ∷ []; functions = (0 ∷ []) ∷ []; enclosed = (0 ∷ []) ∷ [] }

-- a `let` of that body
abbrev binding : Facts
binding = record untold { lexical = true ∷ []; homes = (1 ∷ []) ∷ [] }

a_parameter_in_other_bodies : is_steady parameter 0 2 ≡ true
a_parameter_in_other_bodies = refl

a_binding_at_home : is_steady binding 0 1 ≡ true
a_binding_at_home = refl

a_binding_in_other_bodies : is_steady binding 0 2 ≡ false
a_binding_in_other_bodies = refl

a_binding_that_is_written : is_steady (record binding { written = In 1 ∷ [] }) 0 1 ≡ false
a_binding_that_is_written = refl

-- a `var` of the body 1, which gives it a value
abbrev given_variable : Facts
given_variable = record untold { given = In 1 ∷ []; homes = (1 ∷ []) ∷ [] }

a_given_variable_at_home : is_steady given_variable 0 1 ≡ true
a_given_variable_at_home = refl

a_given_variable_in_other_bodies : is_steady given_variable 0 2 ≡ false
a_given_variable_in_other_bodies = refl

a_given_variable_that_is_written : is_steady (record given_variable { written = In 1 ∷ [] }) 0 1 ≡ false
a_given_variable_that_is_written = refl

a_variable_without_a_value : is_steady (record given_variable { given = [] }) 0 2 ≡ true
a_variable_without_a_value = refl
