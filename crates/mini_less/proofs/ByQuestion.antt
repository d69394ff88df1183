-- Each fact is a question of yes and no, or the order of reads.
use Rattle.std.specs.Prelude.{ℕ}
use Rattle.mini_shrink.specs.Facts.{Fact, Written, WrittenElsewhere, Given, GivenElsewhere, GivenByPattern, MentionedElsewhere, BoundElsewhere, IsLexical, IsSwitched, InPattern, UnderCatch, ByArguments, ByEval, AmongParameters, ReadEarly, question}
use Rattle.mini_shrink.specs.Pace.{Question}
use Rattle.mini_shrink.specs.Questions.{Own, asks, early}

-- of one symbol
pub by_question_of : (s : ℕ) (P : Question → Type 0) → ((o : Own) → P (asks o)) → ((b : ℕ) → P (early b s)) → (g : Fact) (b : ℕ) → P (question g b s)
by_question_of s P f r Written b = f _
by_question_of s P f r WrittenElsewhere b = f _
by_question_of s P f r Given b = f _
by_question_of s P f r GivenElsewhere b = f _
by_question_of s P f r GivenByPattern b = f _
by_question_of s P f r MentionedElsewhere b = f _
by_question_of s P f r BoundElsewhere b = f _
by_question_of s P f r IsLexical b = f _
by_question_of s P f r IsSwitched b = f _
by_question_of s P f r InPattern b = f _
by_question_of s P f r UnderCatch b = f _
by_question_of s P f r ByArguments b = f _
by_question_of s P f r ByEval b = f _
by_question_of s P f r AmongParameters b = f _
by_question_of s P f r ReadEarly b = r b

pub by_question : (P : Question → Type 0) → ((o : Own) → P (asks o)) → ((b s : ℕ) → P (early b s)) → (g : Fact) (b s : ℕ) → P (question g b s)
by_question P f r g b s = by_question_of s P f (λ b. r b s) g b
