use Rattle.mini_certificate.proofs.Words.{bad_words, generate_ordered, read_ordered}
use Rattle.mini_certificate.proofs.running.options_of.Goals as goal

pub returns-in-None-generate : goal.returns-in-None-generate
returns-in-None-generate c = read_ordered _ c.in-Some.orders c.in-Some.ensures c.in-None-generate.is

pub returns-in-Some-generate : goal.returns-in-Some-generate
returns-in-Some-generate c = generate_ordered _ c.in-Some.orders _ c.in-Some.ensures c.in-Some-generate.is

pub returns-in-None : goal.returns-in-None
returns-in-None c = bad_words _ c.in-None.ensures
