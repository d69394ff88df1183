use Rattle.mini_context.proofs.survey.open_tables.Goals as goal

pub returns : goal.returns
returns c = record {
  fixed = c.in_ok-open_marks.ensures.first;
  exchanged = c.in_ok-open_marks.ensures.second;
  reached = c.in_ok-open_marks.ensures.third;
  imported = c.in_ok-open_marks-2.ensures.first;
  patterns = c.in_ok-open_marks-2.ensures.second;
  lexical = c.in_ok-open_marks-2.ensures.third;
  switched = c.in_ok-tables.ensures;
  caught = c.in_ok-tables-2.ensures;
  mentioned = c.in_ok-open_mentions.ensures.first;
  written = c.in_ok-open_mentions.ensures.second;
  given = c.in_ok-tables-3.ensures;
  homes = c.in_ok-tables-4.ensures;
  functions = c.in_ok-tables-5.ensures.symbols;
  numbers = c.in_ok-tables-5.ensures.numbers;
  this_events = c.new.ensures.items;
  arguments = c.new-2.ensures.items;
}
