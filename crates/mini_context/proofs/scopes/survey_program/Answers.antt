use Rattle.std.proofs.lemmas.Result.{on_ok_weaker}
use Rattle.mini_context.specs.Found.{Found}
use Rattle.mini_context.proofs.Told.{body_by, caught_by, enclosed_by, exchanged_by_walk, fixed_by, given_by, homes_by, imported_by_walk, lexical_by, mentions_by, patterns_by, reached_by_walk, switched_by, written_by}
use Rattle.mini_context.proofs.scopes.survey_program.Goals as goal

pub returns : goal.returns
returns c =
    let n = c.args.symbols in
    let t = c.args.program.now in
    let blank = c.in_ok-open_tables.ensures in
    let old = c.open_tables.new.tables in
    let new = c.survey_node.new.tables in
    let top = c.at_top.result in
    let stands = c.at_top.ensures in
    on_ok_weaker {Q = Found new n t} _ (λ found. record {
      fixed_told = fixed_by n top t old.fixed.items new.fixed.items blank.fixed found.fixed;
      exchanged_told = exchanged_by_walk n top t old.exchanged.items new.exchanged.items stands blank.exchanged found.exchanged;
      reached_told = reached_by_walk n top t old.reached.items new.reached.items stands blank.reached found.reached;
      imported_told = imported_by_walk n top t old.imported.items new.imported.items stands blank.imported found.imported;
      patterns_told = patterns_by n top t old.patterns.items new.patterns.items blank.patterns found.patterns;
      lexical_told = lexical_by n top t old.lexical.items new.lexical.items stands blank.lexical found.lexical;
      switched_told = switched_by n top t old.switched.items new.switched.items blank.switched found.switched;
      caught_told = caught_by n top t old.caught.items new.caught.items blank.caught found.caught;
      mentioned_told = mentions_by n top t old.mentioned.items new.mentioned.items stands blank.mentioned found.mentions;
      written_told = written_by n top t old.written.items new.written.items stands blank.written found.written;
      given_told = given_by n top t old.given.items new.given.items stands blank.given found.values;
      homes_told = homes_by n top t old.homes.items new.homes.items stands blank.homes found.homes;
      enclosed_told = enclosed_by n top t old.enclosing new.enclosing blank.functions blank.numbers found.enclosing;
      this_told = body_by (λ f. f.binds_this) top t old.this_events.items new.this_events.items stands blank.this_events found.this_events;
      arguments_told = body_by (λ f. f.has_arguments) top t old.arguments.items new.arguments.items stands blank.arguments found.arguments;
    }) c.survey_node.ensures
