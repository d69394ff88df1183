use Rattle.std.proofs.Common.{refl, arith}
use Rattle.std.proofs.lemmas.Result.{on_ok_weaker}
use Rattle.mini_laws.specs.ScopeList.{seen_by_eval}
use Rattle.mini_laws.specs.Shared.{program_pattern_writes}
use Rattle.mini_context.proofs.Told.{from_blank}
use Rattle.mini_context.proofs.scopes.look_at.Goals as goal

pub returns : goal.returns
returns c =
    let n = c.args.symbols in
    let t = c.args.program.now in
    let found = c.in_ok-survey_program.ensures in
    let listed = c.in_ok-list_program.ensures in
    λ tops. on_ok_weaker c.mark_tops.result (λ marked. record {
      reads_told = c.in_ok-look.ensures.reads;
      writes_told = c.in_ok-look.ensures.writes;
      fixed_told = found.fixed_told;
      owners_told = listed.owners;
      strict_told = listed.strict;
      evals_told = listed.evals;
      this_told = found.this_told;
      arguments_told = found.arguments_told;
      writable_told = c.in_ok-room.ensures.marks;
      asking_told = c.in_ok-list_asking.ensures;
      whole = λ s h. omega (arith, c.in_ok-room.ensures.room s h, c.if-room-symbols.false);
      looked = record {
        tops_told = from_blank n _ _ _ refl marked;
        seen_told = from_blank n (seen_by_eval t) _ c.list_program.new.scopes.seen.items refl listed.seen;
        pattern_writes_told = from_blank n (program_pattern_writes t) _ c.list_program.new.pattern_writes.items refl listed.patterns;
        given_told = found.given_told;
        exchanged_told = found.exchanged_told;
        imported_told = found.imported_told;
        reached_told = found.reached_told;
        patterns_told = found.patterns_told;
        lexical_told = found.lexical_told;
        switched_told = found.switched_told;
        caught_told = found.caught_told;
        mentioned_told = found.mentioned_told;
        written_told = found.written_told;
        homes_told = found.homes_told;
        early_told = c.in_ok-pass_program.ensures;
        enclosed_told = found.enclosed_told;
      };
    }) c.mark_tops.ensures
