use Rattle.std.proofs.Common.{◌≡◌, ◌++◌, drop, string_bytes}
use Rattle.mini_texts.specs.Texts.{path_text}
use Rattle.mini_texts.proofs.printing.path_of.Given as goal

abbrev pub invariant-loop-place : goal.invariant-loop-place
invariant-loop-place l = string_bytes l.path ++ path_text (drop l.place-index l.place-items) ≡ path_text l.place-items
