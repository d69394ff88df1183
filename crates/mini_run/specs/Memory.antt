-- A source and a sink in memory: which call fails, and how much any other moves.
use Rattle.std.specs.Prelude.{ℕ, ◌+◌, ◌-◌, ◌^◌, ◌<◌, min, max, List, drop, Contains}

-- the most bytes that a call moves, the numbers of the calls that fail, how many calls there were,
-- and how many failed
pub record Schedule : Type 0 where
  pub limit : ℕ
  pub fails : List ℕ
  pub calls : ℕ
  pub faults : ℕ

-- one more, where a u64 holds it
abbrev pub one_more : ℕ → ℕ
one_more n = min (n + 1) (2 ^ 64 - 1)

-- the next call's number is one of those that fail; a number is a u32
abbrev pub IsListed : Schedule → Type 0
IsListed s = (s.calls + 1 < 2 ^ 32) × Contains s.fails (s.calls + 1)

abbrev pub after_call : Schedule → Schedule
after_call s = record s { calls = one_more s.calls }

abbrev pub after_fault : Schedule → Schedule
after_fault s = record s { calls = one_more s.calls; faults = one_more s.faults }

-- how much a call moves that doesn't fail: of a piece so long, with so much there
abbrev pub moved : Schedule → ℕ → ℕ → ℕ
moved s piece there = min (max s.limit 1) (min piece there)

-- the bytes that a source has left
pub record Supply : Type 0 where
  pub left : List ℕ
  pub schedule : Schedule

abbrev pub after_read : Supply → ℕ → Supply
after_read s n = record { left = drop n s.left; schedule = after_call s.schedule }

abbrev pub after_failed_read : Supply → Supply
after_failed_read s = record s { schedule = after_fault s.schedule }

-- the bytes that a sink took, and for how many more it has room
pub record Store : Type 0 where
  pub written : List ℕ
  pub room : ℕ
  pub schedule : Schedule

abbrev pub after_failed_write : Store → Store
after_failed_write s = record s { schedule = after_fault s.schedule }
