-- Tests in order (document 01, "Records and refusals", with request E7: laying tests 1 to 8 in that order; "reading tests 11, 10, 8; writing tests 1, 2, 3, 5 and then 8").
use Rattle.std.specs.Prelude.{eqb}
use Rattle.sets.specs.Pick.{pick}
use Rattle.verdicts.specs.Verdicts.{Verdict, number_of}

-- the first refusal decides
abbrev pub and_then : Verdict → Verdict → Verdict
and_then v w = pick (eqb (number_of v) 0) w v
