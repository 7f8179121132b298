-- The limits of a job's text (document 01, "The job text", "Records and refusals").
use Rattle.std.specs.Prelude.{ℕ}

-- 11: "text over 65,536 bytes"
abbrev pub most_bytes : ℕ
most_bytes = 65536

-- "On `q` lines, and in the first number of the others, at most 255"
abbrev pub most_first : ℕ
most_first = 255

-- "in the second at most 65,535"
abbrev pub most_second : ℕ
most_second = 65535
