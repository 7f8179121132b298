-- The kinds of records and their numbers (document 01, "Records and refusals").
use Rattle.std.specs.Prelude.{ℕ, zero, suc}
use Rattle.lines.specs.declared.kind.Kind.{Kind}
use Rattle.lines.specs.declared.kind.Kind.TheVariants.{Coupler, Cnot, Rotation, X, Hadamard}

-- "kind 1 a CNOT", "kind 2 a rotation", "X is record kind 3"; 4 is a Hadamard, and a coupler is 0
abbrev pub number_of : Kind → ℕ
number_of Coupler = 0
number_of Cnot = 1
number_of Rotation = 2
number_of X = 3
number_of Hadamard = 4

-- the kind of a number; one that no kind has is written as a Hadamard
abbrev pub kind_of : ℕ → Kind
kind_of zero = Coupler
kind_of (suc zero) = Cnot
kind_of (suc (suc zero)) = Rotation
kind_of (suc (suc (suc zero))) = X
kind_of (suc (suc (suc (suc k)))) = Hadamard
