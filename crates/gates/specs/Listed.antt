-- Couplers as a job lists them, and gates that keep to them (document 01, "Records and refusals", "Islands").
use Rattle.std.specs.Prelude.{◌≡◌, ◌⊎◌, List, ℕ, ◌<◌, length, get_or}
use Rattle.gates.specs.declared.gate.Gate.{Gate}
use Rattle.gates.specs.declared.gate.Gate.TheVariants.{Cnot, Rotation, X, Bad}
use Rattle.gates.specs.Layout.{packed}

-- a coupler a,b is listed: "Couplers have no direction"
unfoldable pub Listed : List ℕ → ℕ → ℕ → Type 0
Listed couplers a b =
    (k : ℕ) × (k < length couplers) × ((get_or couplers k 0 ≡ packed 0 a b) ⊎ (get_or couplers k 0 ≡ packed 0 b a))

-- "every CNOT on a listed coupler", of one gate
unfoldable pub OnCoupler : List ℕ → Gate → Type 0
OnCoupler couplers (Cnot c t) = Listed couplers c t
OnCoupler couplers (Rotation q a) = Unit {0}
OnCoupler couplers (X q) = Unit {0}
OnCoupler couplers Bad = Unit {0}
