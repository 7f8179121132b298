-- `angles::Multiple::signed` meets its contract. Assumes nothing.
use mathlib.Core.Path.{sym, ap, ◌∙◌, subst}
use Prim.Native.Nat.{◌*◌, ◌/◌, ◌≤◌}
use mir.Syntax.{w64}
use mir.ValLaws.{to_z-of_z}
use Rattle.angles.specs.Units.{signed_of}
use Rattle.angles.proofs.Signs.{none_is, each-small}
use Rattle.angles.proofs.Multiple.signed.Goals as goal

pub returns-then-self-eq0 : goal.returns-then-self-eq0
returns-then-self-eq0 c = let s = c.args in none_is s.scale s.self.minus s.self.k s.self.over c.if-self-eq0.true

pub times-requires : goal.times-requires
times-requires c =
    let s = c.args in
    subst (λ m. m / s.self.over ≤ 65536) (sym c.pi.ensures) (each-small s.scale s.self.over)

pub returns : goal.returns
returns c =
    let p = c.pi in
    let s = c.args.self in
    to_z-of_z w64 c.times.result (record { sfits = c.times.type_inv }) ∙ c.times.ensures ∙ ap (λ m. signed_of s.minus (s.k * (m / s.over))) p.ensures
