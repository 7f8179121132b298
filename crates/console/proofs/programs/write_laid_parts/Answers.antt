-- `console::programs::write_laid_parts` meets its contract: each part begins behind the one before, and so it ends. Assumes nothing.
use Rattle.std.proofs.Common.{arith, ap, ◌∙◌, refl, subst}
use Rattle.std.specs.Io.KnownBytes.{Appends}
use Rattle.circuit.specs.Phase.{phases}
use Rattle.console.proofs.Fronts.{front-is}
use Rattle.console.proofs.Partly.{next-later}
use Rattle.console.proofs.Going.{going-none, going-on, going-written, going-added}
use Rattle.console.proofs.programs.write_laid_parts.Goals as goal

pub loop-from-init : goal.loop-from-init
loop-from-init g c = going-none _ _ _ _ c.args.from c.args.phase _

pub loop-from-smaller : goal.loop-from-smaller
loop-from-smaller g c = let m = next-later _ _ c.loop-from.from _ _ refl c.loop-from-test.true c.lay_part-part.ensures.next in omega (arith, m, c.loop-from-test.true)

pub loop-from-preserved : goal.loop-from-preserved
loop-from-preserved g c =
    let p = c.lay_part-part.ensures.prints in
    let now = g.W.Write.contents c.loop-from.writer in
    let now' = g.W.Write.contents c.write_all.new.self in
    going-on _ _ _ _ _ _ _ now now' c.loop-from.from c.loop-from.phase _ _ c.loop-from.invariant c.loop-from-test.true
    (subst (Appends now now') (c.first.ensures ∙ front-is _ _ _ _ p.bytes p.memory) c.in_ok-write_all.ensures.bytes) c.lay_part-part.ensures.next
    (c.together-phase.ensures ∙ ap (phases c.loop-from.phase) c.lay_part-part.ensures.share)

pub returns-clause-bytes : goal.returns-clause-bytes
returns-clause-bytes g c = going-written _ _ _ _ _ _ _ _ c.loop-from.from c.loop-from.phase c.loop-from.invariant c.loop-from-test.false

pub returns-clause-phase : goal.returns-clause-phase
returns-clause-phase g c = going-added _ _ _ _ _ _ _ _ c.loop-from.from c.loop-from.phase c.loop-from.invariant c.loop-from-test.false
