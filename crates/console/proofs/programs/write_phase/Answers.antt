-- `console::programs::write_phase` meets its contract. Assumes nothing.
use Rattle.std.proofs.Common.{ℕ, [], ◌∷◌, arith, ◌∙◌, subst}
use lib.ListN.{replicate, length-replicate}
use Rattle.std.proofs.lemmas.Result.{on_ok_weaker}
use Rattle.std.specs.Io.KnownBytes.{Appends}
use Rattle.std.proofs.KnownBytes.{Appends-nil}
use Rattle.lines.specs.Lines.{line_text}
use Rattle.console.proofs.Choosing.{phase-none, phase-some}
use Rattle.console.proofs.Fronts.{front-is}
use Rattle.console.proofs.Whole.{text-whole, phase-fits}
use Rattle.console.proofs.programs.write_phase.Goals as goal

pub returns-then-phase-eq0 : goal.returns-then-phase-eq0
returns-then-phase-eq0 g c = subst (Appends _ _) (phase-none c.args.phase c.if-phase-eq0.true) (Appends-nil _)

pub returns : goal.returns
returns g c =
    let p = text-whole 44 (replicate 44 0) c.put_line-k.new.text _ (length-replicate {A = ℕ} 44 0) (line_text 112 (c.args.phase ∷ [])) (phase-fits c.args.phase (omega (arith, c.ranges.phase.fits))) c.put_line-k.ensures in
    on_ok_weaker c.write_all.result (subst (Appends _ _) (c.first.ensures ∙ front-is _ _ _ _ p.bytes p.memory ∙ phase-some c.args.phase c.if-phase-eq0.false)) c.write_all.ensures.bytes
