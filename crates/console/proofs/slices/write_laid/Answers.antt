-- `console::slices::write_laid` meets its contract: the front and the parts are the whole text. Assumes nothing.
use Rattle.std.proofs.lemmas.Result.{on_ok_weaker, IfOk-weaker}
use Rattle.console.proofs.InParts.{text-written, text-shared}
use Rattle.console.proofs.slices.write_laid.Goals as goal

pub returns-clause-bytes : goal.returns-clause-bytes
returns-clause-bytes g c = on_ok_weaker c.write_laid_parts.result (λ a. text-written c.begin_text-begun.ensures c.first.ensures c.first-2.ensures c.first-3.ensures _ _ _ c.in_ok-write_all.ensures.bytes a) c.write_laid_parts.ensures.bytes

pub returns-clause-phase : goal.returns-clause-phase
returns-clause-phase g c = IfOk-weaker c.write_laid_parts.result _ _ (λ h e. text-shared c.begin_text-begun.ensures c.first.ensures c.first-2.ensures c.first-3.ensures h e) c.write_laid_parts.ensures.phase
