-- `qasm_console::programs::write_laid_input` meets its contract: the front, the parts and the common phase are the whole text. Assumes nothing.
use Rattle.std.proofs.Common.{◌∙◌}
use Rattle.std.proofs.lemmas.Result.{on_ok_weaker}
use Rattle.console.proofs.Fronts.{front-is}
use Rattle.qasm_console.proofs.InParts.{texts-written}
use Rattle.qasm_console.proofs.programs.write_laid_input.Goals as goal

pub returns : goal.returns
returns g c =
    let p = c.end-k.ensures in
    on_ok_weaker c.write_all-2.result
    (λ a. texts-written c.begin-begun.ensures.begins_texts c.first.ensures c.first-2.ensures c.first-3.ensures _ _ _ _ _ _ c.in_ok-write_all.ensures.bytes c.in_ok-phase.ensures.bytes c.in_ok-phase.ensures.phase (c.first-4.ensures ∙ front-is _ _ _ _ p.bytes p.memory) a)
    c.write_all-2.ensures.bytes
