-- `emitting::emit::put_gate` meets its contract. Assumes nothing.
use mathlib.Core.Path.{sym, ◌∙◌}
use Rattle.emitting.proofs.Emitting.{emit-put, emit-at-one}
use Rattle.emitting.proofs.emit.put_gate.Goals as goal

pub returns : goal.returns
returns c =
    let a = c.args in
    (emit-put a.out.now _ a.at _ _ c.encode.ensures c.put.ensures.stored, c.put.ensures.next ∙ sym (emit-at-one _ _ _))
