use Rattle.std.proofs.Common.{take}
use Rattle.lines.specs.Lines.{fields_text}
use Rattle.lines.specs.Page.{Puts}
use Rattle.lines.proofs.put.put_fitting.Given as goal

abbrev pub invariant-loop-v : goal.invariant-loop-v
invariant-loop-v l = Puts l.initial.page (fields_text (take l.v-index l.numbers)) l.page
