-- What the program prints for a couplers' text that was read and for the circuit's is the whole text. Assumes nothing.
use Rattle.std.proofs.Common.{◌+◌, rules, take}
use Rattle.std.proofs.lemmas.Result.{on_ok_weaker}
use Rattle.streams.proofs.Known.{printed-for}
use Rattle.reading.specs.Limits.{most_bytes}
use Rattle.qasm_console.specs.Printed.{laid_texts}
use Rattle.qasm_console.proofs.Enough.{circuit-enough}
use Rattle.qasm.proofs.lay.Goals as goal

pub returns : goal.returns
returns g c =
    let read = c.in_ok-n.ensures in
    on_ok_weaker c.write_laid_input.result
    (printed-for (laid_texts (take c.args.listed c.args.listing.now)) (most_bytes + 1) (circuit-enough (take c.args.listed c.args.listing.now)) (g.R.Read.remaining c.args.reader.now) _ _ _ c.in_ok-n.n c.read_full.new.buf (search rules) read.bytes read.bound.0 read.end)
    c.write_laid_input.ensures
