-- The counting program prints the line about the whole text. Assumes nothing.
use Rattle.std.proofs.Common.{◌+◌, rules}
use Rattle.std.proofs.lemmas.Result.{on_ok_weaker}
use Rattle.streams.proofs.Known.{printed-for}
use Rattle.reading.specs.Limits.{most_bytes}
use Rattle.console.specs.Printed.{counted_text}
use Rattle.console.proofs.Enough.{counted-enough}
use Rattle.count.proofs.count.Goals as goal

pub returns : goal.returns
returns g c =
    let read = c.in_ok-n.ensures in
    on_ok_weaker c.write_counts_input.result
    (printed-for counted_text (most_bytes + 1) counted-enough (g.R.Read.remaining c.args.reader.now) _ _ _ c.in_ok-n.n c.read_full.new.buf (search rules) read.bytes read.bound.0 read.end)
    c.write_counts_input.ensures
