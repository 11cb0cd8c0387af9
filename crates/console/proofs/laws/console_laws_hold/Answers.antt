use Rattle.console.proofs.Requested.{written_read, read_written, read_once}
use Rattle.console.proofs.Answering.{answered}
use Rattle.console.proofs.laws.console_laws_hold.Goals as goal

pub returns : goal.returns
returns c = record { reading = record { written_read = written_read; read_written = read_written; read_once = read_once }; answering = answered }
