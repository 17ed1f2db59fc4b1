-- The buffer keeps its length, and the stream has lost nothing.
use Rattle.std.proofs.Common.{◌≡◌, length, []}
use Rattle.std.specs.Io.KnownBytes.{Consumes}
use Rattle.stream.proofs.read_again.Given as goal

abbrev pub invariant-loop : goal.invariant-loop
invariant-loop g l = record {
  long : length l.buffer ≡ length l.initial.buffer;
  bytes : Consumes (g.R.Read.remaining l.initial.stream) (g.R.Read.remaining l.stream) [];
}
