use Rattle.std.proofs.Common.{rules, length, ◌-◌}
use Rattle.std.proofs.lemmas.List.{places}
use Rattle.stream.proofs.Filling.{Consumes-filled}
use Rattle.stream.proofs.fill.Goals as goal

pub loop-filled-preserved : goal.loop-filled-preserved
loop-filled-preserved g c =
    let l = c.loop-filled in
    let room = length l.buffer - l.filled in record {
      long = search (rules, places);
      within = search (rules, places);
      bytes = Consumes-filled _ _ _ l.buffer c.read_again.new.buffer l.filled room c.in-Ok.n l.invariant.within c.in-Ok.ensures.within l.invariant.bytes c.in-Ok.ensures.bytes;
    }
