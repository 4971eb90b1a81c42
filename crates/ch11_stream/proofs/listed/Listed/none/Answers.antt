use Rattle.std.proofs.Common.{refl}
use Rattle.ch11_stream.proofs.listed.Listed.none.Goals as goal

pub invariant_of-result : goal.invariant_of-result
invariant_of-result c =
    rw (c.in_ok-latest.ensures.items, c.none.ensures) record {
      counted = refl;
      sequences = λ channel. refl;
    }
